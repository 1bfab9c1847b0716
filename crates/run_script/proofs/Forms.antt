-- What every line satisfies holds of all lines that are read.
use Rattle.std.proofs.Common.{◌≡◌, ◌∙◌, ◌≤◌, ◌+◌, ℕ, Bool, true, false, cond, List, [], ◌∷◌, ◌++◌, Option, Some, None, Result, Ok, Err, length, map, refl, sym, ap, subst, arith}
use Rattle.std.specs.Prelude.{◌||◌, ◌&&◌, ◌==◌, not, filter, nat_le, nat_lt, is_some, is_none, if◌then◌else◌}
use Rattle.std.specs.List.{All, list_any}
use Rattle.std.proofs.lemmas.Bool.Decides.{nat_tests}
use Rattle.std.proofs.lemmas.Slice.Eq.{bytes_eq-Decides}
use Rattle.std.proofs.lemmas.List.{length-append, map_push}
use Rattle.std.proofs.lemmas.List.Elements.{All-nil, All-push, filter-append}
use Rattle.std.proofs.lemmas.List.Folds.{list_any-append}
use Rattle.disk_core.specs.declared.plan.FailKind.{FailKind}
use Rattle.disk_core.specs.declared.plan.FailKind.TheVariants.{Read, Write, Sync}
use Rattle.disk_mem.specs.Strikes.{same_kind}
use Rattle.range_set.specs.Ranges.{is_met, track_range}
use Rattle.ucm_base.specs.Limits.{cluster_limit, package_limit}
use Rattle.scenario.specs.declared.why.Why.{Why}
use Rattle.scenario.specs.declared.lines.ScriptLine.TheVariants.{Time, Installed, Happens, Fails as FailsOn, Attach}
use Rattle.scenario.specs.Attached.{attached_by}
use Rattle.scenario.specs.Blocks.{length_meant}
use Rattle.scenario.specs.Readings.{given}
use Rattle.scenario.specs.Scripts.{attached_with}
use Rattle.run_script.specs.declared.above.Above.{Above}
use Rattle.run_script.specs.declared.lines.FateLine.{FateLine}
use Rattle.run_script.specs.declared.lines.FaultLine.{FaultLine}
use Rattle.run_script.specs.declared.lines.InstalledLine.{InstalledLine}
use Rattle.run_script.specs.declared.lines.StopLine.{StopLine}
use Rattle.run_script.specs.declared.lines.Lines.{Lines}
use Rattle.run_script.specs.declared.read.RunLine.{RunLine}
use Rattle.run_script.specs.declared.read.RunLine.TheVariants.{Shared, Setup, Stop, Fault, Campaign, Cancel, Fate}
use Rattle.run_script.specs.Above.{added, attach_added, attached_to, has_installed, has_room, no_lines, on_node}
use Rattle.run_script.specs.InForm.{AreFates, AreFaults, AreInstalled, AreStops, AreInForm, IsCampaign, IsTime, IsClientLine, IsFateLine, IsFaultLine, IsInstalledLine, IsLine, IsNode, IsStopLine, are_apart, ranges_meet, same_cluster}
use Rattle.run_script.specs.Taken.{attempts_of, faults_of, stops_of}
use Rattle.run_script.proofs.Indexes.{fault-other}

abbrev Entry : Type 0
Entry = (ℕ × ℕ) × ℕ

either : (x y : Bool) → (x || y) ≡ false → (x ≡ false) × (y ≡ false)
either true y h = absurd (cc)
either false y h = (refl, h)

both : (x y : Bool) → (x && y) ≡ true → (x ≡ true) × (y ≡ true)
both true y h = (refl, h)
both false y h = absurd (cc)

unless : (x : Bool) → not x ≡ true → x ≡ false
unless true h = absurd (cc)
unless false h = refl

-- what isn't met doesn't meet
abbrev IsSymmetric : {A : Type 0} → (A → A → Bool) → Type 0
IsSymmetric {A} meet = (x y : A) → meet x y ≡ false → meet y x ≡ false

ranges-symmetric : IsSymmetric ranges_meet
ranges-symmetric x y h = grind (arith, nat_tests)

clusters-symmetric : IsSymmetric same_cluster
clusters-symmetric x y h =
    grind (
      arith,
      nat_tests,
      bytes_eq-Decides x.cluster.name y.cluster.name,
      bytes_eq-Decides y.cluster.name x.cluster.name,
    )

-- one element more, which meets none
apart-pushed : {A : Type 0} (meet : A → A → Bool) → IsSymmetric meet → (xs : List A) (x : A)
    → are_apart meet xs ≡ true → list_any (meet x) xs ≡ false → are_apart meet (xs ++ x ∷ []) ≡ true
apart-pushed meet symmetric [] x apart free = refl
apart-pushed meet symmetric (y ∷ ys) x apart free =
    let h = either (meet x y) _ free in
    let b = both (not (list_any (meet y) ys)) _ apart in
    let last : (list_any (meet y) ys || list_any (meet y) (x ∷ [])) ≡ false =
    rw (unless _ b.0, symmetric x y h.0) refl in
    let more : list_any (meet y) (ys ++ x ∷ []) ≡ false = list_any-append (meet y) ys (x ∷ []) ∙ last in
    ap (λ m. not m && are_apart meet (ys ++ x ∷ [])) more ∙ apart-pushed meet symmetric ys x b.1 h.1

-- the same of what lines take
taken-pushed : {A : Type 0} (f : A → Entry) (xs : List A) (x : A) → are_apart ranges_meet (map f xs) ≡ true
    → list_any (ranges_meet (f x)) (map f xs) ≡ false → are_apart ranges_meet (map f (xs ++ x ∷ [])) ≡ true
taken-pushed f xs x apart free =
    ap (are_apart ranges_meet) (map_push f xs x) ∙ apart-pushed ranges_meet ranges-symmetric (map f xs) (f x) apart
    free

abbrev on : ℕ → InstalledLine → Bool
on node l = l.node == node

room-pushed : (xs : List InstalledLine) (x : InstalledLine) → ((node : ℕ) → on_node xs node ≤ cluster_limit)
    → nat_lt (on_node xs x.node) cluster_limit ≡ true → (node : ℕ) → on_node (xs ++ x ∷ []) node ≤ cluster_limit
room-pushed xs x room below node = by-node (x.node == node) refl
  where
    by-node : (here : Bool) → (x.node == node) ≡ here → on_node (xs ++ x ∷ []) node ≤ cluster_limit
    by-node here e =
        let count : on_node (xs ++ x ∷ []) node ≡ on_node xs node + length (cond here (x ∷ []) []) =
        ap length (filter-append (on node) xs (x ∷ []))
        ∙ (length-append (filter (on node) xs) (filter (on node) (x ∷ []))
        ∙ ap (λ b. on_node xs node + length (cond b (x ∷ []) [])) e) in
        at-count here e count
      where
        at-count : (here : Bool) → (x.node == node) ≡ here
            → on_node (xs ++ x ∷ []) node ≡ on_node xs node + length (cond here (x ∷ []) [])
            → on_node (xs ++ x ∷ []) node ≤ cluster_limit
        at-count true e count =
            let same : x.node ≡ node = grind (arith, nat_tests) in
            let few = subst (λ n. nat_lt (on_node xs n) cluster_limit ≡ true) same below in
            grind (arith, nat_tests)
        at-count false e count = omega (arith, room node)

installed-pushed : (xs : List InstalledLine) (x : InstalledLine) → AreInstalled xs → IsNode x.node
    → has_installed xs x.node x.cluster.name ≡ false
    → (nat_lt (on_node xs x.node) cluster_limit && nat_le (length_meant x.cluster.block) package_limit) ≡ true
    → AreInstalled (xs ++ x ∷ [])
installed-pushed xs x are node free room =
    let b = both (nat_lt (on_node xs x.node) cluster_limit) _ room in
    let short : length_meant x.cluster.block ≤ package_limit = grind (arith, nat_tests) in
    record {
      each = All-push IsInstalledLine xs x are.each (node, short);
      once = apart-pushed same_cluster clusters-symmetric xs x are.once free;
      room = room-pushed xs x are.room b.0;
    }

stops-pushed : (xs : List StopLine) (x : StopLine) → AreStops xs → IsStopLine x
    → is_met (stops_of xs) x.disk x.write x.write ≡ false → AreStops (xs ++ x ∷ [])
stops-pushed xs x are line free =
    record {
      each = All-push IsStopLine xs x are.each line;
      apart = taken-pushed (λ s. track_range s.disk s.write s.write) xs x are.apart free;
    }

fates-pushed : (xs : List FateLine) (x : FateLine) → AreFates xs → IsFateLine x
    → is_met (attempts_of xs) x.node x.first x.last ≡ false → AreFates (xs ++ x ∷ [])
fates-pushed xs x are line free =
    record {
      each = All-push IsFateLine xs x are.each line;
      apart = taken-pushed (λ f. track_range f.node f.first f.last) xs x are.apart free;
    }

abbrev calls : FaultLine → Entry
calls f = track_range f.disk f.first f.last

abbrev of_kind : FailKind → List FaultLine → List FaultLine
of_kind kind fs = filter (λ f. same_kind f.kind kind) fs

one-kind : (a b : FailKind) → same_kind a b ≡ true → a ≡ b
one-kind Read Read h = refl
one-kind Read Write h = absurd (cc)
one-kind Read Sync h = absurd (cc)
one-kind Write Read h = absurd (cc)
one-kind Write Write h = refl
one-kind Write Sync h = absurd (cc)
one-kind Sync Read h = absurd (cc)
one-kind Sync Write h = absurd (cc)
one-kind Sync Sync h = refl

faults-pushed : (xs : List FaultLine) (x : FaultLine) → AreFaults xs → IsFaultLine x
    → is_met (faults_of x.kind xs) x.disk x.first x.last ≡ false → AreFaults (xs ++ x ∷ [])
faults-pushed xs x are line free =
    record { each = All-push IsFaultLine xs x are.each line; apart = λ k. by-kind k (same_kind x.kind k) refl }
  where
    by-kind : (k : FailKind) (same : Bool) → same_kind x.kind k ≡ same
        → are_apart ranges_meet (faults_of k (xs ++ x ∷ [])) ≡ true
    by-kind k true e =
        let free' = subst (λ j. is_met (faults_of j xs) x.disk x.first x.last ≡ false) (one-kind x.kind k e) free in
        let more : of_kind k (xs ++ x ∷ []) ≡ of_kind k xs ++ x ∷ [] =
        filter-append (λ f. same_kind f.kind k) xs (x ∷ []) ∙ ap (λ b. of_kind k xs ++ cond b (x ∷ []) []) e in
        ap (λ fs. are_apart ranges_meet (map calls fs)) more ∙ taken-pushed calls (of_kind k xs) x (are.apart k)
        free'
    by-kind k false e = ap (are_apart ranges_meet) (sym (fault-other k xs x e)) ∙ are.apart k

given-ok : {A : Type 0} (b : Bool) (x a : A) (why : Why) → given b x why ≡ Ok a → (b ≡ true) × (x ≡ a)
given-ok true x a why e = (refl, cc)
given-ok false x a why e = absurd (cc)

else-ok : {A : Type 0} (b : Bool) (why : Why) (r : Result A Why) (a : A) → (if b then Err why else r) ≡ Ok a
    → (b ≡ false) × (r ≡ Ok a)
else-ok true why r a e = absurd (cc)
else-ok false why r a e = (refl, e)

ok-ok : {A : Type 0} (x a : A) (r : Result A Why) → r ≡ Ok x → r ≡ Ok a → x ≡ a
ok-ok x a r h e = cc

-- lines in form, by those of each kind
form-of : (lines : Lines) → IsCampaign lines.campaign → IsTime lines.time → AreInstalled lines.installed
    → All (λ l. IsNode l.node) lines.fails → All IsClientLine lines.clients → AreStops lines.stops
    → AreFaults lines.faults → AreFates lines.fates → AreInForm lines
form-of lines k t i x c s u a =
    record { campaign = k; time = t; installed = i; fails = x; clients = c; stops = s; faults = u; fates = a }

abbrev Formed : Above → Type 0
Formed above = AreInForm above.lines

attach-kept : (n : ℕ) (above more : Above) (name : List ℕ) (len : ℕ) → AreInForm above.lines
    → attach_added n above name len ≡ Ok more → AreInForm more.lines
attach-kept n above more name len f e =
    at-sum (attached_with above.attached len) (else-ok (is_some (attached_by above.attachments name)) _ _ more e).1
  where
    at-sum : (sum : Option ℕ) → attached_to n above name len sum ≡ Ok more → AreInForm more.lines
    at-sum (Some all) h =
        subst Formed (ok-ok _ more _ refl h)
        (form-of _ f.campaign f.time f.installed f.fails f.clients f.stops f.faults f.fates)
    at-sum None h = absurd (cc)

-- nothing is in form
pub none_in_form : AreInForm no_lines
none_in_form = record {
  campaign = tt;
  time = tt;
  installed = record { each = All-nil IsInstalledLine; once = refl; room = λ node. omega arith };
  fails = All-nil _;
  clients = All-nil IsClientLine;
  stops = record { each = All-nil IsStopLine; apart = refl };
  faults = record { each = All-nil IsFaultLine; apart = λ kind. refl };
  fates = record { each = All-nil IsFateLine; apart = refl };
}

-- one line more is in form
pub form-kept : (n : ℕ) (above more : Above) (line : RunLine) → IsLine line → AreInForm above.lines
    → added n above line ≡ Ok more → AreInForm more.lines
form-kept n above more (Shared (Time t)) l f e =
    subst Formed (given-ok (is_none above.lines.time) _ more _ e).1
    (form-of _ f.campaign l f.installed f.fails f.clients f.stops f.faults f.fates)
form-kept n above more (Shared (Installed node c)) l f e =
    let once = else-ok (has_installed above.lines.installed node c.name) _ _ more e in
    let room = given-ok (has_room above node c) _ more _ once.1 in
    let installed = installed-pushed above.lines.installed _ f.installed l once.0 room.0 in
    subst Formed room.1 (form-of _ f.campaign f.time installed f.fails f.clients f.stops f.faults f.fates)
form-kept n above more (Shared (Happens d)) l f e =
    let clients = All-push IsClientLine above.lines.clients _ f.clients l in
    subst Formed (ok-ok _ more _ refl e)
    (form-of _ f.campaign f.time f.installed f.fails clients f.stops f.faults f.fates)
form-kept n above more (Shared (FailsOn node name)) l f e =
    let fails = All-push (λ x. IsNode x.node) above.lines.fails _ f.fails l in
    subst Formed (ok-ok _ more _ refl e)
    (form-of _ f.campaign f.time f.installed fails f.clients f.stops f.faults f.fates)
form-kept n above more (Shared (Attach name len)) l f e = attach-kept n above more name len f e
form-kept n above more (Setup d) l f e =
    let clients = All-push IsClientLine above.lines.clients _ f.clients l in
    subst Formed (ok-ok _ more _ refl e)
    (form-of _ f.campaign f.time f.installed f.fails clients f.stops f.faults f.fates)
form-kept n above more (Stop s) l f e =
    let free = given-ok _ _ more _ e in
    let stops = stops-pushed above.lines.stops s f.stops l (unless _ free.0) in
    subst Formed free.1 (form-of _ f.campaign f.time f.installed f.fails f.clients stops f.faults f.fates)
form-kept n above more (Fault x) l f e =
    let free = given-ok _ _ more _ e in
    let faults = faults-pushed above.lines.faults x f.faults l (unless _ free.0) in
    subst Formed free.1 (form-of _ f.campaign f.time f.installed f.fails f.clients f.stops faults f.fates)
form-kept n above more (Campaign number) l f e =
    subst Formed (given-ok (is_none above.lines.campaign) _ more _ e).1
    (form-of _ l f.time f.installed f.fails f.clients f.stops f.faults f.fates)
form-kept n above more (Cancel p) l f e =
    subst Formed (given-ok (is_none above.lines.cancel) _ more _ e).1
    (form-of _ f.campaign f.time f.installed f.fails f.clients f.stops f.faults f.fates)
form-kept n above more (Fate x) l f e =
    let free = given-ok _ _ more _ e in
    let fates = fates-pushed above.lines.fates x f.fates l (unless _ free.0) in
    subst Formed free.1 (form-of _ f.campaign f.time f.installed f.fails f.clients f.stops f.faults fates)
