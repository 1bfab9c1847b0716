-- An eligible or calm run succeeds, by what is shown of each node.
use Rattle.std.specs.Prelude.{◌≡◌, ◌≢◌, ℕ, ◌≤◌, Bool, true, false, not, ◌||◌, ◌==◌, cond, nat_le, length, List}
use Rattle.std.specs.Prelude.{[], ◌∷◌, filter, map, is_some, is_none, Option, Some, None}
use Rattle.std.specs.List.{AllByRecursion, list_any, list_all}
use Rattle.std.proofs.Common.{refl, ap, ◌∙◌, subst, arith}
use Rattle.std.proofs.lemmas.Bool.{and_parts, eq-eqb}
use Rattle.std.proofs.lemmas.Bool.Decides.{nat_tests}
use Rattle.ucm_base.specs.Limits.{transfer_limit}
use Rattle.ucm_base.specs.declared.ids.CallNo.{CallNo}
use Rattle.pm_types.specs.declared.calls.Call.{Call}
use Rattle.pm_types.specs.declared.calls.Call.TheVariants.{TransferStart}
use Rattle.pm_types.specs.declared.history.Entry.{Entry}
use Rattle.pm_types.specs.declared.history.Entry.TheVariants.{Numbered, Unit as UnitDone}
use Rattle.pm_types.specs.declared.replies.Reply.{Reply}
use Rattle.pm_types.specs.Histories.{Reading}
use Rattle.campaign_core.specs.declared.events.CampaignResult.{CampaignResult}
use Rattle.campaign_core.specs.declared.events.CampaignResult.TheVariants.{Successful, Failed, Cancelled}
use Rattle.campaign_core.specs.declared.events.Vote.{Vote}
use Rattle.node_laws.specs.Fit.{IsReading, IsInstalled}
use Rattle.world.specs.Law.{parts_in}
use Rattle.run_script.specs.declared.lines.Point.{Point}
use Rattle.run_claim.specs.Script.{Script, ClientLine, Deed, Calls, packages_of, installed_on, failing_on}
use Rattle.run_claim.specs.Script.{lines_on, is_named, every_node, named_nodes}
use Rattle.run_claim.specs.Ended.{Ended, history_of}
use Rattle.run_claim.specs.Masters.{epoch_of_begin}
use Rattle.sub_core.specs.Made.{has_none}
use Rattle.run_claim.specs.Evidence.{VoteIsShown, VotesAreShown, votes_on, InVotes, is_of_node}
use Rattle.run_claim.specs.Eligible.{starts_transfer, without_lines, is_eligible, is_calm, node_is_eligible}
use Rattle.run_claim.specs.Eligible.{all_apply, all_met}
use Rattle.run_claim.specs.FailedAttempts.{Counted}
use Rattle.run_claim.specs.Left.{result_of}
use Rattle.run_claim.specs.Lines.{EachIsMade, IsMadeBy}
use Rattle.run_claim.specs.Law.{NodeFits, MasterFits, MasterFitsIf, opening_of}
use Rattle.run_claim.specs.Calm.{AreWhole, is_foreign_start, CalmFollows}
use Rattle.run_claim.proofs.Closed.{in_line, each_node}
use Rattle.run_claim.proofs.Complete.{has-result}
use Rattle.run_claim.proofs.Calm.{blame-follows}
use Rattle.run_claim.proofs.CalmNode.{calm-node}
use Rattle.run_claim.proofs.Left.{each-in}

-- neither holds
or-parts : (a b : Bool) → (a || b) ≡ false → (a ≡ false) × (b ≡ false)
or-parts false false e = (refl, refl)
or-parts false true e = absurd (cc e)
or-parts true b e = absurd (cc e)

not-false : (b : Bool) → not b ≡ true → b ≡ false
not-false true e = absurd (cc e)
not-false false e = refl

-- whether some of these lines starts a transfer
abbrev start_any : List ClientLine → Bool
start_any lines = list_any (λ l. starts_transfer l.deed) lines

-- the line would make such an entry
abbrev Makes : ℕ → CallNo → ℕ → ClientLine → Type 0
Makes c at size l = (l.client ≡ c) × (l.deed ≡ Calls at (TransferStart size))

-- none does
never-makes : (c : ℕ) (at : CallNo) (size : ℕ) (lines : List ClientLine) → start_any lines ≡ false
    → AllByRecursion (λ l. Makes c at size l → ⊥) lines
never-makes c at size [] h = tt
never-makes c at size (l ∷ ls) h =
    let p = or-parts (starts_transfer l.deed) _ h in
    (λ m. cc (subst (λ (d : Deed). starts_transfer d ≡ false) m.1 p.0), never-makes c at size ls p.1)

-- an entry of such lines isn't another client's start
one-start : (lines : List ClientLine) (c : ℕ) (at : CallNo) (call : Call) (r : Reply) (m : Option ℕ)
    → start_any lines ≡ false → IsMadeBy lines (Numbered c at call r) m
    → is_foreign_start (Numbered c at call r) ≡ false
one-start lines c at (TransferStart size) r None h made = ap not (eq-eqb c 0 made)
one-start lines c at (TransferStart size) r (Some n) h made =
    absurd (in_line (Makes c at size) lines n (never-makes c at size lines h) made)
one-start lines c at _ r m h made = refl

no-start : (lines : List ClientLine) (es : List Entry) (makers : List (Option ℕ)) → start_any lines ≡ false
    → EachIsMade lines es makers → list_any is_foreign_start es ≡ false
no-start lines [] makers none made = refl
no-start lines (e ∷ es) [] none made = absurd made
no-start lines (UnitDone passed after ∷ es) (m ∷ ms) none made = no-start lines es ms none made.1
no-start lines (Numbered c at call r ∷ es) (m ∷ ms) none made =
    ap (λ (b : Bool). b || list_any is_foreign_start es) (one-start lines c at call r m none made.0)
    ∙ no-start lines es ms none made.1

-- what holds of those that pass, and of those of a node
passing : {A : Type 0} (P : A → Type 0) (p : A → Bool) (xs : List A) → AllByRecursion P (filter p xs)
    → AllByRecursion (λ x. p x ≡ true → P x) xs
passing P p [] h = tt
passing {A} P p (x ∷ xs) h = go (p x) refl h (passing P p xs)
  where
    go : (b : Bool) → p x ≡ b → AllByRecursion P (cond b (x ∷ filter p xs) (filter p xs))
        → (AllByRecursion P (filter p xs) → AllByRecursion (λ y. p y ≡ true → P y) xs)
        → (p x ≡ true → P x) × AllByRecursion (λ y. p y ≡ true → P y) xs
    go true e h rec = (λ f. h.0, rec h.1)
    go false e h rec = ((λ f. absurd (cc (e, f))), rec h)

each-of : {A : Type 0} (p : A → Bool) (xs : List A) → list_all p xs ≡ true → AllByRecursion (λ x. p x ≡ true) xs
each-of p [] h = tt
each-of p (x ∷ xs) h = let q = and_parts (p x) _ h in (q.0, each-of p xs q.1)

-- some pass where what comes of them isn't empty
any-of : {A B : Type 0} (f : A → B) (p : A → Bool) (xs : List A) → map f (filter p xs) ≢ [] → list_any p xs ≡ true
any-of f p [] h = absurd (h refl)
any-of {A} {B} f p (x ∷ xs) h = go (p x) h (any-of f p xs)
  where
    go : (b : Bool) → map f (cond b (x ∷ filter p xs) (filter p xs)) ≢ []
        → (map f (filter p xs) ≢ [] → list_any p xs ≡ true) → (b || list_any p xs) ≡ true
    go true h rec = refl
    go false h rec = rec h

-- none passes among fewer
fewer : {A : Type 0} (p q : A → Bool) (xs : List A) → list_any p xs ≡ false → list_any p (filter q xs) ≡ false
fewer p q [] h = refl
fewer {A} p q (x ∷ xs) h = go (q x) (fewer p q xs (or-parts (p x) _ h).1)
  where
    go : (b : Bool) → list_any p (filter q xs) ≡ false
        → list_any p (cond b (x ∷ filter q xs) (filter q xs)) ≡ false
    go true rec = ap (λ (c : Bool). c || list_any p (filter q xs)) (or-parts (p x) _ h).0 ∙ rec
    go false rec = rec

le-eight : (n : ℕ) → nat_le n transfer_limit ≡ true → n ≤ transfer_limit
le-eight n e = grind (arith, nat_tests, e)

is-none : (o : Option Point) → is_none o ≡ true → o ≡ None
is-none None e = refl
is-none (Some p) e = absurd (cc e)

-- a script without lines that is eligible is calm
no-lines : (lines : List ClientLine) → has_none lines ≡ true → start_any lines ≡ false
no-lines [] h = refl
no-lines (l ∷ ls) h = absurd (cc h)

eligible-calm : (read : Reading) (s : Script) → is_eligible read s ≡ true → is_calm read s ≡ true
eligible-calm read s h =
    let a = and_parts (has_none s.lines) _ h in
    rw (no-lines s.lines a.0) a.1

either-calm : (read : Reading) (s : Script) → (is_eligible read s || is_calm read s) ≡ true → is_calm read s ≡ true
either-calm read s h = go (is_eligible read s) (is_calm read s) (eligible-calm read s) h
  where
    go : (a b : Bool) → (a ≡ true → b ≡ true) → (a || b) ≡ true → b ≡ true
    go true b f h = f refl
    go false b f h = h

-- what a calm script is
record CalmParts (read : Reading) (s : Script) : Type 0 where
  starts : start_any s.lines ≡ false
  fates : has_none s.fates ≡ true
  cancel : s.cancel ≡ None
  nodes : AllByRecursion (λ n. node_is_eligible read (without_lines s) n ≡ true) (named_nodes s)

calm-parts : (read : Reading) (s : Script) → is_calm read s ≡ true → CalmParts read s
calm-parts read s calm =
    let parts = and_parts (not (start_any s.lines)) _ calm in
    let a = and_parts (has_none s.fates) _ parts.1 in
    let b = and_parts (is_none s.cancel) _ (and_parts (has_none s.plans) _ a.1).1 in
    record {
      starts = not-false _ parts.0;
      fates = a.0;
      cancel = is-none s.cancel b.0;
      nodes = each-of (node_is_eligible read (without_lines s)) (named_nodes s) b.1;
    }

-- what holds of the named nodes holds of each node that steps name
at-node : (s : Script) (P : ℕ → Type 0) → AllByRecursion P (named_nodes s) → (n : ℕ) → 1 ≤ n → n ≤ 8
    → packages_of s n ≢ [] → P n
at-node s P h n low high some =
    each_node (λ n. is_named s n ≡ true → P n) (passing P (is_named s) every_node h) n low high
    (any-of (λ step. step.bytes) (λ step. step.node == n) s.steps some)

-- no vote of a calm script's node is the node's own no
module _ (read : Reading) (reading : IsReading read) (s : Script) (low : 1 ≤ s.campaign) (counted : ℕ → Counted)
    (e : Ended) (n : ℕ) (some : packages_of s n ≢ []) (starts : start_any s.lines ≡ false)
    (installed : IsInstalled (installed_on s n)) (whole : AreWhole read (packages_of s n))
    (good : node_is_eligible read (without_lines s) n ≡ true) (node : NodeFits read s counted e n) where
  -- no other client starts a transfer
  quiet : list_any is_foreign_start (history_of e.nodes n) ≡ false
  quiet = no-start (lines_on s n) (history_of e.nodes n) node.lines.account.makers
      (fewer (λ l. starts_transfer l.deed) (λ l. l.node == n) s.lines starts) node.lines.each

  -- the node is named, so the master's entries fit
  master : MasterFits read s n e.list (history_of e.nodes n)
  master =
      let named = any-of (λ step. step.bytes) (λ step. step.node == n) s.steps some in
      subst (λ (b : Bool). MasterFitsIf b read s n e.list (history_of e.nodes n)) named node.master

  -- by the law of one node
  not-shown : (epoch : ℕ) (v : Vote) → is_of_node v ≡ true
      → VoteIsShown read (opening_of s n) s.campaign epoch (packages_of s n) (history_of e.nodes n) v → ⊥
  not-shown epoch v own shown =
      let few = and_parts (nat_le (length (packages_of s n)) transfer_limit) _ good in
      let apply = and_parts (all_apply (installed_on s n) (parts_in read (packages_of s n))) _ few.1 in
      let met = and_parts (all_met (installed_on s n) (parts_in read (packages_of s n))) _ apply.1 in
      calm-node read reading (installed_on s n) installed (packages_of s n) some (le-eight _ few.0) whole apply.0 met.0
      (failing_on s n) met.1 s.campaign epoch low (history_of e.nodes n) node.legal.legal node.legal.faithful
      (ap not quiet) master.decision.waits v own shown

  not-voted : (v : Vote) → InVotes v (votes_on n e.list) → is_of_node v ≡ true → ⊥
  not-voted v voted own = go (epoch_of_begin 0 e.list) master.votes
    where
      go : (o : Option ℕ) → VotesAreShown o read (opening_of s n) s.campaign (packages_of s n) (history_of e.nodes n)
          (votes_on n e.list) → ⊥
      go None votes = subst (InVotes v) votes voted
      go (Some epoch) votes = not-shown epoch v own (each-in _ v (votes_on n e.list) votes voted)

-- an eligible or calm run succeeds
pub calm-follows : CalmFollows
calm-follows read reading s low either installed counted quiet e fits there cancel open_ nodes =
    go (result_of e.list) refl (has-result s counted e there quiet calm.fates open_)
  where
    calm : CalmParts read s
    calm = calm-parts read s (either-calm read s either)

    no-vote : (n : ℕ) → 1 ≤ n → n ≤ 8 → packages_of s n ≢ [] → (v : Vote) → InVotes v (votes_on n e.list)
        → is_of_node v ≡ true → ⊥
    no-vote n one eight some v =
        not-voted read reading s low counted e n some calm.starts (installed n one eight).0 (installed n one eight).1
        (at-node s (λ n. node_is_eligible read (without_lines s) n ≡ true) calm.nodes n one eight some)
        (at-node s (NodeFits read s counted e) nodes n one eight some) v

    fails : (r : CampaignResult) → result_of e.list ≡ Some r → r ≢ Successful → ⊥
    fails r q f =
        let h = blame-follows s counted e fits there cancel quiet calm.fates calm.cancel r q f in
        no-vote h.0 h.1 h.2 h.3 h.4 h.5 h.6

    go : (o : Option CampaignResult) → result_of e.list ≡ o → is_some o ≡ true → result_of e.list ≡ Some Successful
    go None q h = absurd (cc h)
    go (Some Successful) q h = q
    go (Some Failed) q h = absurd (fails Failed q (λ f. cc f))
    go (Some Cancelled) q h = absurd (fails Cancelled q (λ f. cc f))
