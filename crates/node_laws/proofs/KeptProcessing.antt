-- Processing a package: the call that begins it, a unit of it, its last unit, and the call that stops it.
use Rattle.node_laws.proofs.Names.{◌≡◌, refl, sym, subst, ap, ◌∙◌, ℕ, ◌+◌, ◌<◌, ◌≤◌, Bool, true, false, List, [], ◌∷◌}
use Rattle.node_laws.proofs.Names.{◌++◌, length, arith, ◌==◌, ◌&&◌, ◌||◌, nat_lt, filter, find, map}
use Rattle.node_laws.proofs.Names.{Option, Some, None, list_any, AllByRecursion, and_parts, eqb-true, eq-eqb, lt-ltb}
use Rattle.node_laws.proofs.Names.{both_true, map-append, append-nil, sum_by-cons, filter-append, cluster_limit}
use Rattle.node_laws.proofs.Names.{all_differ, Bytes, Change, Part, Phase, Transferred, BeingProcessed, Processed}
use Rattle.node_laws.proofs.Names.{Status, Ready, Processing, NodeState, Session, Transfer, is_in, some_passes}
use Rattle.node_laws.proofs.Names.{cluster_of, changes_of, units_of, all_units, names_among, is_of, parts_of, in_phase}
use Rattle.node_laws.proofs.Names.{Reading, IsSound, IsWholeFromTransferred, IsPlannedWhole, is_processed, PartsApply}
use Rattle.node_laws.proofs.Names.{processed, parts_of_id, IsFit, IsRead}
use Rattle.node_laws.proofs.Lists.{each-append, each-imp, found-has, found, found-is, changed, each-changed}
use Rattle.node_laws.proofs.Lists.{all-changed, KeepsNames, is-processing}
use Rattle.node_laws.proofs.NameLists.{names-of-parts}
use Rattle.node_laws.proofs.Sessions.{Held, Base, Busy, InProcessing, base-of, busy-is}
use Rattle.node_laws.proofs.KeptTransfers.{held-changed}

-- a transfer in another phase
abbrev pub rephased : Phase → Transfer → Transfer
rephased p t = record t { header = in_phase p t.header }

pub names-kept : (p : Phase) → KeepsNames (rephased p)
names-kept p = record { id = λ _. refl; client = λ _. refl }

-- a phase from Transferred on
pub data IsLate : Phase → Type 0 where
  late_transferred : IsLate Transferred
  being_processed : IsLate BeingProcessed
  done : IsLate Processed

-- in each of them the same is said of a transfer
pub whole-in : (t : Transfer) (p q : Phase) → IsLate p → IsLate q → IsWholeFromTransferred t p
    → IsWholeFromTransferred t q
whole-in t p q a b h = grind arith

read-in : (read : Reading) (t : Transfer) (p q : Phase) → IsLate p → IsLate q → IsRead read t p → IsRead read t q
read-in read t p q a b h = grind arith

-- the transfers with one of them in another late phase
module _ (s : NodeState) (client id : ℕ) (u : Transfer) (p : Phase) (q : Phase) (e : found client id s.transfers
    ≡ Some u) (phase : u.header.phase ≡ p) (a : IsLate p) (b : IsLate q) where
  abbrev pub others : List Transfer
  others = map (changed id (rephased q)) s.transfers

  pub held-rephased : Held s.next_id s.transfers → Held s.next_id others
  held-rephased h = held-changed s.next_id client id s.transfers u (rephased q) h (names-kept q) e (λ _. refl)
      (λ k. record {
        bytes = k.bytes;
        size = k.size;
        counter = k.counter;
        whole = whole-in u p q a b
            (subst (IsWholeFromTransferred u) phase k.whole);
        id = k.id;
      })

  pub read-rephased : (read : Reading) → Held s.next_id s.transfers
      → AllByRecursion (λ t. IsRead read t t.header.phase) s.transfers
      → AllByRecursion (λ t. IsRead read t t.header.phase) others
  read-rephased read h =
      λ m. all-changed _ _ client id (rephased q) s.transfers u h.rise e m (λ t _ k. k)
      (λ k. read-in read u p q a b (subst (IsRead read u) phase k))

  pub base-rephased : (x : Session) (st : Status) → Base s → Base (record s { status = st; transfers = others })
  base-rephased x st v =
      record {
        held = held-rephased v.held;
        running = v.running;
        clients = v.clients;
        lines = v.lines;
        places = v.places;
      }

  -- no other transfer changes
  pub in-other : (o o' : Option ℕ) → Held s.next_id s.transfers → InProcessing o s.transfers
      → ((t : Transfer) → (t.header.id == id) ≡ false
      → some_passes (λ n. n == t.header.id) o ≡ some_passes (λ n. n == t.header.id) o')
      → is_in BeingProcessed (rephased q u).header ≡ some_passes (λ n. n == u.header.id) o' → InProcessing o' others
  in-other o o' h each other own =
      all-changed _ _ client id (rephased q) s.transfers u h.rise e each (λ t n k. k ∙ other t n) (λ _. own)

-- units are at least one each
pub some-units : (parts : List (Part Bytes)) → 0 < length parts → 0 < all_units parts
some-units [] h = absurd (omega (arith, h))
some-units (part ∷ parts) h =
    let each : all_units (part ∷ parts) ≡ units_of (length part.payload) + all_units parts = sum_by-cons _ part parts in
    let one : 1 ≤ units_of (length part.payload) = omega arith in
    omega (arith, each, one)

-- a unit that isn't the last
pub more-fit : (read : Reading) (s : NodeState) (x : Session) (id : ℕ) → IsFit read s
    → Busy (record s { status = Processing }) (record x { processing = Some id })
    → nat_lt (x.units_done + 1) (all_units (parts_of_id s x id)) ≡ true
    → IsFit read
    (record s {
      status = Processing;
      session = Some
          (record x { processing = Some id; units_done = x.units_done + 1 });
    })
more-fit read s x id fit v more = grind arith

filter-none : {X : Type 0} (p : X → Bool) (xs : List X) → AllByRecursion (λ x. p x ≡ false) xs → filter p xs ≡ []
filter-none p [] h = refl
filter-none p (x ∷ xs) h = rw h.0 (filter-none p xs h.1)

filter-every : {X : Type 0} (p : X → Bool) (xs : List X) → AllByRecursion (λ x. p x ≡ true) xs → filter p xs ≡ xs
filter-every p [] h = refl
filter-every p (x ∷ xs) h = rw h.0 (ap (λ ys. x ∷ ys) (filter-every p xs h.1))

each-changes_of : (P : Change Bytes → Type 0) (id : ℕ) (parts : List (Part Bytes))
    → ((part : Part Bytes) → P (record { transfer = id; part = part })) → AllByRecursion P (changes_of id parts)
each-changes_of P id [] f = tt
each-changes_of P id (part ∷ parts) f = (f part, each-changes_of P id parts f)

-- the parts of changes
pub parts-of-changes : (id : ℕ) (parts : List (Part Bytes)) → map (λ change. change.part) (changes_of id parts) ≡ parts
parts-of-changes id [] = refl
parts-of-changes id (part ∷ parts) = ap (λ ps. part ∷ ps) (parts-of-changes id parts)

-- a processed transfer isn't the one in processing
not-planned : (id n : ℕ) (ts : List Transfer) → InProcessing (Some id) ts → is_processed ts n ≡ true → (n == id) ≡ false
not-planned id n [] h k = absurd (cc)
not-planned id n (t ∷ ts) h k = grind (arith, eqb-true, not-planned id n ts h.1)

-- a test that holds stays so where it does at each transfer
any-still : (p : Transfer → Bool) (g : Transfer → Transfer) (ts : List Transfer)
    → AllByRecursion (λ t. p t ≡ true → p (g t) ≡ true) ts → list_any p ts ≡ true → list_any p (map g ts) ≡ true
any-still p g [] h k = k
any-still p g (t ∷ ts) h k = grind (arith, any-still p g ts h.1)

any-found : (p q : Transfer → Bool) (g : Transfer → Transfer) (ts : List Transfer) (u : Transfer) → find q ts ≡ Some u
    → p (g u) ≡ true → list_any p (map g ts) ≡ true
any-found p q g [] u e h = absurd (cc)
any-found p q g (t ∷ ts) u e h = grind (arith, any-found p q g ts u)

-- the session after the last unit of a package
abbrev later : Session → ℕ → List (Part Bytes) → Session
later x id parts =
    record x { changes = x.changes ++ changes_of id parts; processing = None; units_done = x.units_done + 1 }

-- the last unit of a package
pub last-fit : (read : Reading) (s : NodeState) (x : Session) (id : ℕ) (u : Transfer) → IsFit read s
    → Busy (record s { status = Processing }) (record x { processing = Some id })
    → found x.owner id s.transfers ≡ Some u → IsFit read (processed s x id u.parts)
last-fit read s x id u fit v e = record {
  consistent =
      busy-is (record s { status = Ready; transfers = us }) (later x id u.parts)
      (base-rephased s x.owner id u BeingProcessed Processed e phase being_processed done x Ready b)
      (record {
        due = v.due;
        runs = v.runs;
        changes = record {
          differ =
              ap all_differ
              (sym (ap (map cluster_of) (append-nil _) ∙ names-of-parts (x.changes ++ changes_of id u.parts)))
              ∙ subst (λ ps. all_differ (map cluster_of ps) ≡ true) same v.applies.differ;
          whole =
              all-changed _ _ x.owner id (rephased Processed) s.transfers u b.held.rise e v.changes.whole
              (λ t n. still t t.header.phase n) (λ _. now);
          processed = each-append _ x.changes _
              (each-imp _ _
              (λ change. any-still _ (changed id (rephased Processed)) s.transfers
              (each-changed (λ t w. ((t.header.id == change.transfer) && is_in Processed t.header) ≡ true
              → ((w.header.id == change.transfer) && is_in Processed w.header) ≡ true) x.owner id
              (rephased Processed) s.transfers u b.held.rise e (λ t _ k. k)
              (λ k. both_true (and_parts (u.header.id == change.transfer) (is_in Processed u.header) k).0 refl)))
              x.changes v.changes.processed)
              (each-changes_of (λ change. is_processed us change.transfer ≡ true) id u.parts
              (λ _. any-found _ _ (changed id (rephased Processed)) s.transfers u e (rw (own-id, own-id) refl)));
          not_empty =
              more-than-none x.changes u.parts
              (whole-in u BeingProcessed Processed being_processed done
              (subst (IsWholeFromTransferred u) phase sound.whole)).1;
        };
        applies = subst (PartsApply x.saved) same v.applies;
        each =
            in-other s x.owner id u BeingProcessed Processed e phase being_processed done (Some id) None b.held v.each
            (λ t n. other-id t n) refl;
        working = refl;
        unfinished = tt;
        leaves = tt;
        outcome = v.outcome;
        names =
            subst (λ parts. length (names_among {D = Bytes} (s.running ++ x.saved) [] parts) ≤ cluster_limit)
            same v.names;
        saved = v.saved;
      });
  read_parts =
      read-rephased s x.owner id u BeingProcessed Processed e phase being_processed done read b.held fit.read_parts;
}
  where
    b : Base s
    b = base-of s fit.consistent

    us : List Transfer
    us = map (changed id (rephased Processed)) s.transfers

    phase : u.header.phase ≡ BeingProcessed
    phase =
        is-processing u.header ((found-has (λ t. is_of x.owner id t.header) _ s.transfers u v.each e).1
        ∙ eq-eqb _ _ (sym (found-is x.owner id s.transfers u e).0))

    sound : IsSound s.next_id u
    sound = (found-has (λ t. is_of x.owner id t.header) _ s.transfers u b.held.each e).1

    own-id : (u.header.id == id) ≡ true
    own-id = eq-eqb _ _ (found-is x.owner id s.transfers u e).0

    other-id : (t : Transfer) → (t.header.id == id) ≡ false → (id == t.header.id) ≡ false
    other-id t n = grind arith

    same : map (λ change. change.part) x.changes ++ parts_of (found x.owner id s.transfers)
        ≡ map (λ change. change.part) (x.changes ++ changes_of id u.parts) ++ []
    same = grind (arith, parts_of, parts-of-changes, map-append, changes_of, append-nil)

    still : (t : Transfer) (p : Phase) → (t.header.id == id) ≡ false → IsPlannedWhole x t p
        → IsPlannedWhole (later x id u.parts) t p
    still t Processed n h = (
      h.0,
      filter-append _ x.changes _
          ∙ (ap (λ cs. filter (λ change. change.transfer == t.header.id) x.changes ++ cs)
          (filter-none _ _
          (each-changes_of (λ change. (change.transfer == t.header.id) ≡ false) id u.parts (λ _. other-id t n)))
          ∙ (append-nil _ ∙ h.1)),
    )
    still t _ n h = tt

    now : IsPlannedWhole (later x id u.parts) (rephased Processed u) Processed
    now =
        let own = (found-is x.owner id s.transfers u e).0 in
        let none = filter-none (λ (change : Change Bytes). change.transfer == id) x.changes
        (each-imp _ _ (λ change. not-planned id change.transfer s.transfers v.each) x.changes v.changes.processed)
        in
        let all = filter-every (λ (change : Change Bytes). change.transfer == id) (changes_of id u.parts)
        (each-changes_of (λ change. (change.transfer == id) ≡ true) id u.parts (λ _. eq-eqb id id refl)) in (
          (found-is x.owner id s.transfers u e).1,
          rw own (filter-append _ x.changes _
              ∙ (ap (λ cs. cs ++ filter (λ change. change.transfer == id) (changes_of id u.parts)) none ∙ all)),
        )

    more-than-none : (changes : List (Change Bytes)) (parts : List (Part Bytes)) → 0 < length parts
        → (nat_lt 0 (length (changes ++ changes_of id parts)) || false) ≡ true
    more-than-none [] [] h = absurd (omega (arith, h))
    more-than-none [] (part ∷ parts) h = rw (lt-ltb 0 (length (changes_of id (part ∷ parts))) (omega arith)) refl
    more-than-none (c ∷ cs) parts h = rw (lt-ltb 0 (length (c ∷ cs ++ changes_of id parts)) (omega arith)) refl
