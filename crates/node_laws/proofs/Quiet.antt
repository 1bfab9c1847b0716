-- A change of transfers that touches none in processing and none processed.
use Rattle.node_laws.proofs.Names.{◌≡◌, refl, sym, ap, ◌∙◌, ℕ, ◌<◌, Bool, true, false, List, [], ◌∷◌, ◌++◌, arith, ◌==◌}
use Rattle.node_laws.proofs.Names.{◌&&◌, not, if◌then◌else◌, filter, map, option_map, IfSome, IsSomeAnd, Option, Some}
use Rattle.node_laws.proofs.Names.{None, AllByRecursion, and_parts, eqb-true, find-append, cluster_limit, Header, Phase}
use Rattle.node_laws.proofs.Names.{Transferring, Transferred, BeingProcessed, Processed, NodeState, Session, Transfer}
use Rattle.node_laws.proofs.Names.{is_in, some_passes, names_among, is_of, IsConsistent, IsPlannedWhole, is_processed}
use Rattle.node_laws.proofs.Names.{parts_in}
use Rattle.node_laws.proofs.Lists.{each-append, each-imp, each-filter, found-has, find-filter, any-filter, any-more}
use Rattle.node_laws.proofs.Lists.{found, found-is, only, changed, each-changed, all-changed, any-changed, KeepsNames}
use Rattle.node_laws.proofs.Lists.{found-changed}
use Rattle.node_laws.proofs.Sessions.{Held, Base, Busy, InProcessing, IsUnfinished, base-of, busy-of, busy-is, free-of}
use Rattle.node_laws.proofs.Sessions.{free-is, by-session}

-- a phase before processing
pub data IsEarly : Phase → Type 0 where
  transferring : IsEarly Transferring
  transferred : IsEarly Transferred

pub early-not_processed : (h : Header) → IsEarly h.phase → is_in Processed h ≡ false
early-not_processed h e = grind arith

pub early-not_processing : (h : Header) → IsEarly h.phase → is_in BeingProcessed h ≡ false
early-not_processing h e = grind arith

pub early-whole : (x : Session) (t : Transfer) → IsEarly t.header.phase → IsPlannedWhole x t t.header.phase
early-whole x t e = grind arith

-- what such a change keeps
pub record Quiet (next : ℕ) (ts us : List Transfer) : Type 0 where
  pub unprocessed : AllByRecursion (λ t. is_in Processed t.header ≡ false) ts
      → AllByRecursion (λ t. is_in Processed t.header ≡ false) us
  pub whole : (x : Session) → AllByRecursion (λ t. IsPlannedWhole x t t.header.phase) ts
      → AllByRecursion (λ t. IsPlannedWhole x t t.header.phase) us
  pub processed : (n : ℕ) → is_processed ts n ≡ true → is_processed us n ≡ true
  pub each : (o : Option ℕ) → IfSome o (λ n. n < next) → InProcessing o ts → InProcessing o us
  pub found_still : (owner n : ℕ) (t : Transfer) → found owner n ts ≡ Some t → is_in BeingProcessed t.header ≡ true
      → found owner n us ≡ Some t

-- the transfer in processing is found, in processing and below the next id
pub record Processes (next owner n : ℕ) (ts : List Transfer) (P : Transfer → Type 0) : Type 0 where
  pub transfer : Transfer
  pub is : found owner n ts ≡ Some transfer
  pub in_processing : is_in BeingProcessed transfer.header ≡ true
  pub below : n < next
  pub has : P transfer

pub processes : (next owner n : ℕ) (ts : List Transfer) (P : Transfer → Type 0) → Held next ts
    → InProcessing (Some n) ts → IsSomeAnd (found owner n ts) P → Processes next owner n ts P
processes next owner n ts P h k some = grind (arith, found-is, found-has)

module _ (s : NodeState) (next : ℕ) (us : List Transfer) (quiet : Quiet s.next_id s.transfers us) (held : Held next us)
  where
    abbrev after : NodeState
    after = record s { next_id = next; transfers = us }

    base-quiet : Base s → Base after
    base-quiet b = record { held = held; running = b.running; clients = b.clients; lines = b.lines; places = b.places }

    -- the search for the transfer in processing finds what it found
    same-found : (owner done n : ℕ) → Held s.next_id s.transfers → InProcessing (Some n) s.transfers
        → IsUnfinished owner done s.transfers n → found owner n us ≡ found owner n s.transfers
    same-found owner done n h k m =
        let p = processes s.next_id owner n s.transfers _ h k m in
        quiet.found_still owner n p.transfer p.is p.in_processing ∙ sym p.is

    still-unfinished : (owner done : ℕ) (o : Option ℕ) → Held s.next_id s.transfers → InProcessing o s.transfers
        → IfSome o (IsUnfinished owner done s.transfers) → IfSome o (IsUnfinished owner done us)
    still-unfinished owner x y h k m = grind (arith, same-found)

    below-next : (owner done : ℕ) (o : Option ℕ) → Held s.next_id s.transfers → InProcessing o s.transfers
        → IfSome o (IsUnfinished owner done s.transfers) → IfSome o (λ n. n < s.next_id)
    below-next owner done None h k m = tt
    below-next owner done (Some n) h k m = (processes s.next_id owner n s.transfers _ h k m).below

    same-parts : (x : Session) → Held s.next_id s.transfers → InProcessing x.processing s.transfers
        → IfSome x.processing (IsUnfinished x.owner x.units_done s.transfers) → parts_in after x ≡ parts_in s x
    same-parts x h k m = grind (arith, same-found)

    busy-quiet : (x : Session) → Base s → Busy s x → Busy after x
    busy-quiet x b v = grind (arith, same-parts, each-imp, below-next, still-unfinished, names_among, cluster_limit)

    -- a consistent state stays so
    pub quiet-consistent : IsConsistent s → IsConsistent after
    quiet-consistent v = grind (arith, base-of, by-session, free-of, free-is, base-quiet, busy-is, busy-quiet, busy-of)

-- a transfer more
pub quiet-started : (next : ℕ) (ts : List Transfer) (t : Transfer) → t.header.id ≡ next → IsEarly t.header.phase
    → Quiet next ts (ts ++ t ∷ [])
quiet-started next ts t e early =
    grind (arith, each-append, early-whole, any-more, early-not_processing, find-append, found)

-- a transfer's header or bytes, before processing
pub quiet-changed : (next client id : ℕ) (ts : List Transfer) (u : Transfer) (f : Transfer → Transfer) → Held next ts
    → KeepsNames f → found client id ts ≡ Some u → IsEarly u.header.phase → IsEarly (f u).header.phase
    → Quiet next ts (map (changed id f) ts)
quiet-changed next client id ts u f h k e early later = record {
  unprocessed =
      λ m. all-changed _ _ client id f ts u h.rise e m (λ t _ p. p) (λ _. early-not_processed (f u).header later);
  whole = λ x m. all-changed _ _ client id f ts u h.rise e m (λ t _ p. p) (λ _. early-whole x (f u) later);
  processed =
      λ n m. any-changed _ (changed id f) ts
      (each-changed (λ t v. ((v.header.id == n) && is_in Processed v.header)
      ≡ ((t.header.id == n) && is_in Processed t.header)) client id f ts u h.rise e (λ t _. refl)
      (ap (λ b. ((f u).header.id == n) && b) (early-not_processed (f u).header later)
      ∙ (never ((f u).header.id == n) (u.header.id == n)
      ∙ ap (λ b. (u.header.id == n) && b) (sym (early-not_processed u.header early))))) ∙ m;
  each = λ o low m. all-changed _ _ client id f ts u h.rise e m (λ t _ p. p)
      (λ p. early-not_processing (f u).header later
      ∙ (sym (early-not_processing u.header early) ∙ (p ∙ ap (λ n. some_passes (λ i. i == n) o) (sym (k.id u)))));
  found_still =
      λ owner n t m p. found-changed owner n id f k ts
      ∙ (ap (option_map (changed id f)) m ∙ ap Some (stays owner n t m p (t.header.id == id) refl));
}
  where
    never : (a b : Bool) → (a && false) ≡ (b && false)
    never a b = grind arith

    stays : (owner n : ℕ) (t : Transfer) → found owner n ts ≡ Some t → is_in BeingProcessed t.header ≡ true → (b : Bool)
        → (t.header.id == id) ≡ b → (if b then f t else t) ≡ t
    stays owner n t m p false q = refl
    stays owner n t m p true q =
        let same : t ≡ u = (found-has (λ v. is_of owner n v.header) _ ts t (only client id ts u h.rise e) m).1 q in
        let z : is_in BeingProcessed t.header ≡ false = ap (λ (v : Transfer). is_in BeingProcessed v.header) same
        ∙ early-not_processing u.header early in
        absurd (cc)

-- a transfer less, before processing
pub quiet-deleted : (next client id : ℕ) (ts : List Transfer) (u : Transfer) → Held next ts
    → found client id ts ≡ Some u → IsEarly u.header.phase → Quiet next ts (filter (λ t. not (t.header.id == id)) ts)
quiet-deleted next client id ts u h e early = record {
  unprocessed = each-filter _ _ ts;
  whole = λ x. each-filter _ _ ts;
  processed = λ n. any-filter _ _ ts (each-imp _ _ (λ t k. passes n t k) ts (only client id ts u h.rise e));
  each = λ o low. each-filter _ _ ts;
  found_still =
      λ owner n t m p. find-filter _ _
      (λ v q. ap (λ i. not (i == id)) (eqb-true _ _ (and_parts (v.header.id == n) (v.header.client == owner) q).0)
      ∙ apart owner n t m p) ts ∙ m;
}
  where
    apart : (owner n : ℕ) (t : Transfer) → found owner n ts ≡ Some t → is_in BeingProcessed t.header ≡ true
        → not (n == id) ≡ true
    apart owner n t m p = go (n == id) refl
      where
        go : (b : Bool) → (n == id) ≡ b → not b ≡ true
        go false q = refl
        go true q =
            let same = (found-has (λ v. is_of owner n v.header) _ ts t (only client id ts u h.rise e) m).1
            (ap (λ i. i == id) (found-is owner n ts t m).0 ∙ q) in
            let z : is_in BeingProcessed t.header ≡ false = ap (λ (v : Transfer). is_in BeingProcessed v.header) same
            ∙ early-not_processing u.header early in
            absurd (cc)

    passes : (n : ℕ) (t : Transfer) → ((t.header.id == id) ≡ true → t ≡ u)
        → ((t.header.id == n) && is_in Processed t.header) ≡ true → not (t.header.id == id) ≡ true
    passes n t k p = grind (arith, not, and_parts, is_in, early-not_processed)
