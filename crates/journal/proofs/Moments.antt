-- The moments of an append.
use Rattle.std.proofs.Common.{ℕ, ◌+◌, ◌<◌, ◌≤◌, ◌^◌, List, [], ◌∷◌, length, arith}
use Rattle.disk_core.specs.Bytes.{Puts, Torn}
use Rattle.disk_core.specs.Images.{EachImage, SameImages, From}
use Rattle.disk_core.specs.Moments.{Elapses, LeavesOnly}
use Rattle.disk_core.proofs.Moments.{started, goes_on, joined}
use Rattle.disk_area.specs.declared.area.Area.{Area}
use Rattle.disk_area.specs.Windows.{window, InArea}
use Rattle.disk_area.proofs.Windows.{length-window}
use Rattle.disk_area.proofs.Steps.{stays, both, as_step}
use Rattle.journal.specs.Ready.{IsReady, Grows, MayGrow}
use Rattle.journal.proofs.Appends.{body, none_written, body_torn, torn_behind, both_put}

-- steps of an image on which the journal goes on
module _ (area : Area) (used : ℕ) (payload : List ℕ) (short : length payload < 2 ^ 32)
    (fits : used + 6 + length payload ≤ area.len) (s : List ℕ) (ready : IsReady area used s) where
  room : used + 6 + length payload ≤ length (window area s)
  room = omega (arith, fits, length-window area s ready.inside)

  pub nothing : InArea area (MayGrow used payload) s s
  nothing = stays area _ s (none_written used payload (window area s) short room ready.goes_on)

  pub first : (c : List ℕ) → InArea area (Torn (used + 1) (length (body payload))) s c
      → InArea area (MayGrow used payload) s c
  first c torn = as_step area _ _ s c torn
      (body_torn used payload (window area s) short room ready.goes_on (window area c))

  pub second : (b c : List ℕ) → InArea area (Puts (used + 1) (body payload)) s b → InArea area (Torn used 1) b c
      → InArea area (MayGrow used payload) s c
  second b c put torn = both area _ _ _ s b c put torn
      (torn_behind used payload (window area s) short room ready.goes_on (window area b) (window area c))

  pub done : (b c : List ℕ) → InArea area (Puts (used + 1) (body payload)) s b
      → InArea area (Puts used (1 ∷ [])) b c → InArea area (Grows used payload) s c
  done b c put gate = both area _ _ _ s b c put gate
      (both_put used payload (window area s) short room ready.goes_on (window area b) (window area c))

-- the device's calls, one after another
module _ {D : Type 0} (moment : D → ℕ) (left_since : D → ℕ → List ℕ → Type 0) (images : D → List ℕ
    → Type 0) (area : Area) (used : ℕ) (payload : List ℕ) (short : length payload < 2 ^ 32)
    (fits : used + 6 + length payload ≤ area.len) (old : D) (ready : EachImage (images old) (IsReady area used)) where
  abbrev pub Outcome : List ℕ → Type 0
  Outcome = From (images old) (InArea area (MayGrow used payload))

  pub reserved : (mid : D) → EachImage (left_since old (moment old)) (images old)
      → SameImages (images old) (images mid)
      → Elapses (moment old) (moment mid) (left_since old) (left_since mid) (images mid)
      → LeavesOnly moment left_since old mid Outcome
  reserved mid here same time =
      let stay : EachImage (images old) Outcome =
      λ c was. (c, was, nothing area used payload short fits c (ready c was)) in
      goes_on moment left_since old old mid Outcome _
      (started moment left_since old Outcome (λ c left. stay c (here c left))) time
      (λ c now. stay c (same.none_new c now))

  pub still_same : (mid : D) → EachImage (left_since old (moment old)) (images old)
      → SameImages (images old) (images mid)
      → Elapses (moment old) (moment mid) (left_since old) (left_since mid) (images mid)
      → LeavesOnly moment left_since old mid (images old)
  still_same mid here same time = goes_on moment left_since old old mid (images old) _
      (started moment left_since old (images old) here) time same.none_new

  pub body_written : (mid new : D) → SameImages (images old) (images mid) → LeavesOnly moment left_since old mid Outcome
      → LeavesOnly moment left_since mid new (From (images mid)
      (InArea area (Torn (used + 1) (length (body payload))))) → LeavesOnly moment left_since old new Outcome
  body_written mid new same so_far more =
      joined moment left_since old mid new Outcome _ so_far more
      (λ c from. let was = same.none_new from.0 from.1 in
      (from.0, was, first area used payload short fits from.0 (ready from.0 was) c from.2))

  pub gate_written : (mid new : D) (s : List ℕ) → images old s
      → EachImage (images mid) (InArea area (Puts (used + 1) (body payload)) s)
      → LeavesOnly moment left_since old mid Outcome
      → LeavesOnly moment left_since mid new (From (images mid) (InArea area (Torn used 1)))
      → LeavesOnly moment left_since old new Outcome
  gate_written mid new s was put so_far more =
      joined moment left_since old mid new Outcome _ so_far more
      (λ c from. (s, was, second area used payload short fits s (ready s was) from.0 c (put from.0 from.1) from.2))
