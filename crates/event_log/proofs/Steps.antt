-- What the steps of journal and halves do to what an image stands for.
use Rattle.std.proofs.Common.{add-zero, ◌≡◌, ◌≢◌, ◌⊎◌, inl, inr, ⊎_elim, ℕ, ◌+◌, ◌<◌, List, [], ◌∷◌, ◌++◌, length, drop, get_or, Option, Some, is_some, refl, sym, ◌∙◌, ap, subst, arith}
use Rattle.std.specs.Option.{IfSome}
use Rattle.std.proofs.lemmas.List.{get_or-take, get_or-drop, get_or_default}
use Rattle.disk_core.specs.Bytes.{Torn}
use Rattle.disk_core.specs.Images.{EachImage, From}
use Rattle.disk_area.specs.declared.area.Area.{Area}
use Rattle.disk_area.specs.Windows.{window, IsInside, InArea}
use Rattle.disk_area.proofs.Windows.{length-window}
use Rattle.journal.specs.Records.{journal_list, taken}
use Rattle.journal.specs.Ready.{GoesOn, IsReady, Stays, Grows, MayGrow}
use Rattle.journal.proofs.Lists.{closed}
use Rattle.checkpoint.specs.Halves.{Body, HasPair, layout_of, begins, other, head_area, journal_area, half_of, stored_in}
use Rattle.checkpoint.specs.Counting.{counting, IsSpare, IsNewer, MayClose, Opens, MayOpen}
use Rattle.checkpoint.specs.declared.layout.Layout.{Layout}
use Rattle.checkpoint.proofs.Places.{sound, paired, same_layout, pair_has}
use Rattle.checkpoint.proofs.Counts.{counting_reads, same_counting, closing_counting, opening_counting}
use Rattle.checkpoint.proofs.Switches.{shut_closes}
use Rattle.checkpoint.proofs.Fronts.{journal_mine, journal_beside, journal_kept}
use Rattle.event_log.specs.Meaning.{after_one, after_all, state_of, events_of, tells, means_by}
use Rattle.event_log.specs.Holds.{Stands, Holds, CanOpen, StandsFor}
use Rattle.event_log.specs.Doubts.{Doubt, Either, InDoubt, MaySwitch, switched, of_event}
use Rattle.event_log.specs.declared.log.Log.{Log}

-- one event more
after_push : {S : Type 0} (step : S → List ℕ → Option S) (now : Option S) (events : List (List ℕ)) (event : List ℕ)
    → after_all step now (events ++ event ∷ []) ≡ after_one step (after_all step now events) event
after_push step now [] event = refl
after_push step now (e ∷ events) event = after_push step (after_one step now e) events event

-- a journal whose first byte is 0 is empty, and goes on
empty_list : (bytes : List ℕ) → 0 < length bytes → get_or bytes 0 0 ≡ 0 → journal_list bytes ≡ []
empty_list [] some is = absurd (omega (arith, some))
empty_list (gate ∷ rest) some is = closed (length (gate ∷ rest)) gate rest (λ one. omega (arith, one, is))

empty_goes_on : (bytes : List ℕ) → 0 < length bytes → get_or bytes 0 0 ≡ 0 → GoesOn 0 bytes
empty_goes_on bytes some is = record {
  takes = ap taken (empty_list bytes some is);
  room = some;
  shut = λ one. omega (arith, one, is, get_or_default bytes 0 1 0 some);
}

-- the first byte of a half's journal is the last one of its head
journal_first : (half : ℕ) (image : List ℕ)
    → get_or (window (head_area half) image) (layout_of half).journal_at 0 ≡ get_or
    (window (journal_area half) image) 0 0
journal_first half image =
    get_or-take ((layout_of half).journal_at + 1) (drop (begins half) image) (layout_of half).journal_at 0
    (next (layout_of half).journal_at)
    ∙ get_or-drop (begins half) image (layout_of half).journal_at 0
    ∙ ap (λ (n : ℕ). get_or image n 0) (sym (add-zero (begins half + (layout_of half).journal_at)))
    ∙ sym (get_or-drop (begins half + (layout_of half).journal_at) image 0 0)
    ∙ sym (get_or-take (layout_of half).journal_len (drop (begins half + (layout_of half).journal_at) image) 0 0
    (sound half).some)
  where
    next : (n : ℕ) → n < n + 1
    next n = omega arith

pub journal_inside : (half : ℕ) (image : List ℕ) → HasPair (layout_of half) image → IsInside (journal_area half) image
journal_inside half image size = pair_has half image size

pub journal_long : (half : ℕ) (image : List ℕ) → HasPair (layout_of half) image
    → length (window (journal_area half) image) ≡ (layout_of half).journal_len
journal_long half image size = length-window (journal_area half) image (pair_has half image size)

-- a change in the head of the other half leaves the journal of this one
journal_same : (half : ℕ) (x y : List ℕ) → half < 4
    → Torn (head_area (other half)).at (head_area (other half)).len x y
    → window (journal_area half) y ≡ window (journal_area half) x
journal_same half x y lt torn =
    subst (λ (h : ℕ). window (journal_area h) y ≡ window (journal_area h) x) (paired half lt).back
    (journal_kept (other half) x y (paired half lt).below torn)

module _ {S : Type 0} (start : List ℕ → Option S) (step : S → List ℕ → Option S) where
  can_open : (log : Log) (text image : List ℕ) → Stands start log text image → CanOpen start (layout_of log.half) image
  can_open log text image stands =
      subst (λ (o : Option (ℕ × Body)). IfSome o
      (λ h. GoesOn (taken (events_of h.0 image)) (window (journal_area h.0) image))) (sym stands.counts)
      (subst (λ (n : ℕ). GoesOn n (window (journal_area log.half) image)) (sym stands.goes_on.takes) stands.goes_on)

  pub stands_for : (log : Log) (now : Option S) (image : List ℕ) → Holds start step log now image
      → StandsFor start step (layout_of log.half) now image
  stands_for log now image held = record {
    size = held.stands.size;
    opens = can_open log held.text image held.stands;
    means = ap (λ (o : Option (ℕ × Body)). means_by start step o image) held.stands.counts ∙ held.means;
  }

  -- what a switch asks for
  pub newer : (log : Log) (text image : List ℕ) → Stands start log text image
      → IsNewer (log.generation + 1) (half_of (other (other log.half)) image)
  newer log text image stands = subst (λ (k : ℕ). IsNewer (log.generation + 1) (half_of k image))
      (sym (paired log.half stands.half).back)
      (subst (λ (o : Option Body). IsNewer (log.generation + 1) o)
      (sym (counting_reads (tells start) log.half stands.half
      (record { generation = log.generation; state = text }) image stands.counts)) (next log.generation))
    where
      next : (n : ℕ) → n < n + 1
      next n = omega arith

  -- a half that was opened over a text and an empty journal
  pub opened : (half generation : ℕ) (state : S) (now : Option S) (text d c : List ℕ) → half < 4
      → HasPair (layout_of half) d → IsNewer generation (half_of (other half) d)
      → stored_in half d ≡ Some (record { generation = generation; state = text })
      → start text ≡ Some state → now ≡ Some state → Opens half d c
      → Holds start step (record { half = half; generation = generation; used = 0 }) now c
  opened half generation state now text d c lt size above stored told is opens =
      let big : HasPair (layout_of half) c = omega (arith, size, opens.gate.size) in
      let some : 0 < length (window (journal_area half) c) =
      omega (arith, journal_long half c big, (sound half).some) in
      let first = sym (journal_first half c) ∙ opens.journal in
      record {
        text = text;
        stands = record {
          half = lt;
          size = big;
          counts = opening_counting (tells start) half lt d c
              (record { generation = generation; state = text }) opens stored (ap is_some told) above;
          goes_on = empty_goes_on (window (journal_area half) c) some first;
        };
        means = ap (λ (events : List (List ℕ)). state_of start step text events)
            (empty_list (window (journal_area half) c) some first) ∙ told ∙ sym is;
      }

  module _ (log : Log) (now : Option S) where
    pub ready : (image : List ℕ) → Holds start step log now image → IsReady (journal_area log.half) log.used image
    ready image held = record { inside = pair_has log.half image held.stands.size; goes_on = held.stands.goes_on }

    pub used_below : (image : List ℕ) → Holds start step log now image → log.used < (layout_of log.half).journal_len
    used_below image held = subst (λ (n : ℕ). log.used < n)
        (journal_long log.half image held.stands.size) held.stands.goes_on.room

    -- the journal's bytes change, and nothing else
    in_journal : (used : ℕ) (after : Option S) (d c : List ℕ) (held : Holds start step log now d)
        → Torn (journal_area log.half).at (journal_area log.half).len d c
        → GoesOn used (window (journal_area log.half) c)
        → state_of start step held.text (events_of log.half c) ≡ after
        → Holds start step (record log { used = used }) after c
    in_journal used after d c held torn goes_on means = record {
      text = held.text;
      stands = record {
        half = held.stands.half;
        size = omega (arith, torn.size, held.stands.size);
        counts = same_counting (tells start) log.half held.stands.half d c
            (journal_mine log.half d c held.stands.half torn) (journal_beside log.half d c held.stands.half torn)
            ∙ held.stands.counts;
        goes_on = goes_on;
      };
      means = means;
    }

    stayed : (d c : List ℕ) → Holds start step log now d
        → Torn (journal_area log.half).at (journal_area log.half).len d c
        → Stays log.used (window (journal_area log.half) d) (window (journal_area log.half) c)
        → Holds start step log now c
    stayed d c held torn stays = in_journal log.used now d c held torn stays.goes_on
        (ap (λ (events : List (List ℕ)). state_of start step held.text events) stays.list ∙ held.means)

    grown : (event d c : List ℕ) → Holds start step log now d
        → Torn (journal_area log.half).at (journal_area log.half).len d c
        → Grows log.used event (window (journal_area log.half) d) (window (journal_area log.half) c)
        → Holds start step (record log { used = log.used + (5 + length event) }) (after_one step now event) c
    grown event d c held torn grows = in_journal (log.used + (5 + length event))
        (after_one step now event) d c held torn grows.goes_on
        (ap (λ (events : List (List ℕ)). state_of start step held.text events) grows.list
        ∙ after_push step (start held.text) (events_of log.half d) event
        ∙ ap (λ (n : Option S). after_one step n event) held.means)

    -- the other half is closed
    pub kept : (d c : List ℕ) → Holds start step log now d → MayClose (other log.half) d c → Holds start step log now c
    kept d c held may =
        let lt = held.stands.half in
        let pair = paired log.half lt in
        let same = journal_same log.half d c lt may.outside in
        let spare : IsSpare (tells start) (other log.half) d = subst
        (λ (o : Option (ℕ × Body)). IfSome o (λ counts. counts.0 ≢ other log.half))
        (sym (ap (λ (l : Layout). counting (tells start) l.low d) (same_layout log.half) ∙ held.stands.counts))
        (apart pair.order) in
        record {
          text = held.text;
          stands = record {
            half = lt;
            size = omega (arith, may.outside.size, held.stands.size);
            counts = subst (λ (l : Layout). counting (tells start) l.low c ≡ counting (tells start) l.low d)
                (same_layout log.half) (closing_counting (tells start) (other log.half) pair.below d c spare may)
                ∙ held.stands.counts;
            goes_on = subst (λ (bytes : List ℕ). GoesOn log.used bytes) (sym same) held.stands.goes_on;
          };
          means = ap (λ (bytes : List ℕ). state_of start step held.text (journal_list bytes)) same ∙ held.means;
        }
      where
        apart : ((log.half ≡ (layout_of log.half).low) × (other log.half ≡ (layout_of log.half).low + 1)) ⊎
            ((log.half ≡ (layout_of log.half).low + 1) × (other log.half ≡ (layout_of log.half).low))
            → log.half ≢ other log.half
        apart (inl first) same = omega (arith, same, first.0, first.1)
        apart (inr second) same = omega (arith, same, second.0, second.1)

    -- an image that may have the event more
    pub may_grow : (state : S) (event : List ℕ) (images : List ℕ → Type 0) → now ≡ Some state
        → EachImage images (Holds start step log now)
        → EachImage (From images (InArea (journal_area log.half) (MayGrow log.used event)))
        (InDoubt start step log (of_event step state event))
    may_grow state event images is held c from =
        let d = from.0 in
        ⊎_elim
        (λ stays. inl (inl (subst (λ (n : Option S). Holds start step log n c) is
        (stayed d c (held d from.1) from.2.outside stays))))
        (λ grows. inr (
          log.used + (5 + length event),
          omega arith,
          subst
              (λ (n : Option S). Holds start step (record log { used = log.used + (5 + length event) })
              (after_one step n event) c) is (grown event d c (held d from.1) from.2.outside grows),
        ))
        from.2.inside

    -- the event was added
    pub added : (state : S) (event : List ℕ) (area : Area) (used more : ℕ) → now ≡ Some state
        → area ≡ journal_area log.half → used ≡ log.used → more ≡ used + (5 + length event) → (d c : List ℕ)
        → Holds start step log now d → InArea area (Grows used event) d c
        → Holds start step (record log { used = more }) (step state event) c
    added state event area used more is area_is used_is more_is d c held grows =
        let s = subst (λ (p : Area × ℕ). InArea p.0 (Grows p.1 event) d c) (λ i. (area_is i, used_is i)) grows in
        let after =
        subst (λ (n : Option S). Holds start step (record log { used = log.used + (5 + length event) })
        (after_one step n event) c) is (grown event d c held s.outside s.inside) in
        subst (λ (u : ℕ). Holds start step (record log { used = u }) (step state event) c)
        (sym (more_is ∙ ap (λ (u : ℕ). u + (5 + length event)) used_is)) after

    -- while the halves are switched
    pub may_switch : (state : S) (text d c : List ℕ) → Holds start step log now d
        → stored_in (other log.half) d ≡ Some (record { generation = log.generation + 1; state = text })
        → start text ≡ Some state → now ≡ Some state → MayOpen (other log.half) d c
        → MaySwitch start step log now c
    may_switch state text d c held stored told is = ⊎_elim
        (λ shut. inl (kept d c held (shut_closes (other log.half) d c shut)))
        (λ opens. inr (opened (other log.half) (log.generation + 1) state now text d c
        (paired log.half held.stands.half).below
        (subst (λ (l : Layout). HasPair l d) (sym (same_layout log.half)) held.stands.size)
        (newer log held.text d held.stands) stored told is opens))

  -- what a switch and a doubt say of the meaning
  pub still : (log : Log) (now : Option S)
      → EachImage (MaySwitch start step log now) (StandsFor start step (layout_of log.half) now)
  still log now c = ⊎_elim
      (stands_for log now c)
      (λ held. subst (λ (l : Layout). StandsFor start step l now c) (same_layout log.half)
      (stands_for (switched log) now c held))

  pub either : (log : Log) (doubt : Doubt S)
      → EachImage (InDoubt start step log doubt) (Either start step (layout_of log.half) doubt)
  either log doubt c = ⊎_elim
      (λ may. inl (still log doubt.before c may))
      (λ longer. inr (stands_for (record log { used = longer.0 }) doubt.after c longer.2))
