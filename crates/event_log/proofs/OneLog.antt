-- What is found of a log that stands.
use Rattle.std.proofs.Common.{◌≡◌, ℕ, ◌<◌, ◌^◌, List, Option, Some, None, refl, sym, ◌∙◌, ap, subst, arith}
use Rattle.std.specs.Option.{IfSome}
use Rattle.journal.specs.Ready.{GoesOn}
use Rattle.journal.specs.Records.{taken}
use Rattle.disk_area.specs.Windows.{window}
use Rattle.checkpoint.specs.Halves.{Body, HasPair, layout_of, journal_area}
use Rattle.checkpoint.specs.declared.layout.Layout.{Layout}
use Rattle.checkpoint.proofs.Places.{sound}
use Rattle.event_log.specs.Meaning.{events_of, state_of, current}
use Rattle.event_log.specs.Holds.{Stands, Holds, CanOpen}
use Rattle.event_log.specs.Finds.{IsFound}
use Rattle.event_log.proofs.Steps.{journal_long}
use Rattle.event_log.specs.declared.log.Log.{Log}

half_in : Option (ℕ × Body) → ℕ
half_in None = 0
half_in (Some counting) = counting.0

generation_in : Option (ℕ × Body) → ℕ
generation_in None = 0
generation_in (Some counting) = counting.1.generation

-- one image has one log of a pair
pub same_log : {S : Type 0} (start : List ℕ → Option S) (a b : Log) (s t image : List ℕ)
    → layout_of a.half ≡ layout_of b.half → Stands start a s image → Stands start b t image → a ≡ b
unfolding half_in generation_in
same_log start a b s t image pair one second =
    let both = sym one.counts ∙ ap (λ (l : Layout). current start l image) pair ∙ second.counts in
    let half : a.half ≡ b.half = ap half_in both in
    let generation : a.generation ≡ b.generation = ap generation_in both in
    let used : a.used ≡ b.used =
    sym one.goes_on.takes ∙ ap (λ (h : ℕ). taken (events_of h image)) half ∙ second.goes_on.takes in
    (λ i. record { half = half i; generation = generation i; used = used i })

-- behind the records of the half that counts a log goes on
pub can_go_on : {S : Type 0} (start : List ℕ
    → Option S) (layout : Layout) (image : List ℕ) (half : ℕ) (body :
    Body) → CanOpen start layout image → current start layout image ≡ Some (half, body) → GoesOn (taken
    (events_of half image)) (window (journal_area half) image)
can_go_on start layout image half body can is =
    subst (λ (o : Option (ℕ × Body)). IfSome o
    (λ h. GoesOn (taken (events_of h.0 image)) (window (journal_area h.0) image))) is can

pub few_taken : (image : List ℕ) (half : ℕ) (records : List (List ℕ)) → HasPair (layout_of half) image
    → GoesOn (taken (events_of half image)) (window (journal_area half) image) → records ≡ events_of half image
    → taken records < 2 ^ 64
few_taken image half records size goes_on is =
    omega (arith, ap taken is, goes_on.room, journal_long half image size, (sound half).ends)

pub found_is : {S : Type 0} (start : List ℕ
    → Option S) (image : List ℕ) (half generation used : ℕ) (text : List ℕ) (records : List
    (List ℕ)) → half < 4 → HasPair (layout_of half) image → current start (layout_of half) image ≡ Some (
      half,
      record { generation = generation; state = text },
    )
    → GoesOn (taken (events_of half image)) (window (journal_area half) image) → records ≡ events_of half image
    → used ≡ taken records → IsFound start (layout_of half)
    (record { half = half; generation = generation; used = used }) text records image
found_is start image half generation used text records lt size counts goes_on list takes = record {
  pair = refl;
  stands = record {
    half = lt;
    size = size;
    counts = counts;
    goes_on = subst (λ (n : ℕ). GoesOn n (window (journal_area half) image)) (sym (takes ∙ ap taken list)) goes_on;
  };
  list = list;
}

-- a log goes on from what was found, in the state that its text and records tell
pub found_holds : {S : Type 0} (start : List ℕ → Option S) (step : S → List ℕ
    → Option S) (layout : Layout) (log : Log) (text : List ℕ) (records : List
    (List ℕ)) (image : List ℕ) → IsFound start layout log text records image → Holds start step log (state_of
    start step text records) image
found_holds start step layout log text records image is =
    record {
      text = text;
      stands = is.stands;
      means = ap
          (λ (events : List (List ℕ)). state_of start step text events) (sym is.list);
    }
