-- One line more of what a replay did.
use Rattle.std.proofs.Common.{◌≡◌, ◌⊎◌, inl, inr, ℕ, ◌+◌, ◌≤◌, Bool, List, [], ◌∷◌, ◌++◌, length, Option, Some, None, refl, sym, ap, subst, ◌∙◌, append-nil, length-append, take, get_or, add-one, ◌<◌, arith}
use Rattle.std.proofs.Math.Seq.{take-suc}
use Rattle.std.specs.Prelude.{unwrap_or, option_map}
use Rattle.std.specs.declared.cmp.Ordering.{Ordering}
use Rattle.std.specs.declared.cmp.Ordering.TheVariants.{Less, Equal, Greater}
use Rattle.disk_core.specs.Images.{EachImage}
use Rattle.event_log.specs.declared.log.Log.{Log}
use Rattle.fault_count.specs.Faults.{HasRisen}
use Rattle.ucm_base.specs.declared.ids.CallNo.{CallNo}
use Rattle.pm_types.specs.declared.calls.Call.{Call as NumberedCall}
use Rattle.pm_types.specs.declared.history.Entry.{Entry}
use Rattle.pm_types.specs.declared.history.Happened.TheVariants.{Unit as UnitAfter}
use Rattle.pm_types.specs.declared.replies.Reached.{Reached as CallReached}
use Rattle.pm_types.specs.declared.replies.Reached.TheVariants.{Done, Again, Stale}
use Rattle.pm_types.specs.declared.replies.Reply.{Reply}
use Rattle.pm_types.specs.declared.state.Kept.{Kept}
use Rattle.pm_types.specs.Histories.{after_entry, state_after, unit_passes, verdict_for, worked}
use Rattle.pm_types.specs.NodeState.{NodeState, of_client}
use Rattle.pm_types.specs.Steps.{after_call, by_last, by_order, call_no_cmp, executed, reply_to, with_entry}
use Rattle.pm_types.specs.Work.{unit}
use Rattle.node_core.specs.Core.{Readied}
use Rattle.node_core.specs.Packages.{package_reading}
use Rattle.node_core.specs.Units.{after_work, answer_of, answer_to}
use Rattle.pm_types.specs.declared.replies.Worked.{Worked as WorkGave}
use Rattle.pm_types.specs.declared.replies.Worked.TheVariants.{Unit, Nothing}
use Rattle.node_store.specs.Open.{IsOpen}
use Rattle.node_store.specs.Serving.{MakesOne, Serves, ServesEither, node_on, stepped}
use Rattle.scenario.specs.declared.events.Event.{Event}
use Rattle.scenario.specs.declared.events.Event.TheVariants.{Call, Work, Ask}
use Rattle.scenario.specs.declared.events.EventLine.{EventLine}
use Rattle.scenario.specs.declared.script.Script.{Script}
use Rattle.scenario.specs.Events.{call_meant}
use Rattle.node_replay.specs.declared.given.Given.{Given}
use Rattle.node_replay.specs.Done.{AreDone, Did, IsDoneOf, IsGiven, IsReplayed, faults_behind, history_of, lines_of, node_behind, text_of}
use Rattle.node_replay.specs.Lines.{after_event, answer_line, begun, entry_of, entry_of_call, entry_of_unit, given_by}
use Rattle.node_replay.proofs.Calm.{calm_text}
use Rattle.node_replay.proofs.Made.{after_more, event-made, few-made}
use Rattle.node_replay.specs.Standing.{Rises, StandsAfter, StandsAt, StandsBehind}

-- an event makes one entry, as its call or unit does
pub event_makes : (script : Script) (attached : List ℕ)
    → ((n : NodeState) (client : ℕ) (call_no : CallNo) (call : NumberedCall)
    → MakesOne n (stepped n client call_no call).0)
    → ((n : NodeState) (fails : List (List ℕ)) → MakesOne n (after_work fails n))
    → (n : NodeState) (event : Event) → MakesOne n (after_event script attached n event)
event_makes script attached call_one unit_one n (Call client call_no call) =
    call_one n client call_no (call_meant attached call)
event_makes script attached call_one unit_one n (Work client) = unit_one n script.fails
event_makes script attached call_one unit_one n (Ask client query) = inl refl

module _ (script : Script) (attached : List ℕ) (before : ℕ) where
  -- what was done and printed so far, without the last event that may stand and with it, and where the node stands
  pub record SoFar (lines : List EventLine) (text : List ℕ) (now : ℕ) (closed : Bool) (log : Log) (r : Readied)
      (seen : List ℕ) (images : List ℕ → Type 0) : Type 0 where
    pub done : List Did
    pub also : List Did
    pub done_so : IsDoneOf script attached lines text before now done
    pub also_so : IsDoneOf script attached lines text before now also
    pub pending : List Entry
    pub few : length pending ≤ 1
    pub more : history_of also ≡ history_of done ++ pending
    pub stands : StandsAt (node_behind script attached done) (node_behind script attached also) closed log r seen images
    pub count : (node_behind script attached done).entries ≤ length lines
    pub also_count : (node_behind script attached also).entries ≤ length lines

  -- a line without a reply, and one with

  rise_on : (least was now : ℕ) → least ≤ was → HasRisen was now → HasRisen least now
  rise_on least was now less risen = grind arith

  module _ (lines : List EventLine) (text : List ℕ) (was now : ℕ) (line : EventLine) (done : List Did)
      (so : IsDoneOf script attached lines text before was done) (less : was ≤ now) where
    abbrev n : NodeState
    n = node_behind script attached done

    abbrev without : List Entry → List Did
    without added = record { line = line; given = None; added = added; faults = now } ∷ done

    abbrev with_given : Given → List Did
    with_given g =
        record { line = line; given = Some g; added = entry_of script attached n line.event; faults = now } ∷ done

    done_without : HasRisen was now → (added : List Entry)
        → (added ≡ []) ⊎ (added ≡ entry_of script attached n line.event)
        → IsDoneOf script attached (lines ++ line ∷ []) (text ++ answer_line script.time line.line None) before now
        (without added)
    done_without risen added which = record {
      lines_are = ap (λ l. l ++ line ∷ []) so.lines_are;
      each = ((which, rise_on (faults_behind before done) was now so.faults risen), so.each);
      text_is = ap (λ t. t ++ answer_line script.time line.line None) so.text_is;
      faults = omega arith;
    }

    done_given : (g : Given) → g ≡ given_by script attached n line.event
        → IsDoneOf script attached (lines ++ line ∷ []) (text ++ answer_line script.time line.line (Some g)) before now
        (with_given g)
    done_given g is = record {
      lines_are = ap (λ l. l ++ line ∷ []) so.lines_are;
      each = ((is, refl, omega (arith, so.faults, less)), so.each);
      text_is = ap (λ t. t ++ answer_line script.time line.line (Some g)) so.text_is;
      faults = omega arith;
    }

    behind_none : node_behind script attached (without []) ≡ n
    behind_none = ap (state_after package_reading (begun attached script.installed)) (append-nil (history_of done))

    behind_entry : node_behind script attached (without (entry_of script attached n line.event))
        ≡ after_event script attached n line.event
    behind_entry =
        after_more (history_of done) (entry_of script attached n line.event) (begun attached script.installed)
        ∙ event-made script attached n line.event

    behind_given : (g : Given)
        → node_behind script attached (with_given g) ≡ after_event script attached n line.event
    behind_given g =
        after_more (history_of done) (entry_of script attached n line.event) (begun attached script.installed)
        ∙ event-made script attached n line.event

  -- where a node stands that was named otherwise
  stands_as : (closed : Bool) (log : Log) (r : Readied) (seen : List ℕ) (images : List ℕ → Type 0) (n m k l : NodeState)
      → k ≡ n → l ≡ m → StandsAt n m closed log r seen images → StandsAt k l closed log r seen images
  stands_as closed log r seen images n m k l one two is =
      subst (λ x. StandsAt x l closed log r seen images) (sym one)
      (subst (λ x. StandsAt n x closed log r seen images) (sym two) is)

  module _ (lines : List EventLine) (text : List ℕ) (was now : ℕ) (line : EventLine)
      (makes : (k : NodeState) → MakesOne k (after_event script attached k line.event))
      (c : Bool) (lg : Log) (rd : Readied) (sn : List ℕ) (ims : List ℕ → Type 0)
      (closed : Bool) (log : Log) (r : Readied) (seen : List ℕ) (images : List ℕ → Type 0)
      (so : SoFar lines text was c lg rd sn ims) (less : was ≤ now) where
    abbrev More : Option Given → Type 0
    More given =
        SoFar (lines ++ line ∷ []) (text ++ answer_line script.time line.line given) now closed log r seen images

    abbrev Few : NodeState → Type 0
    Few k = k.entries ≤ length (lines ++ line ∷ [])

    longer : (k : NodeState) → k.entries ≤ length lines → k.entries ≤ length (lines ++ line ∷ [])
    longer k few = rw length-append (omega (arith, few))

    one_longer : (k m : NodeState) → MakesOne k m → k.entries ≤ length lines
        → m.entries ≤ length (lines ++ line ∷ [])
    one_longer k m (inl same) few = rw length-append (omega (arith, few, ap (λ (x : NodeState). x.entries) same))
    one_longer k m (inr one) few = rw length-append (omega (arith, few, one))

    -- the closed node stays as it is
    stays : HasRisen was now
        → StandsAt (node_behind script attached so.done) (node_behind script attached so.also) closed log r seen images
        → More None
    stays risen stands =
        let one = behind_none lines text was now line so.done so.done_so less in
        let two = behind_none lines text was now line so.also so.also_so less in
        record {
          done = without lines text was now line so.done so.done_so less [];
          also = without lines text was now line so.also so.also_so less [];
          done_so = done_without lines text was now line so.done so.done_so less risen [] (inl refl);
          also_so = done_without lines text was now line so.also so.also_so less risen [] (inl refl);
          pending = so.pending;
          few = so.few;
          more = append-nil (history_of so.also) ∙ (so.more
              ∙ ap (λ h. h ++ so.pending) (sym (append-nil (history_of so.done))));
          stands = stands_as closed log r seen images (node_behind script attached so.done)
              (node_behind script attached so.also) _ _ one two stands;
          count = subst Few (sym one) (longer (node_behind script attached so.done) so.count);
          also_count = subst Few (sym two) (longer (node_behind script attached so.also) so.also_count);
        }

    -- an event was done behind one of the two
    module _ (base : List Did) (is : IsDoneOf script attached lines text before was base)
        (few : (node_behind script attached base).entries ≤ length lines) where
      abbrev k : NodeState
      k = node_behind script attached base

      gives : (g : Given) → g ≡ given_by script attached k line.event
          → StandsAt (after_event script attached k line.event) (after_event script attached k line.event) closed log r
          seen images → More (Some g)
      gives g same stands =
          let behind = behind_given lines text was now line base is less g in
          let now_few : (node_behind script attached (with_given lines text was now line base is less g)).entries
          ≤ length (lines ++ line ∷ []) =
          subst (λ (x : NodeState). x.entries ≤ length (lines ++ line ∷ [])) (sym behind)
          (one_longer k (after_event script attached k line.event) (makes k) few) in
          record {
            done = with_given lines text was now line base is less g;
            also = with_given lines text was now line base is less g;
            done_so = done_given lines text was now line base is less g same;
            also_so = done_given lines text was now line base is less g same;
            pending = [];
            few = omega arith;
            more = sym (append-nil _);
            stands = stands_as closed log r seen images (after_event script attached k line.event)
                (after_event script attached k line.event) _ _ behind behind stands;
            count = now_few;
            also_count = now_few;
          }

      fails : HasRisen was now
          → StandsAt k (after_event script attached k line.event) closed log r seen images → More None
      fails risen stands =
          let entry = entry_of script attached k line.event in
          let one = behind_none lines text was now line base is less in
          let two = behind_entry lines text was now line base is less in
          record {
            done = without lines text was now line base is less [];
            also = without lines text was now line base is less entry;
            done_so = done_without lines text was now line base is less risen [] (inl refl);
            also_so = done_without lines text was now line base is less risen entry (inr refl);
            pending = entry;
            few = few-made script attached k line.event;
            more = ap (λ h. h ++ entry) (sym (append-nil (history_of base)));
            stands = stands_as closed log r seen images k (after_event script attached k line.event) _ _ one two stands;
            count = subst Few (sym one) (longer k few);
            also_count = subst Few (sym two)
                (one_longer k (after_event script attached k line.event) (makes k) few);
          }

    at_base : (given : Option Given) → Rises given was now → (base : List Did)
        → IsDoneOf script attached lines text before was base
        → (node_behind script attached base).entries ≤ length lines
        → StandsAfter (node_behind script attached base)
        (after_event script attached (node_behind script attached base) line.event)
        (given_by script attached (node_behind script attached base) line.event) given closed log r seen images
        → More given
    at_base (Some g) rises base is few stands = gives base is few g stands.0 stands.1
    at_base None rises base is few stands = fails base is few rises stands

    pub behind : (given : Option Given) → Rises given was now
        → StandsBehind script attached line.event (node_behind script attached so.done)
        (node_behind script attached so.also) given closed log r seen images
        → More given
    behind (Some g) rises (inl (none, stands)) = absurd (cc none)
    behind None rises (inl (none, stands)) = stays rises stands
    behind given rises (inr (k, inl same, stands)) =
        at_base given rises so.done so.done_so so.count
        (subst (λ x. StandsAfter x (after_event script attached x line.event) (given_by script attached x line.event)
        given closed log r seen images) same stands)
    behind given rises (inr (k, inr same, stands)) =
        at_base given rises so.also so.also_so so.also_count
        (subst (λ x. StandsAfter x (after_event script attached x line.event) (given_by script attached x line.event)
        given closed log r seen images) same stands)

  -- before the first line
  pub begins : (now : ℕ) (log : Log) (r : Readied) (seen : List ℕ) (images : List ℕ → Type 0) → before ≤ now
      → IsOpen log r seen images → node_on r.state seen ≡ begun attached script.installed
      → SoFar [] [] now Bool.false log r seen images
  begins now log r seen images less k is = record {
    done = [];
    also = [];
    done_so = record { lines_are = refl; each = tt; text_is = refl; faults = less };
    also_so = record { lines_are = refl; each = tt; text_is = refl; faults = less };
    pending = [];
    few = omega arith;
    more = refl;
    stands = (k, is, refl);
    count = omega arith;
    also_count = omega arith;
  }

  -- and behind the last one
  pub ends : (lines : List EventLine) (text : List ℕ) (now : ℕ) (closed : Bool) (log : Log) (r : Readied)
      (seen : List ℕ) (images : List ℕ → Type 0) → (IsOpen log r seen images → EachImage images (Serves (node_on r.state seen)))
      → SoFar lines text now closed log r seen images → IsReplayed script attached lines text before now images
  ends lines text now closed log r seen images serves so = record {
    done = so.done;
    also = so.also;
    done_so = so.done_so;
    also_so = so.also_so;
    pending = so.pending;
    few = so.few;
    more = so.more;
    serves = at closed so.stands;
    calm = calm_text script attached lines text before now so.done so.done_so;
  }
    where
      at : (c : Bool)
          → StandsAt (node_behind script attached so.done) (node_behind script attached so.also) c log r seen images
          → EachImage images (ServesEither (node_behind script attached so.done) (node_behind script attached so.also))
      at Bool.true stands = stands.0
      at Bool.false stands = λ c is. inl (subst (λ x. Serves x c) stands.1 (serves stands.0 c is))

  -- the next line of all, where a node's events make one entry each
  pub goes_on : (all : List EventLine) (i : ℕ) (line : EventLine) (text text' : List ℕ) (was now : ℕ)
      (given : Option Given) (c : Bool) (lg : Log) (rd : Readied) (sn : List ℕ) (ims : List ℕ → Type 0)
      (closed : Bool) (log : Log) (r : Readied) (seen : List ℕ) (images : List ℕ → Type 0)
      → ((k : NodeState) → MakesOne k (after_event script attached k line.event))
      → line ≡ get_or all i line → i < length all → SoFar (take i all) text was c lg rd sn ims → was ≤ now
      → Rises given was now
      → ((n m : NodeState) → StandsAt n m c lg rd sn ims
      → StandsBehind script attached line.event n m given closed log r seen images)
      → text' ≡ text ++ answer_line script.time line.line given
      → SoFar (take (i + 1) all) text' now closed log r seen images
  goes_on all i line text text' was now given c lg rd sn ims closed log r seen images makes is inside so less rises
      stands printed =
      let lines : take i all ++ line ∷ [] ≡ take (i + 1) all =
      ap (λ e. take i all ++ e ∷ []) is ∙ (sym (take-suc all i line inside) ∙ rw add-one refl) in
      subst (λ ls. SoFar ls text' now closed log r seen images) lines
      (subst (λ t. SoFar (take i all ++ line ∷ []) t now closed log r seen images) (sym printed)
      (behind (take i all) text was now line makes c lg rd sn ims closed log r seen images so less given rises
      (stands (node_behind script attached so.done) (node_behind script attached so.also) so.stands)))
