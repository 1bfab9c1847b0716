-- Without a fault, what is printed is the fold of the events.
use Rattle.std.proofs.Common.{◌≡◌, ◌∙◌, ◌⊎◌, inl, inr, ℕ, ◌<◌, ◌≤◌, List, [], ◌∷◌, ◌++◌, Option, Some, None, refl, sym, ap, append-nil, append_assoc, arith}
use Rattle.std.proofs.lemmas.Bool.{cases_lt}
use Rattle.fault_count.specs.Faults.{HasRisen}
use Rattle.pm_types.specs.declared.history.Entry.{Entry}
use Rattle.pm_types.specs.Histories.{state_after}
use Rattle.pm_types.specs.NodeState.{NodeState}
use Rattle.node_core.specs.Packages.{package_reading}
use Rattle.scenario.specs.declared.events.EventLine.{EventLine}
use Rattle.scenario.specs.declared.script.Script.{Script}
use Rattle.node_replay.specs.declared.given.Given.{Given}
use Rattle.node_replay.specs.Done.{AreDone, Did, IsDoneOf, IsGiven, faults_behind, history_of, lines_of, node_behind, text_of}
use Rattle.node_replay.specs.Lines.{after_event, answer_line, begun, entry_of, given_by, texts_of}
use Rattle.node_replay.proofs.Made.{after_more, event-made}

module _ (script : Script) (attached : List ℕ) where
  abbrev start : NodeState
  start = begun attached script.installed

  abbrev folded : NodeState → List EventLine → NodeState
  folded n [] = n
  folded n (e ∷ es) = folded (after_event script attached n e.event) es

  abbrev line_at : NodeState → EventLine → List ℕ
  line_at n e = answer_line script.time e.line (Some (given_by script attached n e.event))

  texts-more : (n : NodeState) (es : List EventLine) (e : EventLine)
      → texts_of script attached n (es ++ e ∷ []) ≡ texts_of script attached n es ++ line_at (folded n es) e
  texts-more n [] e = append-nil (line_at n e)
  texts-more n (f ∷ es) e =
      ap (λ t. line_at n f ++ t) (texts-more (after_event script attached n f.event) es e)
      ∙ sym (append_assoc (line_at n f) (texts_of script attached (after_event script attached n f.event) es)
      (line_at (folded n (f ∷ es)) e))

  folded-more : (n : NodeState) (es : List EventLine) (e : EventLine)
      → folded n (es ++ e ∷ []) ≡ after_event script attached (folded n es) e.event
  folded-more n [] e = refl
  folded-more n (f ∷ es) e = folded-more (after_event script attached n f.event) es e

  module _ (before now : ℕ) (calm : HasRisen before now → ⊥) where
    record IsFolded (done : List Did) : Type 0 where
      least : before ≤ faults_behind before done
      text : text_of script.time done ≡ texts_of script attached start (lines_of done)
      node : folded start (lines_of done) ≡ node_behind script attached done

    still : (was is : ℕ) → before ≤ was → is ≤ now → HasRisen was is → ⊥
    still was is more less risen = calm (grind arith)

    one-more : (line : EventLine) (given : Option Given) (added : List Entry) (faults : ℕ) (done : List Did)
        → (let n = node_behind script attached done in
        IsGiven (given_by script attached n line.event) (entry_of script attached n line.event) given added
        (faults_behind before done) faults)
        → faults ≤ now → IsFolded done
        → IsFolded (record { line = line; given = given; added = added; faults = faults } ∷ done)
    one-more line None added faults done is few rest =
        absurd (still (faults_behind before done) faults rest.least few is.1)
    one-more line (Some g) added faults done is few rest =
        let n = node_behind script attached done in
        record {
          least = omega (arith, rest.least, is.2);
          text = ap (λ t. t ++ answer_line script.time line.line (Some g)) rest.text
              ∙ ap (λ x. texts_of script attached start (lines_of done) ++ answer_line script.time line.line (Some x))
              (is.0 ∙ ap (λ m. given_by script attached m line.event) (sym rest.node))
              ∙ sym (texts-more start (lines_of done) line);
          node = folded-more start (lines_of done) line
              ∙ ap (λ m. after_event script attached m line.event) rest.node
              ∙ sym (after_more (history_of done) added start
              ∙ ap (state_after package_reading n) is.1
              ∙ event-made script attached n line.event);
        }

    each : (done : List Did) → AreDone script attached start before done → faults_behind before done ≤ now
        → IsFolded done
    each [] is few = record { least = omega arith; text = refl; node = refl }
    each (d ∷ done) (is, rest) few =
        one-more d.line d.given d.added d.faults done is few (each done rest (earlier d.given is))
      where
        earlier : (given : Option Given)
            → (let n = node_behind script attached done in
            IsGiven (given_by script attached n d.line.event) (entry_of script attached n d.line.event) given d.added
            (faults_behind before done) d.faults)
            → faults_behind before done ≤ now
        earlier (Some g) is = omega (arith, is.2, few)
        earlier None is = at_most (cases_lt now (faults_behind before done))
          where
            at_most : (now < faults_behind before done) ⊎ (faults_behind before done ≤ now)
                → faults_behind before done ≤ now
            at_most (inl more) = absurd (calm (grind arith))
            at_most (inr less) = less

  -- what was done and printed without a fault is the fold
  pub calm_text : (lines : List EventLine) (text : List ℕ) (before now : ℕ) (done : List Did)
      → IsDoneOf script attached lines text before now done → (HasRisen before now → ⊥)
      → text ≡ texts_of script attached start lines
  calm_text lines text before now done so calm =
      so.text_is ∙ (each before now calm done so.each so.faults).text
      ∙ ap (texts_of script attached start) so.lines_are
