-- Writes beside the halves leave what an image stands for: for a store that keeps more on the disk than its log.
use Rattle.std.proofs.Common.{◌≡◌, ◌⊎◌, inl, inr, ⊎_elim, ℕ, ◌+◌, ◌≤◌, List, Option, sym, ◌∙◌, ap, subst, arith}
use Rattle.disk_core.specs.Bytes.{Torn}
use Rattle.disk_area.specs.Windows.{window}
use Rattle.disk_area.proofs.Windows.{window_apart}
use Rattle.journal.specs.Records.{journal_list}
use Rattle.journal.specs.Ready.{GoesOn}
use Rattle.checkpoint.specs.Halves.{layout_of, begins, other, head_area, journal_area, half_of, read_of}
use Rattle.checkpoint.specs.declared.layout.Layout.{Layout}
use Rattle.checkpoint.proofs.Places.{sound, same_layout}
use Rattle.checkpoint.proofs.Counts.{same_counting}
use Rattle.event_log.proofs.Elsewhere.{not_before, not_behind}
use Rattle.event_log.specs.Beside.{IsBeside}
use Rattle.event_log.specs.Meaning.{state_of, tells}
use Rattle.event_log.specs.Holds.{Holds}
use Rattle.event_log.specs.Doubts.{Doubt, InDoubt, switched}
use Rattle.event_log.specs.declared.log.Log.{Log}

module _ (at n : ℕ) (x y : List ℕ) (torn : Torn at n x y) where
  -- a window of a half lies apart from the bytes beside its pair
  apart : (half a m : ℕ) → begins half ≤ a
      → a + m ≤ begins half + (layout_of half).journal_at + (layout_of half).journal_len
      → IsBeside (layout_of half) at n → (a + m ≤ at) ⊎ (at + n ≤ a)
  apart half a m low high (inl before) = inr (omega (arith, before, low, not_before half))
  apart half a m low high (inr behind) = inl (omega (arith, behind, high, not_before half, not_behind half))

  head_same : (half : ℕ) → IsBeside (layout_of half) at n → half_of half y ≡ half_of half x
  head_same half beside = ap (λ (xs : List ℕ). read_of (layout_of half).state_max xs)
      (window_apart (record { at = at; len = n }) (head_area half) x y
      (apart half (begins half) ((layout_of half).journal_at + 1) (omega arith)
      (omega (arith, (sound half).some)) beside) torn)

  journal_same : (half : ℕ) → IsBeside (layout_of half) at n
      → window (journal_area half) y ≡ window (journal_area half) x
  journal_same half beside =
      window_apart (record { at = at; len = n }) (journal_area half) x y
      (apart half (begins half + (layout_of half).journal_at) (layout_of half).journal_len (omega arith)
      (omega arith) beside) torn

  module _ {S : Type 0} (start : List ℕ → Option S) (step : S → List ℕ → Option S) where
    pub still_holds : (log : Log) (now : Option S) → IsBeside (layout_of log.half) at n
        → Holds start step log now x → Holds start step log now y
    still_holds log now beside held =
        let same = journal_same log.half beside in
        record {
          text = held.text;
          stands = record {
            half = held.stands.half;
            size = omega (arith, torn.size, held.stands.size);
            counts = same_counting (tells start) log.half held.stands.half x y (head_same log.half beside)
                (head_same (other log.half) (subst (λ (l : Layout). IsBeside l at n)
                (sym (same_layout log.half)) beside)) ∙ held.stands.counts;
            goes_on = subst (λ (bytes : List ℕ). GoesOn log.used bytes) (sym same) held.stands.goes_on;
          };
          means = ap (λ (bytes : List ℕ). state_of start step held.text (journal_list bytes)) same ∙ held.means;
        }

    pub still_in_doubt : (log : Log) (doubt : Doubt S) → IsBeside (layout_of log.half) at n
        → InDoubt start step log doubt x → InDoubt start step log doubt y
    still_in_doubt log doubt beside doubts = ⊎_elim
        (⊎_elim
        (λ held. inl (inl (still_holds log doubt.before beside held)))
        (λ held. inl (inr (still_holds (switched log) doubt.before
        (subst (λ (l : Layout). IsBeside l at n) (sym (same_layout log.half)) beside) held))))
        (λ longer. inr (longer.0, longer.1, still_holds (record log { used = longer.0 }) doubt.after beside longer.2))
        doubts
