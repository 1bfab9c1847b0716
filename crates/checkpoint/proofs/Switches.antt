-- From steps in a head to what the halves read as.
use Rattle.std.proofs.Common.{◌≡◌, inl, inr, ℕ, ◌+◌, ◌<◌, ◌≤◌, ◌^◌, List, [], ◌∷◌, length, take, drop, get_or, Option, Some, refl, sym, ◌∙◌, ap, subst, arith}
use Rattle.disk_core.specs.Bytes.{Puts, Torn}
use Rattle.disk_core.proofs.Pieces.{put_torn, torn_none}
use Rattle.disk_area.specs.declared.area.Area.{Area}
use Rattle.disk_area.specs.Windows.{window, IsInside, InArea}
use Rattle.disk_area.proofs.Windows.{length-window, torn_window}
use Rattle.disk_area.proofs.Steps.{as_step, torn_wider}
use Rattle.checkpoint.specs.Halves.{Body, HasHalf, begins, layout_of, other, head_area, half_of, stored_in, padded}
use Rattle.checkpoint.specs.Counting.{IsNewer, IsAbove, CanOpen, GateAlone, StaysShut, Opens, MayOpen, MayClose}
use Rattle.checkpoint.specs.Quiet.{Quiet, Rewritten}
use Rattle.checkpoint.proofs.Places.{sound}
use Rattle.checkpoint.proofs.Gates.{shut_none, gate_torn, gate_opened, torn_rest, put_rest}
use Rattle.checkpoint.proofs.Bodies.{padded_reads, padded_last, gate_of}
use Rattle.checkpoint.proofs.Fronts.{head_beside}

pub has_head : (half : ℕ) (bytes : List ℕ) → HasHalf half bytes → IsInside (head_area half) bytes
has_head half bytes has = omega (arith, has, (sound half).some)

head_long : (half : ℕ) (bytes : List ℕ) → HasHalf half bytes
    → length (window (head_area half) bytes) ≡ (layout_of half).journal_at + 1
head_long half bytes has = length-window (head_area half) bytes (has_head half bytes has)

some_head : (half : ℕ) (bytes : List ℕ) → HasHalf half bytes → 0 < length (window (head_area half) bytes)
some_head half bytes has = omega (arith, head_long half bytes has)

module _ (half : ℕ) (old new : List ℕ) (lt : half < 4) where
  abbrev most : ℕ
  most = (layout_of half).state_max

  abbrev end : ℕ
  end = (layout_of half).journal_at

  behind_gate : 0 < end
  behind_gate = omega (arith, (sound half).fits)

  pub closes : InArea (head_area half) Quiet old new → MayClose half old new
  closes quiet = record {
    outside = quiet.outside;
    reads = quiet.inside most;
    beside = head_beside half old new lt quiet.outside;
  }

  -- a body that was put is read behind an open gate
  module _ (generation : ℕ) (state : List ℕ) (small : generation < 2 ^ 64) (short : length state ≤ most)
      (rewritten : InArea (head_area half) (Rewritten
      (padded end (record { generation = generation; state = state }))) old new) where
    pub stores : stored_in half new ≡ Some (record { generation = generation; state = state })
    stores = padded_reads end most generation state (omega (arith, (sound half).fits)) (sound half).short short
        (drop 1 (window (head_area half) new)) small rewritten.inside.behind

    pub can_open : IsNewer generation (half_of (other half) old) → CanOpen half new
    can_open newer =
        let above : IsNewer generation (half_of (other half) new) =
        subst (λ (o : Option Body). IsNewer generation o)
        (sym (head_beside half old new lt rewritten.outside)) newer in
        record {
          shut = rewritten.inside.shut;
          above = subst (λ (o : Option Body). IsAbove o (half_of (other half) new)) (sym stores) above;
          journal = padded_last end most generation state (omega (arith, (sound half).fits))
              (sound half).short short (window (head_area half) new)
              (omega (arith, (sound half).fits)) rewritten.inside.behind;
        }

  -- the first byte of a head is its half's gate
  gate_alone : HasHalf half old → InArea (head_area half) (Torn 0 1) old new → GateAlone half old new
  gate_alone has changed = subst (λ (at : ℕ). Torn at 1 old new) (omega arith)
      (torn_window (head_area half) 0 1 old new (omega arith) (has_head half old has) changed)

  put_gate : HasHalf half old → InArea (head_area half) (Puts 0 (1 ∷ [])) old new
      → InArea (head_area half) (Torn 0 1) old new
  put_gate has put = as_step (head_area half) (Puts 0 (1 ∷ [])) (Torn 0 1) old new put
      (λ is. subst (λ (y : List ℕ). Torn 0 1 (window (head_area half) old) y) (sym is)
      (put_torn 0 (1 ∷ []) (window (head_area half) old) (omega (arith, some_head half old has))))

  -- before its gate is opened
  pub still_shut : CanOpen half old → StaysShut half old old
  still_shut can = record {
    gate = torn_none (begins half) 1 old;
    reads = shut_none most (window (head_area half) old) can.shut;
    beside = refl;
  }

  pub may_open : HasHalf half old → CanOpen half old → InArea (head_area half) (Torn 0 1) old new → MayOpen half old new
  may_open has can torn =
      let gate = gate_alone has torn in
      elim (gate_torn most (window (head_area half) old) (window (head_area half) new) torn.inside) [
        | inl reads ↦ inr (record {
          gate = gate;
          reads = reads;
          beside = head_beside half old new lt torn.outside;
          journal = torn_rest (window (head_area half) old) (window (head_area half) new) end torn.inside behind_gate
              ∙ can.journal;
        })
        | inr none ↦ inl (record {
          gate = gate;
          reads = none;
          beside = head_beside half old new lt torn.outside;
        })
      ]

  pub opens : HasHalf half old → CanOpen half old → InArea (head_area half) (Puts 0 (1 ∷ [])) old new
      → Opens half old new
  opens has can put =
      let some = some_head half old has in
      record {
        gate = gate_alone has (put_gate has put);
        reads = gate_opened most (window (head_area half) old) (window (head_area half) new) some put.inside;
        beside = head_beside half old new lt put.outside;
        journal = put_rest 1 (window (head_area half) old) (window (head_area half) new) end some put.inside behind_gate
            ∙ can.journal;
      }

-- a gate lies in its head
pub gate_in_head : (half : ℕ) (old new : List ℕ) → GateAlone half old new
    → Torn (head_area half).at (head_area half).len old new
gate_in_head half old new gate =
    torn_wider (begins half) 1 (head_area half).at (head_area half).len old new (omega arith) (omega arith) gate

-- what a half that stays shut leaves is what `prepare` may
pub shut_closes : (half : ℕ) (old new : List ℕ) → StaysShut half old new → MayClose half old new
shut_closes half old new shut = record {
  outside = gate_in_head half old new shut.gate;
  reads = inr shut.reads;
  beside = shut.beside;
}

-- the gate of a head, as it is read
pub head_gate : (half : ℕ) (bytes : List ℕ) (area : Area) → area ≡ head_area half → HasHalf half bytes
    → (front : List ℕ) (gate : ℕ) → front ≡ take 13 (window area bytes) → gate ≡ get_or front 0 gate
    → gate ≡ get_or (window area bytes) 0 0
head_gate half bytes area is has front gate front_is read =
    gate_of (window area bytes) front 13 gate (omega arith)
    (omega (
      arith,
      ap (λ (a : Area). length (window a bytes)) is,
      head_long half bytes has,
      (sound half).fits,
    )) front_is read
