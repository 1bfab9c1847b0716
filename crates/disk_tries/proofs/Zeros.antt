-- A journal on zeros is empty.
use Rattle.std.proofs.Common.{◌≡◌, ℕ, zero, suc, ◌<◌, ◌≤◌, List, [], length, take, drop, replicate, refl, sym, ◌∙◌, ap, subst, arith}
use Rattle.std.proofs.lemmas.List.{take-replicate, get_or-replicate, length-replicate}
use Rattle.disk_area.specs.declared.area.Area.{Area}
use Rattle.disk_area.specs.Windows.{window}
use Rattle.journal.specs.Records.{journal_list, taken}
use Rattle.journal.specs.Ready.{GoesOn, IsReady}
use Rattle.journal.proofs.Lists.{closed}

no_records : (n : ℕ) → journal_list (replicate n 0) ≡ []
no_records zero = refl
no_records (suc n) =
    let zeros : List ℕ = replicate n 0 in
    closed (suc (length zeros)) 0 zeros (λ one. omega (arith, one))

goes_on : (n : ℕ) → 0 < n → GoesOn 0 (replicate n 0)
goes_on n some = record {
  takes = ap taken (no_records n);
  room = omega (arith, some, length-replicate {A = ℕ} n 0);
  shut = λ one. omega (arith, one, get_or-replicate {A = ℕ} n 0 0 1 some);
}

pub ready_on_zeros : (area : Area) (size : ℕ) (image : List ℕ) → area.at ≡ 0 → 0 < area.len → area.len ≤ size
    → image ≡ replicate size 0 → IsReady area 0 image
ready_on_zeros area size image at some le is =
    let zeros : window area image ≡ replicate area.len 0 =
    (λ i. take area.len (drop (at i) (is i))) ∙ take-replicate area.len size 0 le in
    record {
      inside = omega (arith, at, le, ap length is, length-replicate {A = ℕ} size 0);
      goes_on = subst (λ (w : List ℕ). GoesOn 0 w) (sym zeros) (goes_on area.len some);
    }
