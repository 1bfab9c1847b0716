-- What lies in the areas after a put.
use Rattle.std.proofs.Common.{◌≡◌, ◌≢◌, ◌⊎◌, inl, inr, ⊎_elim, ℕ, zero, suc, ◌<◌, ◌≤◌, ◌==◌, Bool, true, false, cond, [], length, get_or, set, refl, sym, ◌∙◌, ap, subst, arith, get_or-set_other, get_or-set_same}
use Rattle.std.proofs.lemmas.Bool.{cases_eq}
use Rattle.std.proofs.lemmas.List.{get_or-replicate, length-replicate, length-set}
use Rattle.ucm_base.specs.Limits.{transfer_limit, cluster_limit, package_limit}
use Rattle.ucm_base.specs.Parts.{Bytes}
use Rattle.pm_types.specs.Stored.{Areas}
use Rattle.transfer_blocks.specs.declared.area.Area.{Area}
use Rattle.transfer_blocks.specs.declared.area.Area.TheVariants.{Transfer, Side}
use Rattle.transfer_blocks.specs.Areas.{IsArea, on_pair, with_side, content_of, with_content, overwritten, no_contents, AreasFit, AgreesOutside, LeavesOutside}
use Rattle.transfer_blocks.proofs.Bytes.{agrees}

-- a side after another content is put there, and the other one
same_side : (side : ℕ) (content : Bytes) (pair : Bytes × Bytes) → on_pair side (with_side side content pair) ≡ content
same_side side content pair = by-test (side == 0)
  where
    by-test : (b : Bool)
        → cond b ((cond {A = Bytes × Bytes} b (content, pair.1) (pair.0, content)).0)
        ((cond {A = Bytes × Bytes} b (content, pair.1) (pair.0, content)).1) ≡ content
    by-test true = refl
    by-test false = refl

other_side : (side other : ℕ) (content : Bytes) (pair : Bytes × Bytes) → side < 2 → other < 2 → other ≢ side
    → on_pair other (with_side side content pair) ≡ on_pair other pair
other_side zero zero content pair is other_is differ = absurd (differ refl)
other_side zero (suc zero) content pair is other_is differ = refl
other_side (suc zero) zero content pair is other_is differ = refl
other_side (suc zero) (suc zero) content pair is other_is differ = absurd (differ refl)
other_side (suc (suc side)) other content pair is other_is differ = absurd (omega (arith, is))
other_side zero (suc (suc other)) content pair is other_is differ = absurd (omega (arith, other_is))
other_side (suc zero) (suc (suc other)) content pair is other_is differ = absurd (omega (arith, other_is))

-- two areas are the same, or not
pub same_area : (area other : Area) → (other ≡ area) ⊎ (other ≢ area)
same_area (Transfer slot) (Transfer other) =
    ⊎_elim (λ e. inl (ap Transfer e)) (λ n. inr (λ e. n cc)) (cases_eq other slot)
same_area (Transfer slot) (Side place side) = inr (λ e. absurd (cc e))
same_area (Side place side) (Transfer slot) = inr (λ e. absurd (cc e))
same_area (Side place side) (Side p s) =
    ⊎_elim (λ e. ⊎_elim (λ f. inl (λ i. Side (e i) (f i))) (λ n. inr (λ e. n cc)) (cases_eq s side)) (λ n.
    inr (λ e. n cc)) (cases_eq p place)

-- areas with nothing in them fit
pub nothing_fits : AreasFit no_contents
nothing_fits = record {
  slots = length-replicate {A = Bytes} transfer_limit [];
  sides =
      length-replicate {A = Bytes × Bytes} cluster_limit ([], []);
  contents = short;
}
  where
    short : (area : Area) → IsArea area → length (content_of area no_contents) ≤ package_limit
    short (Transfer slot) is = omega (arith, ap length (get_or-replicate {A = Bytes} transfer_limit slot [] [] is))
    short (Side place side) is =
        let none : on_pair side ([], []) ≡ [] = grind arith in
        omega (
          arith,
          ap (λ p. length (on_pair side p))
              (get_or-replicate {A = Bytes × Bytes} cluster_limit place ([], []) ([], []) is.0),
          ap length none,
        )

module _ (area : Area) (areas : Areas) (is : IsArea area) (fit : AreasFit areas) where
  -- the area holds what was put there
  pub content-here : (content : Bytes) → content_of area (with_content area content areas) ≡ content
  content-here = here area is
    where
      here : (area : Area) → IsArea area → (content : Bytes)
          → content_of area (with_content area content areas) ≡ content
      here (Transfer slot) is content = get_or-set_same areas.slots slot content [] (omega (arith, fit.slots, is))
      here (Side place side) is content =
          ap (on_pair side) (get_or-set_same areas.sides place _ ([], []) (omega (arith, fit.sides, is.0)))
          ∙ same_side side content _

  -- another area holds what it held
  pub content-elsewhere : (other : Area) (content : Bytes) → IsArea other → other ≢ area
      → content_of other (with_content area content areas) ≡ content_of other areas
  content-elsewhere other content = elsewhere area other is
    where
      elsewhere : (area other : Area) → IsArea area → IsArea other → other ≢ area
          → content_of other (with_content area content areas) ≡ content_of other areas
      elsewhere (Transfer slot) (Transfer other) is other_is differ =
          get_or-set_other areas.slots slot other content [] (λ e. differ (ap Transfer e))
      elsewhere (Transfer slot) (Side place side) is other_is differ = refl
      elsewhere (Side place side) (Transfer other) is other_is differ = refl
      elsewhere (Side place side) (Side p other) is other_is differ =
          let pair = get_or areas.sides place ([], []) in
          ⊎_elim
          (λ e. ap (λ k. on_pair other (get_or (set areas.sides place (with_side side content pair)) k ([], []))) e
          ∙ ap (on_pair other) (get_or-set_same areas.sides place (with_side side content pair) (
            [],
            [],
          ) (omega (arith, fit.sides, is.0)))
          ∙ other_side side other content pair is.1 other_is.1 (λ f. differ (λ i. Side (e i) (f i)))
          ∙ ap (λ k. on_pair other (get_or areas.sides k ([], []))) (sym e))
          (λ n. ap (on_pair other) (get_or-set_other areas.sides place p (with_side side content pair) ([], []) n))
          (cases_eq p place)

  -- the areas fit as before
  pub fits-with : (content : Bytes) → length content ≤ package_limit → AreasFit (with_content area content areas)
  fits-with content short = record {
    slots = slots area;
    sides = sides area;
    contents = λ other other_is. ⊎_elim
        (λ e. subst (λ a. length (content_of a (with_content area content areas)) ≤ package_limit) (sym e)
        (subst (λ (xs : Bytes). length xs ≤ package_limit) (sym (content-here content)) short))
        (λ n. subst (λ (xs : Bytes). length xs ≤ package_limit) (sym (content-elsewhere other content other_is n))
        (fit.contents other other_is))
        (same_area area other);
  }
    where
      slots : (area : Area) → length (with_content area content areas).slots ≡ transfer_limit
      slots (Transfer slot) = length-set areas.slots slot content ∙ fit.slots
      slots (Side place side) = fit.slots

      sides : (area : Area) → length (with_content area content areas).sides ≡ cluster_limit
      sides (Transfer slot) = fit.sides
      sides (Side place side) = length-set areas.sides place _ ∙ fit.sides

  -- a put that succeeds leaves what lies outside of the range too
  pub put-leaves : (at : ℕ) (bytes : Bytes) → at ≤ length (content_of area areas)
      → LeavesOutside area at (length bytes) areas
      (with_content area (overwritten at bytes (content_of area areas)) areas)
  put-leaves at bytes le =
      let content = overwritten at bytes (content_of area areas) in record {
        here = subst (AgreesOutside at (length bytes) (content_of area areas)) (sym (content-here content))
            (agrees at bytes (content_of area areas) le);
        elsewhere = ap (λ (xs : Bytes). with_content area xs areas) (sym (content-here content));
      }

  -- where a put left what lies outside of its range, another area stands
  pub elsewhere-stands : (other : Area) (at n : ℕ) (new : Areas) → IsArea other → other ≢ area
      → LeavesOutside area at n areas new → content_of other new ≡ content_of other areas
  elsewhere-stands other at n new other_is differ left =
      ap (content_of other) left.elsewhere ∙ content-elsewhere other (content_of area new) other_is differ
