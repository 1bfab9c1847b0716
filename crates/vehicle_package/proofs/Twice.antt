-- Places at which a cluster is changed twice, one after the other.
use Rattle.std.proofs.Common.{◌≡◌, ℕ, suc, ◌+◌, ◌-◌, ◌<◌, ◌≤◌, List, [], ◌∷◌, ◌++◌, length, take, get_or, Option, Some, None, refl, sym, ◌∙◌, ap, arith}
use Rattle.std.specs.Prelude.{Bool, true, false, is_some, option_and_then, slice_get}
use Rattle.std.specs.List.{flat_map}
use Rattle.std.proofs.lemmas.Grind.{flat_map-append}
use Rattle.std.proofs.lemmas.List.{append-nil, take_more}
use Rattle.std.proofs.lemmas.Option.{slice_get_read}
use Rattle.package_reader.specs.Packed.{PackedOf}
use Rattle.vehicle_package.specs.Changes.{again_in, changed_before, changes_of, first_at, or_else_below, twice_at, twice_in}
use Rattle.vehicle_package.specs.declared.changes.Change.{Change}
use Rattle.vehicle_package.specs.declared.vehicle.Step.{Step}

module _ (packages : List PackedOf) (steps : List Step) (i : ℕ) where
  -- what a step more changes
  pub changed_more : (step : Step) → i < length steps → step ≡ get_or steps i step
      → changed_before packages steps i ++ changes_of packages step ≡ changed_before packages steps (i + 1)
  changed_more step lt is =
      let more : changed_before packages steps (i + 1) ≡ changed_before packages steps i ++ changes_of packages step =
      ap (flat_map (changes_of packages)) (take_more steps i step lt)
      ∙ flat_map-append (changes_of packages) (take i steps) (get_or steps i step ∷ [])
      ∙ (λ j. changed_before packages steps i ++ flat_map (changes_of packages) (sym is j ∷ []))
      ∙ ap (λ cs. changed_before packages steps i ++ cs) (append-nil (changes_of packages step)) in
      sym more

  -- of a step that is read, by what the others change
  pub at_step : (step : Step) (above changes : List Change) → i < length steps → step ≡ get_or steps i step
      → above ≡ changed_before packages steps i → changes ≡ changes_of packages step
      → twice_at packages steps i ≡ again_in above changes
  at_step step above changes lt is before here =
      ap (λ (o : Option Step). option_and_then (λ s. again_in (changed_before packages steps i) (changes_of packages s))
      o)
      (slice_get_read steps (length steps) i step refl lt is)
      ∙ (λ j. again_in (sym before j) (sym here j))

  one_place : i < length steps → first_at (twice_at packages steps) i (length steps - i)
      ≡ or_else_below (twice_at packages steps i) (first_at (twice_at packages steps) (i + 1) (length steps - (i + 1)))
  one_place lt =
      let k : length steps - i ≡ suc (length steps - (i + 1)) = omega arith in
      ap (first_at (twice_at packages steps) i) k

  -- where it has one, that is the first; where it has none, the first is one of those below
  pub is_first : (o : Option Change) → i < length steps → twice_at packages steps i ≡ o → true ≡ is_some o
      → first_at (twice_at packages steps) i (length steps - i) ≡ twice_in packages steps → o ≡ twice_in packages steps
  is_first None lt is some below = absurd (cc)
  is_first (Some c) lt is some below =
      sym (ap (λ o. or_else_below o (first_at (twice_at packages steps) (i + 1) (length steps - (i + 1)))) is)
      ∙ sym (one_place lt) ∙ below

  pub goes_below : (o : Option Change) → i < length steps → twice_at packages steps i ≡ o → false ≡ is_some o
      → first_at (twice_at packages steps) i (length steps - i) ≡ twice_in packages steps
      → first_at (twice_at packages steps) (i + 1) (length steps - (i + 1)) ≡ twice_in packages steps
  goes_below None lt is none below =
      sym (ap (λ o. or_else_below o (first_at (twice_at packages steps) (i + 1) (length steps - (i + 1)))) is)
      ∙ sym (one_place lt) ∙ below
  goes_below (Some c) lt is none below = absurd (cc)
