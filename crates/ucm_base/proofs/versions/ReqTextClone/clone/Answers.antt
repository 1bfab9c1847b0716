use Rattle.std.proofs.Common.{◌≡◌, ◌∙◌, ap, map, refl, sym, arith, rules, Ok, List, [], ◌∷◌}
use Rattle.std.specs.List.{AllZip}
use Rattle.std.proofs.lemmas.Grind.{common_steps}
use Rattle.semver.specs.Identifiers.{comparator_view, pre_text}
use Rattle.ucm_base.proofs.versions.ReqTextClone.clone.Goals as goal

-- clones read as what they are of
clones-map : {X Y : Type 0} (R : X → X → Type 0) (f : X → Y) (xs ys : List X) → AllZip R xs ys
    → ((x y : X) → R x y → f y ≡ f x) → map f ys ≡ map f xs
clones-map R f [] [] h same = refl
clones-map R f [] (y ∷ ys) h same = absurd h
clones-map R f (x ∷ xs) [] h same = absurd h
clones-map R f (x ∷ xs) (y ∷ ys) h same = λ i. same x y h.0 i ∷ clones-map R f xs ys h.1 same i

pub invariant_of-result : goal.invariant_of-result
invariant_of-result c =
    c.self.invariant
    ∙ ap Ok (sym (clones-map _ comparator_view _ _ c.in_ok-clone.ensures.cases.0 (λ x y h.
    let major : y.major ≡ x.major = h.1.0 in
    let minor : y.minor ≡ x.minor = grind (arith, h) in
    let patch : y.patch ≡ x.patch = grind (arith, h) in
    let pre : pre_text y.pre ≡ pre_text x.pre = grind (arith, h) in
    let op : y.op ≡ x.op = search rules in
    λ i. (op i, major i, minor i, patch i, pre i))))
