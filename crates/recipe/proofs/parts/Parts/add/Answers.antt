use Rattle.std.proofs.Common.{◌≡◌, ◌∙◌, ap, arith, length, sym}
use Rattle.std.specs.List.{list_any}
use Rattle.std.specs.Str.{bytes_eq}
use Rattle.ucm_base.specs.Parts.{cluster_of}
use Rattle.recipe.proofs.With.{is-full, stands-twice}
use Rattle.recipe.proofs.parts.Parts.add.Goals as goal

pub returns-then-has_cluster : goal.returns-then-has_cluster
returns-then-has_cluster c =
    let here = ap (list_any (λ part. bytes_eq (cluster_of part) (cluster_of c.args.part)))
    (sym c.as_slice.ensures.parts) in
    (tt, stands-twice c.args.self.now c.args.part (here ∙ sym c.has_cluster.ensures ∙ c.if-has_cluster.true))

pub returns-then-as_slice-ge-PART_LIMIT : goal.returns-then-as_slice-ge-PART_LIMIT
returns-then-as_slice-ge-PART_LIMIT c =
    let here = ap (list_any (λ part. bytes_eq (cluster_of part) (cluster_of c.args.part)))
    (sym c.as_slice.ensures.parts) in (
      tt,
      is-full c.args.self.now c.args.part (here ∙ sym c.has_cluster.ensures
          ∙ c.if-has_cluster.false) (omega (
            arith,
            ap length c.as_slice-2.ensures.parts,
            c.if-as_slice-ge-PART_LIMIT.true,
          )),
    )
