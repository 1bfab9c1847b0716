use Rattle.std.proofs.Common.{◌≡◌, ◌++◌, ◌∙◌, ap, append_assoc, length, map, subst, sym}
use Rattle.std.specs.List.{AllByRecursion, flat_map}
use Rattle.std.proofs.lemmas.List.{length-map, take_all}
use Rattle.sha2.specs.Sha256.{sha256}
use Rattle.package_reader.specs.Printing.{canonical, package_text}
use Rattle.package_reader.specs.Spelling.{HasText, fields, front, sealed}
use Rattle.package_reader.proofs.Sizes.{fields-more, is_package, texts-more}
use Rattle.package_reader.proofs.print.seal_package.Goals as goal

pub parts-preserved : goal.parts-preserved
parts-preserved c =
    let more = fields-more c.args.parts.now c.parts.part-index c.part-item.result c.parts-test.true c.part-item.is in
    record {
      bytes = c.in_ok-put_part.ensures.put
          ∙ ap (λ xs. xs ++ fields (canonical c.part-item.result)) c.parts.invariant.bytes
          ∙ append_assoc (front (length c.args.parts.now)) _ (fields (canonical c.part-item.result))
          ∙ ap (λ xs. front (length c.args.parts.now) ++ xs) (sym more);
      texts = texts-more c.args.parts.now c.parts.part-index c.part-item.result c.parts-test.true c.part-item.is
          c.parts.invariant.texts c.in_ok-put_part.ensures.text;
    }

whole : (c : goal.In_ok-extend_from_slice) → c.parts.bytes.items ≡ front (length c.args.parts.now)
    ++ flat_map fields (map canonical c.args.parts.now)
whole c =
    c.parts.invariant.bytes
    ∙ ap (λ ps. front (length c.args.parts.now) ++ flat_map fields (map canonical ps))
    (take_all c.parts.part-index c.args.parts.now c.parts-test.false)

pub returns-clause-bytes : goal.returns-clause-bytes
unfolding package_text
returns-clause-bytes c =
    let digest = c.digest-digest.ensures ∙ ap sha256 (c.as_slice.ensures.value ∙ whole c) in
    c.in_ok-extend_from_slice.ensures.items ∙ (λ i. whole c i ++ digest i)
    ∙ ap (λ n. sealed (front n ++ flat_map fields (map canonical c.args.parts.now)))
    (sym (length-map c.args.parts.now canonical))

pub returns-clause-package : goal.returns-clause-package
returns-clause-package c are fit belong =
    is_package _ c.args.parts.now (returns-clause-bytes c)
    (subst (AllByRecursion HasText) (take_all c.parts.part-index c.args.parts.now c.parts-test.false)
    c.parts.invariant.texts) are fit belong
