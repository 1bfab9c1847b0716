use Rattle.std.proofs.Common.{◌∙◌, ◌++◌, sym, ap, arith}
use Rattle.dependency_check.proofs.Halves.{before-rises, behind-rises, less, equal, greater}
use Rattle.dependency_check.proofs.unmet.+is_met.Goals as goal

pub is_met-requires : goal.is_met-requires
is_met-requires t c =
    let first = c.in-Some.ensures.cases in
    let cut = c.split_at.ensures.by_index.0 ∙ ap (λ ys. c.split_at.result.0.now ++ ys) first.0 in
    (omega (arith, first.1), before-rises _ _ _ _ c.args.need.now cut c.requires.rise)

pub is_met-requires-in-Greater : goal.is_met-requires-in-Greater
is_met-requires-in-Greater t c =
    let first = c.in-Some.ensures.cases in
    let cut = c.split_at.ensures.by_index.0 ∙ ap (λ ys. c.split_at.result.0.now ++ ys) first.0 in
    (omega (arith, first.1), behind-rises _ _ _ _ c.args.need.now cut c.requires.rise)

pub returns-in-Less : goal.returns-in-Less
returns-in-Less t c =
    let cut =
    c.split_at.ensures.by_index.0 ∙ ap (λ ys. c.split_at.result.0.now ++ ys) c.in-Some.ensures.cases.0 in
    c.is_met.ensures ∙ sym (less _ _ _ _ c.args.need.now cut c.requires.rise (sym c.in-Less.ensures))

pub returns-in-Equal : goal.returns-in-Equal
returns-in-Equal t c =
    let cut =
    c.split_at.ensures.by_index.0 ∙ ap (λ ys. c.split_at.result.0.now ++ ys) c.in-Some.ensures.cases.0 in
    c.accepts.ensures ∙ sym (equal _ _ _ _ c.args.need.now cut c.requires.rise (sym c.in-Equal.ensures))

pub returns-in-Greater : goal.returns-in-Greater
returns-in-Greater t c =
    let cut =
    c.split_at.ensures.by_index.0 ∙ ap (λ ys. c.split_at.result.0.now ++ ys) c.in-Some.ensures.cases.0 in
    c.is_met-in-Greater.ensures ∙ sym (greater _ _ _ _ c.args.need.now cut c.requires.rise (sym c.in-Greater.ensures))
