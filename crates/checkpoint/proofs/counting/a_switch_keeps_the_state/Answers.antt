use Rattle.std.proofs.Common.{subst, sym, ◌∙◌, Option}
use Rattle.checkpoint.specs.Halves.{Body, other, half_of}
use Rattle.checkpoint.specs.Counting.{IsAbove}
use Rattle.checkpoint.proofs.Fronts.{journal_kept}
use Rattle.checkpoint.proofs.Counts.{closing_counting, opening_counting, same_counting}
use Rattle.checkpoint.proofs.Switches.{still_shut, gate_in_head}
use Rattle.checkpoint.proofs.counting.a_switch_keeps_the_state.Goals as goal

pub returns-clause-closing : goal.returns-clause-closing
returns-clause-closing c tells half old new lt spare may = record {
  counts = closing_counting tells half lt old new spare may;
  records = journal_kept half old new lt may.outside;
}

pub returns-clause-shut : goal.returns-clause-shut
returns-clause-shut c tells half old new lt can shut = record {
  counts = same_counting tells half lt old new (shut.reads ∙ sym (still_shut half old old lt can).reads) shut.beside;
  records = journal_kept half old new lt (gate_in_head half old new shut.gate);
}

pub returns-clause-opening : goal.returns-clause-opening
returns-clause-opening c tells half body old new lt can opens stored passes =
    opening_counting tells half lt old new body opens stored passes
    (subst (λ (o : Option Body). IsAbove o (half_of (other half) old)) stored can.above)
