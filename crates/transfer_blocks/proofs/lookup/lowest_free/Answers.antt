use Rattle.std.proofs.Common.{◌≡◌, ◌∙◌, sym, ap, arith, true, false, not, ◌==◌}
use Rattle.std.specs.Prelude.{unwrap_or}
use Rattle.std.proofs.lemmas.List.Folds.{list_all-map}
use Rattle.ucm_base.specs.Limits.{transfer_limit}
use Rattle.pm_types.specs.declared.state.StoredTransfer.{StoredTransfer}
use Rattle.transfer_blocks.specs.Table.{is_free, slots_of}
use Rattle.transfer_blocks.proofs.Slots.{scan-next, scan-here}
use Rattle.transfer_blocks.proofs.lookup.lowest_free.Goals as goal

pub returns-then-is_free : goal.returns-then-is_free
returns-then-is_free c =
    let slots = slots_of c.args.all.now in
    let here : is_free slots c.loop-slot.slot ≡ true =
    list_all-map (λ other. not (other == c.loop-slot.slot)) (λ (t : StoredTransfer). t.slot) c.args.all.now
    ∙ sym c.is_free.ensures ∙ c.if-is_free.true in
    sym (ap (λ o. unwrap_or o 0) (c.loop-slot.invariant
    ∙ scan-here (is_free slots) c.loop-slot.slot transfer_limit (omega arith) here))

pub loop-slot-preserved : goal.loop-slot-preserved
loop-slot-preserved c =
    let slots = slots_of c.args.all.now in
    let here : is_free slots c.loop-slot.slot ≡ false =
    list_all-map (λ other. not (other == c.loop-slot.slot)) (λ (t : StoredTransfer). t.slot) c.args.all.now
    ∙ sym c.is_free.ensures ∙ c.if-is_free.false in
    c.loop-slot.invariant ∙ scan-next (is_free slots) c.loop-slot.slot transfer_limit (omega arith) here
