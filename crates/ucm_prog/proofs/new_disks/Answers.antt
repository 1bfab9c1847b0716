use Rattle.std.proofs.Common.{◌≡◌, ◌∷◌, ◌++◌, ◌+◌, [], refl, sym, ap, subst, ◌∙◌, arith, length-append}
use Rattle.slot_store.specs.Extents.{node_end}
use Rattle.ucm_prog.specs.Disks.{AreDisks, master_end}
use Rattle.ucm_prog.proofs.MemDisks.{Is, are_disks, new_unused, one_more}
use Rattle.ucm_prog.proofs.new_disks.Goals as goal

pub nodes-init : goal.nodes-init
nodes-init c =
    let d = c.in_ok-new.field-0 in
    record {
      master = d;
      others = [];
      are = c.in_ok-push.ensures.items ∙ ap (λ l. l ++ d ∷ []) c.new-disks.ensures.items;
      unused = new_unused master_end d c.in_ok-new.ensures.zeros c.in_ok-new.ensures.nothing_pending
          c.in_ok-new.ensures.no_plan;
      each = tt;
      count = refl;
      few = omega arith;
    }

pub nodes-preserved : goal.nodes-preserved
nodes-preserved c =
    let i = c.nodes.invariant in
    let d = c.in_ok-new-2.field-0 in
    record {
      master = i.master;
      others = i.others ++ d ∷ [];
      are = c.in_ok-push-2.ensures.items ∙ ap (λ l. l ++ d ∷ []) i.are;
      unused = i.unused;
      each = one_more (Is node_end) i.others d i.each (new_unused node_end d c.in_ok-new-2.ensures.zeros
          c.in_ok-new-2.ensures.nothing_pending c.in_ok-new-2.ensures.no_plan);
      count = length-append i.others (d ∷ []) ∙ ap (λ n. n + 1) i.count;
      few = omega (arith, c.nodes-test.true);
    }

pub returns : goal.returns
returns c =
    let i = c.nodes.invariant in
    subst (AreDisks Is) (sym i.are)
    (are_disks i.master i.others i.unused (omega (arith, i.count, c.nodes-test.false)) i.each)
