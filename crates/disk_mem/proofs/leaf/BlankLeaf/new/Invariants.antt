use Rattle.std.proofs.Common.{◌≡◌, replicate, None}
use Rattle.disk_mem.proofs.leaf.BlankLeaf.new.Given as goal

abbrev pub invariant-loop-page : goal.invariant-loop-page
invariant-loop-page l = l.pages.items ≡ replicate l._page None
