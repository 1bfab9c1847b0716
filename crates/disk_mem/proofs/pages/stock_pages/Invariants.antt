use Rattle.std.proofs.Common.{◌≤◌, vec_len}
use Rattle.disk_mem.proofs.pages.stock_pages.Given as goal

abbrev pub invariant-loop-page : goal.invariant-loop-page
invariant-loop-page l = (l._page ≤ vec_len l.spare) × (vec_len l.initial.spare ≤ vec_len l.spare)
