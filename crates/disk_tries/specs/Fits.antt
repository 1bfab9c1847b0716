-- When a disk has room for a pair of halves.
use Rattle.std.specs.Prelude.{ℕ, ◌+◌, ◌≤◌}
use Rattle.checkpoint.specs.declared.layout.Layout.{Layout}

-- the pair of this layout ends within so many bytes
abbrev pub Fits : ℕ → Layout → Type 0
Fits size layout = layout.upper + layout.journal_at + layout.journal_len ≤ size
