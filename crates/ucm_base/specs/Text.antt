-- What is printed of numbers of calls.
use Rattle.std.specs.Prelude.{ℕ, List, ◌++◌, codes}
use Rattle.std.specs.Fmt.{decimal}
use Rattle.ucm_base.specs.declared.ids.CallNo.{CallNo}

-- the epoch, a point, and the number
abbrev pub call_no_text : CallNo → List ℕ
call_no_text call_no = decimal call_no.epoch ++ codes "." ++ decimal call_no.number
