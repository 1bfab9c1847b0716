-- The widths of a package's fields, and where its first part begins.
use Rattle.std.specs.Prelude.{ℕ, ◌+◌, ◌==◌, if◌then◌else◌}
use Rattle.package_reader.specs.declared.layout.TheConstants.{MARK_SIZE, COUNT_SIZE, LENGTH_SIZE, DIGEST_SIZE}

abbrev pub mark_size : ℕ
mark_size = MARK_SIZE

abbrev pub count_size : ℕ
count_size = COUNT_SIZE

abbrev pub length_size : ℕ
length_size = LENGTH_SIZE

abbrev pub digest_size : ℕ
digest_size = DIGEST_SIZE

-- behind the mark, and behind the number of parts where there are more than one
abbrev pub parts_place : ℕ → ℕ
parts_place count = if count == 1 then mark_size else mark_size + count_size
