use Rattle.wire.proofs.Spelled.{same_bytes}
use Rattle.wire.proofs.unique.no_spelling_begins_another.Goals as goal

pub returns-clause-byte_strings : goal.returns-clause-byte_strings
returns-clause-byte_strings c = same_bytes
