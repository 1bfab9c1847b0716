use Rattle.std.proofs.Common.{sym, ◌∙◌}
use Rattle.package_reader.proofs.Again.{package_is_read}
use Rattle.package_reader.proofs.Blocks.{ok_is}
use Rattle.package_reader.proofs.Readings.{reading_are_parts, reading_is_package}
use Rattle.package_reader.proofs.laws.a_package_is_one.Goals as goal

pub returns-clause-one : goal.returns-clause-one
returns-clause-one c bytes parts others is was =
    ok_is parts others (sym (package_is_read bytes parts is) ∙ package_is_read bytes others was)

pub returns-clause-read : goal.returns-clause-read
returns-clause-read c bytes parts small = (reading_is_package bytes parts small, package_is_read bytes parts)

pub returns-clause-parts : goal.returns-clause-parts
returns-clause-parts c bytes parts is = reading_are_parts bytes parts is
