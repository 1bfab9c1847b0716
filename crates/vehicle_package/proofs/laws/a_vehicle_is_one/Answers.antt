use Rattle.std.proofs.Common.{sym, ◌∙◌}
use Rattle.vehicle_package.proofs.Again.{vehicle_is_read}
use Rattle.vehicle_package.proofs.Steps.{ok_is}
use Rattle.vehicle_package.proofs.Taken.{reading_is_vehicle}
use Rattle.vehicle_package.proofs.laws.a_vehicle_is_one.Goals as goal

pub returns-clause-one : goal.returns-clause-one
returns-clause-one c bytes v w is was = ok_is v w (sym (vehicle_is_read bytes v is) ∙ vehicle_is_read bytes w was)

pub returns-clause-read : goal.returns-clause-read
returns-clause-read c bytes v small = (reading_is_vehicle bytes small v, vehicle_is_read bytes v)
