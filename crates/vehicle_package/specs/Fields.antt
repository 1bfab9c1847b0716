-- Where the fields of a vehicle package lie in its bytes, or the first of them that isn't there.
use Rattle.std.specs.Prelude.{ℕ, zero, suc, ◌+◌, nat_le, nat_lt, Bool, not, ◌&&◌, if◌then◌else◌, List, [], ◌∷◌, length, take, drop, codes, Result, Ok, Err}
use Rattle.std.specs.Int.{from_be_bytes, w16}
use Rattle.std.specs.Str.{bytes_eq}
use Rattle.ucm_base.specs.Limits.{carried_limit, package_limit, plan_limit, vehicle_limit}
use Rattle.ucm_base.specs.Parts.{Bytes}
use Rattle.package_reader.specs.Fields.{end_of, has_digest_at, number_at}
use Rattle.package_reader.specs.declared.span.Span.{Span}
use Rattle.vehicle_package.specs.declared.fault.VehicleError.{VehicleError}
use Rattle.vehicle_package.specs.declared.fault.VehicleError.TheVariants.{VehicleInconsistent}

-- what comes next, of a value; the first refusal stays
infixl 10 ◌>>=◌
abbrev pub ◌>>=◌ : {A B : Type 0} → Result A VehicleError → (A → Result B VehicleError) → Result B VehicleError
(Ok a) >>= next = next a
(Err e) >>= next = Err e

-- the first four bytes
abbrev pub mark : Bytes
mark = codes "VHP1"

-- where the plan's text and the packages lie
pub record FieldsOf : Type 0 where
  pub plan : Span
  pub packages : List Span

-- at most 33,554,432 bytes, and the mark
abbrev pub start_of : Bytes → Result (Unit {0}) VehicleError
start_of bytes =
    if nat_lt vehicle_limit (length bytes) then Err (VehicleInconsistent vehicle_limit)
    else if not (bytes_eq mark (take 4 bytes)) then Err (VehicleInconsistent 0)
    else Ok tt

-- the block behind its length at a place, which may have so many bytes
unfoldable pub block_at : Bytes → ℕ → ℕ → Result Span VehicleError
block_at bytes most place =
    if nat_lt (length bytes) (place + 4) then Err (VehicleInconsistent place)
    else if nat_lt most (number_at bytes place) then Err (VehicleInconsistent place)
    else if nat_lt (length bytes) (place + 4 + number_at bytes place) then Err (VehicleInconsistent (place + 4))
    else Ok (record { at = place + 4; len = number_at bytes place })

-- the number that two bytes at a place spell
abbrev pub short_at : Bytes → ℕ → ℕ
short_at bytes place = from_be_bytes w16 (take 2 (drop place bytes))

-- 1 to 128 packages
abbrev pub is_count : ℕ → Bool
is_count n = nat_le 1 n && nat_le n carried_limit

-- how many packages there are
unfoldable pub count_at : Bytes → ℕ → Result ℕ VehicleError
count_at bytes place =
    if nat_lt (length bytes) (place + 2) then Err (VehicleInconsistent place)
    else if is_count (short_at bytes place) then Ok (short_at bytes place)
    else Err (VehicleInconsistent place)

-- so many packages, and the place behind them
unfoldable pub packages_at : ℕ → Bytes → ℕ → Result (List Span × ℕ) VehicleError
packages_at zero bytes place = Ok ([], place)
packages_at (suc n) bytes place = do
  span ← block_at bytes package_limit place
  more ← packages_at n bytes (end_of span)
  Ok (span ∷ more.0, more.1)

-- the digest at a place, with nothing behind it
abbrev pub end_at : Bytes → ℕ → Result (Unit {0}) VehicleError
end_at bytes place =
    if not (has_digest_at bytes place) then Err (VehicleInconsistent place)
    else if nat_lt (place + 32) (length bytes) then Err (VehicleInconsistent (place + 32))
    else Ok tt

-- where the plan and the packages lie in bytes that are whole
unfoldable pub fields_of : Bytes → Result FieldsOf VehicleError
fields_of bytes = do
  _ ← start_of bytes
  plan ← block_at bytes plan_limit 4
  count ← count_at bytes (end_of plan)
  found ← packages_at count bytes (end_of plan + 2)
  _ ← end_at bytes found.1
  Ok (record { plan = plan; packages = found.0 })
