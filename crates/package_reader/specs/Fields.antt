-- Where the fields of a package lie in its bytes, or the first of them that isn't there.
use Rattle.std.specs.Prelude.{ℕ, zero, suc, ◌+◌, ◌-◌, ◌≤◌, nat_le, nat_lt, Bool, not, ◌&&◌, ◌==◌, if◌then◌else◌, List, [], ◌∷◌, length, take, drop, get_or, codes, Result, Ok, Err}
use Rattle.std.specs.Int.{from_be_bytes, w32}
use Rattle.std.specs.Str.{bytes_eq}
use Rattle.sha2.specs.Sha256.{sha256}
use Rattle.ucm_base.specs.Limits.{manifest_limit, manifests_limit, part_limit}
use Rattle.package_reader.specs.Layout.{count_size, digest_size, length_size, mark_size}
use Rattle.package_reader.specs.declared.fault.PackageError.{PackageError}
use Rattle.package_reader.specs.declared.fault.PackageError.TheVariants.{PackageInconsistent}
use Rattle.package_reader.specs.declared.fields.Head.{Head}
use Rattle.package_reader.specs.declared.span.PartPlace.{PartPlace}
use Rattle.package_reader.specs.declared.span.Span.{Span}

-- what comes next, of a value; the first refusal stays
infixl 10 ◌>>=◌
abbrev pub ◌>>=◌ : {A B : Type 0} → Result A PackageError → (A → Result B PackageError) → Result B PackageError
(Ok a) >>= next = next a
(Err e) >>= next = Err e

-- the first four bytes of a package of one part, and of one of more
abbrev pub mark_of_one : List ℕ
mark_of_one = codes "SWP1"

abbrev pub mark_of_more : List ℕ
mark_of_more = codes "SWP2"

-- the bytes that the manifests' texts may have together
abbrev pub texts_limit : ℕ → ℕ
texts_limit count = if count == 1 then manifest_limit else manifests_limit

-- the place behind a span, and the bytes in it
abbrev pub end_of : Span → ℕ
end_of span = span.at + span.len

abbrev pub bytes_of : List ℕ → Span → List ℕ
bytes_of bytes span = take span.len (drop span.at bytes)

abbrev pub LiesWithin : List ℕ → Span → Type 0
LiesWithin bytes span = end_of span ≤ length bytes

-- the number that four bytes at a place spell
abbrev pub number_at : List ℕ → ℕ → ℕ
number_at bytes place = from_be_bytes w32 (take length_size (drop place bytes))

-- the block behind its length at a place
unfoldable pub block_at : List ℕ → ℕ → Result Span PackageError
block_at bytes place =
    let at = place + length_size in
    if nat_lt (length bytes) at then Err (PackageInconsistent place)
    else if nat_lt (length bytes) (at + number_at bytes place) then Err (PackageInconsistent at)
    else Ok (record { at = at; len = number_at bytes place })

-- a manifest's text, which may have so many bytes
abbrev pub text_at : List ℕ → ℕ → ℕ → Result Span PackageError
text_at bytes room place =
    if nat_lt room (number_at bytes place) then Err (PackageInconsistent place) else block_at bytes place

-- a part: its manifest's text and its payload
unfoldable pub part_at : List ℕ → ℕ → ℕ → Result PartPlace PackageError
part_at bytes room place = do
  text ← text_at bytes room place
  payload ← block_at bytes (end_of text)
  Ok (record { text = text; payload = payload })

-- so many parts, whose texts may have so many bytes together, and the place behind them
unfoldable pub parts_at : ℕ → List ℕ → ℕ → ℕ → Result (List PartPlace × ℕ) PackageError
parts_at zero bytes room place = Ok ([], place)
parts_at (suc n) bytes room place = do
  part ← part_at bytes room place
  more ← parts_at n bytes (room - part.text.len) (end_of part.payload)
  Ok (part ∷ more.0, more.1)

-- how many parts there are, and where they begin
abbrev pub head_of : List ℕ → Result Head PackageError
head_of bytes =
    let mark = take mark_size bytes in
    let count = get_or bytes mark_size 0 in
    if bytes_eq mark_of_one mark then Ok (record { count = 1; place = mark_size })
    else if not (bytes_eq mark_of_more mark) then Err (PackageInconsistent 0)
    else if nat_le 2 count && nat_le count part_limit then Ok (record { count = count; place = mark_size + count_size })
    else Err (PackageInconsistent mark_size)

-- the bytes from a place on begin with the digest of all before
abbrev pub has_digest_at : List ℕ → ℕ → Bool
has_digest_at bytes place = bytes_eq (sha256 (take place bytes)) (take digest_size (drop place bytes))

-- the digest at a place, with nothing behind it
abbrev pub end_at : List ℕ → ℕ → Result (Unit {0}) PackageError
end_at bytes place =
    if not (has_digest_at bytes place) then Err (PackageInconsistent place)
    else if nat_lt (place + digest_size) (length bytes) then Err (PackageInconsistent (place + digest_size))
    else Ok tt

-- where the parts lie in bytes that are whole
unfoldable pub fields_of : List ℕ → Result (List PartPlace) PackageError
fields_of bytes = do
  head ← head_of bytes
  parts ← parts_at head.count bytes (texts_limit head.count) head.place
  _ ← end_at bytes parts.1
  Ok parts.0
