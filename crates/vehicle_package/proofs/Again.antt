-- Each vehicle package is read.
use Rattle.std.proofs.Common.{◌≡◌, ℕ, suc, ◌+◌, ◌<◌, ◌≤◌, ◌^◌, true, false, nat_lt, nat_le, List, [], ◌∷◌, ◌++◌, length, take, drop, map, Some, Result, Ok, Err, refl, sym, ◌∙◌, ap, arith, add-zero, append_assoc, w16}
use Rattle.std.specs.Int.{from_be_bytes}
use Rattle.std.specs.List.{AllByRecursion, flat_map}
use Rattle.std.specs.Str.{bytes_eq}
use Rattle.std.proofs.lemmas.Bool.{and_from, le-leb, le-ltb}
use Rattle.std.proofs.lemmas.List.{drop_at, length-append, length-map, take_all, take_at}
use Rattle.std.proofs.lemmas.List.Concat.{flat_map-cons}
use Rattle.std.proofs.lemmas.Nat.{from_be_bytes-to_be_bytes_2}
use Rattle.std.proofs.lemmas.Slice.Eq.{bytes_eq-Decides}
use Rattle.sha2.specs.Sha256.{sha256}
use Rattle.sha2.proofs.Facts256.{length-sha256}
use Rattle.wire.specs.Fields.{bytes_field, u16_field}
use Rattle.ucm_base.specs.Limits.{carried_limit, package_limit, plan_limit, vehicle_limit}
use Rattle.ucm_base.specs.Parts.{Bytes}
use Rattle.package_reader.specs.Fields.{bytes_of, end_of}
use Rattle.package_reader.specs.Packed.{PackedOf}
use Rattle.package_reader.specs.declared.span.Span.{Span}
use Rattle.package_reader.proofs.Again.{package_is_read}
use Rattle.package_reader.proofs.Blocks.{spelled_block}
use Rattle.vehicle_package.specs.Fields.{block_at, count_at, fields_of, is_count, mark, packages_at, short_at}
use Rattle.vehicle_package.specs.Reading.{packages_in, vehicle_of}
use Rattle.vehicle_package.specs.Spelling.{IsCarried, IsVehicle, body}
use Rattle.vehicle_package.specs.declared.vehicle.Vehicle.{Vehicle}

-- the block that is spelled at a place
block_again : (bytes front value rest : Bytes) (most place : ℕ) → bytes ≡ front ++ (bytes_field value ++ rest)
    → length front ≡ place → length value ≤ most → most < 2 ^ 32
    → (block_at bytes most place ≡ Ok (record { at = place + 4; len = length value }))
    × (bytes_of bytes (record { at = place + 4; len = length value }) ≡ value)
unfolding block_at
block_again bytes front value rest most place e len short few =
    let one = spelled_block bytes front value rest place e len (omega (arith, short, few)) in
    let all : place + 4 + length value ≤ length bytes =
    omega (
      arith,
      ap length e,
      length-append front (bytes_field value ++ rest),
      length-append (bytes_field value) rest,
      len,
    ) in
    let head = le-ltb (length bytes) (place + 4) (omega (arith, all)) in
    let within = le-ltb most (length value) short in
    let tail = le-ltb (length bytes) (place + 4 + length value) all in
    (rw (head, one.0, within, tail) refl, one.2)

-- the number that is spelled at a place
count_again : (bytes front rest : Bytes) (n place : ℕ) → bytes ≡ front ++ (u16_field n ++ rest) → length front ≡ place
    → 1 ≤ n → n ≤ carried_limit → count_at bytes place ≡ Ok n
unfolding count_at
count_again bytes front rest n place e len some few =
    let from : drop place bytes ≡ u16_field n ++ rest = ap (drop place) e ∙ drop_at front _ place len in
    let number : short_at bytes place ≡ n = ap (λ (xs : List ℕ). from_be_bytes w16 (take 2 xs)) from
    ∙ from_be_bytes-to_be_bytes_2 n (omega (arith, few)) in
    let long =
    le-ltb (length bytes) (place + 2) (omega (
      arith,
      ap length e,
      length-append front (u16_field n ++ rest),
      length-append (u16_field n) rest,
      len,
    )) in
    let is : is_count n ≡ true = and_from _ _ (le-leb 1 n some) (le-leb n carried_limit few) in
    rw (long, number, is) refl

module _ (bytes : Bytes) where
  again : (bs : List Bytes) (front rest : Bytes) (place : ℕ) → bytes ≡ front ++ (flat_map bytes_field bs ++ rest)
      → length front ≡ place → AllByRecursion (λ b. length b ≤ package_limit) bs
      → (spans : List Span)
      × (packages_at (length bs) bytes place ≡ Ok (spans, place + length (flat_map bytes_field bs)))
      × (map (bytes_of bytes) spans ≡ bs)
  unfolding packages_at
  again [] front rest place e len small = ([], rw add-zero refl, refl)
  again (b ∷ bs) front rest place e len small =
      let here : flat_map bytes_field (b ∷ bs) ≡ bytes_field b ++ flat_map bytes_field bs =
      flat_map-cons bytes_field b bs in
      let split : bytes ≡ front ++ (bytes_field b ++ (flat_map bytes_field bs ++ rest)) =
      e ∙ ap (λ xs. front ++ (xs ++ rest)) here
      ∙ ap (λ xs. front ++ xs) (append_assoc (bytes_field b) (flat_map bytes_field bs) rest) in
      let one = block_again bytes front b (flat_map bytes_field bs ++ rest) package_limit place split len small.0
      (omega arith) in
      let span : Span = record { at = place + 4; len = length b } in
      let more = again bs (front ++ bytes_field b) rest (end_of span) (split
      ∙ sym (append_assoc front (bytes_field b) (flat_map bytes_field bs ++ rest)))
      (omega (arith, len, length-append front (bytes_field b))) small.1 in
      let all : end_of span + length (flat_map bytes_field bs) ≡ place + length (flat_map bytes_field (b ∷ bs)) =
      omega (arith, ap length here, length-append (bytes_field b) (flat_map bytes_field bs)) in
      (span ∷ more.0, rw (one.0, more.1, all) refl, (λ i. one.1 i ∷ more.2 i))

small_ones : (ps : List PackedOf) → AllByRecursion IsCarried ps
    → AllByRecursion (λ b. length b ≤ package_limit) (map (λ p. p.bytes) ps)
small_ones [] each = tt
small_ones (p ∷ ps) each = (each.0.small, small_ones ps each.1)

read-again : (i : ℕ) (ps : List PackedOf) → AllByRecursion IsCarried ps → packages_in i (map (λ p. p.bytes) ps) ≡ Ok ps
read-again i [] each = refl
read-again i (p ∷ ps) each = rw (package_is_read p.bytes p.parts each.0.is, read-again (i + 1) ps each.1) refl

-- each vehicle package is read
pub vehicle_is_read : (bytes : Bytes) (v : Vehicle) → IsVehicle bytes v → vehicle_of bytes ≡ Ok v
unfolding fields_of vehicle_of
vehicle_is_read bytes v is =
    let plan = is.plan in
    let bs = map (λ (p : PackedOf). p.bytes) v.packages in
    let n = length bs in
    let many : n ≡ length v.packages = length-map v.packages (λ (p : PackedOf). p.bytes) in
    let flat = flat_map bytes_field bs in
    let all = body plan bs in
    let digest = sha256 all in
    let three : bytes ≡ ((mark ++ bytes_field plan) ++ u16_field n) ++ (flat ++ digest) =
    is.spelled ∙ append_assoc ((mark ++ bytes_field plan) ++ u16_field n) flat digest in
    let two : bytes ≡ (mark ++ bytes_field plan) ++ (u16_field n ++ (flat ++ digest)) =
    three ∙ append_assoc (mark ++ bytes_field plan) (u16_field n) (flat ++ digest) in
    let one : bytes ≡ mark ++ (bytes_field plan ++ (u16_field n ++ (flat ++ digest))) =
    two ∙ append_assoc mark (bytes_field plan) (u16_field n ++ (flat ++ digest)) in
    let start = le-ltb vehicle_limit (length bytes) is.whole in
    let marked =
    (bytes_eq-Decides mark (take 4 bytes)).1
    (sym (ap (take 4) one ∙ take_at mark (bytes_field plan ++ (u16_field n ++ (flat ++ digest))) 4 refl)) in
    let block = block_again bytes mark plan (u16_field n ++ (flat ++ digest)) plan_limit 4 one refl is.short
    (omega arith) in
    let place = 4 + 4 + length plan in
    let front-len : length (mark ++ bytes_field plan) ≡ place = omega (arith, length-append mark (bytes_field plan)) in
    let count = count_again bytes (mark ++ bytes_field plan) (flat ++ digest) n place two front-len
    (omega (arith, many, is.some)) (omega (arith, many, is.few)) in
    let behind-len : length ((mark ++ bytes_field plan) ++ u16_field n) ≡ place + 2 =
    omega (arith, front-len, length-append (mark ++ bytes_field plan) (u16_field n)) in
    let walked = again bytes bs ((mark ++ bytes_field plan) ++ u16_field n) digest (place + 2) three behind-len
    (small_ones v.packages is.each) in
    let end = place + 2 + length flat in
    let len : length all ≡ end =
    omega (arith, behind-len, length-append ((mark ++ bytes_field plan) ++ u16_field n) flat) in
    let before : take end bytes ≡ all = ap (take end) is.spelled ∙ take_at all digest end len in
    let last-digest : take 32 (drop end bytes) ≡ digest =
    ap (λ xs. take 32 (drop end xs)) is.spelled ∙ ap (take 32) (drop_at all digest end len)
    ∙ take_all 32 digest (omega (arith, length-sha256 all)) in
    let same = (bytes_eq-Decides (sha256 (take end bytes)) (take 32 (drop end bytes))).1 (ap sha256 before
    ∙ sym last-digest) in
    let last =
    le-ltb (end + 32) (length bytes) (omega (
      arith,
      ap length is.spelled,
      length-append all digest,
      length-sha256 all,
      len,
    )) in
    let counted : length walked.0 ≡ length v.packages =
    sym (length-map walked.0 (bytes_of bytes)) ∙ ap length walked.2 ∙ many in
    let packages : packages_in 0 (map (bytes_of bytes) walked.0) ≡ Ok v.packages =
    ap (packages_in 0) walked.2 ∙ read-again 0 v.packages is.each in
    rw (start, marked, block.0, count, walked.1, same, last, counted, block.1, is.steps, packages, is.once) refl
