use Rattle.std.proofs.Common.{◌≡◌, ◌∷◌, ◌++◌, ◌<◌, ◌^◌, [], List, ℕ, length, Option, Some, None, Bor, ◌∙◌, ap}
use Rattle.std.specs.Option.{MatchOption}
use Rattle.wire.specs.Fields.{bytes_field, HasNoBytesField}
use Rattle.journal.specs.Records.{journal_list}
use Rattle.journal.proofs.Firsts.{whole_first, no_first}
use Rattle.journal.proofs.reading.first_record.Goals as goal

-- behind an open gate, what the field of bytes says
by_field : (bytes record_bytes : List ℕ) (taken : Option (Bor (List ℕ) × Bor (List ℕ))) → bytes ≡ 1 ∷ record_bytes
    → MatchOption taken (HasNoBytesField record_bytes)
    (λ r. (record_bytes ≡ bytes_field r.0.now ++ r.1.now) × (length r.0.now < 2 ^ 32))
    → MatchOption taken (journal_list bytes ≡ []) (λ r. journal_list bytes ≡ r.0.now ∷ journal_list r.1.now)
by_field bytes record_bytes None is none = ap journal_list is ∙ no_first record_bytes none
by_field bytes record_bytes (Some r) is some =
    ap journal_list is ∙ whole_first record_bytes r.0.now r.1.now some.1 some.0

pub returns-clause-list : goal.returns-clause-list
returns-clause-list c =
    let e = c.in_ok-gate.ensures in
    by_field c.args.bytes.now c.in_ok-gate.record.now c.take_bytes.result (e.cases.0
    ∙ ap (λ (gate : ℕ). gate ∷ c.in_ok-gate.record.now) c.if-gate-ne1.false) c.take_bytes.ensures
