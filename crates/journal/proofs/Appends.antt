-- What the two writes of an append leave of the list.
use Rattle.std.proofs.Common.{◌≡◌, ◌≢◌, inl, inr, ℕ, suc, ◌+◌, ◌<◌, ◌≤◌, ◌^◌, List, [], ◌∷◌, ◌++◌, length, take, drop, get_or, refl, sym, ◌∙◌, ap, subst, arith, append_assoc, length-append, take-append-drop, w32}
use Rattle.std.specs.Int.{to_be_bytes}
use Rattle.std.proofs.lemmas.Nat.{from_be_bytes-to_be_bytes_4}
use Rattle.std.proofs.lemmas.List.{append-nil, take_at, drop_at, drop_more, length-take-le, take-take, get_or_at, get_or-take}
use Rattle.std.proofs.lemmas.Bool.{cases_eq}
use Rattle.disk_core.specs.Bytes.{put_at, Puts, Torn}
use Rattle.disk_core.proofs.Pieces.{put_torn}
use Rattle.wire.specs.Fields.{bytes_field}
use Rattle.journal.specs.Records.{number_of, records_in, journal_list, taken}
use Rattle.disk_area.specs.declared.area.Area.{Area}
use Rattle.disk_area.proofs.Windows.{length-window}
use Rattle.journal.specs.Ready.{GoesOn, IsReady, Grows, MayGrow}
use Rattle.journal.proofs.Lists.{extends, closed, opened, taken-push}

-- a window that is ready: its list, its gate and the rest
pub record Parts (used : ℕ) (w : List ℕ) : Type 0 where
  pub gate : ℕ
  pub rest : List ℕ
  pub is : w ≡ take used w ++ gate ∷ rest
  pub front : length (take used w) ≡ used
  pub takes : taken (journal_list w) ≡ used
  pub shut : gate ≢ 1

pub parts : (used : ℕ) (w : List ℕ) → taken (journal_list w) ≡ used → used < length w → get_or w used 1 ≢ 1
    → Parts used w
parts used w takes room shut = record {
  gate = get_or w used 1;
  rest = drop (used + 1) w;
  is = sym (take-append-drop used w) ∙ ap (λ (xs : List ℕ). take used w ++ xs) (drop_more w used 1 room);
  front = length-take-le used w (omega arith);
  takes = takes;
  shut = shut;
}

-- a window of this size that begins as a ready one goes on from its list
goes_on_from : (used : ℕ) (w new next : List ℕ) → Parts used w → new ≡ take used w ++ next → length new ≡ length w
    → journal_list new ≡ journal_list w ++ journal_list next
goes_on_from used w new next p is size =
    let whole : records_in (length w) (take used w ++ (p.gate ∷ p.rest)) ≡ journal_list w =
    ap (λ (xs : List ℕ). records_in (length w) xs) (sym p.is) in
    ap journal_list is ∙ ap (λ (n : ℕ). records_in n (take used w ++ next)) (sym (ap length is) ∙ size)
    ∙ extends (length w) (take used w) (p.gate ∷ p.rest) next (ap taken whole ∙ p.takes
    ∙ sym p.front) (omega (arith, sym (ap length is), size))
    ∙ ap (λ (ps : List (List ℕ)). ps ++ journal_list next) whole

-- a closed gate ends it there
shut_there : (used : ℕ) (w new : List ℕ) (gate : ℕ) (rest : List ℕ) → Parts used w
    → new ≡ take used w ++ gate ∷ rest → length new ≡ length w → gate ≢ 1 → journal_list new ≡ journal_list w
shut_there used w new gate rest p is size shut =
    goes_on_from used w new (gate ∷ rest) p is size
    ∙ ap (λ (ps : List (List ℕ)). journal_list w ++ ps) (closed (length (gate ∷ rest)) gate rest shut)
    ∙ append-nil (journal_list w)

-- a torn write behind the gate leaves the list
pub torn_body : (used n : ℕ) (w new : List ℕ) → Parts used w → Torn (used + 1) n w new
    → journal_list new ≡ journal_list w
torn_body used n w new p torn =
    let front : take (used + 1) w ≡ take used w ++ p.gate ∷ [] =
    ap (λ (xs : List ℕ). take (used + 1) xs) (p.is ∙ sym (append_assoc (take used w) (p.gate ∷ []) p.rest))
    ∙ take_at (take used w ++ p.gate ∷ []) p.rest (used + 1)
    (omega (arith, p.front, length-append (take used w) (p.gate ∷ []))) in
    let is : new ≡ take used w ++ p.gate ∷ drop (used + 1) new =
    sym (take-append-drop (used + 1) new) ∙ ap (λ (xs : List ℕ). xs ++ drop (used + 1) new) (torn.before ∙ front)
    ∙ append_assoc (take used w) (p.gate ∷ []) (drop (used + 1) new) in
    shut_there used w new p.gate (drop (used + 1) new) p is torn.size p.shut

-- the length's four bytes
abbrev pub four : (n : ℕ) → (a b c d : ℕ) × (to_be_bytes w32 n ≡ a ∷ b ∷ c ∷ d ∷ [])
four n = (_, _, _, _, refl)

-- the bytes behind the gate
abbrev pub body : List ℕ → List ℕ
body payload = bytes_field payload ++ 0 ∷ []

pub length-body : (payload : List ℕ) → length (body payload) ≡ 5 + length payload
length-body payload = omega (arith, length-append payload (0 ∷ []))

-- a whole record and a closed gate hold just this payload
one_record : (payload tail : List ℕ) (n : ℕ) → length payload < 2 ^ 32
    → records_in (suc n) (1 ∷ (body payload ++ tail)) ≡ payload ∷ []
unfolding number_of
one_record payload tail n short =
    let bytes = four (length payload) in
    let number : number_of bytes.0 bytes.1 bytes.2 bytes.3 ≡ length payload =
    from_be_bytes-to_be_bytes_4 (length payload) short in
    let same : body payload ++ tail ≡ bytes.0 ∷ bytes.1 ∷ bytes.2 ∷ bytes.3 ∷ (payload ++ 0 ∷ tail) =
    ap (λ (xs : List ℕ). bytes.0 ∷ bytes.1 ∷ bytes.2 ∷ bytes.3 ∷ xs) (append_assoc payload (0 ∷ []) tail) in
    ap (λ (xs : List ℕ). records_in (suc n) (1 ∷ xs)) same
    ∙ opened n bytes.0 bytes.1 bytes.2 bytes.3 payload (0 ∷ tail) number
    ∙ ap (λ (ps : List (List ℕ)). payload ∷ ps) (closed n 0 tail (λ z. omega (arith, z)))

module _ (used : ℕ) (w payload : List ℕ) (p : Parts used w) (short : length payload < 2 ^ 32)
    (fits : used + 1 + length (body payload) ≤ length w) where
  abbrev pub with_body : List ℕ
  with_body = put_at w (used + 1) (body payload)

  abbrev pub end : List ℕ
  end = drop (used + 1 + length (body payload)) w

  torn_in : Torn (used + 1) (length (body payload)) w with_body
  torn_in = put_torn (used + 1) (body payload) w fits

  -- where one byte at the gate is torn, this byte alone is open
  pub split : (c : List ℕ) → Torn used 1 with_body c → c ≡ take used w ++ get_or c used 1 ∷ (body payload ++ end)
  split c torn =
      let room : used < length c = omega (arith, torn.size, torn_in.size, fits) in
      let front : take used c ≡ take used w =
      torn.before ∙ sym (take-take used (used + 1) with_body (omega arith))
      ∙ ap (λ (xs : List ℕ). take used xs) torn_in.before ∙ take-take used (used + 1) w (omega arith) in
      let long : length (take (used + 1) w) ≡ used + 1 = length-take-le (used + 1) w (omega (arith, fits)) in
      let back : drop (used + 1) c ≡ body payload ++ end =
      torn.after ∙ ap (λ (xs : List ℕ). drop (used + 1) xs) (append_assoc (take (used + 1) w) (body payload) end)
      ∙ drop_at (take (used + 1) w) (body payload ++ end) (used + 1) long in
      sym (take-append-drop used c) ∙ ap (λ (xs : List ℕ). xs ++ drop used c) front
      ∙ ap (λ (xs : List ℕ). take used w ++ xs) (drop_more c used 1 room
      ∙ ap (λ (xs : List ℕ). get_or c used 1 ∷ xs) back)

  same_size : (c : List ℕ) → Torn used 1 with_body c → length c ≡ length w
  same_size c torn = torn.size ∙ torn_in.size

  pub is_longer : (c : List ℕ) → Torn used 1 with_body c → get_or c used 1 ≡ 1
      → journal_list c ≡ journal_list w ++ payload ∷ []
  is_longer c torn open_gate =
      let gate = get_or c used 1 in
      goes_on_from used w c (gate ∷ (body payload ++ end)) p (split c torn) (same_size c torn)
      ∙ ap (λ (k : ℕ). journal_list w ++ journal_list (k ∷ (body payload ++ end))) open_gate
      ∙ ap (λ (ps : List (List ℕ)). journal_list w ++ ps) (one_record payload end (length (body payload ++ end)) short)

  pub stays_shut : (c : List ℕ) → Torn used 1 with_body c → (get_or c used 1 ≡ 1 → ⊥) → journal_list c ≡ journal_list w
  stays_shut c torn shut = shut_there used w c (get_or c used 1) (body payload ++ end) p (split c torn)
      (same_size c torn) shut

  -- the next gate is closed
  pub next_gate : (c : List ℕ) → Torn used 1 with_body c → get_or c (used + (5 + length payload)) 1 ≡ 0
  next_gate c torn =
      let gate = get_or c used 1 in
      let pre : List ℕ = take used w ++ gate ∷ (to_be_bytes w32 (length payload) ++ payload) in
      let is : c ≡ pre ++ 0 ∷ end =
      split c torn
      ∙ ap (λ (xs : List ℕ). take used w ++ gate ∷ xs)
      (append_assoc (to_be_bytes w32 (length payload) ++ payload) (0 ∷ []) end)
      ∙ sym (append_assoc (take used w) (gate ∷ (to_be_bytes w32 (length payload) ++ payload)) (0 ∷ end)) in
      ap (λ (xs : List ℕ). get_or xs (used + (5 + length payload)) 1) is
      ∙ get_or_at pre 0 end 1 (used + (5 + length payload))
      (omega (arith, p.front, length-append (take used w) (gate ∷ (to_be_bytes w32 (length payload) ++ payload))))

  grown : (c : List ℕ) → Torn used 1 with_body c → get_or c used 1 ≡ 1 → Grows used payload w c
  grown c torn open_gate =
      let list = is_longer c torn open_gate in record {
        list = list;
        goes_on = record {
          takes = ap taken list ∙ taken-push (journal_list w) payload ∙ omega (arith, p.takes);
          room = omega (arith, same_size c torn, fits, length-body payload);
          shut = λ one. omega (arith, one, next_gate c torn);
        };
      }

  pub gate_torn : (c : List ℕ) → Torn used 1 with_body c → MayGrow used payload w c
  gate_torn c torn = elim (cases_eq (get_or c used 1) 1) [
    | inl open_gate ↦ inr (grown c torn open_gate)
    | inr shut ↦
        let list = stays_shut c torn shut in
        inl (record {
          list = list;
          goes_on = record {
            takes = ap taken list ∙ p.takes;
            room = omega (arith, same_size c torn, fits);
            shut = shut;
          };
        })
  ]

  pub gate_put : (c : List ℕ) → Puts used (1 ∷ []) with_body c → Grows used payload w c
  gate_put c is =
      let long : used + 1 ≤ length with_body = omega (arith, torn_in.size, fits) in
      let torn : Torn used 1 with_body c =
      subst (λ (x : List ℕ). Torn used 1 with_body x) (sym is) (put_torn used (1 ∷ []) with_body long) in
      let front : length (take used with_body) ≡ used = length-take-le used with_body (omega (arith, long)) in
      let open_gate : get_or c used 1 ≡ 1 =
      ap (λ (x : List ℕ). get_or x used 1) (is
      ∙ append_assoc (take used with_body) (1 ∷ [])
      (drop (used + 1) with_body)) ∙ get_or_at (take used with_body) 1 (drop (used + 1) with_body) 1 used front in
      grown c torn open_gate

-- over windows that go on
module _ (used : ℕ) (payload w : List ℕ) (short : length payload < 2 ^ 32)
    (fits : used + 6 + length payload ≤ length w) (ready : GoesOn used w) where
  parts_of : Parts used w
  parts_of = parts used w ready.takes ready.room ready.shut

  within : used + 1 + length (body payload) ≤ length w
  within = omega (arith, fits, length-body payload)

  pub none_written : MayGrow used payload w w
  none_written = inl (record { list = refl; goes_on = ready })

  pub body_torn : (c : List ℕ) → Torn (used + 1) (length (body payload)) w c → MayGrow used payload w c
  body_torn c torn =
      let list = torn_body used (length (body payload)) w c parts_of torn in
      inl (record {
        list = list;
        goes_on = record {
          takes = ap taken list ∙ ready.takes;
          room = omega (arith, ready.room, torn.size);
          shut = λ one. ready.shut (sym (get_or-take (used + 1) w used 1 (omega arith))
              ∙ ap (λ (xs : List ℕ). get_or xs used 1) (sym torn.before)
              ∙ get_or-take (used + 1) c used 1 (omega arith) ∙ one);
        };
      })

  pub torn_behind : (b c : List ℕ) → Puts (used + 1) (body payload) w b → Torn used 1 b c → MayGrow used payload w c
  torn_behind b c is torn = gate_torn used w payload parts_of short within c
      (subst (λ (x : List ℕ). Torn used 1 x c) is torn)

  pub both_put : (b c : List ℕ) → Puts (used + 1) (body payload) w b → Puts used (1 ∷ []) b c → Grows used payload w c
  both_put b c is put = gate_put used w payload parts_of short within c
      (subst (λ (x : List ℕ). Puts used (1 ∷ []) x c) is put)

pub ready_room : (area : Area) (used : ℕ) (image : List ℕ) → IsReady area used image → used < area.len
ready_room area used image ready = omega (arith, ready.goes_on.room, length-window area image ready.inside)
