-- The units of a package's parts, one after another.
use Rattle.node_core.proofs.Names.{AllByRecursion, AreCopied, Areas, Bool, Bytes, Extent, LieWithin, List, Part, Piece, Some, all_units}
use Rattle.node_core.proofs.Names.{and_parts, ap, arith, block_limit, change_meaning, changes_to, drop, drop-drop, drop-take, each-imp, each-unmap}
use Rattle.node_core.proofs.Names.{eqb-false, false, if◌then◌else◌, length, length-take, ltb-false, ltb-true, map, min, nat_lt, not, not-true, on_side, payload_at}
use Rattle.node_core.proofs.Names.{piece_of, refl, slots_differ, subst, sum_by-cons, sym, take, take-add, take-take, take_all, true, units_of}
use Rattle.node_core.proofs.Names.{with_length, [], ℕ, ◌*◌, ◌++◌, ◌+◌, ◌-◌, ◌<◌, ◌==◌, ◌∙◌, ◌∷◌, ◌≡◌, ◌≢◌, ◌≤◌}
use Rattle.pm_types.specs.Clusters.{changes_of}
use Rattle.node_core.proofs.Lists.{all-each}
use Rattle.node_core.proofs.Names.{from_be_bytes, w32, list_all, slice_index_or}
use Rattle.node_core.proofs.Names.{PartsLie, get_or}
use Rattle.std.proofs.lemmas.Bool.{le-ltb}
use Rattle.std.proofs.lemmas.List.{drop_more}
use Rattle.node_core.proofs.Placing.{Match}

-- no unit need lie anywhere
pub none-done : (areas : Areas) (parts : List (Part Bytes)) (extents : List Extent) → AreCopied areas 0 parts extents
none-done areas [] extents = tt
none-done areas (part ∷ parts) [] = tt
none-done areas (part ∷ parts) (extent ∷ extents) = (
  refl,
  subst (λ n. AreCopied areas n parts extents) (let z : 0 ≡ 0 - units_of (length part.payload) = omega arith in
      z) (none-done areas parts extents),
)

-- the units that lie in some areas lie in others that hold the same
pub same-copied : (old new : Areas) (done : ℕ) (parts : List (Part Bytes)) (extents : List Extent)
    → AllByRecursion (λ extent. on_side new extent ≡ on_side old extent) extents
    → AreCopied old done parts extents → AreCopied new done parts extents
same-copied old new done [] extents same copied = tt
same-copied old new done (part ∷ parts) [] same copied = tt
same-copied old new done (part ∷ parts) (extent ∷ extents) same copied = (
  ap (take (done * block_limit)) same.0 ∙ copied.0,
  same-copied old new (done - units_of (length part.payload)) parts extents same.1 copied.1,
)

-- bytes within the first n are those of the whole
pub slice-take : (at len n : ℕ) (xs : Bytes) → at + len ≤ n → take len (drop at (take n xs)) ≡ take len (drop at xs)
slice-take at len n xs le =
    let split : at + (n - at) ≡ n = omega (arith, le) in
    ap (λ k. take len (drop at (take k xs))) (sym split) ∙ ap (take len) (drop-take at (n - at) xs)
    ∙ take-take len (n - at) (drop at xs) (omega (arith, le))

-- no more than a list has
short-take : (n k : ℕ) (xs : Bytes) → length xs ≤ k → take (min n k) xs ≡ take n xs
short-take n k xs le = go (nat_lt n k) refl
  where
    go : (b : Bool) → nat_lt n k ≡ b → take (min n k) xs ≡ take n xs
    go true h = let less = ltb-true n k h in ap (λ m. take m xs) (omega (arith, less))
    go false h = let more = ltb-false n k h in take_all (min n k) xs (omega (arith, le, more))
        ∙ sym (take_all n xs (omega (arith, le, more)))

-- an extent's bytes are no more than its length
extent-short : (areas : Areas) (extent : Extent) → length (on_side areas extent) ≤ extent.length
extent-short areas extent =
    omega (arith, length-take extent.length (if extent.side == 0 then (pair areas extent).0 else (pair areas extent).1))
  where
    pair : Areas → Extent → Bytes × Bytes
    pair areas extent = slice_index_or areas.sides extent.place ([], [])

-- where all units of a payload are done it lies whole in its extent
whole : (areas : Areas) (extent : Extent) (payload : Bytes) (done : ℕ) → extent.length ≡ length payload
    → units_of (length payload) ≤ done
    → take (done * block_limit) (on_side areas extent) ≡ take (done * block_limit) payload
    → on_side areas extent ≡ payload
whole areas extent payload done size all copied =
    let enough : length payload ≤ done * block_limit = omega (arith, all) in
    let short = extent-short areas extent in
    sym (take_all (done * block_limit) (on_side areas extent) (omega (arith, enough, short, size))) ∙ copied
    ∙ take_all (done * block_limit) payload enough

-- and so do the payloads of all parts, where all units are
pub all-lie : (areas : Areas) (id done : ℕ) (parts : List (Part Bytes)) (extents : List Extent)
    → Match (map with_length parts) extents
    → all_units parts ≤ done → AreCopied areas done parts extents
    → map (change_meaning areas) (changes_to id (map with_length parts) extents) ≡ changes_of id parts
all-lie areas id done [] extents m all copied = refl
all-lie areas id done (part ∷ parts) [] m all copied = absurd m
all-lie areas id done (part ∷ parts) (extent ∷ extents) m all copied =
    let sum = sum_by-cons (λ (p : Part Bytes). units_of (length p.payload)) part parts in
    let own = whole areas extent part.payload done m.0 (omega (arith, all, sum)) copied.0 in
    λ i. record { transfer = id; part = record { manifest = part.manifest; payload = own i } }
    ∷ all-lie areas id (done - units_of (length part.payload)) parts extents m.1 (omega (arith, all, sum)) copied.1 i

-- a payload that lies in bytes is no longer than they are
pub lie-short : {limit : ℕ} (bytes : Bytes) (place : ℕ) (parts : List (Part Bytes)) → length bytes ≤ limit
    → PartsLie bytes place parts
    → AllByRecursion (λ (part : Part Bytes). length part.payload ≤ limit) parts
lie-short bytes place [] le lie = tt
lie-short bytes place (part ∷ parts) le lie =
    let inside = lie.0 in
    (omega (arith, le, inside), lie-short bytes (payload_at bytes place + length part.payload) parts le lie.2)

-- the payloads of parts that lie in bytes do
pub lie-within : (bytes : Bytes) (place : ℕ) (parts : List (Part Bytes)) (extents : List Extent)
    → Match (map with_length parts) extents
    → PartsLie bytes place parts → LieWithin bytes place extents
lie-within bytes place [] extents m lie = subst (LieWithin bytes place) (sym m) tt
lie-within bytes place (part ∷ parts) [] m lie = tt
lie-within bytes place (part ∷ parts) (extent ∷ extents) m lie =
    subst (λ n. (payload_at bytes place + n ≤ length bytes)
    × LieWithin bytes (payload_at bytes place + n) extents) (sym m.0)
    (lie.0, lie-within bytes (payload_at bytes place + length part.payload) parts extents m.1 lie.2)

-- parts that lie in the first bytes lie in all
pub lie-in-all : (came : ℕ) (bytes : Bytes) (place : ℕ) (parts : List (Part Bytes)) → came ≤ length bytes
    → PartsLie (take came bytes) place parts
    → PartsLie bytes place parts
lie-in-all came bytes place [] le lie = tt
lie-in-all came bytes place (part ∷ parts) le lie =
    let wide = length-take came bytes in
    let inside = lie.0 in
    let start : payload_at (take came bytes) place ≡ payload_at bytes place =
    ap (λ (field : Bytes). place + 8 + from_be_bytes w32 field)
    (slice-take place 4 came bytes (omega (arith, inside, wide, le))) in
    subst (λ n. (n + length part.payload ≤ length bytes) × (take (length part.payload) (drop n bytes) ≡ part.payload)
    × PartsLie bytes (n + length part.payload) parts)
    start (
      omega (arith, inside, wide, le),
      sym (slice-take (payload_at (take came bytes) place) (length part.payload) came bytes
          (omega (arith, inside, wide, le))) ∙ lie.1,
      lie-in-all came bytes (payload_at (take came bytes) place + length part.payload) parts le lie.2,
    )

-- a piece of payloads that lie in the first bytes is the one of all
pub piece-front : (came : ℕ) (bytes : Bytes) (place done : ℕ) (extents : List Extent) → came ≤ length bytes
    → LieWithin (take came bytes) place extents
    → piece_of (take came bytes) place done extents ≡ piece_of bytes place done extents
piece-front came bytes place done [] le lie = refl
piece-front came bytes place done (extent ∷ extents) le lie =
    let inside = lie.0 in
    let start : payload_at (take came bytes) place ≡ payload_at bytes place =
    ap (λ (field : Bytes). place + 8 + from_be_bytes w32 field)
    (slice-take place 4 came bytes (omega (arith, inside, length-take came bytes, le))) in
    let at = done * block_limit in
    let rest = piece-front came bytes (payload_at (take came bytes) place + extent.length)
    (done - units_of extent.length) extents le lie.1 in
    (λ i. if nat_lt done (units_of extent.length) then Some (record {
      from = start i + at;
      at = at;
      len = min (extent.length - at) block_limit;
      to = extent;
    }) else rest i)
    ∙ ap (λ n. if nat_lt done (units_of extent.length) then Some (record {
      from = payload_at bytes place + at;
      at = at;
      len = min (extent.length - at) block_limit;
      to = extent;
    }) else piece_of bytes (n + extent.length) (done - units_of extent.length) extents) start

module _ (content : Bytes) where
  -- the next unit of parts: the piece that it brings, and what copying that leaves and makes ready
  pub record Copies (areas : Areas) (place done : ℕ) (parts : List (Part Bytes)) (extents : List Extent) : Type 1 where
    pub piece : Piece
    pub is : piece_of content place done extents ≡ Some piece
    pub range : piece.from + piece.len ≤ length content
    pub within : piece.at + piece.len ≤ piece.to.length
    pub lies : piece.at ≤ length (on_side areas piece.to)
    pub among : (P : Extent → Type 0) → AllByRecursion P extents → P piece.to
    pub kept : (new : Areas) → AllByRecursion (λ e. e.place ≢ piece.to.place → on_side new e ≡ on_side areas e) extents
        → take piece.at (on_side new piece.to) ≡ take piece.at (on_side areas piece.to)
        → AreCopied new done parts extents
    pub ready : (new : Areas) → AllByRecursion (λ e. e.place ≢ piece.to.place → on_side new e ≡ on_side areas e) extents
        → take (piece.at + piece.len) (on_side new piece.to) ≡ take piece.at (on_side areas piece.to)
        ++ take piece.len (drop piece.from content)
        → AreCopied new (done + 1) parts extents

  pub next-piece : (areas : Areas) (place done : ℕ) (parts : List (Part Bytes)) (extents : List Extent)
      → PartsLie content place parts
      → Match (map with_length parts) extents → slots_differ (map (λ (e : Extent). e.place) extents) ≡ true
      → AreCopied areas done parts extents → done < all_units parts → Copies areas place done parts extents
  next-piece areas place done [] extents lie m differ copied left = absurd (omega (arith, left))
  next-piece areas place done (part ∷ parts) [] lie m differ copied left = absurd m
  next-piece areas place done (part ∷ parts) (extent ∷ extents) lie m differ copied left =
      go (nat_lt done (units_of extent.length)) refl
      (next-piece areas (payload_at content place + extent.length) (done - units_of extent.length) parts extents)
    where
      size : ℕ
      size = length part.payload

      start : ℕ
      start = payload_at content place

      at : ℕ
      at = done * block_limit

      len : ℕ
      len = min (extent.length - at) block_limit

      here : Piece
      here = record { from = start + at; at = at; len = len; to = extent }

      behind : ℕ
      behind = start + extent.length

      apart : (list_all (λ n. not (n == extent.place)) (map (λ (e : Extent). e.place) extents) ≡ true)
          × (slots_differ (map (λ (e : Extent). e.place) extents) ≡ true)
      apart = and_parts _ _ differ

      others : AllByRecursion (λ (e : Extent). extent.place ≢ e.place) extents
      others = each-unmap (λ n. extent.place ≢ n) (λ (e : Extent). e.place) extents
          (each-imp _ _ (λ n k same. eqb-false n extent.place (not-true _ k) (sym same)) _
          (all-each (λ n. not (n == extent.place)) _ apart.0))

      none : (n : ℕ) → n ≡ 0 → (new : Areas) → AreCopied new n parts extents
      none n zero new = subst (λ k. AreCopied new k parts extents) (sym zero) (none-done new parts extents)

      go : (b : Bool) → nat_lt done (units_of extent.length) ≡ b
          → (PartsLie content behind parts → Match (map with_length parts) extents
          → slots_differ (map (λ (e : Extent). e.place) extents) ≡ true
          → AreCopied areas (done - units_of extent.length) parts extents
          → done - units_of extent.length < all_units parts
          → Copies areas behind (done - units_of extent.length) parts extents)
          → Copies areas place done (part ∷ parts) (extent ∷ extents)
      go true h rec =
          let less = ltb-true _ _ h in
          let same = m.0 in
          let inside = lie.0 in
          let begin : at ≤ size = omega (arith, less, same) in
          record {
            piece = here;
            is = ap (λ b. if b then Some here else piece_of content behind (done - units_of extent.length) extents) h;
            range = omega (arith, inside, begin, same);
            within = omega (arith, begin, same);
            lies = let wide = ap length copied.0 in
                omega (arith, begin, wide, length-take at (on_side areas extent), length-take at part.payload);
            among = λ P each. each.0;
            kept = λ new still own. (own ∙ copied.0, none (done - units_of size) (omega (arith, less, same)) new);
            ready = λ new still own. (
              sym (short-take ((done + 1) * block_limit) extent.length (on_side new extent) (extent-short new extent))
                  ∙ ap (λ n. take n (on_side new extent)) (let z : min ((done + 1) * block_limit) extent.length
                  ≡ at + len = omega (arith, begin, same) in z)
                  ∙ own ∙ ap (λ xs. xs ++ take len (drop (start + at) content)) copied.0
                  ∙ ap (λ xs. take at part.payload ++ xs) (ap (take len) (sym (drop-drop at start content))
                  ∙ sym (slice-take at len size (drop start content) (omega (arith, begin, same)))
                  ∙ ap (λ xs. take len (drop at xs)) lie.1)
                  ∙ sym (take-add at len part.payload)
                  ∙ ap (λ n. take n part.payload) (let z : at + len ≡ min ((done + 1) * block_limit) size =
                  omega (arith, begin, same) in z)
                  ∙ short-take ((done + 1) * block_limit) size part.payload (omega arith),
              none (done + 1 - units_of size) (omega (arith, less, same)) new,
            );
          }
      go false h rec =
          let all = ltb-false _ _ h in
          let same = m.0 in
          let units : units_of extent.length ≡ units_of size = ap units_of same in
          let sum = sum_by-cons (λ (p : Part Bytes). units_of (length p.payload)) part parts in
          let rest : Copies areas behind (done - units_of extent.length) parts extents = rec
          (subst (λ n. PartsLie content (start + n) parts) (sym same) lie.2) m.1 apart.1
          (subst (λ n. AreCopied areas (done - n) parts extents) (sym units) copied.1)
          (omega (arith, left, sum, units, all)) in
          let elsewhere = rest.among (λ e. extent.place ≢ e.place) others in
          record {
            piece = rest.piece;
            is = ap (λ b. if b then Some here else piece_of content behind (done - units_of extent.length) extents) h
                ∙ rest.is;
            range = rest.range;
            within = rest.within;
            lies = rest.lies;
            among = λ P each. rest.among P each.1;
            kept = λ new still own. (
              ap (take at) (still.0 elsewhere) ∙ copied.0,
              subst (λ n. AreCopied new (done - n) parts extents) units (rest.kept new still.1 own),
            );
            ready = λ new still own. (
              ap (take ((done + 1) * block_limit)) (still.0 elsewhere
                  ∙ whole areas extent part.payload done same (omega (arith, units, all)) copied.0),
              subst (λ n. AreCopied new n parts extents) (let z : done - units_of extent.length + 1
                  ≡ done + 1 - units_of size = omega (arith, units, all) in z)
                  (rest.ready new still.1 own),
            );
          }

-- the part at a place lies in the bytes, and so do those behind it
pub lie-here : (content : Bytes) (place i : ℕ) (xs : List Extent) (d : Extent) → i < length xs
    → LieWithin content place (drop i xs)
    → (payload_at content place + (get_or xs i d).length ≤ length content)
    × LieWithin content (payload_at content place + (get_or xs i d).length) (drop (i + 1) xs)
lie-here content place i xs d lt lie = subst (LieWithin content place) (drop_more xs i d lt) lie

-- its units aren't all done, or the next piece is of a part behind it
pub piece-here : (content : Bytes) (place left i : ℕ) (xs : List Extent) (d : Extent) → i < length xs
    → piece_of content place left (drop i xs) ≡ piece_of content place left (get_or xs i d ∷ drop (i + 1) xs)
piece-here content place left i xs d lt = ap (piece_of content place left) (drop_more xs i d lt)

-- a part whose units are all done is passed over
pub piece-next : (content : Bytes) (place left i : ℕ) (xs : List Extent) (d : Extent) → i < length xs
    → units_of (get_or xs i d).length ≤ left → (next rest : ℕ) → next ≡ payload_at content place
    + (get_or xs i d).length
    → rest ≡ left - units_of (get_or xs i d).length
    → piece_of content next rest (drop (i + 1) xs) ≡ piece_of content place left (drop i xs)
piece-next content place left i xs d lt done next rest is less =
    let e = get_or xs i d in
    (λ j. piece_of content (is j) (less j) (drop (i + 1) xs))
    ∙ sym (piece-here content place left i xs d lt ∙ ap (λ b. if b then Some (record {
      from = payload_at content place + left * block_limit;
      at = left * block_limit;
      len = min (e.length - left * block_limit) block_limit;
      to = e;
    }) else piece_of content (payload_at content place + e.length) (left - units_of e.length) (drop (i + 1) xs))
    (le-ltb left (units_of e.length) done))

pub lie-next : (content : Bytes) (place i : ℕ) (xs : List Extent) (d : Extent) → i < length xs
    → LieWithin content place (drop i xs) → (next : ℕ) → next ≡ payload_at content place + (get_or xs i d).length
    → LieWithin content next (drop (i + 1) xs)
lie-next content place i xs d lt lie next is =
    subst (λ p. LieWithin content p (drop (i + 1) xs)) (sym is) (lie-here content place i xs d lt lie).1
