-- A node that begins with installed clusters is sound.
use Rattle.std.proofs.Common.{Bor}
use Rattle.std.proofs.Math.Seq.{take-append_seam}
use Rattle.std.specs.Prelude.{Ok, Err}
use Rattle.transfer_blocks.specs.Steps.{End, Step, HasNoFault, Ran, puts, with_bytes, wrote}
use Rattle.transfer_blocks.specs.declared.fault.StagingError.{StagingError}
use Rattle.transfer_blocks.specs.declared.fault.StagingError.TheVariants.{Failed, OutOfMemory}
use Rattle.node_core.proofs.Runs.{ok-faultless}
use Rattle.transfer_blocks.proofs.Areas.{fits-with}
use Rattle.transfer_blocks.proofs.Runs.{ran_both, wrote_both}
use Rattle.node_core.specs.Format.{Formats, Installs, IsFormatted, installs, with_installed}
use Rattle.node_core.proofs.Names.{map-append, zero-add, IsArea, overwritten, length-drop, drop}
use Rattle.node_core.proofs.Lists.{each-second}
use Rattle.node_core.proofs.Names.{AllByRecursion, AreInstalled, Area, Areas, AreasFit, Bytes, Cluster, Extent, IsExtent, IsFit}
use Rattle.node_core.proofs.Names.{IsSound, List, Side, ap, append-nil, ap₂, arith, bytes_eq, cluster_limit, cluster_meaning}
use Rattle.node_core.proofs.Names.{cluster_place, content-elsewhere, content-here, content_of, different_names, each-append, each-first, each-unmap, false}
use Rattle.node_core.proofs.Names.{formatted, fresh_state, holding, in_order, keeps-fit, length, length-append, length-map, map}
use Rattle.node_core.proofs.Names.{name_lt, names-behind, names-tail, names_fit_places, names_of, names_rise, nat_tests}
use Rattle.node_core.proofs.Names.{package_limit, package_reading, placed, placed_from, refl, subst, sym, take, true}
use Rattle.node_core.proofs.Names.{[], ℕ, ◌++◌, ◌+◌, ◌<◌, ◌==◌, ◌∙◌, ◌∷◌, ◌≡◌, ◌≢◌, ◌≤◌}
use Rattle.node_core.proofs.Free.{fits-onto}
use Rattle.node_core.proofs.Named.{not-more}
use Rattle.node_core.proofs.Ordered.{lt-differ, order-each, order-rises}
use Rattle.node_core.proofs.Sound.{reading-is}

-- the cluster that is lent
abbrev pub now : Bor (Cluster Bytes) → Cluster Bytes
now lent = lent.now

-- what was put, the next one and the rest are all that was lent
pub whole-lent : (put rest : List (Bor (Cluster Bytes))) {ahead first all : List (Bor (Cluster Bytes))}
    (x : Bor (Cluster Bytes)) → ahead ≡ x ∷ rest → put ++ ahead ≡ first → first ≡ all
    → map now put ++ x.now ∷ map now rest ≡ map now all
whole-lent put rest x next so_far begins =
    sym (map-append now put (x ∷ rest)) ∙ ap (map now) (ap (λ l. put ++ l) (sym next) ∙ so_far ∙ begins)

-- names behind one, at higher places
above : (n : List ℕ) (k j : ℕ) → k < j → (cs : List (Cluster Bytes)) → AllByRecursion (λ c. name_lt n c.name ≡ true) cs
    → AllByRecursion (λ b. (bytes_eq n b.0 ≡ false) × ((k == b.1) ≡ false)) (map cluster_place (placed_from j cs))
above n k j less [] h = tt
above n k j less (c ∷ cs) h =
    let other : (k == j) ≡ false = grind (arith, nat_tests, less) in
    ((lt-differ n c.name h.0, other), above n k (j + 1) (omega (arith, less)) cs h.1)

-- so each has its own place
places-fit : (k : ℕ) (cs : List (Cluster Bytes)) → names_rise (names_of cs) ≡ true
    → names_fit_places (map cluster_place (placed_from k cs)) ≡ true
places-fit k [] r = refl
places-fit k (c ∷ cs) r =
    fits-onto (c.name, k) (map cluster_place (placed_from (k + 1) cs))
    (above c.name k (k + 1) (omega arith) cs
    (each-unmap (λ n. name_lt c.name n ≡ true) (λ (d : Cluster Bytes). d.name) cs
    (names-behind c.name (names_of cs) r)))
    (places-fit (k + 1) cs (names-tail c.name (names_of cs) r))

-- where they lie
extents-are : (k : ℕ) (cs : List (Cluster Bytes)) → k + length cs ≤ cluster_limit
    → AllByRecursion (λ c. length c.content ≤ package_limit) cs
    → AllByRecursion (λ c. IsExtent c.content) (placed_from k cs)
extents-are k [] few short = tt
extents-are k (c ∷ cs) few short =
    ((omega (arith, few), omega arith, short.0), extents-are (k + 1) cs (omega (arith, few)) short.1)

-- a node with clusters in order
pub installed-sound : (areas : Areas) (stored : List (Cluster Extent)) (cs : List (Cluster Bytes))
    → AreInstalled areas stored cs → names_rise (names_of cs) ≡ true → length cs ≤ cluster_limit
    → AllByRecursion (λ c. length c.content ≤ package_limit) cs → IsSound (holding areas (fresh_state stored))
installed-sound areas stored cs is r few short = record {
  fit = subst (λ l. IsFit package_reading (formatted l)) (sym is.contents)
      ((keeps-fit package_reading reading-is).formatted cs (record { rise = r; few = names-few }));
  order = record {
    clusters = subst (AllByRecursion (λ c. IsExtent c.content)) (sym is.places)
        (extents-are 0 cs (omega (arith, few)) short);
    session = tt;
    transfers = tt;
    slots = refl;
    places = ap names_fit_places (append-nil (map cluster_place stored) ∙ ap (map cluster_place) is.places)
        ∙ places-fit 0 cs r;
    running = tt;
  };
  copied = tt;
}
  where
    names-few : length (different_names (names_of cs ++ [] ++ [])) ≤ cluster_limit
    names-few =
        let all = ap length (append-nil (names_of cs ++ []) ∙ append-nil (names_of cs)) ∙ length-map cs (λ c. c.name) in
        let no_more = not-more (names_of cs ++ [] ++ []) in
        omega (arith, all, no_more, few)

abbrev AreShort : List (Cluster Bytes) → Type 0
AreShort cs = AllByRecursion (λ c. length c.content ≤ package_limit) cs

-- bytes at the front of a content, and what lies behind them
put-front : (bytes content : Bytes) → take (length bytes) (overwritten 0 bytes content) ≡ bytes
put-front bytes content = take-append_seam bytes (drop (0 + length bytes) content)

put-short : (bytes content : Bytes) → length bytes ≤ package_limit → length content ≤ package_limit
    → length (overwritten 0 bytes content) ≤ package_limit
put-short bytes content short fit =
    let wide = length-append bytes (drop (0 + length bytes) content) in
    let rest = length-drop (0 + length bytes) content in
    omega (arith, wide, rest, short, fit)

-- clusters that are put to places from this one on
module _ (k : ℕ) (c : Cluster Bytes) (cs : List (Cluster Bytes)) (areas : Areas) (fit : AreasFit areas)
    (few : k + length (c ∷ cs) ≤ cluster_limit) (short : AreShort (c ∷ cs)) where
  abbrev here : Area
  here = Side k 0

  is-here : IsArea here
  is-here = (omega (arith, few), omega arith)

  abbrev next : Areas
  next = with_bytes here 0 c.content areas

  next-fit : AreasFit next
  next-fit = fits-with here areas is-here fit _ (put-short c.content _ short.0 (fit.contents here is-here))

  next-lower : (place : ℕ) → place < k → content_of (Side place 0) next ≡ content_of (Side place 0) areas
  next-lower place lower =
      content-elsewhere here areas is-here fit (Side place 0) _ (omega (arith, lower, few), omega arith)
      (λ e. let same : place ≡ k = cc e in omega (arith, lower, same))

-- what lies on lower places stays
lower-stays : (k : ℕ) (cs : List (Cluster Bytes)) (areas : Areas) → AreasFit areas → k + length cs ≤ cluster_limit
    → AreShort cs → (place : ℕ) → place < k
    → content_of (Side place 0) (wrote (installs k cs) areas) ≡ content_of (Side place 0) areas
lower-stays k [] areas fit few short place lower = refl
lower-stays k (c ∷ cs) areas fit few short place lower =
    lower-stays (k + 1) cs (next k c cs areas fit few short) (next-fit k c cs areas fit few short) (omega (arith, few))
    short.1 place (omega (arith, lower))
    ∙ next-lower k c cs areas fit few short place lower

-- and they hold the clusters
put-means : (k : ℕ) (cs : List (Cluster Bytes)) (areas : Areas) → AreasFit areas → k + length cs ≤ cluster_limit
    → AreShort cs → map (cluster_meaning (wrote (installs k cs) areas)) (placed_from k cs) ≡ cs
put-means k [] areas fit few short = refl
put-means k (c ∷ cs) areas fit few short =
    let after = next k c cs areas fit few short in
    let after-fit = next-fit k c cs areas fit few short in
    ap₂ (λ bytes l. record { name = c.name; version = c.version; needs = c.needs; content = bytes } ∷ l)
    (ap (take (length c.content))
    (lower-stays (k + 1) cs after after-fit (omega (arith, few)) short.1 k (omega arith)
    ∙ content-here (Side k 0) areas (is-here k c cs areas fit few short) fit _)
    ∙ put-front c.content (content_of (Side k 0) areas))
    (put-means (k + 1) cs after after-fit (omega (arith, few)) short.1)

installs-append : (k : ℕ) (cs : List (Cluster Bytes)) (c : Cluster Bytes)
    → installs k (cs ++ c ∷ []) ≡ installs k cs ++ puts (Side (k + length cs) 0) 0 c.content (Ok tt) ∷ []
installs-append k [] c = ap (λ n. puts (Side n 0) 0 c.content (Ok tt) ∷ []) (omega arith)
installs-append k (d ∷ cs) c = grind (arith, installs-append (k + 1) cs c)

-- and from the first place on
installs-next : (cs : List (Cluster Bytes)) (c : Cluster Bytes)
    → installs 0 (cs ++ c ∷ []) ≡ installs 0 cs ++ puts (Side (length cs) 0) 0 c.content (Ok tt) ∷ []
installs-next cs c =
    installs-append 0 cs c ∙ ap (λ n. installs 0 cs ++ puts (Side n 0) 0 c.content (Ok tt) ∷ []) (zero-add (length cs))

placed-append : (k : ℕ) (cs : List (Cluster Bytes)) (c : Cluster Bytes)
    → placed_from k (cs ++ c ∷ []) ≡ placed_from k cs ++ placed (k + length cs) c ∷ []
placed-append k [] c = ap (λ n. placed n c ∷ []) (omega arith)
placed-append k (d ∷ cs) c = grind (arith, placed-append (k + 1) cs c)

placed-length : (k : ℕ) (cs : List (Cluster Bytes)) → length (placed_from k cs) ≡ length cs
placed-length k [] = refl
placed-length k (c ∷ cs) = let rest = placed-length (k + 1) cs in omega (arith, rest)

-- each of these calls succeeds
installs-faultless : (k : ℕ) (cs : List (Cluster Bytes)) → AllByRecursion HasNoFault (installs k cs)
installs-faultless k [] = tt
installs-faultless k (c ∷ cs) = (ok-faultless, installs-faultless (k + 1) cs)

-- and puts bytes to the first side of a place
installs-sides : (k : ℕ) (cs : List (Cluster Bytes)) → k + length cs ≤ cluster_limit → AreShort cs
    → AllByRecursion Installs (installs k cs)
installs-sides k [] few short = tt
installs-sides k (c ∷ cs) few short = (
  (omega (arith, few), refl, let wide = short.0 in omega (arith, wide)),
  installs-sides (k + 1) cs (omega (arith, few)) short.1,
)

-- the next of clusters is no longer than each
pub next-short : (cs rest all : List (Cluster Bytes)) (c : Cluster Bytes) → cs ++ c ∷ rest ≡ all
    → AllByRecursion (λ c. length c.content ≤ package_limit) all → length c.content ≤ package_limit
next-short cs rest all c whole short =
    (each-second _ cs (c ∷ rest) (subst (AllByRecursion (λ (d : Cluster Bytes). length d.content ≤ package_limit))
    (sym whole) short)).0

-- the next one of the clusters has a place
module _ (cs rest all : List (Cluster Bytes)) (c : Cluster Bytes) (whole : cs ++ c ∷ rest ≡ all)
    (few : length all ≤ cluster_limit) (stored : List (Cluster Extent)) (is : stored ≡ placed_from 0 cs)
    (place : ℕ) (behind : place ≡ length stored) where
  next-here : place ≡ length cs
  next-here = behind ∙ ap length is ∙ placed-length 0 cs

  next-room : length cs < cluster_limit
  next-room = let wide = ap length whole in let split = length-append cs (c ∷ rest) in omega (arith, wide, split, few)

  pub next-place : place < cluster_limit
  next-place = omega (arith, next-here, next-room)

-- and is put there, behind what was done before it
module _ {S : Type 0} (obeys : S → Step → S → Type 0) (cs rest all : List (Cluster Bytes)) (c : Cluster Bytes)
    (whole : cs ++ c ∷ rest ≡ all) (few : length all ≤ cluster_limit) (short : AreShort all) (old at new : S)
    (ran : Ran obeys (installs 0 cs) old at) (stored : List (Cluster Extent)) (is : stored ≡ placed_from 0 cs)
    (place : ℕ) (behind : place ≡ length stored) (bytes : Bytes) (same : bytes ≡ c.content) where
  place-is : place ≡ length cs
  place-is = next-here cs rest all c whole few stored is place behind

  room : length cs < cluster_limit
  room = next-room cs rest all c whole few stored is place behind

  put-here : (end : End) → obeys at (puts (Side place 0) 0 bytes end) new
      → obeys at (puts (Side (length cs) 0) 0 c.content end) new
  put-here end obeyed =
      subst (λ (k : ℕ × Bytes). obeys at (puts (Side k.0 0) 0 k.1 end) new) (λ i. (place-is i, same i)) obeyed

  -- it, or what follows, fails, with a fault where it met one
  pub next-failed : (end : End) (fault : StagingError) → (let failed : End = Err fault in failed ≢ Err Failed → end ≢
      Err Failed)
      → obeys at (puts (Side place 0) 0 bytes end) new → Formats obeys all (Err fault) old new
  next-failed end fault tells obeyed = record {
    steps = installs 0 cs ++ puts (Side (length cs) 0) 0 c.content end ∷ [];
    ran = ran_both obeys (installs 0 cs) _ old at new ran (new, put-here end obeyed, refl);
    faultless = λ e. each-append HasNoFault (installs 0 cs) _ (installs-faultless 0 cs) (tells e, tt);
    sides = each-append Installs (installs 0 cs) _
        (installs-sides 0 cs (omega (arith, room)) (each-first _ cs (c ∷ rest) (subst AreShort (sym whole) short)))
        ((room, refl, let wide = next-short cs rest all c whole short in omega (arith, wide)), tt);
    whole = λ e. absurd (cc e);
  }

  -- one more is placed and put, and the areas hold it
  pub next-put : obeys at (puts (Side place 0) 0 bytes (Ok tt)) new → {more : List (Cluster Extent)}
      → more ≡ stored ++ placed place c ∷ [] → (held : Areas) {before after : Areas} → before ≡ with_installed cs held
      → after ≡ with_bytes (Side place 0) 0 bytes before → {put : List (Cluster Bytes)} → cs ++ c ∷ [] ≡ put
      → (more ≡ placed_from 0 put) × Ran obeys (installs 0 put) old new × (after ≡ with_installed put held)
  next-put obeyed {more} added held {before} {after} held-is put_there e =
      subst (λ l. (more ≡ placed_from 0 l) × Ran obeys (installs 0 l) old new × (after ≡ with_installed l held)) e (
        added ∙ (λ i. is i ++ placed (place-is i) c ∷ [])
            ∙ ap (λ n. placed_from 0 cs ++ placed n c ∷ []) (sym (zero-add (length cs))) ∙ sym (placed-append 0 cs c),
        subst (λ steps. Ran obeys steps old new) (sym (installs-next cs c))
            (ran_both obeys (installs 0 cs) _ old at new ran (new, put-here (Ok tt) obeyed, refl)),
        put_there ∙ (λ i. with_bytes (Side (place-is i) 0) 0 (same i) (held-is i))
            ∙ sym (ap (λ steps. wrote steps held) (installs-next cs c)
            ∙ wrote_both (installs 0 cs) (puts (Side (length cs) 0) 0 c.content (Ok tt) ∷ []) held),
      )

-- all are put
pub all-formats : {S : Type 0} (obeys : S → Step → S → Type 0) (cs all : List (Cluster Bytes)) (old new : S)
    → cs ≡ all → length all ≤ cluster_limit → AreShort all → Ran obeys (installs 0 cs) old new
    → Formats obeys all (Ok tt) old new
all-formats obeys cs all old new same few short ran = record {
  steps = installs 0 all;
  ran = subst (λ l. Ran obeys (installs 0 l) old new) same ran;
  sides = installs-sides 0 all (omega (arith, few)) short;
  faultless = λ e. installs-faultless 0 all;
  whole = λ e. refl;
}

-- nothing was put, or what follows wants memory
pub none-formats : {S : Type 0} (obeys : S → Step → S → Type 0) (all : List (Cluster Bytes)) (old : S)
    → Formats obeys all (Err OutOfMemory) old old
none-formats obeys all old = record {
  steps = [];
  ran = refl;
  sides = tt;
  faultless = λ e. tt;
  whole = λ e. absurd (cc e);
}

-- a node that begins with clusters, over areas that they were put to
pub formatted-node : (held : Areas) (ordered cs : List (Cluster Bytes)) → ordered ≡ in_order cs
    → length ordered ≡ length cs → length cs ≤ cluster_limit → AreShort cs → AreasFit held
    → IsFormatted ordered held (fresh_state (placed_from 0 ordered))
formatted-node held ordered cs sorted same few short fit =
    let fewer : length ordered ≤ cluster_limit = omega (arith, same, few) in
    let shorter = subst AreShort (sym sorted) (order-each (λ c. length c.content ≤ package_limit) cs short) in
    let is : AreInstalled (with_installed ordered held) (placed_from 0 ordered) ordered =
    record { places = refl; contents = put-means 0 ordered held fit (omega (arith, fewer)) shorter } in
    record {
      node = ap formatted is.contents;
      sound = installed-sound (with_installed ordered held) (placed_from 0 ordered) ordered is
          (ap (λ l. names_rise (names_of l)) sorted ∙ order-rises cs) fewer shorter;
    }
