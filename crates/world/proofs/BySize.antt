-- The stages over lengths go on as the stages over bytes, and ask for the same calls.
use Rattle.world.proofs.Names.{◌≡◌, ℕ, zero, suc, ◌+◌, ◌≤◌, List, [], ◌∷◌, ◌++◌, length, map, take, drop, Some, refl}
use Rattle.world.proofs.Names.{sym, ◌∙◌, ap, arith, length-drop, block_limit, slice_index_or, option_map}
use Rattle.world.proofs.Names.{Reply, TransferStart, TransferData, Done, Started, Synced, Stage, AtSync}
use Rattle.world.proofs.Names.{AtStart, AtData, AtProcess, call_at, onward, next_package}
use Rattle.world.proofs.Names.{next_processed, stage_of}
use Rattle.std.specs.Prelude.{◌-◌, ◌*◌, ⊤}
use Rattle.std.proofs.Common.{length-append}
use Rattle.std.proofs.lemmas.List.{drop-drop}
use Rattle.world.specs.RoundsBySize.{sized, onward_by_size, stage_by_size, step_at, call_of, GoesBySize}

sized-package : (ids : List ℕ) (left : List (List ℕ))
    → sized (next_package ids left) ≡ next_package ids (map length left)
sized-package ids [] = refl
sized-package ids (p ∷ left) = refl

sized-processed : (ids : List ℕ) (taken : ℕ) → sized (next_processed ids taken) ≡ next_processed ids taken
sized-processed [] taken = refl
sized-processed (id ∷ ids) taken = refl

sized-onward : (ps : List (List ℕ)) (stage : Stage) (r : Reply)
    → sized (onward ps stage r) ≡ onward_by_size (map length ps) (sized stage) r
sized-onward ps (AtData ids id counter (b ∷ bs) left) Done =
    ap (λ n. AtData ids id (counter + 1) n (map length left)) (length-drop block_limit (b ∷ bs))
sized-onward ps stage r = grind (arith, sized-package, sized-processed)

sized-stages : (ps : List (List ℕ)) (stage : Stage) (rs : List Reply)
    → sized (stage_of ps stage rs) ≡ stage_by_size (map length ps) (sized stage) rs
sized-stages ps stage [] = refl
sized-stages ps stage (r ∷ rs) =
    sized-stages ps (onward ps stage r) rs
    ∙ ap (λ s. stage_by_size (map length ps) s rs) (sized-onward ps stage r)

-- the first of what is left after so many
first-left : (n : ℕ) (ps : List (List ℕ)) (p : List ℕ) (left : List (List ℕ)) → p ∷ left ≡ drop n ps
    → (slice_index_or ps n [] ≡ p) × (left ≡ drop (suc n) ps)
first-left zero [] p left is = absurd (cc is)
first-left zero (q ∷ ps) p left is = let head : q ≡ p = cc is in let tail : left ≡ ps = cc is in (head, tail)
first-left (suc n) [] p left is = absurd (cc is)
first-left (suc n) (q ∷ ps) p left is = first-left n ps p left is

-- what a stage has left is what the transfers and blocks so far leave of the packages
abbrev IsWithin : List (List ℕ) → Stage → Type 0
IsWithin ps (AtStart ids left) = left ≡ drop (length ids) ps
IsWithin ps (AtData ids id counter bytes left) =
    (1 ≤ counter)
    × (bytes ≡ drop (block_limit * (counter - 1)) (slice_index_or ps (length ids) []))
    × (left ≡ drop (suc (length ids)) ps)
IsWithin ps _ = ⊤

within-package : (ps : List (List ℕ)) (ids : List ℕ) (left : List (List ℕ)) → left ≡ drop (length ids) ps
    → IsWithin ps (next_package ids left)
within-package ps ids [] is = tt
within-package ps ids (p ∷ left) is = is

within-processed : (ps : List (List ℕ)) (ids : List ℕ) (taken : ℕ) → IsWithin ps (next_processed ids taken)
within-processed ps [] taken = tt
within-processed ps (id ∷ ids) taken = tt

next-block : (counter : ℕ) → 1 ≤ counter → block_limit * (counter - 1) + block_limit ≡ block_limit * (counter + 1 - 1)
next-block counter some = omega (arith, some)

within-onward : (ps : List (List ℕ)) (stage : Stage) (r : Reply) → IsWithin ps stage → IsWithin ps (onward ps stage r)
within-onward ps AtSync (Synced x) is = within-package ps [] ps refl
within-onward ps (AtStart ids (p ∷ left)) (Started id) is =
    let first = first-left (length ids) ps p left is in
    (omega arith, sym first.0, first.1)
within-onward ps (AtData ids id counter [] left) Done is =
    let more : length (ids ++ id ∷ []) ≡ suc (length ids) = length-append ids (id ∷ []) ∙ omega arith in
    within-package ps (ids ++ id ∷ []) left (is.2 ∙ ap (λ n. drop n ps) (sym more))
within-onward ps (AtData ids id counter (b ∷ bs) left) Done is =
    let bytes = slice_index_or ps (length ids) [] in (
      omega (arith, is.0),
      ap (drop block_limit) is.1
          ∙ (drop-drop block_limit (block_limit * (counter - 1)) bytes
          ∙ ap (λ n. drop n bytes) (next-block counter is.0)),
      is.2,
    )
within-onward ps (AtProcess (id ∷ ids) taken) Done is = within-processed ps ids (suc taken)
within-onward ps stage r is = grind arith

within-stages : (ps : List (List ℕ)) (stage : Stage) (rs : List Reply) → IsWithin ps stage
    → IsWithin ps (stage_of ps stage rs)
within-stages ps stage [] is = is
within-stages ps stage (r ∷ rs) is = within-stages ps (onward ps stage r) rs (within-onward ps stage r is)

same-call : (k : ℕ) (ps : List (List ℕ)) (stage : Stage) → IsWithin ps stage
    → call_at k stage ≡ option_map (call_of k ps) (step_at (sized stage))
same-call k ps (AtStart ids (p ∷ left)) is =
    ap (λ q. Some (TransferStart (length q))) (sym (first-left (length ids) ps p left is).0)
same-call k ps (AtData ids id counter (b ∷ bs) left) is =
    ap (λ l. Some (TransferData id counter (take block_limit l))) is.1
same-call k ps stage is = grind arith

pub goes-by-size : GoesBySize
goes-by-size = record {
  stages = λ ps rs. sized-stages ps AtSync rs;
  calls = λ k ps rs.
      same-call k ps (stage_of ps AtSync rs) (within-stages ps AtSync rs tt)
      ∙ ap (λ s. option_map (call_of k ps) (step_at s)) (sized-stages ps AtSync rs);
}
