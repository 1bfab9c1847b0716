-- A list up to its first record outside a grammar.
use Rattle.std.proofs.Common.{◌≡◌, ◌≢◌, ◌⊎◌, inl, inr, ⊎_elim, ℕ, zero, suc, Bool, List, [], ◌∷◌, ◌++◌, length, get_or, refl, sym, ◌∙◌, ap}
use Rattle.std.proofs.lemmas.Bool.{cases_Bool, cond-true, cond-false}
use Rattle.journal.specs.Records.{journal_list, taken}
use Rattle.journal.specs.Grammar.{in_grammar}
use Rattle.journal.proofs.Lists.{open_behind}

-- behind the records in the grammar there is another one
record Cut (spells : List ℕ → Bool) (ps : List (List ℕ)) : Type 0 where
  next : List ℕ
  rest : List (List ℕ)
  is : ps ≡ in_grammar spells ps ++ next ∷ rest

module _ (spells : List ℕ → Bool) where
  cases : (ps : List (List ℕ)) → (in_grammar spells ps ≡ ps) ⊎ Cut spells ps
  cases [] = inl refl
  cases (p ∷ ps) = elim (cases_Bool (spells p)) [
    | inl in_it ↦
        let here : in_grammar spells (p ∷ ps) ≡ p ∷ in_grammar spells ps =
        cond-true (spells p) (p ∷ in_grammar spells ps) [] in_it in
        ⊎_elim
        (λ whole. inl (here ∙ ap (λ (qs : List (List ℕ)). p ∷ qs) whole))
        (λ (cut : Cut spells ps). inr (record {
          next = cut.next;
          rest = cut.rest;
          is = ap (λ (qs : List (List ℕ)). p ∷ qs) cut.is
              ∙ ap (λ (qs : List (List ℕ)). qs ++ cut.next ∷ cut.rest) (sym here);
        }))
        (cases ps)
    | inr outside ↦ inr (record {
      next = p;
      rest = ps;
      is = ap (λ (qs : List (List ℕ)). qs ++ p ∷ ps)
          (sym (cond-false (spells p) (p ∷ in_grammar spells ps) [] outside));
    })
  ]

  -- a byte that is 1 is there
  there : (bytes : List ℕ) (k : ℕ) → get_or bytes k 0 ≡ 1 → get_or bytes k 1 ≡ 1
  there [] k one = refl
  there (x ∷ bytes) zero one = one
  there (x ∷ bytes) (suc k) one = there bytes k one

  pub whole : (bytes : List ℕ) → get_or bytes (taken (in_grammar spells (journal_list bytes))) 1 ≢ 1
      → in_grammar spells (journal_list bytes) ≡ journal_list bytes
  whole bytes shut = ⊎_elim
      (λ all. all)
      (λ (cut : Cut spells (journal_list bytes)). absurd (shut (there bytes _
      (open_behind (length bytes) bytes (in_grammar spells (journal_list bytes)) cut.next cut.rest cut.is))))
      (cases (journal_list bytes))
