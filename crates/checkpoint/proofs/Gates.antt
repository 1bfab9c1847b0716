-- What writes at the gate of a head, and behind it, do to what it reads as.
use Rattle.std.proofs.Common.{◌≡◌, ◌≢◌, ◌⊎◌, inl, inr, ℕ, ◌+◌, ◌-◌, ◌<◌, ◌≤◌, eqb, List, [], ◌∷◌, ◌++◌, length, take, drop, get_or, None, refl, sym, ◌∙◌, ap, subst, arith, append_assoc}
use Rattle.std.proofs.lemmas.Bool.{cases_eq, eq-eqb, ne_eqb, cond-true, cond-false}
use Rattle.std.proofs.lemmas.List.{get_or-take, get_or-drop, take_at, drop_at, length-take-le}
use Rattle.disk_core.specs.Bytes.{Puts, Torn}
use Rattle.disk_core.proofs.Pieces.{put_torn}
use Rattle.checkpoint.specs.Halves.{body_of, read_of}
use Rattle.checkpoint.specs.Quiet.{Quiet, Shut, Rewritten}

-- behind a gate that isn't 1 a head reads as nothing
pub shut_none : (most : ℕ) (head : List ℕ) → get_or head 0 0 ≢ 1 → read_of most head ≡ None
shut_none most head shut =
    cond-false (eqb (get_or head 0 0) 1) (body_of most (drop 1 head)) None (ne_eqb (get_or head 0 0) 1 shut)

pub open_reads : (most : ℕ) (head : List ℕ) → get_or head 0 0 ≡ 1 → read_of most head ≡ body_of most (drop 1 head)
open_reads most head is =
    cond-true (eqb (get_or head 0 0) 1) (body_of most (drop 1 head)) None (eq-eqb (get_or head 0 0) 1 is)

-- a torn gate: the head reads as its body, or as nothing
pub gate_torn : (most : ℕ) (old new : List ℕ) → Torn 0 1 old new
    → (read_of most new ≡ body_of most (drop 1 old)) ⊎ (read_of most new ≡ None)
gate_torn most old new torn = elim (cases_eq (get_or new 0 0) 1) [
  | inl is ↦ inl (open_reads most new is ∙ ap (λ (xs : List ℕ). body_of most xs) torn.after)
  | inr shut ↦ inr (shut_none most new shut)
]

pub closing : (old new : List ℕ) → get_or old 0 0 ≡ 1 → Torn 0 1 old new → Quiet old new
closing old new is torn most = elim (gate_torn most old new torn) [
  | inl reads ↦ inl (reads ∙ sym (open_reads most old is))
  | inr none ↦ inr none
]

-- bytes behind the gate leave it
pub same_gate : (old new : List ℕ) (n : ℕ) → Torn 1 n old new → get_or new 0 0 ≡ get_or old 0 0
same_gate old new n torn =
    sym (get_or-take 1 new 0 0 (omega arith)) ∙ ap (λ (xs : List ℕ). get_or xs 0 0) torn.before
    ∙ get_or-take 1 old 0 0 (omega arith)

pub quiet_behind : (most : ℕ) (old mid new : List ℕ) (n : ℕ) → Shut old mid → Torn 1 n mid new → read_of most new ≡ None
quiet_behind most old mid new n shut torn = shut_none most new (λ is. shut.shut (sym (same_gate mid new n torn) ∙ is))

-- a byte that is put at the gate
put_first : (gate : ℕ) (old new : List ℕ) → Puts 0 (gate ∷ []) old new → get_or new 0 0 ≡ gate
put_first gate old new is = ap (λ (xs : List ℕ). get_or xs 0 0) is

pub gate_closed : (old new : List ℕ) → 0 < length old → Puts 0 (0 ∷ []) old new → Shut old new
gate_closed old new some is = record {
  size = (subst (λ (x : List ℕ). Torn 0 1 old x) (sym is) (put_torn 0 (0 ∷ []) old (omega (arith, some)))).size;
  shut = λ one. omega (arith, put_first 0 old new is, one);
}

pub gate_opened : (most : ℕ) (old new : List ℕ) → 0 < length old → Puts 0 (1 ∷ []) old new
    → read_of most new ≡ body_of most (drop 1 old)
gate_opened most old new some is =
    let torn = subst (λ (x : List ℕ). Torn 0 1 old x) (sym is) (put_torn 0 (1 ∷ []) old (omega (arith, some))) in
    open_reads most new (put_first 1 old new is) ∙ ap (λ (xs : List ℕ). body_of most xs) torn.after

-- a body that is put behind a gate that isn't 1
pub body_put : (body old new : List ℕ) → get_or old 0 0 ≢ 1 → 1 + length body ≤ length old → Puts 1 body old new
    → Rewritten body old new
body_put body old new shut fits is =
    let torn = subst (λ (x : List ℕ). Torn 1 (length body) old x) (sym is) (put_torn 1 body old fits) in
    let front : length (take 1 old) ≡ 1 = length-take-le 1 old (omega (arith, fits)) in
    let rest : drop 1 new ≡ body ++ drop (1 + length body) old =
    ap (λ (xs : List ℕ). drop 1 xs) (is ∙ append_assoc (take 1 old) body (drop (1 + length body) old))
    ∙ drop_at (take 1 old) (body ++ drop (1 + length body) old) 1 front in
    record {
      size = torn.size;
      shut = λ one. shut (sym (same_gate old new (length body) torn) ∙ one);
      behind = ap (λ (xs : List ℕ). take (length body) xs) rest
          ∙ take_at body (drop (1 + length body) old) (length body) refl;
    }

pub rewritten_on : (body old mid new : List ℕ) → Shut old mid → 1 + length body ≤ length old → Puts 1 body mid new
    → Rewritten body old new
rewritten_on body old mid new shut fits put =
    let r = body_put body mid new shut.shut (omega (arith, shut.size, fits)) put in
    record { size = r.size ∙ shut.size; shut = r.shut; behind = r.behind }

-- a byte behind a torn gate
pub torn_rest : (old new : List ℕ) (at : ℕ) → Torn 0 1 old new → 0 < at → get_or new at 0 ≡ get_or old at 0
torn_rest old new at torn behind = rest new ∙ ap (λ (xs : List ℕ). get_or xs (at - 1) 0) torn.after ∙ sym (rest old)
  where
    place : at ≡ 1 + (at - 1)
    place = omega (arith, behind)

    rest : (xs : List ℕ) → get_or xs at 0 ≡ get_or (drop 1 xs) (at - 1) 0
    rest xs = ap (λ (k : ℕ). get_or xs k 0) place ∙ sym (get_or-drop 1 xs (at - 1) 0)

pub put_rest : (gate : ℕ) (old new : List ℕ) (at : ℕ) → 0 < length old → Puts 0 (gate ∷ []) old new → 0 < at
    → get_or new at 0 ≡ get_or old at 0
put_rest gate old new at some is behind =
    torn_rest old new at (subst (λ (x : List ℕ). Torn 0 1 old x) (sym is)
    (put_torn 0 (gate ∷ []) old (omega (arith, some)))) behind
