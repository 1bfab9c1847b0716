-- Faults of texts.
use Rattle.std.proofs.Common.{◌≡◌, ◌↔◌, ℕ, List, Bool, true, false, cond, Some, None, Result, Ok, Err, refl, sym, ◌∙◌, ap, true≢false}
use Rattle.std.specs.Result.{is_ok}
use Rattle.semver.specs.declared.error.Error.{Error}
use Rattle.semver.specs.Parse.{IsRefused, memory_error}
use Rattle.ucm_base.specs.Short.{is_short}
use Rattle.ucm_base.specs.declared.versions.TextError.{TextError}
use Rattle.ucm_base.specs.declared.versions.TextError.TheVariants.{BadText, OutOfMemory}
use Rattle.ucm_base.proofs.Memory.{Plain, not_memory}

some_only : (b : Bool) (t xs : List ℕ) → Some t ≡ cond b (Some xs) None → b ≡ true
some_only true t xs h = refl
some_only false t xs h = cc h

pub short-found : (t xs : List ℕ) → Some t ≡ cond (is_short xs) (Some xs) None → is_short xs ≡ true
short-found t xs h = some_only (is_short xs) t xs h

same_error : {T : Type 0} (e k : Error) → ◌≡◌ {A = Result T Error} (Err e) (Err k) → e ≡ k
same_error e k h = ap (λ r. elim r [ Ok x ↦ k | Err z ↦ z ]) h

no_memory : {A : Type 0} (T : Type 0) (r : Result A Error) (e : Error) → is_ok r ≡ false → Plain r
    → IsRefused {T = T} r (Err e) → e ≡ memory_error → ⊥
no_memory T (Ok x) e bad plain refused m = true≢false bad
no_memory T (Err k) e bad plain refused m = not_memory (Err k) plain (ap Err (sym (same_error e k refused) ∙ m))

pub bad-fault : {A : Type 0} (T : Type 0) (r : Result A Error) (e : Error) (f : TextError) → (f ≡ OutOfMemory)
    ↔ (e ≡ memory_error) → is_ok r ≡ false → Plain r → IsRefused {T = T} r (Err e) → f ≡ BadText
bad-fault T r e BadText iff bad plain refused = refl
bad-fault T r e OutOfMemory iff bad plain refused = absurd (no_memory T r e bad plain refused (iff.0 refl))
