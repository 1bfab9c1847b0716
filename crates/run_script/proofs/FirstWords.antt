-- The first words of a line decide what it is.
use Rattle.std.proofs.Common.{◌≡◌, ◌<◌, ◌≤◌, ◌∙◌, ℕ, Bool, true, false, List, [], ◌∷◌, Result, Ok, Err, Bor, length, map, take, refl, sym, ap, arith}
use Rattle.std.specs.Prelude.{if◌then◌else◌, nat_le}
use Rattle.std.proofs.lemmas.Bool.Decides.{nat_tests}
use Rattle.std.proofs.lemmas.List.{take_all, length-take-le}
use Rattle.scenario.specs.declared.why.Why.{Why}
use Rattle.scenario.specs.declared.why.Why.TheVariants.{Form}
use Rattle.scenario.specs.declared.words.Reach.TheVariants.{Vehicle}
use Rattle.scenario.specs.Readings.{◌>>=◌}
use Rattle.scenario.specs.Attached.{Places}
use Rattle.scenario.proofs.FirstWords.{long-shared}
use Rattle.scenario.specs.declared.lines.ScriptLine.{ScriptLine}
use Rattle.run_script.specs.declared.read.RunLine.{RunLine}
use Rattle.run_script.specs.declared.read.RunLine.TheVariants.{Shared}
use Rattle.run_script.specs.RunLines.{campaign_line, cancel_line, fate_line, fault_line, is_setup_form, line_in, line_named, own_line, setup_line, stop_line}

-- lines of more words than any form has
abbrev IsForm : Result RunLine Why → Type 0
IsForm r = r ≡ Err Form

choice : (b : Bool) (one other : Result RunLine Why) → IsForm one → IsForm other → IsForm (if b then one else other)
choice true one other e f = e
choice false one other e f = f

long-one : (words : List (List ℕ)) → 20 < length words → IsForm (campaign_line words) × IsForm (cancel_line words)
long-one [] h = absurd (omega arith)
long-one (a ∷ []) h = absurd (omega arith)
long-one (a ∷ b ∷ words) h = (refl, refl)

long-three : (line : ℕ) (words : List (List ℕ)) → 20 < length words
    → IsForm (fate_line line words) × IsForm (stop_line line words) × IsForm (fault_line line words)
long-three line [] h = absurd (omega arith)
long-three line (a ∷ []) h = absurd (omega arith)
long-three line (a ∷ b ∷ []) h = absurd (omega arith)
long-three line (a ∷ b ∷ c ∷ []) h = absurd (omega arith)
long-three line (a ∷ b ∷ c ∷ d ∷ words) h = (refl, refl, refl)

long-own : (line : ℕ) (word : List ℕ) (words : List (List ℕ)) → 20 < length words → IsForm (own_line line word words)
long-own line word words h =
    let three = long-three line words h in
    let one = long-one words h in
    choice _ _ _ three.0 (choice _ _ _ three.1 (choice _ _ _ three.2 (choice _ _ _ one.0 one.1)))

long-setup : (places : Places) (words : List (List ℕ)) → 20 < length words → IsForm (setup_line places words)
long-setup places [] h = refl
long-setup places (word ∷ words) h =
    let e : is_setup_form words ≡ false = grind (arith, nat_tests) in rw e refl

long-line : (line : ℕ) (places : Places) (word : List ℕ) (words : List (List ℕ)) → 20 < length words
    → IsForm (line_named line places word words)
long-line line places word words h =
    let shared = long-shared Vehicle places word words h in
    choice _ _ _ (long-setup places words h) (choice _ _ _ (long-own line word words h)
    (ap (λ (r : Result ScriptLine Why). r >>= λ l. Ok (Shared l)) shared))

named-by : (line : ℕ) (places : Places) (word : List ℕ) (words : List (List ℕ)) (short : Bool)
    → nat_le (length words) 21 ≡ short
    → line_named line places word (take 21 words) ≡ line_named line places word words
named-by line places word words true e =
    let few : length words ≤ 21 = grind (arith, nat_tests) in ap (line_named line places word) (take_all 21 words few)
named-by line places word words false e =
    let most : 21 ≤ length words = grind (arith, nat_tests) in
    let more : 20 < length words = omega arith in
    let size : 20 < length (take 21 words) = omega (arith, length-take-le 21 words most) in
    long-line line places word (take 21 words) size ∙ sym (long-line line places word words more)

-- 22 words say what all words say
pub first-words : (line : ℕ) (places : Places) (words : List (List ℕ))
    → line_in line places (take 22 words) ≡ line_in line places words
first-words line places [] = refl
first-words line places (word ∷ words) = named-by line places word words (nat_le (length words) 21) refl

pub same-line : (line : ℕ) (places : Places) (all : List (List ℕ)) (words slice : List (Bor (List ℕ)))
    → map (λ w. w.now) words ≡ take 22 all → slice ≡ words
    → line_in line places all ≡ line_in line places (map (λ w. w.now) slice)
same-line line places all words slice e f =
    sym (first-words line places all)
    ∙ ap (line_in line places) (sym e ∙ ap (map (λ (w : Bor (List ℕ)). w.now)) (sym f))
