-- The first words of a line, one by one, and that they decide what the line is.
use Rattle.std.proofs.Common.{◌≡◌, ◌<◌, ◌≤◌, ◌+◌, ◌-◌, ◌++◌, ◌∙◌, ℕ, Bool, true, false, List, [], ◌∷◌, Option, Result, Err, Bor, length, map, take, append_assoc, add-one, refl, sym, ap, arith}
use Rattle.std.specs.Prelude.{◌&&◌, if◌then◌else◌, nat_le}
use Rattle.std.proofs.lemmas.Bool.Decides.{nat_tests}
use Rattle.std.proofs.lemmas.List.{map-append, take_all, length-take-le}
use Rattle.scenario.specs.declared.why.Why.{Why}
use Rattle.scenario.specs.declared.why.Why.TheVariants.{Form, Later}
use Rattle.scenario.specs.declared.lines.ScriptLine.{ScriptLine}
use Rattle.scenario.specs.Attached.{Places}
use Rattle.scenario.specs.declared.words.Reach.{Reach}
use Rattle.scenario.specs.declared.words.Reach.TheVariants.{OneNode}
use Rattle.scenario.specs.Readings.{◌>>=◌}
use Rattle.scenario.specs.Lines.{ask_line, attach_line, call_line, event_line, fails_line, installed_line, is_later, line_in, line_named, shared_line, short_line, time_line, work_line}
use Rattle.scenario.specs.Scripts.{pieces, pieces_left}

take-step : (k j : ℕ) (word : List ℕ) (words : List (List ℕ)) → k ≡ j + 1 → take k (word ∷ words) ≡ word ∷ take j words
take-step k j word words e = rw (e, add-one) refl

-- one word more
pub next-word : (all : List (List ℕ)) (words : List (Bor (List ℕ))) (most i : ℕ) (text : List ℕ) (word : Bor (List ℕ))
    (rest : Option (List ℕ)) → all ≡ map (λ w. w.now) words ++ take (most - i) (pieces 32 text) → i < most
    → pieces 32 text ≡ word.now ∷ pieces_left 32 rest
    → all ≡ map (λ w. w.now) (words ++ word ∷ []) ++ take (most - (i + 1)) (pieces_left 32 rest)
next-word all words most i text word rest so_far lt split =
    let one : most - i ≡ most - (i + 1) + 1 = omega arith in
    let now = λ (w : Bor (List ℕ)). w.now in
    so_far ∙ ap (λ ps. map now words ++ take (most - i) ps) split
    ∙ ap (λ ps. map now words ++ ps) (take-step (most - i) (most - (i + 1)) word.now (pieces_left 32 rest) one)
    ∙ sym (append_assoc (map now words) (word.now ∷ []) (take (most - (i + 1)) (pieces_left 32 rest)))
    ∙ ap (λ ps. ps ++ take (most - (i + 1)) (pieces_left 32 rest)) (sym (map-append now words (word ∷ [])))

-- lines of more words than any form has
abbrev IsForm : {A : Type 0} → Result A Why → Type 0
IsForm r = r ≡ Err Form

many : {A : Type 0} (n most : ℕ) (line : Result A Why) → most < n
    → IsForm (if nat_le 1 n && nat_le n most then line else Err Form)
many n most line h =
    let e : (nat_le 1 n && nat_le n most) ≡ false = grind (arith, nat_tests) in rw e refl

above : (n most : ℕ) (line : Result ScriptLine Why) → most < n → IsForm (if nat_le n most then line else Err Form)
above n most line h =
    let e : nat_le n most ≡ false = grind (arith, nat_tests) in rw e refl

long-time : (words : List (List ℕ)) → 20 < length words → IsForm (time_line words)
long-time [] h = absurd (omega arith)
long-time (a ∷ []) h = absurd (omega arith)
long-time (a ∷ b ∷ words) h = refl

long-pair : (reach : Reach) (words : List (List ℕ)) → 20 < length words
    → IsForm (work_line reach words) × IsForm (fails_line reach words) × IsForm (attach_line words)
long-pair reach [] h = absurd (omega arith)
long-pair reach (a ∷ []) h = absurd (omega arith)
long-pair reach (a ∷ b ∷ []) h = absurd (omega arith)
long-pair reach (a ∷ b ∷ c ∷ words) h = (refl, refl, refl)

long-ask : (reach : Reach) (words : List (List ℕ)) → 20 < length words → IsForm (ask_line reach words)
long-ask reach [] h = absurd (omega arith)
long-ask reach (a ∷ []) h = absurd (omega arith)
long-ask reach (a ∷ b ∷ query) h = many (length query) 3 _ (omega arith)

long-call : (reach : Reach) (places : Places) (words : List (List ℕ)) → 20 < length words
    → IsForm (call_line reach places words)
long-call reach places [] h = absurd (omega arith)
long-call reach places (a ∷ []) h = absurd (omega arith)
long-call reach places (a ∷ b ∷ []) h = absurd (omega arith)
long-call reach places (a ∷ b ∷ c ∷ call) h = many (length call) 4 _ (omega arith)

long-installed : (reach : Reach) (places : Places) (words : List (List ℕ)) → 20 < length words
    → IsForm (installed_line reach places words)
long-installed reach places [] h = absurd (omega arith)
long-installed reach places (a ∷ []) h = absurd (omega arith)
long-installed reach places (a ∷ b ∷ []) h = absurd (omega arith)
long-installed reach places (a ∷ b ∷ c ∷ []) h = absurd (omega arith)
long-installed reach places (a ∷ b ∷ c ∷ d ∷ needs) h = above (length needs) 16 _ (omega arith)

choice : {A : Type 0} (b : Bool) (one other : Result A Why) → IsForm one → IsForm other
    → IsForm (if b then one else other)
choice true one other e f = e
choice false one other e f = f

long-event : (reach : Reach) (places : Places) (word : List ℕ) (words : List (List ℕ)) → 20 < length words
    → IsForm (event_line reach places word words)
long-event reach places word words h =
    choice _ _ _ (long-call reach places words h) (choice _ _ _ (long-pair reach words h).0 (long-ask reach words h))

-- what isn't read isn't read on
goes-on : {A B : Type 0} (r : Result A Why) (f : A → Result B Why) → IsForm r → IsForm (r >>= f)
goes-on r f e = rw e refl

long-short : (reach : Reach) (word : List ℕ) (words : List (List ℕ)) → 20 < length words
    → IsForm (short_line reach word words)
long-short reach word words h =
    let p = long-pair reach words h in
    choice _ _ _ (long-time words h) (choice _ _ _ p.1 (choice _ _ _ p.2 refl))

-- a shared line has no more than 21 words
pub long-shared : (reach : Reach) (places : Places) (word : List ℕ) (words : List (List ℕ)) → 20 < length words
    → shared_line reach places word words ≡ Err Form
long-shared reach places word words h =
    choice _ _ _ (goes-on _ _ (long-event reach places word words h))
    (choice _ _ _ (long-installed reach places words h) (long-short reach word words h))

-- it is later or out of form, by its first word alone
long-line : (places : Places) (word : List ℕ) (words : List (List ℕ)) → 20 < length words
    → line_named places word words ≡ (if is_later word then Err Later else Err Form)
long-line places word words h =
    ap (λ r. if is_later word then Err Later else r) (long-shared OneNode places word words h)

named-by : (places : Places) (word : List ℕ) (words : List (List ℕ)) (short : Bool) → nat_le (length words) 21 ≡ short
    → line_named places word (take 21 words) ≡ line_named places word words
named-by places word words true e =
    let few : length words ≤ 21 = grind (arith, nat_tests) in ap (line_named places word) (take_all 21 words few)
named-by places word words false e =
    let most : 21 ≤ length words = grind (arith, nat_tests) in
    let more : 20 < length words = omega arith in
    let size : 20 < length (take 21 words) = omega (arith, length-take-le 21 words most) in
    long-line places word (take 21 words) size ∙ sym (long-line places word words more)

-- 22 words say what all words say
pub first-words : (places : Places) (words : List (List ℕ)) → line_in places (take 22 words) ≡ line_in places words
first-words places [] = refl
first-words places (word ∷ words) = named-by places word words (nat_le (length words) 21) refl

pub same-line : (places : Places) (all : List (List ℕ)) (words slice : List (Bor (List ℕ)))
    → map (λ w. w.now) words ≡ take 22 all → slice ≡ words
    → line_in places all ≡ line_in places (map (λ w. w.now) slice)
same-line places all words slice e f =
    sym (first-words places all) ∙ ap (line_in places) (sym e ∙ ap (map (λ (w : Bor (List ℕ)). w.now)) (sym f))
