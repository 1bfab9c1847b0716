-- Readings: a value, or why there is none.
use Rattle.std.specs.Prelude.{◌≡◌, Bool, if◌then◌else◌, IfErr, IfOk, OnOk, Result, Ok, Err}
use Rattle.scenario.specs.declared.why.Why.{Why}
use Rattle.scenario.specs.declared.why.WordError.{WordError}
use Rattle.scenario.specs.declared.why.WordError.TheVariants.{Refused}

-- a reading that goes on with what was read before; the first that is refused decides
infixl 10 ◌>>=◌
abbrev pub ◌>>=◌ : {A B : Type 0} → Result A Why → (A → Result B Why) → Result B Why
(Ok a) >>= f = f a
(Err why) >>= f = Err why

-- the value, where the test passes
abbrev pub given : {A : Type 0} → Bool → A → Why → Result A Why
given test a why = if test then Ok a else Err why

-- a refusal is that of the reading
abbrev pub IsRefusedAs : {A B : Type 0} → Result B WordError → Result A Why → Type 0
IsRefusedAs result reading = IfErr result (λ e. (why : Why) → e ≡ Refused why → reading ≡ Err why)

-- what is answered is the reading, unless memory was wanting
abbrev pub IsRead : {A : Type 0} → Result A WordError → Result A Why → Type 0
IsRead result reading = IfOk result (λ a. reading ≡ Ok a) × IsRefusedAs result reading

-- where there is no refusal the reading is this value, unless memory was wanting
abbrev pub Becomes : {A B : Type 0} → Result B WordError → A → Result A Why → Type 0
Becomes result value reading = OnOk result (reading ≡ Ok value) × IsRefusedAs result reading
