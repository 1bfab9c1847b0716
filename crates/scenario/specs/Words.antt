-- What a word says, or that it isn't in its form or range.
use Rattle.std.specs.Prelude.{ℕ, ◌+◌, ◌*◌, ◌^◌, ◌&&◌, ◌-◌, ◌==◌, nat_lt, nat_le, if◌then◌else◌, List, [], ◌∷◌, take, drop, position, codes, Option, Some, None, option_map, ok_or, Result, Ok, Err}
use Rattle.std.specs.Str.{bytes_eq}
use Rattle.ucm_base.specs.declared.ids.CallNo.{CallNo}
use Rattle.ucm_base.specs.declared.parts.Action.{Action}
use Rattle.ucm_base.specs.declared.parts.Action.TheVariants.{Install, Update, Remove}
use Rattle.ucm_base.specs.declared.parts.Need.{Need}
use Rattle.ucm_base.specs.Limits.{client_limit, node_limit}
use Rattle.ucm_base.specs.Name.{is_cluster_name}
use Rattle.ucm_base.specs.Versions.{is_version_text, is_req_text}
use Rattle.ucm_text.specs.Decimal.{number_of_word}
use Rattle.scenario.specs.declared.why.Why.{Why}
use Rattle.scenario.specs.declared.why.Why.TheVariants.{Value}
use Rattle.scenario.specs.declared.words.Reach.{Reach}
use Rattle.scenario.specs.declared.words.Reach.TheVariants.{OneNode, Vehicle}
use Rattle.scenario.specs.Readings.{◌>>=◌, given}

-- what stands before the first such byte, and what stands behind it
unfoldable pub cut : ℕ → List ℕ → Option (List ℕ × List ℕ)
cut at text = option_map (λ i. (take i text, drop (i + 1) text)) (position (λ b. b == at) text)

-- the two parts that the byte joins
abbrev pub parts_in : ℕ → List ℕ → Result (List ℕ × List ℕ) Why
parts_in at word = ok_or (cut at word) Value

abbrev pub number_in : List ℕ → Result ℕ Why
number_in word = ok_or (number_of_word word) Value

-- a number that 32 bits have
abbrev pub small_in : List ℕ → Result ℕ Why
small_in word = number_in word >>= λ n. given (nat_lt n (2 ^ 32)) n Value

-- a number from 1 on
abbrev pub from_one_in : List ℕ → Result ℕ Why
from_one_in word = number_in word >>= λ n. given (nat_le 1 n) n Value

-- the last node that a script may name
abbrev pub last_node : Reach → ℕ
last_node OneNode = 1
last_node Vehicle = node_limit

-- the first client that it may name
abbrev pub first_client : Reach → ℕ
first_client OneNode = 0
first_client Vehicle = 1

abbrev pub node_in : Reach → List ℕ → Result ℕ Why
node_in reach word = do
  n ← number_in word
  near ← given (nat_le n (last_node reach)) n Value
  given (nat_le 1 near && nat_le near node_limit) near Value

abbrev pub client_in : Reach → List ℕ → Result ℕ Why
client_in reach word = do
  n ← number_in word
  near ← given (nat_le (first_client reach) n) n Value
  given (nat_lt near client_limit) near Value

abbrev pub name_in : List ℕ → Result (List ℕ) Why
name_in word = given (is_cluster_name word) word Value

abbrev pub version_in : List ℕ → Result (List ℕ) Why
version_in word = given (is_version_text word) word Value

abbrev pub req_in : List ℕ → Result (List ℕ) Why
req_in word = given (is_req_text word) word Value

-- an epoch and a number, both from 1 on, joined by a point
abbrev pub call_no_in : List ℕ → Result CallNo Why
call_no_in word = do
  parts ← parts_in 46 word
  epoch ← small_in parts.0
  number ← small_in parts.1
  given (nat_le 1 epoch && nat_le 1 number) (record { epoch = epoch; number = number }) Value

-- a cluster and a requirement, joined by `@`
abbrev pub need_in : List ℕ → Result Need Why
need_in word = do
  parts ← parts_in 64 word
  name ← name_in parts.0
  req ← req_in parts.1
  Ok (record { name = name; req = req })

-- the needs of these words, in their order
abbrev pub needs_in : List (List ℕ) → Result (List Need) Why
needs_in [] = Ok []
needs_in (word ∷ words) = do
  need ← need_in word
  needs ← needs_in words
  Ok (need ∷ needs)

abbrev pub action_in : List ℕ → Result Action Why
action_in word =
    if bytes_eq word (codes "install") then Ok Install
    else if bytes_eq word (codes "update") then Ok Update
    else if bytes_eq word (codes "remove") then Ok Remove
    else Err Value

-- the value of a lower-case hexadecimal digit
abbrev pub digit_value : ℕ → Option ℕ
digit_value b = if nat_le 48 b && nat_le b 57 then Some (b - 48) else if nat_le 97 b && nat_le b 102 then Some (b - 87)
    else None

-- two lower-case hexadecimal digits
abbrev pub byte_in : List ℕ → Result ℕ Why
byte_in (a ∷ b ∷ []) = do
  high ← ok_or (digit_value a) Value
  low ← ok_or (digit_value b) Value
  Ok (16 * high + low)
byte_in _ = Err Value
