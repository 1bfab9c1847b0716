-- Nodes and clients that a script of a run names.
use Rattle.std.proofs.Common.{◌≡◌, ◌≤◌, ℕ, Bool, true, false, List, [], ◌∷◌, Result, Ok, Err, IfOk, refl, subst, arith}
use Rattle.std.specs.Str.{bytes_eq}
use Rattle.std.specs.Prelude.{codes, ◌&&◌, if◌then◌else◌, nat_le, nat_lt}
use Rattle.std.proofs.lemmas.Bool.Decides.{nat_tests}
use Rattle.ucm_base.specs.Limits.{client_limit, node_limit, time_limit}
use Rattle.scenario.specs.declared.why.Why.{Why}
use Rattle.scenario.specs.declared.why.Why.TheVariants.{Form, Value}
use Rattle.scenario.specs.declared.why.WordError.{WordError}
use Rattle.scenario.specs.declared.words.Reach.TheVariants.{Vehicle}
use Rattle.scenario.specs.declared.lines.ScriptLine.{ScriptLine}
use Rattle.scenario.specs.declared.lines.ScriptLine.TheVariants.{Happens}
use Rattle.scenario.specs.Attached.{Places}
use Rattle.scenario.specs.Readings.{◌>>=◌, given}
use Rattle.scenario.specs.Words.{call_no_in, client_in, name_in, node_in, number_in}
use Rattle.scenario.specs.Events.{call_in, query_in}
use Rattle.scenario.specs.Lines.{ask_line, attach_line, call_line, client_query, cluster_line, cluster_on, event_line, fails_line, installed_line, is_call_form, is_event, is_query_form, numbered_call, shared_line, short_line, time_line, work_line}
use Rattle.run_script.specs.InForm.{IsClient, IsDone, IsNode, IsShared}

-- what holds of what is read first, and of all that is read after it
behind : {A B : Type 0} (P : A → Type 0) (Q : B → Type 0) (r : Result A Why) (f : A → Result B Why) → IfOk r P
    → ((a : A) → P a → IfOk (f a) Q) → IfOk (r >>= f) Q
behind P Q (Ok a) f p h = h a p
behind P Q (Err why) f p h = tt

after : {A B : Type 0} (Q : B → Type 0) (r : Result A Why) (f : A → Result B Why) → ((a : A) → IfOk (f a) Q)
    → IfOk (r >>= f) Q
after Q (Ok a) f h = h a
after Q (Err why) f h = tt

passed : {A : Type 0} (P : A → Type 0) (test : Bool) (a : A) (why : Why) → (test ≡ true → P a)
    → IfOk (given test a why) P
passed P true a why h = h refl
passed P false a why h = tt

either : {A : Type 0} (P : A → Type 0) (b : Bool) (one other : Result A Why) → IfOk one P → IfOk other P
    → IfOk (if b then one else other) P
either P true one other h g = h
either P false one other h g = g

-- what is read is as each reading is
pub read-in-form : {A : Type 0} (P : A → Type 0) (result : Result A WordError) (reading : Result A Why)
    → IfOk reading P → IfOk result (λ a. reading ≡ Ok a) → IfOk result P
read-in-form P (Ok a) reading p e = subst (λ r. IfOk r P) e p
read-in-form P (Err fault) reading p e = tt

-- a word that names a node
pub is_node : (word : List ℕ) → IfOk (node_in Vehicle word) IsNode
is_node word =
    after IsNode (number_in word) _ (λ n. after IsNode (given (nat_le n node_limit) n Value) _ (λ near.
    passed IsNode (nat_le 1 near && nat_le near node_limit) near Value (λ h.
    (grind (arith, nat_tests), grind (arith, nat_tests)))))

is-client : (word : List ℕ) → IfOk (client_in Vehicle word) IsClient
is-client word =
    after IsClient (number_in word) _ (λ n. behind (λ c. 1 ≤ c) IsClient (given (nat_le 1 n) n Value) _
    (passed (λ c. 1 ≤ c) (nat_le 1 n) n Value (λ h. grind (arith, nat_tests)))
    (λ near least. passed IsClient (nat_lt near client_limit) near Value (λ h. (least, grind (arith, nat_tests)))))

is-call : (places : Places) (words : List (List ℕ)) → IfOk (call_line Vehicle places words) IsDone
is-call places [] = tt
is-call places (node ∷ []) = tt
is-call places (node ∷ client ∷ []) = tt
is-call places (node ∷ client ∷ number ∷ call) =
    either IsDone (is_call_form call) (numbered_call Vehicle places node client number call) (Err Form)
    (behind IsNode IsDone (node_in Vehicle node) _ (is_node node) (λ at near.
    behind IsClient IsDone (client_in Vehicle client) _ (is-client client) (λ c other.
    after IsDone (call_no_in number) _ (λ n. after IsDone (call_in places call) _ (λ asked. (near, other)))))) tt

is-work : (words : List (List ℕ)) → IfOk (work_line Vehicle words) IsDone
is-work [] = tt
is-work (node ∷ []) = tt
is-work (node ∷ client ∷ []) =
    behind IsNode IsDone (node_in Vehicle node) _ (is_node node) (λ at near.
    behind IsClient IsDone (client_in Vehicle client) _ (is-client client) (λ c other. (near, other)))
is-work (node ∷ client ∷ word ∷ words) = tt

is-ask : (words : List (List ℕ)) → IfOk (ask_line Vehicle words) IsDone
is-ask [] = tt
is-ask (node ∷ []) = tt
is-ask (node ∷ client ∷ query) =
    either IsDone (is_query_form query) (client_query Vehicle node client query) (Err Form)
    (behind IsNode IsDone (node_in Vehicle node) _ (is_node node) (λ at near.
    behind IsClient IsDone (client_in Vehicle client) _ (is-client client) (λ c other.
    after IsDone (query_in query) _ (λ q. (near, other))))) tt

-- what a client does
pub is_done : (places : Places) (word : List ℕ) (words : List (List ℕ))
    → IfOk (event_line Vehicle places word words) IsDone
is_done places word words =
    either IsDone (bytes_eq word (codes "call")) (call_line Vehicle places words)
    (if bytes_eq word (codes "work") then work_line Vehicle words else ask_line Vehicle words) (is-call places words)
    (either IsDone (bytes_eq word (codes "work")) (work_line Vehicle words) (ask_line Vehicle words) (is-work words)
    (is-ask words))

is-installed : (places : Places) (words : List (List ℕ)) → IfOk (installed_line Vehicle places words) IsShared
is-installed places [] = tt
is-installed places (node ∷ []) = tt
is-installed places (node ∷ name ∷ []) = tt
is-installed places (node ∷ name ∷ version ∷ []) = tt
is-installed places (node ∷ name ∷ version ∷ block ∷ needs) =
    either IsShared _ (cluster_on Vehicle places node name version block needs) (Err Form)
    (behind IsNode IsShared (node_in Vehicle node) _ (is_node node) (λ at near.
    after IsShared (cluster_line places name version block needs) _ (λ c. near))) tt

is-time : (words : List (List ℕ)) → IfOk (time_line words) IsShared
is-time [] = tt
is-time (word ∷ []) =
    after IsShared (number_in word) _ (λ n. passed IsShared (nat_le n time_limit) _ Value (λ h. grind (
      arith,
      nat_tests,
    )))
is-time (word ∷ more ∷ words) = tt

is-fails : (words : List (List ℕ)) → IfOk (fails_line Vehicle words) IsShared
is-fails [] = tt
is-fails (node ∷ []) = tt
is-fails (node ∷ name ∷ []) =
    behind IsNode IsShared (node_in Vehicle node) _ (is_node node) (λ at near.
    after IsShared (name_in name) _ (λ n. near))
is-fails (node ∷ name ∷ word ∷ words) = tt

is-attach : (words : List (List ℕ)) → IfOk (attach_line words) IsShared
is-attach [] = tt
is-attach (name ∷ []) = tt
is-attach (name ∷ size ∷ []) = after IsShared (name_in name) _ (λ n. after IsShared (number_in size) _ (λ s. tt))
is-attach (name ∷ size ∷ word ∷ words) = tt

is-short : (word : List ℕ) (words : List (List ℕ)) → IfOk (short_line Vehicle word words) IsShared
is-short word words =
    either IsShared (bytes_eq word (codes "time")) (time_line words)
    (if bytes_eq word (codes "fails") then fails_line Vehicle words
    else if bytes_eq word (codes "attach") then attach_line words else Err Form) (is-time words)
    (either IsShared (bytes_eq word (codes "fails")) (fails_line Vehicle words)
    (if bytes_eq word (codes "attach") then attach_line words else Err Form) (is-fails words)
    (either IsShared (bytes_eq word (codes "attach")) (attach_line words) (Err Form) (is-attach words) tt))

-- a line that `replay` has, too
pub is_shared : (places : Places) (word : List ℕ) (words : List (List ℕ))
    → IfOk (shared_line Vehicle places word words) IsShared
is_shared places word words =
    let done : Result ScriptLine Why = event_line Vehicle places word words >>= λ e. Ok (Happens e) in
    let other : Result ScriptLine Why =
    if bytes_eq word (codes "installed") then installed_line Vehicle places words else short_line Vehicle word words
    in
    either IsShared (is_event word) done other
    (behind IsDone IsShared (event_line Vehicle places word words) _ (is_done places word words) (λ e h. h))
    (either IsShared (bytes_eq word (codes "installed")) (installed_line Vehicle places words)
    (short_line Vehicle word words) (is-installed places words) (is-short word words))
