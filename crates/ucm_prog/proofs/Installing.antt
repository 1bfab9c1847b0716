-- The clusters that a script installs are allowed.
use Rattle.std.proofs.Common.{◌≡◌, ℕ, ◌+◌, ◌-◌, ◌<◌, ◌≤◌, refl, sym, subst, ap, ◌∙◌, Bool, true, false, List, [], ◌∷◌, ◌++◌, length, map, Option, Some, None, Result, Ok, Err, IfOk, arith}
use Rattle.std.specs.Prelude.{not, ◌&&◌, ◌||◌, ◌==◌, nat_le, nat_lt, if◌then◌else◌, is_some, is_none}
use Rattle.std.specs.List.{AllByRecursion}
use Rattle.std.specs.Str.{bytes_eq}
use Rattle.std.specs.Cmp.Derive.{both_true}
use Rattle.std.proofs.lemmas.Bool.{and_parts, leb-true}
use Rattle.std.proofs.lemmas.List.{length-append, map-append}
use Rattle.ucm_base.specs.Limits.{cluster_limit, package_limit}
use Rattle.ucm_base.specs.Names.{all_differ, has_name}
use Rattle.scenario.specs.declared.why.Why.{Why}
use Rattle.scenario.specs.declared.why.Why.TheVariants.{Twice, Limit, Bytes}
use Rattle.scenario.specs.declared.lines.Installed.{Installed}
use Rattle.scenario.specs.declared.lines.ScriptLine.{ScriptLine}
use Rattle.scenario.specs.declared.lines.ScriptLine.TheVariants.{Time, Installed as Installs, Happens, Fails, Attach}
use Rattle.scenario.specs.declared.script.Above.{Above}
use Rattle.scenario.specs.declared.script.Script.{Script}
use Rattle.scenario.specs.declared.script.Command.TheVariants.{Replay}
use Rattle.scenario.specs.Readings.{◌>>=◌}
use Rattle.scenario.specs.Attached.{attached_by}
use Rattle.scenario.specs.Blocks.{length_meant}
use Rattle.scenario.specs.Lines.{line_in}
use Rattle.scenario.specs.Scripts.{Refused, added, attached_to, attached_with, finished, followed, has_installed, has_room, is_end, is_passed_over, line_read, lines_of, nothing_above, read_from, script, script_of, words_of}
use Rattle.node_replay.specs.Installed.{IsAllowed}

each-append : {X : Type 0} (P : X → Type 0) (xs ys : List X) → AllByRecursion P xs → AllByRecursion P ys
    → AllByRecursion P (xs ++ ys)
each-append P [] ys h k = k
each-append P (x ∷ xs) ys h k = (h.0, each-append P xs ys h.1 k)

neither : (a b : Bool) → (a || b) ≡ false → (a ≡ false) × (b ≡ false)
neither false b e = (refl, e)
neither true b e = absurd (cc)

-- a name behind others that it differs from
differ-behind : (cs : List Installed) (name : List ℕ) → all_differ (map (λ c. c.name) cs) ≡ true
    → has_installed cs name ≡ false → all_differ (map (λ c. c.name) cs ++ name ∷ []) ≡ true
differ-behind [] name h e = refl
differ-behind (c ∷ cs) name h e =
    let parts = and_parts (not (has_name (map (λ (d : Installed). d.name) cs) c.name))
    (all_differ (map (λ (d : Installed). d.name) cs)) h in
    let apart = neither (bytes_eq c.name name) (has_installed cs name) e in
    both_true (ap not (behind (map (λ (d : Installed). d.name) cs) c.name name apart.0) ∙ parts.0)
    (differ-behind cs name parts.1 apart.1)
  where
    behind : (names : List (List ℕ)) (one name : List ℕ) → bytes_eq one name ≡ false
        → has_name (names ++ name ∷ []) one ≡ has_name names one
    behind [] one name h = rw h refl
    behind (n ∷ names) one name h = ap (λ b. bytes_eq one n || b) (behind names one name h)

abbrev room-parts : (n size most biggest : ℕ) → (nat_lt n most && nat_le size biggest) ≡ true
    → (n < most) × (size ≤ biggest)
room-parts n size most biggest h =
    let parts = and_parts (nat_lt n most) (nat_le size biggest) h in (leb-true _ _ parts.0, leb-true _ _ parts.1)

one-more : (n most : ℕ) → n < most → n + 1 ≤ most
one-more n most h = omega arith

-- one cluster more of another name, where there is room
allowed-behind : (above : Above) (c : Installed) → IsAllowed above.installed
    → has_installed above.installed c.name ≡ false → has_room above c ≡ true → IsAllowed (above.installed ++ c ∷ [])
allowed-behind above c h differs room =
    let parts = room-parts (length above.installed) (length_meant c.block) cluster_limit package_limit room in
    record {
      differ = ap all_differ (map-append (λ (d : Installed). d.name) above.installed (c ∷ []))
          ∙ differ-behind above.installed c.name h.differ differs;
      few = subst (λ n. n ≤ cluster_limit) (sym (length-append above.installed (c ∷ [])))
          (one-more _ cluster_limit parts.0);
      sizes = each-append (λ (d : Installed). length_meant d.block ≤ package_limit) above.installed (c ∷ []) h.sizes
          (parts.1, tt);
    }

abbrev Allows : Result Above Why → Type 0
Allows r = IfOk r (λ a. IsAllowed a.installed)

abbrev Allowed : Result Script Refused → Type 0
Allowed r = IfOk r (λ s. IsAllowed s.installed)

either-line : (b : Bool) (x y : Result Above Why) → Allows x → Allows y → Allows (if b then x else y)
either-line true x y h k = h
either-line false x y h k = k

either-script : (b : Bool) (x y : Result Script Refused) → Allowed x → Allowed y → Allowed (if b then x else y)
either-script true x y h k = h
either-script false x y h k = k

installed-allowed : (above : Above) (c : Installed) (again room : Bool)
    → again ≡ has_installed above.installed c.name → room ≡ has_room above c → IsAllowed above.installed
    → Allows (if has_installed above.installed c.name then Err Twice else
    (if has_room above c then Ok (record above { installed = above.installed ++ c ∷ [] }) else Err Limit))
installed-allowed above c true room e f h = rw (← e) tt
installed-allowed above c false true e f h = rw (← e, ← f) (allowed-behind above c h (sym e) (sym f))
installed-allowed above c false false e f h = rw (← e, ← f) tt

attached-allowed : (above : Above) (name : List ℕ) (len : ℕ) (all : Option ℕ) → IsAllowed above.installed
    → Allows (attached_to above name len all)
attached-allowed above name len (Some all) h = h
attached-allowed above name len None h = tt

added-allowed : (n : ℕ) (above : Above) (line : ScriptLine) → IsAllowed above.installed → Allows (added n above line)
added-allowed n above (Time t) h = either-line (is_none above.time) (Ok (record above { time = Some t }))
    (Err Twice) h tt
added-allowed n above (Installs node c) h = installed-allowed above c _ _ refl refl h
added-allowed n above (Happens e) h = h
added-allowed n above (Fails node name) h = h
added-allowed n above (Attach name len) h = either-line (is_some (attached_by above.attachments name)) (Err Twice)
    (attached_to above name len (attached_with above.attached len)) tt
    (attached-allowed above name len (attached_with above.attached len) h)

read-allowed : (n : ℕ) (above : Above) (r : Result ScriptLine Why) → IsAllowed above.installed
    → Allows (r >>= added n above)
read-allowed n above (Ok line) h = added-allowed n above line h
read-allowed n above (Err why) h = tt

line-allowed : (n : ℕ) (above : Above) (line : List ℕ) → IsAllowed above.installed → Allows (line_read n above line)
line-allowed n above line h = either-line (is_passed_over line) (Ok above)
    (line_in above.attachments (words_of line) >>= added n above) h
    (read-allowed n above (line_in above.attachments (words_of line)) h)

followed-allowed : (n : ℕ) (more : Above → Result Script Refused) (r : Result Above Why)
    → ((a : Above) → IsAllowed a.installed → Allowed (more a)) → Allows r → Allowed (followed n more r)
followed-allowed n more (Ok a) k h = k a h
followed-allowed n more (Err why) k h = tt

finished-allowed : (size : ℕ) (above : Above) (at : ℕ) → IsAllowed above.installed → Allowed (finished size above at)
finished-allowed size above at h = either-script (above.attached == size - at) (Ok (script above at))
    (Err (record { line = 0; why = Bytes })) h tt

lines-allowed : (size : ℕ) (above : Above) (at n : ℕ) (lines : List (List ℕ)) → IsAllowed above.installed
    → Allowed (read_from size above at n lines)
lines-allowed size above at n [] h = finished-allowed size above at h
lines-allowed size above at n (line ∷ lines) h =
    either-script (is_end line) (finished size above (at + length line + 1))
    (followed n (λ a. read_from size a (at + length line + 1) (n + 1) lines) (line_read n above line))
    (finished-allowed size above (at + length line + 1) h)
    (followed-allowed n (λ a. read_from size a (at + length line + 1) (n + 1) lines) (line_read n above line)
    (λ a k. lines-allowed size a (at + length line + 1) (n + 1) lines k) (line-allowed n above line h))

pub script-allowed : (input : List ℕ) (s : Script) → script_of Replay input ≡ Ok s → IsAllowed s.installed
script-allowed input s e =
    subst Allowed e (lines-allowed (length input) nothing_above 0 1 (lines_of input)
    (record { differ = refl; few = omega arith; sizes = tt }))
