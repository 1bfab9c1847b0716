-- Small laws for closed runs: what holds at each of the eight nodes, and what a removal leaves.
use Rattle.std.specs.Prelude.{◌≡◌, ◌≢◌, ℕ, zero, suc, ◌≤◌, Bool, true, false, cond, ◌||◌, ◌==◌, List, [], ◌∷◌, ◌++◌, take, Some, None}
use Rattle.std.specs.List.{AllByRecursion}
use Rattle.std.specs.Str.{bytes_eq}
use Rattle.std.proofs.Common.{refl, inl, inr, sym, ap, ◌∙◌, subst, arith}
use Rattle.std.proofs.lemmas.Slice.Eq.{bytes_eq-Decides}
use Rattle.ucm_base.specs.Parts.{Bytes}
use Rattle.ucm_base.specs.declared.ids.NodeSet.{NodeSet}
use Rattle.ucm_base.specs.declared.parts.Action.{Action}
use Rattle.ucm_base.specs.declared.parts.Action.TheVariants.{Remove}
use Rattle.pm_types.specs.declared.clusters.Cluster.{Cluster}
use Rattle.ucm_base.specs.declared.parts.Part.{Part}
use Rattle.pm_types.specs.Clusters.{brought}
use Rattle.campaign_core.specs.Nodes.{flag_of}
use Rattle.world.specs.Words.{RunsNew, left_by}
use Rattle.world.proofs.Orders.{IsIn, in-contained}
use Rattle.run_claim.specs.Script.{Script, ClientLine, packages_of, every_node}
use Rattle.run_claim.specs.Lines.{InLine, line_at}

-- from a test that fails all follows
pub never : {A : Type 0} → false ≡ true → A
never h = absurd (cc h)

-- what holds of each of the eight nodes holds of a node from 1 to 8
pub each_node : (P : ℕ → Type 0) → AllByRecursion P every_node → (n : ℕ) → 1 ≤ n → n ≤ 8 → P n
each_node P h zero a b = absurd (omega (arith, a))
each_node P h (suc zero) a b = h.0
each_node P h (suc (suc zero)) a b = h.1.0
each_node P h (suc (suc (suc zero))) a b = h.1.1.0
each_node P h (suc (suc (suc (suc zero)))) a b = h.1.1.1.0
each_node P h (suc (suc (suc (suc (suc zero))))) a b = h.1.1.1.1.0
each_node P h (suc (suc (suc (suc (suc (suc zero)))))) a b = h.1.1.1.1.1.0
each_node P h (suc (suc (suc (suc (suc (suc (suc zero))))))) a b = h.1.1.1.1.1.1.0
each_node P h (suc (suc (suc (suc (suc (suc (suc (suc zero)))))))) a b = h.1.1.1.1.1.1.1.0
each_node P h (suc (suc (suc (suc (suc (suc (suc (suc (suc n))))))))) a b = absurd (omega (arith, b))

-- a node's flag is set exactly where it has packages
abbrev pub FlagFits : Script → NodeSet → ℕ → Type 0
FlagFits s named n = (flag_of named n ≡ true → packages_of s n ≢ []) × (packages_of s n ≢ [] → flag_of named n ≡ true)

-- the one part removes the one cluster
pub removed_only : (part : Part Bytes) (c : Cluster Bytes) → part.manifest.action ≡ Remove → part.manifest.name ≡ c.name
    → RunsNew (part ∷ []) (c ∷ []) []
removed_only part c removes same = record {
  named = λ p h. gone_part p (in-contained p (part ∷ []) h);
  others = λ name h. gone name h (bytes_eq c.name name) refl;
}
  where
    gone_part : (p : Part Bytes) → IsIn p (part ∷ []) → None ≡ left_by p.manifest.action (brought p)
    gone_part p (inl e) =
        subst (λ (q : Part Bytes). None ≡ left_by q.manifest.action (brought q)) (sym e)
        (sym (ap (λ (a : Action). left_by a (brought part)) removes))
    gone_part p (inr f) = absurd f

    gone : (name : List ℕ) → (bytes_eq name part.manifest.name || false) ≡ false → (b : Bool) → bytes_eq c.name name ≡ b
        → None ≡ cond b (Some c) None
    gone name h false e = refl
    gone name h true e =
        let at : name ≡ part.manifest.name = sym ((bytes_eq-Decides c.name name).0 e) ∙ sym same in
        let met : (true || false) ≡ false =
        subst (λ (x : Bool). (x || false) ≡ false) ((bytes_eq-Decides name part.manifest.name).1 at) h in
        absurd (cc met)

-- P holds of each prefix of the list
abbrev pub EachPrefix : {A : Type 0} → (List A → Type 0) → List A → Type 0
EachPrefix P [] = P []
EachPrefix P (x ∷ xs) = P [] × EachPrefix (λ p. P (x ∷ p)) xs

pub each_prefix : {A : Type 0} (P : List A → Type 0) (xs : List A) → EachPrefix P xs → (n : ℕ) → P (take n xs)
each_prefix P [] h zero = h
each_prefix P [] h (suc n) = h
each_prefix P (x ∷ xs) h zero = h.0
each_prefix P (x ∷ xs) h (suc n) = each_prefix (λ p. P (x ∷ p)) xs h.1 n

-- P holds wherever the list is cut in two
abbrev pub EachSplit : {A : Type 0} → (List A → List A → Type 0) → List A → Type 0
EachSplit P [] = P [] []
EachSplit P (x ∷ xs) = P [] (x ∷ xs) × EachSplit (λ a b. P (x ∷ a) b) xs

pub each_split : {A : Type 0} (P : List A → List A → Type 0) (xs : List A) → EachSplit P xs → (a b : List A)
    → xs ≡ a ++ b → P a b
each_split P [] h [] b e = subst (P []) e h
each_split P [] h (y ∷ a) b e = absurd (cc e)
each_split P (x ∷ xs) h [] b e = subst (P []) e h.0
each_split {A} P (x ∷ xs) h (y ∷ a) b e =
    let same : x ≡ y = cc e in
    let rest : xs ≡ a ++ b = cc e in
    subst (λ (z : A). P (z ∷ a) b) same (each_split (λ a b. P (x ∷ a) b) xs h.1 a b rest)

-- what follows of P at each line follows at the line that was found
pub in_line : {Q : Type 0} (P : ClientLine → Type 0) (lines : List ClientLine) (n : ℕ)
    → AllByRecursion (λ l. P l → Q) lines → InLine (line_at lines n) P → Q
in_line P [] n h i = absurd i
in_line {Q} P (l ∷ ls) n h i = found (l.line == n) (in_line P ls n h.1) i
  where
    found : (b : Bool) → (InLine (line_at ls n) P → Q) → InLine (cond b (Some l) (line_at ls n)) P → Q
    found true rest i = h.0 i
    found false rest i = rest i
