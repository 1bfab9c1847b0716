-- Facts of each member of a list, and lists in which one member is changed.
use Rattle.std.specs.Prelude.{Err, IsErrAnd, Ok, Result}
use Rattle.transfer_blocks.specs.declared.fault.StagingError.{StagingError}
use Rattle.transfer_blocks.specs.declared.fault.StagingError.TheVariants.{Failed, OutOfMemory}
use Rattle.node_core.specs.Errors.{end_by, error_of, fault_of}
use Rattle.node_core.specs.declared.node.ReserveError.{ReserveError}
use Rattle.node_core.proofs.Names.{ap}
use Rattle.node_core.proofs.Names.{AllByRecursion, is_some, Bool, List, Some, and_parts, arith, both_true, cond, false, filter, find}
use Rattle.node_core.proofs.Names.{if◌then◌else◌, list_all, list_any, map, neither, option_map, refl, true, [], ◌++◌, ◌||◌, ◌∷◌, ◌≡◌}

pub every : {X : Type 0} {P : X → Type 0} → ((x : X) → P x) → (xs : List X) → AllByRecursion P xs
every f [] = tt
every f (x ∷ xs) = (f x, every f xs)

pub each-second : {X : Type 0} (P : X → Type 0) (xs ys : List X) → AllByRecursion P (xs ++ ys) → AllByRecursion P ys
each-second P [] ys h = h
each-second P (x ∷ xs) ys h = each-second P xs ys h.1

-- a test that each passes
pub all-each : {X : Type 0} (p : X → Bool) (xs : List X) → list_all p xs ≡ true → AllByRecursion (λ x. p x ≡ true) xs
all-each p [] e = tt
all-each p (x ∷ xs) e = let parts = and_parts (p x) (list_all p xs) e in (parts.0, all-each p xs parts.1)

pub each-all : {X : Type 0} (p : X → Bool) (xs : List X) → AllByRecursion (λ x. p x ≡ true) xs → list_all p xs ≡ true
each-all p [] h = refl
each-all p (x ∷ xs) h = both_true h.0 (each-all p xs h.1)

-- a test that none passes
pub none-any : {X : Type 0} (p : X → Bool) (xs : List X) → list_any p xs ≡ false → AllByRecursion (λ x. p x ≡ false) xs
none-any p [] e = tt
none-any p (x ∷ xs) e = let parts = neither (p x) (list_any p xs) e in (parts.0, none-any p xs parts.1)

-- a test that some passes finds it
pub any-found : {X : Type 0} (p : X → Bool) (xs : List X) → list_any p xs ≡ true → (x : X) × (find p xs ≡ Some x)
any-found p [] t = absurd (cc)
any-found {X} p (x ∷ xs) t = go (p x) t (any-found p xs)
  where
    go : (b : Bool) → (b || list_any p xs) ≡ true → (list_any p xs ≡ true → (y : X) × (find p xs ≡ Some y))
        → (y : X) × (cond b (Some x) (find p xs) ≡ Some y)
    go true k rec = (x, refl)
    go false k rec = rec k

-- something is found where some passes
pub found-some : {X : Type 0} (p : X → Bool) (xs : List X) → is_some (find p xs) ≡ list_any p xs
found-some p [] = refl
found-some {X} p (x ∷ xs) = grind (arith, found-some p xs)

-- the images under functions that agree on the members
pub map-same : {X Y : Type 0} (f g : X → Y) (xs : List X) → AllByRecursion (λ x. f x ≡ g x) xs → map f xs ≡ map g xs
map-same f g [] each = refl
map-same f g (x ∷ xs) each = λ i. each.0 i ∷ map-same f g xs each.1 i

-- what is found among images is the image of what is found
pub find-map : {X Y : Type 0} (f : X → Y) (p : Y → Bool) (xs : List X)
    → find p (map f xs) ≡ option_map f (find (λ x. p (f x)) xs)
find-map f p [] = refl
find-map {X} {Y} f p (x ∷ xs) = grind (arith, find-map f p xs)

-- the images of those that pass
pub filter-map : {X Y : Type 0} (f : X → Y) (p : Y → Bool) (xs : List X)
    → map f (filter (λ x. p (f x)) xs) ≡ filter p (map f xs)
filter-map f p [] = refl
filter-map {X} {Y} f p (x ∷ xs) = grind (arith, filter-map f p xs)

-- the images of a list with some members changed, where a change of a member is a change of its image
pub change-map : {X Y : Type 0} (f : X → Y) (p : Y → Bool) (g : X → X) (h : Y → Y) (xs : List X)
    → AllByRecursion (λ x. p (f x) ≡ true → f (g x) ≡ h (f x)) xs
    → map f (map (λ x. if p (f x) then g x else x) xs) ≡ map (λ y. if p y then h y else y) (map f xs)
change-map f p g h [] each = refl
change-map {X} {Y} f p g h (x ∷ xs) each = grind (arith, change-map f p g h xs each.1)

-- a fact of each member, where the changed ones keep it
pub change-each : {X : Type 0} (P : X → Type 0) (p : X → Bool) (g : X → X) (xs : List X)
    → AllByRecursion (λ x. p x ≡ true → P (g x)) xs → AllByRecursion P xs
    → AllByRecursion P (map (λ x. if p x then g x else x) xs)
change-each P p g [] changed each = tt
change-each {X} P p g (x ∷ xs) changed each = grind (arith, change-each P p g xs changed.1 each.1)

-- how what a `?` hands on ended
pub end-err : {X : Type 0} (e : ReserveError) (r : Result X ReserveError) → IsErrAnd r (λ x. x ≡ e)
    → end_by r ≡ Err (fault_of e)
end-err e (Err x) is = ap (λ y. Err (fault_of y)) is
end-err e (Ok x) is = absurd is

-- and where it was an error of the staging
pub end-fault : {X : Type 0} (fault : StagingError) (r : Result X ReserveError)
    → IsErrAnd r (λ x. x ≡ error_of fault) → end_by r ≡ Err fault
end-fault Failed r is = end-err _ r is
end-fault OutOfMemory r is = end-err _ r is
