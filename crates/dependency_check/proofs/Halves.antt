-- Clusters by rising names: a name is looked up in the half that may have it.
use Rattle.std.proofs.Common.{◌≡◌, ◌∙◌, ℕ, Bool, true, false, ◌||◌, ◌&&◌, List, [], ◌∷◌, ◌++◌, map}
use Rattle.std.proofs.Common.{refl, sym, ap, subst, arith, Less, Equal, Greater}
use Rattle.std.specs.Str.{bytes_eq}
use Rattle.std.proofs.lemmas.Cmp.{nat_list_cmp_total}
use Rattle.std.proofs.lemmas.List.Folds.{list_any-append}
use Rattle.std.proofs.lemmas.Slice.Eq.{bytes_eq-Decides}
use Rattle.ucm_base.specs.declared.parts.Need.{Need}
use Rattle.ucm_base.specs.Names.{name_lt, names_rise}
use Rattle.ucm_base.specs.Needs.{Needing, is_met}
use Rattle.ucm_base.specs.Versions.{accepts}
use Rattle.std.specs.Cmp.Lexicographic.{slice_cmp, texts_ties}
use Rattle.std.specs.Ordering.{nat_cmp, is_lt}
use Rattle.std.proofs.lemmas.List.{map-append}
use Rattle.std.proofs.lemmas.Simd.{map-map}
use Rattle.dependency_check.specs.declared.unmet.Needing.{Needing as Lent}
use Rattle.dependency_check.specs.Clusters.{needing}

abbrev names : List Needing → List (List ℕ)
names cs = map (λ (c : Needing). c.name) cs

name-eq : (a b : List ℕ) → bytes_eq a b ≡ true → a ≡ b
name-eq a b e = (bytes_eq-Decides a b).0 e

lt-trans : (a b c : List ℕ) → name_lt a b ≡ true → name_lt b c ≡ true → name_lt a c ≡ true
lt-trans a b c h k = grind (arith, nat_list_cmp_total)

lt-differ : (a b : List ℕ) → name_lt a b ≡ true → bytes_eq a b ≡ false
lt-differ a b h = grind (arith, nat_list_cmp_total.antisymm b a, name-eq a b)

gt-differ : (a b : List ℕ) → name_lt b a ≡ true → bytes_eq a b ≡ false
gt-differ a b h = grind (arith, nat_list_cmp_total.antisymm b a, name-eq a b)

lt-not : (a b : List ℕ) → name_lt a b ≡ true → name_lt b a ≡ false
lt-not a b h = grind (arith, nat_list_cmp_total.antisymm b a)

lt-self : (a : List ℕ) → name_lt a a ≡ false
lt-self a = grind (arith, nat_list_cmp_total.antisymm a a)

apart : (a b n : List ℕ) → name_lt a b ≡ true → name_lt a n ≡ false → bytes_eq b n ≡ false
apart a b n h k = grind (arith, name-eq b n)

later : (a b n : List ℕ) → name_lt a b ≡ true → name_lt a n ≡ false → name_lt b n ≡ false
later a b n h k = grind (arith, lt-trans a b n)

earlier : (a b n : List ℕ) → name_lt a b ≡ true → name_lt n b ≡ false → bytes_eq a n ≡ false
earlier a b n h k = grind (arith, name-eq a n)

both : (a b : Bool) → a ≡ true → b ≡ true → (a && b) ≡ true
both a b h k = grind arith

or-false : (b : Bool) → (b || false) ≡ b
or-false true = refl
or-false false = refl

names-lt : (a b : List ℕ) (ns : List (List ℕ)) → names_rise (a ∷ b ∷ ns) ≡ true → name_lt a b ≡ true
names-lt a b ns r = grind arith

names-tail : (a : List ℕ) (ns : List (List ℕ)) → names_rise (a ∷ ns) ≡ true → names_rise ns ≡ true
names-tail a ns r = grind arith

module _ (need : Need) where
  abbrev meets : Needing → Bool
  meets c = bytes_eq c.name need.name && accepts need.req c.version

  unnamed : (c : Needing) → bytes_eq c.name need.name ≡ false → meets c ≡ false
  unnamed c e = ap (λ b. b && accepts need.req c.version) e

  first-unnamed : (c : Needing) (cs : List Needing) → bytes_eq c.name need.name ≡ false
      → is_met (c ∷ cs) need ≡ is_met cs need
  first-unnamed c cs e = ap (λ b. b || is_met cs need) (unnamed c e)

  -- behind a name that isn't before the needed one no cluster has that
  none-behind : (a : List ℕ) (cs : List Needing) → names_rise (a ∷ names cs) ≡ true → name_lt a need.name ≡ false
      → is_met cs need ≡ false
  none-behind a [] r h = refl
  none-behind a (c ∷ cs) r h =
      let lt = names-lt a c.name (names cs) r in
      let tail = names-tail a (c.name ∷ names cs) r in
      first-unnamed c cs (apart a c.name need.name lt h) ∙ none-behind c.name cs tail (later a c.name need.name lt h)

  -- one that stands before another stands before the needed name, where the other isn't behind it
  first-before : (c : Needing) (before : List Needing) (d : Needing) (behind : List Needing)
      → names_rise (names (c ∷ before ++ d ∷ behind)) ≡ true → name_lt c.name d.name ≡ true
  first-before c [] d behind r = names-lt c.name d.name (names behind) r
  first-before c (b ∷ before) d behind r =
      let tail = names-tail c.name (names (b ∷ before ++ d ∷ behind)) r in
      lt-trans c.name b.name d.name (names-lt c.name b.name (names (before ++ d ∷ behind)) r)
      (first-before b before d behind tail)

  none-before : (before : List Needing) (d : Needing) (behind : List Needing)
      → names_rise (names (before ++ d ∷ behind)) ≡ true → name_lt need.name d.name ≡ false
      → is_met (before ++ d ∷ behind) need ≡ is_met (d ∷ behind) need
  none-before [] d behind r h = refl
  none-before (c ∷ before) d behind r h =
      let lt = first-before c before d behind r in
      first-unnamed c (before ++ d ∷ behind) (earlier c.name d.name need.name lt h)
      ∙ none-before before d behind (names-tail c.name (names (before ++ d ∷ behind)) r) h

  module _ (before : List Needing) (d : Needing) (behind : List Needing)
      (r : names_rise (names (before ++ d ∷ behind)) ≡ true) where
    tail : (cs : List Needing) → names_rise (names (cs ++ d ∷ behind)) ≡ true
        → names_rise (d.name ∷ names behind) ≡ true
    tail [] k = k
    tail (c ∷ cs) k = tail cs (names-tail c.name (names (cs ++ d ∷ behind)) k)

    pub met-before : name_lt need.name d.name ≡ true → is_met (before ++ d ∷ behind) need ≡ is_met before need
    met-before h =
        let rest = first-unnamed d behind (gt-differ d.name need.name h)
        ∙ none-behind d.name behind (tail before r) (lt-not need.name d.name h) in
        list_any-append meets before (d ∷ behind) ∙ ap (λ b. is_met before need || b) rest
        ∙ or-false (is_met before need)

    pub met-here : need.name ≡ d.name → is_met (before ++ d ∷ behind) need ≡ accepts need.req d.version
    met-here e =
        none-before before d behind r (subst (λ n. name_lt n d.name ≡ false) (sym e) (lt-self d.name))
        ∙ ap (λ b. b && accepts need.req d.version || is_met behind need)
        ((bytes_eq-Decides d.name need.name).1 (sym e))
        ∙ ap (λ b. accepts need.req d.version || b)
        (none-behind d.name behind (tail before r) (subst (λ n. name_lt d.name n ≡ false) (sym e) (lt-self d.name)))
        ∙ or-false (accepts need.req d.version)

    pub met-behind : name_lt d.name need.name ≡ true → is_met (before ++ d ∷ behind) need ≡ is_met behind need
    met-behind h = none-before before d behind r (lt-not d.name need.name h)
        ∙ first-unnamed d behind (lt-differ d.name need.name h)

    -- the half before it, and the one behind it, rise too
    pub rise-before : names_rise (names before) ≡ true
    rise-before = go before r
      where
        go : (cs : List Needing) → names_rise (names (cs ++ d ∷ behind)) ≡ true → names_rise (names cs) ≡ true
        go [] k = refl
        go (c ∷ []) k = refl
        go (c ∷ b ∷ cs) k = both (name_lt c.name b.name) (names_rise (names (b ∷ cs)))
            (names-lt c.name b.name (names (cs ++ d ∷ behind)) k)
            (go (b ∷ cs) (names-tail c.name (names (b ∷ cs ++ d ∷ behind)) k))

    pub rise-behind : names_rise (names behind) ≡ true
    rise-behind = names-tail d.name (names behind) (tail before r)

-- the same of clusters whose parts lie elsewhere, cut in the middle
module _ (all before : List Lent) (m : Lent) (behind : List Lent) (need : Need) (cut : all ≡ before ++ m ∷ behind)
    (r : names_rise (map (λ (c : Lent). c.name.now) all) ≡ true) where
  parts : map needing all ≡ map needing before ++ needing m ∷ map needing behind
  parts = ap (map needing) cut ∙ map-append needing before (m ∷ behind)

  rises : names_rise (names (map needing before ++ needing m ∷ map needing behind)) ≡ true
  rises = ap (λ cs. names_rise (names cs)) (sym parts)
      ∙ ap names_rise (map-map (λ (c : Needing). c.name) needing all) ∙ r

  pub before-rises : names_rise (map (λ (c : Lent). c.name.now) before) ≡ true
  before-rises = ap names_rise (sym (map-map (λ (c : Needing). c.name) needing before))
      ∙ rise-before need (map needing before) (needing m) (map needing behind) rises

  pub behind-rises : names_rise (map (λ (c : Lent). c.name.now) behind) ≡ true
  behind-rises = ap names_rise (sym (map-map (λ (c : Needing). c.name) needing behind))
      ∙ rise-behind need (map needing before) (needing m) (map needing behind) rises

  pub less : slice_cmp nat_cmp need.name m.name.now ≡ Less
      → is_met (map needing all) need ≡ is_met (map needing before) need
  less h = ap (λ cs. is_met cs need) parts
      ∙ met-before need (map needing before) (needing m) (map needing behind) rises (ap is_lt h)

  pub equal : slice_cmp nat_cmp need.name m.name.now ≡ Equal
      → is_met (map needing all) need ≡ accepts need.req m.version.now
  equal h = ap (λ cs. is_met cs need) parts
      ∙ met-here need (map needing before) (needing m) (map needing behind) rises
      (grind (arith, texts_ties need.name m.name.now, name-eq need.name m.name.now))

  pub greater : slice_cmp nat_cmp need.name m.name.now ≡ Greater
      → is_met (map needing all) need ≡ is_met (map needing behind) need
  greater h = ap (λ cs. is_met cs need) parts
      ∙ met-behind need (map needing before) (needing m) (map needing behind) rises
      (grind (arith, nat_list_cmp_total.antisymm need.name m.name.now))
