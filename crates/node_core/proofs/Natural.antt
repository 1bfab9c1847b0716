-- What is said of names, versions and needs is the same of where contents lie as of the contents.
use Rattle.node_core.proofs.Names.{Action, ActionNotApplicable, Areas, Bool, Bytes, Change, Cluster, ClusterAlreadyChanged, Extent}
use Rattle.node_core.proofs.Names.{Install, List, OldVersion, Option, Part, Remove, TooManyClusters, Update, ap, arith, brought}
use Rattle.node_core.proofs.Names.{bytes_eq, change_meaning, changed_as, changed_by, cluster_at, cluster_limit, cluster_meaning}
use Rattle.node_core.proofs.Names.{cluster_of, different_names, filter, first_refusal, has_cluster, is_install, is_newer, is_update}
use Rattle.node_core.proofs.Names.{length, list_any-map, map, map-append, map-map, missing, name_lt, nat_le, not, option_map, option_or}
use Rattle.node_core.proofs.Names.{part_refusals, parts_refusal, planned, refl, some_passes, suits, sym, unmet_among, with_cluster}
use Rattle.node_core.proofs.Names.{with_length, [], ℕ, ◌&&◌, ◌++◌, ◌∙◌, ◌∷◌, ◌≡◌}
use Rattle.node_core.proofs.Lists.{filter-map, find-map}

passes-map : {X Y : Type 0} (p : Y → Bool) (f : X → Y) (o : Option X)
    → some_passes p (option_map f o) ≡ some_passes (λ x. p (f x)) o
passes-map p f o = grind arith

module _ (areas : Areas) where
  abbrev means : List (Cluster Extent) → List (Cluster Bytes)
  means cs = map (cluster_meaning areas) cs

  abbrev plans : List (Change Extent) → List (Change Bytes)
  plans changes = map (change_meaning areas) changes

  pub has-means : (cs : List (Cluster Extent)) (name : List ℕ) → has_cluster (means cs) name ≡ has_cluster cs name
  has-means cs name = list_any-map (λ (c : Cluster Bytes). bytes_eq c.name name) (cluster_meaning areas) cs

  at-means : (cs : List (Cluster Extent)) (name : List ℕ)
      → cluster_at (means cs) name ≡ option_map (cluster_meaning areas) (cluster_at cs name)
  at-means cs name = find-map (cluster_meaning areas) (λ (c : Cluster Bytes). bytes_eq c.name name) cs

  -- a part is refused as what stands stored says, whatever its payload
  refused-means : (running : List (Cluster Extent)) (changes : List (Change Extent)) (before : List (Part Bytes))
      (part : Part Bytes)
      → part_refusals (means running) (plans changes) before part
      ≡ part_refusals running changes (map with_length before) (with_length part)
  refused-means running changes before part = λ i. (
    list_any-map (λ (c : Change Bytes). bytes_eq (cluster_of c.part) (cluster_of part))
        (change_meaning areas) changes i,
    ClusterAlreadyChanged,
  )
      ∷ (not (suits part.manifest.action (has-means running (cluster_of part) i)), ActionNotApplicable)
      ∷ (is_update part.manifest.action && older i, OldVersion)
      ∷ (is_install part.manifest.action && nat_le cluster_limit (length (different_names (names i))), TooManyClusters)
      ∷ []
    where
      older : some_passes (λ (c : Cluster Bytes). not (is_newer part.manifest.version c.version))
          (cluster_at (means running) (cluster_of part))
          ≡ some_passes (λ (c : Cluster Extent). not (is_newer part.manifest.version c.version))
          (cluster_at running (cluster_of part))
      older =
          let newer = λ (c : Cluster Bytes). not (is_newer part.manifest.version c.version) in
          ap (some_passes newer) (at-means running (cluster_of part))
          ∙ passes-map newer (cluster_meaning areas) (cluster_at running (cluster_of part))

      names : map (λ (c : Cluster Bytes). c.name) (means running)
          ++ map (λ (c : Change Bytes). cluster_of c.part) (plans changes) ++ map cluster_of before
          ≡ map (λ (c : Cluster Extent). c.name) running ++ map (λ (c : Change Extent). cluster_of c.part) changes
          ++ map cluster_of (map with_length before)
      names = λ i. map-map (λ (c : Cluster Bytes). c.name) (cluster_meaning areas) running i
          ++ map-map (λ (c : Change Bytes). cluster_of c.part) (change_meaning areas) changes i
          ++ sym (map-map cluster_of with_length before) i

  pub parts-mean : (running : List (Cluster Extent)) (changes : List (Change Extent)) (before parts : List (Part Bytes))
      → parts_refusal (means running) (plans changes) before parts
      ≡ parts_refusal running changes (map with_length before) (map with_length parts)
  parts-mean running changes before [] = refl
  parts-mean running changes before (part ∷ parts) =
      (λ i. option_or (first_refusal (refused-means running changes before part i))
      (parts-mean running changes (before ++ part ∷ []) parts i))
      ∙ ap (λ l. option_or (first_refusal (part_refusals running changes (map with_length before) (with_length part)))
      (parts_refusal running changes l (map with_length parts))) (map-append with_length before (part ∷ []))

  -- planned changes
  with-means : (c : Cluster Extent) (cs : List (Cluster Extent))
      → with_cluster (cluster_meaning areas c) (means cs) ≡ means (with_cluster c cs)
  with-means c cs =
      (λ i. sym (filter-map (cluster_meaning areas) (λ (d : Cluster Bytes). name_lt d.name c.name) cs) i
      ++ cluster_meaning areas c
      ∷ sym (filter-map (cluster_meaning areas) (λ (d : Cluster Bytes). name_lt c.name d.name) cs) i)
      ∙ sym (map-append (cluster_meaning areas) (filter (λ (d : Cluster Extent). name_lt d.name c.name) cs) (c
      ∷ filter (λ (d : Cluster Extent). name_lt c.name d.name) cs))

  changed-means : (a : Action) (c : Cluster Extent) (cs : List (Cluster Extent))
      → changed_as a (cluster_meaning areas c) (means cs) ≡ means (changed_as a c cs)
  changed-means Install c cs = with-means c cs
  changed-means Update c cs = with-means c cs
  changed-means Remove c cs =
      sym (filter-map (cluster_meaning areas) (λ (d : Cluster Bytes). not (bytes_eq d.name c.name)) cs)

  pub planned-means : (changes : List (Change Extent)) (cs : List (Cluster Extent))
      → planned (plans changes) (means cs) ≡ means (planned changes cs)
  planned-means [] cs = refl
  planned-means (change ∷ changes) cs =
      ap (planned (plans changes)) (changed-means change.part.manifest.action (brought change.part) cs)
      ∙ planned-means changes (changed_by change.part cs)

  -- what is needed
  pub unmet-means : (cs : List (Cluster Extent)) → unmet_among (means cs) ≡ unmet_among cs
  unmet-means cs =
      ap missing (map-map (λ (c : Cluster Bytes). record { name = c.name; version = c.version; needs = c.needs })
      (cluster_meaning areas) cs)
