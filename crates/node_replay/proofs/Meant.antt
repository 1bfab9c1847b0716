-- The clusters that a script installs, with their bytes.
use Rattle.std.proofs.Common.{◌≡◌, ◌≤◌, ℕ, List, [], ◌∷◌, length, map, take, refl, ap, arith}
use Rattle.std.specs.List.{AllByRecursion}
use Rattle.std.proofs.lemmas.List.{length-replicate, length-take}
use Rattle.scenario.specs.declared.blocks.BlockSource.{BlockSource}
use Rattle.scenario.specs.declared.blocks.BlockSource.TheVariants.{Fill, Bytes, Piece}
use Rattle.scenario.specs.declared.lines.Installed.{Installed}
use Rattle.scenario.specs.Blocks.{bytes_meant, length_meant}
use Rattle.node_replay.specs.Lines.{cluster_meant}

pub names-meant : (attached : List ℕ) (cs : List Installed)
    → map (λ c. c.name) (map (cluster_meant attached) cs) ≡ map (λ c. c.name) cs
names-meant attached [] = refl
names-meant attached (c ∷ cs) = ap (λ names. c.name ∷ names) (names-meant attached cs)

-- a block has no more bytes than it says
within : (attached : List ℕ) (block : BlockSource) → length (bytes_meant attached block) ≤ length_meant block
within attached (Fill size byte) = rw length-replicate (omega arith)
within attached (Bytes bytes) = omega arith
within attached (Piece at len) = rw length-take (omega arith)

pub short-meant : (most : ℕ) (attached : List ℕ) (cs : List Installed)
    → AllByRecursion (λ (c : Installed). length_meant c.block ≤ most) cs
    → AllByRecursion (λ c. length c.content ≤ most) (map (cluster_meant attached) cs)
short-meant most attached [] h = tt
short-meant most attached (c ∷ cs) h =
    let short : length (bytes_meant attached c.block) ≤ most = omega (arith, within attached c.block, h.0) in
    (short, short-meant most attached cs h.1)
