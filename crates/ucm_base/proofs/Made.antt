-- A text and zeros after it are padded.
use Rattle.std.proofs.Common.{◌++◌, ℕ, List, length, drop, replicate, ap}
use Rattle.std.proofs.lemmas.List.{drop-replicate}
use Rattle.std.proofs.Math.Seq.{take-append_seam}
use Rattle.ucm_base.specs.Padding.{IsPadded}

pub padded-made : (size : ℕ) (text : List ℕ)
    → IsPadded size (text ++ drop (length text) (replicate size 0)) (length text)
padded-made size text =
    let taken = take-append_seam text (drop (length text) (replicate size 0)) in
    (ap length taken, rw taken (ap (λ z. text ++ z) (drop-replicate (length text) size 0)))
