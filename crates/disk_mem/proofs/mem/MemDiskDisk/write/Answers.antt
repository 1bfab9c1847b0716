use Rattle.std.proofs.Common.{◌≡◌, ℕ, false, length, take, refl, sym, ap, ◌∙◌, arith}
use Rattle.std.proofs.lemmas.List.{take_all}
use Rattle.disk_core.specs.Bytes.{put_at}
use Rattle.disk_mem.specs.declared.strikes.Fate.{Fate}
use Rattle.disk_mem.specs.declared.strikes.Fate.TheVariants.{Whole, Fails, Stops}
use Rattle.disk_mem.specs.declared.medium.Medium.{Medium}
use Rattle.disk_mem.specs.Strikes.{is_bad, kept_of}
use Rattle.disk_mem.proofs.mem.MemDiskDisk.write.Goals as goal

-- a write that doesn't fail keeps all its bytes
kept_all : (fate : Fate) (n : ℕ) → is_bad fate ≡ false → kept_of fate n ≡ n
kept_all Whole n good = refl
kept_all Fails n good = cc
kept_all (Stops keep) n good = cc

pub returns-clause-written : goal.returns-clause-written
returns-clause-written c =
    let piece = c.args.bytes.now in
    let kept = c.kept.ensures ∙ kept_all c.strike-fate.result (length piece)
    (sym c.is_bad.ensures ∙ c.if-is_bad.false) in
    c.write.ensures.content
    ∙ ap (λ (m : Medium). put_at m.pages.bytes c.args.at (take c.kept.result piece)) c.strike-fate.ensures.medium
    ∙ ap (λ (n : ℕ). put_at c.args.self.now.medium.pages.bytes c.args.at (take n piece)) kept
    ∙ ap (λ xs. put_at c.args.self.now.medium.pages.bytes c.args.at xs) (take_all (length piece) piece (omega arith))
