use Rattle.std.proofs.Common.{◌≡◌, drop, length, map}
use Rattle.scenario.specs.Words.{needs_in}
use Rattle.scenario.proofs.NeedWords.{after}
use Rattle.scenario.proofs.words.needs.Given as goal

abbrev pub invariant-words : goal.invariant-words
invariant-words l =
    (length l.needs.items ≡ l.i)
    × (needs_in (map (λ w. w.now) l.words) ≡ after l.needs.items (needs_in (drop l.i (map (λ w. w.now) l.words))))
