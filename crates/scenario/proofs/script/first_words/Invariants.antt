use Rattle.std.proofs.Common.{◌≡◌, ◌++◌, ◌-◌, map, take}
use Rattle.scenario.specs.Scripts.{pieces_left, text_left, words_of}
use Rattle.scenario.proofs.script.first_words.Given as goal

abbrev pub invariant-words : goal.invariant-words
invariant-words l =
    take l.most (words_of l.line) ≡ map (λ w. w.now) l.words.items
    ++ take (l.most - l._i) (pieces_left 32 (text_left l.left))
