-- Scripts and words of one line or a few, worked by the definitions.
use Rattle.std.proofs.Common.{◌≡◌, List, [], ◌∷◌, Ok, Err, refl}
use Rattle.std.specs.Prelude.{ℕ, codes, Result}
use Rattle.scenario.specs.declared.why.Why.{Why}
use Rattle.scenario.specs.declared.why.Why.TheVariants.{Form, Value, Unknown, Twice, Limit, Bytes, Later}
use Rattle.scenario.specs.declared.blocks.BlockSource.TheVariants.{Piece, Fill}
use Rattle.scenario.specs.declared.events.Event.TheVariants.{Work}
use Rattle.scenario.specs.declared.script.Command.TheVariants.{Replay}
use Rattle.scenario.specs.declared.script.Script.{Script}
use Rattle.scenario.specs.Attached.{Places}
use Rattle.scenario.specs.Words.{cut}
use Rattle.scenario.specs.Blocks.{block_in, size_in}
use Rattle.scenario.specs.Scripts.{Refused, script_of}

abbrev reads : List ℕ → Result Script Refused
reads text = script_of Replay text

abbrev refused : ℕ → Why → Result Script Refused
refused line why = Err (record { line = line; why = why })

-- the attachment `p` of so many bytes
abbrev p_of : ℕ → Places
p_of len = (codes "p", record { at = 7; len = len }) ∷ []

-- a number of words that another call has is no matter of form
another_call : reads (codes "call 1 1 1.1 sync 5") ≡ refused 1 Value
unfolding cut
another_call = refl

no_call : reads (codes "call 1 1 1.1") ≡ refused 1 Form
no_call = refl

bad_size : reads (codes "call 1 1 1.1 start x") ≡ refused 1 Value
unfolding cut
bad_size = refl

client_32 : reads (codes "work 1 31\nwork 1 32\nwork x") ≡ refused 2 Value
client_32 = refl

no_piece_0 : block_in [] (codes "block:nope:0") ≡ Err Value
unfolding cut
no_piece_0 = refl

not_attached : block_in (p_of 1) (codes "block:q:1") ≡ Err Unknown
unfolding cut
not_attached = refl

no_piece_of_nothing : block_in (p_of 0) (codes "block:p:1") ≡ Err Unknown
unfolding cut
no_piece_of_nothing = refl

last_piece : block_in (p_of 5000) (codes "block:p:2") ≡ Ok (Piece 4103 904)
unfolding cut
last_piece = refl

part_of_nothing : block_in (p_of 10) (codes "part:p:10:0") ≡ Ok (Piece 17 0)
unfolding cut
part_of_nothing = refl

part_behind : block_in (p_of 10) (codes "part:p:10:1") ≡ Err Unknown
unfolding cut
part_behind = refl

odd_digits : block_in [] (codes "hex:abc") ≡ Err Value
unfolding cut
odd_digits = refl

filled : block_in [] (codes "fill:16000000:0a") ≡ Ok (Fill 16000000 10)
unfolding cut
filled = refl

named_size : size_in (p_of 12) (codes "size:p") ≡ Ok 12
unfolding cut
named_size = refl

value_before_twice : reads (codes "time 5\ntime x") ≡ refused 2 Value
value_before_twice = refl

twice : reads (codes "time 5\ntime 6") ≡ refused 2 Twice
twice = refl

later : reads (codes "stop\nsetup") ≡ refused 1 Later
later = refl

setup : reads (codes "setup work 1 1") ≡ refused 1 Form
setup = refl

too_many_attached : reads (codes "attach a 67108864\nattach b 1") ≡ refused 2 Limit
too_many_attached = refl

too_few_bytes : reads (codes "attach p 3\nend\nab") ≡ refused 0 Bytes
too_few_bytes = refl

no_end : reads (codes "attach p 3") ≡ refused 0 Bytes
no_end = refl

whole : reads (codes "# p\n\nattach p 3\nfails 1 app\nfails 1 app\nwork 1 0\nend\nabc")
    ≡ Ok (record {
      time = 0;
      installed = [];
      fails = codes "app" ∷ codes "app" ∷ [];
      events =
          record { line = 6; event = Work 0 } ∷ [];
      attached_at = 53;
    })
whole = refl
