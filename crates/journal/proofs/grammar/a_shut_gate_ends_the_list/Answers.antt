use Rattle.std.proofs.Common.{length, sym, ap}
use Rattle.journal.specs.Records.{taken}
use Rattle.journal.proofs.Grammars.{whole}
use Rattle.journal.proofs.Lists.{open_behind}
use Rattle.journal.proofs.grammar.a_shut_gate_ends_the_list.Goals as goal

pub returns-clause-open : goal.returns-clause-open
returns-clause-open c bytes ps q qs is = open_behind (length bytes) bytes ps q qs is

pub returns-clause-whole : goal.returns-clause-whole
returns-clause-whole c spells bytes shut = whole spells bytes shut

pub returns-clause-goes_on : goal.returns-clause-goes_on
returns-clause-goes_on c spells bytes room shut =
    record { takes = ap taken (sym (whole spells bytes shut)); room = room; shut = shut }
