use Rattle.std.proofs.Common.{sym, subst, ◌∙◌, ap}
use Rattle.checkpoint.specs.Halves.{layout_of}
use Rattle.event_log.specs.Meaning.{current}
use Rattle.event_codec.specs.DecidingStates.{state_told}
use Rattle.node_recovery.specs.Images.{CanRecover, stored_in}
use Rattle.node_recovery.proofs.Leading.{not_none, read_some, read_state, read_holds}
use Rattle.node_recovery.proofs.opening.recover.Goals as goal

pub returns-in_default-clause-unformatted : goal.returns-in_default-clause-unformatted
returns-in_default-clause-unformatted g c = λ e.
    ap (current state_told (layout_of 2)) (sym c.open.ensures.reads) ∙ rw c.in_default.is at c.in_ok-found.ensures.found

pub folded-requires : goal.folded-requires
folded-requires g c =
    let found = c.in-Some.found in
    let seen = g.D.Disk.seen c.open.new.disk in
    let is = rw c.in-Some.is at c.in_ok-found.ensures.found in
    let means = rw c.in-Some.is at c.in_ok-found.ensures.means in
    read_some c.deref.result.now found.text.items c.as_slice.result.now found.records c.deref.ensures.value
    c.as_slice.ensures found.log seen is (subst CanRecover (sym c.open.ensures.reads) c.requires.can) means

pub returns-clause-found : goal.returns-clause-found
returns-clause-found g c =
    let found = c.in-Some.found in
    let seen = g.D.Disk.seen c.open.new.disk in
    let means = rw c.in-Some.is at c.in_ok-found.ensures.means in
    ap stored_in (sym c.open.ensures.reads)
    ∙ read_state c.deref.result.now found.text.items c.as_slice.result.now found.records c.deref.ensures.value
    c.as_slice.ensures seen c.in_ok-state.state means c.in_ok-state.ensures

pub returns-clause-holds : goal.returns-clause-holds
returns-clause-holds g c =
    let found = c.in-Some.found in
    let holds = rw c.in-Some.is at c.in_ok-found.ensures.holds in
    read_holds c.deref.result.now found.text.items c.as_slice.result.now found.records c.deref.ensures.value
    c.as_slice.ensures found.log (g.D.Disk.images c.open.new.disk) c.in_ok-state.state holds c.in_ok-state.ensures

pub returns-clause-pair : goal.returns-clause-pair
returns-clause-pair g c =
    let is = rw c.in-Some.is at c.in_ok-found.ensures.found in is.pair

pub returns-clause-formatted : goal.returns-clause-formatted
returns-clause-formatted g c = λ none.
    let found = c.in-Some.found in
    let is = rw c.in-Some.is at c.in_ok-found.ensures.found in
    not_none found.log found.text.items found.records (g.D.Disk.seen c.open.new.disk) is
    (ap (current state_told (layout_of 2)) c.open.ensures.reads ∙ none)
