use Rattle.node_core.proofs.Names.{Areas, Extent, Holding, IsNextUnit, IsUnitOf, List, Some, ap}
use Rattle.node_core.proofs.Names.{content_of, holding, length, parts_place, piece_of, subst}
use Rattle.node_core.proofs.Names.{sym, Ok, ◌∙◌, ◌≡◌}
use Rattle.transfer_blocks.specs.declared.area.Area.TheVariants.{Transfer}
use Rattle.node_core.proofs.Copied.{Needs, needs}
use Rattle.node_core.proofs.Names.{IsSound, NextUnit, Option, Piece, Processing, State, option_map}
use Rattle.node_core.proofs.Reserved.{failed-reserves, no-unit, none-ready, nothing-handed, nothing-reserves, reads-handed}
use Rattle.node_core.proofs.Lists.{end-err}
use Rattle.node_core.proofs.Reserved.{reads-reserve, unit-reserves}
use Rattle.node_core.proofs.Sound.{sound-stands}
use Rattle.node_core.proofs.Runs.{writes-then}
use Rattle.node_core.proofs.copying.reserve_unit.Goals as goal

-- the unit that comes next, what it needs, and the piece that was found
module _ {areas : Areas} {s : State} {o : Option NextUnit} {next : NextUnit} (sound : IsSound (holding areas s))
    (busy : s.status ≡ Processing) (is : o ≡ Some next) (due : IsNextUnit s o) where
  unit : IsUnitOf s next
  unit = subst (IsNextUnit s) is due

  needed : Needs (holding areas s) next.slot unit.transfer.header.received next.done next.extents.items
      (option_map (λ c. c.items) next.changes)
  needed = needs (holding areas s) sound busy unit

  module _ {es : List Extent} {p q : Option Piece} (sliced : es ≡ next.extents.items)
      (got : p ≡ piece_of (content_of (Transfer next.slot) areas) (parts_place (length es)) next.done es)
      (there : p ≡ q) where
    found : piece_of (content_of (Transfer next.slot) areas) (parts_place (length next.extents.items)) next.done
        next.extents.items ≡ q
    found =
        ap (λ (es : List Extent). piece_of (content_of (Transfer next.slot) areas) (parts_place (length es)) next.done
        es) (sym sliced) ∙ sym got ∙ there

pub returns-in_err-next-clause-reserves : goal.returns-in_err-next-clause-reserves
returns-in_err-next-clause-reserves g c =
    nothing-handed g.S.Staging.obeys g.S.Staging.areas _ c.from_residual.ensures.1 (λ end. tt) c.requires.sound

pub returns-in_default-clause-reserves : goal.returns-in_default-clause-reserves
returns-in_default-clause-reserves g c =
    let s = c.args.state.now in
    nothing-reserves g.S.Staging.obeys g.S.Staging.areas s _ (λ end. tt) c.requires.sound
    (λ held fit stand. no-unit (holding held s) c.requires.status
    (subst (IsNextUnit s) c.in_default.is c.in_ok-next.ensures))

pub find_piece-requires : goal.find_piece-requires
find_piece-requires g c =
    let need = needed c.requires.sound c.requires.status c.in-Some.is c.in_ok-next.ensures in
    record {
      fit = c.requires.fit;
      slot = need.slot-is;
      lie = rw c.as_slice.ensures.value need.lie;
      short =
          (g.met.S.Staging.areas_fit c.args.staging.now).contents (Transfer c.in-Some.next.slot) need.slot-is;
    }

pub returns-in_err-piece-clause-reserves : goal.returns-in_err-piece-clause-reserves
returns-in_err-piece-clause-reserves g c =
    reads-handed g.S.Staging.obeys g.S.Staging.areas _ (end-err _ _ c.from_residual-in_err-piece.ensures.1)
    (λ ok. cc ok) (λ end. tt) c.requires.sound c.in_err-piece.ensures.reads c.in_err-piece.ensures.areas

pub returns-in_default-2-clause-reserves : goal.returns-in_default-2-clause-reserves
returns-in_default-2-clause-reserves g c =
    absurd ((needed c.requires.sound c.requires.status c.in-Some.is c.in_ok-next.ensures).some
    (found c.requires.sound c.requires.status c.in-Some.is c.in_ok-next.ensures
    c.as_slice.ensures.value c.in_ok-piece.ensures.piece c.in_default-2.is))

pub returns-then-piece-eq0-clause-reserves : goal.returns-then-piece-eq0-clause-reserves
returns-then-piece-eq0-clause-reserves g c =
    let s = c.args.state.now in
    let v : Holding = holding (g.S.Staging.areas c.args.staging.now) s in
    reads-reserve g.S.Staging.obeys g.S.Staging.areas s _ _ c.args.staging.now c.find_piece.new.staging (Ok tt)
    (λ end. tt)
    c.in_ok-piece.ensures.reads c.in_ok-piece.ensures.areas (sound-stands v c.requires.sound)
    (λ ok. none-ready v c.requires.sound c.requires.status
    (unit c.requires.sound c.requires.status c.in-Some.is c.in_ok-next.ensures) c.in-Some-2.piece
    (found c.requires.sound c.requires.status c.in-Some.is c.in_ok-next.ensures
    c.as_slice.ensures.value c.in_ok-piece.ensures.piece c.in-Some-2.is)
    c.planning-planned.result
    c.planning-planned.ensures c.if-piece-eq0.true)

pub copy-requires : goal.copy-requires
copy-requires g c =
    let need = needed c.requires.sound c.requires.status c.in-Some.is c.in_ok-next.ensures in
    let own = need.piece _ (found c.requires.sound c.requires.status c.in-Some.is c.in_ok-next.ensures
    c.as_slice.ensures.value c.in_ok-piece.ensures.piece c.in-Some-2.is) in
    record {
      fit = c.in_ok-piece.ensures.fit;
      slot = need.slot-is;
      area = own.area;
      range = rw c.in_ok-piece.ensures.areas own.range;
      done = rw c.in_ok-piece.ensures.areas own.begin;
      fits = own.fits;
    }

pub returns-in_err-copy-clause-reserves : goal.returns-in_err-copy-clause-reserves
returns-in_err-copy-clause-reserves g c =
    let same = c.in_ok-piece.ensures.areas in
    failed-reserves _ _ c.from_residual-in_err-copy.ensures.1
    (unit-reserves g.S.Staging.obeys g.S.Staging.areas c.args.state.now c.args.staging.now c.copy.new.staging
    c.requires.sound c.requires.status (unit c.requires.sound c.requires.status c.in-Some.is c.in_ok-next.ensures) _
    (found c.requires.sound c.requires.status c.in-Some.is c.in_ok-next.ensures
    c.as_slice.ensures.value c.in_ok-piece.ensures.piece c.in-Some-2.is)
    c.planning-planned.result c.planning-planned.ensures c.if-piece-eq0.false
    (g.met.S.Staging.areas_fit c.args.staging.now) _
    (writes-then _ _ _ _ _ _ _ _ c.in_ok-piece.ensures.reads (rw same at c.in_err-copy.ensures.writes))
    (λ e. absurd (cc e)) (rw same at c.in_err-copy.ensures.left))

pub returns-clause-reserves : goal.returns-clause-reserves
returns-clause-reserves g c =
    let same = c.in_ok-piece.ensures.areas in
    unit-reserves g.S.Staging.obeys g.S.Staging.areas c.args.state.now c.args.staging.now c.copy.new.staging
    c.requires.sound c.requires.status (unit c.requires.sound c.requires.status c.in-Some.is c.in_ok-next.ensures) _
    (found c.requires.sound c.requires.status c.in-Some.is c.in_ok-next.ensures
    c.as_slice.ensures.value c.in_ok-piece.ensures.piece c.in-Some-2.is)
    c.planning-planned.result c.planning-planned.ensures c.if-piece-eq0.false
    (g.met.S.Staging.areas_fit c.args.staging.now) (Ok tt)
    (writes-then _ _ _ _ _ _ _ _ c.in_ok-piece.ensures.reads (rw same at c.in_ok-copy.ensures.writes))
    (λ e. rw same at c.in_ok-copy.ensures.put) (rw same at c.in_ok-copy.ensures.left)
