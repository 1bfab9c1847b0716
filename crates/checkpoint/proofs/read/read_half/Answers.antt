use Rattle.std.proofs.Common.{◌≡◌, ◌+◌, ℕ, List, Option, sym, ◌∙◌, ap}
use Rattle.std.specs.List.{slice_range}
use Rattle.disk_core.proofs.Moments.{started, goes_on}
use Rattle.disk_area.specs.declared.area.Area.{Area}
use Rattle.disk_area.specs.Windows.{window}
use Rattle.checkpoint.specs.declared.layout.Layout.{Layout}
use Rattle.checkpoint.specs.Halves.{Body, layout_of, head_area, half_of, read_of}
use Rattle.checkpoint.proofs.Gates.{shut_none}
use Rattle.checkpoint.proofs.Bodies.{too_long, read_body}
use Rattle.checkpoint.proofs.Switches.{head_gate}
use Rattle.checkpoint.proofs.read.read_half.Goals as goal

-- what was read of a window, in the words of the half
read_as : (half : ℕ) (bytes : List ℕ) (area : Area) (layout : Layout) (body : Option Body) → area ≡ head_area half
    → layout ≡ layout_of half → read_of layout.state_max (window area bytes) ≡ body → body ≡ half_of half bytes
read_as half bytes area layout body area_is layout_is read =
    sym read ∙ (λ i. read_of (layout_is i).state_max (window (area_is i) bytes))

pub returns-then-index-ne1-clause-body : goal.returns-then-index-ne1-clause-body
returns-then-index-ne1-clause-body g c =
    let s = g.D.Disk.seen c.args.disk.now in
    let area = c.head_area-area in
    let layout = c.layout_of-most in
    let gate =
    head_gate c.args.half s area.result area.ensures.area c.requires.inside c.in_ok-head.head.items
    c.index.result.now c.in_ok-head.ensures.bytes c.index.ensures in
    read_as c.args.half s area.result layout.result _ area.ensures.area layout.ensures.layout
    (shut_none layout.result.state_max (window area.result s) (λ one. c.if-index-ne1.true (gate ∙ one)))

pub returns-then-len-most-clause-body : goal.returns-then-len-most-clause-body
returns-then-len-most-clause-body g c =
    let s = g.D.Disk.seen c.args.disk.now in
    let area = c.head_area-area in
    let layout = c.layout_of-most in
    let bytes = c.in_ok-head.ensures in
    let gate =
    head_gate c.args.half s area.result area.ensures.area c.requires.inside c.in_ok-head.head.items
    c.index.result.now bytes.bytes c.index.ensures in
    let f = c.fields_of-generation.ensures in
    read_as c.args.half s area.result layout.result _ area.ensures.area layout.ensures.layout
    (too_long layout.result.state_max (window area.result s) c.deref.result.now
    (c.deref.ensures.value ∙ bytes.bytes) (sym gate ∙ c.if-index-ne1.false) _ _ f.generation f.len c.if-len-most.true)

pub returns-clause-body : goal.returns-clause-body
returns-clause-body g c =
    let s = g.D.Disk.seen c.args.disk.now in
    let area = c.head_area-area in
    let layout = c.layout_of-most in
    let bytes = c.in_ok-head.ensures in
    let gate =
    head_gate c.args.half s area.result area.ensures.area c.requires.inside c.in_ok-head.head.items
    c.index.result.now bytes.bytes c.index.ensures in
    let f = c.fields_of-generation.ensures in
    let state_is =
    c.in_ok-state.ensures.bytes ∙ ap (λ (b : List ℕ). slice_range (window area.result b) 13
    (13 + c.fields_of-generation.result.1)) c.read.ensures.reads in
    read_as c.args.half s area.result layout.result _ area.ensures.area layout.ensures.layout
    (read_body layout.result.state_max (window area.result s) c.deref.result.now
    (c.deref.ensures.value ∙ bytes.bytes) (sym gate
    ∙ c.if-index-ne1.false) _ _ f.generation f.len c.if-len-most.false c.in_ok-state.state.items state_is)

pub returns-then-len-most-clause-any_moment : goal.returns-then-len-most-clause-any_moment
returns-then-len-most-clause-any_moment g c =
    let d = g.D.Disk in
    let old = c.args.disk.now in
    goes_on d.moment d.left_since old old c.read.new.disk (d.images old) _
    (started d.moment d.left_since old (d.images old)
    (g.met.D.Disk.only_now old)) c.read.ensures.time c.read.ensures.images.none_new

pub returns-clause-any_moment : goal.returns-clause-any_moment
returns-clause-any_moment g c =
    let d = g.D.Disk in
    let old = c.args.disk.now in
    let first =
    goes_on d.moment d.left_since old old c.read.new.disk (d.images old) _
    (started d.moment d.left_since old (d.images old)
    (g.met.D.Disk.only_now old)) c.read.ensures.time c.read.ensures.images.none_new in
    goes_on d.moment d.left_since old c.read.new.disk c.read-2.new.disk
    (d.images old) _ first c.read-2.ensures.time
    (λ x now. c.read.ensures.images.none_new x (c.read-2.ensures.images.none_new x now))
