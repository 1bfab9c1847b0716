-- Calls that move a session from one status to another leave a state fit.
use Rattle.node_laws.proofs.Names.{◌≡◌, refl, sym, subst, ℕ, ◌≤◌, Bool, true, false, List, [], ◌++◌, length, arith}
use Rattle.node_laws.proofs.Names.{◌||◌, nat_lt, is_some, is_none, option_map, IfSome, Option, Some, None}
use Rattle.node_laws.proofs.Names.{option_map_or, cluster_limit, names_rise, Bytes, Call, Cluster, Outcome, New, Old}
use Rattle.node_laws.proofs.Names.{Status, Ready, Processing, Activating, Verifying, Activated, RollingBack, RolledBack}
use Rattle.node_laws.proofs.Names.{CleaningUp, NodeState, Session, has_status, first_refusal, Goal, To, CleanUp}
use Rattle.node_laws.proofs.Names.{status_table, session_refusals, arrive, led_by, names_among, Reading, SessionIsDue}
use Rattle.node_laws.proofs.Names.{should_run, LeavesOneToVerify, may_plan_nothing, parts_in, IsFit, ap, ◌∙◌, not}
use Rattle.node_laws.proofs.Names.{filter, map, slice_set, length-set, ltb-true, map-append, Part, BeingProcessed}
use Rattle.node_laws.proofs.Names.{Processed, Idle, Transfer, is_in, cluster_of, parts_of_id, activate_unit}
use Rattle.node_laws.proofs.Names.{verify_unit, roll_back_unit, clean_up_unit, end_mark}
use Rattle.node_laws.proofs.NameLists.{names_of, Within, within-self, within-left, within-right, within-trans}
use Rattle.node_laws.proofs.NameLists.{fewer-within, changed_names, names-of-parts, planned-rise, planned-within}
use Rattle.node_laws.proofs.Lists.{rows-clear, each-append, each-imp, each-filter, each-passes, length-filter}
use Rattle.node_laws.proofs.Lists.{rise-filter, neither, not-true, or-false}
use Rattle.node_laws.proofs.Sessions.{Busy, IsUnfinished, base-of, busy-of, free-is}
use Rattle.pm_types.specs.declared.calls.Call.TheVariants as call

-- a state in a status, as it is
pub at-status : (s : NodeState) (x : Session) (a : Status) → s.status ≡ a → Busy s x → Busy (record s { status = a }) x
at-status s x a e v = subst (λ st. Busy (record s { status = st }) x) e v

-- the same session in another status, with other clusters, counts and outcome
pub moved : (s : NodeState) (x : Session) (a b : Status) (running : List (Cluster Bytes)) (done verified : ℕ)
    (o : Option Outcome) → Busy (record s { status = a }) x
    → SessionIsDue b (Some (record x { units_done = done; verified = verified; outcome = o }))
    → running ≡ should_run x b o → (nat_lt 0 (length x.changes) || may_plan_nothing b) ≡ true
    → is_some x.processing ≡ has_status Processing (record s { status = b })
    → IfSome x.processing (IsUnfinished x.owner done s.transfers)
    → LeavesOneToVerify (record x { verified = verified }) b
    → is_some o ≡ has_status CleaningUp (record s { status = b })
    → length (names_among {D = Bytes} (running ++ x.saved) [] (parts_in s x)) ≤ cluster_limit
    → Busy (record s { status = b; running = running })
    (record x { units_done = done; verified = verified; outcome = o })
moved s x a b running done verified o v due runs plans working unfinished leaves outcome names = grind (arith)

pub moved-fit : (read : Reading) (s : NodeState) (x : Session) (b : Status) (running : List (Cluster Bytes))
    → IsFit read s → names_rise (names_of running) ≡ true → Busy (record s { status = b; running = running }) x
    → IsFit read (record s { status = b; running = running; session = Some x })
moved-fit read s x b running fit rise v = grind arith

pub or-true : (b : Bool) → (b || true) ≡ true
or-true true = refl
or-true false = refl

-- the moves that calls make, beside those into and out of processing
pub data Move : Type 0 where
  activate : Move
  revert : Move
  give_up : Move
  finish : Move
  roll_back : Move
  finish_old : Move

abbrev pub from : Move → Status
from give_up = Verifying
from finish = Activated
from roll_back = Activated
from finish_old = RolledBack
from _ = Ready

abbrev pub to : Move → Goal
to activate = To Activating
to give_up = To RollingBack
to finish = CleanUp New
to roll_back = To RollingBack
to _ = CleanUp Old

pub to-fit : (read : Reading) (s : NodeState) (x : Session) (b : Status) → IsFit read s → s.session ≡ Some x
    → Busy (record s { status = b }) x → IsFit read (record s { status = b })
to-fit read s x b fit e v =
    subst (λ o. IsFit read (record s { status = b; session = o })) (sym e)
    (moved-fit read s x b s.running fit (base-of s fit.consistent).running v)

abbrev ended : Outcome → Session → Session
ended o x = record x { outcome = Some o }

pub clean-fit : (read : Reading) (s : NodeState) (x : Session) (o : Outcome) → IsFit read s → s.session ≡ Some x
    → Busy (record s { status = CleaningUp }) (ended o x) → IsFit read (arrive s (CleanUp o))
clean-fit read s x o fit e v =
    subst (λ y. IsFit read (record s { status = CleaningUp; session = option_map (ended o) y })) (sym e)
    (moved-fit read s (ended o x) CleaningUp s.running fit (base-of s fit.consistent).running v)

pub arrive-fit : (read : Reading) (s : NodeState) (x : Session) (m : Move) → IsFit read s → s.session ≡ Some x
    → Busy (record s { status = from m }) x → IsFit read (arrive s (to m))
arrive-fit read s x activate fit e v =
    to-fit read s x Activating fit e
    (moved s x Ready Activating s.running x.units_done x.verified x.outcome v v.due v.runs v.changes.not_empty v.working
    v.unfinished v.leaves v.outcome v.names)
arrive-fit read s x give_up fit e v =
    to-fit read s x RollingBack fit e
    (moved s x Verifying RollingBack s.running x.units_done x.verified x.outcome v v.due v.runs v.changes.not_empty
    v.working v.unfinished tt v.outcome v.names)
arrive-fit read s x roll_back fit e v =
    to-fit read s x RollingBack fit e
    (moved s x Activated RollingBack s.running x.units_done x.verified x.outcome v v.due v.runs v.changes.not_empty
    v.working v.unfinished v.leaves v.outcome v.names)
arrive-fit read s x revert fit e v =
    clean-fit read s x Old fit e
    (moved s x Ready CleaningUp s.running x.units_done x.verified (Some Old) v v.due v.runs (or-true _)
    v.working v.unfinished v.leaves refl v.names)
arrive-fit read s x finish fit e v =
    clean-fit read s x New fit e
    (moved s x Activated CleaningUp s.running x.units_done x.verified (Some New) v v.due v.runs (or-true _)
    v.working v.unfinished v.leaves refl v.names)
arrive-fit read s x finish_old fit e v =
    clean-fit read s x Old fit e
    (moved s x RolledBack CleaningUp s.running x.units_done x.verified (Some Old) v v.due v.runs (or-true _)
    v.working v.unfinished v.leaves refl v.names)

-- the calls that make them
pub data Mover : Type 0 where
  activates : Mover
  finishes : Mover
  rolls_back : Mover
  reverts : Mover

abbrev pub call_by : Mover → Call
call_by activates = call.Activate
call_by finishes = call.Finish
call_by rolls_back = call.Rollback
call_by reverts = call.RevertProcessedSwPackages

pub move-of : (c : Mover) (a : Status) → is_none (status_table a (call_by c)) ≡ false
    → (m : Move) × (a ≡ from m) × (status_table a (call_by c) ≡ Some (to m))
move-of activates Ready e = (activate, refl, refl)
move-of finishes Activated e = (finish, refl, refl)
move-of finishes RolledBack e = (finish_old, refl, refl)
move-of rolls_back Verifying e = (give_up, refl, refl)
move-of rolls_back Activated e = (roll_back, refl, refl)
move-of reverts Ready e = (revert, refl, refl)
move-of _ _ e = absurd (cc)

not-idle : (m : Move) → SessionIsDue (from m) None → ⊥
not-idle finish_old h = h
not-idle _ h = h

pub led-fit : (read : Reading) (s : NodeState) (client : ℕ) (c : Mover) → IsFit read s
    → first_refusal (session_refusals s client (call_by c)) ≡ None → IsFit read (led_by (call_by c) s)
led-fit read s client c fit r =
    let clear = rows-clear (session_refusals s client (call_by c)) r in
    let move = move-of c s.status clear.1.0 in
    let m = move.0 in
    let go : (o : Option Session) → s.session ≡ o → IsFit read (arrive s (to m)) =
    elim [
      | None ↦ λ e. absurd
          (not-idle m
          (subst (λ st. SessionIsDue st None) move.1 (subst (SessionIsDue s.status) e fit.consistent.session)))
      | Some x ↦ λ e. arrive-fit read s x m fit e (at-status s x (from m) move.1 (busy-of s x e fit.consistent))
    ] in
    subst (λ o. IsFit read (option_map_or (arrive s) o s)) (sym move.2) (go s.session refl)

-- Units of work, beside those in Processing, leave a state fit.
-- names of clusters and of further parts
abbrev pub all_of : List (Cluster Bytes) → List (Part Bytes) → List (List ℕ)
all_of clusters parts = names_of clusters ++ [] ++ map cluster_of parts

pub clusters-in : (zs : List (List ℕ)) (cs : List (Cluster Bytes)) (ps : List (Part Bytes)) → Within zs (names_of cs)
    → Within zs (all_of cs ps)
clusters-in zs cs ps h = within-left zs (names_of cs ++ []) (map cluster_of ps) (within-left zs (names_of cs) [] h)

pub parts-in : (zs : List (List ℕ)) (cs : List (Cluster Bytes)) (ps : List (Part Bytes)) → Within zs (map cluster_of ps)
    → Within zs (all_of cs ps)
parts-in zs cs ps h = within-right zs (names_of cs ++ []) (map cluster_of ps) h

pub all-in : (cs : List (Cluster Bytes)) (ps : List (Part Bytes)) (zs : List (List ℕ)) → Within (names_of cs) zs
    → Within (map cluster_of ps) zs → Within (all_of cs ps) zs
all-in cs ps zs h k = each-append _ (names_of cs ++ []) (map cluster_of ps) (each-append _ (names_of cs) [] h tt) k

-- other clusters and parts, whose names are all among those
pub names-fewer : (cs ds : List (Cluster Bytes)) (ps qs : List (Part Bytes)) → Within (names_of cs) (all_of ds qs)
    → Within (map cluster_of ps) (all_of ds qs)
    → length (names_among {D = Bytes} ds [] qs) ≤ cluster_limit
    → length (names_among {D = Bytes} cs [] ps) ≤ cluster_limit
names-fewer cs ds ps qs h k few =
    let m = fewer-within (all_of cs ps) (all_of ds qs) (all-in cs ps (all_of ds qs) h k) in omega (arith, m)

-- names of two lists of clusters
pub both-in : (cs ds : List (Cluster Bytes)) (zs : List (List ℕ)) → Within (names_of cs) zs → Within (names_of ds) zs
    → Within (names_of (cs ++ ds)) zs
both-in cs ds zs h k =
    subst (λ ns. Within ns zs) (sym (map-append (λ (c : Cluster Bytes). c.name) cs ds))
    (each-append _ (names_of cs) (names_of ds) h k)

pub left-in : (cs ds : List (Cluster Bytes)) → Within (names_of cs) (names_of (cs ++ ds))
left-in cs ds =
    subst (Within (names_of cs)) (sym (map-append (λ (c : Cluster Bytes). c.name) cs ds))
    (within-left (names_of cs) (names_of cs) (names_of ds) (within-self (names_of cs)))

pub right-in : (cs ds : List (Cluster Bytes)) → Within (names_of ds) (names_of (cs ++ ds))
right-in cs ds =
    subst (Within (names_of ds)) (sym (map-append (λ (c : Cluster Bytes). c.name) cs ds))
    (within-right (names_of ds) (names_of cs) (names_of ds) (within-self (names_of ds)))

-- the planned changes' names are among those of the parts in the session
pub changes-in : (s : NodeState) (x : Session) → Within (changed_names x.changes) (map cluster_of (parts_in s x))
changes-in s x =
    subst (Within (changed_names x.changes)) (sym (parts-names s x))
    (within-left (changed_names x.changes) (changed_names x.changes) _ (within-self (changed_names x.changes)))
  where
    parts-names : (s : NodeState) (x : Session)
        → map cluster_of (parts_in s x)
        ≡ changed_names x.changes ++ map cluster_of (option_map_or (parts_of_id s x) x.processing [])
    parts-names s x =
        map-append cluster_of (map (λ change. change.part) x.changes) (option_map_or (parts_of_id s x) x.processing [])
        ∙ ap (λ ns. ns ++ map cluster_of (option_map_or (parts_of_id s x) x.processing [])) (names-of-parts x.changes)

-- the names stay few where what runs is what was saved, or what is planned
names-of-running : (s : NodeState) (x : Session) (running : List (Cluster Bytes))
    → Within (names_of running) (names_of x.saved ++ changed_names x.changes)
    → length (names_among {D = Bytes} (s.running ++ x.saved) [] (parts_in s x)) ≤ cluster_limit
    → length (names_among {D = Bytes} (running ++ x.saved) [] (parts_in s x)) ≤ cluster_limit
names-of-running s x running h few =
    let old = s.running ++ x.saved in
    let parts = parts_in s x in
    let all = all_of old parts in
    let saved : Within (names_of x.saved) all = clusters-in (names_of x.saved) old parts (right-in s.running x.saved) in
    let changes : Within (changed_names x.changes) all = parts-in (changed_names x.changes) old parts (changes-in s x)
    in
    names-fewer (running ++ x.saved) old parts parts
    (both-in running x.saved all
    (within-trans (names_of running) (names_of x.saved ++ changed_names x.changes) all h
    (each-append _ (names_of x.saved) (changed_names x.changes) saved changes)) saved)
    (parts-in (map cluster_of parts) old parts (within-self (map cluster_of parts))) few

-- the planned clusters run, and none is verified
pub activate-fit : (read : Reading) (s : NodeState) (x : Session) → IsFit read s
    → Busy (record s { status = Activating }) x → IsFit read (activate_unit s x)
activate-fit read s x fit v = grind (arith, or-false, planned-rise, names-of-running, planned-within)

-- one change more is verified, or the node turns back
pub verify-fit : (read : Reading) (s : NodeState) (x : Session) (passed : Bool) → IsFit read s → s.session ≡ Some x
    → Busy (record s { status = Verifying }) x → IsFit read (verify_unit s x passed)
verify-fit read s x false fit e v = grind arith
verify-fit read s x true fit e v = grind (arith, nat_lt, names_rise, names_of, base-of, moved-fit, moved, ltb-true)

-- the saved clusters run again
pub roll_back-fit : (read : Reading) (s : NodeState) (x : Session) → IsFit read s → s.session ≡ Some x
    → Busy (record s { status = RollingBack }) x → IsFit read (roll_back_unit s x)
roll_back-fit read s x fit e v =
    grind (arith, moved, names-of-running, within-left, names_of, changed_names, within-self)

-- the session is over
pub clean_up-fit : (read : Reading) (s : NodeState) (x : Session) → IsFit read s
    → Busy (record s { status = CleaningUp }) x → IsFit read (clean_up_unit s x)
clean_up-fit read s x fit v =
    let b = base-of s fit.consistent in
    let left = filter (λ (t : Transfer). not (is_in BeingProcessed t.header || is_in Processed t.header)) s.transfers in
    let passed = each-imp _ _ (λ t p. neither (is_in BeingProcessed t.header) (is_in Processed t.header) (not-true _ p))
    left (each-passes _ s.transfers) in
    record {
      consistent =
          free-is (record s { status = Idle; transfers = left; ended = slice_set s.ended x.owner (end_mark x) })
          (record {
            held = record {
              each = each-filter _ _ s.transfers b.held.each;
              rise = rise-filter _ _ s.transfers b.held.rise;
              next_id = b.held.next_id;
              few =
                  (let k = length-filter
                  (λ (t : Transfer). not (is_in BeingProcessed t.header || is_in Processed t.header)) s.transfers in
                  omega (arith, k, b.held.few));
              sizes = each-filter _ _ s.transfers b.held.sizes;
            };
            running = b.running;
            clients = (b.clients.0, length-set s.ended x.owner (end_mark x) ∙ b.clients.1);
            lines = b.lines;
            places = b.places;
          })
          (record {
            idle = refl;
            changes = each-imp _ _ (λ t p. p.1) left passed;
            each = each-imp _ _ (λ t p. p.0) left passed;
            names =
                names-fewer s.running (s.running ++ x.saved) [] (parts_in s x)
                (clusters-in (names_of s.running) (s.running ++ x.saved) (parts_in s x) (left-in s.running x.saved))
                tt v.names;
          });
      read_parts = each-filter _ _ s.transfers fit.read_parts;
    }
