-- The node of the tables as the world sees it.
use Rattle.world.proofs.Names.{◌≡◌, ℕ, suc, ◌==◌, ◌<◌, List, [], map, option_and_then, unwrap_or, Option, Some, None}
use Rattle.world.proofs.Names.{Bool, true, false, option_map_or, CallNo, Bytes, EndMark, Outcome, Part, Cluster}
use Rattle.world.proofs.Names.{Numbered, NodeState, of_client, changes_in, ids_of, transfer_of, parts_read, judge, step}
use Rattle.world.proofs.Names.{name_of, reply_code, with_kept, with_entry, Reading, verdict_for, worked, formatted}
use Rattle.world.proofs.Names.{id_in_processing, IsInstalled, RunsNew, Call, Reply, Done, arith, Ordering, Less, Equal}
use Rattle.world.proofs.Names.{Greater, executed, call_no_cmp, Reached, no_lt, no_eq}
use Rattle.node_laws.proofs.Kept.{opened_by}
use Rattle.world.proofs.Rules.{NodeRules, delivered, reached as world_reached}

abbrev pub zero_no : CallNo
zero_no = record { epoch = 0; number = 0 }

abbrev pub last_in : NodeState → CallNo
last_in s = option_map_or (λ k. k.no) (of_client s.last 0) zero_no

abbrev pub kept_in : NodeState → Reply
kept_in s = option_map_or (λ k. k.reply) (of_client s.last 0) Done

abbrev pub tag_if : Bool → ℕ → Option ℕ
tag_if true tag = Some tag
tag_if false tag = None

-- the tag of client 0's session
abbrev pub mine_in : NodeState → Option ℕ
mine_in s = option_and_then (λ x. tag_if (x.owner == 0) x.tag) s.session

abbrev pub owner_in : NodeState → ℕ
owner_in s = option_map_or (λ x. x.owner) s.session 0

abbrev pub planned_in : NodeState → List (Part Bytes)
planned_in s = map (λ change. change.part) (changes_in s)

abbrev pub outcome_in : NodeState → Option Outcome
outcome_in s = option_and_then (λ x. x.outcome) s.session

abbrev pub ended_in : NodeState → Option EndMark
ended_in s = of_client s.ended 0

abbrev pub received_in : NodeState → ℕ → List ℕ
received_in s id = option_map_or (λ t. t.bytes) (transfer_of s 0 id) []

-- what the master's call does, before it is kept
abbrev pub judged_in : Reading → NodeState → Call → NodeState × Reply
judged_in read s c = judge s 0 c (verdict_for read s 0 c)

abbrev pub kept_after : NodeState → CallNo → Call → Reply → NodeState
kept_after s at c r = with_entry (Numbered 0 at (name_of c) (reply_code r)) (with_kept 0 at r s)

-- a call of client other + 1, which is not the master
pub record ForeignCall : Type 0 where
  pub other : ℕ
  pub bound : other < 31
  pub at : CallNo
  pub call : Call

abbrev pub foreign_in : Reading → NodeState → ForeignCall → NodeState
foreign_in read s f = (step s (suc f.other) f.at f.call (verdict_for read s (suc f.other) f.call)).0

abbrev pub unit_in : NodeState → Bool → NodeState
unit_in s passed = unwrap_or (worked s passed) s

-- what the session saved
abbrev pub saved_in : NodeState → List (Cluster Bytes)
saved_in s = option_map_or (λ x. x.saved) s.session []

-- each cluster is as the parts leave it, and every other as it was saved
abbrev pub BringsIn : List (Part Bytes) → NodeState → NodeState → Type 0
BringsIn parts s t = RunsNew parts (saved_in s) t.running

-- the clusters are those that were saved
abbrev pub LeavesIn : NodeState → NodeState → Type 0
LeavesIn s t = t.running ≡ saved_in s

-- what happens on a node beside its master's calls and its units: it is opened with clusters, or another client calls
pub data Outside : Type 0 where
  Opens : (clusters : List (Cluster Bytes)) → IsInstalled clusters → Outside
  Calls : ForeignCall → Outside

-- a node without a session is opened with these clusters
abbrev pub opened_in : List (Cluster Bytes) → NodeState → NodeState
opened_in clusters s = record s { running = opened_by s.session clusters s.running }

abbrev pub outside_in : Reading → NodeState → Outside → NodeState
outside_in read s (Opens clusters installed) = opened_in clusters s
outside_in read s (Calls f) = foreign_in read s f

-- the node with any valid state or none: the laws below are of valid ones
abbrev pub real : Reading → List (Cluster Bytes) → NodeRules
real read clusters =
    record {
      State = NodeState;
      ForeignCall = ForeignCall;
      Change = Part Bytes;
      formatted = formatted clusters;
      last = last_in;
      kept = kept_in;
      status = λ s. s.status;
      mine = mine_in;
      owner = owner_in;
      planned = planned_in;
      in_process = id_in_processing;
      outcome = outcome_in;
      ended = ended_in;
      transfers = λ s. ids_of s 0;
      received = received_in;
      changes_of = λ bytes. parts_read (read bytes);
      judge = judged_in read;
      keep = kept_after;
      foreign = foreign_in read;
      unit = unit_in;
      Brings = BringsIn;
      Leaves = LeavesIn;
    }

-- The world's delivery of a call of the master is the node's step: Stale, Again, or judged, kept and entered.
abbrev Tests : CallNo → CallNo → Ordering → Type 0
Tests a b Less = no_lt a b ≡ true
Tests a b Equal = (no_lt a b ≡ false) × (no_eq a b ≡ true)
Tests a b Greater = (no_lt a b ≡ false) × (no_eq a b ≡ false)

tests : (a b : CallNo) → Tests a b (call_no_cmp a b)
tests a b = grind arith

module _ (read : Reading) (clusters : List (Cluster Bytes)) (s : NodeState) (at : CallNo) (c : Call) where
  abbrev done : NodeState × Reached
  done = executed s 0 at (c) (verdict_for read s 0 (c))

  abbrev kept : NodeState
  kept = kept_after (judged_in read s c).0 at c (judged_in read s c).1

  -- a call whose epoch is at least 1, as every call number's is
  pub delivered-is : 0 < at.epoch
      → (delivered (real read clusters) s at c ≡ (step s 0 at (c) (verdict_for read s 0 (c))).0)
      × (world_reached (real read clusters) s at c ≡ (step s 0 at (c) (verdict_for read s 0 (c))).1)
  delivered-is epoch = grind arith
