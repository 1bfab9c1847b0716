-- What a run promises: part by part, and node by node.
use Rattle.std.specs.Prelude.{◌≡◌, ◌≢◌, ℕ, ◌<◌, ◌≤◌, Bool, true, false, not, ◌&&◌, ◌||◌, nat_eq, nat_le, IsTrue, List, [], map, count_by, length, is_some, Option, Some, None}
use Rattle.std.specs.List.{AllByRecursion, list_any}
use Rattle.ucm_base.specs.Limits.{node_limit}
use Rattle.pm_types.specs.declared.history.Entry.{Entry}
use Rattle.pm_types.specs.NodeState.{NodeState, is_working}
use Rattle.pm_types.specs.Histories.{Reading, IsLegal as IsLegalHistory, IsTrueTo, formatted, state_after}
use Rattle.campaign_core.specs.declared.events.CampaignResult.{CampaignResult}
use Rattle.campaign_core.specs.declared.events.CampaignResult.TheVariants.{Successful}
use Rattle.campaign_core.specs.declared.events.Vote.{Vote}
use Rattle.campaign_core.specs.declared.events.MasterEvent.{MasterEvent}
use Rattle.campaign_core.specs.declared.events.MasterEvent.TheVariants.{Start}
use Rattle.campaign_core.specs.Campaign.{IsLegal as IsLegalList}
use Rattle.node_laws.specs.Fit.{IsReading, IsInstalled, IsFit}
use Rattle.world.specs.Messages.{is_activate}
use Rattle.run_script.specs.declared.lines.Point.{Point}
use Rattle.run_script.specs.declared.lines.Point.TheVariants.{Syncing, InPhase}
use Rattle.run_claim.specs.Script.{Script, packages_of, installed_on, failing_on, lines_on, named_nodes, used_nodes, is_named}
use Rattle.run_claim.specs.Ended.{Ended, Unfinished, LineReply, history_of, gave_of, is_unformatted, is_ended_by_master}
use Rattle.run_claim.specs.Masters.{made_by, GoesInOrder, GoesByDecision, epoch_of_begin, has_decision, has_end}
use Rattle.sub_core.specs.Made.{has_none}
use Rattle.run_claim.specs.Evidence.{VotesAreShown, votes_on, is_of_campaign, InVotes, is_of_node}
use Rattle.run_claim.specs.Lines.{IsAccounted}
use Rattle.run_claim.specs.FailedAttempts.{Counted, IsBounded, SeriesFit, VoteHasSeries, UnfinishedHasSeries, LineHasSeries, is_owned}
use Rattle.sub_core.specs.Failures.{last_count}
use Rattle.run_claim.specs.Cancelled.{CancelFits}
use Rattle.run_claim.specs.Left.{BeginsSo, IsLeftSo, result_of}
use Rattle.run_claim.specs.Eligible.{is_eligible, is_calm}

-- a node as the script has it formatted
abbrev pub opening_of : Script → ℕ → NodeState
opening_of s n = formatted (installed_on s n)

-- a used node did what a node may do, with the script's verdicts
pub record NodeIsLegal (read : Reading) (s : Script) (n : ℕ) (history : List Entry) : Type 0 where
  pub legal : IsLegalHistory read (opening_of s n) history
  pub faithful : IsTrueTo (failing_on s n) read (opening_of s n) history

-- a used node's entries of other clients, and what their lines gave; it rests on this node's seats alone
abbrev pub LinesFit : Reading → Script → ℕ → List LineReply → List Entry → Type 0
LinesFit read s n replies history =
    IsAccounted read (opening_of s n) (failing_on s n) s.time (lines_on s n) replies history

-- client 0's entries on a named node, and what the list says of it; it rests on these entries and on the list
pub record MasterFits (read : Reading) (s : Script) (n : ℕ) (list : List MasterEvent) (history : List Entry) : Type
    0 where
  pub order : GoesInOrder s.campaign n (packages_of s n) list (made_by 0 history)
  pub decision : GoesByDecision read (opening_of s n) list history
  pub votes : VotesAreShown (epoch_of_begin 0 list) read (opening_of s n) s.campaign (packages_of s n) history
      (votes_on n list)

-- a node that isn't named has no entry of client 0
abbrev pub MasterFitsIf : Bool → Reading → Script → ℕ → List MasterEvent → List Entry → Type 0
MasterFitsIf true read s n list history = MasterFits read s n list history
MasterFitsIf false read s n list history = made_by 0 history ≡ []

-- the starts of a master that went on
abbrev pub is_restart : MasterEvent → Bool
is_restart (Start epoch) = nat_le 2 epoch
is_restart _ = false

-- the master's list; it rests on the master's seat and its disk's count
pub record ListFits (s : Script) (counted : ℕ → Counted) (list : List MasterEvent) : Type 0 where
  pub legal : IsLegalList list
  pub begins : AllByRecursion (BeginsSo s) list
  -- each restart came after an append that failed
  pub restarts : IsBounded (count_by is_restart list) (counted 0)

-- an open line is the master's, or that of a named node that was decided on and hasn't ended
abbrev pub IsLeftOpen : Script → List MasterEvent → Unfinished → Type 0
IsLeftOpen s list u =
    IsTrue (nat_eq u.disk 0 || (is_named s u.disk && (has_decision list && not (has_end u.disk list))))

-- what is open, and the series; it rests on the disks' counts, the gates' rises and the links' losses
pub record SeriesAreThere (s : Script) (counted : ℕ → Counted) (e : Ended) : Type 0 where
  pub votes : AllByRecursion (VoteHasSeries e.series) e.list
  pub unfinished : AllByRecursion (UnfinishedHasSeries (is_unformatted e) e.series) e.unfinished
  pub lines : AllByRecursion (λ l. LineHasSeries e.series l (gave_of e.replies l.line)) s.lines
  pub owned : AllByRecursion (λ x. IsTrue (is_owned e.list e.replies e.unfinished x.failure x.disk)) e.series
  pub fit : SeriesFit s.fates counted e.series

-- what a run promises of a used node
pub record NodeFits (read : Reading) (s : Script) (counted : ℕ → Counted) (e : Ended) (n : ℕ) : Type 0 where
  pub legal : NodeIsLegal read s n (history_of e.nodes n)
  pub lines : LinesFit read s n e.replies (history_of e.nodes n)
  pub master : MasterFitsIf (is_named s n) read s n e.list (history_of e.nodes n)

-- what it left on a named node
abbrev pub NodeIsLeft : Reading → Script → Ended → ℕ → Type 0
NodeIsLeft read s e n =
    IsLeftSo read (result_of e.list) s.campaign (packages_of s n) (opening_of s n) (history_of e.nodes n)

-- whether a node has ended, has an open line, or couldn't end since the master didn't go on
abbrev pub is_settled : Ended → ℕ → Bool
is_settled e n = has_end n e.list || (list_any (λ u. nat_eq u.disk n) e.unfinished || is_ended_by_master e)

-- a count that can still rise didn't
pub record IsQuiet (c : Counted) : Type 0 where
  pub same : c.after ≡ c.before
  pub below : c.after < last_count

-- no disk's count of faults rose
abbrev pub NoneRose : (ℕ → Counted) → Type 0
NoneRose counted = (disk : ℕ) → disk ≤ node_limit → IsQuiet (counted disk)

-- whether the campaign is cancelled before the votes
abbrev pub is_before_votes : Option Point → Bool
is_before_votes (Some Syncing) = true
is_before_votes (Some (InPhase phase)) = true
is_before_votes _ = false

-- whether client 0 called Activate
abbrev pub activates : List Entry → Bool
activates history = list_any (λ m. is_activate m.call) (made_by 0 history)

-- when a run comes to an end, and when it succeeds
pub record IsComplete (read : Reading) (s : Script) (counted : ℕ → Counted) (e : Ended) : Type 0 where
  -- a campaign without a result has an open line
  pub open_lines : IsTrue (is_some (result_of e.list) || not (has_none e.unfinished))
  pub unfinished : AllByRecursion (IsLeftOpen s e.list) e.unfinished
  pub settled : AllByRecursion (λ n. IsTrue (is_settled e n)) (named_nodes s)
  -- without a rise and without fates it has a result
  pub entered : NoneRose counted → IsTrue (has_none s.fates) → IsTrue (is_some (result_of e.list))
  pub eligible : NoneRose counted → IsTrue (is_eligible read s) → result_of e.list ≡ Some Successful
  pub calm : NoneRose counted → IsTrue (is_calm read s) → result_of e.list ≡ Some Successful
  -- a cancel before the votes leaves no node activated by the campaign
  pub unactivated : IsTrue (is_before_votes s.cancel) → AllByRecursion (λ x. IsTrue (not (activates x.entries))) e.nodes

-- a run whose disks were all formatted
pub record FormattedRun (read : Reading) (s : Script) (counted : ℕ → Counted) (e : Ended) : Type 0 where
  pub used : map (λ x. x.node) e.nodes ≡ used_nodes s
  pub replied : map (λ r. r.line) e.replies ≡ map (λ l. l.line) s.lines
  pub list : ListFits s counted e.list
  pub nodes : AllByRecursion (NodeFits read s counted e) (used_nodes s)
  pub left : AllByRecursion (NodeIsLeft read s e) (named_nodes s)
  pub series : SeriesAreThere s counted e
  pub cancel : CancelFits s.cancel e.list (is_ended_by_master e) e.cancel
  pub complete : IsComplete read s counted e

-- a run that a formatting ended: nothing happened
pub record UnformattedRun (s : Script) (counted : ℕ → Counted) (e : Ended) : Type 0 where
  pub list : e.list ≡ []
  pub nodes : AllByRecursion (λ x. x.entries ≡ []) e.nodes
  pub replies : e.replies ≡ []
  pub cancel : e.cancel ≡ None
  pub one : IsTrue (nat_eq (length e.unfinished) 1)
  pub series : SeriesAreThere s counted e

-- a run that a formatting ended, or one whose disks were formatted
abbrev pub RunIs : Bool → Reading → Script → (ℕ → Counted) → Ended → Type 0
RunIs true read s counted e = UnformattedRun s counted e
RunIs false read s counted e = FormattedRun read s counted e

-- what a run ends with, by its script and the counts of the disks' faults before and after
abbrev pub IsRun : Reading → Script → (ℕ → Counted) → Ended → Type 0
IsRun read s counted e = RunIs (is_unformatted e) read s counted e

-- what a campaign left on a named node follows from what that node's history and the list promise
abbrev pub LeftFollows : Type 0
LeftFollows =
    (read : Reading) → IsReading read
    → (s : Script) (counted : ℕ → Counted) (list : List MasterEvent) → ListFits s counted list
    → (n : ℕ) → 1 ≤ n → n ≤ node_limit → packages_of s n ≢ [] → IsInstalled (installed_on s n)
    → (history : List Entry) → NodeIsLegal read s n history → MasterFits read s n list history
    → IsLeftSo read (result_of list) s.campaign (packages_of s n) (opening_of s n) history

-- that a campaign has a result without a rise and without fates follows from its series
abbrev pub EnteredFollows : Type 0
EnteredFollows =
    (s : Script) (counted : ℕ → Counted) (e : Ended) → SeriesAreThere s counted e
    → IsTrue (is_some (result_of e.list) || not (has_none e.unfinished))
    → NoneRose counted → IsTrue (has_none s.fates) → IsTrue (is_some (result_of e.list))

-- a session of client 0 without units to do stays as it is until client 0 calls again, whatever others do
abbrev pub StaysAtRest : Type 0
StaysAtRest =
    (read : Reading) (s : NodeState) → IsFit read s
    → (k : ℕ) → IsTrue (is_of_campaign k s.session) → is_working s.status ≡ false
    → (later : List Entry) → IsLegalHistory read s later → made_by 0 later ≡ []
    → ((state_after read s later).status ≡ s.status) × IsTrue (is_of_campaign k (state_after read s later).session)

-- without a rise, fates and a cancel a campaign isn't successful only where a named node refused a call or failed a
-- check
abbrev pub BlameFollows : Type 0
BlameFollows =
    (s : Script) (counted : ℕ → Counted) (e : Ended) → ListFits s counted e.list → SeriesAreThere s counted e
    → CancelFits s.cancel e.list (is_ended_by_master e) e.cancel
    → NoneRose counted → IsTrue (has_none s.fates) → s.cancel ≡ None
    → (r : CampaignResult) → result_of e.list ≡ Some r → r ≢ Successful
    → (n : ℕ) × (1 ≤ n) × (n ≤ node_limit) × (packages_of s n ≢ []) × (v : Vote) × InVotes v (votes_on n e.list)
    × IsTrue (is_of_node v)
