-- What the law of success asks for is met by a worked run, and what that of one node asks for by a history with a calm
-- client.
use Rattle.std.specs.Prelude.{◌≡◌, ℕ, ◌<◌, ◌≤◌, Bool, true, false, not, if◌then◌else◌, bytes_eq, List, [], ◌∷◌, ◌++◌}
use Rattle.std.specs.Prelude.{map, length, take, None, Some, Ok, Err}
use Rattle.std.specs.List.{list_any}
use Rattle.std.proofs.Common.{refl, subst, arith}
use Rattle.ucm_base.specs.Limits.{node_limit}
use Rattle.ucm_base.specs.Names.{all_differ}
use Rattle.ucm_base.specs.Parts.{Bytes}
use Rattle.ucm_base.specs.declared.ids.CallNo.{CallNo}
use Rattle.pm_types.specs.declared.calls.Call.TheVariants.{Sync, Rollback}
use Rattle.ucm_base.specs.declared.parts.Part.{Part}
use Rattle.pm_types.specs.declared.history.Entry.{Entry}
use Rattle.pm_types.specs.declared.history.Entry.TheVariants.{Numbered}
use Rattle.pm_types.specs.declared.replies.Refusal.TheVariants.{OperationNotPermitted, InvalidManifest, ServiceBusy}
use Rattle.pm_types.specs.declared.replies.Reply.TheVariants.{Synced, Refused}
use Rattle.pm_types.specs.Clusters.{cluster_of}
use Rattle.pm_types.specs.Histories.{IsLegal, IsTrueTo, formatted}
use Rattle.campaign_core.specs.declared.events.CampaignResult.TheVariants.{Successful}
use Rattle.campaign_core.specs.declared.events.Vote.TheVariants as Vote
use Rattle.node_laws.specs.Fit.{IsReading, IsInstalled}
use Rattle.run_claim.specs.Script.{packages_of, installed_on}
use Rattle.run_claim.specs.Masters.{hurries}
use Rattle.run_claim.specs.Evidence.{VoteIsShown}
use Rattle.run_claim.specs.Left.{result_of}
use Rattle.run_claim.specs.Law.{NoneRose, FormattedRun}
use Rattle.run_claim.specs.Calm.{AreWhole, is_foreign_start}
use Rattle.run_claim.proofs.Closed.{each_node}
use Rattle.run_claim.proofs.CalmRuns.{calm-follows}
use Rattle.run_claim.proofs.Removal as removal

-- the package is read as one part
reads : IsReading removal.read
reads = record { parts_of = λ bytes parts e. go (bytes_eq bytes removal.package_1) parts e }
  where
    go : (b : Bool) (parts : List (Part Bytes))
        → (if b then Ok (removal.part_1 ∷ []) else (Err InvalidManifest)) ≡ Ok parts
        → (0 < length parts) × (all_differ (map cluster_of parts) ≡ true)
    go true parts e =
        let one : removal.part_1 ∷ [] ≡ parts = cc e in
        subst (λ (l : List (Part Bytes)). (0 < length l) × (all_differ (map cluster_of l) ≡ true)) one
        (omega arith, refl)
    go false parts e = absurd (cc e)

-- the nodes' clusters and packages
abbrev IsGiven : ℕ → Type 0
IsGiven n = IsInstalled (installed_on removal.script n) × AreWhole removal.read (packages_of removal.script n)

none : IsInstalled [] × AreWhole removal.read []
none = (record { rise = refl; few = omega arith }, record { each = tt; differ = refl })

given_1 : IsGiven 1
given_1 = (
  record { rise = refl; few = omega arith },
  record { each = ((omega arith, omega arith, refl), tt); differ = refl },
)

given : (n : ℕ) → 1 ≤ n → n ≤ node_limit → IsGiven n
given = each_node IsGiven (given_1, (none, (none, (none, (none, (none, (none, (none, tt))))))))

-- no disk's count rose
quiet : NoneRose removal.counted
quiet disk h = record { same = refl; below = omega arith }

-- so the run succeeds
succeeds : result_of removal.ended.list ≡ Some Successful
succeeds =
    let run : FormattedRun removal.read removal.script removal.counted removal.ended = removal.run in
    calm-follows removal.read reads removal.script (omega arith) refl given removal.counted quiet removal.ended run.list
    run.series run.cancel run.complete.open_lines run.nodes

-- a client's numbers
abbrev no : ℕ → CallNo
no number = record { epoch = 1; number = number }

-- a client that syncs, and whose other calls are refused, before the first and after the last call of the rounds
abbrev history : List Entry
history =
    Numbered 2 (no 1) Sync (Synced (record { session = None; ended = None; transfers = [] }))
    ∷ Numbered 2 (no 2) Rollback (Refused OperationNotPermitted)
    ∷ take 9 removal.history_1
    ++ Numbered 2 (no 3) Rollback (Refused ServiceBusy)
    ∷ []

-- it is legal, has no start of another client, and the master waits for units
legal : IsLegal removal.read (formatted (installed_on removal.script 1)) history
legal = search arith parts 30

faithful : IsTrueTo [] removal.read (formatted (installed_on removal.script 1)) history
faithful = (refl, (refl, (refl, tt)))

calm : not (list_any is_foreign_start history) ≡ true
calm = refl

waits : not (hurries removal.read (formatted (installed_on removal.script 1)) history) ≡ true
waits = refl

-- and the node votes Yes
yes : VoteIsShown removal.read (formatted (installed_on removal.script 1)) 7 1 (packages_of removal.script 1) history
    Vote.Yes
yes = record { place = 12; calls = refl; numbers = refl; accepted = refl; status = refl; session = refl }
