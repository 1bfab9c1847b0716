-- What is made ready before a call or a unit.
use Rattle.std.specs.Prelude.{◌≡◌, ℕ, length, map, unwrap_or, Option, Some, None, IsSomeAnd, Ok, Err}
use Rattle.package_reader.specs.declared.span.Span.{Span}
use Rattle.ucm_base.specs.Parts.{Bytes}
use Rattle.pm_types.specs.declared.clusters.Extent.{Extent}
use Rattle.ucm_base.specs.declared.parts.Part.{Part}
use Rattle.pm_types.specs.declared.replies.Refusal.{Refusal}
use Rattle.pm_types.specs.declared.replies.Refusal.TheVariants.{InvalidManifest}
use Rattle.pm_types.specs.declared.transfers.ExitVerdict.{ExitVerdict}
use Rattle.pm_types.specs.declared.transfers.ExitVerdict.TheVariants.{Good, Bad}
use Rattle.pm_types.specs.NodeState.{SessionOf}
use Rattle.pm_types.specs.Transfers.{Verdict}
use Rattle.node_core.specs.declared.prepared.Prepared.{Prepared}
use Rattle.node_core.specs.declared.prepared.Prepared.TheVariants.{Verdict as Judged, Session as Opened, Unmet}

-- the verdict that is ready
abbrev pub verdict_kept : Prepared → Option ExitVerdict
verdict_kept (Judged verdict) = Some verdict
verdict_kept _ = None

-- where none is, the bytes are no package
abbrev pub verdict_in : Option ExitVerdict → ExitVerdict
verdict_in kept = unwrap_or kept (Bad InvalidManifest)

-- the session that is ready
abbrev pub session_kept : Prepared → Option (SessionOf Extent)
session_kept (Opened session) = Some session
session_kept _ = None

-- what is ready to refuse an activation, if anything
abbrev pub unmet_kept : Prepared → Option (Option Refusal)
unmet_kept (Unmet why) = Some why
unmet_kept _ = None

-- a part with its payload's length alone
abbrev pub with_length : Part Bytes → Part ℕ
with_length part = record { manifest = part.manifest; payload = length part.payload }

-- a part that was read, with its payload's length alone
abbrev pub stored_part : Part Span → Part ℕ
stored_part part = record { manifest = part.manifest; payload = part.payload.len }

-- a verdict that leaves the payload out is that of the bytes
abbrev pub IsVerdict : ExitVerdict → Verdict → Type 0
IsVerdict (Good contents) (Ok parts) = contents ≡ map with_length parts
IsVerdict (Bad refusal) (Err why) = refusal ≡ why
IsVerdict _ _ = ⊥

-- the verdict that is ready is that of the bytes
abbrev pub IsVerdictKept : Option ExitVerdict → Verdict → Type 0
IsVerdictKept kept expected = IsSomeAnd kept (λ verdict. IsVerdict verdict expected)
