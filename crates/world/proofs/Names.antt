-- The words of the definitions and of the library that these proofs use.
pub use Rattle.campaign_core.specs.Campaign.{after_event, all_below, all_ended, all_yes, begun, campaign, campaign_from}
pub use Rattle.campaign_core.specs.Campaign.{changed, changed_in, end_of, entered, first_cause, has_ended, in_current}
pub use Rattle.campaign_core.specs.Campaign.{is_cause, is_marked, is_new_of, is_result_of, is_undecided, may_begin}
pub use Rattle.campaign_core.specs.Campaign.{may_decide, meets, nothing_yet, refusal_of, unless, vote_of, voted_yes}
pub use Rattle.campaign_core.specs.Nodes.{all_flagged, flag_of, part_of, with_part}
pub use Rattle.campaign_core.specs.declared.events.CampaignResult.{CampaignResult}
pub use Rattle.campaign_core.specs.declared.events.CampaignResult.TheVariants.{Failed, Successful}
pub use Rattle.campaign_core.specs.declared.events.Cause.{Cause}
pub use Rattle.campaign_core.specs.declared.events.Decision.{Decision}
pub use Rattle.campaign_core.specs.declared.events.Decision.TheVariants.{Abort, Commit}
pub use Rattle.campaign_core.specs.declared.events.MasterEvent.{MasterEvent}
pub use Rattle.campaign_core.specs.declared.events.MasterEvent.TheVariants.{Begin, Decide, EndedAt, Enter, PhaseTo, Start}
pub use Rattle.campaign_core.specs.declared.events.MasterEvent.TheVariants.{VoteOf}
pub use Rattle.campaign_core.specs.declared.events.Vote.{Vote}
pub use Rattle.campaign_core.specs.declared.fold.Current.{Current}
pub use Rattle.campaign_core.specs.declared.fold.Fold.{Fold}
pub use Rattle.node_laws.specs.Fit.{IsFit, IsInstalled, IsReading}
pub use Rattle.pm_types.specs.Clusters.{all_units, brought, changed_by, changes_of, cluster_at, cluster_of, planned}
pub use Rattle.pm_types.specs.Clusters.{with_cluster, without}
pub use Rattle.pm_types.specs.Histories.{Reading, after_entry, formatted, state_after, verdict_for, worked}
pub use Rattle.pm_types.specs.NodeState.{NodeState, Session, Transfer, is_in, is_working, of_client, some_passes}
pub use Rattle.pm_types.specs.Refusals.{first_refusal}
pub use Rattle.pm_types.specs.Sessions.{arrive, begin_processing, cancel_refusals, changes_in, clean_up, is_wrong_tag}
pub use Rattle.pm_types.specs.Sessions.{led_by, session_refusals, status_table, stop_processing}
pub use Rattle.pm_types.specs.Steps.{accepted, after_call, after_reply, call_no_cmp, executed, judge, name_of, refusal}
pub use Rattle.pm_types.specs.Steps.{refused_or, reply_code, reply_to, step, with_entry, with_kept}
pub use Rattle.pm_types.specs.Transfers.{Verdict, deleted, exited, grown, header_of, ids_of, in_phase, is_of, parts_read}
pub use Rattle.pm_types.specs.Transfers.{started, transfer_of, with_block}
pub use Rattle.pm_types.specs.Validity.{ChangesAreDue, IsConsistent, IsPlannedWhole, IsSound, SessionIsDue}
pub use Rattle.pm_types.specs.Validity.{id_in_processing, numbers_rise, should_run}
pub use Rattle.pm_types.specs.Work.{activate_unit, clean_up_unit, end_mark, parts_of_id, process_unit, processed}
pub use Rattle.pm_types.specs.Work.{roll_back_unit, unit, unit_of, verify_unit}
pub use Rattle.pm_types.specs.declared.calls.Call.{Call}
pub use Rattle.pm_types.specs.declared.calls.Call.TheVariants.{Activate, Cancel, DeleteTransfer, Finish, ProcessSwPackage}
pub use Rattle.pm_types.specs.declared.calls.Call.TheVariants.{RevertProcessedSwPackages as Revert, Rollback, Sync}
pub use Rattle.pm_types.specs.declared.calls.Call.TheVariants.{TransferData, TransferExit, TransferStart}
pub use Rattle.pm_types.specs.declared.clusters.Change.{Change}
pub use Rattle.pm_types.specs.declared.clusters.Cluster.{Cluster}
pub use Rattle.ucm_base.specs.declared.parts.Part.{Part}
pub use Rattle.pm_types.specs.declared.history.Entry.{Entry}
pub use Rattle.pm_types.specs.declared.history.Happened.TheVariants.{Numbered, Unit as UnitAfter}
pub use Rattle.pm_types.specs.declared.replies.EndMark.{EndMark}
pub use Rattle.pm_types.specs.declared.replies.Reached.{Reached}
pub use Rattle.pm_types.specs.declared.replies.Reached.TheVariants.{Again, Done as Fresh, Stale}
pub use Rattle.pm_types.specs.declared.replies.Refusal.{Refusal}
pub use Rattle.pm_types.specs.declared.replies.Refusal.TheVariants.{IncorrectBlock, IncorrectSize, InvalidTransferId}
pub use Rattle.pm_types.specs.declared.replies.Refusal.TheVariants.{OperationNotPermitted}
pub use Rattle.pm_types.specs.declared.replies.Reply.{Reply}
pub use Rattle.pm_types.specs.declared.replies.Reply.TheVariants.{Done, Refused, Started, Synced}
pub use Rattle.pm_types.specs.declared.replies.SessionMark.{SessionMark}
pub use Rattle.pm_types.specs.declared.replies.Synced.{Synced as Shown}
pub use Rattle.pm_types.specs.declared.state.Kept.{Kept}
pub use Rattle.pm_types.specs.declared.status.Outcome.{Outcome}
pub use Rattle.pm_types.specs.declared.status.Outcome.TheVariants.{New, Old}
pub use Rattle.pm_types.specs.declared.status.Phase.{Phase}
pub use Rattle.pm_types.specs.declared.status.Phase.TheVariants.{Processed, Processing as BeingProcessed, Transferred}
pub use Rattle.pm_types.specs.declared.status.Phase.TheVariants.{Transferring}
pub use Rattle.pm_types.specs.declared.status.Status.{Status}
pub use Rattle.pm_types.specs.declared.status.Status.TheVariants.{Activated, Activating, CleaningUp, Idle, Processing}
pub use Rattle.pm_types.specs.declared.status.Status.TheVariants.{Ready, RolledBack, RollingBack, Verifying}
pub use Rattle.pm_types.specs.declared.transfers.Header.{Header}
pub use Rattle.std.proofs.Common.{Bool, List, None, Option, Some, [], ap, append_assoc, arith, cond, drop, false, get_or}
pub use Rattle.std.proofs.Common.{inl, inr, is_none, is_some, length, length-drop, nat_eq, nat_le, nat_lt, refl, subst}
pub use Rattle.std.proofs.Common.{suc, sym, take, true, zero, ℕ, ◌&&◌, ◌++◌, ◌+◌, ◌<◌, ◌||◌, ◌∙◌, ◌∷◌, ◌≡◌, ◌≢◌, ◌≤◌, ◌⊎◌}
pub use Rattle.std.proofs.lemmas.Bool.{and_parts, eq-eqb, eqb-true, ltb-true}
pub use Rattle.std.proofs.lemmas.Bool.Decides.{eqb_tells, nat_tests}
pub use Rattle.std.proofs.lemmas.Cmp.{nat_list_cmp_total}
pub use Rattle.std.proofs.lemmas.Grind.{flat_map-append}
pub use Rattle.std.proofs.lemmas.List.{append-nil, get_or-set_other, get_or-set_same, map-append, take-append-drop}
pub use Rattle.std.proofs.lemmas.List.Elements.{Contains-append_left, Contains-push, filter-append}
pub use Rattle.std.proofs.lemmas.List.Folds.{find-append}
pub use Rattle.std.proofs.lemmas.Slice.Eq.{bytes_eq-Decides}
pub use Rattle.std.specs.Cmp.Lexicographic.{slice_cmp, texts_ties}
pub use Rattle.std.specs.List.{AllByRecursion, Contains, flat_map}
pub use Rattle.std.specs.Option.{option_map_or, option_or}
pub use Rattle.std.specs.Ordering.{is_eq, is_lt, nat_cmp, ordering_reverse}
pub use Rattle.std.specs.Prelude.{IfSome, Ok, filter, find, if◌then◌else◌, map, not, option_and_then, option_map}
pub use Rattle.std.specs.Prelude.{replicate, slice_get, slice_index_or, slice_set, unwrap_or, ◌==◌}
pub use Rattle.std.specs.Str.{bytes_eq}
pub use Rattle.std.specs.declared.cmp.Ordering.{Ordering}
pub use Rattle.std.specs.declared.cmp.Ordering.TheVariants.{Equal, Greater, Less}
pub use Rattle.ucm_base.specs.Limits.{block_limit}
pub use Rattle.ucm_base.specs.Names.{all_differ, has_name, name_lt}
pub use Rattle.ucm_base.specs.Parts.{Bytes}
pub use Rattle.ucm_base.specs.declared.ids.CallNo.{CallNo}
pub use Rattle.ucm_base.specs.declared.ids.NodeId.{NodeId}
pub use Rattle.ucm_base.specs.declared.ids.NodeSet.{NodeSet}
pub use Rattle.ucm_base.specs.declared.parts.Action.TheVariants.{Install}
pub use Rattle.world.specs.Evidence.{EndEvidence, InCurrent, NamesOf, VoteEvidence}
pub use Rattle.world.specs.Law.{CampaignLaw, IsEntered, IsLeft, parts_in}
pub use Rattle.world.specs.Messages.{Answered, Message, Showed, Told, answer_of, is_activate}
pub use Rattle.world.specs.Messages.{is_done, is_status, is_sync, is_told, told_reply}
pub use Rattle.world.specs.RoundCalls.{AllFit, Fits, all_processed, all_transfers, blocks_from}
pub use Rattle.world.specs.RoundCalls.{round_calls}
pub use Rattle.world.specs.Rounds.{AtActivate, AtData, AtProcess, AtStart, AtSync, Over, RefusedOnce, Stage}
pub use Rattle.world.specs.Rounds.{call_at, next_package, next_processed, onward, stage_of}
pub use Rattle.world.specs.Sends.{MaySend, MaySendBy, MaySendEarly, MaySendLate, Packages, activate_done, campaign_of}
pub use Rattle.world.specs.Sends.{decided_of, delete_at, empties, end_call_at, is_end_sync, is_masters, last_shown}
pub use Rattle.world.specs.Sends.{last_status, may_follow, next_number, one_if, replies_of, session_status}
pub use Rattle.world.specs.Sends.{showed_after_activate, shown_if, status_if, status_of_shown}
pub use Rattle.world.specs.Spans.{IsNew, IsOld, Span, Spans, has_tag, span_of, span_step, spans, spans_from}
pub use Rattle.world.specs.Words.{RunsNew, left_by}
pub use Rattle.world.specs.World.{Deliver, Event, Foreign, HasEvidence, IsAllowed, Makes, NodeWorld, Record, Restart}
pub use Rattle.world.specs.World.{Send, Work, World, called, delivered, fold_of, happens, message, opened, reached}
pub use Rattle.world.specs.World.{recorded, shown_by, state_of, with_node, worked_on}
pub use Rattle.world.proofs.Orders.{IsBelow, IsIn, in-contained, no_eq, no_lt}
