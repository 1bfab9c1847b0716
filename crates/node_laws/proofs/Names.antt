-- The words of the definitions and of the library that these proofs use.
pub use Rattle.node_laws.specs.Fit.{IsFit, IsInstalled, IsRead, IsReading, KeepsFit}
pub use Rattle.node_laws.specs.Runs.{MakesLegal, call_entry, entries_of}
pub use Rattle.pm_types.specs.Clusters.{all_units, brought, changed_as, changed_by, changes_of, cluster_of, has_cluster}
pub use Rattle.pm_types.specs.Clusters.{planned, units_of, with_cluster}
pub use Rattle.pm_types.specs.Histories.{IsLegal, IsNext, Reading, after_entry, formatted, state_after, verdict_for}
pub use Rattle.pm_types.specs.Histories.{worked}
pub use Rattle.pm_types.specs.NodeState.{NodeState, Session, Transfer, has_status, is_in, of_client, phase_code}
pub use Rattle.pm_types.specs.NodeState.{some_passes}
pub use Rattle.pm_types.specs.Refusals.{first_refusal}
pub use Rattle.pm_types.specs.Sessions.{CleanUp, Goal, Resume, To, applies, arrive, begin_processing, cancel_refusals}
pub use Rattle.pm_types.specs.Sessions.{changes_in, is_install, is_wrong_tag, led_by, names_among, new_session}
pub use Rattle.pm_types.specs.Sessions.{part_refusals, parts_refusal, process_refusal, session_refusals, status_table}
pub use Rattle.pm_types.specs.Sessions.{stop_processing, suits}
pub use Rattle.pm_types.specs.Steps.{acceptance, accepted, after_call, after_reply, by_last, by_order, call_no_cmp}
pub use Rattle.pm_types.specs.Steps.{executed, judge, newest, refusal, refused_or, reply_to, step, with_entry, with_kept}
pub use Rattle.pm_types.specs.Transfers.{Verdict, data_refusals, delete_refusals, deleted, exit_refusals, exited, fresh}
pub use Rattle.pm_types.specs.Transfers.{grown, header_of, in_phase, is_of, parts_of, parts_read, start_refusals, started}
pub use Rattle.pm_types.specs.Transfers.{transfer_of, verdict_refusal, with_block}
pub use Rattle.pm_types.specs.Validity.{ChangesAreDue, ChangesAreOf, IsConsistent, IsPlannedWhole, IsSound}
pub use Rattle.pm_types.specs.Validity.{IsWholeFromTransferred, LeavesOneToVerify, PartsApply, SessionIsDue, is_processed}
pub use Rattle.pm_types.specs.Validity.{may_plan_nothing, numbers_rise, parts_in, places_from, should_run}
pub use Rattle.pm_types.specs.Work.{activate_unit, clean_up_unit, end_mark, parts_of_id, process_unit, processed}
pub use Rattle.pm_types.specs.Work.{roll_back_unit, unit_of, verify_unit}
pub use Rattle.pm_types.specs.declared.calls.Call.{Call}
pub use Rattle.pm_types.specs.declared.calls.Call.TheVariants.{Activate, Cancel, DeleteTransfer, Finish, ProcessSwPackage}
pub use Rattle.pm_types.specs.declared.calls.Call.TheVariants.{RevertProcessedSwPackages, Rollback, Sync, TransferData}
pub use Rattle.pm_types.specs.declared.calls.Call.TheVariants.{TransferExit, TransferStart}
pub use Rattle.pm_types.specs.declared.clusters.Change.{Change}
pub use Rattle.pm_types.specs.declared.clusters.Cluster.{Cluster}
pub use Rattle.ucm_base.specs.declared.parts.Part.{Part}
pub use Rattle.pm_types.specs.declared.history.Entry.{Entry}
pub use Rattle.pm_types.specs.declared.history.Entry.TheVariants.{Numbered, Unit as UnitDone}
pub use Rattle.pm_types.specs.declared.history.Happened.{Happened}
pub use Rattle.pm_types.specs.declared.history.Happened.TheVariants.{Unit as UnitLine}
pub use Rattle.pm_types.specs.declared.history.Line.{Line}
pub use Rattle.pm_types.specs.declared.replies.Reached.{Reached}
pub use Rattle.pm_types.specs.declared.replies.Reached.TheVariants.{Done as Answered}
pub use Rattle.pm_types.specs.declared.replies.Refusal.{Refusal}
pub use Rattle.pm_types.specs.declared.replies.Refusal.TheVariants.{InvalidTransferId, OperationNotPermitted}
pub use Rattle.pm_types.specs.declared.replies.Reply.{Reply}
pub use Rattle.pm_types.specs.declared.replies.Reply.TheVariants.{Refused}
pub use Rattle.pm_types.specs.declared.state.Kept.{Kept}
pub use Rattle.pm_types.specs.declared.status.Outcome.{Outcome}
pub use Rattle.pm_types.specs.declared.status.Outcome.TheVariants.{New, Old}
pub use Rattle.pm_types.specs.declared.status.Phase.{Phase}
pub use Rattle.pm_types.specs.declared.status.Phase.TheVariants.{Processed, Processing as BeingProcessed, Transferred}
pub use Rattle.pm_types.specs.declared.status.Phase.TheVariants.{Transferring}
pub use Rattle.pm_types.specs.declared.status.Status.{Status}
pub use Rattle.pm_types.specs.declared.status.Status.TheVariants.{Activated, Activating, CleaningUp, Idle, Processing}
pub use Rattle.pm_types.specs.declared.status.Status.TheVariants.{Ready, RolledBack, RollingBack, Verifying}
pub use Rattle.pm_types.specs.declared.transfers.Header.{Header}
pub use Rattle.std.proofs.Common.{Bool, List, [], add-zero, ap, append_assoc, arith, drop, false, inl, inr, length}
pub use Rattle.std.proofs.Common.{length-append, length-drop, lit≤, refl, subst, suc, sym, true, zero, ℕ, ◌++◌, ◌+◌, ◌-◌}
pub use Rattle.std.proofs.Common.{◌<◌, ◌∙◌, ◌∷◌, ◌≡◌, ◌≤◌, ◌⊎◌}
pub use Rattle.std.proofs.Math.ListN.{length-set}
pub use Rattle.std.proofs.lemmas.Bool.{and_parts, eq-eqb, eqb-true, leb-false, lt-ltb, ltb-false, ltb-true}
pub use Rattle.std.proofs.lemmas.Cmp.{nat_list_cmp_total}
pub use Rattle.std.proofs.lemmas.List.{append-nil, length-map, map-append}
pub use Rattle.std.proofs.lemmas.List.Elements.{filter-append}
pub use Rattle.std.proofs.lemmas.List.Folds.{find-append}
pub use Rattle.std.proofs.lemmas.List.Sums.{sum_by-cons}
pub use Rattle.std.proofs.lemmas.Slice.Eq.{bytes_eq-Decides}
pub use Rattle.std.specs.Cmp.Derive.{both_true}
pub use Rattle.std.specs.Cmp.Lexicographic.{slice_cmp}
pub use Rattle.std.specs.List.{AllByRecursion, list_any}
pub use Rattle.std.specs.Option.{option_map_or, option_or}
pub use Rattle.std.specs.Ordering.{is_lt, nat_cmp}
pub use Rattle.std.specs.Prelude.{Err, IfSome, IsSomeAnd, None, Ok, Option, Some, cond, filter, find, if◌then◌else◌}
pub use Rattle.std.specs.Prelude.{is_none, is_some, map, min, nat_le, nat_lt, not, option_and_then, option_map, slice_set}
pub use Rattle.std.specs.Prelude.{unwrap_or, ◌&&◌, ◌==◌, ◌||◌}
pub use Rattle.std.specs.Str.{bytes_eq}
pub use Rattle.std.specs.declared.cmp.Ordering.{Ordering}
pub use Rattle.std.specs.declared.cmp.Ordering.TheVariants.{Greater, Less}
pub use Rattle.ucm_base.specs.Limits.{block_limit, client_limit, cluster_limit, last_id, line_limit, package_limit}
pub use Rattle.ucm_base.specs.Limits.{transfer_limit}
pub use Rattle.ucm_base.specs.Names.{all_differ, different_names, has_name, name_lt, names_rise}
pub use Rattle.ucm_base.specs.Parts.{Bytes}
pub use Rattle.ucm_base.specs.declared.ids.CallNo.{CallNo}
pub use Rattle.ucm_base.specs.declared.parts.Action.{Action}
pub use Rattle.ucm_base.specs.declared.parts.Action.TheVariants.{Install, Remove}
