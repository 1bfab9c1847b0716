-- The words of the definitions, of the library and of the crates below that these proofs use.
pub use Rattle.dependency_check.proofs.Mapped.{list_any-map}
pub use Rattle.dependency_check.specs.Clusters.{needing}
pub use Rattle.history_query.proofs.Answered.{changes-answered, clusters-answered, packages-answered}
pub use Rattle.history_query.proofs.Answered.{progress-answered}
pub use Rattle.history_query.proofs.Valid.{each-unfinished}
pub use Rattle.history_query.specs.Shown.{EachIsUnfinished, changes_planned, progress_answer, progress_at}
pub use Rattle.history_query.specs.Shown.{shown_change, shown_cluster, shown_transfer}
pub use Rattle.node_core.specs.Core.{Holding, IsBehind, IsExecuted, IsReady, IsReserved, IsSound, Owning, Readied}
pub use Rattle.node_core.specs.Core.{SomeAccepted, StandsFor, holding, kept_by, mark_of, node_of, over, refusal_by}
pub use Rattle.node_core.specs.Core.{reply_by, step_by, table_of, under, verdict_on, with_table}
pub use Rattle.node_core.specs.Format.{AreInstalled, in_order, named_before, placed, placed_from}
pub use Rattle.node_core.specs.Packages.{package_reading, verdict_of}
pub use Rattle.node_core.specs.Places.{AreCopied, IsCopied, IsCopiedIn, extent_of, extents_in, extents_of, goes_to}
pub use Rattle.node_core.specs.Places.{running_at, taken_in, units_done}
pub use Rattle.node_core.specs.Prepared.{IsVerdict, IsVerdictKept, unmet_kept, verdict_in, verdict_kept, with_length}
pub use Rattle.node_core.specs.Sessions.{added, contents_of, count_of, missing_dependencies, needing_of}
pub use Rattle.node_core.specs.Sessions.{package_refusals}
pub use Rattle.node_core.specs.Units.{IsNextUnit, IsPackageReady, IsReservedWork, IsUnitOf, IsUnitReady, IsWorked}
pub use Rattle.node_core.specs.Units.{LieWithin, after_work, answer_to, changes_due, changes_to, piece_of, plan_kept}
pub use Rattle.node_core.specs.Units.{planned_of, process_stored, side_of, state_worked, unit_stored}
pub use Rattle.node_core.specs.declared.copying.NextUnit.{NextUnit}
pub use Rattle.node_core.specs.declared.copying.Piece.{Piece}
pub use Rattle.node_core.specs.declared.prepared.Prepared.{Prepared}
pub use Rattle.node_laws.proofs.Kept.{keeps-fit}
pub use Rattle.node_laws.proofs.Lists.{both-none, each-append, each-both, each-filter, each-first, each-imp, each-map}
pub use Rattle.node_laws.proofs.Lists.{each-unmap, found-has, is-processing, is-transferred, is-transferring}
pub use Rattle.node_laws.proofs.Lists.{length-filter, neither, not-false, not-true, rise-above, rise-tail, rows-clear}
pub use Rattle.node_laws.proofs.NameLists.{Within, eq-name, fewer-within, has-append, has-within, lt-trans, name-eq}
pub use Rattle.node_laws.proofs.NameLists.{name-swap, names-behind, names-tail, names_of, planned-rise, within-left}
pub use Rattle.node_laws.proofs.NameLists.{within-right, within-self, within-trans}
pub use Rattle.node_laws.proofs.Sessions.{free-of}
pub use Rattle.node_laws.specs.Fit.{IsFit, IsRead, IsReading}
pub use Rattle.package_reader.specs.Fields.{number_at}
pub use Rattle.package_reader.specs.Layout.{parts_place}
pub use Rattle.package_reader.specs.Lies.{PartsLie, payload_at}
pub use Rattle.package_reader.specs.declared.fault.PackageError.{PackageError}
pub use Rattle.pm_types.specs.Clusters.{all_units, brought, changed_as, changed_by, cluster_at, cluster_of}
pub use Rattle.pm_types.specs.Clusters.{has_cluster, planned, stored_units, units_of, unmet_among, with_cluster}
pub use Rattle.pm_types.specs.Histories.{Reading, formatted, unit_passes, worked}
pub use Rattle.pm_types.specs.NodeState.{NodeState, Session, SessionOf, Transfer, has_status, is_in, of_client}
pub use Rattle.pm_types.specs.NodeState.{phase_code, some_passes}
pub use Rattle.pm_types.specs.Queries.{answer}
pub use Rattle.pm_types.specs.Refusals.{first_refusal}
pub use Rattle.pm_types.specs.Sessions.{CleanUp, Goal, Resume, To, activate_refusal, applies, arrive}
pub use Rattle.pm_types.specs.Sessions.{begin_processing, cancel_refusals, changes_in, clean_up, is_install}
pub use Rattle.pm_types.specs.Sessions.{is_update, is_wrong_tag, led_by, new_session, part_refusals, parts_refusal}
pub use Rattle.pm_types.specs.Sessions.{put_back, session_refusals, status_table, stop_processing, suits, take_up}
pub use Rattle.pm_types.specs.Steps.{accept, acceptance, accepted, after_call, after_reply, answer_with, execute}
pub use Rattle.pm_types.specs.Steps.{refused_or, repeat_of, reply_to, step, synced, with_entry, with_kept}
pub use Rattle.pm_types.specs.Stored.{Areas, IsExtent, IsInOrder, IsPlaced, State, change_meaning, change_place}
pub use Rattle.pm_types.specs.Stored.{cluster_meaning, cluster_place, fresh_state, meaning, names_fit_places, on_side}
pub use Rattle.pm_types.specs.Stored.{places_in, session_meaning, slots_differ, takes_side, transfer_meaning}
pub use Rattle.pm_types.specs.Transfers.{Keeping, Verdict, close, data_refusals, delete, delete_refusals, deleted}
pub use Rattle.pm_types.specs.Transfers.{exit_refusals, exited, grown, header_of, ids_of, in_phase, is_of, parts_of}
pub use Rattle.pm_types.specs.Transfers.{parts_read, start, start_refusals, started, take_block, transfer_of}
pub use Rattle.pm_types.specs.Transfers.{verdict_refusal, with_block, with_bytes, with_phase, with_transfer}
pub use Rattle.pm_types.specs.Validity.{IsWholeFromTransferred, RunsWhatItShould, id_in_processing, numbers_rise}
pub use Rattle.pm_types.specs.Validity.{parts_in, should_run}
pub use Rattle.pm_types.specs.Work.{activate_unit, end_session, process, processed, roll_back_unit, unit}
pub use Rattle.pm_types.specs.declared.calls.Call.{Call}
pub use Rattle.pm_types.specs.declared.calls.Call.TheVariants.{Activate, Cancel, DeleteTransfer, Finish}
pub use Rattle.pm_types.specs.declared.calls.Call.TheVariants.{ProcessSwPackage, RevertProcessedSwPackages, Rollback}
pub use Rattle.pm_types.specs.declared.calls.Call.TheVariants.{Sync, TransferData, TransferExit, TransferStart}
pub use Rattle.pm_types.specs.declared.clusters.Change.{Change}
pub use Rattle.pm_types.specs.declared.clusters.Cluster.{Cluster}
pub use Rattle.pm_types.specs.declared.clusters.Extent.{Extent}
pub use Rattle.pm_types.specs.declared.history.Happened.{Happened}
pub use Rattle.pm_types.specs.declared.history.Happened.TheVariants.{Unit as UnitAfter}
pub use Rattle.pm_types.specs.declared.queries.Answer.{Answer}
pub use Rattle.pm_types.specs.declared.queries.ChangeInfo.{ChangeInfo}
pub use Rattle.pm_types.specs.declared.queries.ClusterInfo.{ClusterInfo}
pub use Rattle.pm_types.specs.declared.queries.PackageInfo.{PackageInfo}
pub use Rattle.pm_types.specs.declared.queries.Query.{Query}
pub use Rattle.pm_types.specs.declared.queries.Query.TheVariants.{GetSwClusterChangeInfo, GetSwClusterInfo}
pub use Rattle.pm_types.specs.declared.queries.Query.TheVariants.{GetSwPackages, GetSwProcessProgress}
pub use Rattle.pm_types.specs.declared.replies.Reached.{Reached}
pub use Rattle.pm_types.specs.declared.replies.Reached.TheVariants.{Done as Answered}
pub use Rattle.pm_types.specs.declared.replies.Refusal.{Refusal}
pub use Rattle.pm_types.specs.declared.replies.Refusal.TheVariants.{ActionNotApplicable, ClusterAlreadyChanged}
pub use Rattle.pm_types.specs.declared.replies.Refusal.TheVariants.{InvalidTransferId, OldVersion}
pub use Rattle.pm_types.specs.declared.replies.Refusal.TheVariants.{OperationNotPermitted, ServiceBusy}
pub use Rattle.pm_types.specs.declared.replies.Refusal.TheVariants.{TooManyClusters}
pub use Rattle.pm_types.specs.declared.replies.Reply.{Reply}
pub use Rattle.pm_types.specs.declared.replies.Reply.TheVariants.{Done, Refused, Started, Synced as SyncedTo}
pub use Rattle.pm_types.specs.declared.replies.Worked.{Worked}
pub use Rattle.pm_types.specs.declared.state.Kept.{Kept}
pub use Rattle.pm_types.specs.declared.state.StoredTransfer.{StoredTransfer}
pub use Rattle.pm_types.specs.declared.state.Transfers.{Transfers as Table}
pub use Rattle.pm_types.specs.declared.status.Outcome.{Outcome}
pub use Rattle.pm_types.specs.declared.status.Outcome.TheVariants.{Old}
pub use Rattle.pm_types.specs.declared.status.Phase.{Phase}
pub use Rattle.pm_types.specs.declared.status.Phase.TheVariants.{Processed, Processing as BeingProcessed, Transferred}
pub use Rattle.pm_types.specs.declared.status.Phase.TheVariants.{Transferring}
pub use Rattle.pm_types.specs.declared.status.Status.{Status}
pub use Rattle.pm_types.specs.declared.status.Status.TheVariants.{Activated, Activating, CleaningUp, Idle, Processing}
pub use Rattle.pm_types.specs.declared.status.Status.TheVariants.{Ready, RolledBack, RollingBack, Verifying}
pub use Rattle.pm_types.specs.declared.transfers.ExitVerdict.{ExitVerdict}
pub use Rattle.pm_types.specs.declared.transfers.ExitVerdict.TheVariants.{Bad, Good}
pub use Rattle.std.proofs.Common.{Bool, Err, IfOk, IfSome, IsSomeAnd, IsTrue, List, None, Ok, Option, Result, Some}
pub use Rattle.std.proofs.Common.{ap, append-nil, append_assoc, ap₂, arith, cond, drop, drop-drop, false, filter}
pub use Rattle.std.proofs.Common.{find, fold, get_or, if◌then◌else◌, is_none, is_some, length, length-append}
pub use Rattle.std.proofs.Common.{length-drop, length-take, map, min, nat_le, nat_lt, not, option_map, refl}
pub use Rattle.std.proofs.Common.{slice_index_or, slice_range, subst, sym, take, take-take, take_all, true, unwrap_or}
pub use Rattle.std.proofs.Common.{zero-add, ℕ, ⊎_elim, [], ◌&&◌, ◌*◌, ◌++◌, ◌+◌, ◌-◌, ◌<◌, ◌==◌, ◌^◌, ◌||◌, ◌∙◌, ◌∷◌}
pub use Rattle.std.proofs.Common.{◌≡◌, ◌≢◌, ◌≤◌, ◌⊎◌}
pub use Rattle.std.proofs.Math.Seq.{take-add}
pub use Rattle.std.proofs.lemmas.Bool.{and_parts, eq-eqb, eqb-false, le-ltb, ltb-false, ltb-true}
pub use Rattle.std.proofs.lemmas.Bool.Decides.{nat_tests}
pub use Rattle.std.proofs.lemmas.Cmp.{nat_list_cmp_total}
pub use Rattle.std.proofs.lemmas.List.{drop-take, length-map, map-append, take_rest}
pub use Rattle.std.proofs.lemmas.List.Edits.{length-insert}
pub use Rattle.std.proofs.lemmas.List.Sums.{fold-append, sum_by-cons}
pub use Rattle.std.proofs.lemmas.Simd.{map-map}
pub use Rattle.std.specs.Bool.{beq}
pub use Rattle.std.specs.Cmp.{booleans_Decides}
pub use Rattle.std.specs.Cmp.Derive.{both_true}
pub use Rattle.std.specs.Cmp.Lexicographic.{texts_ties}
pub use Rattle.std.specs.Int.{from_be_bytes, w32}
pub use Rattle.std.specs.List.{AllByRecursion, insert, list_all, list_any, range_with_len}
pub use Rattle.std.specs.Option.{option_map_or, option_or}
pub use Rattle.std.specs.Prelude.{option_and_then}
pub use Rattle.std.specs.Str.{bytes_eq}
pub use Rattle.std.specs.Vec.Iter.{into_iter_items, into_iter_len}
pub use Rattle.transfer_blocks.proofs.Areas.{content-elsewhere, content-here, elsewhere-stands, put-leaves}
pub use Rattle.transfer_blocks.proofs.Bytes.{before-stands, front_slice, slice-overwritten, take-overwritten}
pub use Rattle.transfer_blocks.proofs.Lists.{none-passes}
pub use Rattle.transfer_blocks.proofs.Meanings.{filter-means, header-means, ids-mean, transfer-stands}
pub use Rattle.transfer_blocks.proofs.Slots.{scan-here, scan-next}
pub use Rattle.transfer_blocks.proofs.Tables.{table-filter, table-fresh}
pub use Rattle.transfer_blocks.specs.Areas.{AreasFit, IsArea, LeavesOutside, content_of, overwritten, with_content}
pub use Rattle.transfer_blocks.specs.Table.{IsBounded, IsTable, bad_refusal, found_of, good_parts, is_free}
pub use Rattle.transfer_blocks.specs.Table.{lowest_free, moved, received, slots_of, stored_header, stored_ids}
pub use Rattle.transfer_blocks.specs.Table.{stored_of, unless_refused, whole, with_fresh, with_slots, with_stored}
pub use Rattle.transfer_blocks.specs.Table.{without}
pub use Rattle.transfer_blocks.specs.declared.area.Area.{Area}
pub use Rattle.transfer_blocks.specs.declared.area.Area.TheVariants.{Side}
pub use Rattle.transfer_blocks.specs.declared.found.Found.{Found}
pub use Rattle.ucm_base.specs.Limits.{block_limit, client_limit, cluster_limit, last_id, package_limit, part_limit}
pub use Rattle.ucm_base.specs.Limits.{transfer_limit}
pub use Rattle.ucm_base.specs.Names.{all_differ, different_names, has_name, name_lt, names_rise}
pub use Rattle.ucm_base.specs.Needs.{missing}
pub use Rattle.ucm_base.specs.Parts.{Bytes}
pub use Rattle.ucm_base.specs.Versions.{is_newer}
pub use Rattle.ucm_base.specs.declared.ids.CallNo.{CallNo}
pub use Rattle.ucm_base.specs.declared.parts.Action.{Action}
pub use Rattle.ucm_base.specs.declared.parts.Action.TheVariants.{Install, Remove, Update}
pub use Rattle.ucm_base.specs.declared.parts.Part.{Part}
