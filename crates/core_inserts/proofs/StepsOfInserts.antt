-- An INSERT in the step of a run: what it is answered, and what it has done to rows, by its end.
use Rattle.std.proofs.Common.{◌≡◌, ◌∙◌, ℕ, true, List, [], ◌∷◌, length, map, Some, None, refl, sym, ap, subst}
use Rattle.core_inserts.specs.InsertEnds.{InsertsRows, IsPutFailure, IsRefusalOn, failure_refusal, without_memory, unfit, full}
use Rattle.core_names.specs.NamesInTheEnd.{MayLeaveNames}
use Rattle.core_program.specs.CoreFits.{CoreEntry}
use Rattle.cube_core.specs.declared.cell.CoreCell.{CoreCell}
use Rattle.cube_journal.specs.Refusals.{code}
use Rattle.cube_journal.specs.declared.journal_entry.AbortCause.{AbortCause}
use Rattle.cube_journal.specs.declared.journal_entry.AbortCause.TheVariants as abort
use Rattle.cube_journal.specs.declared.journal_entry.JournalEntry.TheVariants as entry
use Rattle.cube_journal.specs.declared.refusal.Refusal.{Refusal}
use Rattle.cube_journal.specs.declared.refusal.Refusal.TheVariants as refusal
use Rattle.cube_journal.specs.declared.reply.Reply.TheVariants as reply
use Rattle.cube_language.specs.declared.decl.Decl.{Decl}
use Rattle.cube_language.specs.declared.statement.Statement.{Statement}
use Rattle.cube_language.specs.declared.statement.Statement.TheVariants.{Select, Insert, Load, Delete, Begin, Commit, Rollback, Flush, Purge, ShowEpochs, CreateCube, Watch, ShowWatch}
use Rattle.cube_run.specs.LoadedRows.{first_without_place, row_of_values}
use Rattle.cube_run.specs.RunRecords.{RunRecord, Says}
use Rattle.cube_run.specs.RunText.{IsReply}
use Rattle.cube_run.specs.RunTransactions.{rows_of_cube}
use Rattle.cube_run.specs.SessionStates.{Mode}
use Rattle.cube_run.specs.SessionSteps.{SessionStep}
use Rattle.cube_run.specs.StatementEntries.{is_change}
use Rattle.cube_run.specs.StepOutcomes.{refused_by_mode, refused_by_watch}
use Rattle.cube_values.specs.declared.operation.Operation.TheVariants.{Put}
use Rattle.cube_values.specs.declared.snapshot.Snapshot.{Snapshot}
use Rattle.cube_values.specs.declared.value.Value.{Value}
use Rattle.found_cubes.specs.CubesOnRecord.{HasCubeAt}
use Rattle.linked_shards.specs.CellShards.{CoreShardStands}
use Rattle.linked_shards.specs.declared.cell.CoreShard.{CoreShard}
use Rattle.core_changes.proofs.AnsweredSteps.{insert-answered, insert-done, insert-full, no-memory-answered}
use Rattle.core_changes.specs.StepsByWriters.{HasFailedBy, IsDoneBy}
use Rattle.posted_pasts.specs.DoneChanges.{DoesOperation}
use Rattle.session_replies.proofs.Inserting.{without_place}
use Rattle.session_replies.proofs.Reading.{unfit as unfit-answered}
use Rattle.session_replies.proofs.Refusing.{without_memory as no-memory-noted}
use Rattle.session_replies.specs.RowSteps.{FitsItsCube, IsOnCube, final_names}
use Rattle.session_replies.specs.StepParts.{IsStep}
use Rattle.shard_events.specs.ShardsInRuns.{FitsShard, ShardAnswerSays}
use Rattle.statement_check.specs.OwnParts.{inserted_rows}

pub record IsInsert (s : Statement) : Type 0 where
  pub cube : List ℕ
  pub rows : List (List Value)
  pub is : s ≡ Insert cube rows

pub insert-of : (s : Statement) → InsertsRows s → IsInsert s
insert-of (Insert cube rows) form = record { cube = cube; rows = rows; is = refl }
insert-of (Select items cube conds group having order limit) form = absurd form
insert-of (Load cube path reject) form = absurd form
insert-of (Delete cube conds) form = absurd form
insert-of Begin form = absurd form
insert-of Commit form = absurd form
insert-of Rollback form = absurd form
insert-of Flush form = absurd form
insert-of Purge form = absurd form
insert-of ShowEpochs form = absurd form
insert-of (CreateCube decl) form = absurd form
insert-of (Watch items cube conds group) form = absurd form
insert-of ShowWatch form = absurd form

-- An INSERT changes rows.
pub changes-rows : (s : Statement) → IsInsert s → is_change s ≡ true
changes-rows s ins = ap is_change ins.is

module _ (run : RunRecord) (step : SessionStep) (d : Decl) where
  -- It has put its rows at the epoch of its writer,
  pub put-done : (s : Statement) (writer : Snapshot) → IsInsert s → IsDoneBy run step s writer → IsOnCube run step s d
      → DoesOperation run step writer.epoch (Put (rows_of_cube d.name (map (row_of_values d) (inserted_rows s))))
  put-done s writer ins =
      subst (λ (t : Statement). IsDoneBy run step t writer → IsOnCube run step t d
      → DoesOperation run step writer.epoch (Put (rows_of_cube d.name (map (row_of_values d) (inserted_rows t)))))
      (sym ins.is) (insert-done run step ins.cube ins.rows d writer)

  -- and is answered how many they are.
  pub stored-answer : (s : Statement) (writer : Snapshot) → IsInsert s → IsDoneBy run step s writer
      → FitsItsCube run step s d → first_without_place d (final_names run d) (inserted_rows s) ≡ None
      → IsReply run step (reply.Stored (length (inserted_rows s)) writer.epoch)
  stored-answer s writer ins =
      subst (λ (t : Statement). IsDoneBy run step t writer → FitsItsCube run step t d
      → first_without_place d (final_names run d) (inserted_rows t) ≡ None
      → IsReply run step (reply.Stored (length (inserted_rows t)) writer.epoch)) (sym ins.is)
      (insert-answered run step ins.cube ins.rows d writer)

  -- It fails with the refusal of its cause.
  pub failed-answer : (s : Statement) (writer : Snapshot) (cause : AbortCause) → IsInsert s → IsPutFailure cause
      → HasFailedBy step s writer cause → FitsItsCube run step s d
      → first_without_place d (final_names run d) (inserted_rows s) ≡ None
      → IsReply run step (reply.Refused (failure_refusal cause))
  failed-answer s writer abort.NoMemory ins put h fit none = no-memory-answered run step s writer h (changes-rows s ins)
  failed-answer s writer (abort.ShardFull shard rows) ins put h fit none =
      subst (λ (t : Statement). HasFailedBy step t writer (abort.ShardFull shard rows) → FitsItsCube run step t d
      → first_without_place d (final_names run d) (inserted_rows t) ≡ None
      → IsReply run step (reply.Refused (failure_refusal (abort.ShardFull shard rows)))) (sym ins.is)
      (insert-full run step ins.cube ins.rows d writer shard rows) h fit none
  failed-answer s writer abort.Asked ins put h fit none = absurd put
  failed-answer s writer abort.EndOfScript ins put h fit none = absurd put
  failed-answer s writer abort.TooManyRejected ins put h fit none = absurd put
  failed-answer s writer abort.ReadFault ins put h fit none = absurd put

  -- It is refused before it has changed anything.
  pub refused-answer : (cells : List (CoreCell CoreShard)) (caller : ℕ) (now : List CoreEntry) (place : ℕ)
      (s : Statement) (m : Mode) (r : Refusal) → IsInsert s → IsRefusalOn cells caller now place d s r
      → MayLeaveNames FitsShard CoreShardStands ShardAnswerSays cells caller now run.names
      → IsStep step m (Says s) (entry.Refused step.session step.number (code r) ∷ [])
      → refused_by_mode m s ≡ None → refused_by_watch step.state.watch s ≡ None → HasCubeAt run step s place d
      → IsReply run step (reply.Refused r)
  refused-answer cells caller now place s m r ins without_memory ends h may watch cube =
      no-memory-noted run step m (Says s) h
  refused-answer cells caller now place s m r ins (unfit misfit is) ends h may watch cube =
      unfit-answered run step m s d misfit h may watch cube.on is
  refused-answer cells caller now place s m r ins (full text fits lacks) ends h may watch cube =
      subst (λ (t : Statement). IsStep step m (Says t) (entry.Refused step.session step.number 15 ∷ [])
      → refused_by_mode m t ≡ None → FitsItsCube run step t d
      → first_without_place d (final_names run d) (inserted_rows t) ≡ Some text
      → IsReply run step (reply.Refused (refusal.DictionaryFull text))) (sym ins.is)
      (without_place run step m ins.cube ins.rows d text) h may (record { on = cube.on; fits = fits })
      (ap (λ (lists : List (List (List ℕ))). first_without_place d lists (inserted_rows s)) cube.names
      ∙ lacks run.names ends)
