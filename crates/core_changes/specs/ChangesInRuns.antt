-- A statement that changes rows, in each run that goes on from its calls: what it has posted stands for what it has done,
-- and how it is answered.
-- Source: AOSI (ICDE 2018), the operations of a transaction. A promise of what was done speaks of every run that begins
-- with it, as with prophecy variables (Abadi and Lamport, 1991).
use Rattle.std.specs.Prelude.{◌≡◌, ◌⊎◌, ℕ, ◌+◌, ◌==◌, true, List, [], ◌∷◌, ◌++◌, Contains, None, if◌then◌else◌}
use Rattle.core_agreements.specs.PostsForOperations.{batches_posted}
use Rattle.core_events.specs.Events.{Opening, ClientCall, CoreEvent}
use Rattle.core_events.specs.Serial.{DropRows}
use Rattle.core_states.specs.CorePasts.{CorePast, last_number}
use Rattle.core_states.specs.RunsFrom.{IsRunFrom}
use Rattle.core_program.specs.CoreFits.{CoreEntry}
use Rattle.core_program.specs.Knowing.{IsLaterRun, IsSessionOf}
use Rattle.core_records.specs.CoreRecords.{RunScripts, record_of}
use Rattle.core_states.specs.StandingInCore.{StandsInCore}
use Rattle.core_states.specs.declared.session.CoreSession.{CoreSession}
use Rattle.cube_core.specs.BoardCells.{IsEntryEvent}
use Rattle.cube_core.specs.Links.{AreEventsOf}
use Rattle.cube_core.specs.declared.cell.CoreCell.{CoreCell}
use Rattle.cube_journal.specs.declared.journal_entry.JournalEntry.{JournalEntry}
use Rattle.cube_journal.specs.declared.reply.Reply.{Reply}
use Rattle.cube_language.specs.declared.statement.Statement.{Statement}
use Rattle.cube_run.specs.Merge.{RoundFollows}
use Rattle.cube_run.specs.RunRecords.{LoadedFile, RunRecord, Says}
use Rattle.cube_run.specs.RunText.{IsReply}
use Rattle.cube_run.specs.SessionSteps.{SessionStep, all_steps}
use Rattle.cube_run.specs.StatementEntries.{is_change}
use Rattle.cube_run.specs.StepOutcomes.{refused_by_watch}
use Rattle.cube_values.specs.declared.row.CodedRow.{CodedRow}
use Rattle.cube_values.specs.declared.span.Span.{Span}
use Rattle.linked_shards.specs.CellShards.{CoreShardStands}
use Rattle.linked_shards.specs.declared.cell.CoreShard.{CoreShard}
use Rattle.core_changes.specs.CallsOfChanges.{LeavesForChange}
use Rattle.core_changes.specs.ChangeEnds.{ChangeEnd, Finished, Failed, RefusedBefore, MayEndSo, change_entries, counted_session, round_due_after, session_after_change}
use Rattle.scripted_pasts.specs.NamesBehind.{AsksMoreOffered}
use Rattle.scripted_pasts.specs.NamesStand.{IsNamedStep}
use Rattle.posted_pasts.specs.DoneChanges.{HasDroppedRegion, HasPutRows}
use Rattle.posted_pasts.specs.PostsAdded.{AddsAtEpoch, AddsNoOperation, AddsOperations, LearnsThat}
use Rattle.scripted_pasts.specs.Performed.{every_of}
use Rattle.scripted_pasts.specs.ScriptClaims.{OpensForScripts}
use Rattle.session_replies.specs.Modes.{mode_of}
use Rattle.session_replies.specs.StepParts.{IsStep}
use Rattle.shard_events.specs.ShardsInRuns.{FitsShard, ShardAnswerSays}

-- What is behind a session with a statement more, its file if it is a LOAD, and what its calls have left.
abbrev pub past_with : CorePast → Statement → LoadedFile → List CoreEntry → List JournalEntry → CorePast
past_with past s file now added = record {
  sentences = past.sentences ++ Says s ∷ [];
  files = λ number. if number == last_number past + 1 then file else past.files number;
  own = now;
  entries = past.entries ++ added;
}

-- The round after a change is such as it has to be by the numbers of the step.
abbrev pub RoundInStep : SessionStep → ℕ → ChangeEnd → Type 0
RoundInStep step every (Finished writer round) =
    RoundFollows step.session step.number (round_due_after every step.state.mode step.state.commits) round
RoundInStep step every end = Unit {0}

-- The entries of the statement, the next of the session.
abbrev pub entries_of_change : CoreSession → ChangeEnd → List JournalEntry
entries_of_change old end = change_entries old.number (old.statements + 1) (mode_of old.mode) end

module _ (s : Statement) (file : LoadedFile) (old : CoreSession) (end : ChangeEnd) where
  -- The step of the statement.
  pub record IsStepOfChange (given : RunScripts) (step : SessionStep) : Type 0 where
    pub parts : IsStep step (mode_of old.mode) (Says s) (change_entries step.session step.number (mode_of old.mode) end)
    pub session_is : step.session ≡ old.number
    pub number_is : step.number ≡ old.statements + 1
    pub file_is : step.file ≡ file
    pub lets : refused_by_watch step.state.watch s ≡ None
    pub round : RoundInStep step given.round_every end

  module _ (cells : List (CoreCell CoreShard)) (caller : ℕ) (own now : List CoreEntry) where
    -- A run that goes on from the calls of the statement, after those that stood behind the session.
    pub record IsRunAfterChange (past : CorePast) (o : Opening) (given : RunScripts) (events : List CoreEvent)
        : Type 0 where
      pub stands_there : StandsInCore FitsShard CoreShardStands ShardAnswerSays cells caller old.number own past
      pub counted : old.statements ≡ last_number past
      pub from : IsRunFrom FitsShard CoreShardStands ShardAnswerSays cells caller old.number
          (past_with past s file now (entries_of_change old end)) o given events
      pub opens : OpensForScripts (every_of old) o given events

    -- In each such run the record and the step of the statement are such.
    abbrev pub InRunsAfterChange : (RunRecord → SessionStep → Type 0) → Type 0
    InRunsAfterChange Is =
        (past : CorePast) (o : Opening) (given : RunScripts) (events : List CoreEvent) (step : SessionStep)
        → IsRunAfterChange past o given events → IsStepOfChange given step → Is (record_of o given events) step

    -- From the calls before the statement to those after it the session's operations are more by such.
    abbrev pub LearnsOfChange : (ℕ → Opening → List ClientCall → List ClientCall → Type 0) → Type 0
    LearnsOfChange Adds = LearnsThat FitsShard CoreShardStands ShardAnswerSays Adds cells caller old.number own now

    -- Batches were posted at an epoch, which stand for the rows that the statement has put;
    pub record PutsRows (epoch : ℕ) : Type 0 where
      pub cube : ℕ
      pub batches : List (List CodedRow)
      pub posted : LearnsOfChange (AddsOperations cube epoch (batches_posted batches))
      pub puts : InRunsAfterChange (λ run step. HasPutRows run step cube epoch batches)

    -- or a box, which takes the rows of the region that it has dropped. Each text with which it compares has its place.
    pub record DropsRegion (epoch : ℕ) : Type 0 where
      pub cube : ℕ
      pub box : Span
      pub posted : LearnsOfChange (AddsOperations cube epoch (DropRows box ∷ []))
      pub drops : InRunsAfterChange (λ run step. HasDroppedRegion run step cube epoch box)
      pub named : InRunsAfterChange (λ run step. IsNamedStep run step)

    -- A statement that is done has posted either. What one posted that failed is all at its epoch, and one that was
    -- refused before posted nothing.
    abbrev pub PostsByEnd : ChangeEnd → Type 0
    PostsByEnd (Finished writer round) = PutsRows writer.epoch ⊎ DropsRegion writer.epoch
    PostsByEnd (Failed writer cause) = LearnsOfChange (AddsAtEpoch writer.epoch)
    PostsByEnd (RefusedBefore code) = LearnsOfChange AddsNoOperation

    -- In each such run, of which its calls are these, it asks for no text but what its step offers.
    abbrev pub AsksForItsTexts : Type 0
    AsksForItsTexts = (past : CorePast) (o : Opening) (given : RunScripts) (log : List CoreEntry)
        (events es : List CoreEvent) (step : SessionStep) → IsRunAfterChange past o given events
        → IsStepOfChange given step → Contains (all_steps (record_of o given events)) step
        → IsLaterRun FitsShard CoreShardStands ShardAnswerSays cells o caller now log events
        → AreEventsOf (IsEntryEvent FitsShard CoreShardStands ShardAnswerSays o) now es
        → AsksMoreOffered FitsShard CoreShardStands ShardAnswerSays (record_of o given events) o old.number own es

    -- A statement that changes rows has ended so.
    pub record HasEndedSo (new : CoreSession) (said : Reply) : Type 0 where
      -- It is one of the run's sessions, which changes rows, and may end it so.
      pub session : IsSessionOf FitsShard CoreShardStands ShardAnswerSays cells old.number
      pub changes : is_change s ≡ true
      pub may : MayEndSo (counted_session old) end
      -- Its calls have left its entries, and the session is what these make of it.
      pub left : LeavesForChange cells caller old.number (old.statements + 1) s own now
          (entries_of_change old end)
      pub becomes : new ≡ session_after_change (counted_session old) end
      -- It asks for its texts alone, what it has posted stands for what it has done, and the record answers it so.
      pub asks : AsksForItsTexts
      pub posts : PostsByEnd end
      pub answers : InRunsAfterChange (λ run step. IsReply run step said)
