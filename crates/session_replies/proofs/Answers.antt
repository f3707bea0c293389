-- The replies to statements that are done.
use Rattle.std.proofs.Common.{◌≡◌, ℕ, zero, suc, List, [], ◌∷◌, None, refl}
use Rattle.std.specs.Option.{option_map}
use Rattle.cube_language.specs.Cubes.{schema_fault, first_some}
use Rattle.cube_language.specs.declared.decl.Decl.{Decl}
use Rattle.cube_language.specs.declared.statement.Statement.TheVariants.{Begin, Commit, Rollback, Flush, Purge, ShowEpochs, CreateCube}
use Rattle.cube_journal.specs.Counters.{counters}
use Rattle.cube_journal.specs.declared.journal_entry.AbortCause.TheVariants as abort
use Rattle.cube_journal.specs.declared.journal_entry.JournalEntry.{JournalEntry}
use Rattle.cube_journal.specs.declared.journal_entry.JournalEntry.TheVariants as entry
use Rattle.cube_journal.specs.declared.refusal.Refusal.TheVariants as refusal
use Rattle.cube_journal.specs.declared.reply.Reply.TheVariants as reply
use Rattle.cube_values.specs.declared.snapshot.Snapshot.{Snapshot}
use Rattle.cube_run.specs.Merge.{RoundFollows, round_is_due}
use Rattle.cube_run.specs.RunRecords.{RunRecord, Says}
use Rattle.cube_run.specs.RunText.{IsReply, state_before}
use Rattle.cube_run.specs.SessionStates.{Mode, Idle, Open, Aborted}
use Rattle.cube_run.specs.SessionSteps.{SessionStep, journal_before}
use Rattle.cube_run.specs.StatementEntries.{Done, begin_done, commit_done, rollback_of_open, rollback_of_aborted, flush_done, purge_done, show_done, create_done}
use Rattle.cube_run.specs.StepOutcomes.{refused_by_mode}
use Rattle.cube_run.proofs.Passing.{passed}
use Rattle.session_replies.specs.Modes.{round_follows}
use Rattle.session_replies.specs.StepParts.{IsStep}
use Rattle.session_replies.proofs.Ends.{bound_none, by_parts, no_entries, no_watch, with_parts}

pub begun : (run : RunRecord) (step : SessionStep) (epoch : ℕ) (deps : List ℕ)
    → IsStep step Idle (Says Begin) (entry.Begin step.session step.number epoch deps ∷ [])
    → IsReply run step (reply.Begun epoch)
begun run step epoch deps h =
    let entries : List JournalEntry = entry.Begin step.session step.number epoch deps ∷ [] in
    let p = with_parts step Idle (Says Begin) entries in
    by_parts run step Idle (Says Begin) entries (reply.Begun epoch) h (record {
      outcome = Done;
      ends = record {
        ends =
            passed run p refl
            (bound_none p Begin refl (no_watch step.state.watch Begin refl (λ kept. refl)) refl refl) refl;
        leaves = begin_done epoch deps;
        round = no_entries run p refl;
        cube = λ looked. tt;
      };
      is = refl;
    })

-- A round follows a commit as its session's commits say.
due_at : (n i j : ℕ) (step : SessionStep) (writer : Snapshot) (round : List JournalEntry)
    → RoundFollows i j (round_follows n step.state.commits) round
    → RoundFollows i j
    (round_is_due n (with_parts step (Open writer) (Says Commit)
    (entry.Committed step.session step.number writer.epoch ∷ round))) round
due_at zero i j step writer round h = h
due_at (suc n) i j step writer round h = h

pub committed : (run : RunRecord) (step : SessionStep) (writer : Snapshot) (round : List JournalEntry)
    → IsStep step (Open writer) (Says Commit) (entry.Committed step.session step.number writer.epoch ∷ round)
    → RoundFollows step.session step.number (round_follows run.round_every step.state.commits) round
    → IsReply run step (reply.Committed writer.epoch)
committed run step writer round h due =
    let entries : List JournalEntry = entry.Committed step.session step.number writer.epoch ∷ round in
    let p = with_parts step (Open writer) (Says Commit) entries in
    by_parts run step (Open writer) (Says Commit) entries (reply.Committed writer.epoch) h (record {
      outcome = Done;
      ends = record {
        ends =
            passed run p refl
            (bound_none p Commit refl (no_watch step.state.watch Commit refl (λ kept. refl)) refl refl) refl;
        leaves = commit_done;
        round = due_at run.round_every step.session step.number step writer round due;
        cube = λ looked. tt;
      };
      is = refl;
    })

pub rolled_back : (run : RunRecord) (step : SessionStep) (writer : Snapshot)
    → IsStep step (Open writer) (Says Rollback)
    (entry.Aborted step.session step.number writer.epoch abort.Asked ∷ [])
    → IsReply run step (reply.RolledBack writer.epoch)
rolled_back run step writer h =
    let entries : List JournalEntry = entry.Aborted step.session step.number writer.epoch abort.Asked ∷ [] in
    let p = with_parts step (Open writer) (Says Rollback) entries in
    by_parts run step (Open writer) (Says Rollback) entries (reply.RolledBack writer.epoch) h (record {
      outcome = Done;
      ends = record {
        ends =
            passed run p refl
            (bound_none p Rollback refl (no_watch step.state.watch Rollback refl (λ kept. refl)) refl refl) refl;
        leaves = rollback_of_open;
        round = no_entries run p refl;
        cube = λ looked. tt;
      };
      is = refl;
    })

pub cleared : (run : RunRecord) (step : SessionStep) (epoch : ℕ)
    → IsStep step (Aborted epoch) (Says Rollback) (entry.Cleared step.session step.number ∷ [])
    → IsReply run step (reply.RolledBack epoch)
cleared run step epoch h =
    let entries : List JournalEntry = entry.Cleared step.session step.number ∷ [] in
    let p = with_parts step (Aborted epoch) (Says Rollback) entries in
    by_parts run step (Aborted epoch) (Says Rollback) entries (reply.RolledBack epoch) h (record {
      outcome = Done;
      ends = record {
        ends =
            passed run p refl
            (bound_none p Rollback refl (no_watch step.state.watch Rollback refl (λ kept. refl)) refl refl) refl;
        leaves = rollback_of_aborted;
        round = no_entries run p refl;
        cube = λ looked. tt;
      };
      is = refl;
    })

flush_may : (mode : Mode) → refused_by_mode mode Flush ≡ None
flush_may Idle = refl
flush_may (Open writer) = refl
flush_may (Aborted epoch) = refl

purge_may : (mode : Mode) → refused_by_mode mode Purge ≡ None
purge_may Idle = refl
purge_may (Open writer) = refl
purge_may (Aborted epoch) = refl

show_may : (mode : Mode) → refused_by_mode mode ShowEpochs ≡ None
show_may Idle = refl
show_may (Open writer) = refl
show_may (Aborted epoch) = refl

pub flushed : (run : RunRecord) (step : SessionStep) (mode : Mode)
    → IsStep step mode (Says Flush) (entry.Flushed step.session step.number ∷ [])
    → IsReply run step (reply.Flushed (state_before run step).lse)
flushed run step mode h =
    let entries : List JournalEntry = entry.Flushed step.session step.number ∷ [] in
    let p = with_parts step mode (Says Flush) entries in
    by_parts run step mode (Says Flush) entries (reply.Flushed (state_before run step).lse) h (record {
      outcome = Done;
      ends = record {
        ends =
            passed run p refl
            (bound_none p Flush (flush_may mode) (no_watch step.state.watch Flush refl (λ kept. refl)) refl refl) refl;
        leaves = flush_done;
        round = no_entries run p refl;
        cube = λ looked. tt;
      };
      is = refl;
    })

pub purged : (run : RunRecord) (step : SessionStep) (mode : Mode) (epoch : ℕ)
    → IsStep step mode (Says Purge) (entry.Purged step.session step.number epoch ∷ [])
    → IsReply run step (reply.Purged epoch)
purged run step mode epoch h =
    let entries : List JournalEntry = entry.Purged step.session step.number epoch ∷ [] in
    let p = with_parts step mode (Says Purge) entries in
    by_parts run step mode (Says Purge) entries (reply.Purged epoch) h (record {
      outcome = Done;
      ends = record {
        ends =
            passed run p refl
            (bound_none p Purge (purge_may mode) (no_watch step.state.watch Purge refl (λ kept. refl)) refl refl) refl;
        leaves = purge_done epoch;
        round = no_entries run p refl;
        cube = λ looked. tt;
      };
      is = refl;
    })

pub shown : (run : RunRecord) (step : SessionStep) (mode : Mode)
    → IsStep step mode (Says ShowEpochs) (entry.Show step.session step.number ∷ [])
    → IsReply run step (reply.Epochs (counters run.safe (journal_before step.session step.number run.journal)))
shown run step mode h =
    let entries : List JournalEntry = entry.Show step.session step.number ∷ [] in
    let p = with_parts step mode (Says ShowEpochs) entries in
    by_parts run step mode (Says ShowEpochs) entries
    (reply.Epochs (counters run.safe (journal_before step.session step.number run.journal))) h (record {
      outcome = Done;
      ends = record {
        ends =
            passed run p refl
            (bound_none p ShowEpochs (show_may mode) (no_watch step.state.watch ShowEpochs refl (λ kept. refl)) refl
            refl) refl;
        leaves = show_done;
        round = no_entries run p refl;
        cube = λ looked. tt;
      };
      is = refl;
    })

pub created : (run : RunRecord) (step : SessionStep) (d : Decl) (epoch : ℕ)
    → IsStep step Idle (Says (CreateCube d)) (entry.Cube step.session step.number epoch ∷ [])
    → schema_fault d ≡ None → IsReply run step (reply.Created epoch)
created run step d epoch h sound =
    let entries : List JournalEntry = entry.Cube step.session step.number epoch ∷ [] in
    let p = with_parts step Idle (Says (CreateCube d)) entries in
    by_parts run step Idle (Says (CreateCube d)) entries (reply.Created epoch) h (record {
      outcome = Done;
      ends = record {
        ends =
            passed run p refl
            (bound_none p (CreateCube d) refl (no_watch step.state.watch (CreateCube d) refl (λ kept. refl)) refl
            (λ i. first_some (option_map refusal.BadCube (sound i) ∷ None ∷ None ∷ []))) refl;
        leaves = create_done epoch;
        round = no_entries run p refl;
        cube = λ looked. tt;
      };
      is = refl;
    })
