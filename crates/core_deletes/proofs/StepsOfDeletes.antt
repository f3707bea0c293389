-- A DELETE in the step of a run: what it is answered, and what it has done to rows, by its end.
use Rattle.std.proofs.Common.{◌≡◌, ◌∙◌, ◌⊎◌, inl, inr, ℕ, true, List, [], ◌∷◌, None, sym, ap, subst}
use Rattle.core_deletes.specs.DeleteEnds.{IsRefusedOn}
use Rattle.cube_journal.specs.Refusals.{code, of_misfit}
use Rattle.cube_journal.specs.declared.journal_entry.AbortCause.TheVariants as abort
use Rattle.cube_journal.specs.declared.journal_entry.JournalEntry.{JournalEntry}
use Rattle.cube_journal.specs.declared.journal_entry.JournalEntry.TheVariants as entry
use Rattle.cube_journal.specs.declared.refusal.Refusal.{Refusal}
use Rattle.cube_journal.specs.declared.refusal.Refusal.TheVariants as refusal
use Rattle.cube_journal.specs.declared.reply.Reply.{Reply}
use Rattle.cube_journal.specs.declared.reply.Reply.TheVariants as reply
use Rattle.cube_language.specs.Misfits.{HasMisfit}
use Rattle.cube_language.specs.ResolvedNames.{resolved_region}
use Rattle.cube_language.specs.StatementParts.{conds_of}
use Rattle.cube_language.specs.declared.decl.Decl.{Decl}
use Rattle.cube_language.specs.declared.misfit.Misfit.{Misfit}
use Rattle.cube_language.specs.declared.statement.Cond.{Cond}
use Rattle.cube_language.specs.declared.statement.Statement.{Statement}
use Rattle.cube_language.specs.declared.statement.Statement.TheVariants.{Delete}
use Rattle.cube_run.specs.Merge.{RoundFollows}
use Rattle.cube_run.specs.RunRecords.{RunRecord, Says}
use Rattle.cube_run.specs.RunText.{IsReply}
use Rattle.cube_run.specs.SessionStates.{Mode, Idle, Open, Aborted}
use Rattle.cube_run.specs.SessionSteps.{SessionStep}
use Rattle.cube_run.specs.StatementEntries.{is_change}
use Rattle.cube_run.specs.StepOutcomes.{refused_by_mode, refused_by_watch}
use Rattle.cube_values.specs.declared.operation.Operation.TheVariants.{Drop}
use Rattle.cube_values.specs.declared.snapshot.Snapshot.{Snapshot}
use Rattle.core_changes.specs.ChangeEnds.{Finished, Failed, RefusedBefore, IsWriterFor, change_entries, round_due_after}
use Rattle.posted_pasts.specs.DoneChanges.{DoesOperation}
use Rattle.query_plan.proofs.Plans.{IsDelete}
use Rattle.session_replies.proofs.Doing.{delete_done_alone, delete_done_inside}
use Rattle.session_replies.proofs.Inserting.{deleted_alone, deleted_inside}
use Rattle.session_replies.proofs.Reading.{changed_without_memory, changed_without_memory_inside, unfit}
use Rattle.session_replies.proofs.Refusing.{without_memory}
use Rattle.session_replies.specs.RowEntries.{IsRoundAfter, open_abort}
use Rattle.session_replies.specs.RowSteps.{FitsItsCube, IsOnCube}
use Rattle.session_replies.specs.StepParts.{IsStep}

-- A DELETE that changes rows.
pub changes-rows : (s : Statement) → IsDelete s → is_change s ≡ true
changes-rows s del = ap is_change del.is

module _ (run : RunRecord) (step : SessionStep) (d : Decl) where
  -- It is answered the epoch, and has dropped its region there.
  pub record IsDoneAt (s : Statement) (epoch : ℕ) : Type 0 where
    pub answers : IsReply run step (reply.Dropped epoch)
    pub done : DoesOperation run step epoch (Drop (resolved_region d (conds_of s)))

  module _ (every : ℕ) (same : run.round_every ≡ every) (writer : Snapshot) (round : List JournalEntry) where
    abbrev DoneIn : Mode → Statement → Type 0
    DoneIn m s =
        IsWriterFor m writer
        → IsStep step m (Says s) (change_entries step.session step.number m (Finished writer round))
        → RoundFollows step.session step.number (round_due_after every step.state.mode step.state.commits) round
        → FitsItsCube run step s d → IsDoneAt s writer.epoch

    done-in : (cube : List ℕ) (conds : List Cond) (m : Mode) → DoneIn m (Delete cube conds)
    done-in cube conds Idle writes h follows fit =
        let due : IsRoundAfter run step round =
        coe 0 1 (i. RoundFollows step.session step.number
        (round_due_after (sym same i) (h.mode_is i) step.state.commits) round) follows
        in
        record {
          answers = deleted_alone run step cube conds d writer.epoch writer.deps round h due fit;
          done = delete_done_alone run step cube conds d writer.epoch writer.deps round h fit.on;
        }
    done-in cube conds (Open held) writes h follows fit =
        let none : round ≡ [] =
        coe 0 1 (i. RoundFollows step.session step.number
        (round_due_after every (h.mode_is i) step.state.commits) round) follows
        in
        let inside : IsStep step (Open held) (Says (Delete cube conds)) [] =
        record { mode_is = h.mode_is; sentence_is = h.sentence_is; entries_are = h.entries_are ∙ none }
        in
        subst (λ (w : Snapshot). IsDoneAt (Delete cube conds) w.epoch) (sym writes) (record {
          answers = deleted_inside run step cube conds d held inside fit;
          done = delete_done_inside run step cube conds d held inside fit.on;
        })
    done-in cube conds (Aborted epoch) writes h follows fit = absurd writes

    pub delete-done : (s : Statement) (m : Mode) → IsDelete s → DoneIn m s
    delete-done s m del = subst (λ (t : Statement). DoneIn m t) (sym del.is) (done-in del.cube del.conds m)

  pub delete-failed : (s : Statement) (m : Mode) (writer : Snapshot) → is_change s ≡ true → IsWriterFor m writer
      → IsStep step m (Says s) (change_entries step.session step.number m (Failed writer abort.NoMemory))
      → IsReply run step (reply.Refused refusal.NoMemory)
  delete-failed s Idle writer change writes h =
      changed_without_memory run step s writer.epoch writer.deps h change
  delete-failed s (Open held) writer change writes h =
      changed_without_memory_inside run step s held
      (coe 0 1 (i. IsStep step (Open held) (Says s) (open_abort step (writes i).epoch abort.NoMemory)) h) change
  delete-failed s (Aborted epoch) writer change writes h = absurd writes

  pub delete-refused : (s : Statement) (m : Mode) (n : ℕ) (said : Reply) → IsRefusedOn d s n said
      → IsStep step m (Says s) (change_entries step.session step.number m (RefusedBefore n))
      → refused_by_mode m s ≡ None → refused_by_watch step.state.watch s ≡ None → IsOnCube run step s d
      → IsReply run step said
  delete-refused s m n said r h may watch on =
      subst (λ (x : Reply). IsReply run step x) (sym r.is)
      (at r.right
      (subst (λ (k : ℕ). IsStep step m (Says s) (entry.Refused step.session step.number k ∷ [])) r.number h))
    where
      at : (r.why ≡ refusal.NoMemory) ⊎ ((misfit : Misfit) × HasMisfit d s misfit × (r.why ≡ of_misfit misfit))
          → IsStep step m (Says s) (entry.Refused step.session step.number (code r.why) ∷ [])
          → IsReply run step (reply.Refused r.why)
      at (inl is) here =
          subst (λ (x : Refusal). IsReply run step (reply.Refused x)) (sym is)
          (without_memory run step m (Says s)
          (subst (λ (x : Refusal). IsStep step m (Says s) (entry.Refused step.session step.number (code x) ∷ [])) is here))
      at (inr m_h) here =
          subst (λ (x : Refusal). IsReply run step (reply.Refused x)) (sym m_h.2)
          (unfit run step m s d m_h.0
          (subst (λ (x : Refusal). IsStep step m (Says s) (entry.Refused step.session step.number (code x) ∷ [])) m_h.2
          here)
          may watch on m_h.1)
