-- An INSERT that has ended is performed.
use Rattle.std.proofs.Common.{◌≡◌, ◌∙◌, ℕ, ◌+◌, inl, List, [], ◌∷◌, length, map, None, refl, sym, ap, subst, arith}
use Rattle.std.proofs.lemmas.Bool.{both_ways}
use mathlib.Core.List.{IsPrefix}
use Rattle.core_changes.proofs.CubesOfChanges.{IsOnRecord, fits-in as cube-fits, meets as cube-met}
use Rattle.core_changes.proofs.OfferedTexts.{IsOtherReply, asks-for-offered, offered-there}
use Rattle.core_inserts.specs.InsertEnds.{AnswersInsert, CanBeStored, HasInserted, HasPutBatches, InsertsRows, IsInsertText, IsPutFailure, PutsByEnd, failure_refusal}
use Rattle.core_inserts.proofs.EndedInserts.{is-plain}
use Rattle.core_inserts.proofs.StepsOfInserts.{IsInsert, changes-rows, failed-answer, insert-of, put-done, refused-answer, stored-answer}
use Rattle.core_agreements.specs.PostsForOperations.{batches_posted}
use Rattle.core_events.specs.Events.{Opening, CoreEvent}
use Rattle.core_names.specs.NamesInTheEnd.{MayLeaveNames}
use Rattle.core_states.specs.CorePasts.{CorePast}
use Rattle.core_program.specs.CoreFits.{CoreEntry}
use Rattle.core_program.specs.Knowing.{IsSessionOf}
use Rattle.core_records.specs.CoreRecords.{RunScripts, names_left, record_of}
use Rattle.core_states.specs.declared.session.CoreSession.{CoreSession}
use Rattle.cube_core.specs.declared.cell.CoreCell.{CoreCell}
use Rattle.aosi_desk.specs.Desks.{is_cube_code}
use Rattle.cube_journal.specs.Refusals.{code}
use Rattle.cube_journal.specs.declared.journal_entry.AbortCause.{AbortCause}
use Rattle.cube_journal.specs.declared.journal_entry.AbortCause.TheVariants as abort
use Rattle.cube_journal.specs.declared.journal_entry.JournalEntry.{JournalEntry}
use Rattle.cube_journal.specs.declared.journal_entry.JournalEntry.TheVariants as entry
use Rattle.cube_journal.specs.declared.refusal.Refusal.{Refusal}
use Rattle.cube_journal.specs.declared.reply.Reply.{Reply}
use Rattle.cube_journal.specs.declared.reply.Reply.TheVariants as reply
use Rattle.cube_language.specs.Misfits.{FitsCube}
use Rattle.cube_language.specs.declared.decl.Decl.{Decl}
use Rattle.cube_language.specs.declared.statement.Statement.{Statement}
use Rattle.cube_language.specs.declared.statement.Statement.TheVariants.{Insert}
use Rattle.cube_run.specs.LoadedRows.{first_without_place, row_of_values}
use Rattle.cube_run.specs.RunRecords.{Missing, RunRecord, Says}
use Rattle.cube_run.specs.RunText.{IsReply}
use Rattle.cube_run.specs.SessionSteps.{SessionStep}
use Rattle.cube_run.specs.StepOutcomes.{refused_by_mode}
use Rattle.cube_values.specs.declared.snapshot.Snapshot.{Snapshot}
use Rattle.found_cubes.specs.CubesOnRecord.{HasCubeAt}
use Rattle.linked_shards.specs.CellShards.{CoreShardStands}
use Rattle.linked_shards.specs.declared.cell.CoreShard.{CoreShard}
use Rattle.core_changes.proofs.AnsweredSteps.{done-by, failed-by}
use Rattle.core_changes.proofs.ChangeCalls.{by-more-calls, by-plain-calls}
use Rattle.core_changes.proofs.OperationsAdded.{epoch-then-epoch, none-at-epoch, none-then-none, none-then-some, plain-none}
use Rattle.core_changes.specs.ChangeEnds.{ChangeEnd, Finished, Failed, RefusedBefore, IsWriterFor, MayEndSo, counted_session}
use Rattle.core_changes.specs.ChangesInRuns.{AsksForItsTexts, HasEndedSo, InRunsAfterChange, IsRunAfterChange, IsStepOfChange, PostsByEnd, entries_of_change}
use Rattle.scripted_pasts.specs.StepTexts.{HasTextFor}
use Rattle.posted_pasts.specs.DoneChanges.{HasPutRows}
use Rattle.row_encoding.specs.CodedInserts.{HaveTextIn}
use Rattle.session_replies.specs.Modes.{mode_of}
use Rattle.session_replies.specs.RowSteps.{FitsItsCube, final_names}
use Rattle.session_replies.specs.StepParts.{IsStep}
use Rattle.shard_events.specs.ShardsInRuns.{FitsShard, ShardAnswerSays}
use Rattle.shard_statements.specs.OverShards.{LeavesOverShards}
use Rattle.statement_check.specs.OwnParts.{inserted_rows}

same-refusal : (a b : Refusal) → reply.Refused a ≡ reply.Refused b → a ≡ b
same-refusal a b same = cc

stored-refused : (count epoch : ℕ) (r : Refusal) → reply.Stored count epoch ≡ reply.Refused r → ⊥
stored-refused count epoch r same = cc

failure-other : (cause : AbortCause) → IsPutFailure cause → code (failure_refusal cause) ≡ 2 → ⊥
failure-other abort.NoMemory put two = omega (arith, two)
failure-other (abort.ShardFull shard rows) put two = omega (arith, two)
failure-other abort.Asked put two = absurd put
failure-other abort.EndOfScript put two = absurd put
failure-other abort.TooManyRejected put two = absurd put
failure-other abort.ReadFault put two = absurd put

-- A text of one of its rows.
text-of : (run : RunRecord) (step : SessionStep) (d : Decl) (dim : ℕ) (text : List ℕ) (s : Statement) → InsertsRows s
    → HaveTextIn (inserted_rows s) dim text → HasTextFor run step d dim text s
text-of run step d dim text (Insert cube rows) inserts has = has
text-of run step d dim text s inserts has = absurd inserts

module _ (cells : List (CoreCell CoreShard)) (caller : ℕ) (old : CoreSession) (s : Statement)
    (mid now : List CoreEntry) (place : ℕ) (d : Decl) where
  abbrev IsFound : List CoreEntry → Type 0
  IsFound own = IsOnRecord cells caller old s now place d own

  module _ (own : List CoreEntry) (on : IsFound own) (inserts : InsertsRows s) where
    abbrev Run : ChangeEnd → CorePast → Opening → RunScripts → List CoreEvent → Type 0
    Run end past o given events = IsRunAfterChange s Missing old end cells caller own now past o given events

    meets : (end : ChangeEnd) (past : CorePast) (o : Opening) (given : RunScripts) (events : List CoreEvent)
        (step : SessionStep) → Run end past o given events → IsStepOfChange s Missing old end given step
        → HasCubeAt (record_of o given events) step s place d
    meets end past o given events step run at =
        cube-met cells caller old s now place d own Missing on end past o given events step run at

    fits-in : (end : ChangeEnd) (past : CorePast) (o : Opening) (given : RunScripts) (events : List CoreEvent)
        (step : SessionStep) → FitsCube d s → Run end past o given events
        → IsStepOfChange s Missing old end given step → FitsItsCube (record_of o given events) step s d
    fits-in end past o given events step fits run at =
        cube-fits cells caller old s now place d own Missing on end past o given events step run at fits

    abbrev ins : IsInsert s
    ins = insert-of s inserts

    leaves : (end : ChangeEnd) (past : CorePast) (o : Opening) (given : RunScripts) (events : List CoreEvent)
        → Run end past o given events
        → MayLeaveNames FitsShard CoreShardStands ShardAnswerSays cells caller now (names_left o events)
    leaves end past o given events run =
        record { opening = o; log = run.from.log; run = events; later = run.from.run; are = refl }

    -- Each of its texts has a place in the end.
    has-places : (end : ChangeEnd) (past : CorePast) (o : Opening) (given : RunScripts) (events : List CoreEvent)
        (step : SessionStep) → CanBeStored cells caller now place d s → Run end past o given events
        → IsStepOfChange s Missing old end given step
        → first_without_place d (final_names (record_of o given events) d) (inserted_rows s) ≡ None
    has-places end past o given events step can run at =
        ap (λ (lists : List (List (List ℕ))). first_without_place d lists (inserted_rows s))
        (meets end past o given events step run at).names
        ∙ can.places (names_left o events) (leaves end past o given events run)

    -- ---- what it posted

    puts-in-runs : (writer : Snapshot) (round : List JournalEntry) → IsWriterFor (mode_of old.mode) writer
        → (h : HasPutBatches cells caller (counted_session old) s mid now place d writer.epoch)
        → InRunsAfterChange s Missing old (Finished writer round) cells caller own now
        (λ run step. HasPutRows run step place writer.epoch h.batches)
    puts-in-runs writer round writes h past o given events step run at =
        let end = Finished writer round in
        let m = meets end past o given events step run at in
        record {
          decl = d;
          cube_is = m.place_is;
          rows = map (row_of_values d) (inserted_rows s);
          done =
              put-done (record_of o given events) step d s writer ins
              (done-by s Missing old writer round given (record_of o given events) step at writes refl) m.on;
          stand = h.stand (names_left o events) (leaves end past o given events run);
        }

    posts-by-end : (end : ChangeEnd) → LeavesOverShards cells caller old.number own mid [] → IsPrefix mid now
        → MayEndSo (counted_session old) end → PutsByEnd cells caller (counted_session old) s mid now place d end
        → PostsByEnd s Missing old end cells caller own now end
    posts-by-end (Finished writer round) found more may h =
        inl (record {
          cube = place;
          batches = h.batches;
          posted =
              none-then-some cells caller old.number place writer.epoch (batches_posted h.batches) own mid now more
              (plain-none cells caller old.number own mid [] found) h.posted;
          puts = puts-in-runs writer round may.0 h;
        })
    posts-by-end (Failed writer cause) found more may h =
        epoch-then-epoch cells caller old.number writer.epoch own mid now more
        (none-at-epoch cells caller old.number writer.epoch own mid
        (plain-none cells caller old.number own mid [] found)) h
    posts-by-end (RefusedBefore n) found more may h =
        none-then-none cells caller old.number own mid now more (plain-none cells caller old.number own mid [] found) h

    -- ---- what it is answered

    answers-by-end : (end : ChangeEnd) (said : Reply) → refused_by_mode (mode_of old.mode) s ≡ None
        → MayEndSo (counted_session old) end → PutsByEnd cells caller (counted_session old) s mid now place d end
        → AnswersInsert cells caller now place d s end said
        → InRunsAfterChange s Missing old end cells caller own now (λ run step. IsReply run step said)
    answers-by-end (Finished writer round) said lets may h is past o given events step run at =
        let end = Finished writer round in
        subst (λ (r : Reply). IsReply (record_of o given events) step r) (sym is)
        (stored-answer (record_of o given events) step d s writer ins
        (done-by s Missing old writer round given (record_of o given events) step at may.0 refl)
        (fits-in end past o given events step h.storable.fits_it run at)
        (has-places end past o given events step h.storable run at))
    answers-by-end (Failed writer cause) said lets may h is past o given events step run at =
        let end = Failed writer cause in
        subst (λ (r : Reply). IsReply (record_of o given events) step r) (sym is.is)
        (failed-answer (record_of o given events) step d s writer cause ins is.put
        (failed-by s Missing old writer cause given step at may.0)
        (fits-in end past o given events step is.storable.fits_it run at)
        (has-places end past o given events step is.storable run at))
    answers-by-end (RefusedBefore n) said lets may h is past o given events step run at =
        let end = RefusedBefore n in
        subst (λ (r : Reply). IsReply (record_of o given events) step r) (sym is.is)
        (refused-answer (record_of o given events) step d cells caller now place s (mode_of old.mode) is.why ins
        is.right (leaves end past o given events run)
        (subst (λ (k : ℕ).
        IsStep step (mode_of old.mode) (Says s) (entry.Refused step.session step.number k ∷ [])) is.number at.parts)
        lets at.lets (meets end past o given events step run at))

    -- ---- what it asks for

    -- It is not answered that there is no such cube.
    other-answer : (end : ChangeEnd) (said : Reply) → AnswersInsert cells caller now place d s end said
        → IsOtherReply said
    other-answer (Finished writer round) said is r refuses two =
        stored-refused (length (inserted_rows s)) writer.epoch r (sym is ∙ refuses)
    other-answer (Failed writer cause) said is r refuses two =
        failure-other cause is.put (ap code (same-refusal (failure_refusal cause) r (sym is.is ∙ refuses)) ∙ two)
    other-answer (RefusedBefore n) said is r refuses two =
        both_ways (is_cube_code (code is.why)) (is-plain cells caller now place d s is.why is.right).cubes
        (ap is_cube_code (ap code (same-refusal is.why r (sym is.is ∙ refuses)) ∙ two))

    asks-its-texts : (new : CoreSession) (said : Reply) → refused_by_mode (mode_of old.mode) s ≡ None
        → LeavesOverShards cells caller old.number own mid []
        → (h : HasInserted cells caller (counted_session old) s mid now place d new said)
        → AsksForItsTexts s Missing old h.ended cells caller own now
    asks-its-texts new said lets found h =
        asks-for-offered s Missing old h.ended cells caller own mid now (IsInsertText place d s) h.left.more found
        h.asks
        (λ past o given events step run at among cube dim e dimension text has is.
        offered-there s Missing old h.ended cells caller own now place d past o given events step run at among
        (meets h.ended past o given events step run at) said cube dim e dimension text (changes-rows s ins) lets
        (fits-in h.ended past o given events step is.fits_it run at)
        (answers-by-end h.ended said lets h.may h.posts h.answers past o given events step run at)
        (other-answer h.ended said h.answers) is.here has
        (text-of (record_of o given events) step d dim text s inserts is.has))

    pub has-ended : (new : CoreSession) (said : Reply)
        → IsSessionOf FitsShard CoreShardStands ShardAnswerSays cells old.number
        → refused_by_mode (mode_of old.mode) s ≡ None
        → LeavesOverShards cells caller old.number own mid []
        → (h : HasInserted cells caller (counted_session old) s mid now place d new said)
        → HasEndedSo s Missing old h.ended cells caller own now new said
    has-ended new said of_run lets found h = record {
      session = of_run;
      changes = changes-rows s ins;
      may = h.may;
      left =
          by-more-calls cells caller old.number (old.statements + 1) s own mid now [] (entries_of_change old h.ended)
          (by-plain-calls cells caller old.number (old.statements + 1) s own mid [] found) h.left;
      becomes = h.becomes;
      asks = asks-its-texts new said lets found h;
      posts = posts-by-end h.ended found h.left.more h.may h.posts;
      answers = answers-by-end h.ended said lets h.may h.posts h.answers;
    }
