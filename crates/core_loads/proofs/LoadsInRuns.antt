-- A LOAD that has ended is performed, with its file.
use Rattle.std.proofs.Common.{◌≡◌, ◌∙◌, ℕ, ◌+◌, ◌≤◌, ◌<◌, inl, List, [], ◌∷◌, None, Result, refl, sym, ap, subst, arith}
use mathlib.Core.List.{IsPrefix}
use Rattle.core_agreements.specs.PostsForOperations.{batches_posted}
use Rattle.core_changes.proofs.AnsweredSteps.{done-by, failed-by, no-memory-answered}
use Rattle.core_changes.proofs.ChangeCalls.{by-more-calls, by-plain-calls}
use Rattle.core_changes.proofs.OfferedTexts.{IsOtherReply, asks-for-offered, offered-there}
use Rattle.core_changes.proofs.CubesOfChanges.{IsOnRecord, fits-in as cube-fits, meets as cube-met}
use Rattle.core_changes.proofs.OperationsAdded.{epoch-then-epoch, none-at-epoch, none-then-none, none-then-some, plain-none}
use Rattle.core_changes.specs.ChangeEnds.{ChangeEnd, Finished, Failed, RefusedBefore, IsWriterFor, MayEndSo, counted_session}
use Rattle.core_changes.specs.ChangesInRuns.{AsksForItsTexts, HasEndedSo, InRunsAfterChange, IsRunAfterChange, IsStepOfChange, PostsByEnd, entries_of_change}
use Rattle.core_loads.proofs.StepsOfLoads.{IsLoad, changes-rows, fits-any, full-answer, gives-records, load-of, loaded-answer, put-done, refused-answer, rejected-answer, unread-answer}
use Rattle.core_loads.proofs.TextsOfLoads.{text-of}
use Rattle.core_loads.specs.LoadEnds.{AnswersByEnd, FailsBy, HasLoaded, HasLoadedBatches, IsFileText, IsOfBytes, IsRefusalOf, LoadsByEnd, looked_in, without_memory, absent, too_long, unread}
use Rattle.core_loads.specs.ShelfLoads.{LoadsRows, allowed_loaded}
use Rattle.core_events.specs.Events.{Opening, CoreEvent}
use Rattle.core_names.specs.NamesInTheEnd.{MayLeaveNames}
use Rattle.core_states.specs.CorePasts.{CorePast}
use Rattle.core_program.specs.CoreFits.{CoreEntry}
use Rattle.core_records.specs.CoreRecords.{RunScripts, names_left, record_of}
use Rattle.core_states.specs.declared.session.CoreSession.{CoreSession}
use Rattle.condition_spans.specs.Codes.{lists_at}
use Rattle.cube_core.specs.declared.cell.CoreCell.{CoreCell}
use Rattle.cube_journal.specs.Refusals.{code}
use Rattle.cube_journal.specs.declared.journal_entry.AbortCause.{AbortCause}
use Rattle.cube_journal.specs.declared.journal_entry.AbortCause.TheVariants as abort
use Rattle.cube_journal.specs.declared.journal_entry.JournalEntry.{JournalEntry}
use Rattle.cube_journal.specs.declared.journal_entry.JournalEntry.TheVariants as entry
use Rattle.cube_journal.specs.declared.refusal.Refusal.{Refusal}
use Rattle.cube_journal.specs.declared.refusal.Refusal.TheVariants as refusal
use Rattle.cube_journal.specs.declared.reply.Reply.{Reply}
use Rattle.cube_journal.specs.declared.reply.Reply.TheVariants as reply
use Rattle.cube_language.specs.declared.bad_row.BadRow.{BadRow}
use Rattle.cube_language.specs.declared.decl.Decl.{Decl}
use Rattle.cube_language.specs.declared.statement.Statement.{Statement}
use Rattle.cube_run.specs.LoadedRows.{rows_among}
use Rattle.cube_run.specs.RunRecords.{LoadedFile, Says}
use Rattle.cube_run.specs.RunText.{IsReply}
use Rattle.cube_run.specs.SessionStates.{Mode}
use Rattle.cube_run.specs.SessionSteps.{SessionStep}
use Rattle.cube_run.specs.StepOutcomes.{refused_by_mode}
use Rattle.cube_values.specs.declared.row.Row.{Row}
use Rattle.cube_values.specs.declared.snapshot.Snapshot.{Snapshot}
use Rattle.found_cubes.specs.CubesOnRecord.{HasCubeAt}
use Rattle.linked_shards.specs.CellShards.{CoreShardStands}
use Rattle.linked_shards.specs.declared.cell.CoreShard.{CoreShard}
use Rattle.posted_pasts.specs.DoneChanges.{HasPutRows}
use Rattle.scripted_pasts.specs.Served.{IsServed}
use Rattle.session_replies.specs.Modes.{mode_of}
use Rattle.session_replies.specs.RowSteps.{FitsItsCube, GivesRecords}
use Rattle.session_replies.specs.StepParts.{IsStep}
use Rattle.shard_events.specs.ShardsInRuns.{FitsShard, ShardAnswerSays}
use Rattle.shard_statements.specs.OverShards.{LeavesOverShards}

-- ---- no refusal of a LOAD that found its cube is that there is no such cube

same-refusal : (a b : Refusal) → reply.Refused a ≡ reply.Refused b → a ≡ b
same-refusal a b same = cc

loaded-refused : (said : Reply) (rows rejected epoch : ℕ) (first : _) (r : Refusal)
    → said ≡ reply.Loaded rows rejected first epoch → said ≡ reply.Refused r → ⊥
loaded-refused said rows rejected epoch first r is other = cc

other-refusal : (mode : Mode) (file : LoadedFile) (r : Refusal) → IsRefusalOf mode file r → code r ≡ 2 → ⊥
other-refusal mode file r without_memory two = omega (arith, two)
other-refusal mode file r (absent missing) two = omega (arith, two)
other-refusal mode file r (too_long size large) two = omega (arith, two)
other-refusal mode file r (unread idle) two = omega (arith, two)

other-so : (a b : Refusal) → a ≡ b → (code b ≡ 2 → ⊥) → code a ≡ 2 → ⊥
other-so a b same other two = other (sym (ap code same) ∙ two)

module _ (cells : List (CoreCell CoreShard)) (caller : ℕ) (now : List CoreEntry) (place : ℕ) (d : Decl) (allowed : ℕ)
    (file : LoadedFile) (mode : Mode) (writer : Snapshot) where
  other-failure : (cause : AbortCause) (r : Refusal) → FailsBy cells caller now place d allowed file mode writer cause r
      → code r ≡ 2 → ⊥
  other-failure abort.NoMemory r fails = other-so r refusal.NoMemory fails (λ two. omega (arith, two))
  other-failure (abort.ShardFull shard rows) r fails =
      other-so r (refusal.ShardFull shard rows) fails.0 (λ two. omega (arith, two))
  other-failure abort.TooManyRejected r fails =
      other-so r (refusal.TooManyRejected fails.0 allowed) fails.1 (λ two. omega (arith, two))
  other-failure abort.ReadFault r fails = other-so r refusal.ReadFault fails.0 (λ two. omega (arith, two))
  other-failure abort.Asked r fails = absurd fails
  other-failure abort.EndOfScript r fails = absurd fails

module _ (cells : List (CoreCell CoreShard)) (caller : ℕ) (old : CoreSession) (s : Statement) (file : LoadedFile)
    (mid now : List CoreEntry) (place : ℕ) (d : Decl) where
  abbrev IsFound : List CoreEntry → Type 0
  IsFound own = IsOnRecord cells caller old s now place d own

  module _ (own : List CoreEntry) (on : IsFound own) (loads : LoadsRows s) where
    abbrev Run : ChangeEnd → CorePast → Opening → RunScripts → List CoreEvent → Type 0
    Run end past o given events = IsRunAfterChange s file old end cells caller own now past o given events

    abbrev load : IsLoad s
    load = load-of s loads

    meets : (end : ChangeEnd) (past : CorePast) (o : Opening) (given : RunScripts) (events : List CoreEvent)
        (step : SessionStep) → Run end past o given events → IsStepOfChange s file old end given step
        → HasCubeAt (record_of o given events) step s place d
    meets end past o given events step run at =
        cube-met cells caller old s now place d own file on end past o given events step run at

    fits-in : (end : ChangeEnd) (past : CorePast) (o : Opening) (given : RunScripts) (events : List CoreEvent)
        (step : SessionStep) → Run end past o given events
        → IsStepOfChange s file old end given step → FitsItsCube (record_of o given events) step s d
    fits-in end past o given events step run at =
        cube-fits cells caller old s now place d own file on end past o given events step run at (fits-any d s load)

    leaves : (end : ChangeEnd) (past : CorePast) (o : Opening) (given : RunScripts) (events : List CoreEvent)
        → Run end past o given events
        → MayLeaveNames FitsShard CoreShardStands ShardAnswerSays cells caller now (names_left o events)
    leaves end past o given events run =
        record { opening = o; log = run.from.log; run = events; later = run.from.run; are = refl }

    -- The records at which it looks, in the end.
    abbrev looked : List ℕ → Opening → List CoreEvent → List (Result Row BadRow)
    looked bytes o events = looked_in d (allowed_loaded s) bytes (lists_at (names_left o events) place)

    gives : (end : ChangeEnd) (past : CorePast) (o : Opening) (given : RunScripts) (events : List CoreEvent)
        (step : SessionStep) (bytes : List ℕ) → IsOfBytes file bytes → Run end past o given events
        → IsStepOfChange s file old end given step
        → GivesRecords (record_of o given events) step d (allowed_loaded s) (looked bytes o events)
    gives end past o given events step bytes of_bytes run at =
        gives-records (record_of o given events) step s place d file bytes (allowed_loaded s)
        (meets end past o given events step run at) at.file_is of_bytes

    -- ---- what it posted

    puts-in-runs : (writer : Snapshot) (round : List JournalEntry) → IsWriterFor (mode_of old.mode) writer
        → (h : HasLoadedBatches cells caller (counted_session old) s file mid now place d writer.epoch)
        → InRunsAfterChange s file old (Finished writer round) cells caller own now
        (λ run step. HasPutRows run step place writer.epoch h.batches)
    puts-in-runs writer round writes h past o given events step run at =
        let end = Finished writer round in
        let m = meets end past o given events step run at in
        record {
          decl = d;
          cube_is = m.place_is;
          rows = rows_among (looked h.stand.bytes o events);
          done =
              put-done (record_of o given events) step d (looked h.stand.bytes o events) s writer load
              (done-by s file old writer round given (record_of o given events) step at writes refl) m.on
              (gives end past o given events step h.stand.bytes h.stand.file_is run at);
          stand = h.stand.holds (names_left o events) (leaves end past o given events run);
        }

    posts-by-end : (end : ChangeEnd) → LeavesOverShards cells caller old.number own mid [] → IsPrefix mid now
        → MayEndSo (counted_session old) end
        → LoadsByEnd cells caller (counted_session old) s file mid now place d end
        → PostsByEnd s file old end cells caller own now end
    posts-by-end (Finished writer round) found more may h =
        inl (record {
          cube = place;
          batches = h.batches;
          posted =
              none-then-some cells caller old.number place writer.epoch (batches_posted h.batches) own mid now more
              (plain-none cells caller old.number own mid [] found) h.posted;
          puts = puts-in-runs writer round may.0 h;
        })
    posts-by-end (Failed writer cause) found more may h =
        epoch-then-epoch cells caller old.number writer.epoch own mid now more
        (none-at-epoch cells caller old.number writer.epoch own mid
        (plain-none cells caller old.number own mid [] found)) h
    posts-by-end (RefusedBefore n) found more may h =
        none-then-none cells caller old.number own mid now more (plain-none cells caller old.number own mid [] found) h

    -- ---- what it is answered

    fails-in-runs : (writer : Snapshot) (cause : AbortCause) (why : Refusal) → IsWriterFor (mode_of old.mode) writer
        → FailsBy cells caller now place d (allowed_loaded s) file (mode_of old.mode) writer cause why
        → InRunsAfterChange s file old (Failed writer cause) cells caller own now
        (λ run step. IsReply run step (reply.Refused why))
    fails-in-runs writer abort.NoMemory why writes fails past o given events step run at =
        subst (λ (r : Refusal). IsReply (record_of o given events) step (reply.Refused r)) (sym fails)
        (no-memory-answered (record_of o given events) step s writer
        (failed-by s file old writer abort.NoMemory given step at writes) (changes-rows s load))
    fails-in-runs writer (abort.ShardFull shard rows) why writes fails past o given events step run at =
        let end = Failed writer (abort.ShardFull shard rows) in
        let told = fails.1 in
        subst (λ (r : Refusal). IsReply (record_of o given events) step (reply.Refused r)) (sym fails.0)
        (full-answer (record_of o given events) step d (looked told.bytes o events) s writer shard rows load
        (failed-by s file old writer (abort.ShardFull shard rows) given step at writes)
        (fits-in end past o given events step run at)
        (gives end past o given events step told.bytes told.file_is run at)
        (told.holds (names_left o events) (leaves end past o given events run)))
    fails-in-runs writer abort.TooManyRejected why writes fails past o given events step run at =
        let end = Failed writer abort.TooManyRejected in
        let told = fails.2 in
        let many = told.holds (names_left o events) (leaves end past o given events run) in
        let allowed = allowed_loaded s in
        subst (λ (r : Refusal). IsReply (record_of o given events) step (reply.Refused r)) (sym fails.1)
        (subst (λ (n : ℕ). IsReply (record_of o given events) step (reply.Refused (refusal.TooManyRejected n allowed)))
        (sym many.count)
        (rejected-answer (record_of o given events) step d (looked told.bytes o events) s writer load
        (failed-by s file old writer abort.TooManyRejected given step at writes)
        (fits-in end past o given events step run at)
        (gives end past o given events step told.bytes told.file_is run at)
        (subst (λ (n : ℕ). allowed < n) many.count many.many)))
    fails-in-runs writer abort.ReadFault why writes fails past o given events step run at =
        let end = Failed writer abort.ReadFault in
        subst (λ (r : Refusal). IsReply (record_of o given events) step (reply.Refused r)) (sym fails.0)
        (unread-answer (record_of o given events) step d s writer load
        (failed-by s file old writer abort.ReadFault given step at writes) (at.parts.mode_is ∙ fails.1)
        (fits-in end past o given events step run at))
    fails-in-runs writer abort.Asked why writes fails past o given events step run at = absurd fails
    fails-in-runs writer abort.EndOfScript why writes fails past o given events step run at = absurd fails

    answers-by-end : (end : ChangeEnd) (said : Reply) → refused_by_mode (mode_of old.mode) s ≡ None
        → MayEndSo (counted_session old) end
        → AnswersByEnd cells caller (counted_session old) s file mid now place d end said
        → InRunsAfterChange s file old end cells caller own now (λ run step. IsReply run step said)
    answers-by-end (Finished writer round) said lets may is past o given events step run at =
        let end = Finished writer round in
        let told = is.told in
        let stand = told.holds (names_left o events) (leaves end past o given events run) in
        let bad = stand.bad_are in
        subst (λ (r : Reply). IsReply (record_of o given events) step r) (sym is.is)
        (coe 1 0 (i. IsReply (record_of o given events) step
        (reply.Loaded (stand.count i) (bad.count i) (bad.first i) writer.epoch))
        (loaded-answer (record_of o given events) step d (looked told.bytes o events) s writer load
        (done-by s file old writer round given (record_of o given events) step at may.0 refl)
        (fits-in end past o given events step run at)
        (gives end past o given events step told.bytes told.file_is run at)
        (subst (λ (n : ℕ). n ≤ allowed_loaded s) bad.count stand.few)))
    answers-by-end (Failed writer cause) said lets may is past o given events step run at =
        subst (λ (r : Reply). IsReply (record_of o given events) step r) (sym is.is)
        (fails-in-runs writer cause is.why may.0 is.fails past o given events step run at)
    answers-by-end (RefusedBefore n) said lets may is past o given events step run at =
        let end = RefusedBefore n in
        subst (λ (r : Reply). IsReply (record_of o given events) step r) (sym is.is)
        (refused-answer (record_of o given events) step d s (mode_of old.mode) file is.why load is.right
        (subst (λ (k : ℕ).
        IsStep step (mode_of old.mode) (Says s) (entry.Refused step.session step.number k ∷ [])) is.number at.parts)
        lets at.file_is (fits-in end past o given events step run at))

    -- ---- what it asks for

    other-answer : (end : ChangeEnd) (said : Reply)
        → AnswersByEnd cells caller (counted_session old) s file mid now place d end said → IsOtherReply said
    other-answer (Finished writer round) said is r refuses two =
        loaded-refused said is.rows is.bad.count writer.epoch is.bad.first r is.is refuses
    other-answer (Failed writer cause) said is r refuses two =
        other-failure cells caller now place d (allowed_loaded s) file (mode_of old.mode) writer cause is.why is.fails
        (ap code (same-refusal is.why r (sym is.is ∙ refuses)) ∙ two)
    other-answer (RefusedBefore n) said is r refuses two =
        other-refusal (mode_of old.mode) file is.why is.right
        (ap code (same-refusal is.why r (sym is.is ∙ refuses)) ∙ two)

    asks-its-texts : (new : CoreSession) (said : Reply) → refused_by_mode (mode_of old.mode) s ≡ None
        → LeavesOverShards cells caller old.number own mid []
        → (h : HasLoaded cells caller (counted_session old) s file mid now place d new said)
        → AsksForItsTexts s file old h.ended cells caller own now
    asks-its-texts new said lets found h =
        asks-for-offered s file old h.ended cells caller own mid now
        (IsFileText cells caller now place d (allowed_loaded s) file) h.left.more found h.asks
        (λ past o given events step run at among cube dim e dimension text has is.
        offered-there s file old h.ended cells caller own now place d past o given events step run at among
        (meets h.ended past o given events step run at) said cube dim e dimension text (changes-rows s load) lets
        (fits-in h.ended past o given events step run at)
        (answers-by-end h.ended said lets h.may h.answers past o given events step run at)
        (other-answer h.ended said h.answers) is.of_load.here has
        (text-of cells caller now (record_of o given events) step s place d file cube dim text loads
        (meets h.ended past o given events step run at) at.file_is (leaves h.ended past o given events run) is))

    pub has-ended : (new : CoreSession) (said : Reply) {shards : ℕ} → IsServed cells caller old.number shards
        → refused_by_mode (mode_of old.mode) s ≡ None
        → LeavesOverShards cells caller old.number own mid []
        → (h : HasLoaded cells caller (counted_session old) s file mid now place d new said)
        → HasEndedSo s file old h.ended cells caller own now new said
    has-ended new said served lets found h = record {
      session = served.is_session;
      changes = changes-rows s load;
      may = h.may;
      left =
          by-more-calls cells caller old.number (old.statements + 1) s own mid now [] (entries_of_change old h.ended)
          (by-plain-calls cells caller old.number (old.statements + 1) s own mid [] found) h.left;
      becomes = h.becomes;
      asks = asks-its-texts new said lets found h;
      posts = posts-by-end h.ended found h.left.more h.may h.posts;
      answers = answers-by-end h.ended said lets h.may h.answers;
    }
