-- A DELETE that has ended is performed.
use Rattle.std.proofs.Common.{◌≡◌, ◌∙◌, ℕ, ◌+◌, inr, List, [], ◌∷◌, None, Some, slice_get, refl, sym, ap, subst, arith}
use Rattle.std.specs.Prelude.{All}
use Rattle.std.proofs.lemmas.Bool.{both_ways}
use Rattle.std.proofs.lemmas.Option.{get_or_from_slice_get, slice_get_within}
use mathlib.Core.List.{IsPrefix}
use Rattle.core_changes.proofs.CubesOfChanges.{IsOnRecord, fits-in as cube-fits, meets as cube-met}
use Rattle.core_changes.proofs.OfferedTexts.{IsOtherReply, asks-for-offered, offered-there}
use Rattle.core_deletes.proofs.EndedDeletes.{is-plain}
use Rattle.core_deletes.specs.DeleteEnds.{AnswersDelete, DropsByEnd, HasDeleted, HasDroppedBox}
use Rattle.core_deletes.proofs.StepsOfDeletes.{changes-rows, delete-done, delete-failed, delete-refused}
use Rattle.core_events.specs.Events.{Opening, CoreEvent}
use Rattle.core_events.specs.Serial.{DropRows}
use Rattle.core_states.specs.CorePasts.{CorePast}
use Rattle.core_program.specs.CoreFits.{CoreEntry}
use Rattle.core_records.proofs.CubesOnRecord.{cubes-are}
use Rattle.core_records.proofs.NamedApart.{record-apart}
use Rattle.core_records.specs.CoreRecords.{RunScripts, names_left, record_of}
use Rattle.core_states.specs.declared.session.CoreSession.{CoreSession}
use Rattle.cube_core.specs.declared.cell.CoreCell.{CoreCell}
use Rattle.cube_journal.specs.declared.journal_entry.JournalEntry.{JournalEntry}
use Rattle.cube_journal.specs.Refusals.{code}
use Rattle.cube_journal.specs.declared.refusal.Refusal.{Refusal}
use Rattle.cube_journal.specs.declared.refusal.Refusal.TheVariants as refusal
use Rattle.cube_journal.specs.declared.reply.Reply.{Reply}
use Rattle.cube_journal.specs.declared.reply.Reply.TheVariants as reply
use Rattle.cube_language.specs.Cubes.{IsStorable}
use Rattle.cube_language.specs.Misfits.{FitsCube}
use Rattle.cube_language.specs.declared.decl.Decl.{Decl}
use Rattle.cube_language.specs.declared.statement.Statement.{Statement}
use Rattle.cube_language.specs.declared.statement.Statement.TheVariants.{Delete}
use Rattle.cube_run.specs.RunRecords.{Missing, RunRecord, Says, catalog_of}
use Rattle.cube_run.specs.RunText.{IsReply}
use Rattle.cube_run.specs.SessionSteps.{SessionStep}
use Rattle.cube_run.specs.StepOutcomes.{refused_by_mode}
use Rattle.cube_values.specs.declared.snapshot.Snapshot.{Snapshot}
use Rattle.aosi_desk.specs.Desks.{is_cube_code}
use Rattle.condition_spans.specs.Codes.{lists_at}
use Rattle.dropped_regions.specs.DeleteBoxes.{IsDeleteText, deleted_region}
use Rattle.scripted_pasts.proofs.StepsNamed.{deletion-named}
use Rattle.scripted_pasts.specs.NamesStand.{IsNamedStep}
use Rattle.scripted_pasts.specs.StepTexts.{HasTextFor}
use Rattle.known_cubes.proofs.CubesMade.{storable-cubes}
use Rattle.known_cubes.specs.KnownCubes.{OpenWithStorableCubes}
use Rattle.linked_shards.specs.CellShards.{CoreShardStands}
use Rattle.one_session.specs.Changes.{AreNamedApart}
use Rattle.row_encoding.specs.CodedTexts.{ComparesWith, HavePlaces}
use Rattle.scripted_pasts.specs.Served.{IsServed}
use Rattle.session_replies.specs.RowSteps.{FitsItsCube, IsOnCube}
use Rattle.shard_events.specs.ShardsInRuns.{FitsShard, ShardAnswerSays}
use Rattle.found_cubes.specs.CubesOnRecord.{HasCubeAt}
use Rattle.linked_shards.specs.declared.cell.CoreShard.{CoreShard}
use Rattle.core_changes.proofs.ChangeCalls.{by-more-calls, by-plain-calls}
use Rattle.core_changes.proofs.OperationsAdded.{epoch-then-epoch, none-at-epoch, none-then-none, none-then-some, plain-none}
use Rattle.core_changes.specs.ChangeEnds.{ChangeEnd, Finished, Failed, RefusedBefore, IsWriterFor, MayEndSo, change_entries, counted_session}
use Rattle.core_changes.specs.ChangesInRuns.{AsksForItsTexts, HasEndedSo, InRunsAfterChange, IsRunAfterChange, IsStepOfChange, PostsByEnd, entries_of_change}
use Rattle.posted_pasts.specs.DoneChanges.{HasDroppedRegion}
use Rattle.query_plan.proofs.Plans.{delete_of}
use Rattle.query_plan.specs.Bindings.{DeletesRows}
use Rattle.session_replies.specs.Modes.{mode_of}
use Rattle.session_replies.specs.StepParts.{IsStep}
use Rattle.shard_statements.specs.OverShards.{LeavesOverShards}

same-refusal : (a b : Refusal) → reply.Refused a ≡ reply.Refused b → a ≡ b
same-refusal a b same = cc

dropped-refused : (epoch : ℕ) (r : Refusal) → reply.Dropped epoch ≡ reply.Refused r → ⊥
dropped-refused epoch r same = cc

memory-other : code refusal.NoMemory ≡ 2 → ⊥
memory-other two = omega (arith, two)

storable-of : (cubes : List Decl) (place : ℕ) (d : Decl) → All IsStorable cubes → slice_get cubes place ≡ Some d
    → IsStorable d
storable-of cubes place d all is =
    subst IsStorable (get_or_from_slice_get cubes place d d is) (all place d (slice_get_within cubes place d is))

-- A text with which it compares.
text-of : (run : RunRecord) (step : SessionStep) (d : Decl) (dim : ℕ) (text : List ℕ) (s : Statement) → DeletesRows s
    → ComparesWith (deleted_region d s).conditions dim text → HasTextFor run step d dim text s
text-of run step d dim text (Delete cube conds) deletes has = has
text-of run step d dim text s deletes has = absurd deletes

-- Its step is named where each such text has its place.
step-is-named : (run : RunRecord) (step : SessionStep) (place : ℕ) (d : Decl) (s : Statement) → DeletesRows s
    → AreNamedApart (catalog_of run).cubes → step.sentence ≡ Says s → IsOnCube run step s d
    → slice_get (catalog_of run).cubes place ≡ Some d → IsStorable d
    → HavePlaces d.dims (lists_at run.names place) (deleted_region d s).conditions → IsNamedStep run step
step-is-named run step place d (Delete cube conds) deletes apart says on is storable places =
    deletion-named run step cube conds place d apart says on is storable places
step-is-named run step place d s deletes apart says on is storable places = absurd deletes

module _ (cells : List (CoreCell CoreShard)) (caller : ℕ) (old : CoreSession) (s : Statement)
    (mid now : List CoreEntry) (place : ℕ) (d : Decl) where
  abbrev IsFound : List CoreEntry → Type 0
  IsFound own = IsOnRecord cells caller old s now place d own

  module _ (own : List CoreEntry) (on : IsFound own) (deletes : DeletesRows s) where
    abbrev Run : ChangeEnd → CorePast → Opening → RunScripts → List CoreEvent → Type 0
    Run end past o given events = IsRunAfterChange s Missing old end cells caller own now past o given events

    meets : (end : ChangeEnd) (past : CorePast) (o : Opening) (given : RunScripts) (events : List CoreEvent)
        (step : SessionStep) → Run end past o given events → IsStepOfChange s Missing old end given step
        → HasCubeAt (record_of o given events) step s place d
    meets end past o given events step run at =
        cube-met cells caller old s now place d own Missing on end past o given events step run at

    fits-in : (end : ChangeEnd) (past : CorePast) (o : Opening) (given : RunScripts) (events : List CoreEvent)
        (step : SessionStep) → FitsCube d s → Run end past o given events
        → IsStepOfChange s Missing old end given step → FitsItsCube (record_of o given events) step s d
    fits-in end past o given events step fits run at =
        cube-fits cells caller old s now place d own Missing on end past o given events step run at fits

    -- ---- what it posted

    drops-in-runs : (writer : Snapshot) (round : List JournalEntry) → IsWriterFor (mode_of old.mode) writer
        → (h : HasDroppedBox cells caller (counted_session old) s mid now place d writer.epoch)
        → InRunsAfterChange s Missing old (Finished writer round) cells caller own now
        (λ run step. HasDroppedRegion run step place writer.epoch h.box)
    drops-in-runs writer round writes h past o given events step run at =
        let end = Finished writer round in
        let m = meets end past o given events step run at in
        record {
          decl = d;
          cube_is = m.place_is;
          region = deleted_region d s;
          named = refl;
          done =
              (delete-done (record_of o given events) step d given.round_every refl writer round s (mode_of old.mode)
              (delete_of s deletes) writes at.parts at.round
              (fits-in end past o given events step h.is_box.fits_it run at)).done;
          takes =
              h.is_box.region.takes (names_left o events)
              (record { opening = o; log = run.from.log; run = events; later = run.from.run; are = refl });
        }

    named-in-runs : OpenWithStorableCubes FitsShard CoreShardStands ShardAnswerSays cells
        → (writer : Snapshot) (round : List JournalEntry)
        → (h : HasDroppedBox cells caller (counted_session old) s mid now place d writer.epoch)
        → InRunsAfterChange s Missing old (Finished writer round) cells caller own now
        (λ run step. IsNamedStep run step)
    named-in-runs storable writer round h past o given events step run at =
        let end = Finished writer round in
        let m = meets end past o given events step run at in
        let later = run.from.run in
        step-is-named (record_of o given events) step place d s deletes
        (record-apart o given events later.is_run run.from.follow run.opens.opens.apart) at.parts.sentence_is m.on
        m.place_is
        (storable-of (catalog_of (record_of o given events)).cubes place d
        (coe 1 0 (i. All IsStorable (cubes-are o given events events later.is_run run.from.follow i))
        (storable-cubes o events later.is_run (storable o run.from.log later.opens))) m.place_is)
        (h.is_box.region.places (names_left o events)
        (record { opening = o; log = run.from.log; run = events; later = run.from.run; are = refl }))

    posts-by-end : OpenWithStorableCubes FitsShard CoreShardStands ShardAnswerSays cells
        → (end : ChangeEnd) → LeavesOverShards cells caller old.number own mid [] → IsPrefix mid now
        → MayEndSo (counted_session old) end → DropsByEnd cells caller (counted_session old) s mid now place d end
        → PostsByEnd s Missing old end cells caller own now end
    posts-by-end storable (Finished writer round) found more may h =
        inr (record {
          cube = place;
          box = h.box;
          posted =
              none-then-some cells caller old.number place writer.epoch (DropRows h.box ∷ []) own mid now more
              (plain-none cells caller old.number own mid [] found) h.posted;
          drops = drops-in-runs writer round may.0 h;
          named = named-in-runs storable writer round h;
        })
    posts-by-end storable (Failed writer cause) found more may h =
        epoch-then-epoch cells caller old.number writer.epoch own mid now more
        (none-at-epoch cells caller old.number writer.epoch own mid
        (plain-none cells caller old.number own mid [] found)) h
    posts-by-end storable (RefusedBefore n) found more may h =
        none-then-none cells caller old.number own mid now more (plain-none cells caller old.number own mid [] found) h

    -- ---- what it is answered

    answers-by-end : (end : ChangeEnd) (said : Reply) → refused_by_mode (mode_of old.mode) s ≡ None
        → MayEndSo (counted_session old) end → DropsByEnd cells caller (counted_session old) s mid now place d end
        → AnswersDelete d s end said
        → InRunsAfterChange s Missing old end cells caller own now (λ run step. IsReply run step said)
    answers-by-end (Finished writer round) said lets may h is past o given events step run at =
        let end = Finished writer round in
        subst (λ (r : Reply). IsReply (record_of o given events) step r) (sym is)
        (delete-done (record_of o given events) step d given.round_every refl writer round s (mode_of old.mode)
        (delete_of s deletes) may.0 at.parts at.round
        (fits-in end past o given events step h.is_box.fits_it run at)).answers
    answers-by-end (Failed writer cause) said lets may h is past o given events step run at =
        subst (λ (r : Reply). IsReply (record_of o given events) step r) (sym is.1)
        (delete-failed (record_of o given events) step d s (mode_of old.mode) writer
        (changes-rows s (delete_of s deletes)) may.0
        (coe 0 1 (i. IsStep step (mode_of old.mode) (Says s)
        (change_entries step.session step.number (mode_of old.mode) (Failed writer (is.0 i)))) at.parts))
    answers-by-end (RefusedBefore n) said lets may h is past o given events step run at =
        delete-refused (record_of o given events) step d s (mode_of old.mode) n said is at.parts lets at.lets
        (meets (RefusedBefore n) past o given events step run at).on

    -- ---- what it asks for

    -- It is not answered that there is no such cube.
    other-answer : (end : ChangeEnd) (said : Reply) → AnswersDelete d s end said → IsOtherReply said
    other-answer (Finished writer round) said is r refuses two =
        dropped-refused writer.epoch r (sym is ∙ refuses)
    other-answer (Failed writer cause) said is r refuses two =
        memory-other (ap code (same-refusal refusal.NoMemory r (sym is.1 ∙ refuses)) ∙ two)
    other-answer (RefusedBefore n) said is r refuses two =
        both_ways (is_cube_code (code is.why)) (is-plain d s is.why is.right).cubes
        (ap is_cube_code (ap code (same-refusal is.why r (sym is.is ∙ refuses)) ∙ two))

    asks-its-texts : (new : CoreSession) (said : Reply) → refused_by_mode (mode_of old.mode) s ≡ None
        → LeavesOverShards cells caller old.number own mid []
        → (h : HasDeleted cells caller (counted_session old) s mid now place d new said)
        → AsksForItsTexts s Missing old h.ended cells caller own now
    asks-its-texts new said lets found h =
        asks-for-offered s Missing old h.ended cells caller own mid now (IsDeleteText place d s) h.left.more found
        h.asks
        (λ past o given events step run at among cube dim e dimension text has is.
        offered-there s Missing old h.ended cells caller own now place d past o given events step run at among
        (meets h.ended past o given events step run at) said cube dim e dimension text
        (changes-rows s (delete_of s deletes)) lets
        (fits-in h.ended past o given events step is.fits_it run at)
        (answers-by-end h.ended said lets h.may h.posts h.answers past o given events step run at)
        (other-answer h.ended said h.answers) is.here has
        (text-of (record_of o given events) step d dim text s deletes is.has))

    pub has-ended : (new : CoreSession) (said : Reply) {shards : ℕ} → IsServed cells caller old.number shards
        → refused_by_mode (mode_of old.mode) s ≡ None
        → LeavesOverShards cells caller old.number own mid []
        → (h : HasDeleted cells caller (counted_session old) s mid now place d new said)
        → HasEndedSo s Missing old h.ended cells caller own now new said
    has-ended new said served lets found h = record {
      session = served.is_session;
      changes = changes-rows s (delete_of s deletes);
      may = h.may;
      left =
          by-more-calls cells caller old.number (old.statements + 1) s own mid now [] (entries_of_change old h.ended)
          (by-plain-calls cells caller old.number (old.statements + 1) s own mid [] found) h.left;
      becomes = h.becomes;
      asks = asks-its-texts new said lets found h;
      posts = posts-by-end served.storable h.ended found h.left.more h.may h.posts;
      answers = answers-by-end h.ended said lets h.may h.posts h.answers;
    }
