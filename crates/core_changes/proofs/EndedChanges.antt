-- A counted change that has begun, or that has changed nothing yet, ends.
use Rattle.std.proofs.Common.{◌≡◌, ◌≢◌, ℕ, ◌<◌, ◌≤◌, true, false, List, [], ◌∷◌, ◌++◌, refl, sym, subst, arith}
use mathlib.Core.List.{IsPrefix}
use Rattle.aosi_desk.specs.Desks.{is_cube_code}
use Rattle.core_changes.specs.ChangesUnderWay.{HasAnswered, HasChangedNothing, IsSameStatement}
use Rattle.core_changes.specs.FinishedChanges.{HasFinished}
use Rattle.core_cubes.proofs.CallsForStatements.{plain-asks, plain-for}
use Rattle.scripted_pasts.proofs.AskingOnly.{only-plain, only-then}
use Rattle.scripted_pasts.specs.AskedTexts.{AsksOnly}
use Rattle.core_cubes.proofs.CallsGoOn.{go-on-as, go-on-then}
use Rattle.core_events.specs.Events.{ClientCall}
use Rattle.core_events.specs.Serial.{CubeOperation}
use Rattle.core_program.specs.CoreFits.{CoreEntry}
use Rattle.core_states.proofs.LeftCalls.{longer-front}
use Rattle.core_states.specs.LeftBehind.{AsksForNone, GoOnByCalls, IsPlainCall}
use Rattle.core_states.specs.StandingInCore.{HoldsForMode}
use Rattle.core_states.specs.declared.session.CoreSession.{CoreSession}
use Rattle.cube_core.specs.declared.cell.CoreCell.{CoreCell}
use Rattle.cube_journal.specs.Refusals.{code, of_misfit}
use Rattle.cube_journal.specs.declared.journal_entry.AbortCause.{AbortCause}
use Rattle.cube_journal.specs.declared.journal_entry.JournalEntry.{JournalEntry}
use Rattle.cube_journal.specs.declared.journal_entry.JournalEntry.TheVariants as entry
use Rattle.cube_journal.specs.declared.refusal.Refusal.{Refusal}
use Rattle.cube_journal.specs.declared.reply.Reply.{Reply}
use Rattle.cube_journal.specs.declared.reply.Reply.TheVariants as reply
use Rattle.cube_language.specs.declared.misfit.Misfit.{Misfit}
use Rattle.cube_language.specs.declared.misfit.Misfit.TheVariants.{UnknownColumn, WrongKind, NotGrouped, NotAnItem, BadHaving, NotWatchable, CutsBrick, BadRow}
use Rattle.cube_language.specs.declared.statement.Statement.{Statement}
use Rattle.cube_run.specs.SessionStates.{Mode, Idle, Open, Aborted}
use Rattle.cube_values.specs.declared.snapshot.Snapshot.{Snapshot}
use Rattle.linked_shards.specs.CellShards.{CoreShardStands}
use Rattle.linked_shards.specs.declared.cell.CoreShard.{CoreShard}
use Rattle.core_changes.proofs.ChangeCalls.{by-more-calls, by-plain-calls}
use Rattle.core_changes.proofs.OperationsAdded.{epoch-then-epoch, none-at-epoch, none-then-none, plain-none, some-then-none}
use Rattle.core_changes.specs.CallsOfChanges.{IsCallOfChange, LeavesForChange}
use Rattle.core_changes.specs.ChangeEnds.{ChangeEnd, Finished, Failed, RefusedBefore, IsWriterFor, begun_entries, commits_after, committed_entries, failed_entries, failed_session, finished_session, is_failure}
use Rattle.posted_pasts.specs.PostsAdded.{AddsAtEpoch, AddsNoOperation, AddsOperations, LearnsThat}
use Rattle.session_desk.specs.Executed.{IfReplied, OnStopped}
use Rattle.session_desk.specs.declared.answered.Answered.{Answered}
use Rattle.session_desk.specs.declared.answered.Answered.TheVariants.{Replied, Stopped}
use Rattle.session_replies.specs.Modes.{mode_of}
use Rattle.shard_events.specs.ShardsInRuns.{FitsShard, ShardAnswerSays}
use Rattle.shard_statements.specs.OverShards.{LeavesOverShards}

-- ---- the session stays at its statement

few-commits : (m : Mode) (commits statements : ℕ) → commits < statements → commits_after m commits ≤ statements
few-commits Idle commits statements h = omega (arith, h)
few-commits (Open writer) commits statements h = omega (arith, h)
few-commits (Aborted epoch) commits statements h = omega (arith, h)

pub same-statement : (old : CoreSession) → old.commits < old.statements → IsSameStatement old old
same-statement old h =
    record { number = refl; statements = refl; every = refl; counted = omega (arith, h) }

pub same-finished : (old new : CoreSession) → old.commits < old.statements → new ≡ finished_session old
    → IsSameStatement old new
same-finished old new h is = subst (λ (x : CoreSession). IsSameStatement old x) (sym is) (record {
  number = refl;
  statements = refl;
  every = refl;
  counted = few-commits (mode_of old.mode) old.commits old.statements h;
})

pub same-failed : (old new : CoreSession) → old.commits < old.statements → new ≡ failed_session old
    → IsSameStatement old new
same-failed old new h is =
    subst (λ (x : CoreSession). IsSameStatement old x) (sym is)
    (record { number = refl; statements = refl; every = refl; counted = omega (arith, h) })

pub same-unchanged : (old new : CoreSession) → old.commits < old.statements → new ≡ old → IsSameStatement old new
same-unchanged old new h is =
    subst (λ (x : CoreSession). IsSameStatement old x) (sym is) (same-statement old h)

-- ---- a refusal is plain

pub record IsPlainRefusal (r : Refusal) : Type 0 where
  pub cubes : is_cube_code (code r) ≡ false
  pub store : code r ≢ 17

pub misfit-is-plain : (misfit : Misfit) → IsPlainRefusal (of_misfit misfit)
misfit-is-plain (UnknownColumn name) = record { cubes = refl; store = λ e. omega (arith, e) }
misfit-is-plain (WrongKind name) = record { cubes = refl; store = λ e. omega (arith, e) }
misfit-is-plain (NotGrouped name) = record { cubes = refl; store = λ e. omega (arith, e) }
misfit-is-plain (NotAnItem item) = record { cubes = refl; store = λ e. omega (arith, e) }
misfit-is-plain (BadHaving item) = record { cubes = refl; store = λ e. omega (arith, e) }
misfit-is-plain (NotWatchable item) = record { cubes = refl; store = λ e. omega (arith, e) }
misfit-is-plain (CutsBrick name) = record { cubes = refl; store = λ e. omega (arith, e) }
misfit-is-plain (BadRow row why) = record { cubes = refl; store = λ e. omega (arith, e) }

-- ---- what was added before plain calls stays so

module _ (cells : List (CoreCell CoreShard)) (caller session : ℕ) (first own now : List CoreEntry)
    (added : List JournalEntry) (left : LeavesOverShards cells caller session own now added) where
  pub operations-stay : (place epoch : ℕ) (operations : List CubeOperation)
      → LearnsThat FitsShard CoreShardStands ShardAnswerSays (AddsOperations place epoch operations) cells caller session
      first own
      → LearnsThat FitsShard CoreShardStands ShardAnswerSays (AddsOperations place epoch operations) cells caller session
      first now
  operations-stay place epoch operations learns =
      some-then-none cells caller session place epoch operations first own now left.more learns
      (plain-none cells caller session own now added left)

  pub epoch-stays : (epoch : ℕ)
      → LearnsThat FitsShard CoreShardStands ShardAnswerSays (AddsAtEpoch epoch) cells caller session first own
      → LearnsThat FitsShard CoreShardStands ShardAnswerSays (AddsAtEpoch epoch) cells caller session first now
  epoch-stays epoch learns =
      epoch-then-epoch cells caller session epoch first own now left.more learns
      (none-at-epoch cells caller session epoch own now (plain-none cells caller session own now added left))

  pub nothing-stays : LearnsThat FitsShard CoreShardStands ShardAnswerSays AddsNoOperation cells caller session first own
      → LearnsThat FitsShard CoreShardStands ShardAnswerSays AddsNoOperation cells caller session first now
  nothing-stays learns =
      none-then-none cells caller session first own now left.more learns
      (plain-none cells caller session own now added left)

-- ---- the ends

module _ (cells : List (CoreCell CoreShard)) (caller : ℕ) (old : CoreSession) (s : Statement)
    (first own now : List CoreEntry) (IsText : ℕ → ℕ → List ℕ → Type 0) (Posts : ChangeEnd → Type 0)
    (Answers : ChangeEnd → Reply → Type 0) where
  abbrev GoOn : (ClientCall → Type 0) → List CoreEntry → List CoreEntry → Type 0
  GoOn Is one two = GoOnByCalls FitsShard CoreShardStands ShardAnswerSays cells caller old.number Is one two

  abbrev Left : List CoreEntry → List CoreEntry → List JournalEntry → Type 0
  Left one two added = LeavesForChange cells caller old.number old.statements s one two added

  abbrev Plainly : List JournalEntry → Type 0
  Plainly added = LeavesOverShards cells caller old.number own now added

  abbrev Answered-so : CoreSession → Answered → Type 0
  Answered-so new answered = HasAnswered cells caller old s first now IsText Posts Answers new answered

  abbrev Holds : CoreSession → Type 0
  Holds new =
      HoldsForMode FitsShard CoreShardStands ShardAnswerSays cells caller new.number now (mode_of new.mode)

  abbrev Asks : List CoreEntry → List CoreEntry → Type 0
  Asks one two = LearnsThat FitsShard CoreShardStands ShardAnswerSays (AsksOnly IsText) cells caller old.number one two

  asks-then : Asks first own → IsPrefix own now → GoOn IsPlainCall own now → Asks first now
  asks-then asks more plain =
      only-then FitsShard CoreShardStands ShardAnswerSays cells caller old.number IsText first own now more asks
      (only-plain FitsShard CoreShardStands ShardAnswerSays cells caller old.number IsText own now
      (go-on-as FitsShard CoreShardStands ShardAnswerSays cells caller old.number IsPlainCall AsksForNone own now
      plain-asks plain))

  plain-as : (one two : List CoreEntry) → GoOn IsPlainCall one two → GoOn (IsCallOfChange old.statements s) one two
  plain-as one two plain =
      go-on-as FitsShard CoreShardStands ShardAnswerSays cells caller old.number IsPlainCall
      (IsCallOfChange old.statements s) one two
      (λ c is.
      let call = plain-for old.statements s c is in record { speaks = call.speaks; readers = call.readers })
      plain

  calls-then : (added : List JournalEntry) → Left first own added → IsPrefix own now → GoOn IsPlainCall own now
      → GoOn (IsCallOfChange old.statements s) first now
  calls-then added left more plain =
      go-on-then FitsShard CoreShardStands ShardAnswerSays cells caller old.number (IsCallOfChange old.statements s)
      first own now more left.calls (plain-as own now plain)

  -- It stops after plain calls.
  pub stopped : (added : List JournalEntry) (new : CoreSession) → Left first own added → IsPrefix own now
      → GoOn IsPlainCall own now → IsSameStatement old new → Answered-so new Stopped
  stopped added new left more plain stays = record {
    more = longer-front first own now left.more more;
    calls = calls-then added left more plain;
    stays = stays;
    replied = tt;
  }

  module _ (writer : Snapshot) (writes : IsWriterFor (mode_of old.mode) writer)
      (counted : old.commits < old.statements) (new : CoreSession) (said : Reply) where
    abbrev began : List JournalEntry
    began = begun_entries old.number old.statements (mode_of old.mode) writer

    -- It is done.
    pub finished : Left first own began → Asks first own → IsPrefix own now → GoOn IsPlainCall own now
        → new ≡ finished_session old
        → Holds new → (f : HasFinished cells caller old writer own now) → Posts (Finished writer f.round)
        → Answers (Finished writer f.round) said → Answered-so new (Replied said)
    finished left asks more plain becomes holds f posts answers =
        let ended = committed_entries old.number old.statements (mode_of old.mode) writer ++ f.round in
        record {
          more = longer-front first own now left.more more;
          calls = calls-then began left more plain;
          stays = same-finished old new counted becomes;
          replied = record {
            ended = Finished writer f.round;
            may = (writes, f.follows);
            left =
                by-more-calls cells caller old.number old.statements s first own now began ended left
                (by-plain-calls cells caller old.number old.statements s own now ended f.left);
            becomes = becomes;
            asks = asks-then asks more plain;
            posts = posts;
            answers = answers;
            holds = holds;
          };
        }

    -- It fails by a cause.
    pub failed : (cause : AbortCause) → is_failure cause ≡ true → Left first own began → Asks first own
        → IsPrefix own now
        → GoOn IsPlainCall own now → new ≡ failed_session old → Holds new
        → Plainly (failed_entries old.number old.statements writer cause) → Posts (Failed writer cause)
        → Answers (Failed writer cause) said → Answered-so new (Replied said)
    failed cause fails left asks more plain becomes holds leaves posts answers =
        let ended = failed_entries old.number old.statements writer cause in
        record {
          more = longer-front first own now left.more more;
          calls = calls-then began left more plain;
          stays = same-failed old new counted becomes;
          replied = record {
            ended = Failed writer cause;
            may = (writes, fails);
            left =
                by-more-calls cells caller old.number old.statements s first own now began ended left
                (by-plain-calls cells caller old.number old.statements s own now ended leaves);
            becomes = becomes;
            asks = asks-then asks more plain;
            posts = posts;
            answers = answers;
            holds = holds;
          };
        }

  -- It is refused before it has changed anything, or stops at that.
  pub refused : (why : Refusal) (answered : Answered) → old.commits < old.statements
      → HasChangedNothing cells caller old s first own IsText
      → IfReplied answered (λ said. said ≡ reply.Refused why)
      → IfReplied answered (λ said. Plainly (entry.Refused old.number old.statements (code why) ∷ []))
      → OnStopped answered (Plainly []) → Holds old
      → (Plainly (entry.Refused old.number old.statements (code why) ∷ []) → Posts (RefusedBefore (code why)))
      → (IsPrefix own now → Answers (RefusedBefore (code why)) (reply.Refused why))
      → Answered-so old answered
  refused why (Replied said) counted nothing is left stops holds posts answers =
      let entries : List JournalEntry = entry.Refused old.number old.statements (code why) ∷ [] in
      record {
        more = longer-front first own now nothing.left.more left.more;
        calls = calls-then [] nothing.left left.more left.plain;
        stays = same-statement old counted;
        replied = record {
          ended = RefusedBefore (code why);
          may = tt;
          left =
              by-more-calls cells caller old.number old.statements s first own now [] entries nothing.left
              (by-plain-calls cells caller old.number old.statements s own now entries left);
          becomes = refl;
          asks = asks-then nothing.asks left.more left.plain;
          posts = posts left;
          answers =
              subst (λ (r : Reply). Answers (RefusedBefore (code why)) r) (sym is) (answers left.more);
          holds = holds;
        };
      }
  refused why Stopped counted nothing is left stops holds posts answers =
      stopped [] old nothing.left stops.more stops.plain (same-statement old counted)
