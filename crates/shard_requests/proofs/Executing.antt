-- FLUSH, PURGE and COMMIT are answered by what their calls leave.
use Rattle.std.proofs.Common.{◌≡◌, ◌∙◌, ℕ, ◌+◌, Bool, true, false, List, [], ◌∷◌, ◌++◌, Option, Some, None, unwrap_or, refl, sym, ap, subst, arith, append-nil, count_by}
use Rattle.std.proofs.lemmas.Option.{none-some}
use Rattle.core_program.specs.ClientCalls.{desk_entry}
use Rattle.core_cells.specs.declared.desk.DeskAnswer.TheVariants as answer
use Rattle.core_cells.specs.declared.desk.DeskCall.TheVariants as call
use Rattle.core_program.specs.Knowing.{IsClientOf, IsSessionOf}
use Rattle.core_serial.specs.Journals.{journal_of}
use Rattle.core_states.specs.CorePasts.{last_number}
use Rattle.core_states.specs.OwnCalls.{OwnCallsLeave}
use Rattle.core_program.specs.CoreFits.{CoreEntry}
use Rattle.core_records.specs.CoreRecords.{record_of}
use Rattle.core_states.proofs.Growing.{executes, parts-of}
use Rattle.core_states.proofs.LeftCalls.{left-by-call, left-then}
use Rattle.core_states.proofs.NotedCounters.{noted-counters}
use Rattle.core_states.proofs.Refused.{counted}
use Rattle.core_states.proofs.ShownEpochs.{own-le}
use Rattle.core_states.specs.ExecutedInCore.{ExecutesInCore}
use Rattle.core_states.specs.LeftBehind.{GoOnByCalls, IsPlainCall}
use Rattle.core_states.specs.declared.session.CoreSession.{CoreSession}
use Rattle.cube_core.specs.declared.cell.CoreCell.{CoreCell}
use Rattle.cube_journal.specs.Counters.{counters}
use Rattle.cube_journal.specs.declared.counters.Counters.{Counters}
use Rattle.cube_journal.specs.declared.journal_entry.JournalEntry.{JournalEntry}
use Rattle.cube_journal.specs.declared.journal_entry.JournalEntry.TheVariants as entry
use Rattle.cube_journal.specs.declared.note.Note.TheVariants as note
use Rattle.cube_journal.specs.declared.refusal.Refusal.TheVariants as refusal
use Rattle.cube_journal.specs.declared.reply.Reply.{Reply}
use Rattle.cube_journal.specs.declared.reply.Reply.TheVariants as reply
use Rattle.cube_language.specs.declared.statement.Statement.TheVariants.{Commit, Flush, Purge}
use Rattle.cube_run.specs.Merge.{RoundFollows}
use Rattle.cube_run.specs.RunRecords.{Says, Sentence}
use Rattle.cube_run.specs.RunText.{IsReply}
use Rattle.cube_run.specs.SessionStates.{KeptWatch, Mode, Idle, Open, Aborted, SessionState, is_commit, mode_after, watch_after}
use Rattle.cube_run.specs.SessionSteps.{is_from, journal_before}
use Rattle.cube_run.specs.StatementEntries.{LeavesRound, round_done, round_lost, round_without_memory}
use Rattle.cube_run.specs.StepOutcomes.{refused_by_mode}
use Rattle.linked_shards.specs.CellShards.{CoreShardStands}
use Rattle.linked_shards.specs.declared.cell.CoreShard.{CoreShard}
use Rattle.played_scripts.specs.PlayedRuns.{AreNumbered}
use Rattle.session_desk.specs.AtDesk.{IsOpen, IsOpenAt}
use Rattle.session_desk.specs.Executed.{IfReplied, OnStopped}
use Rattle.session_desk.specs.declared.answered.Answered.{Answered}
use Rattle.session_desk.specs.declared.answered.Answered.TheVariants.{Replied, Stopped}
use Rattle.session_replies.proofs.Answers.{committed, flushed, purged}
use Rattle.session_replies.specs.Modes.{mode_of, round_follows}
use Rattle.session_replies.specs.declared.mode.SessionMode.{SessionMode}
use Rattle.session_replies.specs.declared.mode.SessionMode.TheVariants as variant
use Rattle.shard_events.specs.ShardsInRuns.{FitsShard, ShardAnswerSays}
use Rattle.shard_requests.specs.FlushNotes.{HasNotedFlush}
use Rattle.shard_statements.proofs.Executing.{open-writer}
use Rattle.shard_statements.specs.OverShards.{LeavesOverShards}

-- ---- what stays of a watch and of a mode

flush-keeps-watch : (watch : Option KeptWatch) (entries : List JournalEntry) → watch ≡ watch_after watch (Says Flush) entries
flush-keeps-watch None entries = refl
flush-keeps-watch (Some kept) entries = refl

purge-keeps-watch : (watch : Option KeptWatch) (entries : List JournalEntry) → watch ≡ watch_after watch (Says Purge) entries
purge-keeps-watch None entries = refl
purge-keeps-watch (Some kept) entries = refl

commit-keeps-watch : (watch : Option KeptWatch) (entries : List JournalEntry)
    → watch ≡ watch_after watch (Says Commit) entries
commit-keeps-watch None entries = refl
commit-keeps-watch (Some kept) entries = refl

flush-keeps-mode : (mode : Mode) (i j : ℕ) → mode ≡ mode_after mode (entry.Flushed i j ∷ [])
flush-keeps-mode Idle i j = refl
flush-keeps-mode (Open writer) i j = refl
flush-keeps-mode (Aborted epoch) i j = refl

purge-keeps-mode : (mode : Mode) (i j epoch : ℕ) → mode ≡ mode_after mode (entry.Purged i j epoch ∷ [])
purge-keeps-mode Idle i j epoch = refl
purge-keeps-mode (Open writer) i j epoch = refl
purge-keeps-mode (Aborted other) i j epoch = refl

-- ---- the round after a commit

-- Its entries are the statement's, and none is a commit.
pub record IsRound (i j : ℕ) (round : List JournalEntry) : Type 0 where
  pub numbered : AreNumbered j j round
  pub none : count_by is_commit round ≡ 0
  pub with_commit : (epoch : ℕ) → count_by is_commit (entry.Committed i j epoch ∷ round) ≡ 1

round-is : (i j : ℕ) (round : List JournalEntry) → LeavesRound i j round → IsRound i j round
round-is i j round (round_done epoch) = record {
  numbered = (omega arith, omega arith, (omega arith, omega arith, tt));
  none = refl;
  with_commit = λ epoch. refl;
}
round-is i j round round_without_memory =
    record { numbered = (omega arith, omega arith, tt); none = refl; with_commit = λ epoch. refl }
round-is i j round round_lost =
    record { numbered = (omega arith, omega arith, tt); none = refl; with_commit = λ epoch. refl }

pub follows-as : (i j : ℕ) (is_due : Bool) (round : List JournalEntry) → RoundFollows i j is_due round → IsRound i j round
follows-as i j true round follows = round-is i j round follows
follows-as i j false round follows =
    subst (λ (es : List JournalEntry). IsRound i j es) (sym follows)
    (record { numbered = tt; none = refl; with_commit = λ epoch. refl })

module _ (cells : List (CoreCell CoreShard)) (caller : ℕ) (session : CoreSession) (own now : List CoreEntry) where
  abbrev Executes : Sentence → CoreSession → Reply → Type 0
  Executes sentence new said =
      ExecutesInCore FitsShard CoreShardStands ShardAnswerSays cells caller sentence session own new now said

  abbrev Leaves : List JournalEntry → Type 0
  Leaves added = LeavesOverShards cells caller session.number own now added

  abbrev number : ℕ
  number = session.statements + 1

  pub purges : (epoch : ℕ) → Leaves (entry.Purged session.number number epoch ∷ [])
      → Executes (Says Purge) (counted session) (reply.Purged epoch)
  purges epoch left =
      let none : session.commits ≡ session.commits + 0 = omega arith in
      let added : List JournalEntry = entry.Purged session.number number epoch ∷ [] in
      executes FitsShard CoreShardStands ShardAnswerSays cells caller (Says Purge) session (counted session) own now added
      (reply.Purged epoch) (record {
        left = left;
        counted = refl;
        numbered = (omega arith, omega arith, tt);
        becomes = λ watch i. record {
          mode = purge-keeps-mode (mode_of session.mode) session.number number epoch i;
          watch = purge-keeps-watch watch added i;
          commits = none i;
        };
        answers = λ watch past o given events step in_run is.
            purged (record_of o given events) step (mode_of session.mode) epoch
            (parts-of session (counted session) watch (mode_of session.mode) (Says Purge)
            (λ i j. entry.Purged i j epoch ∷ []) step refl is);
      })

  -- The session once it has committed.
  abbrev pub committed_once : CoreSession
  committed_once = record {
    number = session.number;
    mode = variant.Idle;
    statements = session.statements + 1;
    commits = session.commits + 1;
    round_every = session.round_every;
  }

  pub commits-open : (epoch : ℕ) (is_due : Bool) (round : List JournalEntry) → IsOpenAt session.mode epoch
      → is_due ≡ round_follows (unwrap_or session.round_every 0) session.commits
      → RoundFollows session.number number is_due round
      → Leaves (entry.Committed session.number number epoch ∷ round)
      → Executes (Says Commit) committed_once (reply.Committed epoch)
  commits-open epoch is_due round at due follows left =
      let w = open-writer session.mode epoch at in
      let mode_is : mode_of session.mode ≡ Open w.writer = ap mode_of w.mode_is in
      let r = follows-as session.number number is_due round follows in
      let added : List JournalEntry = entry.Committed session.number number w.writer.epoch ∷ round in
      let one : session.commits + 1 ≡ session.commits + count_by is_commit added =
      ap (λ (n : ℕ). session.commits + n) (sym (r.with_commit w.writer.epoch))
      in
      subst (λ (e : ℕ). Executes (Says Commit) committed_once (reply.Committed e)) (sym w.epoch_is)
      (executes FitsShard CoreShardStands ShardAnswerSays cells caller (Says Commit) session committed_once own now added
      (reply.Committed w.writer.epoch) (record {
        left = subst (λ (e : ℕ). Leaves (entry.Committed session.number number e ∷ round)) w.epoch_is left;
        counted = refl;
        numbered = (omega arith, omega arith, r.numbered);
        becomes = λ watch i. record {
          mode = sym (ap (λ (m : Mode). mode_after m added) mode_is) i;
          watch = commit-keeps-watch watch added i;
          commits = one i;
        };
        answers = λ watch past o given events step in_run is.
            let session_is = is.session_is in
            let number_is = is.number_is in
            let every = in_run.every in
            let counts : step.state.commits ≡ session.commits = ap (λ (s : SessionState). s.commits) is.state_is in
            committed (record_of o given events) step w.writer round
            (record {
              mode_is = ap (λ (s : SessionState). s.mode) is.state_is ∙ mode_is;
              sentence_is = is.sentence_is;
              entries_are =
                  is.entries_are ∙ sym (λ i. entry.Committed (session_is i) (number_is i) w.writer.epoch ∷ round);
            })
            (coe 1 0 (i. RoundFollows (session_is i) (number_is i) (round_follows (every i) (counts i)) round)
            (subst (λ (b : Bool). RoundFollows session.number number b round) due follows));
      }))

-- A session that may commit has a transaction open.
pub commit-is-open : (mode : SessionMode) → refused_by_mode (mode_of mode) Commit ≡ None → IsOpen mode
commit-is-open (variant.Open writer) may = tt
commit-is-open variant.Idle may = absurd (none-some refusal.NoTransaction (sym may))
commit-is-open (variant.Aborted epoch) may = absurd (none-some refusal.TransactionAborted (sym may))

pub is-own-flush : (i j : ℕ) → is_from i j (entry.Flushed i j) ≡ true
is-own-flush i j = own-le i j

module _ (cells : List (CoreCell CoreShard)) (caller : ℕ) (session : CoreSession)
    (acts : IsClientOf FitsShard CoreShardStands ShardAnswerSays cells caller session.number)
    (of_run : IsSessionOf FitsShard CoreShardStands ShardAnswerSays cells session.number) (own mid now : List CoreEntry) where
  pub flushes : (found : Counters) → LeavesOverShards cells caller session.number own mid []
      → now ≡ mid ++ desk_entry caller (call.Note (note.Flushed session.number (session.statements + 1)))
      (answer.Counted found) ∷ []
      → ExecutesInCore FitsShard CoreShardStands ShardAnswerSays cells caller (Says Flush) session own (counted session)
      now (reply.Flushed found.lse)
  flushes found first is =
      let number : ℕ = session.statements + 1 in
      let added : List JournalEntry = entry.Flushed session.number number ∷ [] in
      let none : session.commits ≡ session.commits + 0 = omega arith in
      executes FitsShard CoreShardStands ShardAnswerSays cells caller (Says Flush) session (counted session) own now added
      (reply.Flushed found.lse) (record {
        left =
            left-then FitsShard CoreShardStands ShardAnswerSays cells caller session.number own mid now [] added first
            (left-by-call FitsShard CoreShardStands ShardAnswerSays cells caller session.number acts mid now 0
            (call.Note (note.Flushed session.number number)) (answer.Counted found) is (λ o log run es later are. tt) (λ k. tt));
        counted = refl;
        numbered = (omega arith, omega arith, tt);
        becomes = λ watch i. record {
          mode = flush-keeps-mode (mode_of session.mode) session.number number i;
          watch = flush-keeps-watch watch added i;
          commits = none i;
        };
        answers = λ watch past o given events step r at.
            let count = r.counted in
            let leave : OwnCallsLeave FitsShard CoreShardStands ShardAnswerSays cells caller session.number mid past.entries =
            subst (λ (es : List JournalEntry). OwnCallsLeave FitsShard CoreShardStands ShardAnswerSays cells caller
            session.number mid es) (append-nil past.entries) (first.entries past.entries r.leaves)
            in
            let told : found ≡ counters o.safe (journal_before session.number number (journal_of o events)) =
            noted-counters FitsShard CoreShardStands ShardAnswerSays cells caller session.number acts of_run mid now
            (note.Flushed session.number number) found is number (last_number past) past.entries leave r.turn
            (omega (arith, count)) (is-own-flush session.number number) o r.from.log events r.from.run
            in
            let session_is = at.session_is in
            let number_is = at.number_is in
            subst (λ (x : ℕ). IsReply (record_of o given events) step (reply.Flushed x))
            (sym (ap (λ (x : Counters). x.lse) told
            ∙ sym (λ i. (counters o.safe (journal_before (session_is i) (number_is i) (journal_of o events))).lse)))
            (flushed (record_of o given events) step (mode_of session.mode)
            (parts-of session (counted session) watch (mode_of session.mode) (Says Flush)
            (λ i j. entry.Flushed i j ∷ []) step refl at));
      })

  noted-left : (found : Counters)
      → now ≡ mid ++ desk_entry caller (call.Note (note.Flushed session.number (session.statements + 1)))
      (answer.Counted found) ∷ []
      → LeavesOverShards cells caller session.number mid now (entry.Flushed session.number (session.statements + 1) ∷ [])
  noted-left found is =
      left-by-call FitsShard CoreShardStands ShardAnswerSays cells caller session.number acts mid now 0
      (call.Note (note.Flushed session.number (session.statements + 1))) (answer.Counted found) is
      (λ o log run es later are. tt) (λ k. tt)

  -- Where it is answered at all.
  pub flushes-noted : (result : Answered) → LeavesOverShards cells caller session.number own mid []
      → IfReplied result (HasNotedFlush caller session.number (session.statements + 1) mid now)
      → IfReplied result (ExecutesInCore FitsShard CoreShardStands ShardAnswerSays cells caller (Says Flush) session own
      (counted session) now)
  flushes-noted (Replied said) first noted =
      subst (λ (x : Reply). ExecutesInCore FitsShard CoreShardStands ShardAnswerSays cells caller (Says Flush) session own
      (counted session) now x) (sym noted.tells) (flushes noted.shown first noted.own_is)
  flushes-noted Stopped first noted = tt

  pub plain-noted : (result : Answered) → LeavesOverShards cells caller session.number own mid []
      → IfReplied result (HasNotedFlush caller session.number (session.statements + 1) mid now)
      → OnStopped result (LeavesOverShards cells caller session.number mid now [])
      → GoOnByCalls FitsShard CoreShardStands ShardAnswerSays cells caller session.number IsPlainCall own now
  plain-noted (Replied said) first noted stopped =
      (left-then FitsShard CoreShardStands ShardAnswerSays cells caller session.number own mid now []
      (entry.Flushed session.number (session.statements + 1) ∷ []) first (noted-left noted.shown noted.own_is)).plain
  plain-noted Stopped first noted stopped =
      (left-then FitsShard CoreShardStands ShardAnswerSays cells caller session.number own mid now [] [] first stopped).plain
