-- A statement that changes no rows is performed by calls that read, by what these leave.
use Rattle.std.proofs.Common.{◌≡◌, ◌∙◌, ℕ, ◌+◌, false, List, [], ◌∷◌, ◌++◌, Option, refl, sym, ap, subst, append_assoc, append-nil, length-append}
use Rattle.std.specs.List.{AllByRecursion}
use mathlib.Core.List.{IsPrefix}
use Rattle.core_selects.proofs.ReadingKinds.{reads-ask-none, reads-post-none, reads-speak}
use Rattle.core_selects.specs.ReadingCalls.{GoesOnByReading, IsReadingCall}
use Rattle.core_cubes.proofs.CallsGoOn.{go-on-as}
use Rattle.core_events.specs.Clients.{calls_of}
use Rattle.core_events.specs.Events.{Opening, ClientCall, CoreEvent}
use Rattle.core_states.proofs.LongerPasts.{in-turn-after, run-before}
use Rattle.core_states.specs.CorePasts.{CorePast, IsOneMore, last_number, last_step}
use Rattle.core_states.specs.RunsFrom.{IsRunFrom}
use Rattle.core_program.proofs.KnownCalls.{earlier-run}
use Rattle.core_program.specs.CoreFits.{CoreEntry}
use Rattle.core_program.specs.Knowing.{IsLaterRun}
use Rattle.core_records.specs.CoreRecords.{RunScripts, record_of}
use Rattle.core_records.specs.ScriptedCalls.{SpeaksByScript}
use Rattle.core_states.proofs.Growing.{IsStepOf, grown}
use Rattle.core_states.proofs.LeftCalls.{all-of-both, longer-front}
use Rattle.core_states.specs.LeftBehind.{AddsCalls, AddsEntries, AsksForNone}
use Rattle.core_states.specs.StandingInCore.{state_of_session}
use Rattle.core_states.specs.declared.session.CoreSession.{CoreSession}
use Rattle.cube_core.specs.declared.cell.CoreCell.{CoreCell}
use Rattle.cube_journal.specs.declared.journal_entry.JournalEntry.{JournalEntry}
use Rattle.cube_journal.specs.declared.reply.Reply.{Reply}
use Rattle.cube_language.specs.declared.statement.Statement.{Statement}
use Rattle.cube_run.specs.RunRecords.{Says, Sentence}
use Rattle.cube_run.specs.RunText.{IsReply}
use Rattle.cube_run.specs.SessionStates.{KeptWatch, SessionState, session_after}
use Rattle.cube_run.specs.SessionSteps.{SessionStep}
use Rattle.cube_run.specs.StatementEntries.{is_change}
use Rattle.linked_shards.specs.CellShards.{CoreShardStands}
use Rattle.shard_events.specs.ShardsInRuns.{FitsShard, ShardAnswerSays}
use Rattle.linked_shards.specs.declared.cell.CoreShard.{CoreShard}
use Rattle.played_scripts.specs.PlayedRuns.{AreNumbered}
use Rattle.posted_pasts.proofs.AddedCalls.{without-changes}
use Rattle.posted_pasts.proofs.DoneSteps.{by-no-change}
use Rattle.scripted_pasts.proofs.NamesMore.{none-more, with-statement as names-with-statement}
use Rattle.scripted_pasts.proofs.StepsNamed.{nothing-named}
use Rattle.posted_pasts.proofs.PostsMore.{with-calls, with-statement}
use Rattle.posted_pasts.specs.PostsAdded.{AddsNoOperation, LearnsThat, PostsNoChange}
use Rattle.posted_pasts.specs.PostsBehind.{PostsStandBehind}
use Rattle.scripted_pasts.specs.BehindScripts.{StandsForScript}
use Rattle.scripted_pasts.specs.Performed.{WhateverFile, every_of}
use Rattle.scripted_pasts.specs.ScriptClaims.{IsRunOfScripts, OpensForScripts}
use Rattle.scripted_pasts.specs.Served.{PerformsWatchedOverShards}
use Rattle.scripted_pasts.specs.SpokenCalls.{SpeakBySentences}

module _ (cells : List (CoreCell CoreShard)) (caller session : ℕ) where
  -- Calls that read add no operation, and speak by whatever script comes.

  reads-learn : (own now : List CoreEntry) → GoesOnByReading cells caller session own now
      → LearnsThat FitsShard CoreShardStands ShardAnswerSays AddsNoOperation cells caller session own now
  reads-learn own now goes = λ o log run es later are.
      let a : AddsCalls FitsShard CoreShardStands ShardAnswerSays PostsNoChange o session own es =
      go-on-as FitsShard CoreShardStands ShardAnswerSays cells caller session (IsReadingCall session) PostsNoChange own now
      (reads-post-none session) goes o log run es later are
      in
      record {
        before = a.before;
        events = a.events;
        adds = subst (λ (calls : List ClientCall). AddsNoOperation session o (calls_of session a.before) calls)
            (sym a.calls) (without-changes o session a.added (calls_of session a.before) a.each);
      }

  reads-spoken : (sentences : List Sentence) (sentence : Sentence) (own now : List CoreEntry) → IsPrefix own now
      → GoesOnByReading cells caller session own now
      → SpeakBySentences FitsShard CoreShardStands ShardAnswerSays cells caller session sentences own
      → SpeakBySentences FitsShard CoreShardStands ShardAnswerSays cells caller session (sentences ++ sentence ∷ []) now
  reads-spoken sentences sentence own now more goes speak = λ o log run es later are rest.
      let script : List Sentence = (sentences ++ sentence ∷ []) ++ rest in
      let a : AddsCalls FitsShard CoreShardStands ShardAnswerSays (SpeaksByScript script) o session own es =
      go-on-as FitsShard CoreShardStands ShardAnswerSays cells caller session (IsReadingCall session)
      (SpeaksByScript script) own now (reads-speak session script) goes o log run es later are
      in
      let earlier : IsLaterRun FitsShard CoreShardStands ShardAnswerSays cells o caller own log run =
      earlier-run FitsShard CoreShardStands ShardAnswerSays cells o caller own more.0 log run
      (subst (λ (l : List CoreEntry). IsLaterRun FitsShard CoreShardStands ShardAnswerSays cells o caller l log run)
      (sym more.1) later)
      in
      let before : AllByRecursion (SpeaksByScript script) (calls_of session a.before) =
      subst (λ (l : List Sentence). AllByRecursion (SpeaksByScript l) (calls_of session a.before))
      (sym (append_assoc sentences (sentence ∷ []) rest))
      (speak o log run a.before earlier a.events (sentence ∷ rest))
      in
      subst (λ (calls : List ClientCall). AllByRecursion (SpeaksByScript script) calls) (sym a.calls)
      (all-of-both (SpeaksByScript script) a.added (calls_of session a.before) a.each before)

module _ (cells : List (CoreCell CoreShard)) (caller : ℕ) where
  abbrev pub StandsFor : ℕ → List CoreEntry → ℕ → CorePast → SessionState → Type 0
  StandsFor session own every past state =
      StandsForScript FitsShard CoreShardStands ShardAnswerSays cells caller session own every past state

  -- A run of scripts goes on from what was behind with the statement.
  pub record IsRunAfter (s : Statement) (old : CoreSession) (own now : List CoreEntry) (added : List JournalEntry)
      (past : CorePast) (watch : Option KeptWatch) (o : Opening) (given : RunScripts) (events : List CoreEvent)
      : Type 0 where
    pub stood : StandsFor old.number own (every_of old) past (state_of_session old watch)
    pub counted : old.statements ≡ last_number past
    pub from : IsRunFrom FitsShard CoreShardStands ShardAnswerSays cells caller old.number
        (grown past (Says s) now added) o given events
    pub before : IsRunFrom FitsShard CoreShardStands ShardAnswerSays cells caller old.number past o given events
    pub scripted : IsRunOfScripts (every_of old) o given events

  -- It is answered, by what its calls leave.
  pub record IsAnsweredByReading (s : Statement) (old new : CoreSession) (own now : List CoreEntry)
      (added : List JournalEntry) (said : Reply) : Type 0 where
    pub more : IsPrefix own now
    pub entries : AddsEntries FitsShard CoreShardStands ShardAnswerSays cells caller old.number own now added
    pub calls : GoesOnByReading cells caller old.number own now
    pub statements : new.statements ≡ old.statements + 1
    pub numbered : AreNumbered new.statements new.statements added
    pub becomes : (watch : Option KeptWatch)
        → state_of_session new watch ≡ session_after (state_of_session old watch) (Says s) added
    pub answers : (watch : Option KeptWatch) (past : CorePast) (o : Opening) (given : RunScripts)
        (events : List CoreEvent) (step : SessionStep) → IsRunAfter s old own now added past watch o given events
        → IsStepOf old new watch (Says s) added step → IsReply (record_of o given events) step said

  pub performs : (s : Statement) (old new : CoreSession) (own now : List CoreEntry) (added : List JournalEntry)
      (said : Reply) → is_change s ≡ false → IsAnsweredByReading s old new own now added said
      → PerformsWatchedOverShards cells caller WhateverFile s old own new now said
  performs s old new own now added said no_change h = λ watch lets past st count.
      let after = grown past (Says s) now added in
      let state = state_of_session old watch in
      let number : new.statements ≡ last_number past + 1 = h.statements ∙ ap (λ (n : ℕ). n + 1) count in
      let longer : last_number after ≡ new.statements = length-append past.sentences (Says s ∷ []) ∙ sym number in
      let one : IsOneMore past after (Says s) added = record {
        sentences = refl;
        files = λ n l. refl;
        own = longer-front past.own own now st.stands_there.begins h.more;
        entries = refl;
        numbered = subst (λ (n : ℕ). AreNumbered n n added) number h.numbered;
      } in
      let turn = st.stands_there.turn in
      let posted : PostsStandBehind FitsShard CoreShardStands ShardAnswerSays cells caller old.number
      (OpensForScripts (every_of old)) after now (session_after state (Says s) added) =
      with-statement FitsShard CoreShardStands ShardAnswerSays cells caller old.number (OpensForScripts (every_of old)) past
      after state (Says s) added turn one now
      (λ o given events from also.
      by-no-change (record_of o given events) (last_step old.number after state (Says s) added) s refl no_change)
      (with-calls FitsShard CoreShardStands ShardAnswerSays cells caller old.number (OpensForScripts (every_of old)) past own
      now state h.more (reads-learn cells caller old.number own now h.calls) st.posts)
      in
      record {
        after = after;
        added = added;
        more = one;
        becomes = h.becomes watch;
        goes_on = h.more;
        stands_then = record {
          stands_there = record {
            turn = in-turn-after past after (Says s) added one turn;
            begins = ([], append-nil now);
            leaves = h.entries past.entries st.stands_there.leaves;
          };
          posts =
              subst (λ (next : SessionState). PostsStandBehind FitsShard CoreShardStands ShardAnswerSays cells caller
              old.number (OpensForScripts (every_of old)) after now next) (sym (h.becomes watch)) posted;
          names =
              names-with-statement FitsShard CoreShardStands ShardAnswerSays cells caller old.number
              (OpensForScripts (every_of old)) past after state (Says s) added turn one own now h.more st.posts.becomes
              (none-more FitsShard CoreShardStands ShardAnswerSays cells caller old.number
              (OpensForScripts (every_of old)) after own now
              (go-on-as FitsShard CoreShardStands ShardAnswerSays cells caller old.number (IsReadingCall old.number)
              AsksForNone own now
              (reads-ask-none old.number) h.calls))
              (λ o given events from also.
              nothing-named (record_of o given events) (last_step old.number after state (Says s) added)
              (by-no-change (record_of o given events) (last_step old.number after state (Says s) added) s refl
              no_change))
              st.names;
          speaks = reads-spoken cells caller old.number past.sentences (Says s) own now h.more h.calls st.speaks;
        };
        file = tt;
        answers = λ o given events from scripted.
            h.answers watch past o given events (last_step old.number after state (Says s) added)
            (record {
              stood = st;
              counted = count;
              from = from;
              before = run-before FitsShard CoreShardStands ShardAnswerSays cells caller old.number past after (Says s)
                  added o given events one from;
              scripted = scripted;
            })
            (record {
              session_is = refl;
              number_is = longer;
              sentence_is = refl;
              state_is = refl;
              entries_are = refl;
            });
      }
