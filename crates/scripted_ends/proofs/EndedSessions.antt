-- A session at the end of its script, by what is behind it and its last calls.
use Rattle.std.proofs.Common.{◌≡◌, ℕ, ◌+◌, List, ◌++◌, Option, sym, ap}
use mathlib.Core.List.{IsPrefix}
use Rattle.core_events.specs.Events.{Opening}
use Rattle.core_events.specs.Jobs.{CoreJob, JobOutcome}
use Rattle.core_events.specs.ShardView.{ShardView}
use Rattle.core_states.specs.CorePasts.{CorePast, IsInTurn, last_number}
use Rattle.core_states.specs.OwnCalls.{OwnCallsLeave}
use Rattle.core_states.specs.RunsFrom.{GoesOn}
use Rattle.core_program.specs.CoreFits.{CoreEntry}
use Rattle.core_program.specs.Knowing.{IsClientOf}
use Rattle.core_states.proofs.LeftCalls.{longer-front}
use Rattle.core_states.specs.StandingInCore.{state_of_session}
use Rattle.core_states.specs.declared.session.CoreSession.{CoreSession}
use Rattle.cube_core.specs.declared.cell.CoreCell.{CoreCell}
use Rattle.cube_core.specs.declared.shard.ShardAnswer.{ShardAnswer}
use Rattle.cube_core.specs.declared.shard.ShardCall.{ShardCall}
use Rattle.cube_journal.specs.declared.reply.Reply.{Reply}
use Rattle.cube_run.specs.RunRecords.{Sentence}
use Rattle.cube_run.specs.SessionStates.{KeptWatch, SessionState}
use Rattle.cube_run.specs.StatementEntries.{script_end}
use Rattle.played_scripts.specs.Promises.{IsPlayed}
use Rattle.scripted_pasts.proofs.NamesMore.{with-calls as names-with-calls}
use Rattle.scripted_pasts.specs.NamesBehind.{NamesStandBehind}
use Rattle.posted_pasts.proofs.PostsMore.{with-calls}
use Rattle.posted_pasts.specs.PostsBehind.{PostsStandBehind}
use Rattle.scripted_ends.specs.EndedScripts.{EndsScript, HasPlayedToTheEnd}
use Rattle.scripted_pasts.proofs.QuietLearns.{quiet-asks, quiet-learns}
use Rattle.scripted_pasts.proofs.SpokenMore.{quiet-calls-speak}
use Rattle.scripted_pasts.specs.BehindScripts.{StandsForScript}
use Rattle.scripted_pasts.specs.Performed.{every_of}
use Rattle.scripted_pasts.specs.PlayedScripts.{AreKnownFiles, FileClaim, HasPlayedScript}
use Rattle.scripted_pasts.specs.ScriptClaims.{IsRunOfScripts, OpensForScripts}
use Rattle.scripted_pasts.specs.SpokenCalls.{SpeakBySentences}
use Rattle.turn_board.specs.History.{of_caller}

module _ {S : Type 0} (fits : Opening → ℕ → ShardCall → Type 0) (stands : Opening → ℕ → ℕ → S → ShardView → Type 0)
    (says : CoreJob → ShardAnswer → JobOutcome → Type 0) (cells : List (CoreCell S)) where
  pub record AtTheEnd (IsFile : FileClaim) (every session : ℕ) (script : List Sentence) (replies : List Reply)
      (log : List CoreEntry) : Type 0 where
    pub caller : ℕ
    pub client : IsClientOf fits stands says cells caller session
    pub past : CorePast
    pub state : SessionState
    pub ending : List CoreEntry
    pub sentences : past.sentences ≡ script
    pub turn : IsInTurn past
    pub own : of_caller caller log ≡ past.own ++ ending
    pub leaves : OwnCallsLeave fits stands says cells caller session (past.own ++ ending)
        (past.entries ++ script_end session (last_number past + 1) state.mode state.watch)
    pub played : IsPlayed (GoesOn fits stands says cells caller session (IsRunOfScripts every)) session
        past.sentences past replies state
    pub posts : PostsStandBehind fits stands says cells caller session (OpensForScripts every) past (past.own ++ ending)
        state
    pub names : NamesStandBehind fits stands says cells caller session (OpensForScripts every) past
        (past.own ++ ending)
    pub speaks : SpeakBySentences fits stands says cells caller session past.sentences (past.own ++ ending)
    pub files : AreKnownFiles IsFile script replies past.files

  at-last : (IsFile : FileClaim) (caller : ℕ) (last : CoreSession) (watch : Option KeptWatch) (own : List CoreEntry)
      (script : List Sentence) (replies : List Reply) (log : List CoreEntry)
      → IsClientOf fits stands says cells caller last.number
      → HasPlayedScript fits stands says cells caller IsFile last watch own script replies
      → EndsScript fits stands says cells caller last watch own (of_caller caller log)
      → AtTheEnd IsFile (every_of last) last.number script replies log
  at-last IsFile caller last watch own script replies log client h e =
      let now : List CoreEntry = of_caller caller log in
      let state : SessionState = state_of_session last watch in
      let b : StandsForScript fits stands says cells caller last.number own (every_of last) h.past state =
      h.stands_there
      in
      let begins : IsPrefix h.past.own now = longer-front h.past.own own now b.stands_there.begins e.more in
      let number : last_number h.past + 1 ≡ last.statements + 1 = ap (λ (n : ℕ). n + 1) (sym h.counted) in
      record {
        caller = caller;
        client = client;
        past = h.past;
        state = state_of_session last watch;
        ending = begins.0;
        sentences = h.sentences;
        turn = b.stands_there.turn;
        own = sym begins.1;
        leaves =
            coe 1 0 (i. OwnCallsLeave fits stands says cells caller last.number (begins.1 i)
            (h.past.entries ++ script_end last.number (number i) state.mode watch))
            (e.entries h.past.entries b.stands_there.leaves);
        played = h.played;
        posts =
            coe 1 0 (i. PostsStandBehind fits stands says cells caller last.number (OpensForScripts (every_of last))
            h.past (begins.1 i) state)
            (with-calls fits stands says cells caller last.number (OpensForScripts (every_of last)) h.past own now
            state e.more (quiet-learns fits stands says cells caller last.number own now e.calls) b.posts);
        names =
            coe 1 0 (i. NamesStandBehind fits stands says cells caller last.number (OpensForScripts (every_of last))
            h.past (begins.1 i))
            (names-with-calls fits stands says cells caller last.number (OpensForScripts (every_of last)) h.past own now
            e.more (quiet-asks fits stands says cells caller last.number own now e.calls) b.names);
        speaks =
            coe 1 0 (i. SpeakBySentences fits stands says cells caller last.number h.past.sentences (begins.1 i))
            (quiet-calls-speak fits stands says cells caller last.number h.past.sentences own now e.more e.calls
            b.speaks);
        files = h.files;
      }

  pub at-the-end : (IsFile : FileClaim) (every session : ℕ) (script : List Sentence) (replies : List Reply)
      (log : List CoreEntry) → HasPlayedToTheEnd fits stands says cells IsFile every session script replies log
      → AtTheEnd IsFile every session script replies log
  at-the-end IsFile every session script replies log h =
      coe 0 1 (i. AtTheEnd IsFile (h.every_is i) (h.number_is i) script replies log)
      (at-last IsFile h.caller h.last h.watch h.own script replies log
      (coe 1 0 (i. IsClientOf fits stands says cells h.caller (h.number_is i)) h.client) h.played h.ends)
