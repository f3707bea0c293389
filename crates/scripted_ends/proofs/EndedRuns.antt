-- The run in which each session has played its script to the end.
use Rattle.std.proofs.Common.{◌≡◌, ◌∙◌, ◌⊎◌, ℕ, List, [], ◌++◌, length, inl, inr, refl, sym, subst, arith, append-nil}
use Rattle.std.specs.List.{AllByRecursion}
use Rattle.std.proofs.lemmas.Bool.Decides.{leb_tells}
use Rattle.core_agreements.specs.ScriptedRuns.{CommitsStand, IsScriptedRun}
use Rattle.cube_core.specs.Links.{AreEventsOf, HasOwnEvents}
use Rattle.core_events.specs.Clients.{calls_of}
use Rattle.core_events.specs.Events.{Opening, IsSession, CoreEvent}
use Rattle.core_events.specs.Jobs.{CoreJob, JobOutcome}
use Rattle.core_events.specs.ShardView.{ShardView}
use Rattle.core_states.proofs.PlayedOut.{run-played}
use Rattle.core_states.specs.Endings.{HasEnded, IsScriptedHistory}
use Rattle.core_program.proofs.KnownCalls.{client-part}
use Rattle.cube_core.specs.BoardCells.{IsEntryEvent, client_of}
use Rattle.core_program.specs.CoreFits.{CoreEntry}
use Rattle.core_program.specs.Knowing.{IsLaterRun}
use Rattle.core_records.proofs.NamesOnRecord.{names-end}
use Rattle.core_records.proofs.SpokenNames.{record-legal}
use Rattle.core_records.specs.CoreRecords.{RunScripts, record_of}
use Rattle.core_records.specs.ScriptedCalls.{FollowScripts, SpeaksByScript, script_given}
use Rattle.cube_core.specs.declared.cell.CoreCell.{CoreCell}
use Rattle.cube_core.specs.declared.shard.ShardAnswer.{ShardAnswer}
use Rattle.cube_core.specs.declared.shard.ShardCall.{ShardCall}
use Rattle.cube_journal.specs.declared.reply.Reply.{Reply}
use Rattle.cube_run.specs.RunRecords.{LoadedFile, Missing, Sentence, script_of}
use Rattle.played_scripts.proofs.Played.{merge_of_played, text_of_played}
use Rattle.played_scripts.specs.PlayedRuns.{HavePlayed}
use Rattle.scripted_pasts.proofs.NamesAtEnd.{names-stand}
use Rattle.scripted_pasts.proofs.NamesFit.{final-names-fit}
use Rattle.scripted_pasts.specs.NamesStand.{NamesStand}
use Rattle.posted_pasts.proofs.PostsAtEnd.{commits-stand}
use Rattle.scripted_ends.proofs.EndedSessions.{AtTheEnd, at-the-end}
use Rattle.scripted_ends.specs.PlayedHistories.{HaveAllPlayed, IsPlayedRun, IsRunOfHistory, of_session}
use Rattle.scripted_pasts.specs.PlayedScripts.{AreKnownFiles, FileClaim}
use Rattle.scripted_pasts.specs.ScriptClaims.{IsRunOfScripts, OpensForScripts}

one-of-them : (o : Opening) (session : ℕ) → IsSession o session ⊎ (IsSession o session → ⊥)
one-of-them o session = elim (leb_tells 1 session) [
  | inl first ↦
      elim (leb_tells session o.sessions) [
        | inl last ↦ inl (record { first = first.1; last = last.1 })
        | inr above ↦ inr (λ is. let high = above.1 in let last = is.last in omega (arith, high, last))
      ]
  | inr none ↦ inr (λ is. let low = none.1 in let first = is.first in omega (arith, low, first))
]

module _ {S : Type 0} (fits : Opening → ℕ → ShardCall → Type 0) (stands : Opening → ℕ → ℕ → S → ShardView → Type 0)
    (says : CoreJob → ShardAnswer → JobOutcome → Type 0) (cells : List (CoreCell S)) (o : Opening)
    (log : List CoreEntry) (IsFile : ℕ → FileClaim) (replies : List (List Reply)) where
  -- A session is at the end of the script that is given to it, and its files were those given.
  pub record EndsAs (given : RunScripts) (session : ℕ) : Type 0 where
    pub end : AtTheEnd fits stands says cells (IsFile session) given.round_every session (script_given given session)
        (of_session replies session) log
    pub files : (number : ℕ) → given.file session number ≡ end.past.files number

  module _ (given : RunScripts) (events : List CoreEvent) (h : IsRunOfHistory fits stands says cells o log events)
      (long : length given.scripts ≡ o.sessions) (replied : length replies ≡ o.sessions)
      (ends : (session : ℕ) → IsSession o session → EndsAs given session) where
    module _ (session : ℕ) (is_session : IsSession o session) where
      abbrev e : AtTheEnd fits stands says cells (IsFile session) given.round_every session (script_given given session)
          (of_session replies session) log
      e = (ends session is_session).end

      all-later : IsLaterRun fits stands says cells o e.caller (e.past.own ++ e.ending) log events
      all-later = record {
        opens = h.opens;
        begins = ([], append-nil (e.past.own ++ e.ending) ∙ sym e.own);
        events = h.events;
        is_run = h.is_run;
      }

      record OwnEvents : Type 0 where
        own : List CoreEvent
        are : AreEventsOf (IsEntryEvent fits stands says o) (e.past.own ++ e.ending) own
        same : calls_of session events ≡ calls_of session own

      own-events : OwnEvents
      own-events =
          let part : HasOwnEvents (IsEntryEvent fits stands says o) e.caller (calls_of (client_of o e.caller)) log
          events =
          client-part fits stands says o e.caller log events (e.client.acts o log h.opens) h.events
          in
          let is = e.client.client_is o log h.opens in
          record {
            own = part.own;
            are = subst (λ (l : List CoreEntry). AreEventsOf (IsEntryEvent fits stands says o) l part.own) e.own
                part.events;
            same = coe 1 0 (i. calls_of (is i) events ≡ calls_of (is i) part.own) part.same;
          }

      follows : AllByRecursion (SpeaksByScript (script_given given session)) (calls_of session events)
      follows =
          let script : script_given given session ≡ e.past.sentences ++ [] =
          sym e.sentences ∙ sym (append-nil e.past.sentences)
          in
          coe 1 0 (i. AllByRecursion (SpeaksByScript (script i)) (own-events.same i))
          (e.speaks o log events own-events.own all-later own-events.are [])

    follow : FollowScripts o given events
    follow = record { each = long; cubes = λ session is_session. follows session is_session }

    history : IsScriptedHistory fits stands says cells o given log events
    history = record { opens = h.opens; events = h.events; is_run = h.is_run; follow = follow }

    abbrev ended : (session : ℕ) → IsSession o session
        → HasEnded fits stands says cells o given log (IsRunOfScripts given.round_every) session
        (of_session replies session)
    ended session is_session = record {
      caller = (ends session is_session).end.caller;
      client = (ends session is_session).end.client;
      past = (ends session is_session).end.past;
      turn = (ends session is_session).end.turn;
      script = sym (ends session is_session).end.sentences;
      files = λ number l. (ends session is_session).files number;
      state = (ends session is_session).end.state;
      played = (ends session is_session).end.played;
      ending = (ends session is_session).end.ending;
      own = (ends session is_session).end.own;
      leaves = (ends session is_session).end.leaves;
    }

    commits : (session : ℕ) → IsSession o session → CommitsStand o given events session
    commits session is_session =
        commits-stand fits stands says cells o given log (OpensForScripts given.round_every)
        (IsRunOfScripts given.round_every) events session (of_session replies session) history
        (ended session is_session)
        (ends session is_session).end.state is_session (record { opens = h.cubes; every_is = refl })
        (ends session is_session).end.posts

    pub scripted : IsScriptedRun o given events
    scripted = record { run = h.is_run; follow = follow; opens = h.cubes; commits = commits }

    -- Each session's calls and statements fit the dictionaries in the end.
    names : (session : ℕ) → IsSession o session → NamesStand (record_of o given events) session
        (script_of (record_of o given events) session) (calls_of session events)
    names session is_session =
        names-stand fits stands says cells o given log (OpensForScripts given.round_every)
        (IsRunOfScripts given.round_every) events session (of_session replies session) history
        (ended session is_session) is_session (record { opens = h.cubes; every_is = refl })
        (ends session is_session).end.names

    pub have-played : HavePlayed (record_of o given events) replies
    have-played =
        run-played fits stands says cells o given log (IsRunOfScripts given.round_every) events history replies
        (record { run = scripted; every_is = refl }) replied ended

    pub on-record : (every : ℕ) (scripts : List (List Sentence)) → given.scripts ≡ scripts → given.round_every ≡ every
        → ((session : ℕ) → IsSession o session
        → AreKnownFiles (IsFile session) (of_session scripts session) (of_session replies session) (given.file session))
        → IsPlayedRun IsFile every scripts replies o events
    on-record every scripts scripts_are every_is files = record {
      given = given;
      scripts_are = scripts_are;
      every_is = every_is;
      files = files;
      run = scripted;
      played = have-played;
      legal = record-legal o given events h.is_run follow;
      merge = merge_of_played (record_of o given events) replies have-played;
      text = text_of_played (record_of o given events) replies have-played;
      names = names-end o given events h.is_run follow h.cubes.names;
      fit = final-names-fit o given events scripted names;
    }

  -- The files that the sessions had are given to them.
  module _ (every : ℕ) (scripts : List (List Sentence))
      (each : (session : ℕ) → IsSession o session
      → AtTheEnd fits stands says cells (IsFile session) every session (of_session scripts session)
      (of_session replies session) log)
    where
      files-at : (session : ℕ) → IsSession o session ⊎ (IsSession o session → ⊥) → ℕ → LoadedFile
      files-at session (inl is) number = (each session is).past.files number
      files-at session (inr none) number = Missing

      abbrev all-given : RunScripts
      all-given = record {
        scripts = scripts;
        file = λ session number. files-at session (one-of-them o session) number;
        round_every = every;
      }

      had-files : (session : ℕ) (d : IsSession o session ⊎ (IsSession o session → ⊥)) → IsSession o session
          → (e : AtTheEnd fits stands says cells (IsFile session) every session (of_session scripts session)
          (of_session replies session) log) × ((number : ℕ) → files-at session d number ≡ e.past.files number)
      unfolding files-at
      had-files session (inl is) now = (each session is, λ number. refl)
      had-files session (inr none) now = absurd (none now)

      ends-as : (session : ℕ) → IsSession o session → EndsAs all-given session
      ends-as session is =
          let had = had-files session (one-of-them o session) is in record { end = had.0; files = had.1 }

      known-files : (session : ℕ) → IsSession o session
          → AreKnownFiles (IsFile session) (of_session scripts session) (of_session replies session) (all-given.file session)
      known-files session is =
          let x : EndsAs all-given session = ends-as session is in
          coe 1 0 (i. AreKnownFiles (IsFile session) (of_session scripts session) (of_session replies session)
          (λ number. x.files number i)) x.end.files

      pub run-on-record : (events : List CoreEvent) → IsRunOfHistory fits stands says cells o log events
          → length scripts ≡ o.sessions → length replies ≡ o.sessions
          → IsPlayedRun IsFile every scripts replies o events
      run-on-record events h long replied =
          on-record all-given events h long replied ends-as every scripts refl refl known-files

module _ {S : Type 0} (fits : Opening → ℕ → ShardCall → Type 0) (stands : Opening → ℕ → ℕ → S → ShardView → Type 0)
    (says : CoreJob → ShardAnswer → JobOutcome → Type 0) (cells : List (CoreCell S)) where
  pub scripts-end : (IsFile : ℕ → FileClaim) (o : Opening) (log : List CoreEntry) (events : List CoreEvent) (every : ℕ)
      (scripts : List (List Sentence)) (replies : List (List Reply))
      → IsRunOfHistory fits stands says cells o log events
      → HaveAllPlayed fits stands says cells o log IsFile every scripts replies
      → IsPlayedRun IsFile every scripts replies o events
  scripts-end IsFile o log events every scripts replies h all =
      run-on-record fits stands says cells o log IsFile replies every scripts
      (λ session is.
      at-the-end fits stands says cells (IsFile session) every session (of_session scripts session)
      (of_session replies session) log (all.each session is))
      events h all.as_many_scripts all.as_many_replies
