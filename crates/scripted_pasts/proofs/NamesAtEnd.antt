-- Names that stand behind a session stand in the run in which it has ended its script.
use Rattle.std.proofs.Common.{◌≡◌, ◌∙◌, ℕ, ◌+◌, List, [], ◌++◌, sym, ap, subst, arith, append-nil}
use Rattle.turn_board.specs.History.{of_caller}
use Rattle.core_events.specs.Clients.{calls_of}
use Rattle.core_events.specs.Events.{Opening, IsSession, CoreEvent}
use Rattle.core_events.specs.Jobs.{CoreJob, JobOutcome}
use Rattle.core_events.specs.ShardView.{ShardView}
use Rattle.core_program.proofs.KnownCalls.{client-part}
use Rattle.core_program.specs.CoreFits.{CoreEntry}
use Rattle.core_program.specs.Knowing.{IsLaterRun}
use Rattle.core_records.proofs.SessionParts.{own-part}
use Rattle.core_records.specs.CoreRecords.{RunScripts, record_of}
use Rattle.core_records.specs.OwnEntries.{entries_by_calls}
use Rattle.core_states.specs.CorePasts.{last_number}
use Rattle.core_states.specs.Endings.{HasEnded, IsScriptedHistory}
use Rattle.core_states.specs.RunsFrom.{IsRunFrom, RunClaim}
use Rattle.cube_core.specs.BoardCells.{IsEntryEvent, client_of}
use Rattle.cube_core.specs.Links.{AreEventsOf, HasOwnEvents}
use Rattle.cube_core.specs.declared.cell.CoreCell.{CoreCell}
use Rattle.cube_core.specs.declared.shard.ShardAnswer.{ShardAnswer}
use Rattle.cube_core.specs.declared.shard.ShardCall.{ShardCall}
use Rattle.cube_journal.specs.declared.journal_entry.JournalEntry.{JournalEntry}
use Rattle.cube_journal.specs.declared.reply.Reply.{Reply}
use Rattle.cube_run.specs.RunRecords.{script_of}
use Rattle.cube_run.specs.SessionStates.{KeptWatch, Mode, Idle, Open, Aborted}
use Rattle.cube_run.specs.StatementEntries.{script_end}
use Rattle.scripted_pasts.specs.NamesBehind.{NamesStandBehind}
use Rattle.scripted_pasts.specs.NamesStand.{NamesStand}
use Rattle.played_scripts.proofs.Numbered.{none_earlier}
use Rattle.played_scripts.specs.PlayedRuns.{AreNumbered}
use Rattle.std.specs.Prelude.{Option, Some, None}

-- The entries of a script's end are of the statement behind the last.
end-numbered : (session j : ℕ) (mode : Mode) (watch : Option KeptWatch)
    → AreNumbered j j (script_end session j mode watch)
end-numbered session j Idle None = tt
end-numbered session j Idle (Some kept) = (omega arith, omega arith, tt)
end-numbered session j (Open writer) None = (omega arith, omega arith, tt)
end-numbered session j (Open writer) (Some kept) = (omega arith, omega arith, (omega arith, omega arith, tt))
end-numbered session j (Aborted epoch) None = tt
end-numbered session j (Aborted epoch) (Some kept) = (omega arith, omega arith, tt)

module _ {S : Type 0} (fits : Opening → ℕ → ShardCall → Type 0) (stands : Opening → ℕ → ℕ → S → ShardView → Type 0)
    (says : CoreJob → ShardAnswer → JobOutcome → Type 0) (cells : List (CoreCell S)) (o : Opening)
    (given : RunScripts) (log : List CoreEntry) (besides judged : RunClaim) (events : List CoreEvent) (session : ℕ)
    (replies : List Reply) (h : IsScriptedHistory fits stands says cells o given log events)
    (e : HasEnded fits stands says cells o given log judged session replies) where
  abbrev number : ℕ
  number = last_number e.past + 1

  abbrev added : List JournalEntry
  added = script_end session number e.state.mode e.state.watch

  later : (own more : List CoreEntry) → own ++ more ≡ of_caller e.caller log
      → IsLaterRun fits stands says cells o e.caller own log events
  later own more is = record { opens = h.opens; begins = (more, is); events = h.events; is_run = h.is_run }

  all-later : IsLaterRun fits stands says cells o e.caller (e.past.own ++ e.ending) log events
  all-later = later (e.past.own ++ e.ending) [] (append-nil (e.past.own ++ e.ending) ∙ sym e.own)

  -- The session's calls are those of its own entries.
  record OwnEvents : Type 0 where
    own : List CoreEvent
    are : AreEventsOf (IsEntryEvent fits stands says o) (e.past.own ++ e.ending) own
    same : calls_of session events ≡ calls_of session own

  own-events : OwnEvents
  own-events =
      let part : HasOwnEvents (IsEntryEvent fits stands says o) e.caller (calls_of (client_of o e.caller)) log events =
      client-part fits stands says o e.caller log events (e.client.acts o log h.opens) h.events
      in
      let is = e.client.client_is o log h.opens in
      record {
        own = part.own;
        are = subst (λ (l : List CoreEntry). AreEventsOf (IsEntryEvent fits stands says o) l part.own) e.own
            part.events;
        same = coe 1 0 (i. calls_of (is i) events ≡ calls_of (is i) part.own) part.same;
      }

  entries-are : entries_by_calls o session (calls_of session events) ≡ e.past.entries ++ added
  entries-are =
      ap (entries_by_calls o session) own-events.same ∙ e.leaves o log events own-events.own all-later own-events.are

  from-past : IsSession o session → IsRunFrom fits stands says cells e.caller session e.past o given events
  from-past is_session = record {
    log = log;
    run = later e.past.own e.ending (sym e.own);
    follow = h.follow;
    rest = [];
    script = e.script ∙ sym (append-nil e.past.sentences);
    files = e.files;
    later = added;
    part = own-part o events session h.is_run is_session ∙ entries-are;
    others = λ n l.
        none_earlier n number number added (omega (arith, l.1))
        (end-numbered session number e.state.mode e.state.watch);
  }

  pub names-stand : IsSession o session → besides o given events
      → NamesStandBehind fits stands says cells e.caller session besides e.past (e.past.own ++ e.ending)
      → NamesStand (record_of o given events) session (script_of (record_of o given events) session)
      (calls_of session events)
  names-stand is_session also b =
      coe 1 0 (i. NamesStand (record_of o given events) session (e.script i) (own-events.same i))
      (b o given events own-events.own (record {
        from = from-past is_session;
        also = also;
        log = log;
        later = all-later;
        calls = own-events.are;
      }))
