-- What a session has posted, once it has played its script and at a statement inside its transaction.
use Rattle.std.proofs.Common.{◌≡◌, ◌∙◌, ℕ, ◌+◌, Bool, true, false, ◌||◌, List, [], ◌++◌, filter, nat_lt, slice_get, Option, Some, None, refl, sym, ap, subst, arith, append-nil}
use Rattle.std.specs.List.{list_any}
use Rattle.std.proofs.lemmas.List.Folds.{list_any-append}
use Rattle.turn_board.specs.History.{of_caller}
use Rattle.condition_spans.specs.Codes.{lists_at}
use Rattle.core_agreements.specs.PostsForOperations.{PostsStandFor}
use Rattle.core_agreements.specs.ScriptedRuns.{CommitsStand, IsAtStatement}
use Rattle.cube_core.specs.Links.{AreEventsOf, HasOwnEvents}
use Rattle.cube_core.specs.BoardCells.{IsEntryEvent, client_of}
use Rattle.core_program.proofs.KnownCalls.{client-part}
use Rattle.core_program.specs.Knowing.{IsLaterRun}
use Rattle.core_events.specs.Cells.{counters_of_run}
use Rattle.core_events.specs.Clients.{calls_of}
use Rattle.core_events.specs.Events.{Opening, IsSession, CoreEvent}
use Rattle.core_events.specs.Jobs.{CoreJob, JobOutcome}
use Rattle.core_events.specs.ShardView.{ShardView}
use Rattle.core_states.specs.CorePasts.{CorePast, last_number}
use Rattle.core_states.specs.Endings.{HasEnded, IsScriptedHistory}
use Rattle.core_states.specs.RunsFrom.{IsRunFrom, RunClaim}
use Rattle.core_program.specs.CoreFits.{CoreEntry}
use Rattle.core_records.proofs.CubesOnRecord.{run-before as run-of-earlier}
use Rattle.core_records.proofs.SessionParts.{own-part}
use Rattle.core_records.specs.CoreRecords.{RunScripts, record_of}
use Rattle.core_records.specs.OwnEntries.{entries_by_calls}
use Rattle.core_serial.specs.OwnOperations.{operations_by_calls}
use Rattle.core_states.specs.StandingInCore.{StandsInCore}
use Rattle.cube_core.specs.declared.cell.CoreCell.{CoreCell}
use Rattle.cube_core.specs.declared.shard.ShardAnswer.{ShardAnswer}
use Rattle.cube_core.specs.declared.shard.ShardCall.{ShardCall}
use Rattle.cube_journal.specs.Counters.{held_by}
use Rattle.cube_journal.specs.declared.journal_entry.JournalEntry.{JournalEntry}
use Rattle.cube_journal.specs.declared.reply.Reply.{Reply}
use Rattle.cube_language.specs.declared.decl.Decl.{Decl}
use Rattle.cube_run.specs.RunRecords.{RunRecord, Sentence, catalog_of, script_of}
use Rattle.cube_run.specs.RunTransactions.{DoneOperation, is_commit_of, operations_at, session_operations, transaction_so_far}
use Rattle.cube_run.specs.SessionStates.{KeptWatch, Mode, Idle, Open, Aborted, SessionState}
use Rattle.cube_run.specs.StatementEntries.{script_end}
use Rattle.cube_values.specs.declared.snapshot.Snapshot.{Snapshot}
use Rattle.played_scripts.proofs.Numbered.{none_earlier}
use Rattle.played_scripts.specs.PlayedRuns.{AreNumbered}
use Rattle.posted_pasts.proofs.AbortedEpochs.{commits-not-aborted, writers-not-aborted}
use Rattle.posted_pasts.proofs.StepOperations.{done-so-far}
use Rattle.posted_pasts.specs.PostsBehind.{IsRunWithCalls, PostsStandBehind, is_abort_of}

-- The entries of a script's end are of the statement behind the last.
end-numbered : (session j : ℕ) (mode : Mode) (watch : Option KeptWatch)
    → AreNumbered j j (script_end session j mode watch)
end-numbered session j Idle None = tt
end-numbered session j Idle (Some kept) = (omega arith, omega arith, tt)
end-numbered session j (Open writer) None = (omega arith, omega arith, tt)
end-numbered session j (Open writer) (Some kept) = (omega arith, omega arith, (omega arith, omega arith, tt))
end-numbered session j (Aborted epoch) None = tt
end-numbered session j (Aborted epoch) (Some kept) = (omega arith, omega arith, tt)

none-in-front : (a b : Bool) → (a || b) ≡ false → a ≡ false
none-in-front true b is = is
none-in-front false b is = refl

module _ {S : Type 0} (fits : Opening → ℕ → ShardCall → Type 0) (stands : Opening → ℕ → ℕ → S → ShardView → Type 0)
    (says : CoreJob → ShardAnswer → JobOutcome → Type 0) (cells : List (CoreCell S)) where
  module _ (o : Opening) (given : RunScripts) (log : List CoreEntry) (besides judged : RunClaim) (events : List CoreEvent)
      (session : ℕ) (replies : List Reply) (h : IsScriptedHistory fits stands says cells o given log events)
      (e : HasEnded fits stands says cells o given log judged session replies) where
    abbrev number : ℕ
    number = last_number e.past + 1

    abbrev added : List JournalEntry
    added = script_end session number e.state.mode e.state.watch

    later : (own more : List CoreEntry) → own ++ more ≡ of_caller e.caller log
        → IsLaterRun fits stands says cells o e.caller own log events
    later own more is = record { opens = h.opens; begins = (more, is); events = h.events; is_run = h.is_run }

    all-later : IsLaterRun fits stands says cells o e.caller (e.past.own ++ e.ending) log events
    all-later = later (e.past.own ++ e.ending) [] (append-nil (e.past.own ++ e.ending) ∙ sym e.own)

    -- The session's calls are those of its own entries.
    record OwnEvents : Type 0 where
      own : List CoreEvent
      are : AreEventsOf (IsEntryEvent fits stands says o) (e.past.own ++ e.ending) own
      same : calls_of session events ≡ calls_of session own

    own-events : OwnEvents
    own-events =
        let part : HasOwnEvents (IsEntryEvent fits stands says o) e.caller (calls_of (client_of o e.caller)) log events =
        client-part fits stands says o e.caller log events (e.client.acts o log h.opens) h.events
        in
        let is = e.client.client_is o log h.opens in
        record {
          own = part.own;
          are = subst (λ (l : List CoreEntry). AreEventsOf (IsEntryEvent fits stands says o) l part.own) e.own part.events;
          same = coe 1 0 (i. calls_of (is i) events ≡ calls_of (is i) part.own) part.same;
        }

    entries-are : entries_by_calls o session (calls_of session events) ≡ e.past.entries ++ added
    entries-are =
        ap (entries_by_calls o session) own-events.same
        ∙ e.leaves o log events own-events.own all-later own-events.are

    from-past : IsSession o session → IsRunFrom fits stands says cells e.caller session e.past o given events
    from-past is_session = record {
      log = log;
      run = later e.past.own e.ending (sym e.own);
      follow = h.follow;
      rest = [];
      script = e.script ∙ sym (append-nil e.past.sentences);
      files = e.files;
      later = added;
      part = own-part o events session h.is_run is_session ∙ entries-are;
      others = λ n l.
          none_earlier n number number added (omega (arith, l.1))
          (end-numbered session number e.state.mode e.state.watch);
    }

    -- An epoch that the session committed is aborted by none of the entries behind.
    alive : (epoch : ℕ)
        → list_any (is_commit_of epoch) (entries_by_calls o session (calls_of session events)) ≡ true
        → list_any (is_abort_of epoch) e.past.entries ≡ false
    alive epoch committed =
        none-in-front (list_any (is_abort_of epoch) e.past.entries) (list_any (is_abort_of epoch) added)
        (sym (list_any-append (is_abort_of epoch) e.past.entries added)
        ∙ sym (ap (list_any (is_abort_of epoch)) entries-are)
        ∙ commits-not-aborted o events session epoch h.is_run committed)

    pub commits-stand : (state : SessionState) → IsSession o session → besides o given events
        → PostsStandBehind fits stands says cells e.caller session besides e.past (e.past.own ++ e.ending) state
        → CommitsStand o given events session
    commits-stand state is_session also b = record {
      each = λ epoch cube d committed is.
          let run = record_of o given events in
          let stood = b.posts o given events own-events.own (record {
            from = from-past is_session;
            also = also;
            log = log;
            later = all-later;
            calls = own-events.are;
          }) epoch cube d (alive epoch committed) is in
          coe 1 0 (i. PostsStandFor d (lists_at run.names cube)
          (operations_by_calls o session cube (own-events.same i) epoch)
          (operations_at epoch (session_operations run session (e.script i)))) stood;
    }

  module _ (besides : RunClaim) (caller session : ℕ) (past : CorePast) (own : List CoreEntry) (state : SessionState)
      (o : Opening) (given : RunScripts) (later es mine : List CoreEvent)
      (st : StandsInCore fits stands says cells caller session own past)
      (b : PostsStandBehind fits stands says cells caller session besides past own state)
      (r : IsRunWithCalls fits stands says cells caller session besides past own o given (later ++ es) mine)
      (same : calls_of session es ≡ calls_of session mine) where
    abbrev run : RunRecord
    run = record_of o given (later ++ es)

    -- What was done so far is what the statements behind have done.
    so-far : (epoch : ℕ)
        → (transaction_so_far run session (script_of run session) (last_number past + 1) epoch).operations
        ≡ operations_at epoch (session_operations run session past.sentences)
    so-far epoch =
        ap (λ (script : List Sentence). operations_at epoch
        (filter (λ (done : DoneOperation). nat_lt done.number (last_number past + 1)) (session_operations run session script)))
        r.from.script
        ∙ ap (operations_at epoch) (done-so-far run session past.sentences r.from.rest)

    entries-now : entries_by_calls o session (calls_of session es) ≡ past.entries
    entries-now =
        ap (entries_by_calls o session) same ∙ st.leaves o r.log (later ++ es) mine r.later r.calls

    pub at-statement : (cube : ℕ) (d : Decl) (s : Snapshot) → IsSession o session
        → held_by (counters_of_run o es).snapshots session ≡ Some s → s.own ≡ true
        → slice_get (catalog_of run).cubes cube ≡ Some d
        → IsAtStatement o run es session (last_number past + 1) cube d s
    at-statement cube d s is_session held writes is =
        let alive : list_any (is_abort_of s.epoch) past.entries ≡ false =
        sym (ap (list_any (is_abort_of s.epoch)) entries-now)
        ∙ writers-not-aborted o es session s (run-of-earlier o later es r.later.is_run) held writes
        in
        record {
          is_session = is_session;
          held = held;
          writes = writes;
          posts =
              coe 1 0 (i. PostsStandFor d (lists_at run.names cube)
              (operations_by_calls o session cube (calls_of session es) s.epoch) (so-far s.epoch i))
              (coe 1 0 (i. PostsStandFor d (lists_at run.names cube)
              (operations_by_calls o session cube (same i) s.epoch)
              (operations_at s.epoch (session_operations run session past.sentences)))
              (b.posts o given (later ++ es) mine r s.epoch cube d alive is));
        }
