-- The end of a run in which each session has played its script.
use Rattle.std.proofs.Common.{◌≡◌, ◌∙◌, ℕ, suc, ◌+◌, ◌-◌, ◌<◌, ◌≤◌, List, [], ◌∷◌, ◌++◌, filter, length, slice_get, unwrap_or, Option, Some, None, refl, sym, ap, subst, arith, append-nil}
use Rattle.std.specs.List.{AllZip, enumerate_from}
use Rattle.std.proofs.lemmas.List.Elements.{filter-append}
use Rattle.turn_board.specs.History.{of_caller}
use Rattle.cube_core.specs.Links.{AreEventsOf, HasOwnEvents}
use Rattle.cube_core.specs.BoardCells.{IsEntryEvent, client_of}
use Rattle.core_program.proofs.KnownCalls.{client-part}
use Rattle.core_program.specs.Knowing.{IsLaterRun}
use Rattle.core_events.specs.Clients.{calls_of}
use Rattle.core_events.specs.Events.{Opening, IsSession, CoreEvent}
use Rattle.core_events.specs.Jobs.{CoreJob, JobOutcome}
use Rattle.core_events.specs.ShardView.{ShardView}
use Rattle.core_serial.specs.Journals.{journal_of}
use Rattle.core_states.specs.CorePasts.{last_number}
use Rattle.core_states.specs.Endings.{HasEnded, IsScriptedHistory}
use Rattle.core_states.specs.RunsFrom.{GoesOn, IsRunFrom, RunClaim}
use Rattle.core_program.specs.CoreFits.{CoreEntry}
use Rattle.core_records.proofs.EntryOwners.{entries-owned}
use Rattle.core_records.proofs.SessionParts.{own-part}
use Rattle.core_records.specs.CoreRecords.{RunScripts, record_of}
use Rattle.core_records.specs.OwnEntries.{entries_by_calls}
use Rattle.core_records.specs.ScriptedCalls.{script_given}
use Rattle.cube_core.specs.declared.cell.CoreCell.{CoreCell}
use Rattle.cube_core.specs.declared.shard.ShardAnswer.{ShardAnswer}
use Rattle.cube_core.specs.declared.shard.ShardCall.{ShardCall}
use Rattle.cube_journal.specs.declared.journal_entry.JournalEntry.{JournalEntry}
use Rattle.cube_journal.specs.declared.reply.Reply.{Reply}
use Rattle.cube_run.specs.RunRecords.{Sentence}
use Rattle.cube_run.specs.SessionStates.{KeptWatch, Mode, Idle, Open, Aborted, SessionState}
use Rattle.cube_run.specs.SessionSteps.{is_of_statement, session_part}
use Rattle.cube_run.specs.StatementEntries.{script_end}
use Rattle.played_scripts.specs.PlayedRuns.{AreNumbered, HasPlayed, HavePlayed}
use Rattle.played_scripts.proofs.Numbered.{all_of_one, none_earlier}
use Rattle.one_session.proofs.Entries.{none_later, numbered_more}

-- The entries of a script's end are of the statement behind the last.
end-numbered : (session j : ℕ) (mode : Mode) (watch : Option KeptWatch) → AreNumbered j j (script_end session j mode watch)
end-numbered session j Idle None = tt
end-numbered session j Idle (Some kept) = (omega arith, omega arith, tt)
end-numbered session j (Open writer) None = (omega arith, omega arith, tt)
end-numbered session j (Open writer) (Some kept) = (omega arith, omega arith, (omega arith, omega arith, tt))
end-numbered session j (Aborted epoch) None = tt
end-numbered session j (Aborted epoch) (Some kept) = (omega arith, omega arith, tt)

-- What holds of each script and its replies, by their places.
zip-places : (P : ℕ → List Sentence → List Reply → Type 0) (n : ℕ) (scripts : List (List Sentence))
    (replies : List (List Reply)) → length replies ≡ length scripts
    → ((k : ℕ) → k < length scripts → P (n + k) (unwrap_or (slice_get scripts k) []) (unwrap_or (slice_get replies k) []))
    → AllZip (λ p said. P p.0 p.1 said) (enumerate_from n scripts) replies
zip-places P n [] [] same each = tt
zip-places P n [] (said ∷ replies) same each = absurd (omega (arith, same))
zip-places P n (script ∷ scripts) [] same each = absurd (omega (arith, same))
zip-places P n (script ∷ scripts) (said ∷ replies) same each =
    let here : n + 0 ≡ n = omega arith in (
      coe 0 1 (i. P (here i) script said) (each 0 (omega arith)),
      zip-places P (n + 1) scripts replies (omega (arith, same)) (λ k low.
          let next : n + suc k ≡ n + 1 + k = omega arith in
          coe 0 1 (i. P (next i) (unwrap_or (slice_get scripts k) []) (unwrap_or (slice_get replies k) []))
          (each (suc k) (omega (arith, low)))),
    )

module _ {S : Type 0} (fits : Opening → ℕ → ShardCall → Type 0) (stands : Opening → ℕ → ℕ → S → ShardView → Type 0)
    (says : CoreJob → ShardAnswer → JobOutcome → Type 0) (cells : List (CoreCell S)) (o : Opening)
    (given : RunScripts) (log : List CoreEntry) (besides : RunClaim) (events : List CoreEvent)
    (h : IsScriptedHistory fits stands says cells o given log events) where
  -- At the end each run is one after any calls with which the caller's own began.
  run-of : (caller : ℕ) (own more : List CoreEntry) → of_caller caller log ≡ own ++ more
      → IsLaterRun fits stands says cells o caller own log events
  run-of caller own more is =
      record { opens = h.opens; begins = (more, sym is); events = h.events; is_run = h.is_run }

  module _ (session : ℕ) (replies : List Reply) (is_session : IsSession o session)
      (e : HasEnded fits stands says cells o given log besides session replies) where
    abbrev number : ℕ
    number = last_number e.past + 1

    abbrev added : List JournalEntry
    added = script_end session number e.state.mode e.state.watch

    end-numbers : AreNumbered number number added
    end-numbers = end-numbered session number e.state.mode e.state.watch

    -- Its part of the journal is what is behind it, and what its end left.
    whole-part : session_part session (journal_of o events) ≡ e.past.entries ++ added
    whole-part =
        let part : HasOwnEvents (IsEntryEvent fits stands says o) e.caller (calls_of (client_of o e.caller)) log events =
        client-part fits stands says o e.caller log events (e.client.acts o log h.opens) h.events
        in
        let is = e.client.client_is o log h.opens in
        let same : calls_of session events ≡ calls_of session part.own =
        coe 1 0 (i. calls_of (is i) events ≡ calls_of (is i) part.own) part.same
        in
        let all : of_caller e.caller log ≡ (e.past.own ++ e.ending) ++ [] = e.own ∙ sym (append-nil (e.past.own ++ e.ending)) in
        own-part o events session h.is_run is_session
        ∙ ap (entries_by_calls o session) same
        ∙ e.leaves o log events part.own (run-of e.caller (e.past.own ++ e.ending) [] all)
        (subst (λ (l : List CoreEntry). AreEventsOf (IsEntryEvent fits stands says o) l part.own) e.own part.events)

    end-from : IsRunFrom fits stands says cells e.caller session e.past o given events
    end-from = record {
      log = log;
      run = run-of e.caller e.past.own e.ending e.own;
      follow = h.follow;
      rest = [];
      script = e.script ∙ sym (append-nil e.past.sentences);
      files = e.files;
      later = added;
      part = whole-part;
      others = λ n l. none_earlier n number number added (omega (arith, l.1)) end-numbers;
    }

    session-played : besides o given events
        → HasPlayed (record_of o given events) session (script_given given session) replies
    session-played also =
        let run = record_of o given events in
        let g : GoesOn fits stands says cells e.caller session besides e.past run =
        record { opening = o; given = given; events = events; from = end-from; is = refl; also = also }
        in
        coe 1 0 (i. HasPlayed run session (e.script i) replies) (record {
          answers = e.played.answers run g;
          ending =
              ap (λ (es : List JournalEntry). filter (is_of_statement number) es) whole-part
              ∙ filter-append (is_of_statement number) e.past.entries added
              ∙ (λ i. none_later number 1 (last_number e.past) e.past.entries (omega arith) e.turn i
              ++ all_of_one number added end-numbers i)
              ∙ sym (ap (λ (s : SessionState). script_end session number s.mode s.watch) (e.played.becomes run g));
          order =
              coe 1 0 (i. AreNumbered 1 number (whole-part i))
              (numbered_more 1 (last_number e.past) e.past.entries added (omega arith) e.turn end-numbers);
        })

  pub run-played : (replies : List (List Reply)) → besides o given events → length replies ≡ o.sessions
      → ((session : ℕ) → IsSession o session
      → HasEnded fits stands says cells o given log besides session (unwrap_or (slice_get replies (session - 1)) []))
      → HavePlayed (record_of o given events) replies
  run-played replies also long ended = record {
    sessions =
        zip-places (HasPlayed (record_of o given events)) 1 given.scripts replies (long ∙ sym h.follow.each) (λ k low.
        let each = h.follow.each in
        let first : 1 ≤ 1 + k = omega arith in
        let last : 1 + k ≤ o.sessions = omega (arith, low, each) in
        let at : 1 + k - 1 ≡ k = omega arith in
        let is : IsSession o (1 + k) = record { first = first; last = last } in
        coe 0 1 (i. HasPlayed (record_of o given events) (1 + k) (unwrap_or (slice_get given.scripts (at i)) [])
        (unwrap_or (slice_get replies (at i)) []))
        (session-played (1 + k) (unwrap_or (slice_get replies (1 + k - 1)) []) is (ended (1 + k) is) also));
    owners = entries-owned o given events h.is_run h.follow.each;
  }
