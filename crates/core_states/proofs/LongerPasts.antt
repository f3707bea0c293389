-- From a longer past back to the one before, and what stays.
use Rattle.std.proofs.Common.{◌≡◌, ◌∙◌, ℕ, ◌+◌, ◌-◌, List, [], ◌∷◌, ◌++◌, length, filter, slice_get, Some, refl, sym, ap, subst, arith, append_assoc, append-nil, length-append}
use Rattle.std.proofs.lemmas.List.Elements.{filter-append}
use Rattle.cube_core.specs.declared.cell.CoreCell.{CoreCell}
use Rattle.cube_core.specs.declared.shard.ShardAnswer.{ShardAnswer}
use Rattle.cube_core.specs.declared.shard.ShardCall.{ShardCall}
use Rattle.cube_journal.specs.declared.journal_entry.JournalEntry.{JournalEntry}
use Rattle.cube_journal.specs.declared.reply.Reply.{Reply}
use Rattle.cube_run.specs.RunRecords.{RunRecord, Sentence, script_of}
use Rattle.cube_run.specs.RunText.{IsReply}
use Rattle.cube_run.specs.SessionStates.{SessionState, session_after}
use Rattle.cube_run.specs.SessionSteps.{SessionStep, entries_of, is_of_statement, session_part, step_at}
use Rattle.played_scripts.specs.PlayedRuns.{AreNumbered}
use Rattle.played_scripts.specs.Promises.{IsExecuted}
use Rattle.played_scripts.proofs.Numbered.{all_of_one, none_earlier}
use Rattle.one_session.proofs.Entries.{none_later, numbered_more}
use Rattle.one_session.proofs.Steps.{there}
use Rattle.core_program.proofs.KnownCalls.{earlier-run}
use Rattle.core_program.specs.Knowing.{IsLaterRun}
use Rattle.core_events.specs.Events.{Opening, CoreEvent}
use Rattle.core_events.specs.Jobs.{CoreJob, JobOutcome}
use Rattle.core_events.specs.ShardView.{ShardView}
use Rattle.core_serial.specs.Journals.{journal_of}
use Rattle.core_states.specs.CorePasts.{CorePast, IsInTurn, IsNumberBehind, IsOneMore, last_number, last_step, nothing_behind}
use Rattle.core_states.specs.RunsFrom.{GoesOn, IsRunFrom, RunClaim}
use Rattle.core_program.specs.CoreFits.{CoreEntry}
use Rattle.core_records.specs.CoreRecords.{RunScripts, record_of}
use Rattle.core_records.specs.ScriptedCalls.{FollowScripts, script_given}

pub longer-by-one : (before after : CorePast) (sentence : Sentence) (added : List JournalEntry)
    → IsOneMore before after sentence added → last_number after ≡ last_number before + 1
longer-by-one before after sentence added m =
    ap (λ (ss : List Sentence). length ss) m.sentences ∙ length-append before.sentences (sentence ∷ [])

pub in-turn-after : (before after : CorePast) (sentence : Sentence) (added : List JournalEntry)
    → IsOneMore before after sentence added → IsInTurn before → IsInTurn after
in-turn-after before after sentence added m turn =
    coe 1 0 (i. AreNumbered 1 (longer-by-one before after sentence added m i) (m.entries i))
    (numbered_more 1 (last_number before) before.entries added (omega arith) turn m.numbered)

module _ {S : Type 0} (fits : Opening → ℕ → ShardCall → Type 0) (stands : Opening → ℕ → ℕ → S → ShardView → Type 0)
    (says : CoreJob → ShardAnswer → JobOutcome → Type 0) (cells : List (CoreCell S)) (caller session : ℕ) where
  pub run-from-nothing : (o : Opening) (given : RunScripts) (log : List CoreEntry) (events : List CoreEvent)
      → IsLaterRun fits stands says cells o caller [] log events → FollowScripts o given events
      → IsRunFrom fits stands says cells caller session nothing_behind o given events
  run-from-nothing o given log events later follow = record {
    log = log;
    run = later;
    follow = follow;
    rest = script_given given session;
    script = refl;
    files = λ number l. absurd (omega (arith, l.0, l.1));
    later = session_part session (journal_of o events);
    part = refl;
    others = λ number l. absurd (omega (arith, l.0, l.1));
  }

  pub run-before : (before after : CorePast) (sentence : Sentence) (added : List JournalEntry) (o : Opening)
      (given : RunScripts) (events : List CoreEvent) → IsOneMore before after sentence added
      → IsRunFrom fits stands says cells caller session after o given events
      → IsRunFrom fits stands says cells caller session before o given events
  run-before before after sentence added o given events m r =
      let longer = longer-by-one before after sentence added m in
      record {
        log = r.log;
        run =
            earlier-run fits stands says cells o caller before.own m.own.0 r.log events
            (subst (λ (own : List CoreEntry). IsLaterRun fits stands says cells o caller own r.log events)
            (sym m.own.1) r.run);
        follow = r.follow;
        rest = sentence ∷ r.rest;
        script =
            r.script
            ∙ ap (λ (ss : List Sentence). ss ++ r.rest) m.sentences
            ∙ append_assoc before.sentences (sentence ∷ []) r.rest;
        files = λ number l. r.files number (l.0, omega (arith, longer, l.1)) ∙ m.files number l;
        later = added ++ r.later;
        part =
            r.part
            ∙ ap (λ (es : List JournalEntry). es ++ r.later) m.entries
            ∙ append_assoc before.entries added r.later;
        others = λ number l.
            filter-append (is_of_statement number) added r.later
            ∙ (λ i. none_earlier number (last_number before + 1) (last_number before + 1) added (omega (arith, l.1)) m.numbered i
            ++ r.others number (l.0, omega (arith, longer, l.1)) i);
      }

  pub goes-on-before : (besides : RunClaim) (before after : CorePast) (sentence : Sentence)
      (added : List JournalEntry) (run : RunRecord) → IsOneMore before after sentence added
      → GoesOn fits stands says cells caller session besides after run
      → GoesOn fits stands says cells caller session besides before run
  goes-on-before besides before after sentence added run m g = record {
    opening = g.opening;
    given = g.given;
    events = g.events;
    from = run-before before after sentence added g.opening g.given g.events m g.from;
    is = g.is;
    also = g.also;
  }

  pub entries-stay : (past : CorePast) (o : Opening) (given : RunScripts) (events : List CoreEvent) (number : ℕ)
      → IsRunFrom fits stands says cells caller session past o given events → IsNumberBehind past number
      → entries_of session number (journal_of o events) ≡ filter (is_of_statement number) past.entries
  entries-stay past o given events number r l =
      ap (filter (is_of_statement number)) r.part
      ∙ filter-append (is_of_statement number) past.entries r.later
      ∙ ap (λ (es : List JournalEntry). filter (is_of_statement number) past.entries ++ es) (r.others number l)
      ∙ append-nil (filter (is_of_statement number) past.entries)

  pub last-entries : (before after : CorePast) (sentence : Sentence) (added : List JournalEntry) (o : Opening)
      (given : RunScripts) (events : List CoreEvent) → IsInTurn before → IsOneMore before after sentence added
      → IsRunFrom fits stands says cells caller session after o given events
      → entries_of session (last_number before + 1) (journal_of o events) ≡ added
  last-entries before after sentence added o given events turn m r =
      let number = last_number before + 1 in
      let longer = longer-by-one before after sentence added m in
      entries-stay after o given events number r (omega arith, omega (arith, longer))
      ∙ ap (filter (is_of_statement number)) m.entries
      ∙ filter-append (is_of_statement number) before.entries added
      ∙ (λ i. none_later number 1 (last_number before) before.entries (omega arith) turn i
      ++ all_of_one number added m.numbered i)

  pub same-step : (before after : CorePast) (state : SessionState) (sentence : Sentence) (added : List JournalEntry)
      (o : Opening) (given : RunScripts) (events : List CoreEvent) → IsInTurn before
      → IsOneMore before after sentence added
      → IsRunFrom fits stands says cells caller session after o given events
      → step_at (record_of o given events) session (last_number before + 1) state sentence
      ≡ last_step session after state sentence added
  same-step before after state sentence added o given events turn m r =
      let number : last_number before + 1 ≡ last_number after = sym (longer-by-one before after sentence added m) in
      let file : given.file session (last_number before + 1) ≡ after.files (last_number after) =
      ap (given.file session) number ∙ r.files (last_number after) (omega (arith, number), omega arith)
      in
      let entries = last-entries before after sentence added o given events turn m r in
      (λ i. record {
        session = session;
        number = number i;
        sentence = sentence;
        file = file i;
        state = state;
        entries = entries i;
      })

  -- The new statement stands in the script.
  in-script : (before after : CorePast) (sentence : Sentence) (added : List JournalEntry) (o : Opening)
      (given : RunScripts) (events : List CoreEvent) → IsOneMore before after sentence added
      → IsRunFrom fits stands says cells caller session after o given events
      → slice_get (script_given given session) (last_number before + 1 - 1) ≡ Some sentence
  in-script before after sentence added o given events m r =
      let at : last_number before + 1 - 1 ≡ last_number before = omega arith in
      ap (slice_get (script_given given session)) at
      ∙ ap (λ (ss : List Sentence). slice_get ss (last_number before))
      (r.script
      ∙ ap (λ (ss : List Sentence). ss ++ r.rest) m.sentences
      ∙ append_assoc before.sentences (sentence ∷ []) r.rest)
      ∙ there before.sentences sentence r.rest

  pub executed : (besides : RunClaim) (before after : CorePast) (state : SessionState) (sentence : Sentence)
      (added : List JournalEntry) (said : Reply) → IsInTurn before → IsOneMore before after sentence added
      → ((o : Opening) (given : RunScripts) (events : List CoreEvent)
      → IsRunFrom fits stands says cells caller session after o given events → besides o given events
      → IsReply (record_of o given events) (last_step session after state sentence added) said)
      → IsExecuted (GoesOn fits stands says cells caller session besides) session (last_number before + 1) state sentence
      before after said (session_after state sentence added)
  executed besides before after state sentence added said turn m answers = record {
    entries = added;
    earlier = λ run g. goes-on-before besides before after sentence added run m g;
    stands = λ run g.
        ap (λ (r : RunRecord). slice_get (script_of r session) (last_number before + 1 - 1)) g.is
        ∙ in-script before after sentence added g.opening g.given g.events m g.from;
    leaves = λ run g.
        ap (λ (r : RunRecord). entries_of session (last_number before + 1) r.journal) g.is
        ∙ last-entries before after sentence added g.opening g.given g.events turn m g.from;
    becomes = refl;
    answers = λ run g.
        subst (λ (r : RunRecord). IsReply r (step_at r session (last_number before + 1) state sentence) said) (sym g.is)
        (subst (λ (step : SessionStep). IsReply (record_of g.opening g.given g.events) step said)
        (sym (same-step before after state sentence added g.opening g.given g.events turn m g.from))
        (answers g.opening g.given g.events g.from g.also));
  }
