-- A SHOW WATCH is performed, however it ends.
use Rattle.std.proofs.Common.{◌≡◌, ◌∙◌, ℕ, ◌+◌, false, List, [], ◌∷◌, Option, Some, None, unwrap_or, refl, sym, ap, subst, arith}
use Rattle.std.proofs.lemmas.Bool.{false≢true}
use Rattle.std.proofs.lemmas.Option.{none-some}
use Rattle.core_watches.proofs.ItsCube.{declared-in-end}
use Rattle.core_watches.proofs.Performing.{IsRunAfter, performs}
use Rattle.core_watches.proofs.ShownTables.{shown-table}
use Rattle.core_watches.proofs.WatchesPerformed.{read-keeps, refused-keeps, step-is, step_of}
use Rattle.core_watches.specs.BoundReaders.{IsShownWatch}
use Rattle.core_watches.specs.WatchEnds.{EndsShow, WatchesCube, show_given_up, show_unread, shown}
use Rattle.core_watches.specs.WatchingCalls.{LeavesByWatching}
use Rattle.core_events.specs.Clients.{reader_up_to}
use Rattle.core_events.specs.Events.{Opening, CoreEvent}
use Rattle.core_states.specs.CorePasts.{CorePast}
use Rattle.core_program.proofs.KnownCalls.{earlier-run}
use Rattle.core_program.specs.CoreFits.{CoreEntry}
use Rattle.core_program.specs.Knowing.{IsLaterRun}
use Rattle.core_records.specs.CoreRecords.{RunScripts, record_of}
use Rattle.core_states.proofs.Refused.{counted}
use Rattle.core_states.specs.declared.session.CoreSession.{CoreSession}
use Rattle.cube_core.specs.declared.cell.CoreCell.{CoreCell}
use Rattle.cube_journal.specs.declared.journal_entry.JournalEntry.{JournalEntry}
use Rattle.cube_journal.specs.declared.journal_entry.JournalEntry.TheVariants as entry
use Rattle.cube_journal.specs.declared.refusal.Refusal.TheVariants as refusal
use Rattle.cube_journal.specs.declared.reply.Reply.{Reply}
use Rattle.cube_journal.specs.declared.reply.Reply.TheVariants as reply
use Rattle.cube_language.specs.ResolvedNames.{resolved_query}
use Rattle.cube_language.specs.declared.decl.Decl.{Decl}
use Rattle.cube_language.specs.declared.statement.Statement.TheVariants.{ShowWatch}
use Rattle.cube_run.proofs.Passing.{passed}
use Rattle.cube_run.specs.RunRecords.{RunRecord, Says, catalog_of, cube_needed, declaration_of}
use Rattle.cube_run.specs.RunText.{IsReply}
use Rattle.cube_run.specs.RunTransactions.{run_transactions}
use Rattle.cube_run.specs.SessionStates.{Aborted, Idle, KeptWatch, Mode, Open, other_holder}
use Rattle.cube_run.specs.SessionSteps.{SessionStep}
use Rattle.cube_run.specs.StatementEntries.{Done, Leaves, RefusedWith, is_aborted, show_watch_done, show_watch_without_memory}
use Rattle.cube_run.specs.StepOutcomes.{no_memory, refused_by_mode}
use Rattle.cube_values.specs.Answer.{answer}
use Rattle.cube_values.specs.Visible.{visible_rows}
use Rattle.cube_values.specs.declared.table.Field.{Field}
use Rattle.linked_shards.specs.CellShards.{CoreShardStands}
use Rattle.linked_shards.specs.declared.cell.CoreShard.{CoreShard}
use Rattle.scripted_pasts.specs.Performed.{WhateverFile}
use Rattle.scripted_pasts.specs.Served.{PerformsOverShards}
use Rattle.session_replies.proofs.Ends.{bound_none, no_entries}
use Rattle.session_replies.proofs.Refusing.{without_memory as memory_reply}
use Rattle.session_replies.specs.Modes.{mode_of}
use Rattle.shard_events.specs.ShardsInRuns.{FitsShard, ShardAnswerSays}
use Rattle.watched_queries.specs.declared.watch.SessionWatch.{SessionWatch}

not-aborted : (mode : Mode) → refused_by_mode mode ShowWatch ≡ None → is_aborted mode ≡ false
not-aborted Idle may = refl
not-aborted (Open writer) may = refl
not-aborted (Aborted epoch) may = absurd (none-some refusal.TransactionAborted (sym may))

module _ (cells : List (CoreCell CoreShard)) (caller : ℕ) (session : CoreSession)
    (may : refused_by_mode (mode_of session.mode) ShowWatch ≡ None) (kept : KeptWatch) (place : ℕ) (d : Decl)
    (own now : List CoreEntry) (f : WatchesCube kept.asked place d own) where
  abbrev i : ℕ
  i = session.number

  abbrev j : ℕ
  j = session.statements + 1

  abbrev other : ℕ
  other = other_holder i kept.holder

  abbrev After : List JournalEntry → CorePast → Opening → RunScripts → List CoreEvent → Type 0
  After added past o given events = IsRunAfter cells caller ShowWatch session own now added past (Some kept) o given events

  abbrev Left : List JournalEntry → Type 0
  Left added = LeavesByWatching cells caller i own now added

  -- Its cube is so declared in a run that goes on.
  declared : (added : List JournalEntry) → Left added → (past : CorePast) (o : Opening) (given : RunScripts)
      (events : List CoreEvent) → After added past o given events
      → declaration_of (catalog_of (record_of o given events)) (unwrap_or (cube_needed kept.asked) []) ≡ d
  declared added left past o given events r =
      let to_own : IsLaterRun FitsShard CoreShardStands ShardAnswerSays cells o caller own r.from.log events =
      earlier-run FitsShard CoreShardStands ShardAnswerSays cells o caller own left.more.0 r.from.log events
      (subst (λ (l : List CoreEntry). IsLaterRun FitsShard CoreShardStands ShardAnswerSays cells o caller l r.from.log
      events) (sym left.more.1) r.from.run)
      in
      ap (λ (n : Option (List ℕ)). declaration_of (catalog_of (record_of o given events)) (unwrap_or n [])) f.needed
      ∙ declared-in-end cells caller f.name place d own f.told o given r.from.log events to_own r.scripted.run

  shown-reply : (w : SessionWatch) (table : List (List Field)) → w.holder ≡ other
      → (left : Left (entry.Read w.holder j w.epoch ∷ entry.ReadEnd kept.holder j ∷ []))
      → IsShownWatch cells caller now i d kept.asked w table
      → (past : CorePast) (o : Opening) (given : RunScripts) (events : List CoreEvent) (step : SessionStep)
      → After (entry.Read w.holder j w.epoch ∷ entry.ReadEnd kept.holder j ∷ []) past o given events
      → IsReply (record_of o given events)
      (step_of session (Some kept) ShowWatch (entry.Read w.holder j w.epoch ∷ entry.ReadEnd kept.holder j ∷ []) step)
      (reply.Watching w.epoch table)
  shown-reply w table newer left is_shown past o given events step r =
      let added : List JournalEntry = entry.Read w.holder j w.epoch ∷ entry.ReadEnd kept.holder j ∷ [] in
      let p = step_of session (Some kept) ShowWatch added step in
      let run : RunRecord = record_of o given events in
      record {
        outcome = Done;
        ends = record {
          ends = passed run p refl (bound_none p ShowWatch may refl refl refl) refl;
          leaves =
              subst (λ (n : ℕ). Leaves i j (mode_of session.mode) (Some kept) (Says ShowWatch) Done
              (entry.Read n j w.epoch ∷ entry.ReadEnd kept.holder j ∷ [])) (sym newer) (show_watch_done w.epoch);
          round = no_entries run p refl;
          cube = λ looked. tt;
        };
        is =
            ap (λ (t : List (List Field)). reply.Watching w.epoch t)
            (shown-table cells caller i now d kept.asked w table is_shown o given r.from.log events r.from.run r.scripted.run
            ∙ ap (λ (e : Decl). answer (resolved_query e kept.asked)
            (visible_rows (reader_up_to w.epoch) (run_transactions run))) (sym (declared added left past o given events r)));
      }

  given-up-reply : (epoch : ℕ) (run : RunRecord) (step : SessionStep)
      → IsReply run (step_of session (Some kept) ShowWatch
      (entry.Read other j epoch ∷ entry.ReadEnd other j ∷ entry.Refused i j 16 ∷ []) step)
      (reply.Refused refusal.NoMemory)
  given-up-reply epoch run step =
      let added : List JournalEntry = entry.Read other j epoch ∷ entry.ReadEnd other j ∷ entry.Refused i j 16 ∷ [] in
      let p = step_of session (Some kept) ShowWatch added step in
      record {
        outcome = RefusedWith refusal.NoMemory;
        ends = record {
          ends = no_memory;
          leaves = show_watch_without_memory epoch (not-aborted (mode_of session.mode) may);
          round = no_entries run p refl;
          cube = λ looked. absurd (false≢true looked);
        };
        is = refl;
      }

  none : session.commits ≡ session.commits + 0
  none = omega arith

  pub show-performed : (next : KeptWatch) (said : Reply) → EndsShow cells caller (counted session) kept d own now next said
      → PerformsOverShards cells caller WhateverFile (Says ShowWatch) session (Some kept) own (counted session) (Some next)
      now said
  show-performed _ _ (shown w table newer left is_shown) =
      let added : List JournalEntry = entry.Read w.holder j w.epoch ∷ entry.ReadEnd kept.holder j ∷ [] in
      performs cells caller ShowWatch session (counted session) (Some kept)
      (Some (record { holder = w.holder; asked = kept.asked })) own now added (reply.Watching w.epoch table) refl (record {
        left = left;
        statements = refl;
        numbered = (omega arith, omega arith, (omega arith, omega arith, tt));
        becomes = λ k. record {
          mode = read-keeps (mode_of session.mode) w.holder j w.epoch (entry.ReadEnd kept.holder j ∷ []) k;
          watch = Some (record { holder = w.holder; asked = kept.asked });
          commits = none k;
        };
        answers = λ past o given events step r is.
            subst (λ (x : SessionStep). IsReply (record_of o given events) x (reply.Watching w.epoch table))
            (sym (step-is session (Some kept) ShowWatch added step is))
            (shown-reply w table newer left is_shown past o given events step r);
      })
  show-performed _ _ (show_given_up epoch left) =
      let added : List JournalEntry = entry.Read other j epoch ∷ entry.ReadEnd other j ∷ entry.Refused i j 16 ∷ [] in
      performs cells caller ShowWatch session (counted session) (Some kept) (Some kept) own now added
      (reply.Refused refusal.NoMemory) refl (record {
        left = left;
        statements = refl;
        numbered = (omega arith, omega arith, (omega arith, omega arith, (omega arith, omega arith, tt)));
        becomes = λ k. record {
          mode = read-keeps (mode_of session.mode) other j epoch (entry.ReadEnd other j ∷ entry.Refused i j 16 ∷ []) k;
          watch = Some kept;
          commits = none k;
        };
        answers = λ past o given events step r is.
            subst (λ (x : SessionStep). IsReply (record_of o given events) x (reply.Refused refusal.NoMemory))
            (sym (step-is session (Some kept) ShowWatch added step is))
            (given-up-reply epoch (record_of o given events) step);
      })
  show-performed _ _ (show_unread left) =
      let added : List JournalEntry = entry.Refused i j 16 ∷ [] in
      performs cells caller ShowWatch session (counted session) (Some kept) (Some kept) own now added
      (reply.Refused refusal.NoMemory) refl (record {
        left = left;
        statements = refl;
        numbered = (omega arith, omega arith, tt);
        becomes = λ k. record {
          mode = refused-keeps (mode_of session.mode) i j 16 k;
          watch = Some kept;
          commits = none k;
        };
        answers = λ past o given events step r is.
            subst (λ (x : SessionStep). IsReply (record_of o given events) x (reply.Refused refusal.NoMemory))
            (sym (step-is session (Some kept) ShowWatch added step is))
            (memory_reply (record_of o given events) (step_of session (Some kept) ShowWatch added step) (mode_of session.mode)
            (Says ShowWatch) (record { mode_is = refl; sentence_is = refl; entries_are = refl }));
      })

-- Whatever the session is then called.
pub performed : (cells : List (CoreCell CoreShard)) (caller place : ℕ) (old new : CoreSession) (d : Decl)
    (own now : List CoreEntry) (kept next : KeptWatch) (said : Reply)
    → refused_by_mode (mode_of old.mode) ShowWatch ≡ None → new ≡ record old { statements = old.statements + 1 }
    → WatchesCube kept.asked place d own → EndsShow cells caller new kept d own now next said
    → PerformsOverShards cells caller WhateverFile (Says ShowWatch) old (Some kept) own new (Some next) now said
performed cells caller place old new d own now kept next said may is f ends =
    subst (λ (n : CoreSession). PerformsOverShards cells caller WhateverFile (Says ShowWatch) old (Some kept) own n
    (Some next) now said) (sym is)
    (show-performed cells caller old may kept place d own now f next said
    (subst (λ (n : CoreSession). EndsShow cells caller n kept d own now next said) is ends))
