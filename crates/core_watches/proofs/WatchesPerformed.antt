-- A WATCH is performed, however it ends once its cube is found.
use Rattle.std.proofs.Common.{◌≡◌, ◌∙◌, ℕ, ◌+◌, true, false, List, [], ◌∷◌, Option, Some, None, refl, sym, ap, subst, arith}
use Rattle.std.proofs.lemmas.Bool.{false≢true}
use Rattle.std.proofs.lemmas.Option.{none-some}
use Rattle.core_watches.proofs.ItsCube.{on-its-cube}
use Rattle.core_watches.proofs.Performing.{IsRunAfter, performs}
use Rattle.core_watches.proofs.ShownTables.{shown-table}
use Rattle.core_watches.proofs.WatchingLeaves.{left-both, left-plainly}
use Rattle.core_watches.specs.BoundReaders.{IsShownWatch}
use Rattle.core_watches.specs.WatchEnds.{EndsWatch, HasFoundCube, begun, gave_up, unfit, without_memory}
use Rattle.core_watches.specs.WatchingCalls.{LeavesByWatching}
use Rattle.core_events.specs.Clients.{reader_up_to}
use Rattle.core_events.specs.Events.{Opening, CoreEvent}
use Rattle.core_states.specs.CorePasts.{CorePast}
use Rattle.core_program.proofs.KnownCalls.{earlier-run}
use Rattle.core_program.specs.CoreFits.{CoreEntry}
use Rattle.core_program.specs.Knowing.{IsLaterRun}
use Rattle.core_records.specs.CoreRecords.{RunScripts, record_of}
use Rattle.core_states.proofs.Growing.{IsStepOf}
use Rattle.core_states.proofs.Refused.{counted}
use Rattle.core_states.specs.StandingInCore.{state_of_session}
use Rattle.core_states.specs.declared.session.CoreSession.{CoreSession}
use Rattle.cube_core.specs.declared.cell.CoreCell.{CoreCell}
use Rattle.cube_journal.specs.Refusals.{code, of_misfit}
use Rattle.cube_journal.specs.declared.journal_entry.JournalEntry.{JournalEntry}
use Rattle.cube_journal.specs.declared.journal_entry.JournalEntry.TheVariants as entry
use Rattle.cube_journal.specs.declared.refusal.Refusal.TheVariants as refusal
use Rattle.cube_journal.specs.declared.reply.Reply.{Reply}
use Rattle.cube_journal.specs.declared.reply.Reply.TheVariants as reply
use Rattle.cube_language.specs.Misfits.{FitsCube}
use Rattle.cube_language.specs.ResolvedNames.{resolved_query}
use Rattle.cube_language.specs.declared.decl.Decl.{Decl}
use Rattle.cube_language.specs.declared.statement.Cond.{Cond}
use Rattle.cube_language.specs.declared.statement.Item.{Item}
use Rattle.cube_language.specs.declared.statement.Statement.{Statement}
use Rattle.cube_language.specs.declared.statement.Statement.TheVariants.{Watch}
use Rattle.cube_run.proofs.Passing.{passed}
use Rattle.cube_run.specs.RunRecords.{RunRecord, Says}
use Rattle.cube_run.specs.RunText.{IsReply}
use Rattle.cube_run.specs.RunTransactions.{run_transactions}
use Rattle.cube_run.specs.SessionStates.{Idle, KeptWatch, Mode, Open, Aborted, first_holder, mode_after}
use Rattle.cube_run.specs.SessionSteps.{SessionStep}
use Rattle.cube_run.specs.StatementEntries.{Done, Leaves, RefusedWith, is_aborted, is_watch, watch_done, watch_without_memory}
use Rattle.cube_run.specs.StepOutcomes.{no_memory, refused_by_mode}
use Rattle.cube_values.specs.Answer.{answer}
use Rattle.cube_values.specs.Visible.{visible_rows}
use Rattle.cube_values.specs.declared.table.Field.{Field}
use Rattle.linked_shards.specs.CellShards.{CoreShardStands}
use Rattle.linked_shards.specs.declared.cell.CoreShard.{CoreShard}
use Rattle.scripted_pasts.specs.Performed.{WhateverFile}
use Rattle.scripted_pasts.specs.Served.{PerformsOverShards}
use Rattle.session_replies.proofs.Ends.{bound_none, no_entries}
use Rattle.session_replies.proofs.OnCubes.{declared_so, fits, stands}
use Rattle.session_replies.proofs.Reading.{unfit as unfit_reply}
use Rattle.session_replies.proofs.Refusing.{without_memory as memory_reply}
use Rattle.session_replies.specs.Modes.{mode_of}
use Rattle.session_replies.specs.RowSteps.{IsOnCube}
use Rattle.shard_events.specs.ShardsInRuns.{FitsShard, ShardAnswerSays}
use Rattle.watched_queries.specs.declared.watch.SessionWatch.{SessionWatch}

-- ---- what readers and refusals make of a mode

pub read-keeps : (mode : Mode) (holder j epoch : ℕ) (later : List JournalEntry)
    → mode ≡ mode_after mode (entry.Read holder j epoch ∷ later)
read-keeps Idle holder j epoch later = refl
read-keeps (Open writer) holder j epoch later = refl
read-keeps (Aborted epoch) holder j at later = refl

pub refused-keeps : (mode : Mode) (i j n : ℕ) → mode ≡ mode_after mode (entry.Refused i j n ∷ [])
refused-keeps Idle i j n = refl
refused-keeps (Open writer) i j n = refl
refused-keeps (Aborted epoch) i j n = refl

-- A step as its session and its statement tell it.
abbrev pub step_of : CoreSession → Option KeptWatch → Statement → List JournalEntry → SessionStep → SessionStep
step_of session watch s added step = record {
  session = session.number;
  number = session.statements + 1;
  sentence = Says s;
  file = step.file;
  state = state_of_session session watch;
  entries = added;
}

pub step-is : (session : CoreSession) (watch : Option KeptWatch) (s : Statement) (added : List JournalEntry)
    (step : SessionStep) → IsStepOf session (counted session) watch (Says s) added step
    → step ≡ step_of session watch s added step
step-is session watch s added step is = (λ i. record {
  session = is.session_is i;
  number = is.number_is i;
  sentence = is.sentence_is i;
  file = step.file;
  state = is.state_is i;
  entries = is.entries_are i;
})

not-aborted : (mode : Mode) (items : List Item) (cube : List ℕ) (conds : List Cond) (group : List (List ℕ))
    → refused_by_mode mode (Watch items cube conds group) ≡ None → is_aborted mode ≡ false
not-aborted Idle items cube conds group may = refl
not-aborted (Open writer) items cube conds group may = refl
not-aborted (Aborted epoch) items cube conds group may = absurd (none-some refusal.TransactionAborted (sym may))

module _ (cells : List (CoreCell CoreShard)) (caller : ℕ) (session : CoreSession) (items : List Item) (cube : List ℕ)
    (conds : List Cond) (group : List (List ℕ))
    (may : refused_by_mode (mode_of session.mode) (Watch items cube conds group) ≡ None) (place : ℕ) (d : Decl)
    (own found now : List CoreEntry)
    (f : HasFoundCube cells caller session.number (session.statements + 1) (Watch items cube conds group) place d own found)
  where
    abbrev s : Statement
    s = Watch items cube conds group

    abbrev i : ℕ
    i = session.number

    abbrev j : ℕ
    j = session.statements + 1

    abbrev After : List JournalEntry → CorePast → Opening → RunScripts → List CoreEvent → Type 0
    After added past o given events = IsRunAfter cells caller s session own now added past None o given events

    abbrev Left : List JournalEntry → Type 0
    Left added = LeavesByWatching cells caller i found now added

    whole : (added : List JournalEntry) → Left added → LeavesByWatching cells caller i own now added
    whole added left = left-both cells caller i own found now [] added (left-plainly cells caller i own found [] f.left) left

    -- In a run that goes on the statement is on its cube.
    module _ (added : List JournalEntry) (left : Left added) (past : CorePast) (o : Opening) (given : RunScripts)
        (events : List CoreEvent) (r : After added past o given events) where
      abbrev run : RunRecord
      run = record_of o given events

      to-found : IsLaterRun FitsShard CoreShardStands ShardAnswerSays cells o caller found r.from.log events
      to-found =
          earlier-run FitsShard CoreShardStands ShardAnswerSays cells o caller found left.more.0 r.from.log events
          (subst (λ (l : List CoreEntry). IsLaterRun FitsShard CoreShardStands ShardAnswerSays cells o caller l r.from.log
          events) (sym left.more.1) r.from.run)

      on-cube : (step : SessionStep) → IsOnCube run (step_of session None s added step) s d
      on-cube step =
          let count = r.counted in
          on-its-cube cells caller f.name place d found f.told o given r.from.log events to-found r.scripted.run i j s own past
          f.needed f.stands r.stood.stands_there (omega (arith, count)) (step_of session None s added step) refl refl

    -- It is done.

    begun-reply : (w : SessionWatch) (table : List (List Field)) → FitsCube d s → w.holder ≡ first_holder i
        → (left : Left (entry.Read w.holder j w.epoch ∷ [])) → IsShownWatch cells caller now i d s w table
        → (past : CorePast) (o : Opening) (given : RunScripts) (events : List CoreEvent) (step : SessionStep)
        → After (entry.Read w.holder j w.epoch ∷ []) past o given events
        → IsReply (record_of o given events) (step_of session None s (entry.Read w.holder j w.epoch ∷ []) step)
        (reply.Watching w.epoch table)
    begun-reply w table fit first left shown past o given events step r =
        let added : List JournalEntry = entry.Read w.holder j w.epoch ∷ [] in
        let p = step_of session None s added step in
        let on : IsOnCube (record_of o given events) p s d = on-cube added left past o given events r step in
        let record_is = record_of o given events in
        record {
          outcome = Done;
          ends = record {
            ends = passed record_is p (fits record_is p s d on fit) (bound_none p s may refl refl refl) refl;
            leaves =
                subst (λ (n : ℕ). Leaves i j (mode_of session.mode) None (Says s) Done (entry.Read n j w.epoch ∷ [])) (sym first)
                (watch_done w.epoch refl);
            round = no_entries record_is p refl;
            cube = λ looked. stands record_is p s d on;
          };
          is =
              ap (λ (t : List (List Field)). reply.Watching w.epoch t)
              (shown-table cells caller i now d s w table shown o given r.from.log events r.from.run r.scripted.run
              ∙ ap (λ (e : Decl). answer (resolved_query e s)
              (visible_rows (reader_up_to w.epoch) (run_transactions record_is))) (sym (declared_so record_is p s d on)));
        }

    given-up-reply : (epoch : ℕ) (run : RunRecord) (step : SessionStep)
        → IsReply run (step_of session None s
        (entry.Read (first_holder i) j epoch ∷ entry.ReadEnd (first_holder i) j ∷ entry.Refused i j 16 ∷ []) step)
        (reply.Refused refusal.NoMemory)
    given-up-reply epoch run step =
        let added : List JournalEntry =
        entry.Read (first_holder i) j epoch ∷ entry.ReadEnd (first_holder i) j ∷ entry.Refused i j 16 ∷ []
        in
        let p = step_of session None s added step in
        record {
          outcome = RefusedWith refusal.NoMemory;
          ends = record {
            ends = no_memory;
            leaves = watch_without_memory epoch refl (not-aborted (mode_of session.mode) items cube conds group may);
            round = no_entries run p refl;
            cube = λ looked. absurd (false≢true looked);
          };
          is = refl;
        }

    none : session.commits ≡ session.commits + 0
    none = omega arith

    pub watch-performed : (kept : Option KeptWatch) (said : Reply)
        → EndsWatch cells caller (counted session) s d found now kept said
        → PerformsOverShards cells caller WhateverFile (Says s) session None own (counted session) kept now said
    watch-performed _ _ (begun w table fit first left shown) =
        let added : List JournalEntry = entry.Read w.holder j w.epoch ∷ [] in
        performs cells caller s session (counted session) None (Some (record { holder = w.holder; asked = s })) own now added
        (reply.Watching w.epoch table) refl (record {
          left = whole added left;
          statements = refl;
          numbered = (omega arith, omega arith, tt);
          becomes = λ k. record {
            mode = read-keeps (mode_of session.mode) w.holder j w.epoch [] k;
            watch = Some (record { holder = w.holder; asked = s });
            commits = none k;
          };
          answers = λ past o given events step r is.
              subst (λ (x : SessionStep). IsReply (record_of o given events) x (reply.Watching w.epoch table))
              (sym (step-is session None s added step is)) (begun-reply w table fit first left shown past o given events step r);
        })
    watch-performed _ _ (gave_up epoch left) =
        let added : List JournalEntry =
        entry.Read (first_holder i) j epoch ∷ entry.ReadEnd (first_holder i) j ∷ entry.Refused i j 16 ∷ []
        in
        performs cells caller s session (counted session) None None own now added (reply.Refused refusal.NoMemory) refl (record {
          left = whole added left;
          statements = refl;
          numbered = (omega arith, omega arith, (omega arith, omega arith, (omega arith, omega arith, tt)));
          becomes = λ k. record {
            mode = read-keeps (mode_of session.mode) (first_holder i) j epoch
                (entry.ReadEnd (first_holder i) j ∷ entry.Refused i j 16 ∷ []) k;
            watch = None;
            commits = none k;
          };
          answers = λ past o given events step r is.
              subst (λ (x : SessionStep). IsReply (record_of o given events) x (reply.Refused refusal.NoMemory))
              (sym (step-is session None s added step is)) (given-up-reply epoch (record_of o given events) step);
        })
    watch-performed _ _ (without_memory left) =
        let added : List JournalEntry = entry.Refused i j 16 ∷ [] in
        performs cells caller s session (counted session) None None own now added (reply.Refused refusal.NoMemory) refl (record {
          left = whole added left;
          statements = refl;
          numbered = (omega arith, omega arith, tt);
          becomes = λ k. record {
            mode = refused-keeps (mode_of session.mode) i j 16 k;
            watch = None;
            commits = none k;
          };
          answers = λ past o given events step r is.
              subst (λ (x : SessionStep). IsReply (record_of o given events) x (reply.Refused refusal.NoMemory))
              (sym (step-is session None s added step is))
              (memory_reply (record_of o given events) (step_of session None s added step) (mode_of session.mode) (Says s)
              (record { mode_is = refl; sentence_is = refl; entries_are = refl }));
        })
    watch-performed _ _ (unfit misfit has left) =
        let n = code (of_misfit misfit) in
        let added : List JournalEntry = entry.Refused i j n ∷ [] in
        performs cells caller s session (counted session) None None own now added (reply.Refused (of_misfit misfit)) refl (record {
          left = whole added left;
          statements = refl;
          numbered = (omega arith, omega arith, tt);
          becomes = λ k. record {
            mode = refused-keeps (mode_of session.mode) i j n k;
            watch = None;
            commits = none k;
          };
          answers = λ past o given events step r is.
              subst (λ (x : SessionStep). IsReply (record_of o given events) x (reply.Refused (of_misfit misfit)))
              (sym (step-is session None s added step is))
              (unfit_reply (record_of o given events) (step_of session None s added step) (mode_of session.mode) s d misfit
              (record { mode_is = refl; sentence_is = refl; entries_are = refl }) may refl
              (on-cube added left past o given events r step) has);
        })

-- Of any WATCH.
pub performed : (cells : List (CoreCell CoreShard)) (caller place : ℕ) (old new : CoreSession) (s : Statement) (d : Decl)
    (own found now : List CoreEntry) (kept : Option KeptWatch) (said : Reply) → is_watch s ≡ true
    → refused_by_mode (mode_of old.mode) s ≡ None → new ≡ record old { statements = old.statements + 1 }
    → HasFoundCube cells caller old.number (old.statements + 1) s place d own found
    → EndsWatch cells caller new s d found now kept said
    → PerformsOverShards cells caller WhateverFile (Says s) old None own new kept now said
performed cells caller place old new (Watch items cube conds group) d own found now kept said form may is f ends =
    subst (λ (n : CoreSession). PerformsOverShards cells caller WhateverFile (Says (Watch items cube conds group)) old None own
    n kept now said) (sym is)
    (watch-performed cells caller old items cube conds group may place d own found now f kept said
    (subst (λ (n : CoreSession). EndsWatch cells caller n (Watch items cube conds group) d found now kept said) is ends))
performed cells caller place old new s d own found now kept said form may is f ends = absurd (false≢true form)
