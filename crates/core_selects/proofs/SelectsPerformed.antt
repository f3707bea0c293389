-- A SELECT is performed, however it ends once its cube is found.
use Rattle.std.proofs.Common.{◌≡◌, ◌∙◌, ℕ, ◌+◌, true, false, List, [], ◌∷◌, ◌++◌, Option, Some, None, refl, sym, ap, subst, arith, append_assoc, append-nil, count_by}
use Rattle.std.proofs.lemmas.Bool.{false≢true}
use mathlib.Core.List.{IsPrefix}
use Rattle.core_selects.proofs.ItsCube.{on-its-cube}
use Rattle.core_selects.proofs.PassedMoments.{later-of}
use Rattle.core_selects.proofs.Performing.{IsRunAfter, performs}
use Rattle.core_selects.proofs.ReadInRuns.{lines-inside, reader-lines}
use Rattle.core_selects.proofs.ReadingKinds.{plain-reads}
use Rattle.core_selects.specs.ReadLines.{HasReadLines}
use Rattle.core_selects.specs.ReadingCalls.{GoesOnByReading, IsReadingCall}
use Rattle.core_selects.specs.SelectEnds.{EndsSelect, HasClosedReader, HasFoundCube, HasOpenedReader, LeavesRefusal, gave_up, read_alone, read_inside, unfit, without_memory}
use Rattle.core_program.specs.ClientCalls.{desk_entry}
use Rattle.core_cells.specs.declared.desk.DeskAnswer.TheVariants as answer
use Rattle.core_cells.specs.declared.desk.DeskCall.TheVariants as call
use Rattle.core_cubes.proofs.CallsGoOn.{adds-by-call, go-on-as, go-on-by-call, go-on-then}
use Rattle.core_events.specs.Clients.{reader_up_to}
use Rattle.core_events.specs.Events.{Opening, CoreEvent}
use Rattle.core_states.specs.CorePasts.{CorePast, last_number}
use Rattle.core_states.specs.OwnCalls.{OwnCallsLeave}
use Rattle.core_program.specs.CoreFits.{CoreEntry}
use Rattle.core_program.specs.Knowing.{IsClientOf}
use Rattle.core_records.specs.CoreRecords.{RunScripts, record_of}
use Rattle.core_states.proofs.Growing.{IsStepOf, parts-of}
use Rattle.core_states.proofs.LeftCalls.{longer-front}
use Rattle.core_states.proofs.Refused.{counted}
use Rattle.core_states.specs.LeftBehind.{AddsEntries, IsPlainCall}
use Rattle.core_states.specs.StandingInCore.{StandsInCore, state_of_session}
use Rattle.core_states.specs.declared.session.CoreSession.{CoreSession}
use Rattle.cube_core.specs.declared.cell.CoreCell.{CoreCell}
use Rattle.cube_journal.specs.Refusals.{code, of_misfit}
use Rattle.cube_journal.specs.declared.journal_entry.JournalEntry.{JournalEntry}
use Rattle.cube_journal.specs.declared.journal_entry.JournalEntry.TheVariants as entry
use Rattle.cube_journal.specs.declared.refusal.Refusal.TheVariants.{NoMemory}
use Rattle.cube_journal.specs.declared.reply.Reply.{Reply}
use Rattle.cube_journal.specs.declared.reply.Reply.TheVariants as reply
use Rattle.cube_language.specs.ResolvedNames.{resolved_plan, resolved_query}
use Rattle.cube_language.specs.declared.decl.Decl.{Decl}
use Rattle.cube_language.specs.declared.statement.Statement.{Statement}
use Rattle.cube_language.specs.declared.statement.Statement.TheVariants.{Select}
use Rattle.cube_run.specs.RunRecords.{Says, script_of}
use Rattle.cube_run.specs.RunText.{IsReply}
use Rattle.cube_run.specs.RunTransactions.{transactions_inside}
use Rattle.cube_run.specs.SessionStates.{KeptWatch, Mode, Idle, Open, Aborted, is_commit, mode_after, watch_after}
use Rattle.cube_run.specs.SessionSteps.{SessionStep}
use Rattle.cube_run.specs.StatementEntries.{is_change, is_select}
use Rattle.cube_run.specs.StepOutcomes.{refused_by_mode, refused_by_watch}
use Rattle.cube_values.specs.Answer.{answer as answer_of}
use Rattle.cube_values.specs.First.{first_rows}
use Rattle.cube_values.specs.Visible.{visible_rows}
use Rattle.cube_values.specs.declared.snapshot.Snapshot.{Snapshot}
use Rattle.cube_values.specs.declared.table.Field.{Field}
use Rattle.known_cubes.proofs.ToldCubes.{told-later}
use Rattle.known_cubes.specs.KnownCubes.{IsToldOfCube}
use Rattle.session_snapshots.specs.KnownHolds.{HoldsWriter}
use Rattle.linked_shards.specs.CellShards.{CoreShardStands}
use Rattle.shard_events.specs.ShardsInRuns.{FitsShard, ShardAnswerSays}
use Rattle.linked_shards.specs.declared.cell.CoreShard.{CoreShard}
use Rattle.played_scripts.specs.PlayedRuns.{AreNumbered}
use Rattle.posted_pasts.proofs.AddedCalls.{plain-learns}
use Rattle.posted_pasts.proofs.PostsMore.{with-calls}
use Rattle.scripted_pasts.specs.Performed.{WhateverFile, every_of}
use Rattle.scripted_pasts.specs.ScriptClaims.{OpensForScripts}
use Rattle.scripted_pasts.specs.Served.{IsServed, PerformsWatchedOverShards}
use Rattle.session_replies.proofs.Reading.{selected_alone, selected_inside, selected_without_memory, unfit as refused_unfit}
use Rattle.session_replies.proofs.Refusing.{without_memory as refused_without_memory}
use Rattle.session_replies.specs.Modes.{mode_of}
use Rattle.session_replies.specs.RowSteps.{IsOnCube}
use Rattle.shard_requests.proofs.Onward.{goes-on}
use Rattle.shard_statements.specs.OverShards.{LeavesOverShards}

-- ---- a SELECT changes no rows, and has nothing to do with a watch

no-change : (s : Statement) → is_select s ≡ true → is_change s ≡ false
no-change (Select items cube conds group having order limit) select = refl
no-change s select = absurd (false≢true select)

keeps-watch : (watch : Option KeptWatch) (s : Statement) (entries : List JournalEntry) → is_select s ≡ true
    → watch ≡ watch_after watch (Says s) entries
keeps-watch None (Select items cube conds group having order limit) entries select = refl
keeps-watch (Some kept) (Select items cube conds group having order limit) entries select = refl
keeps-watch watch s entries select = absurd (false≢true select)

no-watch : (watch : Option KeptWatch) (s : Statement) → is_select s ≡ true → refused_by_watch watch s ≡ None
no-watch None (Select items cube conds group having order limit) select = refl
no-watch (Some kept) (Select items cube conds group having order limit) select = refl
no-watch watch s select = absurd (false≢true select)

refusal-keeps-mode : (mode : Mode) (i j n : ℕ) → mode ≡ mode_after mode (entry.Refused i j n ∷ [])
refusal-keeps-mode Idle i j n = refl
refusal-keeps-mode (Open writer) i j n = refl
refusal-keeps-mode (Aborted epoch) i j n = refl

module _ (cells : List (CoreCell CoreShard)) (caller session : ℕ) where
  abbrev Adds : List CoreEntry → List CoreEntry → List JournalEntry → Type 0
  Adds own now added = AddsEntries FitsShard CoreShardStands ShardAnswerSays cells caller session own now added

  adds-then : (own mid now : List CoreEntry) (a b : List JournalEntry) → Adds own mid a → Adds mid now b
      → Adds own now (a ++ b)
  adds-then own mid now a b one two entries leave =
      subst (λ (es : List JournalEntry). OwnCallsLeave FitsShard CoreShardStands ShardAnswerSays cells caller session now es)
      (append_assoc entries a b) (two (entries ++ a) (one entries leave))

  reads-plainly : (own now : List CoreEntry) (added : List JournalEntry)
      → LeavesOverShards cells caller session own now added → GoesOnByReading cells caller session own now
  reads-plainly own now added left =
      go-on-as FitsShard CoreShardStands ShardAnswerSays cells caller session IsPlainCall (IsReadingCall session) own now
      (plain-reads session) left.plain

  -- What some calls did: they go on from others, leave these entries, and read.
  record HasGoneOn (own now : List CoreEntry) (added : List JournalEntry) : Type 0 where
    more : IsPrefix own now
    entries : Adds own now added
    calls : GoesOnByReading cells caller session own now

  gone-plainly : (own now : List CoreEntry) (added : List JournalEntry)
      → LeavesOverShards cells caller session own now added → HasGoneOn own now added
  gone-plainly own now added left =
      record { more = left.more; entries = left.entries; calls = reads-plainly own now added left }

  gone-then : (own mid now : List CoreEntry) (a b : List JournalEntry) → HasGoneOn own mid a → HasGoneOn mid now b
      → HasGoneOn own now (a ++ b)
  gone-then own mid now a b one two = record {
    more = longer-front own mid now one.more two.more;
    entries = adds-then own mid now a b one.entries two.entries;
    calls =
        go-on-then FitsShard CoreShardStands ShardAnswerSays cells caller session (IsReadingCall session) own mid now
        two.more one.calls two.calls;
  }

  module _ (acts : IsClientOf FitsShard CoreShardStands ShardAnswerSays cells caller session) (statement : ℕ) where
    gone-opening : (epoch : ℕ) (own now : List CoreEntry)
        → HasOpenedReader cells caller session statement epoch own now
        → HasGoneOn own now (entry.Read session statement epoch ∷ [])
    gone-opening epoch own now opening =
        let c = call.OpenRead session statement in
        let said = answer.Opened (reader_up_to epoch) in
        record {
          more = (desk_entry caller c said ∷ [], sym opening.opened);
          entries = adds-by-call FitsShard CoreShardStands ShardAnswerSays cells caller session acts own now c said
              opening.opened 0 (λ o log run es later are. tt);
          calls = go-on-by-call FitsShard CoreShardStands ShardAnswerSays cells caller session acts own now c said
              opening.opened (IsReadingCall session) (λ k. refl);
        }

    gone-closing : (own now : List CoreEntry) → HasClosedReader cells caller session statement own now
        → HasGoneOn own now (entry.ReadEnd session statement ∷ [])
    gone-closing own now closed =
        let c = call.CloseRead session statement in
        record {
          more = (desk_entry caller c answer.Done ∷ [], sym closed);
          entries = adds-by-call FitsShard CoreShardStands ShardAnswerSays cells caller session acts own now c answer.Done
              closed 0 (λ o log run es later are. tt);
          calls = go-on-by-call FitsShard CoreShardStands ShardAnswerSays cells caller session acts own now c answer.Done
              closed (IsReadingCall session) (λ k. refl);
        }

-- The calls by which lines were read.
left-reading : (cells : List (CoreCell CoreShard)) (caller session place : ℕ) (d : Decl) (s : Statement)
    (snapshot : Snapshot) (own now : List CoreEntry) (lines : List (List Field))
    → HasReadLines cells caller session place d s snapshot own now lines
    → LeavesOverShards cells caller session own now []
left-reading cells caller session place d s snapshot own now lines h =
    goes-on cells caller session own h.scanned now [] []
    (goes-on cells caller session own h.copied h.scanned [] [] h.copying.left h.scanning.left) h.making.left

module _ (cells : List (CoreCell CoreShard)) (caller shards : ℕ) (session : CoreSession)
    (served : IsServed cells caller session.number shards) (s : Statement) (select : is_select s ≡ true)
    (may : refused_by_mode (mode_of session.mode) s ≡ None) (place : ℕ) (d : Decl) (own found now : List CoreEntry)
    (f : HasFoundCube cells caller session.number (session.statements + 1) s place d own found) where
  abbrev number : ℕ
  number = session.statements + 1

  abbrev Gone : List CoreEntry → List CoreEntry → List JournalEntry → Type 0
  Gone mine after added = HasGoneOn cells caller session.number mine after added

  abbrev After : List JournalEntry → CorePast → Option KeptWatch → Opening → RunScripts → List CoreEvent → Type 0
  After added past watch o given events = IsRunAfter cells caller s session own now added past watch o given events

  abbrev PerformsIt : Reply → Type 0
  PerformsIt said =
      PerformsWatchedOverShards cells caller WhateverFile s session own (counted session) now said

  -- What it leaves and is answered, with the mode that stays.
  answered : (added : List JournalEntry) (said : Reply) → Gone found now added → AreNumbered number number added
      → mode_of session.mode ≡ mode_after (mode_of session.mode) added → count_by is_commit added ≡ 0
      → ((watch : Option KeptWatch) (past : CorePast) (o : Opening) (given : RunScripts) (events : List CoreEvent)
      (step : SessionStep) → After added past watch o given events
      → IsStepOf session (counted session) watch (Says s) added step → IsReply (record_of o given events) step said)
      → PerformsIt said
  answered added said gone numbered mode none answers =
      let all : Gone own now added =
      gone-then cells caller session.number own found now [] added
      (gone-plainly cells caller session.number own found [] f.left) gone
      in
      let same : session.commits ≡ session.commits + count_by is_commit added = omega (arith, none) in
      performs cells caller s session (counted session) own now added said (no-change s select) (record {
        more = all.more;
        entries = all.entries;
        calls = all.calls;
        statements = refl;
        numbered = numbered;
        becomes = λ watch i. record {
          mode = mode i;
          watch = keeps-watch watch s added select i;
          commits = same i;
        };
        answers = answers;
      })

  -- In a run that goes on the statement is on its cube.
  on-cube : (added : List JournalEntry) (watch : Option KeptWatch) (past : CorePast) (o : Opening) (given : RunScripts)
      (events : List CoreEvent) (step : SessionStep) → IsPrefix found now → After added past watch o given events
      → IsStepOf session (counted session) watch (Says s) added step → IsOnCube (record_of o given events) step s d
  on-cube added watch past o given events step more r is =
      let count = r.counted in
      on-its-cube cells caller session.number number s place d own found f past r.stood.stands_there
      (omega (arith, count)) o given r.from.log events
      (later-of cells caller session.number o found now r.from.log events more r.from.run) r.scripted.run step
      is.session_is is.number_is

  -- ---- answered

  by-reader : (epoch : ℕ) (opened read : List CoreEntry) (lines : List (List Field)) → mode_of session.mode ≡ Idle
      → HasOpenedReader cells caller session.number number epoch found opened
      → HasReadLines cells caller session.number place d s (reader_up_to epoch) opened read lines
      → HasClosedReader cells caller session.number number read now → PerformsIt (reply.Rows epoch lines)
  by-reader epoch opened read lines idle opening h closed =
      let i = session.number in
      let added : List JournalEntry = entry.Read i number epoch ∷ entry.ReadEnd i number ∷ [] in
      let reading : Gone opened now (entry.ReadEnd i number ∷ []) =
      gone-then cells caller i opened read now [] (entry.ReadEnd i number ∷ [])
      (gone-plainly cells caller i opened read []
      (left-reading cells caller i place d s (reader_up_to epoch) opened read lines h))
      (gone-closing cells caller i served.client number read now closed)
      in
      let gone : Gone found now added =
      gone-then cells caller i found opened now (entry.Read i number epoch ∷ []) (entry.ReadEnd i number ∷ [])
      (gone-opening cells caller i served.client number epoch found opened opening) reading
      in
      let told : IsToldOfCube opened f.name place d =
      subst (λ (l : List CoreEntry). IsToldOfCube l f.name place d) (sym opening.opened)
      (told-later found (desk_entry caller (call.OpenRead i number) (answer.Opened (reader_up_to epoch)) ∷ []) f.name place
      d f.told)
      in
      answered added (reply.Rows epoch lines) gone (omega arith, omega arith, (omega arith, omega arith, tt))
      (idle ∙ sym (ap (λ (m : Mode). mode_after m added) idle)) refl
      (λ watch past o given events step r is.
      let run = record_of o given events in
      let later =
      later-of cells caller i o read now r.from.log events
      (desk_entry caller (call.CloseRead i number) answer.Done ∷ [], sym closed) r.from.run
      in
      let rows =
      reader-lines cells caller i shards served place d s (reader_up_to epoch) opened read lines h f.name told o given
      r.from.log events later r.scripted.run opening.holds
      in
      subst (λ (l : List (List Field)). IsReply run step (reply.Rows epoch l)) (sym rows)
      (selected_alone run step s d epoch
      (parts-of session (counted session) watch Idle (Says s) (λ a j. entry.Read a j epoch ∷ entry.ReadEnd a j ∷ []) step
      idle is)
      select
      (record { on = on-cube added watch past o given events step gone.more r is; fits = h.bound.fits })))

  by-writer : (writer : Snapshot) (lines : List (List Field)) → mode_of session.mode ≡ Open writer
      → HoldsWriter FitsShard CoreShardStands ShardAnswerSays cells caller session.number found writer
      → HasReadLines cells caller session.number place d s writer found now lines
      → PerformsIt (reply.Rows writer.epoch lines)
  by-writer writer lines open_is holds h =
      let i = session.number in
      let gone : Gone found now [] =
      gone-plainly cells caller i found now [] (left-reading cells caller i place d s writer found now lines h)
      in
      answered [] (reply.Rows writer.epoch lines) gone tt (open_is ∙ sym (ap (λ (m : Mode). mode_after m []) open_is)) refl
      (λ watch past o given events step r is.
      let run = record_of o given events in
      let state = state_of_session session watch in
      let st = r.stood.stands_there in
      let stood : StandsInCore FitsShard CoreShardStands ShardAnswerSays cells caller i found past = record {
        turn = st.turn;
        begins = longer-front past.own own found st.begins f.left.more;
        leaves =
            subst (λ (es : List JournalEntry). OwnCallsLeave FitsShard CoreShardStands ShardAnswerSays cells caller i found
            es) (append-nil past.entries) (f.left.entries past.entries st.leaves);
      } in
      let posts =
      with-calls FitsShard CoreShardStands ShardAnswerSays cells caller i (OpensForScripts (every_of session)) past own
      found state f.left.more
      (plain-learns FitsShard CoreShardStands ShardAnswerSays cells caller i own found f.left.plain) r.stood.posts
      in
      let rows =
      lines-inside cells caller i shards served place d s writer found now lines h f.name f.told o given r.from.log events
      r.from.run r.scripted.run holds (OpensForScripts (every_of session)) past state stood posts r.before
      (record { opens = r.scripted.run.opens; every_is = r.scripted.every_is })
      in
      let session_is : step.session ≡ i = is.session_is in
      let number_is : step.number ≡ last_number past + 1 =
      is.number_is ∙ ap (λ (n : ℕ). n + 1) r.counted
      in
      subst (λ (l : List (List Field)). IsReply run step (reply.Rows writer.epoch l))
      ((λ k. first_rows (resolved_plan s)
      (answer_of (resolved_query d s)
      (visible_rows writer
      (transactions_inside run (session_is k) (script_of run (session_is k)) (number_is k) writer.epoch)))) ∙ sym rows)
      (selected_inside run step s d writer
      (parts-of session (counted session) watch (Open writer) (Says s) (λ a j. []) step open_is is) select
      (record { on = on-cube [] watch past o given events step gone.more r is; fits = h.bound.fits })))

  -- ---- refused

  after-reader : (epoch : ℕ) (opened tried closed : List CoreEntry) → mode_of session.mode ≡ Idle
      → HasOpenedReader cells caller session.number number epoch found opened
      → LeavesOverShards cells caller session.number opened tried []
      → HasClosedReader cells caller session.number number tried closed
      → LeavesRefusal cells caller (counted session) closed now NoMemory → PerformsIt (reply.Refused NoMemory)
  after-reader epoch opened tried closed idle opening left closing refused =
      let i = session.number in
      let ending : List JournalEntry = entry.ReadEnd i number ∷ entry.Refused i number 16 ∷ [] in
      let added : List JournalEntry = entry.Read i number epoch ∷ ending in
      let end : Gone opened now ending =
      gone-then cells caller i opened tried now [] ending (gone-plainly cells caller i opened tried [] left)
      (gone-then cells caller i tried closed now (entry.ReadEnd i number ∷ []) (entry.Refused i number 16 ∷ [])
      (gone-closing cells caller i served.client number tried closed closing)
      (gone-plainly cells caller i closed now (entry.Refused i number 16 ∷ []) refused))
      in
      let gone : Gone found now added =
      gone-then cells caller i found opened now (entry.Read i number epoch ∷ []) ending
      (gone-opening cells caller i served.client number epoch found opened opening) end
      in
      answered added (reply.Refused NoMemory) gone
      (omega arith, omega arith, (omega arith, omega arith, (omega arith, omega arith, tt)))
      (idle ∙ sym (ap (λ (m : Mode). mode_after m added) idle)) refl
      (λ watch past o given events step r is.
      selected_without_memory (record_of o given events) step s epoch
      (parts-of session (counted session) watch Idle (Says s)
      (λ a j. entry.Read a j epoch ∷ entry.ReadEnd a j ∷ entry.Refused a j 16 ∷ []) step idle is)
      select)

  at-once : LeavesRefusal cells caller (counted session) found now NoMemory → PerformsIt (reply.Refused NoMemory)
  at-once refused =
      let added : List JournalEntry = entry.Refused session.number number 16 ∷ [] in
      answered added (reply.Refused NoMemory) (gone-plainly cells caller session.number found now added refused)
      (omega arith, omega arith, tt) (refusal-keeps-mode (mode_of session.mode) session.number number 16) refl
      (λ watch past o given events step r is.
      refused_without_memory (record_of o given events) step (mode_of session.mode) (Says s)
      (parts-of session (counted session) watch (mode_of session.mode) (Says s) (λ a j. entry.Refused a j 16 ∷ []) step
      refl is))

  pub select-performed : (said : Reply) → EndsSelect cells caller (counted session) s place d found now said
      → PerformsIt said
  select-performed _ (read_alone epoch opened read lines idle opening h closed) =
      by-reader epoch opened read lines idle opening h closed
  select-performed _ (read_inside writer lines open_is holds h) =
      by-writer writer lines open_is holds h
  select-performed _ (gave_up epoch opened tried closed idle opening left closing refused) =
      after-reader epoch opened tried closed idle opening left closing refused
  select-performed _ (without_memory refused) = at-once refused
  select-performed _ (unfit misfit is refused) =
      let n = code (of_misfit misfit) in
      let added : List JournalEntry = entry.Refused session.number number n ∷ [] in
      answered added (reply.Refused (of_misfit misfit)) (gone-plainly cells caller session.number found now added refused)
      (omega arith, omega arith, tt) (refusal-keeps-mode (mode_of session.mode) session.number number n) refl
      (λ watch past o given events step r at.
      refused_unfit (record_of o given events) step (mode_of session.mode) s d misfit
      (parts-of session (counted session) watch (mode_of session.mode) (Says s) (λ a j. entry.Refused a j n ∷ []) step refl
      at)
      may (no-watch step.state.watch s select) (on-cube added watch past o given events step refused.more r at) is)
