-- A session has all shards purge: what it knows before, and after they have answered.
use Rattle.std.proofs.Common.{◌≡◌, ◌∙◌, ℕ, ◌≤◌, ◌+◌, true, false, List, [], length, replicate, Option, Some, refl, sym, ap, subst}
use Rattle.std.specs.List.{list_any}
use Rattle.board_callers.specs.Callers.{HasHistoryOf}
use Rattle.cube_core.specs.Links.{AreEventsOf}
use Rattle.cube_core.specs.BoardCells.{AnswerSays, IsEntryEvent}
use Rattle.core_program.specs.Knowing.{Claim, IsClientOf, IsLaterRun, IsSessionOf}
use Rattle.core_events.proofs.Knowledge.{known-by-calls}
use Rattle.core_events.specs.Clients.{ClientState, calls_of, client_state, state_from_calls}
use Rattle.core_events.specs.Events.{Opening, CoreEvent}
use Rattle.core_events.specs.Fitting.{MayNote}
use Rattle.core_events.specs.Groups.{JobGroup, Purges, has_number, has_refusal}
use Rattle.core_events.specs.Jobs.{JobOutcome, Purge, is_refusal}
use Rattle.core_program.specs.CoreFits.{CoreEntry, FitsOwnCalls}
use Rattle.cube_core.specs.CoreSteps.{CoreStep}
use Rattle.cube_core.specs.declared.cell.CoreCell.{CoreCell}
use Rattle.cube_core.specs.declared.jobs.FlushAnswer.TheVariants as flush
use Rattle.cube_core.specs.declared.jobs.JobAnswer.{JobAnswer}
use Rattle.cube_core.specs.declared.jobs.JobAnswer.TheVariants as reply
use Rattle.cube_core.specs.declared.shard.ShardAnswer.TheVariants as answer
use Rattle.cube_core.specs.declared.shard.ShardCall.{ShardCall}
use Rattle.cube_core.specs.declared.shard.ShardCall.TheVariants as call
use Rattle.cube_journal.specs.declared.note.Note.TheVariants as note
use Rattle.cube_values.specs.declared.snapshot.Snapshot.{Snapshot}
use Rattle.job_groups.proofs.Ended.{refused-each}
use Rattle.job_groups.specs.AskedEach.{AreShardMails, HasAskedEach, HasMore, MayAskEach, received, whole_group}
use Rattle.job_groups.specs.EachPosted.{LearnsOfEach}
use Rattle.session_snapshots.specs.KnownHolds.{HoldsReady, HoldsTheSame}
use Rattle.linked_shards.specs.CellShards.{CoreShardStands, CoreShardStep}
use Rattle.linked_shards.specs.declared.cell.CoreShard.{CoreShard}
use Rattle.session_groups.proofs.InTurn.{any-undone, kind-same, stand-in-turn}
use Rattle.session_groups.proofs.Knowing.{after, all-answers, may-ask, run-now}
use Rattle.session_groups.specs.AnswersInTurn.{is_undone}
use Rattle.session_groups.specs.ShardGroups.{KnowsOfShards}
use Rattle.cube_core.proofs.Requests.{may-note-purge, may-purge, purged}
use Rattle.cube_core.specs.HoldStates.{IsReadyWith, IsReading, IsWriting}
use Rattle.session_requests.proofs.Outcomes.{purges-are-done}
use Rattle.session_requests.specs.SessionRequests.{KnowsSafe, MayNotePurged, WasShownSafe}
use Rattle.shard_events.specs.ShardsInRuns.{FitsShard, ShardAnswerSays}

-- What an answer to a purge stands for.
undone-purge : (epoch : ℕ) (said : JobAnswer) (outcome : JobOutcome) → AnswerSays ShardAnswerSays (Purge epoch) said outcome
    → is_refusal outcome ≡ is_undone said
undone-purge epoch (reply.Flush flush.Done) outcome h = ap is_refusal h
undone-purge epoch (reply.Flush flush.StoreFailed) outcome h = ap is_refusal h
undone-purge epoch (reply.Flush flush.NoMemory) outcome h = ap is_refusal h
undone-purge epoch (reply.Shard answer.Done) outcome h = ap is_refusal h
undone-purge epoch (reply.Shard (answer.ShardFull rows)) outcome h = ap is_refusal h
undone-purge epoch (reply.Shard answer.NoMemory) outcome h = ap is_refusal h
undone-purge epoch (reply.Shard said) outcome h = absurd h

module _ (cells : List (CoreCell CoreShard)) (caller session : ℕ)
    (acts : IsClientOf FitsShard CoreShardStands ShardAnswerSays cells caller session)
    (of_run : IsSessionOf FitsShard CoreShardStands ShardAnswerSays cells session) (shards : ℕ) (some : 1 ≤ shards)
    (mails : AreShardMails FitsShard CoreShardStands ShardAnswerSays cells session shards (2 + shards)) (epoch : ℕ) (own : List CoreEntry) where
  abbrev purge : ShardCall
  purge = call.Purge epoch

  abbrev Later : Opening → List CoreEntry → List CoreEntry → List CoreEvent → Type 0
  Later o mine log run = IsLaterRun FitsShard CoreShardStands ShardAnswerSays cells o caller mine log run

  abbrev Of : Opening → List CoreEntry → List CoreEvent → Type 0
  Of o mine es = AreEventsOf (IsEntryEvent FitsShard CoreShardStands ShardAnswerSays o) mine es

  abbrev state : Opening → List CoreEvent → ClientState
  state o es = state_from_calls o session (calls_of session es)

  abbrev group_of : List JobOutcome → JobGroup
  group_of outcomes = whole_group (replicate shards purge) outcomes

  abbrev Asked : List JobAnswer → Opening → List CoreEvent → Type 0
  Asked answers o es = HasAskedEach FitsShard CoreShardStands ShardAnswerSays o session (replicate shards purge) answers own es

  pub may-purge-each : (held : Option Snapshot) → HoldsReady FitsShard CoreShardStands ShardAnswerSays cells caller session own held
      → KnowsSafe cells caller session own epoch
      → KnowsOfShards cells caller session own (MayAskEach FitsShard session (replicate shards purge))
  may-purge-each held holds safe =
      may-ask cells caller session acts of_run shards some mails purge own
      (λ o log run es later are number.
      (tt, may-purge o session number epoch held (state o es) (of_run o log later.opens) (holds o log run es later are) (safe o log run es later are)))

  module _ (now : List CoreEntry) (answers : List JobAnswer) (each : length answers ≡ shards) (more : HasMore own now)
      (learns : LearnsOfEach FitsShard CoreShardStands ShardAnswerSays cells caller session (replicate shards purge) answers own now)
      (history : HasHistoryOf (CoreStep CoreShardStep) (FitsOwnCalls FitsShard CoreShardStands ShardAnswerSays) cells caller now) where
    -- What was known of the state before, in a run after the answers.
    known-before : (P : Claim) → KnowsOfShards cells caller session own P → (o : Opening) (log : List CoreEntry) (run es : List CoreEvent)
        → Later o now log run → Of o now es → (h : Asked answers o es) × P o (calls_of session h.before)
    known-before P knows =
        after cells caller session acts of_run shards some mails P purge own now answers more learns knows

    said-as : (o : Opening) (es : List CoreEvent) → (h : Asked answers o es) → has_refusal (received 0 h.outcomes []) ≡ list_any is_undone answers
    said-as o es h =
        refused-each h.outcomes
        ∙ any-undone answers h.outcomes
        (stand-in-turn (λ said outcome. is_refusal outcome ≡ is_undone said) shards purge answers h.outcomes each h.each h.stand
        (undone-purge epoch))

    all-done : list_any is_undone answers ≡ false
    all-done =
        let first = run-now cells caller session acts of_run shards some mails now history in
        let o = first.0 in
        let r = first.1 in
        let h = (learns o history.log r.run r.es r.is_later r.events).asked in
        let is : (client_state o session r.run).group ≡ group_of h.outcomes =
        ap (λ (k : ClientState). k.group) (known-by-calls o session r.run ∙ ap (state_from_calls o session) r.calls ∙ h.group)
        in
        sym (said-as o r.es h)
        ∙ purges-are-done o r.run session epoch (group_of h.outcomes) r.is_later.is_run is (kind-same shards purge some)

    ready-after : (held : Option Snapshot) (o : Opening) (log : List CoreEntry) (run es : List CoreEvent) → Later o now log run
        → (h : Asked answers o es) → IsReadyWith o session held (state o h.before) → IsReadyWith o session held (state o es)
    ready-after held o log run es later h is =
        subst (λ (k : ClientState). IsReadyWith o session held k) (sym h.group)
        (purged o session epoch held (state o h.before) (group_of h.outcomes) is
        (all-answers cells caller session acts of_run shards some mails o log purge (Purges epoch) h.outcomes later.opens h.each refl))

    pub purge-holds : HoldsTheSame FitsShard CoreShardStands ShardAnswerSays session cells caller own cells caller now
    purge-holds = record {
      ready = λ held knows o log run es later are.
          let a = known-before (λ p calls. IsReadyWith p session held (state_from_calls p session calls)) knows o log run es later are in
          ready-after held o log run es later a.0 a.1;
      reader = λ s knows o log run es later are.
          let a = known-before (λ p calls. IsReading p session s (state_from_calls p session calls)) knows o log run es later are in
          record { ready = ready-after (Some s) o log run es later a.0 a.1.ready; reader = a.1.reader };
      writer = λ s knows o log run es later are.
          let a = known-before (λ p calls. IsWriting p session s (state_from_calls p session calls)) knows o log run es later are in
          record { ready = ready-after (Some s) o log run es later a.0 a.1.ready; writer = a.1.writer };
    }

    pub purge-notes : WasShownSafe cells caller session own epoch → MayNotePurged cells caller session now epoch
    purge-notes shown statement o log run es later are =
        let a = known-before (λ p calls. has_number (state_from_calls p session calls).shown epoch ≡ true) shown o log run es later are in
        subst (λ (k : ClientState). MayNote o session (note.Purged session statement epoch) k) (sym a.0.group)
        (may-note-purge o session statement epoch (state o a.0.before) (group_of a.0.outcomes)
        (all-answers cells caller session acts of_run shards some mails o log purge (Purges epoch) a.0.outcomes later.opens a.0.each refl)
        (said-as o es a.0 ∙ all-done) a.1)
