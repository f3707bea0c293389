-- What a session knows before it asks all shards, and after they have answered.
use Rattle.std.proofs.Common.{◌≡◌, ◌∙◌, ◌⊎◌, ℕ, ◌+◌, ◌≤◌, Bool, true, false, List, [], length, replicate, Option, Some, inl, inr, refl, sym, ap, subst, arith}
use Rattle.std.specs.List.{list_any}
use Rattle.std.specs.Prelude.{Result, Ok, Err, OnOk}
use Rattle.std.proofs.lemmas.List.{length-replicate}
use Rattle.agg_fold.specs.Standing.{StandsFor}
use Rattle.agg_fold.specs.declared.groups.Groups.{Groups}
use Rattle.board_callers.specs.Callers.{HasHistoryOf}
use Rattle.cube_core.specs.Links.{AreEventsOf}
use Rattle.cube_core.specs.BoardCells.{IsEntryEvent, call_job}
use Rattle.core_program.proofs.ClientRuns.{client-run}
use Rattle.core_program.proofs.KnownCalls.{earlier-run}
use Rattle.core_program.specs.Knowing.{Claim, HasRunOfClient, IsClientOf, IsLaterRun, IsSessionOf}
use Rattle.core_events.proofs.Knowledge.{known-by-calls}
use Rattle.core_events.specs.Clients.{ClientState, calls_of, client_state, state_from_calls}
use Rattle.core_events.specs.Events.{Opening, CoreEvent}
use Rattle.core_events.specs.Groups.{Asks, Drops, GroupKind, JobGroup, RollsBack, has_all_below, has_refusal, kind_of, mails_of}
use Rattle.core_events.specs.Jobs.{JobOutcome, is_refusal}
use Rattle.core_program.specs.CoreFits.{CoreEntry, FitsOwnCalls, OpensCells}
use Rattle.core_serial.specs.Queries.{HasAnswered, rows_fetched}
use Rattle.cube_core.specs.CoreSteps.{CoreStep}
use Rattle.cube_core.specs.declared.cell.CoreCell.{CoreCell}
use Rattle.cube_core.specs.declared.jobs.JobAnswer.{JobAnswer}
use Rattle.cube_core.specs.declared.shard.ShardCall.{ShardCall}
use Rattle.cube_core.specs.declared.shard.ShardCall.TheVariants as call
use Rattle.cube_values.specs.declared.query.BoundQuery.{BoundQuery}
use Rattle.cube_values.specs.declared.row.CodedRow.{CodedRow}
use Rattle.cube_values.specs.declared.shape.CubeShape.{CubeShape}
use Rattle.cube_values.specs.declared.snapshot.Snapshot.{Snapshot}
use Rattle.cube_values.specs.declared.span.Span.{Span}
use Rattle.job_groups.proofs.Ended.{has-all, refused-each}
use Rattle.job_groups.specs.AskedEach.{AreShardMails, HasAskedEach, HasMore, MayAskEach, MayAskShard, received, whole_group}
use Rattle.job_groups.specs.EachPosted.{LearnsOfEach}
use Rattle.linked_shards.specs.CellShards.{CanCallCoreShard, CoreShardStands, CoreShardStep, linked-shards}
use Rattle.linked_shards.specs.declared.cell.CoreShard.{CoreShard}
use Rattle.cube_core.proofs.Groups.{may-delete, may-roll-back, may-scan, rolled-back, scanned, spoiled, written}
use Rattle.cube_core.specs.GroupEnds.{HasAllAnswers, MayBeginBy}
use Rattle.cube_core.specs.HoldStates.{HasRolledBack, HasSpoiledWrite, IsReadyWith, IsReading, IsWriting}
use Rattle.session_groups.proofs.CubesInRuns.{cuts-none, parts-of, query-of}
use Rattle.session_groups.proofs.InTurn.{any-undone, found-as, get-same, kind-same, rows-in-turn, stand-in-turn, undone-drop, undone-rollback}
use Rattle.session_groups.proofs.DoneRollbacks.{rollbacks-are-done}
use Rattle.session_groups.specs.AnswersInTurn.{HaveFound, HoldInTurn, MergeAll, StandsForFound, is_undone}
use Rattle.session_snapshots.specs.KnownHolds.{HoldsReady, HoldsRolledBack, HoldsTheSame, HoldsWriter}
use Rattle.session_groups.specs.ShardGroups.{HasAskedAll, HasFoundRows, HoldsAfterWrite, HoldsOpenWriter, KnowsOfShards, MayDelete, MayHaveAsked, MayQuery, end_by_refusals}
use Rattle.shard_events.specs.ShardsInRuns.{FitsShard, ShardAnswerSays}

-- What holds whatever the result.
pub on-ok : {T E P : Type 0} (r : Result T E) → P → OnOk r P
on-ok (Ok x) p = p
on-ok (Err e) p = tt

module _ (cells : List (CoreCell CoreShard)) (caller session : ℕ)
    (acts : IsClientOf FitsShard CoreShardStands ShardAnswerSays cells caller session)
    (of_run : IsSessionOf FitsShard CoreShardStands ShardAnswerSays cells session) (shards : ℕ) (some : 1 ≤ shards)
    (mails : AreShardMails FitsShard CoreShardStands ShardAnswerSays cells session shards (2 + shards)) where
  abbrev Later : Opening → List CoreEntry → List CoreEntry → List CoreEvent → Type 0
  Later o own log run = IsLaterRun FitsShard CoreShardStands ShardAnswerSays cells o caller own log run

  abbrev Of : Opening → List CoreEntry → List CoreEvent → Type 0
  Of o own es = AreEventsOf (IsEntryEvent FitsShard CoreShardStands ShardAnswerSays o) own es

  abbrev Opens : Opening → List CoreEntry → Type 0
  Opens o log = OpensCells FitsShard CoreShardStands ShardAnswerSays o cells log

  abbrev state : Opening → List CoreEvent → ClientState
  state o es = state_from_calls o session (calls_of session es)

  abbrev group_of : ShardCall → List JobOutcome → JobGroup
  group_of c outcomes = whole_group (replicate shards c) outcomes

  abbrev Learns : ShardCall → List JobAnswer → List CoreEntry → List CoreEntry → Type 0
  Learns c answers own now =
      LearnsOfEach FitsShard CoreShardStands ShardAnswerSays cells caller session (replicate shards c) answers own now

  abbrev Asked : ShardCall → List JobAnswer → List CoreEntry → Opening → List CoreEvent → Type 0
  Asked c answers own o es =
      HasAskedEach FitsShard CoreShardStands ShardAnswerSays o session (replicate shards c) answers own es

  abbrev HasHistory : List CoreEntry → Type 0
  HasHistory now = HasHistoryOf (CoreStep CoreShardStep) (FitsOwnCalls FitsShard CoreShardStands ShardAnswerSays) cells caller now

  -- A run at the moment after the calls.
  pub run-now : (now : List CoreEntry) → (h : HasHistory now)
      → (o : Opening) × HasRunOfClient FitsShard CoreShardStands ShardAnswerSays cells o caller session now h.log
  run-now now h =
      let first = acts.opening h.log in
      (first.0, client-run FitsShard CoreShardStands ShardAnswerSays CanCallCoreShard CoreShardStep linked-shards cells caller session now first.0 acts h first.1)

  same-shards : (o : Opening) (log : List CoreEntry) → Opens o log → o.shards ≡ shards
  same-shards o log opens = let is = (mails.each 0 some).cell_is o log opens in omega (arith, is)

  -- Before it asks.
  pub may-ask : (c : ShardCall) (own : List CoreEntry)
      → ((o : Opening) (log : List CoreEntry) (run es : List CoreEvent) → Later o own log run → Of o own es → (number : ℕ)
      → FitsShard o number c × MayBeginBy o session number (call_job c) (state o es))
      → KnowsOfShards cells caller session own (MayAskEach FitsShard session (replicate shards c))
  may-ask c own may o log run es later are = record {
    shards = length-replicate shards c ∙ sym (same-shards o log later.opens);
    ended = (may o log run es later are 0).1.ended;
    each = λ number d is.
        let m = may o log run es later are number in
        subst (λ (x : ShardCall). MayAskShard FitsShard session o (state o es) number x) (get-same shards number c d is)
        (record { suits = m.0; bears = m.1.bears; begins = m.1.begins });
  }

  pub may-scan-each : (shape : CubeShape) (query : BoundQuery) (s : Snapshot) (own : List CoreEntry)
      → HoldsReady FitsShard CoreShardStands ShardAnswerSays cells caller session own (Some s)
      → KnowsOfShards cells caller session own (MayQuery session shape query)
      → KnowsOfShards cells caller session own (MayAskEach FitsShard session (replicate shards (call.Scan shape query s)))
  may-scan-each shape query s own holds asks =
      may-ask (call.Scan shape query s) own
      (λ o log run es later are number.
      let q = asks o log run es later are in
      let of_cube = query-of o shape query (state o es) q.fits q.there in
      (q.fits, may-scan o session number query s (state o es) (of_run o log later.opens) (holds o log run es later are) of_cube))

  pub may-drop-each : (cube : ℕ) (shape : CubeShape) (box : Span) (s : Snapshot) (own : List CoreEntry)
      → HoldsWriter FitsShard CoreShardStands ShardAnswerSays cells caller session own s
      → KnowsOfShards cells caller session own (MayDelete session cube shape box)
      → KnowsOfShards cells caller session own (MayAskEach FitsShard session (replicate shards (call.DropBox cube shape s.epoch box)))
  may-drop-each cube shape box s own holds deletes =
      may-ask (call.DropBox cube shape s.epoch box) own
      (λ o log run es later are number.
      let d = deletes o log run es later are in (
        (d.of_run, d.sound, d.whole),
        may-delete o session number cube box s (state o es) (of_run o log later.opens) (holds o log run es later are) d.there
            (parts-of o cube shape box.parts d.of_run d.as_many) (cuts-none o cube shape box d.of_run d.whole),
      ))

  abbrev HasOpenWriter : Snapshot → Claim
  HasOpenWriter s o calls =
      IsWriting o session s (state_from_calls o session calls) ⊎ HasSpoiledWrite o session s (state_from_calls o session calls)

  knows-open : (s : Snapshot) (own : List CoreEntry) → HoldsOpenWriter cells caller session own s
      → KnowsOfShards cells caller session own (HasOpenWriter s)
  knows-open s own (inl holds) o log run es later are = inl (holds o log run es later are)
  knows-open s own (inr holds) o log run es later are = inr (holds o log run es later are)

  pub may-roll-each : (s : Snapshot) (own : List CoreEntry) → HoldsOpenWriter cells caller session own s
      → KnowsOfShards cells caller session own (MayAskEach FitsShard session (replicate shards (call.Rollback s.epoch)))
  may-roll-each s own holds =
      may-ask (call.Rollback s.epoch) own
      (λ o log run es later are number.
      (tt, may-roll-back o session number s (state o es) (of_run o log later.opens) (knows-open s own holds o log run es later are)))

  -- After the answers.

  pub all-answers : (o : Opening) (log : List CoreEntry) (c : ShardCall) (kind : GroupKind) (outcomes : List JobOutcome) → Opens o log
      → length outcomes ≡ length (replicate shards c) → kind_of (call_job c) ≡ kind → HasAllAnswers o.shards kind (group_of c outcomes)
  all-answers o log c kind outcomes opens each is = record {
    fetched = record { kind_is = kind-same shards c some ∙ is; none_out = refl };
    all = ap (λ (n : ℕ). has_all_below n (mails_of (received 0 outcomes [])))
        (same-shards o log opens ∙ sym (length-replicate shards c) ∙ sym each)
        ∙ has-all outcomes;
  }

  -- What was known before holds of the calls before.
  pub after : (P : Claim) (c : ShardCall) (own now : List CoreEntry) (answers : List JobAnswer) → HasMore own now → Learns c answers own now
      → KnowsOfShards cells caller session own P → (o : Opening) (log : List CoreEntry) (run es : List CoreEvent) → Later o now log run → Of o now es
      → (h : Asked c answers own o es) × P o (calls_of session h.before)
  after P c own now answers more learns knows o log run es later are =
      let h = (learns o log run es later are).asked in (
        h,
        knows o log run h.before
            (earlier-run FitsShard CoreShardStands ShardAnswerSays cells o caller own more.more log run
            (subst (λ (l : List CoreEntry). Later o l log run) more.whole later)) h.events,
      )

  abbrev IsReady : Option Snapshot → Claim
  IsReady held o calls = IsReadyWith o session held (state_from_calls o session calls)

  -- A scan.
  module _ (shape : CubeShape) (query : BoundQuery) (s : Snapshot) (own now : List CoreEntry) where
    ready-after : (held : Option Snapshot) (answers : List JobAnswer) (o : Opening) (log : List CoreEntry) (es : List CoreEvent) → Opens o log
        → (h : Asked (call.Scan shape query s) answers own o es) → IsReadyWith o session held (state o h.before) → IsReadyWith o session held (state o es)
    ready-after held answers o log es opens h is =
        subst (λ (k : ClientState). IsReadyWith o session held k) (sym h.group)
        (scanned o session query s held (state o h.before) (group_of (call.Scan shape query s) h.outcomes) is
        (all-answers o log (call.Scan shape query s) (Asks query s) h.outcomes opens h.each refl))

    scan-holds : HasAskedAll cells caller session shards (call.Scan shape query s) own now
        → HoldsTheSame FitsShard CoreShardStands ShardAnswerSays session cells caller own cells caller now
    scan-holds asked = record {
      ready = λ held knows o log run es later are.
          let a = after (IsReady held) (call.Scan shape query s) own now asked.answers asked.more asked.learns knows o log run es later are in
          ready-after held asked.answers o log es later.opens a.0 a.1;
      reader = λ r knows o log run es later are.
          let a =
          after (λ p calls. IsReading p session r (state_from_calls p session calls)) (call.Scan shape query s) own now asked.answers asked.more
          asked.learns knows o log run es later are
          in
          record { ready = ready-after (Some r) asked.answers o log es later.opens a.0 a.1.ready; reader = a.1.reader };
      writer = λ w knows o log run es later are.
          let a =
          after (λ p calls. IsWriting p session w (state_from_calls p session calls)) (call.Scan shape query s) own now asked.answers asked.more
          asked.learns knows o log run es later are
          in
          record { ready = ready-after (Some w) asked.answers o log es later.opens a.0 a.1.ready; writer = a.1.writer };
    }

    pub scan-keeps : MayHaveAsked cells caller session shards (call.Scan shape query s) own now
        → HoldsTheSame FitsShard CoreShardStands ShardAnswerSays session cells caller own cells caller now
    scan-keeps (inl same) =
        subst (λ (l : List CoreEntry). HoldsTheSame FitsShard CoreShardStands ShardAnswerSays session cells caller own cells caller l) (sym same)
        (record { ready = λ held knows. knows; reader = λ r knows. knows; writer = λ w knows. knows })
    scan-keeps (inr asked) = scan-holds asked

    in-turn : (answers : List JobAnswer) (o : Opening) (es : List CoreEvent) → length answers ≡ shards
        → (h : Asked (call.Scan shape query s) answers own o es) → HoldInTurn (StandsForFound query) answers h.outcomes
    in-turn answers o es each h =
        stand-in-turn (StandsForFound query) shards (call.Scan shape query s) answers h.outcomes each h.each h.stand (found-as query s)

    pub scan-outcomes : (answers : List JobAnswer) → length answers ≡ shards → Learns (call.Scan shape query s) answers own now → HasHistory now
        → HaveFound query answers
    scan-outcomes answers each learns history =
        let first = run-now now history in
        let r = first.1 in
        let h = (learns first.0 history.log r.run r.es r.is_later r.events).asked in
        record { outcomes = h.outcomes; stand = in-turn answers first.0 r.es each h }

    pub scan-found : (answers : List JobAnswer) (groups : Groups) → length answers ≡ shards → Learns (call.Scan shape query s) answers own now
        → MergeAll query answers groups → KnowsOfShards cells caller session now (HasFoundRows session query s groups)
    scan-found answers groups each learns merged o log run es later are =
        let h = (learns o log run es later are).asked in
        let all = all-answers o log (call.Scan shape query s) (Asks query s) h.outcomes later.opens h.each refl in
        let m = merged h.outcomes (in-turn answers o es each h) in
        let is : (state o es).group ≡ group_of (call.Scan shape query s) h.outcomes = ap (λ (k : ClientState). k.group) h.group in
        record {
          answered = subst (λ (g : JobGroup). HasAnswered o.shards query s g) (sym is)
              (record {
                asks = all.fetched.kind_is;
                done = record { all = all.all; fetched = refl; none = refused-each h.outcomes ∙ m.none };
              });
          stands = subst (λ (g : JobGroup). StandsFor query (rows_fetched g.answers) groups) (sym is)
              (subst (λ (l : List CodedRow). StandsFor query l groups) (sym (rows-in-turn h.outcomes)) m.stands);
        }

  -- A deletion.
  module _ (cube : ℕ) (shape : CubeShape) (box : Span) (s : Snapshot) (own now : List CoreEntry) (answers : List JobAnswer)
      (each : length answers ≡ shards) (more : HasMore own now) (learns : Learns (call.DropBox cube shape s.epoch box) answers own now)
      (holds : HoldsWriter FitsShard CoreShardStands ShardAnswerSays cells caller session own s) where
    abbrev drop : ShardCall
    drop = call.DropBox cube shape s.epoch box

    refused-as : (undone : Bool) → list_any is_undone answers ≡ undone → (o : Opening) (es : List CoreEvent) → (h : Asked drop answers own o es)
        → has_refusal (received 0 h.outcomes []) ≡ undone
    refused-as undone is o es h =
        refused-each h.outcomes
        ∙ any-undone answers h.outcomes
        (stand-in-turn (λ said outcome. is_refusal outcome ≡ is_undone said) shards drop answers h.outcomes each h.each h.stand
        (undone-drop cube s.epoch box))
        ∙ is

    pub drop-ends : (undone : Bool) → list_any is_undone answers ≡ undone → HoldsAfterWrite cells caller session now s (end_by_refusals undone)
    drop-ends false is = λ o log run es later are.
        let a = after (λ p calls. IsWriting p session s (state_from_calls p session calls)) drop own now answers more learns holds o log run es later are in
        subst (λ (k : ClientState). IsWriting o session s k) (sym a.0.group)
        (written o session s (state o a.0.before) (Drops cube box) (group_of drop a.0.outcomes) a.1
        (all-answers o log drop (Drops cube box) a.0.outcomes later.opens a.0.each refl) (refused-as false is o es a.0))
    drop-ends true is = λ o log run es later are.
        let a = after (λ p calls. IsWriting p session s (state_from_calls p session calls)) drop own now answers more learns holds o log run es later are in
        subst (λ (k : ClientState). HasSpoiledWrite o session s k) (sym a.0.group)
        (spoiled o session s (state o a.0.before) (Drops cube box) (group_of drop a.0.outcomes) a.1
        (all-answers o log drop (Drops cube box) a.0.outcomes later.opens a.0.each refl) (refused-as true is o es a.0))

  -- A rollback.
  module _ (s : Snapshot) (own now : List CoreEntry) (answers : List JobAnswer) (each : length answers ≡ shards) (more : HasMore own now)
      (learns : Learns (call.Rollback s.epoch) answers own now) (holds : HoldsOpenWriter cells caller session own s) (history : HasHistory now) where
    abbrev roll : ShardCall
    roll = call.Rollback s.epoch

    said-as : (o : Opening) (es : List CoreEvent) → (h : Asked roll answers own o es)
        → has_refusal (received 0 h.outcomes []) ≡ list_any is_undone answers
    said-as o es h =
        refused-each h.outcomes
        ∙ any-undone answers h.outcomes
        (stand-in-turn (λ said outcome. is_refusal outcome ≡ is_undone said) shards roll answers h.outcomes each h.each h.stand
        (undone-rollback s.epoch))

    all-done : list_any is_undone answers ≡ false
    all-done =
        let first = run-now now history in
        let o = first.0 in
        let r = first.1 in
        let h = (learns o history.log r.run r.es r.is_later r.events).asked in
        let is : (client_state o session r.run).group ≡ group_of roll h.outcomes =
        ap (λ (k : ClientState). k.group) (known-by-calls o session r.run ∙ ap (state_from_calls o session) r.calls ∙ h.group)
        in
        sym (said-as o r.es h)
        ∙ rollbacks-are-done o r.run session (group_of roll h.outcomes) r.is_later.is_run is (kind-same shards roll some)

    pub roll-ends : HoldsRolledBack FitsShard CoreShardStands ShardAnswerSays cells caller session now s
    roll-ends o log run es later are =
        let a = after (HasOpenWriter s) roll own now answers more learns (knows-open s own holds) o log run es later are in
        subst (λ (k : ClientState). HasRolledBack o session s k) (sym a.0.group)
        (rolled-back o session s (state o a.0.before) (group_of roll a.0.outcomes) a.1
        (all-answers o log roll RollsBack a.0.outcomes later.opens a.0.each refl) (said-as o es a.0 ∙ all-done))
