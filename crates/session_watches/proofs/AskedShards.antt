-- What a session knows before it asks all shards for its holders, and after they have answered.
use Rattle.std.proofs.Common.{◌≡◌, ◌∙◌, ℕ, ◌+◌, ◌≤◌, List, [], ◌∷◌, ◌++◌, append_assoc, append-nil, length, replicate, Option, Some, inl, inr, refl, sym, ap, subst, arith}
use Rattle.std.proofs.lemmas.List.{length-replicate}
use Rattle.board_callers.specs.Callers.{HasHistoryOf}
use Rattle.cube_core.specs.Links.{AreEventsOf}
use Rattle.cube_core.specs.BoardCells.{AnswerSays, IsEntryEvent}
use Rattle.core_program.specs.Knowing.{IsClientOf, IsLaterRun, IsSessionOf}
use Rattle.core_serial.specs.Deltas.{HasCompared, came_by, rows_that_came, rows_that_went, went_by}
use Rattle.core_events.specs.Clients.{ClientState, calls_of, reader_up_to, state_from_calls}
use Rattle.core_events.specs.Events.{Opening, CoreEvent}
use Rattle.core_events.specs.Groups.{Compares, JobGroup, Received}
use Rattle.core_events.specs.Jobs.{Compared, Delta, JobOutcome}
use Rattle.core_program.specs.CoreFits.{CoreEntry, FitsOwnCalls, OpensCells}
use Rattle.cube_core.specs.CoreSteps.{CoreStep}
use Rattle.cube_core.specs.declared.cell.CoreCell.{CoreCell}
use Rattle.cube_core.specs.declared.jobs.JobAnswer.{JobAnswer}
use Rattle.cube_core.specs.declared.jobs.JobAnswer.TheVariants as reply
use Rattle.cube_core.specs.declared.shard.ShardAnswer.TheVariants as answer
use Rattle.cube_core.specs.declared.shard.ShardCall.{ShardCall}
use Rattle.cube_core.specs.declared.shard.ShardCall.TheVariants as call
use Rattle.cube_values.specs.declared.query.BoundQuery.{BoundQuery}
use Rattle.cube_values.specs.declared.shape.CubeShape.{CubeShape}
use Rattle.cube_values.specs.declared.snapshot.Snapshot.{Snapshot}
use Rattle.job_groups.proofs.Ended.{refused-each}
use Rattle.job_groups.specs.AskedEach.{AreShardMails, HasAskedEach, MayAskEach, received, whole_group}
use Rattle.job_groups.specs.EachPosted.{LearnsOfEach}
use Rattle.session_snapshots.specs.KnownHolds.{HoldsReady, HoldsTheSame}
use Rattle.linked_shards.specs.CellShards.{CoreShardStands, CoreShardStep}
use Rattle.linked_shards.specs.declared.cell.CoreShard.{CoreShard}
use Rattle.session_groups.proofs.CubesInRuns.{query-of}
use Rattle.session_groups.proofs.InTurn.{stand-in-turn}
use Rattle.session_groups.proofs.Knowing.{after, all-answers, may-ask, run-now}
use Rattle.session_groups.specs.AnswersInTurn.{HoldInTurn}
use Rattle.session_groups.specs.ShardGroups.{HasAskedAll, KnowsOfShards, MayHaveAsked, MayQuery}
use Rattle.cube_core.specs.HoldStates.{IsReadyWith, IsReading, IsWriting}
use Rattle.session_watches.proofs.KeptHolders.{each-keeps}
use Rattle.session_watches.specs.ComparedShards.{HasFoundChange}
use Rattle.session_watches.specs.DeltaAnswers.{AreGroupsOfShards, HaveCompared, MergeAllChanges, StandsForCompared, rows_come, rows_gone}
use Rattle.session_watches.specs.KnownReaders.{HoldersHave, HoldersKeep}
use Rattle.shard_events.specs.ShardsInRuns.{FitsShard, ShardAnswerSays}
use Rattle.standing_query.specs.declared.change.Change.{Change}
use Rattle.watch_holds.proofs.HolderGroups.{compared, may-compare, may-scan}
use Rattle.watch_holds.specs.HolderStates.{HeldReaders, LeadingReader, TwoReaders}

-- The rows that were fetched of a delta.

come-from : (number : ℕ) (outcomes : List JobOutcome) (older : List Received)
    → came_by (received number outcomes older) ≡ came_by older ++ rows_come outcomes
come-from number [] older = sym (append-nil (came_by older))
come-from number (x ∷ xs) older =
    come-from (number + 1) xs (record { mail = number; answer = x } ∷ older)
    ∙ append_assoc (came_by older) (rows_that_came x) (rows_come xs)

gone-from : (number : ℕ) (outcomes : List JobOutcome) (older : List Received)
    → went_by (received number outcomes older) ≡ went_by older ++ rows_gone outcomes
gone-from number [] older = sym (append-nil (went_by older))
gone-from number (x ∷ xs) older =
    gone-from (number + 1) xs (record { mail = number; answer = x } ∷ older)
    ∙ append_assoc (went_by older) (rows_that_went x) (rows_gone xs)

compared-as : (query : BoundQuery) (from to : ℕ) (said : JobAnswer) (outcome : JobOutcome)
    → AnswerSays ShardAnswerSays (Delta query from to) said outcome → StandsForCompared query said outcome
compared-as query from to (reply.Shard (answer.Changed change)) (Compared came went) h = h
compared-as query from to (reply.Shard (answer.Changed change)) outcome h = absurd h
compared-as query from to said outcome h = tt

module _ (cells : List (CoreCell CoreShard)) (caller session : ℕ)
    (acts : IsClientOf FitsShard CoreShardStands ShardAnswerSays cells caller session)
    (of_run : IsSessionOf FitsShard CoreShardStands ShardAnswerSays cells session) (shards : ℕ) (some : 1 ≤ shards)
    (mails : AreShardMails FitsShard CoreShardStands ShardAnswerSays cells session shards (2 + shards)) where
  abbrev Later : Opening → List CoreEntry → List CoreEntry → List CoreEvent → Type 0
  Later o own log run = IsLaterRun FitsShard CoreShardStands ShardAnswerSays cells o caller own log run

  abbrev Of : Opening → List CoreEntry → List CoreEvent → Type 0
  Of o own es = AreEventsOf (IsEntryEvent FitsShard CoreShardStands ShardAnswerSays o) own es

  abbrev Opens : Opening → List CoreEntry → Type 0
  Opens o log = OpensCells FitsShard CoreShardStands ShardAnswerSays o cells log

  abbrev state : Opening → List CoreEvent → ClientState
  state o es = state_from_calls o session (calls_of session es)

  abbrev group_of : ShardCall → List JobOutcome → JobGroup
  group_of c outcomes = whole_group (replicate shards c) outcomes

  abbrev Learns : ShardCall → List JobAnswer → List CoreEntry → List CoreEntry → Type 0
  Learns c answers own now =
      LearnsOfEach FitsShard CoreShardStands ShardAnswerSays cells caller session (replicate shards c) answers own now

  abbrev Asked : ShardCall → List JobAnswer → List CoreEntry → Opening → List CoreEvent → Type 0
  Asked c answers own o es =
      HasAskedEach FitsShard CoreShardStands ShardAnswerSays o session (replicate shards c) answers own es

  abbrev HasHistory : List CoreEntry → Type 0
  HasHistory now = HasHistoryOf (CoreStep CoreShardStep) (FitsOwnCalls FitsShard CoreShardStands ShardAnswerSays) cells caller now

  abbrev Ready : List CoreEntry → Option Snapshot → Type 0
  Ready own held = HoldsReady FitsShard CoreShardStands ShardAnswerSays cells caller session own held

  abbrev Have : List CoreEntry → HeldReaders → Type 0
  Have own readers = HoldersHave FitsShard CoreShardStands ShardAnswerSays cells caller session own readers

  same-shards : (o : Opening) (log : List CoreEntry) → Opens o log → o.shards ≡ shards
  same-shards o log opens = let is = (mails.each 0 some).cell_is o log opens in omega (arith, is)

  -- Before it asks.

  pub may-scan-each : (shape : CubeShape) (query : BoundQuery) (holder epoch : ℕ) (own : List CoreEntry) (held : Option Snapshot)
      → Ready own held → Have own (LeadingReader holder epoch) → KnowsOfShards cells caller session own (MayQuery session shape query)
      → KnowsOfShards cells caller session own (MayAskEach FitsShard session (replicate shards (call.Scan shape query (reader_up_to epoch))))
  may-scan-each shape query holder epoch own held ready leads asks =
      may-ask cells caller session acts of_run shards some mails (call.Scan shape query (reader_up_to epoch)) own
      (λ o log run es later are number.
      let q = asks o log run es later are in
      let of_cube = query-of o shape query (state o es) q.fits q.there in (
        q.fits,
        may-scan o session number holder epoch query held (state o es) (of_run o log later.opens)
            (ready o log run es later are) (leads o log run es later are) of_cube,
      ))

  pub may-compare-each : (shape : CubeShape) (query : BoundQuery) (older from newer to : ℕ) (own : List CoreEntry) (held : Option Snapshot)
      → Ready own held → Have own (TwoReaders older from newer to) → KnowsOfShards cells caller session own (MayQuery session shape query)
      → KnowsOfShards cells caller session own (MayAskEach FitsShard session (replicate shards (call.Delta shape query from to)))
  may-compare-each shape query older from newer to own held ready have asks =
      may-ask cells caller session acts of_run shards some mails (call.Delta shape query from to) own
      (λ o log run es later are number.
      let q = asks o log run es later are in
      let of_cube = query-of o shape query (state o es) q.fits q.there in (
        q.fits,
        may-compare o session number older from newer to query held (state o es) (of_run o log later.opens)
            (ready o log run es later are) (have o log run es later are) of_cube,
      ))

  -- The holders after a group.
  pub asked-keeps : (c : ShardCall) (own now : List CoreEntry) → MayHaveAsked cells caller session shards c own now
      → HoldersKeep FitsShard CoreShardStands ShardAnswerSays session cells caller own cells caller now
  asked-keeps c own now (inl same) readers have = subst (λ (l : List CoreEntry). Have l readers) (sym same) have
  asked-keeps c own now (inr asked) readers have =
      each-keeps FitsShard CoreShardStands ShardAnswerSays cells caller session own now (replicate shards c) asked.answers asked.more
      asked.learns readers have

  -- A delta.
  module _ (shape : CubeShape) (query : BoundQuery) (from to : ℕ) (own now : List CoreEntry) where
    abbrev delta : ShardCall
    delta = call.Delta shape query from to

    ready-after : (held : Option Snapshot) (answers : List JobAnswer) (o : Opening) (log : List CoreEntry) (es : List CoreEvent) → Opens o log
        → (h : Asked delta answers own o es) → IsReadyWith o session held (state o h.before) → IsReadyWith o session held (state o es)
    ready-after held answers o log es opens h is =
        subst (λ (k : ClientState). IsReadyWith o session held k) (sym h.group)
        (compared o session from to query held (state o h.before) (group_of delta h.outcomes) is
        (all-answers cells caller session acts of_run shards some mails o log delta (Compares query from to) h.outcomes opens h.each refl))

    delta-holds : HasAskedAll cells caller session shards delta own now
        → HoldsTheSame FitsShard CoreShardStands ShardAnswerSays session cells caller own cells caller now
    delta-holds asked = record {
      ready = λ held knows o log run es later are.
          let a =
          after cells caller session acts of_run shards some mails (λ p calls. IsReadyWith p session held (state_from_calls p session calls))
          delta own now asked.answers asked.more asked.learns knows o log run es later are
          in
          ready-after held asked.answers o log es later.opens a.0 a.1;
      reader = λ r knows o log run es later are.
          let a =
          after cells caller session acts of_run shards some mails (λ p calls. IsReading p session r (state_from_calls p session calls))
          delta own now asked.answers asked.more asked.learns knows o log run es later are
          in
          record { ready = ready-after (Some r) asked.answers o log es later.opens a.0 a.1.ready; reader = a.1.reader };
      writer = λ w knows o log run es later are.
          let a =
          after cells caller session acts of_run shards some mails (λ p calls. IsWriting p session w (state_from_calls p session calls))
          delta own now asked.answers asked.more asked.learns knows o log run es later are
          in
          record { ready = ready-after (Some w) asked.answers o log es later.opens a.0 a.1.ready; writer = a.1.writer };
    }

    pub delta-keeps : MayHaveAsked cells caller session shards delta own now
        → HoldsTheSame FitsShard CoreShardStands ShardAnswerSays session cells caller own cells caller now
    delta-keeps (inl same) =
        subst (λ (l : List CoreEntry). HoldsTheSame FitsShard CoreShardStands ShardAnswerSays session cells caller own cells caller l) (sym same)
        (record { ready = λ held knows. knows; reader = λ r knows. knows; writer = λ w knows. knows })
    delta-keeps (inr asked) = delta-holds asked

    in-turn : (answers : List JobAnswer) (o : Opening) (es : List CoreEvent) → length answers ≡ shards
        → (h : Asked delta answers own o es) → HoldInTurn (StandsForCompared query) answers h.outcomes
    in-turn answers o es each h =
        stand-in-turn (StandsForCompared query) shards delta answers h.outcomes each h.each h.stand (compared-as query from to)

    pub delta-outcomes : (answers : List JobAnswer) → length answers ≡ shards → Learns delta answers own now → HasHistory now
        → HaveCompared query answers
    delta-outcomes answers each learns history =
        let first = run-now cells caller session acts of_run shards some mails now history in
        let r = first.1 in
        let h = (learns first.0 history.log r.run r.es r.is_later r.events).asked in
        record { outcomes = h.outcomes; stand = in-turn answers first.0 r.es each h }

    pub delta-found : (answers : List JobAnswer) (change : Change) → length answers ≡ shards → Learns delta answers own now
        → MergeAllChanges query answers change → KnowsOfShards cells caller session now (HasFoundChange session query from to change)
    delta-found answers change each learns merged o log run es later are =
        let h = (learns o log run es later are).asked in
        let all =
        all-answers cells caller session acts of_run shards some mails o log delta (Compares query from to) h.outcomes later.opens h.each refl
        in
        let m = merged h.outcomes (in-turn answers o es each h) in
        let is : (state o es).group ≡ group_of delta h.outcomes = ap (λ (k : ClientState). k.group) h.group in
        let many : length h.outcomes ≡ o.shards = h.each ∙ length-replicate shards delta ∙ sym (same-shards o log later.opens) in
        record {
          compared = subst (λ (g : JobGroup). HasCompared o.shards query from to g) (sym is)
              (record {
                compares = all.fetched.kind_is;
                done = record { all = all.all; fetched = refl; none = refused-each h.outcomes ∙ m.none };
              });
          came = subst (λ (g : JobGroup). AreGroupsOfShards query o.shards (came_by g.answers) change.came.groups) (sym is)
              (coe 0 1 (i. AreGroupsOfShards query (many i) (sym (come-from 0 h.outcomes []) i) change.came.groups) m.came);
          went = subst (λ (g : JobGroup). AreGroupsOfShards query o.shards (went_by g.answers) change.went.groups) (sym is)
              (coe 0 1 (i. AreGroupsOfShards query (many i) (sym (gone-from 0 h.outcomes []) i) change.went.groups) m.went);
        }
