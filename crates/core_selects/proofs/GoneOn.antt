-- Calls that leave nothing, and after which a session holds what it held.
use Rattle.std.proofs.Common.{◌≡◌, ℕ, ◌+◌, ◌≤◌, List, [], ◌∷◌, ◌++◌, inl, inr, refl, sym, subst, arith}
use mathlib.Core.List.{IsPrefix}
use Rattle.agg_fold.specs.Standing.{HasRoom}
use Rattle.agg_fold.specs.declared.groups.Groups.{Groups}
use Rattle.core_selects.specs.ReadLines.{GoesOnHolding}
use Rattle.board_callers.specs.Callers.{HasHistoryOf}
use Rattle.core_program.specs.ClientCalls.{desk_entry}
use Rattle.cube_core.specs.Links.{AreEventsOf}
use Rattle.core_cells.specs.declared.desk.DeskAnswer.TheVariants as answer
use Rattle.core_cells.specs.declared.desk.DeskCall.TheVariants as call
use Rattle.core_events.specs.Clients.{calls_of, state_from_calls}
use Rattle.core_names.proofs.PlainNames.{left-by-copies}
use Rattle.core_names.specs.AskedNames.{GoOnByCopies}
use Rattle.core_program.proofs.KnownCalls.{earlier-run, go-on-from}
use Rattle.cube_core.specs.BoardCells.{IsEntryEvent}
use Rattle.core_program.specs.CoreFits.{CoreEntry, FitsOwnCalls}
use Rattle.core_program.specs.Knowing.{IsClientOf, IsLaterRun, IsSessionOf}
use Rattle.core_serial.specs.Queries.{rows_fetched}
use Rattle.core_states.proofs.LeftCalls.{left-by-call, left-nothing}
use Rattle.cube_core.specs.CoreSteps.{CoreStep}
use Rattle.cube_core.specs.declared.cell.CoreCell.{CoreCell}
use Rattle.cube_core.specs.declared.shard.ShardCall.TheVariants as shard
use Rattle.cube_journal.specs.declared.counters.Counters.{Counters}
use Rattle.cube_values.specs.declared.query.BoundQuery.{BoundQuery}
use Rattle.cube_values.specs.declared.shape.CubeShape.{CubeShape}
use Rattle.cube_values.specs.declared.snapshot.Snapshot.{Snapshot}
use Rattle.job_groups.specs.AskedEach.{AreShardMails}
use Rattle.session_snapshots.specs.KnownHolds.{HoldsTheSame}
use Rattle.linked_shards.specs.CellShards.{CoreShardStands, CoreShardStep}
use Rattle.shard_events.specs.ShardsInRuns.{FitsShard, ShardAnswerSays}
use Rattle.linked_shards.specs.declared.cell.CoreShard.{CoreShard}
use Rattle.session_groups.proofs.Knowing.{run-now}
use Rattle.session_groups.specs.ShardGroups.{HasFoundRows, KnowsOfShards, MayHaveAsked}
use Rattle.cube_core.proofs.Looking.{counts}
use Rattle.session_snapshots.proofs.KnownSteps.{holds-on}
use Rattle.shard_requests.proofs.Onward.{goes-on}
use Rattle.shard_statements.proofs.GroupsLeave.{left-by-group}
use Rattle.shard_statements.specs.OverShards.{LeavesOverShards}

-- The same over cells and a caller that are equal.
pub same-here : (session : ℕ) (cells : List (CoreCell CoreShard)) (caller : ℕ) (own : List CoreEntry)
    (new_cells : List (CoreCell CoreShard)) (new_caller : ℕ) (now : List CoreEntry) → new_cells ≡ cells
    → new_caller ≡ caller
    → HoldsTheSame FitsShard CoreShardStands ShardAnswerSays session cells caller own new_cells new_caller now
    → HoldsTheSame FitsShard CoreShardStands ShardAnswerSays session cells caller own cells caller now
same-here session cells caller own new_cells new_caller now p q same =
    coe 0 1 (i. HoldsTheSame FitsShard CoreShardStands ShardAnswerSays session cells caller own (p i) (q i) now) same

module _ (cells : List (CoreCell CoreShard)) (caller session : ℕ) where
  pub holding-nothing : (own : List CoreEntry) → GoesOnHolding cells caller session own own
  holding-nothing own = record {
    left = left-nothing FitsShard CoreShardStands ShardAnswerSays cells caller session own;
    same = record { ready = λ held h. h; reader = λ s h. h; writer = λ s h. h };
  }

  pub holding-then : (own mid now : List CoreEntry) → GoesOnHolding cells caller session own mid
      → GoesOnHolding cells caller session mid now → GoesOnHolding cells caller session own now
  holding-then own mid now one two = record {
    left = goes-on cells caller session own mid now [] [] one.left two.left;
    same = record {
      ready = λ held h. two.same.ready held (one.same.ready held h);
      reader = λ s h. two.same.reader s (one.same.reader s h);
      writer = λ s h. two.same.writer s (one.same.writer s h);
    };
  }

  module _ (acts : IsClientOf FitsShard CoreShardStands ShardAnswerSays cells caller session) (own now : List CoreEntry) where
    pub holding-names : GoOnByCopies caller own now
        → HoldsTheSame FitsShard CoreShardStands ShardAnswerSays session cells caller own cells caller now
        → GoesOnHolding cells caller session own now
    holding-names asks same = record {
      left = left-by-copies FitsShard CoreShardStands ShardAnswerSays cells caller session acts own now asks;
      same = same;
    }

    pub holding-counters : IsSessionOf FitsShard CoreShardStands ShardAnswerSays cells session → (shown : Counters)
        → now ≡ own ++ desk_entry caller call.Counters (answer.Counted shown) ∷ []
        → GoesOnHolding cells caller session own now
    holding-counters of_run shown is = record {
      left =
          left-by-call FitsShard CoreShardStands ShardAnswerSays cells caller session acts own now 0 call.Counters
          (answer.Counted shown) is (λ o log run es later are. tt) (λ k. tt);
      same =
          holds-on FitsShard CoreShardStands ShardAnswerSays cells caller session acts of_run own now call.Counters cells
          caller refl refl (answer.Counted shown) is (answer.Counted shown) refl
          (λ held o k r. (counts o session shown held k r).stands);
    }

  left-by-scan : (shards : ℕ) (shape : CubeShape) (query : BoundQuery) (snapshot : Snapshot) (own now : List CoreEntry)
      → MayHaveAsked cells caller session shards (shard.Scan shape query snapshot) own now
      → LeavesOverShards cells caller session own now []
  left-by-scan shards shape query snapshot own now (inl same) =
      subst (λ (l : List CoreEntry). LeavesOverShards cells caller session own l []) (sym same)
      (left-nothing FitsShard CoreShardStands ShardAnswerSays cells caller session own)
  left-by-scan shards shape query snapshot own now (inr asked) =
      left-by-group cells caller session own now shards (shard.Scan shape query snapshot) (λ number. tt) asked

  pub holding-scan : (shards : ℕ) (shape : CubeShape) (query : BoundQuery) (snapshot : Snapshot)
      (own now : List CoreEntry)
      → MayHaveAsked cells caller session shards (shard.Scan shape query snapshot) own now
      → HoldsTheSame FitsShard CoreShardStands ShardAnswerSays session cells caller own cells caller now
      → GoesOnHolding cells caller session own now
  holding-scan shards shape query snapshot own now asked same =
      record { left = left-by-scan shards shape query snapshot own now asked; same = same }

  -- In the run of a history there are the rows that were found.
  pub found-room : (shards : ℕ) → 1 ≤ shards
      → IsClientOf FitsShard CoreShardStands ShardAnswerSays cells caller session
      → IsSessionOf FitsShard CoreShardStands ShardAnswerSays cells session
      → AreShardMails FitsShard CoreShardStands ShardAnswerSays cells session shards (2 + shards)
      → (query : BoundQuery) (snapshot : Snapshot) (groups : Groups) (own now : List CoreEntry) → IsPrefix own now
      → KnowsOfShards cells caller session own (HasFoundRows session query snapshot groups)
      → HasHistoryOf (CoreStep CoreShardStep) (FitsOwnCalls FitsShard CoreShardStands ShardAnswerSays) cells caller now
      → HasRoom query 0 groups
  found-room shards some acts of_run mails query snapshot groups own now more found history =
      let first = run-now cells caller session acts of_run shards some mails now history in
      let o = first.0 in
      let r = first.1 in
      let earlier =
      earlier-run FitsShard CoreShardStands ShardAnswerSays cells o caller own more.0 history.log r.run
      (subst (λ (l : List CoreEntry). IsLaterRun FitsShard CoreShardStands ShardAnswerSays cells o caller l history.log
      r.run) (sym more.1) r.is_later)
      in
      let g =
      go-on-from FitsShard CoreShardStands ShardAnswerSays cells o own more.0 r.es
      (subst (λ (l : List CoreEntry). AreEventsOf (IsEntryEvent FitsShard CoreShardStands ShardAnswerSays o) l r.es)
      (sym more.1) r.events)
      in
      let f = found o history.log r.run g.before earlier g.events in
      let few = f.stands.few in
      (rows_fetched (state_from_calls o session (calls_of session g.before)).group.answers, f.stands, omega (arith, few))
