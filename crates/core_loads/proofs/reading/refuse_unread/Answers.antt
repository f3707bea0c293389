use Rattle.std.proofs.Common.{◌≡◌, ◌∙◌, inl, refl, sym, ap, subst}
use Rattle.core_loads.proofs.BegunLoads.{begun-inside}
use Rattle.core_loads.specs.LoadEnds.{IsFileText, unread}
use Rattle.core_loads.specs.ShelfLoads.{allowed_loaded}
use Rattle.core_states.specs.StandingInCore.{HoldsForMode}
use Rattle.cube_run.specs.SessionStates.{Open}
use Rattle.cube_values.specs.declared.snapshot.Snapshot.{Snapshot}
use Rattle.session_snapshots.specs.KnownHolds.{HoldsWriter}
use Rattle.linked_shards.specs.CellShards.{CoreShardStands}
use Rattle.session_replies.specs.Modes.{mode_of}
use Rattle.session_replies.specs.declared.mode.SessionMode.{SessionMode}
use Rattle.shard_events.specs.ShardsInRuns.{FitsShard, ShardAnswerSays}
use Rattle.core_loads.proofs.reading.refuse_unread.Goals as goal

pub fail_load-requires-clause-holds : goal.fail_load-requires-clause-holds
fail_load-requires-clause-holds g c =
    let old = c.args.caller.now in
    inl (subst (λ (w : Snapshot). HoldsWriter FitsShard CoreShardStands ShardAnswerSays (g.P.CellCaller.opening old)
    (g.P.CellCaller.number old) c.args.session.now.number (g.P.CellCaller.own old) w) (sym c.copy-own.ensures)
    (subst (λ (m : SessionMode). HoldsForMode FitsShard CoreShardStands ShardAnswerSays (g.P.CellCaller.opening old)
    (g.P.CellCaller.number old) c.args.session.now.number (g.P.CellCaller.own old) (mode_of m)) c.in-Open.is
    c.requires.may.holds))

pub returns-in-Open-clause-answered : goal.returns-in-Open-clause-answered
returns-in-Open-clause-answered g c = λ first file nothing.
    let old = c.args.caller.now in
    let is : mode_of c.args.session.now.mode ≡ Open c.copy-own.result =
    ap mode_of c.in-Open.is ∙ ap Open (sym c.copy-own.ensures)
    in
    c.fail_load.ensures.answered first file (refl, is)
    (begun-inside (g.P.CellCaller.opening old) (g.P.CellCaller.number old) c.args.session.now c.args.statement.now first
    (g.P.CellCaller.own old) (g.P.CellCaller.own old)
    (IsFileText (g.P.CellCaller.opening old) (g.P.CellCaller.number old) (g.P.CellCaller.own old) c.args.place
    c.args.cube.now (allowed_loaded c.args.statement.now) file) c.copy-own.result is nothing)

pub returns-in-Idle-clause-answered : goal.returns-in-Idle-clause-answered
returns-in-Idle-clause-answered g c = λ first file nothing.
    c.refuse_load.ensures.answered first file c.args.place c.args.cube.now (unread (ap mode_of c.in-Idle.is)) nothing
