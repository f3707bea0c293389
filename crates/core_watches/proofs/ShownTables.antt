-- The table of a watch is the answer over what its reader sees.
use Rattle.std.proofs.Common.{◌≡◌, ℕ, List, [], refl, sym, subst}
use Rattle.agg_fold.specs.Standing.{StandsFor}
use Rattle.core_watches.specs.BoundReaders.{IsBoundAtReader, IsShownWatch}
use Rattle.core_agreements.proofs.TablesAnswer.{reader-tables}
use Rattle.core_agreements.specs.NamedQueries.{IsBoundBetween}
use Rattle.core_agreements.specs.ScriptedRuns.{IsScriptedRun}
use Rattle.core_events.specs.Clients.{reader_up_to}
use Rattle.core_events.specs.Events.{Opening, CoreEvent}
use Rattle.core_program.specs.CoreFits.{CoreEntry}
use Rattle.core_program.specs.Knowing.{IsLaterRun}
use Rattle.core_records.specs.CoreRecords.{RunScripts, record_of}
use Rattle.cube_core.specs.declared.cell.CoreCell.{CoreCell}
use Rattle.cube_language.specs.ResolvedNames.{resolved_query}
use Rattle.cube_language.specs.declared.decl.Decl.{Decl}
use Rattle.cube_language.specs.declared.statement.Statement.{Statement}
use Rattle.cube_run.specs.RunTransactions.{run_transactions}
use Rattle.cube_values.specs.Answer.{answer}
use Rattle.cube_values.specs.Visible.{visible_rows}
use Rattle.cube_values.specs.declared.table.Field.{Field}
use Rattle.linked_shards.specs.CellShards.{CoreShardStands}
use Rattle.linked_shards.specs.declared.cell.CoreShard.{CoreShard}
use Rattle.shard_events.specs.ShardsInRuns.{FitsShard, ShardAnswerSays}
use Rattle.watched_queries.specs.ReadersInRuns.{rows_up_to}
use Rattle.watched_queries.specs.declared.watch.SessionWatch.{SessionWatch}

pub shown-table : (cells : List (CoreCell CoreShard)) (caller session : ℕ) (own : List CoreEntry) (d : Decl) (s : Statement)
    (w : SessionWatch) (table : List (List Field)) → IsShownWatch cells caller own session d s w table
    → (o : Opening) (given : RunScripts) (log : List CoreEntry) (run : List CoreEvent)
    → IsLaterRun FitsShard CoreShardStands ShardAnswerSays cells o caller own log run → IsScriptedRun o given run
    → table
    ≡ answer (resolved_query d s) (visible_rows (reader_up_to w.epoch) (run_transactions (record_of o given run)))
shown-table cells caller session own d s w table h o given log run later scripted =
    let b : IsBoundAtReader w.holder w.epoch h.watch.names d s w.query o run = h.watch.bound o log run later in
    let reader = reader_up_to w.epoch in
    let there =
    reader-tables o given [] b.later b.es h.watch.names d s w.query
    (subst (λ (l : List CoreEvent). IsScriptedRun o given l) b.goes_on scripted)
    (subst (λ (l : List CoreEvent). IsBoundBetween o b.es l h.watch.names d s w.query) b.goes_on b.bound)
    w.holder reader w.kept.groups table b.held refl
    (subst (λ (l : List CoreEvent). StandsFor w.query (rows_up_to o l w.query w.epoch) w.kept.groups) b.goes_on
    (h.watch.watch.shows o log run later))
    h.makes
    in
    subst (λ (l : List CoreEvent). table
    ≡ answer (resolved_query d s) (visible_rows reader (run_transactions (record_of o given l)))) (sym b.goes_on) there
