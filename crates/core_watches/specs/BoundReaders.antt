-- A reader of a watch, and the names by which the query of its statement is bound.
-- Source: Cubrick (VLDB 2016), dictionary encoding of text dimensions; AOSI (ICDE 2018), readers. A promise speaks of
-- every run that goes on, as with prophecy variables (Abadi and Lamport, 1991).
use Rattle.std.specs.Prelude.{◌≡◌, ◌⊎◌, ℕ, List, [], ◌++◌, All, Some}
use Rattle.agg_fold.specs.Standing.{IsTable}
use Rattle.condition_spans.specs.Codes.{lists_at}
use Rattle.core_agreements.specs.NamedQueries.{IsBoundBetween}
use Rattle.core_events.specs.Cells.{counters_of_run}
use Rattle.core_events.specs.Clients.{reader_up_to}
use Rattle.core_events.specs.Events.{Opening, CoreEvent}
use Rattle.core_program.specs.CoreFits.{CoreEntry, OpensCells}
use Rattle.core_rows.specs.RowsOfCubes.{IsCubeRow}
use Rattle.cube_core.specs.declared.cell.CoreCell.{CoreCell}
use Rattle.cube_journal.specs.Counters.{held_by}
use Rattle.cube_language.specs.declared.decl.Decl.{Decl}
use Rattle.cube_language.specs.declared.statement.Statement.{Statement}
use Rattle.cube_values.specs.declared.query.BoundQuery.{BoundQuery}
use Rattle.cube_values.specs.declared.table.Field.{Field}
use Rattle.linked_shards.specs.CellShards.{CoreShardStands}
use Rattle.shard_events.specs.ShardsInRuns.{FitsShard, ShardAnswerSays}
use Rattle.linked_shards.specs.declared.cell.CoreShard.{CoreShard}
use Rattle.watch_holds.specs.HolderStates.{HeldReaders, LeadingReader, NoReader, OneReader, TwoReaders}
use Rattle.watched_queries.specs.ReadersInRuns.{HoldsInRuns}
use Rattle.watched_queries.specs.WatchesInRuns.{IsWatchOf}
use Rattle.watched_queries.specs.declared.watch.SessionWatch.{SessionWatch}

-- One of the readers is held under this number, and up to this epoch.
abbrev pub HasReader : ℕ → ℕ → HeldReaders → Type 0
HasReader number epoch NoReader = ⊥
HasReader number epoch (LeadingReader other at) = (other ≡ number) × (at ≡ epoch)
HasReader number epoch (OneReader other at) = (other ≡ number) × (at ≡ epoch)
HasReader number epoch (TwoReaders older from newer to) =
    ((older ≡ number) × (from ≡ epoch)) ⊎ ((newer ≡ number) × (to ≡ epoch))

-- A run passes a moment at which a reader is held under a number, up to an epoch, and since which the names were copied
-- by which the query of a statement is bound.
pub record IsBoundAtReader (number epoch : ℕ) (names : List (List (List (List ℕ)))) (d : Decl) (s : Statement)
    (query : BoundQuery) (o : Opening) (run : List CoreEvent) : Type 0 where
  pub later : List CoreEvent
  pub es : List CoreEvent
  pub goes_on : run ≡ later ++ es
  pub held : held_by (counters_of_run o es).snapshots number ≡ Some (reader_up_to epoch)
  pub bound : IsBoundBetween o es run names d s query

-- The kept rows with which a run opens are rows of their cubes, and the names of their texts are there, in whatever way
-- it opens with the cells.
abbrev pub OpenWithRowsOfCubes : List (CoreCell CoreShard) → Type 0
OpenWithRowsOfCubes cells =
    (o : Opening) (log : List CoreEntry) → OpensCells FitsShard CoreShardStands ShardAnswerSays o cells log
    → (cube : ℕ) → All (IsCubeRow o [] cube) (o.rows cube)

module _ (cells : List (CoreCell CoreShard)) (caller : ℕ) (own : List CoreEntry) where
  -- So it is in each run in which the session's own calls begin with these.
  abbrev pub IsBoundInRuns : ℕ → ℕ → List (List (List (List ℕ))) → Decl → Statement → BoundQuery → Type 0
  IsBoundInRuns number epoch names d s query = HoldsInRuns cells caller own (IsBoundAtReader number epoch names d s query)

  -- A watch of the session is bound at its reader.
  pub record IsBoundWatch (session : ℕ) (d : Decl) (s : Statement) (w : SessionWatch) : Type 0 where
    pub watch : IsWatchOf cells caller own session w
    pub names : List (List (List (List ℕ)))
    pub bound : IsBoundInRuns w.holder w.epoch names d s w.query

  -- And this is its table, by the texts of these names.
  pub record IsShownWatch (session : ℕ) (d : Decl) (s : Statement) (w : SessionWatch) (table : List (List Field))
      : Type 0 where
    pub watch : IsBoundWatch session d s w
    pub makes : IsTable w.query (lists_at watch.names w.query.cube) w.kept.groups table
