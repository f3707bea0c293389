-- A watch of a session: what it shows, and its answer.
-- Source: materialized views kept by their changes (Gupta, Mumick, Subrahmanian, SIGMOD 1993); AOSI (ICDE 2018), serial
-- execution in the order of epochs.
use Rattle.std.specs.Prelude.{◌≡◌, ℕ, List, All, map}
use Rattle.cube_values.specs.Answer.{table_of}
use Rattle.cube_values.specs.declared.table.Field.{Field}
use Rattle.agg_fold.specs.Coded.{row_for}
use Rattle.agg_fold.specs.Standing.{HasRoom, IsTable}
use Rattle.agg_fold.specs.Tallies.{IsAdditive}
use Rattle.core_program.specs.CoreFits.{CoreEntry}
use Rattle.cube_core.specs.declared.cell.CoreCell.{CoreCell}
use Rattle.linked_shards.specs.declared.cell.CoreShard.{CoreShard}
use Rattle.watch_holds.specs.HolderStates.{IsHolderOf}
use Rattle.watched_queries.specs.ReadersInRuns.{HoldsInRuns, StandUpTo, rows_up_to}
use Rattle.watched_queries.specs.declared.watch.SessionWatch.{SessionWatch}

-- It is under a holder's number, its query has no Min and no Max, and its groups have a table.
pub record IsSoundWatch (session : ℕ) (w : SessionWatch) : Type 0 where
  pub holder : IsHolderOf session w.holder
  pub additive : All IsAdditive w.query.items
  pub room : HasRoom w.query 0 w.kept.groups

module _ (cells : List (CoreCell CoreShard)) (caller : ℕ) (own : List CoreEntry) where
  -- It shows the rows up to the epoch of its reader.
  abbrev pub ShowsUpTo : SessionWatch → Type 0
  ShowsUpTo w = StandUpTo cells caller own w.query w.epoch w.kept.groups

  -- Its table is the answer to its query over these rows: the plain fold at the epoch of its reader.
  abbrev pub IsPlainFold : SessionWatch → Type 0
  IsPlainFold w = (lists : List (List (List ℕ))) (table : List (List Field)) → IsTable w.query lists w.kept.groups table
      → HoldsInRuns cells caller own (λ o run. table
      ≡ table_of w.query.group w.query.items (map (row_for lists) (rows_up_to o run w.query w.epoch)))

  pub record IsWatchOf (session : ℕ) (w : SessionWatch) : Type 0 where
    pub sound : IsSoundWatch session w
    pub shows : ShowsUpTo w
