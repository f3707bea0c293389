use Rattle.std.proofs.Common.{◌≡◌, take, map, length, vec_len}
use Rattle.std.specs.List.{items_where_true}
use Rattle.agg_fold.specs.Standing.{Gains}
use Rattle.brick_store.specs.Whole.{row_with_coords}
use Rattle.brick_store.proofs.scan.fold_each.Given as goal

abbrev pub invariant-rows : goal.invariant-rows
invariant-rows l = record {
  gains : Gains l.query (items_where_true (take l.row l.bits.bits) (take l.row (map (row_with_coords l.starts) l.columns.rows))) l.initial.into.groups l.into.groups;
  coords : vec_len l.coords ≡ length l.starts;
  metrics : vec_len l.metrics ≡ l.columns.layout.metrics;
}
