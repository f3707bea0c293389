-- The names of a told cube in the end, and rows that stand for values by them.
use Rattle.std.proofs.Common.{◌≡◌, ◌∙◌, ℕ, suc, ◌≤◌, ◌<◌, false, List, [], ◌∷◌, length, map, slice_get, unwrap_or, Option, Some, All, refl, sym, ap, subst, arith}
use Rattle.std.proofs.lemmas.List.{get_or_default}
use Rattle.std.proofs.lemmas.Option.{slice_get-get_or}
use mathlib.Core.List.{IsPrefix}
use Rattle.agg_fold.specs.Coded.{row_for}
use Rattle.condition_spans.specs.Codes.{lists_at, texts_at}
use Rattle.core_agreements.specs.PostsForOperations.{StandForAll, rows_of_batches}
use Rattle.core_events.specs.Cells.{desk_of, dictionary_of}
use Rattle.core_events.specs.Events.{Opening, CoreEvent}
use Rattle.core_names.specs.NamesInTheEnd.{MayLeaveNames, OpenWithNames}
use Rattle.core_program.proofs.KnownCalls.{earlier-run}
use Rattle.core_program.specs.CoreFits.{CoreEntry}
use Rattle.core_program.specs.Knowing.{IsLaterRun}
use Rattle.core_records.proofs.NamesOnRecord.{cube-names, dim-names, no-room, suits-run}
use Rattle.core_records.specs.CoreRecords.{names_in, names_left}
use Rattle.core_records.specs.OpeningNames.{SuitsDimension}
use Rattle.cube_core.specs.declared.cell.CoreCell.{CoreCell}
use Rattle.cube_language.specs.declared.decl.Decl.{Decl}
use Rattle.cube_language.specs.declared.decl.DimDecl.{DimDecl}
use Rattle.cube_run.specs.LoadedRows.{row_of_values}
use Rattle.cube_run.specs.RunTransactions.{rows_of_cube}
use Rattle.cube_values.specs.declared.row.CodedRow.{CodedRow}
use Rattle.cube_values.specs.declared.row.Row.{Row}
use Rattle.cube_values.specs.declared.row.StoredRow.{StoredRow}
use Rattle.cube_values.specs.declared.shape.Size.{Size}
use Rattle.cube_values.specs.declared.value.Value.{Value}
use Rattle.inserted_rows.specs.RowsInTheEnd.{HoldsInTheEnd, IsToldOfCubeAt}
use Rattle.known_cubes.proofs.ToldCubes.{desk-has}
use Rattle.linked_shards.specs.CellShards.{CoreShardStands}
use Rattle.linked_shards.specs.declared.cell.CoreShard.{CoreShard}
use Rattle.one_session.specs.Changes.{AllStandForValues, ComeFor}
use Rattle.posted_changes.proofs.ShardedRows.{stand-once}
use Rattle.posted_pasts.specs.PostsAdded.{batches_among}
use Rattle.query_plan.specs.Ties.{stored_for}
use Rattle.row_encoding.specs.CodedInserts.{HasCoords, RowsStandFor}
use Rattle.row_encoding.specs.CodedValues.{HaveNames, NumbersHaveNoNames}
use Rattle.row_encoding.specs.FinalCodes.{dim_at}
use Rattle.session_batches.specs.RowPosts.{row_posts}
use Rattle.shard_events.specs.ShardsInRuns.{FitsShard, ShardAnswerSays}

abbrev MayLeave : List (CoreCell CoreShard) → ℕ → List CoreEntry → List (List (List (List ℕ))) → Type 0
MayLeave cells caller own names = MayLeaveNames FitsShard CoreShardStands ShardAnswerSays cells caller own names

-- ---- names

-- No other names are left with more calls.
pub left-later : (cells : List (CoreCell CoreShard)) (caller : ℕ) (own now : List CoreEntry)
    (names : List (List (List (List ℕ)))) → IsPrefix own now → MayLeave cells caller now names
    → MayLeave cells caller own names
left-later cells caller own now names begins may = record {
  opening = may.opening;
  log = may.log;
  run = may.run;
  later =
      earlier-run FitsShard CoreShardStands ShardAnswerSays cells may.opening caller own begins.0 may.log may.run
      (subst (λ (l : List CoreEntry).
      IsLaterRun FitsShard CoreShardStands ShardAnswerSays cells may.opening caller l may.log may.run) (sym begins.1)
      may.later);
  are = may.are;
}

module _ (cells : List (CoreCell CoreShard)) (caller place : ℕ) (own : List CoreEntry) (d : Decl)
    (named : OpenWithNames FitsShard CoreShardStands ShardAnswerSays cells) (told : IsToldOfCubeAt own place d) where
  module _ (o : Opening) (log : List CoreEntry) (run : List CoreEvent)
      (later : IsLaterRun FitsShard CoreShardStands ShardAnswerSays cells o caller own log run) (dim : ℕ)
      (within : dim < length d.dims) where
    cube-there : slice_get (desk_of o run).cubes place ≡ Some d
    cube-there =
        (desk-has FitsShard CoreShardStands ShardAnswerSays o cells caller own log run told.0 place d later told.1).0

    dim-there : slice_get d.dims dim ≡ Some (dim_at d.dims dim)
    dim-there = slice_get-get_or d.dims dim (dim_at [] 0) within

    texts-there : texts_at (lists_at (names_left o run) place) dim ≡ (dictionary_of o place dim run).names
    texts-there =
        ap (λ (l : Option (List (List (List ℕ)))). texts_at (unwrap_or l []) dim)
        (cube-names (names_in o run) (desk_of o run).cubes place d cube-there)
        ∙ ap (λ (l : Option (List (List ℕ))). unwrap_or l [])
        (dim-names (names_in o run place) d.dims dim (dim_at d.dims dim) dim-there)

    suits-end : SuitsDimension (dim_at d.dims dim) (dictionary_of o place dim run)
    suits-end =
        suits-run o run place dim (dim_at d.dims dim) later.is_run
        ((named o log run later.opens later.events later.is_run).suit place dim d (dim_at d.dims dim) cube-there
        dim-there)

    none-there : (dim_at d.dims dim).text ≡ false → texts_at (lists_at (names_left o run) place) dim ≡ []
    none-there is =
        let s = suits-end in
        texts-there
        ∙ no-room (dim_at d.dims dim).text (dictionary_of o place dim run).names (dim_at d.dims dim).cardinality
        (subst (λ (n : ℕ). length (dictionary_of o place dim run).names ≤ n) s.room s.fits) is

  pub numbers-end : HoldsInTheEnd cells caller own place (NumbersHaveNoNames d)
  numbers-end names may =
      subst (λ (ns : List (List (List (List ℕ)))). NumbersHaveNoNames d (lists_at ns place)) (sym may.are)
      (λ dim within is. none-there may.opening may.log may.run may.later dim within is)

-- ---- rows

stored-of : (name : List ℕ) (lists : List (List (List ℕ))) (coded : List CodedRow)
    → map (stored_for name lists) coded ≡ rows_of_cube name (map (row_for lists) coded)
stored-of name lists [] = refl
stored-of name lists (row ∷ coded) =
    ap (λ (rest : List StoredRow). stored_for name lists row ∷ rest) (stored-of name lists coded)

all-named : (d : Decl) (lists : List (List (List ℕ))) (rows : List CodedRow) → NumbersHaveNoNames d lists
    → All (HasCoords d) rows → All (λ row. HaveNames d lists row.coords) rows → AllStandForValues d lists rows
all-named d lists [] numbers coords names = tt
all-named d lists (row ∷ rows) numbers coords names = (
  record {
    of_cube = coords 0 row (omega arith);
    each = λ k e l.
        let same =
        ap (λ (dim : DimDecl). dim.text)
        (get_or_default d.dims k (record { name = []; text = false; cardinality = 0; range = 0 }) e l)
        in
        record {
          number = λ is. numbers k l (same ∙ is);
          text = λ is. names 0 row (omega arith) k (same ∙ is);
        };
  },
  all-named d lists rows numbers (λ k x l. coords (suc k) x (omega (arith, l)))
      (λ k x l. names (suc k) x (omega (arith, l))),
)

-- Rows come for values where each stands for one.
pub come-for : (d : Decl) (lists : List (List (List ℕ))) (rows : List CodedRow) (values : List Row)
    → NumbersHaveNoNames d lists → map (row_for lists) rows ≡ values → All (HasCoords d) rows
    → All (λ row. HaveNames d lists row.coords) rows → ComeFor d lists rows (rows_of_cube d.name values)
come-for d lists rows values numbers are coords names = record {
  are = sym (stored-of d.name lists rows ∙ ap (λ (vs : List Row). rows_of_cube d.name vs) are);
  each = all-named d lists rows numbers coords names;
}

module _ (cells : List (CoreCell CoreShard)) (caller place : ℕ) (own : List CoreEntry) (d : Decl)
    (given : List (List Value)) (rows : List CodedRow)
    (named : OpenWithNames FitsShard CoreShardStands ShardAnswerSays cells) (told : IsToldOfCubeAt own place d)
    (coords : All (HasCoords d) rows)
    (stand : HoldsInTheEnd cells caller own place (λ lists. RowsStandFor d lists given rows)) where
  pub rows-come : HoldsInTheEnd cells caller own place
      (λ lists. ComeFor d lists rows (rows_of_cube d.name (map (row_of_values d) given)))
  rows-come names may =
      let numbers = numbers-end cells caller place own d named told names may in
      let s = stand names may in
      come-for d (lists_at names place) rows (map (row_of_values d) given) numbers (s.rows numbers) coords s.names

  pub rows-posted : (shards epoch : ℕ) (sizes : List Size) → 1 ≤ shards → HoldsInTheEnd cells caller own place
      (λ lists. StandForAll d lists (rows_of_batches (batches_among (row_posts sizes shards place epoch rows)))
      (rows_of_cube d.name (map (row_of_values d) given)))
  rows-posted shards epoch sizes some names may =
      stand-once sizes shards place epoch rows d (lists_at names place)
      (rows_of_cube d.name (map (row_of_values d) given)) some (rows-come names may)
