-- A load that has stopped: the records at which a LOAD looks, the rows among them and the bad ones.
use Rattle.std.proofs.Common.{◌≡◌, ◌∙◌, ℕ, ◌+◌, ◌-◌, ◌≤◌, suc, false, List, [], ◌∷◌, ◌++◌, length, map, All, Option, Some, Result, Ok, Err, slice_get, unwrap_or, refl, sym, ap, subst, arith, append-nil}
use Rattle.std.proofs.lemmas.List.{get_or_default, length-map}
use Rattle.std.proofs.lemmas.Option.{slice_get-get_or}
use Rattle.agg_fold.specs.Coded.{row_for}
use Rattle.condition_spans.specs.Codes.{lists_at, texts_at}
use Rattle.core_agreements.specs.PostsForOperations.{StandForAll, rows_of_batches}
use Rattle.core_events.specs.Cells.{desk_of, dictionary_of}
use Rattle.core_events.specs.Events.{Opening, CoreEvent}
use Rattle.core_names.specs.NamesInTheEnd.{MayLeaveNames, OpenWithNames}
use Rattle.core_program.specs.CoreFits.{CoreEntry}
use Rattle.core_program.specs.Knowing.{IsLaterRun}
use Rattle.core_records.proofs.NamesOnRecord.{cube-names, dim-names, no-room, suits-run}
use Rattle.core_records.specs.CoreRecords.{names_in, names_left}
use Rattle.csv_load.specs.FileRecords.{RecordFields}
use Rattle.csv_load.specs.Loads.{LoadState}
use Rattle.cube_core.specs.declared.cell.CoreCell.{CoreCell}
use Rattle.cube_language.specs.declared.bad_row.BadRow.{BadRow}
use Rattle.cube_language.specs.declared.decl.Decl.{Decl}
use Rattle.cube_language.specs.declared.decl.DimDecl.{DimDecl}
use Rattle.cube_run.specs.LoadedRows.{records_looked_at, rejections_among, rows_among}
use Rattle.cube_run.specs.RunTransactions.{rows_of_cube}
use Rattle.cube_values.specs.declared.row.CodedRow.{CodedRow}
use Rattle.cube_values.specs.declared.row.Row.{Row}
use Rattle.cube_values.specs.declared.row.StoredRow.{StoredRow}
use Rattle.cube_values.specs.declared.snapshot.Snapshot.{Snapshot}
use Rattle.known_cubes.proofs.ToldCubes.{desk-has}
use Rattle.known_cubes.specs.KnownCubes.{IsToldOfCube}
use Rattle.linked_shards.specs.CellShards.{CoreShardStands}
use Rattle.shard_events.specs.ShardsInRuns.{FitsShard, ShardAnswerSays}
use Rattle.linked_shards.specs.declared.cell.CoreShard.{CoreShard}
use Rattle.one_session.specs.Changes.{AllStandForValues, ComeFor}
use Rattle.query_plan.specs.Ties.{stored_for}
use Rattle.row_encoding.specs.CodedInserts.{HasCoords}
use Rattle.row_encoding.specs.CodedLoads.{LoadGoesOn, TakesBatch, Tell, final_record, final_records, looked_at_later, records_between, rejections_from}
use Rattle.row_encoding.specs.CodedValues.{HaveNames, NumbersHaveNoNames}
use Rattle.row_encoding.specs.FinalCodes.{dim_at}
use Rattle.row_encoding.specs.declared.load.BadRecords.{BadRecords}
use Rattle.row_encoding.specs.declared.load.BatchEnd.{BatchEnd}
use Rattle.row_encoding.specs.declared.load.BatchEnd.TheVariants as batch_is
use Rattle.loaded_batches.specs.LoadEnds.{AreStored, HaveFewBad, HaveManyBad, StandForRecords, looked_at}
use Rattle.loaded_batches.specs.LoadFronts.{HasPutAll, HasTakenAll, HasTooManyBad}

-- ---- no dimension of numbers has names

module _ (cells : List (CoreCell CoreShard)) (caller : ℕ) (own : List CoreEntry) (name : List ℕ) (place : ℕ) (d : Decl)
    (told : IsToldOfCube own name place d)
    (named : OpenWithNames FitsShard CoreShardStands ShardAnswerSays cells) where
  numbers-in-run : (o : Opening) (log : List CoreEntry) (run : List CoreEvent)
      → IsLaterRun FitsShard CoreShardStands ShardAnswerSays cells o caller own log run
      → NumbersHaveNoNames d (lists_at (names_left o run) place)
  numbers-in-run o log run later = λ k within number.
      let dim : DimDecl = dim_at d.dims k in
      let cube_is : slice_get (desk_of o run).cubes place ≡ Some d =
      (desk-has FitsShard CoreShardStands ShardAnswerSays o cells caller own log run name place d later told).0
      in
      let dim_is : slice_get d.dims k ≡ Some dim = slice_get-get_or d.dims k (dim_at [] 0) within in
      let texts_are : texts_at (lists_at (names_left o run) place) k ≡ (dictionary_of o place k run).names =
      ap (λ (l : Option (List (List (List ℕ)))). texts_at (unwrap_or l []) k)
      (cube-names (names_in o run) (desk_of o run).cubes place d cube_is)
      ∙ ap (λ (l : Option (List (List ℕ))). unwrap_or l []) (dim-names (names_in o run place) d.dims k dim dim_is)
      in
      let suits =
      suits-run o run place k dim later.is_run
      ((named o log run later.opens later.events later.is_run).suit place k d dim cube_is dim_is)
      in
      texts_are
      ∙ no-room dim.text (dictionary_of o place k run).names dim.cardinality
      (subst (λ (n : ℕ). length (dictionary_of o place k run).names ≤ n) suits.room suits.fits) number

  pub numbers-in-end : (names : List (List (List (List ℕ))))
      → MayLeaveNames FitsShard CoreShardStands ShardAnswerSays cells caller own names
      → NumbersHaveNoNames d (lists_at names place)
  numbers-in-end names may =
      subst (λ (ns : List (List (List (List ℕ)))). NumbersHaveNoNames d (lists_at ns place)) (sym may.are)
      (numbers-in-run may.opening may.log may.run may.later)

-- ---- rows that come

stored-of : (name : List ℕ) (lists : List (List (List ℕ))) (coded : List CodedRow)
    → map (stored_for name lists) coded ≡ rows_of_cube name (map (row_for lists) coded)
stored-of name lists [] = refl
stored-of name lists (row ∷ coded) =
    ap (λ (rest : List StoredRow). stored_for name lists row ∷ rest) (stored-of name lists coded)

all-named : (d : Decl) (lists : List (List (List ℕ))) (rows : List CodedRow) → NumbersHaveNoNames d lists
    → All (HasCoords d) rows → All (λ row. HaveNames d lists row.coords) rows → AllStandForValues d lists rows
all-named d lists [] numbers coords names = tt
all-named d lists (row ∷ rows) numbers coords names = (
  record {
    of_cube = coords 0 row (omega arith);
    each = λ k e l.
        let same =
        ap (λ (dim : DimDecl). dim.text)
        (get_or_default d.dims k (record { name = []; text = false; cardinality = 0; range = 0 }) e l)
        in
        record {
          number = λ is. numbers k l (same ∙ is);
          text = λ is. names 0 row (omega arith) k (same ∙ is);
        };
  },
  all-named d lists rows numbers (λ k x l. coords (suc k) x (omega (arith, l)))
      (λ k x l. names (suc k) x (omega (arith, l))),
)

-- ---- records

-- A record is a row or bad.
parts-of : (n : ℕ) (records : List (Result Row BadRow))
    → length (rows_among records) + length (rejections_from n records) ≡ length records
parts-of n [] = refl
parts-of n (Ok row ∷ records) = let rest = parts-of (n + 1) records in omega (arith, rest)
parts-of n (Err why ∷ records) = let rest = parts-of (n + 1) records in omega (arith, rest)

module _ (d : Decl) (lists : List (List (List ℕ))) (allowed : ℕ) (start load : LoadState) (before bad : BadRecords)
    (rows : List CodedRow) (none : Tell before []) (begins : start.number ≡ 0) where
  abbrev between : List (Result Row BadRow)
  between = final_records d lists (records_between start load)

  looked-by : (ended : BatchEnd) → TakesBatch d lists allowed start load before bad rows ended
      → looked_at_later (allowed - bad.count) (final_records d lists load.left) ended ≡ []
      → looked_at d allowed start lists ≡ between
  looked-by ended h no_later =
      let zero_bad = none.count in
      let same : allowed ≡ allowed - before.count = omega (arith, zero_bad) in
      ap (λ (n : ℕ). records_looked_at n (final_records d lists start.left)) same
      ∙ h.looked
      ∙ ap (λ (later : List (Result Row BadRow)). between ++ later) no_later
      ∙ append-nil between

  tells-bad : (ended : BatchEnd) → TakesBatch d lists allowed start load before bad rows ended
      → Tell bad (rejections_among between)
  tells-bad ended h =
      subst (λ (n : ℕ). Tell bad (rejections_from (n + 1) between)) begins (h.faults [] none)

  no-later : load.left ≡ []
      → looked_at_later (allowed - bad.count) (final_records d lists load.left) batch_is.Full ≡ []
  no-later left =
      ap (λ (xs : List RecordFields). records_looked_at (allowed - bad.count) (final_records d lists xs)) left

  pub has-many : bad.count ≡ allowed + 1 → TakesBatch d lists allowed start load before bad rows batch_is.TooMany
      → HaveManyBad allowed bad.count (looked_at d allowed start lists)
  has-many many h =
      subst (λ (records : List (Result Row BadRow)). HaveManyBad allowed bad.count records)
      (sym (looked-by batch_is.TooMany h refl))
      (record { count = (tells-bad batch_is.TooMany h).count; many = omega (arith, many) })

  pub has-few : bad.count ≤ allowed → load.left ≡ []
      → TakesBatch d lists allowed start load before bad rows batch_is.Full
      → HaveFewBad allowed (looked_at d allowed start lists)
  has-few few left h =
      let count = (tells-bad batch_is.Full h).count in
      subst (λ (records : List (Result Row BadRow)). HaveFewBad allowed records)
      (sym (looked-by batch_is.Full h (no-later left))) (omega (arith, count, few))

  pub stand-for : (batches : List (List CodedRow)) → bad.count ≤ allowed → load.left ≡ [] → LoadGoesOn start load
      → NumbersHaveNoNames d lists → All (HasCoords d) rows
      → ((stored : List StoredRow) → ComeFor d lists rows stored → StandForAll d lists (rows_of_batches batches) stored)
      → TakesBatch d lists allowed start load before bad rows batch_is.Full
      → StandForRecords d lists allowed (looked_at d allowed start lists) batches (load.number - bad.count) bad
  stand-for batches few left goes numbers inside alike h =
      let tell = tells-bad batch_is.Full h in
      subst (λ (records : List (Result Row BadRow)).
      StandForRecords d lists allowed records batches (load.number - bad.count) bad)
      (sym (looked-by batch_is.Full h (no-later left)))
      (record {
        stand =
            alike (rows_of_cube d.name (rows_among between)) (record {
              are =
                  sym (stored-of d.name lists rows
                  ∙ ap (λ (rs : List Row). rows_of_cube d.name rs) (h.rows numbers));
              each = all-named d lists rows numbers inside h.names;
            });
        count =
            let count = goes.count in
            let long = length-map (records_between start load) (final_record d lists) in
            let parts = parts-of 1 between in
            let told = tell.count in
            omega (arith, count, long, parts, told, begins);
        bad_are = tell;
        few = few;
      })

-- ---- ends

module _ (cells : List (CoreCell CoreShard)) (caller session place : ℕ) (writer : Snapshot) (d : Decl) (allowed : ℕ)
    (own now : List CoreEntry) (start load : LoadState) (before bad : BadRecords) (none : Tell before [])
    (begins : start.number ≡ 0) where
  pub ends-stored : (name : List ℕ) → IsToldOfCube now name place d
      → OpenWithNames FitsShard CoreShardStands ShardAnswerSays cells
      → HasPutAll cells caller session place d allowed writer own now start load before bad
      → AreStored cells caller session place writer d allowed start own now (load.number - bad.count) bad
  ends-stored name told named h =
      let put = h.so_far in
      record {
        batches = put.posted.batches;
        posted = put.posted.posted;
        stand = λ names may.
            let lists = lists_at names place in
            stand-for d lists allowed start load before bad put.rows none begins put.posted.batches put.taken.few
            h.none_left put.taken.goes (numbers-in-end cells caller now name place d told named names may) put.inside
            (put.posted.alike d lists) (put.taken.taken names may);
      }

  pub ends-many : HasTooManyBad cells caller place d allowed now start load before bad
      → (names : List (List (List (List ℕ))))
      → MayLeaveNames FitsShard CoreShardStands ShardAnswerSays cells caller now names
      → HaveManyBad allowed bad.count (looked_at d allowed start (lists_at names place))
  ends-many h = λ names may.
      has-many d (lists_at names place) allowed start load before bad h.rows none begins h.many (h.taken names may)

  pub ends-full : HasTakenAll cells caller place d allowed now start load before bad
      → (names : List (List (List (List ℕ))))
      → MayLeaveNames FitsShard CoreShardStands ShardAnswerSays cells caller now names
      → HaveFewBad allowed (looked_at d allowed start (lists_at names place))
  ends-full h = λ names may.
      let t = h.some.taken in
      has-few d (lists_at names place) allowed start load before bad h.some.rows none begins t.few h.none_left
      (t.taken names may)
