-- The records that are left when a shard was full, batch by batch.
use Rattle.std.proofs.Common.{◌≡◌, ◌∙◌, ◌-◌, ◌≤◌, ℕ, inl, List, [], length, refl, sym}
use mathlib.Core.List.{IsPrefix}
use Rattle.core_names.specs.AskedNames.{GoOnByNames}
use Rattle.core_names.specs.StaysAsWhoAsks.{asks-both, asks-none}
use Rattle.core_program.specs.CoreFits.{CoreEntry}
use Rattle.csv_load.specs.Loads.{LoadState}
use Rattle.cube_core.specs.declared.cell.CoreCell.{CoreCell}
use Rattle.cube_language.specs.declared.decl.Decl.{Decl}
use Rattle.cube_values.specs.Batches.{Batch}
use Rattle.cube_values.specs.declared.row.CodedRow.{CodedRow}
use Rattle.linked_shards.specs.declared.cell.CoreShard.{CoreShard}
use Rattle.row_encoding.specs.CodedLoads.{BatchHasEnded, LoadGoesOn}
use Rattle.row_encoding.specs.declared.load.BadRecords.{BadRecords}
use Rattle.row_encoding.specs.declared.load.BatchEnd.{BatchEnd}
use Rattle.row_encoding.specs.declared.load.BatchEnd.TheVariants as batch_is
use Rattle.loaded_batches.specs.LoadFronts.{HasTakenAll, HasTakenSome, HasTooManyBad, IsAfterRest, IsEndOfRest, TakesInTheEnd, end_of_rest}
use Rattle.loaded_batches.specs.LoadTexts.{HasAskedForSuch}
use Rattle.loaded_batches.proofs.LookedAtTexts.{asked-both}
use Rattle.loaded_batches.proofs.TakenRecords.{all-behind, batch-full, batch-last, batch-many, many-behind, some-behind, taken-none}

-- Calls on the names go on from those before them.
pub more-by-names : (caller : ℕ) (own now : List CoreEntry) → GoOnByNames caller own now → IsPrefix own now
more-by-names caller own now asks = (asks.added, sym asks.whole)

-- It has taken some, and may go on.
pub record IsRestFront (cells : List (CoreCell CoreShard)) (caller place : ℕ) (d : Decl) (allowed : ℕ)
    (own now : List CoreEntry) (start load : LoadState) (before bad : BadRecords) (batch : Batch) : Type 0 where
  pub asks : GoOnByNames caller own now
  pub asked : HasAskedForSuch cells caller place d (allowed - before.count) start own now
  pub some : HasTakenSome cells caller place d allowed now start load before bad
  pub cube : load.decl ≡ d
  pub dims : batch.dims ≡ length d.dims
  pub width : batch.width ≡ length d.metrics

module _ (cells : List (CoreCell CoreShard)) (caller place : ℕ) (d : Decl) (allowed : ℕ) where
  abbrev Front : List CoreEntry → List CoreEntry → LoadState → LoadState → BadRecords → BadRecords → Batch → Type 0
  Front own now start load before bad batch =
      IsRestFront cells caller place d allowed own now start load before bad batch

  abbrev Takes : List CoreEntry → LoadState → LoadState → BadRecords → BadRecords → List CodedRow → BatchEnd → Type 0
  Takes now start load before bad rows ended =
      TakesInTheEnd cells caller place d allowed now start load before bad rows ended

  pub rest-begins : (own : List CoreEntry) (load : LoadState) (bad : BadRecords) (batch : Batch)
      → bad.count ≤ allowed → bad.count ≤ load.number → load.decl ≡ d → batch.dims ≡ length d.dims
      → batch.width ≡ length d.metrics → Front own own load load bad bad batch
  rest-begins own load bad batch few counted cube dims width = record {
    asks = asks-none caller own;
    asked = λ cube dim text has. inl has;
    some = record { rows = []; taken = taken-none cells caller place d allowed own load bad few counted };
    cube = cube;
    dims = dims;
    width = width;
  }

  -- One batch more.
  module _ (own mid now : List CoreEntry) (start load next : LoadState) (before bad after : BadRecords)
      (batch rows : Batch) (ended : BatchEnd) (h : Front own mid start load before bad batch)
      (asks : GoOnByNames caller mid now) (goes : LoadGoesOn load next) (counted : after.count ≤ next.number)
      (asked : HasAskedForSuch cells caller place d (allowed - bad.count) load mid now)
      (has_ended : BatchHasEnded allowed next after rows.rows ended)
      (takes : Takes now load next bad after rows.rows ended) where
    more : IsPrefix mid now
    more = more-by-names caller mid now asks

    pub asked-more : HasAskedForSuch cells caller place d (allowed - before.count) start own now
    asked-more =
        asked-both cells caller place d allowed own mid now more start load before bad h.some.rows h.some.taken
        h.asked asked

    pub rest-goes-on : ended ≡ batch_is.Full → rows.dims ≡ batch.dims → rows.width ≡ batch.width
        → Front own now start next before after rows
    rest-goes-on is dims width = record {
      asks = asks-both caller own mid now h.asks asks;
      asked = asked-more;
      some =
          some-behind cells caller place d allowed mid now more start load next before bad after h.some.rows
          h.some.taken (record {
            rows = rows.rows;
            taken =
                batch-full cells caller place d allowed now load next bad after rows.rows goes counted
                (coe 0 1 (i. BatchHasEnded allowed next after rows.rows (is i)) has_ended)
                (coe 0 1 (i. Takes now load next bad after rows.rows (is i)) takes);
          });
      cube = goes.cube ∙ h.cube;
      dims = dims ∙ h.dims;
      width = width ∙ h.width;
    }

    pub rest-ends : ended ≡ batch_is.End → HasTakenAll cells caller place d allowed now start next before after
    rest-ends is =
        let over = coe 0 1 (i. BatchHasEnded allowed next after rows.rows (is i)) has_ended in
        all-behind cells caller place d allowed mid now more start load next before bad after h.some.rows h.some.taken
        (record {
          some = record {
            rows = rows.rows;
            taken =
                batch-last cells caller place d allowed now load next bad after rows.rows goes counted over
                (coe 0 1 (i. Takes now load next bad after rows.rows (is i)) takes);
          };
          none_left = over.0;
        })

    pub rest-many : ended ≡ batch_is.TooMany → HasTooManyBad cells caller place d allowed now start next before after
    rest-many is =
        many-behind cells caller place d allowed mid now more start load next before bad after h.some.rows h.some.taken
        (batch-many cells caller place d allowed now load next bad after rows.rows goes counted
        (coe 0 1 (i. BatchHasEnded allowed next after rows.rows (is i)) has_ended)
        (coe 0 1 (i. Takes now load next bad after rows.rows (is i)) takes))

  -- So the LOAD ends.
  pub ends-rest : (now : List CoreEntry) (start load : LoadState) (before bad : BadRecords) (shard rows : ℕ)
      (ended : BatchEnd) → IsAfterRest cells caller place d allowed now start load before bad ended
      → IsEndOfRest cells caller place d allowed now start load before bad (end_of_rest ended bad shard rows)
  ends-rest now start load before bad shard rows batch_is.Full h = absurd h
  ends-rest now start load before bad shard rows batch_is.End h = h
  ends-rest now start load before bad shard rows batch_is.TooMany h = (refl, h)
