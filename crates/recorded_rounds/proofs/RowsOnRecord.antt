-- What rounds keep of a cube stands for what a reader at their epoch sees of the record.
use Rattle.std.proofs.Common.{◌≡◌, ◌∙◌, ℕ, ◌==◌, true, List, filter, slice_get, Some, inl, inr, refl, sym, ap}
use Rattle.std.specs.List.{count_by}
use Rattle.std.specs.List.Sorted.{IsPermutation}
use Rattle.std.proofs.lemmas.List.Sorted.{IsPermutation-trans}
use Rattle.std.proofs.lemmas.Option.{slice_get_cases}
use Rattle.cube_values.specs.declared.row.CodedRow.{CodedRow}
use Rattle.cube_values.specs.declared.row.StoredRow.{StoredRow}
use Rattle.cube_language.specs.declared.decl.Decl.{Decl}
use Rattle.cube_schema.specs.Schemas.{cube_of}
use Rattle.cube_run.specs.RunRecords.{catalog_of}
use Rattle.cube_rounds.specs.Bricks.{BrickPart}
use Rattle.cube_rounds.specs.KeptRows.{entries_joined, rows_joined, rows_seen}
use Rattle.cube_rounds.specs.Stands.{Kept}
use Rattle.brick_address.specs.Addresses.{brick_of}
use Rattle.condition_spans.specs.Codes.{lists_at}
use Rattle.core_events.specs.Cells.{rows_of_brick, sizes_of_cube}
use Rattle.core_events.specs.Clients.{reader_up_to}
use Rattle.core_events.specs.Events.{Opening, CoreEvent}
use Rattle.core_serial.specs.Copies.{rows_committed_up_to}
use Rattle.core_serial.proofs.Permutations.{alike-by-key, counts-permuted, permuted-by-counts}
use Rattle.core_records.specs.CoreRecords.{RunScripts, record_of}
use Rattle.core_agreements.specs.PostsForOperations.{StandForAll}
use Rattle.core_agreements.specs.ScriptedRuns.{IsScriptedRun}
use Rattle.core_agreements.proofs.SeenRecords.{reader-now}
use Rattle.opened_core.specs.KeptShards.{kept_in_brick, kept_in_cube}
use Rattle.opened_core.proofs.KeptFacts.{KeptLaws, brick-where, none-where}
use Rattle.run_ends.specs.AllSafeEnds.{rows_on_record}
use Rattle.rows_of_rounds.specs.RowsOfRounds.{HasRowsOfRun}
use Rattle.recorded_rounds.specs.RecordedRounds.{KeepRowsFor}

pub kept-for-record : (o : Opening) (given : RunScripts) (es : List CoreEvent) (kept : Kept) (cube : ℕ) (d : Decl)
    → IsScriptedRun o given es → HasRowsOfRun o es kept
    → slice_get (catalog_of (record_of o given es)).cubes cube ≡ Some d
    → KeepRowsFor o d (lists_at (record_of o given es).names cube) cube kept
    (rows_on_record (record_of o given es) kept.epoch d.name)
kept-for-record o given es kept cube d r has is = record {
  rows = rows_committed_up_to o es cube kept.epoch;
  stand = reader-now o given es r cube d is (reader_up_to kept.epoch) refl;
  each = λ brick. has.rows cube brick;
}

-- ---- all rows of the cube

module _ (o : Opening) (kept : Kept) (laws : KeptLaws kept) (cube : ℕ) (rows : List CodedRow)
    (same : (brick : ℕ) → IsPermutation (kept_in_brick kept cube brick) (rows_of_brick o cube brick rows)) where
  abbrev key : CodedRow → ℕ
  key row = brick_of (sizes_of_cube o cube) row.coords

  by-brick : ((brick : ℕ) → filter (λ row. key row == brick) (kept_in_cube kept cube) ≡ kept_in_brick kept cube brick)
      → IsPermutation (kept_in_cube kept cube) rows
  by-brick each =
      permuted-by-counts (kept_in_cube kept cube) rows
      (alike-by-key key (kept_in_cube kept cube) rows (λ brick c.
      ap (count_by c) (each brick)
      ∙ counts-permuted (kept_in_brick kept cube brick) (rows_of_brick o cube brick rows) (same brick) c))

  pub all-permuted : ((c : Decl) → slice_get kept.cubes cube ≡ Some c → o.shapes cube ≡ cube_of c)
      → IsPermutation (kept_in_cube kept cube) rows
  all-permuted shapes = elim (slice_get_cases kept.cubes cube).1 [
    | inl there ↦
        let shape = shapes there.0 there.2 in
        by-brick (λ brick.
        (λ i. filter (λ row. brick_of (shape i).shape.sizes row.coords == brick) (kept_in_cube kept cube))
        ∙ brick-where kept laws cube there.0 there.2 (λ brick. true) brick)
    | inr past ↦
        let none = none-where kept laws (λ brick. true) cube past.1 in
        by-brick (λ brick.
        ap (λ (l : List CodedRow). filter (λ row. key row == brick) l) none
        ∙ ap
        (λ (parts : List BrickPart). rows_seen (reader_up_to kept.epoch) (entries_joined 0 parts) 0 (rows_joined parts))
        (sym (laws.none cube brick past.0)))
  ]

stand-by : (d : Decl) (lists : List (List (List ℕ))) (rows others : List CodedRow) (stored : List StoredRow)
    → IsPermutation others rows → StandForAll d lists rows stored → StandForAll d lists others stored
stand-by d lists rows others stored moved stand = record {
  ordered = stand.ordered;
  moved = IsPermutation-trans others rows stand.ordered moved stand.moved;
  come = stand.come;
}

pub cube-for-record : (o : Opening) (given : RunScripts) (es : List CoreEvent) (kept : Kept) (cube : ℕ) (d : Decl)
    → KeptLaws kept → IsScriptedRun o given es → HasRowsOfRun o es kept
    → ((c : Decl) → slice_get kept.cubes cube ≡ Some c → o.shapes cube ≡ cube_of c)
    → slice_get (catalog_of (record_of o given es)).cubes cube ≡ Some d
    → StandForAll d (lists_at (record_of o given es).names cube) (kept_in_cube kept cube)
    (rows_on_record (record_of o given es) kept.epoch d.name)
cube-for-record o given es kept cube d laws r has shapes is =
    let for_record = kept-for-record o given es kept cube d r has is in
    stand-by d (lists_at (record_of o given es).names cube) for_record.rows (kept_in_cube kept cube)
    (rows_on_record (record_of o given es) kept.epoch d.name)
    (all-permuted o kept laws cube for_record.rows for_record.each shapes) for_record.stand
