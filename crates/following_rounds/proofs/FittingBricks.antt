-- What a round has copied of a brick fits the cube.
use Rattle.std.proofs.Common.{◌≡◌, ◌∙◌, ℕ, ◌+◌, ◌-◌, ◌<◌, ◌≤◌, nat_le, nat_lt, true, List, [], ◌∷◌, ◌++◌, length, drop, slice_get, Some, refl, sym, ap, inl, inr, arith, append_assoc, append-nil}
use Rattle.std.specs.List.{AllByRecursion}
use Rattle.std.specs.Option.{option_map}
use Rattle.std.proofs.lemmas.Bool.{and_parts, cases_lt, leb-true, ltb-true}
use Rattle.std.proofs.lemmas.List.{drop-drop, drop_all, take-append-drop}
use Rattle.std.proofs.lemmas.List.Elements.{recursion_from_All}
use Rattle.std.proofs.lemmas.Option.{slice_get-map}
use Rattle.cube_values.specs.declared.entry.Entry.{Entry}
use Rattle.cube_values.specs.declared.entry.Entry.TheVariants.{Run, Mark}
use Rattle.cube_values.specs.declared.row.CodedRow.{CodedRow}
use Rattle.cube_values.specs.Batches.{rows_between}
use Rattle.cube_values.specs.EpochsVector.{Leads}
use Rattle.cube_values.specs.Shapes.{bricks_of}
use Rattle.cube_language.specs.Cubes.{sizes_of}
use Rattle.cube_language.specs.declared.decl.Decl.{Decl}
use Rattle.cube_language.specs.declared.decl.DimDecl.{DimDecl}
use Rattle.cube_schema.specs.Schemas.{cube_of}
use Rattle.brick_address.specs.Addresses.{AreCoords, brick_of}
use Rattle.cube_rounds.specs.Bricks.{BrickPart, EntryRows, entries_with_rows}
use Rattle.cube_rounds.specs.Demands.{DimNames, FitsBrick, FitsRow, IsOfEpochs, coord_limits, names_with}
use Rattle.names_dict.specs.Dictionaries.{IsTextDimension}
use Rattle.core_events.specs.Events.{Opening, CoreEvent}
use Rattle.core_events.specs.ShardView.{BrickEntry, RowRun, RowMark, ShardView, is_within_round, rows_appended}
use Rattle.core_events.proofs.RoundEntries.{IsOfRound}
use Rattle.core_events.specs.Clients.{client_state}
use Rattle.core_events.specs.Runs.{IsCoreRun}
use Rattle.core_serial.specs.Copies.{HasCopied, copies_by}
use Rattle.copied_rows.specs.CopiedRows.{IsCopiedBrick, IsPlacedRow, KeptAreCubeRows}
use Rattle.copied_rows.proofs.CopiedBricks.{copied-bricks}
use Rattle.shard_views.specs.Views.{brick_entry, entries_newest_first, part_view}
use Rattle.following_rounds.specs.FollowingRounds.{HasNamesFor, HasStorableValues, IsCopiedPart}
use Rattle.following_rounds.proofs.FittingRows.{coords-below, metrics-fit}

-- The entries of a part.

of-epochs : (from to epoch : ℕ) → is_within_round from to epoch ≡ true → (from < epoch) × (epoch ≤ to)
of-epochs from to epoch within =
    let both = and_parts (nat_lt from epoch) (nat_le epoch to) within in
    (ltb-true from epoch both.0, leb-true epoch to both.1)

-- Those of a part, and older ones.
record AreWithin (from to : ℕ) (older : List BrickEntry) (entries : List Entry) : Type 0 where
  pub entries_are : AllByRecursion (IsOfEpochs from to) entries
  pub older_are : AllByRecursion (IsOfRound from to) older

entries-within : (from to : ℕ) (older : List BrickEntry) (n : ℕ) (rows : List CodedRow) (entries : List Entry)
    → AllByRecursion (IsOfRound from to) (entries_newest_first older (entries_with_rows n rows entries))
    → AreWithin from to older entries
entries-within from to older n rows [] all = record { entries_are = tt; older_are = all }
entries-within from to older n rows (Run epoch end ∷ entries) all =
    let rest = entries-within from to (RowRun epoch (rows_between n end rows) ∷ older) end rows entries all in
    let both = of-epochs from to epoch rest.older_are.0 in
    record {
      entries_are = (record { above = both.0; within = both.1 }, rest.entries_are);
      older_are = rest.older_are.1;
    }
entries-within from to older n rows (Mark epoch at ∷ entries) all =
    let rest = entries-within from to (RowMark epoch ∷ older) n rows entries all in
    let both = of-epochs from to epoch rest.older_are.0 in
    record {
      entries_are = (record { above = both.0; within = both.1 }, rest.entries_are);
      older_are = rest.older_are.1;
    }

still-some : (x : BrickEntry) (older : List BrickEntry) (entries : List EntryRows)
    → entries_newest_first (x ∷ older) entries ≡ [] → ⊥
still-some x older [] is = absurd (cc)
still-some x older (e ∷ entries) is = still-some (brick_entry e.entry e.rows) (x ∷ older) entries is

no-entries : (rows : List CodedRow) (entries : List Entry)
    → entries_newest_first [] (entries_with_rows 0 rows entries) ≡ [] → entries ≡ []
no-entries rows [] is = refl
no-entries rows (Run epoch end ∷ entries) is =
    absurd (still-some (RowRun epoch (rows_between 0 end rows)) [] (entries_with_rows end rows entries) is)
no-entries rows (Mark epoch at ∷ entries) is =
    absurd (still-some (RowMark epoch) [] (entries_with_rows 0 rows entries) is)

-- The rows of a part.

rows-up-to : (n end : ℕ) (rows : List CodedRow) → n < end → rows_between n end rows ++ drop end rows ≡ drop n rows
rows-up-to n end rows rises =
    let there : n + (end - n) ≡ end = omega (arith, rises) in
    ap (λ (left : List CodedRow). rows_between n end rows ++ left)
    (ap (λ (k : ℕ). drop k rows) (sym there) ∙ sym (drop-drop (end - n) n rows))
    ∙ take-append-drop (end - n) (drop n rows)

rows-behind : (older : List BrickEntry) (n : ℕ) (rows : List CodedRow) (entries : List Entry)
    → Leads n entries (length rows)
    → rows_appended (entries_newest_first older (entries_with_rows n rows entries)) ≡ rows_appended older ++ drop n rows
rows-behind older n rows [] leads =
    sym (append-nil (rows_appended older))
    ∙ ap (λ (left : List CodedRow). rows_appended older ++ left) (sym (drop_all n rows (omega (arith, leads))))
rows-behind older n rows (Run epoch end ∷ entries) leads =
    rows-behind (RowRun epoch (rows_between n end rows) ∷ older) end rows entries leads.1
    ∙ append_assoc (rows_appended older) (rows_between n end rows) (drop end rows)
    ∙ ap (λ (left : List CodedRow). rows_appended older ++ left) (rows-up-to n end rows leads.0)
rows-behind older n rows (Mark epoch at ∷ entries) leads =
    rows-behind (RowMark epoch ∷ older) n rows entries leads.1

rows-of-part : (part : BrickPart) → Leads 0 part.entries (length part.rows)
    → rows_appended (part_view part) ≡ part.rows
rows-of-part part leads = rows-behind [] 0 part.rows part.entries leads

-- A row of a part.

module _ (o : Opening) (es : List CoreEvent) (cube : ℕ) where
  text-dimension : (decl : Decl) (dim : ℕ) (d : DimDecl) → o.shapes cube ≡ cube_of decl
      → slice_get decl.dims dim ≡ Some d → d.text ≡ true → IsTextDimension (o.shapes cube) dim
  text-dimension decl dim d shape is text =
      (λ i. slice_get (shape i).texts dim)
      ∙ slice_get-map (λ (x : DimDecl). x.text) decl.dims dim
      ∙ ap (option_map (λ (x : DimDecl). x.text)) is
      ∙ ap Some text

  row-fits : (decl : Decl) (earlier names : DimNames) (brick : ℕ) (row : CodedRow)
      → HasNamesFor o es cube decl earlier names → IsPlacedRow o es cube brick row → HasStorableValues row
      → FitsRow decl (coord_limits decl (names_with earlier names)) brick row
  row-fits decl earlier names brick row lists placed values =
      let shape = lists.shape in
      record {
        coords =
            coords-below decl.dims earlier names row.coords
            (coe 0 1 (i. AreCoords (shape i).shape.sizes row.coords) placed.of_cube.coords) lists.before lists.behind
            values.coords
            (λ dim coord d first more is_dim text is_first is_more is_coord.
            let low = placed.of_cube.names dim coord (text-dimension decl dim d shape is_dim text) is_coord in
            let grown = lists.have dim d first more is_dim text is_first is_more in
            omega (arith, low, grown));
        place = coe 0 1 (i. brick_of (shape i).shape.sizes row.coords ≡ brick) placed.place;
        metrics =
            metrics-fit decl.metrics row.metrics (placed.of_cube.metrics ∙ (λ i. (shape i).metrics)) values.metrics;
      }

  rows-fit : (decl : Decl) (earlier names : DimNames) (brick : ℕ) (rows : List CodedRow)
      → HasNamesFor o es cube decl earlier names → AllByRecursion (IsPlacedRow o es cube brick) rows
      → AllByRecursion HasStorableValues rows
      → AllByRecursion (FitsRow decl (coord_limits decl (names_with earlier names)) brick) rows
  rows-fit decl earlier names brick [] lists placed values = tt
  rows-fit decl earlier names brick (row ∷ rows) lists placed values = (
    row-fits decl earlier names brick row lists placed.0 values.0,
    rows-fit decl earlier names brick rows lists placed.1 values.1,
  )

  brick-fits : (copies : ShardView) (from to : ℕ) (decl : Decl) (earlier names : DimNames) (part : BrickPart)
      → HasNamesFor o es cube decl earlier names
      → IsCopiedBrick o es from to cube part.brick (copies cube part.brick) → IsCopiedPart copies cube part
      → AllByRecursion HasStorableValues part.rows
      → FitsBrick decl (coord_limits decl (names_with earlier names)) from to part
  brick-fits copies from to decl earlier names part lists is copied values =
      let shape = lists.shape in
      let copy = copies cube part.brick in
      let within = recursion_from_All (IsOfRound from to) copy is.epochs in
      let placed = recursion_from_All (IsPlacedRow o es cube part.brick) (rows_appended copy) is.rows in
      let same = sym (rows-of-part part copied.vector.leads) ∙ ap rows_appended copied.same in
      record {
        number = elim (cases_lt part.brick (bricks_of (sizes_of decl.dims))) [
          | inl below ↦ below
          | inr past ↦
              absurd (copied.some (no-entries part.rows part.entries
              (copied.same ∙ is.others (coe 1 0 (i. bricks_of (shape i).shape.sizes ≤ part.brick) past))))
        ];
        some = copied.some;
        vector = copied.vector;
        epochs =
            (entries-within from to [] 0 part.rows part.entries
            (coe 1 0 (i. AllByRecursion (IsOfRound from to) (copied.same i)) within)).entries_are;
        rows =
            rows-fit decl earlier names part.brick part.rows lists
            (coe 1 0 (i. AllByRecursion (IsPlacedRow o es cube part.brick) (same i)) placed) values;
      }

pub brick-of-copies : (o : Opening) (es : List CoreEvent) (client from epoch cube : ℕ) (decl : Decl)
    (earlier names : DimNames) (part : BrickPart) → IsCoreRun o es → KeptAreCubeRows o
    → HasCopied o.shards from epoch (client_state o client es).group → HasNamesFor o es cube decl earlier names
    → IsCopiedPart (copies_by o (client_state o client es).group.answers) cube part
    → AllByRecursion HasStorableValues part.rows
    → FitsBrick decl (coord_limits decl (names_with earlier names)) from epoch part
brick-of-copies o es client from epoch cube decl earlier names part run kept has lists copied values =
    brick-fits o es cube (copies_by o (client_state o client es).group.answers) from epoch decl earlier names part lists
    (copied-bricks o es client from epoch cube part.brick run kept has) copied values
