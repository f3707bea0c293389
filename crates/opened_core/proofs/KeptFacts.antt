-- What holds of the kept rows of bricks, and of those of cubes.
use Rattle.std.proofs.Common.{◌≡◌, ◌≢◌, ◌∙◌, ℕ, zero, suc, ◌<◌, ◌≤◌, ◌==◌, Bool, List, [], ◌∷◌, length, filter, slice_get, Option, Some, None, refl, sym, ap, subst, arith}
use Rattle.std.proofs.lemmas.List.Elements.{recursion_from_All}
use Rattle.std.proofs.lemmas.Option.{none-some}
use Rattle.std.specs.List.{All, AllByRecursion, AllZip, flat_map, range_with_len}
use Rattle.std.specs.Option.{option_map_or}
use Rattle.cube_values.specs.declared.row.CodedRow.{CodedRow}
use Rattle.cube_values.specs.declared.snapshot.Snapshot.{Snapshot}
use Rattle.cube_values.specs.Shapes.{bricks_of}
use Rattle.cube_language.specs.declared.decl.Decl.{Decl}
use Rattle.cube_language.specs.Cubes.{sizes_of}
use Rattle.brick_address.specs.Addresses.{AreCoords, LieIn, brick_of}
use Rattle.cube_rounds.specs.declared.round.Round.{Round}
use Rattle.cube_rounds.specs.Bricks.{BrickPart}
use Rattle.cube_rounds.specs.Demands.{DimNames}
use Rattle.cube_rounds.specs.KeptRows.{entries_joined, kept_rows_of_brick, parts_of_brick, rows_joined, rows_seen}
use Rattle.cube_rounds.specs.Stands.{Kept}
use Rattle.core_events.specs.ShardView.{rows_where}
use Rattle.shard_cell.specs.Answers.{reader_at}
use Rattle.shard_views.proofs.Alike.{where_none}
use Rattle.kept_data.specs.KeptRounds.{IsKeptBrick, IsKeptRow, RoundsLead}
use Rattle.kept_data.specs.SoundKept.{HasSoundRounds, IsCubeAt, IsSoundKept}
use Rattle.opened_core.proofs.RowsByBrick.{all-of, all-where, all-joined, none-joined, by-key}
use Rattle.opened_core.specs.KeptShards.{kept_in_brick, kept_where}

-- What the laws of kept data say of one store.
pub record KeptLaws (kept : Kept) : Type 0 where
  pub sound : IsSoundKept kept
  pub rounds : HasSoundRounds kept
  pub bricks : (place brick : ℕ) (cube : Decl) (lists : DimNames) → IsCubeAt kept place cube lists
      → IsKeptBrick cube lists brick kept.epoch (parts_of_brick place brick kept.rounds)
  pub rows : (s : Snapshot) (place brick : ℕ) (cube : Decl) (lists : DimNames) → IsCubeAt kept place cube lists
      → All (IsKeptRow cube lists brick) (kept_rows_of_brick s place brick kept.rounds)
  pub none : (place brick : ℕ) → length kept.cubes ≤ place → parts_of_brick place brick kept.rounds ≡ []

lists-there : {A B : Type 0} (R : A → B → Type 0) (xs : List A) (ys : List B) (i : ℕ) (x : A) → AllZip R xs ys → slice_get xs i ≡ Some x
    → (y : B) × (slice_get ys i ≡ Some y)
lists-there R [] ys i x all is = absurd (none-some x is)
lists-there R (a ∷ xs) [] i x all is = absurd all
lists-there R (a ∷ xs) (b ∷ ys) zero x all is = (b, refl)
lists-there R (a ∷ xs) (b ∷ ys) (suc i) x all is = lists-there R xs ys i x all.1 is

no-parts : (s : Snapshot) (parts : List BrickPart) (brick count : ℕ) → (parts ≢ [] → brick < count) → count ≤ brick
    → rows_seen s (entries_joined 0 parts) 0 (rows_joined parts) ≡ []
no-parts s [] brick count below past = refl
no-parts s (part ∷ parts) brick count below past =
    let low = below (λ same. let long = ap (λ (l : List BrickPart). length l) same in omega (arith, long)) in absurd (omega (arith, low, past))

lead-up : (from : ℕ) (rounds : List Round) (to : ℕ) → RoundsLead from rounds to → from ≤ to
lead-up from [] to lead = omega (arith, lead)
lead-up from (round ∷ rounds) to lead =
    let rest = lead-up round.epoch rounds to lead.2 in let later = lead.1 in omega (arith, rest, later)

no-rounds : (rounds : List Round) (to : ℕ) → RoundsLead 0 rounds to → to ≡ 0 → rounds ≡ []
no-rounds [] to lead zero-is = refl
no-rounds (round ∷ rounds) to lead zero-is =
    let rest = lead-up round.epoch rounds to lead.2 in let later = lead.1 in absurd (omega (arith, rest, later, zero-is))

module _ (kept : Kept) (laws : KeptLaws kept) where
  pub past-kept : (place brick : ℕ) → length kept.cubes ≤ place → kept_in_brick kept place brick ≡ []
  past-kept place brick past =
      ap (λ (parts : List BrickPart). rows_seen (reader_at kept.epoch) (entries_joined 0 parts) 0 (rows_joined parts)) (laws.none place brick past)

  pub zero-kept : kept.epoch ≡ 0 → (place brick : ℕ) → kept_in_brick kept place brick ≡ []
  zero-kept is place brick =
      ap (λ (rounds : List Round). kept_rows_of_brick (reader_at kept.epoch) place brick rounds)
      (no-rounds kept.rounds kept.epoch laws.rounds.lead is)

  module _ (place : ℕ) (cube : Decl) (is : slice_get kept.cubes place ≡ Some cube) where
    cube-lists : (lists : DimNames) × IsCubeAt kept place cube lists
    cube-lists =
        let there = lists-there (λ (c : Decl) (lists : DimNames). length lists ≡ length c.dims) kept.cubes kept.names place cube laws.sound.lists is in
        (there.0, record { is = is; names = there.1 })

    lies : (brick : ℕ) → AllByRecursion (λ (row : CodedRow). LieIn (sizes_of cube.dims) brick row.coords) (kept_in_brick kept place brick)
    lies brick =
        all-of (IsKeptRow cube cube-lists.0 brick) (λ (row : CodedRow). LieIn (sizes_of cube.dims) brick row.coords) (λ row r. r.coords)
        (kept_in_brick kept place brick)
        (recursion_from_All (IsKeptRow cube cube-lists.0 brick) (kept_in_brick kept place brick)
        (laws.rows (reader_at kept.epoch) place brick cube cube-lists.0 cube-lists.1))

    out-kept : (brick : ℕ) → bricks_of (sizes_of cube.dims) ≤ brick → kept_in_brick kept place brick ≡ []
    out-kept brick past =
        no-parts (reader_at kept.epoch) (parts_of_brick place brick kept.rounds) brick (bricks_of (sizes_of cube.dims))
        (laws.bricks place brick cube cube-lists.0 cube-lists.1).number past

    abbrev each : (ℕ → Bool) → ℕ → List CodedRow
    each test brick = rows_where (test brick) (kept_in_brick kept place brick)

    abbrev key : CodedRow → ℕ
    key row = brick_of (sizes_of cube.dims) row.coords

    where-is : (test : ℕ → Bool) → kept_where test kept place ≡ flat_map (each test) (range_with_len 0 (bricks_of (sizes_of cube.dims)))
    where-is test =
        ap (λ (d : Option Decl). option_map_or (λ (c : Decl). flat_map (each test) (range_with_len 0 (bricks_of (sizes_of c.dims)))) d []) is

    -- Of one brick there are its kept rows.
    pub brick-where : (test : ℕ → Bool) (k : ℕ) → filter (λ row. key row == k) (kept_where test kept place) ≡ each test k
    brick-where test k =
        ap (λ (rows : List CodedRow). filter (λ row. key row == k) rows) (where-is test)
        ∙ by-key key (each test)
        (λ brick. all-where (λ (row : CodedRow). key row ≡ brick) (test brick) (kept_in_brick kept place brick)
        (all-of (λ (row : CodedRow). LieIn (sizes_of cube.dims) brick row.coords) (λ (row : CodedRow). key row ≡ brick) (λ row l. l.of_brick)
        (kept_in_brick kept place brick) (lies brick)))
        0 (bricks_of (sizes_of cube.dims)) k (omega arith)
        (λ past. ap (λ (rows : List CodedRow). rows_where (test k) rows) (out-kept k (omega (arith, past))) ∙ where_none (test k))

    -- All are rows of the cube.
    pub coords-where : (test : ℕ → Bool) → AllByRecursion (λ (row : CodedRow). AreCoords (sizes_of cube.dims) row.coords) (kept_where test kept place)
    coords-where test =
        subst (λ (rows : List CodedRow). AllByRecursion (λ (row : CodedRow). AreCoords (sizes_of cube.dims) row.coords) rows) (sym (where-is test))
        (all-joined (λ (row : CodedRow). AreCoords (sizes_of cube.dims) row.coords) (each test)
        (λ brick. all-where (λ (row : CodedRow). AreCoords (sizes_of cube.dims) row.coords) (test brick) (kept_in_brick kept place brick)
        (all-of (λ (row : CodedRow). LieIn (sizes_of cube.dims) brick row.coords) (λ (row : CodedRow). AreCoords (sizes_of cube.dims) row.coords)
        (λ row l. l.of_cube) (kept_in_brick kept place brick) (lies brick)))
        (range_with_len 0 (bricks_of (sizes_of cube.dims))))

  -- At a place without a cube there are none, and where nothing is kept up to a later epoch than 0.
  pub none-where : (test : ℕ → Bool) (place : ℕ) → slice_get kept.cubes place ≡ None → kept_where test kept place ≡ []
  none-where test place is =
      ap (λ (d : Option Decl). option_map_or (λ (c : Decl). flat_map (λ brick. rows_where (test brick) (kept_in_brick kept place brick))
      (range_with_len 0 (bricks_of (sizes_of c.dims)))) d []) is

  pub zero-where : kept.epoch ≡ 0 → (test : ℕ → Bool) (place : ℕ) → kept_where test kept place ≡ []
  zero-where is test place = at (slice_get kept.cubes place)
    where
      each-none : (brick : ℕ) → rows_where (test brick) (kept_in_brick kept place brick) ≡ []
      each-none brick = ap (λ (rows : List CodedRow). rows_where (test brick) rows) (zero-kept is place brick) ∙ where_none (test brick)

      at : (d : Option Decl) → option_map_or (λ (c : Decl). flat_map (λ brick. rows_where (test brick) (kept_in_brick kept place brick))
          (range_with_len 0 (bricks_of (sizes_of c.dims)))) d [] ≡ []
      at None = refl
      at (Some c) = none-joined (λ brick. rows_where (test brick) (kept_in_brick kept place brick)) each-none (range_with_len 0 (bricks_of (sizes_of c.dims)))
