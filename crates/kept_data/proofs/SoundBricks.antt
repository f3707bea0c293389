-- What rounds keep of one brick.
use Rattle.std.proofs.Common.{◌≡◌, ◌≢◌, ◌⊎◌, ℕ, suc, ◌+◌, ◌<◌, ◌≤◌, Bool, true, false, cond, List, [], ◌∷◌, ◌++◌, length, filter, Option, Some, None, inl, inr, refl, ap, subst, arith}
use Rattle.std.specs.Prelude.{◌==◌, All, slice_get}
use Rattle.std.specs.List.{AllByRecursion}
use Rattle.std.specs.Option.{option_map_or}
use Rattle.std.proofs.lemmas.Bool.{eqb-true, cases_Bool}
use Rattle.std.proofs.lemmas.List.Elements.{All-nil, All-append, All-from_recursion, recursion_from_All}
use Rattle.std.proofs.lemmas.Option.{slice_get_past}
use Rattle.cube_values.specs.declared.entry.Entry.{Entry}
use Rattle.cube_values.specs.declared.row.CodedRow.{CodedRow}
use Rattle.cube_values.specs.declared.snapshot.Snapshot.{Snapshot}
use Rattle.cube_values.specs.EpochsVector.{sees_row}
use Rattle.cube_values.specs.Shapes.{bricks_of}
use Rattle.cube_language.specs.declared.decl.Decl.{Decl}
use Rattle.cube_language.specs.Cubes.{sizes_of}
use Rattle.cube_rounds.specs.declared.round.RoundCube.{RoundCube}
use Rattle.cube_rounds.specs.declared.round.Round.{Round}
use Rattle.cube_rounds.specs.Bricks.{BrickPart}
use Rattle.cube_rounds.specs.Demands.{DimNames, IsOfEpochs, AreRising}
use Rattle.cube_rounds.specs.KeptRows.{parts_in, parts_of_brick, entries_joined, rows_joined, rows_seen, kept_rows_of_brick}
use Rattle.cube_rounds.specs.Stands.{Kept}
use Rattle.kept_data.specs.KeptFiles.{IsKeptByFile}
use Rattle.kept_data.specs.KeptRounds.{RoundsLead, LiesInCube, LieInCubes, IsKeptRow, IsKeptPart, IsKeptBrick}
use Rattle.kept_data.specs.SoundKept.{IsCubeAt}
use Rattle.kept_data.proofs.JoinedEntries.{IsPartOf, PartsLead, are_joined, joined_vector}
use Rattle.kept_data.proofs.SoundRounds.{file_rounds}

-- ---- parts

-- Parts of one brick, each above those before it.
pub record AreParts (cube : Decl) (lists : DimNames) (brick low high : ℕ) (parts : List BrickPart) : Type 0 where
  pub lead : PartsLead low parts high
  pub number : parts ≢ [] → brick < bricks_of (sizes_of cube.dims)
  pub rows : All (IsKeptRow cube lists brick) (rows_joined parts)

above_number : (least brick : ℕ) (bricks : List BrickPart) → AreRising least bricks → brick < least → filter (λ b. b.brick == brick) bricks ≡ []
above_number least brick [] rising less = refl
above_number least brick (b ∷ bricks) rising less =
    elim (cases_Bool (b.brick == brick)) [
      | inl same ↦ absurd (omega (arith, eqb-true b.brick brick same, rising.0, less))
      | inr other ↦ rw other (above_number (b.brick + 1) brick bricks rising.1 (omega (arith, rising.0, less)))
    ]

-- A round has one part of a brick, or none.
pub record IsOnePart (cube : Decl) (lists : DimNames) (brick : ℕ) (round : Round) (bricks : List BrickPart) : Type 0 where
  pub part : BrickPart
  pub is : filter (λ b. b.brick == brick) bricks ≡ part ∷ []
  pub number : part.brick ≡ brick
  pub kept : IsKeptPart cube lists round part

one_part : (cube : Decl) (lists : DimNames) (least brick : ℕ) (round : Round) (bricks : List BrickPart) → AreRising least bricks
    → AllByRecursion (IsKeptPart cube lists round) bricks → (filter (λ b. b.brick == brick) bricks ≡ []) ⊎ IsOnePart cube lists brick round bricks
one_part cube lists least brick round [] rising kept = inl refl
one_part cube lists least brick round (b ∷ bricks) rising kept =
    elim (cases_Bool (b.brick == brick)) [
      | inl same ↦
          let is : b.brick ≡ brick = eqb-true b.brick brick same in
          let rest = above_number (b.brick + 1) brick bricks rising.1 (omega (arith, is)) in
          inr (record { part = b; is = rw same (ap (λ (l : List BrickPart). b ∷ l) rest); number = is; kept = kept.0 })
      | inr other ↦ (elim (one_part cube lists (b.brick + 1) brick round bricks rising.1 kept.1) [
        | inl none ↦ inl (rw other none)
        | inr one ↦ inr (record { part = one.part; is = rw other one.is; number = one.number; kept = one.kept })
      ])
    ]

lower : (low mid high : ℕ) (parts : List BrickPart) → low ≤ mid → PartsLead mid parts high → PartsLead low parts high
lower low mid high [] under lead = omega (arith, under, lead)
lower low mid high (b ∷ parts) under lead = (lead.0, lead.1, omega (arith, under, lead.2), lead.3, lead.4, lead.5)

-- What a round has of the brick of a cube, before what later rounds have.
part_then : (cube : Decl) (lists : DimNames) (brick low high : ℕ) (round : Round) (part : RoundCube) (parts : List BrickPart) → round.from ≡ low → low < round.epoch
    → LiesInCube cube lists round part → AreParts cube lists brick round.epoch high parts
    → AreParts cube lists brick low high (filter (λ b. b.brick == brick) part.bricks ++ parts)
part_then cube lists brick low high round part parts from up lies rest =
    elim (one_part cube lists 0 brick round part.bricks lies.rising (recursion_from_All (IsKeptPart cube lists round) part.bricks lies.bricks)) [
      | inl none ↦ rw none (record { lead = lower low round.epoch high parts (omega (arith, up)) rest.lead; number = rest.number; rows = rest.rows })
      | inr one ↦
          let own : IsPartOf round.from round.epoch one.part = record {
            vector = one.kept.vector;
            epochs = recursion_from_All (IsOfEpochs round.from round.epoch) one.part.entries one.kept.epochs;
          } in
          rw one.is (record {
            lead = (round.from, round.epoch, omega (arith, from), omega (arith, from, up), own, rest.lead);
            number = λ some. subst (λ n. n < bricks_of (sizes_of cube.dims)) one.number one.kept.number;
            rows = All-append (IsKeptRow cube lists brick) one.part.rows (rows_joined parts)
                (subst (λ n. All (IsKeptRow cube lists n) one.part.rows) one.number one.kept.rows) rest.rows;
          })
    ]

lower_parts : (cube : Decl) (lists : DimNames) (brick low mid high : ℕ) (parts : List BrickPart) → low ≤ mid → AreParts cube lists brick mid high parts → AreParts cube lists brick low high parts
lower_parts cube lists brick low mid high parts under rest = record { lead = lower low mid high parts under rest.lead; number = rest.number; rows = rest.rows }

are_parts : (cubes : List Decl) (names : List DimNames) (place brick : ℕ) (cube : Decl) (lists : DimNames) (low high : ℕ) (rounds : List Round)
    → slice_get cubes place ≡ Some cube → slice_get names place ≡ Some lists → RoundsLead low rounds high → AllByRecursion (LieInCubes cubes names) rounds
    → AreParts cube lists brick low high (parts_of_brick place brick rounds)
are_parts cubes names place brick cube lists low high [] cube-is lists-is lead lie = record { lead = omega (arith, lead); number = λ some. absurd (some refl); rows = All-nil (IsKeptRow cube lists brick) }
are_parts cubes names place brick cube lists low high (round ∷ rounds) cube-is lists-is lead lie =
    let rest = are_parts cubes names place brick cube lists round.epoch high rounds cube-is lists-is lead.2 lie.1 in
    let parts = parts_of_brick place brick rounds in
    elim (slice_get round.cubes place) as (λ o. slice_get round.cubes place ≡ o
    → AreParts cube lists brick low high (option_map_or (λ (c : RoundCube). filter (λ b. b.brick == brick) c.bricks) o [] ++ parts)) [
      | None ↦ λ is. lower_parts cube lists brick low round.epoch high parts (omega (arith, lead.1)) rest
      | Some part ↦ λ is.
          let lies = lie.0.each place cube lists part cube-is lists-is is in
          part_then cube lists brick low high round part parts lead.0 lead.1 lies rest
    ] refl

-- ---- a brick that a file keeps

parts_kept : (kept : Kept) (place brick : ℕ) (cube : Decl) (lists : DimNames) → IsKeptByFile kept → IsCubeAt kept place cube lists
    → AreParts cube lists brick 0 kept.epoch (parts_of_brick place brick kept.rounds)
parts_kept kept place brick cube lists by at =
    let rounds = file_rounds kept by in
    are_parts kept.cubes kept.names place brick cube lists 0 kept.epoch kept.rounds at.is at.names rounds.lead
    (recursion_from_All (LieInCubes kept.cubes kept.names) kept.rounds rounds.lie)

pub brick_kept : (kept : Kept) (place brick : ℕ) (cube : Decl) (lists : DimNames) → IsKeptByFile kept → IsCubeAt kept place cube lists
    → IsKeptBrick cube lists brick kept.epoch (parts_of_brick place brick kept.rounds)
brick_kept kept place brick cube lists by at =
    let parts = parts_of_brick place brick kept.rounds in
    let are = parts_kept kept place brick cube lists by at in
    let joined = are_joined 0 0 kept.epoch parts are.lead in
    record {
      number = are.number;
      vector = joined_vector 0 kept.epoch parts joined;
      epochs = All-from_recursion (IsOfEpochs 0 kept.epoch) (entries_joined 0 parts) joined.epochs;
      rows = are.rows;
    }

seen_kept : (P : CodedRow → Type 0) (s : Snapshot) (entries : List Entry) (i : ℕ) (rows : List CodedRow) → AllByRecursion P rows → AllByRecursion P (rows_seen s entries i rows)
seen_kept P s entries i [] all = tt
seen_kept P s entries i (row ∷ rows) all = at (sees_row s entries i) (seen_kept P s entries (suc i) rows all.1)
  where
    at : (seen : Bool) → AllByRecursion P (rows_seen s entries (suc i) rows)
        → AllByRecursion P (cond seen (row ∷ rows_seen s entries (suc i) rows) (rows_seen s entries (suc i) rows))
    at true rest = (all.0, rest)
    at false rest = rest

pub seen_rows_kept : (s : Snapshot) (kept : Kept) (place brick : ℕ) (cube : Decl) (lists : DimNames) → IsKeptByFile kept → IsCubeAt kept place cube lists
    → All (IsKeptRow cube lists brick) (kept_rows_of_brick s place brick kept.rounds)
seen_rows_kept s kept place brick cube lists by at =
    let parts = parts_of_brick place brick kept.rounds in
    All-from_recursion (IsKeptRow cube lists brick) (kept_rows_of_brick s place brick kept.rounds)
    (seen_kept (IsKeptRow cube lists brick) s (entries_joined 0 parts) 0 (rows_joined parts)
    (recursion_from_All (IsKeptRow cube lists brick) (rows_joined parts) (parts_kept kept place brick cube lists by at).rows))

-- ---- places past the cubes

none_in : (place brick : ℕ) (round : Round) → length round.cubes ≤ place → parts_in place brick round ≡ []
none_in place brick round past = ap (λ (o : Option RoundCube). option_map_or (λ (c : RoundCube). filter (λ b. b.brick == brick) c.bricks) o []) (slice_get_past round.cubes place past)

none_of : (cubes : List Decl) (names : List DimNames) (place brick : ℕ) (rounds : List Round) → length cubes ≤ place → AllByRecursion (LieInCubes cubes names) rounds
    → parts_of_brick place brick rounds ≡ []
none_of cubes names place brick [] past lie = refl
none_of cubes names place brick (round ∷ rounds) past lie =
    (λ i. none_in place brick round (omega (arith, lie.0.few, past)) i ++ none_of cubes names place brick rounds past lie.1 i)

pub none_kept : (kept : Kept) (place brick : ℕ) → IsKeptByFile kept → length kept.cubes ≤ place → parts_of_brick place brick kept.rounds ≡ []
none_kept kept place brick by past =
    none_of kept.cubes kept.names place brick kept.rounds past (recursion_from_All (LieInCubes kept.cubes kept.names) kept.rounds (file_rounds kept by).lie)
