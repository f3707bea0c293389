-- Rows that are kept of a run stand for values by the names that are kept with them, the same as by those in the end.
use mathlib.Core.List.{IsPrefix}
use Rattle.std.proofs.Common.{◌≡◌, ◌∙◌, ℕ, zero, suc, ◌<◌, Bool, true, List, [], ◌∷◌, length, map, take, get_or, slice_get, Option, Some, MatchBool, refl, sym, ap, subst, arith}
use Rattle.std.proofs.Math.Seq.{take-append_seam}
use Rattle.std.proofs.lemmas.List.{length-map}
use Rattle.std.proofs.lemmas.List.Elements.{All-from_recursion, recursion_from_All}
use Rattle.std.proofs.lemmas.List.Sorted.{All-permutation}
use Rattle.std.proofs.lemmas.Option.{none-some, same_Some, slice_get-get_or, unwrap_or-slice_get}
use Rattle.std.specs.List.{AllByRecursion, AllZip, flat_map, range_with_len}
use Rattle.std.specs.Option.{option_map_or}
use Rattle.cube_values.specs.declared.row.CodedRow.{CodedRow}
use Rattle.cube_values.specs.declared.row.StoredRow.{StoredRow}
use Rattle.cube_values.specs.declared.shape.Size.{Size}
use Rattle.cube_values.specs.Shapes.{bricks_of}
use Rattle.cube_language.specs.Cubes.{size_of, sizes_of}
use Rattle.cube_language.specs.declared.decl.Decl.{Decl}
use Rattle.cube_language.specs.declared.decl.DimDecl.{DimDecl}
use Rattle.cube_rounds.specs.Demands.{DimNames}
use Rattle.cube_rounds.specs.Stands.{Kept}
use Rattle.brick_address.specs.Addresses.{AreCoords}
use Rattle.kept_data.specs.KeptNames.{AreKeptNames, FitKeptNames, HasKeptNames}
use Rattle.kept_data.specs.KeptRounds.{IsKeptRow}
use Rattle.kept_data.specs.SoundKept.{IsCubeAt}
use Rattle.condition_spans.specs.Codes.{texts_at}
use Rattle.query_plan.specs.Ties.{StandForValues}
use Rattle.one_session.specs.Changes.{AllStandForValues}
use Rattle.core_events.specs.Clients.{reader_up_to}
use Rattle.core_events.specs.ShardView.{rows_where}
use Rattle.core_agreements.specs.NamedQueries.{EndAs}
use Rattle.core_agreements.specs.PostsForOperations.{StandForAll}
use Rattle.core_agreements.proofs.NamedValues.{rows-keep}
use Rattle.opened_core.specs.KeptShards.{kept_in_brick, kept_in_cube}
use Rattle.opened_core.proofs.KeptFacts.{KeptLaws}
use Rattle.opened_core.proofs.RowsByBrick.{all-joined, all-of, all-where}

-- ---- lists side by side

pair-at : {A B : Type 0} (R : A → B → Type 0) (xs : List A) (ys : List B) (i : ℕ) (x : A) (y : B) → AllZip R xs ys
    → slice_get xs i ≡ Some x → slice_get ys i ≡ Some y → R x y
pair-at R [] ys i x y all one two = absurd (none-some x one)
pair-at R (a ∷ xs) [] i x y all one two = absurd all
pair-at R (a ∷ xs) (b ∷ ys) zero x y all one two = coe 0 1 (i. R (same_Some a x one i) (same_Some b y two i)) all.0
pair-at R (a ∷ xs) (b ∷ ys) (suc i) x y all one two = pair-at R xs ys i x y all.1 one two

as-long : {A B : Type 0} (R : A → B → Type 0) (xs : List A) (ys : List B) → AllZip R xs ys → length ys ≡ length xs
as-long R [] [] all = refl
as-long R (a ∷ xs) [] all = absurd all
as-long R [] (b ∷ ys) all = absurd all
as-long R (a ∷ xs) (b ∷ ys) all = ap suc (as-long R xs ys all.1)

texts-fit : (dims : List DimDecl) (lists : DimNames) (k : ℕ) (e : DimDecl) → AllZip FitKeptNames dims lists
    → k < length dims → FitKeptNames (get_or dims k e) (texts_at lists k)
texts-fit [] lists k e all low = absurd (omega (arith, low))
texts-fit (dim ∷ dims) [] k e all low = absurd all
texts-fit (dim ∷ dims) (texts ∷ lists) zero e all low = all.0
texts-fit (dim ∷ dims) (texts ∷ lists) (suc k) e all low = texts-fit dims lists k e all.1 (omega (arith, low))

coords-long : (sizes : List Size) (coords : List ℕ) → AreCoords sizes coords → length coords ≡ length sizes
coords-long [] [] are = refl
coords-long (s ∷ sizes) (coord ∷ coords) are = ap suc (coords-long sizes coords are.1)
coords-long [] (coord ∷ coords) are = absurd are
coords-long (s ∷ sizes) [] are = absurd are

text-at : (dims : List DimDecl) (k : ℕ) (e : DimDecl) → k < length dims
    → slice_get (map (λ (dim : DimDecl). dim.text) dims) k ≡ Some (get_or dims k e).text
text-at [] k e low = absurd (omega (arith, low))
text-at (dim ∷ dims) zero e low = refl
text-at (dim ∷ dims) (suc k) e low = text-at dims k e (omega (arith, low))

-- ---- the rows of a kept cube

module _ (kept : Kept) (laws : KeptLaws kept) (place : ℕ) (d : Decl) (lists : DimNames)
    (at : IsCubeAt kept place d lists) where
  fit : HasKeptNames d lists
  fit = pair-at HasKeptNames kept.cubes kept.names place d lists laws.sound.names at.is at.names

  pub list-at : (k : ℕ) → k < length d.dims → slice_get lists k ≡ Some (texts_at lists k)
  list-at k low =
      let long = as-long FitKeptNames d.dims lists fit in
      slice_get-get_or lists k [] (omega (arith, low, long)) ∙ ap Some (sym (unwrap_or-slice_get lists k []))

  row-stands : (brick : ℕ) (row : CodedRow) → IsKeptRow d lists brick row → StandForValues d lists row.coords
  row-stands brick row r =
      let coords = r.coords.of_cube in
      let long = coords-long (sizes_of d.dims) row.coords coords in
      let wide = length-map d.dims size_of in
      record {
        of_cube = coords;
        each = λ k e low.
            let dim = get_or d.dims k e in
            let names = texts_at lists k in
            let within : k < length row.coords = omega (arith, low, long, wide) in
            record {
              number = λ is.
                  subst (λ (b : Bool). MatchBool b (AreKeptNames dim.cardinality names) (names ≡ [])) is
                  (texts-fit d.dims lists k e fit low);
              text = λ is.
                  subst (λ (texts : List (List ℕ)). get_or row.coords k 0 < length texts)
                  (sym (unwrap_or-slice_get lists k []))
                  (r.names k (get_or row.coords k 0) (text-at d.dims k e low ∙ ap Some is)
                  (slice_get-get_or row.coords k 0 within));
            };
      }

  abbrev Stands : CodedRow → Type 0
  Stands row = StandForValues d lists row.coords

  in-brick : (brick : ℕ) → AllByRecursion Stands (kept_in_brick kept place brick)
  in-brick brick =
      all-of (IsKeptRow d lists brick) Stands (row-stands brick) (kept_in_brick kept place brick)
      (recursion_from_All (IsKeptRow d lists brick) (kept_in_brick kept place brick)
      (laws.rows (reader_up_to kept.epoch) place brick d lists at))

  abbrev each : ℕ → List CodedRow
  each brick = rows_where true (kept_in_brick kept place brick)

  in-cube : AllByRecursion Stands (kept_in_cube kept place)
  in-cube =
      subst (λ (c : Option Decl). AllByRecursion Stands
      (option_map_or (λ (c : Decl). flat_map each (range_with_len 0 (bricks_of (sizes_of c.dims)))) c []))
      (sym at.is)
      (all-joined Stands each (λ brick. all-where Stands true (kept_in_brick kept place brick) (in-brick brick))
      (range_with_len 0 (bricks_of (sizes_of d.dims))))

  -- In whatever order they stand for rows of values, by names that come behind these.
  pub by-own-names : (final : List (List (List ℕ))) (stored : List StoredRow) → EndAs d lists final
      → StandForAll d final (kept_in_cube kept place) stored → StandForAll d lists (kept_in_cube kept place) stored
  by-own-names final stored ends stand =
      let all : AllStandForValues d lists stand.ordered =
      recursion_from_All Stands stand.ordered
      (All-permutation Stands (kept_in_cube kept place) stand.ordered stand.moved
      (All-from_recursion Stands (kept_in_cube kept place) in-cube))
      in
      record {
        ordered = stand.ordered;
        moved = stand.moved;
        come = record {
          are = stand.come.are ∙ sym (rows-keep d lists final stand.ordered ends all).are;
          each = all;
        };
      }

-- Texts that begin a dictionary.
pub first-texts : (texts names : List (List ℕ)) → IsPrefix texts names → take (length texts) names ≡ texts
first-texts texts names first = ap (take (length texts)) (sym first.1) ∙ take-append_seam texts first.0
