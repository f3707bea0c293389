-- Rows of a cube stand for values by the names that there are, and for the same ones however many names may come.
use Rattle.std.proofs.Common.{◌≡◌, ◌∙◌, ℕ, zero, suc, ◌<◌, ◌≤◌, Bool, true, false, List, [], ◌∷◌, ◌++◌, length, map, take, drop, All, Option, Some, get_or, slice_get, unwrap_or, refl, sym, ap, subst, arith, length-append}
use Rattle.std.specs.List.{AllByRecursion}
use Rattle.std.proofs.lemmas.List.{length-map, take-append-drop}
use Rattle.std.proofs.lemmas.List.Elements.{recursion_from_All}
use Rattle.std.proofs.lemmas.Option.{slice_get-get_or}
use Rattle.cube_values.specs.declared.row.CodedRow.{CodedRow}
use Rattle.cube_values.specs.declared.shape.CubeShape.{CubeShape}
use Rattle.cube_values.specs.declared.shape.Size.{Size}
use Rattle.cube_values.specs.declared.value.Value.TheVariants.{Text}
use Rattle.cube_language.specs.Cubes.{size_of, sizes_of}
use Rattle.cube_language.specs.declared.decl.Decl.{Decl}
use Rattle.cube_language.specs.declared.decl.DimDecl.{DimDecl}
use Rattle.cube_schema.specs.Schemas.{cube_of}
use Rattle.agg_fold.specs.Coded.{value_for, values_for}
use Rattle.brick_address.specs.Addresses.{AreCoords}
use Rattle.condition_spans.specs.Codes.{lists_at, texts_at}
use Rattle.names_dict.specs.Dictionaries.{IsTextDimension}
use Rattle.query_plan.specs.Ties.{StandForValues, StandsForValue, stored_for}
use Rattle.one_session.specs.Changes.{AllStandForValues, ComeFor}
use Rattle.one_session.specs.Pasts.{EndsAs}
use Rattle.core_events.specs.Cells.{desk_of, dictionary_of}
use Rattle.core_events.specs.Events.{Opening, CoreEvent}
use Rattle.core_events.specs.Runs.{IsCoreRun}
use Rattle.core_rows.specs.RowsOfCubes.{IsCubeRow}
use Rattle.core_records.specs.CoreRecords.{names_in, names_left}
use Rattle.core_records.specs.OpeningNames.{SuitsDimension}
use Rattle.core_agreements.specs.NamedQueries.{EndAs}
use Rattle.core_records.proofs.NamesOnRecord.{cube-names, dim-names, ends-later, no-room, suits-run}

-- ---- one value

-- Texts that begin with others.
whole : (before after : List (List ℕ)) → take (length before) after ≡ before
    → after ≡ before ++ drop (length before) after
whole before after first =
    sym (take-append-drop (length before) after)
    ∙ ap (λ (texts : List (List ℕ)). texts ++ drop (length before) after) first

front-get : (before rest : List (List ℕ)) (coord : ℕ) → coord < length before
    → slice_get before coord ≡ slice_get (before ++ rest) coord
front-get [] rest coord low = absurd (omega (arith, low))
front-get (text ∷ before) rest zero low = refl
front-get (text ∷ before) rest (suc coord) low = front-get before rest coord (omega (arith, low))

value-front : (before rest : List (List ℕ)) (coord : ℕ) → coord < length before
    → value_for before coord ≡ value_for (before ++ rest) coord
value-front [] rest coord low = absurd (omega (arith, low))
value-front (text ∷ before) rest coord low =
    ap (λ (o : Option (List ℕ)). Text (unwrap_or o [])) (front-get (text ∷ before) rest coord low)

value-same : (dim : DimDecl) (before after : List (List ℕ)) (coord : ℕ) → StandsForValue dim before coord
    → EndsAs dim before after → value_for before coord ≡ value_for after coord
value-same dim before after coord stands ends = at dim.text refl
  where
    at : (b : Bool) → dim.text ≡ b → value_for before coord ≡ value_for after coord
    at false is = ap (λ (texts : List (List ℕ)). value_for texts coord) (stands.number is ∙ sym (ends.numbers is))
    at true is =
        value-front before (drop (length before) after) coord (stands.text is)
        ∙ ap (λ (texts : List (List ℕ)). value_for texts coord) (sym (whole before after ends.dictionary.first))

stands-still : (dim : DimDecl) (before after : List (List ℕ)) (coord : ℕ) → StandsForValue dim before coord
    → EndsAs dim before after → StandsForValue dim after coord
stands-still dim before after coord stands ends = record {
  number = ends.numbers;
  text = λ is.
      let low = stands.text is in
      let longer =
      ap (λ (texts : List (List ℕ)). length texts) (whole before after ends.dictionary.first)
      ∙ length-append before (drop (length before) after)
      in
      omega (arith, low, longer);
}

-- ---- the values of a row

abbrev behind_first : List (List (List ℕ)) → List (List (List ℕ))
behind_first [] = []
behind_first (texts ∷ lists) = lists

values-first : (lists : List (List (List ℕ))) (coord : ℕ) (coords : List ℕ)
    → values_for lists (coord ∷ coords) ≡ value_for (texts_at lists 0) coord ∷ values_for (behind_first lists) coords
values-first [] coord coords = refl
values-first (texts ∷ lists) coord coords = refl

texts-behind : (lists : List (List (List ℕ))) (k : ℕ) → texts_at lists (suc k) ≡ texts_at (behind_first lists) k
texts-behind [] k = refl
texts-behind (texts ∷ lists) k = refl

values-same : (dims : List DimDecl) (before after : List (List (List ℕ))) (coords : List ℕ)
    → AreCoords (sizes_of dims) coords
    → ((k : ℕ) (e : DimDecl) → k < length dims
    → StandsForValue (get_or dims k e) (texts_at before k) (get_or coords k 0))
    → ((k : ℕ) (e : DimDecl) → k < length dims → EndsAs (get_or dims k e) (texts_at before k) (texts_at after k))
    → values_for before coords ≡ values_for after coords
values-same [] before after [] are stands ends = none before after
  where
    none : (before after : List (List (List ℕ))) → values_for before [] ≡ values_for after []
    none [] [] = refl
    none [] (texts ∷ after) = refl
    none (texts ∷ before) [] = refl
    none (texts ∷ before) (others ∷ after) = refl
values-same [] before after (coord ∷ coords) are stands ends = absurd are
values-same (dim ∷ dims) before after [] are stands ends = absurd are
values-same (dim ∷ dims) before after (coord ∷ coords) are stands ends =
    values-first before coord coords
    ∙ (λ i.
    value-same dim (texts_at before 0) (texts_at after 0) coord (stands 0 dim (omega arith))
    (ends 0 dim (omega arith)) i
    ∷ values-same dims (behind_first before) (behind_first after) coords are.1
    (λ k e l. coe 0 1 (j. StandsForValue (get_or dims k e) (texts-behind before k j) (get_or coords k 0))
    (stands (suc k) e (omega (arith, l))))
    (λ k e l. coe 0 1 (j. EndsAs (get_or dims k e) (texts-behind before k j) (texts-behind after k j))
    (ends (suc k) e (omega (arith, l)))) i)
    ∙ sym (values-first after coord coords)

pub rows-keep : (d : Decl) (before after : List (List (List ℕ))) (rows : List CodedRow) → EndAs d before after
    → AllStandForValues d before rows → ComeFor d after rows (map (stored_for d.name before) rows)
rows-keep d before after [] ends h = record { are = refl; each = tt }
rows-keep d before after (row ∷ rows) ends h =
    let rest = rows-keep d before after rows ends h.1 in
    record {
      are = λ i.
          record {
            cube = d.name;
            row = record {
              dims = values-same d.dims before after row.coords h.0.of_cube h.0.each ends i;
              metrics = row.metrics;
            };
          } ∷ rest.are i;
      each = (
        record {
          of_cube = h.0.of_cube;
          each = λ k e l.
              stands-still (get_or d.dims k e) (texts_at before k) (texts_at after k) (get_or row.coords k 0)
              (h.0.each k e l) (ends k e l);
        },
        rest.each,
      );
    }

-- ---- the names of a cube in a run

pub texts-are : (o : Opening) (es : List CoreEvent) (cube k : ℕ) (d : Decl) (e : DimDecl)
    → slice_get (desk_of o es).cubes cube ≡ Some d → k < length d.dims
    → texts_at (lists_at (names_left o es) cube) k ≡ (dictionary_of o cube k es).names
texts-are o es cube k d e is low =
    ap (λ (lists : Option (List (List (List ℕ)))). texts_at (unwrap_or lists []) k)
    (cube-names (names_in o es) (desk_of o es).cubes cube d is)
    ∙ ap (λ (texts : Option (List (List ℕ))). unwrap_or texts [])
    (dim-names (names_in o es cube) d.dims k (get_or d.dims k e) (slice_get-get_or d.dims k e low))

-- Each dimension of a cube has a dictionary that suits it at the opening.
abbrev pub SuitAll : Opening → ℕ → Decl → Type 0
SuitAll o cube d = (k : ℕ) (dim : DimDecl) → slice_get d.dims k ≡ Some dim → SuitsDimension dim (o.names cube k)

pub names-end-as : (o : Opening) (later es : List CoreEvent) (cube : ℕ) (d : Decl) → IsCoreRun o (later ++ es)
    → slice_get (desk_of o es).cubes cube ≡ Some d → slice_get (desk_of o (later ++ es)).cubes cube ≡ Some d
    → SuitAll o cube d
    → EndAs d (lists_at (names_left o es) cube) (lists_at (names_left o (later ++ es)) cube)
names-end-as o later es cube d run now then_too suit k e low =
    let dim = get_or d.dims k e in
    let is = slice_get-get_or d.dims k e low in
    coe 1 0 (i. EndsAs dim (texts-are o es cube k d e now low i) (texts-are o (later ++ es) cube k d e then_too low i))
    (ends-later o later es cube k dim (suits-run o (later ++ es) cube k dim run (suit k dim is)))

-- ---- rows of a cube

coords-long : (sizes : List Size) (coords : List ℕ) → AreCoords sizes coords → length coords ≡ length sizes
coords-long [] [] are = refl
coords-long (s ∷ sizes) (coord ∷ coords) are = ap suc (coords-long sizes coords are.1)
coords-long [] (coord ∷ coords) are = absurd are
coords-long (s ∷ sizes) [] are = absurd are

text-at : (dims : List DimDecl) (k : ℕ) (e : DimDecl) → k < length dims
    → slice_get (map (λ (dim : DimDecl). dim.text) dims) k ≡ Some (get_or dims k e).text
text-at [] k e low = absurd (omega (arith, low))
text-at (dim ∷ dims) zero e low = refl
text-at (dim ∷ dims) (suc k) e low = text-at dims k e (omega (arith, low))

row-stands : (o : Opening) (es : List CoreEvent) (cube : ℕ) (d : Decl) (row : CodedRow) → IsCoreRun o es
    → slice_get (desk_of o es).cubes cube ≡ Some d → o.shapes cube ≡ cube_of d → SuitAll o cube d
    → IsCubeRow o es cube row → StandForValues d (lists_at (names_left o es) cube) row.coords
row-stands o es cube d row run is shape suit r =
    let coords = subst (λ (c : CubeShape). AreCoords c.shape.sizes row.coords) shape r.coords in
    let long = coords-long (sizes_of d.dims) row.coords coords in
    let wide = length-map d.dims size_of in
    record {
      of_cube = coords;
      each = λ k e low.
          let dim = get_or d.dims k e in
          let s = suits-run o es cube k dim run (suit k dim (slice_get-get_or d.dims k e low)) in
          let within : k < length row.coords = omega (arith, low, long, wide) in
          coe 1 0 (i. StandsForValue dim (texts-are o es cube k d e is low i) (get_or row.coords k 0)) (record {
            number = no-room dim.text (dictionary_of o cube k es).names dim.cardinality
                (subst (λ (n : ℕ). length (dictionary_of o cube k es).names ≤ n) s.room s.fits);
            text = λ texts.
                r.names k (get_or row.coords k 0)
                (subst (λ (c : CubeShape). IsTextDimension c k) (sym shape) (text-at d.dims k e low ∙ ap Some texts))
                (slice_get-get_or row.coords k 0 within);
          });
    }

pub rows-stand : (o : Opening) (es : List CoreEvent) (cube : ℕ) (d : Decl) (rows : List CodedRow) → IsCoreRun o es
    → slice_get (desk_of o es).cubes cube ≡ Some d → o.shapes cube ≡ cube_of d → SuitAll o cube d
    → All (IsCubeRow o es cube) rows → AllStandForValues d (lists_at (names_left o es) cube) rows
rows-stand o es cube d rows run is shape suit all =
    each rows (recursion_from_All (IsCubeRow o es cube) rows all)
  where
    each : (rows : List CodedRow) → AllByRecursion (IsCubeRow o es cube) rows
        → AllStandForValues d (lists_at (names_left o es) cube) rows
    each [] h = tt
    each (row ∷ rows) h = (row-stands o es cube d row run is shape suit h.0, each rows h.1)
