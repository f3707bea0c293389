-- Rows by coordinates stand for the same values however many names may come.
use Rattle.std.proofs.Common.{◌≡◌, ◌∙◌, ℕ, zero, suc, ◌<◌, ◌≤◌, Bool, true, false, not, ◌&&◌, ◌||◌, ◌⊎◌, nat_le, inl, inr, List, [], ◌∷◌, ◌++◌, length, map, take, drop, All, Option, Some, None, get_or, slice_get, unwrap_or, refl, sym, ap, arith, length-append}
use Rattle.std.specs.List.{AllByRecursion, list_any}
use Rattle.std.specs.Str.{bytes_eq}
use Rattle.std.proofs.lemmas.List.Folds.{list_any-append}
use Rattle.std.specs.Option.{option_and_then}
use Rattle.std.proofs.lemmas.List.{take-append-drop, take_all}
use Rattle.std.proofs.lemmas.List.Elements.{All-cons, All-nil}
use Rattle.std.proofs.lemmas.Option.{slice_get-get_or}
use Rattle.cube_values.specs.Answer.{answer, table_of}
use Rattle.cube_values.specs.declared.query.BoundQuery.{BoundQuery}
use Rattle.cube_values.specs.declared.row.CodedRow.{CodedRow}
use Rattle.cube_values.specs.declared.row.StoredRow.{StoredRow}
use Rattle.cube_values.specs.declared.value.Value.TheVariants.{Text}
use Rattle.cube_language.specs.Cubes.{sizes_of}
use Rattle.cube_language.specs.Misfits.{FitsCube}
use Rattle.cube_language.specs.ResolvedNames.{resolved_query}
use Rattle.cube_language.specs.declared.decl.Decl.{Decl}
use Rattle.cube_language.specs.declared.decl.DimDecl.{DimDecl}
use Rattle.cube_language.specs.declared.statement.Statement.{Statement}
use Rattle.cube_run.specs.FinalNames.{HasDimension, names_at}
use Rattle.cube_run.specs.LoadedRows.{has_no_place_for}
use Rattle.cube_run.specs.RunRecords.{RunRecord, catalog_of}
use Rattle.agg_fold.specs.Coded.{value_for, values_for}
use Rattle.brick_address.specs.Addresses.{AreCoords}
use Rattle.condition_spans.specs.Codes.{lists_at, texts_at}
use Rattle.query_plan.specs.Bindings.{IsQueryOn}
use Rattle.query_plan.specs.Ties.{AreDistinct, StandForValues, StandsForValue, rows_taken, stored_for}
use Rattle.query_plan.proofs.Ties.{queries_answer}
use Rattle.one_session.specs.Changes.{AllStandForValues, ComeFor, rows_in_cube}
use Rattle.one_session.specs.Pasts.{Beginning, EndsAs, GoesOn, SessionPast}
use Rattle.one_session.proofs.Coded.{answer_of_cube}

-- ---- one value

-- Texts that begin with others.
whole : (before after : List (List ℕ)) → take (length before) after ≡ before
    → after ≡ before ++ drop (length before) after
whole before after first =
    sym (take-append-drop (length before) after)
    ∙ ap (λ (texts : List (List ℕ)). texts ++ drop (length before) after) first

front_get : (before rest : List (List ℕ)) (coord : ℕ) → coord < length before
    → slice_get before coord ≡ slice_get (before ++ rest) coord
front_get [] rest coord l = absurd (omega (arith, l))
front_get (text ∷ before) rest zero l = refl
front_get (text ∷ before) rest (suc coord) l = front_get before rest coord (omega (arith, l))

value_front : (before rest : List (List ℕ)) (coord : ℕ) → coord < length before
    → value_for before coord ≡ value_for (before ++ rest) coord
value_front [] rest coord l = absurd (omega (arith, l))
value_front (text ∷ before) rest coord l =
    ap (λ (o : Option (List ℕ)). Text (unwrap_or o [])) (front_get (text ∷ before) rest coord l)

value_same : (dim : DimDecl) (before after : List (List ℕ)) (coord : ℕ) → StandsForValue dim before coord
    → EndsAs dim before after → value_for before coord ≡ value_for after coord
value_same dim before after coord stands ends = at dim.text refl
  where
    at : (b : Bool) → dim.text ≡ b → value_for before coord ≡ value_for after coord
    at false is = ap (λ (texts : List (List ℕ)). value_for texts coord) (stands.number is ∙ sym (ends.numbers is))
    at true is =
        value_front before (drop (length before) after) coord (stands.text is)
        ∙ ap (λ (texts : List (List ℕ)). value_for texts coord) (sym (whole before after ends.dictionary.first))

stands_still : (dim : DimDecl) (before after : List (List ℕ)) (coord : ℕ) → StandsForValue dim before coord
    → EndsAs dim before after → StandsForValue dim after coord
stands_still dim before after coord stands ends = record {
  number = ends.numbers;
  text = λ is.
      let low = stands.text is in
      let longer = ap (λ (texts : List (List ℕ)). length texts) (whole before after ends.dictionary.first)
      ∙ length-append before (drop (length before) after) in
      omega (arith, low, longer);
}

-- ---- the values of a row

abbrev behind_first : List (List (List ℕ)) → List (List (List ℕ))
behind_first [] = []
behind_first (texts ∷ lists) = lists

values_first : (lists : List (List (List ℕ))) (coord : ℕ) (coords : List ℕ)
    → values_for lists (coord ∷ coords) ≡ value_for (texts_at lists 0) coord ∷ values_for (behind_first lists) coords
values_first [] coord coords = refl
values_first (texts ∷ lists) coord coords = refl

texts_behind : (lists : List (List (List ℕ))) (k : ℕ) → texts_at lists (suc k) ≡ texts_at (behind_first lists) k
texts_behind [] k = refl
texts_behind (texts ∷ lists) k = refl

values_same : (dims : List DimDecl) (before after : List (List (List ℕ))) (coords : List ℕ)
    → AreCoords (sizes_of dims) coords
    → ((k : ℕ) (e : DimDecl) → k < length dims
    → StandsForValue (get_or dims k e) (texts_at before k) (get_or coords k 0))
    → ((k : ℕ) (e : DimDecl) → k < length dims → EndsAs (get_or dims k e) (texts_at before k) (texts_at after k))
    → values_for before coords ≡ values_for after coords
values_same [] before after [] are stands ends = none before after
  where
    none : (before after : List (List (List ℕ))) → values_for before [] ≡ values_for after []
    none [] [] = refl
    none [] (texts ∷ after) = refl
    none (texts ∷ before) [] = refl
    none (texts ∷ before) (others ∷ after) = refl
values_same [] before after (coord ∷ coords) are stands ends = absurd are
values_same (dim ∷ dims) before after [] are stands ends = absurd are
values_same (dim ∷ dims) before after (coord ∷ coords) are stands ends =
    values_first before coord coords
    ∙ (λ i. value_same dim (texts_at before 0) (texts_at after 0) coord (stands 0 dim (omega arith)) (ends 0 dim (omega arith)) i
    ∷ values_same dims (behind_first before) (behind_first after) coords are.1
    (λ k e l. coe 0 1 (j. StandsForValue (get_or dims k e) (texts_behind before k j) (get_or coords k 0))
    (stands (suc k) e (omega (arith, l))))
    (λ k e l. coe 0 1 (j. EndsAs (get_or dims k e) (texts_behind before k j) (texts_behind after k j))
    (ends (suc k) e (omega (arith, l)))) i)
    ∙ sym (values_first after coord coords)

-- ---- rows

at_place : (names : List (List (List (List ℕ)))) (cube place : ℕ)
    → names_at names cube place ≡ texts_at (lists_at names cube) place
at_place names cube place = at (slice_get names cube)
  where
    at : (o : Option (List (List (List ℕ))))
        → unwrap_or (option_and_then (λ dims. slice_get dims place) o) [] ≡ texts_at (unwrap_or o []) place
    at None = refl
    at (Some lists) = refl

ends_at : (beginning : Beginning) (past : SessionPast) (run : RunRecord) (cube : ℕ) (d : Decl)
    → GoesOn beginning past run → slice_get (catalog_of run).cubes cube ≡ Some d
    → (k : ℕ) (e : DimDecl) → k < length d.dims
    → EndsAs (get_or d.dims k e) (texts_at (lists_at past.names cube) k) (texts_at (lists_at run.names cube) k)
ends_at beginning past run cube d g is k e l =
    coe 0 1 (i. EndsAs (get_or d.dims k e) (at_place past.names cube k i) (at_place run.names cube k i))
    (g.names cube k d (get_or d.dims k e) (record { cube_is = is; dim_is = slice_get-get_or d.dims k e l }))

pub rows_keep : (beginning : Beginning) (past : SessionPast) (run : RunRecord) (cube : ℕ) (d : Decl)
    (rows : List CodedRow) → GoesOn beginning past run → slice_get (catalog_of run).cubes cube ≡ Some d
    → AllStandForValues d (lists_at past.names cube) rows
    → ComeFor d (lists_at run.names cube) rows (map (stored_for d.name (lists_at past.names cube)) rows)
rows_keep beginning past run cube d [] g is h = record { are = refl; each = tt }
rows_keep beginning past run cube d (row ∷ rows) g is h =
    let rest = rows_keep beginning past run cube d rows g is h.1 in
    let ends = ends_at beginning past run cube d g is in
    record {
      are = λ i.
          record {
            cube = d.name;
            row = record {
              dims =
                  values_same d.dims (lists_at past.names cube) (lists_at run.names cube) row.coords h.0.of_cube
                  h.0.each ends i;
              metrics = row.metrics;
            };
          } ∷ rest.are i;
      each = (
        record {
          of_cube = h.0.of_cube;
          each = λ k e l.
              stands_still (get_or d.dims k e) (texts_at (lists_at past.names cube) k)
              (texts_at (lists_at run.names cube) k) (get_or row.coords k 0) (h.0.each k e l) (ends k e l);
        },
        rest.each,
      );
    }

-- ---- a full dictionary

pub full_stays : (beginning : Beginning) (past : SessionPast) (run : RunRecord) (cube place : ℕ) (d : Decl)
    (dim : DimDecl) → GoesOn beginning past run → HasDimension run cube place d dim
    → dim.cardinality ≤ length (names_at past.names cube place)
    → names_at run.names cube place ≡ names_at past.names cube place
full_stays beginning past run cube place d dim g has full =
    let ends = g.names cube place d dim has in
    let few = ends.dictionary.few in
    sym (take_all (length (names_at past.names cube place)) (names_at run.names cube place) (omega (arith, few, full)))
    ∙ ends.dictionary.first

and_false : (b c : Bool) → (b && false) ≡ (c && false)
and_false true true = refl
and_false true false = refl
and_false false true = refl
and_false false false = refl

pub place_stays : (beginning : Beginning) (past : SessionPast) (run : RunRecord) (cube place : ℕ) (d : Decl)
    (dim : DimDecl) (text : List ℕ) → GoesOn beginning past run → HasDimension run cube place d dim
    → (list_any (λ name. bytes_eq name text) (names_at past.names cube place) ≡ true)
    ⊎ (dim.cardinality ≤ length (names_at past.names cube place))
    → has_no_place_for dim (names_at run.names cube place) text
    ≡ has_no_place_for dim (names_at past.names cube place) text
place_stays beginning past run cube place d dim text g has (inr full) =
    ap (λ (names : List (List ℕ)). has_no_place_for dim names text)
    (full_stays beginning past run cube place d dim g has full)
place_stays beginning past run cube place d dim text g has (inl there) =
    let before = names_at past.names cube place in
    let after = names_at run.names cube place in
    let still : list_any (λ name. bytes_eq name text) after ≡ true =
    ap (list_any (λ name. bytes_eq name text)) (whole before after (g.names cube place d dim has).dictionary.first)
    ∙ list_any-append (λ name. bytes_eq name text) before (drop (length before) after)
    ∙ ap (λ (b : Bool). b || list_any (λ name. bytes_eq name text) (drop (length before) after)) there
    in
    ap (λ (b : Bool). nat_le dim.cardinality (length after) && not b) still
    ∙ and_false (nat_le dim.cardinality (length after)) (nat_le dim.cardinality (length before))
    ∙ sym (ap (λ (b : Bool). nat_le dim.cardinality (length before) && not b) there)

-- ---- queries

all_of : {X : Type 0} (P : X → Type 0) (xs : List X) → AllByRecursion P xs → All P xs
all_of P [] h = All-nil P
all_of P (x ∷ xs) h = All-cons P x xs h.0 (all_of P xs h.1)

pub query_answers : (beginning : Beginning) (past : SessionPast) (run : RunRecord) (d : Decl) (s : Statement)
    (query : BoundQuery) (rows : List CodedRow) (stored : List StoredRow) → GoesOn beginning past run
    → slice_get (catalog_of run).cubes query.cube ≡ Some d → FitsCube d s
    → AreDistinct (lists_at past.names query.cube) → IsQueryOn d past.names s query
    → AllStandForValues d (lists_at past.names query.cube) rows
    → ComeFor d (lists_at run.names query.cube) rows (rows_in_cube d.name stored)
    → table_of query.group query.items (rows_taken (lists_at past.names query.cube) query rows)
    ≡ answer (resolved_query d s) stored
query_answers beginning past run d s query rows stored g is fits distinct bound now ends =
    let kept = rows_keep beginning past run query.cube d rows g is now in
    queries_answer d s past.names query rows fits distinct bound
    (all_of (λ row. StandForValues d (lists_at past.names query.cube) row.coords) rows now)
    ∙ ap (answer (resolved_query d s)) (kept.are ∙ sym ends.are)
    ∙ sym (answer_of_cube (resolved_query d s) stored)
