-- Changes by coordinates leave rows that stand for what the operations leave.
use Rattle.std.proofs.Common.{◌≡◌, ◌∙◌, ℕ, Bool, true, false, not, ◌&&◌, cond, if◌then◌else◌, List, [], ◌∷◌, ◌++◌, filter, fold, map, Some, slice_get, refl, sym, ap, append-nil, inl, inr}
use Rattle.std.specs.List.{AllByRecursion, AllZip, list_all}
use Rattle.std.specs.Str.{bytes_eq}
use Rattle.std.proofs.lemmas.Bool.{false≢true, false_from_ne_true}
use Rattle.std.proofs.lemmas.Bool.Decides.{eqb_tells}
use Rattle.std.proofs.lemmas.List.{map-append}
use Rattle.std.proofs.lemmas.List.Elements.{filter-append}
use Rattle.std.proofs.lemmas.Option.{same_Some}
use Rattle.std.proofs.lemmas.Slice.Eq.{bytes_eq-Decides}
use Rattle.cube_values.specs.Answer.{answer, table_of}
use Rattle.cube_values.specs.Regions.{holds_of, region_has}
use Rattle.cube_values.specs.Running.{after_operation}
use Rattle.cube_values.specs.Spans.{span_has}
use Rattle.cube_values.specs.declared.operation.Operation.{Operation}
use Rattle.cube_values.specs.declared.operation.Operation.TheVariants.{Put, Drop}
use Rattle.cube_values.specs.declared.operation.Region.{Region}
use Rattle.cube_values.specs.declared.query.Query.{Query}
use Rattle.cube_values.specs.declared.row.CodedRow.{CodedRow}
use Rattle.cube_values.specs.declared.row.StoredRow.{StoredRow}
use Rattle.cube_values.specs.declared.span.Span.{Span}
use Rattle.cube_language.specs.declared.decl.Decl.{Decl}
use Rattle.cube_run.specs.RunRecords.{Catalog}
use Rattle.cube_run.specs.RunTransactions.{DoneOperation}
use Rattle.condition_spans.specs.Codes.{lists_at}
use Rattle.query_plan.specs.Ties.{StandForValues, TakesRegion, stored_for}
use Rattle.one_session.specs.Changes.{AllStandForValues, AreNamedApart, ChangeAt, ChangesFor, CodedChange, Come, ComeFor, Go, StandsForDone, rows_changed, rows_in_cube, rows_with_change, rows_with_changes}
use Rattle.one_session.proofs.Settled.{all_filter}

-- ---- names of cubes

eq_is : (a b : List ℕ) → bytes_eq a b ≡ true → a ≡ b
eq_is a b h = (bytes_eq-Decides a b).0 h

pub same_name : (a : List ℕ) → bytes_eq a a ≡ true
same_name a = (bytes_eq-Decides a a).1 refl

pub other_name : (a b : List ℕ) → (a ≡ b → ⊥) → bytes_eq a b ≡ false
other_name a b differ = false_from_ne_true (bytes_eq a b) (λ is. differ (eq_is a b is))

-- ---- a change of this cube

all_own : (name : List ℕ) (lists : List (List (List ℕ))) (rows : List CodedRow)
    → rows_in_cube name (map (stored_for name lists) rows) ≡ map (stored_for name lists) rows
all_own name lists [] = refl
all_own name lists (row ∷ rows) =
    (λ i. cond (same_name name i) (stored_for name lists row ∷ all_own name lists rows i) (all_own name lists rows i))

all_both : {X : Type 0} (P : X → Type 0) (xs ys : List X) → AllByRecursion P xs → AllByRecursion P ys
    → AllByRecursion P (xs ++ ys)
all_both P [] ys h k = k
all_both P (x ∷ xs) ys h k = (h.0, all_both P xs ys h.1 k)

-- Two tests in either order.
either_order : {X : Type 0} (p q : X → Bool) (xs : List X) → filter p (filter q xs) ≡ filter q (filter p xs)
either_order p q [] = refl
either_order p q (x ∷ xs) = inner (p x) (q x) refl refl (either_order p q xs)
  where
    inner : (b c : Bool) → p x ≡ b → q x ≡ c → filter p (filter q xs) ≡ filter q (filter p xs)
        → filter p (cond c (x ∷ filter q xs) (filter q xs)) ≡ filter q (cond b (x ∷ filter p xs) (filter p xs))
    inner true true is_p is_q rest =
        ap (λ (b : Bool). cond b (x ∷ filter p (filter q xs)) (filter p (filter q xs))) is_p
        ∙ ap (λ ys. x ∷ ys) rest
        ∙ sym (ap (λ (b : Bool). cond b (x ∷ filter q (filter p xs)) (filter q (filter p xs))) is_q)
    inner true false is_p is_q rest =
        rest ∙ sym (ap (λ (b : Bool). cond b (x ∷ filter q (filter p xs)) (filter q (filter p xs))) is_q)
    inner false true is_p is_q rest =
        ap (λ (b : Bool). cond b (x ∷ filter p (filter q xs)) (filter p (filter q xs))) is_p ∙ rest
    inner false false is_p is_q rest = rest

kept_outside : (d : Decl) (lists : List (List (List ℕ))) (region : Region) (span : Span) → TakesRegion d lists region span
    → (rows : List CodedRow) → AllStandForValues d lists rows
    → filter (λ row. not (region_has region row)) (map (stored_for d.name lists) rows)
    ≡ map (stored_for d.name lists) (filter (λ row. not (span_has span row.coords)) rows)
kept_outside d lists region span takes [] h = refl
kept_outside d lists region span takes (row ∷ rows) h =
    at (not (span_has span row.coords)) (not (region_has region (stored_for d.name lists row)))
    (ap not (takes row h.0)) (kept_outside d lists region span takes rows h.1)
  where
    at : (b c : Bool) → b ≡ c
        → filter (λ row. not (region_has region row)) (map (stored_for d.name lists) rows)
        ≡ map (stored_for d.name lists) (filter (λ row. not (span_has span row.coords)) rows)
        → cond c (stored_for d.name lists row
        ∷ filter (λ row. not (region_has region row)) (map (stored_for d.name lists) rows))
        (filter (λ row. not (region_has region row)) (map (stored_for d.name lists) rows))
        ≡ map (stored_for d.name lists) (cond b (row ∷ filter (λ row. not (span_has span row.coords)) rows)
        (filter (λ row. not (span_has span row.coords)) rows))
    at true true is same = ap (λ (xs : List StoredRow). stored_for d.name lists row ∷ xs) same
    at false false is same = same
    at true false is same = absurd (false≢true (sym is))
    at false true is same = absurd (false≢true is)

own_change : (d : Decl) (lists : List (List (List ℕ))) (rows : List CodedRow) (stored : List StoredRow)
    (change : CodedChange) (operation : Operation) → ChangesFor d lists change operation
    → ComeFor d lists rows (rows_in_cube d.name stored)
    → ComeFor d lists (rows_changed rows change) (rows_in_cube d.name (after_operation stored operation))
own_change d lists rows stored (Come new) (Put put) z h = record {
  are =
      filter-append (λ row. bytes_eq row.cube d.name) stored put
      ∙ (λ i. h.are i ++ (ap (rows_in_cube d.name) z.are ∙ all_own d.name lists new) i)
      ∙ sym (map-append (stored_for d.name lists) rows new);
  each = all_both (λ row. StandForValues d lists row.coords) rows new h.each z.each;
}
own_change d lists rows stored (Go span) (Drop region) z h = record {
  are =
      either_order (λ row. bytes_eq row.cube d.name) (λ row. not (region_has region row)) stored
      ∙ ap (filter (λ row. not (region_has region row))) h.are
      ∙ kept_outside d lists region span z.0 rows h.each;
  each = all_filter (λ row. not (span_has span row.coords)) (λ row. StandForValues d lists row.coords) rows h.each;
}
own_change d lists rows stored (Come new) (Drop region) z h = absurd z
own_change d lists rows stored (Go span) (Put put) z h = absurd z

-- ---- a change of another cube

none_own : (name other : List ℕ) (lists : List (List (List ℕ))) (rows : List CodedRow) → (other ≡ name → ⊥)
    → rows_in_cube name (map (stored_for other lists) rows) ≡ []
none_own name other lists [] differ = refl
none_own name other lists (row ∷ rows) differ =
    ap (λ (b : Bool). cond b (stored_for other lists row ∷ rows_in_cube name (map (stored_for other lists) rows))
    (rows_in_cube name (map (stored_for other lists) rows)))
    (other_name other name differ)
    ∙ none_own name other lists rows differ

-- A region of another cube has none of this cube's rows.
untouched : (name : List ℕ) (region : Region) → (region.cube ≡ name → ⊥) → (stored : List StoredRow)
    → rows_in_cube name (filter (λ row. not (region_has region row)) stored) ≡ rows_in_cube name stored
untouched name region differ [] = refl
untouched name region differ (row ∷ stored) =
    at (bytes_eq row.cube name) (not (region_has region row)) refl refl (untouched name region differ stored)
  where
    at : (b c : Bool) → bytes_eq row.cube name ≡ b → not (region_has region row) ≡ c
        → rows_in_cube name (filter (λ row. not (region_has region row)) stored) ≡ rows_in_cube name stored
        → rows_in_cube name (cond c (row ∷ filter (λ row. not (region_has region row)) stored)
        (filter (λ row. not (region_has region row)) stored))
        ≡ cond b (row ∷ rows_in_cube name stored) (rows_in_cube name stored)
    at true true is keeps rest =
        ap (λ (b : Bool). cond b (row ∷ rows_in_cube name (filter (λ row. not (region_has region row)) stored))
        (rows_in_cube name (filter (λ row. not (region_has region row)) stored))) is
        ∙ ap (λ (xs : List StoredRow). row ∷ xs) rest
    at false true is keeps rest =
        ap (λ (b : Bool). cond b (row ∷ rows_in_cube name (filter (λ row. not (region_has region row)) stored))
        (rows_in_cube name (filter (λ row. not (region_has region row)) stored))) is
        ∙ rest
    at false false is keeps rest = rest
    at true false is keeps rest =
        let outside : region_has region row ≡ false =
        ap (λ (b : Bool). b && list_all (holds_of row.row.dims) region.conditions)
        (other_name region.cube row.cube (λ same. differ (same ∙ eq_is row.cube name is)))
        in
        absurd (false≢true (sym keeps ∙ ap not outside))

other_change : (d e : Decl) (lists : List (List (List ℕ))) (stored : List StoredRow) (change : CodedChange)
    (operation : Operation) → (e.name ≡ d.name → ⊥) → ChangesFor e lists change operation
    → rows_in_cube d.name (after_operation stored operation) ≡ rows_in_cube d.name stored
other_change d e lists stored (Come new) (Put put) differ z =
    filter-append (λ row. bytes_eq row.cube d.name) stored put
    ∙ ap (λ (xs : List StoredRow). rows_in_cube d.name stored ++ xs)
    (ap (rows_in_cube d.name) z.are ∙ none_own d.name e.name lists new differ)
    ∙ append-nil (rows_in_cube d.name stored)
other_change d e lists stored (Go span) (Drop region) differ z =
    untouched d.name region (λ same. differ (sym z.1 ∙ same)) stored
other_change d e lists stored (Come new) (Drop region) differ z = absurd z
other_change d e lists stored (Go span) (Put put) differ z = absurd z

-- ---- all changes

one_change : (catalog : Catalog) (cube : ℕ) (d : Decl) (rows : List CodedRow) (stored : List StoredRow) (c : ChangeAt)
    (o : DoneOperation) → AreNamedApart catalog.cubes → slice_get catalog.cubes cube ≡ Some d
    → StandsForDone catalog c o → ComeFor d (lists_at catalog.names cube) rows (rows_in_cube d.name stored)
    → ComeFor d (lists_at catalog.names cube) (rows_with_change cube rows c)
    (rows_in_cube d.name (after_operation stored o.operation))
one_change catalog cube d rows stored c o apart is z h =
    elim (eqb_tells c.cube cube) [
      | inl same ↦
          let decl : z.decl ≡ d =
          same_Some z.decl d (sym z.cube_is ∙ ap (slice_get catalog.cubes) same.1 ∙ is)
          in
          let lists = lists_at catalog.names cube in
          coe 1 0 (i. ComeFor d lists (if same.0 i then rows_changed rows c.change else rows)
          (rows_in_cube d.name (after_operation stored o.operation)))
          (own_change d lists rows stored c.change o.operation
          (coe 0 1 (i. ChangesFor (decl i) (lists_at catalog.names (same.1 i)) c.change o.operation) z.stands) h)
      | inr other ↦
          let lists = lists_at catalog.names cube in
          coe 1 0 (i. ComeFor d lists (if other.0 i then rows_changed rows c.change else rows)
          (other_change d z.decl (lists_at catalog.names c.cube) stored c.change o.operation
          (λ names. other.1 (apart c.cube cube z.decl d z.cube_is is names)) z.stands i))
          h
    ]

pub changes_stand : (catalog : Catalog) (cube : ℕ) (d : Decl) (rows : List CodedRow) (stored : List StoredRow)
    (changes : List ChangeAt) (done : List DoneOperation) → AreNamedApart catalog.cubes
    → slice_get catalog.cubes cube ≡ Some d → AllZip (StandsForDone catalog) changes done
    → ComeFor d (lists_at catalog.names cube) rows (rows_in_cube d.name stored)
    → ComeFor d (lists_at catalog.names cube) (rows_with_changes cube rows changes)
    (rows_in_cube d.name (fold after_operation stored (map (λ o. o.operation) done)))
changes_stand catalog cube d rows stored [] [] apart is z h = h
changes_stand catalog cube d rows stored [] (o ∷ done) apart is z h = absurd z
changes_stand catalog cube d rows stored (c ∷ changes) [] apart is z h = absurd z
changes_stand catalog cube d rows stored (c ∷ changes) (o ∷ done) apart is z h =
    changes_stand catalog cube d (rows_with_change cube rows c) (after_operation stored o.operation) changes done apart is
    z.1 (one_change catalog cube d rows stored c o apart is z.0 h)

-- ---- an answer

-- A region has rows of its cube alone.
only_own : (region : Region) (stored : List StoredRow)
    → filter (region_has region) stored ≡ filter (region_has region) (rows_in_cube region.cube stored)
only_own region [] = refl
only_own region (row ∷ stored) =
    at (region_has region row) (bytes_eq row.cube region.cube) refl refl (only_own region stored)
  where
    at : (b c : Bool) → region_has region row ≡ b → bytes_eq row.cube region.cube ≡ c
        → filter (region_has region) stored ≡ filter (region_has region) (rows_in_cube region.cube stored)
        → cond b (row ∷ filter (region_has region) stored) (filter (region_has region) stored)
        ≡ filter (region_has region)
        (cond c (row ∷ rows_in_cube region.cube stored) (rows_in_cube region.cube stored))
    at true true has is rest =
        ap (λ (xs : List StoredRow). row ∷ xs) rest
        ∙ sym (ap (λ (b : Bool). cond b (row ∷ filter (region_has region) (rows_in_cube region.cube stored))
        (filter (region_has region) (rows_in_cube region.cube stored))) has)
    at false true has is rest =
        rest
        ∙ sym (ap (λ (b : Bool). cond b (row ∷ filter (region_has region) (rows_in_cube region.cube stored))
        (filter (region_has region) (rows_in_cube region.cube stored))) has)
    at false false has is rest = rest
    at true false has is rest =
        let outside : region_has region row ≡ false =
        ap (λ (b : Bool). b && list_all (holds_of row.row.dims) region.conditions)
        (other_name region.cube row.cube (λ same. false≢true (sym is ∙ (bytes_eq-Decides row.cube region.cube).1 (sym same))))
        in
        absurd (false≢true (sym outside ∙ has))

pub answer_of_cube : (query : Query) (stored : List StoredRow)
    → answer query stored ≡ answer query (rows_in_cube query.region.cube stored)
answer_of_cube query stored =
    ap (λ (xs : List StoredRow). table_of query.group query.items (map (λ (s : StoredRow). s.row) xs))
    (only_own query.region stored)
