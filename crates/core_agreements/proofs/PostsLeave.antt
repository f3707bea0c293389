-- Posts that stand for operations leave rows that stand for what the operations leave.
use Rattle.std.proofs.Common.{◌≡◌, ◌≢◌, ◌∙◌, ℕ, ◌+◌, Bool, true, false, not, ◌&&◌, cond, List, [], ◌∷◌, ◌++◌, filter, fold, Some, slice_get, refl, sym, ap, subst, arith}
use Rattle.std.specs.List.{AllByRecursion, count_by, list_all}
use Rattle.std.specs.List.Sorted.{IsPermutation}
use Rattle.std.specs.Str.{bytes_eq}
use Rattle.std.proofs.lemmas.Bool.{false≢true}
use Rattle.std.proofs.lemmas.List.{map-append}
use Rattle.std.proofs.lemmas.List.Elements.{filter-append}
use Rattle.std.proofs.lemmas.List.Sorted.{IsPermutation-append, IsPermutation-trans}
use Rattle.std.proofs.lemmas.List.Sums.{fold-append}
use Rattle.std.proofs.lemmas.Option.{slice_get_within}
use Rattle.std.proofs.lemmas.Slice.Eq.{bytes_eq-Decides}
use Rattle.cube_values.specs.Regions.{holds_of, region_has}
use Rattle.cube_values.specs.Running.{after_operation}
use Rattle.cube_values.specs.Spans.{span_has}
use Rattle.cube_values.specs.declared.operation.Operation.{Operation}
use Rattle.cube_values.specs.declared.operation.Operation.TheVariants.{Put, Drop}
use Rattle.cube_values.specs.declared.operation.Region.{Region}
use Rattle.cube_values.specs.declared.row.CodedRow.{CodedRow}
use Rattle.cube_values.specs.declared.row.StoredRow.{StoredRow}
use Rattle.cube_values.specs.declared.span.Span.{Span}
use Rattle.cube_language.specs.declared.decl.Decl.{Decl}
use Rattle.cube_run.specs.RunRecords.{Catalog}
use Rattle.query_plan.specs.Ties.{StandForValues, TakesRegion, stored_for}
use Rattle.one_session.specs.Changes.{AreNamedApart, ComeFor, Go, rows_in_cube}
use Rattle.one_session.proofs.Coded.{changes_stand, other_name}
use Rattle.core_events.proofs.Counts.{count-append, count-filter}
use Rattle.core_events.specs.Serial.{CubeOperation, DropRows, rows_after_transaction}
use Rattle.core_serial.proofs.Permutations.{counts-permuted, permuted-by-counts}
use Rattle.core_agreements.specs.PostsForOperations.{PostsStandFor, StandForAll, batches_posted, no_posts, other_dropped, region_dropped, rows_of_batches, rows_put}

-- ---- rows that come

all-both : {X : Type 0} (P : X → Type 0) (xs ys : List X) → AllByRecursion P xs → AllByRecursion P ys
    → AllByRecursion P (xs ++ ys)
all-both P [] ys h k = k
all-both P (x ∷ xs) ys h k = (h.0, all-both P xs ys h.1 k)

-- Batches leave what was there, and their rows, each as often.
count-batches : (c : CodedRow → Bool) (batches : List (List CodedRow)) (posts : List CubeOperation)
    (rows : List CodedRow)
    → count_by c (rows_after_transaction (batches_posted batches ++ posts) rows)
    ≡ count_by c (rows_after_transaction posts rows) + count_by c (rows_of_batches batches)
count-batches c [] posts rows = omega arith
count-batches c (batch ∷ batches) posts rows =
    let rest = count-batches c batches posts rows in
    let here = count-append c (rows_after_transaction (batches_posted batches ++ posts) rows) batch in
    let both = count-append c batch (rows_of_batches batches) in
    omega (arith, rest, here, both)

batches-leave : (batches : List (List CodedRow)) (posts : List CubeOperation) (rows : List CodedRow)
    → IsPermutation (rows_after_transaction (batches_posted batches ++ posts) rows)
    (rows_after_transaction posts rows ++ rows_of_batches batches)
batches-leave batches posts rows =
    permuted-by-counts (rows_after_transaction (batches_posted batches ++ posts) rows)
    (rows_after_transaction posts rows ++ rows_of_batches batches)
    (λ c. count-batches c batches posts rows
    ∙ sym (count-append c (rows_after_transaction posts rows) (rows_of_batches batches)))

put-stands : (d : Decl) (lists : List (List (List ℕ))) (batches : List (List CodedRow)) (posts : List CubeOperation)
    (rows : List CodedRow) (before stored : List StoredRow)
    → StandForAll d lists (rows_after_transaction posts rows) (rows_in_cube d.name before)
    → StandForAll d lists (rows_of_batches batches) (rows_in_cube d.name stored)
    → StandForAll d lists (rows_after_transaction (batches_posted batches ++ posts) rows)
    (rows_in_cube d.name (before ++ stored))
put-stands d lists batches posts rows before stored h z = record {
  ordered = h.ordered ++ z.ordered;
  moved =
      IsPermutation-trans (rows_after_transaction (batches_posted batches ++ posts) rows)
      (rows_after_transaction posts rows ++ rows_of_batches batches) (h.ordered ++ z.ordered)
      (batches-leave batches posts rows)
      (IsPermutation-append (rows_after_transaction posts rows) h.ordered (rows_of_batches batches) z.ordered h.moved
      z.moved);
  come = record {
    are =
        filter-append (λ row. bytes_eq row.cube d.name) before stored
        ∙ (λ i. h.come.are i ++ z.come.are i)
        ∙ sym (map-append (stored_for d.name lists) h.ordered z.ordered);
    each = all-both (λ (row : CodedRow). StandForValues d lists row.coords) h.ordered z.ordered h.come.each z.come.each;
  };
}

-- ---- rows that go

pub passed-moved : (p : CodedRow → Bool) (rows others : List CodedRow) → IsPermutation rows others
    → IsPermutation (filter p rows) (filter p others)
passed-moved p rows others moved =
    permuted-by-counts (filter p rows) (filter p others) (λ c.
    count-filter c p rows ∙ counts-permuted rows others moved (λ row. p row && c row) ∙ sym (count-filter c p others))

-- Of a cube alone the law of one session's changes is about as much.
abbrev alone_with : Decl → List (List (List ℕ)) → Catalog
alone_with d lists = record { cubes = d ∷ []; names = lists ∷ [] }

alone-apart : (d : Decl) → AreNamedApart (d ∷ [])
alone-apart d = λ a b x y is_a is_b same. one a b x y is_a is_b
  where
    one : (a b : ℕ) (x y : Decl) → slice_get (d ∷ []) a ≡ Some x → slice_get (d ∷ []) b ≡ Some y → a ≡ b
    one a b x y is_a is_b =
        let la = slice_get_within (d ∷ []) a x is_a in
        let lb = slice_get_within (d ∷ []) b y is_b in
        omega (arith, la, lb)

dropped-come : (d : Decl) (lists : List (List (List ℕ))) (box : Span) (region : Region) (rows : List CodedRow)
    (stored : List StoredRow) → TakesRegion d lists region box → region.cube ≡ d.name
    → ComeFor d lists rows (rows_in_cube d.name stored)
    → ComeFor d lists (filter (λ row. not (span_has box row.coords)) rows)
    (rows_in_cube d.name (filter (λ row. not (region_has region row)) stored))
dropped-come d lists box region rows stored takes same h =
    changes_stand (alone_with d lists) 0 d rows stored (record { cube = 0; change = Go box } ∷ [])
    (record { number = 0; epoch = 0; operation = Drop region } ∷ []) (alone-apart d) refl
    (record { decl = d; cube_is = refl; stands = (takes, same) }, tt) h

drop-stands : (d : Decl) (lists : List (List (List ℕ))) (box : Span) (region : Region) (rows : List CodedRow)
    (stored : List StoredRow) → TakesRegion d lists region box → region.cube ≡ d.name
    → StandForAll d lists rows (rows_in_cube d.name stored)
    → StandForAll d lists (filter (λ row. not (span_has box row.coords)) rows)
    (rows_in_cube d.name (filter (λ row. not (region_has region row)) stored))
drop-stands d lists box region rows stored takes same h = record {
  ordered = filter (λ row. not (span_has box row.coords)) h.ordered;
  moved = passed-moved (λ (row : CodedRow). not (span_has box row.coords)) rows h.ordered h.moved;
  come = dropped-come d lists box region h.ordered stored takes same h.come;
}

-- A region of another cube has none of this cube's rows.
untouched : (name : List ℕ) (region : Region) → region.cube ≢ name → (stored : List StoredRow)
    → rows_in_cube name (filter (λ row. not (region_has region row)) stored) ≡ rows_in_cube name stored
untouched name region differ [] = refl
untouched name region differ (row ∷ stored) =
    at (bytes_eq row.cube name) (not (region_has region row)) refl refl (untouched name region differ stored)
  where
    at : (b c : Bool) → bytes_eq row.cube name ≡ b → not (region_has region row) ≡ c
        → rows_in_cube name (filter (λ row. not (region_has region row)) stored) ≡ rows_in_cube name stored
        → rows_in_cube name (cond c (row ∷ filter (λ row. not (region_has region row)) stored)
        (filter (λ row. not (region_has region row)) stored))
        ≡ cond b (row ∷ rows_in_cube name stored) (rows_in_cube name stored)
    at true true is keeps rest =
        ap (λ (b : Bool). cond b (row ∷ rows_in_cube name (filter (λ row. not (region_has region row)) stored))
        (rows_in_cube name (filter (λ row. not (region_has region row)) stored))) is
        ∙ ap (λ (xs : List StoredRow). row ∷ xs) rest
    at false true is keeps rest =
        ap (λ (b : Bool). cond b (row ∷ rows_in_cube name (filter (λ row. not (region_has region row)) stored))
        (rows_in_cube name (filter (λ row. not (region_has region row)) stored))) is
        ∙ rest
    at false false is keeps rest = rest
    at true false is keeps rest =
        let outside : region_has region row ≡ false =
        ap (λ (b : Bool). b && list_all (holds_of row.row.dims) region.conditions)
        (other_name region.cube row.cube (λ same. differ (same ∙ (bytes_eq-Decides row.cube name).0 is)))
        in
        absurd (false≢true (sym keeps ∙ ap not outside))

-- ---- a transaction

one-more : (rows : List StoredRow) (done : List Operation) (operation : Operation)
    → fold after_operation rows (done ++ operation ∷ []) ≡ after_operation (fold after_operation rows done) operation
one-more rows done operation = fold-append after_operation rows done (operation ∷ [])

pub posts-leave : (d : Decl) (lists : List (List (List ℕ))) (posts : List CubeOperation) (done : List Operation)
    (rows : List CodedRow) (stored : List StoredRow) → PostsStandFor d lists posts done
    → StandForAll d lists rows (rows_in_cube d.name stored)
    → StandForAll d lists (rows_after_transaction posts rows)
    (rows_in_cube d.name (fold after_operation stored done))
posts-leave d lists _ _ rows stored no_posts h = h
posts-leave d lists _ _ rows stored (rows_put batches posts put done come rest) h =
    subst (λ (left : List StoredRow). StandForAll d lists
    (rows_after_transaction (batches_posted batches ++ posts) rows) (rows_in_cube d.name left))
    (sym (one-more stored done (Put put)))
    (put-stands d lists batches posts rows (fold after_operation stored done) put
    (posts-leave d lists posts done rows stored rest h) come)
posts-leave d lists _ _ rows stored (region_dropped box posts region done takes same rest) h =
    subst (λ (left : List StoredRow). StandForAll d lists
    (rows_after_transaction (DropRows box ∷ posts) rows) (rows_in_cube d.name left))
    (sym (one-more stored done (Drop region)))
    (drop-stands d lists box region (rows_after_transaction posts rows) (fold after_operation stored done) takes same
    (posts-leave d lists posts done rows stored rest h))
posts-leave d lists _ _ rows stored (other_dropped posts region done differ rest) h =
    subst (λ (left : List StoredRow). StandForAll d lists (rows_after_transaction posts rows) left)
    (sym (ap (rows_in_cube d.name) (one-more stored done (Drop region))
    ∙ untouched d.name region differ (fold after_operation stored done)))
    (posts-leave d lists posts done rows stored rest h)
