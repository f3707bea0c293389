-- The lines of a SELECT by the table of its groups.
use Rattle.std.proofs.Common.{◌≡◌, ◌∙◌, ◌+◌, ◌<◌, ◌^◌, ℕ, suc, List, [], ◌∷◌, All, length, map, filter, refl, sym, ap, arith}
use Rattle.std.specs.List.{AllByRecursion, Contains}
use Rattle.std.proofs.lemmas.List.{length-map}
use Rattle.std.proofs.lemmas.List.Elements.{All-filter}
use Rattle.brick_address.specs.Addresses.{AreCoords}
use Rattle.cube_values.specs.Answer.{answer, table_of}
use Rattle.cube_values.specs.First.{first_rows}
use Rattle.cube_values.specs.Spans.{span_has}
use Rattle.cube_values.specs.declared.query.BoundQuery.{BoundQuery}
use Rattle.cube_values.specs.declared.row.CodedRow.{CodedRow}
use Rattle.cube_values.specs.declared.shape.Size.{Size}
use Rattle.cube_values.specs.declared.table.Field.{Field}
use Rattle.cube_values.specs.declared.top_plan.BoundKey.{BoundKey}
use Rattle.cube_values.specs.declared.top_plan.TopPlan.{TopPlan}
use Rattle.cube_language.specs.Cubes.{size_of, sizes_of}
use Rattle.cube_language.specs.ResolvedNames.{resolved_plan, resolved_query}
use Rattle.cube_language.specs.declared.decl.Decl.{Decl}
use Rattle.agg_fold.specs.Coded.{row_for, texts_for}
use Rattle.agg_fold.specs.Standing.{HasRoom, IsTable}
use Rattle.agg_fold.specs.declared.groups.Groups.{Groups}
use Rattle.condition_spans.specs.Codes.{lists_at}
use Rattle.query_plan.specs.Ties.{QueriesAnswerForValues, StandForValues, rows_taken}
use Rattle.top_rows.specs.Order.{HaveComparableFields}
use Rattle.select_lines.specs.Selects.{AreFolded, AreSelectLines, HasSelect, IsBoundSelect}
use Rattle.select_lines.proofs.Variants.{alike_fields, coded_alike, dim_variant}

pub has_room : (names : List (List (List (List ℕ)))) (query : BoundQuery) (plan : TopPlan) (groups : Groups)
    → HasSelect names query plan groups → HasRoom query 0 groups
has_room names query plan groups h =
    let taken = h.folded.taken in
    (filter (λ row. span_has query.span row.coords) h.rows, taken, omega (arith, taken.few))

-- Coordinates of a cube are as many as its dimensions.
coords_length : (sizes : List Size) (coords : List ℕ) → AreCoords sizes coords → length coords ≡ length sizes
coords_length [] [] h = refl
coords_length [] (coord ∷ coords) h = absurd h
coords_length (s ∷ sizes) [] h = absurd h
coords_length (s ∷ sizes) (coord ∷ coords) h = ap suc (coords_length sizes coords h.1)

named_length : (d : Decl) (lists : List (List (List ℕ))) (rows : List CodedRow)
    → All (λ row. StandForValues d lists row.coords) rows
    → AllByRecursion (λ row. length row.coords ≡ length d.dims) rows
named_length d lists [] h = tt
named_length d lists (row ∷ rows) h = (
  coords_length (sizes_of d.dims) row.coords (h 0 row (omega arith)).of_cube ∙ length-map d.dims size_of,
  named_length d lists rows (λ k e l. h (suc k) e (omega (arith, l))),
)

pub comparable : (names : List (List (List (List ℕ)))) (query : BoundQuery) (plan : TopPlan) (groups : Groups)
    (table : List (List Field)) → HasSelect names query plan groups
    → IsTable query (texts_for query names) groups table → HaveComparableFields plan.keys table
comparable names query plan groups table h is key a b asked one two =
    let lists = lists_at names query.cube in
    let taken = filter (λ row. span_has query.span row.coords) h.rows in
    let n = length h.decl.dims in
    let wide = named_length h.decl lists taken
    (All-filter (λ row. span_has query.span row.coords) (λ row. StandForValues h.decl lists row.coords) h.rows
    h.folded.named)
    in
    let same = is taken h.folded.taken in
    alike_fields (dim_variant n lists) query.group query.items (map (row_for lists) taken) a b key.place
    (coded_alike n lists taken wide)
    (coe 0 1 (i. Contains (same i) a) one)
    (coe 0 1 (i. Contains (same i) b) two)

pub select_lines_are : (names : List (List (List (List ℕ)))) (query : BoundQuery) (plan : TopPlan) (groups : Groups)
    (table lines : List (List Field)) → QueriesAnswerForValues → IsTable query (texts_for query names) groups table
    → lines ≡ first_rows plan table → AreSelectLines names query plan groups lines
select_lines_are names query plan groups table lines law is first d s rows bound folded =
    let lists = lists_at names query.cube in
    let taken = filter (λ row. span_has query.span row.coords) rows in
    first
    ∙ ap (λ (p : TopPlan). first_rows p table) bound.first
    ∙ ap (first_rows (resolved_plan s))
    (is taken folded.taken ∙ law d s names query rows bound.fits folded.distinct bound.asks folded.named)
