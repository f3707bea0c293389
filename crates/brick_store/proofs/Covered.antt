-- Rows of a brick that a span has whole, or of which it has nothing.
use Rattle.std.proofs.Common.{◌≡◌, Bool, false, List, [], All, IsTrue, filter, subst}
use Rattle.std.specs.List.{items_where_true}
use Rattle.std.proofs.lemmas.List.Elements.{All-weaker}
use Rattle.cube_values.specs.declared.row.CodedRow.{CodedRow}
use Rattle.cube_values.specs.declared.span.Span.{Span}
use Rattle.brick_address.specs.Covers.{HasAll, HasNone}
use Rattle.brick_columns.proofs.KeptItems.{kept_all}
use Rattle.brick_store.specs.Bricks.{Home, BrickState, IsRowOf}
use Rattle.cube_values.specs.Spans.{span_has_row}
use Rattle.brick_store.specs.Whole.{contract_view, IsWhole}
use Rattle.brick_store.specs.declared.brick.Brick.TheInside.{Inside}
use Rattle.brick_store.proofs.Folds.{filter_none}

pub rows_sound : (b : Inside) (v : BrickState) → contract_view b ≡ v → IsWhole b → All (IsRowOf v.home) v.rows
rows_sound b v e w = subst (λ (v : BrickState). All (IsRowOf v.home) v.rows) e w.sound

pub all_inside : (home : Home) (span : Span) (rows : List CodedRow) → HasAll home.sizes span.parts home.number → All (IsRowOf home) rows → All (λ row. IsTrue (span_has_row span row)) rows
all_inside home span rows h s =
    All-weaker (IsRowOf home) (λ (row : CodedRow). IsTrue (span_has_row span row)) (λ row i. h row.coords i.coords) rows s

pub none_outside : (home : Home) (span : Span) (rows : List CodedRow) → HasNone home.sizes span.parts home.number → All (IsRowOf home) rows → All (λ row. span_has_row span row ≡ false) rows
none_outside home span rows h s =
    All-weaker (IsRowOf home) (λ (row : CodedRow). span_has_row span row ≡ false) (λ row i. h row.coords i.coords) rows s

pub none_shown : (home : Home) (span : Span) (bits : List Bool) (rows : List CodedRow) → HasNone home.sizes span.parts home.number → All (IsRowOf home) rows → filter (span_has_row span) (items_where_true bits rows) ≡ []
none_shown home span bits rows h s =
    filter_none (span_has_row span) (items_where_true bits rows) (kept_all (λ (row : CodedRow). span_has_row span row ≡ false) bits rows (none_outside home span rows h s))
