-- The rows of bricks that a query finds, and how many they are.
use Rattle.std.proofs.Common.{◌≡◌, ℕ, ◌+◌, ◌<◌, ◌≤◌, Bool, true, false, cond, List, [], ◌∷◌, ◌++◌, length, take, drop, filter, get_or, refl, sym, ap, ◌∙◌, arith}
use Rattle.std.specs.List.{flat_map, items_where_true}
use Rattle.std.proofs.lemmas.List.{length-append, take_more, take-append-drop}
use Rattle.std.proofs.lemmas.List.Concat.{flat_map-append}
use Rattle.std.proofs.lemmas.List.{append-nil}
use Rattle.cube_values.specs.declared.entry.Entry.{Entry}
use Rattle.cube_values.specs.declared.row.CodedRow.{CodedRow}
use Rattle.cube_values.specs.declared.query.BoundQuery.{BoundQuery}
use Rattle.cube_values.specs.declared.shape.Size.{Size}
use Rattle.cube_values.specs.declared.span.Span.{Span}
use Rattle.agg_fold.specs.declared.groups.Groups.{Groups}
use Rattle.agg_fold.specs.Standing.{Gains, HasRoom}
use Rattle.brick_store.specs.Bricks.{BrickState}
use Rattle.cube_values.specs.Spans.{span_has_row}
use Rattle.brick_store.proofs.Folds.{filter_short, gains_more, gains_same, room_after, set_short}
use Rattle.brick_map.specs.Births.{has_brick, rows_count}
use Rattle.brick_map.specs.Lists.{HasSame, MayMark, brick_before_deletion, brick_with_room}
use Rattle.brick_map.proofs.Counts.{count_cons, count_push}

-- the rows of the first i bricks, and of one more
pub count_more : (bricks : List BrickState) (i : ℕ) (d : BrickState) → i < length bricks → rows_count (take (i + 1) bricks) ≡ rows_count (take i bricks) + length (get_or bricks i d).rows
count_more bricks i d l = ap rows_count (take_more bricks i d l) ∙ count_push (take i bricks) (get_or bricks i d)

count_append : (a b : List BrickState) → rows_count (a ++ b) ≡ rows_count a + rows_count b
count_append [] b = omega arith
count_append (x ∷ a) b = omega (arith, count_cons x (a ++ b), count_cons x a, count_append a b)

pub count_front : (i : ℕ) (bricks : List BrickState) → rows_count (take i bricks) ≤ rows_count bricks
count_front i bricks =
    let whole = ap rows_count (take-append-drop i bricks) in
    omega (arith, whole, count_append (take i bricks) (drop i bricks))

module _ (query : BoundQuery) (bits : List Entry → List Bool) where
  abbrev shown : BrickState → List CodedRow
  shown b = filter (span_has_row query.span) (items_where_true (bits b.entries) b.rows)

  abbrev found : List BrickState → List CodedRow
  found bricks = flat_map shown bricks

  pub found_short : (bricks : List BrickState) → length (found bricks) ≤ rows_count bricks
  found_short [] = omega arith
  found_short (b ∷ bricks) =
      let here = bits b.entries in
      let few = filter_short (span_has_row query.span) (items_where_true here b.rows) in
      omega (arith, length-append (shown b) (found bricks), few, set_short here b.rows, found_short bricks, count_cons b bricks)

  -- room for the rows of the next brick
  pub room_for_next : (bricks : List BrickState) (i : ℕ) (b : BrickState) (g h : Groups) → i < length bricks → b ≡ get_or bricks i b → HasRoom query (rows_count bricks) g → Gains query (found (take i bricks)) g h → HasRoom query (length b.rows) h
  room_for_next bricks i b g h l is room gains =
      let more = count_more bricks i b l in
      let most = count_front (i + 1) bricks in
      let short = found_short (take i bricks) in
      let long = ap (λ (b : BrickState). length b.rows) is in
      room_after query (rows_count bricks) (length b.rows) (found (take i bricks)) g h (omega (arith, more, most, short, long)) room gains

  -- the next brick is found
  pub found_more : (bricks : List BrickState) (i : ℕ) (b : BrickState) (g h k : Groups) → i < length bricks → b ≡ get_or bricks i b → Gains query (found (take i bricks)) g h → Gains query (shown b) h k → Gains query (found (take (i + 1) bricks)) g k
  found_more bricks i b g h k l is before now =
      let old = found (take i bricks) in
      let one = shown b in
      let joined : old ++ one ≡ found (take (i + 1) bricks) =
      ap (λ l. old ++ l) (ap shown is ∙ sym (append-nil (shown (get_or bricks i b))))
      ∙ sym (flat_map-append shown (take i bricks) (get_or bricks i b ∷ []))
      ∙ ap found (sym (take_more bricks i b l)) in
      gains_same query (old ++ one) (found (take (i + 1) bricks)) g k joined (gains_more query old one g h k before now)

-- room for a mark
pub before_same : (sizes : List Size) (box : Span) (b : BrickState) → HasSame b (brick_before_deletion sizes box b)
before_same sizes box b = by_test (has_brick sizes box b.home.number) where
  by_test : (t : Bool) → HasSame b (cond t (brick_with_room 0 1 b) b)
  by_test true = record { home = refl; rows = refl; entries = refl }
  by_test false = record { home = refl; rows = refl; entries = refl }

abbrev needed : Bool → ℕ
needed t = cond t 1 0

pub before_may : (sizes : List Size) (box : Span) (b : BrickState) → MayMark sizes box (brick_before_deletion sizes box b)
before_may sizes box b = by_test (has_brick sizes box b.home.number) refl where
  by_test : (t : Bool) → has_brick sizes box b.home.number ≡ t → MayMark sizes box (cond t (brick_with_room 0 1 b) b)
  by_test true h = let one = ap needed h in omega (arith, one)
  by_test false h = let none = ap needed h in omega (arith, none)
