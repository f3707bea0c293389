-- The lines of what was found, by a query on whatever place.
use Rattle.std.proofs.Common.{◌≡◌, ◌∙◌, ℕ, suc, true, List, [], ◌∷◌, length, map, All, refl, ap, arith}
use Rattle.std.specs.List.{AllByRecursion, Contains}
use Rattle.std.proofs.lemmas.Bool.{and_parts, false≢true}
use Rattle.agg_fold.specs.Coded.{IsQueryRow, row_for}
use Rattle.agg_fold.specs.Standing.{HasRoom, IsTable, StandsFor}
use Rattle.agg_fold.specs.declared.groups.Groups.{Groups}
use Rattle.core_selects.specs.ReadLines.{AreFirstOfTable}
use Rattle.cube_language.specs.ResolvedNames.{resolved_plan}
use Rattle.cube_language.specs.declared.statement.Statement.{Statement}
use Rattle.cube_values.specs.First.{first_rows}
use Rattle.cube_values.specs.Spans.{part_has, parts_have}
use Rattle.cube_values.specs.declared.query.BoundQuery.{BoundQuery}
use Rattle.cube_values.specs.declared.row.CodedRow.{CodedRow}
use Rattle.cube_values.specs.declared.span.Part.{Part}
use Rattle.cube_values.specs.declared.table.Field.{Field}
use Rattle.cube_values.specs.declared.top_plan.BoundKey.{BoundKey}
use Rattle.cube_values.specs.declared.top_plan.TopPlan.{TopPlan}
use Rattle.select_lines.proofs.Variants.{alike_fields, coded_alike, dim_variant}
use Rattle.top_rows.specs.Order.{HaveComparableFields}

-- What groups stand for does not hang on the place of the cube.
pub stands-at : (place : ℕ) (query : BoundQuery) (rows : List CodedRow) (groups : Groups) → StandsFor query rows groups
    → StandsFor (record query { cube = place }) rows groups
stands-at place query rows groups st = record {
  count = st.count;
  few = st.few;
  taken = λ k e low.
      let row = st.taken k e low in
      record {
        sound = record { span = row.sound.span; group = row.sound.group; items = row.sound.items };
        inside = row.inside;
        fit = row.fit;
      };
  named = st.named;
  wide = st.wide;
  once = st.once;
  totals = record { counts = st.totals.counts; tallies = st.totals.tallies };
}

pub room-at : (place : ℕ) (query : BoundQuery) (groups : Groups) → HasRoom query 0 groups
    → HasRoom (record query { cube = place }) 0 groups
room-at place query groups room = (room.0, stands-at place query room.0 groups room.1, room.2)

-- Rows that a query takes have as many coordinates as its span has parts.
parts-long : (parts : List Part) (coords : List ℕ) → parts_have parts coords ≡ true → length coords ≡ length parts
parts-long [] [] has = refl
parts-long [] (coord ∷ coords) has = absurd (false≢true has)
parts-long (part ∷ parts) [] has = absurd (false≢true has)
parts-long (part ∷ parts) (coord ∷ coords) has =
    ap suc (parts-long parts coords (and_parts (part_has part coord) (parts_have parts coords) has).1)

rows-long : (query : BoundQuery) (rows : List CodedRow) → All (IsQueryRow query) rows
    → AllByRecursion (λ row. length row.coords ≡ length query.span.parts) rows
rows-long query [] taken = tt
rows-long query (row ∷ rows) taken = (
  parts-long query.span.parts row.coords (taken 0 row (omega arith)).inside,
  rows-long query rows (λ k e low. taken (suc k) e (omega (arith, low))),
)

-- So its table has fields of one variant in each column.
pub comparable : (query : BoundQuery) (lists : List (List (List ℕ))) (groups : Groups) (table : List (List Field))
    (keys : List BoundKey) → HasRoom query 0 groups → IsTable query lists groups table → HaveComparableFields keys table
comparable query lists groups table keys room is key a b asked one two =
    let n = length query.span.parts in
    let same = is room.0 room.1 in
    alike_fields (dim_variant n lists) query.group query.items (map (row_for lists) room.0) a b key.place
    (coded_alike n lists room.0 (rows-long query room.0 room.1.taken))
    (coe 0 1 (i. Contains (same i) a) one)
    (coe 0 1 (i. Contains (same i) b) two)

pub first-of-table : (s : Statement) (place : ℕ) (query : BoundQuery) (lists : List (List (List ℕ))) (groups : Groups)
    (plan : TopPlan) (table lines : List (List Field)) → IsTable (record query { cube = place }) lists groups table
    → plan ≡ resolved_plan s → lines ≡ first_rows plan table → AreFirstOfTable s lists query groups lines
first-of-table s place query lists groups plan table lines makes is first = record {
  table = table;
  makes = λ rows st. makes rows (stands-at place query rows groups st);
  first = first ∙ ap (λ (p : TopPlan). first_rows p table) is;
}
