-- What groups stand for, and their table, do not hang on the place of the cube.
use Rattle.std.proofs.Common.{◌≡◌, ℕ, List, subst}
use Rattle.std.specs.Prelude.{IfOk, Result, Ok, Err}
use Rattle.agg_fold.specs.Coded.{texts_for}
use Rattle.agg_fold.specs.Standing.{HasRoom, IsTable, StandsFor}
use Rattle.agg_fold.specs.declared.groups.Groups.{Groups}
use Rattle.condition_spans.specs.Codes.{lists_at}
use Rattle.cube_values.specs.declared.query.BoundQuery.{BoundQuery}
use Rattle.cube_values.specs.declared.row.CodedRow.{CodedRow}
use Rattle.cube_values.specs.declared.table.Field.{Field}

stands-at : (place : ℕ) (query : BoundQuery) (rows : List CodedRow) (groups : Groups) → StandsFor query rows groups
    → StandsFor (record query { cube = place }) rows groups
stands-at place query rows groups st = record {
  count = st.count;
  few = st.few;
  taken = λ k e low.
      let row = st.taken k e low in
      record {
        sound = record { span = row.sound.span; group = row.sound.group; items = row.sound.items };
        inside = row.inside;
        fit = row.fit;
      };
  named = st.named;
  wide = st.wide;
  once = st.once;
  totals = record { counts = st.totals.counts; tallies = st.totals.tallies };
}

pub room-at : (place : ℕ) (query : BoundQuery) (groups : Groups) → HasRoom query 0 groups
    → HasRoom (record query { cube = place }) 0 groups
room-at place query groups room = (room.0, stands-at place query room.0 groups room.1, room.2)

pub table-at : (place : ℕ) (query : BoundQuery) (lists : List (List (List ℕ))) (groups : Groups)
    (table : List (List Field)) → IsTable (record query { cube = place }) lists groups table
    → IsTable query lists groups table
table-at place query lists groups table makes rows st = makes rows (stands-at place query rows groups st)

-- By the names of the one cube that there is.
pub table-of-one : {E : Type 0} (query asked : BoundQuery) (names : List (List (List (List ℕ)))) (groups : Groups)
    (result : Result (List (List Field)) E) → asked ≡ record query { cube = 0 }
    → IfOk result (IsTable asked (texts_for asked names) groups) → IfOk result (IsTable query (lists_at names 0) groups)
table-of-one query asked names groups (Ok table) is makes =
    table-at 0 query (lists_at names 0) groups table
    (subst (λ (q : BoundQuery). IsTable q (texts_for q names) groups table) is makes)
table-of-one query asked names groups (Err error) is makes = tt
