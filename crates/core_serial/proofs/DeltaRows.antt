-- A delta of a shard, by what each of its bricks shows to the two readers.
use Rattle.std.proofs.Common.{◌≡◌, ◌∙◌, ℕ, ◌+◌, ◌%◌, ◌≤◌, ◌==◌, Bool, true, false, not, ◌&&◌, List, [], ◌∷◌, sym, ap, arith}
use Rattle.std.specs.List.{count_by}
use Rattle.cube_values.specs.declared.query.BoundQuery.{BoundQuery}
use Rattle.cube_values.specs.declared.row.CodedRow.{CodedRow}
use Rattle.cube_values.specs.Spans.{span_has}
use Rattle.core_events.specs.ShardView.{BrickEntry, RowRun, RowMark, rows_where, rows_shown_to, brick_rows_seen}
use Rattle.core_events.specs.Events.{Opening, CoreEvent}
use Rattle.core_events.specs.Clients.{reader_up_to}
use Rattle.core_events.specs.Cells.{shard_view_of, rows_of_brick}
use Rattle.core_events.specs.Runs.{Sight, sight_before_mark, shows_run, rows_shown_besides, sight_of_reader, rows_in_span, IsDeltaOf}
use Rattle.core_events.proofs.Counts.{number_where, count-run, count-filter}
use Rattle.core_events.proofs.DeltaRows.{delta-counts}
use Rattle.core_serial.specs.Queries.{rows_asked}

-- What the one shows besides is part of what it shows.

part-run : (x y : Bool) (n : ℕ) → number_where (y && not x) n ≤ number_where y n
part-run true true n = omega arith
part-run true false n = omega arith
part-run false true n = omega arith
part-run false false n = omega arith

besides-part : (c : CodedRow → Bool) (one other : Sight) (xs : List BrickEntry)
    → count_by c (rows_shown_besides one other xs) ≤ count_by c (rows_shown_to one.epochs one.marks xs)
besides-part c one other [] = omega arith
besides-part c one other (RowRun epoch rows ∷ older) =
    let x = shows_run other epoch older in
    let y = shows_run one epoch older in
    let n = count_by c rows in
    let before = besides-part c one other older in
    let a = count-run c (rows_shown_besides one other older) (y && not x) rows in
    let b = count-run c (rows_shown_to one.epochs one.marks older) y rows in
    let part = part-run x y n in
    omega (arith, before, a, b, part)
besides-part c one other (RowMark epoch ∷ older) = besides-part c (sight_before_mark epoch one) (sight_before_mark epoch other) older

-- The rows that a delta of a shard has of a brick.
pub record IsBrickDelta (o : Opening) (es : List CoreEvent) (q : BoundQuery) (from to brick : ℕ) (came went : List CodedRow) : Type 0 where
  pub counts : (c : CodedRow → Bool)
      → count_by c (rows_asked o es q (reader_up_to from) brick) + count_by c (rows_of_brick o q.cube brick came)
      ≡ count_by c (rows_asked o es q (reader_up_to to) brick) + count_by c (rows_of_brick o q.cube brick went)
  pub part : (c : CodedRow → Bool) → count_by c (rows_of_brick o q.cube brick went) ≤ count_by c (rows_asked o es q (reader_up_to from) brick)

-- And of all bricks.
pub record IsShardDelta (o : Opening) (es : List CoreEvent) (mail : ℕ) (q : BoundQuery) (from to : ℕ) (came went : List CodedRow) : Type 0 where
  pub here : (brick : ℕ) → (brick % o.shards == mail) ≡ true → IsBrickDelta o es q from to brick came went
  pub came_elsewhere : (brick : ℕ) → (brick % o.shards == mail) ≡ false → rows_of_brick o q.cube brick came ≡ []
  pub went_elsewhere : (brick : ℕ) → (brick % o.shards == mail) ≡ false → rows_of_brick o q.cube brick went ≡ []

pub delta-of-shard : (o : Opening) (es : List CoreEvent) (mail : ℕ) (q : BoundQuery) (from to : ℕ) (came went : List CodedRow)
    → IsDeltaOf o mail (shard_view_of o es) q from to came went → IsShardDelta o es mail q from to came went
delta-of-shard o es mail q from to came went d = record {
  here = λ brick is.
      let xs = shard_view_of o es q.cube brick in
      let within = λ (row : CodedRow). span_has q.span row.coords in
      let first = sight_of_reader from in
      let second = sight_of_reader to in
      let comes = λ (c : CodedRow → Bool).
      ap (count_by c) (d.comes brick ∙ ap (λ (b : Bool). rows_where b (rows_in_span q.span (rows_shown_besides second first xs))) is)
      ∙ count-filter c within (rows_shown_besides second first xs)
      in
      let goes = λ (c : CodedRow → Bool).
      ap (count_by c) (d.goes brick ∙ ap (λ (b : Bool). rows_where b (rows_in_span q.span (rows_shown_besides first second xs))) is)
      ∙ count-filter c within (rows_shown_besides first second xs)
      in
      record {
        counts = λ c.
            let both = delta-counts (λ row. within row && c row) second first xs in
            let a = count-filter c within (brick_rows_seen (reader_up_to from) xs) in
            let b = count-filter c within (brick_rows_seen (reader_up_to to) xs) in
            let x = comes c in
            let y = goes c in
            omega (arith, both, a, b, x, y);
        part = λ c.
            let le = besides-part (λ row. within row && c row) first second xs in
            let a = count-filter c within (brick_rows_seen (reader_up_to from) xs) in
            let y = goes c in
            omega (arith, le, a, y);
      };
  came_elsewhere = λ brick is. d.comes brick ∙ ap (λ (b : Bool).
      rows_where b (rows_in_span q.span (rows_shown_besides (sight_of_reader to) (sight_of_reader from) (shard_view_of o es q.cube brick)))) is;
  went_elsewhere = λ brick is. d.goes brick ∙ ap (λ (b : Bool).
      rows_where b (rows_in_span q.span (rows_shown_besides (sight_of_reader from) (sight_of_reader to) (shard_view_of o es q.cube brick)))) is;
}

-- It is the same delta where the readers see the same.
pub delta-as : (o : Opening) (es later : List CoreEvent) (mail : ℕ) (q : BoundQuery) (from to : ℕ) (came went : List CodedRow)
    → ((brick : ℕ) → rows_asked o later q (reader_up_to from) brick ≡ rows_asked o es q (reader_up_to from) brick)
    → ((brick : ℕ) → rows_asked o later q (reader_up_to to) brick ≡ rows_asked o es q (reader_up_to to) brick)
    → IsShardDelta o es mail q from to came went → IsShardDelta o later mail q from to came went
delta-as o es later mail q from to came went first second d = record {
  here = λ brick is.
      let b = d.here brick is in
      record {
        counts = λ c.
            ap (λ (rows : List CodedRow). count_by c rows + count_by c (rows_of_brick o q.cube brick came)) (first brick)
            ∙ b.counts c
            ∙ ap (λ (rows : List CodedRow). count_by c rows + count_by c (rows_of_brick o q.cube brick went)) (sym (second brick));
        part = λ c. let le = b.part c in let same = ap (count_by c) (first brick) in omega (arith, le, same);
      };
  came_elsewhere = d.came_elsewhere;
  went_elsewhere = d.went_elsewhere;
}
