-- By names that are copied later a statement's query takes the same of the rows up to the epoch of an earlier reader.
use Rattle.std.proofs.Common.{◌≡◌, ◌∙◌, ℕ, ◌<◌, Bool, true, false, cond, List, [], ◌∷◌, ◌++◌, length, take, drop, All, FitsSigned, slice_get, get_or, Some, refl, sym, ap, subst, arith, append_assoc}
use Rattle.std.specs.Int.{w64}
use Rattle.std.specs.List.{AllByRecursion}
use Rattle.std.proofs.lemmas.Bool.{false≢true}
use Rattle.std.proofs.lemmas.List.{take-append-drop, take-append-le, take_all}
use Rattle.std.proofs.lemmas.List.Elements.{All-from_recursion, recursion_from_All}
use mathlib.Core.List.{IsPrefix}
use Rattle.agg_fold.specs.Coded.{IsQueryRow, metrics_with}
use Rattle.agg_fold.specs.Standing.{HasGroup, HoldTotals, StandsFor}
use Rattle.agg_fold.specs.declared.groups.Groups.{Groups}
use Rattle.core_watches.proofs.PassedMoments.{came-later, later-of, passing}
use Rattle.core_watches.specs.BoundReaders.{IsBoundAtReader, IsBoundInRuns, OpenWithRowsOfCubes}
use Rattle.condition_spans.specs.Codes.{lists_at, texts_at}
use Rattle.copied_names.specs.CopiedNames.{AreCopiedBetween}
use Rattle.core_agreements.proofs.NamedValues.{names-end-as, rows-keep, rows-stand}
use Rattle.core_agreements.specs.NamedQueries.{EndAs}
use Rattle.core_events.specs.Cells.{desk_of}
use Rattle.core_events.specs.Clients.{reader_up_to}
use Rattle.core_events.specs.Events.{CoreEvent}
use Rattle.core_events.specs.Runs.{IsCoreRun, rows_in_span}
use Rattle.core_names.specs.NamesInTheEnd.{OpenWithNames}
use Rattle.core_program.specs.CoreFits.{CoreEntry}
use Rattle.core_records.proofs.CubesOnRecord.{cube-stays, run-before}
use Rattle.core_records.specs.CoreRecords.{names_left}
use Rattle.core_rows.proofs.RowsOfRuns.{serial-rows-of}
use Rattle.core_serial.specs.CubeRows.{rows_of_serial_run}
use Rattle.core_settled.proofs.Settled.{open-rows}
use Rattle.cube_core.specs.declared.cell.CoreCell.{CoreCell}
use Rattle.cube_language.specs.ResolvedNames.{resolved_query}
use Rattle.cube_language.specs.declared.decl.Decl.{Decl}
use Rattle.cube_language.specs.declared.decl.DimDecl.{DimDecl}
use Rattle.cube_language.specs.declared.statement.Statement.{Statement}
use Rattle.agg_fold.specs.Tallies.{number_for}
use Rattle.cube_values.specs.Queries.{IsSoundItem}
use Rattle.cube_values.specs.Regions.{region_has}
use Rattle.cube_values.specs.Spans.{span_has}
use Rattle.cube_values.specs.declared.query.BoundQuery.{BoundQuery}
use Rattle.cube_values.specs.declared.row.CodedRow.{CodedRow}
use Rattle.cube_values.specs.declared.row.StoredRow.{StoredRow}
use Rattle.known_cubes.proofs.DeskCubes.{cube-shapes}
use Rattle.linked_shards.specs.CellShards.{CoreShardStands}
use Rattle.shard_events.specs.ShardsInRuns.{FitsShard, ShardAnswerSays}
use Rattle.linked_shards.specs.declared.cell.CoreShard.{CoreShard}
use Rattle.one_session.specs.Changes.{AllStandForValues}
use Rattle.one_session.specs.Pasts.{EndsAs}
use Rattle.query_plan.proofs.Ties.{queries_take_regions}
use Rattle.query_plan.specs.Bindings.{IsQueryOn}
use Rattle.query_plan.specs.Ties.{AreDistinct, StandForValues, TakesRegion, stored_for}
use Rattle.watched_queries.specs.ReadersInRuns.{StandUpTo}

-- ---- names that come, and more

front-is : (before after : List (List ℕ)) → take (length before) after ≡ before
    → after ≡ before ++ drop (length before) after
front-is before after first =
    sym (take-append-drop (length before) after)
    ∙ ap (λ (texts : List (List ℕ)). texts ++ drop (length before) after) first

take-front : (xs ys : List (List ℕ)) → take (length xs) (xs ++ ys) ≡ xs
take-front xs ys = take-append-le (length xs) xs ys (omega arith) ∙ take_all (length xs) xs (omega arith)

ends-then : (dim : DimDecl) (a b c : List (List ℕ)) → EndsAs dim a b → EndsAs dim b c → EndsAs dim a c
ends-then dim a b c one two = record {
  dictionary = record {
    distinct = two.dictionary.distinct;
    short = two.dictionary.short;
    few = two.dictionary.few;
    first =
        ap (take (length a))
        (front-is b c two.dictionary.first
        ∙ ap (λ (texts : List (List ℕ)). texts ++ drop (length b) c) (front-is a b one.dictionary.first)
        ∙ append_assoc a (drop (length a) b) (drop (length b) c))
        ∙ take-front a (drop (length a) b ++ drop (length b) c);
  };
  numbers = two.numbers;
}

end-then : (d : Decl) (a b c : List (List (List ℕ))) → EndAs d a b → EndAs d b c → EndAs d a c
end-then d a b c one two k e low =
    ends-then (get_or d.dims k e) (texts_at a k) (texts_at b k) (texts_at c k) (one k e low) (two k e low)

-- ---- two queries of a statement

abbrev first_of : StoredRow → List StoredRow → StoredRow
first_of other [] = other
first_of other (row ∷ rows) = row

module _ (d : Decl) (s : Statement) (now one_lists other_lists : List (List (List ℕ))) (one other : BoundQuery)
    (first : EndAs d now one_lists) (second : EndAs d now other_lists)
    (takes : TakesRegion d one_lists (resolved_query d s).region one.span)
    (takes_too : TakesRegion d other_lists (resolved_query d s).region other.span) where
  row-alike : (row : CodedRow) → StandForValues d now row.coords
      → span_has one.span row.coords ≡ span_has other.span row.coords
  row-alike row stands =
      let a = rows-keep d now one_lists (row ∷ []) first (stands, tt) in
      let b = rows-keep d now other_lists (row ∷ []) second (stands, tt) in
      let same : stored_for d.name one_lists row ≡ stored_for d.name other_lists row =
      ap (first_of (stored_for d.name now row)) (sym a.are ∙ b.are)
      in
      takes row a.each.0
      ∙ ap (region_has (resolved_query d s).region) same
      ∙ sym (takes_too row b.each.0)

  spans-alike : (rows : List CodedRow) → AllStandForValues d now rows
      → rows_in_span one.span rows ≡ rows_in_span other.span rows
  spans-alike [] stand = refl
  spans-alike (row ∷ rows) stand =
      let same = row-alike row stand.0 in
      let rest = spans-alike rows stand.1 in
      (λ i. cond (same i) (row ∷ rest i) (rest i))

-- ---- groups that stand for the rows of the one stand for those of the other

module _ (one other : BoundQuery) (group : one.group ≡ other.group) (items : one.items ≡ other.items)
    (parts : length other.span.parts ≡ length one.span.parts) where
  row-asked : (row : CodedRow) → IsQueryRow one row → span_has other.span row.coords ≡ true → IsQueryRow other row
  row-asked row is inside = record {
    sound = record {
      span = parts ∙ is.sound.span;
      group = subst (λ (g : List ℕ). All (λ dim. dim < length row.coords) g) group is.sound.group;
      items = coe 0 1 (i. All (IsSoundItem (group i) (length row.metrics)) (items i)) is.sound.items;
    };
    inside = inside;
    fit = coe 0 1 (i. All (λ item. FitsSigned w64 (number_for item row.metrics)) (items i)) is.fit;
  }

  rows-asked : (rows : List CodedRow) → AllByRecursion (IsQueryRow one) (rows_in_span other.span rows)
      → AllByRecursion (IsQueryRow other) (rows_in_span other.span rows)
  rows-asked [] each = tt
  rows-asked (row ∷ rows) each = at (span_has other.span row.coords) refl (rows-asked rows) each
    where
      at : (b : Bool) → span_has other.span row.coords ≡ b
          → (AllByRecursion (IsQueryRow one) (rows_in_span other.span rows)
          → AllByRecursion (IsQueryRow other) (rows_in_span other.span rows))
          → AllByRecursion (IsQueryRow one) (cond b (row ∷ rows_in_span other.span rows) (rows_in_span other.span rows))
          → AllByRecursion (IsQueryRow other) (cond b (row ∷ rows_in_span other.span rows) (rows_in_span other.span rows))
      at true is rest each = (row-asked row each.0 is, rest each.1)
      at false is rest each = rest each

  stand-asked : (rows : List CodedRow) (groups : Groups) → StandsFor one (rows_in_span other.span rows) groups
      → StandsFor other (rows_in_span other.span rows) groups
  stand-asked rows groups h = record {
    count = h.count;
    few = h.few;
    taken =
        All-from_recursion (IsQueryRow other) (rows_in_span other.span rows)
        (rows-asked rows (recursion_from_All (IsQueryRow one) (rows_in_span other.span rows) h.taken));
    named = subst (λ (g : List ℕ). All (HasGroup g groups.keys) (rows_in_span other.span rows)) group h.named;
    wide = subst (λ (g : List ℕ). All (λ key. length key ≡ length g) groups.keys) group h.wide;
    once = h.once;
    totals = coe 0 1 (i. HoldTotals (items i) (metrics_with (group i) (rows_in_span other.span rows)) groups) h.totals;
  }

-- ---- in runs

module _ (cells : List (CoreCell CoreShard)) (caller number epoch : ℕ) (own now : List CoreEntry) (d : Decl)
    (s : Statement) (names named : List (List (List (List ℕ)))) (old new : BoundQuery) (groups : Groups)
    (opens : OpenWithNames FitsShard CoreShardStands ShardAnswerSays cells) (kept : OpenWithRowsOfCubes cells)
    (more : IsPrefix own now) (bound : IsBoundInRuns cells caller own number epoch names d s old)
    (copied : AreCopiedBetween FitsShard CoreShardStands ShardAnswerSays cells caller own now old.cube d named)
    (distinct : AreDistinct (lists_at named old.cube)) (at : new.cube ≡ old.cube) (asks : IsQueryOn d named s new)
    (shown : StandUpTo cells caller own old epoch groups) where
  pub bound-anew : StandUpTo cells caller now new epoch groups
  bound-anew o log run later =
      let before = later-of cells caller 0 o own now log run more later in
      let p = passing cells caller 0 o own log run before in
      let es = p.0 in
      let m = p.1 in
      let newer = came-later cells caller 0 o own log run es m in
      let b : IsBoundAtReader number epoch names d s old o es = bound o m.earlier es m.run_then in
      let cube = old.cube in
      let reader = reader_up_to epoch in
      let run_then = m.run_then.is_run in
      let run_held : IsCoreRun o b.es =
      run-before o b.later b.es (subst (λ (l : List CoreEvent). IsCoreRun o l) b.goes_on run_then)
      in
      let there : slice_get (desk_of o (b.later ++ b.es)).cubes cube ≡ Some d =
      cube-stays o b.later b.es cube d b.bound.cube_is
      in
      let at_moment : slice_get (desk_of o es).cubes cube ≡ Some d =
      subst (λ (l : List CoreEvent). slice_get (desk_of o l).cubes cube ≡ Some d) (sym b.goes_on) there
      in
      let at_end : slice_get (desk_of o run).cubes cube ≡ Some d =
      subst (λ (l : List CoreEvent). slice_get (desk_of o l).cubes cube ≡ Some d) (sym newer.1)
      (cube-stays o newer.0 es cube d at_moment)
      in
      let suit = λ (k : ℕ) (dim : DimDecl) (has : slice_get d.dims k ≡ Some dim).
      (opens o log run later.opens later.events later.is_run).suit cube k d dim at_end has
      in
      let shape = cube-shapes FitsShard CoreShardStands ShardAnswerSays o cells m.earlier es cube d m.run_then.opens m.run_then.events run_then at_moment
      in
      let rows = rows_of_serial_run o b.es cube reader in
      let stand : AllStandForValues d (lists_at (names_left o b.es) cube) rows =
      rows-stand o b.es cube d rows run_held b.bound.cube_is shape suit
      (serial-rows-of o b.es cube reader run_held (kept o log later.opens cube))
      in
      let names_come : EndAs d (lists_at (names_left o b.es) cube) (lists_at (names_left o es) cube) =
      subst (λ (l : List CoreEvent). EndAs d (lists_at (names_left o b.es) cube) (lists_at (names_left o l) cube))
      (sym b.goes_on)
      (names-end-as o b.later b.es cube d (subst (λ (l : List CoreEvent). IsCoreRun o l) b.goes_on run_then)
      b.bound.cube_is there suit)
      in
      let second : EndAs d (lists_at (names_left o b.es) cube) (lists_at named cube) =
      end-then d (lists_at (names_left o b.es) cube) (lists_at (names_left o es) cube) (lists_at named cube) names_come
      (copied.since o log run es later m)
      in
      let takes = queries_take_regions d s names old b.bound.fits b.bound.distinct b.bound.bound in
      let takes_too =
      subst (λ (n : ℕ). TakesRegion d (lists_at named n) (resolved_query d s).region new.span) at
      (queries_take_regions d s named new b.bound.fits
      (subst (λ (n : ℕ). AreDistinct (lists_at named n)) (sym at) distinct) asks)
      in
      let alike : rows_in_span old.span rows ≡ rows_in_span new.span rows =
      spans-alike d s (lists_at (names_left o b.es) cube) (lists_at names cube) (lists_at named cube) old new
      b.bound.since second takes takes_too rows stand
      in
      let whole : run ≡ (newer.0 ++ b.later) ++ b.es =
      newer.1 ∙ ap (λ (l : List CoreEvent). newer.0 ++ l) b.goes_on ∙ sym (append_assoc newer.0 b.later b.es)
      in
      let settled : rows_of_serial_run o run cube reader ≡ rows =
      ap (λ (l : List CoreEvent). rows_of_serial_run o l cube reader) whole
      ∙ open-rows o (newer.0 ++ b.later) b.es cube number reader
      (subst (λ (l : List CoreEvent). IsCoreRun o l) whole later.is_run) b.held (λ own. absurd (false≢true own))
      in
      let was : StandsFor old (rows_in_span old.span rows) groups =
      subst (λ (l : List CodedRow). StandsFor old (rows_in_span old.span l) groups) settled (shown o log run before)
      in
      let now_stands : StandsFor new (rows_in_span new.span rows) groups =
      stand-asked old new (b.bound.bound.group ∙ sym asks.group) (b.bound.bound.items ∙ sym asks.items)
      (asks.sound.span ∙ sym b.bound.bound.sound.span) rows groups
      (subst (λ (l : List CodedRow). StandsFor old l groups) alike was)
      in
      coe 1 0 (i. StandsFor new (rows_in_span new.span ((ap (λ (n : ℕ). rows_of_serial_run o run n reader) at ∙ settled) i)) groups)
      now_stands
