-- The rows of a query are those that serial execution leaves in the whole cube.
use Rattle.std.proofs.Common.{◌≡◌, ◌∙◌, ℕ, ◌+◌, ◌%◌, ◌==◌, Bool, true, false, ◌&&◌, ◌||◌, List, filter, map, inl, inr, refl, sym, ap, eqb-true}
use Rattle.std.specs.List.{count_by}
use Rattle.std.specs.List.Sorted.{IsPermutation}
use Rattle.cube_values.specs.Answer.{table_of}
use Rattle.cube_values.specs.declared.query.BoundQuery.{BoundQuery}
use Rattle.cube_values.specs.declared.row.CodedRow.{CodedRow}
use Rattle.cube_values.specs.declared.snapshot.Snapshot.{Snapshot}
use Rattle.cube_values.specs.declared.table.Field.{Field}
use Rattle.cube_values.specs.Sees.{sees}
use Rattle.cube_values.specs.Spans.{span_has}
use Rattle.brick_address.specs.Addresses.{brick_of}
use Rattle.agg_fold.specs.Coded.{row_for}
use Rattle.agg_fold.specs.Standing.{StandsFor, IsTable}
use Rattle.agg_fold.specs.declared.groups.Groups.{Groups}
use Rattle.agg_fold.proofs.GroupRows.{stand_moved}
use Rattle.core_events.specs.Events.{Opening, CoreEvent}
use Rattle.core_events.specs.Groups.{JobGroup, mails_of, is_complete, has_ended}
use Rattle.core_events.specs.Clients.{client_state}
use Rattle.core_events.specs.ShardView.{brick_rows_seen, epochs_without, rows_shown_to}
use Rattle.core_events.specs.Cells.{sizes_of_cube, shard_view_of, rows_of_brick}
use Rattle.core_events.specs.Fitting.{OwnsWriter}
use Rattle.core_events.specs.Runs.{IsCoreRun, rows_in_span}
use Rattle.core_events.specs.Serial.{counts_for, has_committed, operations_of}
use Rattle.core_events.proofs.Counts.{count-filter}
use Rattle.core_events.specs.BrickTransactions.{entries_of_epoch, brick_rows_left}
use Rattle.core_events.proofs.Finished.{or-is}
use Rattle.core_serial.specs.Queries.{HasAnswered, rows_fetched, rows_asked}
use Rattle.core_serial.specs.Told.{rolled_back, told_of}
use Rattle.core_serial.proofs.Asking.{AsksBy, run-held}
use Rattle.core_serial.proofs.SerialQueries.{serial-without}
use Rattle.core_serial.specs.PostedEntries.{posted_of}
use Rattle.core_serial.proofs.CountedRows.{IsSettled, settled-rows, answered-counts, asks-writer, asking-clean, and-parts}
use Rattle.core_serial.specs.CubeRows.{rows_of_serial_run, rows_to_find}
use Rattle.core_serial.proofs.Permutations.{CountAlike, alike-by-key, permuted-by-counts}
use Rattle.core_serial.proofs.CubeOperations.{RunAlike, leave-alike}
use Rattle.core_serial.proofs.PostedOperations.{run-fit-cube, ended-runs, committed-runs}

-- A filter within another.
both-tests : (a b c : Bool) → (a && (b && c)) ≡ (b && (a && c))
both-tests true true c = refl
both-tests true false c = refl
both-tests false true c = refl
both-tests false false c = refl

pub count-filters : (c f g : CodedRow → Bool) (rows : List CodedRow) → count_by c (filter f (filter g rows)) ≡ count_by c (filter g (filter f rows))
count-filters c f g rows =
    count-filter c f (filter g rows)
    ∙ count-filter (λ r. f r && c r) g rows
    ∙ (λ i. count_by (λ r. both-tests (g r) (f r) (c r) i) rows)
    ∙ sym (count-filter (λ r. g r && c r) f rows)
    ∙ sym (count-filter c g (filter f rows))

-- A query that has answers of all shards has ended.
answered-ended : (o : Opening) (g : JobGroup) (q : BoundQuery) (s : Snapshot) → HasAnswered o.shards q s g → has_ended o.shards g ≡ true
answered-ended o g q s h =
    (λ i. h.done.fetched i && is_complete o.shards (h.asks i) (h.done.none i) (mails_of g.answers))
    ∙ h.done.all

-- The operations of a snapshot's own epoch, if it has one, make of the cube what was posted makes of the brick.
abbrev pub OwnRuns : Opening → List CoreEvent → ℕ → ℕ → Snapshot → Type 0
OwnRuns o es cube brick s = (e : ℕ) → (s.own && s.epoch == e) ≡ true
    → RunAlike o cube brick (operations_of o cube es e) (entries_of_epoch e (posted_of o es cube brick))

-- An epoch that counts for a snapshot is of a committed transaction, or its own.
counted-runs : (o : Opening) (es : List CoreEvent) (cube brick e : ℕ) (s : Snapshot) → IsCoreRun o es → OwnRuns o es cube brick s
    → counts_for o es s e ≡ true → RunAlike o cube brick (operations_of o cube es e) (entries_of_epoch e (posted_of o es cube brick))
counted-runs o es cube brick e s run own counts =
    elim (or-is (has_committed o es e) (s.own && s.epoch == e) (and-parts (sees s e) (has_committed o es e || (s.own && s.epoch == e)) counts).1) [
      | inl committed ↦ committed-runs o es e cube brick run committed
      | inr mine ↦ own e mine
    ]

pub serial-of-brick : (o : Opening) (es : List CoreEvent) (cube brick : ℕ) (s : Snapshot) → IsCoreRun o es → OwnRuns o es cube brick s
    → rows_of_brick o cube brick (rows_of_serial_run o es cube s)
    ≡ brick_rows_left (s.epoch + 1) (counts_for o es s) (posted_of o es cube brick)
serial-of-brick o es cube brick s run own =
    (leave-alike o cube brick (s.epoch + 1) (counts_for o es s) (operations_of o cube es) (posted_of o es cube brick)
    (λ e. run-fit-cube o es cube e run) (λ e counts. counted-runs o es cube brick e s run own counts)).rows

-- The own epoch of a query's snapshot.
asking-runs : (o : Opening) (es : List CoreEvent) (a brick : ℕ) (q : BoundQuery) (s : Snapshot) → IsCoreRun o es
    → HasAnswered o.shards q s (client_state o a es).group → AsksBy o a (client_state o a es).holds s → OwnRuns o es q.cube brick s
asking-runs o es a brick q s run h asks e own =
    let parts = and-parts s.own (s.epoch == e) own in
    let at = eqb-true s.epoch e parts.1 in
    let owns = coe 0 1 (i. OwnsWriter a (at i) (client_state o a es)) (asks-writer o es a s asks parts.0) in
    let group = (client_state o a es).group in
    ended-runs o es a e q.cube brick run asks.session owns (asking-clean group q s h.asks) (answered-ended o group q s h)

serial-rows : (o : Opening) (es : List CoreEvent) (a brick : ℕ) (q : BoundQuery) (s : Snapshot) → IsCoreRun o es
    → HasAnswered o.shards q s (client_state o a es).group
    → rows_of_brick o q.cube brick (rows_of_serial_run o es q.cube s)
    ≡ brick_rows_left (s.epoch + 1) (counts_for o es s) (posted_of o es q.cube brick)
serial-rows o es a brick q s run h =
    serial-of-brick o es q.cube brick s run (asking-runs o es a brick q s run h (run-held o es a run q s h.asks))

-- What a settled snapshot sees of a brick, where rollbacks and purges took out nothing else.
pub seen-serial : (o : Opening) (es : List CoreEvent) (cube brick : ℕ) (s : Snapshot) (c : CodedRow → Bool) → IsCoreRun o es
    → IsSettled o es s → OwnRuns o es cube brick s
    → brick_rows_seen s (shard_view_of o es cube brick)
    ≡ rows_shown_to (epochs_without (sees s) (rolled_back (brick % o.shards) es)) (epochs_without (sees s) (rolled_back (brick % o.shards) es)) (told_of o es cube brick)
    → count_by c (brick_rows_seen s (shard_view_of o es cube brick)) ≡ count_by c (rows_of_brick o cube brick (rows_of_serial_run o es cube s))
seen-serial o es cube brick s c run settled own shows =
    ap (count_by c) shows
    ∙ serial-without c s (rolled_back (brick % o.shards) es) (told_of o es cube brick)
    ∙ ap (count_by c) (settled-rows o es cube brick s run settled ∙ sym (serial-of-brick o es cube brick s run own))

-- Of these the rows that a query asks for.
pub asked-serial : (o : Opening) (es : List CoreEvent) (brick : ℕ) (q : BoundQuery) (s : Snapshot) (c : CodedRow → Bool) → IsCoreRun o es
    → ((d : CodedRow → Bool) → count_by d (brick_rows_seen s (shard_view_of o es q.cube brick))
    ≡ count_by d (rows_of_brick o q.cube brick (rows_of_serial_run o es q.cube s)))
    → count_by c (rows_asked o es q s brick) ≡ count_by c (rows_of_brick o q.cube brick (rows_to_find o es q s))
asked-serial o es brick q s c run seen =
    let within = λ (row : CodedRow). span_has q.span row.coords in
    count-filter c within (brick_rows_seen s (shard_view_of o es q.cube brick))
    ∙ seen (λ row. within row && c row)
    ∙ sym (count-filter c within (rows_of_brick o q.cube brick (rows_of_serial_run o es q.cube s)))
    ∙ count-filters c within (λ row. brick_of (sizes_of_cube o q.cube) row.coords == brick) (rows_of_serial_run o es q.cube s)

pub found-alike : (o : Opening) (es : List CoreEvent) (a : ℕ) (q : BoundQuery) (s : Snapshot) → IsCoreRun o es
    → HasAnswered o.shards q s (client_state o a es).group
    → CountAlike (rows_fetched (client_state o a es).group.answers) (rows_to_find o es q s)
found-alike o es a q s run h =
    alike-by-key (λ row. brick_of (sizes_of_cube o q.cube) row.coords) (rows_fetched (client_state o a es).group.answers) (rows_to_find o es q s)
    (λ brick c.
    answered-counts o es a brick q s c run h
    ∙ ap (λ (rows : List CodedRow). count_by c (rows_in_span q.span rows)) (sym (serial-rows o es a brick q s run h))
    ∙ count-filters c (λ row. span_has q.span row.coords) (λ row. brick_of (sizes_of_cube o q.cube) row.coords == brick)
    (rows_of_serial_run o es q.cube s))

pub found-permuted : (o : Opening) (es : List CoreEvent) (a : ℕ) (q : BoundQuery) (s : Snapshot) → IsCoreRun o es
    → HasAnswered o.shards q s (client_state o a es).group
    → IsPermutation (rows_fetched (client_state o a es).group.answers) (rows_to_find o es q s)
found-permuted o es a q s run h =
    permuted-by-counts (rows_fetched (client_state o a es).group.answers) (rows_to_find o es q s) (found-alike o es a q s run h)

pub found-stands : (o : Opening) (es : List CoreEvent) (a : ℕ) (q : BoundQuery) (s : Snapshot) (groups : Groups) → IsCoreRun o es
    → HasAnswered o.shards q s (client_state o a es).group → StandsFor q (rows_fetched (client_state o a es).group.answers) groups
    → StandsFor q (rows_to_find o es q s) groups
found-stands o es a q s groups run h stands =
    stand_moved q (rows_fetched (client_state o a es).group.answers) (rows_to_find o es q s) groups (found-permuted o es a q s run h) stands

pub found-table : (o : Opening) (es : List CoreEvent) (a : ℕ) (q : BoundQuery) (s : Snapshot) (groups : Groups)
    (lists : List (List (List ℕ))) (table : List (List Field)) → IsCoreRun o es
    → HasAnswered o.shards q s (client_state o a es).group → StandsFor q (rows_fetched (client_state o a es).group.answers) groups
    → IsTable q lists groups table → table ≡ table_of q.group q.items (map (row_for lists) (rows_to_find o es q s))
found-table o es a q s groups lists table run h stands is = is (rows_to_find o es q s) (found-stands o es a q s groups run h stands)
