-- The rows of a query, as the transactions that its snapshot sees leave them.
use Rattle.std.proofs.Common.{◌≡◌, ◌∙◌, ℕ, ◌+◌, ◌%◌, Bool, true, false, not, ◌&&◌, nat_lt, List, Some, refl, sym, ap}
use Rattle.std.specs.List.{count_by}
use Rattle.cube_values.specs.declared.query.BoundQuery.{BoundQuery}
use Rattle.cube_values.specs.declared.row.CodedRow.{CodedRow}
use Rattle.cube_values.specs.declared.snapshot.Snapshot.{Snapshot}
use Rattle.cube_values.specs.Sees.{sees}
use Rattle.cube_values.specs.Spans.{span_has}
use Rattle.cube_journal.specs.Counters.{held_by}
use Rattle.core_events.specs.ShardView.{BrickEntry, EpochSet, epochs_without, rows_shown_to}
use Rattle.core_events.specs.Events.{Opening, CoreEvent}
use Rattle.core_events.specs.Clients.{client_state}
use Rattle.core_events.specs.Cells.{counters_of_run, rows_of_brick}
use Rattle.core_events.specs.Runs.{IsCoreRun, rows_in_span}
use Rattle.core_events.specs.BrickTransactions.{brick_rows_left}
use Rattle.core_events.proofs.Counts.{count-filter}
use Rattle.core_events.proofs.SerialRows.{epochs_below, serial-counts, sees-below}
use Rattle.core_events.proofs.Agreement.{agree}
use Rattle.core_serial.specs.Queries.{HasAnswered, rows_fetched}
use Rattle.core_serial.specs.Told.{rolled_back, told_of}
use Rattle.core_serial.proofs.Asking.{run-held}
use Rattle.core_serial.proofs.FoundRows.{answered-rows}
use Rattle.core_serial.proofs.ToldBricks.{seen-of-told}

and-last : (a b c : Bool) → ((a && c) && b) ≡ ((a && b) && c)
and-last true true true = refl
and-last true true false = refl
and-last true false true = refl
and-last true false false = refl
and-last false b c = refl

-- A snapshot sees nothing above its epoch, also without some epochs.
limit-without : (s : Snapshot) (gone : EpochSet)
    → epochs_below (s.epoch + 1) (epochs_without (sees s) gone) ≡ epochs_without (sees s) gone
limit-without s gone = λ i e.
    (and-last (sees s e) (nat_lt e (s.epoch + 1)) (not (gone e)) ∙ ap (λ (b : Bool). b && not (gone e)) (sees-below s e)) i

pub serial-without : (c : CodedRow → Bool) (s : Snapshot) (gone : EpochSet) (told : List BrickEntry)
    → count_by c (rows_shown_to (epochs_without (sees s) gone) (epochs_without (sees s) gone) told)
    ≡ count_by c (brick_rows_left (s.epoch + 1) (epochs_without (sees s) gone) told)
serial-without c s gone told =
    sym (serial-counts c (s.epoch + 1) (epochs_without (sees s) gone) told
    ∙ ap (λ (set : EpochSet). count_by c (rows_shown_to set set told)) (limit-without s gone))

pub answered-serial : (o : Opening) (es : List CoreEvent) (a brick : ℕ) (q : BoundQuery) (s : Snapshot) (c : CodedRow → Bool)
    → IsCoreRun o es → HasAnswered o.shards q s (client_state o a es).group
    → count_by c (rows_of_brick o q.cube brick (rows_fetched (client_state o a es).group.answers))
    ≡ count_by c (rows_in_span q.span (brick_rows_left (s.epoch + 1)
    (epochs_without (sees s) (rolled_back (brick % o.shards) es)) (told_of o es q.cube brick)))
answered-serial o es a brick q s c run h =
    let asks = run-held o es a run q s h.asks in
    let held : held_by (counters_of_run o es).snapshots asks.number ≡ Some s =
    agree o es run a asks.session asks.number asks.under ∙ asks.held
    in
    let gone = rolled_back (brick % o.shards) es in
    let told = told_of o es q.cube brick in
    let within = λ (row : CodedRow). span_has q.span row.coords in
    ap (count_by c) (answered-rows o es a brick q s run h)
    ∙ ap (λ (rows : List CodedRow). count_by c (rows_in_span q.span rows)) (seen-of-told o es q.cube brick asks.number s run held)
    ∙ count-filter c within (rows_shown_to (epochs_without (sees s) gone) (epochs_without (sees s) gone) told)
    ∙ serial-without (λ row. within row && c row) s gone told
    ∙ sym (count-filter c within (brick_rows_left (s.epoch + 1) (epochs_without (sees s) gone) told))
