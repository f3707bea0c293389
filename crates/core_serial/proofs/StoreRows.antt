-- A store that takes in the copies of a round has the rows that committed transactions leave.
use Rattle.std.proofs.Common.{◌≡◌, ◌∙◌, ℕ, zero, suc, ◌==◌, Bool, true, false, ◌&&◌, List, [], ◌∷◌, inl, inr, refl, sym, ap, arith, eqb-true, if◌then◌else◌}
use Rattle.std.specs.List.{count_by}
use Rattle.std.specs.List.Sorted.{IsPermutation}
use Rattle.std.proofs.lemmas.Bool.{false≢true}
use Rattle.std.proofs.lemmas.List.Sorted.{length_permutation}
use Rattle.cube_values.specs.declared.row.CodedRow.{CodedRow}
use Rattle.cube_values.specs.Sees.{sees}
use Rattle.brick_address.specs.Addresses.{brick_of}
use Rattle.core_events.specs.ShardView.{brick_rows_seen, rows_over_kept}
use Rattle.core_events.specs.Jobs.{CoreJob, Append, DropBox, Scan, Delta, Rollback, Purge, CopyRound, Flush}
use Rattle.core_events.specs.Events.{Opening, OnDesk, OnNames, Post, Fetch, CloseMail, NoChange, CoreEvent, By, At}
use Rattle.core_events.specs.Groups.{has_ended}
use Rattle.core_events.specs.Clients.{client_state, reader_up_to}
use Rattle.core_events.specs.Cells.{counters_of_run, shard_view_of, rows_of_brick, sizes_of_cube}
use Rattle.core_events.specs.Fitting.{FitsCall}
use Rattle.core_events.specs.Runs.{IsCoreRun}
use Rattle.core_events.specs.Serial.{CubeOperation, PutRows, counts_for, operations_of, rows_after_transaction}
use Rattle.core_events.proofs.Counts.{count-filter}
use Rattle.core_events.proofs.CopyRows.{sees-low, sees-not}
use Rattle.core_events.proofs.Blindness.{least-pending}
use Rattle.core_serial.proofs.ToldBricks.{writer-of, above-lse, run-keeps}
use Rattle.core_serial.proofs.CountedRows.{IsSettled}
use Rattle.core_serial.proofs.PostedJobs.{IsOtherEpoch}
use Rattle.core_serial.proofs.CubeSerial.{seen-serial}
use Rattle.core_serial.proofs.Permutations.{counts-permuted, permuted-by-counts, alike-by-key}
use Rattle.core_serial.proofs.PostedOperations.{other-operations}
use Rattle.core_serial.specs.Copies.{copies_by, HasCopied, IsOfOpenRound, rows_committed_up_to, AreRowsAfterRound}
use Rattle.core_serial.proofs.CopiedBricks.{IsSettledEpoch, rows_kept, kept-none, copied-shows}
use Rattle.core_serial.proofs.OpenRounds.{of-open-round}
use Rattle.core_serial.proofs.OverKept.{NoneAtZero, over-counts}

-- A reader between LSE and LCE sees what committed transactions leave.

settled-reader : (o : Opening) (es : List CoreEvent) (x : ℕ) → IsCoreRun o es → IsSettledEpoch (counters_of_run o es) x
    → IsSettled o es (reader_up_to x)
settled-reader o es x run settled = record {
  blind = λ e seen pending.
      let s = counters_of_run o es in
      let above = above-lse o es e run pending in
      let later = least-pending s e pending (omega (arith, above)) in
      let most = settled.committed in
      absurd (false≢true (sym (sees-not x e (omega (arith, later, most))) ∙ seen));
  stays = λ brick e own. absurd (false≢true own);
  done = λ cube brick e own. absurd (false≢true own);
}

epoch-serial : (o : Opening) (es : List CoreEvent) (x cube brick : ℕ) (c : CodedRow → Bool) → IsCoreRun o es
    → IsSettledEpoch (counters_of_run o es) x
    → count_by c (brick_rows_seen (reader_up_to x) (shard_view_of o es cube brick)) ≡ count_by c (rows_of_brick o cube brick (rows_committed_up_to o es cube x))
epoch-serial o es x cube brick c run settled =
    seen-serial o es cube brick (reader_up_to x) c run (settled-reader o es x run settled) (λ e own. absurd (false≢true own))
    ((run-keeps o es cube brick run).shows (sees (reader_up_to x)) (sees (reader_up_to x))
    (λ e le. let safe = settled.safe in sees-low x e (omega (arith, le, safe))))

-- No transaction of epoch 0 leaves rows.

job-other-zero : (o : Opening) (es : List CoreEvent) (b mail : ℕ) (job : CoreJob) → IsCoreRun o es
    → FitsCall o b (Post mail job) (client_state o b es) → IsOtherEpoch 0 job
job-other-zero o es b mail (Append cube epoch rows) run f = λ zero.
    let above = above-lse o es epoch run (writer-of o es b epoch run f.bears.session f.bears.writer).pending in omega (arith, above, zero)
job-other-zero o es b mail (DropBox cube epoch box) run f = λ zero.
    let above = above-lse o es epoch run (writer-of o es b epoch run f.bears.session f.bears.writer).pending in omega (arith, above, zero)
job-other-zero o es b mail (Scan query snapshot) run f = tt
job-other-zero o es b mail (Delta query from to) run f = tt
job-other-zero o es b mail (Rollback epoch) run f = tt
job-other-zero o es b mail (Purge epoch) run f = tt
job-other-zero o es b mail (CopyRound from to) run f = tt
job-other-zero o es b mail Flush run f = tt

zero-leaves : (o : Opening) (es : List CoreEvent) (cube : ℕ) → IsCoreRun o es → rows_after_transaction (operations_of o cube es 0) [] ≡ []
zero-leaves o [] cube run = by (0 == o.safe) refl
  where
    by : (b : Bool) → (0 == o.safe) ≡ b → rows_after_transaction (if b then PutRows (o.rows cube) ∷ [] else []) [] ≡ []
    by true is = run.none (sym (eqb-true 0 o.safe is)) cube
    by false is = refl
zero-leaves o (By b (Post mail job) ∷ es) cube run =
    ap (λ (operations : List CubeOperation). rows_after_transaction operations [])
    (other-operations cube 0 (has_ended o.shards (client_state o b es).group) job (operations_of o cube es 0)
    (job-other-zero o es b mail job run.0 run.1.fits))
    ∙ zero-leaves o es cube run.0
zero-leaves o (By b (OnDesk call) ∷ es) cube run = zero-leaves o es cube run.0
zero-leaves o (By b (OnNames call) ∷ es) cube run = zero-leaves o es cube run.0
zero-leaves o (By b (Fetch mail answer) ∷ es) cube run = zero-leaves o es cube run.0
zero-leaves o (By b (CloseMail mail) ∷ es) cube run = zero-leaves o es cube run.0
zero-leaves o (By b NoChange ∷ es) cube run = zero-leaves o es cube run.0
zero-leaves o (At mail move ∷ es) cube run = zero-leaves o es cube run.0

none-committed : (o : Opening) (es : List CoreEvent) (cube : ℕ) → IsCoreRun o es → rows_committed_up_to o es cube 0 ≡ []
none-committed o es cube run = by (counts_for o es (reader_up_to 0) 0)
  where
    by : (b : Bool) → (if b then rows_after_transaction (operations_of o cube es 0) [] else []) ≡ []
    by true = zero-leaves o es cube run
    by false = refl

committed-none : (o : Opening) (es : List CoreEvent) (from cube : ℕ) → IsCoreRun o es → NoneAtZero from (rows_committed_up_to o es cube from)
committed-none o es zero cube run = λ z. none-committed o es cube run
committed-none o es (suc g) cube run = λ z. absurd (omega (arith, z))

-- What was kept is what committed transactions up to the first epoch leave.
kept-serial : (o : Opening) (es : List CoreEvent) (from to cube brick : ℕ) (c : CodedRow → Bool) → IsCoreRun o es
    → IsOfOpenRound from to (counters_of_run o es)
    → count_by c (rows_kept from (shard_view_of o es cube brick)) ≡ count_by c (rows_of_brick o cube brick (rows_committed_up_to o es cube from))
kept-serial o es zero to cube brick c run opened =
    ap (λ (rows : List CodedRow). count_by c (rows_of_brick o cube brick rows)) (sym (none-committed o es cube run))
kept-serial o es (suc g) to cube brick c run opened =
    epoch-serial o es (suc g) cube brick c run (elim opened.begins [
      | inl at ↦ record {
        safe = omega (arith, at);
        committed = let high = opened.committed in let rises = opened.rises in omega (arith, at, high, rises);
      }
      | inr none ↦ absurd (omega (arith, none))
    ])

pub round-of : (o : Opening) (es : List CoreEvent) (a from to : ℕ) → IsCoreRun o es → HasCopied o.shards from to (client_state o a es).group
    → IsOfOpenRound from to (counters_of_run o es)
round-of o es a from to run h = of-open-round o es a from to run h.copies

pub copies-of-bricks : (o : Opening) (es : List CoreEvent) (a from to cube brick : ℕ) (c : CodedRow → Bool) → IsCoreRun o es
    → HasCopied o.shards from to (client_state o a es).group
    → count_by c (rows_over_kept from (rows_of_brick o cube brick (rows_committed_up_to o es cube from))
    (copies_by o (client_state o a es).group.answers cube brick))
    ≡ count_by c (rows_of_brick o cube brick (rows_committed_up_to o es cube to))
copies-of-bricks o es a from to cube brick c run h =
    let open-round = round-of o es a from to run h in
    let rises = open-round.rises in
    let view = shard_view_of o es cube brick in
    over-counts c from (rows_of_brick o cube brick (rows_committed_up_to o es cube from)) (rows_kept from view)
    (copies_by o (client_state o a es).group.answers cube brick)
    (λ z. ap (rows_of_brick o cube brick) (committed-none o es from cube run z)) (kept-none from view)
    (sym (kept-serial o es from to cube brick c run open-round))
    ∙ copied-shows o es a from to cube brick c run h
    ∙ epoch-serial o es to cube brick c run (record { safe = omega (arith, rises); committed = open-round.committed })

permuted-none : (xs ys : List CodedRow) → IsPermutation xs ys → ys ≡ [] → xs ≡ []
permuted-none [] ys moved none = refl
permuted-none (x ∷ xs) [] moved none = absurd (let same = length_permutation (x ∷ xs) [] moved in omega (arith, same))
permuted-none (x ∷ xs) (y ∷ ys) moved none = absurd (cons-none none)
  where
    is_none : List CodedRow → Bool
    is_none [] = true
    is_none (r ∷ rs) = false

    cons-none : y ∷ ys ≡ [] → ⊥
    cons-none e = false≢true (ap is_none e)

pub store-after-round : (o : Opening) (es : List CoreEvent) (a from to cube : ℕ) (kept rows : List CodedRow) → IsCoreRun o es
    → HasCopied o.shards from to (client_state o a es).group
    → IsPermutation kept (rows_committed_up_to o es cube from)
    → AreRowsAfterRound o cube from (copies_by o (client_state o a es).group.answers) kept rows
    → IsPermutation rows (rows_committed_up_to o es cube to)
store-after-round o es a from to cube kept rows run h same after =
    let key = λ (row : CodedRow). brick_of (sizes_of_cube o cube) row.coords in
    let copies = copies_by o (client_state o a es).group.answers in
    let first = rows_committed_up_to o es cube from in
    permuted-by-counts rows (rows_committed_up_to o es cube to)
    (alike-by-key key rows (rows_committed_up_to o es cube to) (λ brick c.
    counts-permuted (rows_of_brick o cube brick rows) (rows_over_kept from (rows_of_brick o cube brick kept) (copies cube brick)) (after brick) c
    ∙ over-counts c from (rows_of_brick o cube brick kept) (rows_of_brick o cube brick first) (copies cube brick)
    (λ z. ap (rows_of_brick o cube brick) (permuted-none kept first same (committed-none o es from cube run z)))
    (λ z. ap (rows_of_brick o cube brick) (committed-none o es from cube run z))
    (count-filter c (λ row. key row == brick) kept
    ∙ counts-permuted kept first same (λ row. key row == brick && c row)
    ∙ sym (count-filter c (λ row. key row == brick) first))
    ∙ copies-of-bricks o es a from to cube brick c run h))
