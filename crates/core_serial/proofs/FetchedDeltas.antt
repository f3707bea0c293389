-- What a client has fetched of a delta is the difference of what serial execution leaves for the two readers.
use Rattle.std.proofs.Common.{◌≡◌, ◌∙◌, ℕ, ◌+◌, ◌%◌, ◌==◌, Bool, true, false, true≢false, ◌||◌, List, [], ◌∷◌, ◌++◌, Some, refl, sym, ap, arith, eqb-true, append-nil, mod-lt}
use Rattle.std.specs.List.{count_by}
use Rattle.std.proofs.lemmas.Bool.{false≢true, or_parts}
use Rattle.std.proofs.lemmas.List.Elements.{filter-append}
use Rattle.cube_values.specs.declared.query.BoundQuery.{BoundQuery}
use Rattle.cube_values.specs.declared.row.CodedRow.{CodedRow}
use Rattle.cube_values.specs.declared.snapshot.Snapshot.{Snapshot}
use Rattle.cube_journal.specs.Counters.{held_by}
use Rattle.brick_address.specs.Addresses.{brick_of}
use Rattle.core_events.specs.ShardView.{brick_rows_seen}
use Rattle.core_events.specs.Jobs.{CoreJob, Append, DropBox, Scan, Delta, Rollback, Purge, CopyRound, Flush, JobOutcome, Done, ShardFull, Found, Compared, Copied, StoreLost, OutOfMemory, is_refusal}
use Rattle.core_events.specs.Events.{Opening, flusher, ClientCall, WorkerMove, Take, NoJob, Work, Reply, CoreEvent, By, At}
use Rattle.core_events.specs.Groups.{GroupKind, Compares, kind_of, Received, has_number, mails_of, has_refusal}
use Rattle.core_events.specs.Clients.{client_state, ends_group, reader_up_to}
use Rattle.core_events.specs.Cells.{counters_of_run, shard_view_of, rows_of_brick, brick_after_move, sizes_of_cube, Took, worker_of}
use Rattle.core_events.specs.Fitting.{FlushSays, round_progress}
use Rattle.core_events.specs.Runs.{IsCoreRun, ShardSays, rows_in_span}
use Rattle.core_events.proofs.Agreement.{agree, opening-of}
use Rattle.core_serial.specs.Isolation.{IsOfOther}
use Rattle.core_serial.specs.Queries.{rows_asked}
use Rattle.core_serial.proofs.Asking.{AsksBy}
use Rattle.core_serial.proofs.FoundRows.{all-below, swap-test}
use Rattle.core_serial.proofs.Isolation.{isolated}
use Rattle.core_serial.proofs.ToldBricks.{seen-of-told}
use Rattle.core_serial.proofs.CountedRows.{held-settled}
use Rattle.core_serial.specs.CubeRows.{rows_to_find}
use Rattle.core_serial.proofs.CubeSerial.{seen-serial, asked-serial}
use Rattle.core_serial.proofs.Permutations.{count-of-both, counts-permuted, left-without, permuted-by-counts, alike-by-key, part-by-key}
use Rattle.core_events.proofs.Counts.{count-append}
use Rattle.core_serial.specs.Deltas.{rows_that_came, rows_that_went, came_by, went_by, HasCompared, IsDifference}
use Rattle.core_serial.proofs.DeltaRows.{IsBrickDelta, IsShardDelta, delta-of-shard, delta-as}
use Rattle.core_serial.proofs.FetchedAnswers.{AnswersFit, run-answers}
use Rattle.core_serial.proofs.HeldReaders.{is_comparing, run-compares}

-- What a reader sees stays while it is held.

reader-other : (epoch : ℕ) (job : CoreJob) → IsOfOther (reader_up_to epoch) job
reader-other epoch (Append cube e rows) = λ own. absurd (false≢true own)
reader-other epoch (DropBox cube e box) = λ own. absurd (false≢true own)
reader-other epoch (Scan query snapshot) = tt
reader-other epoch (Delta query from to) = tt
reader-other epoch (Rollback e) = λ own. absurd (false≢true own)
reader-other epoch (Purge e) = tt
reader-other epoch (CopyRound from to) = tt
reader-other epoch Flush = tt

move-nothing : (here : Bool) (o : Opening) (s : Snapshot) (q : BoundQuery) (brick : ℕ) (es : List CoreEvent) (move : WorkerMove)
    → ((h : Bool) → brick_after_move o h q.cube brick move (shard_view_of o es q.cube brick) ≡ shard_view_of o es q.cube brick)
    → rows_in_span q.span (brick_rows_seen s (brick_after_move o here q.cube brick move (shard_view_of o es q.cube brick))) ≡ rows_asked o es q s brick
move-nothing here o s q brick es move same = ap (λ xs. rows_in_span q.span (brick_rows_seen s xs)) (same here)

reader-stays : (o : Opening) (es : List CoreEvent) (a other epoch : ℕ) (move : WorkerMove) (q : BoundQuery) → IsCoreRun o (At other move ∷ es)
    → AsksBy o a (client_state o a es).holds (reader_up_to epoch) → (brick : ℕ)
    → rows_asked o (At other move ∷ es) q (reader_up_to epoch) brick ≡ rows_asked o es q (reader_up_to epoch) brick
reader-stays o es a other epoch (Work job answer) q run asks brick =
    let held : held_by (counters_of_run o es).snapshots asks.number ≡ Some (reader_up_to epoch) =
    agree o es run.0 a asks.session asks.number asks.under ∙ asks.held
    in
    ap (rows_in_span q.span)
    (isolated o es other q.cube brick asks.number job answer (reader_up_to epoch) run held (reader-other epoch job))
reader-stays o es a other epoch (Take client job) q run asks brick =
    move-nothing (other == brick % o.shards) o (reader_up_to epoch) q brick es (Take client job) (λ h. by h)
  where
    by : (h : Bool) → brick_after_move o h q.cube brick (Take client job) (shard_view_of o es q.cube brick) ≡ shard_view_of o es q.cube brick
    by true = refl
    by false = refl
reader-stays o es a other epoch (NoJob closed) q run asks brick =
    move-nothing (other == brick % o.shards) o (reader_up_to epoch) q brick es (NoJob closed) (λ h. by h)
  where
    by : (h : Bool) → brick_after_move o h q.cube brick (NoJob closed) (shard_view_of o es q.cube brick) ≡ shard_view_of o es q.cube brick
    by true = refl
    by false = refl
reader-stays o es a other epoch (Reply client answer) q run asks brick =
    move-nothing (other == brick % o.shards) o (reader_up_to epoch) q brick es (Reply client answer) (λ h. by h)
  where
    by : (h : Bool) → brick_after_move o h q.cube brick (Reply client answer) (shard_view_of o es q.cube brick) ≡ shard_view_of o es q.cube brick
    by true = refl
    by false = refl

-- What is claimed of the answer to a job.

abbrev DeltaAnswer : Opening → List CoreEvent → ℕ → BoundQuery → ℕ → ℕ → JobOutcome → Type 0
DeltaAnswer o es mail q from to (Compared came went) = IsShardDelta o es mail q from to came went
DeltaAnswer o es mail q from to answer = is_refusal answer ≡ true

abbrev DeltaClaim : Opening → List CoreEvent → ℕ → ℕ → CoreJob → JobOutcome → Type 0
DeltaClaim o es a mail (Delta q from to) answer = DeltaAnswer o es mail q from to answer
DeltaClaim o es a mail job answer = Unit {0}

delta-given : (o : Opening) (es : List CoreEvent) (a mail : ℕ) (job : CoreJob) (answer : JobOutcome) → IsCoreRun o es
    → ShardSays o mail (shard_view_of o es) job answer → DeltaClaim o es a mail job answer
delta-given o es a mail (Append cube epoch rows) answer run says = tt
delta-given o es a mail (DropBox cube epoch box) answer run says = tt
delta-given o es a mail (Scan query snapshot) answer run says = tt
delta-given o es a mail (Delta q from to) Done run says = absurd says
delta-given o es a mail (Delta q from to) (ShardFull rows) run says = absurd says
delta-given o es a mail (Delta q from to) (Found rows) run says = absurd says
delta-given o es a mail (Delta q from to) (Compared came went) run says = delta-of-shard o es mail q from to came went says
delta-given o es a mail (Delta q from to) (Copied view) run says = absurd says
delta-given o es a mail (Delta q from to) StoreLost run says = refl
delta-given o es a mail (Delta q from to) OutOfMemory run says = refl
delta-given o es a mail (Rollback epoch) answer run says = tt
delta-given o es a mail (Purge epoch) answer run says = tt
delta-given o es a mail (CopyRound from to) answer run says = tt
delta-given o es a mail Flush answer run says = tt

delta-flushed : (o : Opening) (es : List CoreEvent) (a mail : ℕ) (said : JobOutcome) → IsCoreRun o es → worker_of mail es ≡ Took a Flush
    → FlushSays (round_progress o es) (client_state o (flusher o) es).store_lost said → DeltaClaim o es a mail Flush said
delta-flushed o es a mail said run took says = tt

answer-as : (o : Opening) (es later : List CoreEvent) (mail : ℕ) (q : BoundQuery) (from to : ℕ) (answer : JobOutcome)
    → ((brick : ℕ) → rows_asked o later q (reader_up_to from) brick ≡ rows_asked o es q (reader_up_to from) brick)
    → ((brick : ℕ) → rows_asked o later q (reader_up_to to) brick ≡ rows_asked o es q (reader_up_to to) brick)
    → DeltaAnswer o es mail q from to answer → DeltaAnswer o later mail q from to answer
answer-as o es later mail q from to Done first second f = f
answer-as o es later mail q from to (ShardFull rows) first second f = f
answer-as o es later mail q from to (Found rows) first second f = f
answer-as o es later mail q from to (Compared came went) first second f = delta-as o es later mail q from to came went first second f
answer-as o es later mail q from to (Copied view) first second f = f
answer-as o es later mail q from to StoreLost first second f = f
answer-as o es later mail q from to OutOfMemory first second f = f

delta-call : (o : Opening) (es : List CoreEvent) (a b mail : ℕ) (call : ClientCall) (job : CoreJob) (answer : JobOutcome)
    → IsCoreRun o (By b call ∷ es) → kind_of job ≡ (client_state o a es).group.kind → (b ≡ a → ends_group call ≡ false)
    → DeltaClaim o es a mail job answer → DeltaClaim o (By b call ∷ es) a mail job answer
delta-call o es a b mail call (Append cube epoch rows) answer run kind goes f = f
delta-call o es a b mail call (DropBox cube epoch box) answer run kind goes f = f
delta-call o es a b mail call (Scan query snapshot) answer run kind goes f = f
delta-call o es a b mail call (Delta q from to) answer run kind goes f =
    answer-as o es (By b call ∷ es) mail q from to answer (λ brick. refl) (λ brick. refl) f
delta-call o es a b mail call (Rollback epoch) answer run kind goes f = f
delta-call o es a b mail call (Purge epoch) answer run kind goes f = f
delta-call o es a b mail call (CopyRound from to) answer run kind goes f = f
delta-call o es a b mail call Flush answer run kind goes f = f

delta-move : (o : Opening) (es : List CoreEvent) (a other mail : ℕ) (move : WorkerMove) (job : CoreJob) (answer : JobOutcome)
    → IsCoreRun o (At other move ∷ es) → kind_of job ≡ (client_state o a es).group.kind
    → DeltaClaim o es a mail job answer → DeltaClaim o (At other move ∷ es) a mail job answer
delta-move o es a other mail move (Append cube epoch rows) answer run kind f = f
delta-move o es a other mail move (DropBox cube epoch box) answer run kind f = f
delta-move o es a other mail move (Scan query snapshot) answer run kind f = f
delta-move o es a other mail move (Delta q from to) answer run kind f =
    let held = run-compares o es a run.0 q from to (sym kind) in
    answer-as o es (At other move ∷ es) mail q from to answer (reader-stays o es a other from move q run held.first)
    (reader-stays o es a other to move q run held.second) f
delta-move o es a other mail move (Rollback epoch) answer run kind f = f
delta-move o es a other mail move (Purge epoch) answer run kind f = f
delta-move o es a other mail move (CopyRound from to) answer run kind f = f
delta-move o es a other mail move Flush answer run kind f = f

-- A job of the kind of a delta is that delta.
delta-answer : (o : Opening) (es : List CoreEvent) (a mail : ℕ) (job : CoreJob) (answer : JobOutcome) (q : BoundQuery) (from to : ℕ)
    → kind_of job ≡ Compares q from to → DeltaClaim o es a mail job answer → DeltaAnswer o es mail q from to answer
delta-answer o es a mail (Append cube epoch rows) answer q from to e f = absurd (false≢true (ap is_comparing e))
delta-answer o es a mail (DropBox cube epoch box) answer q from to e f = absurd (false≢true (ap is_comparing e))
delta-answer o es a mail (Scan query snapshot) answer q from to e f = absurd (false≢true (ap is_comparing e))
delta-answer o es a mail (Delta query x y) answer q from to e f =
    coe 0 1 (i. DeltaAnswer o es mail (ap (query_in query) e i) (ap (first_in x) e i) (ap (second_in y) e i) answer) f
  where
    query_in : BoundQuery → GroupKind → BoundQuery
    query_in default (Compares r u v) = r
    query_in default kind = default

    first_in : ℕ → GroupKind → ℕ
    first_in default (Compares r u v) = u
    first_in default kind = default

    second_in : ℕ → GroupKind → ℕ
    second_in default (Compares r u v) = v
    second_in default kind = default
delta-answer o es a mail (Rollback epoch) answer q from to e f = absurd (false≢true (ap is_comparing e))
delta-answer o es a mail (Purge epoch) answer q from to e f = absurd (false≢true (ap is_comparing e))
delta-answer o es a mail (CopyRound x y) answer q from to e f = absurd (false≢true (ap is_comparing e))
delta-answer o es a mail Flush answer q from to e f = absurd (false≢true (ap is_comparing e))

-- The same with the rows of an answer that is no refusal.
delta-rows : (o : Opening) (es : List CoreEvent) (mail : ℕ) (q : BoundQuery) (from to : ℕ) (answer : JobOutcome) → is_refusal answer ≡ false
    → DeltaAnswer o es mail q from to answer → IsShardDelta o es mail q from to (rows_that_came answer) (rows_that_went answer)
delta-rows o es mail q from to (Compared came went) is f = f
delta-rows o es mail q from to Done is f = absurd (false≢true (sym is ∙ f))
delta-rows o es mail q from to (ShardFull rows) is f = absurd (false≢true (sym is ∙ f))
delta-rows o es mail q from to (Found rows) is f = absurd (false≢true (sym is ∙ f))
delta-rows o es mail q from to (Copied view) is f = absurd (false≢true (sym is ∙ f))
delta-rows o es mail q from to StoreLost is f = absurd (false≢true (sym is ∙ f))
delta-rows o es mail q from to OutOfMemory is f = absurd (false≢true (sym is ∙ f))

-- The rows of a brick in all answers.

record DeltaFetched (o : Opening) (es : List CoreEvent) (q : BoundQuery) (from to brick : ℕ) (answers : List Received) : Type 0 where
  here : has_number (mails_of answers) (brick % o.shards) ≡ true → IsBrickDelta o es q from to brick (came_by answers) (went_by answers)
  no_came : has_number (mails_of answers) (brick % o.shards) ≡ false → rows_of_brick o q.cube brick (came_by answers) ≡ []
  no_went : has_number (mails_of answers) (brick % o.shards) ≡ false → rows_of_brick o q.cube brick (went_by answers) ≡ []

as-delta : (o : Opening) (es : List CoreEvent) (q : BoundQuery) (from to brick : ℕ) (came went more less : List CodedRow)
    → rows_of_brick o q.cube brick more ≡ rows_of_brick o q.cube brick came → rows_of_brick o q.cube brick less ≡ rows_of_brick o q.cube brick went
    → IsBrickDelta o es q from to brick came went → IsBrickDelta o es q from to brick more less
as-delta o es q from to brick came went more less p r d = record {
  counts = λ c. let e = d.counts c in let a = ap (count_by c) p in let b = ap (count_by c) r in omega (arith, e, a, b);
  part = λ c. let le = d.part c in let b = ap (count_by c) r in omega (arith, le, b);
}

fetched-more : (new had : Bool) (o : Opening) (es : List CoreEvent) (q : BoundQuery) (from to brick : ℕ) (r : Received) (older : List Received)
    → (r.mail == brick % o.shards) ≡ new → has_number (mails_of older) (brick % o.shards) ≡ had → (new ≡ true → had ≡ false)
    → IsShardDelta o es r.mail q from to (rows_that_came r.answer) (rows_that_went r.answer)
    → DeltaFetched o es q from to brick older → DeltaFetched o es q from to brick (r ∷ older)
fetched-more new had o es q from to brick r older is was apart d before = at new had is was apart
  where
    of_brick : CodedRow → Bool
    of_brick row = brick_of (sizes_of_cube o q.cube) row.coords == brick

    came-both : rows_of_brick o q.cube brick (came_by (r ∷ older))
        ≡ rows_of_brick o q.cube brick (came_by older) ++ rows_of_brick o q.cube brick (rows_that_came r.answer)
    came-both = filter-append of_brick (came_by older) (rows_that_came r.answer)

    went-both : rows_of_brick o q.cube brick (went_by (r ∷ older))
        ≡ rows_of_brick o q.cube brick (went_by older) ++ rows_of_brick o q.cube brick (rows_that_went r.answer)
    went-both = filter-append of_brick (went_by older) (rows_that_went r.answer)

    at : (n h : Bool) → (r.mail == brick % o.shards) ≡ n → has_number (mails_of older) (brick % o.shards) ≡ h → (n ≡ true → h ≡ false)
        → DeltaFetched o es q from to brick (r ∷ older)
    at true true e f g = absurd (true≢false (g refl))
    at true false e f g = record {
      here = λ all.
          as-delta o es q from to brick (rows_that_came r.answer) (rows_that_went r.answer) (came_by (r ∷ older)) (went_by (r ∷ older))
          (came-both ∙ (λ i. before.no_came f i ++ rows_of_brick o q.cube brick (rows_that_came r.answer)))
          (went-both ∙ (λ i. before.no_went f i ++ rows_of_brick o q.cube brick (rows_that_went r.answer)))
          (d.here brick (swap-test (brick % o.shards) r.mail ∙ e));
      no_came = λ none. absurd (true≢false (sym (λ i. e i || has_number (mails_of older) (brick % o.shards)) ∙ none));
      no_went = λ none. absurd (true≢false (sym (λ i. e i || has_number (mails_of older) (brick % o.shards)) ∙ none));
    }
    at false h e f g =
        let other = swap-test (brick % o.shards) r.mail ∙ e in
        let same : has_number (mails_of (r ∷ older)) (brick % o.shards) ≡ has_number (mails_of older) (brick % o.shards) =
        (λ i. e i || has_number (mails_of older) (brick % o.shards))
        in
        let came = came-both
        ∙ ap (λ (rows : List CodedRow). rows_of_brick o q.cube brick (came_by older) ++ rows) (d.came_elsewhere brick other)
        ∙ append-nil (rows_of_brick o q.cube brick (came_by older))
        in
        let went = went-both
        ∙ ap (λ (rows : List CodedRow). rows_of_brick o q.cube brick (went_by older) ++ rows) (d.went_elsewhere brick other)
        ∙ append-nil (rows_of_brick o q.cube brick (went_by older))
        in
        record {
          here = λ all.
              as-delta o es q from to brick (came_by older) (went_by older) (came_by (r ∷ older)) (went_by (r ∷ older)) came went
              (before.here (sym same ∙ all));
          no_came = λ none. came ∙ before.no_came (sym same ∙ none);
          no_went = λ none. went ∙ before.no_went (sym same ∙ none);
        }

answers-deltas : (o : Opening) (es : List CoreEvent) (a : ℕ) (q : BoundQuery) (from to brick : ℕ) (answers : List Received)
    → has_refusal answers ≡ false
    → AnswersFit DeltaClaim delta-given delta-flushed delta-call delta-move o es a (Compares q from to) answers
    → DeltaFetched o es q from to brick answers
answers-deltas o es a q from to brick [] none f =
    record { here = λ all. absurd (false≢true all); no_came = λ x. refl; no_went = λ x. refl }
answers-deltas o es a q from to brick (r ∷ older) none f =
    let parts = or_parts (is_refusal r.answer) (has_refusal older) none in
    fetched-more (r.mail == brick % o.shards) (has_number (mails_of older) (brick % o.shards)) o es q from to brick r older refl refl
    (λ here. ap (has_number (mails_of older)) (sym (eqb-true r.mail (brick % o.shards) here)) ∙ f.0.once)
    (delta-rows o es r.mail q from to r.answer parts.0 (delta-answer o es a r.mail f.0.job r.answer q from to f.0.of_kind f.0.claim))
    (answers-deltas o es a q from to brick older parts.1 f.1)

fetched-delta : (o : Opening) (es : List CoreEvent) (a brick : ℕ) (q : BoundQuery) (from to : ℕ) → IsCoreRun o es
    → HasCompared o.shards q from to (client_state o a es).group
    → IsBrickDelta o es q from to brick (came_by (client_state o a es).group.answers) (went_by (client_state o a es).group.answers)
fetched-delta o es a brick q from to run h =
    let g = (client_state o a es).group in
    let some = (opening-of o es run).some in
    (answers-deltas o es a q from to brick g.answers h.done.none
    (coe 0 1 (i. AnswersFit DeltaClaim delta-given delta-flushed delta-call delta-move o es a (h.compares i) g.answers)
    (run-answers DeltaClaim delta-given delta-flushed delta-call delta-move o es a run))).here
    (all-below o.shards (brick % o.shards) (mails_of g.answers) h.done.all (mod-lt brick (omega (arith, some))))

-- What a reader that is held asks for, by serial execution.
reader-serial : (o : Opening) (es : List CoreEvent) (a brick epoch : ℕ) (q : BoundQuery) (c : CodedRow → Bool) → IsCoreRun o es
    → AsksBy o a (client_state o a es).holds (reader_up_to epoch)
    → count_by c (rows_asked o es q (reader_up_to epoch) brick) ≡ count_by c (rows_of_brick o q.cube brick (rows_to_find o es q (reader_up_to epoch)))
reader-serial o es a brick epoch q c run asks =
    let s = reader_up_to epoch in
    let held : held_by (counters_of_run o es).snapshots asks.number ≡ Some s = agree o es run a asks.session asks.number asks.under ∙ asks.held in
    asked-serial o es brick q s c run
    (λ d. seen-serial o es q.cube brick s d run (held-settled o es a s run asks (λ own. absurd (false≢true own)))
    (λ e own. absurd (false≢true own)) (seen-of-told o es q.cube brick asks.number s run held))

pub deltas-differ : (o : Opening) (es : List CoreEvent) (a : ℕ) (q : BoundQuery) (from to : ℕ) → IsCoreRun o es
    → HasCompared o.shards q from to (client_state o a es).group
    → IsDifference (rows_to_find o es q (reader_up_to from)) (came_by (client_state o a es).group.answers)
    (went_by (client_state o a es).group.answers) (rows_to_find o es q (reader_up_to to))
deltas-differ o es a q from to run h =
    let held = run-compares o es a run q from to h.compares in
    let answers = (client_state o a es).group.answers in
    let old = rows_to_find o es q (reader_up_to from) in
    let new = rows_to_find o es q (reader_up_to to) in
    let key = λ (row : CodedRow). brick_of (sizes_of_cube o q.cube) row.coords in
    let both = alike-by-key key (old ++ came_by answers) (new ++ went_by answers) (λ brick c.
    let d = (fetched-delta o es a brick q from to run h).counts c in
    let x = reader-serial o es a brick from q c run held.first in
    let y = reader-serial o es a brick to q c run held.second in
    let p = count-of-both c (λ row. key row == brick) old (came_by answers) in
    let r = count-of-both c (λ row. key row == brick) new (went_by answers) in
    omega (arith, d, x, y, p, r))
    in
    let part = part-by-key key (went_by answers) old (λ brick c.
    let le = (fetched-delta o es a brick q from to run h).part c in
    let x = reader-serial o es a brick from q c run held.first in
    omega (arith, le, x))
    in
    let left = left-without old (went_by answers) part in
    record {
      rest = left.rest;
      had = left.made;
      has = permuted-by-counts new (left.rest ++ came_by answers) (λ c.
          let all = count-both c old (came_by answers) (new) (went_by answers) (both c) in
          let had = counts-permuted old (left.rest ++ went_by answers) left.made c in
          let x = count-append c left.rest (went_by answers) in
          let y = count-append c left.rest (came_by answers) in
          omega (arith, all, had, x, y));
    }
  where
    count-both : (c : CodedRow → Bool) (xs ys us vs : List CodedRow) → count_by c (xs ++ ys) ≡ count_by c (us ++ vs)
        → count_by c xs + count_by c ys ≡ count_by c us + count_by c vs
    count-both c xs ys us vs e = let p = count-append c xs ys in let r = count-append c us vs in omega (arith, e, p, r)
