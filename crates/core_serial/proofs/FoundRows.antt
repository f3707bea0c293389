-- What a query has fetched, and what waits for it in a mail, is brick by brick what its snapshot sees now.
use Rattle.std.proofs.Common.{◌≡◌, ◌∙◌, ℕ, ◌%◌, ◌<◌, ◌==◌, Bool, true, false, true≢false, ◌&&◌, ◌||◌, List, [], ◌∷◌, ◌++◌, Option, Some, None, inl, inr, refl, sym, ap, arith, eqb-true, eq-eqb, ne_eqb, append-nil, mod-lt, zero, suc, if◌then◌else◌}
use Rattle.std.proofs.lemmas.Bool.{false≢true, or_parts}
use Rattle.std.proofs.lemmas.Bool.Decides.{eqb_tells}
use Rattle.std.proofs.lemmas.Option.{none-some, same_Some}
use Rattle.std.proofs.lemmas.List.Elements.{filter-append}
use Rattle.cube_values.specs.declared.query.BoundQuery.{BoundQuery}
use Rattle.cube_values.specs.declared.row.CodedRow.{CodedRow}
use Rattle.cube_values.specs.declared.snapshot.Snapshot.{Snapshot}
use Rattle.cube_journal.specs.Counters.{held_by}
use Rattle.brick_address.specs.Addresses.{brick_of}
use Rattle.core_events.specs.ShardView.{brick_rows_seen, rows_where}
use Rattle.core_events.specs.Jobs.{CoreJob, Append, DropBox, Scan, Delta, Rollback, Purge, CopyRound, Flush, JobOutcome, Done, ShardFull, Found, Compared, Copied, StoreLost, OutOfMemory, is_refusal}
use Rattle.core_events.specs.Events.{Opening, IsSession, flusher, ClientCall, OnDesk, OnNames, Post, Fetch, CloseMail, NoChange, WorkerMove, Take, NoJob, Work, Reply, CoreEvent, By, At}
use Rattle.core_events.specs.Groups.{GroupKind, Asks, kind_of, JobGroup, no_group, has_number, has_all_below, has_ended, mails_of, has_refusal, numbers_without}
use Rattle.core_events.specs.Clients.{client_state, client_after_call, ends_group, held_under}
use Rattle.core_events.specs.Cells.{counters_of_run, shard_view_of, rows_of_brick, brick_after_move, sizes_of_cube, WorkerState, Free, Took, Worked, worker_of}
use Rattle.core_events.specs.Fitting.{OwnsWriter, FitsWork, FitsReply, RoundProgress, round_progress}
use Rattle.core_events.specs.Runs.{IsCoreRun, CallSays, MoveSays, ShardSays, AreByBrick, rows_in_span}
use Rattle.core_events.specs.Histories.{DoneJob, job_done}
use Rattle.core_serial.specs.Isolation.{IsOfOther}
use Rattle.core_serial.specs.Queries.{rows_of_answer, rows_fetched, rows_asked, HasAnswered}
use Rattle.core_events.proofs.Agreement.{agree, opening-of, one-session}
use Rattle.core_events.proofs.Finished.{held-writer, run-finished}
use Rattle.core_events.proofs.Places.{JobPlace, Nowhere, Asked, Answered, place, place_after_post, place_after_fetch, place_after_call, place_where, place_with_done, place_after_move}
use Rattle.core_events.proofs.Posted.{run-posted}
use Rattle.core_serial.proofs.Isolation.{JobFits, asked-fits, made-asked, isolated}
use Rattle.core_serial.proofs.Asking.{SuitsAt, AsksBy, is_asking, run-suits, run-held}

-- What waits in a mail: the answer of a scan is a refusal, or it has the rows of the shard's bricks.
abbrev AreAsked : Opening → List CoreEvent → ℕ → BoundQuery → Snapshot → List CodedRow → Type 0
AreAsked o es mail q s rows = AreByBrick o mail q.cube rows (rows_asked o es q s)

abbrev AnswerFits : Opening → List CoreEvent → ℕ → BoundQuery → Snapshot → JobOutcome → Type 0
AnswerFits o es mail q s (Found rows) = AreAsked o es mail q s rows
AnswerFits o es mail q s answer = is_refusal answer ≡ true

abbrev JobAnswerFits : Opening → List CoreEvent → ℕ → CoreJob → JobOutcome → Type 0
JobAnswerFits o es mail (Scan q s) answer = AnswerFits o es mail q s answer
JobAnswerFits o es mail job answer = Unit {0}

abbrev PlaceFits : Opening → List CoreEvent → ℕ → JobPlace → Type 0
PlaceFits o es mail (Answered job answer) = JobAnswerFits o es mail job answer
PlaceFits o es mail p = Unit {0}

-- The rows that the client has fetched of a query.
abbrev HasFound : Opening → List CoreEvent → JobGroup → Type 0
HasFound o es g = (q : BoundQuery) (s : Snapshot) → g.kind ≡ Asks q s → has_refusal g.answers ≡ false → (brick : ℕ)
    → rows_of_brick o q.cube brick (rows_fetched g.answers)
    ≡ rows_where (has_number (mails_of g.answers) (brick % o.shards)) (rows_asked o es q s brick)

-- The view stays for a snapshot that a client asks by.

-- A job of the snapshot's own transaction is not out while the client asks.
write-other : (o : Opening) (es : List CoreEvent) (a c mail epoch : ℕ) (job : CoreJob) (q : BoundQuery) (s : Snapshot) → IsCoreRun o es
    → AsksBy o a (client_state o a es).holds s → (client_state o a es).group.kind ≡ Asks q s → place mail c es ≡ Asked job
    → IsSession o c → OwnsWriter c epoch (client_state o c es) → is_asking (kind_of job) ≡ false
    → s.own ≡ true → s.epoch ≡ epoch → ⊥
write-other o es a c mail epoch job q s run asks kind asked session owns other own at =
    let d = counters_of_run o es in
    let opening = opening-of o es run in
    let writer = held-writer d c epoch (held_under c (client_state o c es).holds) (agree o es run c session c (inl refl)) owns in
    let mine : held_by d.snapshots asks.number ≡ Some s = agree o es run a asks.session asks.number asks.under ∙ asks.held in
    let number : asks.number ≡ c =
    (run-finished o es run).apart asks.number c epoch (record { snapshot = s; is = mine; own = own; at = at }) writer
    in
    let most = opening.sessions in
    let la = asks.session.last in
    let lc = session.last in
    let client : a ≡ c =
    one-session a c asks.number asks.session.first (omega (arith, most, la)) session.first (omega (arith, most, lc)) asks.under (inl number)
    in
    let there = coe 0 1 (i. SuitsAt mail (client_state o a es).group (place mail (client i) es)) (run-suits o es mail a run) in
    let suits = coe 0 1 (i. SuitsAt mail (client_state o a es).group (asked i)) there in
    false≢true (sym other ∙ ap is_asking (suits.kind ∙ kind))

job-other : (o : Opening) (es : List CoreEvent) (a c mail : ℕ) (job : CoreJob) (q : BoundQuery) (s : Snapshot) → IsCoreRun o es
    → AsksBy o a (client_state o a es).holds s → (client_state o a es).group.kind ≡ Asks q s → place mail c es ≡ Asked job
    → JobFits o c job (client_state o c es) (counters_of_run o es).lse → IsOfOther s job
job-other o es a c mail (Append cube epoch rows) q s run asks kind asked f =
    write-other o es a c mail epoch (Append cube epoch rows) q s run asks kind asked f.0 f.1 refl
job-other o es a c mail (DropBox cube epoch box) q s run asks kind asked f =
    write-other o es a c mail epoch (DropBox cube epoch box) q s run asks kind asked f.0 f.1 refl
job-other o es a c mail (Scan query snapshot) q s run asks kind asked f = tt
job-other o es a c mail (Delta query from to) q s run asks kind asked f = tt
job-other o es a c mail (Rollback epoch) q s run asks kind asked f =
    write-other o es a c mail epoch (Rollback epoch) q s run asks kind asked f.0 f.1 refl
job-other o es a c mail (Purge epoch) q s run asks kind asked f = tt
job-other o es a c mail (CopyRound from to) q s run asks kind asked f = tt
job-other o es a c mail Flush q s run asks kind asked f = tt

-- What a query asks for stays, whatever move is made.
asked-stay : (o : Opening) (es : List CoreEvent) (a other : ℕ) (move : WorkerMove) (q : BoundQuery) (s : Snapshot)
    → IsCoreRun o (At other move ∷ es) → (client_state o a es).group.kind ≡ Asks q s → (brick : ℕ)
    → rows_asked o (At other move ∷ es) q s brick ≡ rows_asked o es q s brick
asked-stay o es a other (Work job answer) q s run kind brick =
    let asks = run-held o es a run.0 q s kind in
    let made = made-asked o es other job answer run in
    let held : held_by (counters_of_run o es).snapshots asks.number ≡ Some s =
    agree o es run.0 a asks.session asks.number asks.under ∙ asks.held
    in
    ap (rows_in_span q.span)
    (isolated o es other q.cube brick asks.number job answer s run held
    (job-other o es a made.0 other job q s run.0 asks kind made.1 (asked-fits o es other made.0 job run.0 made.1)))
asked-stay o es a other (Take client job) q s run kind brick = move-same (other == brick % o.shards)
  where
    move-same : (here : Bool) → rows_in_span q.span (brick_rows_seen s (brick_after_move o here q.cube brick (Take client job) (shard_view_of o es q.cube brick)))
        ≡ rows_asked o es q s brick
    move-same true = refl
    move-same false = refl
asked-stay o es a other (NoJob closed) q s run kind brick = move-same (other == brick % o.shards)
  where
    move-same : (here : Bool) → rows_in_span q.span (brick_rows_seen s (brick_after_move o here q.cube brick (NoJob closed) (shard_view_of o es q.cube brick)))
        ≡ rows_asked o es q s brick
    move-same true = refl
    move-same false = refl
asked-stay o es a other (Reply client answer) q s run kind brick = move-same (other == brick % o.shards)
  where
    move-same : (here : Bool) → rows_in_span q.span (brick_rows_seen s (brick_after_move o here q.cube brick (Reply client answer) (shard_view_of o es q.cube brick)))
        ≡ rows_asked o es q s brick
    move-same true = refl
    move-same false = refl

-- Both facts, over events.

answer-as : (o : Opening) (es later : List CoreEvent) (mail : ℕ) (q : BoundQuery) (s : Snapshot) (answer : JobOutcome)
    → ((brick : ℕ) → rows_asked o later q s brick ≡ rows_asked o es q s brick) → AnswerFits o es mail q s answer
    → AnswerFits o later mail q s answer
answer-as o es later mail q s Done same f = f
answer-as o es later mail q s (ShardFull rows) same f = f
answer-as o es later mail q s (Found rows) same f =
    λ brick. f brick ∙ ap (rows_where (brick % o.shards == mail)) (sym (same brick))
answer-as o es later mail q s (Compared came went) same f = f
answer-as o es later mail q s (Copied view) same f = f
answer-as o es later mail q s StoreLost same f = f
answer-as o es later mail q s OutOfMemory same f = f

job-as : (o : Opening) (es later : List CoreEvent) (mail : ℕ) (job : CoreJob) (answer : JobOutcome)
    → ((q : BoundQuery) (s : Snapshot) → kind_of job ≡ Asks q s → (brick : ℕ) → rows_asked o later q s brick ≡ rows_asked o es q s brick)
    → JobAnswerFits o es mail job answer → JobAnswerFits o later mail job answer
job-as o es later mail (Append cube epoch rows) answer same f = f
job-as o es later mail (DropBox cube epoch box) answer same f = f
job-as o es later mail (Scan q s) answer same f = answer-as o es later mail q s answer (same q s refl) f
job-as o es later mail (Delta query from to) answer same f = f
job-as o es later mail (Rollback epoch) answer same f = f
job-as o es later mail (Purge epoch) answer same f = f
job-as o es later mail (CopyRound from to) answer same f = f
job-as o es later mail Flush answer same f = f

place-as : (o : Opening) (es later : List CoreEvent) (mail : ℕ) (g : JobGroup) (p : JobPlace)
    → ((q : BoundQuery) (s : Snapshot) → g.kind ≡ Asks q s → (brick : ℕ) → rows_asked o later q s brick ≡ rows_asked o es q s brick)
    → SuitsAt mail g p → PlaceFits o es mail p → PlaceFits o later mail p
place-as o es later mail g Nowhere same suits f = f
place-as o es later mail g (Asked job) same suits f = f
place-as o es later mail g (Answered job answer) same suits f =
    job-as o es later mail job answer (λ q s kind. same q s (sym suits.kind ∙ kind)) f

-- A new answer is that of the shard.
says-fits : (o : Opening) (es : List CoreEvent) (mail : ℕ) (job : CoreJob) (answer : JobOutcome)
    → ShardSays o mail (shard_view_of o es) job answer → JobAnswerFits o es mail job answer
says-fits o es mail (Append cube epoch rows) answer says = tt
says-fits o es mail (DropBox cube epoch box) answer says = tt
says-fits o es mail (Scan q s) Done says = absurd says
says-fits o es mail (Scan q s) (ShardFull rows) says = absurd says
says-fits o es mail (Scan q s) (Found rows) says = says
says-fits o es mail (Scan q s) (Compared came went) says = absurd says
says-fits o es mail (Scan q s) (Copied view) says = absurd says
says-fits o es mail (Scan q s) StoreLost says = refl
says-fits o es mail (Scan q s) OutOfMemory says = refl
says-fits o es mail (Delta query from to) answer says = tt
says-fits o es mail (Rollback epoch) answer says = tt
says-fits o es mail (Purge epoch) answer says = tt
says-fits o es mail (CopyRound from to) answer says = tt
says-fits o es mail Flush answer says = tt

-- A flusher's reply is to no scan.
reply-fits : (o : Opening) (es : List CoreEvent) (mail : ℕ) (q : RoundProgress) (lost : Bool) (job : CoreJob) (said : JobOutcome)
    → FitsReply q lost job said → JobAnswerFits o es mail job said
reply-fits o es mail q lost (Append cube epoch rows) said f = tt
reply-fits o es mail q lost (DropBox cube epoch box) said f = tt
reply-fits o es mail q lost (Scan query snapshot) said f = absurd f
reply-fits o es mail q lost (Delta query from to) said f = tt
reply-fits o es mail q lost (Rollback epoch) said f = tt
reply-fits o es mail q lost (Purge epoch) said f = tt
reply-fits o es mail q lost (CopyRound from to) said f = tt
reply-fits o es mail q lost Flush said f = tt

done-says : (o : Opening) (es : List CoreEvent) (mail : ℕ) (q : RoundProgress) (lost : Bool) (worker : WorkerState) (move : WorkerMove) (d : DoneJob)
    → FitsWork q lost worker move → MoveSays o es mail move → job_done worker move ≡ Some d → JobAnswerFits o es mail d.job d.answer
done-says o es mail q lost (Took c j) (Work made answer) d fits says is =
    let same = same_Some (record { client = c; job = made; answer = answer }) d is in
    coe 0 1 (i. JobAnswerFits o es mail (same i).job (same i).answer) (says-fits o es mail made answer says)
done-says o es mail q lost (Took c j) (Reply to said) d fits says is =
    let same = same_Some (record { client = to; job = j; answer = said }) d is in
    coe 0 1 (i. JobAnswerFits o es mail (same i).job (same i).answer) (reply-fits o es mail q lost j said fits.1)
done-says o es mail q lost (Took c j) (Take client job) d fits says is = absurd fits
done-says o es mail q lost (Took c j) (NoJob closed) d fits says is = absurd fits
done-says o es mail q lost Free move d fits says is = absurd (free-none move is)
  where
    free-none : (m : WorkerMove) → job_done Free m ≡ Some d → ⊥
    free-none (Take client job) e = none-some d e
    free-none (NoJob closed) e = none-some d e
    free-none (Work job answer) e = none-some d e
    free-none (Reply client answer) e = none-some d e
done-says o es mail q lost (Worked c j x) move d fits says is = absurd (worked-none move is)
  where
    worked-none : (m : WorkerMove) → job_done (Worked c j x) m ≡ Some d → ⊥
    worked-none (Take client job) e = none-some d e
    worked-none (NoJob closed) e = none-some d e
    worked-none (Work job answer) e = none-some d e
    worked-none (Reply client answer) e = none-some d e

where-place : (own : Bool) (o : Opening) (es : List CoreEvent) (mail : ℕ) (job : CoreJob) (answer : JobOutcome) (p : JobPlace)
    → (own ≡ true → JobAnswerFits o es mail job answer) → PlaceFits o es mail p → PlaceFits o es mail (place_where own (Answered job answer) p)
where-place true o es mail job answer p new f = new refl
where-place false o es mail job answer p new f = f

done-place : (x : Option DoneJob) (o : Opening) (es : List CoreEvent) (mail a : ℕ) (p : JobPlace)
    → ((d : DoneJob) → x ≡ Some d → JobAnswerFits o es mail d.job d.answer) → PlaceFits o es mail p
    → PlaceFits o es mail (place_with_done a x p)
done-place None o es mail a p new f = f
done-place (Some d) o es mail a p new f = where-place (d.client == a) o es mail d.job d.answer p (λ own. new d refl) f

move-place : (here : Bool) (o : Opening) (es : List CoreEvent) (mail a : ℕ) (worker : WorkerState) (move : WorkerMove) (p : JobPlace)
    → (here ≡ true → (d : DoneJob) → job_done worker move ≡ Some d → JobAnswerFits o es mail d.job d.answer)
    → PlaceFits o es mail p → PlaceFits o es mail (place_after_move here a worker move p)
move-place true o es mail a worker move p new f = done-place (job_done worker move) o es mail a p (new refl) f
move-place false o es mail a worker move p new f = f

call-place : (own : Bool) (o : Opening) (es : List CoreEvent) (mail : ℕ) (call : ClientCall) (p : JobPlace) → PlaceFits o es mail p
    → PlaceFits o es mail (place_after_call mail own call p)
call-place own o es mail (Post other job) p f = post-place (other == mail) own
  where
    post-place : (here mine : Bool) → PlaceFits o es mail (place_after_post here mine job p)
    post-place true true = tt
    post-place true false = f
    post-place false mine = f
call-place own o es mail (Fetch other answer) p f = fetch-place (other == mail) own
  where
    fetch-place : (here mine : Bool) → PlaceFits o es mail (place_after_fetch here mine p)
    fetch-place true true = tt
    fetch-place true false = f
    fetch-place false mine = f
call-place own o es mail (OnDesk call) p f = f
call-place own o es mail (OnNames call) p f = f
call-place own o es mail (CloseMail other) p f = f
call-place own o es mail NoChange p f = f

-- A call changes no brick.
call-view : (o : Opening) (b : ℕ) (call : ClientCall) (es : List CoreEvent) (mail : ℕ) (p : JobPlace) → PlaceFits o es mail p
    → PlaceFits o (By b call ∷ es) mail p
call-view o b call es mail Nowhere f = f
call-view o b call es mail (Asked job) f = f
call-view o b call es mail (Answered job answer) f = job-as o es (By b call ∷ es) mail job answer (λ q s kind brick. refl) f

pub run-places : (o : Opening) (es : List CoreEvent) (mail a : ℕ) → IsCoreRun o es → PlaceFits o es mail (place mail a es)
run-places o [] mail a run = tt
run-places o (By b call ∷ es) mail a run =
    call-view o b call es mail (place_after_call mail (b == a) call (place mail a es))
    (call-place (b == a) o es mail call (place mail a es) (run-places o es mail a run.0))
run-places o (At other move ∷ es) mail a run =
    let moved = place_after_move (other == mail) a (worker_of mail es) move (place mail a es) in
    place-as o es (At other move ∷ es) mail (client_state o a es).group moved
    (λ q s kind. asked-stay o es a other move q s run kind)
    (run-suits o (At other move ∷ es) mail a run)
    (move-place (other == mail) o es mail a (worker_of mail es) move (place mail a es)
    (λ here d is. let same = eqb-true other mail here in
    done-says o es mail (round_progress o es) (client_state o (flusher o) es).store_lost (worker_of mail es) move d
    (coe 0 1 (i. FitsWork (round_progress o es) (client_state o (flusher o) es).store_lost (worker_of (same i) es) move) run.1.fits)
    (coe 0 1 (i. MoveSays o es (same i) move) run.1.says) is)
    (run-places o es mail a run.0))

-- What is fetched.

rows-where-both : (here had : Bool) (old new rows asked : List CodedRow) → (here ≡ true → had ≡ false) → old ≡ rows_where had asked
    → new ≡ rows_where here asked → old ++ new ≡ rows_where (here || had) asked
rows-where-both true true old new rows asked apart o n = absurd (true≢false (apart refl))
rows-where-both true false old new rows asked apart o n = λ i. o i ++ n i
rows-where-both false had old new rows asked apart o n = (λ i. o i ++ n i) ∙ append-nil (rows_where had asked)

answer-rows : (o : Opening) (es : List CoreEvent) (mail brick : ℕ) (q : BoundQuery) (s : Snapshot) (answer : JobOutcome)
    → is_refusal answer ≡ false → AnswerFits o es mail q s answer
    → rows_of_brick o q.cube brick (rows_of_answer answer) ≡ rows_where (brick % o.shards == mail) (rows_asked o es q s brick)
answer-rows o es mail brick q s Done is f = absurd (false≢true (sym is ∙ f))
answer-rows o es mail brick q s (ShardFull rows) is f = absurd (false≢true (sym is ∙ f))
answer-rows o es mail brick q s (Found rows) is f = f brick
answer-rows o es mail brick q s (Compared came went) is f = absurd (false≢true (sym is ∙ f))
answer-rows o es mail brick q s (Copied view) is f = absurd (false≢true (sym is ∙ f))
answer-rows o es mail brick q s StoreLost is f = absurd (false≢true (sym is ∙ f))
answer-rows o es mail brick q s OutOfMemory is f = absurd (false≢true (sym is ∙ f))

scan-answer : (o : Opening) (es : List CoreEvent) (mail : ℕ) (job : CoreJob) (answer : JobOutcome) (q : BoundQuery) (s : Snapshot)
    → kind_of job ≡ Asks q s → JobAnswerFits o es mail job answer → AnswerFits o es mail q s answer
scan-answer o es mail (Append cube epoch rows) answer q s e f = absurd (false≢true (ap is_asking e))
scan-answer o es mail (DropBox cube epoch box) answer q s e f = absurd (false≢true (ap is_asking e))
scan-answer o es mail (Scan query snapshot) answer q s e f =
    coe 0 1 (i. AnswerFits o es mail (ap (query_asked query) e i) (ap (snapshot_asked snapshot) e i) answer) f
  where
    query_asked : BoundQuery → GroupKind → BoundQuery
    query_asked default (Asks x y) = x
    query_asked default kind = default

    snapshot_asked : Snapshot → GroupKind → Snapshot
    snapshot_asked default (Asks x y) = y
    snapshot_asked default kind = default
scan-answer o es mail (Delta query from to) answer q s e f = absurd (false≢true (ap is_asking e))
scan-answer o es mail (Rollback epoch) answer q s e f = absurd (false≢true (ap is_asking e))
scan-answer o es mail (Purge epoch) answer q s e f = absurd (false≢true (ap is_asking e))
scan-answer o es mail (CopyRound from to) answer q s e f = absurd (false≢true (ap is_asking e))
scan-answer o es mail Flush answer q s e f = absurd (false≢true (ap is_asking e))

pub swap-test : (a b : ℕ) → (a == b) ≡ (b == a)
swap-test a b = elim (eqb_tells a b) [
  | inl same ↦ same.0 ∙ sym (eq-eqb b a (sym same.1))
  | inr other ↦ other.0 ∙ sym (ne_eqb b a (λ e. other.1 (sym e)))
]

fetch-found : (o : Opening) (es : List CoreEvent) (a mail : ℕ) (answer : JobOutcome) (job : CoreJob) → IsCoreRun o es
    → place mail a es ≡ Answered job answer → HasFound o es (client_state o a es).group
    → HasFound o es (record {
      kind = (client_state o a es).group.kind;
      waits = numbers_without mail (client_state o a es).group.waits;
      answers = record { mail = mail; answer = answer } ∷ (client_state o a es).group.answers;
    })
fetch-found o es a mail answer job run at found q s kind none brick =
    let g = (client_state o a es).group in
    let parts = or_parts (is_refusal answer) (has_refusal g.answers) none in
    let suits = coe 0 1 (i. SuitsAt mail g (at i)) (run-suits o es mail a run) in
    let fits = coe 0 1 (i. PlaceFits o es mail (at i)) (run-places o es mail a run) in
    let rows = answer-rows o es mail brick q s answer parts.0 (scan-answer o es mail job answer q s (suits.kind ∙ kind) fits) in
    let size = brick % o.shards in
    filter-append (λ (row : CodedRow). brick_of (sizes_of_cube o q.cube) row.coords == brick) (rows_fetched g.answers) (rows_of_answer answer)
    ∙ rows-where-both (mail == size) (has_number (mails_of g.answers) size)
    (rows_of_brick o q.cube brick (rows_fetched g.answers)) (rows_of_brick o q.cube brick (rows_of_answer answer)) [] (rows_asked o es q s brick)
    (λ here. ap (has_number (mails_of g.answers)) (sym (eqb-true mail size here)) ∙ suits.unanswered)
    (found q s kind parts.1 brick)
    (rows ∙ ap (λ (b : Bool). rows_where b (rows_asked o es q s brick)) (swap-test size mail))

post-found : (ended : Bool) (o : Opening) (es : List CoreEvent) (other : ℕ) (job : CoreJob) (g : JobGroup) → HasFound o es g
    → HasFound o es (if ended then record { kind = kind_of job; waits = other ∷ []; answers = [] } else record g { waits = other ∷ g.waits })
post-found true o es other job g found q s kind none brick = refl
post-found false o es other job g found q s kind none brick = found q s kind none brick

ends-found : (ends : Bool) (o : Opening) (es : List CoreEvent) (g : JobGroup) → HasFound o es g
    → HasFound o es (if ends then no_group else g)
ends-found true o es g found q s kind none brick = absurd (false≢true (ap is_asking kind))
ends-found false o es g found q s kind none brick = found q s kind none brick

call-found : (o : Opening) (es : List CoreEvent) (own : Bool) (a b : ℕ) (call : ClientCall) → IsCoreRun o es
    → (own ≡ true → CallSays o es a call) → HasFound o es (client_state o a es).group
    → HasFound o es (client_after_call o own a call (client_state o a es)).group
call-found o es true a b (Post other job) run says found =
    post-found (has_ended o.shards (client_state o a es).group) o es other job (client_state o a es).group found
call-found o es true a b (Fetch mail answer) run says found =
    let there = ((run-posted o es run).posted mail).held a answer (says refl) in
    fetch-found o es a mail answer there.0 run there.1 found
call-found o es true a b (OnDesk call) run says found =
    ends-found (ends_group (OnDesk call)) o es (client_state o a es).group found
call-found o es true a b (OnNames call) run says found = found
call-found o es true a b (CloseMail mail) run says found = found
call-found o es true a b NoChange run says found = found
call-found o es false a b call run says found = found

pub run-found : (o : Opening) (es : List CoreEvent) (a : ℕ) → IsCoreRun o es → HasFound o es (client_state o a es).group
run-found o [] a run q s kind none brick = refl
run-found o (By b call ∷ es) a run q s kind none brick =
    call-found o es (b == a) a b call run.0
    (λ own. let same = eqb-true b a own in coe 0 1 (i. CallSays o es (same i) call) run.1.says) (run-found o es a run.0)
    q s kind none brick
run-found o (At other move ∷ es) a run q s kind none brick =
    let g = (client_state o a es).group in
    run-found o es a run.0 q s kind none brick
    ∙ ap (rows_where (has_number (mails_of g.answers) (brick % o.shards))) (sym (asked-stay o es a other move q s run kind brick))

-- All shards have answered.

pub all-below : (n m : ℕ) (xs : List ℕ) → has_all_below n xs ≡ true → m < n → has_number xs m ≡ true
all-below zero m xs all l = absurd (omega (arith, l))
all-below (suc n) m xs all l =
    let p = both-are (has_number xs n) (has_all_below n xs) all in
    elim (eqb_tells m n) [
      | inl same ↦ ap (has_number xs) same.1 ∙ p.0
      | inr other ↦ all-below n m xs p.1 (let o = other.1 in omega (arith, l, o))
    ]
  where
    both-are : (a b : Bool) → (a && b) ≡ true → (a ≡ true) × (b ≡ true)
    both-are true b e = (refl, e)
    both-are false b e = absurd (false≢true e)

pub answered-rows : (o : Opening) (es : List CoreEvent) (a brick : ℕ) (q : BoundQuery) (s : Snapshot) → IsCoreRun o es
    → HasAnswered o.shards q s (client_state o a es).group
    → rows_of_brick o q.cube brick (rows_fetched (client_state o a es).group.answers) ≡ rows_asked o es q s brick
answered-rows o es a brick q s run h =
    let g = (client_state o a es).group in
    let some = (opening-of o es run).some in
    run-found o es a run q s h.asks h.done.none brick
    ∙ ap (λ (b : Bool). rows_where b (rows_asked o es q s brick))
    (all-below o.shards (brick % o.shards) (mails_of g.answers) h.done.all (mod-lt brick (omega (arith, some))))
