-- The rows of a query, as the transactions that count for its snapshot leave them, by what they posted.
use Rattle.std.proofs.Common.{◌≡◌, ◌∙◌, ℕ, zero, suc, ◌+◌, ◌%◌, ◌==◌, Bool, true, false, true≢false, not, ◌&&◌, ◌||◌, List, [], ◌∷◌, ◌++◌, Option, Some, IsSomeAnd, inl, inr, refl, sym, ap, arith, eqb-true, eq-eqb, ne_eqb, mod-lt, if◌then◌else◌}
use Rattle.std.proofs.lemmas.Bool.{false≢true, false_from_ne_true}
use Rattle.std.proofs.lemmas.Option.{none-some}
use Rattle.cube_values.specs.declared.row.CodedRow.{CodedRow}
use Rattle.cube_values.specs.declared.query.BoundQuery.{BoundQuery}
use Rattle.cube_values.specs.declared.snapshot.Snapshot.{Snapshot}
use Rattle.cube_values.specs.Sees.{sees}
use Rattle.cube_journal.specs.Counters.{held_by}
use Rattle.core_events.specs.ShardView.{BrickEntry, RowRun, RowMark, EpochSet, epochs_without}
use Rattle.core_events.specs.Jobs.{CoreJob, Append, DropBox, Scan, Delta, Rollback, Purge, CopyRound, Flush, JobOutcome}
use Rattle.core_events.specs.Events.{Opening, IsSession, OpenWrite, OpenRead, Commit, AbortEnd, CloseRead, TakeNote, CreateCube, FindCube, CubesFrom, CountersNow, RoundOpen, RoundClose, StoreFailed, ClientCall, OnDesk, OnNames, Post, Fetch, CloseMail, NoChange, WorkerMove, Take, NoJob, Work, Reply, CoreEvent, By, At}
use Rattle.core_events.specs.Groups.{GroupKind, Asks, JobGroup, has_number, is_empty, is_spoiled, has_refusal}
use Rattle.core_events.specs.Clients.{ClientState, client_state, client_after_call, held_under}
use Rattle.core_events.specs.Cells.{counters_of_run, rows_of_brick}
use Rattle.core_events.specs.Fitting.{FitsCall, OwnsWriter}
use Rattle.core_events.specs.Runs.{IsCoreRun}
use Rattle.core_events.specs.Serial.{commits, has_committed, has_aborted, counts_for}
use Rattle.core_serial.specs.Told.{told_of, told_after_move, rolled_back}
use Rattle.core_events.proofs.Agreement.{agree, opening-of}
use Rattle.core_events.proofs.Finished.{run-finished, or-is}
use Rattle.core_events.proofs.DeskSteps.{client_entry}
use Rattle.core_events.proofs.Places.{place}
use Rattle.core_events.proofs.Posted.{run-posted, ready-empty, empty-has-none, none-out}
use Rattle.core_serial.proofs.Isolation.{JobFits, job-fits, shown-within, asked-fits, made-asked}
use Rattle.core_serial.proofs.ToldBricks.{writer-of, run-rolled, is_rolling}
use Rattle.std.specs.List.{count_by}
use Rattle.cube_journal.specs.declared.note.Note.TheVariants as note
use Rattle.aosi_desk.specs.declared.answer.RoundAnswer.TheVariants.{Target, Nothing}
use Rattle.aosi_desk.specs.declared.answer.RoundEnd.TheVariants.{Safe, Lost}
use Rattle.aosi_desk.specs.declared.cube.CubeAnswer.TheVariants.{Created, Exists, TooMany}
use Rattle.aosi_desk.specs.declared.cube.CubeFound.TheVariants as cube_found
use Rattle.aosi_desk.specs.declared.cube.CubeFound.TheVariants.{Unknown}
use Rattle.core_events.specs.Runs.{rows_in_span}
use Rattle.core_events.specs.BrickTransactions.{entries_of_epoch, rows_after_entries, brick_rows_left}
use Rattle.core_events.proofs.Blindness.{run-blind}
use Rattle.core_events.proofs.DeskSteps.{HoldChange, Opens, Ends, Keeps, change_by, held_after, client-held}
use Rattle.core_events.proofs.Finished.{with-one-is, without-one-is}
use Rattle.core_serial.specs.Queries.{HasAnswered, rows_fetched}
use Rattle.core_serial.proofs.Asking.{AsksBy, run-held}
use Rattle.core_serial.proofs.SerialQueries.{answered-serial}
use Rattle.core_serial.proofs.ToldBricks.{is_opening_change}
use Rattle.core_serial.specs.PostedEntries.{entries_of_job, posted_after_post, posted_after, posted_of}
use Rattle.core_serial.proofs.Fates.{HasFate, HaveFates, run-fates, commit-of, committed-unrolled, aborted-rolled}
use Rattle.core_serial.proofs.PostedJobs.{epoch-append, none-of-job, IsOtherEpoch, IsClean, nowhere-posted, ready-clean}
use Rattle.core_serial.proofs.PostedRuns.{run-posted-fits, other-told}

-- Writers are held under the session's own number.

call-number : (a : ℕ) (call : ClientCall) (n : ℕ) (v : Snapshot) → change_by (client_entry a call) ≡ Opens n v → v.own ≡ true → n ≡ a
call-number a (OnDesk (OpenWrite statement epoch deps)) n v is own = ap number_by_code (sym is)
  where
    number_by_code : HoldChange → ℕ
    number_by_code (Opens m x) = m
    number_by_code change = a
call-number a (OnDesk (OpenRead number statement epoch)) n v is own = absurd (false≢true (ap own_in is ∙ own))
  where
    own_in : HoldChange → Bool
    own_in (Opens m x) = x.own
    own_in change = false
call-number a (OnDesk (Commit statement epoch)) n v is own = absurd (false≢true (ap is_opening_change is))
call-number a (OnDesk (AbortEnd statement epoch cause)) n v is own = absurd (false≢true (ap is_opening_change is))
call-number a (OnDesk (CloseRead number statement)) n v is own = absurd (false≢true (ap is_opening_change is))
call-number a (OnDesk (TakeNote (note.Refused session statement code) counters)) n v is own = absurd (false≢true (ap is_opening_change is))
call-number a (OnDesk (TakeNote (note.Cleared session statement) counters)) n v is own = absurd (false≢true (ap is_opening_change is))
call-number a (OnDesk (TakeNote (note.Show session statement) counters)) n v is own = absurd (false≢true (ap is_opening_change is))
call-number a (OnDesk (TakeNote (note.Flushed session statement) counters)) n v is own = absurd (false≢true (ap is_opening_change is))
call-number a (OnDesk (TakeNote (note.Purged session statement epoch) counters)) n v is own = absurd (false≢true (ap is_opening_change is))
call-number a (OnDesk (CreateCube statement decl (Created epoch place))) n v is own = absurd (false≢true (ap is_opening_change is))
call-number a (OnDesk (CreateCube statement decl Exists)) n v is own = absurd (false≢true (ap is_opening_change is))
call-number a (OnDesk (CreateCube statement decl TooMany)) n v is own = absurd (false≢true (ap is_opening_change is))
call-number a (OnDesk (FindCube statement name (cube_found.Found place decl))) n v is own = absurd (false≢true (ap is_opening_change is))
call-number a (OnDesk (FindCube statement name Unknown)) n v is own = absurd (false≢true (ap is_opening_change is))
call-number a (OnDesk (CubesFrom place cubes)) n v is own = absurd (false≢true (ap is_opening_change is))
call-number a (OnDesk (CountersNow counters)) n v is own = absurd (false≢true (ap is_opening_change is))
call-number a (OnDesk (RoundOpen (Target from epoch))) n v is own = absurd (false≢true (ap is_opening_change is))
call-number a (OnDesk (RoundOpen (Nothing epoch))) n v is own = absurd (false≢true (ap is_opening_change is))
call-number a (OnDesk (RoundClose epoch Safe)) n v is own = absurd (false≢true (ap is_opening_change is))
call-number a (OnDesk (RoundClose epoch (Lost cause))) n v is own = absurd (false≢true (ap is_opening_change is))
call-number a (OnDesk (StoreFailed failed)) n v is own = absurd (false≢true (ap is_opening_change is))
call-number a (OnNames call) n v is own = absurd (false≢true (ap is_opening_change is))
call-number a (Post mail job) n v is own = absurd (false≢true (ap is_opening_change is))
call-number a (Fetch mail answer) n v is own = absurd (false≢true (ap is_opening_change is))
call-number a (CloseMail mail) n v is own = absurd (false≢true (ap is_opening_change is))
call-number a NoChange n v is own = absurd (false≢true (ap is_opening_change is))

change-number : (change : HoldChange) (h : Option Snapshot) (a n : ℕ) (t : Snapshot) → held_after change n h ≡ Some t → t.own ≡ true
    → ((m : ℕ) (v : Snapshot) → change ≡ Opens m v → v.own ≡ true → m ≡ a) → (h ≡ Some t → n ≡ a) → n ≡ a
change-number (Opens m v) h a n t is own new old = elim (with-one-is h (m == n) v t is) [
  | inl before ↦ old before
  | inr fresh ↦ sym (eqb-true m n fresh.0) ∙ new m v refl (ap (λ (x : Snapshot). x.own) fresh.1 ∙ own)
]
change-number (Ends m) h a n t is own new old = old (without-one-is (m == n) h t is).1
change-number Keeps h a n t is own new old = old is

call-own-number : (own : Bool) (o : Opening) (a n : ℕ) (call : ClientCall) (k : ClientState) (t : Snapshot)
    → held_under n (client_after_call o own a call k).holds ≡ Some t → t.own ≡ true → (held_under n k.holds ≡ Some t → n ≡ a) → n ≡ a
call-own-number true o a n call k t is writes before =
    change-number (change_by (client_entry a call)) (held_under n k.holds) a n t (sym (client-held a call k.holds n) ∙ is) writes
    (call-number a call) before
call-own-number false o a n call k t is writes before = before is

run-own-number : (o : Opening) (es : List CoreEvent) (a n : ℕ) (t : Snapshot) → held_under n (client_state o a es).holds ≡ Some t
    → t.own ≡ true → n ≡ a
run-own-number o [] a n t is own = absurd (none-some t is)
run-own-number o (By b call ∷ es) a n t is own =
    call-own-number (b == a) o a n call (client_state o a es) t is own (λ before. run-own-number o es a n t before own)
run-own-number o (At mail move ∷ es) a n t is own = run-own-number o es a n t is own

-- Nothing more is posted or done of an epoch that is not pending.

pub ended-epoch : (o : Opening) (es : List CoreEvent) (c e lse : ℕ) (job : CoreJob) → IsCoreRun o es
    → has_number (counters_of_run o es).pending e ≡ false → JobFits o c job (client_state o c es) lse → IsOtherEpoch e job
ended-epoch o es c e lse (Append cube epoch rows) run past f = λ same.
    true≢false (sym (writer-of o es c epoch run f.0 f.1).pending ∙ ap (has_number (counters_of_run o es).pending) same ∙ past)
ended-epoch o es c e lse (DropBox cube epoch box) run past f = λ same.
    true≢false (sym (writer-of o es c epoch run f.0 f.1).pending ∙ ap (has_number (counters_of_run o es).pending) same ∙ past)
ended-epoch o es c e lse (Scan query snapshot) run past f = tt
ended-epoch o es c e lse (Delta query from to) run past f = tt
ended-epoch o es c e lse (Rollback epoch) run past f = tt
ended-epoch o es c e lse (Purge epoch) run past f = tt
ended-epoch o es c e lse (CopyRound from to) run past f = tt
ended-epoch o es c e lse Flush run past f = tt

same-post : (here : Bool) (o : Opening) (cube brick e : ℕ) (job : CoreJob) (posted : List BrickEntry) → IsOtherEpoch e job
    → entries_of_epoch e (posted_after_post here (entries_of_job o cube brick job) posted) ≡ entries_of_epoch e posted
same-post true o cube brick e job posted out =
    epoch-append e (entries_of_job o cube brick job) posted ∙ ap (λ xs. xs ++ entries_of_epoch e posted) (none-of-job o cube brick e job out)
same-post false o cube brick e job posted out = refl

pub call-same : (o : Opening) (b : ℕ) (call : ClientCall) (es : List CoreEvent) (cube brick e : ℕ) → IsCoreRun o (By b call ∷ es)
    → has_number (counters_of_run o es).pending e ≡ false
    → entries_of_epoch e (posted_after o cube brick call (posted_of o es cube brick)) ≡ entries_of_epoch e (posted_of o es cube brick)
call-same o b (Post other job) es cube brick e run past =
    same-post (other == brick % o.shards) o cube brick e job (posted_of o es cube brick)
    (ended-epoch o es b e (counters_of_run o es).lse job run.0 past
    (job-fits o b other job (client_state o b es) (counters_of_run o es).lse run.1.fits (shown-within o es b run.0)))
call-same o b (OnDesk call) es cube brick e run past = refl
call-same o b (OnNames call) es cube brick e run past = refl
call-same o b (Fetch mail answer) es cube brick e run past = refl
call-same o b (CloseMail mail) es cube brick e run past = refl
call-same o b NoChange es cube brick e run past = refl

move-same : (here : Bool) (o : Opening) (cube brick e : ℕ) (move : WorkerMove) (told : List BrickEntry)
    → ((job : CoreJob) (answer : JobOutcome) → move ≡ Work job answer → IsOtherEpoch e job)
    → entries_of_epoch e (told_after_move o here cube brick move told) ≡ entries_of_epoch e told
move-same true o cube brick e (Work job answer) told out = other-told o cube brick e job answer told (out job answer refl)
move-same true o cube brick e (Take client job) told out = refl
move-same true o cube brick e (NoJob closed) told out = refl
move-same true o cube brick e (Reply client answer) told out = refl
move-same false o cube brick e move told out = refl

-- What was posted of a transaction whose group is complete was done.
group-posted : (o : Opening) (es : List CoreEvent) (a e cube brick : ℕ) → IsCoreRun o es → IsSession o a → OwnsWriter a e (client_state o a es)
    → IsClean (client_state o a es).group → is_empty (client_state o a es).group.waits ≡ true
    → entries_of_epoch e (posted_of o es cube brick) ≡ entries_of_epoch e (told_of o es cube brick)
group-posted o es a e cube brick run session owns clean empty =
    let mail = brick % o.shards in
    let out = sym ((run-posted o es run).tied a mail) ∙ empty-has-none (client_state o a es).group.waits mail empty in
    nowhere-posted o cube brick e (posted_of o es cube brick) (told_of o es cube brick) (place mail a es) (none-out (place mail a es) out)
    (run-posted-fits o es a e cube brick run session owns clean)

pub committed-posted : (o : Opening) (es : List CoreEvent) (e cube brick : ℕ) → IsCoreRun o es → has_committed o es e ≡ true
    → entries_of_epoch e (posted_of o es cube brick) ≡ entries_of_epoch e (told_of o es cube brick)
committed-posted o [] e cube brick run is = refl
committed-posted o (By b call ∷ es) e cube brick run is = elim (or-is (commits call e) (has_committed o es e) is) [
  | inl new ↦
      (let x = commit-of call e new in
      let f = coe 0 1 (i. FitsCall o b (x.is i) (client_state o b es)) run.1.fits in
      let g = (client_state o b es).group in
      ap (λ (c : ClientCall). entries_of_epoch e (posted_after o cube brick c (posted_of o es cube brick))) x.is
      ∙ group-posted o es b e cube brick run.0 f.session f.writer (ready-clean o.shards g f.ready) (ready-empty o.shards g f.ready))
  | inr old ↦
      call-same o b call es cube brick e run ((run-finished o es run.0).done_ended e old)
      ∙ committed-posted o es e cube brick run.0 old
]
committed-posted o (At mail move ∷ es) e cube brick run is =
    committed-posted o es e cube brick run.0 is
    ∙ sym (move-same (mail == brick % o.shards) o cube brick e move (told_of o es cube brick)
    (λ job answer at.
    let made = made-asked o es mail job answer (coe 0 1 (i. IsCoreRun o (At mail (at i) ∷ es)) run) in
    ended-epoch o es made.0 e (counters_of_run o es).lse job run.0 ((run-finished o es run.0).done_ended e is)
    (asked-fits o es mail made.0 job run.0 made.1)))

-- An epoch with no fate has no entries.
none-told : (o : Opening) (es : List CoreEvent) (e : ℕ) (xs : List BrickEntry) → (HasFate o es e → ⊥) → HaveFates o es xs → entries_of_epoch e xs ≡ []
none-told o es e [] fateless f = refl
none-told o es e (RowRun j rows ∷ xs) fateless f =
    ap (λ (b : Bool). if b then RowRun j rows ∷ entries_of_epoch e xs else entries_of_epoch e xs)
    (ne_eqb j e (λ same. fateless (coe 0 1 (i. HasFate o es (same i)) f.0)))
    ∙ none-told o es e xs fateless f.1
none-told o es e (RowMark j ∷ xs) fateless f =
    ap (λ (b : Bool). if b then RowMark j ∷ entries_of_epoch e xs else entries_of_epoch e xs)
    (ne_eqb j e (λ same. fateless (coe 0 1 (i. HasFate o es (same i)) f.0)))
    ∙ none-told o es e xs fateless f.1

-- An epoch counts by what was done and by what was posted, or by neither.
data CountsAlike (done counts : EpochSet) (told posted : List BrickEntry) (e : ℕ) : Type 0 where
  Both : done e ≡ true → counts e ≡ true → entries_of_epoch e posted ≡ entries_of_epoch e told → CountsAlike done counts told posted e
  Neither : done e ≡ false → counts e ≡ false → CountsAlike done counts told posted e
  Empty : entries_of_epoch e told ≡ [] → counts e ≡ false → CountsAlike done counts told posted e

no-entries : (b : Bool) (entries : List BrickEntry) (rows : List CodedRow) → entries ≡ [] → (if b then rows_after_entries entries rows else rows) ≡ rows
no-entries true entries rows e = ap (λ xs. rows_after_entries xs rows) e
no-entries false entries rows e = refl

left-step : (done counts : EpochSet) (told posted : List BrickEntry) (m : ℕ) → CountsAlike done counts told posted m
    → brick_rows_left m done told ≡ brick_rows_left m counts posted
    → brick_rows_left (suc m) done told ≡ brick_rows_left (suc m) counts posted
left-step done counts told posted m (Both d c same) rest =
    (λ i. if d i then rows_after_entries (sym same i) (rest i) else rest i)
    ∙ (λ i. if sym c i then rows_after_entries (entries_of_epoch m posted) (brick_rows_left m counts posted) else brick_rows_left m counts posted)
left-step done counts told posted m (Neither d c) rest =
    (λ i. if d i then rows_after_entries (entries_of_epoch m told) (brick_rows_left m done told) else brick_rows_left m done told)
    ∙ rest
    ∙ (λ i. if sym c i then rows_after_entries (entries_of_epoch m posted) (brick_rows_left m counts posted) else brick_rows_left m counts posted)
left-step done counts told posted m (Empty none c) rest =
    no-entries (done m) (entries_of_epoch m told) (brick_rows_left m done told) none
    ∙ rest
    ∙ (λ i. if sym c i then rows_after_entries (entries_of_epoch m posted) (brick_rows_left m counts posted) else brick_rows_left m counts posted)

left-same : (done counts : EpochSet) (told posted : List BrickEntry) (limit : ℕ) → ((e : ℕ) → CountsAlike done counts told posted e)
    → brick_rows_left limit done told ≡ brick_rows_left limit counts posted
left-same done counts told posted zero alike = refl
left-same done counts told posted (suc m) alike = left-step done counts told posted m (alike m) (left-same done counts told posted m alike)

-- Which epochs count for a query.

pub asking-clean : (g : JobGroup) (q : BoundQuery) (s : Snapshot) → g.kind ≡ Asks q s → IsClean g
asking-clean g q s is = record {
  goes_on = ap is_rolling is;
  unspoiled = ap (λ (k : GroupKind). is_spoiled k (has_refusal g.answers)) is;
}

-- The writer of a query's snapshot.
pub asks-writer : (o : Opening) (es : List CoreEvent) (a : ℕ) (s : Snapshot) → AsksBy o a (client_state o a es).holds s → s.own ≡ true
    → OwnsWriter a s.epoch (client_state o a es)
asks-writer o es a s asks own =
    let number = run-own-number o es a asks.number s asks.held own in
    let held : held_under a (client_state o a es).holds ≡ Some s =
    ap (λ (n : ℕ). held_under n (client_state o a es).holds) (sym number) ∙ asks.held
    in
    coe 1 0 (i. IsSomeAnd (held i) (λ x. (x.own ≡ true) × (x.epoch ≡ s.epoch))) (own, refl)

pub and-parts : (a b : Bool) → (a && b) ≡ true → (a ≡ true) × (b ≡ true)
and-parts true true e = (refl, refl)
and-parts true false e = absurd (false≢true e)
and-parts false b e = absurd (false≢true e)

-- What a snapshot shows is settled: no pending epoch but its own is seen, and of its own all that was posted was done, and
-- none of it rolled back.
pub record IsSettled (o : Opening) (es : List CoreEvent) (s : Snapshot) : Type 0 where
  pub blind : (e : ℕ) → sees s e ≡ true → has_number (counters_of_run o es).pending e ≡ true → (s.own && s.epoch == e) ≡ true
  pub stays : (brick e : ℕ) → (s.own && s.epoch == e) ≡ true → rolled_back (brick % o.shards) es e ≡ false
  pub done : (cube brick e : ℕ) → (s.own && s.epoch == e) ≡ true
      → entries_of_epoch e (posted_of o es cube brick) ≡ entries_of_epoch e (told_of o es cube brick)

alike-seen : (committed own gone pending : Bool) (o : Opening) (es : List CoreEvent) (cube brick e : ℕ) (s : Snapshot)
    → IsCoreRun o es → IsSettled o es s → sees s e ≡ true
    → has_committed o es e ≡ committed → (s.own && s.epoch == e) ≡ own → has_aborted es e ≡ gone
    → has_number (counters_of_run o es).pending e ≡ pending
    → CountsAlike (epochs_without (sees s) (rolled_back (brick % o.shards) es)) (counts_for o es s) (told_of o es cube brick) (posted_of o es cube brick) e
alike-seen true own gone pending o es cube brick e s run settled seen c w g p =
    Both (λ i. seen i && not (committed-unrolled o es (brick % o.shards) e run c i)) (λ i. seen i && (c i || (s.own && s.epoch == e)))
    (committed-posted o es e cube brick run c)
alike-seen false true gone pending o es cube brick e s run settled seen c w g p =
    Both (λ i. seen i && not (settled.stays brick e w i)) (λ i. seen i && (c i || w i)) (settled.done cube brick e w)
alike-seen false false true pending o es cube brick e s run settled seen c w g p =
    let some = (opening-of o es run).some in
    Neither (λ i. seen i && not (aborted-rolled o es (brick % o.shards) e run (mod-lt brick (omega (arith, some))) g i))
    (λ i. seen i && (c i || w i))
alike-seen false false false true o es cube brick e s run settled seen c w g p =
    absurd (false≢true (sym w ∙ settled.blind e seen p))
alike-seen false false false false o es cube brick e s run settled seen c w g p =
    Empty (none-told o es e (told_of o es cube brick) fateless (run-fates o es cube brick run)) (λ i. seen i && (c i || w i))
  where
    fateless : HasFate o es e → ⊥
    fateless (inl x) = true≢false (sym x ∙ c)
    fateless (inr (inl x)) = true≢false (sym x ∙ g)
    fateless (inr (inr x)) = true≢false (sym x ∙ p)

alike : (seen : Bool) (o : Opening) (es : List CoreEvent) (cube brick e : ℕ) (s : Snapshot)
    → IsCoreRun o es → IsSettled o es s → sees s e ≡ seen
    → CountsAlike (epochs_without (sees s) (rolled_back (brick % o.shards) es)) (counts_for o es s) (told_of o es cube brick) (posted_of o es cube brick) e
alike true o es cube brick e s run settled seen =
    alike-seen (has_committed o es e) (s.own && s.epoch == e) (has_aborted es e) (has_number (counters_of_run o es).pending e)
    o es cube brick e s run settled seen refl refl refl refl
alike false o es cube brick e s run settled seen =
    Neither (λ i. seen i && not (rolled_back (brick % o.shards) es e)) (λ i. seen i && (has_committed o es e || (s.own && s.epoch == e)))

pub settled-rows : (o : Opening) (es : List CoreEvent) (cube brick : ℕ) (s : Snapshot) → IsCoreRun o es → IsSettled o es s
    → brick_rows_left (s.epoch + 1) (epochs_without (sees s) (rolled_back (brick % o.shards) es)) (told_of o es cube brick)
    ≡ brick_rows_left (s.epoch + 1) (counts_for o es s) (posted_of o es cube brick)
settled-rows o es cube brick s run settled =
    left-same (epochs_without (sees s) (rolled_back (brick % o.shards) es)) (counts_for o es s) (told_of o es cube brick) (posted_of o es cube brick)
    (s.epoch + 1) (λ e. alike (sees s e) o es cube brick e s run settled refl)

-- A snapshot that its client asks by is settled, also its own one where no group is under way.
pub held-settled : (o : Opening) (es : List CoreEvent) (a : ℕ) (s : Snapshot) → IsCoreRun o es → AsksBy o a (client_state o a es).holds s
    → (s.own ≡ true → IsClean (client_state o a es).group × (is_empty (client_state o a es).group.waits ≡ true)) → IsSettled o es s
held-settled o es a s run asks group = record {
  blind = λ e seen pending.
      let held : held_by (counters_of_run o es).snapshots asks.number ≡ Some s = agree o es run a asks.session asks.number asks.under ∙ asks.held in
      by-own (s.own && s.epoch == e) (s.own && s.epoch == e) refl
      (λ w. true≢false (sym seen ∙ (run-blind o es run).blind asks.number e s held pending
      (λ own at. true≢false (sym (λ i. own i && eq-eqb s.epoch e at i) ∙ w))));
  stays = λ brick e w.
      let owns = own-writer e w in
      let own = (and-parts s.own (s.epoch == e) w).0 in
      false_from_ne_true (rolled_back (brick % o.shards) es e) (λ rolled.
      false≢true (sym (group own).0.goes_on ∙ ap is_rolling ((run-rolled o es (brick % o.shards) run).rolls a e rolled asks.session owns)));
  done = λ cube brick e w.
      let own = (and-parts s.own (s.epoch == e) w).0 in
      group-posted o es a e cube brick run asks.session (own-writer e w) (group own).0 (group own).1;
} where
  by-own : (b c : Bool) → c ≡ b → (c ≡ false → ⊥) → c ≡ true
  by-own true c is f = is
  by-own false c is f = absurd (f is)

  own-writer : (e : ℕ) → (s.own && s.epoch == e) ≡ true → OwnsWriter a e (client_state o a es)
  own-writer e w =
      let parts = and-parts s.own (s.epoch == e) w in
      let at = eqb-true s.epoch e parts.1 in
      coe 0 1 (i. OwnsWriter a (at i) (client_state o a es)) (asks-writer o es a s asks parts.0)

pub answered-counts : (o : Opening) (es : List CoreEvent) (a brick : ℕ) (q : BoundQuery) (s : Snapshot) (c : CodedRow → Bool)
    → IsCoreRun o es → HasAnswered o.shards q s (client_state o a es).group
    → count_by c (rows_of_brick o q.cube brick (rows_fetched (client_state o a es).group.answers))
    ≡ count_by c (rows_in_span q.span (brick_rows_left (s.epoch + 1) (counts_for o es s) (posted_of o es q.cube brick)))
answered-counts o es a brick q s c run h =
    let group = (client_state o a es).group in
    answered-serial o es a brick q s c run h
    ∙ ap (λ (rows : List CodedRow). count_by c (rows_in_span q.span rows))
    (settled-rows o es q.cube brick s run
    (held-settled o es a s run (run-held o es a run q s h.asks) (λ own. (asking-clean group q s h.asks, h.done.fetched))))
