-- In every run each brick shows what it was told, less what was rolled back there.
use Rattle.std.proofs.Common.{◌≡◌, ◌⊎◌, ◌∙◌, ℕ, ◌+◌, ◌%◌, ◌<◌, ◌≤◌, ◌==◌, Bool, true, false, not, ◌&&◌, ◌||◌, List, [], ◌∷◌, Option, Some, None, IsSomeAnd, inl, inr, refl, sym, ap, arith, eqb-true, eq-eqb, if◌then◌else◌}
use Rattle.std.proofs.lemmas.Bool.{false≢true, false_from_ne_true}
use Rattle.std.proofs.lemmas.Option.{none-some}
use Rattle.cube_values.specs.declared.snapshot.Snapshot.{Snapshot}
use Rattle.cube_values.specs.declared.row.CodedRow.{CodedRow}
use Rattle.cube_values.specs.Sees.{sees}
use Rattle.cube_journal.specs.declared.counters.OpenSnapshot.{OpenSnapshot}
use Rattle.cube_journal.specs.declared.journal_entry.JournalEntry.{JournalEntry}
use Rattle.cube_journal.specs.declared.journal_entry.JournalEntry.TheVariants as entry
use Rattle.cube_journal.specs.Counters.{JournalState, held_by, lce}
use Rattle.cube_journal.specs.Entries.{takes_epoch}
use Rattle.cube_journal.specs.Order.{IsInOrder, NeverFalls}
use Rattle.core_events.specs.ShardView.{BrickEntry, RowRun, RowMark, EpochSet, brick_rows_seen, rows_shown_to, epochs_without}
use Rattle.core_events.specs.Jobs.{CoreJob, Append, DropBox, Scan, Delta, Rollback, Purge, CopyRound, Flush, Done, ShardFull, Found, Compared, Copied, StoreLost, OutOfMemory}
use Rattle.core_events.specs.Events.{Opening, IsSession, OpenWrite, OpenRead, Commit, AbortEnd, CloseRead, TakeNote, CreateCube, FindCube, CubesFrom, CountersNow, RoundOpen, RoundClose, StoreFailed, ClientCall, OnDesk, OnNames, Post, Fetch, CloseMail, NoChange, WorkerMove, Take, NoJob, Work, Reply, CoreEvent, By, At}
use Rattle.core_events.specs.Groups.{GroupKind, RollsBack, kind_of, JobGroup, has_number, is_empty, has_ended, is_ready, is_complete, is_spoiled, has_refusal, mails_of}
use Rattle.core_events.specs.Clients.{ClientState, client_state, client_after_call, held_under, holds_without}
use Rattle.core_events.specs.Cells.{counters_of_run, shard_view_of, rows_of_brick, box_has_brick, brick_after_job, brick_after_move}
use Rattle.core_events.specs.Fitting.{FitsCall, OwnsWriter}
use Rattle.core_events.specs.Runs.{IsCoreRun}
use Rattle.core_serial.specs.Told.{told_of, told_after_job, told_after_move, rolled_back, rolled_after_job, rolled_after_move}
use Rattle.core_events.proofs.Agreement.{agree}
use Rattle.core_events.proofs.InOrder.{AllowsEntry, StateAllows, run-allowed, run-order}
use Rattle.core_events.proofs.Lookups.{with_one, without_one, held-under-without}
use Rattle.core_events.proofs.DeskSteps.{client_entry, state_with_entry, run-step, HoldChange, Opens, Ends, Keeps, change_by, change_by_entry, held_after, client-held}
use Rattle.core_events.proofs.Finished.{Held, held-writer, run-finished}
use Rattle.core_events.proofs.Blindness.{run-blind, least-pending, sees-safe}
use Rattle.core_events.proofs.Places.{Asked, place}
use Rattle.core_serial.proofs.Isolation.{JobFits, asked-fits, made-asked, lse-rises}
use Rattle.core_serial.proofs.Asking.{SuitsAt, run-suits, own-fits}
use Rattle.core_events.proofs.KeptBricks.{KeepsTold, keeps-append, keeps-mark, keeps-rollback, keeps-purge, keeps-rise, keeps-same}

-- The writer of a job that is asked: its epoch is pending, and its session the only one.
pub record HasWriter (o : Opening) (es : List CoreEvent) (a epoch : ℕ) : Type 0 where
  pub session : IsSession o a
  pub held : Held (counters_of_run o es) a epoch
  pub pending : has_number (counters_of_run o es).pending epoch ≡ true

pub writer-of : (o : Opening) (es : List CoreEvent) (a epoch : ℕ) → IsCoreRun o es → IsSession o a
    → OwnsWriter a epoch (client_state o a es) → HasWriter o es a epoch
writer-of o es a epoch run session owns =
    let c = counters_of_run o es in
    let w = held-writer c a epoch (held_under a (client_state o a es).holds) (agree o es run a session a (inl refl)) owns in
    record {
      session = session;
      held = w;
      pending = ap (has_number c.pending) (sym w.at) ∙ (run-finished o es run).writers a w.snapshot w.is w.own;
    }

pub one-writer : (o : Opening) (es : List CoreEvent) (a b epoch : ℕ) → IsCoreRun o es → HasWriter o es a epoch → HasWriter o es b epoch → a ≡ b
one-writer o es a b epoch run x y = (run-finished o es run).apart a b epoch x.held y.held

falls-not : (low high : ℕ) (xs : List OpenSnapshot) → NeverFalls low xs high → low ≤ high
falls-not low high [] n = n
falls-not low high (o ∷ xs) n = let first = n.0 in let rest = falls-not o.bound high xs n.1 in omega (arith, first, rest)

low-lce : (s : JournalState) → IsInOrder s → s.lse ≤ lce s
low-lce s order = falls-not s.lse (lce s) s.snapshots order.bounds

-- A pending epoch is above LSE.
pub above-lse : (o : Opening) (es : List CoreEvent) (epoch : ℕ) → IsCoreRun o es → has_number (counters_of_run o es).pending epoch ≡ true
    → (counters_of_run o es).lse < epoch
above-lse o es epoch run pending =
    let c = counters_of_run o es in
    let least = least-pending c epoch pending ((run-blind o es run).low epoch pending) in
    let low = low-lce c (run-order o es run) in
    omega (arith, least, low)

-- What was rolled back on a shard was pending, and its session goes on with nothing but the rollback.
pub record IsRolled (o : Opening) (es : List CoreEvent) (shard : ℕ) : Type 0 where
  pub below : (k : ℕ) → rolled_back shard es k ≡ true → k < (counters_of_run o es).ec
  pub rolls : (a k : ℕ) → rolled_back shard es k ≡ true → IsSession o a → OwnsWriter a k (client_state o a es)
      → (client_state o a es).group.kind ≡ RollsBack

-- A group that rolls back is neither ready nor ended.
pub rolling-goes-on : (shards : ℕ) (g : JobGroup) → g.kind ≡ RollsBack → has_ended shards g ≡ false
rolling-goes-on shards g e =
    ap (λ (k : GroupKind). is_empty g.waits && is_complete shards k (has_refusal g.answers) (mails_of g.answers)) e
    ∙ and-none (is_empty g.waits)
  where
    and-none : (b : Bool) → (b && false) ≡ false
    and-none true = refl
    and-none false = refl

pub rolling-unready : (shards : ℕ) (g : JobGroup) → g.kind ≡ RollsBack → is_ready shards g ≡ true → ⊥
rolling-unready shards g e ready =
    false≢true (sym (rolling-goes-on shards g e) ∙ left-of (has_ended shards g) (not (is_spoiled g.kind (has_refusal g.answers))) ready)
  where
    left-of : (a b : Bool) → (a && b) ≡ true → a ≡ true
    left-of true b e = refl
    left-of false b e = absurd (false≢true e)

-- A call of a client whose group rolls back: it goes on so, or it ends the transaction.
pub own-rolls : (o : Opening) (a k : ℕ) (call : ClientCall) (s : ClientState) → IsSession o a → FitsCall o a call s → s.group.kind ≡ RollsBack
    → OwnsWriter a k (client_after_call o true a call s) → (client_after_call o true a call s).group.kind ≡ RollsBack
own-rolls o a k (OnDesk (OpenWrite statement epoch deps)) s session f kind owns = absurd (rolling-unready o.shards s.group kind f.ready)
own-rolls o a k (OnDesk (OpenRead number statement epoch)) s session f kind owns = absurd (rolling-unready o.shards s.group kind f.ready)
own-rolls o a k (OnDesk (Commit statement epoch)) s session f kind owns = absurd (rolling-unready o.shards s.group kind f.ready)
own-rolls o a k (OnDesk (AbortEnd statement epoch cause)) s session f kind owns =
    absurd (none-owned (held_under a (holds_without a s.holds)) (held-under-without s.holds a a ∙ own-out (a == a) (held_under a s.holds) (eq-eqb a a refl)) owns)
  where
    own-out : (here : Bool) (h : Option Snapshot) → here ≡ true → without_one here h ≡ None
    own-out true h e = refl
    own-out false h e = absurd (false≢true e)

    none-owned : (h : Option Snapshot) → h ≡ None → IsSomeAnd h (λ x. (x.own ≡ true) × (x.epoch ≡ k)) → ⊥
    none-owned None e owns = owns
    none-owned (Some x) e owns = none-some x (sym e)
own-rolls o a k (OnDesk (CloseRead number statement)) s session f kind owns = absurd (rolling-unready o.shards s.group kind f.ready)
own-rolls o a k (OnDesk (TakeNote note counters)) s session f kind owns = absurd (rolling-unready o.shards s.group kind f.ready)
own-rolls o a k (OnDesk (CreateCube statement decl answer)) s session f kind owns = absurd (rolling-unready o.shards s.group kind f.0.ready)
own-rolls o a k (OnDesk (FindCube statement name answer)) s session f kind owns = absurd (rolling-unready o.shards s.group kind f.1)
own-rolls o a k (OnDesk (CubesFrom place cubes)) s session f kind owns = kind
own-rolls o a k (OnDesk (CountersNow counters)) s session f kind owns = kind
own-rolls o a k (OnDesk (RoundOpen answer)) s session f kind owns = absurd (rolling-unready o.shards s.group kind f.ready)
own-rolls o a k (OnDesk (RoundClose epoch end)) s session f kind owns =
    absurd (let last = session.last in let is = f.flusher in omega (arith, last, is))
own-rolls o a k (OnDesk (StoreFailed failed)) s session f kind owns = kind
own-rolls o a k (OnNames call) s session f kind owns = kind
own-rolls o a k (Post mail job) s session f kind owns =
    ap (λ (b : Bool). (if b then record { kind = kind_of job; waits = mail ∷ []; answers = [] } else record s.group { waits = mail ∷ s.group.waits }).kind)
    (rolling-goes-on o.shards s.group kind)
    ∙ kind
own-rolls o a k (Fetch mail answer) s session f kind owns = kind
own-rolls o a k (CloseMail mail) s session f kind owns = kind
own-rolls o a k NoChange s session f kind owns = kind

-- A writer that is held was held before, or it has just been opened.

abbrev IsWriterAt : ℕ → Option Snapshot → Type 0
IsWriterAt k h = IsSomeAnd h (λ x. (x.own ≡ true) × (x.epoch ≡ k))

opens-owns : (here : Bool) (h : Option Snapshot) (k : ℕ) (v : Snapshot) → IsWriterAt k (with_one h here v)
    → (here ≡ true → v.own ≡ true → v.epoch ≡ k → ⊥) → IsWriterAt k h
opens-owns here (Some x) k v owns fresh = owns
opens-owns true None k v owns fresh = absurd (fresh refl owns.0 owns.1)
opens-owns false None k v owns fresh = absurd owns

ends-owns : (here : Bool) (h : Option Snapshot) (k : ℕ) → IsWriterAt k (without_one here h) → IsWriterAt k h
ends-owns true h k owns = absurd owns
ends-owns false h k owns = owns

change-owns : (change : HoldChange) (h : Option Snapshot) (a k : ℕ) → IsWriterAt k (held_after change a h)
    → ((n : ℕ) (v : Snapshot) → change ≡ Opens n v → v.own ≡ true → v.epoch ≡ k → ⊥) → IsWriterAt k h
change-owns (Opens n v) h a k owns fresh = opens-owns (n == a) h k v owns (λ here. fresh n v refl)
change-owns (Ends n) h a k owns fresh = ends-owns (n == a) h k owns
change-owns Keeps h a k owns fresh = owns

abbrev pub is_opening_change : HoldChange → Bool
is_opening_change (Opens n v) = true
is_opening_change change = false

abbrev opened_snapshot : Snapshot → HoldChange → Snapshot
opened_snapshot default (Opens n v) = v
opened_snapshot default change = default

-- A writer opens with the next epoch.
entry-opens : (s : JournalState) (e : JournalEntry) (n : ℕ) (v : Snapshot) → StateAllows s e → change_by_entry e ≡ Opens n v
    → v.own ≡ true → v.epoch ≡ s.ec
entry-opens s (entry.Begin session statement epoch deps) n v h is own =
    sym (ap (λ (c : HoldChange). (opened_snapshot v c).epoch) is) ∙ h.next
entry-opens s (entry.Read session statement epoch) n v h is own =
    absurd (false≢true (ap (λ (c : HoldChange). (opened_snapshot v c).own) is ∙ own))
entry-opens s (entry.ReadEnd session statement) n v h is own = absurd (false≢true (ap is_opening_change is))
entry-opens s (entry.Committed session statement epoch) n v h is own = absurd (false≢true (ap is_opening_change is))
entry-opens s (entry.Aborted session statement epoch cause) n v h is own = absurd (false≢true (ap is_opening_change is))
entry-opens s e n v h is own = absurd (false≢true (ap is_opening_change is))

call-opens : (s : JournalState) (e : Option JournalEntry) (n : ℕ) (v : Snapshot) → AllowsEntry s e → change_by e ≡ Opens n v
    → v.own ≡ true → v.epoch ≡ s.ec
call-opens s None n v h is own = absurd (false≢true (ap is_opening_change is))
call-opens s (Some e) n v h is own = entry-opens s e n v h is own

-- EC never falls.
ec-entry : (takes : Bool) (ec : ℕ) → ec ≤ (if takes then ec + 1 else ec)
ec-entry true ec = omega arith
ec-entry false ec = omega arith

ec-step : (s : JournalState) (e : Option JournalEntry) → s.ec ≤ (state_with_entry e s).ec
ec-step s None = omega arith
ec-step s (Some e) = ec-entry (takes_epoch e) s.ec

-- A rollback is new, or it was made before.
pub rolled-new : (here : Bool) (move : WorkerMove) (rolled : EpochSet) (k : ℕ) → rolled_after_move here move rolled k ≡ true
    → (rolled k ≡ true) ⊎ ((here ≡ true) × (move ≡ Work (Rollback k) Done))
rolled-new true (Work (Rollback epoch) Done) rolled k is = new-or-old (epoch == k) refl is
  where
    new-or-old : (same : Bool) → (epoch == k) ≡ same → (same || rolled k) ≡ true
        → (rolled k ≡ true) ⊎ ((true ≡ true) × (Work (Rollback epoch) Done ≡ Work (Rollback k) Done))
    new-or-old true e h = inr (refl, ap (λ (n : ℕ). Work (Rollback n) Done) (eqb-true epoch k e))
    new-or-old false e h = inl h
rolled-new true (Work (Append cube epoch rows) Done) rolled k is = inl is
rolled-new true (Work (DropBox cube epoch box) Done) rolled k is = inl is
rolled-new true (Work (Scan query snapshot) Done) rolled k is = inl is
rolled-new true (Work (Delta query from to) Done) rolled k is = inl is
rolled-new true (Work (Purge epoch) Done) rolled k is = inl is
rolled-new true (Work (CopyRound from to) Done) rolled k is = inl is
rolled-new true (Work Flush Done) rolled k is = inl is
rolled-new true (Work job (ShardFull rows)) rolled k is = inl is
rolled-new true (Work job (Found rows)) rolled k is = inl is
rolled-new true (Work job (Compared came went)) rolled k is = inl is
rolled-new true (Work job (Copied view)) rolled k is = inl is
rolled-new true (Work job StoreLost) rolled k is = inl is
rolled-new true (Work job OutOfMemory) rolled k is = inl is
rolled-new true (Take client job) rolled k is = inl is
rolled-new true (NoJob closed) rolled k is = inl is
rolled-new true (Reply client answer) rolled k is = inl is
rolled-new false move rolled k is = inl is

pub own-back : (o : Opening) (own : Bool) (a b k : ℕ) (call : ClientCall) (s : ClientState) (c : JournalState) → (b == a) ≡ own
    → AllowsEntry c (client_entry b call) → k < c.ec → OwnsWriter a k (client_after_call o own a call s) → OwnsWriter a k s
own-back o true a b k call s c own allowed below owns =
    let same = eqb-true b a own in
    change-owns (change_by (client_entry a call)) (held_under a s.holds) a k
    (coe 0 1 (i. IsWriterAt k (client-held a call s.holds a i)) owns)
    (λ n v is writes at.
    let ec = call-opens c (client_entry a call) n v (coe 0 1 (i. AllowsEntry c (client_entry (same i) call)) allowed) is writes in
    omega (arith, ec, at, below))
own-back o false a b k call s c own allowed below owns = owns

step-rolls : (o : Opening) (own : Bool) (a k : ℕ) (call : ClientCall) (s : ClientState) → IsSession o a → (own ≡ true → FitsCall o a call s)
    → s.group.kind ≡ RollsBack → OwnsWriter a k (client_after_call o own a call s)
    → (client_after_call o own a call s).group.kind ≡ RollsBack
step-rolls o true a k call s session f kind owns = own-rolls o a k call s session (f refl) kind owns
step-rolls o false a k call s session f kind owns = kind

abbrev pub RollbackFits : Opening → List CoreEvent → ℕ → ℕ → Type 0
RollbackFits o es mail k = (c : ℕ) × HasWriter o es c k × ((client_state o c es).group.kind ≡ RollsBack)

pub rollback-fits : (o : Opening) (es : List CoreEvent) (mail k : ℕ) (move : WorkerMove) → IsCoreRun o (At mail move ∷ es)
    → move ≡ Work (Rollback k) Done → RollbackFits o es mail k
rollback-fits o es mail k move run is =
    let here = coe 0 1 (i. IsCoreRun o (At mail (is i) ∷ es)) run in
    let made = made-asked o es mail (Rollback k) Done here in
    let f = asked-fits o es mail made.0 (Rollback k) run.0 made.1 in
    let suits = coe 0 1 (i. SuitsAt mail (client_state o made.0 es).group (made.1 i)) (run-suits o es mail made.0 run.0) in
    (made.0, writer-of o es made.0 k run.0 f.0 f.1, sym suits.kind)

pub run-rolled : (o : Opening) (es : List CoreEvent) (shard : ℕ) → IsCoreRun o es → IsRolled o es shard
run-rolled o [] shard run = record {
  below = λ k is. absurd (false≢true is);
  rolls = λ a k is session owns. absurd (false≢true is);
}
run-rolled o (By b call ∷ es) shard run =
    let before = run-rolled o es shard run.0 in
    let c = counters_of_run o es in
    record {
      below = λ k is.
          let l = before.below k is in
          let rises = ec-step c (client_entry b call) in
          let e = ap (λ (s : JournalState). s.ec) (run-step o b call es) in
          omega (arith, l, rises, e);
      rolls = λ a k is session owns.
          let s = client_state o a es in
          let old = own-back o (b == a) a b k call s c refl (run-allowed o b call es run) (before.below k is) owns in
          step-rolls o (b == a) a k call s session (own-fits o a b call es run.1.fits) (before.rolls a k is session old) owns;
    }
run-rolled o (At mail move ∷ es) shard run =
    let before = run-rolled o es shard run.0 in
    record {
      below = λ k is. elim (rolled-new (mail == shard) move (rolled_back shard es) k is) [
        | inl old ↦ before.below k old
        | inr new ↦ (let f = rollback-fits o es mail k move run new.1 in (run-finished o es run.0).below k f.1.pending)
      ];
      rolls = λ a k is session owns. elim (rolled-new (mail == shard) move (rolled_back shard es) k is) [
        | inl old ↦ before.rolls a k old session owns
        | inr new ↦
            (let f = rollback-fits o es mail k move run new.1 in
            let same = one-writer o es f.0 a k run.0 f.1 (writer-of o es a k run.0 session owns) in
            ap (λ (x : ℕ). (client_state o x es).group.kind) (sym same) ∙ f.2)
      ];
    }

abbrev pub is_rolling : GroupKind → Bool
is_rolling RollsBack = true
is_rolling kind = false

-- A write that is asked was not rolled back on its shard.
unrolled : (o : Opening) (es : List CoreEvent) (mail a k : ℕ) (job : CoreJob) → IsCoreRun o es → place mail a es ≡ Asked job
    → IsSession o a → OwnsWriter a k (client_state o a es) → is_rolling (kind_of job) ≡ false → rolled_back mail es k ≡ false
unrolled o es mail a k job run asked session owns writes =
    false_from_ne_true (rolled_back mail es k) (λ rolled.
    let kind = (run-rolled o es mail run).rolls a k rolled session owns in
    let suits = coe 0 1 (i. SuitsAt mail (client_state o a es).group (asked i)) (run-suits o es mail a run) in
    false≢true (sym writes ∙ ap is_rolling (suits.kind ∙ kind)))

-- What a job has to be so that a brick goes on with what it was told.
abbrev JobKeeps : ℕ → EpochSet → CoreJob → Type 0
JobKeeps p gone (Append cube epoch rows) = (p < epoch) × (gone epoch ≡ false)
JobKeeps p gone (DropBox cube epoch box) = (p < epoch) × (gone epoch ≡ false)
JobKeeps p gone (Rollback epoch) = p < epoch
JobKeeps p gone (Purge epoch) = epoch ≤ p
JobKeeps p gone job = Unit {0}

append-keeps : (here : Bool) (o : Opening) (cube brick p k : ℕ) (gone : EpochSet) (rows : List CodedRow) (now told : List BrickEntry)
    → p < k → gone k ≡ false → KeepsTold p gone now told
    → KeepsTold p gone (if here then RowRun k (rows_of_brick o cube brick rows) ∷ now else now)
    (if here then RowRun k (rows_of_brick o cube brick rows) ∷ told else told)
append-keeps true o cube brick p k gone rows now told l out keeps =
    keeps-append p k gone (rows_of_brick o cube brick rows) now told (omega (arith, l)) out keeps
append-keeps false o cube brick p k gone rows now told l out keeps = keeps

mark-keeps : (here : Bool) (p k : ℕ) (gone : EpochSet) (now told : List BrickEntry) → gone k ≡ false → KeepsTold p gone now told
    → KeepsTold p gone (if here then RowMark k ∷ now else now) (if here then RowMark k ∷ told else told)
mark-keeps true p k gone now told out keeps = keeps-mark p k gone now told out keeps
mark-keeps false p k gone now told out keeps = keeps

keeps-job : (o : Opening) (cube brick p : ℕ) (job : CoreJob) (gone : EpochSet) (now told : List BrickEntry) → JobKeeps p gone job
    → KeepsTold p gone now told
    → KeepsTold p (rolled_after_job job gone) (brick_after_job o cube brick job now) (told_after_job o cube brick job told)
keeps-job o cube brick p (Append other epoch rows) gone now told j keeps =
    append-keeps (other == cube) o cube brick p epoch gone rows now told j.0 j.1 keeps
keeps-job o cube brick p (DropBox other epoch box) gone now told j keeps =
    mark-keeps (other == cube && box_has_brick o cube box brick) p epoch gone now told j.1 keeps
keeps-job o cube brick p (Scan query snapshot) gone now told j keeps = keeps
keeps-job o cube brick p (Delta query from to) gone now told j keeps = keeps
keeps-job o cube brick p (Rollback epoch) gone now told j keeps = keeps-rollback p epoch gone now told j keeps
keeps-job o cube brick p (Purge epoch) gone now told j keeps = keeps-purge p epoch gone now told j keeps
keeps-job o cube brick p (CopyRound from to) gone now told j keeps = keeps
keeps-job o cube brick p Flush gone now told j keeps = keeps

keeps-move : (o : Opening) (here : Bool) (cube brick p : ℕ) (move : WorkerMove) (gone : EpochSet) (now told : List BrickEntry)
    → ((job : CoreJob) → here ≡ true → move ≡ Work job Done → JobKeeps p gone job)
    → KeepsTold p gone now told
    → KeepsTold p (rolled_after_move here move gone) (brick_after_move o here cube brick move now) (told_after_move o here cube brick move told)
keeps-move o true cube brick p (Work job Done) gone now told j keeps = keeps-job o cube brick p job gone now told (j job refl refl) keeps
keeps-move o true cube brick p (Work job (ShardFull rows)) gone now told j keeps = keeps
keeps-move o true cube brick p (Work job (Found rows)) gone now told j keeps = keeps
keeps-move o true cube brick p (Work job (Compared came went)) gone now told j keeps = keeps
keeps-move o true cube brick p (Work job (Copied view)) gone now told j keeps = keeps
keeps-move o true cube brick p (Work job StoreLost) gone now told j keeps = keeps
keeps-move o true cube brick p (Work job OutOfMemory) gone now told j keeps = keeps
keeps-move o true cube brick p (Take client job) gone now told j keeps = keeps
keeps-move o true cube brick p (NoJob closed) gone now told j keeps = keeps
keeps-move o true cube brick p (Reply client answer) gone now told j keeps = keeps
keeps-move o false cube brick p move gone now told j keeps = keeps

-- The job of a move is so.
job-keeps-told : (o : Opening) (es : List CoreEvent) (mail a : ℕ) (job : CoreJob) → IsCoreRun o es → place mail a es ≡ Asked job
    → JobFits o a job (client_state o a es) (counters_of_run o es).lse
    → JobKeeps (counters_of_run o es).lse (rolled_back mail es) job
job-keeps-told o es mail a (Append cube epoch rows) run asked f =
    (above-lse o es epoch run (writer-of o es a epoch run f.0 f.1).pending, unrolled o es mail a epoch (Append cube epoch rows) run asked f.0 f.1 refl)
job-keeps-told o es mail a (DropBox cube epoch box) run asked f =
    (above-lse o es epoch run (writer-of o es a epoch run f.0 f.1).pending, unrolled o es mail a epoch (DropBox cube epoch box) run asked f.0 f.1 refl)
job-keeps-told o es mail a (Scan query snapshot) run asked f = tt
job-keeps-told o es mail a (Delta query from to) run asked f = tt
job-keeps-told o es mail a (Rollback epoch) run asked f = above-lse o es epoch run (writer-of o es a epoch run f.0 f.1).pending
job-keeps-told o es mail a (Purge epoch) run asked f = f
job-keeps-told o es mail a (CopyRound from to) run asked f = tt
job-keeps-told o es mail a Flush run asked f = tt

pub run-keeps : (o : Opening) (es : List CoreEvent) (cube brick : ℕ) → IsCoreRun o es
    → KeepsTold (counters_of_run o es).lse (rolled_back (brick % o.shards) es) (shard_view_of o es cube brick) (told_of o es cube brick)
run-keeps o [] cube brick run = keeps-same o.safe (told_of o [] cube brick)
run-keeps o (By b call ∷ es) cube brick run =
    keeps-rise (counters_of_run o es).lse (counters_of_run o (By b call ∷ es)).lse (rolled_back (brick % o.shards) es)
    (shard_view_of o es cube brick) (told_of o es cube brick) (lse-rises o b call es run) (run-keeps o es cube brick run.0)
run-keeps o (At mail move ∷ es) cube brick run =
    let shard = brick % o.shards in
    keeps-move o (mail == shard) cube brick (counters_of_run o es).lse move (rolled_back shard es) (shard_view_of o es cube brick)
    (told_of o es cube brick)
    (λ job here is.
    let same = eqb-true mail shard here in
    let made = made-asked o es mail job Done (coe 0 1 (i. IsCoreRun o (At mail (is i) ∷ es)) run) in
    coe 0 1 (i. JobKeeps (counters_of_run o es).lse (rolled_back (same i) es) job)
    (job-keeps-told o es mail made.0 job run.0 made.1 (asked-fits o es mail made.0 job run.0 made.1)))
    (run-keeps o es cube brick run.0)

-- What an open snapshot sees, by what the brick was told.
pub seen-of-told : (o : Opening) (es : List CoreEvent) (cube brick m : ℕ) (s : Snapshot) → IsCoreRun o es
    → held_by (counters_of_run o es).snapshots m ≡ Some s
    → brick_rows_seen s (shard_view_of o es cube brick)
    ≡ rows_shown_to (epochs_without (sees s) (rolled_back (brick % o.shards) es))
    (epochs_without (sees s) (rolled_back (brick % o.shards) es)) (told_of o es cube brick)
seen-of-told o es cube brick m s run held =
    (run-keeps o es cube brick run).shows (sees s) (sees s) (λ e le. sees-safe o es m e s run held le)
