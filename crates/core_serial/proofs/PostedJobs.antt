-- What was posted to a brick's shard by a transaction that goes on well is what was done there, and the job that is asked.
use Rattle.std.proofs.Common.{◌≡◌, ◌⊎◌, ◌∙◌, ℕ, ◌<◌, ◌≤◌, ◌==◌, Bool, true, false, true≢false, not, ◌&&◌, ◌||◌, List, [], ◌∷◌, ◌++◌, inl, inr, refl, sym, ap, arith, ne_eqb, if◌then◌else◌}
use Rattle.std.proofs.lemmas.Bool.{false≢true, false_from_ne_true}
use Rattle.cube_values.specs.declared.row.CodedRow.{CodedRow}
use Rattle.core_events.specs.ShardView.{BrickEntry, RowRun, RowMark}
use Rattle.core_events.specs.Jobs.{CoreJob, Append, DropBox, Scan, Delta, Rollback, Purge, CopyRound, Flush, is_refusal}
use Rattle.core_events.specs.Events.{Opening, CoreEvent}
use Rattle.core_events.specs.Groups.{GroupKind, Puts, Drops, RollsBack, kind_of, JobGroup, has_ended, is_ready, is_spoiled, has_refusal, may_begin}
use Rattle.core_events.specs.Clients.{client_state}
use Rattle.core_events.specs.Cells.{counters_of_run, rows_of_brick, box_has_brick}
use Rattle.core_events.specs.Fitting.{OwnsWriter, BeginsGroup, JoinsGroup}
use Rattle.core_events.specs.Runs.{IsCoreRun}
use Rattle.core_serial.specs.Told.{told_after_job}
use Rattle.core_events.proofs.Finished.{run-finished}
use Rattle.core_events.proofs.Places.{JobPlace, Nowhere, Asked, Answered}
use Rattle.core_serial.proofs.Isolation.{JobFits}
use Rattle.core_serial.proofs.ToldBricks.{HasWriter, writer-of, one-writer, rolling-unready, is_rolling}
use Rattle.core_events.specs.BrickTransactions.{entries_of_epoch}
use Rattle.core_serial.specs.PostedEntries.{entries_of_job}
use Rattle.core_serial.proofs.Fates.{HasFate, HaveFates}

-- The entries of an epoch in two lists.

run-first : (here : Bool) (e : ℕ) (rows : List CodedRow) (a b : List BrickEntry)
    → (if here then RowRun e rows ∷ (a ++ b) else a ++ b) ≡ (if here then RowRun e rows ∷ a else a) ++ b
run-first true e rows a b = refl
run-first false e rows a b = refl

mark-first : (here : Bool) (e : ℕ) (a b : List BrickEntry)
    → (if here then RowMark e ∷ (a ++ b) else a ++ b) ≡ (if here then RowMark e ∷ a else a) ++ b
mark-first true e a b = refl
mark-first false e a b = refl

pub epoch-append : (e : ℕ) (xs ys : List BrickEntry) → entries_of_epoch e (xs ++ ys) ≡ entries_of_epoch e xs ++ entries_of_epoch e ys
epoch-append e [] ys = refl
epoch-append e (RowRun j rows ∷ xs) ys =
    ap (λ (r : List BrickEntry). if j == e then RowRun j rows ∷ r else r) (epoch-append e xs ys)
    ∙ run-first (j == e) j rows (entries_of_epoch e xs) (entries_of_epoch e ys)
epoch-append e (RowMark j ∷ xs) ys =
    ap (λ (r : List BrickEntry). if j == e then RowMark j ∷ r else r) (epoch-append e xs ys)
    ∙ mark-first (j == e) j (entries_of_epoch e xs) (entries_of_epoch e ys)

run-told : (here : Bool) (e : ℕ) (rows : List CodedRow) (told : List BrickEntry)
    → (if here then RowRun e rows ∷ told else told) ≡ (if here then RowRun e rows ∷ [] else []) ++ told
run-told true e rows told = refl
run-told false e rows told = refl

mark-told : (here : Bool) (e : ℕ) (told : List BrickEntry) → (if here then RowMark e ∷ told else told) ≡ (if here then RowMark e ∷ [] else []) ++ told
mark-told true e told = refl
mark-told false e told = refl

pub told-job : (o : Opening) (cube brick : ℕ) (job : CoreJob) (told : List BrickEntry)
    → told_after_job o cube brick job told ≡ entries_of_job o cube brick job ++ told
told-job o cube brick (Append other epoch rows) told = run-told (other == cube) epoch (rows_of_brick o cube brick rows) told
told-job o cube brick (DropBox other epoch box) told = mark-told (other == cube && box_has_brick o cube box brick) epoch told
told-job o cube brick (Scan query snapshot) told = refl
told-job o cube brick (Delta query from to) told = refl
told-job o cube brick (Rollback epoch) told = refl
told-job o cube brick (Purge epoch) told = refl
told-job o cube brick (CopyRound from to) told = refl
told-job o cube brick Flush told = refl

-- A job of another epoch has no entries of this one.

abbrev pub IsOtherEpoch : ℕ → CoreJob → Type 0
IsOtherEpoch e (Append cube epoch rows) = epoch ≡ e → ⊥
IsOtherEpoch e (DropBox cube epoch box) = epoch ≡ e → ⊥
IsOtherEpoch e job = Unit {0}

none-run : (here : Bool) (e j : ℕ) (rows : List CodedRow) → (j ≡ e → ⊥) → entries_of_epoch e (if here then RowRun j rows ∷ [] else []) ≡ []
none-run true e j rows other = ap (λ (b : Bool). if b then RowRun j rows ∷ [] else []) (ne_eqb j e other)
none-run false e j rows other = refl

none-mark : (here : Bool) (e j : ℕ) → (j ≡ e → ⊥) → entries_of_epoch e (if here then RowMark j ∷ [] else []) ≡ []
none-mark true e j other = ap (λ (b : Bool). if b then RowMark j ∷ [] else []) (ne_eqb j e other)
none-mark false e j other = refl

pub none-of-job : (o : Opening) (cube brick e : ℕ) (job : CoreJob) → IsOtherEpoch e job → entries_of_epoch e (entries_of_job o cube brick job) ≡ []
none-of-job o cube brick e (Append other epoch rows) out = none-run (other == cube) e epoch (rows_of_brick o cube brick rows) out
none-of-job o cube brick e (DropBox other epoch box) out = none-mark (other == cube && box_has_brick o cube box brick) e epoch out
none-of-job o cube brick e (Scan query snapshot) out = refl
none-of-job o cube brick e (Delta query from to) out = refl
none-of-job o cube brick e (Rollback epoch) out = refl
none-of-job o cube brick e (Purge epoch) out = refl
none-of-job o cube brick e (CopyRound from to) out = refl
none-of-job o cube brick e Flush out = refl

pub other-epoch : (o : Opening) (es : List CoreEvent) (a c e lse : ℕ) (job : CoreJob) → IsCoreRun o es → HasWriter o es a e → (c ≡ a → ⊥)
    → JobFits o c job (client_state o c es) lse → IsOtherEpoch e job
other-epoch o es a c e lse (Append cube epoch rows) run w apart f =
    λ same. apart (one-writer o es c a e run (writer-of o es c e run f.0 (coe 0 1 (i. OwnsWriter c (same i) (client_state o c es)) f.1)) w)
other-epoch o es a c e lse (DropBox cube epoch box) run w apart f =
    λ same. apart (one-writer o es c a e run (writer-of o es c e run f.0 (coe 0 1 (i. OwnsWriter c (same i) (client_state o c es)) f.1)) w)
other-epoch o es a c e lse (Scan query snapshot) run w apart f = tt
other-epoch o es a c e lse (Delta query from to) run w apart f = tt
other-epoch o es a c e lse (Rollback epoch) run w apart f = tt
other-epoch o es a c e lse (Purge epoch) run w apart f = tt
other-epoch o es a c e lse (CopyRound from to) run w apart f = tt
other-epoch o es a c e lse Flush run w apart f = tt

-- The group neither rolls back nor has a write that was refused.
pub record IsClean (g : JobGroup) : Type 0 where
  pub goes_on : is_rolling g.kind ≡ false
  pub unspoiled : is_spoiled g.kind (has_refusal g.answers) ≡ false

abbrev pub is_write : CoreJob → Bool
is_write (Append cube epoch rows) = true
is_write (DropBox cube epoch box) = true
is_write job = false

-- What was posted and what was done of an epoch, by where the client's job is.
abbrev pub PlacePosted : Opening → ℕ → ℕ → ℕ → List BrickEntry → List BrickEntry → JobPlace → Type 0
PlacePosted o cube brick e posted told Nowhere = entries_of_epoch e posted ≡ entries_of_epoch e told
PlacePosted o cube brick e posted told (Asked job) =
    entries_of_epoch e posted ≡ entries_of_epoch e (entries_of_job o cube brick job) ++ entries_of_epoch e told
PlacePosted o cube brick e posted told (Answered job answer) =
    (is_write job && is_refusal answer) ≡ false → entries_of_epoch e posted ≡ entries_of_epoch e told

-- Lists that have the same entries of the epoch.
pub place-same : (o : Opening) (cube brick e : ℕ) (posted told more done : List BrickEntry) (p : JobPlace)
    → entries_of_epoch e more ≡ entries_of_epoch e posted → entries_of_epoch e done ≡ entries_of_epoch e told
    → PlacePosted o cube brick e posted told p → PlacePosted o cube brick e more done p
place-same o cube brick e posted told more done Nowhere m d f = m ∙ f ∙ sym d
place-same o cube brick e posted told more done (Asked job) m d f =
    m ∙ f ∙ ap (λ xs. entries_of_epoch e (entries_of_job o cube brick job) ++ xs) (sym d)
place-same o cube brick e posted told more done (Answered job answer) m d f = λ fine. m ∙ f fine ∙ sym d

pub nowhere-posted : (o : Opening) (cube brick e : ℕ) (posted told : List BrickEntry) (p : JobPlace) → p ≡ Nowhere
    → PlacePosted o cube brick e posted told p → entries_of_epoch e posted ≡ entries_of_epoch e told
nowhere-posted o cube brick e posted told p is f = coe 0 1 (i. PlacePosted o cube brick e posted told (is i)) f

-- Clean before, where it is clean after.

pub ready-clean : (shards : ℕ) (g : JobGroup) → is_ready shards g ≡ true → IsClean g
ready-clean shards g ready = record {
  goes_on = false_from_ne_true (is_rolling g.kind) (λ rolls. rolling-unready shards g (rolls-is g.kind rolls) ready);
  unspoiled = right-not (has_ended shards g) (is_spoiled g.kind (has_refusal g.answers)) ready;
} where
  rolls-is : (k : GroupKind) → is_rolling k ≡ true → k ≡ RollsBack
  rolls-is RollsBack e = refl
  rolls-is k e = absurd (false≢true e)

  right-not : (a b : Bool) → (a && not b) ≡ true → b ≡ false
  right-not true true e = absurd (false≢true e)
  right-not true false e = refl
  right-not false b e = absurd (false≢true e)

begin-ready : (shards : ℕ) (job : CoreJob) (g : JobGroup) → may_begin shards job g ≡ true → is_rolling (kind_of job) ≡ false → is_ready shards g ≡ true
begin-ready shards (Append cube epoch rows) g may goes = may
begin-ready shards (DropBox cube epoch box) g may goes = may
begin-ready shards (Scan query snapshot) g may goes = may
begin-ready shards (Delta query from to) g may goes = may
begin-ready shards (Rollback epoch) g may goes = absurd (true≢false goes)
begin-ready shards (Purge epoch) g may goes = may
begin-ready shards (CopyRound from to) g may goes = may
begin-ready shards Flush g may goes = may

pub post-clean : (ended : Bool) (shards other : ℕ) (job : CoreJob) (g : JobGroup) → has_ended shards g ≡ ended
    → BeginsGroup shards job g ⊎ JoinsGroup shards other job g
    → IsClean (if ended then record { kind = kind_of job; waits = other ∷ []; answers = [] } else record g { waits = other ∷ g.waits })
    → IsClean g
post-clean true shards other job g e (inl begins) c = ready-clean shards g (begin-ready shards job g begins.next c.goes_on)
post-clean true shards other job g e (inr joins) c = absurd (true≢false (sym e ∙ joins.under_way))
post-clean false shards other job g e f c = record { goes_on = c.goes_on; unspoiled = c.unspoiled }

or-last : (r rs : Bool) → (r || rs) ≡ false → rs ≡ false
or-last true rs e = absurd (true≢false e)
or-last false rs e = e

pub spoiled-less : (k : GroupKind) (r rs : Bool) → is_spoiled k (r || rs) ≡ false → is_spoiled k rs ≡ false
spoiled-less Puts r rs e = or-last r rs e
spoiled-less (Drops cube box) r rs e = or-last r rs e
spoiled-less k r rs e = refl

or-first : (r rs : Bool) → (r || rs) ≡ false → r ≡ false
or-first true rs e = e
or-first false rs e = refl

pub fine-answer : (job : CoreJob) (k : GroupKind) (r rs : Bool) → kind_of job ≡ k → is_spoiled k (r || rs) ≡ false → (is_write job && r) ≡ false
fine-answer (Append cube epoch rows) k r rs is e = or-first r rs (ap (λ (x : GroupKind). is_spoiled x (r || rs)) is ∙ e)
fine-answer (DropBox cube epoch box) k r rs is e = or-first r rs (ap (λ (x : GroupKind). is_spoiled x (r || rs)) is ∙ e)
fine-answer (Scan query snapshot) k r rs is e = refl
fine-answer (Delta query from to) k r rs is e = refl
fine-answer (Rollback epoch) k r rs is e = refl
fine-answer (Purge epoch) k r rs is e = refl
fine-answer (CopyRound from to) k r rs is e = refl
fine-answer Flush k r rs is e = refl

-- Posted entries have a fate too.

pub fates-append : (o : Opening) (es : List CoreEvent) (xs ys : List BrickEntry) → HaveFates o es xs → HaveFates o es ys → HaveFates o es (xs ++ ys)
fates-append o es [] ys f g = g
fates-append o es (RowRun e rows ∷ xs) ys f g = (f.0, fates-append o es xs ys f.1 g)
fates-append o es (RowMark e ∷ xs) ys f g = (f.0, fates-append o es xs ys f.1 g)

-- An epoch with a fate is below EC.
pub fate-below : (o : Opening) (es : List CoreEvent) (e : ℕ) → IsCoreRun o es → HasFate o es e → e < (counters_of_run o es).ec
fate-below o es e run (inl done) = (run-finished o es run).done_below e done
fate-below o es e run (inr (inl gone)) = (run-finished o es run).gone_below e gone
fate-below o es e run (inr (inr pending)) = (run-finished o es run).below e pending

-- No entry is of an epoch from EC on.
pub none-fresh : (o : Opening) (es : List CoreEvent) (e : ℕ) (xs : List BrickEntry) → IsCoreRun o es → (counters_of_run o es).ec ≤ e → HaveFates o es xs
    → entries_of_epoch e xs ≡ []
none-fresh o es e [] run le f = refl
none-fresh o es e (RowRun j rows ∷ xs) run le f =
    ap (λ (b : Bool). if b then RowRun j rows ∷ entries_of_epoch e xs else entries_of_epoch e xs)
    (ne_eqb j e (λ same. let l = fate-below o es j run f.0 in omega (arith, l, le, same)))
    ∙ none-fresh o es e xs run le f.1
none-fresh o es e (RowMark j ∷ xs) run le f =
    ap (λ (b : Bool). if b then RowMark j ∷ entries_of_epoch e xs else entries_of_epoch e xs)
    (ne_eqb j e (λ same. let l = fate-below o es j run f.0 in omega (arith, l, le, same)))
    ∙ none-fresh o es e xs run le f.1
