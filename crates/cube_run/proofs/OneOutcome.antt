-- The entries of a statement tell how it ended.
use Rattle.std.proofs.Common.{◌≡◌, ◌⊎◌, inl, inr, ℕ, true, false, List, ◌∷◌, Option, Some, None, refl, ap, sym, subst, ◌∙◌, arith}
use Rattle.std.specs.Option.{option_or, option_and_then}
use Rattle.std.proofs.lemmas.Bool.{false≢true}
use Rattle.std.proofs.lemmas.Option.{none-some}
use Rattle.cube_language.specs.declared.misfit.Misfit.{Misfit}
use Rattle.cube_journal.specs.declared.journal_entry.AbortCause.{AbortCause}
use Rattle.cube_journal.specs.declared.journal_entry.AbortCause.TheVariants as abort
use Rattle.cube_journal.specs.declared.journal_entry.JournalEntry.{JournalEntry}
use Rattle.cube_journal.specs.declared.journal_entry.JournalEntry.TheVariants as entry
use Rattle.cube_journal.specs.declared.refusal.Refusal.{Refusal}
use Rattle.cube_journal.specs.declared.refusal.Refusal.TheVariants as refusal
use Rattle.cube_journal.specs.Refusals.{code}
use Rattle.cube_run.specs.Merge.{IsOutcome}
use Rattle.cube_run.specs.StepOutcomes.{IsMisfitOf, MayEnd, refused_first, shard_full, store_failed, read_fault, no_memory, Meets, MeetsAtBinding, bound_refusal, data_refusal}
use Rattle.cube_run.specs.RunRecords.{RunRecord, Catalog, catalog_of, Sentence, Says, SaysNone, cube_called, cube_needed}
use Rattle.cube_run.specs.SessionStates.{Mode, Idle, Open, Aborted, KeptWatch}
use Rattle.cube_run.specs.SessionSteps.{SessionStep}
use Rattle.cube_run.specs.StatementEntries.{Outcome, Done, RefusedWith, Leaves, select_idle, select_idle_without_memory, select_open, change_idle, change_idle_ended, change_open, change_open_ended, begin_done, commit_done, rollback_of_open, rollback_of_aborted, flush_done, purge_done, show_done, create_done, watch_done, watch_without_memory, show_watch_done, show_watch_without_memory, other_refusal, cause_of, own_cause_of, leaves_refused, entries_to_commit}
use Rattle.cube_run.proofs.OneMisfit.{one-misfit-on}

-- ---- one first refusal

one-misfit-of : (c : Catalog) (sentence : Sentence) (a b : Option Misfit) → IsMisfitOf c sentence a
    → IsMisfitOf c sentence b → a ≡ b
one-misfit-of c (Says s) a b p q = one-misfit-on (option_and_then (cube_called c.cubes) (cube_needed s)) s a b p q
one-misfit-of c (SaysNone at) a b p q = p ∙ sym q

one-at-binding : (c : Catalog) (step : SessionStep) (a b : Option Refusal) → MeetsAtBinding c step a
    → MeetsAtBinding c step b → a ≡ b
one-at-binding c step a b p q =
    let same = one-misfit-of c step.sentence p.misfit q.misfit p.is_misfit q.is_misfit in
    sym p.is ∙ (ap (bound_refusal step step.sentence) same ∙ q.is)

one-first : (c : Catalog) (step : SessionStep) (a b : Option Refusal) → Meets c step a → Meets c step b → a ≡ b
one-first c step a b p q =
    let same = one-at-binding c step p.binding q.binding p.meets q.meets in
    sym p.is ∙ (ap (λ (o : Option Refusal). option_or o (data_refusal c step.file step.sentence)) same ∙ q.is)

-- ---- what entries tell

data Verdict : Type 0 where
  Passed : Verdict
  Numbered : ℕ → Verdict
  Caused : AbortCause → Verdict

abbrev verdict : List JournalEntry → Verdict
verdict (entry.Refused i j n ∷ later) = Numbered n
verdict (entry.Aborted i j epoch cause ∷ later) = Caused cause
verdict (entry.Read i j epoch ∷ entry.ReadEnd h k ∷ entry.Refused a b n ∷ later) = Numbered n
verdict (entry.Begin i j epoch deps ∷ entry.Aborted h k e cause ∷ later) = Caused cause
verdict entries = Passed

record IsNumbered (mode : Mode) (n : ℕ) (o : Outcome) : Type 0 where
  r : Refusal
  is : o ≡ RefusedWith r
  number : code r ≡ n
  leaves : leaves_refused mode r ≡ true

record IsCaused (cause : AbortCause) (o : Outcome) : Type 0 where
  r : Refusal
  is : o ≡ RefusedWith r
  by : cause_of r ≡ Some cause

record IsAsked (cause : AbortCause) (o : Outcome) : Type 0 where
  done : o ≡ Done
  asked : cause ≡ abort.Asked

abbrev Agrees : Mode → Verdict → Outcome → Type 0
Agrees mode Passed o = o ≡ Done
Agrees mode (Numbered n) o = IsNumbered mode n o
Agrees mode (Caused cause) o = IsAsked cause o ⊎ IsCaused cause o

own-cause : (r : Refusal) (cause : AbortCause) → own_cause_of r ≡ Some cause → cause_of r ≡ Some cause
own-cause refusal.ReadFault cause h = absurd (none-some cause h)
own-cause r cause h = h

memory-leaves : (mode : Mode) → leaves_refused mode refusal.NoMemory ≡ true
memory-leaves Idle = refl
memory-leaves (Open writer) = refl
memory-leaves (Aborted epoch) = refl

agrees : {i j : ℕ} {mode : Mode} {watch : Option KeptWatch} {sentence : Sentence} {o : Outcome} {es : List JournalEntry}
    → Leaves i j mode watch sentence o es → Agrees mode (verdict es) o
agrees (select_idle epoch is) = refl
agrees (select_idle_without_memory epoch is) = record { r = refusal.NoMemory; is = refl; number = refl; leaves = refl }
agrees (select_open is) = refl
agrees (change_idle epoch deps is) = refl
agrees (change_idle_ended {r = r} epoch deps cause is by) = inr (record { r = r; is = refl; by = own-cause r cause by })
agrees (change_open is) = refl
agrees (change_open_ended {r = r} cause is by) = inr (record { r = r; is = refl; by = by })
agrees (begin_done epoch deps) = refl
agrees commit_done = refl
agrees rollback_of_open = inl (record { done = refl; asked = refl })
agrees rollback_of_aborted = refl
agrees flush_done = refl
agrees (purge_done epoch) = refl
agrees show_done = refl
agrees (create_done epoch) = refl
agrees (watch_done epoch is) = refl
agrees {mode = mode} (watch_without_memory epoch is can) =
    record { r = refusal.NoMemory; is = refl; number = refl; leaves = memory-leaves mode }
agrees (show_watch_done epoch) = refl
agrees {mode = mode} (show_watch_without_memory epoch can) =
    record { r = refusal.NoMemory; is = refl; number = refl; leaves = memory-leaves mode }
agrees (other_refusal {r = r} is) = record { r = r; is = refl; number = refl; leaves = is }

-- ---- refusals without a value

no-memory-by-number : (r : Refusal) → code r ≡ 16 → r ≡ refusal.NoMemory
no-memory-by-number refusal.NoMemory h = refl
no-memory-by-number r h = absurd (omega arith)

store-failed-by-number : (r : Refusal) → code r ≡ 17 → r ≡ refusal.StoreFailed
store-failed-by-number refusal.StoreFailed h = refl
store-failed-by-number r h = absurd (omega arith)

read-fault-by-number : (r : Refusal) → code r ≡ 11 → r ≡ refusal.ReadFault
read-fault-by-number refusal.ReadFault h = refl
read-fault-by-number r h = absurd (omega arith)

abbrev cause-tag : AbortCause → ℕ
cause-tag abort.Asked = 0
cause-tag abort.EndOfScript = 1
cause-tag abort.TooManyRejected = 2
cause-tag abort.ReadFault = 3
cause-tag abort.NoMemory = 4
cause-tag (abort.ShardFull shard rows) = 5

abbrev option-tag : Option AbortCause → ℕ
option-tag None = 9
option-tag (Some cause) = cause-tag cause

-- The refusal of a cause without values.
no-memory-by-cause : (r : Refusal) → option-tag (cause_of r) ≡ 4 → r ≡ refusal.NoMemory
no-memory-by-cause refusal.NoMemory h = refl
no-memory-by-cause r h = absurd (omega arith)

read-fault-by-cause : (r : Refusal) → option-tag (cause_of r) ≡ 3 → r ≡ refusal.ReadFault
read-fault-by-cause refusal.ReadFault h = refl
read-fault-by-cause r h = absurd (omega arith)

never-asked : (r : Refusal) → option-tag (cause_of r) ≡ 0 → ⊥
never-asked (refusal.TooManyRejected a b) h = omega arith
never-asked refusal.ReadFault h = omega arith
never-asked refusal.NoMemory h = omega arith
never-asked (refusal.ShardFull a b) h = omega arith
never-asked r h = omega arith

abbrev shard-of : Option AbortCause → Refusal
shard-of (Some (abort.ShardFull shard rows)) = refusal.ShardFull shard rows
shard-of o = refusal.NoMemory

shard-full-by-cause : (r : Refusal) (shard rows : ℕ) → cause_of r ≡ Some (abort.ShardFull shard rows)
    → r ≡ refusal.ShardFull shard rows
shard-full-by-cause (refusal.ShardFull a b) shard rows h = ap shard-of h
shard-full-by-cause r shard rows h = let t : option-tag (cause_of r) ≡ 5 = ap option-tag h in absurd (omega arith)

-- ---- one outcome

abbrev some-of : Refusal → Option Refusal → Refusal
some-of r None = r
some-of r (Some x) = x

full-stays : (mode : Mode) (shard rows : ℕ) → leaves_refused mode (refusal.ShardFull shard rows) ≡ false
full-stays Idle shard rows = refl
full-stays (Open writer) shard rows = refl
full-stays (Aborted epoch) shard rows = refl

false-true : (mode : Mode) (shard rows : ℕ) → leaves_refused mode (refusal.ShardFull shard rows) ≡ true → ⊥
false-true mode shard rows h = false≢true (sym (full-stays mode shard rows) ∙ h)

by-number : (c : Catalog) (step : SessionStep) (mode : Mode) {a b : Refusal} → MayEnd c step (RefusedWith a)
    → MayEnd c step (RefusedWith b) → code a ≡ code b → leaves_refused mode a ≡ true → leaves_refused mode b ≡ true
    → a ≡ b
by-number c step mode (refused_first r p) (refused_first q m) h l k =
    ap (some-of r) (one-first c step (Some r) (Some q) p m)
by-number c step mode {a = a} p no_memory h l k = no-memory-by-number a h
by-number c step mode {b = b} no_memory q h l k = sym (no-memory-by-number b (sym h))
by-number c step mode {a = a} p (store_failed is m) h l k = store-failed-by-number a h
by-number c step mode {b = b} (store_failed is m) q h l k = sym (store-failed-by-number b (sym h))
by-number c step mode {a = a} p (read_fault is m) h l k = read-fault-by-number a h
by-number c step mode {b = b} (read_fault is m) q h l k = sym (read-fault-by-number b (sym h))
by-number c step mode p (shard_full shard rows is m) h l k = absurd (false-true mode shard rows k)
by-number c step mode (shard_full shard rows is m) q h l k = absurd (false-true mode shard rows l)

by-cause : (c : Catalog) (step : SessionStep) (cause : AbortCause) {a b : Refusal} → MayEnd c step (RefusedWith a)
    → MayEnd c step (RefusedWith b) → cause_of a ≡ Some cause → cause_of b ≡ Some cause → a ≡ b
by-cause c step cause (refused_first r p) (refused_first q m) x y =
    ap (some-of r) (one-first c step (Some r) (Some q) p m)
by-cause c step cause {a = a} p no_memory x y = no-memory-by-cause a (ap option-tag (x ∙ sym y))
by-cause c step cause {b = b} no_memory q x y = sym (no-memory-by-cause b (ap option-tag (y ∙ sym x)))
by-cause c step cause p (store_failed is m) x y = absurd (none-some cause y)
by-cause c step cause (store_failed is m) q x y = absurd (none-some cause x)
by-cause c step cause {a = a} p (read_fault is m) x y = read-fault-by-cause a (ap option-tag (x ∙ sym y))
by-cause c step cause {b = b} (read_fault is m) q x y = sym (read-fault-by-cause b (ap option-tag (y ∙ sym x)))
by-cause c step cause {a = a} p (shard_full shard rows is m) x y = shard-full-by-cause a shard rows (x ∙ sym y)
by-cause c step cause {b = b} (shard_full shard rows is m) q x y = sym (shard-full-by-cause b shard rows (y ∙ sym x))

one-of-verdict : (c : Catalog) (step : SessionStep) (mode : Mode) (v : Verdict) (a b : Outcome) → Agrees mode v a
    → Agrees mode v b → MayEnd c step a → MayEnd c step b → a ≡ b
one-of-verdict c step mode Passed a b x y p q = x ∙ sym y
one-of-verdict c step mode (Numbered n) a b x y p q =
    let same = by-number c step mode (subst (MayEnd c step) x.is p) (subst (MayEnd c step) y.is q)
    (x.number ∙ sym y.number) x.leaves y.leaves in
    x.is ∙ (ap RefusedWith same ∙ sym y.is)
one-of-verdict c step mode (Caused cause) a b (inl x) (inl y) p q = x.done ∙ sym y.done
one-of-verdict c step mode (Caused cause) a b (inl x) (inr y) p q =
    absurd (never-asked y.r (ap option-tag (y.by ∙ ap Some x.asked)))
one-of-verdict c step mode (Caused cause) a b (inr x) (inl y) p q =
    absurd (never-asked x.r (ap option-tag (x.by ∙ ap Some y.asked)))
one-of-verdict c step mode (Caused cause) a b (inr x) (inr y) p q =
    let same = by-cause c step cause (subst (MayEnd c step) x.is p) (subst (MayEnd c step) y.is q) x.by y.by in
    x.is ∙ (ap RefusedWith same ∙ sym y.is)

pub one-outcome : (run : RunRecord) (step : SessionStep) (a b : Outcome) → IsOutcome run step a → IsOutcome run step b
    → a ≡ b
one-outcome run step a b p q =
    one-of-verdict (catalog_of run) step step.state.mode (verdict (entries_to_commit step.entries)) a b
    (agrees p.leaves) (agrees q.leaves) p.ends q.ends
