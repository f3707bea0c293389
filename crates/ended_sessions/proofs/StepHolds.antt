-- What a session holds by a statement's entries is what it then is.
use Rattle.std.proofs.Common.{◌≡◌, ◌⊎◌, ◌∙◌, ℕ, ◌==◌, Bool, true, false, true≢false, ◌&&◌, ◌||◌, List, [], ◌∷◌, ◌++◌, append-nil, Option, Some, None, if◌then◌else◌, inl, inr, refl, sym, ap, arith, eqb-true, eq-eqb, ne_eqb}
use Rattle.std.specs.List.{list_any}
use Rattle.std.proofs.lemmas.Bool.{false≢true}
use Rattle.cube_journal.specs.declared.journal_entry.AbortCause.{AbortCause}
use Rattle.cube_journal.specs.declared.journal_entry.AbortCause.TheVariants as abort
use Rattle.cube_journal.specs.declared.journal_entry.JournalEntry.{JournalEntry}
use Rattle.cube_journal.specs.declared.journal_entry.JournalEntry.TheVariants as entry
use Rattle.cube_journal.specs.Refusals.{code}
use Rattle.cube_language.specs.declared.statement.Statement.{Statement}
use Rattle.cube_language.specs.declared.statement.Statement.TheVariants.{Watch, ShowWatch, Begin, Commit, Rollback, Flush, Purge, ShowEpochs, CreateCube}
use Rattle.cube_run.specs.RunRecords.{Sentence, Says}
use Rattle.cube_run.specs.SessionStates.{KeptWatch, Mode, Idle, Open, Aborted, first_holder, second_holder, other_holder, is_commit, mode_after, mode_after_abort, watch_after}
use Rattle.cube_run.specs.StatementEntries.{Outcome, Leaves, select_idle, select_idle_without_memory, select_open, change_idle, change_idle_ended, change_open, change_open_ended, begin_done, commit_done, rollback_of_open, rollback_of_aborted, flush_done, purge_done, show_done, create_done, watch_done, watch_without_memory, show_watch_done, show_watch_without_memory, other_refusal, is_select, is_watch}
use Rattle.ended_sessions.proofs.HeldNumbers.{IsHolder, IsState, held_after_all, held_in, held_step, is_open, keeps_under, watch-apart}

-- ---- a watch that is left

abbrev begins_read : List JournalEntry → Bool
begins_read (entry.Read holder statement epoch ∷ later) = true
begins_read entries = false

watch-kept : (watch : Option KeptWatch) (sentence : Sentence) (entries : List JournalEntry)
    → begins_read entries ≡ false → watch_after watch sentence entries ≡ watch
watch-kept None (Says (Watch items cube conds group)) (entry.Read holder statement epoch ∷ later) not =
    absurd (true≢false not)
watch-kept (Some kept) (Says ShowWatch) (entry.Read holder statement epoch ∷ later) not = absurd (true≢false not)
watch-kept watch sentence entries not = refl

select-keeps : (watch : Option KeptWatch) (s : Statement) (entries : List JournalEntry) → is_select s ≡ true
    → watch_after watch (Says s) entries ≡ watch
select-keeps None (Watch items cube conds group) entries is = absurd (false≢true is)
select-keeps (Some kept) ShowWatch entries is = absurd (false≢true is)
select-keeps watch s entries is = refl

watch-fails : (s : Statement) (holder j epoch : ℕ) (e : JournalEntry) (later : List JournalEntry)
    → watch_after None (Says s) (entry.Read holder j epoch ∷ e ∷ later) ≡ None
watch-fails (Watch items cube conds group) holder j epoch e later = refl
watch-fails s holder j epoch e later = refl

-- ---- tests

once : (b r : Bool) → (b ≡ true → r ≡ false) → (if b then false else (r || b)) ≡ r
once true r apart = sym (apart refl)
once false true apart = refl
once false false apart = refl

opened : (b r : Bool) → (r || b) ≡ (b || r)
opened true true = refl
opened true false = refl
opened false true = refl
opened false false = refl

ended : (b r : Bool) → (b ≡ true → r ≡ false) → (if b then false else (b || r)) ≡ r
ended true r apart = sym (apart refl)
ended false r apart = refl

-- ---- a statement

abbrev pub After : ℕ → Mode → Option KeptWatch → Sentence → (ℕ → Bool) → List JournalEntry → Type 0
After i mode watch sentence holds entries =
    IsState i (mode_after mode entries) (watch_after watch sentence entries) (λ m. held_after_all m (holds m) entries)

-- The state, where the watch is left.
same-watch : (i : ℕ) (mode new : Mode) (watch other : Option KeptWatch) (before holds : ℕ → Bool) → other ≡ watch
    → IsState i mode watch before → ((m : ℕ) → holds m ≡ held_in i new watch m) → IsState i new other holds
same-watch i mode new watch other before holds same state is = record {
  held = λ m. is m ∙ ap (λ (w : Option KeptWatch). held_in i new w m) (sym same);
  holder = coe 1 0 (i'. IsHolder i (same i')) state.holder;
}

-- An entry by which nobody's number changes.
quiet-mode : (mode : Mode) (e : JournalEntry) → mode_after mode (e ∷ []) ≡ mode
    → (i : ℕ) (watch : Option KeptWatch) (sentence : Sentence) (holds : ℕ → Bool) → begins_read (e ∷ []) ≡ false
    → ((m : ℕ) → held_step m (holds m) e ≡ holds m) → IsState i mode watch holds
    → After i mode watch sentence holds (e ∷ [])
quiet-mode mode e kept i watch sentence holds not stays state =
    same-watch i mode (mode_after mode (e ∷ [])) watch (watch_after watch sentence (e ∷ [])) holds
    (λ m. held_after_all m (holds m) (e ∷ [])) (watch-kept watch sentence (e ∷ []) not) state
    (λ m. stays m ∙ state.held m ∙ ap (λ (x : Mode). held_in i x watch m) (sym kept))

flushed-mode : (mode : Mode) (i j : ℕ) → mode_after mode (entry.Flushed i j ∷ []) ≡ mode
flushed-mode Idle i j = refl
flushed-mode (Open writer) i j = refl
flushed-mode (Aborted epoch) i j = refl

purged-mode : (mode : Mode) (i j epoch : ℕ) → mode_after mode (entry.Purged i j epoch ∷ []) ≡ mode
purged-mode Idle i j epoch = refl
purged-mode (Open writer) i j epoch = refl
purged-mode (Aborted old) i j epoch = refl

shown-mode : (mode : Mode) (i j : ℕ) → mode_after mode (entry.Show i j ∷ []) ≡ mode
shown-mode Idle i j = refl
shown-mode (Open writer) i j = refl
shown-mode (Aborted epoch) i j = refl

refused-mode : (mode : Mode) (i j code : ℕ) → mode_after mode (entry.Refused i j code ∷ []) ≡ mode
refused-mode Idle i j code = refl
refused-mode (Open writer) i j code = refl
refused-mode (Aborted epoch) i j code = refl

read-mode : (mode : Mode) (holder j epoch : ℕ) (later : List JournalEntry)
    → mode_after mode (entry.Read holder j epoch ∷ later) ≡ mode
read-mode Idle holder j epoch later = refl
read-mode (Open writer) holder j epoch later = refl
read-mode (Aborted old) holder j epoch later = refl

closed-by : (epoch : ℕ) (cause : AbortCause) → is_open (mode_after_abort epoch cause) ≡ false
closed-by epoch abort.Asked = refl
closed-by epoch abort.EndOfScript = refl
closed-by epoch cause = refl

-- Under a holder's number.
holder-opened : (open_now b r : Bool) → (b ≡ true → open_now ≡ false) → ((open_now || r) || b) ≡ (open_now || (r || b))
holder-opened true b r apart = refl
holder-opened false b r apart = refl

reader-once : (b held : Bool) → (b ≡ true → held ≡ false) → (if b then false else (held || b)) ≡ held
reader-once true held apart = sym (apart refl)
reader-once false true apart = refl
reader-once false false apart = refl

own-apart : (i m n : ℕ) (open_now : Bool) → (n ≡ first_holder i) ⊎ (n ≡ second_holder i) → (n == m) ≡ true
    → (open_now && (i == m)) ≡ false
own-apart i m n true under same = ne_eqb i m (λ is. apart under is)
  where
    apart : (n ≡ first_holder i) ⊎ (n ≡ second_holder i) → i ≡ m → ⊥
    apart (inl first) is = let at = eqb-true n m same in omega (arith, first, is, at)
    apart (inr second) is = let at = eqb-true n m same in omega (arith, second, is, at)
own-apart i m n false under same = refl

-- The other holder's number.
record IsOther (i holder : ℕ) : Type 0 where
  under : (other_holder i holder ≡ first_holder i) ⊎ (other_holder i holder ≡ second_holder i)
  apart : other_holder i holder ≡ holder → ⊥

other-of : (i holder : ℕ) → (holder ≡ first_holder i) ⊎ (holder ≡ second_holder i) → IsOther i holder
other-of i holder (inl first) =
    let is : other_holder i holder ≡ second_holder i =
    ap (λ (b : Bool). if b then second_holder i else first_holder i) (eq-eqb holder (first_holder i) first)
    in
    record { under = inr is; apart = λ same. omega (arith, is, first, same) }
other-of i holder (inr second) =
    let is : other_holder i holder ≡ first_holder i =
    ap (λ (b : Bool). if b then second_holder i else first_holder i)
    (ne_eqb holder (first_holder i) (λ same. omega (arith, second, same)))
    in
    record { under = inl is; apart = λ same. omega (arith, is, second, same) }

-- The reader of the next holder takes the place of the last one's.
taken-over : (open_now k o : Bool) → (k ≡ true → (open_now ≡ false) × (o ≡ false)) → (o ≡ true → open_now ≡ false)
    → (if k then false else ((open_now || k) || o)) ≡ (open_now || o)
taken-over open_now true o apart other =
    let parts = apart refl in (λ i. sym (parts.0) i || sym (parts.1) i)
taken-over true false o apart other = refl
taken-over false false o apart other = refl

holder-apart : (i m n : ℕ) (mode : Mode) (watch : Option KeptWatch) → (n ≡ first_holder i) ⊎ (n ≡ second_holder i)
    → ((n == m) ≡ true → keeps_under watch m ≡ false) → (n == m) ≡ true → held_in i mode watch m ≡ false
holder-apart i m n mode watch under free same =
    λ j. own-apart i m n (is_open mode) under same j || free same j

next-apart : (i m : ℕ) (kept : KeptWatch) → IsHolder i (Some kept) → (other_holder i kept.holder == m) ≡ true
    → (kept.holder == m) ≡ false
next-apart i m kept holder same =
    ne_eqb kept.holder m (λ is.
    (other-of i kept.holder holder).apart (eqb-true (other_holder i kept.holder) m same ∙ sym is))

last-apart : (i m : ℕ) (kept : KeptWatch) → IsHolder i (Some kept) → (kept.holder == m) ≡ true
    → (other_holder i kept.holder == m) ≡ false
last-apart i m kept holder same =
    ne_eqb (other_holder i kept.holder) m (λ is.
    (other-of i kept.holder holder).apart (is ∙ sym (eqb-true kept.holder m same)))

-- Entries that stand behind others where these have no commit.
exactly : (i : ℕ) (mode : Mode) (watch : Option KeptWatch) (sentence : Sentence) (holds : ℕ → Bool)
    (entries after : List JournalEntry) → after ≡ [] → After i mode watch sentence holds entries
    → After i mode watch sentence holds (entries ++ after)
exactly i mode watch sentence holds entries after none state =
    coe 1 0 (k. After i mode watch sentence holds
    ((ap (λ (l : List JournalEntry). entries ++ l) none ∙ append-nil entries) k)) state

pub step-holds : {i j : ℕ} {mode : Mode} {watch : Option KeptWatch} {sentence : Sentence} {outcome : Outcome}
    {entries : List JournalEntry} (after : List JournalEntry) (holds : ℕ → Bool)
    → Leaves i j mode watch sentence outcome entries → (list_any is_commit entries ≡ false → after ≡ [])
    → ((m : ℕ) (h : Bool) → held_after_all m h after ≡ h) → IsState i mode watch holds
    → After i mode watch sentence holds (entries ++ after)
step-holds {i = i} {j = j} {watch = watch} after holds (select_idle {s = s} epoch is) none quiet state =
    let entries = entry.Read i j epoch ∷ entry.ReadEnd i j ∷ [] in
    exactly i Idle watch (Says s) holds entries after (none refl)
    (same-watch i Idle Idle watch (watch_after watch (Says s) entries) holds (λ m. held_after_all m (holds m) entries)
    (select-keeps watch s entries is) state
    (λ m. ap (λ (h : Bool). if i == m then false else (h || (i == m))) (state.held m)
    ∙ once (i == m) (keeps_under watch m) (watch-apart i m watch state.holder)))
step-holds {i = i} {j = j} {watch = watch} after holds (select_idle_without_memory {s = s} epoch is) none quiet state =
    let entries = entry.Read i j epoch ∷ entry.ReadEnd i j ∷ entry.Refused i j 16 ∷ [] in
    exactly i Idle watch (Says s) holds entries after (none refl)
    (same-watch i Idle Idle watch (watch_after watch (Says s) entries) holds (λ m. held_after_all m (holds m) entries)
    (select-keeps watch s entries is) state
    (λ m. ap (λ (h : Bool). if i == m then false else (h || (i == m))) (state.held m)
    ∙ once (i == m) (keeps_under watch m) (watch-apart i m watch state.holder)))
step-holds {i = i} {j = j} {watch = watch} after holds (select_open {s = s} {writer = writer} is) none quiet state =
    exactly i (Open writer) watch (Says s) holds [] after (none refl)
    (same-watch i (Open writer) (Open writer) watch (watch_after watch (Says s) []) holds holds
    (watch-kept watch (Says s) [] refl) state state.held)
step-holds {i = i} {j = j} {watch = watch} after holds (change_idle {s = s} epoch deps is) none quiet state =
    let entries = entry.Begin i j epoch deps ∷ entry.Committed i j epoch ∷ after in
    same-watch i Idle Idle watch (watch_after watch (Says s) entries) holds (λ m. held_after_all m (holds m) entries)
    (watch-kept watch (Says s) entries refl) state
    (λ m. quiet m (if i == m then false else (holds m || (i == m)))
    ∙ ap (λ (h : Bool). if i == m then false else (h || (i == m))) (state.held m)
    ∙ once (i == m) (keeps_under watch m) (watch-apart i m watch state.holder))
step-holds {i = i} {j = j} {watch = watch} after holds (change_idle_ended {s = s} epoch deps cause is by) none quiet
    state =
    let entries = entry.Begin i j epoch deps ∷ entry.Aborted i j epoch cause ∷ [] in
    exactly i Idle watch (Says s) holds entries after (none refl)
    (same-watch i Idle Idle watch (watch_after watch (Says s) entries) holds (λ m. held_after_all m (holds m) entries)
    (watch-kept watch (Says s) entries refl) state
    (λ m. ap (λ (h : Bool). if i == m then false else (h || (i == m))) (state.held m)
    ∙ once (i == m) (keeps_under watch m) (watch-apart i m watch state.holder)))
step-holds {i = i} {j = j} {watch = watch} after holds (change_open {s = s} {writer = writer} is) none quiet state =
    exactly i (Open writer) watch (Says s) holds [] after (none refl)
    (same-watch i (Open writer) (Open writer) watch (watch_after watch (Says s) []) holds holds
    (watch-kept watch (Says s) [] refl) state state.held)
step-holds {i = i} {j = j} {watch = watch} after holds (change_open_ended {s = s} {writer = writer} cause is by) none
    quiet state =
    let entries = entry.Aborted i j writer.epoch cause ∷ [] in
    exactly i (Open writer) watch (Says s) holds entries after (none refl)
    (same-watch i (Open writer) (mode_after_abort writer.epoch cause) watch (watch_after watch (Says s) entries) holds
    (λ m. held_after_all m (holds m) entries) (watch-kept watch (Says s) entries refl) state
    (λ m. ap (λ (h : Bool). if i == m then false else h) (state.held m)
    ∙ ended (i == m) (keeps_under watch m) (watch-apart i m watch state.holder)
    ∙ ap (λ (b : Bool). (b && (i == m)) || keeps_under watch m) (sym (closed-by writer.epoch cause))))
step-holds {i = i} {j = j} {watch = watch} after holds (begin_done epoch deps) none quiet state =
    let entries = entry.Begin i j epoch deps ∷ [] in
    exactly i Idle watch (Says Begin) holds entries after (none refl)
    (same-watch i Idle (Open (record { epoch = epoch; deps = deps; own = true })) watch
    (watch_after watch (Says Begin) entries) holds (λ m. held_after_all m (holds m) entries)
    (watch-kept watch (Says Begin) entries refl) state
    (λ m. ap (λ (h : Bool). h || (i == m)) (state.held m) ∙ opened (i == m) (keeps_under watch m)))
step-holds {i = i} {j = j} {watch = watch} after holds (commit_done {writer = writer}) none quiet state =
    let entries = entry.Committed i j writer.epoch ∷ after in
    same-watch i (Open writer) Idle watch (watch_after watch (Says Commit) entries) holds
    (λ m. held_after_all m (holds m) entries) (watch-kept watch (Says Commit) entries refl) state
    (λ m. quiet m (if i == m then false else holds m)
    ∙ ap (λ (h : Bool). if i == m then false else h) (state.held m)
    ∙ ended (i == m) (keeps_under watch m) (watch-apart i m watch state.holder))
step-holds {i = i} {j = j} {watch = watch} after holds (rollback_of_open {writer = writer}) none quiet state =
    let entries = entry.Aborted i j writer.epoch abort.Asked ∷ [] in
    exactly i (Open writer) watch (Says Rollback) holds entries after (none refl)
    (same-watch i (Open writer) Idle watch (watch_after watch (Says Rollback) entries) holds
    (λ m. held_after_all m (holds m) entries) (watch-kept watch (Says Rollback) entries refl) state
    (λ m. ap (λ (h : Bool). if i == m then false else h) (state.held m)
    ∙ ended (i == m) (keeps_under watch m) (watch-apart i m watch state.holder)))
step-holds {i = i} {j = j} {watch = watch} after holds (rollback_of_aborted {epoch = epoch}) none quiet state =
    let entries = entry.Cleared i j ∷ [] in
    exactly i (Aborted epoch) watch (Says Rollback) holds entries after (none refl)
    (same-watch i (Aborted epoch) Idle watch (watch_after watch (Says Rollback) entries) holds holds
    (watch-kept watch (Says Rollback) entries refl) state state.held)
step-holds {i = i} {j = j} {mode = mode} {watch = watch} after holds flush_done none quiet state =
    exactly i mode watch (Says Flush) holds (entry.Flushed i j ∷ []) after (none refl)
    (quiet-mode mode (entry.Flushed i j) (flushed-mode mode i j) i watch (Says Flush) holds refl (λ m. refl) state)
step-holds {i = i} {j = j} {mode = mode} {watch = watch} after holds (purge_done epoch) none quiet state =
    exactly i mode watch (Says Purge) holds (entry.Purged i j epoch ∷ []) after (none refl)
    (quiet-mode mode (entry.Purged i j epoch) (purged-mode mode i j epoch) i watch (Says Purge) holds refl (λ m. refl)
    state)
step-holds {i = i} {j = j} {mode = mode} {watch = watch} after holds show_done none quiet state =
    exactly i mode watch (Says ShowEpochs) holds (entry.Show i j ∷ []) after (none refl)
    (quiet-mode mode (entry.Show i j) (shown-mode mode i j) i watch (Says ShowEpochs) holds refl (λ m. refl) state)
step-holds {i = i} {j = j} {watch = watch} after holds (create_done {d = d} epoch) none quiet state =
    exactly i Idle watch (Says (CreateCube d)) holds (entry.Cube i j epoch ∷ []) after (none refl)
    (quiet-mode Idle (entry.Cube i j epoch) refl i watch (Says (CreateCube d)) holds refl (λ m. refl) state)
step-holds {i = i} {j = j} {mode = mode} {watch = None} after holds (watch_done {s = s} epoch is) none quiet state =
    exactly i mode None (Says s) holds (entry.Read (first_holder i) j epoch ∷ []) after (none refl)
    (watched s is)
  where
    watched : (s : Statement) → is_watch s ≡ true
        → After i mode None (Says s) holds (entry.Read (first_holder i) j epoch ∷ [])
    watched (Watch items cube conds group) is = record {
      held = λ m.
          ap (λ (h : Bool). h || (first_holder i == m)) (state.held m)
          ∙ holder-opened (is_open mode && (i == m)) (first_holder i == m) false
          (own-apart i m (first_holder i) (is_open mode) (inl refl))
          ∙ ap (λ (x : Mode). (is_open x && (i == m)) || (first_holder i == m))
          (sym (read-mode mode (first_holder i) j epoch []));
      holder = inl refl;
    }
    watched s is = absurd (false≢true is)
step-holds {i = i} {j = j} {mode = mode} {watch = None} after holds (watch_without_memory {s = s} epoch is can) none
    quiet state =
    let entries = entry.Read (first_holder i) j epoch ∷ entry.ReadEnd (first_holder i) j ∷ entry.Refused i j 16 ∷ [] in
    exactly i mode None (Says s) holds entries after (none refl)
    (same-watch i mode (mode_after mode entries) None (watch_after None (Says s) entries) holds
    (λ m. held_after_all m (holds m) entries)
    (watch-fails s (first_holder i) j epoch (entry.ReadEnd (first_holder i) j) (entry.Refused i j 16 ∷ [])) state
    (λ m. ap (λ (h : Bool). if first_holder i == m then false else (h || (first_holder i == m))) (state.held m)
    ∙ reader-once (first_holder i == m) (held_in i mode None m)
    (holder-apart i m (first_holder i) mode None (inl refl) (λ same. refl))
    ∙ ap (λ (x : Mode). held_in i x None m)
    (sym (read-mode mode (first_holder i) j epoch (entry.ReadEnd (first_holder i) j ∷ entry.Refused i j 16 ∷ [])))))
step-holds {i = i} {j = j} {mode = mode} after holds (show_watch_done {kept = kept} epoch) none quiet state =
    let next = other_holder i kept.holder in
    let entries = entry.Read next j epoch ∷ entry.ReadEnd kept.holder j ∷ [] in
    let under = other-of i kept.holder state.holder in
    exactly i mode (Some kept) (Says ShowWatch) holds entries after (none refl)
    (record {
      held = λ m.
          ap (λ (h : Bool). if kept.holder == m then false else (h || (next == m))) (state.held m)
          ∙ taken-over (is_open mode && (i == m)) (kept.holder == m) (next == m)
          (λ same. (own-apart i m kept.holder (is_open mode) state.holder same, last-apart i m kept state.holder same))
          (own-apart i m next (is_open mode) under.under)
          ∙ ap (λ (x : Mode). (is_open x && (i == m)) || (next == m))
          (sym (read-mode mode next j epoch (entry.ReadEnd kept.holder j ∷ [])));
      holder = under.under;
    })
step-holds {i = i} {j = j} {mode = mode} after holds (show_watch_without_memory {kept = kept} epoch can) none quiet
    state =
    let next = other_holder i kept.holder in
    let entries = entry.Read next j epoch ∷ entry.ReadEnd next j ∷ entry.Refused i j 16 ∷ [] in
    let under = other-of i kept.holder state.holder in
    exactly i mode (Some kept) (Says ShowWatch) holds entries after (none refl)
    (same-watch i mode (mode_after mode entries) (Some kept) (Some kept) holds
    (λ m. held_after_all m (holds m) entries) refl state
    (λ m. ap (λ (h : Bool). if next == m then false else (h || (next == m))) (state.held m)
    ∙ reader-once (next == m) (held_in i mode (Some kept) m)
    (holder-apart i m next mode (Some kept) under.under (next-apart i m kept state.holder))
    ∙ ap (λ (x : Mode). held_in i x (Some kept) m)
    (sym (read-mode mode next j epoch (entry.ReadEnd next j ∷ entry.Refused i j 16 ∷ [])))))
step-holds {i = i} {j = j} {mode = mode} {watch = watch} {sentence = sentence} after holds (other_refusal {r = r} is)
    none quiet state =
    exactly i mode watch sentence holds (entry.Refused i j (code r) ∷ []) after (none refl)
    (quiet-mode mode (entry.Refused i j (code r)) (refused-mode mode i j (code r)) i watch sentence holds refl
    (λ m. refl) state)
