-- A session that opens and ends its snapshot at a desk where no other is open.
use Rattle.std.proofs.Common.{◌≡◌, ℕ, ◌+◌, ◌==◌, true, List, [], ◌∷◌, ◌++◌, None, refl, subst, sym, ap, ◌∙◌, arith}
use Rattle.std.proofs.lemmas.Bool.Decides.{nat_tests}
use Rattle.cube_values.specs.declared.snapshot.Snapshot.{Snapshot}
use Rattle.cube_journal.specs.declared.journal_entry.JournalEntry.{JournalEntry}
use Rattle.cube_journal.specs.declared.journal_entry.JournalEntry.TheVariants as entry
use Rattle.cube_journal.specs.Counters.{JournalState, journal_state, state_after, held_by}
use Rattle.cube_journal.specs.Legal.{HoldsReader}
use Rattle.aosi_desk.specs.State.{state_of, IsWriting, held_epoch, after_begin, after_read, after_commit}
use Rattle.aosi_desk.specs.Desks.{DeskState, desk_over, desk_with_entry}

-- The state of a journal with one more entry.
abbrev pub OneMore : Type 0
OneMore = (safe : ℕ) (journal : List JournalEntry) (e : JournalEntry)
    → journal_state safe (journal ++ e ∷ []) ≡ state_after (journal_state safe journal) e

same : (n : ℕ) → (n == n) ≡ true
same n = grind (arith, nat_tests)

-- Where no snapshot is open, no session holds one.
pub free : (d : DeskState) (n : ℕ) → (state_of d.register).snapshots ≡ []
    → held_by (state_of d.register).snapshots n ≡ None
free d n idle = rw idle refl

writes : (s : JournalState) (n st epoch : ℕ) (deps : List ℕ) → s.snapshots ≡ []
    → IsWriting (state_after s (entry.Begin n st epoch deps)) n
writes s n st epoch deps idle = rw idle (rw (same n) refl)

reads : (s : JournalState) (n st epoch : ℕ) → s.snapshots ≡ []
    → HoldsReader (state_after s (entry.Read n st epoch)) n
reads s n st epoch idle = rw idle (rw (same n) refl)

wrote : (s : JournalState) (n st later epoch end : ℕ) (deps : List ℕ) → s.snapshots ≡ []
    → (state_after (state_after s (entry.Begin n st epoch deps)) (entry.Committed n later end)).snapshots ≡ []
wrote s n st later epoch end deps idle = rw idle (rw (same n) refl)

did_read : (s : JournalState) (n st later epoch : ℕ) → s.snapshots ≡ []
    → (state_after (state_after s (entry.Read n st epoch)) (entry.ReadEnd n later)).snapshots ≡ []
did_read s n st later epoch idle = rw idle (rw (same n) refl)

module _ (law : OneMore) (a b d : DeskState) (n st later : ℕ) (s : Snapshot) where
  begun : b ≡ desk_over a (after_begin a.register n st s)
      → state_of b.register ≡ state_after (state_of a.register) (entry.Begin n st s.epoch s.deps)
  begun is = ap (λ (x : DeskState). state_of x.register) is
      ∙ law a.register.safe a.register.journal (entry.Begin n st s.epoch s.deps)

  committed : b ≡ desk_over a (after_begin a.register n st s) → d ≡ desk_over b (after_commit b.register n later)
      → state_of d.register ≡ state_after (state_after (state_of a.register) (entry.Begin n st s.epoch s.deps))
      (entry.Committed n later (held_epoch (state_of b.register) n))
  committed is ends = ap (λ (x : DeskState). state_of x.register) ends
      ∙ law b.register.safe b.register.journal (entry.Committed n later (held_epoch (state_of b.register) n))
      ∙ ap (λ q. state_after q (entry.Committed n later (held_epoch (state_of b.register) n))) (begun is)

  opened : b ≡ desk_over a (after_read a.register n st s)
      → state_of b.register ≡ state_after (state_of a.register) (entry.Read n st s.epoch)
  opened is = ap (λ (x : DeskState). state_of x.register) is
      ∙ law a.register.safe a.register.journal (entry.Read n st s.epoch)

  closed : b ≡ desk_over a (after_read a.register n st s) → d ≡ desk_with_entry b (entry.ReadEnd n later)
      → state_of d.register
      ≡ state_after (state_after (state_of a.register) (entry.Read n st s.epoch)) (entry.ReadEnd n later)
  closed is ends = ap (λ (x : DeskState). state_of x.register) ends
      ∙ law b.register.safe b.register.journal (entry.ReadEnd n later)
      ∙ ap (λ q. state_after q (entry.ReadEnd n later)) (opened is)

-- The session is writing once its writer is open.
pub is_writing : OneMore → (a b : DeskState) (n st : ℕ) (s : Snapshot) → (state_of a.register).snapshots ≡ []
    → b ≡ desk_over a (after_begin a.register n st s) → IsWriting (state_of b.register) n
is_writing law a b n st s idle is =
    subst (λ q. IsWriting q n) (sym (begun law a b b n st st s is))
    (writes (state_of a.register) n st s.epoch s.deps idle)

-- Once it is committed no snapshot is open, and EC has risen by one.
pub is_idle : OneMore → (a b d : DeskState) (n st later : ℕ) (s : Snapshot)
    → (state_of a.register).snapshots ≡ [] → b ≡ desk_over a (after_begin a.register n st s)
    → d ≡ desk_over b (after_commit b.register n later) → (state_of d.register).snapshots ≡ []
is_idle law a b d n st later s idle is ends =
    ap (λ (q : JournalState). q.snapshots) (committed law a b d n st later s is ends)
    ∙ wrote (state_of a.register) n st later s.epoch (held_epoch (state_of b.register) n) s.deps idle

pub ec_rises : OneMore → (a b d : DeskState) (n st later : ℕ) (s : Snapshot)
    → b ≡ desk_over a (after_begin a.register n st s)
    → d ≡ desk_over b (after_commit b.register n later) → (state_of d.register).ec ≡ (state_of a.register).ec + 1
ec_rises law a b d n st later s is ends =
    ap (λ (q : JournalState). q.ec) (committed law a b d n st later s is ends)

-- The session holds a reader once it is open.
pub is_reading : OneMore → (a b : DeskState) (n st : ℕ) (s : Snapshot) → (state_of a.register).snapshots ≡ []
    → b ≡ desk_over a (after_read a.register n st s) → HoldsReader (state_of b.register) n
is_reading law a b n st s idle is =
    subst (λ q. HoldsReader q n) (sym (opened law a b b n st st s is))
    (reads (state_of a.register) n st s.epoch idle)

-- Once it is closed no snapshot is open, and EC is what it was.
pub is_idle_again : OneMore → (a b d : DeskState) (n st later : ℕ) (s : Snapshot)
    → (state_of a.register).snapshots ≡ [] → b ≡ desk_over a (after_read a.register n st s)
    → d ≡ desk_with_entry b (entry.ReadEnd n later) → (state_of d.register).snapshots ≡ []
is_idle_again law a b d n st later s idle is ends =
    ap (λ (q : JournalState). q.snapshots) (closed law a b d n st later s is ends)
    ∙ did_read (state_of a.register) n st later s.epoch idle

pub ec_stays : OneMore → (a b d : DeskState) (n st later : ℕ) (s : Snapshot)
    → b ≡ desk_over a (after_read a.register n st s)
    → d ≡ desk_with_entry b (entry.ReadEnd n later) → (state_of d.register).ec ≡ (state_of a.register).ec
ec_stays law a b d n st later s is ends =
    ap (λ (q : JournalState). q.ec) (closed law a b d n st later s is ends)
