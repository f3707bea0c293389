-- Epochs that are committed or aborted are finished: they are not pending, and none is both.
use Rattle.std.proofs.Common.{◌≡◌, ◌⊎◌, ◌∙◌, ℕ, ◌<◌, ◌≤◌, ◌==◌, Bool, true, false, true≢false, not, ◌&&◌, ◌||◌, List, [], ◌∷◌, ◌++◌, filter, Option, Some, None, IsSomeAnd, if◌then◌else◌, inl, inr, refl, sym, ap, arith, eqb-true, eq-eqb, ne_eqb}
use Rattle.std.proofs.lemmas.Bool.{false≢true, leb-true, or_from, false_from_ne_true}
use Rattle.std.proofs.lemmas.Bool.Decides.{eqb_tells}
use Rattle.std.proofs.lemmas.Option.{none-some, same_Some}
use Rattle.cube_values.specs.declared.snapshot.Snapshot.{Snapshot}
use Rattle.cube_values.specs.Sees.{sees}
use Rattle.cube_journal.specs.declared.journal_entry.JournalEntry.{JournalEntry}
use Rattle.cube_journal.specs.declared.journal_entry.JournalEntry.TheVariants as entry
use Rattle.cube_journal.specs.declared.note.Note.TheVariants as note
use Rattle.cube_journal.specs.Counters.{JournalState, state_after, held_by, lce}
use Rattle.aosi_desk.specs.declared.answer.RoundAnswer.TheVariants.{Target, Nothing}
use Rattle.aosi_desk.specs.declared.answer.RoundEnd.TheVariants.{Safe, Lost}
use Rattle.aosi_desk.specs.declared.cube.CubeAnswer.TheVariants.{Created, Exists, TooMany}
use Rattle.aosi_desk.specs.declared.cube.CubeFound.TheVariants.{Found, Unknown}
use Rattle.core_events.specs.Events.{Opening, OpenWrite, OpenRead, Commit, AbortEnd, CloseRead, TakeNote, CreateCube, FindCube, CubesFrom, CountersNow, RoundOpen, RoundClose, StoreFailed, ClientCall, OnDesk, OnNames, Post, Fetch, CloseMail, NoChange, CoreEvent, By, At}
use Rattle.core_events.specs.Groups.{has_number}
use Rattle.core_events.specs.Clients.{writer_at, reader_up_to}
use Rattle.core_events.specs.Cells.{counters_of_run}
use Rattle.core_events.specs.Runs.{IsCoreRun}
use Rattle.core_events.specs.Serial.{commits, has_committed, aborts, has_aborted, counts_for}
use Rattle.core_events.proofs.Lookups.{with_one, without_one, held-by-append, held-by-without}
use Rattle.core_events.proofs.DeskSteps.{client_entry, state_with_entry, run-step}
use Rattle.core_events.proofs.InOrder.{StateAllows, AllowsEntry, run-allowed}

-- Numbers of a list with one more, and without one.

pub has-more : (xs : List ℕ) (k e : ℕ) → has_number (xs ++ k ∷ []) e ≡ (has_number xs e || (k == e))
has-more [] k e = or-false (k == e)
  where
    or-false : (b : Bool) → (b || false) ≡ b
    or-false true = refl
    or-false false = refl
has-more (x ∷ xs) k e = ap (λ b. x == e || b) (has-more xs k e) ∙ or-or (x == e) (has_number xs e) (k == e)
  where
    or-or : (a b c : Bool) → (a || (b || c)) ≡ ((a || b) || c)
    or-or true b c = refl
    or-or false b c = refl

and-true : (b : Bool) → (b && true) ≡ b
and-true true = refl
and-true false = refl

and-false : (b : Bool) → (b && false) ≡ false
and-false true = refl
and-false false = refl

or-and : (a b c : Bool) → (a ≡ true → c ≡ false) → (a || (b && not c)) ≡ ((a || b) && not c)
or-and true b true h = absurd (true≢false (h refl))
or-and true b false h = refl
or-and false b c h = refl

pub has-without : (xs : List ℕ) (k e : ℕ) → has_number (filter (λ x. not (x == k)) xs) e ≡ (has_number xs e && not (k == e))
has-without [] k e = refl
has-without (x ∷ xs) k e =
    let rest = filter (λ y. not (y == k)) xs in
    elim (eqb_tells x k) [
      | inl same ↦
          ap (λ (b : Bool). has_number (if not b then x ∷ rest else rest) e) same.0
          ∙ has-without xs k e
          ∙ or-not (k == e) (has_number xs e)
          ∙ ap (λ (y : ℕ). (y == e || has_number xs e) && not (k == e)) (sym same.1)
      | inr other ↦
          ap (λ (b : Bool). has_number (if not b then x ∷ rest else rest) e) other.0
          ∙ ap (λ b. x == e || b) (has-without xs k e)
          ∙ or-and (x == e) (has_number xs e) (k == e)
          (λ first. ne_eqb k e (λ same. other.1 (eqb-true x e first ∙ sym same)))
    ]
  where
    or-not : (a b : Bool) → (b && not a) ≡ ((a || b) && not a)
    or-not true b = and-false b
    or-not false b = refl

-- What is held after a step.

pub with-one-is : {V : Type 0} (o : Option V) (here : Bool) (v t : V) → with_one o here v ≡ Some t
    → (o ≡ Some t) ⊎ ((here ≡ true) × (v ≡ t))
with-one-is (Some x) here v t e = inl e
with-one-is None true v t e = inr (refl, same_Some v t e)
with-one-is None false v t e = absurd (none-some t e)

pub without-one-is : {V : Type 0} (out : Bool) (o : Option V) (t : V) → without_one out o ≡ Some t → (out ≡ false) × (o ≡ Some t)
without-one-is true o t e = absurd (none-some t e)
without-one-is false o t e = (refl, e)

-- The writer that a session holds.
pub record Held (s : JournalState) (m epoch : ℕ) : Type 0 where
  pub snapshot : Snapshot
  pub is : held_by s.snapshots m ≡ Some snapshot
  pub own : snapshot.own ≡ true
  pub at : snapshot.epoch ≡ epoch

pub held-writer : (s : JournalState) (m epoch : ℕ) (h : Option Snapshot) → held_by s.snapshots m ≡ h
    → IsSomeAnd h (λ w. (w.own ≡ true) × (w.epoch ≡ epoch)) → Held s m epoch
held-writer s m epoch None is h = absurd h
held-writer s m epoch (Some w) is h = record { snapshot = w; is = is; own = h.0; at = h.1 }

-- How the counters go with the epochs that were committed and those that were aborted.
pub record AreFinished (s : JournalState) (done gone : ℕ → Bool) : Type 0 where
  pub writers : (m : ℕ) (t : Snapshot) → held_by s.snapshots m ≡ Some t → t.own ≡ true → has_number s.pending t.epoch ≡ true
  pub apart : (m n epoch : ℕ) → Held s m epoch → Held s n epoch → m ≡ n
  pub below : (e : ℕ) → has_number s.pending e ≡ true → e < s.ec
  pub done_below : (e : ℕ) → done e ≡ true → e < s.ec
  pub done_ended : (e : ℕ) → done e ≡ true → has_number s.pending e ≡ false
  pub gone_below : (e : ℕ) → gone e ≡ true → e < s.ec
  pub gone_ended : (e : ℕ) → gone e ≡ true → has_number s.pending e ≡ false
  pub not_both : (e : ℕ) → gone e ≡ true → done e ≡ false

abbrev pub epochs_with : ℕ → (ℕ → Bool) → ℕ → Bool
epochs_with k f e = k == e || f e

abbrev pub done_after : JournalEntry → (ℕ → Bool) → ℕ → Bool
done_after (entry.Committed session statement epoch) f e = epochs_with epoch f e
done_after _ f e = f e

abbrev pub gone_after : JournalEntry → (ℕ → Bool) → ℕ → Bool
gone_after (entry.Aborted session statement epoch cause) f e = epochs_with epoch f e
gone_after _ f e = f e

pub or-is : (a b : Bool) → (a || b) ≡ true → (a ≡ true) ⊎ (b ≡ true)
or-is true b e = inl refl
or-is false b e = inr e

-- A snapshot opens, which may take the next epoch. The pending epochs are those before, with its own if it is a writer.
opens : (s t : JournalState) (done gone : ℕ → Bool) (n : ℕ) (v : Snapshot)
    → ((m : ℕ) → held_by t.snapshots m ≡ with_one (held_by s.snapshots m) (n == m) v)
    → (v.own ≡ true → has_number t.pending v.epoch ≡ true) → (v.own ≡ true → v.epoch ≡ s.ec)
    → ((e : ℕ) → has_number s.pending e ≡ true → has_number t.pending e ≡ true)
    → ((e : ℕ) → has_number t.pending e ≡ true → (has_number s.pending e ≡ true) ⊎ ((e ≡ s.ec) × (s.ec < t.ec)))
    → s.ec ≤ t.ec → AreFinished s done gone → AreFinished t done gone
opens s t done gone n v held own next more less rises f = record {
  writers = λ m x is writes. elim (with-one-is (held_by s.snapshots m) (n == m) v x (sym (held m) ∙ is)) [
    | inl old ↦ more x.epoch (f.writers m x old writes)
    | inr new ↦ coe 0 1 (i. has_number t.pending (new.1 i).epoch ≡ true) (own (ap (λ (y : Snapshot). y.own) new.1 ∙ writes))
  ];
  apart = λ m k epoch a b.
      elim (with-one-is (held_by s.snapshots m) (n == m) v a.snapshot (sym (held m) ∙ a.is)) [
        | inl olda ↦ elim (with-one-is (held_by s.snapshots k) (n == k) v b.snapshot (sym (held k) ∙ b.is)) [
          | inl oldb ↦ f.apart m k epoch (record { snapshot = a.snapshot; is = olda; own = a.own; at = a.at })
              (record { snapshot = b.snapshot; is = oldb; own = b.own; at = b.at })
          | inr newb ↦ absurd (clash a.snapshot m epoch olda a.own a.at
              (sym (next (ap (λ (y : Snapshot). y.own) newb.1 ∙ b.own)) ∙ ap (λ (y : Snapshot). y.epoch) newb.1 ∙ b.at))
        ]
        | inr newa ↦ elim (with-one-is (held_by s.snapshots k) (n == k) v b.snapshot (sym (held k) ∙ b.is)) [
          | inl oldb ↦ absurd (clash b.snapshot k epoch oldb b.own b.at
              (sym (next (ap (λ (y : Snapshot). y.own) newa.1 ∙ a.own)) ∙ ap (λ (y : Snapshot). y.epoch) newa.1 ∙ a.at))
          | inr newb ↦ sym (eqb-true n m newa.0) ∙ eqb-true n k newb.0
        ]
      ];
  below = λ e is. elim (less e is) [
    | inl old ↦ (let l = f.below e old in omega (arith, l, rises))
    | inr new ↦ (let same = new.0 in let l = new.1 in omega (arith, same, l))
  ];
  done_below = λ e is. let l = f.done_below e is in omega (arith, l, rises);
  done_ended = λ e is. ended e (f.done_below e is) (f.done_ended e is);
  gone_below = λ e is. let l = f.gone_below e is in omega (arith, l, rises);
  gone_ended = λ e is. ended e (f.gone_below e is) (f.gone_ended e is);
  not_both = f.not_both;
} where
  clash : (x : Snapshot) (m epoch : ℕ) → held_by s.snapshots m ≡ Some x → x.own ≡ true → x.epoch ≡ epoch → s.ec ≡ epoch → ⊥
  clash x m epoch is own at new = let l = f.below x.epoch (f.writers m x is own) in omega (arith, l, at, new)

  ended : (e : ℕ) → e < s.ec → has_number s.pending e ≡ false → has_number t.pending e ≡ false
  ended e l past = false_from_ne_true (has_number t.pending e) (λ sure. elim (less e sure) [
    | inl old ↦ true≢false (sym old ∙ past)
    | inr new ↦ (let same = new.0 in omega (arith, same, l))
  ])

-- A snapshot ends, and with a writer its epoch k is pending no more.
ends : (s t : JournalState) (done gone after lost : ℕ → Bool) (n k : ℕ)
    → ((m : ℕ) → held_by t.snapshots m ≡ without_one (n == m) (held_by s.snapshots m))
    → ((e : ℕ) → has_number t.pending e ≡ (has_number s.pending e && not (k == e))) → t.ec ≡ s.ec
    → Held s n k
    → ((e : ℕ) → after e ≡ true → (k ≡ e) ⊎ (done e ≡ true))
    → ((e : ℕ) → lost e ≡ true → (k ≡ e) ⊎ (gone e ≡ true))
    → ((e : ℕ) → lost e ≡ true → after e ≡ false)
    → AreFinished s done gone → AreFinished t after lost
ends s t done gone after lost n k held pending ec w was went both f = record {
  writers = λ m x is writes.
      let old = without-one-is (n == m) (held_by s.snapshots m) x (sym (held m) ∙ is) in
      let other : (k == x.epoch) ≡ false =
      ne_eqb k x.epoch
      (λ same. false≢true (sym old.0 ∙ eq-eqb n m (f.apart n m k w (record { snapshot = x; is = old.1; own = writes; at = sym same }))))
      in
      pending x.epoch ∙ (λ i. f.writers m x old.1 writes i && not (other i));
  apart = λ m j epoch a b. f.apart m j epoch (before m epoch a) (before j epoch b);
  below = λ e is. let l = f.below e (left (has_number s.pending e) (not (k == e)) (sym (pending e) ∙ is)) in omega (arith, l, ec);
  done_below = λ e is. elim (was e is) [
    | inl same ↦ (let l = f.below k mine in omega (arith, l, same, ec))
    | inr old ↦ (let l = f.done_below e old in omega (arith, l, ec))
  ];
  done_ended = λ e is. elim (was e is) [
    | inl same ↦ pending e ∙ ap (λ (b : Bool). has_number s.pending e && not b) (eq-eqb k e same) ∙ and-false (has_number s.pending e)
    | inr old ↦ pending e ∙ ap (λ (b : Bool). b && not (k == e)) (f.done_ended e old)
  ];
  gone_below = λ e is. elim (went e is) [
    | inl same ↦ (let l = f.below k mine in omega (arith, l, same, ec))
    | inr old ↦ (let l = f.gone_below e old in omega (arith, l, ec))
  ];
  gone_ended = λ e is. elim (went e is) [
    | inl same ↦ pending e ∙ ap (λ (b : Bool). has_number s.pending e && not b) (eq-eqb k e same) ∙ and-false (has_number s.pending e)
    | inr old ↦ pending e ∙ ap (λ (b : Bool). b && not (k == e)) (f.gone_ended e old)
  ];
  not_both = both;
} where
  left : (a b : Bool) → (a && b) ≡ true → a ≡ true
  left true b e = refl
  left false b e = absurd (false≢true e)

  mine : has_number s.pending k ≡ true
  mine = ap (has_number s.pending) (sym w.at) ∙ f.writers n w.snapshot w.is w.own

  before : (m epoch : ℕ) → Held t m epoch → Held s m epoch
  before m epoch h = record {
    snapshot = h.snapshot;
    is = (without-one-is (n == m) (held_by s.snapshots m) h.snapshot (sym (held m) ∙ h.is)).1;
    own = h.own;
    at = h.at;
  }

-- A reader ends.
reader-ends : (s t : JournalState) (done gone : ℕ → Bool) (n : ℕ)
    → ((m : ℕ) → held_by t.snapshots m ≡ without_one (n == m) (held_by s.snapshots m))
    → t.pending ≡ s.pending → t.ec ≡ s.ec → AreFinished s done gone → AreFinished t done gone
reader-ends s t done gone n held pending ec f = record {
  writers = λ m x is writes.
      ap (λ p. has_number p x.epoch) pending
      ∙ f.writers m x (without-one-is (n == m) (held_by s.snapshots m) x (sym (held m) ∙ is)).1 writes;
  apart = λ m j epoch a b. f.apart m j epoch (before m epoch a) (before j epoch b);
  below = λ e is. let l = f.below e (sym (ap (λ p. has_number p e) pending) ∙ is) in omega (arith, l, ec);
  done_below = λ e is. let l = f.done_below e is in omega (arith, l, ec);
  done_ended = λ e is. ap (λ p. has_number p e) pending ∙ f.done_ended e is;
  gone_below = λ e is. let l = f.gone_below e is in omega (arith, l, ec);
  gone_ended = λ e is. ap (λ p. has_number p e) pending ∙ f.gone_ended e is;
  not_both = f.not_both;
} where
  before : (m epoch : ℕ) → Held t m epoch → Held s m epoch
  before m epoch h = record {
    snapshot = h.snapshot;
    is = (without-one-is (n == m) (held_by s.snapshots m) h.snapshot (sym (held m) ∙ h.is)).1;
    own = h.own;
    at = h.at;
  }

same-finished : (s t : JournalState) (done gone : ℕ → Bool) → t.snapshots ≡ s.snapshots → t.pending ≡ s.pending
    → s.ec ≤ t.ec → AreFinished s done gone → AreFinished t done gone
same-finished s t done gone snapshots pending ec f = record {
  writers = λ m x is writes. ap (λ p. has_number p x.epoch) pending ∙ f.writers m x (sym (ap (λ xs. held_by xs m) snapshots) ∙ is) writes;
  apart = λ m j epoch a b. f.apart m j epoch (before m epoch a) (before j epoch b);
  below = λ e is. let l = f.below e (sym (ap (λ p. has_number p e) pending) ∙ is) in omega (arith, l, ec);
  done_below = λ e is. let l = f.done_below e is in omega (arith, l, ec);
  done_ended = λ e is. ap (λ p. has_number p e) pending ∙ f.done_ended e is;
  gone_below = λ e is. let l = f.gone_below e is in omega (arith, l, ec);
  gone_ended = λ e is. ap (λ p. has_number p e) pending ∙ f.gone_ended e is;
  not_both = f.not_both;
} where
  before : (m epoch : ℕ) → Held t m epoch → Held s m epoch
  before m epoch h = record {
    snapshot = h.snapshot;
    is = sym (ap (λ xs. held_by xs m) snapshots) ∙ h.is;
    own = h.own;
    at = h.at;
  }

after-is : (k : ℕ) (f : ℕ → Bool) (e : ℕ) → epochs_with k f e ≡ true → (k ≡ e) ⊎ (f e ≡ true)
after-is k f e is = elim (or-is (k == e) (f e) is) [ inl same ↦ inl (eqb-true k e same) | inr old ↦ inr old ]

entry-finished : (s : JournalState) (e : JournalEntry) (done gone : ℕ → Bool) → StateAllows s e → AreFinished s done gone
    → AreFinished (state_after s e) (done_after e done) (gone_after e gone)
entry-finished s (entry.Begin session statement epoch deps) done gone h f =
    opens s (state_after s (entry.Begin session statement epoch deps)) done gone session (writer_at epoch deps)
    (λ m. held-by-append s.snapshots (record { session = session; bound = lce s; snapshot = writer_at epoch deps }) m)
    (λ own. has-more s.pending epoch epoch ∙ last-is (has_number s.pending epoch) (epoch == epoch) (eq-eqb epoch epoch refl))
    (λ own. h.next)
    (λ e is. has-more s.pending epoch e ∙ ap (λ b. b || (epoch == e)) is)
    (λ e is. elim (or-is (has_number s.pending e) (epoch == e) (sym (has-more s.pending epoch e) ∙ is)) [
      | inl old ↦ inl old
      | inr new ↦ inr (sym (eqb-true epoch e new) ∙ h.next, omega arith)
    ])
    (omega arith) f
  where
    last-is : (a b : Bool) → b ≡ true → (a || b) ≡ true
    last-is true b is = refl
    last-is false b is = is
entry-finished s (entry.Read session statement epoch) done gone h f =
    opens s (state_after s (entry.Read session statement epoch)) done gone session (reader_up_to epoch)
    (λ m. held-by-append s.snapshots (record { session = session; bound = lce s; snapshot = reader_up_to epoch }) m)
    (λ own. absurd (false≢true own)) (λ own. absurd (false≢true own)) (λ e is. is) (λ e is. inl is) (omega arith) f
entry-finished s (entry.ReadEnd session statement) done gone h f =
    reader-ends s (state_after s (entry.ReadEnd session statement)) done gone session (held-by-without s.snapshots session) refl refl f
entry-finished s (entry.Committed session statement epoch) done gone h f =
    let w = held-writer s session epoch (held_by s.snapshots session) refl h in
    ends s (state_after s (entry.Committed session statement epoch)) done gone (epochs_with epoch done) gone session epoch
    (held-by-without s.snapshots session) (has-without s.pending epoch) refl w (after-is epoch done) (λ e is. inr is)
    (λ e is. or_from (epoch == e) (done e)
    (ne_eqb epoch e (λ same. true≢false (sym (ap (has_number s.pending) (sym (w.at ∙ same)) ∙ f.writers session w.snapshot w.is w.own) ∙ f.gone_ended e is)))
    (f.not_both e is)) f
entry-finished s (entry.Aborted session statement epoch cause) done gone h f =
    let w = held-writer s session epoch (held_by s.snapshots session) refl h in
    ends s (state_after s (entry.Aborted session statement epoch cause)) done gone done (epochs_with epoch gone) session epoch
    (held-by-without s.snapshots session) (has-without s.pending epoch) refl w (λ e is. inr is) (after-is epoch gone)
    (λ e is. elim (after-is epoch gone e is) [
      | inl same ↦ false_from_ne_true (done e) (λ sure. true≢false
          (sym (ap (has_number s.pending) (sym (w.at ∙ same)) ∙ f.writers session w.snapshot w.is w.own) ∙ f.done_ended e sure))
      | inr old ↦ f.not_both e old
    ]) f
entry-finished s (entry.Cube session statement epoch) done gone h f =
    same-finished s (state_after s (entry.Cube session statement epoch)) done gone refl refl (omega arith) f
entry-finished s e done gone h f = same-finished s (state_after s e) done gone refl refl (omega arith) f

-- What a call commits and aborts is in the entry that it leaves.
abbrev pub done_with : Option JournalEntry → (ℕ → Bool) → ℕ → Bool
done_with None f e = f e
done_with (Some x) f e = done_after x f e

abbrev pub gone_with : Option JournalEntry → (ℕ → Bool) → ℕ → Bool
gone_with None f e = f e
gone_with (Some x) f e = gone_after x f e

pub done-same : (b : ℕ) (call : ClientCall) (f : ℕ → Bool) (e : ℕ) → done_with (client_entry b call) f e ≡ (commits call e || f e)
done-same b (OnDesk (OpenWrite statement epoch deps)) f e = refl
done-same b (OnDesk (OpenRead number statement epoch)) f e = refl
done-same b (OnDesk (Commit statement epoch)) f e = refl
done-same b (OnDesk (AbortEnd statement epoch cause)) f e = refl
done-same b (OnDesk (CloseRead number statement)) f e = refl
done-same b (OnDesk (TakeNote (note.Refused session statement code) counters)) f e = refl
done-same b (OnDesk (TakeNote (note.Cleared session statement) counters)) f e = refl
done-same b (OnDesk (TakeNote (note.Show session statement) counters)) f e = refl
done-same b (OnDesk (TakeNote (note.Flushed session statement) counters)) f e = refl
done-same b (OnDesk (TakeNote (note.Purged session statement epoch) counters)) f e = refl
done-same b (OnDesk (CreateCube statement decl (Created epoch place))) f e = refl
done-same b (OnDesk (CreateCube statement decl Exists)) f e = refl
done-same b (OnDesk (CreateCube statement decl TooMany)) f e = refl
done-same b (OnDesk (FindCube statement name (Found place decl))) f e = refl
done-same b (OnDesk (FindCube statement name Unknown)) f e = refl
done-same b (OnDesk (CubesFrom place cubes)) f e = refl
done-same b (OnDesk (CountersNow counters)) f e = refl
done-same b (OnDesk (RoundOpen (Target from epoch))) f e = refl
done-same b (OnDesk (RoundOpen (Nothing epoch))) f e = refl
done-same b (OnDesk (RoundClose epoch Safe)) f e = refl
done-same b (OnDesk (RoundClose epoch (Lost cause))) f e = refl
done-same b (OnDesk (StoreFailed failed)) f e = refl
done-same b (OnNames call) f e = refl
done-same b (Post mail job) f e = refl
done-same b (Fetch mail answer) f e = refl
done-same b (CloseMail mail) f e = refl
done-same b NoChange f e = refl

pub gone-same : (b : ℕ) (call : ClientCall) (f : ℕ → Bool) (e : ℕ) → gone_with (client_entry b call) f e ≡ (aborts call e || f e)
gone-same b (OnDesk (OpenWrite statement epoch deps)) f e = refl
gone-same b (OnDesk (OpenRead number statement epoch)) f e = refl
gone-same b (OnDesk (Commit statement epoch)) f e = refl
gone-same b (OnDesk (AbortEnd statement epoch cause)) f e = refl
gone-same b (OnDesk (CloseRead number statement)) f e = refl
gone-same b (OnDesk (TakeNote (note.Refused session statement code) counters)) f e = refl
gone-same b (OnDesk (TakeNote (note.Cleared session statement) counters)) f e = refl
gone-same b (OnDesk (TakeNote (note.Show session statement) counters)) f e = refl
gone-same b (OnDesk (TakeNote (note.Flushed session statement) counters)) f e = refl
gone-same b (OnDesk (TakeNote (note.Purged session statement epoch) counters)) f e = refl
gone-same b (OnDesk (CreateCube statement decl (Created epoch place))) f e = refl
gone-same b (OnDesk (CreateCube statement decl Exists)) f e = refl
gone-same b (OnDesk (CreateCube statement decl TooMany)) f e = refl
gone-same b (OnDesk (FindCube statement name (Found place decl))) f e = refl
gone-same b (OnDesk (FindCube statement name Unknown)) f e = refl
gone-same b (OnDesk (CubesFrom place cubes)) f e = refl
gone-same b (OnDesk (CountersNow counters)) f e = refl
gone-same b (OnDesk (RoundOpen (Target from epoch))) f e = refl
gone-same b (OnDesk (RoundOpen (Nothing epoch))) f e = refl
gone-same b (OnDesk (RoundClose epoch Safe)) f e = refl
gone-same b (OnDesk (RoundClose epoch (Lost cause))) f e = refl
gone-same b (OnDesk (StoreFailed failed)) f e = refl
gone-same b (OnNames call) f e = refl
gone-same b (Post mail job) f e = refl
gone-same b (Fetch mail answer) f e = refl
gone-same b (CloseMail mail) f e = refl
gone-same b NoChange f e = refl

finished-step : (s : JournalState) (e : Option JournalEntry) (done gone : ℕ → Bool) → AllowsEntry s e → AreFinished s done gone
    → AreFinished (state_with_entry e s) (done_with e done) (gone_with e gone)
finished-step s None done gone h f = f
finished-step s (Some e) done gone h f = entry-finished s e done gone h f

-- The tests may be replaced by equal ones.
finished-as : (s : JournalState) (done gone after lost : ℕ → Bool) → ((e : ℕ) → done e ≡ after e) → ((e : ℕ) → gone e ≡ lost e)
    → AreFinished s done gone → AreFinished s after lost
finished-as s done gone after lost d g f = record {
  writers = f.writers;
  apart = f.apart;
  below = f.below;
  done_below = λ e is. f.done_below e (d e ∙ is);
  done_ended = λ e is. f.done_ended e (d e ∙ is);
  gone_below = λ e is. f.gone_below e (g e ∙ is);
  gone_ended = λ e is. f.gone_ended e (g e ∙ is);
  not_both = λ e is. sym (d e) ∙ f.not_both e (g e ∙ is);
}

pub run-finished : (o : Opening) (es : List CoreEvent) → IsCoreRun o es
    → AreFinished (counters_of_run o es) (has_committed o es) (has_aborted es)
run-finished o [] run = record {
  writers = λ m t is own. absurd (none-some t is);
  apart = λ m n epoch a b. absurd (none-some a.snapshot a.is);
  below = λ e is. absurd (false≢true is);
  done_below = λ e is. let l = leb-true e o.safe is in omega (arith, l);
  done_ended = λ e is. refl;
  gone_below = λ e is. absurd (false≢true is);
  gone_ended = λ e is. refl;
  not_both = λ e is. absurd (false≢true is);
}
run-finished o (By b call ∷ es) run =
    let s = counters_of_run o es in
    let f =
    finished-as (state_with_entry (client_entry b call) s) (done_with (client_entry b call) (has_committed o es))
    (gone_with (client_entry b call) (has_aborted es)) (has_committed o (By b call ∷ es)) (has_aborted (By b call ∷ es))
    (done-same b call (has_committed o es)) (gone-same b call (has_aborted es))
    (finished-step s (client_entry b call) (has_committed o es) (has_aborted es) (run-allowed o b call es run) (run-finished o es run.0))
    in
    coe 1 0 (i. AreFinished (run-step o b call es i) (has_committed o (By b call ∷ es)) (has_aborted (By b call ∷ es))) f
run-finished o (At mail move ∷ es) run = run-finished o es run.0

none-counts : (seen done own : Bool) → done ≡ false → own ≡ false → (seen && (done || own)) ≡ false
none-counts seen true own d w = absurd (true≢false d)
none-counts seen false true d w = absurd (true≢false w)
none-counts seen false false d w = and-false seen

own-is : (own same : Bool) → (own && same) ≡ true → (own ≡ true) × (same ≡ true)
own-is true true e = (refl, refl)
own-is true false e = absurd (false≢true e)
own-is false same e = absurd (false≢true e)

-- No aborted epoch counts for a snapshot that is open.
pub aborted-counts-not : (o : Opening) (es : List CoreEvent) (m e : ℕ) (s : Snapshot) → IsCoreRun o es
    → held_by (counters_of_run o es).snapshots m ≡ Some s → has_aborted es e ≡ true → counts_for o es s e ≡ false
aborted-counts-not o es m e s run held gone =
    let f = run-finished o es run in
    none-counts (sees s e) (has_committed o es e) (s.own && s.epoch == e) (f.not_both e gone)
    (false_from_ne_true (s.own && s.epoch == e) (λ sure.
    let is = own-is s.own (s.epoch == e) sure in
    let pending = f.writers m s held is.0 in
    true≢false (sym pending ∙ ap (has_number (counters_of_run o es).pending) (eqb-true s.epoch e is.1) ∙ f.gone_ended e gone)))

pub none-both : (o : Opening) (es : List CoreEvent) (e : ℕ) → IsCoreRun o es → has_aborted es e ≡ true → has_committed o es e ≡ false
none-both o es e run gone = (run-finished o es run).not_both e gone
