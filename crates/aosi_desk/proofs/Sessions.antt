-- What a register knows of the session that a call names.
use Rattle.std.proofs.Common.{◌≡◌, ◌≢◌, ◌⊎◌, ℕ, ◌<◌, ◌≤◌, Bool, true, false, List, [], ◌∷◌, length, Option, Some, None, refl, subst, sym, ◌∙◌, ap, inl, inr, arith}
use Rattle.std.specs.Option.{IsSomeAnd}
use Rattle.std.proofs.lemmas.Bool.{cases_lt}
use Rattle.std.proofs.lemmas.List.{get_or_past}
use Rattle.cube_values.specs.declared.snapshot.Snapshot.{Snapshot}
use Rattle.cube_journal.specs.declared.counters.OpenSnapshot.{OpenSnapshot}
use Rattle.cube_journal.specs.Counters.{held_by}
use Rattle.linked_roll.specs.declared.ticket.Ticket.{Ticket}
use Rattle.linked_roll.specs.Members.{Member, item_by_ticket, items}
use Rattle.aosi_desk.specs.Holds.{hold_of, snapshot_ticket, is_writer, is_reader, IsOpenOf, HoldFits, HoldsFit}
use Rattle.aosi_desk.specs.declared.hold.Hold.{Hold}
use Rattle.aosi_desk.specs.declared.hold.Hold.TheVariants.{Free, Reader, Writer}
use Rattle.aosi_desk.proofs.Held.{none_held, some_held}

some_none : {A : Type 0} (a : A) → Some a ≢ None
some_none a same = cc

-- A session that holds something has a place among the holds.
pub writer_within : (holds : List Hold) (n : ℕ) → is_writer (hold_of holds n) ≡ true → n < length holds
writer_within holds n writer = elim (cases_lt n (length holds)) [
  | inl within ↦ within
  | inr past ↦ let none = ap is_writer (sym (get_or_past holds n Free past)) ∙ writer in absurd (cc)
]

pub reader_within : (holds : List Hold) (n : ℕ) → is_reader (hold_of holds n) ≡ true → n < length holds
reader_within holds n reader = elim (cases_lt n (length holds)) [
  | inl within ↦ within
  | inr past ↦ let none = ap is_reader (sym (get_or_past holds n Free past)) ∙ reader in absurd (cc)
]

module _ (holds : List Hold) (snapshots : List (Member OpenSnapshot)) (pending : List (Member ℕ))
    (fit : HoldsFit holds snapshots pending) (n : ℕ) where
  -- The open snapshot of a session that holds a reader.
  pub record ReaderOf (t : Ticket) : Type 0 where
    pub o : OpenSnapshot
    pub held : held_by (items snapshots) n ≡ Some o.snapshot
    pub own : o.snapshot.own ≡ false
    pub found : item_by_ticket snapshots t ≡ Some o
    pub session : o.session ≡ n

  -- The open snapshot of a session that holds a writer.
  pub record WriterOf (t p : Ticket) : Type 0 where
    pub o : OpenSnapshot
    pub held : held_by (items snapshots) n ≡ Some o.snapshot
    pub own : o.snapshot.own ≡ true
    pub found : item_by_ticket snapshots t ≡ Some o
    pub session : o.session ≡ n
    pub epoch : item_by_ticket pending p ≡ Some o.snapshot.epoch

  pub reader_of : (t : Ticket) → hold_of holds n ≡ Reader t → ReaderOf t
  reader_of t is = go (item_by_ticket snapshots t) refl
      (subst (λ (h : Hold). HoldFits snapshots pending n h) is (fit.fit n))
    where
      go : (x : Option OpenSnapshot) → item_by_ticket snapshots t ≡ x → IsSomeAnd x (IsOpenOf n false) → ReaderOf t
      go None found fits = absurd fits
      go (Some o) found fits = record {
        o = o;
        held = some_held holds snapshots n t o fit.held (ap snapshot_ticket is) found fits.0;
        own = fits.1;
        found = found;
        session = fits.0;
      }

  pub writer_of : (t p : Ticket) → hold_of holds n ≡ Writer t p → WriterOf t p
  writer_of t p is = go (item_by_ticket snapshots t) refl
      (subst (λ (h : Hold). HoldFits snapshots pending n h) is (fit.fit n))
    where
      go : (x : Option OpenSnapshot) → item_by_ticket snapshots t ≡ x
          → IsSomeAnd x (λ o. IsOpenOf n true o × (item_by_ticket pending p ≡ Some o.snapshot.epoch)) → WriterOf t p
      go None found fits = absurd fits
      go (Some o) found fits = record {
        o = o;
        held = some_held holds snapshots n t o fit.held (ap snapshot_ticket is) found fits.0.0;
        own = fits.0.1;
        found = found;
        session = fits.0.0;
        epoch = fits.1;
      }

  free_by : (h : Hold) → hold_of holds n ≡ h → held_by (items snapshots) n ≡ None → hold_of holds n ≡ Free
  free_by Free is none = is
  free_by (Reader t) is none = let r = reader_of t is in absurd (some_none r.o.snapshot (sym r.held ∙ none))
  free_by (Writer t p) is none = let w = writer_of t p is in absurd (some_none w.o.snapshot (sym w.held ∙ none))

  -- A session that holds no snapshot.
  pub free_hold : held_by (items snapshots) n ≡ None → hold_of holds n ≡ Free
  free_hold none = free_by (hold_of holds n) refl none

  snapshot_is : (a b : Snapshot) → Some a ≡ Some b → a ≡ b
  snapshot_is a b same = cc

  writes : (h : Hold) → hold_of holds n ≡ h → (x : Option Snapshot) → held_by (items snapshots) n ≡ x
      → IsSomeAnd x (λ q. q.own ≡ true) → is_writer h ≡ true
  writes Free is x held own =
      let none = none_held holds snapshots n fit.held (ap snapshot_ticket is) in
      absurd (subst (λ y. IsSomeAnd y (λ q. q.own ≡ true)) (sym held ∙ none) own)
  writes (Reader t) is x held own =
      let r = reader_of t is in
      let bad = subst (λ y. IsSomeAnd y (λ q. q.own ≡ true)) (sym held ∙ r.held) own in
      absurd (not_both r.o.snapshot.own r.own bad)
    where
      not_both : (b : Bool) → b ≡ false → b ≡ true → ⊥
      not_both b unset isset = cc
  writes (Writer t p) is x held own = refl

  pub holds_writer : IsSomeAnd (held_by (items snapshots) n) (λ q. q.own ≡ true) → is_writer (hold_of holds n) ≡ true
  holds_writer own = writes (hold_of holds n) refl (held_by (items snapshots) n) refl own

  reads : (h : Hold) → hold_of holds n ≡ h → (x : Option Snapshot) → held_by (items snapshots) n ≡ x
      → IsSomeAnd x (λ q. q.own ≡ false) → is_reader h ≡ true
  reads Free is x held own =
      let none = none_held holds snapshots n fit.held (ap snapshot_ticket is) in
      absurd (subst (λ y. IsSomeAnd y (λ q. q.own ≡ false)) (sym held ∙ none) own)
  reads (Reader t) is x held own = refl
  reads (Writer t p) is x held own =
      let w = writer_of t p is in
      let bad = subst (λ y. IsSomeAnd y (λ q. q.own ≡ false)) (sym held ∙ w.held) own in
      absurd (not_both w.o.snapshot.own w.own bad)
    where
      not_both : (b : Bool) → b ≡ true → b ≡ false → ⊥
      not_both b isset unset = cc

  pub holds_reader : IsSomeAnd (held_by (items snapshots) n) (λ q. q.own ≡ false) → is_reader (hold_of holds n) ≡ true
  holds_reader own = reads (hold_of holds n) refl (held_by (items snapshots) n) refl own
