-- What a session holds is what its tickets find, and this stays so where a snapshot opens or ends.
use Rattle.std.proofs.Common.{◌≡◌, ◌≢◌, ◌⊎◌, ℕ, ◌+◌, ◌<◌, ◌≤◌, ◌==◌, Bool, true, false, not, List, [], ◌∷◌, ◌++◌, length, set, map, filter, Option, Some, None, IsSome, refl, subst, sym, ◌∙◌, ap, inl, inr, arith}
use Rattle.std.specs.Option.{IsSomeAnd}
use Rattle.std.proofs.lemmas.Bool.{cases_eq}
use Rattle.std.proofs.lemmas.Bool.Decides.{nat_tests}
use Rattle.std.proofs.lemmas.List.{get_or-set_same, get_or-set_other}
use Rattle.cube_values.specs.declared.snapshot.Snapshot.{Snapshot}
use Rattle.cube_journal.specs.declared.counters.OpenSnapshot.{OpenSnapshot}
use Rattle.cube_journal.specs.Counters.{held_by, snapshots_without}
use Rattle.linked_roll.specs.declared.ticket.Ticket.{Ticket}
use Rattle.linked_roll.specs.Members.{Member, member, item_by_ticket, items, members_without, TicketsDiffer}
use Rattle.linked_roll.proofs.Tickets.{ticket_cases, item_by_ticket-here, item_by_ticket-other, item_by_ticket-added, item_by_ticket-before_added, item_by_ticket-before_taken, members_without-here, members_without-other, differs_first, absent_behind}
use Rattle.aosi_desk.specs.Holds.{hold_of, snapshot_ticket, pending_ticket, AreHeld, IsOpenOf, HoldFits, HoldsFit}
use Rattle.aosi_desk.specs.declared.hold.Hold.{Hold}
use Rattle.aosi_desk.specs.declared.hold.Hold.TheVariants.{Free, Reader, Writer}

pub hold-same : (holds : List Hold) (n : ℕ) (h : Hold) → n < length holds → hold_of (set holds n h) n ≡ h
hold-same holds n h within = get_or-set_same holds n h Free within

pub hold-other : (holds : List Hold) (n k : ℕ) (h : Hold) → k ≢ n → hold_of (set holds n h) k ≡ hold_of holds k
hold-other holds n k h differ = get_or-set_other holds n k h Free differ

same_number : (a b : ℕ) → a ≡ b → (a == b) ≡ true
same_number a b same = grind (arith, nat_tests)

other_number : (a b : ℕ) → a ≢ b → (a == b) ≡ false
other_number a b differ = grind (arith, nat_tests)

held_by-here : (o : OpenSnapshot) (os : List OpenSnapshot) (n : ℕ) → o.session ≡ n
    → held_by (o ∷ os) n ≡ Some o.snapshot
held_by-here o os n same = rw (same_number o.session n same) refl

held_by-other : (o : OpenSnapshot) (os : List OpenSnapshot) (n : ℕ) → o.session ≢ n
    → held_by (o ∷ os) n ≡ held_by os n
held_by-other o os n differ = rw (other_number o.session n differ) refl

snapshots_without-here : (o : OpenSnapshot) (os : List OpenSnapshot) (n : ℕ) → o.session ≡ n
    → snapshots_without n (o ∷ os) ≡ snapshots_without n os
snapshots_without-here o os n same = rw (same_number o.session n same) refl

snapshots_without-other : (o : OpenSnapshot) (os : List OpenSnapshot) (n : ℕ) → o.session ≢ n
    → snapshots_without n (o ∷ os) ≡ o ∷ snapshots_without n os
snapshots_without-other o os n differ = rw (other_number o.session n differ) refl

-- A session without a ticket holds nothing.
pub none_held : (holds : List Hold) (snapshots : List (Member OpenSnapshot)) (n : ℕ) → AreHeld holds snapshots
    → snapshot_ticket (hold_of holds n) ≡ None → held_by (items snapshots) n ≡ None
none_held holds [] n held free = refl
none_held holds (m ∷ snapshots) n held free =
    let differ : m.item.session ≢ n = λ same. some_none m.ticket
    (sym held.0 ∙ ap (λ s. snapshot_ticket (hold_of holds s)) same ∙ free) in
    held_by-other m.item (items snapshots) n differ ∙ none_held holds snapshots n held.1 free
  where
    some_none : (t : Ticket) → Some t ≢ None
    some_none t same = cc

-- A session with a ticket holds the snapshot that it finds.
pub some_held : (holds : List Hold) (snapshots : List (Member OpenSnapshot)) (n : ℕ) (t : Ticket) (o : OpenSnapshot)
    → AreHeld holds snapshots → snapshot_ticket (hold_of holds n) ≡ Some t → item_by_ticket snapshots t ≡ Some o
    → o.session ≡ n
    → held_by (items snapshots) n ≡ Some o.snapshot
some_held holds [] n t o held has found session = absurd (cc)
some_held holds (m ∷ snapshots) n t o held has found session = elim (ticket_cases m.ticket t) [
  | inl same ↦
      let here : Some m.item ≡ Some o =
      sym (item_by_ticket-here m snapshots) ∙ ap (item_by_ticket (m ∷ snapshots)) same ∙ found in
      let is : m.item ≡ o = cc in
      held_by-here m.item (items snapshots) n (ap (λ (x : OpenSnapshot). x.session) is ∙ session)
      ∙ ap (λ (x : OpenSnapshot). Some x.snapshot) is
  | inr apart ↦
      let differ : m.item.session ≢ n = λ s. apart (some_same m.ticket t
      (sym held.0 ∙ ap (λ x. snapshot_ticket (hold_of holds x)) s ∙ has)) in
      held_by-other m.item (items snapshots) n differ
      ∙ some_held holds snapshots n t o held.1 has (sym (item_by_ticket-other m snapshots t apart) ∙ found) session
]
  where
    some_same : (a b : Ticket) → Some a ≡ Some b → a ≡ b
    some_same a b same = cc

-- A session that had no ticket has that of a new last one.
pub held_added : (holds : List Hold) (snapshots : List (Member OpenSnapshot)) (h : Hold) (t : Ticket) (o : OpenSnapshot)
    → AreHeld holds snapshots → snapshot_ticket (hold_of holds o.session) ≡ None → o.session < length holds
    → snapshot_ticket h ≡ Some t → AreHeld (set holds o.session h) (snapshots ++ member t o ∷ [])
held_added holds [] h t o held free within has =
    (ap snapshot_ticket (hold-same holds o.session h within) ∙ has, tt)
held_added holds (m ∷ snapshots) h t o held free within has =
    let differ : m.item.session ≢ o.session = λ same. some_none m.ticket
    (sym held.0 ∙ ap (λ s. snapshot_ticket (hold_of holds s)) same ∙ free) in (
      ap snapshot_ticket (hold-other holds o.session m.item.session h differ) ∙ held.0,
      held_added holds snapshots h t o held.1 free within has,
    )
  where
    some_none : (t : Ticket) → Some t ≢ None
    some_none t same = cc

module _ (holds : List Hold) (n : ℕ) (t : Ticket) (has : snapshot_ticket (hold_of holds n) ≡ Some t) where
  other_session : (m : Member OpenSnapshot) → snapshot_ticket (hold_of holds m.item.session) ≡ Some m.ticket
      → m.ticket ≢ t
      → m.item.session ≢ n
  other_session m held apart same = apart (some_same m.ticket t
      (sym held ∙ ap (λ s. snapshot_ticket (hold_of holds s)) same ∙ has))
    where
      some_same : (a b : Ticket) → Some a ≡ Some b → a ≡ b
      some_same a b same = cc

  -- Snapshots among which the ticket finds nothing are other sessions'.
  still_held : (snapshots : List (Member OpenSnapshot)) → AreHeld holds snapshots → item_by_ticket snapshots t ≡ None
      → AreHeld (set holds n Free) snapshots
  still_held [] held absent = tt
  still_held (m ∷ snapshots) held absent =
      let differ = other_session m held.0 (differs_first m snapshots t absent) in (
        ap snapshot_ticket (hold-other holds n m.item.session Free differ) ∙ held.0,
        still_held snapshots held.1 (absent_behind m snapshots t absent),
      )

  still_open : (snapshots : List (Member OpenSnapshot)) → AreHeld holds snapshots → item_by_ticket snapshots t ≡ None
      → snapshots_without n (items snapshots) ≡ items snapshots
  still_open [] held absent = refl
  still_open (m ∷ snapshots) held absent =
      let differ = other_session m held.0 (differs_first m snapshots t absent) in
      snapshots_without-other m.item (items snapshots) n differ
      ∙ ap (λ left. m.item ∷ left) (still_open snapshots held.1 (absent_behind m snapshots t absent))

  -- Without the snapshot of the ticket.
  pub held_taken : (snapshots : List (Member OpenSnapshot)) → AreHeld holds snapshots → TicketsDiffer snapshots
      → AreHeld (set holds n Free) (members_without t snapshots)
  held_taken [] held differ = tt
  held_taken (m ∷ snapshots) held differ = elim (ticket_cases m.ticket t) [
    | inl same ↦
        subst (AreHeld (set holds n Free)) (sym (members_without-here m snapshots t same))
        (still_held snapshots held.1 (ap (item_by_ticket snapshots) (sym same) ∙ differ.0))
    | inr apart ↦
        subst (AreHeld (set holds n Free)) (sym (members_without-other m snapshots t apart)) (
          ap snapshot_ticket (hold-other holds n m.item.session Free (other_session m held.0 apart)) ∙ held.0,
          held_taken snapshots held.1 differ.1,
        )
  ]

  pub open_taken : (snapshots : List (Member OpenSnapshot)) (o : OpenSnapshot) → AreHeld holds snapshots
      → TicketsDiffer snapshots
      → item_by_ticket snapshots t ≡ Some o → o.session ≡ n
      → items (members_without t snapshots) ≡ snapshots_without n (items snapshots)
  open_taken [] o held differ found session = refl
  open_taken (m ∷ snapshots) o held differ found session = elim (ticket_cases m.ticket t) [
    | inl same ↦
        let here : Some m.item ≡ Some o =
        sym (item_by_ticket-here m snapshots) ∙ ap (item_by_ticket (m ∷ snapshots)) same ∙ found in
        let is : m.item ≡ o = cc in
        ap items (members_without-here m snapshots t same)
        ∙ sym (still_open snapshots held.1 (ap (item_by_ticket snapshots) (sym same) ∙ differ.0))
        ∙ sym (snapshots_without-here m.item (items snapshots) n (ap (λ (x : OpenSnapshot). x.session) is ∙ session))
    | inr apart ↦
        ap items (members_without-other m snapshots t apart)
        ∙ ap (λ left. m.item ∷ left)
        (open_taken snapshots o held.1 differ.1 (sym (item_by_ticket-other m snapshots t apart) ∙ found) session)
        ∙ sym (snapshots_without-other m.item (items snapshots) n (other_session m held.0 apart))
  ]

-- What the tickets of a hold find.
pub open_found : (snapshots : List (Member OpenSnapshot)) (pending : List (Member ℕ)) (n : ℕ) (h : Hold) (t : Ticket)
    → HoldFits snapshots pending n h → snapshot_ticket h ≡ Some t
    → (o : OpenSnapshot) × (item_by_ticket snapshots t ≡ Some o) × (o.session ≡ n)
open_found snapshots pending n Free t fits has = absurd (cc)
open_found snapshots pending n (Reader u) t fits has =
    let same : u ≡ t = cc in
    reader (item_by_ticket snapshots u) refl fits (ap (item_by_ticket snapshots) same)
  where
    reader : (x : Option OpenSnapshot) → item_by_ticket snapshots u ≡ x → IsSomeAnd x (IsOpenOf n false)
        → item_by_ticket snapshots u ≡ item_by_ticket snapshots t
        → (o : OpenSnapshot) × (item_by_ticket snapshots t ≡ Some o) × (o.session ≡ n)
    reader None is fits same = absurd fits
    reader (Some o) is fits same = (o, sym same ∙ is, fits.0)
open_found snapshots pending n (Writer u w) t fits has =
    let same : u ≡ t = cc in
    writer (item_by_ticket snapshots u) refl fits (ap (item_by_ticket snapshots) same)
  where
    writer : (x : Option OpenSnapshot) → item_by_ticket snapshots u ≡ x
        → IsSomeAnd x (λ o. IsOpenOf n true o × (item_by_ticket pending w ≡ Some o.snapshot.epoch))
        → item_by_ticket snapshots u ≡ item_by_ticket snapshots t
        → (o : OpenSnapshot) × (item_by_ticket snapshots t ≡ Some o) × (o.session ≡ n)
    writer None is fits same = absurd fits
    writer (Some o) is fits same = (o, sym same ∙ is, fits.0.0)

pub pending_found : (snapshots : List (Member OpenSnapshot)) (pending : List (Member ℕ)) (n : ℕ) (h : Hold) (w : Ticket)
    → HoldFits snapshots pending n h → pending_ticket h ≡ Some w → (e : ℕ) × (item_by_ticket pending w ≡ Some e)
pending_found snapshots pending n Free w fits has = absurd (cc)
pending_found snapshots pending n (Reader u) w fits has = absurd (cc)
pending_found snapshots pending n (Writer u v) w fits has =
    let same : v ≡ w = cc in
    writer (item_by_ticket snapshots u) fits (ap (item_by_ticket pending) same)
  where
    writer : (x : Option OpenSnapshot)
        → IsSomeAnd x (λ o. IsOpenOf n true o × (item_by_ticket pending v ≡ Some o.snapshot.epoch))
        → item_by_ticket pending v ≡ item_by_ticket pending w
        → (e : ℕ) × (item_by_ticket pending w ≡ Some e)
    writer None fits same = absurd fits
    writer (Some o) fits same = (o.snapshot.epoch, sym same ∙ fits.1)

-- A hold fits as before where its tickets find what they found.
pub fits_still : (snapshots later : List (Member OpenSnapshot)) (pending next : List (Member ℕ)) (n : ℕ) (h : Hold)
    → ((t : Ticket) → snapshot_ticket h ≡ Some t → item_by_ticket later t ≡ item_by_ticket snapshots t)
    → ((w : Ticket) → pending_ticket h ≡ Some w → item_by_ticket next w ≡ item_by_ticket pending w)
    → HoldFits snapshots pending n h → HoldFits later next n h
fits_still snapshots later pending next n Free finds finds_pending fits = tt
fits_still snapshots later pending next n (Reader t) finds finds_pending fits =
    subst (λ x. IsSomeAnd x (IsOpenOf n false)) (sym (finds t refl)) fits
fits_still snapshots later pending next n (Writer t w) finds finds_pending fits =
    subst (λ x. IsSomeAnd x (λ o. IsOpenOf n true o × (item_by_ticket next w ≡ Some o.snapshot.epoch)))
    (sym (finds t refl))
    (subst (λ y. IsSomeAnd (item_by_ticket snapshots t) (λ o. IsOpenOf n true o × (y ≡ Some o.snapshot.epoch)))
    (sym (finds_pending w refl)) fits)
