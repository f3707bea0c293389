-- The tickets agree with the rolls after a snapshot opens or ends.
use Rattle.std.proofs.Common.{◌≡◌, ◌≢◌, ◌⊎◌, ℕ, ◌<◌, Bool, true, false, List, [], ◌∷◌, ◌++◌, length, set, Option, Some, None, refl, subst, sym, ◌∙◌, ap, inl, inr, arith}
use Rattle.std.specs.Option.{IsSomeAnd}
use Rattle.std.proofs.lemmas.Bool.{cases_eq}
use Rattle.cube_journal.specs.declared.counters.OpenSnapshot.{OpenSnapshot}
use Rattle.linked_roll.specs.declared.ticket.Ticket.{Ticket}
use Rattle.linked_roll.specs.Members.{Member, member, item_by_ticket, items, members_without, TicketsDiffer}
use Rattle.linked_roll.proofs.Tickets.{item_by_ticket-added, item_by_ticket-before_added, item_by_ticket-before_taken}
use Rattle.aosi_desk.specs.Holds.{hold_of, snapshot_ticket, pending_ticket, AreHeld, IsOpenOf, HoldFits, HoldsFit}
use Rattle.aosi_desk.specs.declared.hold.Hold.{Hold}
use Rattle.aosi_desk.specs.declared.hold.Hold.TheVariants.{Free, Reader, Writer}
use Rattle.aosi_desk.proofs.Held.{hold-same, hold-other, held_added, held_taken, open_found, pending_found, fits_still}

some_none : {A : Type 0} (a : A) → Some a ≢ None
some_none a same = cc

some_same : {A : Type 0} (a b : A) → Some a ≡ Some b → a ≡ b
some_same a b same = cc

-- A ticket that is new in a roll is no session's.
fresh_differs : {A : Type 0} (ms : List (Member A)) (t u : Ticket) (a : A) → item_by_ticket ms t ≡ None
    → item_by_ticket ms u ≡ Some a → t ≢ u
fresh_differs ms t u a fresh found same = some_none a (sym found ∙ ap (item_by_ticket ms) (sym same) ∙ fresh)

module _ (holds : List Hold) (snapshots : List (Member OpenSnapshot)) (pending : List (Member ℕ))
    (fit : HoldsFit holds snapshots pending) (o : OpenSnapshot) (t : Ticket) (fresh : item_by_ticket snapshots t ≡ None)
    (free : hold_of holds o.session ≡ Free) (within : o.session < length holds) where
  more : List (Member OpenSnapshot)
  more = snapshots ++ member t o ∷ []

  found : item_by_ticket more t ≡ Some o
  unfolding more
  found = item_by_ticket-added snapshots (member t o) fresh

  keeps_open : (n : ℕ) (u : Ticket) → snapshot_ticket (hold_of holds n) ≡ Some u
      → item_by_ticket more u ≡ item_by_ticket snapshots u
  unfolding more
  keeps_open n u has =
      let there = open_found snapshots pending n (hold_of holds n) u (fit.fit n) has in
      item_by_ticket-before_added snapshots (member t o) u (fresh_differs snapshots t u there.0 fresh there.1)

  pub HoldsFit-read : o.snapshot.own ≡ false → HoldsFit (set holds o.session (Reader t))
      (snapshots ++ member t o ∷ []) pending
  unfolding more
  HoldsFit-read own = record {
    held = held_added holds snapshots (Reader t) t o fit.held (ap snapshot_ticket free) within refl;
    fit = λ n. elim (cases_eq n o.session) [
      | inl same ↦
          subst (λ (h : Hold). HoldFits more pending n h)
          (sym (ap (hold_of (set holds o.session (Reader t))) same ∙ hold-same holds o.session (Reader t) within))
          (subst (λ x. IsSomeAnd x (IsOpenOf n false)) (sym found) (sym same, own))
      | inr differ ↦
          subst (λ (h : Hold). HoldFits more pending n h) (sym (hold-other holds o.session n (Reader t) differ))
          (fits_still snapshots more pending pending n (hold_of holds n) (keeps_open n) (λ w has. refl) (fit.fit n))
    ];
    own = λ a b w has has_too. fit.own a b w (was a w has) (was b w has_too);
  }
    where
      was : (a : ℕ) (w : Ticket) → pending_ticket (hold_of (set holds o.session (Reader t)) a) ≡ Some w
          → pending_ticket (hold_of holds a) ≡ Some w
      was a w has = elim (cases_eq a o.session) [
        | inl same ↦ absurd (some_none w (sym has ∙ ap pending_ticket
            (ap (hold_of (set holds o.session (Reader t))) same ∙ hold-same holds o.session (Reader t) within)))
        | inr differ ↦ sym (ap pending_ticket (hold-other holds o.session a (Reader t) differ)) ∙ has
      ]

  module _ (p : Ticket) (fresh_pending : item_by_ticket pending p ≡ None) where
    next : List (Member ℕ)
    next = pending ++ member p o.snapshot.epoch ∷ []

    writer : Hold
    writer = Writer t p

    later : List Hold
    later = set holds o.session (Writer t p)

    later_same : (a : ℕ) → a ≡ o.session → hold_of later a ≡ Writer t p
    unfolding later
    later_same a same = ap (hold_of (set holds o.session (Writer t p))) same
        ∙ hold-same holds o.session (Writer t p) within

    later_other : (a : ℕ) → a ≢ o.session → hold_of later a ≡ hold_of holds a
    unfolding later
    later_other a differ = hold-other holds o.session a (Writer t p) differ

    keeps_pending : (n : ℕ) (w : Ticket) → pending_ticket (hold_of holds n) ≡ Some w
        → item_by_ticket next w ≡ item_by_ticket pending w
    unfolding next
    keeps_pending n w has =
        let there = pending_found snapshots pending n (hold_of holds n) w (fit.fit n) has in
        item_by_ticket-before_added pending (member p o.snapshot.epoch) w
        (fresh_differs pending p w there.0 fresh_pending there.1)

    -- No session had the ticket of the new pending epoch.
    was_not : (a : ℕ) → pending_ticket (hold_of holds a) ≢ Some p
    was_not a has =
        let there = pending_found snapshots pending a (hold_of holds a) p (fit.fit a) has in
        fresh_differs pending p p there.0 fresh_pending there.1 refl

    owned : (a b : ℕ) (w : Ticket) → pending_ticket (hold_of later a) ≡ Some w
        → pending_ticket (hold_of later b) ≡ Some w
        → (a ≡ o.session) ⊎ (a ≢ o.session) → (b ≡ o.session) ⊎ (b ≢ o.session) → a ≡ b
    owned a b w has has_too (inl first) (inl second) = first ∙ sym second
    owned a b w has has_too (inl first) (inr second) =
        let is : Some p ≡ Some w = sym (ap pending_ticket (later_same a first)) ∙ has in
        absurd (was_not b (sym (ap pending_ticket (later_other b second)) ∙ has_too ∙ sym is))
    owned a b w has has_too (inr first) (inl second) =
        let is : Some p ≡ Some w = sym (ap pending_ticket (later_same b second)) ∙ has_too in
        absurd (was_not a (sym (ap pending_ticket (later_other a first)) ∙ has ∙ sym is))
    owned a b w has has_too (inr first) (inr second) =
        fit.own a b w (sym (ap pending_ticket (later_other a first)) ∙ has)
        (sym (ap pending_ticket (later_other b second)) ∙ has_too)

    pub HoldsFit-begun : o.snapshot.own ≡ true
        → HoldsFit (set holds o.session (Writer t p)) (snapshots ++ member t o ∷ [])
        (pending ++ member p o.snapshot.epoch ∷ [])
    unfolding more next later
    HoldsFit-begun own = record {
      held = held_added holds snapshots (Writer t p) t o fit.held (ap snapshot_ticket free) within refl;
      fit = λ n. elim (cases_eq n o.session) [
        | inl same ↦
            subst (λ (h : Hold). HoldFits more next n h) (sym (later_same n same))
            (subst (λ x. IsSomeAnd x (λ q. IsOpenOf n true q × (item_by_ticket next p ≡ Some q.snapshot.epoch)))
            (sym found) ((sym same, own), item_by_ticket-added pending (member p o.snapshot.epoch) fresh_pending))
        | inr differ ↦
            subst (λ (h : Hold). HoldFits more next n h) (sym (later_other n differ))
            (fits_still snapshots more pending next n (hold_of holds n) (keeps_open n) (keeps_pending n) (fit.fit n))
      ];
      own = λ a b w has has_too. owned a b w has has_too (cases_eq a o.session) (cases_eq b o.session);
    }

-- The session's snapshot ends, and its pending epoch if it has one.
module _ (holds : List Hold) (snapshots : List (Member OpenSnapshot)) (pending next : List (Member ℕ))
    (fit : HoldsFit holds snapshots pending) (differ : TicketsDiffer snapshots) (n : ℕ) (within : n < length holds)
    (t : Ticket)
    (has : snapshot_ticket (hold_of holds n) ≡ Some t)
    (kept : (a : ℕ) (w : Ticket) → a ≢ n → pending_ticket (hold_of holds a) ≡ Some w
    → item_by_ticket next w ≡ item_by_ticket pending w) where
  finds : (a : ℕ) (u : Ticket) → a ≢ n → snapshot_ticket (hold_of holds a) ≡ Some u
      → item_by_ticket (members_without t snapshots) u ≡ item_by_ticket snapshots u
  finds a u other holds_u =
      let mine = open_found snapshots pending n (hold_of holds n) t (fit.fit n) has in
      let theirs = open_found snapshots pending a (hold_of holds a) u (fit.fit a) holds_u in
      item_by_ticket-before_taken snapshots t u (λ same. other (
      sym theirs.2
      ∙ ap (λ (x : OpenSnapshot). x.session)
      (some_same theirs.0 mine.0 (sym theirs.1 ∙ ap (item_by_ticket snapshots) same ∙ mine.1))
      ∙ mine.2
      ))

  free_now : (a : ℕ) → a ≡ n → hold_of (set holds n Free) a ≡ Free
  free_now a same = ap (hold_of (set holds n Free)) same ∙ hold-same holds n Free within

  was_held : (a : ℕ) (w : Ticket) → pending_ticket (hold_of (set holds n Free) a) ≡ Some w
      → pending_ticket (hold_of holds a) ≡ Some w
  was_held a w has_w = elim (cases_eq a n) [
    | inl same ↦ absurd (some_none w (sym has_w ∙ ap pending_ticket (free_now a same)))
    | inr other ↦ sym (ap pending_ticket (hold-other holds n a Free other)) ∙ has_w
  ]

  pub HoldsFit-ended : HoldsFit (set holds n Free) (members_without t snapshots) next
  HoldsFit-ended = record {
    held = held_taken holds n t has snapshots fit.held differ;
    fit = λ a. elim (cases_eq a n) [
      | inl same ↦ subst (λ (h : Hold). HoldFits (members_without t snapshots) next a h) (sym (free_now a same)) tt
      | inr other ↦
          subst (λ (h : Hold). HoldFits (members_without t snapshots) next a h) (sym (hold-other holds n a Free other))
          (fits_still snapshots (members_without t snapshots) pending next a (hold_of holds a)
          (λ u holds_u. finds a u other holds_u) (λ w holds_w. kept a w other holds_w) (fit.fit a))
    ];
    own = λ a b w has_a has_b. fit.own a b w (was_held a w has_a) (was_held b w has_b);
  }
