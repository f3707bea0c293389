-- What a ticket finds where a member is added or taken out.
use Rattle.std.proofs.Common.{◌≡◌, ◌≢◌, ◌⊎◌, ◌+◌, ◌==◌, true, false, List, [], ◌∷◌, ◌++◌, length, Some, None, refl, subst, sym, ◌∙◌, ap, inl, inr, arith, if◌then◌else◌}
use Rattle.std.proofs.lemmas.Bool.{cases_eq}
use Rattle.std.proofs.lemmas.Bool.Decides.{nat_tests}
use Rattle.linked_roll.specs.Members.{Member, item_by_ticket, members_without, TicketsDiffer}
use Rattle.linked_roll.specs.declared.ticket.Ticket.{Ticket}

-- Two tickets are one, or differ.
pub ticket_cases : (a b : Ticket) → (a ≡ b) ⊎ (a ≢ b)
ticket_cases a b =
    elim (cases_eq a.key b.key) [
      | inl same ↦ inl (ap (λ k. record { key = k }) same)
      | inr differ ↦ inr (λ same. differ (ap (λ (t : Ticket). t.key) same))
    ]

same_key : (a : Ticket) → (a.key == a.key) ≡ true
same_key a = grind (arith, nat_tests)

other_key : (a b : Ticket) → a ≢ b → (a.key == b.key) ≡ false
other_key a b differ = elim (cases_eq a.key b.key) [
  | inl same ↦ absurd (differ (ap (λ k. record { key = k }) same))
  | inr other ↦ grind (arith, nat_tests)
]

module _ {T : Type 0} where
  pub item_by_ticket-here : (m : Member T) (members : List (Member T))
      → item_by_ticket (m ∷ members) m.ticket ≡ Some m.item
  item_by_ticket-here m members = rw (same_key m.ticket) refl

  pub item_by_ticket-other : (m : Member T) (members : List (Member T)) (t : Ticket) → m.ticket ≢ t
      → item_by_ticket (m ∷ members) t ≡ item_by_ticket members t
  item_by_ticket-other m members t differ = rw (other_key m.ticket t differ) refl

  pub members_without-here : (m : Member T) (members : List (Member T)) (t : Ticket) → m.ticket ≡ t
      → members_without t (m ∷ members) ≡ members
  members_without-here m members t same =
      let test : (m.ticket.key == t.key) ≡ true = subst (λ (x : Ticket). (m.ticket.key == x.key) ≡ true) same
      (same_key m.ticket) in
      rw test refl

  pub members_without-other : (m : Member T) (members : List (Member T)) (t : Ticket) → m.ticket ≢ t
      → members_without t (m ∷ members) ≡ m ∷ members_without t members
  members_without-other m members t differ = rw (other_key m.ticket t differ) refl

  -- A ticket that finds nothing differs from the first member's, and finds nothing behind it.
  pub differs_first : (m : Member T) (members : List (Member T)) (t : Ticket)
      → item_by_ticket (m ∷ members) t ≡ None → m.ticket ≢ t
  differs_first m members t absent same =
      let found : item_by_ticket (m ∷ members) t ≡ Some m.item = ap (item_by_ticket (m ∷ members)) (sym same)
      ∙ item_by_ticket-here m members in cc

  pub absent_behind : (m : Member T) (members : List (Member T)) (t : Ticket)
      → item_by_ticket (m ∷ members) t ≡ None → item_by_ticket members t ≡ None
  absent_behind m members t absent = sym (item_by_ticket-other m members t (differs_first m members t absent)) ∙ absent

  -- Behind the last member a new one is found by its own ticket, and the others find what they found.
  pub item_by_ticket-added : (members : List (Member T)) (m : Member T) → item_by_ticket members m.ticket ≡ None
      → item_by_ticket (members ++ m ∷ []) m.ticket ≡ Some m.item
  item_by_ticket-added [] m absent = item_by_ticket-here m []
  item_by_ticket-added (first ∷ members) m absent =
      item_by_ticket-other first (members ++ m ∷ []) m.ticket (differs_first first members m.ticket absent)
      ∙ item_by_ticket-added members m (absent_behind first members m.ticket absent)

  pub item_by_ticket-before_added : (members : List (Member T)) (m : Member T) (t : Ticket) → m.ticket ≢ t
      → item_by_ticket (members ++ m ∷ []) t ≡ item_by_ticket members t
  item_by_ticket-before_added [] m t differ = item_by_ticket-other m [] t differ
  item_by_ticket-before_added (first ∷ members) m t differ =
      ap (λ found. if first.ticket.key == t.key then Some first.item else found)
      (item_by_ticket-before_added members m t differ)

  pub TicketsDiffer-added : (members : List (Member T)) (m : Member T) → TicketsDiffer members
      → item_by_ticket members m.ticket ≡ None → TicketsDiffer (members ++ m ∷ [])
  TicketsDiffer-added [] m differ absent = (refl, tt)
  TicketsDiffer-added (first ∷ members) m differ absent = (
    item_by_ticket-before_added members m first.ticket
        (λ same. differs_first first members m.ticket absent (sym same)) ∙ differ.0,
    TicketsDiffer-added members m differ.1 (absent_behind first members m.ticket absent),
  )

  -- Without the member of a ticket that ticket finds nothing, and the others find what they found.
  pub item_by_ticket-taken : (members : List (Member T)) (t : Ticket) → TicketsDiffer members
      → item_by_ticket (members_without t members) t ≡ None
  item_by_ticket-taken [] t differ = refl
  item_by_ticket-taken (m ∷ members) t differ = elim (ticket_cases m.ticket t) [
    | inl same ↦ ap (λ left. item_by_ticket left t) (members_without-here m members t same)
        ∙ ap (item_by_ticket members) (sym same) ∙ differ.0
    | inr other ↦
        ap (λ left. item_by_ticket left t) (members_without-other m members t other)
        ∙ item_by_ticket-other m (members_without t members) t other
        ∙ item_by_ticket-taken members t differ.1
  ]

  pub item_by_ticket-before_taken : (members : List (Member T)) (t other : Ticket) → other ≢ t
      → item_by_ticket (members_without t members) other ≡ item_by_ticket members other
  item_by_ticket-before_taken [] t other differ = refl
  item_by_ticket-before_taken (m ∷ members) t other differ = elim (ticket_cases m.ticket t) [
    | inl same ↦
        ap (λ left. item_by_ticket left other) (members_without-here m members t same)
        ∙ sym (item_by_ticket-other m members other (λ found. differ (sym found ∙ same)))
    | inr apart ↦
        ap (λ left. item_by_ticket left other) (members_without-other m members t apart)
        ∙ ap (λ found. if m.ticket.key == other.key then Some m.item else found)
        (item_by_ticket-before_taken members t other differ)
  ]

  pub TicketsDiffer-taken : (members : List (Member T)) (t : Ticket) → TicketsDiffer members
      → TicketsDiffer (members_without t members)
  TicketsDiffer-taken [] t differ = tt
  TicketsDiffer-taken (m ∷ members) t differ = elim (ticket_cases m.ticket t) [
    | inl same ↦ subst TicketsDiffer (sym (members_without-here m members t same)) differ.1
    | inr apart ↦
        subst TicketsDiffer (sym (members_without-other m members t apart))
        (item_by_ticket-before_taken members t m.ticket apart ∙ differ.0, TicketsDiffer-taken members t differ.1)
  ]

  pub length-taken : (members : List (Member T)) (t : Ticket) (item : T) → item_by_ticket members t ≡ Some item
      → length members ≡ length (members_without t members) + 1
  length-taken [] t item found = cc
  length-taken (m ∷ members) t item found = elim (ticket_cases m.ticket t) [
    | inl same ↦ omega (arith, ap length (members_without-here m members t same))
    | inr apart ↦
        let behind = sym (item_by_ticket-other m members t apart) ∙ found in
        omega (arith, ap length (members_without-other m members t apart), length-taken members t item behind)
  ]
