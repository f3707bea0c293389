-- The list that a roll is: items in the order of their pushes, each with its ticket.
use Rattle.std.specs.Prelude.{◌≡◌, ℕ, ◌==◌, List, [], ◌∷◌, map, Option, Some, None, if◌then◌else◌}
use Rattle.linked_roll.specs.declared.ticket.Ticket.{Ticket}

-- An item and its ticket.
pub record Member (T : Type 0) : Type 0 where
  pub ticket : Ticket
  pub item : T

-- The members of a roll in order, and how many more fit with no memory.
pub record RollState (T : Type 0) : Type 0 where
  pub members : List (Member T)
  pub spare : ℕ

module _ {T : Type 0} where
  -- The member with this ticket and item.
  abbrev pub member : Ticket → T → Member T
  member ticket item = record { ticket = ticket; item = item }

  -- The items in order.
  abbrev pub items : List (Member T) → List T
  items members = map (λ m. m.item) members

  -- The first item, where there is one.
  abbrev pub front : List (Member T) → Option T
  front [] = None
  front (m ∷ members) = Some m.item

  -- The item that a ticket finds, where it finds one.
  abbrev pub item_by_ticket : List (Member T) → Ticket → Option T
  item_by_ticket [] ticket = None
  item_by_ticket (m ∷ members) ticket = if m.ticket.key == ticket.key then Some m.item else item_by_ticket members
      ticket

  -- The members without the one that a ticket finds.
  abbrev pub members_without : Ticket → List (Member T) → List (Member T)
  members_without ticket [] = []
  members_without ticket (m ∷ members) =
      if m.ticket.key == ticket.key then members else m ∷ members_without ticket members

  -- No two members have one ticket.
  abbrev pub TicketsDiffer : List (Member T) → Type 0
  TicketsDiffer [] = Unit {0}
  TicketsDiffer (m ∷ members) = (item_by_ticket members m.ticket ≡ None) × TicketsDiffer members
