-- When nodes that are linked by index are a list.
-- Source: Knuth, The Art of Computer Programming, 2.2.5, doubly linked lists with a list head. `None` is the
-- head: it stands before the first node and behind the last, so each node has two neighbours.
use Rattle.std.specs.Prelude.{◌≡◌, ◌≢◌, ℕ, ◌-◌, ◌≤◌, zero, suc, List, [], ◌∷◌, length, Option, Some, None, IsSome}
use Rattle.std.specs.Option.{option_map, option_and_then, option_map_or}
use Rattle.slab.specs.Slab.{get, slab_len}
use Rattle.linked_roll.specs.Members.{Member, RollState, member, item_by_ticket, TicketsDiffer}
use Rattle.linked_roll.specs.declared.ticket.Ticket.{Ticket}
use Rattle.linked_roll.specs.declared.links.Links.{Links}

-- The item of each node, and what follows and precedes each node and the head.
pub record Net (T : Type 0) : Type 0 where
  pub item : Ticket → Option T
  pub next : Option Ticket → Option Ticket
  pub previous : Option Ticket → Option Ticket

module _ {T : Type 0} where
  -- What follows a node or the head.
  abbrev pub next_of : Links T → Option Ticket → Option Ticket
  next_of links None = links.first
  next_of links (Some ticket) = option_and_then (λ n. n.next) (get links.nodes ticket.key)

  -- What stands before a node or the head.
  abbrev pub previous_of : Links T → Option Ticket → Option Ticket
  previous_of links None = links.last
  previous_of links (Some ticket) = option_and_then (λ n. n.previous) (get links.nodes ticket.key)

  -- The links as one net.
  abbrev pub net : Links T → Net T
  net links = record {
    item = λ ticket. option_map (λ n. n.item) (get links.nodes ticket.key);
    next = next_of links;
    previous = previous_of links;
  }

  -- There is such a node; the head is always there.
  abbrev pub HasNode : Net T → Option Ticket → Type 0
  HasNode net None = Unit {0}
  HasNode net (Some ticket) = IsSome (net.item ticket)

  -- The second follows the first, and the first stands before the second.
  abbrev pub AreNeighbours : Net T → Option Ticket → Option Ticket → Type 0
  AreNeighbours net a b = (net.next a ≡ b) × (net.previous b ≡ a)

  -- Between the two stand just these members, in this order.
  abbrev pub IsChain : Net T → Option Ticket → List (Member T) → Option Ticket → Type 0
  IsChain net a [] b = AreNeighbours net a b
  IsChain net a (m ∷ members) b =
      AreNeighbours net a (Some m.ticket) × (net.item m.ticket ≡ Some m.item)
      × IsChain net (Some m.ticket) members b

  -- So many members at most, from a node on.
  abbrev pub members_from : Net T → ℕ → Option Ticket → List (Member T)
  members_from net zero at = []
  members_from net (suc n) None = []
  members_from net (suc n) (Some ticket) =
      option_map_or
      (λ item. member ticket item ∷ members_from net n (net.next (Some ticket)))
      (net.item ticket) []

  -- The members from the first on, and how many more nodes fit with no memory.
  abbrev pub roll_state : Links T → RollState T
  roll_state links = record {
    members = members_from (net links) (slab_len links.nodes) links.first;
    spare = links.nodes.capacity - slab_len links.nodes;
  }

  -- These members are linked in this order from end to end, they are all the nodes, and no ticket stands twice.
  pub record IsList (links : Links T) (members : List (Member T)) : Type 0 where
    pub chain : IsChain (net links) None members None
    pub items : (ticket : Ticket) → (net links).item ticket ≡ item_by_ticket members ticket
    pub count : length members ≡ slab_len links.nodes
    pub tickets : TicketsDiffer members
    pub fits : slab_len links.nodes ≤ links.nodes.capacity

  -- `next` follows `at`, and nothing else is changed.
  pub record SetsNext (old new : Net T) (at next : Option Ticket) : Type 0 where
    pub there : new.next at ≡ next
    pub others : (other : Option Ticket) → other ≢ at → new.next other ≡ old.next other
    pub previous : (other : Option Ticket) → new.previous other ≡ old.previous other
    pub items : (ticket : Ticket) → new.item ticket ≡ old.item ticket

  -- `previous` stands before `at`, and nothing else is changed.
  pub record SetsPrevious (old new : Net T) (at previous : Option Ticket) : Type 0 where
    pub there : new.previous at ≡ previous
    pub others : (other : Option Ticket) → other ≢ at → new.previous other ≡ old.previous other
    pub next : (other : Option Ticket) → new.next other ≡ old.next other
    pub items : (ticket : Ticket) → new.item ticket ≡ old.item ticket
