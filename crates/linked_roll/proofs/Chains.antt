-- A chain where a member is added behind it or taken out of it.
use Rattle.std.proofs.Common.{◌≡◌, ◌≢◌, List, [], ◌∷◌, ◌++◌, length, Option, Some, None, IsSome, refl, subst, sym, ◌∙◌, ap, inl, inr}
use Rattle.linked_roll.specs.Members.{Member, item_by_ticket, members_without, TicketsDiffer}
use Rattle.linked_roll.specs.Links.{Net, HasNode, AreNeighbours, IsChain, members_from}
use Rattle.linked_roll.specs.declared.ticket.Ticket.{Ticket}
use Rattle.linked_roll.proofs.Tickets.{ticket_cases, differs_first, absent_behind, item_by_ticket-other, members_without-here, members_without-other}

pub some_differ : (a b : Ticket) → a ≢ b → Some a ≢ Some b
some_differ a b differ same = differ (cc)

pub some_not_none : (a : Ticket) → Some a ≢ None
some_not_none a same = cc

module _ {T : Type 0} where
  -- A member is put behind the last.
  pub record Adds (old new : Net T) (m : Member T) : Type 0 where
    pub fresh : old.item m.ticket ≡ None
    pub item : new.item m.ticket ≡ Some m.item
    pub behind_last : new.next (old.previous None) ≡ Some m.ticket
    pub before : new.previous (Some m.ticket) ≡ old.previous None
    pub behind : new.next (Some m.ticket) ≡ None
    pub last : new.previous None ≡ Some m.ticket
    pub items : (t : Ticket) → t ≢ m.ticket → new.item t ≡ old.item t
    pub nexts : (u : Option Ticket) → u ≢ old.previous None → u ≢ Some m.ticket → new.next u ≡ old.next u
    pub previouses : (u : Option Ticket) → u ≢ None → u ≢ Some m.ticket → new.previous u ≡ old.previous u

  -- The node of a ticket is taken out, and its neighbours are linked.
  pub record Takes (old new : Net T) (t : Ticket) : Type 0 where
    pub gone : new.item t ≡ None
    pub next : new.next (old.previous (Some t)) ≡ old.next (Some t)
    pub previous : new.previous (old.next (Some t)) ≡ old.previous (Some t)
    pub items : (other : Ticket) → other ≢ t → new.item other ≡ old.item other
    pub nexts : (u : Option Ticket) → u ≢ old.previous (Some t) → u ≢ Some t → new.next u ≡ old.next u
    pub previouses : (u : Option Ticket) → u ≢ old.next (Some t) → u ≢ Some t → new.previous u ≡ old.previous u

  -- The neighbours of a node: they are linked with it, and are others than it.
  pub record HasNeighbours (net : Net T) (t : Ticket) : Type 0 where
    pub before : net.next (net.previous (Some t)) ≡ Some t
    pub behind : net.previous (net.next (Some t)) ≡ Some t
    pub other_before : net.previous (Some t) ≢ Some t
    pub other_behind : net.next (Some t) ≢ Some t
    pub node_before : HasNode net (net.previous (Some t))
    pub node_behind : HasNode net (net.next (Some t))

  node_at : (net : Net T) (t : Ticket) (item : T) → net.item t ≡ Some item → HasNode net (Some t)
  node_at net t item found = subst IsSome (sym found) refl

  -- Where no node has the ticket, no node or head is at it.
  pub no_node : (net : Net T) (t : Ticket) (a : Option Ticket) → net.item t ≡ None → HasNode net a → a ≢ Some t
  no_node net t a absent there same = let none = subst IsSome absent (subst (HasNode net) same there) in cc

  pub last_next : (net : Net T) (a b : Option Ticket) (ms : List (Member T)) → IsChain net a ms b
      → net.next (net.previous b) ≡ b
  last_next net a b [] chain = ap net.next chain.1 ∙ chain.0
  last_next net a b (m ∷ ms) chain = last_next net (Some m.ticket) b ms chain.2

  pub last_node : (net : Net T) (a b : Option Ticket) (ms : List (Member T)) → HasNode net a → IsChain net a ms b
      → HasNode net (net.previous b)
  last_node net a b [] there chain = subst (HasNode net) (sym chain.1) there
  last_node net a b (m ∷ ms) there chain = last_node net (Some m.ticket) b ms (node_at net m.ticket m.item chain.1)
      chain.2

  first_previous : (net : Net T) (a b : Option Ticket) (ms : List (Member T)) → IsChain net a ms b
      → net.previous (net.next a) ≡ a
  first_previous net a b [] chain = ap net.previous chain.0 ∙ chain.1
  first_previous net a b (m ∷ ms) chain = ap net.previous chain.0.0 ∙ chain.0.1

  first_node : (net : Net T) (a : Option Ticket) (ms : List (Member T)) → IsChain net a ms None
      → HasNode net (net.next a)
  first_node net a [] chain = subst (HasNode net) (sym chain.0) tt
  first_node net a (m ∷ ms) chain = subst (HasNode net) (sym chain.0.0) (node_at net m.ticket m.item chain.1)

  first_differs : (net : Net T) (a : Option Ticket) (ms : List (Member T)) (t : Ticket) → item_by_ticket ms t ≡ None
      → IsChain net a ms None → net.next a ≢ Some t
  first_differs net a [] t absent chain same = some_not_none t (sym same ∙ chain.0)
  first_differs net a (m ∷ ms) t absent chain same = some_differ m.ticket t (differs_first m ms t absent)
      (sym chain.0.0 ∙ same)

  -- The members of a chain are those that a walk meets.
  pub members_of_chain : (net : Net T) (a : Option Ticket) (ms : List (Member T)) → IsChain net a ms None
      → members_from net (length ms) (net.next a) ≡ ms
  members_of_chain net a [] chain = refl
  members_of_chain net a (m ∷ ms) chain =
      rw (chain.0.0, chain.1) (ap (λ rest. m ∷ rest) (members_of_chain net (Some m.ticket) ms chain.2))

  pub chain_added : (old new : Net T) (m : Member T) → Adds old new m → old.next (old.previous None) ≡ None
      → (a : Option Ticket) → HasNode old a → (ms : List (Member T)) → IsChain old a ms None
      → IsChain new a (ms ++ m ∷ []) None
  chain_added old new m adds end a there [] chain = (
    (ap new.next (sym chain.1) ∙ adds.behind_last, adds.before ∙ chain.1),
    adds.item,
    (adds.behind, adds.last),
  )
  chain_added old new m adds end a there (first ∷ ms) chain =
      let not_last : a ≢ old.previous None = λ same. some_not_none first.ticket
      (sym chain.0.0 ∙ ap old.next same ∙ end) in
      let not_new = no_node old m.ticket a adds.fresh there in
      let other : first.ticket ≢ m.ticket = λ same. some_none _ (sym chain.1 ∙ ap old.item same ∙ adds.fresh) in (
        (
          adds.nexts a not_last not_new ∙ chain.0.0,
          adds.previouses (Some first.ticket) (some_not_none first.ticket) (some_differ first.ticket m.ticket other)
              ∙ chain.0.1,
        ),
        adds.items first.ticket other ∙ chain.1,
        chain_added old new m adds end (Some first.ticket) (node_at old first.ticket first.item chain.1) ms chain.2,
      )
    where
      some_none : (x : T) → Some x ≢ None
      some_none x same = cc

  neighbours : (net : Net T) (t : Ticket) (item : T) (a : Option Ticket) → a ≢ Some t → HasNode net a
      → (ms : List (Member T)) → TicketsDiffer ms → item_by_ticket ms t ≡ Some item → IsChain net a ms None
      → HasNeighbours net t
  neighbours net t item a other there [] differ found chain = absurd (cc)
  neighbours net t item a other there (m ∷ ms) differ found chain = elim (ticket_cases m.ticket t) [
    | inl same ↦
        let rest = subst (λ (x : Ticket). IsChain net (Some x) ms None) same chain.2 in
        let here : Some m.ticket ≡ Some t = ap Some same in
        let before : net.previous (Some t) ≡ a = ap net.previous (sym here) ∙ chain.0.1 in
        let absent : item_by_ticket ms t ≡ None = ap (item_by_ticket ms) (sym same) ∙ differ.0 in
        record {
          before = ap net.next before ∙ chain.0.0 ∙ here;
          behind = first_previous net (Some t) None ms rest;
          other_before = λ it. other (sym before ∙ it);
          other_behind = first_differs net (Some t) ms t absent rest;
          node_before = subst (HasNode net) (sym before) there;
          node_behind = first_node net (Some t) ms rest;
        }
    | inr apart ↦
        neighbours net t item (Some m.ticket) (some_differ m.ticket t apart) (node_at net m.ticket m.item chain.1)
        ms differ.1 (sym (item_by_ticket-other m ms t apart) ∙ found) chain.2
  ]

  -- Of a list that has the ticket, the node has neighbours.
  pub neighbours_in_list : (net : Net T) (t : Ticket) (item : T) (ms : List (Member T)) → TicketsDiffer ms
      → item_by_ticket ms t ≡ Some item → IsChain net None ms None → HasNeighbours net t
  neighbours_in_list net t item ms differ found chain =
      neighbours net t item None (λ same. some_not_none t (sym same)) tt ms differ found chain

  module _ (old new : Net T) (t : Ticket) (takes : Takes old new t) (has : HasNeighbours old t) where
    still_neighbours : (a b : Option Ticket) → a ≢ Some t → b ≢ Some t → AreNeighbours old a b → AreNeighbours new a b
    still_neighbours a b other_a other_b near = (
      takes.nexts a (λ same. other_b (sym near.0 ∙ ap old.next same ∙ has.before)) other_a ∙ near.0,
      takes.previouses b (λ same. other_a (sym near.1 ∙ ap old.previous same ∙ has.behind)) other_b ∙ near.1,
    )

    still_chain : (a : Option Ticket) → a ≢ Some t → (ms : List (Member T)) → item_by_ticket ms t ≡ None
        → IsChain old a ms None → IsChain new a ms None
    still_chain a other [] absent chain = still_neighbours a None other (λ same. some_not_none t (sym same)) chain
    still_chain a other (m ∷ ms) absent chain =
        let apart = differs_first m ms t absent in
        let far = some_differ m.ticket t apart in (
          still_neighbours a (Some m.ticket) other far chain.0,
          takes.items m.ticket apart ∙ chain.1,
          still_chain (Some m.ticket) far ms (absent_behind m ms t absent) chain.2,
        )

    -- The chain behind the node now follows what stood before it.
    mended : (ms : List (Member T)) → item_by_ticket ms t ≡ None → IsChain old (Some t) ms None
        → IsChain new (old.previous (Some t)) ms None
    mended [] absent chain = (takes.next ∙ chain.0, ap new.previous (sym chain.0) ∙ takes.previous)
    mended (m ∷ ms) absent chain =
        let apart = differs_first m ms t absent in (
          (takes.next ∙ chain.0.0, ap new.previous (sym chain.0.0) ∙ takes.previous),
          takes.items m.ticket apart ∙ chain.1,
          still_chain (Some m.ticket) (some_differ m.ticket t apart) ms (absent_behind m ms t absent) chain.2,
        )

    pub chain_taken : (item : T) (a : Option Ticket) → a ≢ Some t → (ms : List (Member T)) → TicketsDiffer ms
        → item_by_ticket ms t ≡ Some item → IsChain old a ms None → IsChain new a (members_without t ms) None
    chain_taken item a other [] differ found chain = absurd (cc)
    chain_taken item a other (m ∷ ms) differ found chain = elim (ticket_cases m.ticket t) [
      | inl same ↦
          let rest = subst (λ (x : Ticket). IsChain old (Some x) ms None) same chain.2 in
          let before : old.previous (Some t) ≡ a = ap old.previous (ap Some (sym same)) ∙ chain.0.1 in
          let absent : item_by_ticket ms t ≡ None = ap (item_by_ticket ms) (sym same) ∙ differ.0 in
          subst (λ left. IsChain new a left None) (sym (members_without-here m ms t same))
          (subst (λ at. IsChain new at ms None) before (mended ms absent rest))
      | inr apart ↦
          let far = some_differ m.ticket t apart in
          subst (λ left. IsChain new a left None) (sym (members_without-other m ms t apart)) (
            still_neighbours a (Some m.ticket) other far chain.0,
            takes.items m.ticket apart ∙ chain.1,
            chain_taken item (Some m.ticket) far ms differ.1 (sym (item_by_ticket-other m ms t apart) ∙ found)
                chain.2,
          )
    ]
