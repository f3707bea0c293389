-- The nodes and ends of a roll stay its list where the slab grows, a member is added or one is taken out.
use Rattle.std.proofs.Common.{◌≡◌, ◌≢◌, ℕ, ◌+◌, ◌≤◌, List, [], ◌∷◌, ◌++◌, Option, Some, None, IsSome, refl, subst, sym, ◌∙◌, ap, inl, inr, arith, length-append}
use Rattle.std.specs.Option.{option_map, option_and_then}
use Rattle.slab.specs.Slab.{Slab, get, slab_len, Updates}
use Rattle.linked_roll.specs.Members.{Member, member, item_by_ticket, members_without}
use Rattle.linked_roll.specs.Links.{Net, net, HasNode, IsList, members_from, SetsNext, SetsPrevious}
use Rattle.linked_roll.specs.declared.ticket.Ticket.{Ticket}
use Rattle.linked_roll.specs.declared.links.Node.{Node}
use Rattle.linked_roll.specs.declared.links.Links.{Links}
use Rattle.linked_roll.proofs.Tickets.{ticket_cases, item_by_ticket-added, item_by_ticket-before_added, TicketsDiffer-added, item_by_ticket-taken, item_by_ticket-before_taken, TicketsDiffer-taken, length-taken}
use Rattle.linked_roll.proofs.Chains.{Adds, Takes, HasNeighbours, some_not_none, no_node, last_next, last_node, members_of_chain, chain_added, neighbours_in_list, chain_taken}

module _ {T : Type 0} where
  -- The walk meets the members of the list.
  pub members_of_list : (links : Links T) (ms : List (Member T)) → IsList links ms
      → members_from (net links) (slab_len links.nodes) links.first ≡ ms
  members_of_list links ms list =
      subst (λ n. members_from (net links) n links.first ≡ ms) list.count
      (members_of_chain (net links) None ms list.chain)

  pub list_of_walk : (links : Links T) (ms : List (Member T)) → IsList links ms
      → IsList links (members_from (net links) (slab_len links.nodes) links.first)
  list_of_walk links ms list = subst (IsList links) (sym (members_of_list links ms list)) list

  grown : (old : Links T) (room : ℕ) (ms : List (Member T)) → old.nodes.capacity ≤ room → IsList old ms
      → IsList (record old { nodes = record old.nodes { capacity = room } }) ms
  grown old room ms more list =
      record {
        chain = list.chain;
        items = list.items;
        count = list.count;
        tickets = list.tickets;
        fits = omega
            (arith, list.fits);
      }

  pub IsList-grown : (old : Links T) (nodes : Slab (Node T)) (ms : List (Member T))
      → nodes ≡ record old.nodes { capacity = nodes.capacity } → old.nodes.capacity ≤ nodes.capacity → IsList old ms
      → IsList (record { nodes = nodes; first = old.first; last = old.last }) ms
  IsList-grown old nodes ms same more list =
      subst (λ (n : Slab (Node T)). IsList (record { nodes = n; first = old.first; last = old.last }) ms) (sym same)
      (grown old nodes.capacity ms more list)

  -- All but the node of a ticket is as it was.
  pub record KeepsOthers (old new : Net T) (t : Ticket) : Type 0 where
    pub items : (other : Ticket) → other ≢ t → new.item other ≡ old.item other
    pub nexts : (u : Option Ticket) → u ≢ Some t → new.next u ≡ old.next u
    pub previouses : (u : Option Ticket) → u ≢ Some t → new.previous u ≡ old.previous u

  module _ (old new : Links T) (t : Ticket) (slot : Option (Node T))
      (updates : Updates old.nodes new.nodes t.key slot) where
    same_slot : (other : Ticket) → other ≢ t → get new.nodes other.key ≡ get old.nodes other.key
    same_slot other differ = updates.others other.key (λ same. differ (ap (λ k. record { key = k }) same))

    same_next : new.first ≡ old.first → (u : Option Ticket) → u ≢ Some t → (net new).next u ≡ (net old).next u
    same_next first None differ = first
    same_next first (Some other) differ =
        ap (λ slot. option_and_then (λ n. n.next) slot) (same_slot other (λ same. differ (ap Some same)))

    same_previous : new.last ≡ old.last → (u : Option Ticket) → u ≢ Some t → (net new).previous u ≡ (net old).previous u
    same_previous last None differ = last
    same_previous last (Some other) differ =
        ap (λ slot. option_and_then (λ n. n.previous) slot) (same_slot other (λ same. differ (ap Some same)))

    pub keeps_others : new.first ≡ old.first → new.last ≡ old.last → KeepsOthers (net old) (net new) t
    keeps_others first last = record {
      items = λ other differ. ap (λ slot. option_map (λ n. n.item) slot) (same_slot other differ);
      nexts = same_next first;
      previouses = same_previous last;
    }

  pub keeps_node : (old new : Net T) (t : Ticket) → KeepsOthers old new t → (u : Option Ticket) → u ≢ Some t
      → HasNode old u → HasNode new u
  keeps_node old new t keeps None differ there = tt
  keeps_node old new t keeps (Some other) differ there =
      subst IsSome (sym (keeps.items other (λ same. differ (ap Some same)))) there

  pub same_node : (old new : Net T) → ((t : Ticket) → new.item t ≡ old.item t) → (u : Option Ticket) → HasNode old u
      → HasNode new u
  same_node old new items None there = tt
  same_node old new items (Some t) there = subst IsSome (sym (items t)) there

  -- A node is put in behind the last, the last is linked with it, and it is the last.
  module _ (old put linked : Links T) (t : Ticket) (item : T) (ms : List (Member T)) (list : IsList old ms)
      (fresh : get old.nodes t.key ≡ None)
      (updates : Updates old.nodes put.nodes t.key (Some (record { item = item; previous = old.last; next = None })))
      (first : put.first ≡ old.first) (last : put.last ≡ old.last) where
    keeps : KeepsOthers (net old) (net put) t
    keeps = keeps_others old put t _ updates first last

    absent : (net old).item t ≡ None
    absent = ap (λ slot. option_map (λ n. n.item) slot) fresh

    pub last_differs : old.last ≢ Some t
    last_differs = no_node (net old) t old.last absent (last_node (net old) None None ms tt list.chain)

    pub last_is_node : HasNode (net put) old.last
    last_is_node = keeps_node (net old) (net put) t keeps old.last last_differs
        (last_node (net old) None None ms tt list.chain)

    module _ (sets : SetsNext (net put) (net linked) old.last (Some t)) where
      abbrev pub new : Links T
      new = record { nodes = linked.nodes; first = linked.first; last = Some t }

      same_previouses : (u : Option Ticket) → u ≢ None → u ≢ Some t → (net new).previous u ≡ (net old).previous u
      same_previouses None some differ = absurd (some refl)
      same_previouses (Some other) some differ = sets.previous (Some other) ∙ keeps.previouses (Some other) differ

      same_nexts : (u : Option Ticket) → (net new).next u ≡ (net linked).next u
      same_nexts None = refl
      same_nexts (Some other) = refl

      pub adds : Adds (net old) (net new) (member t item)
      adds = record {
        fresh = absent;
        item = sets.items t ∙ ap (λ slot. option_map (λ n. n.item) slot) updates.changed;
        behind_last = same_nexts old.last ∙ sets.there;
        before = sets.previous (Some t) ∙ ap (λ slot. option_and_then (λ n. n.previous) slot) updates.changed;
        behind =
            sets.others (Some t) (λ same. last_differs (sym same))
            ∙ ap (λ slot. option_and_then (λ n. n.next) slot) updates.changed;
        last = refl;
        items = λ other differ. sets.items other ∙ keeps.items other differ;
        nexts = λ u not_last not_new. same_nexts u ∙ sets.others u not_last ∙ keeps.nexts u not_new;
        previouses = same_previouses;
      }

      pub IsList-added : slab_len linked.nodes ≡ slab_len old.nodes + 1
          → slab_len linked.nodes ≤ linked.nodes.capacity → IsList new (ms ++ member t item ∷ [])
      IsList-added count fits =
          let m = member t item in
          let unknown : item_by_ticket ms t ≡ None = sym (list.items t) ∙ absent in
          record {
            chain = chain_added (net old) (net new) m adds (last_next (net old) None None ms list.chain) None tt ms
                list.chain;
            items = λ other. elim (ticket_cases t other) [
              | inl same ↦ subst (λ x. (net new).item x ≡ item_by_ticket (ms ++ m ∷ []) x) same
                  (adds.item ∙ sym (item_by_ticket-added ms m unknown))
              | inr differ ↦ adds.items other (λ same. differ (sym same)) ∙ list.items other
                  ∙ sym (item_by_ticket-before_added ms m other differ)
            ];
            count = omega (arith, length-append ms (m ∷ []), list.count);
            tickets = TicketsDiffer-added ms m list.tickets unknown;
            fits = fits;
          }

  -- A node is taken out and its neighbours are linked with each other.
  module _ (old took bound new : Links T) (t : Ticket) (node : Node T) (ms : List (Member T)) (list : IsList old ms)
      (there : get old.nodes t.key ≡ Some node) (updates : Updates old.nodes took.nodes t.key None)
      (first : took.first ≡ old.first) (last : took.last ≡ old.last) where
    found : item_by_ticket ms t ≡ Some node.item
    found = sym (list.items t) ∙ ap (λ slot. option_map (λ n. n.item) slot) there

    has : HasNeighbours (net old) t
    has = neighbours_in_list (net old) t node.item ms list.tickets found list.chain

    kept_others : KeepsOthers (net old) (net took) t
    kept_others = keeps_others old took t None updates first last

    before : (net old).previous (Some t) ≡ node.previous
    before = ap (λ slot. option_and_then (λ n. n.previous) slot) there

    behind : (net old).next (Some t) ≡ node.next
    behind = ap (λ slot. option_and_then (λ n. n.next) slot) there

    pub node_before : HasNode (net took) node.previous
    node_before =
        subst (HasNode (net took)) before
        (keeps_node (net old) (net took) t kept_others ((net old).previous (Some t)) has.other_before has.node_before)

    node_behind : HasNode (net took) node.next
    node_behind =
        subst (HasNode (net took)) behind
        (keeps_node (net old) (net took) t kept_others ((net old).next (Some t)) has.other_behind has.node_behind)

    module _ (sets : SetsNext (net took) (net bound) node.previous node.next) where
      pub node_behind_bound : HasNode (net bound) node.next
      node_behind_bound = same_node (net took) (net bound) sets.items node.next node_behind

      module _ (sets_back : SetsPrevious (net bound) (net new) node.next node.previous) where
        takes : Takes (net old) (net new) t
        takes = record {
          gone = sets_back.items t ∙ sets.items t ∙ ap (λ slot. option_map (λ n. n.item) slot) updates.changed;
          next = ap (net new).next before ∙ sets_back.next node.previous ∙ sets.there ∙ sym behind;
          previous = ap (net new).previous behind ∙ sets_back.there ∙ sym before;
          items = λ other differ. sets_back.items other ∙ sets.items other ∙ kept_others.items other differ;
          nexts = λ u not_before differ.
              sets_back.next u ∙ sets.others u (λ same. not_before (same ∙ sym before)) ∙ kept_others.nexts u differ;
          previouses = λ u not_behind differ.
              sets_back.others u (λ same. not_behind (same ∙ sym behind)) ∙ sets.previous u
              ∙ kept_others.previouses u differ;
        }

        pub IsList-taken : slab_len new.nodes + 1 ≡ slab_len old.nodes → slab_len new.nodes ≤ new.nodes.capacity
            → IsList new (members_without t ms)
        IsList-taken count fits = record {
          chain = chain_taken (net old) (net new) t takes has node.item None (λ same. some_not_none t (sym same)) ms
              list.tickets found list.chain;
          items = λ other. elim (ticket_cases other t) [
            | inl same ↦
                subst (λ x. (net new).item x ≡ item_by_ticket (members_without t ms) x) (sym same)
                (takes.gone ∙ sym (item_by_ticket-taken ms t list.tickets))
            | inr differ ↦ takes.items other differ ∙ list.items other
                ∙ sym (item_by_ticket-before_taken ms t other differ)
          ];
          count = omega (arith, length-taken ms t node.item found, list.count);
          tickets = TicketsDiffer-taken ms t list.tickets;
          fits = fits;
        }
