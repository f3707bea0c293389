use Rattle.std.proofs.Common.{◌≡◌, ◌<◌, ◌≤◌, ℕ, List, length, vec_len, vec_capacity, slice_index_or}
use Rattle.ordered_callers.specs.declared.order.OrderPlace.{OrderPlace}
use Rattle.ordered_callers.proofs.order.order_places.Given as goal

-- So many places, each of its number, and room for all. The order has a bell for each.
pub record ArePlaces (count number room bells : ℕ) (places : List OrderPlace) : Type 0 where
  pub so_far : length places ≡ number
  pub numbers : (k : ℕ) (d : OrderPlace) → k < number → (slice_index_or places k d).number ≡ k
  pub roomy : count ≤ room
  pub belled : bells ≡ count

abbrev pub invariant-loop-number : goal.invariant-loop-number
invariant-loop-number l =
    ArePlaces l.count l.number (vec_capacity l.places) (vec_len l.order.value.bells) l.places.items
