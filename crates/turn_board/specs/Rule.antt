-- The rule of a board's table, which each of its steps keeps. It is that of a ticket lock for each cell:
-- Algorithms for Scalable Synchronization on Shared-Memory Multiprocessors (Mellor-Crummey and Scott, 1991).
-- Each cell has two words in a lane of sixteen: how many tickets were drawn, and how many turns were passed on. Both
-- count modulo 2^64.
use Rattle.std.specs.Prelude.{◌≡◌, ℕ, ◌+◌, ◌*◌, ◌%◌, ◌^◌, ◌<◌, ◌≤◌, ◌≢◌, ◌⊎◌, List, [], length, slice_index}
use mathlib.Core.Option.{some}
use mathlib.Core.Option as maybe
use mathlib.Core.List.{IsPrefix}
use lib.ListN.{get_elem?}
use Rattle.atomic_table.specs.Table.{State}
use Rattle.turn_board.specs.declared.history.Event.{Event}
use Rattle.turn_board.specs.declared.lane.Lane.{Lane}
use Rattle.turn_board.specs.declared.view.Stage.{Stage}
use Rattle.turn_board.specs.declared.view.Stage.TheVariants.{Unqueued, Queued, Turn}
use Rattle.turn_board.specs.declared.view.PassView.{PassView}
use Rattle.turn_board.specs.History.{of_cell, of_caller, longer_list, LeadsTo, AllFitAfter, CellStep, CallFit}
use Rattle.turn_board.specs.Hands.{new_hands, HasCallsOf, Owns}

-- The word that counts the tickets of a cell, and the word that counts its turns.
abbrev pub ticket_word : ℕ → ℕ
ticket_word k = 16 * k

abbrev pub turn_word : ℕ → ℕ
turn_word k = 16 * k + 1

module _ {T : Type 0} where
  -- The seat waits for this turn of the cell, or has it.
  abbrev pub HasTicket : ℕ → ℕ → Stage T → Type 0
  HasTicket k p Unqueued = ⊥
  HasTicket k p (Queued j q) = (j ≡ k) × (q ≡ p)
  HasTicket k p (Turn j q x) = (j ≡ k) × (q ≡ p)

  -- The slot of the cell is at home with this value.
  abbrev pub IsHome : List (maybe.Option (Lane T)) → ℕ → T → Type 0
  IsHome homes k x = (lane : Lane T) × (get_elem? homes k ≡ some (some lane)) × (lane.value ≡ x)

module _ {T Q A : Type 0} where
  -- The first seat, with all callers.
  abbrev pub first_view : List T → ℕ → PassView T Q A
  first_view opening callers =
      record { opening = opening; stage = Unqueued; hands = new_hands 0 callers; past = []; also = []; shut = [] }

  -- The seat has this turn of the cell, whose value is x.
  abbrev pub HasTurn : ℕ → ℕ → T → PassView T Q A → Type 0
  HasTurn k p x v = v.stage ≡ Turn k p x

  -- The seat has a caller, and waits for this turn, has it, or keeps it for good.
  abbrev pub Awaits : ℕ → ℕ → ℕ → PassView T Q A → Type 0
  Awaits served k p v = (HasTicket k p v.stage ⊎ ((k < length v.shut) × (p ≡ served))) × (v.hands ≢ [])

  -- There is a seat of this place, and it has the property.
  abbrev pub SomeSeat : List (PassView T Q A) → ℕ → (PassView T Q A → Type 0) → Type 0
  SomeSeat views j P = (v : PassView T Q A) × (get_elem? views j ≡ some v) × P v

-- What the rule says there is: the history, the value of each cell, how many tickets were drawn and turns passed on,
-- the seat that drew a ticket, and the seat that has a caller.
pub record Account (T Q A : Type 0) : Type 0 where
  pub log : List (Event Q A)
  pub values : List T
  pub served : ℕ → ℕ
  pub drawn : ℕ → ℕ
  pub holder : ℕ → ℕ → ℕ
  pub owner : ℕ → ℕ

module _ {T Q A : Type 0} (callers : ℕ) (opening : List T) (a : Account T Q A) (j : ℕ) where
  -- The ticket of a cell that the seat j has drawn.
  pub record IsDrawn (shut : List T) (k p : ℕ) : Type 0 where
    pub cell : k < length opening
    pub behind : length shut ≤ k
    pub after : a.served k ≤ p
    pub before : p < a.drawn k
    pub holder : a.holder k p ≡ j

  -- What the seat j knows at its stage.
  abbrev pub Knows : List T → Stage T → Type 0
  Knows shut Unqueued = Unit {0}
  Knows shut (Queued k p) = IsDrawn shut k p
  Knows shut (Turn k p x) = IsDrawn shut k p × (a.served k ≡ p) × (get_elem? a.values k ≡ some x)

  -- The seat j keeps the turn of a cell, whose value is x, for good.
  pub record IsShutAt (k : ℕ) (x : T) : Type 0 where
    pub cell : k < length opening
    pub before : a.served k < a.drawn k
    pub holder : a.holder k (a.served k) ≡ j
    pub value : get_elem? a.values k ≡ some x

  -- What holds of the view of the seat j.
  pub record IsSeat (v : PassView T Q A) : Type 0 where
    pub opened : v.hands ≢ [] → v.opening ≡ opening
    pub stage : Knows v.shut v.stage
    pub shut : (k : ℕ) (x : T) → get_elem? v.shut k ≡ some x → IsShutAt k x
    pub past : IsPrefix v.past a.log
    pub also : IsPrefix v.also a.log
    pub hands : Owns callers a.log a.owner j 0 v.hands
    pub own : HasCallsOf (longer_list v.past v.also) v.hands

-- The words of the table count tickets and turns.
pub record AreCounts (cells : ℕ) (words : List ℕ) (served drawn : ℕ → ℕ) : Type 0 where
  pub wide : length words ≡ 16 * cells
  pub tickets : (k : ℕ) → k < cells → slice_index words (ticket_word k) ≡ drawn k % 2 ^ 64
  pub turns : (k : ℕ) → k < cells → slice_index words (turn_word k) ≡ served k % 2 ^ 64

module _ {T Q A : Type 0} (step : CellStep T Q A) (fits : CallFit T Q A) where
  -- The history is a run that leaves the values, and has no caller but those of the board.
  pub record IsLogOf (callers : ℕ) (opening values : List T) (log : List (Event Q A)) : Type 0 where
    pub long : length values ≡ length opening
    pub fitting : AllFitAfter fits opening [] log
    pub leads : (k : ℕ) (x y : T) → get_elem? opening k ≡ some x → get_elem? values k ≡ some y
        → LeadsTo step x (of_cell k log) y
    pub others : (by : ℕ) → callers ≤ by → of_caller by log ≡ []

  module _ (opening : List T) (callers : ℕ) (s : State (Lane T) (PassView T Q A)) where
    -- The table is in order by this account of it.
    pub record IsAccount (a : Account T Q A) : Type 0 where
      pub few : callers < 65536
      pub counts : AreCounts (length opening) s.words a.served a.drawn
      pub slots : length s.homes ≡ length opening
      pub log : IsLogOf callers opening a.values a.log
      pub turns : (k : ℕ) → k < length opening → length (of_cell k a.log) ≡ a.served k
      pub behind : (k : ℕ) → k < length opening → a.served k ≤ a.drawn k
      pub lodged : (k : ℕ) (x : T) → get_elem? a.values k ≡ some x
          → IsHome s.homes k x ⊎ SomeSeat s.views (a.holder k (a.served k)) (HasTurn k (a.served k) x)
      pub tickets : (k p : ℕ) → k < length opening → a.served k ≤ p → p < a.drawn k
          → SomeSeat s.views (a.holder k p) (Awaits (a.served k) k p)
      pub seats : (j : ℕ) (v : PassView T Q A) → get_elem? s.views j ≡ some v → IsSeat callers opening a j v

    -- There is an account by which the table is in order.
    pub record HasAccount : Type 0 where
      pub account : Account T Q A
      pub holds : IsAccount account
