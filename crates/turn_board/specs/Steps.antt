-- What each step on a board's table tells the pass that makes it.
use Rattle.std.specs.Prelude.{◌≡◌, ℕ, ◌%◌, ◌^◌, ◌<◌, ◌≢◌, List, [], ◌∷◌, ◌++◌, take, drop, length, Option, Some}
use mathlib.Core.List.{IsPrefix}
use Rattle.atomic_table.specs.Table.{Me, Step, rest}
use Rattle.turn_board.specs.declared.history.Event.{Event}
use Rattle.turn_board.specs.declared.lane.Lane.{Lane}
use Rattle.turn_board.specs.declared.view.Stage.{Stage}
use Rattle.turn_board.specs.declared.view.Stage.TheVariants.{Unqueued, Queued, Turn}
use Rattle.turn_board.specs.declared.view.PassView.{PassView}
use Rattle.turn_board.specs.History.{longer_list, IsHistory, CellStep, CallFit}
use Rattle.turn_board.specs.Hands.{hand_number, hands_with_call, HasCallsOf, FitsFirst}
use Rattle.turn_board.specs.Rising.{rising_union}
use Rattle.turn_board.specs.Rule.{ticket_word}

module _ {T Q A : Type 0} where
  -- The view at this stage of a call.
  abbrev pub view_at_stage : PassView T Q A → Stage T → PassView T Q A
  view_at_stage v stage = record v { stage = stage }

  -- The view once the first caller has made a call, before which others had made theirs.
  abbrev pub view_after_call : PassView T Q A → List (Event Q A) → Event Q A → PassView T Q A
  view_after_call v more e =
      record v { stage = Unqueued; hands = hands_with_call v.hands e; past = (v.past ++ more) ++ e ∷ [] }

  -- The view of a pass that keeps its first callers, so many, and that of one that takes the others.
  abbrev pub first_part : ℕ → PassView T Q A → PassView T Q A
  first_part m v = record v { stage = Unqueued; hands = take m v.hands }

  abbrev pub last_part : ℕ → PassView T Q A → PassView T Q A
  last_part m v = record v { stage = Unqueued; hands = drop m v.hands }

  -- The view of a pass that takes in another's, before and after it compares the two pasts, and what the other is left
  -- with.
  abbrev pub joined_view : PassView T Q A → PassView T Q A → PassView T Q A
  joined_view v w =
      record v { stage = Unqueued; hands = rising_union hand_number v.hands w.hands; also = w.past }

  abbrev pub settled_view : PassView T Q A → PassView T Q A
  settled_view v = record v { past = longer_list v.past v.also; also = [] }

  -- What a pass knows that was taken in: nothing.
  abbrev pub spent_view : PassView T Q A
  spent_view = record { opening = []; stage = Unqueued; hands = []; past = []; also = []; shut = [] }

  -- The view of a pass that keeps one more turn for good, with the value of its cell.
  abbrev pub shut_view : PassView T Q A → T → PassView T Q A
  shut_view v x = record v { stage = Unqueued; shut = v.shut ++ x ∷ [] }

  -- A ticket of the cell was drawn.
  pub record HasDrawn (st : Step (Lane T)) (m : Me (Lane T) (PassView T Q A)) (r : ℕ)
      (m' : Me (Lane T) (PassView T Q A)) : Type 0 where
    pub cell : ℕ
    pub ticket : ℕ
    pub word : st.word ≡ ticket_word cell
    pub found : r ≡ ticket % 2 ^ 64
    pub view : m'.0 ≡ view_at_stage m.0 (Queued cell ticket)
    pub slots : m'.1 ≡ m.1

  -- The turn is kept for good, with the value that the cell has.
  pub record HasShut (k p : ℕ) (m m' : Me (Lane T) (PassView T Q A)) : Type 0 where
    pub value : T
    pub view : m'.0 ≡ shut_view m.0 value
    pub slots : m'.1 ≡ m.1

  -- Where the turn has come it is kept for good, and else nothing has changed.
  abbrev pub ShutAt : ℕ → Me (Lane T) (PassView T Q A) → Me (Lane T) (PassView T Q A) → Stage T → Type 0
  ShutAt r m m' (Queued k p) = (r ≡ p % 2 ^ 64 → HasShut k p m m') × (r ≢ p % 2 ^ 64 → m' ≡ m)
  ShutAt r m m' stage = Unit {0}

  abbrev pub Shuts : Step (Lane T) → Me (Lane T) (PassView T Q A) → ℕ → Me (Lane T) (PassView T Q A) → Type 0
  Shuts st m r m' = ShutAt r m m' m.0.stage

module _ {T Q A : Type 0} (can : T → Q → Type 0) (fits : CallFit T Q A) where
  -- The turn has come: the slot of the cell is with the seat, and its value can take each call that fits.
  pub record HasCome (k p : ℕ) (m m' : Me (Lane T) (PassView T Q A)) : Type 0 where
    pub lane : Lane T
    pub view : m'.0 ≡ view_at_stage m.0 (Turn k p lane.value)
    pub slots : m'.1 ≡ (k, lane) ∷ m.1
    pub may : (call : Q) → FitsFirst fits m.0.opening m.0.hands k call → can lane.value call

  -- Where the turn has come the slot is taken, and else nothing has changed.
  abbrev pub LookedAt : ℕ → Me (Lane T) (PassView T Q A) → Me (Lane T) (PassView T Q A) → Stage T → Type 0
  LookedAt r m m' (Queued k p) = (r ≡ p % 2 ^ 64 → HasCome k p m m') × (r ≢ p % 2 ^ 64 → m' ≡ m)
  LookedAt r m m' stage = Unit {0}

  abbrev pub Looks : Step (Lane T) → Me (Lane T) (PassView T Q A) → ℕ → Me (Lane T) (PassView T Q A) → Type 0
  Looks st m r m' = LookedAt r m m' m.0.stage

module _ {T Q A : Type 0} (step : CellStep T Q A) (fits : CallFit T Q A) where
  -- The event has joined the history, and the slot is given back.
  pub record HasJoined (e : Event Q A) (m m' : Me (Lane T) (PassView T Q A)) : Type 0 where
    pub more : List (Event Q A)
    pub view : m'.0 ≡ view_after_call m.0 more e
    pub slots : m'.1 ≡ rest m.1
    pub run : IsHistory step fits m.0.opening m'.0.past
    pub own : HasCallsOf m'.0.past m'.0.hands

  abbrev pub PassesOn : Option (Event Q A) → Step (Lane T) → Me (Lane T) (PassView T Q A) → ℕ
      → Me (Lane T) (PassView T Q A) → Type 0
  PassesOn named st m r m' = (e : Event Q A) × (named ≡ Some e) × HasJoined e m m'

  -- The longer of two pasts is the past, of which each is a prefix.
  pub record HasSettled (m m' : Me (Lane T) (PassView T Q A)) : Type 0 where
    pub view : m'.0 ≡ settled_view m.0
    pub slots : m'.1 ≡ m.1
    pub first : IsPrefix m.0.past m'.0.past
    pub second : IsPrefix m.0.also m'.0.past
    pub run : IsHistory step fits m.0.opening m'.0.past
    pub own : HasCallsOf m'.0.past m'.0.hands
    pub few : length m'.0.hands < 65536

  abbrev pub Settles : Step (Lane T) → Me (Lane T) (PassView T Q A) → ℕ → Me (Lane T) (PassView T Q A) → Type 0
  Settles st m r m' = HasSettled m m'
