-- Works that are lent out, from their first step to their last.
use Rattle.std.proofs.Common.{◌≡◌, ℕ, ◌+◌, Bool, true, false, List, [], ◌∷◌, Option, Some, sym, ap, ◌∙◌, subst}
use Rattle.std.specs.Option.{option_map_or}
use Rattle.std.specs.Prelude.{slice_get}
use Rattle.turn_board.specs.Hands.{first_number}
use Rattle.turn_board.specs.Passes.{callers_of, opening_of}
use Rattle.turn_board.specs.declared.board.Board.{Board}
use Rattle.turn_board.specs.declared.cells.Cells.{Ghosts}
use Rattle.turn_board.specs.declared.history.Hand.{Hand}
use Rattle.threaded_callers.specs.Ends.{WorkDone}
use Rattle.threaded_callers.specs.Stations.{IsLent, IsListed, done_so}
use Rattle.threaded_callers.specs.Tasks.{HasWorked, IsDoneFrom, IsHeldBy, IsWorked}
use Rattle.threaded_callers.specs.declared.task.Task.{Task}

-- What two say of one thing is the same.
pub the_same : {X : Type 0} (o : Option X) (x y : X) → o ≡ Some x → o ≡ Some y → x ≡ y
the_same o x y is_x is_y = ap (λ o. option_map_or (λ z. z) o x) (sym is_x ∙ is_y)

module _ {C T Q A W : Type 0} {g : Ghosts C T Q A} (may : W → ℕ → List T → ℕ → Type 0) (so_far done : WorkDone T Q A W)
    (board : Option (Board C T Q A)) (works : List W) (from place : ℕ) (b : Board C T Q A) (board_is : board ≡ Some b) where
  -- A listed task is lent before its first step.
  pub lent-first : (task : Task C W T Q A g) → IsListed may b works from place task
      → ((work : W) (callers : ℕ) (cells : List T) (caller : ℕ) → may work callers cells caller → so_far work work cells caller [])
      → IsLent may so_far done board works from place false task
  lent-first task listed begun = record {
    b = b;
    board_is = board_is;
    first = task.work;
    at = listed.at;
    done_from = record {
      own = [];
      held = listed.ready.held;
      may_begin = listed.ready.may_begin;
      work = begun task.work (callers_of b) (opening_of b) (from + place) listed.ready.may_begin;
    };
  }

  -- What is lent was done by the calls on this board.
  pub lent-here : (over : Bool) (task : Task C W T Q A g) (lent : IsLent may so_far done board works from place over task)
      → IsDoneFrom may (done_so so_far done over) b (from + place) lent.first task
  lent-here over task lent =
      subst (λ (x : Board C T Q A). IsDoneFrom may (done_so so_far done over) x (from + place) lent.first task)
      (the_same board lent.b b lent.board_is board_is) lent.done_from

  -- It is lent after a step.
  pub lent-next : (over : Bool) (before after : Task C W T Q A g) → IsLent may so_far done board works from place false before
      → ((number : ℕ) (first : W) → IsDoneFrom may so_far b number first before
      → IsDoneFrom may (done_so so_far done over) b number first after)
      → IsLent may so_far done board works from place over after
  lent-next over before after lent step = record {
    b = b;
    board_is = board_is;
    first = lent.first;
    at = lent.at;
    done_from = step (from + place) lent.first (lent-here false before lent);
  }

  -- And done once it is over.
  pub lent-done : (task : Task C W T Q A g) → IsLent may so_far done board works from place true task
      → (first : W) × (slice_get works place ≡ Some first) × IsDoneFrom may done b (from + place) first task
  lent-done task lent = (lent.first, lent.at, lent-here true task lent)

module _ {C T Q A W : Type 0} {g : Ghosts C T Q A} (may : W → ℕ → List T → ℕ → Type 0) (done : WorkDone T Q A W)
    (b : Board C T Q A) (works : List W) (from place : ℕ) where
  number-is : (before : Task C W T Q A g) (n m : ℕ) → IsHeldBy b n [] before → IsHeldBy b m [] before → n ≡ m
  number-is before n m one other = ap (λ (hs : List (Hand Q A)). first_number hs) (sym one.hands_are ∙ other.hands_are)

  -- A listed work is done once the work of its place is.
  pub over-worked : (before after : Task C W T Q A g) → IsListed may b works from place before
      → ((first : W) × (slice_get works place ≡ Some first) × IsDoneFrom may done b (from + place) first after)
      → IsWorked done b before after
  over-worked before after listed over number held =
      let same : over.0 ≡ before.work = the_same (slice_get works place) over.0 before.work over.1 listed.at in
      subst (λ n. HasWorked done b n before after)
      (number-is before (from + place) number listed.ready.held held)
      (record {
        own = over.2.own;
        held = over.2.held;
        work = subst (λ w. done w after.work (opening_of b) (from + place) over.2.own) same over.2.work;
      })
