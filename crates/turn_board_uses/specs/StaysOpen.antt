-- The law of doors: a door that caller 0 has not closed is as it was at first.
use Rattle.std.specs.Prelude.{◌≡◌, ℕ, eqb, cond, Bool, true, false, List, [], ◌∷◌, ◌++◌}
use Rattle.std.proofs.Common.{sym, refl, ◌∙◌, subst, eq-eqb}
use mathlib.Core.Option.{some, some-injective}
use Rattle.turn_board.specs.declared.history.Event.{Event}
use Rattle.turn_board.specs.History.{of_cell, of_caller, LeadsTo, AllFitAfter, IsSafe}
use Rattle.turn_board_uses.specs.declared.doors.Door.{Door}
use Rattle.turn_board_uses.specs.declared.doors.Door.TheVariants.{Open}
use Rattle.turn_board_uses.specs.declared.doors.Push.{Push}
use Rattle.turn_board_uses.specs.declared.doors.Push.TheVariants.{Close, Try}
use Rattle.turn_board_uses.specs.Closing.{CanTake, Moves, Spares, AllSpare, FitsDoor}

true_is_not_false : true ≡ false → ⊥
true_is_not_false e = subst (λ b. cond b (Unit {0}) ⊥) e tt

-- An event on the door only tries it, since caller 0 alone may close it and has not.
step_open : (opening : List Door) (own : List (Event Push Bool)) (here ours : Bool) (by k cell : ℕ) (call : Push)
    (a : Bool) (z : Door)
    → here ≡ true → (by ≡ 0 → ours ≡ true) → FitsDoor opening by own cell call → (ours ≡ true → Spares call here)
    → Moves Open call a z → z ≡ Open
step_open opening own here ours by k cell Close a z on mine fit spare m =
    absurd (true_is_not_false (sym on ∙ spare (mine fit.0)))
step_open opening own here ours by k cell Try a z on mine fit spare m = m.0

stays_open : (opening : List Door) (k : ℕ) (before es : List (Event Push Bool)) (y : Door)
    → AllFitAfter FitsDoor opening before es → AllSpare k (of_caller 0 es) → LeadsTo Moves Open (of_cell k es) y
    → y ≡ Open
stays_open opening k before [] y all spare leads = sym leads
stays_open opening k before (e ∷ es) y all spare leads =
    go (eqb e.cell k) (eqb e.caller 0) refl (λ is. eq-eqb e.caller 0 is)
    (λ s l. stays_open opening k (before ++ e ∷ []) es y all.1 s l) spare leads
  where
    go : (here ours : Bool) → eqb e.cell k ≡ here → (e.caller ≡ 0 → ours ≡ true)
        → (AllSpare k (of_caller 0 es) → LeadsTo Moves Open (of_cell k es) y → y ≡ Open)
        → AllSpare k (cond ours (e ∷ of_caller 0 es) (of_caller 0 es))
        → LeadsTo Moves Open (cond here (e ∷ of_cell k es) (of_cell k es)) y → y ≡ Open
    go true true is mine later s l =
        let z : l.0 ≡ Open =
        step_open opening (of_caller e.caller before)
        (eqb e.cell k) true e.caller k e.cell e.call e.answer l.0 is mine all.0 (λ _. s.0) l.1 in
        later s.1 (subst (λ d. LeadsTo Moves d (of_cell k es) y) z l.2)
    go true false is mine later s l =
        let z : l.0 ≡ Open =
        step_open opening (of_caller e.caller before)
        (eqb e.cell k) false e.caller k e.cell e.call e.answer l.0 is mine all.0
        (λ t. absurd (true_is_not_false (sym t))) l.1 in
        later s (subst (λ d. LeadsTo Moves d (of_cell k es) y) z l.2)
    go false true is mine later s l = later s.1 l
    go false false is mine later s l = later s l

-- A door that caller 0 may close is open.
pub safe_door : IsSafe Moves FitsDoor CanTake
safe_door opening log by k Close x y run at leads fit =
    let open_first : x ≡ Open = some-injective x Open (sym at ∙ fit.1) in
    stays_open opening k [] log y run.fitting (subst (λ n. AllSpare k (of_caller n log)) fit.0 fit.2)
    (subst (λ d. LeadsTo Moves d (of_cell k log) y) open_first leads)
safe_door opening log by k Try x y run at leads fit = tt
