-- Workers of which the last one is taken out of the list, and stands there again once its work was done.
use Rattle.std.proofs.Common.{◌≡◌, ℕ, zero, suc, refl, map, slice_get, arith, ◌+◌, ◌<◌, List, [], ◌∷◌, ◌++◌, length, slice_index_or, Option, Some, None, IfSome, option_to_list, append-nil, sym, ap, ◌∙◌, subst}
use Rattle.turn_board.specs.declared.board.Board.{Board}
use Rattle.turn_board.specs.declared.cells.Cells.{Ghosts}
use Rattle.threaded_callers.specs.Ends.{WorkDone}
use Rattle.threaded_callers.specs.Stations.{AreListed, IsListed}
use Rattle.threaded_callers.specs.Tasks.{AreReady, IsReady, IsWorked}
use Rattle.threaded_callers.specs.declared.task.Task.{Task}
use Rattle.threaded_callers.proofs.Elements.{change_last, holds_of_first, holds_of_last, one_more}

module _ {C T Q A K : Type 0} {g : Ghosts C T Q A} (b : Board C T Q A) (xs ys : List (Task C K T Q A g)) (x : Task C K T Q A g)
    (is : xs ≡ ys ++ x ∷ []) where
  module _ (may : K → ℕ → List T → ℕ → Type 0) (works : List K) (from : ℕ) (listed : AreListed may b works from xs) where
    pub first_listed : AreListed may b works from ys
    first_listed = holds_of_first (λ k t. IsListed may b works from k t) xs ys x is listed

    pub last_listed : IsListed may b works from (length ys) x
    last_listed = holds_of_last (λ k t. IsListed may b works from k t) xs ys x is listed

  module _ (zs ws : List (Task C K T Q A g)) (y : Task C K T Q A g) (back : ws ≡ zs ++ y ∷ []) (long : length zs ≡ length ys) where
    pub all_worked : (done : WorkDone T Q A K)
        → ((k : ℕ) (d : Task C K T Q A g) → k < length ys
        → IsWorked done b (slice_index_or ys k d) (slice_index_or zs k d))
        → IsWorked done b x y → (k : ℕ) (d : Task C K T Q A g) → k < length xs
        → IsWorked done b (slice_index_or xs k d) (slice_index_or ws k d)
    all_worked done each last k d lt =
        subst (λ l. IsWorked done b (slice_index_or xs k d) (slice_index_or l k d)) (sym back)
        (change_last (IsWorked done b) xs ys zs x y is long each last k d lt)

-- So it is with the last worker, if there is one.
module _ {C T Q A K : Type 0} {g : Ghosts C T Q A} (b : Board C T Q A) (may : K → ℕ → List T → ℕ → Type 0) (works : List K)
    (from : ℕ) (xs ys : List (Task C K T Q A g)) (listed : AreListed may b works from xs) where
  pub rest_listed : (last : Option (Task C K T Q A g)) → xs ≡ ys ++ option_to_list last → AreListed may b works from ys
  rest_listed None is = subst (λ l. AreListed may b works from l) (is ∙ append-nil ys) listed
  rest_listed (Some x) is = first_listed b xs ys x is may works from listed

  pub taken_listed : (last : Option (Task C K T Q A g)) → xs ≡ ys ++ option_to_list last
      → IfSome last (λ x. IsListed may b works from (length ys) x)
  taken_listed None is = tt
  taken_listed (Some x) is = last_listed b xs ys x is may works from listed

-- Workers that may begin are listed by their own works.
module _ {C T Q A K : Type 0} {g : Ghosts C T Q A} where
  work-at : (xs : List (Task C K T Q A g)) (k : ℕ) (d : Task C K T Q A g) → k < length xs
      → slice_get (map (λ t. t.work) xs) k ≡ Some (slice_index_or xs k d).work
  work-at [] k d lt = absurd (omega arith)
  work-at (x ∷ xs) zero d lt = refl
  work-at (x ∷ xs) (suc k) d lt = work-at xs k d (omega arith)

  pub ready_listed : (b : Board C T Q A) (may : K → ℕ → List T → ℕ → Type 0) (from : ℕ) (xs : List (Task C K T Q A g))
      → AreReady may b from xs → AreListed may b (map (λ t. t.work) xs) from xs
  ready_listed b may from xs ready k d lt = record { ready = ready k d lt; at = work-at xs k d lt }
