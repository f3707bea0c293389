-- Tasks that were lent as a slice, and are the same once they were written back.
use Rattle.std.proofs.Common.{◌≡◌, ℕ, ◌+◌, List, ◌++◌, length, take, sym, ap, ◌∙◌, subst}
use Rattle.std.proofs.Math.Seq.{take-append_seam}
use Rattle.turn_board.specs.declared.board.Board.{Board}
use Rattle.turn_board.specs.declared.cells.Cells.{Ghosts}
use Rattle.threaded_callers.specs.Tasks.{AreReady}
use Rattle.threaded_callers.specs.declared.task.Task.{Task}

-- A list of which a part was written back, which is all of it.
pub taken : {X : Type 0} (n : ℕ) (xs ys : List X) → length xs ≡ n → take n (xs ++ ys) ≡ xs
taken n xs ys long = ap (λ m. take m (xs ++ ys)) (sym long) ∙ take-append_seam xs ys

-- Workers may begin behind the same sessions.
pub ready_again : {C T Q A W K : Type 0} {g : Ghosts C T Q A} (may : K → ℕ → List T → ℕ → Type 0) (b : Board C T Q A)
    (ss sn : List (Task C W T Q A g)) (ws wn : List (Task C K T Q A g)) → ss ≡ sn → ws ≡ wn
    → AreReady may b (1 + length sn) wn → AreReady may b (1 + length ss) ws
ready_again may b ss sn ws wn sessions workers ready =
    subst (λ l. AreReady may b (1 + length l) ws) (sym sessions)
    (subst (λ l. AreReady may b (1 + length sn) l) (sym workers) ready)
