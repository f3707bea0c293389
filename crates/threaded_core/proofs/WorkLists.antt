-- Lists of works, and of tasks that have them.
use Rattle.std.proofs.Common.{◌≡◌, ℕ, zero, suc, ◌+◌, ◌<◌, List, [], ◌∷◌, ◌++◌, length, map, take, drop, get_or, sym, refl, ap, ◌∙◌, subst, arith}
use Rattle.std.proofs.Math.Seq.{take-append_seam}
use Rattle.std.proofs.lemmas.List.{append-nil}
use Rattle.threaded_callers.specs.Tasks.{AreReady}
use Rattle.threaded_callers.specs.declared.task.Task.{Task}
use Rattle.turn_board.specs.declared.board.Board.{Board}
use Rattle.turn_board.specs.declared.cells.Cells.{Ghosts}
use Rattle.threaded_core.specs.TaskLists.{AreNumbered, numbered_works, task_work}
use Rattle.threaded_core.specs.declared.numbered.NumberedWork.{NumberedWork}

-- A list that was lent as a slice, and written back.
pub taken : {X : Type 0} (n : ℕ) (xs ys : List X) → length xs ≡ n → take n (xs ++ ys) ≡ xs
taken n xs ys long = ap (λ m. take m (xs ++ ys)) (sym long) ∙ take-append_seam xs ys

-- Workers may begin behind the same sessions.
pub ready_again : {C T Q A W K : Type 0} {g : Ghosts C T Q A} (may : K → ℕ → List T → ℕ → Type 0) (b : Board C T Q A)
    (ss sn : List (Task C W T Q A g)) (ws wn : List (Task C K T Q A g)) → ss ≡ sn → ws ≡ wn
    → AreReady may b (1 + length sn) wn → AreReady may b (1 + length ss) ws
ready_again may b ss sn ws wn sessions workers ready =
    subst (λ l. AreReady may b (1 + length l) ws) (sym sessions)
    (subst (λ l. AreReady may b (1 + length sn) l) (sym workers) ready)

-- Tasks that were lent have the works that they had.
pub same_works : {C T Q A W : Type 0} {g : Ghosts C T Q A} (old lent new back : List (Task C W T Q A g)) → lent ≡ old
    → back ≡ new
    → ((k : ℕ) (d : Task C W T Q A g) → k < length lent → (get_or new k d).work ≡ (get_or lent k d).work)
    → (k : ℕ) (d : Task C W T Q A g) → k < length old → (get_or back k d).work ≡ (get_or old k d).work
same_works old lent new back lent-is back-is same k d lt =
    ap (λ l. (get_or l k d).work) back-is ∙ same k d (subst (λ l. k < length l) (sym lent-is) lt)
    ∙ ap (λ l. (get_or l k d).work) lent-is

none_more : (n : ℕ) → n ≡ n + 0
none_more n = omega arith

one_more : (n k : ℕ) → suc n + k ≡ n + suc k
one_more n k = omega arith

module _ {C T Q A W : Type 0} {g : Ghosts C T Q A} where
  as_many : (from : ℕ) (tasks : List (Task C (NumberedWork W) T Q A g)) (works : List W)
      → map task_work tasks ≡ numbered_works from works → length tasks ≡ length works
  as_many from [] [] is = refl
  as_many from [] (w ∷ works) is = absurd (let e = ap length is in omega (arith, e))
  as_many from (t ∷ tasks) [] is = absurd (let e = ap length is in omega (arith, e))
  as_many from (t ∷ tasks) (w ∷ works) is =
      ap suc (as_many (suc from) tasks works (ap (λ (l : List (NumberedWork W)). drop 1 l) is))

  -- A task has the work at its place, and the number of its place.
  task_at : (from : ℕ) (tasks : List (Task C (NumberedWork W) T Q A g)) (works : List W)
      → map task_work tasks ≡ numbered_works from works → (k : ℕ) (d : Task C (NumberedWork W) T Q A g) (e : W)
      → k < length works → (get_or tasks k d).work ≡ record { number = from + k; work = get_or works k e }
  task_at from [] [] is k d e lt = absurd (omega arith)
  task_at from [] (w ∷ works) is k d e lt = absurd (let l = ap length is in omega (arith, l))
  task_at from (t ∷ tasks) [] is k d e lt = absurd (omega arith)
  task_at from (t ∷ tasks) (w ∷ works) is zero d e lt =
      ap (λ (l : List (NumberedWork W)). get_or l 0 t.work) is
      ∙ ap (λ (n : ℕ). record { number = n; work = w }) (none_more from)
  task_at from (t ∷ tasks) (w ∷ works) is (suc k) d e lt =
      task_at (suc from) tasks works (ap (λ (l : List (NumberedWork W)). drop 1 l) is) k d e (omega arith)
      ∙ ap (λ (n : ℕ). record { number = n; work = get_or works k e }) (one_more from k)

  -- Once no work is left, all tasks have theirs.
  pub all_numbered : (from : ℕ) (tasks : List (Task C (NumberedWork W) T Q A g)) (left works : List W)
      → length left ≡ 0 → map task_work tasks ++ numbered_works from left ≡ numbered_works 1 works
      → AreNumbered works tasks
  all_numbered from tasks [] works none is =
      let all = sym (append-nil (map task_work tasks)) ∙ is in
      record { as_many = as_many 1 tasks works all; each = task_at 1 tasks works all }
  all_numbered from tasks (work ∷ left) works none is = absurd (omega (arith, none))

  -- A session may begin with the work that its task has.
  pub session_begins : (may : W → ℕ → List T → ℕ → Type 0) (opening : List T) (works : List W)
      (tasks : List (Task C (NumberedWork W) T Q A g)) → AreNumbered works tasks → (k : ℕ)
      (d : Task C (NumberedWork W) T Q A g) (callers all : ℕ) → callers ≡ all → k < length works
      → ((e : W) → may (get_or works k e) callers opening (1 + k))
      → may (get_or tasks k d).work.work all opening (1 + k)
  session_begins may opening works tasks numbered k d callers all same lt begins =
      subst (λ (w : NumberedWork W). may w.work all opening (1 + k)) (sym (numbered.each k d d.work.work lt))
      (subst (λ n. may (get_or works k d.work.work) n opening (1 + k)) same (begins d.work.work))

  -- Tasks that were given their callers have the works that they had.
  pub tasks_given : (works : List W) (tasks given : List (Task C (NumberedWork W) T Q A g)) → AreNumbered works tasks
      → length given ≡ length tasks
      → ((k : ℕ) (d : Task C (NumberedWork W) T Q A g) → k < length tasks
      → (get_or given k d).work ≡ (get_or tasks k d).work)
      → AreNumbered works given
  tasks_given works tasks given numbered long same = record {
    as_many = long ∙ numbered.as_many;
    each = λ k d e lt. same k d (subst (λ n. k < n) (sym numbered.as_many) lt) ∙ numbered.each k d e lt;
  }
