-- The works that come back from threads, by their numbers.
use Rattle.std.proofs.Common.{◌≡◌, ℕ, ◌+◌, ◌<◌, ◌≤◌, Bool, true, false, None, List, length, map, take, get_or, sym, ap, ◌∙◌, subst, arith}
use Rattle.std.proofs.lemmas.List.{get_or-map, get_or-take, get_or_past, length-map, length-take-le}
use Rattle.turn_board.proofs.Places.{there}
use Rattle.turn_board.specs.History.{of_caller}
use Rattle.turn_board.specs.declared.cells.Cells.{Ghosts}
use Rattle.turn_board.specs.declared.history.Event.{Event}
use Rattle.threaded_callers.specs.Ends.{AllEnd, Ends, EndsAs, InHistory, MadeBy, WorkDone}
use Rattle.threaded_callers.specs.declared.task.Task.{Task}
use Rattle.threaded_core.specs.CallerEnds.{EndsBy}
use Rattle.threaded_core.specs.TaskLists.{numbered_done, work_in}
use Rattle.threaded_core.specs.declared.numbered.NumberedWork.{NumberedWork}

module _ {T Q A W : Type 0} (done : WorkDone T Q A W) (opening : List T) where
  pub ended_by : (moment log : List (Event Q A)) (began : Bool) (caller : ℕ) (before after : W)
      → Ends done opening (MadeBy (InHistory log) moment) began caller before after
      → EndsBy done opening moment log began caller before after
  ended_by moment log began caller before after e = record {
    all = e.tells.1 ∙ sym e.tells.0;
    ends = subst (λ own. EndsAs done opening began caller own before after) (sym e.tells.0) e.ends;
  }

  bare : (own : List (Event Q A)) (began : Bool) (caller : ℕ) (before after : NumberedWork W)
      → EndsAs (numbered_done done) opening began caller own before after
      → EndsAs done opening began caller own before.work after.work
  bare own true caller before after e = e.0
  bare own false caller before after e = (e.0, ap (λ (w : NumberedWork W). w.work) e.1)

  number_stays : (own : List (Event Q A)) (began : Bool) (caller : ℕ) (before after : NumberedWork W)
      → EndsAs (numbered_done done) opening began caller own before after → after.number ≡ before.number
  number_stays own true caller before after e = e.1
  number_stays own false caller before after e = ap (λ (w : NumberedWork W). w.number) e.1

module _ {C T Q A W : Type 0} {g : Ghosts C T Q A} (done : WorkDone T Q A W) (opening : List T)
    (moment log : List (Event Q A)) (began : Bool) (works : List W)
    (tasks tasks' : List (Task C (NumberedWork W) T Q A g))
    (long : length tasks ≡ length works)
    (numbered : (k : ℕ) (d : Task C (NumberedWork W) T Q A g) (e : W) → k < length works
    → (get_or tasks k d).work ≡ record { number = 1 + k; work = get_or works k e })
    (each : AllEnd (numbered_done done) opening (MadeBy (InHistory log) moment) began 1 tasks tasks') where
  within : (k : ℕ) → k < length works → k < length tasks
  within k lt = subst (λ n. k < n) (sym long) lt

  number_at : (k : ℕ) (d : Task C (NumberedWork W) T Q A g) → k < length works
      → (get_or tasks' k d).work.number ≡ 1 + k
  number_at k d lt = let e = each k d (within k lt) in
      number_stays done opening e.own began (1 + k) (get_or tasks k d).work (get_or tasks' k d).work e.ends
      ∙ ap (λ (w : NumberedWork W). w.number) (numbered k d d.work.work lt)

  none_missing : length tasks' < length works → ⊥
  none_missing lt =
      let k = length tasks' in let x = (there works k lt).0 in
      let d : Task C (NumberedWork W) T Q A g = record { work = record { number = 0; work = x }; pass = None } in
      let past = ap (λ (t : Task C (NumberedWork W) T Q A g). t.work.number) (get_or_past tasks' k d (omega arith)) in
      let n = number_at k d lt in omega (arith, past, n)

  -- As many come back as there were.
  pub long_enough : length works ≤ length tasks'
  long_enough = omega (arith, none_missing)

  module _ (works' : List W) (n : ℕ) (count : length works ≡ n) (are : works' ≡ map work_in (take n tasks')) where
    back_at : (k : ℕ) (d : W) (t : Task C (NumberedWork W) T Q A g) → k < length works
        → get_or works' k d ≡ (get_or tasks' k t).work.work
    back_at k d t lt =
        let few : n ≤ length tasks' = omega (arith, count, long_enough) in
        let first = length-take-le n tasks' few in
        ap (λ (l : List W). get_or l k d) are
        ∙ get_or-map work_in (take n tasks') k t d (omega (arith, first, count))
        ∙ ap work_in (get_or-take n tasks' k t (omega (arith, count)))

    pub as_many_back : length works' ≡ length works
    as_many_back =
        let few : n ≤ length tasks' = omega (arith, count, long_enough) in
        ap (λ (l : List W). length l) are ∙ length-map (take n tasks') work_in ∙ length-take-le n tasks' few
        ∙ sym count

    -- Each ended as its caller did.
    pub sessions_end : (k : ℕ) (d : W) → k < length works
        → EndsBy done opening moment log began (1 + k) (get_or works k d) (get_or works' k d)
    sessions_end k d lt =
        let t : Task C (NumberedWork W) T Q A g = record { work = record { number = 0; work = d }; pass = None } in
        let e = ended_by (numbered_done done) opening moment log began (1 + k) (get_or tasks k t).work
        (get_or tasks' k t).work
        (each k t (within k lt)) in
        record {
          all = e.all;
          ends = subst (λ (w : W). EndsAs done opening began (1 + k) (of_caller (1 + k) log) w (get_or works' k d))
              (ap (λ (w : NumberedWork W). w.work) (numbered k t d lt))
              (subst (λ (w : W). EndsAs done opening began (1 + k) (of_caller (1 + k) log)
              (get_or tasks k t).work.work w)
              (sym (back_at k d t lt))
              (bare done opening (of_caller (1 + k) log) began (1 + k) (get_or tasks k t).work
              (get_or tasks' k t).work e.ends));
        }
