-- How a run of disk calls goes on.
use Rattle.std.proofs.Common.{◌≡◌, ◌≤◌, ℕ, List, Result, inl, inr, ⊎_elim, arith}
use Rattle.outside_disk.specs.declared.disk.Failed.{Failed}
use Rattle.outside_disk.specs.Effects.{Goes}
use Rattle.outside_disk.specs.Views.{View, LeavesOnly}

-- before the first call
pub LeavesOnly-started : (old : View) (P : List ℕ → Type 0) → ((c : List ℕ) → old.since old.moment c → P c) → LeavesOnly old old P
LeavesOnly-started old P here = record { later = omega arith; each = here; before = λ t c le left. inl left }

-- after one call more
pub LeavesOnly-more : {T : Type 0} (effect : List ℕ → List ℕ → Type 0) (result : Result T Failed) (old mid new : View) (P : List ℕ → Type 0)
    → LeavesOnly old mid P → Goes effect result mid new → ((c : List ℕ) → new.image c → P c) → LeavesOnly old new P
LeavesOnly-more effect result old mid new P so_far call here = record {
  later = omega (arith, so_far.later, call.later);
  each = λ c left. ⊎_elim (so_far.each c) (here c) (call.nothing_else old.moment c so_far.later left);
  before = λ t c le left.
      ⊎_elim (so_far.before t c le) (λ now. inr (here c now)) (call.nothing_else t c (omega (arith, le, so_far.later)) left);
}
