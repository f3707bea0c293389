-- What a crash leaves over calls in a row.
use Rattle.std.proofs.Common.{◌≡◌, ℕ, ◌≤◌, List, Option, Some, None, inl, inr, ⊎_elim, subst, arith}
use Rattle.std.specs.Prelude.{IfSome}
use Rattle.outside_disk.specs.Views.{View, LeavesOnly, AnyMoment}

pub LeavesOnly-joined : (old mid new : View) (P : List ℕ → Type 0) → LeavesOnly old mid P → LeavesOnly mid new P → LeavesOnly old new P
LeavesOnly-joined old mid new P first second = record {
  later = omega (arith, first.later, second.later);
  each = λ c left. ⊎_elim (first.each c) (λ p. p) (second.before old.moment c first.later left);
  before = λ t c le left.
      ⊎_elim (first.before t c le) (λ p. inr p) (second.before t c (omega (arith, le, first.later)) left);
}

pub LeavesOnly-wider : (old new : View) (P Q : List ℕ → Type 0) → ((c : List ℕ) → P c → Q c) → LeavesOnly old new P → LeavesOnly old new Q
LeavesOnly-wider old new P Q wide moves = record {
  later = moves.later;
  each = λ c left. wide c (moves.each c left);
  before = λ t c le left. ⊎_elim (λ was. inl was) (λ p. inr (wide c p)) (moves.before t c le left);
}

-- What moves a disk that tells this file.
pub moves_from : (effect : List ℕ → List ℕ → Type 0) (old new : View) (f : List ℕ) → old.told ≡ Some f → AnyMoment effect old new → LeavesOnly old new (effect f)
moves_from effect old new f told moves = subst (λ (o : Option (List ℕ)). IfSome o (λ g. LeavesOnly old new (effect g))) told moves
