-- Counts of faults over several rounds: they do not fall, and what rose in the last round has risen since the first.
use Rattle.std.proofs.Common.{ℕ, ◌≤◌, inl, inr, arith}
use Rattle.outside.specs.Counts.{Rose}
use Rattle.outside_disk.specs.Views.{View}
use Rattle.stored_rounds.specs.RoundsInStore.{CountsGoOn, HasFailedDisk}
use Rattle.stored_rounds.specs.declared.stored.StoredRounds.{StoredRounds}

pub rose-since : (a b c : ℕ) → a ≤ b → Rose b c → Rose a c
rose-since a b c up (inl less) = inl (omega (arith, up, less))
rose-since a b c up (inr full) = inr full

module _ {D : Type 0} (view : D → View) (a b c : StoredRounds D) (before : CountsGoOn view a b) where
  pub go-on : CountsGoOn view b c → CountsGoOn view a c
  go-on now =
      let first_before = before.first_count in
      let first_now = now.first_count in
      let second_before = before.second_count in
      let second_now = now.second_count in
      record {
        first_count = omega (arith, first_before, first_now);
        second_count = omega (arith, second_before, second_now);
      }

  pub failed-since : HasFailedDisk view b c → HasFailedDisk view a c
  failed-since (inl first) =
      inl (rose-since (view a.first).faults (view b.first).faults (view c.first).faults before.first_count first)
  failed-since (inr second) =
      inr (rose-since (view a.second).faults (view b.second).faults (view c.second).faults before.second_count second)
