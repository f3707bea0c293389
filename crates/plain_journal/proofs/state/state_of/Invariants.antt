use Rattle.std.proofs.Common.{◌≡◌, ◌+◌, ◌≤◌, take}
use Rattle.cube_journal.specs.Counters.{journal_state}
use Rattle.plain_journal.proofs.state.state_of.Given as goal

abbrev pub invariant-loop-entry : goal.invariant-loop-entry
invariant-loop-entry l = record {
  state : l.state ≡ journal_state l.safe (take l.entry-index l.journal);
  small : l.state.ec ≤ l.safe + 1 + l.entry-index;
}
