use Rattle.std.proofs.Common.{◌≡◌, ◌+◌, ◌≤◌, [], take, drop}
use Rattle.cube_journal.specs.Counters.{journal_state}
use Rattle.cube_journal.specs.Legal.{CountersAllowAll}
use Rattle.plain_journal.proofs.legal.is_legal_by_counters.Given as goal

abbrev pub invariant-loop-place : goal.invariant-loop-place
invariant-loop-place l = record {
  state : l.state ≡ journal_state l.safe (take l.place l.journal);
  small : l.state.ec ≤ l.safe + 1 + l.place;
  forth : CountersAllowAll l.safe [] l.journal → CountersAllowAll l.safe (take l.place l.journal) (drop l.place l.journal);
  back : CountersAllowAll l.safe (take l.place l.journal) (drop l.place l.journal) → CountersAllowAll l.safe [] l.journal;
}
