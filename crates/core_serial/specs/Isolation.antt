-- Jobs of other transactions than that of a snapshot.
-- Source: AOSI (ICDE 2018), snapshot isolation.
use Rattle.std.specs.Prelude.{◌≡◌, true}
use Rattle.cube_values.specs.declared.snapshot.Snapshot.{Snapshot}
use Rattle.core_events.specs.Jobs.{CoreJob, Append, DropBox, Rollback}

-- A job that writes is not of the snapshot's own transaction. A reader has none. A purge is of no transaction.
abbrev pub IsOfOther : Snapshot → CoreJob → Type 0
IsOfOther s (Append cube epoch rows) = s.own ≡ true → s.epoch ≡ epoch → ⊥
IsOfOther s (DropBox cube epoch box) = s.own ≡ true → s.epoch ≡ epoch → ⊥
IsOfOther s (Rollback epoch) = s.own ≡ true → s.epoch ≡ epoch → ⊥
IsOfOther s job = Unit {0}
