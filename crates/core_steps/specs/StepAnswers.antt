-- What may become of a step, by what the session holds.
-- Source: AOSI (ICDE 2018), implicit and explicit transactions.
use Rattle.std.specs.Prelude.{◌≡◌}
use Rattle.core_steps.specs.declared.plays.HeldSnapshot.{HeldSnapshot}
use Rattle.core_steps.specs.declared.plays.HeldSnapshot.TheVariants.{Nothing, Writer}
use Rattle.core_steps.specs.declared.plays.Step.{Step}
use Rattle.core_steps.specs.declared.plays.Step.TheVariants as step
use Rattle.core_steps.specs.declared.plays.StepAnswer.{StepAnswer}
use Rattle.core_steps.specs.declared.plays.StepAnswer.TheVariants.{NoStep, Begun, Written, Stored, Found, Committed, RolledBack, Purged, Flushed}

-- Without a transaction each write is one of its own. Within one there is no purge and no round.
abbrev pub MayAnswer : HeldSnapshot → Step → StepAnswer → Type 0
MayAnswer Nothing step.Begin (Begun writer) = Unit {0}
MayAnswer Nothing (step.Put coord metric) (Stored epoch) = Unit {0}
MayAnswer Nothing (step.Delete low high) (Stored epoch) = Unit {0}
MayAnswer Nothing (step.Query low high) (Found epoch totals) = Unit {0}
MayAnswer Nothing step.Purge (Purged epoch) = Unit {0}
MayAnswer Nothing step.Flush (Flushed end) = Unit {0}
MayAnswer Nothing step.Commit NoStep = Unit {0}
MayAnswer Nothing step.RollBack NoStep = Unit {0}
MayAnswer (Writer writer) (step.Put coord metric) Written = Unit {0}
MayAnswer (Writer writer) (step.Delete low high) Written = Unit {0}
MayAnswer (Writer writer) (step.Query low high) (Found epoch totals) = epoch ≡ writer.epoch
MayAnswer (Writer writer) step.Commit (Committed epoch) = epoch ≡ writer.epoch
MayAnswer (Writer writer) step.RollBack (RolledBack epoch) = epoch ≡ writer.epoch
MayAnswer (Writer writer) step.Begin NoStep = Unit {0}
MayAnswer (Writer writer) step.Purge NoStep = Unit {0}
MayAnswer (Writer writer) step.Flush NoStep = Unit {0}
MayAnswer held step answer = ⊥

-- What the session holds then.
abbrev pub held_after : HeldSnapshot → StepAnswer → HeldSnapshot
held_after held (Begun writer) = Writer writer
held_after held (Committed epoch) = Nothing
held_after held (RolledBack epoch) = Nothing
held_after held answer = held
