-- Where in a round a fault is.
-- Source: this project's own.
use Rattle.std.specs.Prelude.{ℕ}
use Rattle.round_fields.specs.declared.fault.FormatFault.{FormatFault}
use Rattle.round_fields.specs.declared.fault.FormatFault.TheVariants.{BadText, BadDigest}

-- The place that a fault names, and 0 where it names none.
abbrev pub fault_place : FormatFault → ℕ
fault_place (BadText at) = at
fault_place (BadDigest kept found) = 0
