-- A digest that is compared with the one that stands in the bytes.
use Rattle.std.specs.Prelude.{ℕ, List, Result, Err, if◌then◌else◌}
use Rattle.std.specs.Str.{bytes_eq}
use Rattle.round_fields.specs.declared.fault.FormatFault.{FormatFault}
use Rattle.round_fields.specs.declared.fault.FormatFault.TheVariants.{BadDigest}

-- What reading gives where the digest that stands there is the one of what stands before it.
abbrev pub where_digest_is : {A : Type 0} → List ℕ → List ℕ → Result A FormatFault → Result A FormatFault
where_digest_is kept found read = if bytes_eq kept found then read else Err (BadDigest kept found)
