-- Reading of a round: its numbers first, then its digest, then its payload.
use Rattle.std.specs.Prelude.{ℕ, ◌+◌, ◌-◌, ◌^◌, Bool, ◌&&◌, nat_lt, nat_le, List, length, take, drop, Option, Result, Ok, Err, if◌then◌else◌}
use Rattle.cube_language.specs.declared.decl.Decl.{Decl}
use Rattle.cube_rounds.specs.declared.round.Round.{Round}
use Rattle.cube_rounds.specs.Demands.{DimNames}
use Rattle.round_fields.specs.declared.fault.FormatFault.{FormatFault}
use Rattle.round_fields.specs.declared.fault.FormatFault.TheVariants.{BadText}
use Rattle.round_fields.specs.Digests.{where_digest_is}
use Rattle.round_fields.specs.Reading.{◌>>=◌, ReadOf, eight_from}
use Rattle.round_reading.specs.declared.front.RoundFront.{RoundFront}
use Rattle.round_reading.specs.Payload.{PayloadContent, payload_from}

-- What stands before a payload: the epochs, and the payload's size.
abbrev pub front_of : ℕ → ℕ → ℕ → RoundFront
front_of epoch from size = record { epoch = epoch; from = from; size = size }

unfoldable pub front_from : List ℕ → ReadOf RoundFront
front_from bytes = do
  epoch ← eight_from bytes
  from ← eight_from epoch.1
  size ← eight_from from.1
  Ok (front_of epoch.0 from.0 size.0, size.1)

-- The epochs rise and fit, and the payload lies whole in so many bytes, with a digest and a gate behind it.
abbrev pub is_right_front : RoundFront → ℕ → Bool
is_right_front p left = nat_lt p.from p.epoch && (nat_lt p.epoch (2 ^ 63) && nat_le (p.size + 33) left)

-- How many bytes a round has with a payload of this size, the gate behind it included.
abbrev pub round_size : ℕ → ℕ
round_size size = size + 57

-- A round by its content, or the place of the part that breaks a rule.
abbrev pub round_of_content : RoundFront → Result PayloadContent ℕ → Result (Round × ℕ) FormatFault
round_of_content p (Ok c) =
    Ok (record { from = p.from; epoch = p.epoch; made = c.made; cubes = c.cubes }, round_size p.size)
round_of_content p (Err left) = Err (BadText (p.size + 24 - left))

-- A round by its first numbers, of these bytes.
abbrev pub round_behind : (List ℕ → List ℕ) → (List ℕ → Option (List Decl)) → List Decl → List DimNames → List ℕ
    → ReadOf RoundFront → Result (Round × ℕ) FormatFault
round_behind digest told before names bytes (Err left) = Err (BadText 0)
round_behind digest told before names bytes (Ok x) =
    if is_right_front x.0 (length x.1)
    then where_digest_is (take 32 (drop x.0.size x.1)) (digest (take (x.0.size + 24) bytes))
    (round_of_content x.0 (payload_from told before names x.0.from x.0.epoch (take x.0.size x.1)))
    else Err (BadText 0)

-- A round at the front of the bytes, or the first fault.
unfoldable pub round_from : (List ℕ → List ℕ) → (List ℕ → Option (List Decl)) → List Decl → List DimNames → List ℕ
    → Result (Round × ℕ) FormatFault
round_from digest told before names bytes = round_behind digest told before names bytes (front_from bytes)
