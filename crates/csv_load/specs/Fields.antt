-- What a field of a file is for a column.
-- Source: this project's own.
use Rattle.std.specs.Prelude.{ℕ, ◌^◌, Bool, nat_lt, List, ℤ, pos, negsuc, neg_ℤ, unsigned_abs, Option, Some, None, if◌then◌else◌}
use Rattle.std.specs.Option.{option_map_or}
use Rattle.std.specs.Str.{is_utf8}
use Rattle.std.specs.Str.Parse.{digits_value, signed_digits_value}
use Rattle.cube_language.specs.declared.bad_row.Reason.{Reason}
use Rattle.cube_language.specs.declared.bad_row.Reason.TheVariants.{NotNumber, NotText}
use Rattle.cube_language.specs.declared.decl.DimDecl.{DimDecl}
use Rattle.cube_language.specs.RowFaults.{coord_reason, text_reason}
use Rattle.cube_language.specs.Tokens.{is_digits, is_number}

-- A number that 64 bits with a sign can hold: below 2 ^ 63, or -1 - n for such an n.
abbrev pub is_narrow : ℤ → Bool
is_narrow (pos n) = nat_lt n (2 ^ 63)
is_narrow (negsuc n) = nat_lt n (2 ^ 63)

-- A number, where 64 bits can hold it.
abbrev pub narrow_number : ℤ → Option ℤ
narrow_number n = if is_narrow n then Some n else None

-- The number of 64 bits that a field spells: it is digits, perhaps directly after a minus sign.
abbrev pub spelled_number : List ℕ → Option ℤ
spelled_number field = if is_number field then narrow_number (signed_digits_value 10 field) else None

-- The number that digits spell, and the one that they spell after a minus sign.
abbrev pub plain_number : List ℕ → Option ℤ
plain_number digits = if is_digits digits then narrow_number (pos (digits_value 10 digits)) else None

abbrev pub minus_number : List ℕ → Option ℤ
minus_number digits = if is_digits digits then narrow_number (neg_ℤ (pos (digits_value 10 digits))) else None

-- The number that a field spells, and 0 where it spells none.
abbrev pub field_number : List ℕ → ℤ
field_number field = option_map_or (λ n. n) (spelled_number field) (pos 0)

-- Why a field is no text of a dimension.
abbrev pub text_field_reason : List ℕ → Option Reason
text_field_reason field = if is_utf8 field then text_reason field else Some NotText

-- Why what a field spells is no coordinate below this one.
abbrev pub spelled_reason : ℕ → Option ℤ → Option Reason
spelled_reason cardinality None = Some NotNumber
spelled_reason cardinality (Some n) = coord_reason cardinality n

-- Why a field is no coordinate below this one.
abbrev pub coord_field_reason : ℕ → List ℕ → Option Reason
coord_field_reason cardinality field = spelled_reason cardinality (spelled_number field)

-- Why a field does not fit a dimension.
abbrev pub dim_field_reason : DimDecl → List ℕ → Option Reason
dim_field_reason dim field = if dim.text then text_field_reason field else coord_field_reason dim.cardinality field

-- Why a field does not fit a metric.
abbrev pub metric_field_reason : List ℕ → Option Reason
metric_field_reason field = option_map_or (λ n. None) (spelled_number field) (Some NotNumber)

-- The coordinate of a field that fits a dimension of numbers. A text has none yet, and 0 stands for it.
abbrev pub field_coord : DimDecl → List ℕ → ℕ
field_coord dim field = if dim.text then 0 else unsigned_abs (field_number field)
