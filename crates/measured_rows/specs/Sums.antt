-- Checksums of rows and numbers.
use Rattle.std.specs.Prelude.{ℕ, ◌%◌, ◌^◌, List, unsigned_abs}
use Rattle.std.specs.List.{sum_by}
use Rattle.cube_values.specs.declared.table.Field.{Field}
use Rattle.cube_values.specs.declared.table.Field.TheVariants.{Whole}

-- Of numbers: their sum, in 64 bits.
abbrev pub list_sum : List ℕ → ℕ
list_sum numbers = sum_by (λ number. number) numbers % 2 ^ 64

-- What a field counts: a whole number without its sign, and nothing else.
abbrev pub field_count : Field → ℕ
field_count (Whole n) = unsigned_abs n
field_count field = 0

-- Of a line of an answer, and of an answer: the fields' counts, in 64 bits.
abbrev pub line_sum : List Field → ℕ
line_sum line = sum_by field_count line % 2 ^ 64

abbrev pub table_sum : List (List Field) → ℕ
table_sum table = sum_by line_sum table % 2 ^ 64
