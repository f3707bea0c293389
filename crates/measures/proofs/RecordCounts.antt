-- Counts of records, in 64 bits.
use Rattle.std.proofs.Common.{◌≡◌, ℕ, ◌+◌, ◌%◌, ◌^◌, ◌<◌, Bool, true, false, List, [], ◌∷◌, length, refl, sym, ap, ◌∙◌, Option, None, Some, IfNone, arith}
use Rattle.std.specs.Prelude.{filter, if◌then◌else◌}
use Rattle.cube_language.specs.declared.decl.Decl.{Decl}
use Rattle.csv_load.specs.FileRecords.{RecordFields}
use Rattle.measures.specs.Loads.{is_row}

-- a record that is taken is counted
pub counted_one : (records sum : ℕ) (fields : RecordFields) (old new : List RecordFields) → old ≡ fields ∷ new
    → (records + length old) % 2 ^ 64 ≡ sum → ((records + 1) % 2 ^ 64 + length new) % 2 ^ 64 ≡ sum
counted_one records sum fields old new next is = omega (arith, is, ap length next)

-- where none is left the count is the sum
pub counted_all : (records sum : ℕ) (old : List RecordFields) → records < 2 ^ 64 → old ≡ []
    → (records + length old) % 2 ^ 64 ≡ sum → records ≡ sum
counted_all records sum old small none is = omega (arith, small, is, ap length none)

-- a record that is taken is counted where it is a row
filter_more : (p : RecordFields → Bool) (x : RecordFields) (xs : List RecordFields) (found : Bool) → found ≡ p x
    → length (filter p (x ∷ xs)) ≡ (if found then 1 else 0) + length (filter p xs)
filter_more p x xs true is = rw (sym is) (omega arith)
filter_more p x xs false is = rw (sym is) (omega arith)

pub row_counted : (d : Decl) (rows sum : ℕ) (found : Bool) (fields : RecordFields) (old new : List RecordFields)
    → old ≡ fields ∷ new → found ≡ is_row d fields → (rows + length (filter (is_row d) old)) % 2 ^ 64 ≡ sum
    → ((rows + (if found then 1 else 0)) % 2 ^ 64 + length (filter (is_row d) new)) % 2 ^ 64 ≡ sum
row_counted d rows sum found fields old new next is so =
    let more = ap (λ rs. length (filter (is_row d) rs)) next ∙ filter_more (is_row d) fields new found is in
    omega (arith, so, more)

-- where none is left, none is a row
pub no_row_left : (p : RecordFields → Bool) (old : List RecordFields) → old ≡ [] → length (filter p old) ≡ 0
no_row_left p old none = ap (λ rs. length (filter p rs)) none

-- what holds where nothing is found, where nothing is
pub none_found : (found : Option Bool) (P : Type 0) → ((b : Bool) → found ≡ Some b → ⊥) → IfNone found P → P
none_found None P never h = h
none_found (Some b) P never h = absurd (never b refl)
