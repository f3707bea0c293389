-- How many records bytes have at most.
use Rattle.std.proofs.Common.{ℕ, zero, suc, ◌+◌, ◌≤◌, List, [], ◌∷◌, length, Option, Some, None, inl, inr, arith}
use Rattle.std.proofs.lemmas.Bool.{cases_Bool}
use Rattle.csv.specs.Machine.{Read, next_record}
use Rattle.csv.specs.Reading.{default_config, is_bom, records_from, records_next, strip_bom}
use Rattle.csv.specs.declared.parser.State.{State}
use Rattle.csv.specs.declared.parser.State.TheVariants as st
use Rattle.csv_load.specs.FileRecords.{records_of}

few : (n : ℕ) (s : State) (xs : List ℕ) → length (records_from default_config n s xs) ≤ n
unfolding records_from
few zero s xs = omega arith
few (suc n) s xs = by_next (next_record default_config s [] [] xs) (few n)
  where
    by_next : (o : Option Read) → ((s : State) (xs : List ℕ) → length (records_from default_config n s xs) ≤ n)
        → length (records_next (records_from default_config n) o) ≤ suc n
    by_next None rec = omega arith
    by_next (Some p) rec = omega (arith, rec p.1 p.2)

without_mark : (bytes : List ℕ) → length (strip_bom bytes) ≤ length bytes
unfolding strip_bom
without_mark [] = omega arith
without_mark (a ∷ []) = omega arith
without_mark (a ∷ b ∷ []) = omega arith
without_mark (a ∷ b ∷ c ∷ rest) =
    elim (cases_Bool (is_bom a b c)) [ inl mark ↦ rw mark (omega arith) | inr none ↦ rw none (omega arith) ]

pub few_records : (bytes : List ℕ) → length (records_of bytes) ≤ length bytes + 1
few_records bytes =
    let text = strip_bom bytes in
    omega (arith, few (length text + 1) st.StartRecord text, without_mark bytes)
