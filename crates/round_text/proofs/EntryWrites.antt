-- Entries with their rows, as a loop over the entries puts them.
use Rattle.std.proofs.Common.{◌≡◌, ℕ, ◌+◌, ◌-◌, ◌<◌, ◌≤◌, List, [], ◌∷◌, ◌++◌, length, take, drop, get_or, refl, sym, ap, subst, ◌∙◌, append_assoc, arith}
use Rattle.std.specs.List.{flat_map}
use Rattle.std.proofs.lemmas.Grind.{flat_map-append}
use Rattle.std.proofs.lemmas.List.{take_more, take_all, get_or-drop, append-nil, length-drop}
use Rattle.cube_values.specs.declared.entry.Entry.{Entry}
use Rattle.cube_values.specs.declared.entry.Entry.TheVariants.{Run, Mark}
use Rattle.cube_values.specs.declared.row.CodedRow.{CodedRow}
use Rattle.cube_values.specs.Batches.{coded_row_at, rows_between}
use Rattle.cube_values.specs.EpochsVector.{Leads}
use Rattle.cube_rounds.specs.Bricks.{entries_with_rows}
use Rattle.cube_rounds.proofs.Leads.{leads_up}
use Rattle.cube_rounds.specs.Bytes.{row_bytes, entry_rows_bytes, entries_bytes, eight_bytes}

-- What was put, with the entries that are left, is all; the entries that are left lead from the rows that were put.
pub record PutsEntries (before : List ℕ) (entries : List Entry) (rows : List CodedRow) (from : ℕ) (left : List Entry) (out : List ℕ) : Type 0 where
  pub whole : out ++ entries_bytes (entries_with_rows from rows left) ≡ before ++ entries_bytes (entries_with_rows 0 rows entries)
  pub leads : Leads from left (length rows)

-- The rows up to one more.
pub rows_more : (from i : ℕ) (rows : List CodedRow) → from ≤ i → i < length rows → rows_between from (i + 1) rows ≡ rows_between from i rows ++ coded_row_at rows i ∷ []
rows_more from i rows le lt =
    let d : CodedRow = record { coords = []; metrics = [] } in
    let within : i - from < length (drop from rows) = omega (arith, length-drop from rows) in
    let more : i + 1 - from ≡ (i - from) + 1 = omega arith in
    let same : from + (i - from) ≡ i = omega arith in
    ap (λ (k : ℕ). take k (drop from rows)) more
    ∙ take_more (drop from rows) (i - from) d within
    ∙ ap (λ (r : CodedRow). rows_between from i rows ++ r ∷ []) (get_or-drop from rows (i - from) d ∙ ap (λ (j : ℕ). get_or rows j d) same)

pub starts : (out : List ℕ) (entries : List Entry) (rows : List CodedRow) → Leads 0 entries (length rows) → PutsEntries out entries rows 0 entries out
starts out entries rows leads = record { whole = refl; leads = leads }

pub run_put : (before : List ℕ) (entries : List Entry) (rows : List CodedRow) (from epoch end : ℕ) (rest : List Entry) (out new : List ℕ)
    → new ≡ out ++ entry_rows_bytes (Run epoch end) (rows_between from end rows)
    → PutsEntries before entries rows from (Run epoch end ∷ rest) out → PutsEntries before entries rows end rest new
run_put before entries rows from epoch end rest out new put h = record {
  whole =
      ap (λ (o : List ℕ). o ++ entries_bytes (entries_with_rows end rows rest)) put
      ∙ append_assoc out (entry_rows_bytes (Run epoch end) (rows_between from end rows)) (entries_bytes (entries_with_rows end rows rest))
      ∙ h.whole;
  leads = h.leads.1;
}

pub mark_put : (before : List ℕ) (entries : List Entry) (rows : List CodedRow) (from epoch at : ℕ) (rest : List Entry) (out new : List ℕ)
    → new ≡ out ++ 1 ∷ eight_bytes epoch
    → PutsEntries before entries rows from (Mark epoch at ∷ rest) out → PutsEntries before entries rows from rest new
mark_put before entries rows from epoch at rest out new put h = record {
  whole =
      ap (λ (o : List ℕ). o ++ entries_bytes (entries_with_rows from rows rest)) put
      ∙ append_assoc out (1 ∷ eight_bytes epoch) (entries_bytes (entries_with_rows from rows rest))
      ∙ h.whole;
  leads = h.leads.1;
}

pub all_put : (before : List ℕ) (entries : List Entry) (rows : List CodedRow) (from : ℕ) (out : List ℕ)
    → PutsEntries before entries rows from [] out → out ≡ before ++ entries_bytes (entries_with_rows 0 rows entries)
all_put before entries rows from out h = sym (append-nil out) ∙ h.whole

-- One row more was put.
pub row_put : (before out new : List ℕ) (from i : ℕ) (rows : List CodedRow) → from ≤ i → i < length rows
    → out ≡ before ++ flat_map row_bytes (rows_between from i rows) → new ≡ out ++ row_bytes (coded_row_at rows i)
    → new ≡ before ++ flat_map row_bytes (rows_between from (i + 1) rows)
row_put before out new from i rows le lt so_far put =
    let more : flat_map row_bytes (rows_between from (i + 1) rows) ≡ flat_map row_bytes (rows_between from i rows) ++ row_bytes (coded_row_at rows i) =
    ap (flat_map row_bytes) (rows_more from i rows le lt)
    ∙ flat_map-append row_bytes (rows_between from i rows) (coded_row_at rows i ∷ [])
    ∙ ap (λ (b : List ℕ). flat_map row_bytes (rows_between from i rows) ++ b) (append-nil (row_bytes (coded_row_at rows i))) in
    put ∙ ap (λ (o : List ℕ). o ++ row_bytes (coded_row_at rows i)) so_far
    ∙ append_assoc before (flat_map row_bytes (rows_between from i rows)) (row_bytes (coded_row_at rows i))
    ∙ ap (λ (b : List ℕ). before ++ b) (sym more)

-- Entries by the first and the others.
pub headed : (xs : List Entry) (d e : Entry) → 1 ≤ length xs → get_or xs 0 d ≡ e → xs ≡ e ∷ take (length xs - 1) (drop 1 xs)
headed [] d e l h = absurd (omega arith)
headed (x ∷ xs) d e l h = let q = take_all (length (x ∷ xs) - 1) xs (omega arith) in cc

-- The end of a run is within the rows.
pub run_ends : (from : ℕ) (left rest : List Entry) (epoch end rows : ℕ) → left ≡ Run epoch end ∷ rest → Leads from left rows → end ≤ rows
run_ends from left rest epoch end rows e leads =
    let first = subst (λ (es : List Entry). Leads from es rows) e leads in leads_up end rest rows first.1
