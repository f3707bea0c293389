-- The entries of some epochs and their rows, one entry after another.
use Rattle.std.proofs.Common.{◌≡◌, ℕ, ◌+◌, ◌-◌, ◌≤◌, true, false, cond, List, [], ◌∷◌, ◌++◌, length, drop, fold, refl, sym, ap, subst, ◌∙◌, arith}
use Rattle.std.proofs.lemmas.List.{append-nil, append_assoc, length-take-le, length-drop}
use Rattle.std.proofs.lemmas.List.Sums.{fold-append}
use Rattle.std.proofs.lemmas.List.Concat.{flat_map-append}
use Rattle.std.proofs.lemmas.List.Elements.{filter-append}
use Rattle.cube_values.specs.declared.entry.Entry.{Entry}
use Rattle.cube_values.specs.declared.entry.Entry.TheVariants.{Run, Mark}
use Rattle.cube_values.specs.declared.row.CodedRow.{CodedRow}
use Rattle.cube_values.specs.EpochsVector.{IsVector, Leads, rows_after, rows_of, vector_with_entry}
use Rattle.cube_rounds.specs.Bricks.{EntryRows, entries_with_rows}
use Rattle.cube_values.specs.Batches.{rows_between}
use Rattle.brick_store.specs.Copies.{entries_of_epochs, is_of_epochs, rows_of_entries, vector_of_entries, vector_with_rows}

-- the first entry with its rows, and the others behind its rows
pub one_first : (entry : Entry) (rest : List Entry) (first to : ℕ) (rows : List CodedRow) → Leads first (entry ∷ rest) to → entries_with_rows first rows (entry ∷ rest) ≡ entries_with_rows first rows (entry ∷ []) ++ entries_with_rows (rows_after entry) rows rest
one_first (Run epoch end) rest first to rows l = refl
one_first (Mark epoch at) rest first to rows l =
    ap (λ n. record { entry = Mark epoch at; rows = [] } ∷ entries_with_rows n rows rest) (sym l.0)

pub leads_one : (entry : Entry) (rest : List Entry) (first to : ℕ) → Leads first (entry ∷ rest) to → Leads first (entry ∷ []) (rows_after entry)
leads_one (Run epoch end) rest first to l = (l.0, refl)
leads_one (Mark epoch at) rest first to l = (l.0, sym l.0)

pub leads_rest : (entry : Entry) (rest : List Entry) (first to : ℕ) → Leads first (entry ∷ rest) to → Leads (rows_after entry) rest to
leads_rest (Run epoch end) rest first to l = l.1
leads_rest (Mark epoch at) rest first to l = subst (λ n. Leads n rest to) (sym l.0) l.1

pub first_below : (entry : Entry) (rest : List Entry) (first to : ℕ) → Leads first (entry ∷ rest) to → first ≤ rows_after entry
first_below (Run epoch end) rest first to l = omega (arith, l.0)
first_below (Mark epoch at) rest first to l = omega (arith, l.0)

-- an entry of these epochs is there, and another is not
pub taken_one : (from to first : ℕ) (rows : List CodedRow) (entry : Entry) → is_of_epochs from to entry ≡ true → entries_of_epochs from to (entries_with_rows first rows (entry ∷ [])) ≡ entries_with_rows first rows (entry ∷ [])
taken_one from to first rows (Run epoch end) e = ap (λ b. cond b (entries_with_rows first rows (Run epoch end ∷ [])) []) e
taken_one from to first rows (Mark epoch at) e = ap (λ b. cond b (entries_with_rows first rows (Mark epoch at ∷ [])) []) e

pub left_out_one : (from to first : ℕ) (rows : List CodedRow) (entry : Entry) → is_of_epochs from to entry ≡ false → entries_of_epochs from to (entries_with_rows first rows (entry ∷ [])) ≡ []
left_out_one from to first rows (Run epoch end) e = ap (λ b. cond b (entries_with_rows first rows (Run epoch end ∷ [])) []) e
left_out_one from to first rows (Mark epoch at) e = ap (λ b. cond b (entries_with_rows first rows (Mark epoch at ∷ [])) []) e

pub long_between : (first end : ℕ) (all : List CodedRow) → first ≤ end → end ≤ length all → length (rows_between first end all) ≡ end - first
long_between first end all o l = length-take-le (end - first) (drop first all) (omega (arith, length-drop first all))

-- what was copied of the entries before those that are left, which begin behind so many rows
pub record IsCopied (from to : ℕ) (rows : List CodedRow) (all : List Entry) (first : ℕ) (left entries : List Entry) (copies : List CodedRow) : Type 0 where
  pub leads : Leads first left (length rows)
  pub few : length copies ≤ first
  pub vector : IsVector entries (length copies)
  pub vector_made : fold vector_with_rows entries (entries_of_epochs from to (entries_with_rows first rows left)) ≡ vector_of_entries (entries_of_epochs from to (entries_with_rows 0 rows all))
  pub rows_made : copies ++ rows_of_entries (entries_of_epochs from to (entries_with_rows first rows left)) ≡ rows_of_entries (entries_of_epochs from to (entries_with_rows 0 rows all))

pub copied_none : (from to : ℕ) (rows : List CodedRow) (all entries : List Entry) (copies : List CodedRow) → IsVector all (length rows) → entries ≡ [] → copies ≡ [] → IsCopied from to rows all 0 all entries copies
copied_none from to rows all entries copies v e c = rw (e, c) (record {
  leads = v.leads;
  few = omega arith;
  vector = record { leads = refl; apart = tt };
  vector_made = refl;
  rows_made = refl;
})

of_both : (from to : ℕ) (rows : List CodedRow) (entry : Entry) (rest : List Entry) (first : ℕ) → Leads first (entry ∷ rest) (length rows) → entries_of_epochs from to (entries_with_rows first rows (entry ∷ rest)) ≡ entries_of_epochs from to (entries_with_rows first rows (entry ∷ [])) ++ entries_of_epochs from to (entries_with_rows (rows_after entry) rows rest)
of_both from to rows entry rest first l =
    ap (entries_of_epochs from to) (one_first entry rest first (length rows) rows l)
    ∙ filter-append (λ (e : EntryRows). is_of_epochs from to e.entry) (entries_with_rows first rows (entry ∷ [])) (entries_with_rows (rows_after entry) rows rest)

pub copied_on : (from to : ℕ) (rows : List CodedRow) (all : List Entry) (first : ℕ) (entry : Entry) (rest entries new : List Entry) (copies more : List CodedRow) → IsCopied from to rows all first (entry ∷ rest) entries copies → new ≡ fold vector_with_rows entries (entries_of_epochs from to (entries_with_rows first rows (entry ∷ []))) → more ≡ copies ++ rows_of_entries (entries_of_epochs from to (entries_with_rows first rows (entry ∷ []))) → IsVector new (length more) → length more ≤ rows_after entry → IsCopied from to rows all (rows_after entry) rest new more
copied_on from to rows all first entry rest entries new copies more k e m v few =
    let one : List EntryRows = entries_of_epochs from to (entries_with_rows first rows (entry ∷ [])) in
    let others : List EntryRows = entries_of_epochs from to (entries_with_rows (rows_after entry) rows rest) in
    let both = of_both from to rows entry rest first k.leads in
    record {
      leads = leads_rest entry rest first (length rows) k.leads;
      few = few;
      vector = v;
      vector_made =
          ap (λ l. fold vector_with_rows l others) e
          ∙ sym (fold-append vector_with_rows entries one others)
          ∙ ap (fold vector_with_rows entries) (sym both)
          ∙ k.vector_made;
      rows_made =
          ap (λ l. l ++ rows_of_entries others) m
          ∙ append_assoc copies (rows_of_entries one) (rows_of_entries others)
          ∙ ap (λ l. copies ++ l) (sym (flat_map-append (λ (e : EntryRows). e.rows) one others))
          ∙ ap (λ l. copies ++ rows_of_entries l) (sym both)
          ∙ k.rows_made;
    }

-- past all entries
pub copied_all : (from to : ℕ) (rows : List CodedRow) (all : List Entry) (first : ℕ) (entries : List Entry) (copies : List CodedRow) → IsCopied from to rows all first [] entries copies → (entries ≡ vector_of_entries (entries_of_epochs from to (entries_with_rows 0 rows all))) × (copies ≡ rows_of_entries (entries_of_epochs from to (entries_with_rows 0 rows all)))
copied_all from to rows all first entries copies k = (k.vector_made, sym (append-nil copies) ∙ k.rows_made)

-- an entry with its rows is one more entry of the vector
pub run_more : (entries : List Entry) (epoch first end rows : ℕ) (all : List CodedRow) → rows_of entries ≡ rows → first ≤ end → end ≤ length all → fold vector_with_rows entries (entries_with_rows first all (Run epoch end ∷ [])) ≡ vector_with_entry entries (Run epoch (rows + (end - first)))
run_more entries epoch first end rows all e o l =
    ap (λ n. vector_with_entry entries (Run epoch n)) (omega (arith, e, long_between first end all o l))

pub mark_more : (entries : List Entry) (epoch first at : ℕ) (all : List CodedRow) → fold vector_with_rows entries (entries_with_rows first all (Mark epoch at ∷ [])) ≡ vector_with_entry entries (Mark epoch (rows_of entries))
mark_more entries epoch first at all = ap (λ n. vector_with_entry entries (Mark epoch n)) (omega arith)
