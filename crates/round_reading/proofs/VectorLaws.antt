-- Entries that were read one after the other are a vector over their rows, and a vector is read so.
use Rattle.std.proofs.Common.{◌≡◌, ℕ, zero, suc, ◌+◌, ◌-◌, ◌≤◌, false, List, [], ◌∷◌, ◌++◌, length, map, take, drop, refl, sym, ap, subst, ◌∙◌, append_assoc, arith}
use Rattle.std.specs.List.{flat_map, AllByRecursion}
use Rattle.std.proofs.lemmas.List.{length-append, length-take, length-drop, append-nil, take_at, drop_at, take_all}
use Rattle.std.proofs.Math.Seq.{take-add}
use Rattle.cube_values.specs.declared.entry.Entry.{Entry}
use Rattle.cube_values.specs.declared.entry.Entry.TheVariants.{Run, Mark}
use Rattle.cube_values.specs.declared.row.CodedRow.{CodedRow}
use Rattle.cube_values.specs.EpochsVector.{Leads, NeighboursApart, IsVector}
use Rattle.cube_language.specs.declared.decl.Decl.{Decl}
use Rattle.cube_rounds.specs.Bricks.{EntryRows, entries_with_rows}
use Rattle.cube_values.specs.Batches.{rows_between}
use Rattle.cube_rounds.specs.Demands.{FitsRow, IsOfEpochs}
use Rattle.round_reading.specs.Payload.{joins_last, EntriesAndRows, brick_content}
use Rattle.round_reading.proofs.Sequences.{all_put, EachFits}
use Rattle.cube_rounds.proofs.Leads.{leads_up}
use Rattle.round_reading.proofs.EntryLaws.{HasRows, FitsEntry, vector_with, entry_rows}

-- An entry more, behind entries that lead so far.
leads_more : (from : ℕ) (entries : List Entry) (to : ℕ) (next : Entry) (rows : List CodedRow) → Leads from entries to → HasRows to next rows → Leads from (entries ++ next ∷ []) (to + length rows)
leads_more from [] to (Run epoch end) rows leads has = (omega (arith, leads, has.0, has.1), has.0)
leads_more from [] to (Mark epoch at) rows leads has = (has.0 ∙ sym leads, omega (arith, leads, ap length has.1))
leads_more from (Run epoch end ∷ entries) to next rows leads has = (leads.0, leads_more end entries to next rows leads.1 has)
leads_more from (Mark epoch at ∷ entries) to next rows leads has = (leads.0, leads_more from entries to next rows leads.1 has)

apart_more : (entries : List Entry) (next : Entry) → NeighboursApart entries → joins_last entries next ≡ false → NeighboursApart (entries ++ next ∷ [])
apart_more [] next apart new = tt
apart_more (a ∷ []) next apart new = (new, tt)
apart_more (a ∷ b ∷ entries) next apart new = (apart.0, apart_more (b ∷ entries) next apart.1 new)

module _ (cube : Decl) (limits : List ℕ) (from epoch brick : ℕ) where
  abbrev Fits : EntriesAndRows → EntryRows → Type 0
  Fits v e = FitsEntry cube limits from epoch brick v e

  -- A vector with entries put behind it is a vector.
  pub vector_all : (v : EntriesAndRows) (items : List EntryRows) → IsVector v.entries (length v.rows) → EachFits vector_with Fits v items
      → IsVector (all_put vector_with v items).entries (length (all_put vector_with v items).rows)
  vector_all v [] is fit = is
  vector_all v (e ∷ items) is fit =
      let more : IsVector (v.entries ++ e.entry ∷ []) (length (v.rows ++ e.rows)) = record {
        leads = subst (Leads 0 (v.entries ++ e.entry ∷ [])) (sym (length-append v.rows e.rows)) (leads_more 0 v.entries (length v.rows) e.entry e.rows is.leads fit.0.shape);
        apart = apart_more v.entries e.entry is.apart fit.0.apart;
      } in
      vector_all (vector_with v e) items more fit.1

  -- The entries and rows of a vector with entries put behind it.
  pub entries_all : (v : EntriesAndRows) (items : List EntryRows) → (all_put vector_with v items).entries ≡ v.entries ++ map (λ e. e.entry) items
  entries_all v [] = sym (append-nil v.entries)
  entries_all v (e ∷ items) = entries_all (vector_with v e) items ∙ append_assoc v.entries (e.entry ∷ []) (map (λ e. e.entry) items)

  pub rows_all : (v : EntriesAndRows) (items : List EntryRows) → (all_put vector_with v items).rows ≡ v.rows ++ flat_map (λ e. e.rows) items
  rows_all v [] = sym (append-nil v.rows)
  rows_all v (e ∷ items) = rows_all (vector_with v e) items ∙ append_assoc v.rows e.rows (flat_map (λ e. e.rows) items)

  pub epochs_all : (v : EntriesAndRows) (items : List EntryRows) → EachFits vector_with Fits v items → AllByRecursion (IsOfEpochs from epoch) (map (λ e. e.entry) items)
  epochs_all v [] fit = tt
  epochs_all v (e ∷ items) fit = (fit.0.epochs, epochs_all (vector_with v e) items fit.1)

  all_take : (n : ℕ) (xs : List CodedRow) → AllByRecursion (FitsRow cube limits brick) xs → AllByRecursion (FitsRow cube limits brick) (take n xs)
  all_take zero xs fit = tt
  all_take (suc n) [] fit = tt
  all_take (suc n) (x ∷ xs) fit = (fit.0, all_take n xs fit.1)

  all_drop : (n : ℕ) (xs : List CodedRow) → AllByRecursion (FitsRow cube limits brick) xs → AllByRecursion (FitsRow cube limits brick) (drop n xs)
  all_drop zero xs fit = fit
  all_drop (suc n) [] fit = tt
  all_drop (suc n) (x ∷ xs) fit = all_drop n xs fit.1

  all_append : (P : CodedRow → Type 0) (xs ys : List CodedRow) → AllByRecursion P xs → AllByRecursion P ys → AllByRecursion P (xs ++ ys)
  all_append P [] ys a b = b
  all_append P (x ∷ xs) ys a b = (a.0, all_append P xs ys a.1 b)

  pub fit_all : (v : EntriesAndRows) (items : List EntryRows) → EachFits vector_with Fits v items → AllByRecursion (FitsRow cube limits brick) (flat_map (λ e. e.rows) items)
  fit_all v [] fit = tt
  fit_all v (e ∷ items) fit = all_append (FitsRow cube limits brick) e.rows (flat_map (λ e. e.rows) items) fit.0.fit (fit_all (vector_with v e) items fit.1)

  -- The entries of a vector, one after the other, with their rows.
  not_joined : (done : List Entry) (next : Entry) (left : List Entry) → NeighboursApart (done ++ next ∷ left) → joins_last done next ≡ false
  not_joined [] next left apart = refl
  not_joined (a ∷ []) next left apart = apart.0
  not_joined (a ∷ b ∷ done) next left apart = not_joined (b ∷ done) next left apart.1

  take_between : (from end : ℕ) (rows : List CodedRow) → from ≤ end → take from rows ++ rows_between from end rows ≡ take end rows
  take_between from end rows le =
      let parts : from + (end - from) ≡ end = omega arith in
      sym (take-add from (end - from) rows) ∙ ap (λ (n : ℕ). take n rows) parts

  -- The entries that are left of a vector over the rows, behind those that are done, each fit with their rows.
  pub vector_each : (done : List Entry) (at : ℕ) (rows : List CodedRow) (left : List Entry) → at ≤ length rows → Leads at left (length rows)
      → NeighboursApart (done ++ left) → AllByRecursion (IsOfEpochs from epoch) left → AllByRecursion (FitsRow cube limits brick) rows
      → EachFits vector_with Fits (brick_content done (take at rows)) (entries_with_rows at rows left)
  vector_each done at rows [] within leads apart of fit = tt
  vector_each done at rows (Run made end ∷ left) within leads apart of fit =
      let up = leads_up end left (length rows) leads.1 in
      let long : length (take at rows) ≡ at = omega (arith, length-take at rows) in
      let some : length (rows_between at end rows) ≡ end - at = omega (arith, length-take (end - at) (drop at rows), length-drop at rows, up) in
      let first : Fits (brick_content done (take at rows)) (entry_rows (Run made end) (rows_between at end rows)) = record {
        epochs = of.0;
        apart = not_joined done (Run made end) left apart;
        shape = (omega (arith, long, some, leads.0), omega (arith, some, leads.0));
        fit = all_take (end - at) (drop at rows) (all_drop at rows fit);
      } in
      let moved : NeighboursApart ((done ++ Run made end ∷ []) ++ left) = rw (append_assoc done (Run made end ∷ []) left) apart in (
        first,
        subst (λ (r : List CodedRow). EachFits vector_with Fits (brick_content (done ++ Run made end ∷ []) r) (entries_with_rows end rows left)) (sym (take_between at end rows (omega (arith, leads.0))))
            (vector_each (done ++ Run made end ∷ []) end rows left up leads.1 moved of.1 fit),
      )
  vector_each done at rows (Mark made place ∷ left) within leads apart of fit =
      let long : length (take at rows) ≡ at = omega (arith, length-take at rows) in
      let first : Fits (brick_content done (take at rows)) (entry_rows (Mark made place) []) = record {
        epochs = of.0;
        apart = not_joined done (Mark made place) left apart;
        shape = (leads.0 ∙ sym long, refl);
        fit = tt;
      } in
      let moved : NeighboursApart ((done ++ Mark made place ∷ []) ++ left) = rw (append_assoc done (Mark made place ∷ []) left) apart in (
        first,
        subst (λ (r : List CodedRow). EachFits vector_with Fits (brick_content (done ++ Mark made place ∷ []) r) (entries_with_rows at rows left)) (sym (append-nil (take at rows)))
            (vector_each (done ++ Mark made place ∷ []) at rows left within leads.1 moved of.1 fit),
      )

  -- The entries and the rows again.
  pub entries_again : (at : ℕ) (rows : List CodedRow) (left : List Entry) → map (λ e. e.entry) (entries_with_rows at rows left) ≡ left
  entries_again at rows [] = refl
  entries_again at rows (Run made end ∷ left) = ap (λ (es : List Entry). Run made end ∷ es) (entries_again end rows left)
  entries_again at rows (Mark made place ∷ left) = ap (λ (es : List Entry). Mark made place ∷ es) (entries_again at rows left)

  pub rows_again_all : (at : ℕ) (rows : List CodedRow) (left : List Entry) → at ≤ length rows → Leads at left (length rows)
      → take at rows ++ flat_map (λ e. e.rows) (entries_with_rows at rows left) ≡ rows
  rows_again_all at rows [] within leads = append-nil (take at rows) ∙ take_all at rows (omega (arith, leads))
  rows_again_all at rows (Run made end ∷ left) within leads =
      sym (append_assoc (take at rows) (rows_between at end rows) (flat_map (λ e. e.rows) (entries_with_rows end rows left)))
      ∙ ap (λ (r : List CodedRow). r ++ flat_map (λ e. e.rows) (entries_with_rows end rows left)) (take_between at end rows (omega (arith, leads.0)))
      ∙ rows_again_all end rows left (leads_up end left (length rows) leads.1) leads.1
  rows_again_all at rows (Mark made place ∷ left) within leads = rows_again_all at rows left within leads.1

  item_again : (before own rows more : List CodedRow) (entry : Entry) (items : List EntryRows) → HasRows (length before) entry own → rows ≡ before ++ (own ++ more)
      → entries_with_rows (length (before ++ own)) rows (map (λ e. e.entry) items) ≡ items
      → entries_with_rows (length before) rows (entry ∷ map (λ e. e.entry) items) ≡ entry_rows entry own ∷ items
  item_again before own rows more (Run made end) items has whole rest =
      let end-is : end ≡ length (before ++ own) = has.0 ∙ sym (length-append before own) in
      let size : end - length before ≡ length own = omega (arith, has.0) in
      let behind : drop (length before) rows ≡ own ++ more = ap (drop (length before)) whole ∙ drop_at before (own ++ more) (length before) refl in
      let between : rows_between (length before) end rows ≡ own = (λ i. take (size i) (behind i)) ∙ take_at own more (length own) refl in
      let others : entries_with_rows end rows (map (λ e. e.entry) items) ≡ items = ap (λ (n : ℕ). entries_with_rows n rows (map (λ e. e.entry) items)) end-is ∙ rest in
      λ i. entry_rows (Run made end) (between i) ∷ others i
  item_again before own rows more (Mark made place) items has whole rest =
      let same : length before ≡ length (before ++ own) = omega (arith, length-append before own, ap length has.1) in
      let others : entries_with_rows (length before) rows (map (λ e. e.entry) items) ≡ items = ap (λ (n : ℕ). entries_with_rows n rows (map (λ e. e.entry) items)) same ∙ rest in
      λ i. entry_rows (Mark made place) (sym has.1 i) ∷ others i

  -- Items that were put one after the other are the entries with their rows.
  pub items_again : (v : EntriesAndRows) (items : List EntryRows) → EachFits vector_with Fits v items
      → (rows : List CodedRow) → rows ≡ v.rows ++ flat_map (λ e. e.rows) items → entries_with_rows (length v.rows) rows (map (λ e. e.entry) items) ≡ items
  items_again v [] fit rows whole = refl
  items_again v (e ∷ items) fit rows whole =
      item_again v.rows e.rows rows (flat_map (λ e. e.rows) items) e.entry items fit.0.shape whole
      (items_again (vector_with v e) items fit.1 rows (whole ∙ sym (append_assoc v.rows e.rows (flat_map (λ e. e.rows) items))))
