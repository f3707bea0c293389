-- How many rows are kept before each row, what the counted entries lead to, and that a vector is left.
use Rattle.std.proofs.Common.{◌≡◌, ℕ, ◌+◌, ◌-◌, ◌*◌, ◌<◌, ◌≤◌, nat_le, cond, Bool, true, false, List, [], ◌∷◌, length, take, drop, replicate, get_or, refl, ap, sym, subst, ◌∙◌, arith}
use Rattle.std.proofs.Math.Seq.{take-add}
use Rattle.std.proofs.lemmas.List.{ext_get_or, get_or-drop, get_or-replicate, get_or-take, length-drop, length-replicate, length-take-le, take_all}
use Rattle.std.proofs.lemmas.List.Folds.{sum_by-replicate}
use Rattle.std.proofs.lemmas.List.FromFn.{length-map-range_with_len, get_or-map-range_with_len}
use Rattle.std.proofs.lemmas.List.Sums.{count_by_more_yes, sum_by-append}
use Rattle.cube_values.specs.declared.entry.Entry.{Entry}
use Rattle.cube_values.specs.declared.entry.Entry.TheVariants.{Run, Mark}
use Rattle.cube_values.specs.BitRows.{set_bits}
use Rattle.cube_values.specs.EpochsVector.{IsVector, Leads, rows_of}
use Rattle.epochs_vector.specs.Without.{set_bits_before}
use Rattle.epochs_vector.proofs.Ends.{vector_rows}
use Rattle.purge_plan.specs.Purged.{is_spared, spared_bits, counted_entries, purged_entries}
use Rattle.purge_plan.proofs.Joins.{LeadsOn, vector_counted, vector_flat}

-- the rows that are kept before a row, in two parts
two_parts : (bits : List Bool) (m k : ℕ) → set_bits_before bits (m + k) ≡ set_bits_before bits m + set_bits (take k (drop m bits))
two_parts bits m k = ap set_bits (take-add m k bits) ∙ sum_by-append (λ (bit : Bool). cond bit 1 0) (take m bits) (take k (drop m bits))

pub rises : (bits : List Bool) (m n : ℕ) → m ≤ n → set_bits_before bits m ≤ set_bits_before bits n
rises bits m n h =
    let e : m + (n - m) ≡ n = omega arith in
    omega (arith, two_parts bits m (n - m), ap (set_bits_before bits) e)

pub climbs : (bits : List Bool) (i n : ℕ) → i < n → n ≤ length bits → get_or bits i false ≡ true → set_bits_before bits i < set_bits_before bits n
climbs bits i n p h k = omega (arith, count_by_more_yes (λ (bit : Bool). bit) bits i false (omega arith) k, rises bits (i + 1) n (omega arith))

-- rows in a row that are all kept, or all removed
part_alike : (bits : List Bool) (m k : ℕ) (b : Bool) → m + k ≤ length bits → ((i : ℕ) → m ≤ i → i < m + k → get_or bits i false ≡ b) → take k (drop m bits) ≡ replicate k b
part_alike bits m k b h same =
    let long : length (take k (drop m bits)) ≡ k = length-take-le k (drop m bits) (omega (arith, length-drop m bits)) in
    ext_get_or false (take k (drop m bits)) (replicate k b) (long ∙ sym (length-replicate k b)) (λ i p. get_or-take k (drop m bits) i false (omega arith) ∙ get_or-drop m bits i false ∙ same (m + i) (omega arith) (omega arith) ∙ sym (get_or-replicate k i b false (omega arith)))

pub rows_alike : (bits : List Bool) (m n : ℕ) (b : Bool) → m ≤ n → n ≤ length bits → ((i : ℕ) → m ≤ i → i < n → get_or bits i false ≡ b) → set_bits_before bits n ≡ set_bits_before bits m + (n - m) * cond b 1 0
rows_alike bits m n b p h same =
    let k : ℕ = n - m in
    let e : m + k ≡ n = omega arith in
    let r = ap set_bits (part_alike bits m k b (omega arith) (λ i q t. same i q (omega arith))) ∙ sum_by-replicate (λ (bit : Bool). cond bit 1 0) k b in
    ap (set_bits_before bits) (sym e) ∙ two_parts bits m k ∙ ap (λ t. set_bits_before bits m + t) r

-- the counted entries, one by one
pub counted_old : (p : ℕ) (bits : List Bool) (e at : ℕ) (xs : List Entry) → nat_le e p ≡ true → counted_entries p bits (Mark e at ∷ xs) ≡ counted_entries p bits xs
counted_old p bits e at xs b = rw b

pub counted_new : (p : ℕ) (bits : List Bool) (e at : ℕ) (xs : List Entry) → nat_le e p ≡ false → counted_entries p bits (Mark e at ∷ xs) ≡ Mark e (set_bits_before bits at) ∷ counted_entries p bits xs
counted_new p bits e at xs b = rw b

-- they lead to the rows that are kept
lead_mark : (p : ℕ) (bits : List Bool) (e at : ℕ) (xs : List Entry) (from rows : ℕ) (b : Bool) → nat_le e p ≡ b → at ≡ from → LeadsOn (set_bits_before bits from) (counted_entries p bits xs) rows → LeadsOn (set_bits_before bits from) (counted_entries p bits (Mark e at ∷ xs)) rows
lead_mark p bits e at xs from rows true b s l = let P : List Entry → Type 0 = λ ys. LeadsOn (set_bits_before bits from) ys rows in subst P (sym (counted_old p bits e at xs b)) l
lead_mark p bits e at xs from rows false b s l = let P : List Entry → Type 0 = λ ys. LeadsOn (set_bits_before bits from) ys rows in subst P (sym (counted_new p bits e at xs b)) (ap (set_bits_before bits) s, l)

pub lead_counted : (p : ℕ) (bits : List Bool) (xs : List Entry) (from : ℕ) → Leads from xs (length bits) → LeadsOn (set_bits_before bits from) (counted_entries p bits xs) (set_bits bits)
lead_counted p bits [] from l = ap set_bits (take_all from bits (omega (arith, l)))
lead_counted p bits (Run e end ∷ xs) from l = (rises bits from end (omega (arith, l.0)), lead_counted p bits xs end l.1)
lead_counted p bits (Mark e at ∷ xs) from l = lead_mark p bits e at xs from (set_bits bits) (nat_le e p) refl l.0 (lead_counted p bits xs from l.1)

-- the whole vector
pub length-kept : (p : ℕ) (xs : List Entry) (rows : ℕ) → IsVector xs rows → length (spared_bits p xs) ≡ rows
length-kept p xs rows v = length-map-range_with_len (is_spared p xs) 0 (rows_of xs) ∙ vector_rows xs rows v

pub kept_bit : (p : ℕ) (xs : List Entry) (rows i : ℕ) → IsVector xs rows → i < rows → is_spared p xs i ≡ true → get_or (spared_bits p xs) i false ≡ true
kept_bit p xs rows i v q t = get_or-map-range_with_len (is_spared p xs) 0 (rows_of xs) i i false (omega (arith, vector_rows xs rows v)) (omega arith) ∙ t

pub leads_kept : (p : ℕ) (xs : List Entry) (rows : ℕ) → IsVector xs rows → Leads 0 xs (length (spared_bits p xs))
leads_kept p xs rows v = let P : ℕ → Type 0 = λ n. Leads 0 xs n in subst P (sym (length-kept p xs rows v)) v.leads

pub vector_purged : (p : ℕ) (xs : List Entry) (rows : ℕ) → IsVector xs rows → IsVector (purged_entries p xs) (set_bits (spared_bits p xs))
vector_purged p xs rows v =
    let bits : List Bool = spared_bits p xs in
    vector_flat p (purged_entries p xs) (set_bits bits) (vector_counted p (counted_entries p bits xs) [] 0 (set_bits bits) (record { leads = refl; apart = tt }) (lead_counted p bits xs 0 (leads_kept p xs rows v)))
