-- RisingBricks are read as they are spelled.
use Rattle.std.proofs.Common.{◌≡◌, ℕ, ◌+◌, ◌^◌, ◌<◌, ◌≤◌, Bool, cond, ◌&&◌, List, [], ◌∷◌, ◌++◌, length, map, Ok, Err, IsTrue, refl, sym, ap, subst, ◌∙◌, append_assoc, arith}
use Rattle.std.specs.Prelude.{◌≢◌, nat_lt, nat_le}
use Rattle.std.specs.List.{flat_map, AllByRecursion}
use Rattle.std.proofs.lemmas.Bool.{ltb-true, lt-ltb, leb-true, le-leb}
use Rattle.std.proofs.lemmas.List.{length-append, append-nil, length-map}
use Rattle.cube_values.specs.declared.entry.Entry.{Entry}
use Rattle.cube_values.specs.declared.entry.Entry.TheVariants.{Run, Mark}
use Rattle.cube_values.specs.declared.row.CodedRow.{CodedRow}
use Rattle.cube_values.specs.EpochsVector.{IsVector}
use Rattle.cube_values.specs.Shapes.{bricks_of}
use Rattle.cube_language.specs.declared.decl.Decl.{Decl}
use Rattle.cube_language.specs.Cubes.{sizes_of}
use Rattle.cube_rounds.specs.Bricks.{BrickPart, EntryRows, entries_with_rows}
use Rattle.cube_rounds.specs.Bytes.{eight_bytes, counted_bytes, entry_rows_bytes, entries_bytes, brick_bytes}
use Rattle.cube_rounds.specs.Demands.{FitsRow, IsOfEpochs, FitsBrick, AreRising}
use Rattle.round_fields.specs.Reading.{◌>>=◌, with_test, repeat_step, eight_from}
use Rattle.round_reading.specs.Payload.{EntriesAndRows, brick_content, entry_step, entries_from, RisingBricks, rising_bricks, with_brick, brick_with, brick_from, brick_step, bricks_counted, bricks_from}
use Rattle.round_fields.proofs.FieldLaws.{IsBytes, bind_ok, passed, ok_is, Takes, Takes-then, Reads, reads_eight, length-eight}
use Rattle.round_reading.proofs.Sequences.{reads_passing, reads_as, reads_both, reads_putting, steps_take, steps_again, shorter, all_put, EachFits, ReadsStep}
use Rattle.round_reading.proofs.RowLaws.{is_true, as_true}
use Rattle.round_reading.proofs.NameLaws.{both_true, no_more_items}
use Rattle.round_reading.proofs.EntryLaws.{FitsEntry, vector_with, spelled_entry, entry_steps, counts}
use Rattle.round_reading.proofs.VectorLaws.{vector_all, entries_all, rows_all, epochs_all, fit_all, vector_each, entries_again, rows_again_all, items_again}

-- The bytes of a vector: the number of its entries, and these with their rows.
abbrev pub vector_bytes : EntriesAndRows → List ℕ
vector_bytes v = eight_bytes (length v.entries) ++ entries_bytes (entries_with_rows 0 v.rows v.entries)

-- What a brick of this number may have.
pub record IsRight (cube : Decl) (limits : List ℕ) (from epoch number : ℕ) (v : EntriesAndRows) : Type 0 where
  pub some : v.entries ≢ []
  pub vector : IsVector v.entries (length v.rows)
  pub epochs : AllByRecursion (IsOfEpochs from epoch) v.entries
  pub rows : AllByRecursion (FitsRow cube limits number) v.rows

-- A vector without entries.
abbrev pub none : EntriesAndRows
none = brick_content [] []

some_of : {A : Type 0} (xs : List A) → 0 < length xs → xs ≢ []
some_of [] some = absurd (omega arith)
some_of (x ∷ xs) some = λ e. absurd cc

length_some : {A : Type 0} (xs : List A) → xs ≢ [] → 0 < length xs
length_some [] some = absurd (some refl)
length_some (x ∷ xs) some = omega arith

-- What reading entries gives.
pub record TakesEntries (cube : Decl) (limits : List ℕ) (from epoch number : ℕ) (bytes : List ℕ) (v : EntriesAndRows) (rest : List ℕ) : Type 0 where
  pub items : List EntryRows
  pub are : v ≡ all_put vector_with none items
  pub some : 0 < length items
  pub taken : Takes bytes (eight_bytes (length items) ++ entries_bytes items) rest
  pub fit : EachFits vector_with (FitsEntry cube limits from epoch number) none items

pub entries_take : (cube : Decl) (limits : List ℕ) (from epoch number : ℕ) → 0 < length cube.metrics → epoch < 2 ^ 64 → (bytes : List ℕ) (v : EntriesAndRows) (rest : List ℕ) → IsBytes bytes
    → entries_from cube limits from epoch number bytes ≡ Ok (v, rest) → TakesEntries cube limits from epoch number bytes v rest
unfolding entries_from
entries_take cube limits from epoch number wide small bytes v rest fits e =
    let step = entry_step cube limits from epoch number in
    let a = bind_ok (with_test (nat_lt 0) eight_from bytes) (λ count. repeat_step step count.0 none count.1) (v, rest) e in
    let count = counts.takes bytes a.0.0 a.0.1 fits a.1 in
    let all = steps_take vector_with spelled_entry (FitsEntry cube limits from epoch number) step (entry_steps cube limits from epoch number wide small) a.0.0 none a.0.1 v rest count.0.rest_fits a.2 in
    record {
      items = all.items;
      are = all.are;
      some = omega (arith, all.count, ltb-true 0 a.0.0 (is_true (nat_lt 0 a.0.0) count.1.1));
      taken = subst (λ (n : ℕ). Takes bytes (eight_bytes n ++ entries_bytes all.items) rest) (sym all.count) (Takes-then bytes (eight_bytes a.0.0) a.0.1 (entries_bytes all.items) rest count.0 all.taken);
      fit = all.fit;
    }

-- Entries that were read are a vector over their rows.
pub entries_vector : (cube : Decl) (limits : List ℕ) (from epoch number : ℕ) → 0 < length cube.metrics → epoch < 2 ^ 64 → (bytes : List ℕ) (v : EntriesAndRows) (rest : List ℕ) → IsBytes bytes
    → entries_from cube limits from epoch number bytes ≡ Ok (v, rest) → IsVector v.entries (length v.rows)
entries_vector cube limits from epoch number wide small bytes v rest fits e =
    let t = entries_take cube limits from epoch number wide small bytes v rest fits e in
    subst (λ (x : EntriesAndRows). IsVector x.entries (length x.rows)) (sym t.are)
    (vector_all cube limits from epoch number none t.items (record { leads = refl; apart = tt }) t.fit)

-- What is left behind a number is of bytes.
pub bytes_left : (test : ℕ → Bool) (bytes : List ℕ) (n : ℕ) (rest : List ℕ) → IsBytes bytes → with_test test eight_from bytes ≡ Ok (n, rest) → IsBytes rest
bytes_left test bytes n rest fits e = ((reads_passing eight_bytes (λ k. k < 2 ^ 64) eight_from test reads_eight).takes bytes n rest fits e).0.rest_fits

-- A number that was read is below its end.
pub number_below : (least end : ℕ) (bytes : List ℕ) (n : ℕ) (rest : List ℕ) → with_test (λ k. nat_le least k && nat_lt k end) eight_from bytes ≡ Ok (n, rest) → n < end
number_below least end bytes n rest e =
    let test : ℕ → Bool = λ k. nat_le least k && nat_lt k end in
    let b = bind_ok (eight_from bytes) (λ x. cond (test x.0) (Ok x) (Err (length bytes))) (n, rest) e in
    let p = passed (test b.0.0) (length bytes) b.0 (n, rest) b.2 in
    let t = both_true (nat_le least b.0.0) (nat_lt b.0.0 end) p.0 in
    subst (λ (q : ℕ × List ℕ). q.0 < end) p.1 (ltb-true _ _ t.1)

-- Items that were put one after the other, as their entries and rows.
content_is : (cube : Decl) (limits : List ℕ) (from epoch number : ℕ) (items : List EntryRows)
    → all_put vector_with none items ≡ brick_content (map (λ e. e.entry) items) (flat_map (λ e. e.rows) items)
content_is cube limits from epoch number items =
    λ i. brick_content (entries_all cube limits from epoch number none items i) (rows_all cube limits from epoch number none items i)

entries_right : (cube : Decl) (limits : List ℕ) (from epoch number : ℕ) (bytes : List ℕ) (v : EntriesAndRows) (rest : List ℕ)
    → TakesEntries cube limits from epoch number bytes v rest → Takes bytes (vector_bytes v) rest × IsRight cube limits from epoch number v
entries_right cube limits from epoch number bytes v rest t =
    let entries = map (λ (e : EntryRows). e.entry) t.items in
    let rows = flat_map (λ (e : EntryRows). e.rows) t.items in
    let w = brick_content entries rows in
    let is : v ≡ w = t.are ∙ content_is cube limits from epoch number t.items in
    let count : length entries ≡ length t.items = length-map t.items (λ e. e.entry) in
    let again : entries_with_rows 0 rows entries ≡ t.items = items_again cube limits from epoch number none t.items t.fit rows refl in
    let spelled : vector_bytes w ≡ eight_bytes (length t.items) ++ entries_bytes t.items = λ i. eight_bytes (count i) ++ entries_bytes (again i) in
    let vector : IsVector entries (length rows) =
    subst (λ (x : EntriesAndRows). IsVector x.entries (length x.rows)) (content_is cube limits from epoch number t.items)
    (vector_all cube limits from epoch number none t.items (record { leads = refl; apart = tt }) t.fit) in
    let right : IsRight cube limits from epoch number w = record {
      some = some_of entries (omega (arith, count, t.some));
      vector = vector;
      epochs = epochs_all cube limits from epoch number none t.items t.fit;
      rows = fit_all cube limits from epoch number none t.items t.fit;
    } in
    subst (λ (x : EntriesAndRows). Takes bytes (vector_bytes x) rest × IsRight cube limits from epoch number x) (sym is)
    (subst (λ (text : List ℕ). Takes bytes text rest) (sym spelled) t.taken, right)

some_entry : (items : List EntryRows) → AllByRecursion (λ e. 1 ≤ length (spelled_entry e)) items
some_entry [] = tt
some_entry (e ∷ items) = (some_bytes e.entry e.rows, some_entry items)
  where
    some_bytes : (entry : Entry) (rows : List CodedRow) → 1 ≤ length (entry_rows_bytes entry rows)
    some_bytes (Run epoch end) rows = omega arith
    some_bytes (Mark epoch at) rows = omega arith

entries_read : (cube : Decl) (limits : List ℕ) (from epoch number : ℕ) → 0 < length cube.metrics → epoch < 2 ^ 64 → (v : EntriesAndRows) (rest : List ℕ)
    → IsRight cube limits from epoch number v → length (vector_bytes v ++ rest) < 2 ^ 64
    → entries_from cube limits from epoch number (vector_bytes v ++ rest) ≡ Ok (v, rest)
unfolding entries_from
entries_read cube limits from epoch number wide small v rest right short =
    let step = entry_step cube limits from epoch number in
    let items = entries_with_rows 0 v.rows v.entries in
    let n = length v.entries in
    let more = entries_bytes items in
    let again : map (λ (e : EntryRows). e.entry) items ≡ v.entries = entries_again cube limits from epoch number 0 v.rows v.entries in
    let count : length items ≡ n = sym (length-map items (λ e. e.entry)) ∙ ap length again in
    let parted : (eight_bytes n ++ more) ++ rest ≡ eight_bytes n ++ (more ++ rest) = append_assoc (eight_bytes n) more rest in
    let lt : length (eight_bytes n ++ (more ++ rest)) < 2 ^ 64 = rw (← parted) short in
    let few : n < 2 ^ 64 = omega (arith, count, no_more_items spelled_entry items (some_entry items), length-append more rest, length-append (eight_bytes n) (more ++ rest), lt) in
    let number-read = counts.again n (more ++ rest) (few, as_true (nat_lt 0 n) (lt-ltb 0 n (length_some v.entries right.some))) lt in
    let each = vector_each cube limits from epoch number [] 0 v.rows v.entries (omega arith) right.vector.leads right.vector.apart right.epochs right.rows in
    let all = steps_again vector_with spelled_entry (FitsEntry cube limits from epoch number) step (entry_steps cube limits from epoch number wide small) items none rest each (shorter (eight_bytes n) (more ++ rest) lt) in
    let same : all_put vector_with none items ≡ v =
    content_is cube limits from epoch number items
    ∙ (λ i. brick_content (again i) (rows_again_all cube limits from epoch number 0 v.rows v.entries (omega arith) right.vector.leads i)) in
    let read : repeat_step step n none (more ++ rest) ≡ Ok (v, rest) =
    ap (λ (k : ℕ). repeat_step step k none (more ++ rest)) (sym count) ∙ all ∙ ap (λ (x : EntriesAndRows). Ok (x, rest)) same in
    rw (parted, number-read) read

pub reads_entries : (cube : Decl) (limits : List ℕ) (from epoch number : ℕ) → 0 < length cube.metrics → epoch < 2 ^ 64
    → Reads vector_bytes (IsRight cube limits from epoch number) (entries_from cube limits from epoch number)
reads_entries cube limits from epoch number wide small = record {
  takes = λ bytes v rest fits e.
      entries_right cube limits from epoch number bytes v rest (entries_take cube limits from epoch number wide small bytes v rest fits e);
  again = λ v rest right short. entries_read cube limits from epoch number wide small v rest right short;
}

-- ---- bricks

-- A brick that fits, whose number is not below the least.
pub record FitsFrom (cube : Decl) (limits : List ℕ) (from epoch least : ℕ) (b : BrickPart) : Type 0 where
  pub from_least : least ≤ b.brick
  pub fits : FitsBrick cube limits from epoch b

abbrev number_test : Decl → ℕ → ℕ → Bool
number_test cube least n = nat_le least n && nat_lt n (bricks_of (sizes_of cube.dims))

number_right : (cube : Decl) (least n : ℕ) → IsTrue (number_test cube least n) → (least ≤ n) × (n < bricks_of (sizes_of cube.dims))
number_right cube least n test =
    let b = both_true (nat_le least n) (nat_lt n (bricks_of (sizes_of cube.dims))) (is_true (number_test cube least n) test) in
    (leb-true _ _ b.0, ltb-true _ _ b.1)

right_number : (cube : Decl) (least n : ℕ) → least ≤ n → n < bricks_of (sizes_of cube.dims) → IsTrue (number_test cube least n)
right_number cube least n le lt = as_true (number_test cube least n) (rw (le-leb least n le, lt-ltb n (bricks_of (sizes_of cube.dims)) lt) refl)

reads_brick : (cube : Decl) (limits : List ℕ) (from epoch : ℕ) → 0 < length cube.metrics → bricks_of (sizes_of cube.dims) ≤ 2 ^ 62 → epoch < 2 ^ 64 → (least : ℕ)
    → Reads brick_bytes (FitsFrom cube limits from epoch least) (brick_from cube limits from epoch least)
unfolding brick_from
reads_brick cube limits from epoch wide few small least =
    let test : ℕ → Bool = number_test cube least in
    let number : ℕ → Type 0 = λ n. (n < 2 ^ 64) × IsTrue (test n) in
    reads_as brick_bytes (λ b. number b.brick × IsRight cube limits from epoch b.brick (brick_content b.entries b.rows)) (FitsFrom cube limits from epoch least) (brick_from cube limits from epoch least)
    (λ b h.
    let n = number_right cube least b.brick h.0.1 in
    record { from_least = n.0; fits = record { number = n.1; some = h.1.some; vector = h.1.vector; epochs = h.1.epochs; rows = h.1.rows } })
    (λ b h. (
      (omega (arith, h.fits.number, few), right_number cube least b.brick h.from_least h.fits.number),
      record { some = h.fits.some; vector = h.fits.vector; epochs = h.fits.epochs; rows = h.fits.rows },
    ))
    (reads_both eight_bytes number (with_test test eight_from)
    (λ n. vector_bytes) (λ n. IsRight cube limits from epoch n) (λ n. entries_from cube limits from epoch n)
    brick_with (λ b. b.brick) (λ b. brick_content b.entries b.rows) (λ b. refl) (λ a v. refl) (λ a v. refl)
    (reads_passing eight_bytes (λ n. n < 2 ^ 64) eight_from test reads_eight)
    (λ n h. reads_entries cube limits from epoch n wide small))

module _ (cube : Decl) (limits : List ℕ) (from epoch : ℕ) (wide : 0 < length cube.metrics) (few : bricks_of (sizes_of cube.dims) ≤ 2 ^ 62) (small : epoch < 2 ^ 64) where
  abbrev Behind : RisingBricks → BrickPart → Type 0
  Behind b x = FitsFrom cube limits from epoch b.least x

  brick_steps : ReadsStep with_brick brick_bytes Behind (brick_step cube limits from epoch)
  brick_steps = reads_putting with_brick brick_bytes Behind (λ before. brick_from cube limits from epoch before.least) (λ s. reads_brick cube limits from epoch wide few small s.least)

  -- Bricks that may come from this number on.
  abbrev pub AreBricks : ℕ → List BrickPart → Type 0
  AreBricks least bricks = AreRising least bricks × AllByRecursion (FitsBrick cube limits from epoch) bricks

  each_are : (least : ℕ) (done bricks : List BrickPart) → EachFits with_brick Behind (rising_bricks least done) bricks → AreBricks least bricks
  each_are least done [] fit = (tt, tt)
  each_are least done (b ∷ bricks) fit =
      let others = each_are (b.brick + 1) (done ++ b ∷ []) bricks fit.1 in
      ((fit.0.from_least, others.0), (fit.0.fits, others.1))

  are_each : (least : ℕ) (done bricks : List BrickPart) → AreBricks least bricks → EachFits with_brick Behind (rising_bricks least done) bricks
  are_each least done [] are = tt
  are_each least done (b ∷ bricks) are =
      (record { from_least = are.0.0; fits = are.1.0 }, are_each (b.brick + 1) (done ++ b ∷ []) bricks (are.0.1, are.1.1))

  all_bricks : (s : RisingBricks) (bricks : List BrickPart) → (all_put with_brick s bricks).bricks ≡ s.bricks ++ bricks
  all_bricks s [] = sym (append-nil s.bricks)
  all_bricks s (b ∷ bricks) = all_bricks (with_brick s b) bricks ∙ append_assoc s.bricks (b ∷ []) bricks

  some_brick : (bricks : List BrickPart) → AllByRecursion (λ b. 1 ≤ length (brick_bytes b)) bricks
  some_brick [] = tt
  some_brick (b ∷ bricks) =
      (omega (arith, length-append (eight_bytes b.brick) (vector_bytes (brick_content b.entries b.rows)), length-eight b.brick), some_brick bricks)

  bricks_take : (bytes : List ℕ) (bricks : List BrickPart) (rest : List ℕ) → IsBytes bytes
      → bricks_from cube limits from epoch bytes ≡ Ok (bricks, rest) → Takes bytes (counted_bytes brick_bytes bricks) rest × AreBricks 0 bricks
  unfolding bricks_from bricks_counted
  bricks_take bytes bricks rest fits e =
      let step = brick_step cube limits from epoch in
      let a = bind_ok (eight_from bytes) (λ count. repeat_step step count.0 (rising_bricks 0 []) count.1 >>= λ b. Ok (b.0.bricks, b.1)) (bricks, rest) e in
      let b = bind_ok (repeat_step step a.0.0 (rising_bricks 0 []) a.0.1) (λ b. Ok (b.0.bricks, b.1)) (bricks, rest) a.2 in
      let same = ok_is ℕ (b.0.0.bricks, b.0.1) (bricks, rest) b.2 in
      let count = reads_eight.takes bytes a.0.0 a.0.1 fits a.1 in
      let all = steps_take with_brick brick_bytes Behind step brick_steps a.0.0 (rising_bricks 0 []) a.0.1 b.0.0 b.0.1 count.0.rest_fits b.1 in
      let are : b.0.0.bricks ≡ all.items = ap (λ (s : RisingBricks). s.bricks) all.are ∙ all_bricks (rising_bricks 0 []) all.items in
      let spelled = Takes-then bytes (eight_bytes a.0.0) a.0.1 (flat_map brick_bytes all.items) b.0.1 count.0 all.taken in
      let made : Takes bytes (counted_bytes brick_bytes all.items) b.0.1 =
      subst (λ (n : ℕ). Takes bytes (eight_bytes n ++ flat_map brick_bytes all.items) b.0.1) (sym all.count) spelled in
      let right : Takes bytes (counted_bytes brick_bytes b.0.0.bricks) b.0.1 × AreBricks 0 b.0.0.bricks =
      subst (λ (x : List BrickPart). Takes bytes (counted_bytes brick_bytes x) b.0.1 × AreBricks 0 x) (sym are) (made, each_are 0 [] all.items all.fit) in
      subst (λ (p : List BrickPart × List ℕ). Takes bytes (counted_bytes brick_bytes p.0) p.1 × AreBricks 0 p.0) same right

  bricks_again : (bricks : List BrickPart) (rest : List ℕ) → AreBricks 0 bricks → length (counted_bytes brick_bytes bricks ++ rest) < 2 ^ 64
      → bricks_from cube limits from epoch (counted_bytes brick_bytes bricks ++ rest) ≡ Ok (bricks, rest)
  unfolding bricks_from bricks_counted
  bricks_again bricks rest are short =
      let step = brick_step cube limits from epoch in
      let n = length bricks in
      let more = flat_map brick_bytes bricks in
      let parted : (eight_bytes n ++ more) ++ rest ≡ eight_bytes n ++ (more ++ rest) = append_assoc (eight_bytes n) more rest in
      let lt : length (eight_bytes n ++ (more ++ rest)) < 2 ^ 64 = rw (← parted) short in
      let small_n : n < 2 ^ 64 = omega (arith, no_more_items brick_bytes bricks (some_brick bricks), length-append more rest, length-append (eight_bytes n) (more ++ rest), lt) in
      let count = reads_eight.again n (more ++ rest) small_n lt in
      let all = steps_again with_brick brick_bytes Behind step brick_steps bricks (rising_bricks 0 []) rest (are_each 0 [] bricks are) (shorter (eight_bytes n) (more ++ rest) lt) in
      rw (parted, count, all) (ap (λ (x : List BrickPart). Ok (x, rest)) (all_bricks (rising_bricks 0 []) bricks))

  pub reads_bricks : Reads (counted_bytes brick_bytes) (AreBricks 0) (bricks_from cube limits from epoch)
  reads_bricks = record {
    takes = λ bytes bricks rest fits e. bricks_take bytes bricks rest fits e;
    again = λ bricks rest are short. bricks_again bricks rest are short;
  }
