-- Entries with their rows are read as they are spelled.
use Rattle.std.proofs.Common.{◌≡◌, ℕ, zero, suc, ◌+◌, ◌^◌, ◌<◌, ◌≤◌, true, false, cond, not, ◌&&◌, List, [], ◌∷◌, ◌++◌, length, get_or, ℤ, Ok, Err, IsTrue, refl, sym, ap, subst, ◌∙◌, append_assoc, arith}
use Rattle.std.specs.Prelude.{FitsSigned, nat_lt, nat_le}
use Rattle.std.specs.Int.{w64}
use Rattle.std.specs.List.{flat_map, AllZip, AllByRecursion}
use Rattle.std.proofs.lemmas.Bool.{ltb-true, lt-ltb, leb-true, le-leb}
use Rattle.std.proofs.lemmas.List.{length-append, append-nil}
use Rattle.cube_values.specs.declared.entry.Entry.{Entry}
use Rattle.cube_values.specs.declared.entry.Entry.TheVariants.{Run, Mark}
use Rattle.cube_values.specs.declared.row.CodedRow.{CodedRow}
use Rattle.cube_values.specs.EpochsVector.{maker, with_rows_after, is_one_with}
use Rattle.cube_language.specs.declared.decl.Decl.{Decl}
use Rattle.cube_rounds.specs.Bricks.{EntryRows}
use Rattle.cube_rounds.specs.Bytes.{four_bytes, eight_bytes, signed_bytes, counted_bytes, row_bytes, entry_rows_bytes}
use Rattle.cube_rounds.specs.Demands.{FitsRow, IsOfEpochs}
use Rattle.round_fields.specs.Reading.{◌>>=◌, ReadOf, with_test, list_with, repeat_step, byte_from, eight_from}
use Rattle.round_reading.specs.Payload.{row_from, row_step, run_rows_from, appended_from, joins_last, may_come_next, entry_of_kind, kind_from, EntriesAndRows, brick_content, entry_step}
use Rattle.round_fields.proofs.FieldLaws.{IsBytes, IsBytes-rest, passed, bind_ok, ok_is, Takes, Takes-then, Reads, reads_eight}
use Rattle.round_reading.proofs.Sequences.{reads_passing, reads_putting, steps_take, steps_again, shorter, EachFits, ReadsStep, then_ok}
use Rattle.round_reading.proofs.RowLaws.{is_true, as_true, reads_row}
use Rattle.round_reading.proofs.NameLaws.{both_true, not_true, all_listed, no_more_items}

-- ---- rows

row_steps : (cube : Decl) (limits : List ℕ) (brick : ℕ) → ReadsStep list_with row_bytes (λ s. FitsRow cube limits brick) (row_step cube limits brick)
row_steps cube limits brick = reads_putting list_with row_bytes (λ s. FitsRow cube limits brick) (λ before. row_from cube limits brick) (λ s. reads_row cube limits brick)

-- What fits wherever it stands.
each_alike : {A : Type 0} (P : A → Type 0) (s items : List A) → EachFits list_with (λ s. P) s items → AllByRecursion P items
each_alike P s [] fit = tt
each_alike P s (x ∷ items) fit = (fit.0, each_alike P (s ++ x ∷ []) items fit.1)

alike_each : {A : Type 0} (P : A → Type 0) (s items : List A) → AllByRecursion P items → EachFits list_with (λ s. P) s items
alike_each P s [] fit = tt
alike_each P s (x ∷ items) fit = (fit.0, alike_each P (s ++ x ∷ []) items fit.1)

pub record TakesRows (cube : Decl) (limits : List ℕ) (brick : ℕ) (rows : List CodedRow) (bytes : List ℕ) (after : List CodedRow) (rest : List ℕ) : Type 0 where
  pub new : List CodedRow
  pub are : after ≡ rows ++ new
  pub taken : Takes bytes (counted_bytes row_bytes new) rest
  pub fit : AllByRecursion (FitsRow cube limits brick) new
  pub some : 0 < length new

pub counts : Reads eight_bytes (λ n. (n < 2 ^ 64) × IsTrue (nat_lt 0 n)) (with_test (nat_lt 0) eight_from)
counts = reads_passing eight_bytes (λ n. n < 2 ^ 64) eight_from (nat_lt 0) reads_eight

rows_take : (cube : Decl) (limits : List ℕ) (brick : ℕ) (rows : List CodedRow) (bytes : List ℕ) (after : List CodedRow) (rest : List ℕ) → IsBytes bytes
    → run_rows_from cube limits brick rows bytes ≡ Ok (after, rest) → TakesRows cube limits brick rows bytes after rest
unfolding run_rows_from
rows_take cube limits brick rows bytes after rest fits e =
    let a = bind_ok (with_test (nat_lt 0) eight_from bytes) (λ count. repeat_step (row_step cube limits brick) count.0 rows count.1) (after, rest) e in
    let count = counts.takes bytes a.0.0 a.0.1 fits a.1 in
    let all = steps_take list_with row_bytes (λ s. FitsRow cube limits brick) (row_step cube limits brick) (row_steps cube limits brick) a.0.0 rows a.0.1 after rest count.0.rest_fits a.2 in
    record {
      new = all.items;
      are = all.are ∙ all_listed rows all.items;
      taken = subst (λ (n : ℕ). Takes bytes (eight_bytes n ++ flat_map row_bytes all.items) rest) (sym all.count) (Takes-then bytes (eight_bytes a.0.0) a.0.1 (flat_map row_bytes all.items) rest count.0 all.taken);
      fit = each_alike (FitsRow cube limits brick) rows all.items all.fit;
      some = omega (arith, all.count, ltb-true 0 a.0.0 (is_true (nat_lt 0 a.0.0) count.1.1));
    }

length-signed : (z : ℤ) → length (signed_bytes z) ≡ 8
unfolding signed_bytes
length-signed z = refl

wide_metrics : (names : List (List ℕ)) (metrics : List ℤ) → 0 < length names → AllZip (λ name. FitsSigned w64) names metrics → 8 ≤ length (flat_map signed_bytes metrics)
wide_metrics [] metrics some fit = absurd (omega arith)
wide_metrics (name ∷ names) [] some fit = absurd fit
wide_metrics (name ∷ names) (z ∷ metrics) some fit = omega (arith, length-append (signed_bytes z) (flat_map signed_bytes metrics), length-signed z)

wide_row : (cube : Decl) (row : CodedRow) → 0 < length cube.metrics → AllZip (λ name. FitsSigned w64) cube.metrics row.metrics → 1 ≤ length (row_bytes row)
wide_row cube row some fit = omega (arith, wide_metrics cube.metrics row.metrics some fit, length-append (flat_map four_bytes row.coords) (flat_map signed_bytes row.metrics))

some_row : (cube : Decl) (limits : List ℕ) (brick : ℕ) → 0 < length cube.metrics → (rows : List CodedRow) → AllByRecursion (FitsRow cube limits brick) rows → AllByRecursion (λ row. 1 ≤ length (row_bytes row)) rows
some_row cube limits brick wide [] fit = tt
some_row cube limits brick wide (row ∷ rows) fit = (wide_row cube row wide fit.0.metrics, some_row cube limits brick wide rows fit.1)

rows_again : (cube : Decl) (limits : List ℕ) (brick : ℕ) → 0 < length cube.metrics → (rows new : List CodedRow) (rest : List ℕ) → AllByRecursion (FitsRow cube limits brick) new → 0 < length new
    → length (counted_bytes row_bytes new ++ rest) < 2 ^ 64 → run_rows_from cube limits brick rows (counted_bytes row_bytes new ++ rest) ≡ Ok (rows ++ new, rest)
unfolding run_rows_from
rows_again cube limits brick wide rows new rest fit some short =
    let more = flat_map row_bytes new in
    let parted = append_assoc (eight_bytes (length new)) more rest in
    let lt : length (eight_bytes (length new) ++ (more ++ rest)) < 2 ^ 64 = rw (← parted) short in
    let few : length new < 2 ^ 64 = omega (arith, no_more_items row_bytes new (some_row cube limits brick wide new fit), length-append more rest, length-append (eight_bytes (length new)) (more ++ rest), lt) in
    let count = counts.again (length new) (more ++ rest) (few, as_true (nat_lt 0 (length new)) (lt-ltb 0 (length new) some)) lt in
    let all = steps_again list_with row_bytes (λ s. FitsRow cube limits brick) (row_step cube limits brick) (row_steps cube limits brick) new rows rest (alike_each (FitsRow cube limits brick) rows new fit) (shorter (eight_bytes (length new)) (more ++ rest) lt) in
    rw (parted, count) (all ∙ ap (λ (s : List CodedRow). Ok (s, rest)) (all_listed rows new))

-- ---- entries

-- An entry behind so many rows has these rows: a run at least one, up to its end; a mark none.
abbrev pub HasRows : ℕ → Entry → List CodedRow → Type 0
HasRows from (Run epoch end) rows = (end ≡ from + length rows) × (0 < length rows)
HasRows from (Mark epoch at) rows = (at ≡ from) × (rows ≡ [])

pub record FitsEntry (cube : Decl) (limits : List ℕ) (from epoch brick : ℕ) (v : EntriesAndRows) (e : EntryRows) : Type 0 where
  pub epochs : IsOfEpochs from epoch e.entry
  pub apart : joins_last v.entries e.entry ≡ false
  pub shape : HasRows (length v.rows) e.entry e.rows
  pub fit : AllByRecursion (FitsRow cube limits brick) e.rows

abbrev pub vector_with : EntriesAndRows → EntryRows → EntriesAndRows
vector_with v e = brick_content (v.entries ++ e.entry ∷ []) (v.rows ++ e.rows)

abbrev pub spelled_entry : EntryRows → List ℕ
spelled_entry e = entry_rows_bytes e.entry e.rows

-- Whether an entry is one with the last does not depend on a run's end.
joins-run : (entries : List Entry) (epoch a b : ℕ) → joins_last entries (Run epoch a) ≡ joins_last entries (Run epoch b)
joins-run [] epoch a b = refl
joins-run (Run e end ∷ []) epoch a b = refl
joins-run (Mark e at ∷ []) epoch a b = refl
joins-run (first ∷ next ∷ entries) epoch a b = joins-run (next ∷ entries) epoch a b

may_come : (from epoch : ℕ) (entries : List Entry) (next : Entry) → may_come_next from epoch entries next ≡ true → IsOfEpochs from epoch next × (joins_last entries next ≡ false)
may_come from epoch entries next e =
    let a = both_true (nat_lt from (maker next)) (nat_le (maker next) epoch && not (joins_last entries next)) e in
    let b = both_true (nat_le (maker next) epoch) (not (joins_last entries next)) a.1 in
    (record { above = ltb-true _ _ a.0; within = leb-true _ _ b.0 }, not_true (joins_last entries next) b.1)

comes : (from epoch : ℕ) (entries : List Entry) (next : Entry) → IsOfEpochs from epoch next → joins_last entries next ≡ false → may_come_next from epoch entries next ≡ true
comes from epoch entries next of apart = rw (lt-ltb from (maker next) of.above, le-leb (maker next) epoch of.within, apart) refl

-- The bytes of an entry behind its kind.
pub record TakesKind (from epoch : ℕ) (entries : List Entry) (rows : ℕ) (bytes : List ℕ) (entry : Entry) (rest : List ℕ) : Type 0 where
  pub kind : ℕ
  pub made : ℕ
  pub is : entry ≡ entry_of_kind kind made rows
  pub known : kind < 2
  pub taken : Takes bytes (kind ∷ eight_bytes made) rest
  pub epochs : IsOfEpochs from epoch entry
  pub apart : joins_last entries entry ≡ false

reads_byte : Reads (λ b. b ∷ []) (λ b. b < 256) byte_from
reads_byte = record { takes = byte_takes; again = λ b rest fit short. refl }
  where
    byte_takes : (bytes : List ℕ) (b : ℕ) (rest : List ℕ) → IsBytes bytes → byte_from bytes ≡ Ok (b, rest) → Takes bytes (b ∷ []) rest × (b < 256)
    byte_takes [] b rest fits e = absurd cc
    byte_takes (first ∷ bytes) b rest fits e =
        let same = ok_is ℕ (first, bytes) (b, rest) e in
        subst (λ (p : ℕ × List ℕ). Takes (first ∷ bytes) (p.0 ∷ []) p.1 × (p.0 < 256)) same (record { parts = refl; rest_fits = IsBytes-rest first bytes fits }, fits 0)

kinds : Reads (λ b. b ∷ []) (λ b. (b < 256) × IsTrue (nat_lt b 2)) (with_test (λ kind. nat_lt kind 2) byte_from)
kinds = reads_passing (λ b. b ∷ []) (λ b. b < 256) byte_from (λ kind. nat_lt kind 2) reads_byte

kind_takes : (from epoch : ℕ) (entries : List Entry) (rows : ℕ) (bytes : List ℕ) (entry : Entry) (rest : List ℕ) → IsBytes bytes
    → kind_from from epoch entries rows bytes ≡ Ok (entry, rest) → TakesKind from epoch entries rows bytes entry rest
unfolding kind_from
kind_takes from epoch entries rows bytes entry rest fits e =
    let next : ℕ × List ℕ → ℕ × List ℕ → ReadOf Entry = λ kind made. cond (may_come_next from epoch entries (entry_of_kind kind.0 made.0 rows)) (Ok (entry_of_kind kind.0 made.0 rows, made.1)) (Err (length bytes)) in
    let a = bind_ok (with_test (λ kind. nat_lt kind 2) byte_from bytes) (λ kind. eight_from kind.1 >>= next kind) (entry, rest) e in
    let b = bind_ok (eight_from a.0.1) (next a.0) (entry, rest) a.2 in
    let p = passed (may_come_next from epoch entries (entry_of_kind a.0.0 b.0.0 rows)) (length bytes) (entry_of_kind a.0.0 b.0.0 rows, b.0.1) (entry, rest) b.2 in
    let kind = kinds.takes bytes a.0.0 a.0.1 fits a.1 in
    let made = reads_eight.takes a.0.1 b.0.0 b.0.1 kind.0.rest_fits b.1 in
    let entry-is : entry_of_kind a.0.0 b.0.0 rows ≡ entry = ap (λ (p : Entry × List ℕ). p.0) p.1 in
    let rest-is : b.0.1 ≡ rest = ap (λ (p : Entry × List ℕ). p.1) p.1 in
    let right = may_come from epoch entries (entry_of_kind a.0.0 b.0.0 rows) p.0 in
    record {
      kind = a.0.0;
      made = b.0.0;
      is = sym entry-is;
      known = ltb-true a.0.0 2 (is_true (nat_lt a.0.0 2) kind.1.1);
      taken = subst (λ (r : List ℕ). Takes bytes (a.0.0 ∷ eight_bytes b.0.0) r) rest-is (Takes-then bytes (a.0.0 ∷ []) a.0.1 (eight_bytes b.0.0) b.0.1 kind.0 made.0);
      epochs = subst (IsOfEpochs from epoch) entry-is right.0;
      apart = subst (λ (x : Entry). joins_last entries x ≡ false) entry-is right.1;
    }

abbrev pub entry_rows : Entry → List CodedRow → EntryRows
entry_rows entry rows = record { entry = entry; rows = rows }

-- What a step takes: an entry, which it puts behind the others with its rows.
record TakesEntry (cube : Decl) (limits : List ℕ) (from epoch brick : ℕ) (v : EntriesAndRows) (bytes : List ℕ) (after : EntriesAndRows) (rest : List ℕ) : Type 0 where
  pub item : EntryRows
  pub are : after ≡ vector_with v item
  pub taken : Takes bytes (spelled_entry item) rest
  pub fit : FitsEntry cube limits from epoch brick v item

run_takes : (cube : Decl) (limits : List ℕ) (from epoch brick made : ℕ) (v : EntriesAndRows) (bytes r1 : List ℕ) (rows : List CodedRow) (rest : List ℕ)
    → Takes bytes (0 ∷ eight_bytes made) r1 → IsOfEpochs from epoch (Run made (length v.rows)) → joins_last v.entries (Run made (length v.rows)) ≡ false
    → run_rows_from cube limits brick v.rows r1 ≡ Ok (rows, rest)
    → TakesEntry cube limits from epoch brick v bytes (brick_content (v.entries ++ Run made (length rows) ∷ []) rows) rest
run_takes cube limits from epoch brick made v bytes r1 rows rest kind of apart e =
    let t = rows_take cube limits brick v.rows r1 rows rest kind.rest_fits e in
    let long : length rows ≡ length v.rows + length t.new = ap length t.are ∙ length-append v.rows t.new in
    let spelled = Takes-then bytes (0 ∷ eight_bytes made) r1 (counted_bytes row_bytes t.new) rest kind t.taken in
    record {
      item = entry_rows (Run made (length rows)) t.new;
      are = ap (brick_content (v.entries ++ Run made (length rows) ∷ [])) t.are;
      taken = spelled;
      fit = record {
        epochs = record { above = of.above; within = of.within };
        apart = joins-run v.entries made (length rows) (length v.rows) ∙ apart;
        shape = (long, t.some);
        fit = t.fit;
      };
    }

mark_takes : (cube : Decl) (limits : List ℕ) (from epoch brick made : ℕ) (v : EntriesAndRows) (bytes rest : List ℕ)
    → Takes bytes (1 ∷ eight_bytes made) rest → IsOfEpochs from epoch (Mark made (length v.rows)) → joins_last v.entries (Mark made (length v.rows)) ≡ false
    → TakesEntry cube limits from epoch brick v bytes (brick_content (v.entries ++ Mark made (length v.rows) ∷ []) v.rows) rest
mark_takes cube limits from epoch brick made v bytes rest kind of apart = record {
  item = entry_rows (Mark made (length v.rows)) [];
  are = ap (brick_content (v.entries ++ Mark made (length v.rows) ∷ [])) (sym (append-nil v.rows));
  taken = kind;
  fit = record { epochs = of; apart = apart; shape = (refl, refl); fit = tt };
}

-- By the kind of the entry.
entry_by : (cube : Decl) (limits : List ℕ) (from epoch brick kind made : ℕ) (v : EntriesAndRows) (bytes r1 : List ℕ) (rows : List CodedRow) (rest : List ℕ)
    → kind < 2 → Takes bytes (kind ∷ eight_bytes made) r1 → IsOfEpochs from epoch (entry_of_kind kind made (length v.rows))
    → joins_last v.entries (entry_of_kind kind made (length v.rows)) ≡ false
    → appended_from cube limits brick (entry_of_kind kind made (length v.rows)) v.rows r1 ≡ Ok (rows, rest)
    → TakesEntry cube limits from epoch brick v bytes (brick_content (v.entries ++ with_rows_after (entry_of_kind kind made (length v.rows)) (length rows) ∷ []) rows) rest
entry_by cube limits from epoch brick zero made v bytes r1 rows rest known kind of apart e =
    run_takes cube limits from epoch brick made v bytes r1 rows rest kind of apart e
entry_by cube limits from epoch brick (suc zero) made v bytes r1 rows rest known kind of apart e =
    let same = ok_is ℕ (v.rows, r1) (rows, rest) e in
    subst (λ (p : List CodedRow × List ℕ). TakesEntry cube limits from epoch brick v bytes (brick_content (v.entries ++ Mark made (length p.0) ∷ []) p.0) p.1) same
    (mark_takes cube limits from epoch brick made v bytes r1 kind of apart)
entry_by cube limits from epoch brick (suc (suc n)) made v bytes r1 rows rest known kind of apart e = absurd (omega arith)

-- An entry by its kind, with the rows that were read behind it.
entry_with : (cube : Decl) (limits : List ℕ) (from epoch brick : ℕ) (v : EntriesAndRows) (bytes : List ℕ) (entry : Entry) (r1 : List ℕ) (rows : List CodedRow) (rest : List ℕ)
    → TakesKind from epoch v.entries (length v.rows) bytes entry r1 → appended_from cube limits brick entry v.rows r1 ≡ Ok (rows, rest)
    → TakesEntry cube limits from epoch brick v bytes (brick_content (v.entries ++ with_rows_after entry (length rows) ∷ []) rows) rest
entry_with cube limits from epoch brick v bytes entry r1 rows rest k e =
    subst (λ (x : Entry). appended_from cube limits brick x v.rows r1 ≡ Ok (rows, rest)
    → TakesEntry cube limits from epoch brick v bytes (brick_content (v.entries ++ with_rows_after x (length rows) ∷ []) rows) rest) (sym k.is)
    (λ read. entry_by cube limits from epoch brick k.kind k.made v bytes r1 rows rest k.known k.taken
    (subst (IsOfEpochs from epoch) k.is k.epochs) (subst (λ (x : Entry). joins_last v.entries x ≡ false) k.is k.apart) read) e

entry_takes : (cube : Decl) (limits : List ℕ) (from epoch brick : ℕ) (v : EntriesAndRows) (bytes : List ℕ) (after : EntriesAndRows) (rest : List ℕ) → IsBytes bytes
    → entry_step cube limits from epoch brick v bytes ≡ Ok (after, rest) → TakesEntry cube limits from epoch brick v bytes after rest
unfolding entry_step
entry_takes cube limits from epoch brick v bytes after rest fits e =
    let last : Entry × List ℕ → List CodedRow × List ℕ → ReadOf EntriesAndRows = λ entry rows. Ok (brick_content (v.entries ++ with_rows_after entry.0 (length rows.0) ∷ []) rows.0, rows.1) in
    let a = bind_ok (kind_from from epoch v.entries (length v.rows) bytes) (λ entry. appended_from cube limits brick entry.0 v.rows entry.1 >>= last entry) (after, rest) e in
    let b = bind_ok (appended_from cube limits brick a.0.0 v.rows a.0.1) (last a.0) (after, rest) a.2 in
    let same = ok_is ℕ (brick_content (v.entries ++ with_rows_after a.0.0 (length b.0.0) ∷ []) b.0.0, b.0.1) (after, rest) b.2 in
    let k = kind_takes from epoch v.entries (length v.rows) bytes a.0.0 a.0.1 fits a.1 in
    let taken : TakesEntry cube limits from epoch brick v bytes (brick_content (v.entries ++ with_rows_after a.0.0 (length b.0.0) ∷ []) b.0.0) b.0.1 =
    entry_with cube limits from epoch brick v bytes a.0.0 a.0.1 b.0.0 b.0.1 k b.1 in
    subst (λ (p : EntriesAndRows × List ℕ). TakesEntry cube limits from epoch brick v bytes p.0 p.1) same taken

kind_again : (from epoch : ℕ) (entries : List Entry) (kind made rows : ℕ) (rest : List ℕ) → kind < 2 → made < 2 ^ 64
    → may_come_next from epoch entries (entry_of_kind kind made rows) ≡ true → length (kind ∷ (eight_bytes made ++ rest)) < 2 ^ 64
    → kind_from from epoch entries rows (kind ∷ (eight_bytes made ++ rest)) ≡ Ok (entry_of_kind kind made rows, rest)
unfolding kind_from
kind_again from epoch entries kind made rows rest known small may short =
    let first = kinds.again kind (eight_bytes made ++ rest) (omega (arith, known), as_true (nat_lt kind 2) (lt-ltb kind 2 known)) short in
    let second = reads_eight.again made rest small (omega (arith, short)) in
    rw (first, second, may) refl

entry_again : (cube : Decl) (limits : List ℕ) (from epoch brick : ℕ) → 0 < length cube.metrics → epoch < 2 ^ 64 → (v : EntriesAndRows) (entry : Entry) (rows : List CodedRow) (rest : List ℕ)
    → FitsEntry cube limits from epoch brick v (entry_rows entry rows) → length (entry_rows_bytes entry rows ++ rest) < 2 ^ 64
    → entry_step cube limits from epoch brick v (entry_rows_bytes entry rows ++ rest) ≡ Ok (vector_with v (entry_rows entry rows), rest)
unfolding entry_step
entry_again cube limits from epoch brick wide small v (Run made end) rows rest fit short =
    let parted : (0 ∷ (eight_bytes made ++ counted_bytes row_bytes rows)) ++ rest ≡ 0 ∷ (eight_bytes made ++ (counted_bytes row_bytes rows ++ rest)) =
    ap (λ (b : List ℕ). 0 ∷ b) (append_assoc (eight_bytes made) (counted_bytes row_bytes rows) rest) in
    let lt : length (0 ∷ (eight_bytes made ++ (counted_bytes row_bytes rows ++ rest))) < 2 ^ 64 = subst (λ (b : List ℕ). length b < 2 ^ 64) parted short in
    let apart = joins-run v.entries made (length v.rows) end ∙ fit.apart in
    let may = comes from epoch v.entries (Run made (length v.rows)) (record { above = fit.epochs.above; within = fit.epochs.within }) apart in
    let kind = kind_again from epoch v.entries 0 made (length v.rows) (counted_bytes row_bytes rows ++ rest) (omega arith) (omega (arith, fit.epochs.within, small)) may lt in
    let behind : length (counted_bytes row_bytes rows ++ rest) < 2 ^ 64 = omega (arith, lt, length-append (eight_bytes made) (counted_bytes row_bytes rows ++ rest)) in
    let read = rows_again cube limits brick wide v.rows rows rest fit.fit fit.shape.1 behind in
    let end-is : length (v.rows ++ rows) ≡ end = length-append v.rows rows ∙ sym fit.shape.0 in
    let after : EntriesAndRows × List ℕ = (vector_with v (entry_rows (Run made end) rows), rest) in
    let last : Entry × List ℕ → List CodedRow × List ℕ → ReadOf EntriesAndRows = λ entry rows. Ok (brick_content (v.entries ++ with_rows_after entry.0 (length rows.0) ∷ []) rows.0, rows.1) in
    let next : Entry × List ℕ → ReadOf EntriesAndRows = λ entry. appended_from cube limits brick entry.0 v.rows entry.1 >>= last entry in
    let front : Entry × List ℕ = (Run made (length v.rows), counted_bytes row_bytes rows ++ rest) in
    let whole : entry_step cube limits from epoch brick v (0 ∷ (eight_bytes made ++ (counted_bytes row_bytes rows ++ rest))) ≡ Ok after =
    then_ok (kind_from from epoch v.entries (length v.rows) (0 ∷ (eight_bytes made ++ (counted_bytes row_bytes rows ++ rest)))) next front (Ok after) kind
    (then_ok (run_rows_from cube limits brick v.rows (counted_bytes row_bytes rows ++ rest)) (last front) (v.rows ++ rows, rest) (Ok after) read
    (ap (λ (n : ℕ). Ok (brick_content (v.entries ++ Run made n ∷ []) (v.rows ++ rows), rest)) end-is)) in
    ap (entry_step cube limits from epoch brick v) parted ∙ whole
entry_again cube limits from epoch brick wide small v (Mark made at) rows rest fit short =
    let at-is : at ≡ length v.rows = fit.shape.0 in
    let none : rows ≡ [] = fit.shape.1 in
    let may = comes from epoch v.entries (Mark made (length v.rows)) (record { above = fit.epochs.above; within = fit.epochs.within }) (subst (λ (n : ℕ). joins_last v.entries (Mark made n) ≡ false) at-is fit.apart) in
    let kind = kind_again from epoch v.entries 1 made (length v.rows) rest (omega arith) (omega (arith, fit.epochs.within, small)) may short in
    let after : EntriesAndRows × List ℕ = (vector_with v (entry_rows (Mark made at) rows), rest) in
    let last : Entry × List ℕ → List CodedRow × List ℕ → ReadOf EntriesAndRows = λ entry rows. Ok (brick_content (v.entries ++ with_rows_after entry.0 (length rows.0) ∷ []) rows.0, rows.1) in
    let next : Entry × List ℕ → ReadOf EntriesAndRows = λ entry. appended_from cube limits brick entry.0 v.rows entry.1 >>= last entry in
    then_ok (kind_from from epoch v.entries (length v.rows) (1 ∷ (eight_bytes made ++ rest))) next (Mark made (length v.rows), rest) (Ok after) kind
    (λ i. Ok (brick_content (v.entries ++ Mark made (sym at-is i) ∷ []) ((sym (append-nil v.rows) ∙ ap (λ (r : List CodedRow). v.rows ++ r) (sym none)) i), rest))

pub entry_steps : (cube : Decl) (limits : List ℕ) (from epoch brick : ℕ) → 0 < length cube.metrics → epoch < 2 ^ 64
    → ReadsStep vector_with spelled_entry (FitsEntry cube limits from epoch brick) (entry_step cube limits from epoch brick)
entry_steps cube limits from epoch brick wide small = record {
  takes = λ v bytes after rest fits e. let t = entry_takes cube limits from epoch brick v bytes after rest fits e in (t.item, t.are, t.taken, t.fit);
  again = λ v e rest fit short. entry_again cube limits from epoch brick wide small v e.entry e.rows rest fit short;
}

-- The last entry, by its place.
pub last_joins : (entries : List Entry) (i : ℕ) (d next : Entry) → i + 1 ≡ length entries → is_one_with (get_or entries i d) next ≡ joins_last entries next
last_joins [] i d next e = absurd (omega arith)
last_joins (a ∷ []) zero d next e = refl
last_joins (a ∷ []) (suc i) d next e = absurd (omega arith)
last_joins (a ∷ b ∷ entries) zero d next e = absurd (omega arith)
last_joins (a ∷ b ∷ entries) (suc i) d next e = last_joins (b ∷ entries) i d next (omega arith)
