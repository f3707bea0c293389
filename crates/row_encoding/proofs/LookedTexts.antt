-- Texts of records at which a LOAD looks.
use Rattle.std.proofs.Common.{◌≡◌, ◌∙◌, ℕ, zero, suc, ◌+◌, ◌-◌, ◌<◌, List, [], ◌∷◌, ◌++◌, Contains, length, Result, Ok, Err, sym, ap, arith, append_assoc}
use Rattle.std.proofs.lemmas.List.{length-append, length-map}
use Rattle.cube_values.specs.declared.row.CodedRow.{CodedRow}
use Rattle.cube_values.specs.declared.row.Row.{Row}
use Rattle.cube_language.specs.declared.bad_row.BadRow.{BadRow}
use Rattle.cube_language.specs.declared.decl.Decl.{Decl}
use Rattle.cube_run.specs.LoadedRows.{records_looked_at}
use Rattle.condition_spans.specs.Codes.{lists_at}
use Rattle.csv_load.specs.FileRecords.{RecordFields}
use Rattle.csv_load.specs.Loads.{LoadState}
use Rattle.row_encoding.specs.declared.load.BadRecords.{BadRecords}
use Rattle.row_encoding.specs.declared.load.BatchEnd.{BatchEnd}
use Rattle.row_encoding.specs.declared.load.BatchEnd.TheVariants as batch_is
use Rattle.row_encoding.specs.FinalCodes.{InTheEnd}
use Rattle.row_encoding.specs.CodedLoads.{LoadGoesOn, HaveTextAmong, HaveTextLookedAt, HaveTextNext, TakesBatch, final_record, final_records, looked_at_later, records_between}

-- ---- where an element stands

record StandsIn {X : Type 0} (xs : List X) (x : X) : Type 0 where
  pub before : List X
  pub rest : List X
  pub are : xs ≡ before ++ x ∷ rest

stands_in : {X : Type 0} (xs : List X) (x : X) → Contains xs x → StandsIn xs x
stands_in [] x (k, l, at) = absurd (omega (arith, l))
stands_in (y ∷ xs) x (zero, l, at) = record { before = []; rest = xs; are = ap (λ z. z ∷ xs) at }
stands_in (y ∷ xs) x (suc k, l, at) =
    let s = stands_in xs x (k, omega (arith, l), at) in
    record { before = y ∷ s.before; rest = s.rest; are = ap (λ zs. y ∷ zs) s.are }

-- ---- what is looked at

looks_at_one : (n : ℕ) (r : Result Row BadRow) (rs : List (Result Row BadRow)) → 0 < length (records_looked_at n (r ∷ rs))
looks_at_one n (Ok row) rs = omega arith
looks_at_one zero (Err why) rs = omega arith
looks_at_one (suc n) (Err why) rs = omega arith

looks_at_next : (d : Decl) (load : LoadState) (lists : List (List (List ℕ))) (n : ℕ) (fields : RecordFields) (rest : List RecordFields)
    → load.left ≡ fields ∷ rest → 0 < length (records_looked_at n (final_records d lists load.left))
looks_at_next d load lists n fields rest are =
    let more = ap (λ (xs : List RecordFields). length (records_looked_at n (final_records d lists xs))) are in
    let one = looks_at_one n (final_record d lists fields) (final_records d lists rest) in
    omega (arith, more, one)

-- With fewer names to end with, it is still looked at.
pub looked_at_later_on : (may_end may_end_later : List (List (List (List ℕ))) → Type 0) (place : ℕ) (d : Decl) (allowed : ℕ)
    (load : LoadState) → ((names : List (List (List (List ℕ)))) → may_end_later names → may_end names)
    → (k : ℕ) (text : List ℕ) → HaveTextLookedAt may_end place d allowed load k text
    → HaveTextLookedAt may_end_later place d allowed load k text
looked_at_later_on may_end may_end_later place d allowed load later k text h = record {
  before = h.before;
  fields = h.fields;
  rest = h.rest;
  are = h.are;
  row = h.row;
  here = h.here;
  looked = λ names m. h.looked names (later names m);
}

module _ (may_end : List (List (List (List ℕ))) → Type 0) (place : ℕ) (d : Decl) (allowed : ℕ) (start mid : LoadState)
    (before bad : BadRecords) (coded : List CodedRow) where
  looked_among : (lists : List (List (List ℕ))) (ended : BatchEnd) (front : List RecordFields) (fields : RecordFields) (rest : List RecordFields)
      → records_between start mid ≡ front ++ fields ∷ rest → TakesBatch d lists allowed start mid before bad coded ended
      → length front < length (records_looked_at (allowed - before.count) (final_records d lists start.left))
  looked_among lists ended front fields rest are h =
      let taken = final_records d lists (records_between start mid) in
      let whole = ap length h.looked in
      let parts = length-append taken (looked_at_later (allowed - bad.count) (final_records d lists mid.left) ended) in
      let count = length-map (records_between start mid) (final_record d lists) in
      let split = ap length are in
      let both = length-append front (fields ∷ rest) in
      omega (arith, whole, parts, count, split, both)

  pub among_looked_at : (ended : BatchEnd) → LoadGoesOn start mid
      → InTheEnd may_end place (λ lists. TakesBatch d lists allowed start mid before bad coded ended)
      → (k : ℕ) (text : List ℕ) → HaveTextAmong d start mid k text
      → HaveTextLookedAt may_end place d (allowed - before.count) start k text
  among_looked_at ended goes final k text h =
      let s = stands_in (records_between start mid) h.fields h.one in
      record {
        before = s.before;
        fields = h.fields;
        rest = s.rest ++ mid.left;
        are = goes.left ∙ ap (λ (xs : List RecordFields). xs ++ mid.left) s.are
            ∙ append_assoc s.before (h.fields ∷ s.rest) mid.left;
        row = h.row;
        here = h.here;
        looked = λ names m. looked_among (lists_at names place) ended s.before h.fields s.rest s.are (final names m);
      }

  looked_beyond : (lists : List (List (List ℕ))) (n : ℕ) → TakesBatch d lists allowed start mid before bad coded batch_is.Full
      → n < length (records_looked_at (allowed - bad.count) (final_records d lists mid.left))
      → length (records_between start mid) + n < length (records_looked_at (allowed - before.count) (final_records d lists start.left))
  looked_beyond lists n h l =
      let taken = final_records d lists (records_between start mid) in
      let whole = ap length h.looked in
      let parts = length-append taken (records_looked_at (allowed - bad.count) (final_records d lists mid.left)) in
      let count = length-map (records_between start mid) (final_record d lists) in
      omega (arith, whole, parts, count, l)

  -- What is looked at behind a batch is looked at from its beginning on.
  pub looked_at_behind : LoadGoesOn start mid
      → InTheEnd may_end place (λ lists. TakesBatch d lists allowed start mid before bad coded batch_is.Full)
      → (k : ℕ) (text : List ℕ) → HaveTextLookedAt may_end place d (allowed - bad.count) mid k text
      → HaveTextLookedAt may_end place d (allowed - before.count) start k text
  looked_at_behind goes final k text h =
      let front = records_between start mid in
      let both = length-append front h.before in
      record {
        before = front ++ h.before;
        fields = h.fields;
        rest = h.rest;
        are = goes.left ∙ ap (λ (xs : List RecordFields). front ++ xs) h.are
            ∙ sym (append_assoc front h.before (h.fields ∷ h.rest));
        row = h.row;
        here = h.here;
        looked = λ names m.
            let l = looked_beyond (lists_at names place) (length h.before) (final names m) (h.looked names m) in
            omega (arith, l, both);
      }

  pub next_looked_at : LoadGoesOn start mid
      → InTheEnd may_end place (λ lists. TakesBatch d lists allowed start mid before bad coded batch_is.Full)
      → (k : ℕ) (text : List ℕ) → HaveTextNext d mid k text
      → HaveTextLookedAt may_end place d (allowed - before.count) start k text
  next_looked_at goes final k text h = looked_at_behind goes final k text (record {
    before = [];
    fields = h.fields;
    rest = h.rest;
    are = h.are;
    row = h.row;
    here = h.here;
    looked = λ names m. looks_at_next d mid (lists_at names place) (allowed - bad.count) h.fields h.rest h.are;
  })
