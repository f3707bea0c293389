-- The records of a load, one after the other.
use Rattle.std.proofs.Common.{◌≡◌, ℕ, ◌+◌, ◌-◌, ◌<◌, ◌≤◌, zero, suc, List, [], ◌∷◌, ◌++◌, length, map, take, All, Contains, Option, Some, None, Result, Ok, Err, refl, sym, ap, ◌∙◌, subst, arith, append_assoc}
use Rattle.std.specs.List.{cons_option}
use Rattle.std.specs.Option.{option_map_or}
use Rattle.std.proofs.lemmas.List.{append-nil, length-take, length-map, length_push, map_push, take_all, take_at, take-append-le}
use Rattle.std.proofs.lemmas.List.Elements.{All-nil, All-push, Contains-append_left, Contains-append_right, Contains-push, filter_map-append}
use Rattle.cube_values.specs.Batches.{Batch}
use Rattle.cube_values.specs.declared.row.CodedRow.{CodedRow}
use Rattle.cube_values.specs.declared.row.Row.{Row}
use Rattle.cube_language.specs.declared.bad_row.BadRow.{BadRow}
use Rattle.cube_language.specs.declared.decl.Decl.{Decl}
use Rattle.cube_journal.specs.declared.reply.Rejection.{Rejection}
use Rattle.cube_run.specs.LoadedRows.{judged_record, records_looked_at, rejection_in, row_in, rows_among}
use Rattle.agg_fold.specs.Coded.{row_for}
use Rattle.condition_spans.specs.Codes.{lists_at}
use Rattle.csv_load.specs.FileRecords.{RecordFields, record_fault, record_row}
use Rattle.csv_load.specs.Loads.{IsOver, IsRow, LoadState, TakesRecord}
use Rattle.row_encoding.specs.declared.load.BadRecords.{BadRecords}
use Rattle.row_encoding.specs.declared.load.BatchEnd.TheVariants as batch_is
use Rattle.row_encoding.specs.declared.load.RecordOutcome.TheVariants as record_is
use Rattle.row_encoding.specs.declared.load.TheConstants.{BATCH_ROWS}
use Rattle.row_encoding.specs.FinalCodes.{CarriesOn, Grow, InTheEnd}
use Rattle.row_encoding.specs.CodedValues.{HaveNames, NumbersHaveNoNames}
use Rattle.row_encoding.specs.CodedInserts.{HasCoords, HasNumbers}
use Rattle.row_encoding.specs.CodedRecords.{IsCodedRecord, ReadRow, RecordHasText}
use Rattle.row_encoding.specs.CodedLoads.{LoadGoesOn, HaveTextAmong, HaveTextLookedAt, HaveTextNext, IsFoundRecord, TakesBatch, Tell, final_record, final_records, record_result, records_between, rejections_from}
use Rattle.row_encoding.proofs.Growing.{grow_none, grow_more, grow_wider}
use Rattle.row_encoding.proofs.LookedTexts.{among_looked_at, next_looked_at}

-- ---- which records were taken

pub none_between : (load : LoadState) → records_between load load ≡ []
none_between load = let none : load.number - load.number ≡ 0 = omega arith in ap (λ n. take n load.left) none

pub goes_nowhere : (load : LoadState) → LoadGoesOn load load
goes_nowhere load = record { cube = refl; count = let l = ap length (none_between load) in omega (arith, l); left = ap (λ (xs : List RecordFields). xs ++ load.left) (sym (none_between load)) }

pub one_between : (start mid new : LoadState) → LoadGoesOn start mid → TakesRecord mid new → records_between start new ≡ records_between start mid ++ new.fields ∷ []
one_between start mid new goes takes =
    let front = records_between start mid in
    let whole : start.left ≡ (front ++ new.fields ∷ []) ++ new.left =
    goes.left ∙ ap (λ (xs : List RecordFields). front ++ xs) takes.next ∙ sym (append_assoc front (new.fields ∷ []) new.left) in
    let l = length_push front new.fields in
    ap (take (new.number - start.number)) whole
    ∙ take_at (front ++ new.fields ∷ []) new.left (new.number - start.number) (let c = goes.count in let m = takes.count in omega (arith, l, c, m))

pub goes_one_more : (start mid new : LoadState) → LoadGoesOn start mid → TakesRecord mid new → LoadGoesOn start new
goes_one_more start mid new goes takes =
    let front = records_between start mid in
    let more = one_between start mid new goes takes in
    record {
      cube = takes.cube ∙ goes.cube;
      count = let l = length_push front new.fields in let e = ap length more in let c = goes.count in let m = takes.count in omega (arith, l, e, c, m);
      left = goes.left ∙ ap (λ (xs : List RecordFields). front ++ xs) takes.next ∙ sym (append_assoc front (new.fields ∷ []) new.left)
          ∙ ap (λ (xs : List RecordFields). xs ++ new.left) (sym more);
    }

pub same_between : (start mid new : LoadState) → IsOver mid new → records_between start new ≡ records_between start mid
same_between start mid new over = ap (λ n. take (n - start.number) start.left) over.count

pub goes_over : (start mid new : LoadState) → LoadGoesOn start mid → IsOver mid new → LoadGoesOn start new
goes_over start mid new goes over =
    let same = same_between start mid new over in
    record {
      cube = over.cube ∙ goes.cube;
      count = over.count ∙ goes.count ∙ ap (λ (xs : List RecordFields). start.number + length xs) (sym same);
      left = goes.left ∙ ap (λ (xs : List RecordFields). records_between start mid ++ xs) (over.none ∙ sym over.still)
          ∙ ap (λ (xs : List RecordFields). xs ++ new.left) (sym same);
    }

-- ---- bad records

pub kept_more : {X : Type 0} (most : ℕ) (all first : List X) (x : X) → first ≡ take most all → length first < most → first ++ x ∷ [] ≡ take most (all ++ x ∷ [])
kept_more most all first x is few =
    let l = length-take most all in
    let e = ap length is in
    let short : length all < most = grind (arith, l, e, few) in
    let p = length_push all x in
    ap (λ xs. xs ++ x ∷ []) (is ∙ take_all most all (omega (arith, short))) ∙ sym (take_all most (all ++ x ∷ []) (omega (arith, short, p)))

pub kept_same : {X : Type 0} (most : ℕ) (all first : List X) (x : X) → first ≡ take most all → most ≤ length first → first ≡ take most (all ++ x ∷ [])
kept_same most all first x is many =
    let l = length-take most all in
    let e = ap length is in
    let long : most ≤ length all = grind (arith, l, e, many) in
    is ∙ sym (take-append-le most all (x ∷ []) long)

cons_append : {X : Type 0} (o : Option X) (xs ys : List X) → cons_option o (xs ++ ys) ≡ cons_option o xs ++ ys
cons_append None xs ys = refl
cons_append (Some x) xs ys = refl

pub rejections_more : (number : ℕ) (records : List (Result Row BadRow)) (r : Result Row BadRow)
    → rejections_from number (records ++ r ∷ []) ≡ rejections_from number records ++ cons_option (rejection_in (number + length records, r)) []
rejections_more number [] r = ap (λ n. cons_option (rejection_in (n, r)) []) (omega arith)
rejections_more number (x ∷ records) r =
    ap (cons_option (rejection_in (number, x)))
    (rejections_more (number + 1) records r ∙ ap (λ n. rejections_from (number + 1) records ++ cons_option (rejection_in (n, r)) []) (omega arith))
    ∙ cons_append (rejection_in (number, x)) (rejections_from (number + 1) records) (cons_option (rejection_in (number + suc (length records), r)) [])

-- ---- what a record is

pub result_row : (d : Decl) (fields : RecordFields) → record_fault d fields ≡ None → record_result d fields ≡ Ok (record_row d fields)
result_row d fields fits = ap (λ o. option_map_or Err o (Ok (record_row d fields))) fits

pub result_bad : (d : Decl) (fields : RecordFields) (why : BadRow) → record_fault d fields ≡ Some why → record_result d fields ≡ Err why
result_bad d fields why fault = ap (λ o. option_map_or Err o (Ok (record_row d fields))) fault

pub row_is_read : (d : Decl) (load : LoadState) → load.decl ≡ d → IsRow load.decl load.fields load.coords load.metrics → ReadRow d load
row_is_read d load is row = record { cube = is; row = subst (λ (x : Decl). IsRow x load.fields load.coords load.metrics) is row }

pub found_row : (d : Decl) (lists : List (List (List ℕ))) (load : LoadState) (coded : CodedRow) → ReadRow d load
    → IsCodedRecord d lists (record_row d load.fields) coded None → IsFoundRecord d lists load.fields coded record_is.Row
found_row d lists load coded read h = (ap (judged_record d lists) (result_row d load.fields read.row.fits) ∙ h.good, h)

pub found_full : (d : Decl) (lists : List (List (List ℕ))) (load : LoadState) (coded : CodedRow) (why : BadRow) → ReadRow d load
    → IsCodedRecord d lists (record_row d load.fields) coded (Some why) → IsFoundRecord d lists load.fields coded (record_is.Bad why)
found_full d lists load coded why read h = ap (judged_record d lists) (result_row d load.fields read.row.fits) ∙ h

pub found_bad : (d decl : Decl) (lists : List (List (List ℕ))) (fields : RecordFields) (coded : CodedRow) (why : BadRow) → decl ≡ d → record_fault decl fields ≡ Some why
    → IsFoundRecord d lists fields coded (record_is.Bad why)
found_bad d decl lists fields coded why is fault =
    ap (judged_record d lists) (result_bad d fields why (subst (λ (x : Decl). record_fault x fields ≡ Some why) is fault))

pub text_among : (d : Decl) (old new : LoadState) → TakesRecord old new → ReadRow d new → (k : ℕ) (text : List ℕ) → RecordHasText d new k text → HaveTextAmong d old new k text
text_among d old new takes read k text h =
    let is : records_between old new ≡ new.fields ∷ [] = one_between old old new (goes_nowhere old) takes ∙ ap (λ (xs : List RecordFields). xs ++ new.fields ∷ []) (none_between old) in
    record { fields = new.fields; one = subst (λ (xs : List RecordFields). Contains xs new.fields) (sym is) (Contains-push [] new.fields); row = read.row.fits; here = h }

pub among_before : (d : Decl) (start mid new : LoadState) → LoadGoesOn start mid → TakesRecord mid new → (k : ℕ) (text : List ℕ) → HaveTextAmong d start mid k text → HaveTextAmong d start new k text
among_before d start mid new goes takes k text h = record {
  fields = h.fields;
  one = subst (λ (xs : List RecordFields). Contains xs h.fields) (sym (one_between start mid new goes takes)) (Contains-append_left (records_between start mid) (new.fields ∷ []) h.fields h.one);
  row = h.row;
  here = h.here;
}

pub among_last : (d : Decl) (start mid new : LoadState) → LoadGoesOn start mid → TakesRecord mid new → (k : ℕ) (text : List ℕ) → HaveTextAmong d mid new k text → HaveTextAmong d start new k text
among_last d start mid new goes takes k text h =
    let is : records_between mid new ≡ new.fields ∷ [] = one_between mid mid new (goes_nowhere mid) takes ∙ ap (λ (xs : List RecordFields). xs ++ new.fields ∷ []) (none_between mid) in
    record {
      fields = h.fields;
      one = subst (λ (xs : List RecordFields). Contains xs h.fields) (sym (one_between start mid new goes takes))
          (Contains-append_right (records_between start mid) (new.fields ∷ []) h.fields (subst (λ (xs : List RecordFields). Contains xs h.fields) is h.one));
      row = h.row;
      here = h.here;
    }

pub text_next : (d : Decl) (old new : LoadState) → TakesRecord old new → ReadRow d new → (k : ℕ) (text : List ℕ) → RecordHasText d new k text → HaveTextNext d old k text
text_next d old new takes read k text h = record { fields = new.fields; rest = new.left; are = takes.next; row = read.row.fits; here = h }

-- ---- one record more in a batch

looked_row : (m : ℕ) (all front rest : List (Result Row BadRow)) (r : Result Row BadRow) (row : Row) → r ≡ Ok row → all ≡ front ++ records_looked_at m (r ∷ rest)
    → all ≡ (front ++ r ∷ []) ++ records_looked_at m rest
looked_row m all front rest r row is h =
    h ∙ ap (λ (x : Result Row BadRow). front ++ records_looked_at m (x ∷ rest)) is
    ∙ sym (append_assoc front (Ok row ∷ []) (records_looked_at m rest)) ∙ ap (λ (x : Result Row BadRow). (front ++ x ∷ []) ++ records_looked_at m rest) (sym is)

looked_bad : (m n : ℕ) (all front rest : List (Result Row BadRow)) (r : Result Row BadRow) (why : BadRow) → r ≡ Err why → m ≡ suc n → all ≡ front ++ records_looked_at m (r ∷ rest)
    → all ≡ (front ++ r ∷ []) ++ records_looked_at n rest
looked_bad m n all front rest r why is more h =
    h ∙ (λ i. front ++ records_looked_at (more i) (is i ∷ rest))
    ∙ sym (append_assoc front (Err why ∷ []) (records_looked_at n rest)) ∙ ap (λ (x : Result Row BadRow). (front ++ x ∷ []) ++ records_looked_at n rest) (sym is)

looked_last : (m : ℕ) (all front rest : List (Result Row BadRow)) (r : Result Row BadRow) (why : BadRow) → r ≡ Err why → m ≡ zero → all ≡ front ++ records_looked_at m (r ∷ rest)
    → all ≡ (front ++ r ∷ []) ++ []
looked_last m all front rest r why is none h =
    h ∙ (λ i. front ++ records_looked_at (none i) (is i ∷ rest)) ∙ ap (λ (x : Result Row BadRow). front ++ x ∷ []) (sym is) ∙ sym (append-nil (front ++ r ∷ []))

module _ (d : Decl) (lists : List (List (List ℕ))) (allowed : ℕ) (start mid new : LoadState) (before : BadRecords) (goes : LoadGoesOn start mid) (takes : TakesRecord mid new) where
  front : List (Result Row BadRow)
  front = final_records d lists (records_between start mid)

  whole_is : final_records d lists (records_between start new) ≡ final_records d lists (records_between start mid) ++ final_record d lists new.fields ∷ []
  whole_is = ap (final_records d lists) (one_between start mid new goes takes) ∙ map_push (final_record d lists) (records_between start mid) new.fields

  rest_is : final_records d lists mid.left ≡ final_record d lists new.fields ∷ final_records d lists new.left
  rest_is = ap (final_records d lists) takes.next

  rows_are : rows_among (final_records d lists (records_between start new))
      ≡ rows_among (final_records d lists (records_between start mid)) ++ cons_option (row_in (final_record d lists new.fields)) []
  rows_are = ap rows_among whole_is ∙ filter_map-append row_in (final_records d lists (records_between start mid)) (final_record d lists new.fields ∷ [])

  faults_are : rejections_from (start.number + 1) (final_records d lists (records_between start new))
      ≡ rejections_from (start.number + 1) (final_records d lists (records_between start mid)) ++ cons_option (rejection_in (new.number, final_record d lists new.fields)) []
  faults_are =
      let l = length-map (records_between start mid) (final_record d lists) in
      ap (rejections_from (start.number + 1)) whole_is
      ∙ rejections_more (start.number + 1) (final_records d lists (records_between start mid)) (final_record d lists new.fields)
      ∙ ap (λ n. rejections_from (start.number + 1) (final_records d lists (records_between start mid)) ++ cons_option (rejection_in (n, final_record d lists new.fields)) [])
      (let c = goes.count in let m = takes.count in omega (arith, l, c, m))

  looked_is : (after : BadRecords) (coded : List CodedRow) → TakesBatch d lists allowed start mid before after coded batch_is.Full
      → records_looked_at (allowed - before.count) (final_records d lists start.left)
      ≡ final_records d lists (records_between start mid) ++ records_looked_at (allowed - after.count) (final_record d lists new.fields ∷ final_records d lists new.left)
  looked_is after coded h =
      h.looked ∙ ap (λ (xs : List (Result Row BadRow)). final_records d lists (records_between start mid) ++ records_looked_at (allowed - after.count) xs) rest_is

  pub batch_row : (after : BadRecords) (coded : List CodedRow) (row : CodedRow) → IsFoundRecord d lists new.fields row record_is.Row
      → TakesBatch d lists allowed start mid before after coded batch_is.Full → TakesBatch d lists allowed start new before after (coded ++ row ∷ []) batch_is.Full
  batch_row after coded row found h = record {
    rows = λ none.
        map_push (row_for lists) coded row
        ∙ (λ i. h.rows none i ++ found.1.values none i ∷ [])
        ∙ ap (λ (r : Result Row BadRow). rows_among (final_records d lists (records_between start mid)) ++ cons_option (row_in r) []) (sym found.0)
        ∙ sym rows_are;
    names = All-push (λ (r : CodedRow). HaveNames d lists r.coords) coded row h.names found.1.names;
    faults = λ all tell. subst (λ (xs : List Rejection). Tell after (all ++ xs))
        (sym (faults_are ∙ ap (λ (r : Result Row BadRow). rejections_from (start.number + 1) (final_records d lists (records_between start mid)) ++ cons_option (rejection_in (new.number, r)) []) found.0
        ∙ append-nil (rejections_from (start.number + 1) (final_records d lists (records_between start mid)))))
        (h.faults all tell);
    looked = looked_row (allowed - after.count) (records_looked_at (allowed - before.count) (final_records d lists start.left)) (final_records d lists (records_between start mid))
        (final_records d lists new.left) (final_record d lists new.fields) (record_row d new.fields) found.0 (looked_is after coded h)
        ∙ ap (λ (xs : List (Result Row BadRow)). xs ++ records_looked_at (allowed - after.count) (final_records d lists new.left)) (sym whole_is);
  }

  bad_rows : (coded : List CodedRow) (why : BadRow) → final_record d lists new.fields ≡ Err why
      → (NumbersHaveNoNames d lists → map (row_for lists) coded ≡ rows_among (final_records d lists (records_between start mid)))
      → NumbersHaveNoNames d lists → map (row_for lists) coded ≡ rows_among (final_records d lists (records_between start new))
  bad_rows coded why found rows none =
      rows none ∙ sym (append-nil (rows_among (final_records d lists (records_between start mid))))
      ∙ ap (λ (r : Result Row BadRow). rows_among (final_records d lists (records_between start mid)) ++ cons_option (row_in r) []) (sym found)
      ∙ sym rows_are

  bad_faults : (bad after : BadRecords) (why : BadRow) → final_record d lists new.fields ≡ Err why
      → ((all : List Rejection) → Tell bad all → Tell after (all ++ record { number = new.number; why = why } ∷ []))
      → ((all : List Rejection) → Tell before all → Tell bad (all ++ rejections_from (start.number + 1) (final_records d lists (records_between start mid))))
      → (all : List Rejection) → Tell before all → Tell after (all ++ rejections_from (start.number + 1) (final_records d lists (records_between start new)))
  bad_faults bad after why found add faults all tell =
      let so_far = rejections_from (start.number + 1) (final_records d lists (records_between start mid)) in
      subst (λ (xs : List Rejection). Tell after xs)
      (append_assoc all so_far (record { number = new.number; why = why } ∷ [])
      ∙ ap (λ (xs : List Rejection). all ++ xs) (sym (faults_are ∙ ap (λ (r : Result Row BadRow). so_far ++ cons_option (rejection_in (new.number, r)) []) found)))
      (add (all ++ so_far) (faults all tell))

  pub batch_bad : (bad after : BadRecords) (coded : List CodedRow) (why : BadRow) → final_record d lists new.fields ≡ Err why
      → ((all : List Rejection) → Tell bad all → Tell after (all ++ record { number = new.number; why = why } ∷ [])) → after.count ≡ bad.count + 1 → after.count ≤ allowed
      → TakesBatch d lists allowed start mid before bad coded batch_is.Full → TakesBatch d lists allowed start new before after coded batch_is.Full
  batch_bad bad after coded why found add more few h = record {
    rows = bad_rows coded why found h.rows;
    names = h.names;
    faults = bad_faults bad after why found add h.faults;
    looked = looked_bad (allowed - bad.count) (allowed - after.count) (records_looked_at (allowed - before.count) (final_records d lists start.left)) (final_records d lists (records_between start mid))
        (final_records d lists new.left) (final_record d lists new.fields) why found (omega (arith, more, few)) (looked_is bad coded h)
        ∙ ap (λ (xs : List (Result Row BadRow)). xs ++ records_looked_at (allowed - after.count) (final_records d lists new.left)) (sym whole_is);
  }

  pub batch_last : (bad after : BadRecords) (coded : List CodedRow) (why : BadRow) → final_record d lists new.fields ≡ Err why
      → ((all : List Rejection) → Tell bad all → Tell after (all ++ record { number = new.number; why = why } ∷ [])) → after.count ≡ bad.count + 1 → allowed < after.count
      → TakesBatch d lists allowed start mid before bad coded batch_is.Full → TakesBatch d lists allowed start new before after coded batch_is.TooMany
  batch_last bad after coded why found add more many h = record {
    rows = bad_rows coded why found h.rows;
    names = h.names;
    faults = bad_faults bad after why found add h.faults;
    looked = looked_last (allowed - bad.count) (records_looked_at (allowed - before.count) (final_records d lists start.left)) (final_records d lists (records_between start mid))
        (final_records d lists new.left) (final_record d lists new.fields) why found (omega (arith, more, many)) (looked_is bad coded h)
        ∙ ap (λ (xs : List (Result Row BadRow)). xs ++ []) (sym whole_is);
  }

pub batch_over : (d : Decl) (lists : List (List (List ℕ))) (allowed : ℕ) (start mid new : LoadState) (before bad : BadRecords) (coded : List CodedRow) → IsOver mid new
    → TakesBatch d lists allowed start mid before bad coded batch_is.Full → TakesBatch d lists allowed start new before bad coded batch_is.End
batch_over d lists allowed start mid new before bad coded over h =
    let same : records_between start mid ≡ records_between start new = sym (same_between start mid new over) in
    record {
      rows = λ none. h.rows none ∙ ap (λ (xs : List RecordFields). rows_among (final_records d lists xs)) same;
      names = h.names;
      faults = λ all tell. subst (λ (xs : List RecordFields). Tell bad (all ++ rejections_from (start.number + 1) (final_records d lists xs))) same (h.faults all tell);
      looked = h.looked ∙ (λ i. final_records d lists (same i) ++ records_looked_at (allowed - bad.count) (final_records d lists (over.none i)));
    }

pub batch_none : (d : Decl) (lists : List (List (List ℕ))) (allowed : ℕ) (start : LoadState) (bad : BadRecords) → TakesBatch d lists allowed start start bad bad [] batch_is.Full
batch_none d lists allowed start bad = record {
  rows = λ none. ap (λ (xs : List RecordFields). rows_among (final_records d lists xs)) (sym (none_between start));
  names = All-nil (λ (r : CodedRow). HaveNames d lists r.coords);
  faults = λ all tell. subst (λ (xs : List Rejection). Tell bad xs) (sym (append-nil all) ∙ ap (λ (xs : List RecordFields). all ++ rejections_from (start.number + 1) (final_records d lists xs)) (sym (none_between start))) tell;
  looked = ap (λ (xs : List RecordFields). final_records d lists xs ++ records_looked_at (allowed - bad.count) (final_records d lists start.left)) (sym (none_between start));
}

-- ---- between two records

-- a load that began at `start` goes on in a batch that was `empty`
pub record IsLoadedFront {S : Type 0} (may_end : S → List (List (List (List ℕ))) → Type 0) (suits : S → ℕ → Decl → Type 0) (has_name : S → ℕ → ℕ → List ℕ → Type 0)
    (keeps : S → S → Type 0) (has_given : S → ℕ → ℕ → ℕ → Type 0)
    (place : ℕ) (d : Decl) (allowed : ℕ) (start : LoadState) (before : BadRecords) (empty : Batch) (old now : S) (load : LoadState) (bad : BadRecords) (batch : Batch) : Type 0 where
  pub goes : LoadGoesOn start load
  pub only : batch ≡ record empty { rows = batch.rows }
  pub most : length batch.rows ≤ BATCH_ROWS
  pub inside : All (HasCoords d) batch.rows
  pub numbers : All (HasNumbers (has_given now place) d) batch.rows
  pub few : bad.count ≤ allowed
  pub counted : bad.count ≤ load.number
  pub final : InTheEnd (may_end now) place (λ lists. TakesBatch d lists allowed start load before bad batch.rows batch_is.Full)
  pub grow : Grow may_end suits has_name keeps place d (HaveTextAmong d start load) old now

module _ {S : Type 0} (may_end : S → List (List (List (List ℕ))) → Type 0) (suits : S → ℕ → Decl → Type 0) (has_name : S → ℕ → ℕ → List ℕ → Type 0)
    (keeps : S → S → Type 0) (has_given : S → ℕ → ℕ → ℕ → Type 0) (on : CarriesOn keeps has_given)
    (place : ℕ) (d : Decl) (allowed : ℕ) (start : LoadState) (before : BadRecords) (empty : Batch) where
  pub load_begins : (now : S) (batch : Batch) → suits now place d → before.count ≤ allowed → before.count ≤ start.number → batch ≡ empty → empty.rows ≡ []
      → IsLoadedFront may_end suits has_name keeps has_given place d allowed start before empty now now start before batch
  load_begins now batch suit few counted is none =
      let rows : batch.rows ≡ [] = ap (λ (b : Batch). b.rows) is ∙ none in
      record {
        goes = goes_nowhere start;
        only = is ∙ (λ i. record empty { rows = (none ∙ sym rows) i });
        most = let l = ap length rows in omega (arith, l);
        inside = subst (All (HasCoords d)) (sym rows) (All-nil (HasCoords d));
        numbers = subst (All (HasNumbers (has_given now place) d)) (sym rows) (All-nil (HasNumbers (has_given now place) d));
        few = few;
        counted = counted;
        final = λ names h. subst (λ (rs : List CodedRow). TakesBatch d (lists_at names place) allowed start start before before rs batch_is.Full) (sym rows)
            (batch_none d (lists_at names place) allowed start before);
        grow = grow_none on suit;
      }

  pub grown_by_record : (old mid now : S) (load next : LoadState) → LoadGoesOn start load → TakesRecord load next
      → Grow may_end suits has_name keeps place d (HaveTextAmong d start load) old mid → Grow may_end suits has_name keeps place d (HaveTextAmong d load next) mid now
      → Grow may_end suits has_name keeps place d (HaveTextAmong d start next) old now
  grown_by_record old mid now load next goes takes first grow =
      grow_more on (grow_wider first (among_before d start load next goes takes)) grow (among_last d start load next goes takes)

  pub grown_so_far : (old now : S) (load : LoadState) (bad : BadRecords) (batch : Batch)
      → IsLoadedFront may_end suits has_name keeps has_given place d allowed start before empty old now load bad batch
      → Grow may_end suits has_name keeps place d (HaveTextLookedAt (may_end now) place d (allowed - before.count) start) old now
  grown_so_far old now load bad batch front =
      grow_wider front.grow (among_looked_at (may_end now) place d allowed start load before bad batch.rows batch_is.Full front.goes front.final)

  pub grown_in_all : (old mid now : S) (load : LoadState) (bad : BadRecords) (batch : Batch)
      → IsLoadedFront may_end suits has_name keeps has_given place d allowed start before empty old mid load bad batch
      → Grow may_end suits has_name keeps place d (HaveTextNext d load) mid now
      → Grow may_end suits has_name keeps place d (HaveTextLookedAt (may_end now) place d (allowed - before.count) start) old now
  grown_in_all old mid now load bad batch front grow =
      let final : InTheEnd (may_end now) place (λ lists. TakesBatch d lists allowed start load before bad batch.rows batch_is.Full) =
      λ names h. front.final names (grow.later names h) in
      grow_more on
      (grow_wider front.grow (among_looked_at (may_end now) place d allowed start load before bad batch.rows batch_is.Full front.goes final))
      grow (next_looked_at (may_end now) place d allowed start load before bad batch.rows front.goes final)

  pub row_loaded : (old mid now : S) (load next : LoadState) (bad : BadRecords) (batch after : Batch) (row : CodedRow)
      → IsLoadedFront may_end suits has_name keeps has_given place d allowed start before empty old mid load bad batch → TakesRecord load next
      → InTheEnd (may_end now) place (λ lists. IsFoundRecord d lists next.fields row record_is.Row)
      → after ≡ record batch { rows = batch.rows ++ row ∷ [] } → (All (HasCoords d) batch.rows → All (HasCoords d) after.rows)
      → (All (HasNumbers (has_given mid place) d) batch.rows → All (HasNumbers (has_given now place) d) after.rows) → length batch.rows < BATCH_ROWS
      → Grow may_end suits has_name keeps place d (HaveTextAmong d load next) mid now
      → IsLoadedFront may_end suits has_name keeps has_given place d allowed start before empty old now next bad after
  row_loaded old mid now load next bad batch after row front takes found is inside numbers room grow =
      let rows : after.rows ≡ batch.rows ++ row ∷ [] = ap (λ (b : Batch). b.rows) is in
      record {
        goes = goes_one_more start load next front.goes takes;
        only = is ∙ (λ i. record (front.only i) { rows = batch.rows ++ row ∷ [] }) ∙ (λ i. record empty { rows = sym rows i });
        most = let l = length_push batch.rows row in let e = ap length rows in omega (arith, l, e, room);
        inside = inside front.inside;
        numbers = numbers front.numbers;
        few = front.few;
        counted = let c = front.counted in let m = takes.count in omega (arith, c, m);
        final = λ names h. subst (λ (rs : List CodedRow). TakesBatch d (lists_at names place) allowed start next before bad rs batch_is.Full) (sym rows)
            (batch_row d (lists_at names place) allowed start load next before front.goes takes bad batch.rows row (found names h) (front.final names (grow.later names h)));
        grow = grown_by_record old mid now load next front.goes takes front.grow grow;
      }

  pub bad_loaded : (old mid now : S) (load next : LoadState) (bad more : BadRecords) (batch after : Batch) (row : CodedRow) (why : BadRow)
      → IsLoadedFront may_end suits has_name keeps has_given place d allowed start before empty old mid load bad batch → TakesRecord load next
      → InTheEnd (may_end now) place (λ lists. IsFoundRecord d lists next.fields row (record_is.Bad why))
      → after ≡ record batch { rows = batch.rows } → (All (HasNumbers (has_given mid place) d) batch.rows → All (HasNumbers (has_given now place) d) after.rows)
      → ((all : List Rejection) → Tell bad all → Tell more (all ++ record { number = next.number; why = why } ∷ [])) → more.count ≡ bad.count + 1 → more.count ≤ allowed
      → Grow may_end suits has_name keeps place d (HaveTextAmong d load next) mid now
      → IsLoadedFront may_end suits has_name keeps has_given place d allowed start before empty old now next more after
  bad_loaded old mid now load next bad more batch after row why front takes found is numbers add count few grow =
      let rows : after.rows ≡ batch.rows = ap (λ (b : Batch). b.rows) is in
      record {
        goes = goes_one_more start load next front.goes takes;
        only = is ∙ front.only ∙ (λ i. record empty { rows = sym rows i });
        most = let e = ap length rows in let m = front.most in omega (arith, e, m);
        inside = subst (All (HasCoords d)) (sym rows) front.inside;
        numbers = numbers front.numbers;
        few = few;
        counted = let c = front.counted in let m = takes.count in omega (arith, c, m, count);
        final = λ names h. subst (λ (rs : List CodedRow). TakesBatch d (lists_at names place) allowed start next before more rs batch_is.Full) (sym rows)
            (batch_bad d (lists_at names place) allowed start load next before front.goes takes bad more batch.rows why (found names h) add count few (front.final names (grow.later names h)));
        grow = grown_by_record old mid now load next front.goes takes front.grow grow;
      }

  pub last_loaded : (old mid now : S) (load next : LoadState) (bad more : BadRecords) (batch after : Batch) (row : CodedRow) (why : BadRow)
      → IsLoadedFront may_end suits has_name keeps has_given place d allowed start before empty old mid load bad batch → TakesRecord load next
      → InTheEnd (may_end now) place (λ lists. IsFoundRecord d lists next.fields row (record_is.Bad why))
      → after ≡ record batch { rows = batch.rows }
      → ((all : List Rejection) → Tell bad all → Tell more (all ++ record { number = next.number; why = why } ∷ [])) → more.count ≡ bad.count + 1 → allowed < more.count
      → Grow may_end suits has_name keeps place d (HaveTextAmong d load next) mid now
      → InTheEnd (may_end now) place (λ lists. TakesBatch d lists allowed start next before more after.rows batch_is.TooMany)
  last_loaded old mid now load next bad more batch after row why front takes found is add count many grow names h =
      let rows : after.rows ≡ batch.rows = ap (λ (b : Batch). b.rows) is in
      subst (λ (rs : List CodedRow). TakesBatch d (lists_at names place) allowed start next before more rs batch_is.TooMany) (sym rows)
      (batch_last d (lists_at names place) allowed start load next before front.goes takes bad more batch.rows why (found names h) add count many (front.final names (grow.later names h)))
