-- Batches of a load, one after the other.
use Rattle.std.proofs.Common.{◌≡◌, ◌∙◌, ℕ, ◌+◌, ◌-◌, suc, List, [], ◌∷◌, ◌++◌, length, take, Option, Some, None, Result, refl, sym, ap, subst, arith, append_assoc, length-append, take_at}
use Rattle.std.specs.List.{cons_option}
use Rattle.std.proofs.lemmas.List.{length-map, map-append}
use Rattle.std.proofs.lemmas.List.Elements.{All-append, filter_map-append}
use Rattle.cube_values.specs.declared.row.CodedRow.{CodedRow}
use Rattle.cube_values.specs.declared.row.Row.{Row}
use Rattle.cube_language.specs.declared.bad_row.BadRow.{BadRow}
use Rattle.cube_language.specs.declared.decl.Decl.{Decl}
use Rattle.cube_journal.specs.declared.reply.Rejection.{Rejection}
use Rattle.cube_run.specs.LoadedRows.{rejection_in, row_in, rows_among}
use Rattle.agg_fold.specs.Coded.{row_for}
use Rattle.csv_load.specs.FileRecords.{RecordFields}
use Rattle.csv_load.specs.Loads.{LoadState}
use Rattle.row_encoding.specs.declared.load.BadRecords.{BadRecords}
use Rattle.row_encoding.specs.declared.load.BatchEnd.{BatchEnd}
use Rattle.row_encoding.specs.declared.load.BatchEnd.TheVariants as batch_is
use Rattle.row_encoding.specs.CodedValues.{HaveNames}
use Rattle.row_encoding.specs.CodedLoads.{LoadGoesOn, TakesBatch, Tell, final_record, final_records, looked_at_later, records_between, rejections_from}

-- ---- records

pub both_between : (start mid new : LoadState) → LoadGoesOn start mid → LoadGoesOn mid new
    → records_between start new ≡ records_between start mid ++ records_between mid new
both_between start mid new first second =
    let front = records_between start mid in
    let back = records_between mid new in
    let whole : start.left ≡ (front ++ back) ++ new.left =
    first.left ∙ ap (λ (xs : List RecordFields). front ++ xs) second.left ∙ sym (append_assoc front back new.left)
    in
    let l = length-append front back in
    let a = first.count in
    let b = second.count in
    ap (take (new.number - start.number)) whole
    ∙ take_at (front ++ back) new.left (new.number - start.number) (omega (arith, l, a, b))

pub goes_both : (start mid new : LoadState) → LoadGoesOn start mid → LoadGoesOn mid new → LoadGoesOn start new
goes_both start mid new first second =
    let front = records_between start mid in
    let back = records_between mid new in
    let both = both_between start mid new first second in
    record {
      cube = second.cube ∙ first.cube;
      count =
          let l = length-append front back in
          let e = ap (λ (xs : List RecordFields). length xs) both in
          let a = first.count in
          let b = second.count in
          omega (arith, l, e, a, b);
      left =
          first.left ∙ ap (λ (xs : List RecordFields). front ++ xs) second.left ∙ sym (append_assoc front back new.left)
          ∙ ap (λ (xs : List RecordFields). xs ++ new.left) (sym both);
    }

-- ---- bad records

cons_append : {X : Type 0} (o : Option X) (xs ys : List X) → cons_option o (xs ++ ys) ≡ cons_option o xs ++ ys
cons_append None xs ys = refl
cons_append (Some x) xs ys = refl

pub rejections_both : (number : ℕ) (front back : List (Result Row BadRow))
    → rejections_from number (front ++ back)
    ≡ rejections_from number front ++ rejections_from (number + length front) back
rejections_both number [] back = ap (λ (n : ℕ). rejections_from n back) (omega arith)
rejections_both number (r ∷ front) back =
    ap (cons_option (rejection_in (number, r)))
    (rejections_both (number + 1) front back
    ∙ ap (λ (n : ℕ). rejections_from (number + 1) front ++ rejections_from n back) (omega arith))
    ∙ cons_append (rejection_in (number, r)) (rejections_from (number + 1) front)
    (rejections_from (number + suc (length front)) back)

-- ---- one batch after the other

module _ (d : Decl) (lists : List (List (List ℕ))) (allowed : ℕ) (start mid new : LoadState) (first : LoadGoesOn start mid)
    (second : LoadGoesOn mid new) where
  whole_is : final_records d lists (records_between start new)
      ≡ final_records d lists (records_between start mid) ++ final_records d lists (records_between mid new)
  whole_is =
      ap (final_records d lists) (both_between start mid new first second)
      ∙ map-append (final_record d lists) (records_between start mid) (records_between mid new)

  faults_are : rejections_from (start.number + 1) (final_records d lists (records_between start new))
      ≡ rejections_from (start.number + 1) (final_records d lists (records_between start mid))
      ++ rejections_from (mid.number + 1) (final_records d lists (records_between mid new))
  faults_are =
      let l = length-map (records_between start mid) (final_record d lists) in
      let c = first.count in
      ap (rejections_from (start.number + 1)) whole_is
      ∙ rejections_both (start.number + 1) (final_records d lists (records_between start mid))
      (final_records d lists (records_between mid new))
      ∙ ap (λ (n : ℕ). rejections_from (start.number + 1) (final_records d lists (records_between start mid))
      ++ rejections_from n (final_records d lists (records_between mid new))) (omega (arith, l, c))

  pub batches_join : (before middle after : BadRecords) (rows more : List CodedRow) (ended : BatchEnd)
      → TakesBatch d lists allowed start mid before middle rows batch_is.Full
      → TakesBatch d lists allowed mid new middle after more ended
      → TakesBatch d lists allowed start new before after (rows ++ more) ended
  batches_join before middle after rows more ended h k =
      let front = final_records d lists (records_between start mid) in
      let back = final_records d lists (records_between mid new) in
      let later = looked_at_later (allowed - after.count) (final_records d lists new.left) ended in
      let bad_front = rejections_from (start.number + 1) front in
      record {
        rows = λ none.
            map-append (row_for lists) rows more ∙ (λ i. h.rows none i ++ k.rows none i)
            ∙ sym (filter_map-append row_in front back) ∙ ap rows_among (sym whole_is);
        names = All-append (λ (r : CodedRow). HaveNames d lists r.coords) rows more h.names k.names;
        faults = λ all tell.
            subst (λ (xs : List Rejection). Tell after xs)
            (append_assoc all bad_front (rejections_from (mid.number + 1) back)
            ∙ ap (λ (xs : List Rejection). all ++ xs) (sym faults_are))
            (k.faults (all ++ bad_front) (h.faults all tell));
        looked =
            h.looked ∙ ap (λ (xs : List (Result Row BadRow)). front ++ xs) k.looked
            ∙ sym (append_assoc front back later)
            ∙ ap (λ (xs : List (Result Row BadRow)). xs ++ later) (sym whole_is);
      }
