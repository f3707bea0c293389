use Rattle.std.proofs.Common.{◌-◌, length, map, take, drop, get_or, refl, sym, subst, ◌∙◌, arith}
use Rattle.std.proofs.lemmas.List.{length-map, nil_from_length}
use Rattle.cube_values.specs.declared.entry.Entry.TheVariants.{Run}
use Rattle.cube_values.specs.EpochsVector.{IsVector, rows_after}
use Rattle.epochs_vector.proofs.VisibleRows.{headed, lead_up}
use Rattle.brick_store.specs.Whole.{row_with_coords}
use Rattle.brick_store.proofs.RoundParts.{IsCopied, copied_none, copied_on, copied_all, leads_one, leads_rest}
use Rattle.brick_store.proofs.copies.copy_entries.Goals as goal

pub copy_chosen-requires-clause-leads : goal.copy_chosen-requires-clause-leads
copy_chosen-requires-clause-leads c =
    let l = c.entries in
    let rows = map (row_with_coords c.args.starts.now) c.args.columns.now.rows in
    let left = l.left.now in
    let entry = get_or left 0 (Run 0 0) in
    let rest = take (length left - 1) (drop 1 left) in
    let k = subst (λ x. IsCopied c.args.from c.args.to rows c.args.entries.now l.first x l.epochs.entries l.batch.rows) (headed left (Run 0 0) entry c.in-len1-up.len_at_least refl) l.invariant.made in
    leads_one entry rest l.first (length rows) k.leads

pub copy_chosen-requires-clause-within : goal.copy_chosen-requires-clause-within
copy_chosen-requires-clause-within c =
    let l = c.entries in
    let rows = map (row_with_coords c.args.starts.now) c.args.columns.now.rows in
    let left = l.left.now in
    let entry = get_or left 0 (Run 0 0) in
    let rest = take (length left - 1) (drop 1 left) in
    let k = subst (λ x. IsCopied c.args.from c.args.to rows c.args.entries.now l.first x l.epochs.entries l.batch.rows) (headed left (Run 0 0) entry c.in-len1-up.len_at_least refl) l.invariant.made in
    omega (arith, lead_up (rows_after entry) rest (length rows) (leads_rest entry rest l.first (length rows) k.leads), length-map c.args.columns.now.rows (row_with_coords c.args.starts.now))

pub entries-init : goal.entries-init
entries-init c =
    let rows = map (row_with_coords c.args.starts.now) c.args.columns.now.rows in
    let vector = subst (λ n. IsVector c.args.entries.now n) (sym (length-map c.args.columns.now.rows (row_with_coords c.args.starts.now))) c.requires.vector in
    record {
      made = copied_none c.args.from c.args.to rows c.args.entries.now c.args.epochs.now.entries c.args.batch.now.rows vector c.requires.none c.requires.empty;
      dims = c.requires.dims;
      width = c.requires.width;
    }

pub entries-preserved : goal.entries-preserved
entries-preserved c =
    let l = c.entries in
    let rows = map (row_with_coords c.args.starts.now) c.args.columns.now.rows in
    let left = l.left.now in
    let entry = get_or left 0 (Run 0 0) in
    let rest = take (length left - 1) (drop 1 left) in
    let k = subst (λ x. IsCopied c.args.from c.args.to rows c.args.entries.now l.first x l.epochs.entries l.batch.rows) (headed left (Run 0 0) entry c.in-len1-up.len_at_least refl) l.invariant.made in
    record {
      made = subst (λ n. IsCopied c.args.from c.args.to rows c.args.entries.now n rest c.copy_chosen.new.epochs.entries c.copy_chosen.new.batch.rows) (sym c.rows_after-first.ensures) (copied_on c.args.from c.args.to rows c.args.entries.now l.first entry rest l.epochs.entries c.copy_chosen.new.epochs.entries l.batch.rows c.copy_chosen.new.batch.rows k c.in_ok-copy_chosen.ensures.entries c.in_ok-copy_chosen.ensures.rows c.in_ok-copy_chosen.ensures.vector c.in_ok-copy_chosen.ensures.few);
      dims = c.copy_chosen.ensures.dims ∙ l.invariant.dims;
      width = c.copy_chosen.ensures.width ∙ l.invariant.width;
    }

pub returns-clause-entries : goal.returns-clause-entries
returns-clause-entries c =
    let l = c.entries in
    let rows = map (row_with_coords c.args.starts.now) c.args.columns.now.rows in
    let k = subst (λ x. IsCopied c.args.from c.args.to rows c.args.entries.now l.first x l.epochs.entries l.batch.rows) (nil_from_length l.left.now (omega arith)) l.invariant.made in
    (copied_all c.args.from c.args.to rows c.args.entries.now l.first l.epochs.entries l.batch.rows k).0

pub returns-clause-rows : goal.returns-clause-rows
returns-clause-rows c =
    let l = c.entries in
    let rows = map (row_with_coords c.args.starts.now) c.args.columns.now.rows in
    let k = subst (λ x. IsCopied c.args.from c.args.to rows c.args.entries.now l.first x l.epochs.entries l.batch.rows) (nil_from_length l.left.now (omega arith)) l.invariant.made in
    (copied_all c.args.from c.args.to rows c.args.entries.now l.first l.epochs.entries l.batch.rows k).1
