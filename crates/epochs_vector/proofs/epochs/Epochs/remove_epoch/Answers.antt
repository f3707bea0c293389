use Rattle.std.proofs.Common.{◌≡◌, List, length, true, take, drop, arith, ap, sym, ◌∙◌}
use Rattle.std.proofs.lemmas.List.{length-replicate, take_at}
use Rattle.cube_values.specs.declared.entry.Entry.{Entry}
use Rattle.cube_values.specs.BitRows.{set_bits}
use Rattle.cube_values.specs.EpochsVector.{rows_of}
use Rattle.epochs_vector.specs.Entries.{Vector}
use Rattle.epochs_vector.specs.Without.{staying_bits, entries_without}
use Rattle.epochs_vector.proofs.Ends.{vector_rows}
use Rattle.epochs_vector.proofs.WhatStays.{vector_without}
use Rattle.epochs_vector.proofs.epochs.Epochs.remove_epoch.Goals as goal

pub take_out-left-requires-clause-vector : goal.take_out-left-requires-clause-vector
take_out-left-requires-clause-vector c =
    let e : length c.args.keep.now.bits ≡ c.self.inside.rows = ap length c.requires ∙ length-replicate (rows_of c.args.self.now.entries) true ∙ ap (λ (v : Vector). rows_of v.entries) (sym c.self.view_is) ∙ vector_rows c.self.inside.entries.items c.self.inside.rows c.self.invariant in
    rw (e, c.as_mut_slice.ensures.value) c.self.invariant

pub invariant_of-self : goal.invariant_of-self
invariant_of-self c =
    let old = c.self.inside.entries in
    let new = c.take_out-left.new.entries in
    let e : length new ≡ old.len = omega arith in
    let items = c.truncate.ensures.items ∙ ap (take c.take_out-left.result.entries) (take_at new (drop (length new) old.items) old.len e) ∙ c.take_out-left.ensures.front ∙ ap (entries_without c.args.epoch) c.as_mut_slice.ensures.value in
    let rows = c.take_out-left.ensures.rows ∙ ap (λ (l : List Entry). set_bits (staying_bits c.args.epoch l)) c.as_mut_slice.ensures.value in
    rw (items, rows) (vector_without c.args.epoch old.items c.self.inside.rows c.self.invariant)

pub returns-clause-rows : goal.returns-clause-rows
returns-clause-rows c =
    let old = c.self.inside.entries in
    let new = c.take_out-left.new.entries in
    let e : length new ≡ old.len = omega arith in
    let items = c.truncate.ensures.items ∙ ap (take c.take_out-left.result.entries) (take_at new (drop (length new) old.items) old.len e) ∙ c.take_out-left.ensures.front ∙ ap (entries_without c.args.epoch) c.as_mut_slice.ensures.value in
    let keep = c.take_out-left.ensures.keep ∙ ap (staying_bits c.args.epoch) c.as_mut_slice.ensures.value in
    rw (items, keep) (vector_rows (entries_without c.args.epoch old.items) (set_bits (staying_bits c.args.epoch old.items)) (vector_without c.args.epoch old.items c.self.inside.rows c.self.invariant))
