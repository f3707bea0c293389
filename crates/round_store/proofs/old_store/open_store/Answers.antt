use Rattle.std.proofs.lemmas.Result.{err_from_is_err_and}
use Rattle.round_store.proofs.OpenLaws.{fails_to_open, opens_files}
use Rattle.round_store.proofs.old_store.open_store.Goals as goal

pub returns-in_err-first-clause-opens : goal.returns-in_err-first-clause-opens
returns-in_err-first-clause-opens g c =
    let p = err_from_is_err_and c.from_residual.result c.from_residual.ensures.1 in
    rw (p.1, p.2) (fails_to_open (g.D.Disk.view c.args.disk.now) (g.D.Disk.view c.args.other.now) _ c.in_err-first.ensures.other)

pub returns-in_err-second-clause-opens : goal.returns-in_err-second-clause-opens
returns-in_err-second-clause-opens g c =
    let p = err_from_is_err_and c.from_residual-in_err-second.result c.from_residual-in_err-second.ensures.1 in
    rw (p.1, p.2) (fails_to_open (g.D.Disk.view c.args.disk.now) (g.D.Disk.view c.args.other.now) _ c.in_err-second.ensures.other)

pub returns-clause-opens : goal.returns-clause-opens
returns-clause-opens g c = record {
  first_file = c.in_ok-first.first.items;
  second_file = c.in_ok-second.second.items;
  first_told = c.in_ok-first.ensures.bytes;
  second_told = c.in_ok-second.ensures.bytes;
  holds = opens_files c.store_of_files.result c.in_ok-first.first.items c.in_ok-second.second.items
      (rw (c.as_slice.ensures.value, c.as_slice-2.ensures.value) at c.store_of_files.ensures.files)
      (rw (c.as_slice.ensures.value, c.as_slice-2.ensures.value) at c.store_of_files.ensures.only)
      (rw (c.as_slice.ensures.value, c.as_slice-2.ensures.value) at c.store_of_files.ensures.exact);
}
