use Rattle.std.proofs.Common.{[], ◌∷◌, refl}
use Rattle.core_program.specs.ClientCalls.{desk_entry}
use Rattle.core_cells.specs.declared.desk.DeskAnswer.TheVariants as said
use Rattle.core_cells.specs.declared.desk.DeskCall.TheVariants as asked
use Rattle.core_steps.specs.Totals.{HasReadTotals}
use Rattle.core_steps.proofs.queries.read_totals.Goals as goal

pub totals_seen-requires-clause-holds : goal.totals_seen-requires-clause-holds
totals_seen-requires-clause-holds g c =
    let after = c.open_reader.new.caller in
    c.snapshot_holders_are_ready.ensures.reader (g.P.CellCaller.opening after) (g.P.CellCaller.number after)
    c.args.session (g.P.CellCaller.own after) c.in_ok-reader.reader c.in_ok-reader.ensures.opened

pub close_reader-requires-clause-holds : goal.close_reader-requires-clause-holds
close_reader-requires-clause-holds g c = (
  c.in_ok-reader.reader,
  c.in_ok-totals.ensures.same.reader c.in_ok-reader.reader c.in_ok-reader.ensures.opened,
)

pub returns-clause-found : goal.returns-clause-found
returns-clause-found g c =
    let number = g.P.CellCaller.number in
    let own = g.P.CellCaller.own in
    let mid = c.totals_seen.new.caller in
    let did = c.close_reader.ensures in
    coe 1 0
    (i. HasReadTotals (did.opening i) (did.number i) c.args.session c.args.low c.args.high
    (own c.close_reader.new.caller)
    (record { epoch = c.in_ok-reader.reader.epoch; totals = c.in_ok-totals.totals }))
    (record {
      reader = c.in_ok-reader.reader;
      epoch = refl;
      own = own mid;
      more = record {
        more = desk_entry (number mid) (asked.CloseRead c.args.session 0) said.Done ∷ [];
        whole = did.own;
      };
      knows = c.in_ok-totals.ensures.found;
    })
