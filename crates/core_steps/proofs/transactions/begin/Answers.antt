use Rattle.std.proofs.Common.{[], ◌∷◌}
use Rattle.std.specs.Option.{option_map_or}
use Rattle.core_program.specs.ClientCalls.{desk_entry}
use Rattle.core_cells.specs.declared.desk.DeskAnswer.TheVariants as said
use Rattle.core_cells.specs.declared.desk.DeskCall.TheVariants as asked
use Rattle.core_steps.proofs.transactions.begin.Goals as goal

pub returns-clause-more : goal.returns-clause-more
returns-clause-more g c = record {
  more = desk_entry (g.P.CellCaller.number c.args.caller.now) (asked.OpenWrite c.args.session 0)
      (option_map_or said.Opened c.open_writer.result said.NoMemory) ∷ [];
  whole = c.open_writer.ensures.own;
}
