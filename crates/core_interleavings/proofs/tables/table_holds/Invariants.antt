use Rattle.core_interleavings.specs.Seats.{IsSeatOf}
use Rattle.core_interleavings.proofs.tables.table_holds.Given as goal

abbrev pub invariant-lines : goal.invariant-lines
invariant-lines g l = record {
  first : IsSeatOf l.board l.seats.first;
  second : IsSeatOf l.board l.seats.second;
  third : IsSeatOf l.board l.seats.third;
}
