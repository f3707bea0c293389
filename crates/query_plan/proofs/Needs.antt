-- Statements that are bound need a cube.
use Rattle.std.proofs.Common.{refl}
use Rattle.std.specs.Prelude.{IsSome}
use Rattle.cube_language.specs.declared.statement.Statement.{Statement}
use Rattle.cube_language.specs.declared.statement.Statement.TheVariants.{Select, Insert, Load, Delete, Begin, Commit, Rollback, Flush, Purge, ShowEpochs, CreateCube, Watch, ShowWatch}
use Rattle.cube_run.specs.RunRecords.{cube_needed}
use Rattle.query_plan.specs.Bindings.{AsksRows, DeletesRows, PutsRows}

pub asks_need : (s : Statement) → AsksRows s → IsSome (cube_needed s)
asks_need (Select items cube conds group having order limit) is = refl
asks_need (Insert cube rows) is = absurd is
asks_need (Load cube path reject) is = absurd is
asks_need (Delete cube conds) is = absurd is
asks_need Begin is = absurd is
asks_need Commit is = absurd is
asks_need Rollback is = absurd is
asks_need Flush is = absurd is
asks_need Purge is = absurd is
asks_need ShowEpochs is = absurd is
asks_need (CreateCube decl) is = absurd is
asks_need (Watch items cube conds group) is = refl
asks_need ShowWatch is = absurd is

pub deletes_need : (s : Statement) → DeletesRows s → IsSome (cube_needed s)
deletes_need (Select items cube conds group having order limit) is = absurd is
deletes_need (Insert cube rows) is = absurd is
deletes_need (Load cube path reject) is = absurd is
deletes_need (Delete cube conds) is = refl
deletes_need Begin is = absurd is
deletes_need Commit is = absurd is
deletes_need Rollback is = absurd is
deletes_need Flush is = absurd is
deletes_need Purge is = absurd is
deletes_need ShowEpochs is = absurd is
deletes_need (CreateCube decl) is = absurd is
deletes_need (Watch items cube conds group) is = absurd is
deletes_need ShowWatch is = absurd is

pub puts_need : (s : Statement) → PutsRows s → IsSome (cube_needed s)
puts_need (Select items cube conds group having order limit) is = absurd is
puts_need (Insert cube rows) is = refl
puts_need (Load cube path reject) is = refl
puts_need (Delete cube conds) is = absurd is
puts_need Begin is = absurd is
puts_need Commit is = absurd is
puts_need Rollback is = absurd is
puts_need Flush is = absurd is
puts_need Purge is = absurd is
puts_need ShowEpochs is = absurd is
puts_need (CreateCube decl) is = absurd is
puts_need (Watch items cube conds group) is = absurd is
puts_need ShowWatch is = absurd is
