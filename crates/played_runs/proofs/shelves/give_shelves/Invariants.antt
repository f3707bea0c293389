use Rattle.std.proofs.Common.{◌≡◌, ◌+◌, ◌≤◌, ◌++◌, length, map}
use Rattle.std.specs.List.{AllByRecursion}
use Rattle.std.specs.Prelude.{vec_capacity}
use Rattle.core_scripts.specs.GivenScripts.{AreReadyWorks}
use Rattle.core_scripts.specs.ScriptWorks.{script_in}
use Rattle.played_runs.specs.ReadySessions.{HasRounds, IsReadyScript, script_ready, shelf_of}
use Rattle.played_runs.proofs.shelves.give_shelves.Given as goal

abbrev pub invariant-sessions : goal.invariant-sessions
invariant-sessions g l = record {
  left : l.number + length l.left.items ≡ l.size.sessions;
  scripts : AllByRecursion IsReadyScript l.left.items;
  shelves : l.size.sessions ≤ l.number + length l.rest.items;
  long : length l.works.items ≡ l.number;
  room : l.size.sessions ≤ vec_capacity l.works;
  capacity : vec_capacity l.rest ≡ vec_capacity l.fn.shelves;
  ready : AreReadyWorks l.size 1 l.works.items;
  rounds : AllByRecursion (HasRounds l.round_every) l.works.items;
  same : map script_in l.works.items ++ map script_ready l.left.items ≡ map script_ready l.fn.scripts.items;
  given : map shelf_of l.works.items ++ l.rest.items ≡ l.fn.shelves.items;
}
