use Rattle.std.proofs.Common.{◌≡◌, ◌+◌, ◌++◌, length, map}
use Rattle.std.specs.List.{AllByRecursion}
use Rattle.script_sentences.specs.GivenTexts.{MayBeSaid}
use Rattle.played_runs.specs.ReadySessions.{IsReadyScript, script_ready, sentences_of}
use Rattle.played_runs.proofs.rooms.ready_scripts.Given as goal

abbrev pub invariant-scripts : goal.invariant-scripts
invariant-scripts l = record {
  left : l._done + length l.left.items ≡ l.count;
  said : AllByRecursion MayBeSaid l.left.items;
  ready : AllByRecursion IsReadyScript l.ready.items;
  same : map script_ready l.ready.items ++ map sentences_of l.left.items ≡ map sentences_of l.fn.scripts.items;
}
