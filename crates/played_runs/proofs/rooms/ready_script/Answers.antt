use Rattle.played_runs.proofs.SplitScripts.{both-said}
use Rattle.script_sentences.specs.Sentences.{sentence_of}
use Rattle.played_runs.proofs.rooms.ready_script.Goals as goal

pub returns-clause-same : goal.returns-clause-same
returns-clause-same c =
    both-said sentence_of _ c.args.script.items c.split_off.new.self.items c.in_ok-closing.closing.items
    c.in_ok-closing.ensures.items c.in_ok-closing.ensures.tail
