use Rattle.std.proofs.Common.{All}
use Rattle.sql_words.specs.Texts.{IsTextAt}
use Rattle.run_inputs.proofs.SaidTexts.{count-if-ok}
use Rattle.run_inputs.proofs.parsing.script_said.Goals as goal

pub pieces_said-requires-clause-texts : goal.pieces_said-requires-clause-texts
pieces_said-requires-clause-texts g c κs within = coe 1 0 (i. All (IsTextAt (c.as_slice.ensures.value i)) (c.as_slice-2.ensures i)) c.requires.texts

pub returns-clause-count : goal.returns-clause-count
returns-clause-count g c =
    count-if-ok c.as_slice.result.now c.as_slice-2.result.now c.args.script.now.pieces c.pieces_said.result
    c.as_slice-2.ensures c.pieces_said.ensures
