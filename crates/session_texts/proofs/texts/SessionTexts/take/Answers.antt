use Rattle.std.proofs.Common.{rules, ◌∙◌, sym}
use Rattle.session_texts.proofs.KeptTexts.{kept_told}
use Rattle.session_texts.proofs.texts.SessionTexts.take.Goals as goal

pub returns-in-Some-clause-told : goal.returns-in-Some-clause-told
returns-in-Some-clause-told c = λ own told.
    kept_told own c.args.self.now.cubes c.args.place c.args.dims.now c.in-Some.cube told.texts
    (sym c.take_kept-kept.ensures.kept ∙ c.in-Some.ensures.is) (search rules)
