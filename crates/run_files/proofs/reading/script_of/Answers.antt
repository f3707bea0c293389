use Rattle.std.proofs.Common.{refl, sym, subst}
use Rattle.sql_words.specs.Texts.{AreTextsAt}
use Rattle.cube_language.specs.Pieces.{IsScript}
use Rattle.run_files.proofs.reading.script_of.Goals as goal

pub returns-in-Ok : goal.returns-in-Ok
returns-in-Ok g = record {
  bytes_are = refl;
  statements = subst (λ text. IsScript text g.in-Ok.pieces) g.as_slice.ensures.value g.in-Ok.ensures.found;
  texts = subst (λ text. AreTextsAt text g.in-Ok.pieces) g.as_slice.ensures.value g.in-Ok.ensures.texts;
}
