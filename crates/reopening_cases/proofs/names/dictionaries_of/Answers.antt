use Rattle.std.proofs.Common.{◌≤◌, List, length, sym, ap, subst, ◌∙◌}
use Rattle.sha2.specs.Sha256.{sha256}
use Rattle.cube_language.specs.declared.decl.TheConstants.{MOST_CUBES}
use Rattle.cube_language.specs.declared.decl.Decl.{Decl}
use Rattle.store_reading.specs.declared.pair.OpenedPair.{OpenedPair}
use Rattle.kept_data.specs.KeptNames.{HaveKeptNames}
use Rattle.reopening_cases.proofs.names.dictionaries_of.Goals as goal

pub kept_dictionaries-requires : goal.kept_dictionaries-requires
kept_dictionaries-requires c =
    let law = c.kept_data_are_sound.ensures in
    let kept = c.in-Ok.opened.kept in
    let sound = law.sound kept (law.stands sha256 _ kept _ c.in-Ok.ensures.found.stands) in
    let cubes-are = c.as_slice.ensures ∙ ap (λ (o : OpenedPair). o.kept.cubes) c.opened.view_is in
    let names-are = ap (λ (o : OpenedPair). o.kept.names) c.opened.view_is in
    record {
      few = subst (λ (cubes : List Decl). length cubes ≤ MOST_CUBES) (sym cubes-are) sound.few;
      names = coe 1 0 (i. HaveKeptNames (cubes-are i) (names-are i)) sound.names;
    }
