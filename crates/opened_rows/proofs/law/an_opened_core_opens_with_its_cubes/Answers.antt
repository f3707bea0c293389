use Rattle.std.proofs.Common.{◌≡◌, List, None, sym, subst}
use Rattle.cube_language.specs.Cubes.{first_repeated}
use Rattle.cube_language.specs.declared.decl.Decl.{Decl}
use Rattle.aosi_desk.specs.Desks.{decl_names}
use Rattle.opened_callers.proofs.ToldCubes.{cubes-told}
use Rattle.opened_rows.proofs.law.an_opened_core_opens_with_its_cubes.Goals as goal

pub returns : goal.returns
returns c = λ kept shards sessions cells by over o log run opens events is_run.
    let kept-rows = c.an_opened_core_has_the_kept_rows.ensures in
    record {
      names = c.an_opened_core_has_its_dictionaries.ensures kept shards sessions cells by over o log run opens
          events is_run;
      apart = subst (λ (cubes : List Decl). first_repeated (decl_names cubes) ≡ None)
          (sym (cubes-told kept shards sessions cells over o log opens))
          (c.kept_data_are_sound.ensures.sound kept by).differ;
      shapes = λ cube d is.
          c.desk_cubes_are_those_of_the_history.ensures.shapes cells o log run cube d opens events is_run is;
      rows = λ cube. kept-rows.rows kept shards sessions cells by over o log opens cube;
      none = λ cube past. kept-rows.none kept shards sessions cells by over o log opens cube past;
    }
