use Rattle.std.proofs.Common.{List, All, sym, subst}
use Rattle.cube_language.specs.declared.decl.Decl.{Decl}
use Rattle.core_events.specs.Fitting.{CanBeMade}
use Rattle.opened_callers.proofs.ToldCubes.{cubes-told}
use Rattle.opened_rows.proofs.MadeCubes.{kept-made}
use Rattle.opened_rows.proofs.law.an_opened_core_opens_for_rounds.Goals as goal

pub returns : goal.returns
returns c = λ kept shards sessions cells by over o log run opens events is_run.
    let with_cubes =
    c.an_opened_core_opens_with_its_cubes.ensures kept shards sessions cells by over o log run opens events is_run
    in
    record {
      made = subst (λ (cubes : List Decl). All CanBeMade cubes)
          (sym (cubes-told kept shards sessions cells over o log opens))
          (kept-made c.declared_cubes_can_be_made.ensures kept by);
      apart = with_cubes.apart;
      shapes = with_cubes.shapes;
      names = with_cubes.names;
      rows = with_cubes.rows;
    }
