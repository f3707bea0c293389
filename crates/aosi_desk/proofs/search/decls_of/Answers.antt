use Rattle.std.proofs.Common.{◌∙◌, arith}
use Rattle.std.proofs.lemmas.Grind.{common_steps}
use Rattle.aosi_desk.proofs.Kept.{storable-more}
use Rattle.aosi_desk.proofs.search.decls_of.Goals as goal

pub cubes-preserved : goal.cubes-preserved
cubes-preserved c = record {
  same = grind (arith, common_steps);
  storable = storable-more c.cubes.decls.items c.push.new.self.items c.in_ok-copy_decl.field-0 c.cube-item.result
      c.in_ok-push.ensures.items (c.in_ok-copy_decl.ensures ∙ c.decl.ensures.decl) c.decl.ensures.storable
      c.cubes.invariant.storable;
}
