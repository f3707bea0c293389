use Rattle.std.proofs.Common.{inl, length, refl, subst}
use Rattle.core_changes.proofs.BegunChanges.{nothing-yet}
use Rattle.core_deletes.proofs.BegunDeletes.{may-ask}
use Rattle.core_deletes.specs.DeleteEnds.{AnswersAsDelete}
use Rattle.cube_language.specs.declared.decl.Decl.{Decl}
use Rattle.dropped_regions.specs.DeleteBoxes.{IsDeleteText}
use Rattle.core_deletes.proofs.bound.delete_bound.Goals as goal

pub delete_knowing-requires-clause-asks : goal.delete_knowing-requires-clause-asks
delete_knowing-requires-clause-asks g c =
    let old = c.args.caller.now in
    let own = g.P.CellCaller.own old in
    let d = c.args.cube.now in
    may-ask (g.P.CellCaller.opening old) (g.P.CellCaller.number old) c.args.size.now.shards c.args.place
    c.args.session.now own d c.in-Ok.known c.requires.may c.requires.told c.in-Ok.ensures
    (c.known_numbers_stay_told.ensures.none own c.args.place (length d.dims) d.dims)

pub refuse_delete-requires-clause-why : goal.refuse_delete-requires-clause-why
refuse_delete-requires-clause-why g c = inl refl

pub returns-in-Err-clause-answered : goal.returns-in-Err-clause-answered
returns-in-Err-clause-answered g c =
    let old = c.args.caller.now in
    let cells = g.P.CellCaller.opening old in
    let caller = g.P.CellCaller.number old in
    let own = g.P.CellCaller.own old in
    let now = g.P.CellCaller.own c.refuse_delete.new.caller in
    let session = c.args.session.now in
    let s = c.args.statement.now in
    subst (λ (d : Decl). AnswersAsDelete cells caller session s own now c.args.place d session c.refuse_delete.result)
    c.decl-decl.ensures.decl
    (c.refuse_delete.ensures.answered own
    (nothing-yet cells caller session s (IsDeleteText c.args.place (c.decl-decl.result.now) s) own))
