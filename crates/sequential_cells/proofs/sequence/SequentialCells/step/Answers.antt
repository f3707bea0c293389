use Rattle.std.proofs.Common.{◌<◌, List, length, slice_set, sym, subst, rules}
use Rattle.atomic_table.proofs.Lists.{at_index}
use Rattle.sequential_cells.specs.Pasts.{FitsAfterPast, PastsGrow}
use Rattle.sequential_cells.proofs.GrownPasts.{can-take, pasts-grow}
use Rattle.sequential_cells.proofs.sequence.SequentialCells.step.Goals as goal

pub index_mut-requires : goal.index_mut-requires
index_mut-requires g c =
    let there = subst (λ (l : List g.row.C-Cell.Denot). c.args.cell < length l) (sym c.self.view_is) c.requires.there in search rules

pub apply-requires : goal.apply-requires
apply-requires g c =
    let items = c.self.inside.cells.items in
    let there = subst (λ (l : List g.row.C-Cell.Denot). c.args.cell < length l) (sym c.self.view_is) c.requires.there in
    let at = at_index items c.args.cell c.index_mut.result.now there c.index_mut.ensures.value in
    can-take g.C.Cells.step g.C.Cells.fits g.C.Cells.can g.met.C.Cells.safe items c.args.caller c.args.cell c.args.call c.index_mut.result.now
    (subst (λ (l : List g.row.C-Cell.Denot). FitsAfterPast g.C.Cells.step g.C.Cells.fits l c.args.caller c.args.cell c.args.call) (sym c.self.view_is) c.requires)
    at

pub returns : goal.returns
returns g c =
    let items = c.self.inside.cells.items in
    let there = subst (λ (l : List g.row.C-Cell.Denot). c.args.cell < length l) (sym c.self.view_is) c.requires.there in
    let at = at_index items c.args.cell c.index_mut.result.now there c.index_mut.ensures.value in
    subst (λ (l : List g.row.C-Cell.Denot). PastsGrow g.C.Cells.step g.C.Cells.fits l c.args.caller c.args.cell c.args.call c.apply.result (slice_set items c.args.cell c.apply.new.cell))
    c.self.view_is
    (pasts-grow g.C.Cells.step g.C.Cells.fits items c.args.caller c.args.cell c.args.call c.apply.result c.index_mut.result.now c.apply.new.cell at c.apply.ensures)
