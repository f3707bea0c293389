use Rattle.std.proofs.Common.{◌∙◌, ℕ, false, List, get_or, ap, refl, subst, arith}
use Rattle.std.proofs.lemmas.Option.{slice_get-get_or}
use Rattle.round_copies.proofs.NameLoops.{dims-all, dims-next, dims-none, goes-more, goes-none, still-flusher}
use Rattle.round_copies.specs.RoundCopies.{AreNamesTold, HasMoreWith}
use Rattle.round_copies.proofs.names.copy_dims.Goals as goal

pub returns-in_err-dims-clause-goes : goal.returns-in_err-dims-clause-goes
returns-in_err-dims-clause-goes g c =
    goes-none c.args.span c.args.client (g.P.CellCaller.opening c.args.caller.now) (g.P.CellCaller.number c.args.caller.now)
    (g.P.CellCaller.own c.args.caller.now) c.requires.history

pub dims-init : goal.dims-init
dims-init g c = (
  c.requires.board,
  refl,
  goes-none c.args.span c.args.client (g.P.CellCaller.opening c.args.caller.now) (g.P.CellCaller.number c.args.caller.now)
      (g.P.CellCaller.own c.args.caller.now) c.requires.history,
  dims-none (g.P.CellCaller.number c.args.caller.now) (g.P.CellCaller.own c.args.caller.now) c.args.cube c.args.counts.now
      c.args.texts.now c.new-lists.result c.new-lists.ensures,
)

pub copy_dim-requires-clause-board : goal.copy_dim-requires-clause-board
copy_dim-requires-clause-board g c = c.dims.invariant.0

pub copy_dim-requires-clause-flusher : goal.copy_dim-requires-clause-flusher
copy_dim-requires-clause-flusher g c =
    let goes = c.dims.invariant.2 in
    let flush = c.requires.flusher in (
      flush.0,
      still-flusher c.args.span c.args.client flush.0 (g.P.CellCaller.opening c.args.caller.now) (g.P.CellCaller.opening c.dims.caller)
          (g.P.CellCaller.number c.args.caller.now) (g.P.CellCaller.number c.dims.caller) goes.same_cells goes.same_caller flush.1,
    )

pub copy_dim-requires-clause-history : goal.copy_dim-requires-clause-history
copy_dim-requires-clause-history g c = c.dims.invariant.2.history

pub copy_dim-requires-clause-may : goal.copy_dim-requires-clause-may
copy_dim-requires-clause-may g c =
    let may = c.requires.may in (
      may.0,
      may.1,
      may.2,
      may.3,
      c.count_of_dim-count.ensures ∙ ap (λ (l : List ℕ). get_or l c.dims.dim 0) may.4,
      c.dims.invariant.2.keeps may.0 may.1 may.2 may.5,
    )

pub returns-in_err-names-clause-board : goal.returns-in_err-names-clause-board
returns-in_err-names-clause-board g c = c.copy_dim.ensures.board

pub returns-in_err-names-clause-opening : goal.returns-in_err-names-clause-opening
returns-in_err-names-clause-opening g c = c.copy_dim.ensures.opening ∙ c.dims.invariant.2.same_cells

pub returns-in_err-names-clause-number : goal.returns-in_err-names-clause-number
returns-in_err-names-clause-number g c = c.copy_dim.ensures.number ∙ c.dims.invariant.2.same_caller

pub returns-in_err-names-clause-others : goal.returns-in_err-names-clause-others
returns-in_err-names-clause-others g c = c.copy_dim.ensures.others ∙ c.dims.invariant.1

pub returns-in_err-names-clause-goes : goal.returns-in_err-names-clause-goes
returns-in_err-names-clause-goes g c =
    goes-more c.args.span c.args.client (g.P.CellCaller.opening c.args.caller.now) (g.P.CellCaller.opening c.dims.caller)
    (g.P.CellCaller.opening c.copy_dim.new.caller) (g.P.CellCaller.number c.args.caller.now) (g.P.CellCaller.number c.dims.caller)
    (g.P.CellCaller.number c.copy_dim.new.caller) (g.P.CellCaller.own c.args.caller.now) (g.P.CellCaller.own c.dims.caller)
    (g.P.CellCaller.own c.copy_dim.new.caller) c.dims.invariant.2 c.copy_dim.ensures.goes

pub returns-in_err-push-clause-board : goal.returns-in_err-push-clause-board
returns-in_err-push-clause-board g c = c.copy_dim.ensures.board

pub returns-in_err-push-clause-opening : goal.returns-in_err-push-clause-opening
returns-in_err-push-clause-opening g c = c.copy_dim.ensures.opening ∙ c.dims.invariant.2.same_cells

pub returns-in_err-push-clause-number : goal.returns-in_err-push-clause-number
returns-in_err-push-clause-number g c = c.copy_dim.ensures.number ∙ c.dims.invariant.2.same_caller

pub returns-in_err-push-clause-others : goal.returns-in_err-push-clause-others
returns-in_err-push-clause-others g c = c.copy_dim.ensures.others ∙ c.dims.invariant.1

pub returns-in_err-push-clause-goes : goal.returns-in_err-push-clause-goes
returns-in_err-push-clause-goes g c =
    goes-more c.args.span c.args.client (g.P.CellCaller.opening c.args.caller.now) (g.P.CellCaller.opening c.dims.caller)
    (g.P.CellCaller.opening c.copy_dim.new.caller) (g.P.CellCaller.number c.args.caller.now) (g.P.CellCaller.number c.dims.caller)
    (g.P.CellCaller.number c.copy_dim.new.caller) (g.P.CellCaller.own c.args.caller.now) (g.P.CellCaller.own c.dims.caller)
    (g.P.CellCaller.own c.copy_dim.new.caller) c.dims.invariant.2 c.copy_dim.ensures.goes

pub dims-preserved : goal.dims-preserved
dims-preserved g c =
    let held = c.dims.invariant in
    let did = c.copy_dim.ensures in
    let low = c.dims-test.true in
    let all = c.in_ok-dims.ensures in
    let text = get_or c.args.texts.now c.dims.dim false in
    let caller = g.P.CellCaller.number c.copy_dim.new.caller in
    let now = g.P.CellCaller.own c.copy_dim.new.caller in (
      did.board,
      did.others ∙ held.1,
      goes-more c.args.span c.args.client (g.P.CellCaller.opening c.args.caller.now) (g.P.CellCaller.opening c.dims.caller)
          (g.P.CellCaller.opening c.copy_dim.new.caller) (g.P.CellCaller.number c.args.caller.now) (g.P.CellCaller.number c.dims.caller)
          caller (g.P.CellCaller.own c.args.caller.now) (g.P.CellCaller.own c.dims.caller) now held.2 did.goes,
      dims-next (g.P.CellCaller.number c.dims.caller) caller (g.P.CellCaller.own c.args.caller.now) (g.P.CellCaller.own c.dims.caller) now
          c.args.cube c.args.counts.now c.args.texts.now c.dims.lists c.push.new.self c.dims.dim text c.in_ok-names.names held.3 did.number
          (slice_get-get_or c.args.texts.now c.dims.dim false (omega (arith, low, all)))
          (subst (λ (n : ℕ). HasMoreWith (g.P.CellCaller.own c.dims.caller) now
          (λ later. AreNamesTold caller later c.args.cube c.dims.dim n text c.in_ok-names.names)) c.count_of_dim-count.ensures
          c.in_ok-names.ensures.told)
          c.in_ok-push.ensures.ok,
    )

pub returns-clause-board : goal.returns-clause-board
returns-clause-board g c = c.dims.invariant.0

pub returns-clause-opening : goal.returns-clause-opening
returns-clause-opening g c = c.dims.invariant.2.same_cells

pub returns-clause-number : goal.returns-clause-number
returns-clause-number g c = c.dims.invariant.2.same_caller

pub returns-clause-others : goal.returns-clause-others
returns-clause-others g c = c.dims.invariant.1

pub returns-clause-goes : goal.returns-clause-goes
returns-clause-goes g c = c.dims.invariant.2

pub returns-clause-told : goal.returns-clause-told
returns-clause-told g c =
    let done = c.dims-test.false in
    let within = c.dims.auto.dim-end in
    let all = c.in_ok-dims.ensures in
    dims-all (g.P.CellCaller.number c.dims.caller) (g.P.CellCaller.own c.args.caller.now) (g.P.CellCaller.own c.dims.caller) c.args.cube
    c.args.counts.now c.args.texts.now c.dims.lists c.dims.dim c.dims.invariant.3 (omega (arith, done, within, all))
