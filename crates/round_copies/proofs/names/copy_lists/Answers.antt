use Rattle.std.proofs.Common.{◌∙◌, ℕ, List, length, Some, refl, sym, ap, subst, arith}
use Rattle.std.proofs.lemmas.Option.{slice_get_read}
use Rattle.round_copies.proofs.NameLoops.{cubes-all, cubes-next, cubes-none, goes-more, goes-none, still-flusher}
use Rattle.round_copies.specs.RoundCopies.{HasMoreWith, HasNamesTold}
use Rattle.round_copies.proofs.names.copy_lists.Goals as goal

pub returns-in_err-cubes-clause-goes : goal.returns-in_err-cubes-clause-goes
returns-in_err-cubes-clause-goes g c =
    goes-none c.args.span c.args.client (g.P.CellCaller.opening c.args.caller.now) (g.P.CellCaller.number c.args.caller.now)
    (g.P.CellCaller.own c.args.caller.now) c.requires.history

pub cubes-init : goal.cubes-init
cubes-init g c = (
  c.requires.board,
  refl,
  goes-none c.args.span c.args.client (g.P.CellCaller.opening c.args.caller.now) (g.P.CellCaller.number c.args.caller.now)
      (g.P.CellCaller.own c.args.caller.now) c.requires.history,
  cubes-none (g.P.CellCaller.number c.args.caller.now) (g.P.CellCaller.own c.args.caller.now) c.args.counts.now
      c.args.texts.now c.new-lists.result.items c.new-lists.ensures.items,
)

pub copy_dims-requires-clause-board : goal.copy_dims-requires-clause-board
copy_dims-requires-clause-board g c = c.cubes.invariant.0

pub copy_dims-requires-clause-flusher : goal.copy_dims-requires-clause-flusher
copy_dims-requires-clause-flusher g c =
    let goes = c.cubes.invariant.2 in
    let flush = c.requires.flusher in (
      flush.0,
      still-flusher c.args.span c.args.client flush.0 (g.P.CellCaller.opening c.args.caller.now) (g.P.CellCaller.opening c.cubes.caller)
          (g.P.CellCaller.number c.args.caller.now) (g.P.CellCaller.number c.cubes.caller) goes.same_cells goes.same_caller flush.1,
    )

pub copy_dims-requires-clause-history : goal.copy_dims-requires-clause-history
copy_dims-requires-clause-history g c = c.cubes.invariant.2.history

pub copy_dims-requires-clause-may : goal.copy_dims-requires-clause-may
copy_dims-requires-clause-may g c =
    let may = c.requires.may in
    let low = c.cubes-test.true in
    let all = c.in_ok-cubes.ensures in (
      may.0,
      length c.args.texts.now,
      c.args.counts.now,
      omega (arith, low, all),
      c.counts_of_cube-own.ensures,
      c.cubes.invariant.2.keeps may.0 (length c.args.texts.now) c.args.counts.now may.1,
    )

pub returns-in_err-names-clause-board : goal.returns-in_err-names-clause-board
returns-in_err-names-clause-board g c = c.copy_dims.ensures.board

pub returns-in_err-names-clause-opening : goal.returns-in_err-names-clause-opening
returns-in_err-names-clause-opening g c = c.copy_dims.ensures.opening ∙ c.cubes.invariant.2.same_cells

pub returns-in_err-names-clause-number : goal.returns-in_err-names-clause-number
returns-in_err-names-clause-number g c = c.copy_dims.ensures.number ∙ c.cubes.invariant.2.same_caller

pub returns-in_err-names-clause-others : goal.returns-in_err-names-clause-others
returns-in_err-names-clause-others g c = c.copy_dims.ensures.others ∙ c.cubes.invariant.1

pub returns-in_err-names-clause-goes : goal.returns-in_err-names-clause-goes
returns-in_err-names-clause-goes g c =
    goes-more c.args.span c.args.client (g.P.CellCaller.opening c.args.caller.now) (g.P.CellCaller.opening c.cubes.caller)
    (g.P.CellCaller.opening c.copy_dims.new.caller) (g.P.CellCaller.number c.args.caller.now) (g.P.CellCaller.number c.cubes.caller)
    (g.P.CellCaller.number c.copy_dims.new.caller) (g.P.CellCaller.own c.args.caller.now) (g.P.CellCaller.own c.cubes.caller)
    (g.P.CellCaller.own c.copy_dims.new.caller) c.cubes.invariant.2 c.copy_dims.ensures.goes

pub returns-in_err-push-clause-board : goal.returns-in_err-push-clause-board
returns-in_err-push-clause-board g c = c.copy_dims.ensures.board

pub returns-in_err-push-clause-opening : goal.returns-in_err-push-clause-opening
returns-in_err-push-clause-opening g c = c.copy_dims.ensures.opening ∙ c.cubes.invariant.2.same_cells

pub returns-in_err-push-clause-number : goal.returns-in_err-push-clause-number
returns-in_err-push-clause-number g c = c.copy_dims.ensures.number ∙ c.cubes.invariant.2.same_caller

pub returns-in_err-push-clause-others : goal.returns-in_err-push-clause-others
returns-in_err-push-clause-others g c = c.copy_dims.ensures.others ∙ c.cubes.invariant.1

pub returns-in_err-push-clause-goes : goal.returns-in_err-push-clause-goes
returns-in_err-push-clause-goes g c =
    goes-more c.args.span c.args.client (g.P.CellCaller.opening c.args.caller.now) (g.P.CellCaller.opening c.cubes.caller)
    (g.P.CellCaller.opening c.copy_dims.new.caller) (g.P.CellCaller.number c.args.caller.now) (g.P.CellCaller.number c.cubes.caller)
    (g.P.CellCaller.number c.copy_dims.new.caller) (g.P.CellCaller.own c.args.caller.now) (g.P.CellCaller.own c.cubes.caller)
    (g.P.CellCaller.own c.copy_dims.new.caller) c.cubes.invariant.2 c.copy_dims.ensures.goes

pub cubes-preserved : goal.cubes-preserved
cubes-preserved g c =
    let held = c.cubes.invariant in
    let did = c.copy_dims.ensures in
    let low = c.cubes-test.true in
    let all = c.in_ok-cubes.ensures in
    let flags = c.as_slice-flags.result.now in
    let caller = g.P.CellCaller.number c.copy_dims.new.caller in
    let now = g.P.CellCaller.own c.copy_dims.new.caller in (
      did.board,
      did.others ∙ held.1,
      goes-more c.args.span c.args.client (g.P.CellCaller.opening c.args.caller.now) (g.P.CellCaller.opening c.cubes.caller)
          (g.P.CellCaller.opening c.copy_dims.new.caller) (g.P.CellCaller.number c.args.caller.now) (g.P.CellCaller.number c.cubes.caller)
          caller (g.P.CellCaller.own c.args.caller.now) (g.P.CellCaller.own c.cubes.caller) now held.2 did.goes,
      cubes-next (g.P.CellCaller.number c.cubes.caller) caller (g.P.CellCaller.own c.args.caller.now) (g.P.CellCaller.own c.cubes.caller) now
          c.args.counts.now c.args.texts.now c.cubes.lists.items c.push.new.self.items c.cubes.cube flags c.in_ok-names.names held.3 did.number
          (slice_get_read c.args.texts.now c.in_ok-cubes.cubes c.cubes.cube c.index-texts-cube.result all low c.index-texts-cube.is
          ∙ ap Some (sym c.as_slice-flags.ensures))
          (subst (λ (l : List ℕ). HasMoreWith (g.P.CellCaller.own c.cubes.caller) now
          (λ later. HasNamesTold caller later c.cubes.cube l flags c.in_ok-names.names)) c.counts_of_cube-own.ensures
          c.in_ok-names.ensures.told)
          c.in_ok-push.ensures.items,
    )

pub returns-clause-board : goal.returns-clause-board
returns-clause-board g c = c.cubes.invariant.0

pub returns-clause-opening : goal.returns-clause-opening
returns-clause-opening g c = c.cubes.invariant.2.same_cells

pub returns-clause-number : goal.returns-clause-number
returns-clause-number g c = c.cubes.invariant.2.same_caller

pub returns-clause-others : goal.returns-clause-others
returns-clause-others g c = c.cubes.invariant.1

pub returns-clause-goes : goal.returns-clause-goes
returns-clause-goes g c = c.cubes.invariant.2

pub returns-clause-told : goal.returns-clause-told
returns-clause-told g c =
    let done = c.cubes-test.false in
    let within = c.cubes.auto.cube-end in
    let all = c.in_ok-cubes.ensures in
    cubes-all (g.P.CellCaller.number c.cubes.caller) (g.P.CellCaller.own c.args.caller.now) (g.P.CellCaller.own c.cubes.caller)
    c.args.counts.now c.args.texts.now c.cubes.lists.items c.cubes.cube c.cubes.invariant.3 (omega (arith, done, within, all))
