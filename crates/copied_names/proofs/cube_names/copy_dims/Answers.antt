use Rattle.std.proofs.Common.{◌≡◌, ◌∙◌, slice_get, Some, Bool, false, List, ap, refl, subst, arith, get_or, length}
use Rattle.std.proofs.lemmas.Option.{slice_get-get_or}
use Rattle.core_names.proofs.GivenCodes.{moved}
use Rattle.copied_names.specs.CopiedNames.{MayCopyCube}
use Rattle.copied_names.proofs.CopiedLists.{asks-more, first-all, first-next, first-none, still-may}
use Rattle.core_names.proofs.PlainNames.{copies-none}
use Rattle.copied_names.proofs.cube_names.copy_dims.Goals as goal

pub returns-in_err-dims-clause-asks : goal.returns-in_err-dims-clause-asks
returns-in_err-dims-clause-asks g c =
    copies-none (g.P.CellCaller.number c.args.caller.now) (g.P.CellCaller.own c.args.caller.now)

pub dims-init : goal.dims-init
dims-init g c = (
  c.requires.board,
  refl,
  refl,
  refl,
  first-none (g.P.CellCaller.number c.args.caller.now) c.args.place c.args.cube.now (g.P.CellCaller.own c.args.caller.now)
      c.new-lists.result c.new-lists.ensures,
)

pub copy_dim-requires-clause-board : goal.copy_dim-requires-clause-board
copy_dim-requires-clause-board g c = c.dims.invariant.0

pub copy_dim-requires-clause-may : goal.copy_dim-requires-clause-may
copy_dim-requires-clause-may g c =
    let held = c.dims.invariant in
    let asks = held.4.asks in
    let caller = g.P.CellCaller.number c.args.caller.now in
    let cells = g.P.CellCaller.opening c.args.caller.now in
    moved (λ x n. MayCopyCube g.S.LinkedShard.fits g.S.LinkedShard.stands g.S.LinkedShard.says x n (g.P.CellCaller.own c.dims.caller) c.args.session c.args.place c.args.cube.now)
    cells (g.P.CellCaller.opening c.dims.caller) caller (g.P.CellCaller.number c.dims.caller) held.1 held.2
    (still-may g.S.LinkedShard.fits g.S.LinkedShard.stands g.S.LinkedShard.says cells caller c.args.session c.args.place c.args.cube.now
    (g.P.CellCaller.own c.args.caller.now) (g.P.CellCaller.own c.dims.caller) asks.added asks.whole c.requires.may)

pub copy_dim-requires-clause-kind : goal.copy_dim-requires-clause-kind
copy_dim-requires-clause-kind g c =
    let low = c.dims-test.true in
    let all = c.in_ok-dims.ensures in
    subst (λ (l : List Bool). slice_get l c.dims.dim ≡ Some (get_or c.args.texts.now c.dims.dim false)) c.requires.kinds
    (slice_get-get_or c.args.texts.now c.dims.dim false (omega (arith, low, all)))

pub returns-in_err-list-clause-board : goal.returns-in_err-list-clause-board
returns-in_err-list-clause-board g c = c.copy_dim.ensures.board

pub returns-in_err-list-clause-opening : goal.returns-in_err-list-clause-opening
returns-in_err-list-clause-opening g c = c.copy_dim.ensures.opening ∙ c.dims.invariant.1

pub returns-in_err-list-clause-number : goal.returns-in_err-list-clause-number
returns-in_err-list-clause-number g c = c.copy_dim.ensures.number ∙ c.dims.invariant.2

pub returns-in_err-list-clause-others : goal.returns-in_err-list-clause-others
returns-in_err-list-clause-others g c = c.copy_dim.ensures.others ∙ c.dims.invariant.3

pub returns-in_err-list-clause-asks : goal.returns-in_err-list-clause-asks
returns-in_err-list-clause-asks g c =
    asks-more (g.P.CellCaller.number c.args.caller.now) c.args.place c.args.cube.now (g.P.CellCaller.own c.args.caller.now)
    (g.P.CellCaller.own c.dims.caller) (g.P.CellCaller.own c.copy_dim.new.caller) c.dims.lists c.dims.dim
    (g.P.CellCaller.number c.dims.caller) c.dims.invariant.2 c.dims.invariant.4 c.copy_dim.ensures.asks

pub returns-in_err-push-clause-board : goal.returns-in_err-push-clause-board
returns-in_err-push-clause-board g c = c.copy_dim.ensures.board

pub returns-in_err-push-clause-opening : goal.returns-in_err-push-clause-opening
returns-in_err-push-clause-opening g c = c.copy_dim.ensures.opening ∙ c.dims.invariant.1

pub returns-in_err-push-clause-number : goal.returns-in_err-push-clause-number
returns-in_err-push-clause-number g c = c.copy_dim.ensures.number ∙ c.dims.invariant.2

pub returns-in_err-push-clause-others : goal.returns-in_err-push-clause-others
returns-in_err-push-clause-others g c = c.copy_dim.ensures.others ∙ c.dims.invariant.3

pub returns-in_err-push-clause-asks : goal.returns-in_err-push-clause-asks
returns-in_err-push-clause-asks g c =
    asks-more (g.P.CellCaller.number c.args.caller.now) c.args.place c.args.cube.now (g.P.CellCaller.own c.args.caller.now)
    (g.P.CellCaller.own c.dims.caller) (g.P.CellCaller.own c.copy_dim.new.caller) c.dims.lists c.dims.dim
    (g.P.CellCaller.number c.dims.caller) c.dims.invariant.2 c.dims.invariant.4 c.copy_dim.ensures.asks

pub dims-preserved : goal.dims-preserved
dims-preserved g c =
    let held = c.dims.invariant in
    let did = c.copy_dim.ensures in
    let low = c.dims-test.true in
    let all = c.in_ok-dims.ensures in (
      did.board,
      did.opening ∙ held.1,
      did.number ∙ held.2,
      did.others ∙ held.3,
      first-next (g.P.CellCaller.number c.args.caller.now) c.args.place c.args.cube.now (g.P.CellCaller.own c.args.caller.now)
          (g.P.CellCaller.own c.dims.caller) (g.P.CellCaller.own c.copy_dim.new.caller) c.dims.lists c.push.new.self c.dims.dim
          (g.P.CellCaller.number c.dims.caller) (get_or c.args.texts.now c.dims.dim false) c.in_ok-list.list held.2 held.4
          did.asks
          (subst (λ (l : List Bool). slice_get l c.dims.dim ≡ Some (get_or c.args.texts.now c.dims.dim false)) c.requires.kinds
          (slice_get-get_or c.args.texts.now c.dims.dim false (omega (arith, low, all))))
          c.in_ok-list.ensures.told c.in_ok-list.ensures.distinct c.in_ok-push.ensures.ok,
    )

pub returns-clause-board : goal.returns-clause-board
returns-clause-board g c = c.dims.invariant.0

pub returns-clause-opening : goal.returns-clause-opening
returns-clause-opening g c = c.dims.invariant.1

pub returns-clause-number : goal.returns-clause-number
returns-clause-number g c = c.dims.invariant.2

pub returns-clause-others : goal.returns-clause-others
returns-clause-others g c = c.dims.invariant.3

pub returns-clause-asks : goal.returns-clause-asks
returns-clause-asks g c = c.dims.invariant.4.asks

pub returns-clause-told : goal.returns-clause-told
returns-clause-told g c =
    let done = c.dims-test.false in
    let within = c.dims.auto.dim-end in
    let all = c.in_ok-dims.ensures in
    let at_end : c.dims.dim ≡ length c.args.texts.now = omega (arith, done, within, all) in
    first-all (g.P.CellCaller.number c.args.caller.now) c.args.place c.args.cube.now (g.P.CellCaller.own c.args.caller.now)
    (g.P.CellCaller.own c.dims.caller) c.dims.lists c.dims.dim c.dims.invariant.4 (at_end ∙ ap (λ (l : List Bool). length l) c.requires.kinds)

pub returns-clause-distinct : goal.returns-clause-distinct
returns-clause-distinct g c = c.dims.invariant.4.distinct
