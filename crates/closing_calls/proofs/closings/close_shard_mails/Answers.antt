use Rattle.std.proofs.Common.{◌∙◌, ◌+◌, refl}
use Rattle.closing_calls.proofs.MainSteps.{closed-more, closed-none, stays-by-close, stays-on, stays-then}
use Rattle.closing_calls.specs.ClosingCalls.{MainStays}
use Rattle.closing_calls.proofs.closings.close_shard_mails.Goals as goal

pub closings-init : goal.closings-init
closings-init g c =
    let own = g.P.CellCaller.own c.args.caller.now in (
      c.requires.board,
      refl,
      refl,
      refl,
      closed-none (2 + c.args.size.now.shards) own,
      stays-on (g.P.CellCaller.opening c.args.caller.now) own,
    )

pub closings-preserved : goal.closings-preserved
closings-preserved g c =
    let held = c.closings.invariant in
    let own = g.P.CellCaller.own in
    let cells = g.P.CellCaller.opening c.args.caller.now in
    let shards = c.args.size.now.shards in
    let did = c.close_mail.ensures in (
      did.board,
      did.opening ∙ held.1,
      did.number ∙ held.2,
      did.others ∙ held.3,
      closed-more (2 + shards) c.closings.number (own c.args.caller.now) (own c.closings.caller) (own c.close_mail.new.caller) held.4 did.own,
      coe 1 0 (i. MainStays cells (own c.args.caller.now) ((did.opening ∙ held.1) i) (own c.close_mail.new.caller))
          (stays-then cells (own c.args.caller.now) (own c.closings.caller) (own c.close_mail.new.caller)
          (coe 0 1 (i. MainStays cells (own c.args.caller.now) (held.1 i) (own c.closings.caller)) held.5)
          (stays-by-close cells c.closings.number (2 + shards + c.closings.number) (own c.closings.caller) (own c.close_mail.new.caller)
          (c.requires.mails.each c.closings.number c.closings-test.true) did.own)),
    )
