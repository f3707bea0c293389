use Rattle.std.proofs.Common.{arith}
use Rattle.brick_store.proofs.Apart.{none_cleared, run_cleared, all_cleared}
use Rattle.brick_store.proofs.delta.clear_where.Goals as goal

pub runs-init : goal.runs-init
runs-init c = record { within = omega arith; cleared = none_cleared c.args.bits.now.bits c.args.others.now.bits }

pub runs-preserved : goal.runs-preserved
runs-preserved c =
    let l = c.runs in
    let from = c.next-from.result in
    let to = c.next-to.result in
    record {
      within = omega arith;
      cleared = run_cleared l.at from to c.args.bits.now.bits c.args.others.now.bits l.bits.bits c.fill.new.self.bits (omega arith) (omega arith) (omega arith) c.requires c.next-from.ensures.between c.next-to.ensures.between c.fill.ensures.bits l.invariant.cleared;
    }

pub returns : goal.returns
returns c =
    let l = c.runs in
    all_cleared l.at c.args.bits.now.bits c.args.others.now.bits l.bits.bits c.requires (omega arith) l.invariant.cleared
