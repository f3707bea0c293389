use Rattle.std.proofs.Common.{ℕ, ◌-◌, sym, ap}
use Rattle.aosi_desk.proofs.Pending.{least_front, least_none}
use Rattle.aosi_desk.proofs.fields.Fields.lce.Goals as goal

pub returns-in-Some : goal.returns-in-Some
returns-in-Some c =
    ap (λ (e : ℕ). e - 1) (sym (least_front 0 c.args.self.now.ec c.args.self.now.pending.members c.in-Some.epoch.now
    c.requires (sym c.in-Some.ensures)).0)
