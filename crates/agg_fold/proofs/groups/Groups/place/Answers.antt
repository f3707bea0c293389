use Rattle.std.proofs.Common.{◌≡◌, Some, slice_get, sym, ap, ◌∙◌, rules}
use Rattle.agg_fold.proofs.Standing.{stand_same, stand_push}
use Rattle.agg_fold.proofs.Places.{slice_get_end, front_stays}
use Rattle.agg_fold.proofs.groups.Groups.place.Goals as goal

pub returns-in_err-push-clause-same : goal.returns-in_err-push-clause-same
returns-in_err-push-clause-same c = λ rows s.
    let e = c.in_err-push.ensures in
    stand_same c.args.query.now rows c.args.self.now c.push.new.self e.rows (search rules) (search rules) (search rules) s

pub returns-in_err-push-clause-stay : goal.returns-in_err-push-clause-stay
returns-in_err-push-clause-stay c = λ p key h.
    let same : c.push.new.self.keys ≡ c.args.self.now.keys = search rules in
    ap (λ keys. slice_get keys p) same ∙ h

pub returns-clause-same : goal.returns-clause-same
returns-clause-same c = λ rows s.
    let e = c.in_ok-push.ensures in
    stand_push c.args.query.now rows c.args.self.now c.push.new.self c.args.key.now c.requires.wide (search rules) e.rows (search rules) (search rules) (search rules) s

pub returns-clause-place : goal.returns-clause-place
returns-clause-place c = search (rules, slice_get_end)

pub returns-clause-stay : goal.returns-clause-stay
returns-clause-stay c = front_stays c.args.self.now.keys c.push.new.self.keys c.args.key.now (search rules)
