use Rattle.std.proofs.Common.{◌∙◌, refl}
use Rattle.std.proofs.lemmas.Result.{err_from_is_err_and}
use Rattle.std.specs.Global.{Vec}
use Rattle.script_sentences.specs.declared.said.Said.{Said}
use Rattle.run_inputs.proofs.ReadInTurns.{all-names-read, none-read, turn-bad, turn-read, turn-unkept}
use Rattle.run_inputs.proofs.SaidTexts.{absence-handed, fault-handed}
use Rattle.run_inputs.proofs.scripts.read_scripts.Goals as goal

pub names-init : goal.names-init
names-init g c = (
  refl,
  refl,
  refl,
  none-read (g.H.Shelf.told c.args.shelf.now) (g.H.Shelf.call_list c.args.shelf.now) c.new-scripts.result.items
      c.new-scripts.ensures.items,
)

pub returns-in-Err-clause-same : goal.returns-in-Err-clause-same
returns-in-Err-clause-same g c = c.in-Err.ensures.same ∙ c.names.invariant.0

pub returns-in-Err-clause-faults : goal.returns-in-Err-clause-faults
returns-in-Err-clause-faults g c =
    fault-handed (Vec Said) (Vec (Vec Said)) c.in-Err.error (g.H.Shelf.fault_count c.args.shelf.now) (g.H.Shelf.fault_count c.names.shelf)
    (g.H.Shelf.fault_count c.read_one.new.shelf) c.names.invariant.1 c.in-Err.ensures.faults

pub returns-in-Err-clause-absences : goal.returns-in-Err-clause-absences
returns-in-Err-clause-absences g c =
    absence-handed (Vec Said) (Vec (Vec Said)) c.in-Err.error (g.H.Shelf.absence_count c.args.shelf.now) (g.H.Shelf.absence_count c.names.shelf)
    (g.H.Shelf.absence_count c.read_one.new.shelf) c.names.invariant.2 c.in-Err.ensures.absences

pub returns-in-Err-clause-ends : goal.returns-in-Err-clause-ends
returns-in-Err-clause-ends g c =
    turn-bad (g.H.Shelf.told c.args.shelf.now) (g.H.Shelf.told c.names.shelf) (g.H.Shelf.call_list c.args.shelf.now)
    (g.H.Shelf.call_list c.names.shelf) (g.H.Shelf.call_list c.read_one.new.shelf) c.args.names.now
    c.names.scripts.items c.names.i c.index-names-i.result c.as_str.result.now c.names-test.true
    (c.as_str.ensures.bytes ∙ c.index-names-i.is) c.names.invariant.0 c.names.invariant.3 c.in-Err.error
    c.in-Err.ensures.read

pub returns-in_err-push-clause-same : goal.returns-in_err-push-clause-same
returns-in_err-push-clause-same g c = c.in-Ok.ensures.same ∙ c.names.invariant.0

pub returns-in_err-push-clause-faults : goal.returns-in_err-push-clause-faults
returns-in_err-push-clause-faults g c =
    let p = err_from_is_err_and c.from_residual.result c.from_residual.ensures.1 in
    rw (p.1, p.2) (c.in-Ok.ensures.faults ∙ c.names.invariant.1)

pub returns-in_err-push-clause-absences : goal.returns-in_err-push-clause-absences
returns-in_err-push-clause-absences g c =
    let p = err_from_is_err_and c.from_residual.result c.from_residual.ensures.1 in
    rw (p.1, p.2) (c.in-Ok.ensures.absences ∙ c.names.invariant.2)

pub returns-in_err-push-clause-ends : goal.returns-in_err-push-clause-ends
returns-in_err-push-clause-ends g c =
    let p = err_from_is_err_and c.from_residual.result c.from_residual.ensures.1 in
    turn-unkept (g.H.Shelf.told c.args.shelf.now) (g.H.Shelf.told c.names.shelf) (g.H.Shelf.call_list c.args.shelf.now)
    (g.H.Shelf.call_list c.names.shelf) (g.H.Shelf.call_list c.read_one.new.shelf) c.args.names.now
    c.names.scripts.items c.names.i c.index-names-i.result c.as_str.result.now c.names-test.true
    (c.as_str.ensures.bytes ∙ c.index-names-i.is) c.names.invariant.0 c.names.invariant.3 c.from_residual.result p.0
    c.in-Ok.said p.1 p.2 c.in-Ok.ensures.read

pub names-preserved : goal.names-preserved
names-preserved g c = (
  c.in-Ok.ensures.same ∙ c.names.invariant.0,
  c.in-Ok.ensures.faults ∙ c.names.invariant.1,
  c.in-Ok.ensures.absences ∙ c.names.invariant.2,
  turn-read (g.H.Shelf.told c.args.shelf.now) (g.H.Shelf.told c.names.shelf) (g.H.Shelf.call_list c.args.shelf.now)
      (g.H.Shelf.call_list c.names.shelf) (g.H.Shelf.call_list c.read_one.new.shelf) c.args.names.now
      c.names.scripts.items c.names.i c.index-names-i.result c.as_str.result.now c.names-test.true
      (c.as_str.ensures.bytes ∙ c.index-names-i.is) c.names.invariant.0 c.names.invariant.3 c.in-Ok.said
      c.push.new.self.items c.in_ok-push.ensures.items c.in-Ok.ensures.read,
)

pub returns-clause-same : goal.returns-clause-same
returns-clause-same g c = c.names.invariant.0

pub returns-clause-ends : goal.returns-clause-ends
returns-clause-ends g c =
    all-names-read (g.H.Shelf.told c.args.shelf.now) (g.H.Shelf.call_list c.args.shelf.now)
    (g.H.Shelf.call_list c.names.shelf) c.args.names.now c.names.i c.names.scripts c.names-test.false
    c.names.invariant.3
