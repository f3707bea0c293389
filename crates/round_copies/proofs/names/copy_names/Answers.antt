use Rattle.std.proofs.Common.{◌∙◌, ℕ, length, ap, sym, subst}
use Rattle.round_copies.proofs.NameLoops.{cubes-count, goes-none}
use Rattle.round_copies.specs.RoundCopies.{HasCubes}
use Rattle.round_copies.specs.WithinRounds.{KnowsOfFlusher}
use Rattle.round_copies.proofs.names.copy_names.Goals as goal

pub returns-in_err-texts-clause-goes : goal.returns-in_err-texts-clause-goes
returns-in_err-texts-clause-goes g c =
    goes-none c.args.span c.args.client (g.P.CellCaller.opening c.args.caller.now) (g.P.CellCaller.number c.args.caller.now)
    (g.P.CellCaller.own c.args.caller.now) c.requires.history

pub copy_lists-requires-clause-may : goal.copy_lists-requires-clause-may
copy_lists-requires-clause-may g c =
    let may = c.requires.may in (
      may.0,
      subst
          (λ (n : ℕ). KnowsOfFlusher (g.P.CellCaller.opening c.args.caller.now) (g.P.CellCaller.number c.args.caller.now) c.args.client
          (g.P.CellCaller.own c.args.caller.now) (HasCubes c.args.span may.0 n c.args.counts.now))
          (sym (ap length (c.as_slice.ensures.value ∙ c.in_ok-texts.ensures) ∙ cubes-count c.args.shapes.now c.args.made.now))
          may.1,
    )
