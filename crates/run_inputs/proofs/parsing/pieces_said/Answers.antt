use denote.Param.Send.{sendable}
use Rattle.std.proofs.Common.{IfOk, sym, subst, ap, ◌∙◌}
use Rattle.std.proofs.alloc.AllocError.TheSendSync as errors
use Rattle.std.proofs.result.Result.TheSendSync as results
use Rattle.script_sentences.proofs.said.Said.TheSendSync as saids
use Rattle.std.proofs.Crossing.{crosses, frees}
use Rattle.std.specs.List.{AllZip}
use Rattle.rayon.proofs.ToStd.{slice-AllZip}
use Rattle.script_sentences.specs.Sentences.{SaysInPlace, SaysInTurn}
use Rattle.run_inputs.proofs.SaidTexts.{says-by-answers}
use Rattle.run_inputs.proofs.parsing.pieces_said.Goals as goal

-- One line for each `Send` and `Sync`, the allocator, and then what the closure asks of each piece.
pub collect-requires : goal.collect-requires
collect-requires g c κs =
    let slice = ap (λ it. it.slice.now) c.map.ensures.base ∙ c.par_iter.ensures in (
      search (sendable, crosses) depth 40,
      (
        search (results.the_send, saids.the_send, errors.the_send, sendable, crosses) depth 40,
        (
          search (results.the_send, saids.the_send, errors.the_send, sendable, crosses) depth 40,
          (
            search (sendable, crosses) depth 40,
            (
              search (sendable, crosses) depth 40,
              (
                frees,
                rw (c.map.ensures.f, slice) (λ k d lt x e. (rw e (c.requires.texts k d lt), λ y p. tt)),
              ),
            ),
          ),
        ),
      ),
    )

pub returns : goal.returns
returns g c =
    let slice = c.par_iter.ensures in
    let all = c.in_ok-said.ensures in
    let chain = rw (c.map.ensures.base, c.map.ensures.f) at all.1 in
    let script = c.args.script.now in
    let answers = slice-AllZip chain.0 c.args.pieces.now (chain.1 ∙ slice)
    (λ piece answer. IfOk answer (SaysInPlace script piece)) all.0 chain.2 in
    let made = rw c.in_ok-said-2.was at all.2 in
    subst (λ said. SaysInTurn script c.args.pieces.now said) (sym made.2)
    (says-by-answers script c.args.pieces.now made.0
    (subst (λ xs. AllZip (λ piece answer. IfOk answer (SaysInPlace script piece)) c.args.pieces.now xs) made.1 answers))
