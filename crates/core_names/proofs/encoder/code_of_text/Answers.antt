use Rattle.std.proofs.Common.{◌≡◌, ◌⊎◌, ◌≤◌, ℕ, List, length, ap, subst, sym, ◌∙◌}
use Rattle.cube_language.specs.declared.bad_row.TheConstants.{TEXT_BYTES}
use Rattle.cube_values.specs.Shapes.{IsSoundCube}
use Rattle.cube_values.specs.declared.shape.CubeShape.{CubeShape}
use Rattle.names_dict.specs.Dictionaries.{IsTextDimension}
use Rattle.board_callers.specs.Callers.{HasHistoryOf}
use Rattle.core_program.specs.CoreFits.{FitsOwnCalls}
use Rattle.cube_core.specs.CoreSteps.{CoreStep}
use Rattle.row_encoding.specs.FinalCodes.{IsDimText, code_number}
use Rattle.row_encoding.proofs.CubeSteps.{is_text_dimension}
use Rattle.core_names.specs.AskedNames.{HasAskedFor}
use Rattle.core_names.specs.CoreEncoders.{IsCodeInTheEnd, MayAskForCodes}
use Rattle.core_names.specs.KnownNumbers.{TextsByDim, number_known, with_number}
use Rattle.core_names.proofs.GivenCodes.{asked-code, asked-one-more, known-code, may-learned, may-now, moved}
use Rattle.core_names.proofs.encoder.code_of_text.Goals as goal

pub returns-in-Some-clause-code : goal.returns-in-Some-clause-code
returns-in-Some-clause-code g c =
    known-code g.S.LinkedShard.fits g.S.LinkedShard.stands g.S.LinkedShard.says (g.P.CellCaller.opening c.args.caller.now) (g.P.CellCaller.number c.args.caller.now) c.args.session c.args.place c.args.cube.now
    (g.P.CellCaller.own c.args.caller.now) c.args.known.now c.requires.may c.args.dim c.args.text.now c.in-Some.number c.requires.text
    (ap (λ (t : List ℕ). number_known c.args.known.now c.args.dim t) (sym c.as_bytes.ensures.value) ∙ sym c.in-Some.ensures)

pub ask_for_code-requires-clause-may : goal.ask_for_code-requires-clause-may
ask_for_code-requires-clause-may g c =
    let m = c.requires.may in
    let is = c.in_ok-shape.ensures ∙ c.shared_shape.ensures.value in
    c.sessions_may_ask_names_of_told_cubes.ensures.encode (g.P.CellCaller.opening c.args.caller.now) (g.P.CellCaller.number c.args.caller.now) c.args.session
    (g.P.CellCaller.own c.args.caller.now) m.name c.args.place c.args.dim c.args.cube.now c.in_ok-shape.shape c.in_ok-name.name m.client m.is_session m.storable
    m.cube is (subst IsSoundCube (sym c.in_ok-shape.ensures) c.shared_shape.ensures.sound)
    (subst (λ (s : CubeShape). IsTextDimension s c.args.dim) (sym is) (is_text_dimension c.args.cube.now c.args.dim c.requires.text))
    (subst (λ (t : List ℕ). length t ≤ TEXT_BYTES) (sym c.in_ok-name.ensures) c.requires.short)

pub returns-in_err-code-clause-asked : goal.returns-in_err-code-clause-asked
returns-in_err-code-clause-asked g c = λ p k t has.
    subst (λ (x : List ℕ). HasAskedFor (g.P.CellCaller.own c.args.caller.now) p k t ⊎ ((p ≡ c.args.place) × IsDimText c.args.dim x k t)) c.in_ok-name.ensures
    (asked-one-more (g.P.CellCaller.number c.args.caller.now) (g.P.CellCaller.own c.args.caller.now) (g.P.CellCaller.own c.ask_for_code.new.caller) c.args.place c.args.dim
    c.in_ok-shape.shape c.in_ok-name.name c.ask_for_code.result c.ask_for_code.ensures.own p k t has)

pub returns-in_err-learn-clause-asked : goal.returns-in_err-learn-clause-asked
returns-in_err-learn-clause-asked g c = λ p k t has.
    subst (λ (x : List ℕ). HasAskedFor (g.P.CellCaller.own c.args.caller.now) p k t ⊎ ((p ≡ c.args.place) × IsDimText c.args.dim x k t)) c.in_ok-name.ensures
    (asked-one-more (g.P.CellCaller.number c.args.caller.now) (g.P.CellCaller.own c.args.caller.now) (g.P.CellCaller.own c.ask_for_code.new.caller) c.args.place c.args.dim
    c.in_ok-shape.shape c.in_ok-name.name c.ask_for_code.result c.ask_for_code.ensures.own p k t has)

pub returns-clause-asked : goal.returns-clause-asked
returns-clause-asked g c = λ p k t has.
    subst (λ (x : List ℕ). HasAskedFor (g.P.CellCaller.own c.args.caller.now) p k t ⊎ ((p ≡ c.args.place) × IsDimText c.args.dim x k t)) c.in_ok-name.ensures
    (asked-one-more (g.P.CellCaller.number c.args.caller.now) (g.P.CellCaller.own c.args.caller.now) (g.P.CellCaller.own c.ask_for_code.new.caller) c.args.place c.args.dim
    c.in_ok-shape.shape c.in_ok-name.name c.ask_for_code.result c.ask_for_code.ensures.own p k t has)

pub returns-in_err-code-clause-may : goal.returns-in_err-code-clause-may
returns-in_err-code-clause-may g c =
    may-now g.S.LinkedShard.fits g.S.LinkedShard.stands g.S.LinkedShard.says (g.P.CellCaller.opening c.args.caller.now) (g.P.CellCaller.number c.args.caller.now) c.args.session c.args.place c.args.cube.now
    (g.P.CellCaller.own c.args.caller.now) (g.P.CellCaller.own c.ask_for_code.new.caller) _ c.args.known.now c.ask_for_code.ensures.own c.requires.may

pub returns-in_err-learn-clause-may : goal.returns-in_err-learn-clause-may
returns-in_err-learn-clause-may g c =
    let cells = g.P.CellCaller.opening c.args.caller.now in
    let caller = g.P.CellCaller.number c.args.caller.now in
    let now = g.P.CellCaller.own c.ask_for_code.new.caller in
    subst (λ (k : TextsByDim). MayAskForCodes g.S.LinkedShard.fits g.S.LinkedShard.stands g.S.LinkedShard.says cells caller now c.args.session k c.args.place c.args.cube.now) (sym c.in_err-learn.ensures.err)
    (may-now g.S.LinkedShard.fits g.S.LinkedShard.stands g.S.LinkedShard.says cells caller c.args.session c.args.place c.args.cube.now (g.P.CellCaller.own c.args.caller.now) now _ c.args.known.now
    c.ask_for_code.ensures.own c.requires.may)

pub returns-clause-may : goal.returns-clause-may
returns-clause-may g c =
    let cells = g.P.CellCaller.opening c.args.caller.now in
    let caller = g.P.CellCaller.number c.args.caller.now in
    let now = g.P.CellCaller.own c.ask_for_code.new.caller in
    let history = moved (λ x n. HasHistoryOf (CoreStep g.S.ShardCell.step) (FitsOwnCalls g.S.LinkedShard.fits g.S.LinkedShard.stands g.S.LinkedShard.says) x n now) (g.P.CellCaller.opening c.ask_for_code.new.caller) cells
    (g.P.CellCaller.number c.ask_for_code.new.caller) caller (sym c.ask_for_code.ensures.opening) (sym c.ask_for_code.ensures.number) c.ask_for_code.ensures.history
    in
    let opens = c.requires.may.client.opening history.log in
    let r = c.clients_know_their_runs.ensures cells caller c.args.session now opens.0 c.requires.may.client history opens.1 in
    let learned = c.in_ok-learn.ensures.learned
    ∙ ap (λ (t : List ℕ). with_number c.args.known.now c.args.dim t (code_number c.in_ok-code.code)) (c.as_bytes-2.ensures.value ∙ sym c.in_ok-name.ensures)
    in
    subst (λ (k : TextsByDim). MayAskForCodes g.S.LinkedShard.fits g.S.LinkedShard.stands g.S.LinkedShard.says cells caller now c.args.session k c.args.place c.args.cube.now) (sym learned)
    (may-learned g.S.LinkedShard.fits g.S.LinkedShard.stands g.S.LinkedShard.says cells caller c.args.session c.args.place c.args.cube.now (g.P.CellCaller.own c.args.caller.now) c.args.known.now c.requires.may c.args.dim
    c.requires.text c.in_ok-shape.shape c.in_ok-name.name c.in_ok-code.code now c.in_ok-code.ensures.own opens.0 history.log r.run r.is_later)

pub returns-clause-code : goal.returns-clause-code
returns-clause-code g c =
    let cells = g.P.CellCaller.opening c.args.caller.now in
    let caller = g.P.CellCaller.number c.args.caller.now in
    let now = g.P.CellCaller.own c.ask_for_code.new.caller in
    let history = moved (λ x n. HasHistoryOf (CoreStep g.S.ShardCell.step) (FitsOwnCalls g.S.LinkedShard.fits g.S.LinkedShard.stands g.S.LinkedShard.says) x n now) (g.P.CellCaller.opening c.ask_for_code.new.caller) cells
    (g.P.CellCaller.number c.ask_for_code.new.caller) caller (sym c.ask_for_code.ensures.opening) (sym c.ask_for_code.ensures.number) c.ask_for_code.ensures.history
    in
    let opens = c.requires.may.client.opening history.log in
    let r = c.clients_know_their_runs.ensures cells caller c.args.session now opens.0 c.requires.may.client history opens.1 in
    subst (λ (t : List ℕ). IsCodeInTheEnd g.S.LinkedShard.fits g.S.LinkedShard.stands g.S.LinkedShard.says cells caller now c.args.place c.args.cube.now c.args.dim t c.in_ok-code.code) c.in_ok-name.ensures
    (asked-code g.S.LinkedShard.fits g.S.LinkedShard.stands g.S.LinkedShard.says cells caller c.args.session c.args.place c.args.cube.now (g.P.CellCaller.own c.args.caller.now) c.args.known.now c.requires.may c.args.dim
    c.requires.text c.in_ok-shape.shape c.in_ok-name.name c.in_ok-code.code now c.in_ok-code.ensures.own opens.0 history.log r.run r.is_later)
