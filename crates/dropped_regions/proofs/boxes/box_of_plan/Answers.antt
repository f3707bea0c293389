use Rattle.std.proofs.Common.{◌≡◌, ◌∙◌, inl, inr, List, [], ◌∷◌, sym, subst}
use Rattle.std.specs.Prelude.{IfOk}
use Rattle.condition_spans.specs.Codes.{codes_in}
use Rattle.core_names.specs.NamesInTheEnd.{MayLeaveNames}
use Rattle.cube_values.specs.declared.operation.Condition.{Condition}
use Rattle.query_plan.specs.Bindings.{IsDropSpan}
use Rattle.row_encoding.specs.CodedTexts.{AreNames, AskTheirKinds, ComparesWith, HavePlaces}
use Rattle.row_encoding.specs.FinalCodes.{InTheEnd}
use Rattle.dropped_regions.proofs.AskedKinds.{region_asks}
use Rattle.dropped_regions.proofs.BoxesOfPlans.{if-box}
use Rattle.dropped_regions.proofs.OneCube.{on-it}
use Rattle.dropped_regions.proofs.boxes.box_of_plan.Goals as goal

pub encode_conditions-requires-clause-kinds : goal.encode_conditions-requires-clause-kinds
encode_conditions-requires-clause-kinds g c =
    let d = c.args.cube.now in
    let on = on-it d c.args.statement.now c.args.plan.now c.requires.plan in
    subst (λ (conditions : List Condition). AskTheirKinds d.dims conditions)
    (sym (c.as_slice-conditions.ensures ∙ on.conditions)) (region_asks d c.args.statement.now on.fits)

pub returns-clause-span : goal.returns-clause-span
returns-clause-span g c =
    let fits = g.S.LinkedShard.fits in
    let stands = g.S.LinkedShard.stands in
    let says = g.S.LinkedShard.says in
    let new = c.encode_conditions.new.caller in
    let cells = g.P.CellCaller.opening new in
    let caller = g.P.CellCaller.number new in
    let own = g.P.CellCaller.own new in
    let d = c.args.cube.now in
    let place = c.args.place in
    let codes = c.in_ok-codes.codes.items in
    let same = c.as_slice-conditions.ensures in
    if-box fits stands says cells caller own place d c.args.session c.encode_conditions.new.known c.args.statement.now
    c.args.plan.now codes c.span_on.result c.encode_conditions.ensures.may
    c.statements_are_bound_to_what_they_ask.ensures.spans c.requires.plan
    (coe 0 1 (i. InTheEnd (MayLeaveNames fits stands says cells caller own) place
    (λ lists. AreNames lists → codes ≡ codes_in lists (same i))) c.in_ok-codes.ensures.codes)
    (coe 0 1 (i. InTheEnd (MayLeaveNames fits stands says cells caller own) place
    (λ lists. HavePlaces d.dims lists (same i))) c.in_ok-codes.ensures.places)
    (coe 0 1 (i. IfOk c.span_on.result (IsDropSpan (d ∷ []) c.args.plan.now (c.as_slice.ensures.value i)))
    c.span_on.ensures)

pub returns-clause-asked : goal.returns-clause-asked
returns-clause-asked g c = λ p k t has.
    let on = on-it c.args.cube.now c.args.statement.now c.args.plan.now c.requires.plan in
    elim (c.encode_conditions.ensures.asked p k t has) [
      | inl old ↦ inl old
      | inr is ↦
          inr (record {
            here = is.0;
            fits_it = on.fits;
            has =
                subst (λ (conditions : List Condition). ComparesWith conditions k t)
                (c.as_slice-conditions.ensures ∙ on.conditions) is.1;
          })
    ]
