use Rattle.std.proofs.Common.{◌≡◌, length, sym, ◌∙◌, arith}
use Rattle.std.proofs.lemmas.Bool.Decides.{nat_tests}
use Rattle.std.proofs.lemmas.Grind.{common_steps}
use Rattle.std.proofs.lemmas.List.Elements.{All-nil}
use Rattle.cube_language.specs.Pieces.{statements_limit}
use Rattle.sql_words.specs.Texts.{IsTextAt}
use Rattle.sql_words.proofs.PiecesLeft.{split_none, split_past, split_more, split_all, split_many, few_more}
use Rattle.sql_words.proofs.PieceTexts.{left_none, left_body, left_end, left_behind_end, text_at, texts_more}
use Rattle.sql_words.proofs.piece.pieces_of.Goals as goal

pub pieces-init : goal.pieces-init
pieces-init c = record {
  split = rw c.new-pieces.ensures (split_none c.args.script.now);
  few = rw c.new-pieces.ensures (omega arith);
  texts = rw c.new-pieces.ensures (All-nil (IsTextAt c.args.script.now));
  left = left_none c.args.script.now c.requires;
}

pub pieces-preserved-then-end-body : goal.pieces-preserved-then-end-body
pieces-preserved-then-end-body c = record {
  split = rw c.behind_end-rest.ensures (split_past _ _ _ _ _ c.pieces.invariant.split c.behind_gap-body.ensures.gap c.behind_body-end.ensures.body (omega arith));
  few = c.pieces.invariant.few;
  texts = c.pieces.invariant.texts;
  left = rw c.behind_end-rest.ensures (left_behind_end c.args.script.now c.requires _ c.behind_body-end.ensures.body.stops (left_end c.args.script.now c.requires _ _ c.behind_body-end.ensures.body (left_body c.args.script.now c.requires _ _ c.behind_gap-body.ensures.gap c.pieces.invariant.left)));
}

pub returns-then-len-eq-MOST_STATEMENTS-clause-none : goal.returns-then-len-eq-MOST_STATEMENTS-clause-none
returns-then-len-eq-MOST_STATEMENTS-clause-none c =
    let full : length c.pieces.pieces ≡ statements_limit = sym c.len.ensures ∙ c.if-len-eq-MOST_STATEMENTS.true in
    split_many _ _ _ _ (split_more _ _ _ _ _ c.pieces.invariant.split c.behind_gap-body.ensures.gap c.behind_body-end.ensures.body (omega arith)) full

pub pieces-preserved : goal.pieces-preserved
pieces-preserved c = record {
  split = rw (c.in_ok-push.ensures.ok, c.behind_end-rest.ensures) (split_more _ _ _ _ _ c.pieces.invariant.split c.behind_gap-body.ensures.gap c.behind_body-end.ensures.body (omega arith));
  few = rw c.in_ok-push.ensures.ok (few_more c.pieces.pieces _ c.pieces.invariant.few (λ full. c.if-len-eq-MOST_STATEMENTS.false (c.len.ensures ∙ full)));
  texts =
      let body = left_body c.args.script.now c.requires _ _ c.behind_gap-body.ensures.gap c.pieces.invariant.left in
      let end = left_end c.args.script.now c.requires _ _ c.behind_body-end.ensures.body body in
      rw c.in_ok-push.ensures.ok (texts_more c.args.script.now c.pieces.pieces _ c.pieces.invariant.texts (text_at c.args.script.now c.requires _ _ body end c.behind_body-end.ensures.within));
  left = rw c.behind_end-rest.ensures (left_behind_end c.args.script.now c.requires _ c.behind_body-end.ensures.body.stops (left_end c.args.script.now c.requires _ _ c.behind_body-end.ensures.body (left_body c.args.script.now c.requires _ _ c.behind_gap-body.ensures.gap c.pieces.invariant.left)));
}

pub returns-clause-some : goal.returns-clause-some
returns-clause-some c = (split_all _ _ _ c.pieces.invariant.split (grind (arith, nat_tests, common_steps)), c.pieces.invariant.few)
