use Rattle.std.proofs.Common.{List, [], ◌∷◌, ◌++◌, All, cond, sym, ap, subst, ◌∙◌, arith}
use Rattle.std.proofs.lemmas.List.Elements.{All-push}
use Rattle.cube_values.specs.declared.span.Span.{Span}
use Rattle.condition_spans.specs.Spans.{CutNoBrick}
use Rattle.brick_store.specs.Bricks.{BrickState}
use Rattle.brick_map.specs.declared.deletion.Deletion.{Deletion}
use Rattle.brick_map.specs.Births.{CubeState, brick_in, content_among, content_with_mark, has_brick, rows_count, cube_sizes}
use Rattle.brick_map.specs.Lists.{IsBrickOf, brick_after_deletion}
use Rattle.brick_map.specs.Waiting.{IsWaiting}
use Rattle.brick_map.proofs.Content.{deleted_among}
use Rattle.brick_map.proofs.Counts.{count_map_same, same_bricks, same_count}
use Rattle.brick_map.proofs.Cubes.{all_mapped, deleted_rows, numbers_below, on_err, same_among, whole_with}
use Rattle.brick_map.proofs.Newborn.{deleted_home}
use Rattle.brick_map.proofs.cube.CubeBricks.drop_box.Goals as goal

pub invariant_of-self : goal.invariant_of-self
invariant_of-self c =
    let old = c.self.inside in
    let recent = subst (All (IsWaiting old.shape.shape.sizes)) (sym c.in_err-reserve.ensures.items) c.self.invariant.recent in
    whole_with old old.list c.reserve.new.self old.rows c.self.invariant c.self.invariant.bricks recent c.self.invariant.rows c.self.invariant.few

pub invariant_of-self-in_err-prepare_deletions : goal.invariant_of-self-in_err-prepare_deletions
invariant_of-self-in_err-prepare_deletions c =
    let old = c.self.inside in
    let mid = c.prepare_deletions.new.self in
    let same = c.in_err-prepare_deletions.ensures.same in
    let count = same_count old.list mid same in
    let recent = subst (All (IsWaiting old.shape.shape.sizes)) (sym c.in_ok-reserve.ensures.items) c.self.invariant.recent in
    whole_with old mid c.reserve.new.self old.rows c.self.invariant (same_bricks old.shape old.list mid same c.self.invariant.bricks) recent (c.self.invariant.rows ∙ sym count) (omega (arith, count, c.self.invariant.few))

pub returns-in_err-prepare_deletions-clause-count : goal.returns-in_err-prepare_deletions-clause-count
returns-in_err-prepare_deletions-clause-count c =
    same_count c.self.inside.list c.prepare_deletions.new.self c.in_err-prepare_deletions.ensures.same
    ∙ ap (λ (s : CubeState). rows_count s.bricks) c.self.view_is

pub returns-in_err-prepare_deletions-clause-err : goal.returns-in_err-prepare_deletions-clause-err
returns-in_err-prepare_deletions-clause-err c =
    let old = c.self.inside in
    let mid = c.prepare_deletions.new.self in
    let same = c.in_err-prepare_deletions.ensures.same in
    on_err c.from_residual-in_err-prepare_deletions.result _ (record {
      same = λ number.
          ap (λ (r : List Deletion). content_among old.shape.shape.sizes r mid number) c.in_ok-reserve.ensures.items
          ∙ same_among old.shape old.recent.items old.list mid number same
          ∙ ap (λ (s : CubeState). brick_in s number) c.self.view_is;
      count = same_count old.list mid same ∙ ap (λ (s : CubeState). rows_count s.bricks) c.self.view_is;
    })

pub delete-requires-clause-bricks : goal.delete-requires-clause-bricks
delete-requires-clause-bricks c =
    let old = c.self.inside in
    let mid = c.prepare_deletions.new.self in
    numbers_below old.shape mid (same_bricks old.shape old.list mid c.in_ok-prepare_deletions.ensures.same c.self.invariant.bricks)

pub invariant_of-self-2 : goal.invariant_of-self-2
invariant_of-self-2 c =
    let old = c.self.inside in
    let sizes = old.shape.shape.sizes in
    let mid = c.prepare_deletions.new.self in
    let same = c.in_ok-prepare_deletions.ensures.same in
    let f : BrickState → BrickState = brick_after_deletion sizes c.args.span.now c.args.epoch in
    let d : Deletion = record { epoch = c.args.epoch; span = c.in_ok-copied.copied } in
    let P : Deletion → Type 0 = IsWaiting sizes in
    let whole = subst (λ (s : CubeState). CutNoBrick (cube_sizes s) c.args.span.now.parts) (sym c.self.view_is) c.requires.whole in
    let waits : P d = subst (λ (span : Span). P (record { epoch = c.args.epoch; span = span })) (sym c.in_ok-copied.ensures) (record { parts = c.requires.parts; whole = whole }) in
    let items = c.push_reserved.ensures.items ∙ ap (λ (l : List Deletion). l ++ d ∷ []) c.in_ok-reserve.ensures.items in
    let recent = subst (All P) (sym items) (All-push P old.recent.items d c.self.invariant.recent waits) in
    let all_mid = same_bricks old.shape old.list mid same c.self.invariant.bricks in
    let bricks = subst (All (IsBrickOf old.shape)) (sym c.delete.ensures) (all_mapped old.shape f mid (deleted_home sizes c.args.span.now c.args.epoch) all_mid) in
    let count = ap rows_count c.delete.ensures ∙ count_map_same f mid (deleted_rows sizes c.args.span.now c.args.epoch) ∙ same_count old.list mid same in
    whole_with old c.delete.new.self c.push_reserved.new.self old.rows c.self.invariant bricks recent (c.self.invariant.rows ∙ sym count) (omega (arith, count, c.self.invariant.few))

pub returns-clause-deleted : goal.returns-clause-deleted
returns-clause-deleted c = λ number.
    let old = c.self.inside in
    let sizes = old.shape.shape.sizes in
    let mid = c.prepare_deletions.new.self in
    let same = c.in_ok-prepare_deletions.ensures.same in
    let d : Deletion = record { epoch = c.args.epoch; span = c.args.span.now } in
    let put : Span → Deletion = λ span. record { epoch = c.args.epoch; span = span } in
    let items = c.push_reserved.ensures.items ∙ (λ t. c.in_ok-reserve.ensures.items t ++ put (c.in_ok-copied.ensures t) ∷ []) in
    let all_mid = same_bricks old.shape old.list mid same c.self.invariant.bricks in
    (λ t. content_among sizes (items t) (c.delete.ensures t) number)
    ∙ deleted_among old.shape old.recent.items d number old.list mid same all_mid
    ∙ ap (λ (s : CubeState). cond (has_brick (cube_sizes s) c.args.span.now number) (content_with_mark c.args.epoch (brick_in s number)) (brick_in s number)) c.self.view_is

pub returns-clause-count : goal.returns-clause-count
returns-clause-count c =
    let old = c.self.inside in
    let sizes = old.shape.shape.sizes in
    let mid = c.prepare_deletions.new.self in
    let f : BrickState → BrickState = brick_after_deletion sizes c.args.span.now c.args.epoch in
    ap rows_count c.delete.ensures
    ∙ count_map_same f mid (deleted_rows sizes c.args.span.now c.args.epoch)
    ∙ same_count old.list mid c.in_ok-prepare_deletions.ensures.same
    ∙ ap (λ (s : CubeState). rows_count s.bricks) c.self.view_is
