use Rattle.std.proofs.Common.{List, sym, ap, subst, ◌∙◌}
use Rattle.brick_map.specs.declared.deletion.Deletion.{Deletion}
use Rattle.brick_map.specs.Batches.{AreRuns}
use Rattle.brick_map.specs.Births.{BrickContent, CubeState, brick_in, content_among, content_with_rows, rows_of_brick, cube_sizes}
use Rattle.brick_map.proofs.Content.{appended_among}
use Rattle.brick_map.proofs.cube.CubeBricks.append_by_runs.Goals as goal

pub returns-clause-appended : goal.returns-clause-appended
returns-clause-appended c = λ number.
    let old = c.self.inside in
    let sizes = old.shape.shape.sizes in
    let rows = c.args.batch.now.rows in
    let parts = c.as_slice-parts.result.now in
    let waiting = c.as_slice-waiting.result.now in
    let mid = c.prepare_runs.new.list in
    let new = c.append_runs.new.list in
    let are = subst (AreRuns sizes rows 0) (sym c.as_slice-parts.ensures.value) c.in_ok-runs.ensures in
    let more : BrickContent → BrickContent = content_with_rows c.args.epoch (rows_of_brick sizes number rows) in
    ap (λ (r : List Deletion). content_among sizes r new number) (sym c.as_slice-waiting.ensures.value)
    ∙ appended_among old.shape waiting c.args.epoch number rows parts mid new are (c.in_ok-prepare_runs.ensures.room number) c.append_runs.ensures
    ∙ ap more (c.in_ok-prepare_runs.ensures.readied.same number)
    ∙ ap (λ (r : List Deletion). more (content_among sizes r old.list number)) c.as_slice-waiting.ensures.value
    ∙ ap (λ (s : CubeState). content_with_rows c.args.epoch (rows_of_brick (cube_sizes s) number rows) (brick_in s number)) c.self.view_is
