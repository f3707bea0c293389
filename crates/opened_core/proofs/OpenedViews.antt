-- A shard that holds what is kept stands in a run that opens so.
use Rattle.std.proofs.Common.{◌≡◌, ◌∙◌, ℕ, zero, suc, ◌+◌, ◌-◌, ◌%◌, ◌≤◌, ◌^◌, ◌==◌, Bool, true, List, [], ◌∷◌, length, filter, slice_get, Option, Some, inl, inr, refl, sym, ap, subst, arith, eq-eqb, ne_eqb}
use Rattle.std.proofs.lemmas.List.{take_all}
use Rattle.std.proofs.lemmas.Option.{slice_get_cases}
use Rattle.std.specs.Option.{option_map_or}
use Rattle.cube_values.specs.declared.row.CodedRow.{CodedRow}
use Rattle.cube_values.specs.declared.shape.CubeShape.{CubeShape}
use Rattle.cube_language.specs.declared.decl.Decl.{Decl}
use Rattle.cube_schema.specs.Schemas.{cube_of}
use Rattle.brick_address.specs.Addresses.{brick_of}
use Rattle.cube_rounds.specs.Stands.{Kept}
use Rattle.brick_map.specs.Births.{BrickContent, content_with_rows}
use Rattle.core_events.specs.Cells.{rows_of_brick, shard_view_of}
use Rattle.core_events.specs.Events.{Opening}
use Rattle.core_events.specs.ShardView.{BrickEntry, RowRun, rows_where}
use Rattle.core_program.specs.CoreFits.{CoreEntry, first_decl, decl_made_in}
use Rattle.shard_cell.specs.Slots.{untouched}
use Rattle.shard_cell.specs.Shards.{ShardState}
use Rattle.shard_events.proofs.ZeroRuns.{appended_later}
use Rattle.shard_events.specs.ShardsInRuns.{HasNoZeroRun, StandsInRun}
use Rattle.shard_views.proofs.Above.{then_above}
use Rattle.shard_views.proofs.Alike.{AreAlike, alike_empty, alike_same, where_none}
use Rattle.shard_views.proofs.Grown.{contents_are_whole}
use Rattle.shard_views.specs.Views.{IsWholeContent, ShowAlikeAbove, brick_view}
use Rattle.opened_core.proofs.KeptFacts.{KeptLaws, past-kept, zero-kept, brick-where, none-where}
use Rattle.opened_core.specs.KeptShards.{HoldsKept, kept_in_brick, kept_in_cube}
use Rattle.opened_core.specs.Openings.{no_shape, opening_over, shape_made}

-- The shape of a kept cube.
pub shape-is : (cubes : List Decl) (log : List CoreEntry) (place : ℕ) (cube : Decl) → slice_get cubes place ≡ Some cube
    → shape_made cubes log place ≡ cube_of cube
shape-is cubes log place cube is = ap (λ (d : Option Decl). option_map_or cube_of (first_decl d (decl_made_in place log)) no_shape) is

-- Rows of one epoch, in a brick of which nothing came, are one run.
one-run : (epoch : ℕ) (rows : List CodedRow) → AreAlike (brick_view (content_with_rows epoch rows untouched)) (RowRun epoch rows ∷ [])
one-run epoch [] = alike_empty epoch []
one-run epoch (row ∷ rows) =
    alike_same (brick_view (content_with_rows epoch (row ∷ rows) untouched)) (RowRun epoch (row ∷ rows) ∷ [])
    (ap (λ (l : List CodedRow). RowRun epoch l ∷ []) (take_all ((0 + suc (length rows)) - 0) (row ∷ rows) (omega arith)))

same-above : (low : ℕ) (a : List BrickEntry) → ShowAlikeAbove low a a
same-above low a = record { rows = λ epochs marks uniform. refl; apart = λ one other u v. refl; hidden = λ marks epoch le. refl }

run-above : (low epoch : ℕ) (rows : List CodedRow) → ShowAlikeAbove low (brick_view (content_with_rows epoch rows untouched)) (RowRun epoch rows ∷ [])
run-above low epoch rows =
    then_above low (brick_view (content_with_rows epoch rows untouched)) (RowRun epoch rows ∷ []) (RowRun epoch rows ∷ []) (one-run epoch rows)
    (same-above low (RowRun epoch rows ∷ []))

whole-run : (epoch : ℕ) (rows : List CodedRow) → IsWholeContent (content_with_rows epoch rows untouched)
whole-run epoch rows = (contents_are_whole.later untouched contents_are_whole.first).appended epoch rows

later-run : (epoch : ℕ) (rows : List CodedRow) → (epoch ≡ 0 → rows ≡ []) → HasNoZeroRun (content_with_rows epoch rows untouched).entries
later-run epoch [] none = tt
later-run epoch (row ∷ rows) none =
    appended_later epoch (row ∷ rows) untouched (some epoch none) tt
  where
    some : (e : ℕ) → (e ≡ 0 → row ∷ rows ≡ []) → 1 ≤ e
    some zero nil = (let long = ap (λ (l : List CodedRow). length l) (nil refl) in absurd (omega (arith, long)))
    some (suc e) nil = omega arith

module _ (kept : Kept) (laws : KeptLaws kept) (shards sessions : ℕ) (log : List CoreEntry) where
  abbrev o : Opening
  o = opening_over kept shards sessions log

  -- The rows with which a brick opens.
  brick-rows : (place brick : ℕ) → rows_of_brick o place brick (kept_in_cube kept place) ≡ kept_in_brick kept place brick
  brick-rows place brick = elim (slice_get_cases kept.cubes place).1 [
    | inl there ↦
        subst (λ (shape : CubeShape). filter (λ row. brick_of shape.shape.sizes row.coords == brick) (kept_in_cube kept place) ≡ kept_in_brick kept place brick)
        (sym (shape-is kept.cubes log place there.0 there.2)) (brick-where kept laws place there.0 there.2 (λ b. true) brick)
    | inr none ↦
        ap (λ (rows : List CodedRow). rows_of_brick o place brick rows) (none-where kept laws (λ b. true) place none.1)
        ∙ sym (past-kept kept laws place brick none.0)
  ]

  pub stands-opened : (number : ℕ) (shard : ShardState) → HoldsKept kept shards number shard
      → StandsInRun o number kept.epoch shard (shard_view_of o [])
  stands-opened number shard holds = record {
    limit = subst (λ (n : ℕ). n ≤ 2 ^ 40) (sym holds.limit) (omega arith);
    shapes = holds.shapes o.shapes (shape-is kept.cubes log);
    whole = λ place brick. subst (λ (c : BrickContent). IsWholeContent c) (sym (holds.bricks place brick))
        (whole-run kept.epoch (rows_where (brick % shards == number) (kept_in_brick kept place brick)));
    later = λ place brick. subst (λ (c : BrickContent). HasNoZeroRun c.entries) (sym (holds.bricks place brick))
        (later-run kept.epoch (rows_where (brick % shards == number) (kept_in_brick kept place brick))
        (λ is. ap (λ (rows : List CodedRow). rows_where (brick % shards == number) rows) (zero-kept kept laws is place brick)
        ∙ where_none (brick % shards == number)));
    others = λ place brick out.
        ap (λ (c : BrickContent). c.rows) (holds.bricks place brick)
        ∙ ap (λ (b : Bool). (content_with_rows kept.epoch (rows_where b (kept_in_brick kept place brick)) untouched).rows)
        (ne_eqb (brick % shards) number out);
    own = λ place brick is.
        subst (λ (c : BrickContent). ShowAlikeAbove kept.epoch (brick_view c) (shard_view_of o [] place brick))
        (sym (holds.bricks place brick ∙ ap (λ (b : Bool). content_with_rows kept.epoch (rows_where b (kept_in_brick kept place brick)) untouched)
        (eq-eqb (brick % shards) number is)))
        (subst (λ (rows : List CodedRow). ShowAlikeAbove kept.epoch (brick_view (content_with_rows kept.epoch (kept_in_brick kept place brick) untouched))
        (RowRun kept.epoch rows ∷ [])) (sym (brick-rows place brick))
        (run-above kept.epoch kept.epoch (kept_in_brick kept place brick)));
  }
