-- A batch of one row has one append, to the shard of that row.
use Rattle.std.proofs.Common.{◌≡◌, ◌∙◌, ℕ, zero, suc, ◌+◌, ◌-◌, ◌<◌, ◌≤◌, ◌==◌, Bool, true, false, cond, List, [], ◌∷◌, ◌++◌, length, replicate, refl, sym, ap, subst, arith, inl, inr, if◌then◌else◌}
use Rattle.std.proofs.Math.Nat.{mod-lt}
use Rattle.std.proofs.lemmas.Bool.Decides.{eqb_tells}
use Rattle.std.proofs.lemmas.List.{length-replicate}
use Rattle.cube_values.specs.Batches.{Batch, coded_row_at}
use Rattle.cube_values.specs.declared.row.CodedRow.{CodedRow}
use Rattle.cube_values.specs.declared.shape.CubeShape.{CubeShape}
use Rattle.cube_values.specs.declared.shape.Size.{Size}
use Rattle.brick_address.specs.Addresses.{brick_of}
use Rattle.cube_core.specs.declared.shard.ShardCall.{ShardCall}
use Rattle.cube_core.specs.declared.shard.ShardCall.TheVariants as shard
use Rattle.shard_batches.specs.Counted.{empty_batch}
use Rattle.shard_batches.specs.ShardBatches.{AreShardBatches, IsShardBatch, batch_at, rows_of_shard, shard_of_row}
use Rattle.session_batches.specs.BatchCalls.{AreAppendsOf, append_calls, numbers_with_rows}
use Rattle.session_batches.specs.RowPosts.{has_rows}

only-row : (rows : List CodedRow) → length rows ≡ 1 → rows ≡ coded_row_at rows 0 ∷ []
only-row [] one = absurd (omega (arith, one))
only-row (row ∷ []) one = refl
only-row (row ∷ (next ∷ rows)) one = absurd (omega (arith, one))

module _ (whole : Batch) where
  abbrev none : Batch
  none = empty_batch whole.dims whole.width 0

  -- The whole batch between others, which have no rows.
  abbrev batches_around : ℕ → ℕ → List Batch
  batches_around zero after = whole ∷ replicate after none
  batches_around (suc before) after = none ∷ batches_around before after

  as-many : (before after : ℕ) → length (batches_around before after) ≡ before + suc after
  as-many zero after = omega (arith, length-replicate after none)
  as-many (suc before) after = omega (arith, as-many before after)

  none-at : (n place : ℕ) → place < n → batch_at (replicate n none) place ≡ none
  none-at zero place low = absurd (omega (arith, low))
  none-at (suc n) zero low = refl
  none-at (suc n) (suc place) low = none-at n place (omega (arith, low))

  at-own : (before after place : ℕ) → before ≡ place → batch_at (batches_around before after) place ≡ whole
  at-own zero after zero same = refl
  at-own zero after (suc place) same = absurd (omega (arith, same))
  at-own (suc before) after zero same = absurd (omega (arith, same))
  at-own (suc before) after (suc place) same = at-own before after place (omega (arith, same))

  at-other : (before after place : ℕ) → place < before + suc after → (before ≡ place → ⊥)
      → batch_at (batches_around before after) place ≡ none
  at-other zero after zero low other = absurd (other refl)
  at-other zero after (suc place) low other = none-at after place (omega (arith, low))
  at-other (suc before) after zero low other = refl
  at-other (suc before) after (suc place) low other =
      at-other before after place (omega (arith, low)) (λ same. other (ap suc same))

  no-numbers : (first n : ℕ) → numbers_with_rows first (replicate n none) ≡ []
  no-numbers first zero = refl
  no-numbers first (suc n) = no-numbers (first + 1) n

  one-number : (first before after : ℕ) → has_rows whole.rows ≡ true
      → numbers_with_rows first (batches_around before after) ≡ (first + before) ∷ []
  one-number first zero after some =
      let same : first ≡ first + 0 = omega arith in
      (λ i. (if some i then first ∷ [] else []) ++ no-numbers (first + 1) after i) ∙ ap (λ (n : ℕ). n ∷ []) same
  one-number first (suc before) after some =
      let same : first + 1 + before ≡ first + suc before = omega arith in
      one-number (first + 1) before after some ∙ ap (λ (n : ℕ). n ∷ []) same

  module _ (cube : ℕ) (shape : CubeShape) (epoch : ℕ) where
    no-calls : (n : ℕ) → append_calls cube shape epoch (replicate n none) ≡ []
    no-calls zero = refl
    no-calls (suc n) = no-calls n

    one-call : (before after : ℕ) → has_rows whole.rows ≡ true
        → append_calls cube shape epoch (batches_around before after) ≡ shard.Append cube shape epoch whole ∷ []
    one-call zero after some =
        λ i. (if some i then shard.Append cube shape epoch whole ∷ [] else []) ++ no-calls after i
    one-call (suc before) after some = one-call before after some

  module _ (sizes : List Size) (shards : ℕ) (row : CodedRow) (is : whole.rows ≡ row ∷ []) where
    own-row : (place : ℕ) → (shard_of_row sizes shards row == place) ≡ true
        → IsShardBatch sizes shards place whole whole
    own-row place own = record {
      rows = is ∙ ap (λ (t : Bool). cond t (row ∷ []) []) (sym own) ∙ ap (rows_of_shard sizes shards place) (sym is);
      dims = refl;
      width = refl;
    }

    no-row : (place : ℕ) → (shard_of_row sizes shards row == place) ≡ false
        → IsShardBatch sizes shards place whole none
    no-row place other = record {
      rows = ap (λ (t : Bool). cond t (row ∷ []) []) (sym other) ∙ ap (rows_of_shard sizes shards place) (sym is);
      dims = refl;
      width = refl;
    }

    -- The whole batch at the shard of its row, with those without rows around it, is split by shard.
    split-around : (after : ℕ) → shard_of_row sizes shards row + suc after ≡ shards
        → AreShardBatches sizes shards whole (batches_around (shard_of_row sizes shards row) after)
    split-around after long =
        let owner = shard_of_row sizes shards row in
        let many = as-many owner after in
        record {
          each = omega (arith, many, long);
          of_shard = λ place below. elim (eqb_tells owner place) [
            | inl e ↦ subst (IsShardBatch sizes shards place whole) (sym (at-own owner after place e.1))
                (own-row place e.0)
            | inr e ↦ subst (IsShardBatch sizes shards place whole)
                (sym (at-other owner after place (omega (arith, below, long)) e.1)) (no-row place e.0)
          ];
        }

-- The one append has the whole batch.
pub one-append-of : (shards cube : ℕ) (shape : CubeShape) (epoch : ℕ) (whole : Batch) (numbers : List ℕ)
    (calls : List ShardCall)
    → 1 ≤ shards → length whole.rows ≡ 1
    → numbers ≡ shard_of_row shape.shape.sizes shards (coded_row_at whole.rows 0) ∷ []
    → calls ≡ shard.Append cube shape epoch whole ∷ []
    → AreAppendsOf shards cube shape epoch whole numbers calls
one-append-of shards cube shape epoch whole numbers calls some one numbers-are calls-are =
    let row = coded_row_at whole.rows 0 in
    let is = only-row whole.rows one in
    let rows : has_rows whole.rows ≡ true = ap has_rows is in
    let owner = shard_of_row shape.shape.sizes shards row in
    let low : owner < shards = mod-lt (brick_of shape.shape.sizes row.coords) some in
    let after = shards - (owner + 1) in
    let same : 0 + owner ≡ owner = omega arith in
    record {
      batches = batches_around whole owner after;
      split = split-around whole shape.shape.sizes shards row is after (omega (arith, low));
      numbers_are = numbers-are ∙ sym (one-number whole 0 owner after rows ∙ ap (λ (n : ℕ). n ∷ []) same);
      calls_are = calls-are ∙ sym (one-call whole cube shape epoch owner after rows);
    }
