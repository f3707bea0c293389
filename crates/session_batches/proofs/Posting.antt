-- What is posted, by the rows of each shard.
use Rattle.std.proofs.Common.{◌≡◌, ◌∙◌, ℕ, suc, ◌+◌, ◌<◌, Bool, true, false, cond, List, [], ◌∷◌, ◌++◌, filter, length, map, reverse, refl, sym, ap, arith, if◌then◌else◌}
use Rattle.std.proofs.lemmas.Grind.{reverse_onto}
use Rattle.std.specs.List.{range_with_len}
use Rattle.cube_values.specs.Batches.{Batch}
use Rattle.cube_values.specs.declared.row.CodedRow.{CodedRow}
use Rattle.cube_values.specs.declared.shape.CubeShape.{CubeShape}
use Rattle.cube_values.specs.declared.shape.Size.{Size}
use Rattle.cube_core.specs.BoardCells.{call_job}
use Rattle.core_events.specs.Events.{Post, ClientCall}
use Rattle.core_events.specs.Jobs.{Append}
use Rattle.cube_core.specs.declared.shard.ShardCall.{ShardCall}
use Rattle.cube_core.specs.declared.shard.ShardCall.TheVariants as shard
use Rattle.job_groups.specs.AskedSome.{posts_to}
use Rattle.shard_batches.specs.ShardBatches.{AreShardBatches, batch_at, rows_of_shard}
use Rattle.session_batches.specs.BatchCalls.{append_calls, numbers_with_rows}
use Rattle.session_batches.specs.RowPosts.{has_rows, row_post, row_posts, shards_with_rows}

module _ (sizes : List Size) (shards : ℕ) (rows : List CodedRow) where
  -- Batches are those of the shards from a number on.
  abbrev HaveRows : ℕ → List Batch → Type 0
  HaveRows first bs = (k : ℕ) → k < length bs → (batch_at bs k).rows ≡ rows_of_shard sizes shards (first + k) rows

  have-rest : (first : ℕ) (b : Batch) (bs : List Batch) → HaveRows first (b ∷ bs) → HaveRows (first + 1) bs
  have-rest first b bs have k low =
      let same : first + suc k ≡ first + 1 + k = omega arith in
      have (suc k) (omega (arith, low)) ∙ ap (λ (n : ℕ). rows_of_shard sizes shards n rows) same

  have-first : (first : ℕ) (b : Batch) (bs : List Batch) → HaveRows first (b ∷ bs)
      → b.rows ≡ rows_of_shard sizes shards first rows
  have-first first b bs have =
      let same : first + 0 ≡ first = omega arith in
      have 0 (omega arith) ∙ ap (λ (n : ℕ). rows_of_shard sizes shards n rows) same

  one-or-none : (t : Bool) (n : ℕ) (ns : List ℕ) → (if t then n ∷ [] else []) ++ ns ≡ cond t (n ∷ ns) ns
  one-or-none true n ns = refl
  one-or-none false n ns = refl

  -- The shards that are asked are those with rows.
  pub numbers-are : (first : ℕ) (bs : List Batch) → HaveRows first bs
      → numbers_with_rows first bs ≡ filter (λ (n : ℕ). has_rows (rows_of_shard sizes shards n rows))
      (range_with_len first (length bs))
  numbers-are first [] have = refl
  numbers-are first (b ∷ bs) have =
      one-or-none (has_rows b.rows) first (numbers_with_rows (first + 1) bs)
      ∙ ap (λ (l : List CodedRow). cond (has_rows l) (first ∷ numbers_with_rows (first + 1) bs)
      (numbers_with_rows (first + 1) bs)) (have-first first b bs have)
      ∙ ap (λ (l : List ℕ). cond (has_rows (rows_of_shard sizes shards first rows)) (first ∷ l) l)
      (numbers-are (first + 1) bs (have-rest first b bs have))

  posts-with : (t : Bool) (n : ℕ) (c : ShardCall) (ns : List ℕ) (cs : List ShardCall) (post : ℕ → ClientCall)
      → Post n (call_job c) ≡ post n → posts_to ns cs ≡ reverse (map post ns)
      → posts_to ((if t then n ∷ [] else []) ++ ns) ((if t then c ∷ [] else []) ++ cs) ≡ reverse
      (map post ((if t then n ∷ [] else []) ++ ns))
  posts-with true n c ns cs post is rest =
      (λ i. rest i ++ is i ∷ []) ∙ sym (reverse_onto (map post ns) (post n) [])
  posts-with false n c ns cs post is rest = rest

  -- Each is asked to append its own.
  pub posts-are : (cube : ℕ) (shape : CubeShape) (epoch first : ℕ) (bs : List Batch) → HaveRows first bs
      → posts_to (numbers_with_rows first bs) (append_calls cube shape epoch bs)
      ≡ reverse (map (row_post sizes shards cube epoch rows) (numbers_with_rows first bs))
  posts-are cube shape epoch first [] have = refl
  posts-are cube shape epoch first (b ∷ bs) have =
      posts-with (has_rows b.rows) first (shard.Append cube shape epoch b) (numbers_with_rows (first + 1) bs)
      (append_calls cube shape epoch bs) (row_post sizes shards cube epoch rows)
      (ap (λ (l : List CodedRow). Post first (Append cube epoch l)) (have-first first b bs have))
      (posts-are cube shape epoch (first + 1) bs (have-rest first b bs have))

-- Of batches split by shard.
have-all : (sizes : List Size) (shards : ℕ) (whole : Batch) (bs : List Batch) → AreShardBatches sizes shards whole bs
    → HaveRows sizes shards whole.rows 0 bs
have-all sizes shards whole bs are k low =
    let each = are.each in
    let same : k ≡ 0 + k = omega arith in
    (are.of_shard k (omega (arith, each, low))).rows ∙ ap (λ (n : ℕ). rows_of_shard sizes shards n whole.rows) same

pub split-numbers : (sizes : List Size) (shards : ℕ) (whole : Batch) (bs : List Batch)
    → AreShardBatches sizes shards whole bs
    → numbers_with_rows 0 bs ≡ shards_with_rows sizes shards whole.rows
split-numbers sizes shards whole bs are =
    numbers-are sizes shards whole.rows 0 bs (have-all sizes shards whole bs are)
    ∙ ap (λ (n : ℕ). filter (λ (m : ℕ). has_rows (rows_of_shard sizes shards m whole.rows)) (range_with_len 0 n))
    are.each

pub split-posts : (sizes : List Size) (shards : ℕ) (whole : Batch) (bs : List Batch) (cube : ℕ) (shape : CubeShape)
    (epoch : ℕ)
    → AreShardBatches sizes shards whole bs
    → posts_to (numbers_with_rows 0 bs) (append_calls cube shape epoch bs) ≡ row_posts sizes shards cube epoch
    whole.rows
split-posts sizes shards whole bs cube shape epoch are =
    posts-are sizes shards whole.rows cube shape epoch 0 bs (have-all sizes shards whole bs are)
    ∙ ap (λ (l : List ℕ). reverse (map (row_post sizes shards cube epoch whole.rows) l))
    (split-numbers sizes shards whole bs are)
