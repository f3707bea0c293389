-- Shards that are taken out of the first cells, one after the other.
use Rattle.std.proofs.Common.{◌≡◌, ℕ, suc, ◌+◌, ◌-◌, ◌<◌, List, [], ◌∷◌, ◌++◌, length, get_or, sym, ap, ◌∙◌, subst, arith}
use Rattle.std.proofs.lemmas.List.{append_assoc, append-nil}
use Rattle.std.specs.List.{remove}
use Rattle.cube_core.specs.declared.cell.CoreCell.{CoreCell}
use Rattle.cube_core.specs.declared.cell.CoreCell.TheVariants as cell
use Rattle.linked_shards.specs.declared.cell.CoreShard.{CoreShard}
use Rattle.threaded_core.specs.CoreParts.{BeginWith, BeginWithShards, IsShardCell}

-- One more is to be taken.
pub more_begin : (many number : ℕ) (cells : List (CoreCell CoreShard)) → number < many
    → BeginWithShards (many - number) cells → BeginWithShards (suc (many - (number + 1))) cells
more_begin many number cells lt begin =
    let same : many - number ≡ suc (many - (number + 1)) = omega (arith, lt) in
    subst (λ n. BeginWithShards n cells) same begin

pub some_cell : (n : ℕ) (cells : List (CoreCell CoreShard)) → BeginWithShards (suc n) cells → 0 < length cells
some_cell n [] begin = absurd begin
some_cell n (held ∷ cells) begin = omega arith

pub shard_first : (n : ℕ) (cells : List (CoreCell CoreShard)) (first : CoreCell CoreShard)
    → BeginWithShards (suc n) cells → first ≡ get_or cells 0 first → IsShardCell first
shard_first n [] first begin is = absurd begin
shard_first n (held ∷ cells) first begin is = subst (λ x. IsShardCell x) (sym is) begin.0

pub others_begin : (n : ℕ) (cells : List (CoreCell CoreShard)) → BeginWithShards (suc n) cells
    → BeginWithShards n (remove cells 0)
others_begin n [] begin = absurd begin
others_begin n (held ∷ cells) begin = begin.1

begin_one_more : (n : ℕ) (cells : List (CoreCell CoreShard)) (first : CoreCell CoreShard) (shard : CoreShard)
    (rest : List CoreShard) → BeginWithShards (suc n) cells → first ≡ get_or cells 0 first → first ≡ cell.Shard shard
    → BeginWith rest (remove cells 0) → BeginWith (shard ∷ rest) cells
begin_one_more n [] first shard rest begin is held others = absurd begin
begin_one_more n (x ∷ cells) first shard rest begin is held others = (sym is ∙ held, others)

-- It was taken.
pub taken_begin : (n : ℕ) (whole cells left : List (CoreCell CoreShard)) (first : CoreCell CoreShard)
    (shard : CoreShard) (shards now : List CoreShard) → BeginWithShards (suc n) cells → first ≡ get_or cells 0 first
    → first ≡ cell.Shard shard → left ≡ remove cells 0 → now ≡ shards ++ shard ∷ []
    → ((rest : List CoreShard) → BeginWith rest cells → BeginWith (shards ++ rest) whole)
    → (rest : List CoreShard) → BeginWith rest left → BeginWith (now ++ rest) whole
taken_begin n whole cells left first shard shards now begin is held left-is now-is so_far rest others =
    subst (λ l. BeginWith l whole) (sym (append_assoc shards (shard ∷ []) rest) ∙ ap (λ l. l ++ rest) (sym now-is))
    (so_far (shard ∷ rest) (begin_one_more n cells first shard rest begin is held
    (subst (λ l. BeginWith rest l) left-is others)))

pub all_begin : (whole cells : List (CoreCell CoreShard)) (shards : List CoreShard)
    → ((rest : List CoreShard) → BeginWith rest cells → BeginWith (shards ++ rest) whole) → BeginWith shards whole
all_begin whole cells shards all = subst (λ l. BeginWith l whole) (append-nil shards) (all [] tt)
