-- What a run has made of the cells of a core: a desk, names and shards stand where they are to.
use Rattle.std.proofs.Common.{◌≡◌, ℕ, zero, suc, ◌+◌, ◌<◌, ◌≤◌, List, [], ◌∷◌, length, get_or, refl, ap, ◌∙◌, subst, arith}
use lib.ListN.{get_elem?}
use mathlib.Core.Option.{some}
use Rattle.aosi_desk.specs.Desks.{DeskState}
use Rattle.names_dict.specs.Dictionaries.{Dictionary}
use Rattle.core_events.specs.Cells.{counters_of_run, desk_of, shard_view_of}
use Rattle.core_events.specs.Events.{CoreEvent, Opening}
use Rattle.core_program.specs.CoreFits.{cells_for}
use Rattle.cube_core.specs.BoardCells.{StandsInCell}
use Rattle.cube_core.specs.NamesEvents.{AreNamesOf}
use Rattle.cube_core.specs.declared.cell.CoreCell.{CoreCell}
use Rattle.cube_core.specs.declared.cell.CoreCell.TheVariants as cell
use Rattle.linked_shards.specs.CellShards.{CoreShardStands}
use Rattle.linked_shards.specs.declared.cell.CoreShard.{CoreShard}
use Rattle.shard_events.specs.ShardsInRuns.{FitsShard, ShardAnswerSays}
use Rattle.threaded_core.specs.CoreParts.{BeginWith, BeginWithCore, BeginWithShards, HoldParts, IsShardCell}

module _ (o : Opening) (es : List CoreEvent) where
  abbrev Stands : ℕ → CoreCell CoreShard → Type 0
  Stands k x = StandsInCell FitsShard CoreShardStands ShardAnswerSays o k x es

  shard_there : (number : ℕ) (x : CoreCell CoreShard) → number < o.shards → Stands (2 + number) x → IsShardCell x
  shard_there number (cell.Desk desk alloc) lt at = absurd (let e = at.0 in omega (arith, e))
  shard_there number (cell.Names names) lt at = absurd (let e = at.0 in omega (arith, e))
  shard_there number (cell.Shard shard) lt at = tt
  shard_there number (cell.Mail mail) lt at = absurd (let e = at.1 in omega (arith, lt, e))

  further : (from k : ℕ) (x : CoreCell CoreShard) → Stands (2 + (from + suc k)) x → Stands (2 + (suc from + k)) x
  further from k x at = subst (λ n. Stands n x) (let e : 2 + (from + suc k) ≡ 2 + (suc from + k) = omega arith in e) at

  here : (from : ℕ) (x : CoreCell CoreShard) → Stands (2 + (from + 0)) x → Stands (2 + from) x
  here from x at = subst (λ n. Stands n x) (let e : 2 + (from + 0) ≡ 2 + from = omega arith in e) at

  behind_two : (k : ℕ) (x : CoreCell CoreShard) → Stands (suc (suc k)) x → Stands (2 + (0 + k)) x
  behind_two k x at = subst (λ n. Stands n x) (let e : suc (suc k) ≡ 2 + (0 + k) = omega arith in e) at

  shards_there : (many from : ℕ) (cells : List (CoreCell CoreShard)) → from + many ≤ o.shards → many ≤ length cells
      → ((k : ℕ) (x : CoreCell CoreShard) → get_elem? cells k ≡ some x → Stands (2 + (from + k)) x)
      → BeginWithShards many cells
  shards_there zero from cells within long stand = tt
  shards_there (suc many) from [] within long stand = absurd (omega (arith, long))
  shards_there (suc many) from (x ∷ cells) within long stand = (
    shard_there from x (omega (arith, within)) (here from x (stand 0 x refl)),
    shards_there many (suc from) cells (omega (arith, within)) (omega (arith, long))
        (λ k y at. further from k y (stand (suc k) y at)),
  )

  -- The cells of a run begin with a desk, names and all shards.
  pub core_there : (cells : List (CoreCell CoreShard)) → length cells ≡ cells_for o.shards
      → ((k : ℕ) (x : CoreCell CoreShard) → get_elem? cells k ≡ some x → Stands k x) → BeginWithCore o.shards cells
  core_there [] long stand = absurd (omega (arith, long))
  core_there (x ∷ []) long stand = absurd (omega (arith, long))
  core_there (cell.Desk desk alloc ∷ cell.Names names ∷ cells) long stand =
      shards_there o.shards 0 cells (omega arith) (omega (arith, long))
      (λ k x at. behind_two k x (stand (suc (suc k)) x at))
  core_there (cell.Desk desk alloc ∷ cell.Desk other a ∷ cells) long stand =
      absurd (let e = (stand 1 (cell.Desk other a) refl).0 in omega (arith, e))
  core_there (cell.Desk desk alloc ∷ cell.Shard shard ∷ cells) long stand =
      absurd (let e = (stand 1 (cell.Shard shard) refl).1 in omega (arith, e))
  core_there (cell.Desk desk alloc ∷ cell.Mail mail ∷ cells) long stand =
      absurd (let e = (stand 1 (cell.Mail mail) refl).1 in omega (arith, e))
  core_there (cell.Names names ∷ y ∷ cells) long stand =
      absurd (let e = (stand 0 (cell.Names names) refl).0 in omega (arith, e))
  core_there (cell.Shard shard ∷ y ∷ cells) long stand =
      absurd (let e = (stand 0 (cell.Shard shard) refl).1 in omega (arith, e))
  core_there (cell.Mail mail ∷ y ∷ cells) long stand =
      absurd (let e = (stand 0 (cell.Mail mail) refl).1 in omega (arith, e))

  shard_at : (shards : List CoreShard) (cells : List (CoreCell CoreShard)) (k : ℕ) (d : CoreShard)
      → BeginWith shards cells → k < length shards → get_elem? cells k ≡ some (cell.Shard (get_or shards k d))
  shard_at [] cells k d begin lt = absurd (omega arith)
  shard_at (s ∷ shards) [] k d begin lt = absurd begin
  shard_at (s ∷ shards) (x ∷ cells) zero d begin lt = ap (λ y. some y) begin.0
  shard_at (s ∷ shards) (x ∷ cells) (suc k) d begin lt = shard_at shards cells k d begin.1 (omega arith)

  module _ (cells : List (CoreCell CoreShard)) (desk : DeskState) (names : List (List Dictionary))
      (shards : List CoreShard) (parts : HoldParts cells desk names shards)
      (stand : (k : ℕ) (x : CoreCell CoreShard) → get_elem? cells k ≡ some x → Stands k x) where
    pub desk_is : desk ≡ desk_of o es
    desk_is = (stand 0 (cell.Desk desk parts.alloc) (ap (λ l. get_elem? l 0) parts.whole)).1

    pub names_are : AreNamesOf o es names
    names_are = (stand 1 (cell.Names names) (ap (λ l. get_elem? l 1) parts.whole)).1

    pub shard_is : (number : ℕ) (d : CoreShard) → number < length shards
        → CoreShardStands o number (counters_of_run o es).lse (get_or shards number d) (shard_view_of o es)
    shard_is number d lt =
        let at = ap (λ l. get_elem? l (suc (suc number))) parts.whole
        ∙ shard_at shards parts.behind number d parts.shards_are lt in
        let s = stand (suc (suc number)) (cell.Shard (get_or shards number d)) at in
        subst (λ n. CoreShardStands o n (counters_of_run o es).lse (get_or shards number d) (shard_view_of o es))
        (let e = s.1 in let same : s.0 ≡ number = omega (arith, e) in same) s.3
