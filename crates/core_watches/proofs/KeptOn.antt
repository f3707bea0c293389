-- What a session keeps of its watch it keeps by calls that leave the watch as it is.
use Rattle.std.proofs.Common.{◌≡◌, ℕ, List, [], Option, Some, None, sym, subst}
use mathlib.Core.List.{IsPrefix}
use Rattle.core_watches.proofs.BoundAtReaders.{still-bound}
use Rattle.core_watches.specs.BoundReaders.{IsBoundWatch, IsShownWatch}
use Rattle.core_watches.specs.WatchEnds.{WatchesCube}
use Rattle.core_program.specs.CoreFits.{CoreEntry}
use Rattle.core_watches.specs.KeptWatches.{HoldersHold, IsShownAt, KeepsWatch, KeepsWatchOrNone}
use Rattle.core_watches.specs.declared.kept.CoreWatch.{CoreWatch}
use Rattle.core_watches.specs.declared.kept.ShownWatch.{ShownWatch}
use Rattle.cube_core.specs.declared.cell.CoreCell.{CoreCell}
use Rattle.cube_language.specs.declared.decl.Decl.{Decl}
use Rattle.cube_language.specs.declared.statement.Statement.{Statement}
use Rattle.kept_holders.proofs.LeftHolders.{holders-left}
use Rattle.known_cubes.proofs.ToldCubes.{told-later}
use Rattle.known_cubes.specs.KnownCubes.{IsToldOfCube}
use Rattle.linked_shards.specs.CellShards.{CoreShardStands}
use Rattle.linked_shards.specs.declared.cell.CoreShard.{CoreShard}
use Rattle.scripted_pasts.specs.Served.{LeavesItsWatch}
use Rattle.session_watches.proofs.KeptHolders.{none-held}
use Rattle.session_watches.specs.KnownReaders.{HoldersKeep}
use Rattle.shard_events.specs.ShardsInRuns.{FitsShard, ShardAnswerSays}
use Rattle.watch_holds.specs.HolderStates.{NoReader, OneReader}
use Rattle.watched_queries.proofs.FollowedWatches.{watch-stays}
use Rattle.watched_queries.specs.declared.watch.SessionWatch.{SessionWatch}

pub still-told : (own now : List CoreEntry) (name : List ℕ) (place : ℕ) (d : Decl) → IsPrefix own now
    → IsToldOfCube own name place d → IsToldOfCube now name place d
still-told own now name place d more told =
    subst (λ (l : List CoreEntry). IsToldOfCube l name place d) more.1 (told-later own more.0 name place d told)

pub still-watches : (own now : List CoreEntry) (s : Statement) (place : ℕ) (d : Decl) → IsPrefix own now
    → WatchesCube s place d own → WatchesCube s place d now
still-watches own now s place d more w = record {
  form = w.form;
  name = w.name;
  needed = w.needed;
  told = still-told own now w.name place d more w.told;
  fits = w.fits;
}

module _ (cells : List (CoreCell CoreShard)) (caller session : ℕ) (own now : List CoreEntry) (more : IsPrefix own now) where
  pub still-bound-watch : (d : Decl) (s : Statement) (w : SessionWatch) → IsBoundWatch cells caller own session d s w
      → IsBoundWatch cells caller now session d s w
  still-bound-watch d s w b = record {
    watch = watch-stays cells caller session own now w (record { more = more.0; whole = sym more.1 }) b.watch;
    names = b.names;
    bound = still-bound cells caller w.holder w.epoch own now d s b.names w.query more b.bound;
  }

  pub watch-kept : (kept : Option CoreWatch) → LeavesItsWatch cells caller session own now
      → KeepsWatchOrNone cells caller session own kept → KeepsWatchOrNone cells caller session now kept
  watch-kept None leaves none =
      holders-left FitsShard CoreShardStands ShardAnswerSays cells caller session own now more leaves NoReader none
  watch-kept (Some kept) leaves keeps = record {
    reader = holders-left FitsShard CoreShardStands ShardAnswerSays cells caller session own now more leaves
        (OneReader kept.watch.holder kept.watch.epoch) keeps.reader;
    bound = still-bound-watch kept.cube kept.asked kept.watch keeps.bound;
    watches = still-watches own now kept.asked kept.watch.query.cube kept.cube more keeps.watches;
  }

-- The same over cells and a caller that are equal, with the reader that is then held.
module _ (cells there : List (CoreCell CoreShard)) (caller number session : ℕ) (p : there ≡ cells) (q : number ≡ caller)
    (own now : List CoreEntry) (more : IsPrefix own now) where
  pub still-bound-there : (d : Decl) (s : Statement) (w : SessionWatch) → IsBoundWatch cells caller own session d s w
      → IsBoundWatch there number now session d s w
  still-bound-there d s w b =
      coe 1 0 (i. IsBoundWatch (p i) (q i) now session d s w)
      (still-bound-watch cells caller session own now more d s w b)

  pub still-keeps : (kept : CoreWatch)
      → HoldersHold there number session now (OneReader kept.watch.holder kept.watch.epoch)
      → KeepsWatch cells caller session own kept → KeepsWatch there number session now kept
  still-keeps kept reads keeps = record {
    reader = reads;
    bound = still-bound-there kept.cube kept.asked kept.watch keeps.bound;
    watches = still-watches own now kept.asked kept.watch.query.cube kept.cube more keeps.watches;
  }

  pub still-shown : (holder epoch place : ℕ) (d : Decl) (s : Statement) (x : ShownWatch)
      → IsShownAt cells caller session own holder epoch place d s x
      → IsShownAt there number session now holder epoch place d s x
  still-shown holder epoch place d s x at = record {
    holder_is = at.holder_is;
    epoch_is = at.epoch_is;
    place_is = at.place_is;
    shown = coe 1 0 (i. IsShownWatch (p i) (q i) now session d s x.watch x.table)
        (record {
          watch = record {
            watch = watch-stays cells caller session own now x.watch (record { more = more.0; whole = sym more.1 })
                at.shown.watch.watch;
            names = at.shown.watch.names;
            bound = still-bound cells caller x.watch.holder x.watch.epoch own now d s at.shown.watch.names x.watch.query more
                at.shown.watch.bound;
          };
          makes = at.shown.makes;
        });
  }

  -- Or without one.
  pub still-or-none : HoldersKeep FitsShard CoreShardStands ShardAnswerSays session cells caller own there number now
      → (kept : Option CoreWatch) → KeepsWatchOrNone cells caller session own kept
      → KeepsWatchOrNone there number session now kept
  still-or-none keep None none = keep NoReader none
  still-or-none keep (Some kept) keeps =
      still-keeps kept (keep (OneReader kept.watch.holder kept.watch.epoch) keeps.reader) keeps

pub none-kept : (cells : List (CoreCell CoreShard)) (caller session : ℕ) → KeepsWatchOrNone cells caller session [] None
none-kept cells caller session = none-held FitsShard CoreShardStands ShardAnswerSays cells caller session
