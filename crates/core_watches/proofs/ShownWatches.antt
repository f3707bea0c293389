-- A watch that was begun, or that followed, is shown with its table.
use Rattle.std.proofs.Common.{◌≡◌, ◌∙◌, ℕ, List, sym, ap, subst}
use mathlib.Core.List.{IsPrefix}
use Rattle.agg_fold.specs.Standing.{IsTable}
use Rattle.core_watches.proofs.BoundAtReaders.{still-bound}
use Rattle.core_watches.specs.BoundReaders.{IsBoundInRuns}
use Rattle.condition_spans.specs.Codes.{lists_at}
use Rattle.core_program.specs.CoreFits.{CoreEntry}
use Rattle.core_watches.specs.BoundQueries.{IsBoundByNames, IsWithTable}
use Rattle.core_watches.specs.KeptWatches.{IsShownAt}
use Rattle.core_watches.specs.declared.binding.BoundByNames.{BoundByNames}
use Rattle.core_watches.specs.declared.kept.ShownWatch.{ShownWatch}
use Rattle.cube_core.specs.declared.cell.CoreCell.{CoreCell}
use Rattle.cube_language.specs.declared.decl.Decl.{Decl}
use Rattle.cube_language.specs.declared.statement.Statement.{Statement}
use Rattle.cube_values.specs.declared.query.BoundQuery.{BoundQuery}
use Rattle.linked_shards.specs.declared.cell.CoreShard.{CoreShard}
use Rattle.watched_queries.specs.WatchesInRuns.{IsWatchOf}
use Rattle.watched_queries.specs.declared.watch.SessionWatch.{SessionWatch}

pub shown-at : (cells there : List (CoreCell CoreShard)) (caller number session holder epoch place : ℕ)
    (own now : List CoreEntry) (d : Decl) (s : Statement) (names : List (List (List (List ℕ)))) (bound : BoundByNames)
    (w : SessionWatch) (shown : ShownWatch) → there ≡ cells → number ≡ caller → IsPrefix own now
    → IsBoundByNames place d s names bound
    → w.holder ≡ holder → w.epoch ≡ epoch → w.query ≡ bound.query → IsWatchOf there number now session w
    → IsBoundInRuns cells caller own holder epoch names d s bound.query → IsWithTable w (lists_at bound.names 0) shown
    → IsShownAt there number session now holder epoch place d s shown
shown-at cells there caller number session holder epoch place own now d s names bound w shown p q more by h e qs is_watch at
    made =
    let cube : w.query.cube ≡ place = ap (λ (x : BoundQuery). x.cube) qs ∙ by.place_is in
    let lists : lists_at bound.names 0 ≡ lists_at names w.query.cube =
    by.names_are ∙ ap (λ (n : ℕ). lists_at names n) (sym cube)
    in
    subst (λ (x : SessionWatch). IsShownAt there number session now holder epoch place d s
    (record { watch = x; table = shown.table })) (sym made.watch_is) (record {
      holder_is = h;
      epoch_is = e;
      place_is = cube;
      shown = record {
        watch = record {
          watch = is_watch;
          names = names;
          bound = coe 1 0 (i. IsBoundInRuns (p i) (q i) now (h i) (e i) names d s (qs i))
              (still-bound cells caller holder epoch own now d s names bound.query more at);
        };
        makes =
            subst (λ (l : List (List (List ℕ))). IsTable w.query l w.kept.groups shown.table) lists made.makes;
      };
    })
