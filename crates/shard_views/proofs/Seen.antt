-- What snapshots see of a brick, in the core's words.
use Rattle.std.proofs.Common.{◌≡◌, ℕ, ◌&&◌, not, Bool, false, List, [], length, take, refl, sym, ◌∙◌, arith}
use Rattle.std.specs.List.{items_where_true, list_any}
use Rattle.std.specs.Option.{option_map_or}
use Rattle.std.proofs.lemmas.List.{take_all}
use Rattle.cube_values.specs.declared.entry.Entry.{Entry}
use Rattle.cube_values.specs.declared.entry.Entry.TheVariants.{Run, Mark}
use Rattle.cube_values.specs.declared.snapshot.Snapshot.{Snapshot}
use Rattle.cube_values.specs.EpochsVector.{IsVector, epoch_at, is_hidden_by, rows_of, sees_row}
use Rattle.cube_values.specs.Sees.{sees}
use Rattle.epochs_vector.proofs.Ends.{vector_rows}
use Rattle.brick_map.specs.Births.{BrickContent}
use Rattle.shard_views.specs.Views.{SeesApartTheSame, SnapshotsSeeTheSame, brick_view, sight_of}
use Rattle.shard_views.proofs.Shown.{ShowsAs, all_shown, bits_to, hides, shows, shows_none, shows_to}

-- a snapshot obeys the marks that it sees
same_hides : (s : Snapshot) (j i : ℕ) (e : Entry) → is_hidden_by s j i e ≡ hides (sees s) j i e
same_hides s j i (Run epoch end) = refl
same_hides s j i (Mark epoch at) = refl

same_row : (s : Snapshot) (entries : List Entry) (i : ℕ) → sees_row s entries i ≡ shows (sees s) (sees s) entries i
same_row s entries i = λ t. option_map_or (λ j. sees s j && not (list_any (λ e. same_hides s j i e t) entries)) (epoch_at entries i) false

shown_of : (c : BrickContent) → IsVector c.entries (length c.rows) → ShowsAs c.rows (length c.rows) c.entries (brick_view c)
shown_of c v = all_shown c.entries [] c.rows 0 (length c.rows) [] (omega arith) v.leads (shows_none c.rows)

-- bits of all rows
module _ (c : BrickContent) (v : IsVector c.entries (length c.rows)) (test other : ℕ → Bool) (same : (i : ℕ) → test i ≡ other i) where
  all_rows : items_where_true (bits_to test (rows_of c.entries)) c.rows ≡ items_where_true (bits_to other (length c.rows)) (take (length c.rows) c.rows)
  all_rows = λ t. items_where_true (bits_to (λ i. same i t) (vector_rows c.entries (length c.rows) v t)) (sym (take_all (length c.rows) c.rows (omega arith)) t)

pub sees_the_same : SnapshotsSeeTheSame
sees_the_same c v s =
    all_rows c v (sees_row s c.entries) (shows (sees s) (sees s) c.entries) (same_row s c.entries)
    ∙ (shown_of c v).shown (sees s) (sees s)

pub sees_apart_the_same : SeesApartTheSame
sees_apart_the_same c v one other =
    all_rows c v (λ i. sees_row one c.entries i && not (sees_row other c.entries i)) (λ i. shows_to (sight_of one) c.entries i && not (shows_to (sight_of other) c.entries i)) (λ i t. same_row one c.entries i t && not (same_row other c.entries i t))
    ∙ (shown_of c v).apart (sight_of one) (sight_of other)
