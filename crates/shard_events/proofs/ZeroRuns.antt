-- Calls of later epochs leave no run of epoch 0.
use Rattle.std.proofs.Common.{ℕ, ◌+◌, ◌≤◌, ◌==◌, ◌||◌, not, max, Bool, true, false, cond, List, [], ◌∷◌, filter, map, fold, length, arith}
use Rattle.cube_values.specs.declared.entry.Entry.{Entry}
use Rattle.cube_values.specs.declared.entry.Entry.TheVariants.{Run, Mark}
use Rattle.cube_values.specs.declared.row.CodedRow.{CodedRow}
use Rattle.cube_values.specs.EpochsVector.{is_one_with, maker, vector_with_entry}
use Rattle.epochs_vector.specs.Without.{recounted_entry, staying_bits}
use Rattle.purge_plan.specs.Purged.{are_old_runs, counted_entries, is_empty_after, is_old_mark, merged_entry, spared_bits, with_counted_entry, with_merged_entry}
use Rattle.brick_map.specs.Births.{BrickContent, content_purged, content_with_mark, content_with_rows, content_without}
use Rattle.shard_events.specs.ShardsInRuns.{HasNoZeroRun}

-- one entry more
zero_end : (last new : Entry) → HasNoZeroRun (last ∷ []) → HasNoZeroRun (new ∷ []) → (t : Bool) → HasNoZeroRun (cond t (new ∷ []) (last ∷ new ∷ []))
zero_end last new h m true = m
zero_end (Run k end) new h m false = (h.0, m)
zero_end (Mark k at) new h m false = m

with_entry : (es : List Entry) (new : Entry) → HasNoZeroRun es → HasNoZeroRun (new ∷ []) → HasNoZeroRun (vector_with_entry es new)
with_entry [] new h m = m
with_entry (last ∷ []) new h m = zero_end last new h m (is_one_with last new)
with_entry (Run k end ∷ next ∷ es) new h m = (h.0, with_entry (next ∷ es) new h.1 m)
with_entry (Mark k at ∷ next ∷ es) new h m = with_entry (next ∷ es) new h m

first_rest : (x : Entry) (xs : List Entry) → HasNoZeroRun (x ∷ xs) → HasNoZeroRun (x ∷ []) × HasNoZeroRun xs
first_rest (Run k end) xs h = ((h.0, tt), h.1)
first_rest (Mark k at) xs h = (tt, h)

with_entries : (made xs : List Entry) → HasNoZeroRun made → HasNoZeroRun xs → HasNoZeroRun (fold vector_with_entry made xs)
with_entries made [] a h = a
with_entries made (x ∷ xs) a h = let p = first_rest x xs h in with_entries (vector_with_entry made x) xs (with_entry made x a p.0) p.1

-- some of the entries, recounted
recounted : (test : Entry → Bool) (bits : List Bool) (es : List Entry) → HasNoZeroRun es → HasNoZeroRun (map (recounted_entry bits) (filter test es))
recounted test bits [] h = tt
recounted test bits (Run k end ∷ es) h = by_test (recounted test bits es h.1) (test (Run k end)) where
  by_test : HasNoZeroRun (map (recounted_entry bits) (filter test es)) → (t : Bool) → HasNoZeroRun (map (recounted_entry bits) (cond t (Run k end ∷ filter test es) (filter test es)))
  by_test rest true = (h.0, rest)
  by_test rest false = rest
recounted test bits (Mark k at ∷ es) h = by_test (recounted test bits es h) (test (Mark k at)) where
  by_test : HasNoZeroRun (map (recounted_entry bits) (filter test es)) → (t : Bool) → HasNoZeroRun (map (recounted_entry bits) (cond t (Mark k at ∷ filter test es) (filter test es)))
  by_test rest true = rest
  by_test rest false = rest

-- entries that a purge puts one after another
merged_end : (last new : Entry) → HasNoZeroRun (last ∷ []) → HasNoZeroRun (new ∷ []) → (t : Bool) → HasNoZeroRun (cond t (merged_entry last new ∷ []) (last ∷ new ∷ []))
merged_end (Run k end) (Run j more) h m true = (let a = h.0 in let most : 1 ≤ max k j = omega (arith, a) in most, tt)
merged_end (Run k end) (Mark j at) h m true = tt
merged_end (Mark k at) (Run j more) h m true = m
merged_end (Mark k at) (Mark j more) h m true = tt
merged_end (Run k end) new h m false = (h.0, m)
merged_end (Mark k at) new h m false = m

with_merged : (p : ℕ) (es : List Entry) (new : Entry) → HasNoZeroRun es → HasNoZeroRun (new ∷ []) → HasNoZeroRun (with_merged_entry p es new)
with_merged p [] new h m = m
with_merged p (last ∷ []) new h m = merged_end last new h m (is_one_with last new || are_old_runs p last new)
with_merged p (Run k end ∷ next ∷ es) new h m = (h.0, with_merged p (next ∷ es) new h.1 m)
with_merged p (Mark k at ∷ next ∷ es) new h m = with_merged p (next ∷ es) new h m

with_counted : (p : ℕ) (es : List Entry) (new : Entry) → HasNoZeroRun es → HasNoZeroRun (new ∷ []) → HasNoZeroRun (with_counted_entry p es new)
with_counted p es new h m = by_test (with_merged p es new h m) (is_empty_after es new) where
  by_test : HasNoZeroRun (with_merged_entry p es new) → (t : Bool) → HasNoZeroRun (cond t es (with_merged_entry p es new))
  by_test put true = h
  by_test put false = put

all_counted : (p : ℕ) (made xs : List Entry) → HasNoZeroRun made → HasNoZeroRun xs → HasNoZeroRun (fold (with_counted_entry p) made xs)
all_counted p made [] a h = a
all_counted p made (x ∷ xs) a h = let q = first_rest x xs h in all_counted p (with_counted_entry p made x) xs (with_counted p made x a q.0) q.1

-- what calls make of a brick
pub appended_later : (epoch : ℕ) (rows : List CodedRow) (c : BrickContent) → 1 ≤ epoch → HasNoZeroRun c.entries → HasNoZeroRun (content_with_rows epoch rows c).entries
appended_later epoch [] c l h = h
appended_later epoch (row ∷ rows) c l h = with_entry c.entries (Run epoch (length c.rows + length (row ∷ rows))) h (l, tt)

pub marked_later : (epoch : ℕ) (c : BrickContent) → HasNoZeroRun c.entries → HasNoZeroRun (content_with_mark epoch c).entries
marked_later epoch c h = with_entry c.entries (Mark epoch (length c.rows)) h tt

pub rolled_later : (epoch : ℕ) (c : BrickContent) → HasNoZeroRun c.entries → HasNoZeroRun (content_without epoch c).entries
rolled_later epoch c h =
    with_entries [] (map (recounted_entry (staying_bits epoch c.entries)) (filter (λ e. not (maker e == epoch)) c.entries)) tt
    (recounted (λ e. not (maker e == epoch)) (staying_bits epoch c.entries) c.entries h)

pub purged_later : (epoch : ℕ) (c : BrickContent) → HasNoZeroRun c.entries → HasNoZeroRun (content_purged epoch c).entries
purged_later epoch c h =
    all_counted epoch [] (counted_entries epoch (spared_bits epoch c.entries) c.entries) tt
    (recounted (λ e. not (is_old_mark epoch e)) (spared_bits epoch c.entries) c.entries h)
