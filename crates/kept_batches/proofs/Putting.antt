-- Rows of a part that are put, run by run.
use Rattle.std.proofs.Common.{◌≡◌, ℕ, ℤ, ◌+◌, ◌-◌, ◌%◌, ◌<◌, ◌≤◌, ◌==◌, Bool, true, List, [], ◌∷◌, ◌++◌, length, take, drop, get_or, sym, subst, ◌∙◌, append_assoc, arith}
use Rattle.std.specs.BTreeMap.{BTreeMap}
use Rattle.std.specs.List.{flat_map, AllByRecursion}
use Rattle.std.proofs.lemmas.Bool.{cond-true}
use Rattle.std.proofs.lemmas.List.{get_or-drop, length-drop, take_all, take_more}
use Rattle.cube_values.specs.declared.entry.Entry.{Entry}
use Rattle.cube_values.specs.declared.entry.Entry.TheVariants.{Run}
use Rattle.cube_values.specs.declared.row.CodedRow.{CodedRow}
use Rattle.cube_values.specs.declared.snapshot.Snapshot.{Snapshot}
use Rattle.cube_values.specs.Batches.{Batch, HasWidths, coded_row_at, rows_between}
use Rattle.cube_values.specs.EpochsVector.{Leads}
use Rattle.cube_rounds.specs.declared.round.Round.{Round}
use Rattle.cube_rounds.specs.Bricks.{BrickPart}
use Rattle.cube_rounds.proofs.Leads.{leads_up}
use Rattle.epochs_vector.specs.declared.limit.Limit.{Limit}
use Rattle.kept_batches.specs.declared.brick_set.BrickSet.{BrickSet}
use Rattle.kept_batches.specs.RoundsFit.{parts_of_cube, parts_of_rounds}
use Rattle.kept_batches.specs.Unhidden.{HaveWidths, limit_in, rows_for_bricks, rows_of_runs, unhidden_rows}
use Rattle.kept_batches.proofs.Alls.{all_at, flat_at, flat_more}

-- The rows that were put, with those of the entries that are left, are all; the entries that are left lead from there.
pub record PutsRuns (s : Snapshot) (limit : Limit) (part : BrickPart) (old : Batch) (from : ℕ) (left : List Entry)
    (new : Batch) : Type 0 where
  pub whole : new.rows ++ rows_of_runs s limit part.rows from left ≡ old.rows ++ unhidden_rows s limit part
  pub leads : Leads from left (length part.rows)
  pub dims : new.dims ≡ old.dims
  pub width : new.width ≡ old.width

-- The rows up to one more.
pub rows_more : (from i : ℕ) (rows : List CodedRow) → from ≤ i → i < length rows
    → rows_between from (i + 1) rows ≡ rows_between from i rows ++ coded_row_at rows i ∷ []
rows_more from i rows le lt =
    let d : CodedRow = record { coords = []; metrics = [] } in
    let within : i - from < length (drop from rows) = omega (arith, length-drop from rows) in
    let more : i + 1 - from ≡ (i - from) + 1 = omega arith in
    let same : from + (i - from) ≡ i = omega arith in
    (λ k. take (more k) (drop from rows))
    ∙ take_more (drop from rows) (i - from) d within
    ∙ λ k. rows_between from i rows ++ (get_or-drop from rows (i - from) d ∙ λ m. get_or rows (same m) d) k ∷ []

-- A batch with other rows.
abbrev with_rows : List CodedRow → Batch → Batch
with_rows rows batch = record { rows = rows; dims = batch.dims; width = batch.width; room = batch.room }

-- One row more is copied.
pub row_copied : (old mid new : Batch) (from i : ℕ) (rows : List CodedRow) (coords : List ℕ) (metrics : List ℤ)
    → from ≤ i → i < length rows
    → mid ≡ with_rows (old.rows ++ rows_between from i rows) old
    → coords ≡ (coded_row_at rows i).coords → metrics ≡ (coded_row_at rows i).metrics
    → new ≡ with_rows (mid.rows ++ record { coords = coords; metrics = metrics } ∷ []) mid
    → new ≡ with_rows (old.rows ++ rows_between from (i + 1) rows) old
row_copied old mid new from i rows coords metrics le lt so_far ec em pushed =
    let row : CodedRow = coded_row_at rows i in
    let same : ◌≡◌ {A = CodedRow} (record { coords = coords; metrics = metrics }) row =
    λ k. record { coords = ec k; metrics = em k } in
    pushed
    ∙ (λ k. with_rows ((so_far k).rows ++ same k ∷ []) (so_far k))
    ∙ (λ k. with_rows (append_assoc old.rows (rows_between from i rows) (row ∷ []) k) old)
    ∙ λ k. with_rows (old.rows ++ sym (rows_more from i rows le lt) k) old

-- A part of one of the bricks is put.
pub own_put : (s : Snapshot) (bricks : BrickSet) (limits : BTreeMap ℕ Limit) (part : BrickPart)
    (old new : List CodedRow) (n m : ℕ) (limit : Limit) (t : Bool)
    → n ≡ part.brick → t ≡ (n % bricks.shards == bricks.shard) → t ≡ true → m ≡ part.brick → limit ≡ limit_in limits m
    → new ≡ old ++ unhidden_rows s limit part → new ≡ old ++ rows_for_bricks s bricks limits part
own_put s bricks limits part old new n m limit t en et yes' em el put =
    let has : (part.brick % bricks.shards == bricks.shard) ≡ true =
    (λ k. sym en k % bricks.shards == bricks.shard) ∙ sym et ∙ yes' in
    let same : limit ≡ limit_in limits part.brick = el ∙ λ k. limit_in limits (em k) in
    let rows = unhidden_rows s (limit_in limits part.brick) part in
    put ∙ (λ k. old ++ unhidden_rows s (same k) part)
    ∙ λ k. old ++ sym (cond-true (part.brick % bricks.shards == bricks.shard) rows [] has) k

-- Parts are put one after the other.
pub flat_put : {X : Type 0} (f : X → List CodedRow) (xs : List X) (i : ℕ) (x : X) (old mid new : List CodedRow)
    → i < length xs → x ≡ get_or xs i x
    → mid ≡ old ++ flat_map f (take i xs) → new ≡ mid ++ f x → new ≡ old ++ flat_map f (take (i + 1) xs)
flat_put f xs i x old mid new lt is so_far put =
    put ∙ (λ k. so_far k ++ f x) ∙ append_assoc old (flat_map f (take i xs)) (f x)
    ∙ λ k. old ++ sym (flat_more f xs i x lt is) k

-- The widths of the rows of one part among several, and of the parts of one round.
pub part_widths : (parts : List BrickPart) (i : ℕ) (part : BrickPart) (old mid : Batch)
    → HaveWidths old.dims old.width parts → mid.dims ≡ old.dims → mid.width ≡ old.width
    → i < length parts → part ≡ get_or parts i part → AllByRecursion (HasWidths mid.dims mid.width) part.rows
part_widths parts i part old mid widths dims width lt is =
    subst (λ (w : ℕ). AllByRecursion (HasWidths mid.dims w) part.rows) (sym width)
    (subst (λ (d : ℕ). AllByRecursion (HasWidths d old.width) part.rows) (sym dims)
    (all_at (λ (b : BrickPart). AllByRecursion (HasWidths old.dims old.width) b.rows) parts i part widths lt is))

pub round_widths : (place : ℕ) (rounds : List Round) (i : ℕ) (round : Round) (parts : List BrickPart) (old mid : Batch)
    → HaveWidths old.dims old.width (parts_of_rounds place rounds)
    → mid.dims ≡ old.dims → mid.width ≡ old.width → i < length rounds → round ≡ get_or rounds i round
    → parts ≡ parts_of_cube place round → HaveWidths mid.dims mid.width parts
round_widths place rounds i round parts old mid widths dims width lt is of_round =
    subst (HaveWidths mid.dims mid.width) (sym of_round)
    (subst (λ (w : ℕ). HaveWidths mid.dims w (parts_of_cube place round)) (sym width)
    (subst (λ (d : ℕ). HaveWidths d old.width (parts_of_cube place round)) (sym dims)
    (flat_at (λ (b : BrickPart). AllByRecursion (HasWidths old.dims old.width) b.rows)
    (parts_of_cube place) rounds i round widths lt is)))

-- Entries by the first and the others.
pub headed : (xs : List Entry) (d e : Entry) → 1 ≤ length xs → get_or xs 0 d ≡ e
    → xs ≡ e ∷ take (length xs - 1) (drop 1 xs)
headed [] d e l h = absurd (omega arith)
headed (x ∷ xs) d e l h = let q = take_all (length (x ∷ xs) - 1) xs (omega arith) in cc

-- The end of a run is within the rows, and not before its beginning.
pub run_ends : (from : ℕ) (left rest : List Entry) (epoch end rows : ℕ) → left ≡ Run epoch end ∷ rest
    → Leads from left rows → (from ≤ end) × (end ≤ rows)
run_ends from left rest epoch end rows e leads =
    let first = subst (λ (es : List Entry). Leads from es rows) e leads in
    let lt = first.0 in (omega arith, leads_up end rest rows first.1)
