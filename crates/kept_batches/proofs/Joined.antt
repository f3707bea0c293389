-- Parts one after the other: what is seen of their rows, by the greatest mark alone.
use Rattle.std.proofs.Common.{◌≡◌, ℕ, ◌+◌, ◌<◌, ◌≤◌, ◌&&◌, ◌||◌, ◌==◌, Bool, true, false, not, nat_lt, List, [], ◌∷◌, ◌++◌, Some, length, refl, sym, ◌∙◌, inl, inr, arith}
use Rattle.std.specs.List.{flat_map, list_any, AllByRecursion}
use Rattle.std.specs.Option.{option_map_or}
use Rattle.std.proofs.lemmas.Bool.{cases_lt, cond-true, cond-false}
use Rattle.std.proofs.lemmas.Bool.Decides.{nat_tests}
use Rattle.std.proofs.lemmas.List.Folds.{list_any-append}
use Rattle.cube_values.specs.declared.entry.Entry.{Entry}
use Rattle.cube_values.specs.declared.entry.Entry.TheVariants.{Run, Mark}
use Rattle.cube_values.specs.declared.snapshot.Snapshot.{Snapshot}
use Rattle.cube_values.specs.EpochsVector.{Leads, epoch_at, is_hidden_by, sees_row}
use Rattle.cube_values.specs.Sees.{sees}
use Rattle.cube_rounds.specs.Bricks.{BrickPart}
use Rattle.cube_rounds.specs.Demands.{IsOfEpochs}
use Rattle.cube_rounds.specs.KeptRows.{entries_behind, entries_joined, rows_joined, rows_seen}
use Rattle.cube_rounds.proofs.Leads.{leads_up}
use Rattle.epochs_vector.specs.declared.limit.Limit.{Limit}
use Rattle.epochs_vector.specs.Limits.{is_below}
use Rattle.kept_batches.specs.Unhidden.{rows_at_places, unhidden_rows}
use Rattle.kept_batches.proofs.Places.{places_append, places_alike, seen_at_places}
use Rattle.kept_batches.proofs.Runs.{part_rows}

-- A part of entries of the epochs above one up to another.
pub record IsBetween (from upto : ℕ) (part : BrickPart) : Type 0 where
  pub later : from ≤ upto
  pub leads : Leads 0 part.entries (length part.rows)
  pub epochs : AllByRecursion (IsOfEpochs from upto) part.entries

-- Parts, each of epochs above those of the one before it.
abbrev pub AreChained : ℕ → List BrickPart → Type 0
AreChained from [] = Unit {0}
AreChained from (part ∷ parts) = (upto : ℕ) × IsBetween from upto part × AreChained upto parts

abbrev pub entries_of_parts : List BrickPart → List Entry
entries_of_parts parts = flat_map (λ part. part.entries) parts

-- the epoch of a row among joined entries
epoch_behind : (rows : ℕ) (entries rest : List Entry) (i j : ℕ) → epoch_at entries i ≡ Some j
    → epoch_at (entries_behind rows entries ++ rest) (rows + i) ≡ Some j
epoch_behind rows [] rest i j e = cc
epoch_behind rows (Run epoch end ∷ entries) rest i j e = elim (cases_lt i end) [
  | inl lt ↦
      let next = epoch_at (entries_behind rows entries ++ rest) (rows + i) in
      let a : nat_lt i end ≡ true = grind (arith, nat_tests) in
      let b : nat_lt (rows + i) (rows + end) ≡ true = grind (arith, nat_tests) in
      cond-true (nat_lt (rows + i) (rows + end)) (Some epoch) next b
      ∙ sym (cond-true (nat_lt i end) (Some epoch) (epoch_at entries i) a) ∙ e
  | inr ge ↦
      let next = epoch_at (entries_behind rows entries ++ rest) (rows + i) in
      let a : nat_lt i end ≡ false = grind (arith, nat_tests) in
      let b : nat_lt (rows + i) (rows + end) ≡ false = grind (arith, nat_tests) in
      cond-false (nat_lt (rows + i) (rows + end)) (Some epoch) next b
      ∙ epoch_behind rows entries rest i j (sym (cond-false (nat_lt i end) (Some epoch) (epoch_at entries i) a) ∙ e)
]
epoch_behind rows (Mark epoch at ∷ entries) rest i j e = epoch_behind rows entries rest i j e

epoch_past : (rows from to : ℕ) (entries rest : List Entry) (i : ℕ) → Leads from entries to → rows + to ≤ i
    → epoch_at (entries_behind rows entries ++ rest) i ≡ epoch_at rest i
epoch_past rows from to [] rest i leads le = refl
epoch_past rows from to (Run epoch end ∷ entries) rest i leads le =
    let up = leads_up end entries to leads.1 in
    let b : nat_lt i (rows + end) ≡ false = grind (arith, nat_tests) in
    cond-false (nat_lt i (rows + end)) (Some epoch) (epoch_at (entries_behind rows entries ++ rest) i) b
    ∙ epoch_past rows end to entries rest i leads.1 le
epoch_past rows from to (Mark epoch at ∷ entries) rest i leads le = epoch_past rows from to entries rest i leads.1 le

-- what marks of its own part hide of a row: places are counted among the part's rows
hidden_here : (s : Snapshot) (rows : ℕ) (entries : List Entry) (j i : ℕ)
    → list_any (is_hidden_by s j (rows + i)) (entries_behind rows entries) ≡ list_any (is_hidden_by s j i) entries
hidden_here s rows [] j i = refl
hidden_here s rows (Run epoch end ∷ entries) j i = hidden_here s rows entries j i
hidden_here s rows (Mark epoch at ∷ entries) j i =
    let same : nat_lt (rows + i) (rows + at) ≡ nat_lt i at = grind (arith, nat_tests) in
    λ k. (sees s epoch && (nat_lt j epoch || (j == epoch && same k))) || hidden_here s rows entries j i k

-- marks of no later epoch hide no row of a later epoch
earlier : (s : Snapshot) (from upto : ℕ) (entries : List Entry) (j i : ℕ)
    → AllByRecursion (IsOfEpochs from upto) entries → upto < j → list_any (is_hidden_by s j i) entries ≡ false
earlier s from upto [] j i epochs lt = refl
earlier s from upto (Run epoch end ∷ entries) j i epochs lt = earlier s from upto entries j i epochs.1 lt
earlier s from upto (Mark epoch at ∷ entries) j i epochs lt =
    let within = epochs.0.within in
    let a : nat_lt j epoch ≡ false = grind (arith, nat_tests) in
    let b : (j == epoch) ≡ false = grind (arith, nat_tests) in
    (λ k. (sees s epoch && (a k || (b k && nat_lt i at))) || earlier s from upto entries j i epochs.1 lt k)
    ∙ none (sees s epoch)
  where
    none : (t : Bool) → ((t && false) || false) ≡ false
    none true = refl
    none false = refl

same_makers : (from upto rows : ℕ) (entries : List Entry) → AllByRecursion (IsOfEpochs from upto) entries
    → AllByRecursion (IsOfEpochs from upto) (entries_behind rows entries)
same_makers from upto rows [] epochs = tt
same_makers from upto rows (Run epoch end ∷ entries) epochs =
    (record { above = epochs.0.above; within = epochs.0.within }, same_makers from upto rows entries epochs.1)
same_makers from upto rows (Mark epoch at ∷ entries) epochs =
    (record { above = epochs.0.above; within = epochs.0.within }, same_makers from upto rows entries epochs.1)

-- marks of later epochs hide a row wherever they stand
later_here : (s : Snapshot) (from upto rows : ℕ) (entries : List Entry) (j x y : ℕ)
    → AllByRecursion (IsOfEpochs from upto) entries → j ≤ from
    → list_any (is_hidden_by s j x) (entries_behind rows entries) ≡ list_any (is_hidden_by s j y) entries
later_here s from upto rows [] j x y epochs le = refl
later_here s from upto rows (Run epoch end ∷ entries) j x y epochs le =
    later_here s from upto rows entries j x y epochs.1 le
later_here s from upto rows (Mark epoch at ∷ entries) j x y epochs le =
    let above = epochs.0.above in
    let a : nat_lt j epoch ≡ true = grind (arith, nat_tests) in
    let b : true ≡ nat_lt j epoch = sym a in
    let rest = later_here s from upto rows entries j x y epochs.1 le in
    (λ k. (sees s epoch && (a k || (j == epoch && nat_lt x (rows + at)))) || rest k)
    ∙ λ k. (sees s epoch && (b k || (j == epoch && nat_lt y at))) || list_any (is_hidden_by s j y) entries

later_parts : (s : Snapshot) (from rows : ℕ) (parts : List BrickPart) (j x y : ℕ) → AreChained from parts → j ≤ from
    → list_any (is_hidden_by s j x) (entries_joined rows parts) ≡ list_any (is_hidden_by s j y) (entries_of_parts parts)
later_parts s from rows [] j x y chain le = refl
later_parts s from rows (part ∷ parts) j x y chain le =
    let here = chain.1 in
    let later = here.later in
    let n = rows + length part.rows in
    let first = later_here s from chain.0 rows part.entries j x y here.epochs le in
    let rest = later_parts s chain.0 n parts j x y chain.2 (omega arith) in
    list_any-append (is_hidden_by s j x) (entries_behind rows part.entries) (entries_joined n parts)
    ∙ (λ k. first k || rest k)
    ∙ sym (list_any-append (is_hidden_by s j y) part.entries (entries_of_parts parts))

-- What is known of all joined entries for the rows behind so many, of the parts that are left.
record Tells (s : Snapshot) (limit : Limit) (whole : List Entry) (from rows : ℕ) (parts : List BrickPart) : Type 0 where
  epoch : (i : ℕ) → rows ≤ i → epoch_at whole i ≡ epoch_at (entries_joined rows parts) i
  hidden : (j i : ℕ) → from < j
      → list_any (is_hidden_by s j i) whole ≡ list_any (is_hidden_by s j i) (entries_joined rows parts)
  below : (j i : ℕ) → from < j → is_below limit j i ≡ list_any (is_hidden_by s j i) (entries_of_parts parts)

tells_next : (s : Snapshot) (limit : Limit) (whole : List Entry) (from upto rows : ℕ) (part : BrickPart)
    (parts : List BrickPart) → IsBetween from upto part
    → Tells s limit whole from rows (part ∷ parts) → Tells s limit whole upto (rows + length part.rows) parts
tells_next s limit whole from upto rows part parts here t =
    let n = length part.rows in
    let later = here.later in
    let own = entries_behind rows part.entries in
    let epochs = same_makers from upto rows part.entries here.epochs in
    let joined = entries_joined (rows + n) parts in
    let others = entries_of_parts parts in
    record {
      epoch = λ i le. t.epoch i (omega arith) ∙ epoch_past rows 0 n part.entries joined i here.leads le;
      hidden = λ j i lt.
          t.hidden j i (omega arith)
          ∙ list_any-append (is_hidden_by s j i) own joined
          ∙ λ k. earlier s from upto own j i epochs lt k || list_any (is_hidden_by s j i) joined;
      below = λ j i lt.
          t.below j i (omega arith)
          ∙ list_any-append (is_hidden_by s j i) part.entries others
          ∙ λ k. earlier s from upto part.entries j i here.epochs lt k || list_any (is_hidden_by s j i) others;
    }

seen_here : (s : Snapshot) (limit : Limit) (whole : List Entry) (from upto rows : ℕ) (part : BrickPart)
    (parts : List BrickPart) → IsBetween from upto part → AreChained upto parts
    → Tells s limit whole from rows (part ∷ parts) → (j i : ℕ) → from < j → j ≤ upto
    → epoch_at part.entries i ≡ Some j
    → sees_row s whole (rows + i) ≡ (sees s j && not (is_below limit j i))
seen_here s limit whole from upto rows part parts here chain t j i low high is =
    let n = length part.rows in
    let epoch : epoch_at whole (rows + i) ≡ Some j =
    t.epoch (rows + i) (omega arith) ∙ epoch_behind rows part.entries (entries_joined (rows + n) parts) i j is in
    let hidden : list_any (is_hidden_by s j (rows + i)) whole ≡ is_below limit j i =
    t.hidden j (rows + i) low
    ∙ list_any-append (is_hidden_by s j (rows + i)) (entries_behind rows part.entries) (entries_joined (rows + n) parts)
    ∙ (λ k. hidden_here s rows part.entries j i k || later_parts s upto (rows + n) parts j (rows + i) i chain high k)
    ∙ sym (list_any-append (is_hidden_by s j i) part.entries (entries_of_parts parts))
    ∙ sym (t.below j i low) in
    (λ k. option_map_or (λ e. sees s e && not (list_any (is_hidden_by s e (rows + i)) whole)) (epoch k) false)
    ∙ λ k. sees s j && not (hidden k)

parts_seen : (s : Snapshot) (limit : Limit) (whole : List Entry) (from rows : ℕ) (parts : List BrickPart)
    → AreChained from parts → Tells s limit whole from rows parts
    → rows_at_places (sees_row s whole) rows (rows_joined parts) ≡ flat_map (unhidden_rows s limit) parts
parts_seen s limit whole from rows [] chain t = refl
parts_seen s limit whole from rows (part ∷ parts) chain t =
    let n = length part.rows in
    let here = chain.1 in
    let shifted : ℕ → Bool = λ i. sees_row s whole (rows + i) in
    let shift : rows_at_places (sees_row s whole) rows part.rows ≡ rows_at_places shifted 0 part.rows =
    places_alike (sees_row s whole) shifted rows 0 part.rows
    (λ i lt. let e : rows + i ≡ rows + (0 + i) = omega arith in λ k. sees_row s whole (e k)) in
    let first = part_rows s limit from chain.0 shifted part here.leads here.epochs
    (λ j i low high le is. seen_here s limit whole from chain.0 rows part parts here chain.2 t j i low high is) in
    let next = tells_next s limit whole from chain.0 rows part parts here t in
    let rest = parts_seen s limit whole chain.0 (rows + n) parts chain.2 next in
    places_append (sees_row s whole) rows part.rows (rows_joined parts)
    ∙ (λ k. shift k ++ rows_at_places (sees_row s whole) (rows + n) (rows_joined parts))
    ∙ λ k. first k ++ rest k

-- The rows of parts one after the other that a snapshot sees are those of each part that the greatest mark leaves.
pub joined_seen : (s : Snapshot) (limit : Limit) (parts : List BrickPart) → AreChained 0 parts
    → ((j i : ℕ) → is_below limit j i ≡ list_any (is_hidden_by s j i) (entries_of_parts parts))
    → rows_seen s (entries_joined 0 parts) 0 (rows_joined parts) ≡ flat_map (unhidden_rows s limit) parts
joined_seen s limit parts chain below =
    seen_at_places s (entries_joined 0 parts) 0 (rows_joined parts)
    ∙ parts_seen s limit (entries_joined 0 parts) 0 0 parts chain (record {
      epoch = λ i le. refl;
      hidden = λ j i lt. refl;
      below = λ j i lt. below j i;
    })
