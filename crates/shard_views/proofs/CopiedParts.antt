-- What a round has of a brick, in the core's words.
use Rattle.std.proofs.Common.{◌≡◌, ℕ, ◌+◌, ◌-◌, ◌<◌, ◌≤◌, Bool, true, false, cond, List, [], ◌∷◌, ◌++◌, length, take, drop, filter, fold, refl, sym, ap, ◌∙◌, arith, append_assoc, append-nil, subst, All}
use Rattle.std.specs.List.{AllByRecursion}
use Rattle.std.proofs.lemmas.List.Elements.{All-from_recursion}
use Rattle.std.proofs.lemmas.List.{length-append, length-drop, length-take-le, take_all}
use Rattle.std.proofs.Math.Seq.{drop-append_seam}
use Rattle.cube_values.specs.declared.entry.Entry.{Entry}
use Rattle.cube_values.specs.declared.entry.Entry.TheVariants.{Run, Mark}
use Rattle.cube_values.specs.declared.row.CodedRow.{CodedRow}
use Rattle.cube_values.specs.EpochsVector.{IsVector, Leads, is_one_with, rows_of, vector_with_entry, with_rows_after}
use Rattle.cube_rounds.specs.Bricks.{EntryRows, entries_with_rows}
use Rattle.epochs_vector.proofs.Ends.{lead_more, rows_led, vector_more, vector_rows}
use Rattle.epochs_vector.proofs.VisibleRows.{lead_up}
use Rattle.brick_store.specs.Copies.{entries_of_epochs, is_of_epochs, rows_of_entries, vector_with_rows}
use Rattle.brick_map.specs.Births.{BrickContent}
use Rattle.brick_map.specs.Copied.{round_part_with}
use Rattle.core_events.specs.ShardView.{BrickEntry, RowRun, RowMark, entries_of_round}
use Rattle.core_events.proofs.RoundEntries.{IsOfRound}
use Rattle.shard_views.specs.Views.{CopiesTheSame, IsWholeContent, brick_entry, brick_view, entries_newest_first, part_view}
use Rattle.shard_views.proofs.Alike.{AreAlike, show_alike, alike_newest, alike_same, alike_then, joined_alike, leads_push, view_from, view_push}
use Rattle.shard_views.proofs.Grown.{view_more}

-- a run has rows, and a mark has none
abbrev HasRows : Entry → List CodedRow → Type 0
HasRows (Run k end) rows = 0 < length rows
HasRows (Mark k at) rows = rows ≡ []

abbrev HaveRows : List EntryRows → Type 0
HaveRows [] = Unit {0}
HaveRows (e ∷ entries) = HasRows e.entry e.rows × HaveRows entries

entries_have : (es : List Entry) (n to : ℕ) (rows : List CodedRow) → Leads n es to → to ≤ length rows → HaveRows (entries_with_rows n rows es)
entries_have [] n to rows l m = tt
entries_have (Run k end ∷ es) n to rows l m =
    let up = lead_up end es to l.1 in
    let left = length-drop n rows in
    let long = length-take-le (end - n) (drop n rows) (omega (arith, up, left, m)) in
    (omega (arith, long, l.0), entries_have es end to rows l.1 m)
entries_have (Mark k at ∷ es) n to rows l m = (refl, entries_have es n to rows l.1 m)

filter_have : (test : EntryRows → Bool) (entries : List EntryRows) → HaveRows entries → HaveRows (filter test entries)
filter_have test [] h = tt
filter_have test (e ∷ entries) h = by_test (test e) (filter_have test entries h.1) where
  by_test : (t : Bool) → HaveRows (filter test entries) → HaveRows (cond t (e ∷ filter test entries) (filter test entries))
  by_test true rest = (h.0, rest)
  by_test false rest = rest

-- one entry more, with its rows
one_alike : (entry : Entry) (more : List CodedRow) (xs : List Entry) (rows : List CodedRow) → HasRows entry more → Leads 0 xs (length rows) → AreAlike (view_from [] 0 (rows ++ more) (vector_with_entry xs (with_rows_after entry (rows_of xs + length more)))) (brick_entry entry more ∷ view_from [] 0 rows xs)
one_alike (Run k end) more xs rows some l =
    let n : ℕ = length rows in
    let to : ℕ = rows_of xs + length more in
    let new : Entry = Run k to in
    let all : List CodedRow = rows ++ more in
    let led = rows_led 0 xs n l in
    let part : take (to - n) (drop n all) ≡ more = ap (take (to - n)) (drop-append_seam rows more) ∙ take_all (to - n) more (omega (arith, led)) in
    let before = view_more xs rows more 0 n [] l (omega arith) in
    alike_then (view_from [] 0 all (vector_with_entry xs new)) (view_from [] 0 all (xs ++ new ∷ [])) (RowRun k more ∷ view_from [] 0 rows xs)
    (joined_alike xs new all 0 to [] (leads_push xs new 0 n to l (omega (arith, led, some), refl)))
    (alike_same (view_from [] 0 all (xs ++ new ∷ [])) (RowRun k more ∷ view_from [] 0 rows xs) (view_push xs new all 0 n [] l ∙ (λ t. RowRun k (part t) ∷ before t)))
one_alike (Mark k at) more xs rows none l =
    let n : ℕ = length rows in
    let here : ℕ = rows_of xs + length more in
    let new : Entry = Mark k here in
    let all : List CodedRow = rows ++ more in
    let led = rows_led 0 xs n l in
    let zero_long = ap length none in
    let before = view_more xs rows more 0 n [] l (omega arith) in
    alike_then (view_from [] 0 all (vector_with_entry xs new)) (view_from [] 0 all (xs ++ new ∷ [])) (RowMark k ∷ view_from [] 0 rows xs)
    (joined_alike xs new all 0 n [] (leads_push xs new 0 n n l (omega (arith, led, zero_long), refl)))
    (alike_same (view_from [] 0 all (xs ++ new ∷ [])) (RowMark k ∷ view_from [] 0 rows xs) (view_push xs new all 0 n [] l ∙ ap (λ v. RowMark k ∷ v) before))

one_leads : (entry : Entry) (more : List CodedRow) (xs : List Entry) (rows : List CodedRow) → HasRows entry more → Leads 0 xs (length rows) → Leads 0 (vector_with_entry xs (with_rows_after entry (rows_of xs + length more))) (length (rows ++ more))
one_leads (Run k end) more xs rows some l =
    let led = rows_led 0 xs (length rows) l in
    let long = length-append rows more in
    lead_more xs (Run k (rows_of xs + length more)) 0 (length rows) (length (rows ++ more)) l (omega (arith, led, some), omega (arith, led, long))
one_leads (Mark k at) more xs rows none l =
    let led = rows_led 0 xs (length rows) l in
    let long = length-append rows more in
    let zero_long = ap length none in
    lead_more xs (Mark k (rows_of xs + length more)) 0 (length rows) (length (rows ++ more)) l (omega (arith, led, zero_long), omega (arith, long, zero_long))

all_alike : (es : List EntryRows) (xs : List Entry) (rows : List CodedRow) → HaveRows es → Leads 0 xs (length rows) → AreAlike (view_from [] 0 (rows ++ rows_of_entries es) (fold vector_with_rows xs es)) (entries_newest_first (view_from [] 0 rows xs) es)
all_alike [] xs rows h l = alike_same (view_from [] 0 (rows ++ []) xs) (view_from [] 0 rows xs) (ap (λ r. view_from [] 0 r xs) (append-nil rows))
all_alike (e ∷ es) xs rows h l =
    let next : List Entry = vector_with_rows xs e in
    let all : List CodedRow = rows ++ e.rows in
    let rest = all_alike es next all h.1 (one_leads e.entry e.rows xs rows h.0 l) in
    let one = one_alike e.entry e.rows xs rows h.0 l in
    let last : List BrickEntry = entries_newest_first (brick_entry e.entry e.rows ∷ view_from [] 0 rows xs) es in
    alike_then (view_from [] 0 (rows ++ (e.rows ++ rows_of_entries es)) (fold vector_with_rows next es)) (view_from [] 0 (all ++ rows_of_entries es) (fold vector_with_rows next es)) last
    (alike_same (view_from [] 0 (rows ++ (e.rows ++ rows_of_entries es)) (fold vector_with_rows next es)) (view_from [] 0 (all ++ rows_of_entries es) (fold vector_with_rows next es)) (ap (λ r. view_from [] 0 r (fold vector_with_rows next es)) (sym (append_assoc rows e.rows (rows_of_entries es)))))
    (alike_then (view_from [] 0 (all ++ rows_of_entries es) (fold vector_with_rows next es)) (entries_newest_first (view_from [] 0 all next) es) last rest
    (alike_newest es (view_from [] 0 all next) (brick_entry e.entry e.rows ∷ view_from [] 0 rows xs) one))

-- the entries of a round's epochs
module _ (from to : ℕ) where
  one_of_round : (entry : Entry) (rows : List CodedRow) (older : List BrickEntry) → entries_of_round from to (brick_entry entry rows ∷ older) ≡ cond (is_of_epochs from to entry) (brick_entry entry rows ∷ entries_of_round from to older) (entries_of_round from to older)
  one_of_round (Run k end) rows older = refl
  one_of_round (Mark k at) rows older = refl

  all_of_round : (es : List EntryRows) (older : List BrickEntry) → entries_newest_first (entries_of_round from to older) (entries_of_epochs from to es) ≡ entries_of_round from to (entries_newest_first older es)
  all_of_round [] older = refl
  all_of_round (e ∷ es) older =
      by_test (is_of_epochs from to e.entry)
      ∙ ap (λ v. entries_newest_first v (entries_of_epochs from to es)) (sym (one_of_round e.entry e.rows older))
      ∙ all_of_round es (brick_entry e.entry e.rows ∷ older) where
        by_test : (t : Bool) → entries_newest_first (entries_of_round from to older) (cond t (e ∷ entries_of_epochs from to es) (entries_of_epochs from to es)) ≡ entries_newest_first (cond t (brick_entry e.entry e.rows ∷ entries_of_round from to older) (entries_of_round from to older)) (entries_of_epochs from to es)
        by_test true = refl
        by_test false = refl

copied_alike : (from to number : ℕ) (c : BrickContent) → IsWholeContent c → AreAlike (part_view (round_part_with from to number c)) (entries_of_round from to (brick_view c))
copied_alike from to number c v =
    let all : List EntryRows = entries_with_rows 0 c.rows c.entries in
    let some : List EntryRows = entries_of_epochs from to all in
    let have = filter_have (λ e. is_of_epochs from to e.entry) all (entries_have c.entries 0 (length c.rows) c.rows v.leads (omega arith)) in
    alike_then (part_view (round_part_with from to number c)) (entries_newest_first [] some) (entries_of_round from to (brick_view c))
    (all_alike some [] [] have refl)
    (alike_same (entries_newest_first [] some) (entries_of_round from to (brick_view c)) (all_of_round from to all []))

pub copies_the_same : CopiesTheSame
copies_the_same from to number c v = show_alike (part_view (round_part_with from to number c)) (entries_of_round from to (brick_view c)) (copied_alike from to number c v)

-- what a round has of a brick is a vector over its rows
one_whole : (entry : Entry) (more : List CodedRow) (xs : List Entry) (rows : List CodedRow) → HasRows entry more → IsVector xs (length rows) → IsVector (vector_with_entry xs (with_rows_after entry (rows_of xs + length more))) (length (rows ++ more))
one_whole (Run k end) more xs rows some v =
    let led = vector_rows xs (length rows) v in
    let long = length-append rows more in
    vector_more xs (Run k (rows_of xs + length more)) (length rows) (length (rows ++ more)) v (omega (arith, led, some), omega (arith, led, long))
one_whole (Mark k at) more xs rows none v =
    let led = vector_rows xs (length rows) v in
    let long = length-append rows more in
    let zero_long = ap length none in
    vector_more xs (Mark k (rows_of xs + length more)) (length rows) (length (rows ++ more)) v (omega (arith, led, zero_long), omega (arith, long, zero_long))

fold_whole : (es : List EntryRows) (xs : List Entry) (rows : List CodedRow) → HaveRows es → IsVector xs (length rows) → IsVector (fold vector_with_rows xs es) (length (rows ++ rows_of_entries es))
fold_whole [] xs rows h v = subst (λ (r : List CodedRow). IsVector xs (length r)) (sym (append-nil rows)) v
fold_whole (e ∷ es) xs rows h v =
    subst (λ (r : List CodedRow). IsVector (fold vector_with_rows (vector_with_rows xs e) es) (length r)) (append_assoc rows e.rows (rows_of_entries es))
    (fold_whole es (vector_with_rows xs e) (rows ++ e.rows) h.1 (one_whole e.entry e.rows xs rows h.0 v))

pub part_whole : (from to number : ℕ) (c : BrickContent) → IsWholeContent c → let part = round_part_with from to number c in IsVector part.entries (length part.rows)
part_whole from to number c v =
    let all : List EntryRows = entries_with_rows 0 c.rows c.entries in
    fold_whole (entries_of_epochs from to all) [] []
    (filter_have (λ e. is_of_epochs from to e.entry) all (entries_have c.entries 0 (length c.rows) c.rows v.leads (omega arith)))
    (record { leads = refl; apart = tt })

-- and its entries are of the round's epochs
module _ (from to : ℕ) where
  abbrev AreOfEpochs : List Entry → Type 0
  AreOfEpochs xs = AllByRecursion (λ (e : Entry). is_of_epochs from to e ≡ true) xs

  with_entry_of : (xs : List Entry) (new : Entry) → AreOfEpochs xs → is_of_epochs from to new ≡ true → AreOfEpochs (vector_with_entry xs new)
  with_entry_of [] new h is = (is, tt)
  with_entry_of (last ∷ []) new h is = by_test (is_one_with last new) where
    by_test : (t : Bool) → AreOfEpochs (cond t (new ∷ []) (last ∷ new ∷ []))
    by_test true = (is, tt)
    by_test false = (h.0, (is, tt))
  with_entry_of (first ∷ next ∷ xs) new h is = (h.0, with_entry_of (next ∷ xs) new h.1 is)

  after_of : (entry : Entry) (n : ℕ) → is_of_epochs from to entry ≡ true → is_of_epochs from to (with_rows_after entry n) ≡ true
  after_of (Run k end) n is = is
  after_of (Mark k at) n is = is

  fold_of : (es : List EntryRows) (xs : List Entry) → AreOfEpochs xs → AreOfEpochs (fold vector_with_rows xs (entries_of_epochs from to es))
  fold_of [] xs h = h
  fold_of (e ∷ es) xs h = by_test (λ ys g. fold_of es ys g) (is_of_epochs from to e.entry) refl where
    by_test : ((ys : List Entry) → AreOfEpochs ys → AreOfEpochs (fold vector_with_rows ys (entries_of_epochs from to es)))
        → (t : Bool) → is_of_epochs from to e.entry ≡ t → AreOfEpochs (fold vector_with_rows xs (cond t (e ∷ entries_of_epochs from to es) (entries_of_epochs from to es)))
    by_test rest true is =
        rest (vector_with_rows xs e) (with_entry_of xs (with_rows_after e.entry (rows_of xs + length e.rows)) h (after_of e.entry (rows_of xs + length e.rows) is))
    by_test rest false is = rest xs h

  viewed_of : (older : List BrickEntry) (n : ℕ) (rows : List CodedRow) (xs : List Entry) → AllByRecursion (IsOfRound from to) older → AreOfEpochs xs → AllByRecursion (IsOfRound from to) (view_from older n rows xs)
  viewed_of older n rows [] g h = g
  viewed_of older n rows (Run k end ∷ xs) g h = viewed_of (RowRun k (take (end - n) (drop n rows)) ∷ older) end rows xs (h.0, g) h.1
  viewed_of older n rows (Mark k at ∷ xs) g h = viewed_of (RowMark k ∷ older) n rows xs (h.0, g) h.1

  pub part_epochs : (number : ℕ) (c : BrickContent) → All (IsOfRound from to) (part_view (round_part_with from to number c))
  part_epochs number c =
      let part = round_part_with from to number c in
      All-from_recursion (IsOfRound from to) (part_view part)
      (viewed_of [] 0 part.rows part.entries tt (fold_of (entries_with_rows 0 c.rows c.entries) [] tt))
