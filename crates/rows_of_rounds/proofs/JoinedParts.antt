-- Parts of a brick, joined: their entries lead over their rows, and what a snapshot sees of them in the core's words.
use Rattle.std.proofs.Common.{◌≡◌, ◌∙◌, ℕ, suc, ◌+◌, ◌-◌, Bool, true, false, List, [], ◌∷◌, ◌++◌, length, map, take, drop, cond, not, ◌&&◌, refl, sym, ap, subst, arith, append_assoc, append-nil}
use Rattle.std.proofs.Math.Seq.{drop-append-add}
use Rattle.std.specs.List.{AllByRecursion, items_where_true, list_any, range_with_len}
use Rattle.std.specs.Option.{option_map_or}
use Rattle.std.proofs.lemmas.List.{length-append, take_all}
use Rattle.cube_values.specs.declared.entry.Entry.{Entry}
use Rattle.cube_values.specs.declared.entry.Entry.TheVariants.{Run, Mark}
use Rattle.cube_values.specs.declared.row.CodedRow.{CodedRow}
use Rattle.cube_values.specs.declared.snapshot.Snapshot.{Snapshot}
use Rattle.cube_values.specs.Batches.{rows_between}
use Rattle.cube_values.specs.EpochsVector.{Leads, epoch_at, is_hidden_by, sees_row}
use Rattle.cube_values.specs.Sees.{sees}
use Rattle.cube_rounds.specs.Bricks.{BrickPart}
use Rattle.cube_rounds.specs.KeptRows.{entries_behind, entries_joined, rows_joined, rows_seen}
use Rattle.core_events.specs.ShardView.{BrickEntry, RowRun, RowMark, brick_rows_seen}
use Rattle.shard_views.specs.Views.{part_view}
use Rattle.shard_views.proofs.Alike.{view_from}
use Rattle.shard_views.proofs.Grown.{view_more}
use Rattle.shard_views.proofs.Shown.{all_shown, hides, shows, shows_none}

-- ---- one part more

pub entries-more : (rows : ℕ) (parts : List BrickPart) (p : BrickPart)
    → entries_joined rows (parts ++ p ∷ [])
    ≡ entries_joined rows parts ++ entries_behind (rows + length (rows_joined parts)) p.entries
entries-more rows [] p =
    append-nil (entries_behind rows p.entries)
    ∙ ap (λ (n : ℕ). entries_behind n p.entries) (let e : rows ≡ rows + 0 = omega arith in e)
entries-more rows (b ∷ parts) p =
    let more = rows + length b.rows in
    let first = entries_behind rows b.entries in
    let long : more + length (rows_joined parts) ≡ rows + length (rows_joined (b ∷ parts)) =
    omega (arith, length-append b.rows (rows_joined parts))
    in
    ap (λ (l : List Entry). first ++ l)
    (entries-more more parts p ∙ ap (λ (n : ℕ). entries_joined more parts ++ entries_behind n p.entries) long)
    ∙ sym (append_assoc first (entries_joined more parts)
    (entries_behind (rows + length (rows_joined (b ∷ parts))) p.entries))

pub rows-more : (parts : List BrickPart) (p : BrickPart) → rows_joined (parts ++ p ∷ []) ≡ rows_joined parts ++ p.rows
rows-more [] p = append-nil p.rows
rows-more (b ∷ parts) p =
    ap (λ (l : List CodedRow). b.rows ++ l) (rows-more parts p) ∙ sym (append_assoc b.rows (rows_joined parts) p.rows)

leads-behind : (rows from to : ℕ) (entries : List Entry) → Leads from entries to
    → Leads (rows + from) (entries_behind rows entries) (rows + to)
leads-behind rows from to [] leads = ap (λ (n : ℕ). rows + n) leads
leads-behind rows from to (Run epoch end ∷ entries) leads =
    (omega (arith, leads.0), leads-behind rows end to entries leads.1)
leads-behind rows from to (Mark epoch at ∷ entries) leads =
    (ap (λ (n : ℕ). rows + n) leads.0, leads-behind rows from to entries leads.1)

leads-then : (from mid to : ℕ) (xs ys : List Entry) → Leads from xs mid → Leads mid ys to → Leads from (xs ++ ys) to
leads-then from mid to [] ys one two = subst (λ (n : ℕ). Leads n ys to) (sym one) two
leads-then from mid to (Run epoch end ∷ xs) ys one two = (one.0, leads-then end mid to xs ys one.1 two)
leads-then from mid to (Mark epoch at ∷ xs) ys one two = (one.0, leads-then from mid to xs ys one.1 two)

pub leads-more : (parts : List BrickPart) (p : BrickPart)
    → Leads 0 (entries_joined 0 parts) (length (rows_joined parts)) → Leads 0 p.entries (length p.rows)
    → Leads 0 (entries_joined 0 (parts ++ p ∷ [])) (length (rows_joined (parts ++ p ∷ [])))
leads-more parts p one two =
    let rows = length (rows_joined parts) in
    let entries = entries_joined 0 parts in
    let at : rows ≡ 0 + rows = omega arith in
    let from : rows + 0 ≡ rows = omega arith in
    let to : rows + length p.rows ≡ length (rows_joined parts ++ p.rows) =
    omega (arith, length-append (rows_joined parts) p.rows)
    in
    coe 1 0 (i. Leads 0 (entries-more 0 parts p i) (length (rows-more parts p i)))
    (leads-then 0 rows (length (rows_joined parts ++ p.rows)) entries (entries_behind (0 + rows) p.entries) one
    (coe 0 1 (i. Leads (from i) (entries_behind (at i) p.entries) (to i)) (leads-behind rows 0 (length p.rows) p.entries two)))

-- ---- in the core's words

-- The joined entries with their rows, the newest first.
abbrev pub view_of_parts : List BrickPart → List BrickEntry
view_of_parts parts = view_from [] 0 (rows_joined parts) (entries_joined 0 parts)

view-older : (older : List BrickEntry) (n : ℕ) (rows : List CodedRow) (entries : List Entry)
    → view_from older n rows entries ≡ view_from [] n rows entries ++ older
view-older older n rows [] = refl
view-older older n rows (Run epoch end ∷ entries) =
    let run = RowRun epoch (rows_between n end rows) in
    view-older (run ∷ older) end rows entries
    ∙ sym (append_assoc (view_from [] end rows entries) (run ∷ []) older)
    ∙ ap (λ (l : List BrickEntry). l ++ older) (sym (view-older (run ∷ []) end rows entries))
view-older older n rows (Mark epoch at ∷ entries) =
    view-older (RowMark epoch ∷ older) n rows entries
    ∙ sym (append_assoc (view_from [] n rows entries) (RowMark epoch ∷ []) older)
    ∙ ap (λ (l : List BrickEntry). l ++ older) (sym (view-older (RowMark epoch ∷ []) n rows entries))

view-then : (older : List BrickEntry) (n mid : ℕ) (rows : List CodedRow) (xs ys : List Entry) → Leads n xs mid
    → view_from older n rows (xs ++ ys) ≡ view_from (view_from older n rows xs) mid rows ys
view-then older n mid rows [] ys leads = ap (λ (k : ℕ). view_from older k rows ys) leads
view-then older n mid rows (Run epoch end ∷ xs) ys leads =
    view-then (RowRun epoch (rows_between n end rows) ∷ older) end mid rows xs ys leads.1
view-then older n mid rows (Mark epoch at ∷ xs) ys leads =
    view-then (RowMark epoch ∷ older) n mid rows xs ys leads.1

between-behind : (front rows : List CodedRow) (n end : ℕ)
    → rows_between (length front + n) (length front + end) (front ++ rows) ≡ rows_between n end rows
between-behind front rows n end =
    let many : (length front + end) - (length front + n) ≡ end - n = omega arith in
    λ i. take (many i) (drop-append-add front rows n i)

view-behind : (older : List BrickEntry) (front rows : List CodedRow) (n : ℕ) (entries : List Entry)
    → view_from older (length front + n) (front ++ rows) (entries_behind (length front) entries)
    ≡ view_from older n rows entries
view-behind older front rows n [] = refl
view-behind older front rows n (Run epoch end ∷ entries) =
    ap (λ (between : List CodedRow). view_from (RowRun epoch between ∷ older) (length front + end) (front ++ rows)
    (entries_behind (length front) entries)) (between-behind front rows n end)
    ∙ view-behind (RowRun epoch (rows_between n end rows) ∷ older) front rows end entries
view-behind older front rows n (Mark epoch at ∷ entries) =
    view-behind (RowMark epoch ∷ older) front rows n entries

-- A part more has its runs and marks above those of the parts before it.
pub view-with-part : (parts : List BrickPart) (p : BrickPart)
    → Leads 0 (entries_joined 0 parts) (length (rows_joined parts))
    → view_of_parts (parts ++ p ∷ []) ≡ part_view p ++ view_of_parts parts
view-with-part parts p leads =
    let front = rows_joined parts in
    let entries = entries_joined 0 parts in
    let rows = length front in
    let at : 0 + rows ≡ rows = omega arith in
    let from : rows ≡ rows + 0 = omega arith in
    (λ i. view_from [] 0 (rows-more parts p i) (entries-more 0 parts p i))
    ∙ (λ i. view_from [] 0 (front ++ p.rows) (entries ++ entries_behind (at i) p.entries))
    ∙ view-then [] 0 rows (front ++ p.rows) entries (entries_behind rows p.entries) leads
    ∙ ap (λ (older : List BrickEntry). view_from older rows (front ++ p.rows) (entries_behind rows p.entries))
    (view_more entries front p.rows 0 rows [] leads (omega arith))
    ∙ ap (λ (n : ℕ). view_from (view_of_parts parts) n (front ++ p.rows) (entries_behind rows p.entries)) from
    ∙ view-behind (view_of_parts parts) front p.rows 0 p.entries
    ∙ view-older (view_of_parts parts) 0 p.rows p.entries

-- ---- what a snapshot sees

seen-from : (s : Snapshot) (entries : List Entry) (i : ℕ) (rows : List CodedRow)
    → rows_seen s entries i rows ≡ items_where_true (map (sees_row s entries) (range_with_len i (length rows))) rows
seen-from s entries i [] = refl
seen-from s entries i (row ∷ rows) =
    let next : suc i ≡ i + 1 = omega arith in
    at (sees_row s entries i)
    (seen-from s entries (suc i) rows
    ∙ ap (λ (n : ℕ). items_where_true (map (sees_row s entries) (range_with_len n (length rows))) rows) next)
  where
    at : (seen : Bool)
        → rows_seen s entries (suc i) rows
        ≡ items_where_true (map (sees_row s entries) (range_with_len (i + 1) (length rows))) rows
        → cond seen (row ∷ rows_seen s entries (suc i) rows) (rows_seen s entries (suc i) rows)
        ≡ items_where_true (seen ∷ map (sees_row s entries) (range_with_len (i + 1) (length rows))) (row ∷ rows)
    at true rest = ap (λ (l : List CodedRow). row ∷ l) rest
    at false rest = rest

hides-alike : (s : Snapshot) (j i : ℕ) (e : Entry) → is_hidden_by s j i e ≡ hides (sees s) j i e
hides-alike s j i (Run epoch end) = refl
hides-alike s j i (Mark epoch at) = refl

row-alike : (s : Snapshot) (entries : List Entry) (i : ℕ) → sees_row s entries i ≡ shows (sees s) (sees s) entries i
row-alike s entries i = λ t.
    option_map_or (λ j. sees s j && not (list_any (λ e. hides-alike s j i e t) entries)) (epoch_at entries i) false

pub seen-of-parts : (s : Snapshot) (parts : List BrickPart)
    → Leads 0 (entries_joined 0 parts) (length (rows_joined parts))
    → rows_seen s (entries_joined 0 parts) 0 (rows_joined parts) ≡ brick_rows_seen s (view_of_parts parts)
seen-of-parts s parts leads =
    let rows = rows_joined parts in
    let entries = entries_joined 0 parts in
    let all : take (length rows) rows ≡ rows = take_all (length rows) rows (omega arith) in
    seen-from s entries 0 rows
    ∙ (λ t. items_where_true (map (λ i. row-alike s entries i t) (range_with_len 0 (length rows))) (sym all t))
    ∙ (all_shown entries [] rows 0 (length rows) [] (omega arith) leads (shows_none rows)).shown (sees s) (sees s)
