-- The rows that a shard holds are those that its view shows.
use Rattle.std.proofs.Common.{◌≡◌, ◌∙◌, ℕ, ◌-◌, ◌≤◌, ◌%◌, Bool, true, false, not, ◌&&◌, nat_lt, nat_le, List, [], ◌∷◌, ◌++◌, length, take, drop, append_assoc, append-nil, refl, sym, ap, arith, le-leb}
use Rattle.std.specs.List.{AllByRecursion}
use Rattle.std.proofs.lemmas.Bool.{ltb-false, or_parts}
use Rattle.std.proofs.lemmas.List.{take_all}
use Rattle.cube_values.specs.declared.entry.Entry.{Entry}
use Rattle.cube_values.specs.declared.entry.Entry.TheVariants.{Run, Mark}
use Rattle.cube_values.specs.declared.row.CodedRow.{CodedRow}
use Rattle.cube_values.specs.Batches.{rows_between}
use Rattle.cube_values.specs.EpochsVector.{Leads}
use Rattle.brick_map.specs.Births.{BrickContent}
use Rattle.core_events.specs.Events.{Opening}
use Rattle.core_events.specs.ShardView.{BrickEntry, RowRun, RowMark, EpochSet, ShardView, every_epoch, is_below_mark, is_up_to, rows_appended, rows_shown_to, rows_where}
use Rattle.shard_cell.specs.Shards.{ShardState, shard_brick}
use Rattle.shard_events.specs.ShardsInRuns.{StandsInRun}
use Rattle.shard_views.specs.Views.{IsUniform, IsWholeContent, brick_view}
use Rattle.shard_views.proofs.Alike.{rows_split, view_from}
use Rattle.shard_events.specs.ViewedShards.{shard_view}
use Rattle.final_shards.specs.PurgedBricks.{HasNoMark, rows_held_up_to}
use Rattle.shut_shards.specs.ShutShards.{HasNoMarksUpTo, IsNoMarkUpTo, IsRunEntry, rows_in_shard, rows_in_shard_up_to}

-- ---- sights that obey no mark

abbrev no_epoch : EpochSet
no_epoch e = false

below-none : (e : ℕ) (xs : List BrickEntry) → is_below_mark no_epoch e xs ≡ false
below-none e [] = refl
below-none e (RowRun j rows ∷ older) = below-none e older
below-none e (RowMark d ∷ older) = below-none e older

and-true : (b : Bool) → (b && true) ≡ b
and-true true = refl
and-true false = refl

all-shown : (xs : List BrickEntry) → rows_shown_to every_epoch no_epoch xs ≡ rows_appended xs
all-shown [] = refl
all-shown (RowRun e rows ∷ older) = λ i. all-shown older i ++ rows_where (not (below-none e older i)) rows
all-shown (RowMark d ∷ older) = all-shown older

held-shown : (at : ℕ) (xs : List BrickEntry) → rows_shown_to (is_up_to at) no_epoch xs ≡ rows_held_up_to at xs
held-shown at [] = refl
held-shown at (RowRun e rows ∷ older) =
    (λ i. held-shown at older i ++ rows_where (nat_le e at && not (below-none e older i)) rows)
    ∙ ap (λ (b : Bool). rows_held_up_to at older ++ rows_where b rows) (and-true (nat_le e at))
held-shown at (RowMark d ∷ older) = held-shown at older

up-to-uniform : (low : ℕ) → IsUniform low (is_up_to low)
up-to-uniform low a b la lb = le-leb a low la ∙ sym (le-leb b low lb)

-- ---- the rows of a brick's entries

leads-rise : (n to : ℕ) (xs : List Entry) → Leads n xs to → n ≤ to
leads-rise n to [] h = omega (arith, h)
leads-rise n to (Run epoch end ∷ xs) h =
    let first = h.0 in let rest = leads-rise end to xs h.1 in omega (arith, first, rest)
leads-rise n to (Mark epoch at ∷ xs) h = leads-rise n to xs h.1

none-between : (n : ℕ) (rows : List CodedRow) → rows_between n n rows ≡ []
none-between n rows = let none : n - n ≡ 0 = omega arith in ap (λ (k : ℕ). take k (drop n rows)) none

entries-rows : (rows : List CodedRow) (n to : ℕ) (xs : List Entry) (older : List BrickEntry) → Leads n xs to
    → rows_appended (view_from older n rows xs) ≡ rows_appended older ++ rows_between n to rows
entries-rows rows n to [] older h =
    sym (append-nil (rows_appended older))
    ∙ ap (λ (more : List CodedRow). rows_appended older ++ more)
    (sym (none-between n rows) ∙ ap (λ (k : ℕ). rows_between n k rows) h)
entries-rows rows n to (Run epoch end ∷ xs) older h =
    let first = h.0 in
    entries-rows rows end to xs (RowRun epoch (rows_between n end rows) ∷ older) h.1
    ∙ append_assoc (rows_appended older) (rows_between n end rows) (rows_between end to rows)
    ∙ ap (λ (more : List CodedRow). rows_appended older ++ more)
    (sym (rows_split n end to rows (omega (arith, first)) (leads-rise end to xs h.1)))
entries-rows rows n to (Mark epoch at ∷ xs) older h = entries-rows rows n to xs (RowMark epoch ∷ older) h.1

content-rows : (c : BrickContent) → IsWholeContent c → rows_appended (brick_view c) ≡ c.rows
content-rows c whole =
    let whole_length : length c.rows - 0 ≡ length c.rows = omega arith in
    entries-rows c.rows 0 (length c.rows) c.entries [] whole.leads
    ∙ ap (λ (k : ℕ). take k c.rows) whole_length
    ∙ take_all (length c.rows) c.rows (omega arith)

-- ---- a shard in a run

pub all-in-shard : (o : Opening) (number low cube brick : ℕ) (shard : ShardState) (view : ShardView)
    → StandsInRun o number low shard view → brick % o.shards ≡ number
    → rows_in_shard shard cube brick ≡ rows_appended (view cube brick)
all-in-shard o number low cube brick shard view stands here =
    sym (content-rows (shard_brick shard cube brick) (stands.whole cube brick))
    ∙ sym (all-shown (shard_view shard cube brick))
    ∙ (stands.own cube brick here).rows every_epoch no_epoch (λ a b la lb. refl)
    ∙ all-shown (view cube brick)

pub up-to-in-shard : (o : Opening) (number low cube brick : ℕ) (shard : ShardState) (view : ShardView)
    → StandsInRun o number low shard view → brick % o.shards ≡ number
    → rows_in_shard_up_to low shard cube brick ≡ rows_held_up_to low (view cube brick)
up-to-in-shard o number low cube brick shard view stands here =
    sym (held-shown low (shard_view shard cube brick))
    ∙ (stands.own cube brick here).rows (is_up_to low) no_epoch (up-to-uniform low)
    ∙ held-shown low (view cube brick)

-- ---- marks

-- The marks of entries are not above an epoch.
abbrev IsMarkUpTo : ℕ → Entry → Type 0
IsMarkUpTo low (Run e end) = Unit {0}
IsMarkUpTo low (Mark e at) = e ≤ low

record HidesNone (low : ℕ) (xs : List Entry) (older : List BrickEntry) : Type 0 where
  entries : AllByRecursion (IsMarkUpTo low) xs
  before : is_below_mark every_epoch low older ≡ false

hides-none : (rows : List CodedRow) (low n : ℕ) (xs : List Entry) (older : List BrickEntry)
    → is_below_mark every_epoch low (view_from older n rows xs) ≡ false → HidesNone low xs older
hides-none rows low n [] older not = record { entries = tt; before = not }
hides-none rows low n (Run e end ∷ xs) older not =
    let rest = hides-none rows low end xs (RowRun e (rows_between n end rows) ∷ older) not in
    record { entries = (tt, rest.entries); before = rest.before }
hides-none rows low n (Mark e at ∷ xs) older not =
    let rest = hides-none rows low n xs (RowMark e ∷ older) not in
    let parts = or_parts (nat_lt low e) (is_below_mark every_epoch low older) rest.before in
    let up_to = ltb-false low e parts.0 in
    record { entries = (up_to, rest.entries); before = parts.1 }

no-below : (xs : List BrickEntry) (low : ℕ) → HasNoMark xs → is_below_mark every_epoch low xs ≡ false
no-below [] low none = refl
no-below (RowRun e rows ∷ older) low none = no-below older low none
no-below (RowMark e ∷ older) low none = absurd none

no-mark-left : (low : ℕ) (xs : List Entry) → AllByRecursion (IsNoMarkUpTo low) xs → AllByRecursion (IsMarkUpTo low) xs
    → AllByRecursion IsRunEntry xs
no-mark-left low [] none up = tt
no-mark-left low (Run e end ∷ xs) none up = (tt, no-mark-left low xs none.1 up.1)
no-mark-left low (Mark e at ∷ xs) none up =
    absurd (let above = none.0 in let below = up.0 in omega (arith, above, below))

pub no-mark-in-shard : (o : Opening) (number low cube brick : ℕ) (shard : ShardState) (view : ShardView)
    → StandsInRun o number low shard view → brick % o.shards ≡ number → HasNoMark (view cube brick)
    → HasNoMarksUpTo low shard → AllByRecursion IsRunEntry (shard_brick shard cube brick).entries
no-mark-in-shard o number low cube brick shard view stands here none old =
    let c = shard_brick shard cube brick in
    no-mark-left low c.entries (old cube brick)
    (hides-none c.rows low 0 c.entries []
    ((stands.own cube brick here).hidden every_epoch low (omega arith) ∙ no-below (view cube brick) low none)).entries

-- ---- no rows

append-none : (xs ys : List CodedRow) → xs ++ ys ≡ [] → (xs ≡ []) × (ys ≡ [])
append-none [] ys none = (refl, none)
append-none (x ∷ xs) ys none = absurd (let long = ap length none in omega (arith, long))

where-none : (b : Bool) (rows : List CodedRow) → rows ≡ [] → rows_where b rows ≡ []
where-none true rows none = none
where-none false rows none = refl

none-held : (at : ℕ) (xs : List BrickEntry) → rows_appended xs ≡ [] → rows_held_up_to at xs ≡ []
none-held at [] none = refl
none-held at (RowRun e rows ∷ older) none =
    let parts = append-none (rows_appended older) rows none in
    λ i. none-held at older parts.0 i ++ where-none (nat_le e at) rows parts.1 i
none-held at (RowMark e ∷ older) none = none-held at older none

pub others-in-shard : (o : Opening) (number low cube brick : ℕ) (shard : ShardState) (view : ShardView)
    → StandsInRun o number low shard view → (brick % o.shards ≡ number → ⊥)
    → rows_in_shard_up_to low shard cube brick ≡ []
others-in-shard o number low cube brick shard view stands apart =
    none-held low (shard_view shard cube brick)
    (content-rows (shard_brick shard cube brick) (stands.whole cube brick) ∙ stands.others cube brick apart)
