-- The bits that are set as a pass over the entries goes, and what they are at its end.
use Rattle.std.proofs.Common.{◌≡◌, ℕ, ◌-◌, ◌<◌, ◌≤◌, ◌&&◌, not, nat_lt, Bool, true, false, List, [], ◌∷◌, ◌++◌, Option, Some, None, length, take, drop, replicate, get_or, refl, ap, sym, subst, ◌∙◌, inl, inr, arith}
use Rattle.std.specs.List.{list_any}
use Rattle.std.specs.Option.{option_map_or}
use Rattle.std.proofs.lemmas.Bool.{cases_lt}
use Rattle.std.proofs.lemmas.Bool.Decides.{nat_tests}
use Rattle.std.proofs.lemmas.List.{ext_get_or, take_all, length-take-le, length-replicate, length-append, length-drop, get_or_append_left, get_or-append_right, get_or-take, get_or-drop, get_or-replicate}
use Rattle.std.proofs.lemmas.List.FromFn.{length-map-range_with_len, get_or-map-range_with_len}
use Rattle.cube_values.specs.declared.entry.Entry.{Entry}
use Rattle.cube_values.specs.declared.entry.Entry.TheVariants.{Run, Mark}
use Rattle.cube_values.specs.declared.snapshot.Snapshot.{Snapshot}
use Rattle.cube_values.specs.BitRows.{filled_bits}
use Rattle.cube_values.specs.EpochsVector.{Leads, epoch_at, is_hidden_by, rows_of, sees_row}
use Rattle.cube_values.specs.Sees.{sees}
use Rattle.epochs_vector.specs.declared.limit.Limit.{Limit}
use Rattle.epochs_vector.specs.Limits.{is_below}
use Rattle.epochs_vector.specs.Seen.{is_shown, seen_rows, ShowsRun}

-- a list that is filled in part
pub long_filled : (xs : List Bool) (from to : ℕ) (on : Bool) → from ≤ to → to ≤ length xs → length (filled_bits xs from to on) ≡ length xs
long_filled xs from to on p q = simp (length-append, length-replicate, length-drop) (omega (arith, length-take-le from xs (omega arith)))

pub at_below : (xs : List Bool) (from to : ℕ) (on : Bool) → from ≤ to → to ≤ length xs → (i : ℕ) → i < from → get_or (filled_bits xs from to on) i false ≡ get_or xs i false
at_below xs from to on p q i h =
    let e = length-take-le from xs (omega arith) in
    let m = length-append (take from xs) (replicate (to - from) on) in
    get_or_append_left (take from xs ++ replicate (to - from) on) (drop to xs) false i (omega arith) ∙ get_or_append_left (take from xs) (replicate (to - from) on) false i (omega arith) ∙ get_or-take from xs i false h

pub at_inside : (xs : List Bool) (from to : ℕ) (on : Bool) → to ≤ length xs → (i : ℕ) → from ≤ i → i < to → get_or (filled_bits xs from to on) i false ≡ on
at_inside xs from to on q i p h =
    let e = length-take-le from xs (omega arith) in
    let m = length-append (take from xs) (replicate (to - from) on) in
    let r = length-replicate (to - from) on in
    get_or_append_left (take from xs ++ replicate (to - from) on) (drop to xs) false i (omega arith) ∙ get_or-append_right (take from xs) (replicate (to - from) on) from i false e p ∙ get_or-replicate (to - from) (i - from) on false (omega arith)

pub at_above : (xs : List Bool) (from to : ℕ) (on : Bool) → from ≤ to → to ≤ length xs → (i : ℕ) → to ≤ i → get_or (filled_bits xs from to on) i false ≡ get_or xs i false
at_above xs from to on p q i h =
    let e = length-take-le from xs (omega arith) in
    let m = length-append (take from xs) (replicate (to - from) on) in
    let r = length-replicate (to - from) on in
    get_or-append_right (take from xs ++ replicate (to - from) on) (drop to xs) to i false (omega arith) h ∙ get_or-drop to xs (i - to) false ∙ ap (λ k. get_or xs k false) (omega arith)

-- a run whose epoch is seen, from the first row that is not hidden on, and one whose epoch is not seen
both : (a b : Bool) (x : Bool) → a ≡ true → b ≡ x → (a && not b) ≡ not x
both a b x p q = rw (p, q)

pub run_shown : (s : Snapshot) (limit : Limit) (j from first end : ℕ) (old new : List Bool) → new ≡ filled_bits old first end true → from ≤ first → first ≤ end → end ≤ length old → sees s j ≡ true → ((i : ℕ) → from ≤ i → i < end → is_below limit j i ≡ nat_lt i first) → ((i : ℕ) → from ≤ i → get_or old i false ≡ false) → ShowsRun s limit j from end old new
run_shown s limit j from first end old new e low high within seen below clear =
    let at : (i : ℕ) → get_or new i false ≡ get_or (filled_bits old first end true) i false = λ i. ap (λ (l : List Bool). get_or l i false) e in
    record {
      long = ap length e ∙ long_filled old first end true high within;
      inside = λ i p q. at i ∙ elim (cases_lt i first) [
        | inl a ↦ at_below old first end true high within i a ∙ clear i p ∙ sym (both (sees s j) (is_below limit j i) true seen (below i p q ∙ grind (arith, nat_tests)))
        | inr a ↦ at_inside old first end true within i a q ∙ sym (both (sees s j) (is_below limit j i) false seen (below i p q ∙ grind (arith, nat_tests)))
      ];
      below = λ i p. at i ∙ at_below old first end true high within i (omega arith);
      above = λ i p. at i ∙ at_above old first end true high within i p;
    }

unseen : (a b : Bool) → a ≡ false → false ≡ (a && not b)
unseen a b p = rw p

-- the bits after the entries before `left`, which lead to `from` rows
pub record IsShownSoFar (s : Snapshot) (limit : Limit) (entries left : List Entry) (from : ℕ) (old bits : List Bool) : Type 0 where
  pub long : length bits ≡ length old
  pub leads : Leads from left (length old)
  pub same : (i : ℕ) → from ≤ i → epoch_at entries i ≡ epoch_at left i
  pub done : (i : ℕ) → i < from → get_or bits i false ≡ is_shown s limit (epoch_at entries i) i
  pub clear : (i : ℕ) → from ≤ i → get_or bits i false ≡ false

pub in_run : (rest : List Entry) (j end i : ℕ) → i < end → epoch_at (Run j end ∷ rest) i ≡ Some j
in_run rest j end i h = let e : nat_lt i end ≡ true = grind (arith, nat_tests) in rw e

pub past_run : (rest : List Entry) (j end i : ℕ) → end ≤ i → epoch_at (Run j end ∷ rest) i ≡ epoch_at rest i
past_run rest j end i h = let e : nat_lt i end ≡ false = grind (arith, nat_tests) in rw e

pub shown_run : (s : Snapshot) (limit : Limit) (entries rest : List Entry) (j end from : ℕ) (old bits new : List Bool) → IsShownSoFar s limit entries (Run j end ∷ rest) from old bits → ShowsRun s limit j from end bits new → IsShownSoFar s limit entries rest end old new
shown_run s limit entries rest j end from old bits new k r =
    let more : from < end = k.leads.0 in
    record {
      long = r.long ∙ k.long;
      leads = k.leads.1;
      same = λ i h. k.same i (omega arith) ∙ past_run rest j end i h;
      done = λ i h. elim (cases_lt i from) [
        | inl a ↦ r.below i a ∙ k.done i a
        | inr a ↦ r.inside i a h ∙ ap (λ o. is_shown s limit o i) (sym (k.same i a ∙ in_run rest j end i h))
      ];
      clear = λ i h. r.above i h ∙ k.clear i (omega arith);
    }

-- the same where the entries left are known by their head
pub headed : (xs : List Entry) (d e : Entry) → 1 ≤ length xs → get_or xs 0 d ≡ e → xs ≡ e ∷ take (length xs - 1) (drop 1 xs)
headed [] d e l h = absurd (omega arith)
headed (x ∷ xs) d e l h = let q = take_all (length (x ∷ xs) - 1) xs (omega arith) in cc

at_run : (s : Snapshot) (limit : Limit) (entries left rest : List Entry) (j end from : ℕ) (old bits : List Bool) → left ≡ Run j end ∷ rest → IsShownSoFar s limit entries left from old bits → IsShownSoFar s limit entries (Run j end ∷ rest) from old bits
at_run s limit entries left rest j end from old bits e k = let P : List Entry → Type 0 = λ l. IsShownSoFar s limit entries l from old bits in subst P e k

pub next_run : (s : Snapshot) (limit : Limit) (entries left rest : List Entry) (j end from : ℕ) (old bits new : List Bool) → left ≡ Run j end ∷ rest → IsShownSoFar s limit entries left from old bits → ShowsRun s limit j from end bits new → IsShownSoFar s limit entries rest end old new
next_run s limit entries left rest j end from old bits new e k r = shown_run s limit entries rest j end from old bits new (at_run s limit entries left rest j end from old bits e k) r

-- entries lead to no fewer rows
pub lead_up : (from : ℕ) (xs : List Entry) (to : ℕ) → Leads from xs to → from ≤ to
lead_up from [] to l = omega (arith, l)
lead_up from (Run epoch end ∷ xs) to l = omega (arith, l.0, lead_up end xs to l.1)
lead_up from (Mark epoch at ∷ xs) to l = lead_up from xs to l.1

pub run_within : (s : Snapshot) (limit : Limit) (entries left rest : List Entry) (j end from : ℕ) (old bits : List Bool) → left ≡ Run j end ∷ rest → IsShownSoFar s limit entries left from old bits → end ≤ length bits
run_within s limit entries left rest j end from old bits e k =
    let r = at_run s limit entries left rest j end from old bits e k in
    omega (arith, lead_up end rest (length old) r.leads.1, r.long)

-- the limit says what the marks say
shown_is_seen : (s : Snapshot) (limit : Limit) (entries : List Entry) (i : ℕ) → ((j i : ℕ) → list_any (is_hidden_by s j i) entries ≡ is_below limit j i) → (o : Option ℕ) → is_shown s limit o i ≡ option_map_or (λ j. sees s j && not (list_any (is_hidden_by s j i) entries)) o false
shown_is_seen s limit entries i h None = refl
shown_is_seen s limit entries i h (Some j) = ap (λ b. sees s j && not b) (sym (h j i))

pub all_seen : (s : Snapshot) (limit : Limit) (entries : List Entry) (bits : List Bool) → ((j i : ℕ) → list_any (is_hidden_by s j i) entries ≡ is_below limit j i) → length bits ≡ rows_of entries → ((i : ℕ) → i < length bits → get_or bits i false ≡ is_shown s limit (epoch_at entries i) i) → bits ≡ seen_rows s entries
all_seen s limit entries bits h l k =
    let n : ℕ = rows_of entries in
    ext_get_or false bits (seen_rows s entries) (l ∙ sym (length-map-range_with_len (sees_row s entries) 0 n)) (λ i p. k i p ∙ shown_is_seen s limit entries i h (epoch_at entries i) ∙ sym (get_or-map-range_with_len (sees_row s entries) 0 n i i false (omega arith) (omega arith)))
