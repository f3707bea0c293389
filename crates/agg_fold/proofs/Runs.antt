-- Groups sorted by what their keys stand for, run by run.
use Rattle.std.proofs.Common.{◌≡◌, ◌≢◌, ◌⊎◌, inl, inr, ℕ, zero, suc, ◌<◌, ◌≤◌, Bool, true, false, cond, ◌||◌, List, [], ◌∷◌, length, map, take, drop, All, slice_get, unwrap_or, get_or, refl, sym, ap, ◌∙◌, subst, ⊎_elim, arith}
use Rattle.std.specs.List.{IsDistinct, AllByRecursion}
use Rattle.std.specs.Ordering.{is_lt}
use Rattle.std.specs.Str.{bytes_eq}
use Rattle.std.proofs.lemmas.Bool.{cases_Bool, false≢true}
use Rattle.std.proofs.lemmas.List.Elements.{All-head, All-tail, All-take, All-drop}
use Rattle.std.proofs.lemmas.Map.Keys.{IsDistinct-head, IsDistinct-tail, IsDistinct-cons}
use Rattle.std.proofs.lemmas.Slice.Eq.{bytes_eq-Decides}
use Rattle.cube_values.specs.declared.query.BoundQuery.{BoundQuery}
use Rattle.cube_values.specs.declared.row.CodedRow.{CodedRow}
use Rattle.cube_values.specs.declared.value.Value.{Value}
use Rattle.cube_values.specs.Answer.{key_of}
use Rattle.cube_values.specs.SameValues.{same_values}
use Rattle.cube_values.specs.Values.{values_cmp, values_eq}
use Rattle.agg_fold.specs.declared.finish.Named.{Named}
use Rattle.agg_fold.specs.declared.groups.Groups.{Groups}
use Rattle.agg_fold.specs.Coded.{IsQueryRow, coded_key, row_for}
use Rattle.agg_fold.specs.Lines.{decoded_key}
use Rattle.agg_fold.specs.Places.{is_among}
use Rattle.agg_fold.specs.Tables.{key_at, values_of, AreSorted, IsIn, values_at, AreNamed, distinct_values, BeginOtherwise, IsRun}
use Rattle.agg_fold.proofs.Lines.{Agrees, key_is}
use Rattle.agg_fold.proofs.Standing.{none_once}
use Rattle.std.specs.declared.cmp.Ordering.TheVariants.{Less}
use Rattle.agg_fold.proofs.Order.{in_all, all_later, not_itself}

-- ---- members

pub in_from_among : (ks : List (List ℕ)) (key : List ℕ) → is_among ks key ≡ true → IsIn key ks
in_from_among [] key h = absurd (false≢true h)
in_from_among (k ∷ ks) key h =
    ⊎_elim
    (λ same. inl ((bytes_eq-Decides key k).0 same))
    (λ differ. inr (in_from_among ks key (ap (λ (b : Bool). b || is_among ks key) (sym differ) ∙ h)))
    (cases_Bool (bytes_eq key k))

pub among_from_in : (ks : List (List ℕ)) (key : List ℕ) → IsIn key ks → is_among ks key ≡ true
among_from_in [] key i = absurd i
among_from_in (k ∷ ks) key (inl e) = ap (λ (b : Bool). b || is_among ks key) ((bytes_eq-Decides key k).1 e)
among_from_in (k ∷ ks) key (inr i) = or_true (bytes_eq key k) (is_among ks key) (among_from_in ks key i)
  where
    or_true : (a b : Bool) → b ≡ true → (a || b) ≡ true
    or_true true b e = refl
    or_true false b e = e

in_part : (f : Named → List ℕ) (n : ℕ) (ns : List Named) (key : List ℕ) → IsIn key (map f ns) → IsIn key (map f (take n ns)) ⊎ IsIn key (map f (drop n ns))
in_part f zero ns key i = inr i
in_part f (suc n) [] key i = absurd i
in_part f (suc n) (m ∷ ns) key (inl e) = inl (inl e)
in_part f (suc n) (m ∷ ns) key (inr i) = at (in_part f n ns key i)
  where
    at : IsIn key (map f (take n ns)) ⊎ IsIn key (map f (drop n ns)) → IsIn key (map f (take (suc n) (m ∷ ns))) ⊎ IsIn key (map f (drop n ns))
    at (inl j) = inl (inr j)
    at (inr j) = inr j

-- the values of a key are those of its group
pub in_values : (f : Named → List ℕ) (decode : List ℕ → List Value) (ns : List Named) (key : List ℕ) → All (λ n. n.values ≡ decode (f n)) ns → IsIn key (map f ns) → IsIn (decode key) (values_of ns)
in_values f decode [] key h i = i
in_values f decode (n ∷ ns) key h (inl e) = inl (ap decode e ∙ sym (All-head (λ m. m.values ≡ decode (f m)) n ns h))
in_values f decode (n ∷ ns) key h (inr i) = inr (in_values f decode ns key (All-tail (λ m. m.values ≡ decode (f m)) n ns h) i)

-- ---- parts of lists

all_drop : (P : List Value → Type 0) (n : ℕ) (ns : List Named) → AllByRecursion P (values_of ns) → AllByRecursion P (values_of (drop n ns))
all_drop P zero ns h = h
all_drop P (suc n) [] h = h
all_drop P (suc n) (m ∷ ns) h = all_drop P n ns h.1

sorted_drop : (n : ℕ) (ns : List Named) → AreSorted (values_of ns) → AreSorted (values_of (drop n ns))
sorted_drop zero ns h = h
sorted_drop (suc n) [] h = h
sorted_drop (suc n) (m ∷ ns) h = sorted_drop n ns h.1

once_drop : (f : Named → List ℕ) (n : ℕ) (ns : List Named) → IsDistinct bytes_eq (map f ns) → IsDistinct bytes_eq (map f (drop n ns))
once_drop f zero ns h = h
once_drop f (suc n) [] h = h
once_drop f (suc n) (m ∷ ns) h = once_drop f n ns (IsDistinct-tail bytes_eq (f m) (map f ns) h)

all_take : (P : List ℕ → Type 0) (f : Named → List ℕ) (n : ℕ) (ns : List Named) → AllByRecursion P (map f ns) → AllByRecursion P (map f (take n ns))
all_take P f zero ns h = tt
all_take P f (suc n) [] h = tt
all_take P f (suc n) (m ∷ ns) h = (h.0, all_take P f n ns h.1)

pub once_take : (f : Named → List ℕ) (n : ℕ) (ns : List Named) → IsDistinct bytes_eq (map f ns) → IsDistinct bytes_eq (map f (take n ns))
once_take f zero ns h = none_once
once_take f (suc n) [] h = h
once_take f (suc n) (m ∷ ns) h =
    IsDistinct-cons bytes_eq (f m) (map f (take n ns)) (all_take (λ k. bytes_eq (f m) k ≡ false) f n ns (IsDistinct-head bytes_eq (f m) (map f ns) h)) (once_take f n ns (IsDistinct-tail bytes_eq (f m) (map f ns) h))

-- ---- after a run

differ : (v w : List Value) → w ≢ v → values_eq v w ≡ false
differ v w h = ⊎_elim (λ same. absurd (h (sym ((same_values v w).0 same)))) (λ d. d) (cases_Bool (values_eq v w))

above : (v : List Value) (vs : List (List Value)) → AllByRecursion (λ u. values_cmp v u ≡ Less) vs → AllByRecursion (λ w. w ≢ v) vs
above v [] h = tt
above v (u ∷ vs) h = (λ e. not_itself v (subst (λ (x : List Value). values_cmp v x ≡ Less) e h.0), above v vs h.1)

pub others_from : (v : List Value) (n : ℕ) (ns : List Named) → AllByRecursion (λ w. is_lt (values_cmp w v) ≡ false) (values_of ns) → AreSorted (values_of ns) → BeginOtherwise v (drop n ns) → AllByRecursion (λ w. w ≢ v) (values_of (drop n ns))
others_from v zero [] low sorted begin = tt
others_from v zero (m ∷ ns) low sorted begin =
    above v (values_of (m ∷ ns)) (all_later v m.values (values_of ns) (low, sorted) (differ v m.values begin))
others_from v (suc n) [] low sorted begin = tt
others_from v (suc n) (m ∷ ns) low sorted begin = others_from v n ns low.1 sorted.1 begin

pub ends_run : (v : List Value) (n : ℕ) (ns : List Named) → 0 < n → n ≤ length ns → All (λ m. m.values ≡ v) (take n ns) → BeginOtherwise v (drop n ns) → distinct_values (values_of ns) ≡ v ∷ distinct_values (values_of (drop n ns))
ends_run v zero ns h le same begin = absurd (omega arith)
ends_run v (suc n) [] h le same begin = absurd (omega arith)
ends_run v (suc zero) (m ∷ []) h le same begin = λ i. All-head (λ k. k.values ≡ v) m [] same i ∷ []
ends_run v (suc (suc n)) (m ∷ []) h le same begin = absurd (omega arith)
ends_run v (suc zero) (m ∷ k ∷ ns) h le same begin =
    let e : m.values ≡ v = All-head (λ j. j.values ≡ v) m [] same in
    ap (λ (b : Bool). cond b (distinct_values (values_of (k ∷ ns))) (m.values ∷ distinct_values (values_of (k ∷ ns)))) (ap (λ (w : List Value). values_eq w k.values) e ∙ differ v k.values begin)
    ∙ ap (λ (w : List Value). w ∷ distinct_values (values_of (k ∷ ns))) e
ends_run v (suc (suc n)) (m ∷ k ∷ ns) h le same begin =
    let rest = All-tail (λ j. j.values ≡ v) m (k ∷ take n ns) same in
    let e : m.values ≡ k.values = All-head (λ j. j.values ≡ v) m (k ∷ take n ns) same ∙ sym (All-head (λ j. j.values ≡ v) k (take n ns) rest) in
    ap (λ (b : Bool). cond b (distinct_values (values_of (k ∷ ns))) (m.values ∷ distinct_values (values_of (k ∷ ns)))) ((same_values m.values k.values).1 e)
    ∙ ends_run v (suc n) (k ∷ ns) (omega arith) (omega arith) rest begin

-- ---- the rows of a run

module _ (lists : List (List (List ℕ))) (query : BoundQuery) (rows : List CodedRow) (groups : Groups) (ns : List Named) (r : AreNamed lists query rows groups ns) (v : List Value) (n : ℕ)
    (low : AllByRecursion (λ w. is_lt (values_cmp w v) ≡ false) (values_of ns)) (run : IsRun v ns n) (taken : All (IsQueryRow query) rows) where
  abbrev key : Named → List ℕ
  key = key_at groups.keys

  abbrev decode : List ℕ → List Value
  decode = decoded_key lists query.group

  others : AllByRecursion (λ w. w ≢ v) (values_of (drop n ns))
  others = others_from v n ns low r.sorted run.ended

  -- what a key of the run stands for
  run_values : (ms : List Named) → All (λ m. m.values ≡ v) ms → All (λ m. m.values ≡ decode (key m)) ms → (k : List ℕ) → IsIn k (map key ms) → decode k ≡ v
  run_values [] same h k i = absurd i
  run_values (m ∷ ms) same h k (inl e) = ap decode e ∙ sym (All-head (λ j. j.values ≡ decode (key j)) m ms h) ∙ All-head (λ j. j.values ≡ v) m ms same
  run_values (m ∷ ms) same h k (inr i) = run_values ms (All-tail (λ j. j.values ≡ v) m ms same) (All-tail (λ j. j.values ≡ decode (key j)) m ms h) k i

  in_run : (k : List ℕ) → IsIn k (map key (take n ns)) → decode k ≡ v
  in_run = run_values (take n ns) run.same (All-take (λ m. m.values ≡ decode (key m)) n ns r.values)

  -- no key after the run stands for its values
  in_rest : (k : List ℕ) → IsIn k (map key (drop n ns)) → decode k ≢ v
  in_rest k i = in_all (λ w. w ≢ v) (decode k) (values_of (drop n ns)) others (in_values key decode (drop n ns) k (All-drop (λ m. m.values ≡ decode (key m)) n ns r.values) i)

  pub rest_all : All (λ row. IsIn (coded_key query.group row.coords) (map key (drop n ns)) ⊎ AllByRecursion (λ w. w ≢ values_at lists query.group row) (values_of (drop n ns))) rows
  rest_all k d h = at (r.all k d h)
    where
      k' : List ℕ
      k' = coded_key query.group (get_or rows k d).coords

      split : IsIn k' (map key (take n ns)) ⊎ IsIn k' (map key (drop n ns)) → IsIn k' (map key (drop n ns)) ⊎ AllByRecursion (λ w. w ≢ decode k') (values_of (drop n ns))
      split (inl i) = inr (subst (λ (u : List Value). AllByRecursion (λ w. w ≢ u) (values_of (drop n ns))) (sym (in_run k' i)) others)
      split (inr i) = inl i

      at : IsIn k' (map key ns) ⊎ AllByRecursion (λ w. w ≢ decode k') (values_of ns) → IsIn k' (map key (drop n ns)) ⊎ AllByRecursion (λ w. w ≢ decode k') (values_of (drop n ns))
      at (inl i) = split (in_part key n ns k' i)
      at (inr a) = inr (all_drop (λ w. w ≢ decode k') n ns a)

  pub rest_named : AreNamed lists query rows groups (drop n ns)
  rest_named = record {
    within = All-drop (λ m. m.place < length groups.keys) n ns r.within;
    some = All-drop (λ m. 0 < unwrap_or (slice_get groups.counts.items m.place) 0) n ns r.some;
    values = All-drop (λ m. m.values ≡ decode (key m)) n ns r.values;
    once = once_drop key n ns r.once;
    all = rest_all;
    sorted = sorted_drop n ns r.sorted;
  }

  -- a row has the run's values just where its key is one of the run's
  pub run_agrees : IsIn v (values_of ns) → All (Agrees lists query v (map key (take n ns))) rows
  run_agrees has k d h = ⊎_elim yes no (cases_Bool (is_among (map key (take n ns)) k'))
    where
      row : CodedRow
      row = get_or rows k d

      k' : List ℕ
      k' = coded_key query.group row.coords

      is : decode k' ≡ key_of query.group (row_for lists row)
      is = key_is lists query.group row (taken k d h).sound.group

      yes : is_among (map key (take n ns)) k' ≡ true → values_eq (key_of query.group (row_for lists row)) v ≡ is_among (map key (take n ns)) k'
      yes e = (same_values (key_of query.group (row_for lists row)) v).1 (sym is ∙ in_run k' (in_from_among (map key (take n ns)) k' e)) ∙ sym e

      split : is_among (map key (take n ns)) k' ≡ false → decode k' ≡ v → IsIn k' (map key (take n ns)) ⊎ IsIn k' (map key (drop n ns)) → ⊥
      split e f (inl i) = false≢true (sym e ∙ among_from_in (map key (take n ns)) k' i)
      split e f (inr i) = in_rest k' i f

      clash : is_among (map key (take n ns)) k' ≡ false → decode k' ≡ v → IsIn k' (map key ns) ⊎ AllByRecursion (λ w. w ≢ decode k') (values_of ns) → ⊥
      clash e f (inl i) = split e f (in_part key n ns k' i)
      clash e f (inr a) = in_all (λ w. w ≢ decode k') v (values_of ns) a has (sym f)

      no : is_among (map key (take n ns)) k' ≡ false → values_eq (key_of query.group (row_for lists row)) v ≡ is_among (map key (take n ns)) k'
      no e = ⊎_elim (λ same. absurd (clash e (is ∙ (same_values (key_of query.group (row_for lists row)) v).0 same) (r.all k d h))) (λ differ. differ ∙ sym e) (cases_Bool (values_eq (key_of query.group (row_for lists row)) v))
