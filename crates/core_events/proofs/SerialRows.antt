-- What a brick shows is what its transactions leave, run one after the other.
use Rattle.std.proofs.Common.{◌≡◌, ◌∙◌, ℕ, zero, suc, ◌+◌, ◌<◌, ◌≤◌, ◌==◌, Bool, true, false, true≢false, not, ◌&&◌, ◌||◌, nat_lt, List, [], ◌∷◌, ◌++◌, if◌then◌else◌, inl, inr, refl, sym, ap, arith, eq-eqb, ne_eqb, lt-ltb, le-ltb}
use Rattle.std.specs.List.{count_by, list_any}
use Rattle.std.proofs.lemmas.Bool.{lt-leb}
use Rattle.cube_values.specs.declared.row.CodedRow.{CodedRow}
use Rattle.cube_values.specs.declared.snapshot.Snapshot.{Snapshot}
use Rattle.cube_values.specs.Sees.{sees}
use Rattle.core_events.specs.ShardView.{BrickEntry, RowRun, RowMark, EpochSet, is_below_mark, epochs_above, epochs_before_mark, rows_where, rows_shown_to, brick_rows_seen}
use Rattle.core_events.specs.BrickTransactions.{entries_of_epoch, rows_after_entries, brick_rows_left}
use Rattle.core_events.proofs.Counts.{number_where, count-append, count-run, where-sum, where-zero, in-order}

-- There is a mark of an epoch.
abbrev pub has_mark : ℕ → List BrickEntry → Bool
has_mark m [] = false
has_mark m (RowRun e rows ∷ older) = has_mark m older
has_mark m (RowMark e ∷ older) = e == m || has_mark m older

-- The rows of an epoch that its own marks leave.
abbrev pub own_rows : ℕ → List BrickEntry → List CodedRow
own_rows m xs = rows_after_entries (entries_of_epoch m xs) []

-- Rows are looked for: those of epochs below m where u, by another set, those of m where v, and none above.
pub record Parts (m : ℕ) (u v : Bool) (all below : EpochSet) : Type 0 where
  pub low : (e : ℕ) → e < m → all e ≡ (u && below e)
  pub here : all m ≡ v
  pub high : (e : ℕ) → m < e → all e ≡ false
  pub none : (e : ℕ) → m ≤ e → below e ≡ false

-- Marks count: those of epochs below m by another set, and those of m.
pub record MarkParts (m : ℕ) (all below : EpochSet) : Type 0 where
  pub low : (e : ℕ) → e < m → all e ≡ below e
  pub here : all m ≡ true
  pub high : (e : ℕ) → m < e → all e ≡ false
  pub none : (e : ℕ) → m ≤ e → below e ≡ false

pub or-assoc : (a b c : Bool) → ((a || b) || c) ≡ (a || (b || c))
or-assoc true b c = refl
or-assoc false b c = refl

pub or-true : (b : Bool) → (b || true) ≡ true
or-true true = refl
or-true false = refl

pub and-assoc : (a b c : Bool) → ((a && b) && c) ≡ (a && (b && c))
and-assoc true b c = refl
and-assoc false b c = refl

pub and-true : (b : Bool) → (b && true) ≡ b
and-true true = refl
and-true false = refl

pub and-false : (b : Bool) → (b && false) ≡ false
and-false true = refl
and-false false = refl

below-parts : (m e : ℕ) (all below : EpochSet) (xs : List BrickEntry) → e < m → MarkParts m all below
    → is_below_mark all e xs ≡ (is_below_mark below e xs || has_mark m xs)
below-parts m e all below [] l p = refl
below-parts m e all below (RowRun j rows ∷ older) l p = below-parts m e all below older l p
below-parts m e all below (RowMark d ∷ older) l p =
    let rest = below-parts m e all below older l p in
    elim (in-order d m) [
      | inl lower ↦
          (λ i. (p.low d lower i && nat_lt e d) || rest i)
          ∙ sym (or-assoc (below d && nat_lt e d) (is_below_mark below e older) (has_mark m older))
          ∙ ap (λ (b : Bool). ((below d && nat_lt e d) || is_below_mark below e older) || (b || has_mark m older))
          (sym (ne_eqb d m (λ same. omega (arith, lower, same))))
      | inr (inl same) ↦
          (let hit : all d ≡ true = ap all same ∙ p.here in
          let less : nat_lt e d ≡ true = lt-ltb e d (omega (arith, l, same)) in
          (λ i. (hit i && less i) || is_below_mark all e older)
          ∙ sym (or-true ((below d && nat_lt e d) || is_below_mark below e older))
          ∙ ap (λ (b : Bool). ((below d && nat_lt e d) || is_below_mark below e older) || (b || has_mark m older))
          (sym (eq-eqb d m same)))
      | inr (inr higher) ↦
          (let gone : below d ≡ false = p.none d (omega (arith, higher)) in
          (λ i. (p.high d higher i && nat_lt e d) || rest i)
          ∙ ap (λ (b : Bool). is_below_mark below e older || (b || has_mark m older)) (sym (ne_eqb d m (λ same. omega (arith, higher, same))))
          ∙ ap (λ (b : Bool). ((b && nat_lt e d) || is_below_mark below e older) || (d == m || has_mark m older)) (sym gone))
    ]

-- No mark hides the rows of m.
below-none : (m : ℕ) (all : EpochSet) (xs : List BrickEntry) → ((e : ℕ) → m < e → all e ≡ false) → is_below_mark all m xs ≡ false
below-none m all [] high = refl
below-none m all (RowRun j rows ∷ older) high = below-none m all older high
below-none m all (RowMark d ∷ older) high =
    let rest = below-none m all older high in
    elim (in-order d m) [
      | inl lower ↦ (λ i. (all d && le-ltb m d (omega (arith, lower)) i) || rest i) ∙ ap (λ (b : Bool). b || false) (and-false (all d))
      | inr (inl same) ↦ (λ i. (all d && le-ltb m d (omega (arith, same)) i) || rest i) ∙ ap (λ (b : Bool). b || false) (and-false (all d))
      | inr (inr higher) ↦ (λ i. (high d higher i && nat_lt m d) || rest i)
    ]

-- A mark below m, in both sets.
parts-above : (m d : ℕ) (u v : Bool) (all below : EpochSet) → d < m → Parts m u v all below
    → Parts m u v (epochs_above d all) (epochs_above d below)
parts-above m d u v all below l p = record {
  low = λ e le. ap (λ (b : Bool). b && nat_lt d e) (p.low e le) ∙ and-assoc u (below e) (nat_lt d e);
  here = (λ i. p.here i && lt-ltb d m l i) ∙ and-true v;
  high = λ e le. ap (λ (b : Bool). b && nat_lt d e) (p.high e le);
  none = λ e le. ap (λ (b : Bool). b && nat_lt d e) (p.none e le);
}

parts-before : (counts : Bool) (m d : ℕ) (u v : Bool) (all below : EpochSet) → d < m → Parts m u v all below
    → Parts m u v (epochs_before_mark counts d all) (epochs_before_mark counts d below)
parts-before true m d u v all below l p = parts-above m d u v all below l p
parts-before false m d u v all below l p = p

-- A mark of m leaves nothing of the epochs up to m.
parts-none : (m : ℕ) (u v : Bool) (all below : EpochSet) → Parts m u v all below → Parts m false false (epochs_above m all) below
parts-none m u v all below p = record {
  low = λ e le. ap (λ (b : Bool). all e && b) (le-ltb m e (omega (arith, le))) ∙ and-false (all e);
  here = ap (λ (b : Bool). all m && b) (le-ltb m m (omega arith)) ∙ and-false (all m);
  high = λ e le. ap (λ (b : Bool). b && nat_lt m e) (p.high e le);
  none = p.none;
}

pub low-run : (u a hides has : Bool) (n : ℕ)
    → number_where ((u && a) && not (hides || has)) n ≡ number_where (u && not has) (number_where (a && not hides) n)
low-run true true true true n = refl
low-run true true true false n = refl
low-run true true false true n = refl
low-run true true false false n = refl
low-run true false true true n = refl
low-run true false true false n = refl
low-run true false false true n = refl
low-run true false false false n = refl
low-run false a hides has n = refl

pub none-run : (x y : Bool) (n : ℕ) → x ≡ false → number_where (x && y) n ≡ 0
none-run true y n e = absurd (true≢false e)
none-run false y n e = refl

run-here : (v hides : Bool) (n : ℕ) → hides ≡ false → number_where (v && not hides) n ≡ number_where v n
run-here true true n e = absurd (true≢false e)
run-here true false n e = refl
run-here false hides n e = refl

skip-run : (m e : ℕ) (rows : List CodedRow) (older : List BrickEntry) → (e ≡ m → ⊥)
    → own_rows m (RowRun e rows ∷ older) ≡ own_rows m older
skip-run m e rows older other =
    ap (λ (b : Bool). rows_after_entries (if b then RowRun e rows ∷ entries_of_epoch m older else entries_of_epoch m older) []) (ne_eqb e m other)

take-run : (m e : ℕ) (rows : List CodedRow) (older : List BrickEntry) → e ≡ m
    → own_rows m (RowRun e rows ∷ older) ≡ own_rows m older ++ rows
take-run m e rows older same =
    ap (λ (b : Bool). rows_after_entries (if b then RowRun e rows ∷ entries_of_epoch m older else entries_of_epoch m older) []) (eq-eqb e m same)

skip-mark : (m e : ℕ) (older : List BrickEntry) → (e ≡ m → ⊥) → own_rows m (RowMark e ∷ older) ≡ own_rows m older
skip-mark m e older other =
    ap (λ (b : Bool). rows_after_entries (if b then RowMark e ∷ entries_of_epoch m older else entries_of_epoch m older) []) (ne_eqb e m other)

take-mark : (m e : ℕ) (older : List BrickEntry) → e ≡ m → own_rows m (RowMark e ∷ older) ≡ []
take-mark m e older same =
    ap (λ (b : Bool). rows_after_entries (if b then RowMark e ∷ entries_of_epoch m older else entries_of_epoch m older) []) (eq-eqb e m same)

pub mark-none : (counts : Bool) (d : ℕ) (set : EpochSet) (marks : EpochSet) (older : List BrickEntry) → counts ≡ false
    → rows_shown_to (epochs_before_mark counts d set) marks older ≡ rows_shown_to set marks older
mark-none true d set marks older e = absurd (true≢false e)
mark-none false d set marks older e = refl

-- The count of what is shown, by epochs below m and m itself.
pub shown-parts : (c : CodedRow → Bool) (m : ℕ) (u v : Bool) (all below allm belowm : EpochSet) (xs : List BrickEntry)
    → Parts m u v all below → MarkParts m allm belowm
    → count_by c (rows_shown_to all allm xs)
    ≡ number_where (u && not (has_mark m xs)) (count_by c (rows_shown_to below belowm xs)) + number_where v (count_by c (own_rows m xs))
shown-parts c m u v all below allm belowm [] p q =
    let a = where-zero (u && not false) in let b = where-zero v in omega (arith, a, b)
shown-parts c m u v all below allm belowm (RowRun e rows ∷ older) p q =
    let rest = shown-parts c m u v all below allm belowm older p q in
    let n = count_by c rows in
    let w = u && not (has_mark m older) in
    let x = all e && not (is_below_mark allm e older) in
    let y = below e && not (is_below_mark belowm e older) in
    let left = count-run c (rows_shown_to all allm older) x rows in
    let right = ap (number_where w) (count-run c (rows_shown_to below belowm older) y rows)
    ∙ where-sum w (count_by c (rows_shown_to below belowm older)) (number_where y n) in
    elim (in-order e m) [
      | inl lower ↦
          (let own = ap (λ (r : List CodedRow). number_where v (count_by c r)) (skip-run m e rows older (λ same. omega (arith, same, lower))) in
          let add : number_where x n ≡ number_where w (number_where y n) =
          (λ i. number_where (p.low e lower i && not (below-parts m e allm belowm older lower q i)) n)
          ∙ low-run u (below e) (is_below_mark belowm e older) (has_mark m older) n in
          omega (arith, rest, left, right, own, add))
      | inr (inl same) ↦
          (let own = ap (λ (r : List CodedRow). number_where v (count_by c r)) (take-run m e rows older same)
          ∙ ap (number_where v) (count-append c (own_rows m older) rows)
          ∙ where-sum v (count_by c (own_rows m older)) n in
          let add : number_where x n ≡ number_where v n =
          (λ i. number_where ((ap all same ∙ p.here) i && not (is_below_mark allm e older)) n)
          ∙ run-here v (is_below_mark allm e older) n (ap (λ (k : ℕ). is_below_mark allm k older) same ∙ below-none m allm older q.high) in
          let gone = ap (number_where w) (none-run (below e) (not (is_below_mark belowm e older)) n (p.none e (omega (arith, same)))) ∙ where-zero w in
          omega (arith, rest, left, right, own, add, gone))
      | inr (inr higher) ↦
          (let own = ap (λ (r : List CodedRow). number_where v (count_by c r)) (skip-run m e rows older (λ same. omega (arith, same, higher))) in
          let add = none-run (all e) (not (is_below_mark allm e older)) n (p.high e higher) in
          let gone = ap (number_where w) (none-run (below e) (not (is_below_mark belowm e older)) n (p.none e (omega (arith, higher)))) ∙ where-zero w in
          omega (arith, rest, left, right, own, add, gone))
    ]
shown-parts c m u v all below allm belowm (RowMark d ∷ older) p q =
    elim (in-order d m) [
      | inl lower ↦
          (let other : d ≡ m → ⊥ = (λ same. omega (arith, same, lower)) in
          let rest = shown-parts c m u v (epochs_before_mark (belowm d) d all) (epochs_before_mark (belowm d) d below) allm belowm older
          (parts-before (belowm d) m d u v all below lower p) q in
          ap (λ (b : Bool). count_by c (rows_shown_to (epochs_before_mark b d all) allm older)) (q.low d lower)
          ∙ rest
          ∙ (λ i. number_where (u && not (sym (ne_eqb d m other) i || has_mark m older)) (count_by c (rows_shown_to (epochs_before_mark (belowm d) d below) belowm older))
          + number_where v (count_by c (sym (skip-mark m d older other) i))))
      | inr (inl same) ↦
          (let rest = shown-parts c m false false (epochs_above m all) below allm belowm older (parts-none m u v all below p) q in
          let hit : allm d ≡ true = ap allm same ∙ q.here in
          let start = ap (λ (b : Bool). count_by c (rows_shown_to (epochs_before_mark b d all) allm older)) hit
          ∙ ap (λ (k : ℕ). count_by c (rows_shown_to (epochs_above k all) allm older)) same in
          let has = ap (λ (b : Bool). number_where (u && not (b || has_mark m older)) (count_by c (rows_shown_to below belowm (RowMark d ∷ older)))) (eq-eqb d m same)
          ∙ ap (λ (b : Bool). number_where b (count_by c (rows_shown_to below belowm (RowMark d ∷ older)))) (and-false u) in
          let own = ap (λ (r : List CodedRow). number_where v (count_by c r)) (take-mark m d older same) ∙ where-zero v in
          omega (arith, rest, start, has, own))
      | inr (inr higher) ↦
          (let other : d ≡ m → ⊥ = (λ same. omega (arith, same, higher)) in
          let rest = shown-parts c m u v all below allm belowm older p q in
          ap (count_by c) (mark-none (allm d) d all allm older (q.high d higher))
          ∙ rest
          ∙ (λ i. number_where (u && not (sym (ne_eqb d m other) i || has_mark m older))
          (count_by c (sym (mark-none (belowm d) d below belowm older (q.none d (omega (arith, higher)))) i))
          + number_where v (count_by c (sym (skip-mark m d older other) i))))
    ]

-- A transaction after others.
after-run : (here : Bool) (c : CodedRow → Bool) (e n : ℕ) (rows base : List CodedRow) (entries : List BrickEntry)
    → count_by c (rows_after_entries entries base) ≡ n + count_by c (rows_after_entries entries [])
    → count_by c (rows_after_entries (if here then RowRun e rows ∷ entries else entries) base)
    ≡ n + count_by c (rows_after_entries (if here then RowRun e rows ∷ entries else entries) [])
after-run true c e n rows base entries before =
    let a = count-append c (rows_after_entries entries base) rows in
    let b = count-append c (rows_after_entries entries []) rows in
    omega (arith, before, a, b)
after-run false c e n rows base entries before = before

after-mark : (here : Bool) (c : CodedRow → Bool) (e n : ℕ) (has : Bool) (base : List CodedRow) (entries : List BrickEntry)
    → count_by c (rows_after_entries entries base) ≡ number_where (not has) n + count_by c (rows_after_entries entries [])
    → count_by c (rows_after_entries (if here then RowMark e ∷ entries else entries) base)
    ≡ number_where (not (here || has)) n + count_by c (rows_after_entries (if here then RowMark e ∷ entries else entries) [])
after-mark true c e n has base entries before = refl
after-mark false c e n has base entries before = before

after-count : (c : CodedRow → Bool) (m : ℕ) (base : List CodedRow) (xs : List BrickEntry)
    → count_by c (rows_after_entries (entries_of_epoch m xs) base)
    ≡ number_where (not (has_mark m xs)) (count_by c base) + count_by c (own_rows m xs)
after-count c m base [] = omega arith
after-count c m base (RowRun e rows ∷ older) =
    after-run (e == m) c e (number_where (not (has_mark m older)) (count_by c base)) rows base (entries_of_epoch m older)
    (after-count c m base older)
after-count c m base (RowMark e ∷ older) =
    after-mark (e == m) c e (count_by c base) (has_mark m older) base (entries_of_epoch m older) (after-count c m base older)

-- The epochs of a set below a limit.
abbrev pub epochs_below : ℕ → EpochSet → EpochSet
epochs_below limit set e = set e && nat_lt e limit

shown-none : (all marks : EpochSet) (xs : List BrickEntry) → ((e : ℕ) → all e ≡ false) → rows_shown_to all marks xs ≡ []
shown-none all marks [] none = refl
shown-none all marks (RowRun e rows ∷ older) none =
    λ i. shown-none all marks older none i ++ rows_where (none e i && not (is_below_mark marks e older)) rows
shown-none all marks (RowMark d ∷ older) none = shown-none (epochs_before_mark (marks d) d all) marks older (none-before (marks d) d all none)
  where
    none-before : (here : Bool) (d : ℕ) (set : EpochSet) → ((e : ℕ) → set e ≡ false) → (e : ℕ) → epochs_before_mark here d set e ≡ false
    none-before true d set n e = ap (λ (b : Bool). b && nat_lt d e) (n e)
    none-before false d set n e = n e

-- One limit more.
same-limit : (set : EpochSet) (m e : ℕ) → set m ≡ false → (set e && nat_lt e m) ≡ (set e && nat_lt e (suc m))
same-limit set m e out = elim (in-order e m) [
  | inl lower ↦ (λ i. set e && lt-ltb e m lower i) ∙ (λ i. set e && sym (lt-ltb e (suc m) (omega (arith, lower))) i)
  | inr (inl same) ↦ (λ i. (ap set same ∙ out) i && nat_lt e m) ∙ (λ i. sym (ap set same ∙ out) i && nat_lt e (suc m))
  | inr (inr higher) ↦
      (λ i. set e && le-ltb e m (omega (arith, higher)) i) ∙ (λ i. set e && sym (le-ltb e (suc m) (omega (arith, higher))) i)
]

limit-parts : (set : EpochSet) (m : ℕ) → set m ≡ true → Parts m true true (epochs_below (suc m) set) (epochs_below m set)
limit-parts set m has = record {
  low = λ e l. λ i. set e && (lt-ltb e (suc m) (omega (arith, l)) ∙ sym (lt-ltb e m l)) i;
  here = λ i. has i && lt-ltb m (suc m) (omega arith) i;
  high = λ e l. (λ i. set e && le-ltb e (suc m) (omega (arith, l)) i) ∙ and-false (set e);
  none = λ e l. (λ i. set e && le-ltb e m l i) ∙ and-false (set e);
}

limit-marks : (set : EpochSet) (m : ℕ) → set m ≡ true → MarkParts m (epochs_below (suc m) set) (epochs_below m set)
limit-marks set m has = let p = limit-parts set m has in record { low = p.low; here = p.here; high = p.high; none = p.none }

serial-at : (counts : Bool) (c : CodedRow → Bool) (m : ℕ) (set : EpochSet) (xs : List BrickEntry) → set m ≡ counts
    → count_by c (brick_rows_left m set xs) ≡ count_by c (rows_shown_to (epochs_below m set) (epochs_below m set) xs)
    → count_by c (if counts then rows_after_entries (entries_of_epoch m xs) (brick_rows_left m set xs) else brick_rows_left m set xs)
    ≡ count_by c (rows_shown_to (epochs_below (suc m) set) (epochs_below (suc m) set) xs)
serial-at true c m set xs has before =
    after-count c m (brick_rows_left m set xs) xs
    ∙ ap (λ (n : ℕ). number_where (not (has_mark m xs)) n + count_by c (own_rows m xs)) before
    ∙ sym (shown-parts c m true true (epochs_below (suc m) set) (epochs_below m set) (epochs_below (suc m) set) (epochs_below m set) xs
    (limit-parts set m has) (limit-marks set m has))
serial-at false c m set xs out before =
    before ∙ ap (λ (s : EpochSet). count_by c (rows_shown_to s s xs)) (λ i e. same-limit set m e out i)

pub serial-counts : (c : CodedRow → Bool) (limit : ℕ) (set : EpochSet) (xs : List BrickEntry)
    → count_by c (brick_rows_left limit set xs) ≡ count_by c (rows_shown_to (epochs_below limit set) (epochs_below limit set) xs)
serial-counts c zero set xs =
    sym (ap (count_by c) (shown-none (epochs_below zero set) (epochs_below zero set) xs
    (λ e. (λ i. set e && le-ltb e zero (omega arith) i) ∙ and-false (set e))))
serial-counts c (suc m) set xs = serial-at (set m) c m set xs refl (serial-counts c m set xs)

-- A snapshot sees nothing above its own epoch.
pub sees-below : (s : Snapshot) (e : ℕ) → epochs_below (s.epoch + 1) (sees s) e ≡ sees s e
sees-below s e = elim (in-order e (s.epoch + 1)) [
  | inl lower ↦ (λ i. sees s e && lt-ltb e (s.epoch + 1) lower i) ∙ and-true (sees s e)
  | inr (inl same) ↦ hides (omega (arith, same))
  | inr (inr higher) ↦ hides (omega (arith, higher))
] where
  hides : s.epoch < e → epochs_below (s.epoch + 1) (sees s) e ≡ sees s e
  hides l =
      let low : sees s e ≡ false = (λ i. lt-leb e s.epoch l i && not (list_any (λ dep. dep == e) s.deps)) in
      ap (λ (b : Bool). b && nat_lt e (s.epoch + 1)) low ∙ sym low

pub snapshot-serial : (c : CodedRow → Bool) (s : Snapshot) (xs : List BrickEntry)
    → count_by c (brick_rows_seen s xs) ≡ count_by c (brick_rows_left (s.epoch + 1) (sees s) xs)
snapshot-serial c s xs =
    sym (serial-counts c (s.epoch + 1) (sees s) xs
    ∙ ap (λ (set : EpochSet). count_by c (rows_shown_to set set xs)) (λ i e. sees-below s e i))
