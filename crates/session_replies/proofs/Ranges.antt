-- Whether conditions cut a range of a dimension is decided, and so is which dimension is the first.
use Rattle.std.proofs.Common.{◌≡◌, ℕ, zero, suc, ◌<◌, ◌/◌, ◌⊎◌, inl, inr, Bool, true, false, List, [], ◌∷◌, ◌++◌, All, refl, sym, ap, subst, arith}
use Rattle.std.specs.List.{list_any}
use Rattle.std.specs.Str.{bytes_eq}
use Rattle.std.proofs.lemmas.Bool.{cases_Bool, cases_eq, both_ways}
use Rattle.std.proofs.lemmas.List.Elements.{All-cons, All-nil, All-tail}
use Rattle.cube_language.specs.Misfits.{AreAligned, CutsRange, HaveSingleRanges, HaveWholeRanges, ShareRange, all_pass, cond_name}
use Rattle.cube_language.specs.declared.decl.Decl.{Decl}
use Rattle.cube_language.specs.declared.decl.DimDecl.{DimDecl}
use Rattle.cube_language.specs.declared.statement.Cond.{Cond}
use Rattle.cube_values.specs.declared.value.Value.TheVariants as value
use Rattle.std.specs.Prelude.{pos}

-- A fact of all numbers below one is decided where it is at each.
decided_below : (n : ℕ) (P : ℕ → Type 0) → ((k : ℕ) → k < n → P k ⊎ (P k → ⊥))
    → ((k : ℕ) → k < n → P k) ⊎ (((k : ℕ) → k < n → P k) → ⊥)
decided_below zero P d = inl (λ k l. absurd (omega (arith, l)))
decided_below (suc n) P d = at (d n (omega arith)) (decided_below n P (λ k l. d k (omega (arith, l))))
  where
    at : P n ⊎ (P n → ⊥) → ((k : ℕ) → k < n → P k) ⊎ (((k : ℕ) → k < n → P k) → ⊥)
        → ((k : ℕ) → k < suc n → P k) ⊎ (((k : ℕ) → k < suc n → P k) → ⊥)
    at (inr fails) rest = inr (λ all. fails (all n (omega arith)))
    at (inl holds) (inr fails) = inr (λ all. fails (λ k l. all k (omega (arith, l))))
    at (inl holds) (inl all) = inl (λ k l. here k l (cases_eq k n))
      where
        here : (k : ℕ) → k < suc n → (k ≡ n) ⊎ (k ≡ n → ⊥) → P k
        here k l (inl is) = subst P (sym is) holds
        here k l (inr other) = all k (omega (arith, l, other))

same_or_not : (a b : Bool) → (a ≡ b) ⊎ (a ≡ b → ⊥)
same_or_not true true = inl refl
same_or_not false false = inl refl
same_or_not true false = inr (λ h. both_ways true h refl)
same_or_not false true = inr (λ h. both_ways true (sym h) refl)

-- Whether conditions have a coordinate of a dimension.
abbrev passed_at : List Cond → DimDecl → ℕ → Bool
passed_at conds dim x = all_pass conds dim.name (value.Int (pos x))

-- Two coordinates of one range pass both or not at all.
abbrev AgreeAt : List Cond → DimDecl → ℕ → ℕ → Type 0
AgreeAt conds dim x y = ShareRange dim x y → passed_at conds dim x ≡ passed_at conds dim y

agree_decided : (conds : List Cond) (dim : DimDecl) (x y : ℕ) → x < dim.cardinality → y < dim.cardinality
    → AgreeAt conds dim x y ⊎ (AgreeAt conds dim x y → ⊥)
agree_decided conds dim x y first second =
    at (same_or_not (passed_at conds dim x) (passed_at conds dim y)) (cases_eq (x / dim.range) (y / dim.range))
  where
    at : (passed_at conds dim x ≡ passed_at conds dim y) ⊎ (passed_at conds dim x ≡ passed_at conds dim y → ⊥)
        → (x / dim.range ≡ y / dim.range) ⊎ (x / dim.range ≡ y / dim.range → ⊥)
        → AgreeAt conds dim x y ⊎ (AgreeAt conds dim x y → ⊥)
    at (inl same) range = inl (λ h. same)
    at (inr differ) (inl range) = inr (λ all. differ (all (record { first = first; second = second; range = range })))
    at (inr differ) (inr apart) = inl (λ h. absurd (apart h.range))

whole_decided : (conds : List Cond) (dim : DimDecl) → HaveWholeRanges conds dim ⊎ (HaveWholeRanges conds dim → ⊥)
whole_decided conds dim =
    at (decided_below dim.cardinality (λ x. (y : ℕ) → y < dim.cardinality → AgreeAt conds dim x y)
    (λ x first. decided_below dim.cardinality (AgreeAt conds dim x) (λ y second. agree_decided conds dim x y first second)))
  where
    at : ((x : ℕ) → x < dim.cardinality → (y : ℕ) → y < dim.cardinality → AgreeAt conds dim x y)
        ⊎ (((x : ℕ) → x < dim.cardinality → (y : ℕ) → y < dim.cardinality → AgreeAt conds dim x y) → ⊥)
        → HaveWholeRanges conds dim ⊎ (HaveWholeRanges conds dim → ⊥)
    at (inl all) = inl (λ x y h. all x h.first y h.second h)
    at (inr fails) = inr (λ whole. fails (λ x first y second h. whole x y h))

single_decided : (conds : List Cond) (dim : DimDecl) → HaveSingleRanges conds dim ⊎ (HaveSingleRanges conds dim → ⊥)
single_decided conds dim =
    at (cases_eq dim.range 1) (same_or_not (list_any (λ c. bytes_eq (cond_name c) dim.name) conds) false)
  where
    at : (dim.range ≡ 1) ⊎ (dim.range ≡ 1 → ⊥)
        → (list_any (λ c. bytes_eq (cond_name c) dim.name) conds ≡ false)
        ⊎ (list_any (λ c. bytes_eq (cond_name c) dim.name) conds ≡ false → ⊥)
        → HaveSingleRanges conds dim ⊎ (HaveSingleRanges conds dim → ⊥)
    at (inl one) asked = inl (inl one)
    at (inr more) (inl none) = inl (inr none)
    at (inr more) (inr asked) = inr (λ h. neither h)
      where
        neither : HaveSingleRanges conds dim → ⊥
        neither (inl one) = more one
        neither (inr none) = asked none

aligned_decided : (conds : List Cond) (dim : DimDecl) → AreAligned conds dim ⊎ (AreAligned conds dim → ⊥)
aligned_decided conds dim = at (cases_Bool dim.text)
  where
    of_texts : dim.text ≡ true → HaveSingleRanges conds dim ⊎ (HaveSingleRanges conds dim → ⊥)
        → AreAligned conds dim ⊎ (AreAligned conds dim → ⊥)
    of_texts is (inl single) = inl ((λ numbers. absurd (both_ways dim.text numbers is)), (λ texts. single))
    of_texts is (inr fails) = inr (λ h. fails (h.1 is))

    of_numbers : dim.text ≡ false → HaveWholeRanges conds dim ⊎ (HaveWholeRanges conds dim → ⊥)
        → AreAligned conds dim ⊎ (AreAligned conds dim → ⊥)
    of_numbers is (inl whole) = inl ((λ numbers. whole), (λ texts. absurd (both_ways dim.text is texts)))
    of_numbers is (inr fails) = inr (λ h. fails (h.0 is))

    at : (dim.text ≡ true) ⊎ (dim.text ≡ false) → AreAligned conds dim ⊎ (AreAligned conds dim → ⊥)
    at (inl is) = of_texts is (single_decided conds dim)
    at (inr is) = of_numbers is (whole_decided conds dim)

-- A cube with other dimensions.
abbrev pub with_dims : Decl → List DimDecl → Decl
with_dims d dims = record { name = d.name; dims = dims; metrics = d.metrics }

abbrev head_or : DimDecl → List DimDecl → DimDecl
head_or x [] = x
head_or x (y ∷ dims) = y

abbrev tail_of : List DimDecl → List DimDecl
tail_of [] = []
tail_of (y ∷ dims) = dims

abbrev is_empty : List DimDecl → Bool
is_empty [] = true
is_empty (y ∷ dims) = false

not_cut : (d : Decl) (conds : List Cond) (x : DimDecl) (dims before behind : List DimDecl) (dim : DimDecl)
    (name : List ℕ) → AreAligned conds x
    → ((name : List ℕ) → CutsRange (with_dims d dims) conds name → ⊥)
    → x ∷ dims ≡ before ++ dim ∷ behind → All (AreAligned conds) before → (AreAligned conds dim → ⊥)
    → name ≡ dim.name → ⊥
not_cut d conds x dims [] behind dim name holds none whole aligned cut is =
    cut (subst (AreAligned conds) (ap (head_or x) whole) holds)
not_cut d conds x dims (y ∷ before) behind dim name holds none whole aligned cut is =
    none name (record {
      before = before;
      dim = dim;
      behind = behind;
      whole = ap tail_of whole;
      aligned = All-tail (AreAligned conds) y before aligned;
      cut = cut;
      name_is = is;
    })

empty_not : (before behind : List DimDecl) (dim : DimDecl) → [] ≡ before ++ dim ∷ behind → ⊥
empty_not [] behind dim h = both_ways true (ap is_empty h) refl
empty_not (y ∷ before) behind dim h = both_ways true (ap is_empty h) refl

-- Conditions cut a range of a dimension that is the first, or of none.
pub cut_or_none : (d : Decl) (conds : List Cond) (dims : List DimDecl)
    → ((name : List ℕ) × CutsRange (with_dims d dims) conds name)
    ⊎ ((name : List ℕ) → CutsRange (with_dims d dims) conds name → ⊥)
cut_or_none d conds [] = inr (λ name h. empty_not h.before h.behind h.dim h.whole)
cut_or_none d conds (x ∷ dims) = at (aligned_decided conds x) (cut_or_none d conds dims)
  where
    at : AreAligned conds x ⊎ (AreAligned conds x → ⊥)
        → ((name : List ℕ) × CutsRange (with_dims d dims) conds name)
        ⊎ ((name : List ℕ) → CutsRange (with_dims d dims) conds name → ⊥)
        → ((name : List ℕ) × CutsRange (with_dims d (x ∷ dims)) conds name)
        ⊎ ((name : List ℕ) → CutsRange (with_dims d (x ∷ dims)) conds name → ⊥)
    at (inr fails) rest = inl (
      x.name,
      record {
        before = [];
        dim = x;
        behind = dims;
        whole = refl;
        aligned = All-nil (AreAligned conds);
        cut = fails;
        name_is = refl;
      },
    )
    at (inl holds) (inl c) = inl (
      c.0,
      record {
        before = x ∷ c.1.before;
        dim = c.1.dim;
        behind = c.1.behind;
        whole = ap (λ (xs : List DimDecl). x ∷ xs) c.1.whole;
        aligned = All-cons (AreAligned conds) x c.1.before holds c.1.aligned;
        cut = c.1.cut;
        name_is = c.1.name_is;
      },
    )
    at (inl holds) (inr none) = inr (λ name h.
        not_cut d conds x dims h.before h.behind h.dim name holds none h.whole h.aligned h.cut h.name_is)
