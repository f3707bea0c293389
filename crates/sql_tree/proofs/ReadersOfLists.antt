-- Lists of items with a sign between each two, and parts that may be left out.
use Rattle.std.proofs.Common.{◌≡◌, ℕ, zero, suc, ◌+◌, ◌<◌, ◌≤◌, true, false, List, [], ◌∷◌, ◌++◌, length, drop, Ok, Err, ◌⊎◌, inl, inr, refl, sym, ap, subst, ◌∙◌, append_assoc, arith, if◌then◌else◌}
use Rattle.std.specs.List.{AllByRecursion}
use Rattle.std.proofs.lemmas.Bool.{cases_Bool}
use Rattle.std.proofs.lemmas.List.{append-nil, length-append}
use Rattle.cube_language.specs.Grammar.{separated}
use Rattle.cube_language.specs.declared.symbol.Symbol.{Symbol}
use Rattle.sql_tree.specs.declared.head.Sign.{Sign}
use Rattle.sql_tree.specs.Reading.{sign_symbol, Readout, ◌>>=◌, is_sign, stands_first, listed, listed_within, optional}
use Rattle.sql_tree.proofs.Keywords.{is_sign_symbol, is_sign_self}
use Rattle.sql_tree.proofs.Readers.{given, Tells, IsReader, Always, Formed, sequence, IsThen, reader_ends, second_tells, takes_as}

-- ---- how far a list is read does not hang on the bound

-- a reader leaves no more than it is given
tells_shorter : {A : Type 0} (p : List Symbol → Readout A) (F : A → List Symbol → Type 0) (symbols : List Symbol) (r : Readout A) → Tells p F symbols r → (x : A × List Symbol) → r ≡ Ok x → length x.1 ≤ length symbols
tells_shorter {A} p F symbols (Ok y) t x e =
    let same : y.1 ≡ x.1 = let whole : y ≡ x = cc in ap (λ (z : A × List Symbol). z.1) whole in
    omega (arith, ap length t.whole ∙ length-append t.front y.1, ap length same)
tells_shorter p F symbols (Err left) t x e = absurd cc

pub shorter : {A : Type 0} (p : List Symbol → Readout A) (F : A → List Symbol → Type 0) (E : List Symbol → Type 0) → IsReader p F E → (symbols : List Symbol) (x : A × List Symbol) → p symbols ≡ Ok x → length x.1 ≤ length symbols
shorter p F E r symbols x e = tells_shorter p F symbols (p symbols) (r.tells symbols) x e

abbrev IsShorter : {A : Type 0} → (List Symbol → Readout A) → Type 0
IsShorter {A} item = (symbols : List Symbol) (x : A × List Symbol) → item symbols ≡ Ok x → length x.1 ≤ length symbols

-- what comes behind an item
abbrev behind_item : {A : Type 0} → Sign → (List Symbol → Readout (List A)) → A → List Symbol → Readout (List A)
behind_item between others x symbols = if stands_first between symbols then (others (drop 1 symbols) >>= λ xs. Ok (x ∷ xs.0, xs.1)) else Ok (x ∷ [], symbols)

behind_same : {A : Type 0} (between : Sign) (f g : List Symbol → Readout (List A)) (r : Readout A) → ((x : A × List Symbol) → r ≡ Ok x → stands_first between x.1 ≡ true → f (drop 1 x.1) ≡ g (drop 1 x.1))
    → (r >>= λ x. behind_item between f x.0 x.1) ≡ (r >>= λ x. behind_item between g x.0 x.1)
behind_same between f g (Err left) same = refl
behind_same between f g (Ok x) same =
    elim (cases_Bool (stands_first between x.1)) [
      | inl on ↦ rw (on, same x refl on) refl
      | inr off ↦ rw off refl
    ]

goes_on_length : (between : Sign) (symbols : List Symbol) → stands_first between symbols ≡ true → length (drop 1 symbols) + 1 ≤ length symbols
goes_on_length between [] e = absurd cc
goes_on_length between (symbol ∷ symbols) e = omega arith

within_same : {A : Type 0} (between : Sign) (item : List Symbol → Readout A) → IsShorter item → (n m : ℕ) (symbols : List Symbol) → length symbols < n → length symbols < m → listed_within n between item symbols ≡ listed_within m between item symbols
unfolding listed_within
within_same between item short zero m symbols one two = absurd (omega arith)
within_same between item short (suc n) zero symbols one two = absurd (omega arith)
within_same between item short (suc n) (suc m) symbols one two =
    behind_same between (listed_within n between item) (listed_within m between item) (item symbols)
    (λ x e on. let less = short symbols x e in let fewer = goes_on_length between x.1 on in within_same between item short n m (drop 1 x.1) (omega arith) (omega arith))

-- a list is an item and what comes behind it
pub listed_is : {A : Type 0} (between : Sign) (item : List Symbol → Readout A) → IsShorter item → (symbols : List Symbol) → listed between item symbols ≡ sequence item (behind_item between (listed between item)) symbols
unfolding listed listed_within
listed_is between item short symbols =
    behind_same between (listed_within (length symbols) between item) (listed between item) (item symbols)
    (λ x e on. let less = short symbols x e in let fewer = goes_on_length between x.1 on in within_same between item short (length symbols) (suc (length (drop 1 x.1))) (drop 1 x.1) (omega arith) (omega arith))

-- ---- what a list takes and where it stops

-- Some values of a form with a sign between each two.
abbrev pub AreListed : {A : Type 0} → (A → Type 0) → List A → Type 0
AreListed P xs = (0 < length xs) × AllByRecursion P xs

abbrev pub listed_form : {A : Type 0} → Sign → (A → List Symbol) → List A → List Symbol
listed_form between form xs = separated (sign_symbol between) form xs

-- Behind an item nothing comes, or a sign and a list.
abbrev IsBehind : {A : Type 0} → Sign → (A → Type 0) → (A → List Symbol) → A → List A → List Symbol → Type 0
IsBehind {A} between P form x xs front =
    ((xs ≡ x ∷ []) × (front ≡ [])) ⊎ ((others : List A) × (rest : List Symbol) × (xs ≡ x ∷ others) × (front ≡ sign_symbol between ∷ rest) × Formed (AreListed P) (listed_form between form) others rest)

listed_more : {A : Type 0} (between : Sign) (form : A → List Symbol) (x : A) (xs : List A) → 0 < length xs → listed_form between form (x ∷ xs) ≡ form x ++ sign_symbol between ∷ listed_form between form xs
listed_more between form x [] some = absurd (omega arith)
listed_more between form x (y ∷ ys) some = refl

all_one : {A : Type 0} (P : A → Type 0) (x : A) → P x → AreListed P (x ∷ [])
all_one P x p = (omega arith, (p, tt))

one_more : {A : Type 0} (between : Sign) (P : A → Type 0) (form : A → List Symbol) (xs : List A) (front : List Symbol) → IsThen (Formed P form) (IsBehind between P form) xs front → Formed (AreListed P) (listed_form between form) xs front
one_more between P form xs front h =
    elim h.is_rest [
      | inl last ↦ (subst (AreListed P) (sym last.0) (all_one P h.first h.is_first.0), rw last.0 (h.whole ∙ ap (λ rest. h.front ++ rest) last.1 ∙ append-nil h.front ∙ h.is_first.1 ∙ sym (append-nil (form h.first))))
      | inr more ↦ (
        subst (AreListed P) (sym more.2) (omega arith, (h.is_first.0, more.4.0.1)),
        rw more.2
            (h.whole ∙ ap (λ rest. h.front ++ rest) more.3 ∙ ap (λ f. f ++ sign_symbol between ∷ more.1) h.is_first.1 ∙ ap (λ rest. form h.first ++ sign_symbol between ∷ rest) more.4.1 ∙ sym (listed_more between form h.first more.0 more.4.0.0)),
      )
    ]

-- readers that are one have one law
same_tells : {A : Type 0} (p q : List Symbol → Readout A) (F : A → List Symbol → Type 0) (symbols : List Symbol) (r : Readout A) → ((symbols : List Symbol) → p symbols ≡ q symbols) → Tells q F symbols r → Tells p F symbols r
same_tells p q F symbols (Ok x) same t = record { front = t.front; whole = t.whole; form = t.form; local = λ next behind other e. same (t.front ++ next ∷ other) ∙ t.local next behind other e }
same_tells p q F symbols (Err left) same t = record {
  front = t.front;
  rest = t.rest;
  whole = t.whole;
  left_is = t.left_is;
  value = t.value;
  more = t.more;
  form = t.form;
  local = λ next behind other e. same (t.front ++ next ∷ other) ∙ t.local next behind other e;
}

sign_tells : {A : Type 0} (between : Sign) (others : List Symbol → Readout (List A)) (P : A → Type 0) (form : A → List Symbol) (x : A) (symbol : Symbol) (symbols : List Symbol) (r : Readout (List A)) → is_sign between symbol ≡ true → Tells others (Formed (AreListed P) (listed_form between form)) symbols r
    → Tells (behind_item between others x) (IsBehind between P form x) (symbol ∷ symbols) (r >>= λ xs. Ok (x ∷ xs.0, xs.1))
sign_tells between others P form x symbol symbols (Ok xs) on t = record {
  front = symbol ∷ t.front;
  whole = ap (λ rest. symbol ∷ rest) t.whole;
  form = inr (xs.0, t.front, refl, ap (λ s. s ∷ t.front) (is_sign_symbol between symbol on), t.form);
  local = λ next behind other e. rw on (ap (λ r. r >>= λ ys. Ok (x ∷ ys.0, ys.1)) (t.local next behind other e));
}
sign_tells between others P form x symbol symbols (Err left) on t = record {
  front = symbol ∷ t.front;
  rest = t.rest;
  whole = ap (λ rest. symbol ∷ rest) t.whole;
  left_is = t.left_is;
  value = x ∷ t.value;
  more = t.more;
  form = inr (t.value, t.front ++ t.more, refl, ap (λ s. s ∷ (t.front ++ t.more)) (is_sign_symbol between symbol on), t.form);
  local = λ next behind other e. rw on (ap (λ r. r >>= λ ys. Ok (x ∷ ys.0, ys.1)) (t.local next behind other e));
}

behind_tells : {A : Type 0} (between : Sign) (others : List Symbol → Readout (List A)) (P : A → Type 0) (form : A → List Symbol) (x : A) (symbols : List Symbol) → (stands_first between symbols ≡ true → Tells others (Formed (AreListed P) (listed_form between form)) (drop 1 symbols) (others (drop 1 symbols)))
    → Tells (behind_item between others x) (IsBehind between P form x) symbols (behind_item between others x symbols)
behind_tells between others P form x [] more = record { front = []; whole = refl; form = inl (refl, refl); local = λ next behind other e. absurd cc }
behind_tells between others P form x (symbol ∷ symbols) more =
    elim (cases_Bool (is_sign between symbol)) [
      | inl on ↦ rw on (sign_tells between others P form x symbol symbols (others symbols) on (more on))
      | inr off ↦
          rw off (record { front = []; whole = refl; form = inl (refl, refl); local = λ next behind other e. let same : symbol ≡ next = cc in let there : is_sign between next ≡ false = ap (is_sign between) (sym same) ∙ off in rw there refl })
    ]

item_tells : {A : Type 0} (between : Sign) (item : List Symbol → Readout A) (others : List Symbol → Readout (List A)) (P : A → Type 0) (form : A → List Symbol) (symbols : List Symbol) (r : Readout A) → item symbols ≡ r → Tells item (Formed P form) symbols r
    → ((x : A × List Symbol) → item symbols ≡ Ok x → Tells (behind_item between others x.0) (IsBehind between P form x.0) x.1 (behind_item between others x.0 x.1))
    → Tells (sequence item (behind_item between others)) (IsThen (Formed P form) (IsBehind between P form)) symbols (r >>= λ x. behind_item between others x.0 x.1)
item_tells between item others P form symbols (Ok x) e one two = second_tells item (behind_item between others) (Formed P form) (IsBehind between P form) symbols x.0 x.1 (behind_item between others x.0 x.1) one (two x e)
item_tells between item others P form symbols (Err left) e one two = record {
  front = one.front;
  rest = one.rest;
  whole = one.whole;
  left_is = one.left_is;
  value = one.value ∷ [];
  more = one.more;
  form = record { first = one.value; front = one.front ++ one.more; behind = []; whole = sym (append-nil (one.front ++ one.more)); is_first = one.form; is_rest = inl (refl, refl) };
  local = λ next behind other e. ap (λ r. r >>= λ x. behind_item between others x.0 x.1) (one.local next behind other e);
}

list_tells : {A : Type 0} (between : Sign) (item : List Symbol → Readout A) (P : A → Type 0) (form : A → List Symbol) (E : List Symbol → Type 0) → IsReader item (Formed P form) E → (n : ℕ) (symbols : List Symbol) → length symbols < n
    → Tells (listed between item) (Formed (AreListed P) (listed_form between form)) symbols (listed between item symbols)
list_tells between item P form E r zero symbols less = absurd (omega arith)
list_tells between item P form E r (suc n) symbols less =
    let short = shorter item (Formed P form) E r in
    let all = listed between item in
    let both = sequence item (behind_item between all) in
    let step = item_tells between item all P form symbols (item symbols) refl (r.tells symbols)
    (λ x e. behind_tells between all P form x.0 x.1 (λ on. let fewer = goes_on_length between x.1 on in let least = short symbols x e in list_tells between item P form E r n (drop 1 x.1) (omega arith))) in
    subst (Tells all (Formed (AreListed P) (listed_form between form)) symbols) (sym (listed_is between item short symbols))
    (same_tells all both (Formed (AreListed P) (listed_form between form)) symbols (both symbols) (listed_is between item short)
    (takes_as both (IsThen (Formed P form) (IsBehind between P form)) (Formed (AreListed P) (listed_form between form)) symbols (both symbols) (one_more between P form) step))

-- An item may be left before the sign.
abbrev pub MayStandBefore : Sign → (List Symbol → Type 0) → Type 0
MayStandBefore between E = (rest : List Symbol) → E (sign_symbol between ∷ rest)

list_again : {A : Type 0} (between : Sign) (item : List Symbol → Readout A) (P : A → Type 0) (form : A → List Symbol) (E : List Symbol → Type 0) → MayStandBefore between E → IsReader item (Formed P form) E → (xs : List A) (rest : List Symbol) → AreListed P xs → stands_first between rest ≡ false → E rest
    → listed between item (listed_form between form xs ++ rest) ≡ given xs rest
list_again between item P form E may r [] rest some off e = absurd (omega arith)
list_again between item P form E may r (x ∷ []) rest some off e =
    ap (λ (symbols : List Symbol). listed between item (symbols ++ rest)) (append-nil (form x)) ∙ listed_is between item (shorter item (Formed P form) E r) (form x ++ rest) ∙ ap (λ z. z >>= λ y. behind_item between (listed between item) y.0 y.1) (r.again x (form x) rest (some.1.0, refl) e) ∙ rw off refl
list_again between item P form E may r (x ∷ y ∷ ys) rest some off e =
    let all = listed between item in
    let behind = listed_form between form (y ∷ ys) in
    ap all (append_assoc (form x) (sign_symbol between ∷ behind) rest) ∙ listed_is between item (shorter item (Formed P form) E r) (form x ++ sign_symbol between ∷ (behind ++ rest))
    ∙ ap (λ z. z >>= λ u. behind_item between all u.0 u.1) (r.again x (form x) (sign_symbol between ∷ (behind ++ rest)) (some.1.0, refl) (may (behind ++ rest)))
    ∙ rw (is_sign_self between) (ap (λ z. z >>= λ xs. Ok (x ∷ xs.0, xs.1)) (list_again between item P form E may r (y ∷ ys) rest (omega arith, some.1.1) off e))

-- The rest does not go on with the sign.
abbrev pub Parted : Sign → List Symbol → Type 0
Parted between rest = stands_first between rest ≡ false

-- Nor with what an item goes on with.
abbrev pub EndsList : Sign → (List Symbol → Type 0) → List Symbol → Type 0
EndsList between E rest = Parted between rest × E rest

-- A list of items that end before the sign.
pub list_reader : {A : Type 0} (between : Sign) (item : List Symbol → Readout A) (P : A → Type 0) (form : A → List Symbol) (E : List Symbol → Type 0) → MayStandBefore between E → IsReader item (Formed P form) E
    → IsReader (listed between item) (Formed (AreListed P) (listed_form between form)) (EndsList between E)
list_reader between item P form E may r =
    let first = r.form.0 in
    record {
      value = r.value ∷ [];
      example = listed_form between form (r.value ∷ []);
      form = (all_one P r.value first, refl);
      tells = λ symbols. list_tells between item P form E r (suc (length symbols)) symbols (omega arith);
      again = λ xs front rest f e. ap (λ (symbols : List Symbol). listed between item (symbols ++ rest)) f.1 ∙ list_again between item P form E may r xs rest f.0 e.0 e.1;
    }

-- A list of items that end anywhere.
pub listed_reader : {A : Type 0} (between : Sign) (item : List Symbol → Readout A) (P : A → Type 0) (form : A → List Symbol) → IsReader item (Formed P form) Always → IsReader (listed between item) (Formed (AreListed P) (listed_form between form)) (Parted between)
listed_reader between item P form r =
    reader_ends (listed between item) (Formed (AreListed P) (listed_form between form)) (EndsList between Always) (Parted between) (λ rest e. (e, tt)) (list_reader between item P form Always (λ rest. tt) r)

-- ---- a part that may be left out

-- It is left out, or stands behind its sign.
abbrev pub IsOptional : {A : Type 0} → Sign → A → (A → List Symbol → Type 0) → A → List Symbol → Type 0
IsOptional wanted none F x front = ((x ≡ none) × (front ≡ [])) ⊎ ((rest : List Symbol) × (front ≡ sign_symbol wanted ∷ rest) × F x rest)

present_tells : {A : Type 0} (wanted : Sign) (none : A) (part : List Symbol → Readout A) (F : A → List Symbol → Type 0) (symbol : Symbol) (symbols : List Symbol) (r : Readout A) → is_sign wanted symbol ≡ true → Tells part F symbols r
    → Tells (optional wanted none part) (IsOptional wanted none F) (symbol ∷ symbols) r
unfolding optional
present_tells wanted none part F symbol symbols (Ok x) on t = record {
  front = symbol ∷ t.front;
  whole = ap (λ rest. symbol ∷ rest) t.whole;
  form = inr (t.front, ap (λ s. s ∷ t.front) (is_sign_symbol wanted symbol on), t.form);
  local = λ next behind other e. rw on (t.local next behind other e);
}
present_tells wanted none part F symbol symbols (Err left) on t = record {
  front = symbol ∷ t.front;
  rest = t.rest;
  whole = ap (λ rest. symbol ∷ rest) t.whole;
  left_is = t.left_is;
  value = t.value;
  more = t.more;
  form = inr (t.front ++ t.more, ap (λ s. s ∷ (t.front ++ t.more)) (is_sign_symbol wanted symbol on), t.form);
  local = λ next behind other e. rw on (t.local next behind other e);
}

optional_tells : {A : Type 0} (wanted : Sign) (none : A) (part : List Symbol → Readout A) (F : A → List Symbol → Type 0) (E : List Symbol → Type 0) → IsReader part F E → (symbols : List Symbol)
    → Tells (optional wanted none part) (IsOptional wanted none F) symbols (optional wanted none part symbols)
unfolding optional
optional_tells wanted none part F E r [] = record { front = []; whole = refl; form = inl (refl, refl); local = λ next behind other e. absurd cc }
optional_tells wanted none part F E r (symbol ∷ symbols) =
    elim (cases_Bool (is_sign wanted symbol)) [
      | inl on ↦ rw on (present_tells wanted none part F symbol symbols (part symbols) on (r.tells symbols))
      | inr off ↦
          rw off (record { front = []; whole = refl; form = inl (refl, refl); local = λ next behind other e. let same : symbol ≡ next = cc in let there : is_sign wanted next ≡ false = ap (is_sign wanted) (sym same) ∙ off in rw there refl })
    ]

optional_again : {A : Type 0} (wanted : Sign) (none : A) (part : List Symbol → Readout A) (F : A → List Symbol → Type 0) (E : List Symbol → Type 0) → IsReader part F E → (x : A) (front rest : List Symbol) → IsOptional wanted none F x front → Parted wanted rest → E rest
    → optional wanted none part (front ++ rest) ≡ given x rest
unfolding optional
optional_again wanted none part F E r x front rest f off e =
    elim f [
      | inl absent ↦ rw (absent.0, absent.1, off) refl
      | inr some ↦ let on = is_sign_self wanted in rw (some.1, on) (r.again x some.0 rest some.2 e)
    ]

pub optional_reader : {A : Type 0} (wanted : Sign) (none : A) (part : List Symbol → Readout A) (F : A → List Symbol → Type 0) (E : List Symbol → Type 0) → IsReader part F E → IsReader (optional wanted none part) (IsOptional wanted none F) (EndsList wanted E)
optional_reader wanted none part F E r = record {
  value = none;
  example = [];
  form = inl (refl, refl);
  tells = optional_tells wanted none part F E r;
  again = λ x front rest f e. optional_again wanted none part F E r x front rest f e.0 e.1;
}
