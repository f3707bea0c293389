-- The dictionaries of all cubes: a name that is encoded lets them grow.
use Rattle.std.proofs.Common.{◌≡◌, ◌≢◌, ◌⊎◌, ℕ, ◌-◌, ◌<◌, ◌≤◌, zero, suc, Bool, true, false, cond, List, [], ◌∷◌, ◌++◌, length, map, set, replicate, get_or, Contains, Some, Result, Ok, Err, IfOk, OnErr, nat_lt, IfSome, true≢false, refl, sym, ap, ◌∙◌, subst, inl, inr, arith}
use Rattle.std.specs.List.{AllZip}
use Rattle.std.specs.Option.{option_map}
use Rattle.std.proofs.lemmas.Bool.{cases_eq, cases_lt, ltb-true, ltb-false}
use Rattle.std.proofs.lemmas.List.{length-append, length-replicate, length-set, get_or-set_same, get_or-set_other, get_or_push, get_or_past, get_or_append_left, get_or-append_right, get_or-replicate, length_push}
use Rattle.std.proofs.lemmas.List.Elements.{All-nil}
use Rattle.std.proofs.lemmas.Option.{slice_get-get_or, slice_get-map}
use Rattle.cube_values.specs.declared.shape.CubeShape.{CubeShape}
use Rattle.cube_values.specs.declared.shape.Size.{Size}
use Rattle.cube_language.specs.Cubes.{sizes_of}
use Rattle.cube_language.specs.declared.bad_row.TheConstants.{TEXT_BYTES}
use Rattle.cube_language.specs.declared.decl.Decl.{Decl}
use Rattle.cube_language.specs.declared.decl.DimDecl.{DimDecl}
use Rattle.cube_schema.specs.Schemas.{cube_of}
use Rattle.names_dict.specs.declared.code.Code.{Code}
use Rattle.names_dict.specs.Dictionaries.{Dictionary, IsCodeFor, IsEncoded, IsTextDimension, dictionaries_of, dictionary_at, dictionary_in, empty_dictionaries, encoded_dictionaries, made_dictionaries, with_code}
use Rattle.condition_spans.specs.Codes.{lists_at, texts_at}
use Rattle.row_encoding.specs.FinalCodes.{Grow, InTheEnd, IsFinalNumber, IsDimText, code_number, dim_at}
use Rattle.row_encoding.specs.DictsAsEncoder.{HasName, IsDictionaryOf, MayBecome, MayEndWith, Suit, HaveNothingElse}
use Rattle.row_encoding.proofs.DictSteps.{Outcome, apart_still, became_before, few_still, final_number, inside, one_more_name, outcome, short_still}

-- ---- the dictionaries of a cube in their place

put_here : (cubes : List (List Dictionary)) (cube : ℕ) (dims : List Dictionary) (t : Bool) → nat_lt cube (length cubes) ≡ t
    → get_or (cond t (set cubes cube dims) (cubes ++ replicate (cube - length cubes) [] ++ dims ∷ [])) cube [] ≡ dims
put_here cubes cube dims true e = get_or-set_same cubes cube dims [] (ltb-true cube (length cubes) e)
put_here cubes cube dims false e =
    let above : length cubes ≤ cube = ltb-false cube (length cubes) e in
    let l = length-append cubes (replicate (cube - length cubes) []) in
    let r = length-replicate {A = List Dictionary} (cube - length cubes) [] in
    get_or_push (cubes ++ replicate (cube - length cubes) []) dims [] cube (omega (arith, above, l, r))

put_apart : (cubes : List (List Dictionary)) (cube : ℕ) (dims : List Dictionary) (t : Bool) (p : ℕ) → nat_lt cube (length cubes) ≡ t → p ≢ cube
    → get_or (cond t (set cubes cube dims) (cubes ++ replicate (cube - length cubes) [] ++ dims ∷ [])) p [] ≡ get_or cubes p []
put_apart cubes cube dims true p e apart = get_or-set_other cubes cube p dims [] apart
put_apart cubes cube dims false p e apart =
    let above : length cubes ≤ cube = ltb-false cube (length cubes) e in
    let l = length-append cubes (replicate (cube - length cubes) []) in
    let r = length-replicate {A = List Dictionary} (cube - length cubes) [] in
    let whole = length_push (cubes ++ replicate (cube - length cubes) []) dims in
    elim (cases_lt p cube) [
      | inl before ↦ get_or_append_left (cubes ++ replicate (cube - length cubes) []) (dims ∷ []) [] p (omega (arith, above, l, r, before))
          ∙ elim (cases_lt p (length cubes)) [
            | inl there ↦ get_or_append_left cubes (replicate (cube - length cubes) []) [] p there
            | inr past ↦ get_or-append_right cubes (replicate (cube - length cubes) []) (length cubes) p [] refl past
                ∙ get_or-replicate (cube - length cubes) (p - length cubes) [] [] (omega (arith, before, past)) ∙ sym (get_or_past cubes p [] past)
          ]
      | inr after ↦ get_or_past (cubes ++ replicate (cube - length cubes) [] ++ dims ∷ []) p [] (let n : (p ≡ cube → ⊥) = apart in grind (arith, above, l, r, whole, after, n))
          ∙ sym (get_or_past cubes p [] (omega (arith, above, after)))
    ]

-- ---- those that are made

empties_fit : (dims : List DimDecl) → AllZip IsDictionaryOf dims (empty_dictionaries (sizes_of dims) (map (λ dim. dim.text) dims))
empties_fit [] = tt
empties_fit (dim ∷ dims) = (
  record {
    most = refl;
    few = omega arith;
    distinct = refl;
    short = All-nil (λ name. length name ≤ TEXT_BYTES);
  },
  empties_fit dims,
)

made_fit : (d : Decl) (made : List Dictionary) → (made ≡ []) ⊎ AllZip IsDictionaryOf d.dims made
    → AllZip IsDictionaryOf d.dims (made_dictionaries (cube_of d) made)
made_fit d [] h = empties_fit d.dims
made_fit d (x ∷ made) (inl none) = absurd (cc)
made_fit d (x ∷ made) (inr fit) = fit

no_names : (sizes : List Size) (texts : List Bool) (k : ℕ) → (dictionary_in (empty_dictionaries sizes texts) k).names ≡ []
no_names [] texts k = refl
no_names (s ∷ sizes) [] k = refl
no_names (s ∷ sizes) (t ∷ texts) zero = refl
no_names (s ∷ sizes) (t ∷ texts) (suc k) = no_names sizes texts k

made_names : (shape : CubeShape) (made : List Dictionary) (k : ℕ) (text : List ℕ) → Contains (dictionary_in (made_dictionaries shape made) k).names text
    → Contains (dictionary_in made k).names text
made_names shape [] k text h =
    let (n, below, at) : Contains {X = List ℕ} [] text = subst (λ (ns : List (List ℕ)). Contains ns text) (no_names shape.shape.sizes shape.texts k) h in
    absurd (omega (arith, below))
made_names shape (x ∷ made) k text h = h

made_same : (shape : CubeShape) (made : List Dictionary) (k : ℕ) → k < length made → dictionary_in (made_dictionaries shape made) k ≡ dictionary_in made k
made_same shape [] k h = absurd (omega arith)
made_same shape (x ∷ made) k h = refl

-- ---- lists side by side

pub zip_length : {A B : Type 0} (R : A → B → Type 0) (xs : List A) (ys : List B) → AllZip R xs ys → length xs ≡ length ys
zip_length R [] [] h = refl
zip_length R [] (y ∷ ys) h = absurd h
zip_length R (x ∷ xs) [] h = absurd h
zip_length R (x ∷ xs) (y ∷ ys) h = ap suc (zip_length R xs ys h.1)

pub zip_at : {A B : Type 0} (R : A → B → Type 0) (xs : List A) (ys : List B) (i : ℕ) (d : A) (e : B) → AllZip R xs ys → i < length xs → R (get_or xs i d) (get_or ys i e)
zip_at R [] ys i d e h below = absurd (omega arith)
zip_at R (x ∷ xs) [] i d e h below = absurd h
zip_at R (x ∷ xs) (y ∷ ys) zero d e h below = h.0
zip_at R (x ∷ xs) (y ∷ ys) (suc i) d e h below = zip_at R xs ys i d e h.1 (omega (arith, below))

zip_set : {A B : Type 0} (R : A → B → Type 0) (xs : List A) (ys : List B) (i : ℕ) (y : B) (d : A) → AllZip R xs ys → R (get_or xs i d) y → AllZip R xs (set ys i y)
zip_set R [] [] i y d h r = tt
zip_set R [] (y' ∷ ys) i y d h r = absurd h
zip_set R (x ∷ xs) [] i y d h r = absurd h
zip_set R (x ∷ xs) (y' ∷ ys) zero y d h r = (r, h.1)
zip_set R (x ∷ xs) (y' ∷ ys) (suc i) y d h r = (h.0, zip_set R xs ys i y d h.1 r)

pub text_inside : (dims : List DimDecl) (k : ℕ) → (dim_at dims k).text ≡ true → k < length dims
text_inside [] k h = absurd (true≢false (sym h))
text_inside (dim ∷ dims) zero h = omega arith
text_inside (dim ∷ dims) (suc k) h = let i = text_inside dims k h in omega (arith, i)

pub is_text_dimension : (d : Decl) (k : ℕ) → (dim_at d.dims k).text ≡ true → IsTextDimension (cube_of d) k
is_text_dimension d k h =
    slice_get-map (λ (dim : DimDecl). dim.text) d.dims k
    ∙ ap (option_map (λ (dim : DimDecl). dim.text)) (slice_get-get_or d.dims k (dim_at [] 0) (text_inside d.dims k h))
    ∙ ap Some h

made_long : (shape : CubeShape) (made : List Dictionary) → length made ≤ length (made_dictionaries shape made)
made_long shape [] = omega arith
made_long shape (x ∷ made) = omega arith

-- ---- a name that is encoded

-- before, the dictionaries of the cube were `made`, or were not there and are these now
record IsStep (d : Decl) (place dim : ℕ) (name : List ℕ) (code : Code) (cubes new : List (List Dictionary)) (made : List Dictionary) : Type 0 where
  fit : AllZip IsDictionaryOf d.dims made
  text : (dim_at d.dims dim).text ≡ true
  short : length name ≤ TEXT_BYTES
  got : Outcome (dictionary_in made dim) name code
  here : dictionaries_of new place ≡ set made dim (with_code (dictionary_in made dim) name code)
  apart : (p : ℕ) → p ≢ place → dictionaries_of new p ≡ dictionaries_of cubes p
  names : (k : ℕ) (text : List ℕ) → Contains (dictionary_in made k).names text → Contains (dictionary_at cubes place k).names text
  same : (k : ℕ) → k < length (dictionaries_of cubes place) → dictionary_in made k ≡ dictionary_at cubes place k
  long : length (dictionaries_of cubes place) ≤ length made

step : (d : Decl) (place dim : ℕ) (name : List ℕ) (code : Code) (cubes new : List (List Dictionary)) → Suit cubes place d → (dim_at d.dims dim).text ≡ true
    → length name ≤ TEXT_BYTES → IsCodeFor (cube_of d) cubes place dim name code → IsEncoded (cube_of d) place dim name cubes new code
    → IsStep d place dim name code cubes new (made_dictionaries (cube_of d) (dictionaries_of cubes place))
step d place dim name code cubes new suits text short code_is new_is =
    let shape = cube_of d in
    let old = dictionaries_of cubes place in
    let made = made_dictionaries shape old in
    record {
      fit = made_fit d old suits;
      text = text;
      short = short;
      got = outcome (dictionary_in made dim) name code code_is;
      here = ap (λ (c : List (List Dictionary)). dictionaries_of c place) new_is
          ∙ put_here cubes place (encoded_dictionaries dim name made code) (nat_lt place (length cubes)) refl;
      apart = λ p n. ap (λ (c : List (List Dictionary)). dictionaries_of c p) new_is
          ∙ put_apart cubes place (encoded_dictionaries dim name made code) (nat_lt place (length cubes)) p refl n;
      names = λ k text h. made_names shape old k text h;
      same = λ k h. made_same shape old k h;
      long = made_long shape old;
    }

module _ (d : Decl) (place dim : ℕ) (name : List ℕ) (code : Code) (cubes new : List (List Dictionary)) (made : List Dictionary)
    (s : IsStep d place dim name code cubes new made) where
  within : dim < length made
  within = let l = zip_length IsDictionaryOf d.dims made s.fit in let i = text_inside d.dims dim s.text in omega (arith, l, i)

  its_dim : IsDictionaryOf (dim_at d.dims dim) (dictionary_in made dim)
  its_dim = zip_at IsDictionaryOf d.dims made dim (dim_at [] 0) (dictionary_in [] 0) s.fit (text_inside d.dims dim s.text)

  most : (dim_at d.dims dim).cardinality ≡ (dictionary_in made dim).cardinality
  most = sym (its_dim.most ∙ ap (λ t. cond t (dim_at d.dims dim).cardinality 0) s.text)

  now : Dictionary
  now = with_code (dictionary_in made dim) name code

  at_dim : dictionary_at new place dim ≡ with_code (dictionary_in made dim) name code
  at_dim =
      ap (λ (ds : List Dictionary). dictionary_in ds dim) s.here
      ∙ get_or-set_same made dim (with_code (dictionary_in made dim) name code) (dictionary_in [] 0) within

  at_other : (k : ℕ) → k ≢ dim → dictionary_at new place k ≡ dictionary_in made k
  at_other k n =
      ap (λ (ds : List Dictionary). dictionary_in ds k) s.here
      ∙ get_or-set_other made dim k (with_code (dictionary_in made dim) name code) (dictionary_in [] 0) n

  new_long : length (dictionaries_of new place) ≡ length made
  new_long = ap length s.here ∙ length-set made dim (with_code (dictionary_in made dim) name code)

  later_here : (names : List (List (List (List ℕ)))) → MayEndWith new names → (k : ℕ) → k < length (dictionaries_of cubes place)
      → MayBecome (dictionary_at cubes place k) (texts_at (lists_at names place) k)
  later_here names h k below =
      let l = s.long in
      let there : k < length (dictionaries_of new place) = let n = new_long in omega (arith, below, l, n) in
      let after = h place k there in
      subst (λ (D : Dictionary). MayBecome D (texts_at (lists_at names place) k)) (s.same k below)
      (elim (cases_eq k dim) [
        | inl same ↦ subst (λ (j : ℕ). MayBecome (dictionary_in made j) (texts_at (lists_at names place) k)) (sym same)
            (became_before (dictionary_in made dim) name code (texts_at (lists_at names place) k)
            (subst (λ (D : Dictionary). MayBecome D (texts_at (lists_at names place) k)) (ap (dictionary_at new place) same ∙ at_dim) after))
        | inr other ↦ subst (λ (D : Dictionary). MayBecome D (texts_at (lists_at names place) k)) (at_other k other) after
      ])

  later : (names : List (List (List (List ℕ)))) → MayEndWith new names → MayEndWith cubes names
  later names h p k = elim (cases_eq p place) [
    | inl same ↦ subst (λ (q : ℕ). k < length (dictionaries_of cubes q) → MayBecome (dictionary_at cubes q k) (texts_at (lists_at names q) k)) (sym same) (later_here names h k)
    | inr other ↦ subst (λ (ds : List Dictionary). k < length ds → MayBecome (dictionary_in ds k) (texts_at (lists_at names p) k)) (s.apart p other) (h p k)
  ]

  names_here : (k : ℕ) (text : List ℕ) → Contains (dictionary_at new place k).names text
      → Contains (dictionary_at cubes place k).names text ⊎ ((place ≡ place) × IsDimText dim name k text)
  names_here k text h = elim (cases_eq k dim) [
    | inl same ↦ elim (one_more_name (dictionary_in made dim) name code text (subst (λ (D : Dictionary). Contains D.names text) (ap (dictionary_at new place) same ∙ at_dim) h)) [
      | inl old ↦ inl (s.names k text (subst (λ (j : ℕ). Contains (dictionary_in made j).names text) (sym same) old))
      | inr is ↦ inr (refl, (same, is))
    ]
    | inr other ↦ inl (s.names k text (subst (λ (D : Dictionary). Contains D.names text) (at_other k other) h))
  ]

  names_still : (p k : ℕ) (text : List ℕ) → HasName new p k text → HasName cubes p k text ⊎ ((p ≡ place) × IsDimText dim name k text)
  names_still p k text h = elim (cases_eq p place) [
    | inl same ↦ subst (λ (q : ℕ). HasName new q k text → HasName cubes q k text ⊎ ((q ≡ place) × IsDimText dim name k text)) (sym same) (names_here k text) h
    | inr other ↦ inl (subst (λ (ds : List Dictionary). Contains (dictionary_in ds k).names text) (s.apart p other) h)
  ]

  suits_still : Suit new place d
  suits_still =
      let still = few_still (dictionary_in made dim) name code its_dim.few s.got in
      inr (subst (AllZip IsDictionaryOf d.dims) (sym s.here)
      (zip_set IsDictionaryOf d.dims made dim (with_code (dictionary_in made dim) name code) (dim_at [] 0) s.fit
      (record {
        most = still.1 ∙ its_dim.most;
        few = let f = still.0 in let c = still.1 in omega (arith, f, c);
        distinct = apart_still (dictionary_in made dim) name code its_dim.distinct s.got;
        short = short_still (dictionary_in made dim) name code s.short its_dim.short;
      })))

  grow : Grow MayEndWith Suit HasName HaveNothingElse place d (IsDimText dim name) cubes new
  grow = record {
    later = later;
    here = suits_still;
    elsewhere = λ p other n h. subst (λ (ds : List Dictionary). (ds ≡ []) ⊎ AllZip IsDictionaryOf other.dims ds) (sym (s.apart p n)) h;
    names = names_still;
    keeps_else = tt;
  }

  final : InTheEnd (MayEndWith new) place (λ lists. IsFinalNumber (dim_at d.dims dim) (texts_at lists dim) name (code_number code))
  final names h =
      let there : dim < length (dictionaries_of new place) = let n = new_long in let w = within in omega (arith, n, w) in
      final_number (dim_at d.dims dim) (dictionary_in made dim) name (texts_at (lists_at names place) dim) code most s.got
      (subst (λ (D : Dictionary). MayBecome D (texts_at (lists_at names place) dim)) at_dim (h place dim there))

  coord_below : IfSome (code_number code) (λ n. n < (dim_at d.dims dim).cardinality)
  coord_below = subst (λ (m : ℕ). IfSome (code_number code) (λ n. n < m)) (sym most) (inside (dictionary_in made dim) name code its_dim.few s.got)

-- ---- for the code, where a call gives a code or is out of memory

module _ (d : Decl) (shape : CubeShape) (place dim : ℕ) (name : List ℕ) (cubes new : List (List Dictionary)) (is : shape ≡ cube_of d)
    (suits : Suit cubes place d) (text : (dim_at d.dims dim).text ≡ true) (short : length name ≤ TEXT_BYTES) where
  stepped : (code : Code) → IsCodeFor shape cubes place dim name code → IsEncoded shape place dim name cubes new code
      → IsStep d place dim name code cubes new (made_dictionaries (cube_of d) (dictionaries_of cubes place))
  stepped code code_is new_is =
      step d place dim name code cubes new suits text short (subst (λ (s : CubeShape). IsCodeFor s cubes place dim name code) is code_is)
      (subst (λ (s : CubeShape). IsEncoded s place dim name cubes new code) is new_is)

  pub encoded_final : {E : Type 0} (r : Result Code E) → IfOk r (IsCodeFor shape cubes place dim name) → IfOk r (IsEncoded shape place dim name cubes new)
      → IfOk r (λ code. InTheEnd (MayEndWith new) place (λ lists. IsFinalNumber (dim_at d.dims dim) (texts_at lists dim) name (code_number code)))
  encoded_final (Ok code) code_is new_is =
      final d place dim name code cubes new (made_dictionaries (cube_of d) (dictionaries_of cubes place)) (stepped code code_is new_is)
  encoded_final (Err e) code_is new_is = tt

  pub encoded_inside : {E : Type 0} (r : Result Code E) → IfOk r (IsCodeFor shape cubes place dim name) → IfOk r (IsEncoded shape place dim name cubes new)
      → IfOk r (λ code. IfSome (code_number code) (λ n. n < (dim_at d.dims dim).cardinality))
  encoded_inside (Ok code) code_is new_is =
      coord_below d place dim name code cubes new (made_dictionaries (cube_of d) (dictionaries_of cubes place)) (stepped code code_is new_is)
  encoded_inside (Err e) code_is new_is = tt

  pub encoded_grow : {E : Type 0} (r : Result Code E) → IfOk r (IsCodeFor shape cubes place dim name) → IfOk r (IsEncoded shape place dim name cubes new)
      → OnErr r (new ≡ cubes) → Grow MayEndWith Suit HasName HaveNothingElse place d (IsDimText dim name) cubes new
  encoded_grow (Ok code) code_is new_is err =
      grow d place dim name code cubes new (made_dictionaries (cube_of d) (dictionaries_of cubes place)) (stepped code code_is new_is)
  encoded_grow (Err e) code_is new_is err =
      subst (λ (c : List (List Dictionary)). Grow MayEndWith Suit HasName HaveNothingElse place d (IsDimText dim name) cubes c) (sym err)
      (record { later = λ names h. h; here = suits; elsewhere = λ p other n h. h; names = λ p k text h. inl h; keeps_else = tt })
