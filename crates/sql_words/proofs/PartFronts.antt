-- The part at the front of bytes: there is one, and only one.
use Rattle.std.proofs.Common.{◌≡◌, ◌≢◌, ℕ, suc, ◌+◌, ◌<◌, ◌≤◌, true, false, cond, eqb, List, [], ◌∷◌, ◌++◌, length, take, drop, ◌⊎◌, inl, inr, refl, sym, ap, subst, ◌∙◌, append_assoc, arith}
use Rattle.std.specs.List.{list_all, prefix_len}
use Rattle.std.proofs.lemmas.Bool.{and_from, and_parts, cases_Bool, eqb-true, eqb-false, ne_eqb}
use Rattle.std.proofs.lemmas.Bool.Decides.{nat_tests}
use Rattle.std.proofs.lemmas.List.{append-nil, append_cancel_left, length-append, take_at}
use Rattle.cube_language.specs.Parts.{EndsRun, stays_on_line, is_no_quote, ScriptPart, Comment, Quoted, Other, part_bytes, IsPart}
use Rattle.sql_words.specs.Fronts.{begins_comment, quoted_len, part_len}
use Rattle.sql_words.proofs.Prefixes.{prefix_is, prefix_passes, prefix_stops, prefix_within, front_one, rest_one}

pub quoted_within : (bytes : List ℕ) → quoted_len bytes ≤ length bytes
quoted_within bytes = omega arith

-- ---- there is one

-- what stands behind a quote, up to the next one or the end
abbrev IsInner : List ℕ → List ℕ → Type 0
IsInner taken rest = (inner : List ℕ) × (list_all is_no_quote inner ≡ true) × ((taken ≡ inner ++ 39 ∷ []) ⊎ ((taken ≡ inner) × (rest ≡ [])))

inner_more : (b : ℕ) (taken rest : List ℕ) → is_no_quote b ≡ true → IsInner taken rest → IsInner (b ∷ taken) rest
inner_more b taken rest other h = (
  b ∷ h.0,
  and_from _ _ other h.1,
  elim h.2 [
    | inl closed ↦ inl (ap (λ (xs : List ℕ). b ∷ xs) closed)
    | inr ends ↦ inr (ap (λ (xs : List ℕ). b ∷ xs) ends.0, ends.1)
  ],
)

inner_none : (b : ℕ) (bytes : List ℕ) → is_no_quote b ≡ false → IsInner (b ∷ []) bytes
inner_none b bytes quote = let is : b ≡ 39 = grind (arith, nat_tests) in ([], refl, inl (ap (λ (c : ℕ). c ∷ []) is))

quoted_more : (b : ℕ) (bytes : List ℕ) → is_no_quote b ≡ true → quoted_len (b ∷ bytes) ≡ suc (quoted_len bytes)
quoted_more b bytes other = rw other (omega arith)

quoted_ends : (b : ℕ) (bytes : List ℕ) → is_no_quote b ≡ false → quoted_len (b ∷ bytes) ≡ 1
quoted_ends b bytes quote = rw quote (omega arith)

inner_stands : (bytes : List ℕ) → IsInner (take (quoted_len bytes) bytes) (drop (quoted_len bytes) bytes)
inner_stands [] = ([], refl, inr (refl, refl))
inner_stands (b ∷ bytes) =
    let F : ℕ → Type 0 = λ n. IsInner (take n (b ∷ bytes)) (drop n (b ∷ bytes)) in
    elim (cases_Bool (is_no_quote b)) [
      | inl other ↦ subst F (sym (quoted_more b bytes other)) (inner_more b _ _ other (inner_stands bytes))
      | inr quote ↦ subst F (sym (quoted_ends b bytes quote)) (inner_none b bytes quote)
    ]

-- the part at the front of a byte and those behind it
abbrev pub part_of : ℕ → List ℕ → ScriptPart
part_of byte bytes =
    cond (eqb byte 39) (Quoted (byte ∷ take (quoted_len bytes) bytes)) (cond (begins_comment (byte ∷ bytes)) (Comment (take (prefix_len stays_on_line (byte ∷ bytes)) (byte ∷ bytes))) (Other byte))

-- a part stands at the front and has so many bytes
pub record IsFrontPart (bytes : List ℕ) (n : ℕ) (p : ScriptPart) : Type 0 where
  pub some : 0 < n
  pub within : n ≤ length bytes
  pub taken : take n bytes ≡ part_bytes p
  pub part : IsPart p (drop n bytes)

quoted_stands : (b : ℕ) (bytes : List ℕ) → eqb b 39 ≡ true → IsFrontPart (b ∷ bytes) (1 + quoted_len bytes) (Quoted (b ∷ take (quoted_len bytes) bytes))
quoted_stands b bytes quote =
    let inner = inner_stands bytes in
    let is = eqb-true b 39 quote in
    record {
      some = omega arith;
      within = omega (arith, quoted_within bytes);
      taken = front_one (quoted_len bytes) b bytes;
      part = rw (rest_one (quoted_len bytes) b bytes, is) (
        inner.0,
        inner.1,
        elim inner.2 [
          | inl closed ↦ inl (ap (λ (xs : List ℕ). 39 ∷ xs) closed)
          | inr ends ↦ inr (ap (λ (xs : List ℕ). 39 ∷ xs) ends.0, ends.1)
        ],
      );
    }

dashes : (b c : ℕ) (bytes : List ℕ) → begins_comment (b ∷ c ∷ bytes) ≡ true → (b ≡ 45) × (c ≡ 45)
dashes b c bytes h = let both = and_parts _ _ h in (eqb-true b 45 both.0, eqb-true c 45 both.1)

line_long : (bytes : List ℕ) → prefix_len stays_on_line (45 ∷ 45 ∷ bytes) ≡ suc (suc (prefix_len stays_on_line bytes))
line_long bytes = omega arith

comment_stands : (b : ℕ) (bytes : List ℕ) → begins_comment (b ∷ bytes) ≡ true
    → IsFrontPart (b ∷ bytes) (prefix_len stays_on_line (b ∷ bytes)) (Comment (take (prefix_len stays_on_line (b ∷ bytes)) (b ∷ bytes)))
comment_stands b [] h = absurd cc
comment_stands b (c ∷ bytes) h =
    let are = dashes b c bytes h in
    let F : ℕ → ℕ → Type 0 = λ b c. IsFrontPart (b ∷ c ∷ bytes) (prefix_len stays_on_line (b ∷ c ∷ bytes)) (Comment (take (prefix_len stays_on_line (b ∷ c ∷ bytes)) (b ∷ c ∷ bytes))) in
    let n = prefix_len stays_on_line bytes in
    let two : F 45 45 = record {
      some = omega (arith, line_long bytes);
      within = omega (arith, line_long bytes, prefix_within stays_on_line bytes);
      taken = refl;
      part = rw (line_long bytes) (take n bytes, refl, prefix_passes stays_on_line bytes, prefix_stops stays_on_line bytes);
    } in
    rw (are.0, are.1) two

no_dash : (b : ℕ) (bytes : List ℕ) → begins_comment (b ∷ bytes) ≡ false → b ≡ 45 → EndsRun (λ next. eqb next 45) bytes
no_dash b [] h dash = tt
no_dash b (c ∷ bytes) h dash = grind (arith, nat_tests)

other_stands : (b : ℕ) (bytes : List ℕ) → eqb b 39 ≡ false → begins_comment (b ∷ bytes) ≡ false → IsFrontPart (b ∷ bytes) 1 (Other b)
other_stands b bytes no_quote no_comment = record {
  some = omega arith;
  within = omega arith;
  taken = refl;
  part = (eqb-false b 39 no_quote, no_dash b bytes no_comment);
}

pub part_stands : (b : ℕ) (bytes : List ℕ) → IsFrontPart (b ∷ bytes) (part_len (b ∷ bytes)) (part_of b bytes)
part_stands b bytes =
    elim (cases_Bool (eqb b 39)) [
      | inl quote ↦ rw quote (quoted_stands b bytes quote)
      | inr other ↦ elim (cases_Bool (begins_comment (b ∷ bytes))) [
        | inl comment ↦ rw (other, comment) (comment_stands b bytes comment)
        | inr none ↦ rw (other, none) (other_stands b bytes other none)
      ]
    ]

-- ---- and only one

comment_is : (line rest : List ℕ) → list_all stays_on_line line ≡ true → EndsRun stays_on_line rest → Comment (45 ∷ 45 ∷ line) ≡ part_of 45 (45 ∷ (line ++ rest))
comment_is line rest all stops =
    let long : prefix_len stays_on_line (45 ∷ 45 ∷ (line ++ rest)) ≡ suc (suc (length line)) = omega (arith, prefix_is stays_on_line line rest all stops) in
    ap Comment (sym (ap (λ n. take n (45 ∷ 45 ∷ (line ++ rest))) long ∙ ap (λ (xs : List ℕ). 45 ∷ 45 ∷ xs) (take_at line rest (length line) refl)))

inner_is : (inner rest : List ℕ) → list_all is_no_quote inner ≡ true → take (quoted_len (inner ++ 39 ∷ rest)) (inner ++ 39 ∷ rest) ≡ inner ++ 39 ∷ []
inner_is [] rest all = ap (λ n. take n (39 ∷ rest)) (quoted_ends 39 rest refl)
inner_is (b ∷ inner) rest all =
    let both = and_parts (is_no_quote b) (list_all is_no_quote inner) all in
    ap (λ n. take n (b ∷ (inner ++ 39 ∷ rest))) (quoted_more b (inner ++ 39 ∷ rest) both.0) ∙ ap (λ (xs : List ℕ). b ∷ xs) (inner_is inner rest both.1)

inner_all : (inner : List ℕ) → list_all is_no_quote inner ≡ true → take (quoted_len inner) inner ≡ inner
inner_all [] all = refl
inner_all (b ∷ inner) all =
    let both = and_parts (is_no_quote b) (list_all is_no_quote inner) all in
    ap (λ n. take n (b ∷ inner)) (quoted_more b inner both.0) ∙ ap (λ (xs : List ℕ). b ∷ xs) (inner_all inner both.1)

dashed : (b : ℕ) (rest : List ℕ) → (b ≡ 45 → EndsRun (λ next. eqb next 45) rest) → begins_comment (b ∷ rest) ≡ false
dashed b [] stops = refl
dashed b (c ∷ rest) stops =
    elim (cases_Bool (eqb b 45)) [
      | inl dash ↦ let none : eqb c 45 ≡ false = stops (eqb-true b 45 dash) in rw (dash, none) refl
      | inr other ↦ rw other refl
    ]

other_is : (b : ℕ) (rest : List ℕ) → b ≢ 39 → (b ≡ 45 → EndsRun (λ next. eqb next 45) rest) → Other b ≡ part_of b rest
other_is b rest no_quote stops =
    let quote : eqb b 39 ≡ false = ne_eqb b 39 no_quote in
    rw (quote, dashed b rest stops) refl

-- a part is the one that the bytes from it on begin with
pub part_is : (p : ScriptPart) (rest : List ℕ) (b : ℕ) (bytes : List ℕ) → IsPart p rest → part_bytes p ++ rest ≡ b ∷ bytes → p ≡ part_of b bytes
part_is (Comment taken) rest b bytes h e =
    let line = h.0 in
    let whole : 45 ∷ 45 ∷ (line ++ rest) ≡ b ∷ bytes = sym (ap (λ (xs : List ℕ). xs ++ rest) h.1) ∙ e in
    let heads : 45 ≡ b = cc whole in
    let tails : 45 ∷ (line ++ rest) ≡ bytes = cc whole in
    ap Comment h.1 ∙ comment_is line rest h.2 h.3 ∙ (λ i. part_of (heads i) (tails i))
part_is (Quoted taken) rest b bytes h e =
    let inner = h.0 in
    elim h.2 [
      | inl closed ↦
          let whole : 39 ∷ (inner ++ 39 ∷ rest) ≡ b ∷ bytes = ap (λ (xs : List ℕ). 39 ∷ xs) (sym (append_assoc inner (39 ∷ []) rest)) ∙ sym (ap (λ (xs : List ℕ). xs ++ rest) closed) ∙ e in
          let heads : 39 ≡ b = cc whole in
          let tails : inner ++ 39 ∷ rest ≡ bytes = cc whole in
          ap Quoted (closed ∙ ap (λ (xs : List ℕ). 39 ∷ xs) (sym (inner_is inner rest h.1))) ∙ (λ i. part_of (heads i) (tails i))
      | inr ends ↦
          let whole : 39 ∷ inner ≡ b ∷ bytes = sym (ends.0) ∙ sym (append-nil taken) ∙ ap (λ (xs : List ℕ). taken ++ xs) (sym ends.1) ∙ e in
          let heads : 39 ≡ b = cc whole in
          let tails : inner ≡ bytes = cc whole in
          ap Quoted (ends.0 ∙ ap (λ (xs : List ℕ). 39 ∷ xs) (sym (inner_all inner h.1))) ∙ (λ i. part_of (heads i) (tails i))
    ]
part_is (Other byte) rest b bytes h e =
    let heads : byte ≡ b = cc e in
    let tails : rest ≡ bytes = cc e in
    other_is byte rest h.0 h.1 ∙ (λ i. part_of (heads i) (tails i))

-- a part has some byte
pub part_some : (p : ScriptPart) (rest : List ℕ) → IsPart p rest → 0 < length (part_bytes p)
part_some (Comment taken) rest h = rw h.1 (omega arith)
part_some (Quoted taken) rest h = elim h.2 [ inl closed ↦ rw closed (omega arith) | inr ends ↦ rw ends.0 (omega arith) ]
part_some (Other byte) rest h = omega arith

-- two parts at the front of the same bytes are one
pub parts_agree : (p q : ScriptPart) (r s : List ℕ) → IsPart p r → IsPart q s → part_bytes p ++ r ≡ part_bytes q ++ s → (p ≡ q) × (r ≡ s)
parts_agree p q r s a b e = agree (part_bytes q ++ s) refl where
  agree : (bytes : List ℕ) → part_bytes q ++ s ≡ bytes → (p ≡ q) × (r ≡ s)
  agree [] none = absurd (omega (arith, part_some q s b, length-append (part_bytes q) s, ap length none))
  agree (byte ∷ bytes) whole =
      let same : p ≡ q = part_is p r byte bytes a (e ∙ whole) ∙ sym (part_is q s byte bytes b whole) in
      (same, append_cancel_left (part_bytes p) r s (e ∙ ap (λ x. part_bytes x ++ s) (sym same)))
