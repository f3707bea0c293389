-- Parts in a row, all of which pass a test, and gaps, which are such.
use Rattle.std.proofs.Common.{◌≡◌, ℕ, ◌<◌, ◌≤◌, Bool, true, false, eqb, List, [], ◌∷◌, ◌++◌, length, drop, inl, inr, refl, sym, ap, subst, ◌∙◌, append_assoc, arith}
use Rattle.std.specs.List.{list_all, flat_map}
use Rattle.std.proofs.lemmas.Bool.{and_from, and_parts, both_ways, cases_Bool}
use Rattle.std.proofs.lemmas.Bool.Decides.{nat_tests}
use Rattle.std.proofs.lemmas.List.{length-append, length-drop, take-append-drop}
use Rattle.std.proofs.lemmas.List.Folds.{list_all-append}
use Rattle.cube_language.specs.Parts.{is_space, ScriptPart, part_bytes, IsPart, AreParts, is_blank, IsGap}
use Rattle.sql_words.specs.Fronts.{begins_comment, begins_gap, part_len, IsBehindGap}
use Rattle.sql_words.proofs.PartFronts.{part_of, part_stands, part_is, part_some, parts_agree}

-- the bytes are parts that pass a test, and then the rest
pub record ArePassing (test : ScriptPart → Bool) (bytes rest : List ℕ) : Type 0 where
  pub parts : List ScriptPart
  pub pass : list_all test parts ≡ true
  pub are : AreParts bytes parts rest
  pub within : length rest ≤ length bytes

pub parts_append : (ps qs : List ScriptPart) (xs ys zs : List ℕ) → AreParts xs ps ys → AreParts ys qs zs → AreParts xs (ps ++ qs) zs
parts_append [] qs xs ys zs a b = subst (λ (bytes : List ℕ). AreParts bytes qs zs) (sym a) b
parts_append (p ∷ ps) qs xs ys zs a b = (a.0, a.1, a.2, parts_append ps qs a.0 ys zs a.3 b)

pub parts_flat : (ps : List ScriptPart) (xs ys : List ℕ) → AreParts xs ps ys → xs ≡ flat_map part_bytes ps ++ ys
parts_flat [] xs ys h = h
parts_flat (p ∷ ps) xs ys h = h.1 ∙ ap (λ bytes. part_bytes p ++ bytes) (parts_flat ps h.0 ys h.3) ∙ sym (append_assoc (part_bytes p) (flat_map part_bytes ps) ys)

pub one_part : (b : ℕ) (bytes : List ℕ) → AreParts (b ∷ bytes) (part_of b bytes ∷ []) (drop (part_len (b ∷ bytes)) (b ∷ bytes))
one_part b bytes =
    let n = part_len (b ∷ bytes) in
    let stands = part_stands b bytes in
    (drop n (b ∷ bytes), sym (take-append-drop n (b ∷ bytes)) ∙ ap (λ xs. xs ++ drop n (b ∷ bytes)) stands.taken, stands.part, refl)

-- each part takes some bytes
pub shorter : (b : ℕ) (rest : List ℕ) → length (drop (part_len (b ∷ rest)) (b ∷ rest)) < length (b ∷ rest)
shorter b rest = omega (arith, (part_stands b rest).some, length-drop (part_len (b ∷ rest)) (b ∷ rest))

pub passing_none : (test : ScriptPart → Bool) (bytes : List ℕ) → ArePassing test bytes bytes
passing_none test bytes = record { parts = []; pass = refl; are = refl; within = omega arith }

pub passing_more : (test : ScriptPart → Bool) (bytes : List ℕ) (b : ℕ) (rest : List ℕ) → test (part_of b rest) ≡ true → ArePassing test bytes (b ∷ rest) → ArePassing test bytes (drop (part_len (b ∷ rest)) (b ∷ rest))
passing_more test bytes b rest passes h = record {
  parts = h.parts ++ part_of b rest ∷ [];
  pass = list_all-append test h.parts (part_of b rest ∷ []) ∙ and_from _ _ h.pass (and_from _ _ passes refl);
  are = parts_append h.parts (part_of b rest ∷ []) bytes (b ∷ rest) _ h.are (one_part b rest);
  within = omega (arith, h.within, shorter b rest);
}

pub no_comment : (b : ℕ) (bytes : List ℕ) → eqb b 45 ≡ false → begins_comment (b ∷ bytes) ≡ false
no_comment b [] other = refl
no_comment b (c ∷ bytes) other = rw other refl

-- a gap begins where its first part is blank
pub blank_is : (b : ℕ) (bytes : List ℕ) → is_blank (part_of b bytes) ≡ begins_gap (b ∷ bytes)
blank_is b bytes =
    elim (cases_Bool (eqb b 39)) [
      | inl quote ↦
          let space : is_space b ≡ false = grind (arith, nat_tests) in
          let none : begins_comment (b ∷ bytes) ≡ false = no_comment b bytes (grind (arith, nat_tests)) in
          rw (quote, space, none) refl
      | inr other ↦ elim (cases_Bool (begins_comment (b ∷ bytes))) [
        | inl comment ↦ rw (other, comment) (grind (arith, nat_tests))
        | inr none ↦ rw (other, none) (grind (arith, nat_tests))
      ]
    ]

-- ---- a gap

pub gap_shorter : (rest : List ℕ) → begins_gap rest ≡ true → length (drop (part_len rest) rest) < length rest
gap_shorter [] begins = absurd cc
gap_shorter (b ∷ rest) begins = shorter b rest

pub gap_more : (bytes rest : List ℕ) → begins_gap rest ≡ true → ArePassing is_blank bytes rest → ArePassing is_blank bytes (drop (part_len rest) rest)
gap_more bytes [] begins h = absurd cc
gap_more bytes (b ∷ rest) begins h = passing_more is_blank bytes b rest (blank_is b rest ∙ begins) h

pub gap_all : (bytes rest : List ℕ) → begins_gap rest ≡ false → ArePassing is_blank bytes rest → IsBehindGap bytes rest
gap_all bytes rest ends h = record { parts = h.parts; blank = h.pass; are = h.are; stops = ends }

-- in the words of tokens
pub gap_is : (ps : List ScriptPart) (bytes rest : List ℕ) → list_all is_blank ps ≡ true → AreParts bytes ps rest → IsGap (flat_map part_bytes ps) rest
gap_is ps bytes rest blank are = (ps, blank, refl, subst (λ (xs : List ℕ). AreParts xs ps rest) (parts_flat ps bytes rest are) are)

-- bytes begin with a gap where their first part is blank
pub begins_like : (p : ScriptPart) (rest bytes : List ℕ) → IsPart p rest → bytes ≡ part_bytes p ++ rest → begins_gap bytes ≡ is_blank p
begins_like p rest [] part e = absurd (omega (arith, part_some p rest part, length-append (part_bytes p) rest, ap length e))
begins_like p rest (b ∷ bytes) part e = sym (blank_is b bytes) ∙ ap is_blank (sym (part_is p rest b bytes part (sym e)))

no_more_blank : (p : ScriptPart) (ps : List ScriptPart) (bytes rest end : List ℕ) → list_all is_blank (p ∷ ps) ≡ true → AreParts bytes (p ∷ ps) rest → bytes ≡ end → begins_gap end ≡ false → ⊥
no_more_blank p ps bytes rest end blank are e stops =
    both_ways (begins_gap bytes) (ap begins_gap e ∙ stops) (begins_like p are.0 bytes are.2 are.1 ∙ (and_parts (is_blank p) (list_all is_blank ps) blank).0)

-- a gap has one end
pub gaps_agree : (ps qs : List ScriptPart) (bytes r s : List ℕ) → list_all is_blank ps ≡ true → list_all is_blank qs ≡ true → AreParts bytes ps r → AreParts bytes qs s → begins_gap r ≡ false → begins_gap s ≡ false → r ≡ s
gaps_agree [] [] bytes r s pb qb a b re se = sym a ∙ b
gaps_agree [] (q ∷ qs) bytes r s pb qb a b re se = absurd (no_more_blank q qs bytes s r qb b a re)
gaps_agree (p ∷ ps) [] bytes r s pb qb a b re se = absurd (no_more_blank p ps bytes r s pb a b se)
gaps_agree (p ∷ ps) (q ∷ qs) bytes r s pb qb a b re se =
    let behind = (parts_agree p q a.0 b.0 a.2 b.2 (sym a.1 ∙ b.1)).1 in
    gaps_agree ps qs b.0 r s (and_parts (is_blank p) (list_all is_blank ps) pb).1 (and_parts (is_blank q) (list_all is_blank qs) qb).1 (subst (λ (xs : List ℕ). AreParts xs ps r) behind a.3) b.3 re se
