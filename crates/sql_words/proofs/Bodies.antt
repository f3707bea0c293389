-- The text of a statement up to its end, and the first statement that is too long.
use Rattle.std.proofs.Common.{◌≡◌, ℕ, ◌+◌, ◌<◌, ◌≤◌, true, false, eqb, List, [], ◌∷◌, length, get_or, drop, Some, None, inl, inr, refl, subst, ◌∙◌, arith}
use Rattle.std.specs.Prelude.{All}
use Rattle.std.specs.List.{position_from, prefix_len}
use Rattle.std.proofs.lemmas.Bool.{cases_Bool, cond_both, ltb-false}
use Rattle.std.proofs.lemmas.Bool.Decides.{nat_tests}
use Rattle.std.proofs.lemmas.List.{at_drop_more, at_drop_all, length-drop}
use Rattle.std.proofs.lemmas.List.Elements.{All-nil, All-cons}
use Rattle.cube_language.specs.declared.piece.Piece.{Piece}
use Rattle.cube_language.specs.Pieces.{is_long, statement_limit}
use Rattle.sql_words.specs.Fronts.{begins_comment, part_len, goes_on, is_inside, is_plain, IsBehindBody}
use Rattle.sql_words.proofs.PartFronts.{part_of}
use Rattle.sql_words.proofs.Gaps.{ArePassing, no_comment, passing_more, shorter}
use Rattle.sql_words.proofs.Prefixes.{rest_one}

dash_ends_nothing : (b : ℕ) (bytes : List ℕ) → begins_comment (b ∷ bytes) ≡ true → eqb b 59 ≡ false
dash_ends_nothing b [] comment = absurd cc
dash_ends_nothing b (c ∷ bytes) comment = grind (arith, nat_tests)

-- a statement goes on where the part at the front does not end it
inside_is : (b : ℕ) (bytes : List ℕ) → is_inside (part_of b bytes) ≡ goes_on (b ∷ bytes)
inside_is b bytes =
    elim (cases_Bool (eqb b 39)) [
      | inl quote ↦ rw quote (grind (arith, nat_tests))
      | inr other ↦ elim (cases_Bool (begins_comment (b ∷ bytes))) [
        | inl comment ↦ let no_end : eqb b 59 ≡ false = dash_ends_nothing b bytes comment in rw (other, comment, no_end) refl
        | inr none ↦ rw (other, none) refl
      ]
    ]

pub body_shorter : (rest : List ℕ) → goes_on rest ≡ true → length (drop (part_len rest) rest) < length rest
body_shorter [] goes = absurd cc
body_shorter (b ∷ rest) goes = shorter b rest

pub body_more : (bytes rest : List ℕ) → goes_on rest ≡ true → ArePassing is_inside bytes rest → ArePassing is_inside bytes (drop (part_len rest) rest)
body_more bytes [] goes h = absurd cc
body_more bytes (b ∷ rest) goes h = passing_more is_inside bytes b rest (inside_is b rest ∙ goes) h

pub body_all : (bytes rest : List ℕ) → goes_on rest ≡ false → ArePassing is_inside bytes rest → IsBehindBody bytes rest
body_all bytes rest ends h = record { parts = h.parts; inside = h.pass; are = h.are; stops = ends }

-- a plain byte is one part, and the statement goes on at it
plain_long : (b : ℕ) (bytes : List ℕ) → is_plain b ≡ true → part_len (b ∷ bytes) ≡ 1
plain_long b bytes plain =
    let quote : eqb b 39 ≡ false = grind (arith, nat_tests) in
    let none : begins_comment (b ∷ bytes) ≡ false = no_comment b bytes (grind (arith, nat_tests)) in
    rw (quote, none) refl

plain_goes : (b : ℕ) (bytes : List ℕ) → is_plain b ≡ true → goes_on (b ∷ bytes) ≡ true
plain_goes b bytes plain = grind (arith, nat_tests)

pub body_plain : (bytes rest : List ℕ) → ArePassing is_inside bytes rest → ArePassing is_inside bytes (drop (prefix_len is_plain rest) rest)
body_plain bytes [] h = h
body_plain bytes (b ∷ rest) h =
    let F : ℕ → Type 0 = λ n. ArePassing is_inside bytes (drop n (b ∷ rest)) in
    cond_both (is_plain b) (1 + prefix_len is_plain rest) 0 F (λ plain. rw (rest_one (prefix_len is_plain rest) b rest) (body_plain bytes rest (subst F (plain_long b rest plain) (body_more bytes (b ∷ rest) (plain_goes b rest plain) h)))) (λ none. h)

pub plain_shorter : (rest : List ℕ) → length (drop (prefix_len is_plain rest) rest) ≤ length rest
plain_shorter rest = omega (arith, length-drop (prefix_len is_plain rest) rest)

-- ---- the first statement that is too long

pub long_here : (pieces : List Piece) (i : ℕ) (d : Piece) → i < length pieces → is_long (get_or pieces i d) ≡ true → position_from is_long (i + 1) (drop i pieces) ≡ Some (i + 1)
long_here pieces i d lt long = at_drop_more (position_from is_long (i + 1)) pieces i d lt ∙ rw long refl

pub long_later : (pieces : List Piece) (i : ℕ) (d : Piece) → i < length pieces → is_long (get_or pieces i d) ≡ false → position_from is_long (i + 1) (drop i pieces) ≡ position_from is_long (i + 1 + 1) (drop (i + 1) pieces)
long_later pieces i d lt short = at_drop_more (position_from is_long (i + 1)) pieces i d lt ∙ rw short refl

pub long_nowhere : (pieces : List Piece) (i : ℕ) → length pieces ≤ i → position_from is_long (i + 1) (drop i pieces) ≡ None
long_nowhere pieces i end = at_drop_all (position_from is_long (i + 1)) pieces i end

-- where none is too long each is short
pub none_long : (n : ℕ) (pieces : List Piece) → position_from is_long n pieces ≡ None → All (λ piece. piece.end ≤ piece.start + statement_limit) pieces
none_long n [] none = All-nil _
none_long n (p ∷ pieces) none =
    elim (cases_Bool (is_long p)) [
      | inl long ↦ let some : position_from is_long n (p ∷ pieces) ≡ Some n = rw long refl in absurd (cc (some, none))
      | inr short ↦
          let more : position_from is_long (n + 1) pieces ≡ None = rw short at none in
          All-cons (λ piece. piece.end ≤ piece.start + statement_limit) p pieces (ltb-false _ _ short) (none_long (n + 1) pieces more)
    ]
