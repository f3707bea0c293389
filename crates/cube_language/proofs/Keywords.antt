-- Keywords and the words that spell them.
use Rattle.std.proofs.Common.{◌≡◌, ℕ, Bool, true, List, [], ◌∷◌, Option, Some, map, find, refl, sym, ap, ◌∙◌, inl, inr}
use Rattle.std.specs.Char.{to_ascii_lowercase}
use Rattle.std.specs.Str.{bytes_eq}
use Rattle.std.proofs.lemmas.Bool.{cases_Bool}
use Rattle.std.proofs.lemmas.Slice.Eq.{bytes_eq-Decides}
use Rattle.cube_language.specs.declared.keyword.TheConstants.{KEYWORDS}
use Rattle.cube_language.specs.Keywords.{spells, keyword_text, keyword_of}
use Rattle.cube_language.specs.declared.keyword.Keyword.{Keyword as KeywordWord}
use Rattle.cube_language.specs.declared.keyword.Keyword.TheVariants as keyword

-- a word that spells a keyword is that keyword
pub spelled_is : (k : KeywordWord) (word : List ℕ) → map to_ascii_lowercase word ≡ keyword_text k → keyword_of word ≡ Some k
unfolding keyword_of
spelled_is keyword.Select word e = rw e refl
spelled_is k word e = rw e refl

pub lowered : (k : KeywordWord) → map to_ascii_lowercase (keyword_text k) ≡ keyword_text k
lowered keyword.Select = refl
lowered k = refl

pub find_passes : {A : Type 0} (p : A → Bool) (xs : List A) (x : A) → find p xs ≡ Some x → p x ≡ true
find_passes p [] x e = absurd cc
find_passes p (y ∷ ys) x e =
    elim (cases_Bool (p y)) [
      | inl passes ↦ let same : y ≡ x = let at : find p (y ∷ ys) ≡ Some y = rw passes refl in cc in ap p (sym same) ∙ passes
      | inr fails ↦ let later : find p (y ∷ ys) ≡ find p ys = rw fails refl in find_passes p ys x (sym later ∙ e)
    ]

-- the letters of a keyword are those of a word that spells it
pub keyword_letters : (k : KeywordWord) (word : List ℕ) → keyword_of word ≡ Some k → map to_ascii_lowercase word ≡ keyword_text k
unfolding keyword_of
keyword_letters k word e =
    (bytes_eq-Decides (map to_ascii_lowercase word) (map to_ascii_lowercase (keyword_text k))).0 (find_passes (λ j. spells j word) KEYWORDS k e) ∙ lowered k
