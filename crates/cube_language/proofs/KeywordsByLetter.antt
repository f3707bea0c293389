-- The keyword that a word spells is one of those that begin with its first letter.
use Rattle.std.proofs.Common.{◌≡◌, ℕ, ◌<◌, length, ap, arith, List, [], ◌∷◌, Option, Some, None, map, find, get_or, refl, sym, ◌∙◌}
use Rattle.std.specs.Char.{to_ascii_lowercase}
use Rattle.std.specs.Str.{bytes_eq}
use Rattle.std.proofs.lemmas.Slice.Eq.{bytes_eq-Decides}
use Rattle.cube_language.specs.Keywords.{spells, keyword_of, keyword_text}
use Rattle.cube_language.specs.declared.keyword.Keyword.{Keyword as KeywordWord}
use Rattle.cube_language.specs.declared.keyword.Keyword.TheVariants as keyword
use Rattle.cube_language.specs.Letters.{keywords_at}
use Rattle.cube_language.proofs.Keywords.{find_passes, keyword_letters, lowered, spelled_is}

-- the keyword among those of its first letter that letters in lower case spell
abbrev at_first : List ℕ → Option KeywordWord
at_first letters = find (λ k. bytes_eq letters (map to_ascii_lowercase (keyword_text k))) (keywords_at (get_or letters 0 0))

found : (k : KeywordWord) (letters : List ℕ) → letters ≡ keyword_text k → at_first letters ≡ Some k
found keyword.Select letters e = rw e refl
found k letters e = rw e refl

spelled_as : (word : List ℕ) (o p : Option KeywordWord) → keyword_of word ≡ o → at_first (map to_ascii_lowercase word) ≡ p → p ≡ o
spelled_as word (Some k) p e at = sym at ∙ found k (map to_ascii_lowercase word) (keyword_letters k word e)
spelled_as word None None e at = refl
spelled_as word None (Some k) e at =
    let spelled = find_passes (λ j. spells j word) (keywords_at (get_or (map to_ascii_lowercase word) 0 0)) k at in
    let there = spelled_is k word ((bytes_eq-Decides (map to_ascii_lowercase word) (map to_ascii_lowercase (keyword_text k))).0 spelled ∙ lowered k) in
    absurd cc

at_first_is : (b : ℕ) (bytes : List ℕ) → find (λ k. spells k (b ∷ bytes)) (keywords_at (to_ascii_lowercase b)) ≡ keyword_of (b ∷ bytes)
at_first_is b bytes = spelled_as (b ∷ bytes) (keyword_of (b ∷ bytes)) (at_first (map to_ascii_lowercase (b ∷ bytes))) refl refl

pub spelled_at_first : (word : List ℕ) (letter : ℕ) (keywords : List KeywordWord) → letter ≡ to_ascii_lowercase (get_or word 0 0) → keywords ≡ keywords_at letter → 0 < length word → find (λ k. spells k word) keywords ≡ keyword_of word
spelled_at_first [] letter keywords first are some = absurd (omega arith)
spelled_at_first (b ∷ bytes) letter keywords first are some = ap (find (λ k. spells k (b ∷ bytes))) (are ∙ ap keywords_at first) ∙ at_first_is b bytes

pub spelled_by_nothing : (word : List ℕ) → length word < 1 → None ≡ keyword_of word
unfolding keyword_of
spelled_by_nothing [] none = refl
spelled_by_nothing (b ∷ bytes) none = absurd (omega arith)
