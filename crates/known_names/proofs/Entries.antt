-- Texts and codes, held as entries that have each text in another form.
use Rattle.std.proofs.Common.{◌≡◌, ℕ, false, cond, List, [], ◌∷◌, ◌++◌, Some, None, is_some, Result, Ok, Err, OnErr, refl, sym, ap, subst, ◌∙◌}
use Rattle.std.specs.List.{AllByRecursion, IsDistinct}
use Rattle.std.specs.Map.{keys_of, lookup}
use Rattle.std.specs.Str.{bytes_eq}
use Rattle.std.proofs.lemmas.List.{map_push}
use Rattle.indexmap.specs.IndexMap.{IndexMap, insert_entry}
use Rattle.indexmap.proofs.CallerLemmas.{insert_entry-new}
use Rattle.known_names.specs.KnownTexts.{code_of_known, with_text, texts_of, HasDistinctTexts}

module _ {X : Type 0} (f : X → List ℕ) where
  lookup_text : (text : List ℕ) (es : List (X × ℕ))
      → lookup (λ k. bytes_eq text (f k)) es ≡ code_of_known (texts_of f es) text
  lookup_text text [] = refl
  lookup_text text (e ∷ es) = ap (λ o. cond (bytes_eq text (f e.0)) (Some e.1) o) (lookup_text text es)

  others_differ : (text : List ℕ) (es : List (X × ℕ)) → AllByRecursion (λ k. bytes_eq text (f k) ≡ false) (keys_of es)
      → AllByRecursion (λ k. bytes_eq text k ≡ false) (keys_of (texts_of f es))
  others_differ text [] h = h
  others_differ text (e ∷ es) h = (h.0, others_differ text es h.1)

  distinct_seen : (es : List (X × ℕ)) → IsDistinct (λ a b. bytes_eq (f a) (f b)) (keys_of es)
      → HasDistinctTexts (texts_of f es)
  unfolding IsDistinct
  distinct_seen [] h = h
  distinct_seen (e ∷ es) h = (others_differ (f e.0) es h.0, distinct_seen es h.1)

  -- What is found among the entries is the code.
  pub code_is : (es : List (X × ℕ)) (known : List (List ℕ × ℕ)) (text : List ℕ) → texts_of f es ≡ known
      → lookup (λ k. bytes_eq text (f k)) es ≡ code_of_known known text
  code_is es known text seen = lookup_text text es ∙ ap (λ k. code_of_known k text) seen

  pub distinct_texts : (es : List (X × ℕ)) (known : List (List ℕ × ℕ)) → texts_of f es ≡ known
      → IsDistinct (λ a b. bytes_eq (f a) (f b)) (keys_of es) → HasDistinctTexts known
  distinct_texts es known seen unique = subst HasDistinctTexts seen (distinct_seen es unique)

  -- A text that is not known goes last.
  pub text_added : {S : Type 0} (m : IndexMap X ℕ S) (known : List (List ℕ × ℕ)) (new : List (X × ℕ)) (owned : X)
      (text : List ℕ) (code : ℕ) → texts_of f m.entries ≡ known → f owned ≡ text → code_of_known known text ≡ None
      → new ≡ insert_entry (λ a b. bytes_eq (f a) (f b)) m.entries owned code
      → texts_of f new ≡ with_text known text code
  text_added m known new owned text code seen same unknown inserted =
      let none : lookup (λ k. bytes_eq (f owned) (f k)) m.entries ≡ None =
      code_is m.entries known (f owned) seen ∙ ap (code_of_known known) same ∙ unknown in
      ap (texts_of f) (inserted ∙ insert_entry-new (λ a b. bytes_eq (f a) (f b)) m owned code none)
      ∙ map_push (λ e. (f e.0, e.1)) m.entries (owned, code)
      ∙ (λ i. seen i ++ (same i, code) ∷ [])
      ∙ sym (ap (λ o. cond (is_some o) known (known ++ (text, code) ∷ [])) unknown)

-- One that is known stays.
pub text_known : (known : List (List ℕ × ℕ)) (text : List ℕ) (code had : ℕ) → code_of_known known text ≡ Some had
    → known ≡ with_text known text code
text_known known text code had is = sym (ap (λ o. cond (is_some o) known (known ++ (text, code) ∷ [])) is)

pub at_any_err : {T E : Type 0} (r : Result T E) (P : Type 0) → P → OnErr r P
at_any_err (Ok x) P p = tt
at_any_err (Err e) P p = p
