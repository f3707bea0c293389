-- What is known of texts once one more is learned.
use Rattle.std.proofs.Common.{◌≡◌, ◌⊎◌, ℕ, ◌<◌, Bool, true, false, cond, List, [], ◌∷◌, ◌++◌, length, get_or, set, Some, None, is_some, refl, sym, ap, ◌∙◌, inl, inr}
use Rattle.std.specs.Cmp.Lexicographic.{bytes_decides}
use Rattle.std.specs.Str.{bytes_eq}
use Rattle.std.proofs.lemmas.Bool.{cases_eq}
use Rattle.std.proofs.lemmas.List.{get_or-set_other, get_or-set_same}
use Rattle.std.proofs.lemmas.Option.{none-some, same_Some}
use Rattle.known_names.specs.KnownTexts.{code_of_known, with_text}
use Rattle.core_names.specs.KnownNumbers.{TextsByDim, number_known, with_number}

-- What is found is what was found before, or what was learned.
abbrev IsOldOrNew : List (List ℕ × ℕ) → List ℕ → ℕ → List ℕ → ℕ → Type 0
IsOldOrNew known text number t n = (code_of_known known t ≡ Some n) ⊎ ((t ≡ text) × (number ≡ n))

last-or-none : (b : Bool) (text : List ℕ) (number : ℕ) (t : List ℕ) (n : ℕ) → bytes_eq t text ≡ b
    → cond b (Some number) None ≡ Some n → IsOldOrNew [] text number t n
last-or-none true text number t n e h = inr ((bytes_decides t text).0 e, same_Some number n h)
last-or-none false text number t n e h = absurd (none-some n h)

first-or-rest : (b : Bool) (x : List ℕ × ℕ) (known : List (List ℕ × ℕ)) (text : List ℕ) (number : ℕ) (t : List ℕ) (n : ℕ)
    → cond b (Some x.1) (code_of_known (known ++ (text, number) ∷ []) t) ≡ Some n
    → (code_of_known (known ++ (text, number) ∷ []) t ≡ Some n → IsOldOrNew known text number t n)
    → (cond b (Some x.1) (code_of_known known t) ≡ Some n) ⊎ ((t ≡ text) × (number ≡ n))
first-or-rest true x known text number t n h rest = inl h
first-or-rest false x known text number t n h rest = rest h

found-among : (known : List (List ℕ × ℕ)) (text : List ℕ) (number : ℕ) (t : List ℕ) (n : ℕ)
    → code_of_known (known ++ (text, number) ∷ []) t ≡ Some n → IsOldOrNew known text number t n
found-among [] text number t n h = last-or-none (bytes_eq t text) text number t n refl h
found-among (x ∷ known) text number t n h =
    first-or-rest (bytes_eq t x.0) x known text number t n h (found-among known text number t n)

found-where : (b : Bool) (known : List (List ℕ × ℕ)) (text : List ℕ) (number : ℕ) (t : List ℕ) (n : ℕ)
    → code_of_known (cond b known (known ++ (text, number) ∷ [])) t ≡ Some n → IsOldOrNew known text number t n
found-where true known text number t n h = inl h
found-where false known text number t n h = found-among known text number t n h

pub learned-or-known : (known : TextsByDim) (dim : ℕ) (text : List ℕ) (number k : ℕ) (t : List ℕ) (n : ℕ) → dim < length known
    → number_known (with_number known dim text (Some number)) k t ≡ Some n
    → (number_known known k t ≡ Some n) ⊎ ((k ≡ dim) × (t ≡ text) × (number ≡ n))
learned-or-known known dim text number k t n there h =
    let its = get_or known dim [] in
    let new = with_text its text number in
    elim (cases_eq k dim) [
      | inl same ↦
          let at : get_or (set known dim new) k [] ≡ new = ap (λ (j : ℕ). get_or (set known dim new) j []) same ∙ get_or-set_same known dim new [] there in
          elim (found-where (is_some (code_of_known its text)) its text number t n (sym (ap (λ (xs : List (List ℕ × ℕ)). code_of_known xs t) at) ∙ h)) [
            | inl old ↦ inl (ap (λ (j : ℕ). code_of_known (get_or known j []) t) same ∙ old)
            | inr new ↦ inr (same, new.0, new.1)
          ]
      | inr other ↦
          let o : (k ≡ dim → ⊥) = other in
          inl (sym (ap (λ (xs : List (List ℕ × ℕ)). code_of_known xs t) (get_or-set_other known dim k new [] o)) ∙ h)
    ]
