-- Slots that hold short texts with their codes.
use Rattle.std.proofs.Common.{◌≡◌, ℕ, ◌<◌, true, cond, List, [], ◌∷◌, ◌++◌, length, get_or, set, Some, None, is_some, refl, sym, ap, subst, ◌∙◌, inl, inr, arith}
use Rattle.std.specs.Cmp.Lexicographic.{bytes_decides}
use Rattle.std.specs.Str.{bytes_eq}
use Rattle.std.proofs.lemmas.Bool.{cases_Bool}
use Rattle.std.proofs.lemmas.List.Elements.{All-get_or, All-nil, All-push, All-set, All-weaker}
use Rattle.known_names.specs.KnownTexts.{code_of_known, with_text}
use Rattle.known_names.specs.ShortKeys.{IsShortText, short_key}
use Rattle.known_names.specs.Slots.{AreRight, IsRight, slot_key}
use Rattle.known_names.specs.declared.short_keys.ShortKey.{ShortKey}
use Rattle.known_names.specs.declared.short_texts.Slot.{Slot}
use Rattle.known_names.proofs.ShortKeys.{len_short, short_same}

pub none_right : (known : List (List ℕ × ℕ)) → AreRight known []
none_right known = All-nil (IsRight known)

-- a slot of length 0 holds no text
pub free_right : (known : List (List ℕ × ℕ)) (slot : Slot) → slot.len ≡ 0 → IsRight known slot
free_right known slot free text short is =
    let len : slot.len ≡ length text = ap (λ (key : ShortKey). key.len) is ∙ len_short text in
    absurd (omega (arith, free, len, short.some))

pub free_pushed : (known : List (List ℕ × ℕ)) (slots : List Slot) (slot : Slot) → AreRight known slots
    → slot.len ≡ 0 → AreRight known (slots ++ slot ∷ [])
free_pushed known slots slot right free = All-push (IsRight known) slots slot right (free_right known slot free)

pub right_set : (known : List (List ℕ × ℕ)) (slots : List Slot) (i : ℕ) (slot : Slot)
    → AreRight known slots → IsRight known slot → AreRight known (set slots i slot)
right_set known slots i slot right is = All-set (IsRight known) slots i slot is right

-- the slot of a text with its code
pub right_slot : (known : List (List ℕ × ℕ)) (slot : Slot) (key : ShortKey) (text : List ℕ) (code : ℕ) → IsShortText text
    → key ≡ short_key text → slot_key slot ≡ key → slot.code ≡ code → code_of_known known text ≡ Some code → IsRight known slot
right_slot known slot key text code short is holds has so other other_short other_is =
    let same : other ≡ text = short_same other text other_short short (sym other_is ∙ holds ∙ is) in
    ap (code_of_known known) same ∙ so ∙ sym (ap Some has)

-- what is found in a slot is the code
pub right_code : (known : List (List ℕ × ℕ)) (slots : List Slot) (i : ℕ) (d : Slot) (text : List ℕ) (key : ShortKey)
    → AreRight known slots → i < length slots → IsShortText text → key ≡ short_key text → slot_key (get_or slots i d) ≡ key
    → code_of_known known text ≡ Some (get_or slots i d).code
right_code known slots i d text key right lt short is holds =
    All-get_or (IsRight known) slots i d lt right text short (holds ∙ is)

-- ---- a text that is added

after : (known : List (List ℕ × ℕ)) (text other : List ℕ) (code had : ℕ) → code_of_known known other ≡ Some had
    → code_of_known (known ++ (text, code) ∷ []) other ≡ Some had
after [] text other code had is = absurd cc
after (e ∷ known) text other code had is = elim (cases_Bool (bytes_eq other e.0)) [
  | inl same ↦ rw same (rw same at is)
  | inr differ ↦ rw differ (after known text other code had (rw differ at is))
]

last : (known : List (List ℕ × ℕ)) (text : List ℕ) (code : ℕ) → code_of_known known text ≡ None
    → bytes_eq text text ≡ true → code_of_known (known ++ (text, code) ∷ []) text ≡ Some code
last [] text code none same = rw same refl
last (e ∷ known) text code none same = elim (cases_Bool (bytes_eq text e.0)) [
  | inl is ↦ let no = rw is at none in absurd cc
  | inr differ ↦ rw differ (last known text code (rw differ at none) same)
]

with_new : (known : List (List ℕ × ℕ)) (text : List ℕ) (code : ℕ) → code_of_known known text ≡ None
    → with_text known text code ≡ known ++ (text, code) ∷ []
with_new known text code none = ap (λ o. cond (is_some o) known (known ++ (text, code) ∷ [])) none

-- what is right stays so where a text is added
pub right_after : (known : List (List ℕ × ℕ)) (text : List ℕ) (code : ℕ) (slots : List Slot)
    → code_of_known known text ≡ None → AreRight known slots → AreRight (with_text known text code) slots
right_after known text code slots none right =
    subst (λ (k : List (List ℕ × ℕ)). AreRight k slots) (sym (with_new known text code none))
    (All-weaker (IsRight known) (IsRight (known ++ (text, code) ∷ []))
    (λ slot h other short is. after known text other code slot.code (h other short is)) slots right)

-- and the text has its code then
pub code_then : (known : List (List ℕ × ℕ)) (text : List ℕ) (code : ℕ) → code_of_known known text ≡ None
    → bytes_eq text text ≡ true → code_of_known (with_text known text code) text ≡ Some code
code_then known text code none same =
    ap (λ k. code_of_known k text) (with_new known text code none) ∙ last known text code none same

same_text : (text : List ℕ) → bytes_eq text text ≡ true
same_text text = (bytes_decides text text).1 refl

-- so the slots are right after a text was added and noted
pub right_with : (known new : List (List ℕ × ℕ)) (text : List ℕ) (code : ℕ) (before after : List Slot)
    → code_of_known known text ≡ None → new ≡ with_text known text code → AreRight known before
    → ((k : List (List ℕ × ℕ)) → AreRight k before → code_of_known k text ≡ Some code → AreRight k after)
    → AreRight new after
right_with known new text code before after none added right noted =
    subst (λ (k : List (List ℕ × ℕ)). AreRight k after) (sym added)
    (noted (with_text known text code) (right_after known text code before none right)
    (code_then known text code none (same_text text)))
