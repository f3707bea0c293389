-- Whether what is given is wrong for a cause is decided.
use Rattle.std.proofs.Common.{◌≡◌, ◌⊎◌, inl, inr, ◌<◌, ◌^◌, ℕ, Bool, true, false, true≢false, List, [], ◌∷◌, length, Option, Some, None, sym, refl, ap, arith}
use Rattle.std.specs.Prelude.{IsSome}
use Rattle.std.proofs.lemmas.Bool.{cases_lt}
use Rattle.std.proofs.lemmas.Option.{none-some}
use Rattle.run_words.specs.Commands.{GiveNoFile}
use Rattle.run_words.specs.Numbers.{IsBadNumber}
use Rattle.run_words.specs.Words.{IsWrong}
use Rattle.run_words.specs.declared.fault.WordsFault.{WordsFault}
use Rattle.run_words.specs.declared.fault.WordsFault.TheVariants.{BadRoundEvery, BadRows, BadShards, NewWithoutStore, NoCubes, NoScripts, NotAlone, NotTaken, TooManyScripts}
use Rattle.run_words.specs.declared.given.Given.{Given}
use Rattle.run_words.specs.declared.reading.TheConstants.{MOST_GENERATED, MOST_ROUND_EVERY, MOST_SCRIPTS, MOST_SHARDS}
use Rattle.run_words.proofs.SpelledNumbers.{number_or_none}

-- A fact holds or does not.
abbrev pub IsDecided : Type 0 → Type 0
IsDecided P = P ⊎ (P → ⊥)

pub bad_number : (most : ℕ) → most < 2 ^ 32 → (text : Option (List ℕ)) → IsDecided (IsBadNumber most text)
bad_number most fits None = inr (λ bad. bad)
bad_number most fits (Some text) = elim (number_or_none most text fits) [
  | inl number ↦ inr (λ never. never number.0 number.1)
  | inr never ↦ inl never
]

pub is_absent : {X : Type 0} (option : Option X) → IsDecided (option ≡ None)
is_absent None = inl refl
is_absent (Some x) = inr (λ is. none-some x (sym is))

pub is_present : {X : Type 0} (option : Option X) → IsDecided (IsSome option)
is_present None = inr (λ is. true≢false (sym is))
is_present (Some x) = inl refl

pub is_empty : {X : Type 0} (list : List X) → IsDecided (list ≡ [])
is_empty [] = inl refl
is_empty {X = X} (x ∷ xs) = inr (λ is. omega (arith, ap (λ (l : List X). length l) is))

pub is_set : (b : Bool) → IsDecided (b ≡ true)
is_set true = inl refl
is_set false = inr (λ is. true≢false (sym is))

pub is_unset : (b : Bool) → IsDecided (b ≡ false)
is_unset true = inr true≢false
is_unset false = inl refl

pub is_below : (m n : ℕ) → IsDecided (m < n)
is_below m n = elim (cases_lt m n) [
  | inl below ↦ inl below
  | inr above ↦ inr (λ below. omega (arith, below, above))
]

pub both_decided : {P Q : Type 0} → IsDecided P → IsDecided Q → IsDecided (P × Q)
both_decided (inl p) (inl q) = inl (p, q)
both_decided (inl p) (inr never) = inr (λ both. never both.1)
both_decided (inr never) q = inr (λ both. never both.0)

pub not_decided : {P : Type 0} → IsDecided P → IsDecided (P → ⊥)
not_decided (inl p) = inr (λ never. never p)
not_decided (inr never) = inl never

pub no_file : (given : Given) → IsDecided (GiveNoFile given)
no_file given = elim (both_decided (is_absent given.cubes) (both_decided (is_absent given.store)
    (both_decided (is_unset given.is_new) (is_empty given.scripts)))) [
      | inl all ↦ inl (record { cubes = all.0; store = all.1.0; is_new = all.1.1.0; scripts = all.1.1.1 })
      | inr never ↦ inr (λ none. never (none.cubes, (none.store, (none.is_new, none.scripts))))
    ]

pub wrong_or_not : (given : Given) (cause : WordsFault) → IsDecided (IsWrong given cause)
wrong_or_not given NotTaken = inr (λ wrong. wrong)
wrong_or_not given BadShards = bad_number MOST_SHARDS (omega arith) given.shards
wrong_or_not given BadRoundEvery = bad_number MOST_ROUND_EVERY (omega arith) given.round_every
wrong_or_not given BadRows = bad_number MOST_GENERATED (omega arith) given.generate
wrong_or_not given NotAlone = both_decided (is_present given.generate) (not_decided (no_file given))
wrong_or_not given NoCubes = both_decided (is_absent given.generate) (is_absent given.cubes)
wrong_or_not given NewWithoutStore = elim
    (both_decided (is_absent given.generate) (both_decided (is_set given.is_new) (is_absent given.store))) [
      | inl all ↦ inl (all.0, all.1.0, all.1.1)
      | inr never ↦ inr (λ wrong. never (wrong.0, (wrong.1, wrong.2)))
    ]
wrong_or_not given NoScripts = both_decided (is_absent given.generate) (is_empty given.scripts)
wrong_or_not given TooManyScripts =
    both_decided (is_absent given.generate) (is_below MOST_SCRIPTS (length given.scripts))
