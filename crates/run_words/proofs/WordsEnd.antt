-- Words ask for a command or have a fault, never both, and one fault at most.
use Rattle.std.proofs.Common.{◌≡◌, ◌∙◌, ◌⊎◌, inl, inr, ◌<◌, ◌≤◌, ◌^◌, ℕ, Bool, true, false, true≢false, List, [], ◌∷◌, length, Option, Some, None, sym, refl, ap, arith}
use Rattle.std.specs.Prelude.{IsSome}
use Rattle.std.specs.List.{AllByRecursion}
use Rattle.std.proofs.lemmas.Bool.{cases_lt}
use Rattle.std.proofs.lemmas.Option.{none-some}
use Rattle.run_words.specs.CommandLine.{AreTaken, given_by}
use Rattle.run_words.specs.Commands.{AskFor, AskForRows, AskForRun, AskForSettings, AskForStore, GiveNoFile}
use Rattle.run_words.specs.Laws.{AskForSome, HaveSomeFault}
use Rattle.run_words.specs.Numbers.{IsBadNumber, IsNumberIf, IsNumberOr, IsNumberUpTo}
use Rattle.run_words.specs.Words.{AreWordsOf, HaveFault, IsFirstWrong, IsWrong, words_faults}
use Rattle.run_words.specs.declared.command.Command.{Command}
use Rattle.run_words.specs.declared.command.Command.TheVariants.{Generate, Run}
use Rattle.run_words.specs.declared.command.RunCommand.{RunCommand}
use Rattle.run_words.specs.declared.command.GenerateCommand.{GenerateCommand}
use Rattle.run_words.specs.declared.command.Settings.{Settings}
use Rattle.run_words.specs.declared.command.StoreName.{StoreName}
use Rattle.run_words.specs.declared.fault.WordsFault.{WordsFault}
use Rattle.run_words.specs.declared.fault.WordsFault.TheVariants.{BadRoundEvery, BadRows, BadShards, NewWithoutStore, NoCubes, NoScripts, NotAlone, NotTaken, TooManyScripts}
use Rattle.run_words.specs.declared.given.Given.{Given}
use Rattle.run_words.specs.declared.reading.TheConstants.{DEFAULT_SHARDS, MOST_GENERATED, MOST_ROUND_EVERY, MOST_SCRIPTS, MOST_SHARDS}
use Rattle.run_words.proofs.Decided.{is_empty, no_file, wrong_or_not}
use Rattle.run_words.proofs.SpelledNumbers.{number_or_none}

-- ---- the first cause

abbrev NoneIsWrong : Given → List WordsFault → Type 0
NoneIsWrong given causes = AllByRecursion (λ cause. IsWrong given cause → ⊥) causes

first_or_none : (given : Given) (causes : List WordsFault)
    → ((fault : WordsFault) × IsFirstWrong given causes fault) ⊎ NoneIsWrong given causes
first_or_none given [] = inr tt
first_or_none given (cause ∷ rest) = go (wrong_or_not given cause) (first_or_none given rest)
  where
    go : IsWrong given cause ⊎ (IsWrong given cause → ⊥)
        → ((fault : WordsFault) × IsFirstWrong given rest fault) ⊎ NoneIsWrong given rest
        → ((fault : WordsFault) × IsFirstWrong given (cause ∷ rest) fault) ⊎ NoneIsWrong given (cause ∷ rest)
    go (inl wrong) later = inl (cause, inl (refl, wrong))
    go (inr right) (inl first) = inl (first.0, inr (right, first.1))
    go (inr right) (inr none) = inr (right, none)

one_first : (given : Given) (causes : List WordsFault) (a b : WordsFault) → IsFirstWrong given causes a
    → IsFirstWrong given causes b → a ≡ b
one_first given [] a b first other = absurd first
one_first given (cause ∷ rest) a b (inl first) (inl other) = first.0 ∙ sym other.0
one_first given (cause ∷ rest) a b (inl first) (inr other) = absurd (other.0 first.1)
one_first given (cause ∷ rest) a b (inr first) (inl other) = absurd (first.0 other.1)
one_first given (cause ∷ rest) a b (inr first) (inr other) = one_first given rest a b first.1 other.1

first_is_wrong : (given : Given) (causes : List WordsFault) (fault : WordsFault) → IsFirstWrong given causes fault
    → (cause : WordsFault) × IsWrong given cause
first_is_wrong given [] fault first = absurd first
first_is_wrong given (cause ∷ rest) fault (inl first) = (cause, first.1)
first_is_wrong given (cause ∷ rest) fault (inr first) = first_is_wrong given rest fault first.1

-- ---- a command where nothing is wrong

spelled : (most : ℕ) (text : List ℕ) → most < 2 ^ 32 → (IsBadNumber most (Some text) → ⊥)
    → (number : ℕ) × IsNumberUpTo most text number
spelled most text fits good = elim (number_or_none most text fits) [ inl number ↦ number | inr never ↦ absurd (good never) ]

number_or : (default most : ℕ) (text : Option (List ℕ)) → most < 2 ^ 32 → (IsBadNumber most text → ⊥)
    → (number : ℕ) × IsNumberOr default most text number
number_or default most None fits good = (default, refl)
number_or default most (Some text) fits good = spelled most text fits good

number_if : (most : ℕ) (text : Option (List ℕ)) → most < 2 ^ 32 → (IsBadNumber most text → ⊥)
    → (number : Option ℕ) × IsNumberIf most text number
number_if most None fits good = (None, refl)
number_if most (Some text) fits good =
    let number = spelled most text fits good in
    (Some number.0, number.1)

store_or_none : (name : Option (List ℕ)) (is_new : Bool) → ((is_new ≡ true) × (name ≡ None) → ⊥)
    → (store : Option StoreName) × AskForStore name is_new store
store_or_none (Some name) is_new good = (Some (record { name = name; is_new = is_new }), (refl, refl))
store_or_none None false good = (None, refl)
store_or_none None true good = absurd (good (refl, refl))

name_given : (name : Option (List ℕ)) → (name ≡ None → ⊥) → (text : List ℕ) × (name ≡ Some text)
name_given None good = absurd (good refl)
name_given (Some text) good = (text, refl)

some_items : {X : Type 0} (list : List X) → (list ≡ [] → ⊥) → 1 ≤ length list
some_items [] good = absurd (good refl)
some_items (x ∷ xs) good = omega arith

command_for : (given : Given) → NoneIsWrong given words_faults → (command : Command) × AskFor given command
command_for given right = at_rows given.generate refl
  where
    settings : (settings : Settings) × AskForSettings given settings
    settings =
        let shards = number_or DEFAULT_SHARDS MOST_SHARDS given.shards (omega arith) right.0 in
        let round_every = number_if MOST_ROUND_EVERY given.round_every (omega arith) right.1.0 in (
          record { shards = shards.0; round_every = round_every.0 },
          record { shards = shards.1; round_every = round_every.1 },
        )

    at_rows : (generate : Option (List ℕ)) → given.generate ≡ generate → (command : Command) × AskFor given command
    at_rows None is =
        let cubes = name_given given.cubes (λ none. right.1.1.1.1.0 (is, none)) in
        let store = store_or_none given.store given.is_new (λ wrong. right.1.1.1.1.1.0 (is, wrong.0, wrong.1)) in (
          Run (record { cubes = cubes.0; store = store.0; settings = settings.0; scripts = given.scripts }),
          record {
            cubes = cubes.1;
            store = store.1;
            settings = settings.1;
            scripts = refl;
            some = some_items given.scripts (λ none. right.1.1.1.1.1.1.0 (is, none));
            few = at_most (cases_lt MOST_SCRIPTS (length given.scripts));
            no_rows = is;
          },
        )
      where
        at_most : (MOST_SCRIPTS < length given.scripts) ⊎ (length given.scripts ≤ MOST_SCRIPTS)
            → length given.scripts ≤ MOST_SCRIPTS
        at_most (inl many) = absurd (right.1.1.1.1.1.1.1.0 (is, many))
        at_most (inr few) = few
    at_rows (Some text) is =
        let rows = spelled MOST_GENERATED text (omega arith)
        (λ bad. right.1.1.0 (coe 1 0 (i. IsBadNumber MOST_GENERATED (is i)) bad))
        in (
          Generate (record { rows = rows.0; settings = settings.0 }),
          record {
            text = text;
            is = is;
            rows_are = rows.1;
            settings = settings.1;
            alone = at_alone (no_file given);
          },
        )
      where
        at_alone : GiveNoFile given ⊎ (GiveNoFile given → ⊥) → GiveNoFile given
        at_alone (inl alone) = alone
        at_alone (inr never) = absurd (right.1.1.1.0 (coe 1 0 (i. IsSome (is i)) refl, never))

-- ---- nothing is wrong where a command is asked for

good_number_or : (default most number : ℕ) (text : Option (List ℕ)) → IsNumberOr default most text number
    → IsBadNumber most text → ⊥
good_number_or default most number None is bad = bad
good_number_or default most number (Some text) is bad = bad number is

good_number_if : (most : ℕ) (number : Option ℕ) (text : Option (List ℕ)) → IsNumberIf most text number
    → IsBadNumber most text → ⊥
good_number_if most number None is bad = bad
good_number_if most None (Some text) is bad = is
good_number_if most (Some number) (Some text) is bad = bad number is

is_none_and_some : {X : Type 0} (option : Option X) (x : X) → option ≡ None → option ≡ Some x → ⊥
is_none_and_some option x none some = none-some x (sym none ∙ some)

store_is_there : (is_new : Bool) (store : Option StoreName) → AskForStore None is_new store → is_new ≡ true → ⊥
store_is_there is_new None asked wrong = true≢false (sym wrong ∙ asked)
store_is_there is_new (Some store) asked wrong = asked

settings_right : (given : Given) (settings : Settings) → AskForSettings given settings
    → (IsWrong given BadShards → ⊥) × (IsWrong given BadRoundEvery → ⊥)
settings_right given settings asked = (
  good_number_or DEFAULT_SHARDS MOST_SHARDS settings.shards given.shards asked.shards,
  good_number_if MOST_ROUND_EVERY settings.round_every given.round_every asked.round_every,
)

run_right : (given : Given) (run : RunCommand) → AskForRun given run → (cause : WordsFault) → IsWrong given cause → ⊥
run_right given run asked NotTaken wrong = wrong
run_right given run asked BadShards wrong = (settings_right given run.settings asked.settings).0 wrong
run_right given run asked BadRoundEvery wrong = (settings_right given run.settings asked.settings).1 wrong
run_right given run asked BadRows wrong = coe 0 1 (i. IsBadNumber MOST_GENERATED (asked.no_rows i)) wrong
run_right given run asked NotAlone wrong =
    true≢false (sym (coe 0 1 (i. IsSome (asked.no_rows i)) wrong.0))
run_right given run asked NoCubes wrong = is_none_and_some given.cubes run.cubes wrong.1 asked.cubes
run_right given run asked NewWithoutStore wrong =
    store_is_there given.is_new run.store
    (coe 0 1 (i. AskForStore (wrong.2 i) given.is_new run.store) asked.store) wrong.1
run_right given run asked NoScripts wrong =
    let some = asked.some in
    let none = ap (λ (l : List (List ℕ)). length l) wrong.1 in
    omega (arith, some, none)
run_right given run asked TooManyScripts wrong =
    let few = asked.few in
    let many = wrong.1 in
    omega (arith, few, many)

rows_right : (given : Given) (rows : GenerateCommand) → AskForRows given rows → (cause : WordsFault)
    → IsWrong given cause → ⊥
rows_right given rows asked NotTaken wrong = wrong
rows_right given rows asked BadShards wrong = (settings_right given rows.settings asked.settings).0 wrong
rows_right given rows asked BadRoundEvery wrong = (settings_right given rows.settings asked.settings).1 wrong
rows_right given rows asked BadRows wrong =
    coe 0 1 (i. IsBadNumber MOST_GENERATED (asked.is i)) wrong rows.rows asked.rows_are
rows_right given rows asked NotAlone wrong = wrong.1 asked.alone
rows_right given rows asked NoCubes wrong = is_none_and_some given.generate asked.text wrong.0 asked.is
rows_right given rows asked NewWithoutStore wrong = is_none_and_some given.generate asked.text wrong.0 asked.is
rows_right given rows asked NoScripts wrong = is_none_and_some given.generate asked.text wrong.0 asked.is
rows_right given rows asked TooManyScripts wrong = is_none_and_some given.generate asked.text wrong.0 asked.is

right : (given : Given) (command : Command) → AskFor given command → (cause : WordsFault) → IsWrong given cause → ⊥
right given (Run run) asked = run_right given run asked
right given (Generate rows) asked = rows_right given rows asked

-- ---- words

pub ask_or_have_fault : (words : List (List ℕ)) → AskForSome words ⊎ HaveSomeFault words
ask_or_have_fault words = at_taken (is_empty _)
  where
    at_given : AreTaken words
        → ((fault : WordsFault) × IsFirstWrong (given_by words) words_faults fault)
        ⊎ NoneIsWrong (given_by words) words_faults
        → AskForSome words ⊎ HaveSomeFault words
    at_given taken (inl first) = inr (first.0, inr (taken, first.1))
    at_given taken (inr none) =
        let command = command_for (given_by words) none in
        inl (command.0, record { taken = taken; asked = command.1 })

    at_taken : AreTaken words ⊎ (AreTaken words → ⊥) → AskForSome words ⊎ HaveSomeFault words
    at_taken (inl taken) = at_given taken (first_or_none (given_by words) words_faults)
    at_taken (inr not) = inr (NotTaken, inl (refl, not))

pub no_fault : (words : List (List ℕ)) (command : Command) (fault : WordsFault) → AreWordsOf words command
    → HaveFault words fault → ⊥
no_fault words command fault are (inl not) = not.1 are.taken
no_fault words command fault are (inr wrong) =
    let cause = first_is_wrong (given_by words) words_faults fault wrong.1 in
    right (given_by words) command are.asked cause.0 cause.1

pub one_fault : (words : List (List ℕ)) (a b : WordsFault) → HaveFault words a → HaveFault words b → a ≡ b
one_fault words a b (inl first) (inl other) = first.0 ∙ sym other.0
one_fault words a b (inl first) (inr other) = absurd (first.1 other.0)
one_fault words a b (inr first) (inl other) = absurd (other.1 first.0)
one_fault words a b (inr first) (inr other) = one_first (given_by words) words_faults a b first.1 other.1
