-- Words that clap takes are in parts.
use Rattle.std.proofs.Common.{◌≡◌, ◌∙◌, ◌⊎◌, ◌++◌, ◌≤◌, inl, inr, ℕ, Bool, true, false, true≢false, List, [], ◌∷◌, length, Option, Some, None, refl, sym, ap, subst, arith, append_assoc, append-nil}
use Rattle.std.specs.Prelude.{codes, fold}
use Rattle.std.specs.List.{AllByRecursion}
use Rattle.std.specs.Str.{IsUtf8, bytes_eq}
use Rattle.std.proofs.lemmas.Bool.{cases_Bool}
use Rattle.std.proofs.lemmas.Option.{none-some}
use Rattle.std.proofs.lemmas.Slice.Eq.{bytes_eq-Decides}
use Rattle.clap.specs.Faults.{long_fault, settle_fault, turn_fault, walk_fault}
use Rattle.clap.specs.declared.error.kind.ErrorKind.TheVariants as kind
use Rattle.clap.specs.Lexer.{long_of}
use Rattle.clap.specs.Walk.{Held, Row, Text, arg_by_long, has_row, idle, nothing_held, option, positional, settled, walked}
use Rattle.run_words.specs.CommandLine.{AreTaken}
use Rattle.word_parts.specs.Laws.{AreInParts}
use Rattle.word_parts.specs.Parts.{AreParts, IsPart, OptionName, Part, cubes, generate, given_under, is_bare, joined, new_flag, option_text, part_values, part_words, round_every, script, shards, spaced, store, values_in, words_of}
use Rattle.word_parts.proofs.Looks.{entry, look}
use Rattle.word_parts.proofs.Steps.{Holds, at, behind, holds_flag, holds_joined, holds_script, holds_spaced, joined_word, option_word, resting, rules, shape, walks_flag, walks_joined, walks_option, walks_script, walks_value, with_flag, with_joined, with_option, with_script, with_spaced}
use Rattle.word_parts.proofs.Walks.{GiveOnce}
use Rattle.word_parts.proofs.WordKinds.{IsLong, IsNamed, IsShort, Named, an_option, filled, kinds, name_or_halves, named, the_flag, unknown}
use Rattle.word_parts.proofs.Refusals.{Passes, first_passes, long_passes, never_short, not_unknown, rest_passes, settled_by_flag, stuck, stuck_behind, then_passes, turn_passes}

-- ---- parts, by what was given before

pub record Cut (values : Text → List Text) (words : List Text) : Type 0 where
  pub parts : List Part
  pub behind : Option (List Text)
  pub are : words ≡ words_of parts behind
  pub good : AreParts parts
  pub once : GiveOnce values parts

more_cut : (values : Text → List Text) (part : Part) (rest : List Text) → IsPart part
    → Cut (λ name. values name ++ part_values name part) rest → Cut values (part_words part ++ rest)
more_cut values part rest good cut = record {
  parts = part ∷ cut.parts;
  behind = cut.behind;
  are = ap (λ (l : List Text). part_words part ++ l) cut.are;
  good = (good, cut.good);
  once = λ name other.
      let same = append_assoc (values name) (part_values name part) (values_in name cut.parts) in
      coe 0 1 (i. length (same i) ≤ 1) (cut.once name other);
}

-- What was given, one value more where there was none.
one_more_once : (values : Text → List Text) (own text : Text) → GiveOnce values [] → values own ≡ []
    → GiveOnce (λ name. values name ++ given_under own text name) []
one_more_once values own text once none name other = go (cases_Bool (bytes_eq own name))
  where
    go : (bytes_eq own name ≡ true) ⊎ (bytes_eq own name ≡ false)
        → length ((values name ++ given_under own text name) ++ []) ≤ 1
    go (inl same) =
        let equal = (bytes_eq-Decides own name).0 same in
        let empty : values name ≡ [] = sym (ap values equal) ∙ none in
        rw (same, empty) (omega arith)
    go (inr differs) =
        let before = once name other in
        rw (differs, append-nil (values name)) before

scripts_once : (values : Text → List Text) (text : Text) → GiveOnce values []
    → GiveOnce (λ name. values name ++ given_under (codes "scripts") text name) []
scripts_once values text once name other = go (cases_Bool (bytes_eq (codes "scripts") name))
  where
    go : (bytes_eq (codes "scripts") name ≡ true) ⊎ (bytes_eq (codes "scripts") name ≡ false)
        → length ((values name ++ given_under (codes "scripts") text name) ++ []) ≤ 1
    go (inl same) = absurd (other (sym ((bytes_eq-Decides (codes "scripts") name).0 same)))
    go (inr differs) =
        let before = once name other in
        rw (differs, append-nil (values name)) before

-- ---- a name that has no row

no_entry : (values : List Text) → entry values ≡ None → values ≡ []
no_entry [] is = refl
no_entry (v ∷ vs) is = absurd (none-some _ (sym is))

nothing_shown : (rows : List Row) (name : Text) → has_row name rows ≡ false → look rows name ≡ None
nothing_shown [] name none = refl
nothing_shown (r ∷ rs) name none = go (bytes_eq r.id name) refl none (nothing_shown rs name)
  where
    go : (b : Bool) → bytes_eq r.id name ≡ b → has_row name (r ∷ rs) ≡ false
        → (has_row name rs ≡ false → look rs name ≡ None) → look (r ∷ rs) name ≡ None
    go true is none later =
        let there : has_row name (r ∷ rs) ≡ true = rw is refl in
        absurd (true≢false (sym there ∙ none))
    go false is none later =
        let same : has_row name (r ∷ rs) ≡ has_row name rs = rw is refl in
        rw is (later (sym same ∙ none))

unused : (h : Held) (values : Text → List Text) (name : Text) → Holds h values
    → has_row name (settled rules h).rows ≡ false → values name ≡ []
unused h values name holds none =
    no_entry (values name) (sym (holds.shows name) ∙ nothing_shown (settled rules h).rows name none)

-- ---- a word more

-- Words behind a state of the walk are in parts.
abbrev pub AreCut : List Text → Type 0
AreCut words = (b : Bool) (h : Held) (values : Text → List Text) → AllByRecursion IsUtf8 words → Holds h values
    → GiveOnce values [] → Passes (at h (resting b)) words → Cut values words

unset : (name : OptionName) (h : Held) → settle_fault rules false (with_option name h) ≡ [] → ⊥
unset cubes h settles = filled _ _ settles
unset store h settles = filled _ _ settles
unset shards h settles = filled _ _ settles
unset round_every h settles = filled _ _ settles
unset generate h settles = filled _ _ settles

repeated : (name : OptionName) (text : Text) (h : Held)
    → has_row (option_text name) (settled rules h).rows ≡ true
    → settle_fault rules false (with_spaced name text h) ≡ [] → ⊥
repeated cubes text h there settles =
    let refused : settle_fault rules false (with_spaced cubes text h) ≡ kind.ArgumentConflict ∷ [] = rw there refl in
    filled _ _ (sym refused ∙ settles)
repeated store text h there settles =
    let refused : settle_fault rules false (with_spaced store text h) ≡ kind.ArgumentConflict ∷ [] = rw there refl in
    filled _ _ (sym refused ∙ settles)
repeated shards text h there settles =
    let refused : settle_fault rules false (with_spaced shards text h) ≡ kind.ArgumentConflict ∷ [] = rw there refl in
    filled _ _ (sym refused ∙ settles)
repeated round_every text h there settles =
    let refused : settle_fault rules false (with_spaced round_every text h) ≡ kind.ArgumentConflict ∷ [] = rw there refl in
    filled _ _ (sym refused ∙ settles)
repeated generate text h there settles =
    let refused : settle_fault rules false (with_spaced generate text h) ≡ kind.ArgumentConflict ∷ [] = rw there refl in
    filled _ _ (sym refused ∙ settles)

-- an option that was given is refused with a value behind `=`, and so is a flag that was given
joined_unused : (b : Bool) (name : OptionName) (text : Text) (h : Held)
    → turn_fault shape [] (at h (resting b)) (joined_word name text) ≡ [] → settle_fault rules false h ≡ []
    → has_row (option_text name) (settled rules h).rows ≡ false
joined_unused b name text h takes settles = go (cases_Bool (has_row (option_text name) (settled rules h).rows))
  where
    refused : (b : Bool) (name : OptionName) → has_row (option_text name) (settled rules h).rows ≡ true
        → turn_fault shape [] (at h (resting b)) (joined_word name text) ≡ kind.ArgumentConflict ∷ []
    refused true cubes there = rw (settles, there) refl
    refused true store there = rw (settles, there) refl
    refused true shards there = rw (settles, there) refl
    refused true round_every there = rw (settles, there) refl
    refused true generate there = rw (settles, there) refl
    refused false cubes there = rw (settles, there) refl
    refused false store there = rw (settles, there) refl
    refused false shards there = rw (settles, there) refl
    refused false round_every there = rw (settles, there) refl
    refused false generate there = rw (settles, there) refl

    go : (has_row (option_text name) (settled rules h).rows ≡ true)
        ⊎ (has_row (option_text name) (settled rules h).rows ≡ false)
        → has_row (option_text name) (settled rules h).rows ≡ false
    go (inr none) = none
    go (inl there) = absurd (filled _ _ (sym (refused b name there) ∙ takes))

flag_unused : (b : Bool) (h : Held) → turn_fault shape [] (at h (resting b)) (codes "--new") ≡ []
    → settle_fault rules false h ≡ [] → has_row (codes "new") (settled rules h).rows ≡ false
flag_unused b h takes settles = go (cases_Bool (has_row (codes "new") (settled rules h).rows))
  where
    refused : (b : Bool) → has_row (codes "new") (settled rules h).rows ≡ true
        → turn_fault shape [] (at h (resting b)) (codes "--new") ≡ kind.ArgumentConflict ∷ []
    refused true there = rw (settles, there) refl
    refused false there = rw (settles, there) refl

    go : (has_row (codes "new") (settled rules h).rows ≡ true) ⊎ (has_row (codes "new") (settled rules h).rows ≡ false)
        → has_row (codes "new") (settled rules h).rows ≡ false
    go (inr none) = none
    go (inl there) = absurd (filled _ _ (sym (refused b there) ∙ takes))

-- The words behind the next one are cut.
abbrev LaterAreCut : List Text → Type 0
LaterAreCut [] = Unit {0}
LaterAreCut (next ∷ more) = AreCut more

walks_to_behind : (h : Held) (name : OptionName)
    → walked rules [] (at (with_option name h) (option (option_text name))) (codes "--")
    ≡ behind (with_option name h) (option (option_text name))
unfolding walked
walks_to_behind h name = refl

option_cut : (name : OptionName) (rest : List Text) → LaterAreCut rest → (b : Bool) (h : Held)
    (values : Text → List Text) → AllByRecursion IsUtf8 rest → Holds h values → GiveOnce values []
    → Passes (at h (resting b)) (option_word name ∷ rest) → Cut values (option_word name ∷ rest)
option_cut name [] later b h values utf8 holds once passes =
    let after = rest_passes (at h (resting b)) (at (with_option name h) (option (option_text name))) (option_word name) []
    (walks_option b h name) passes
    in
    absurd (unset name h after.settles)
option_cut name (next ∷ more) later b h values utf8 holds once passes = at_kind (kinds next)
    (rest_passes (at h (resting b)) (at (with_option name h) (option (option_text name))) (option_word name) (next ∷ more)
    (walks_option b h name) passes)
  where
    at_bare : is_bare next ≡ true → Passes (at (with_spaced name next h) idle) more
        → (has_row (option_text name) (settled rules h).rows ≡ true)
        ⊎ (has_row (option_text name) (settled rules h).rows ≡ false)
        → Cut values (option_word name ∷ next ∷ more)
    at_bare bare then (inl there) =
        absurd (stuck false (with_spaced name next h) more utf8.1 holds.fresh (repeated name next h there) then)
    at_bare bare then (inr free) =
        let none = unused h values (option_text name) holds free in
        more_cut values (spaced name next) more bare
        (later false (with_spaced name next h) (λ other. values other ++ given_under (option_text name) next other)
        utf8.1 (holds_spaced h name next values holds none) (one_more_once values (option_text name) next once none) then)

    at_kind : (next ≡ codes "--") ⊎ (IsLong next ⊎ (IsShort next ⊎ (is_bare next ≡ true)))
        → Passes (at (with_option name h) (option (option_text name))) (next ∷ more)
        → Cut values (option_word name ∷ next ∷ more)
    at_kind (inl is) after =
        absurd (stuck_behind (with_option name h) (option (option_text name)) more (unset name h)
        (rest_passes (at (with_option name h) (option (option_text name)))
        (behind (with_option name h) (option (option_text name))) next more
        (ap (λ (t : Text). walked rules [] (at (with_option name h) (option (option_text name))) t) is
        ∙ walks_to_behind h name) after))
    at_kind (inr (inl long)) after =
        absurd (unset name h (settled_by_flag (option (option_text name)) (with_option name h) next long
        (turn_passes (at (with_option name h) (option (option_text name))) next more after)))
    at_kind (inr (inr (inl short))) after =
        absurd (never_short (option (option_text name)) (with_option name h) next utf8.0 holds.fresh short
        (turn_passes (at (with_option name h) (option (option_text name))) next more after))
    at_kind (inr (inr (inr bare))) after =
        at_bare bare (rest_passes (at (with_option name h) (option (option_text name)))
        (at (with_spaced name next h) idle) next more (walks_value h name next bare) after)
        (cases_Bool (has_row (option_text name) (settled rules h).rows))

joined_cut : (name : OptionName) (text : Text) (rest : List Text) → AreCut rest → (b : Bool) (h : Held)
    (values : Text → List Text) → AllByRecursion IsUtf8 rest → Holds h values → GiveOnce values []
    → Passes (at h (resting b)) (joined_word name text ∷ rest) → Cut values (joined_word name text ∷ rest)
joined_cut name text rest later b h values utf8 holds once passes =
    let free = joined_unused b name text h (turn_passes (at h (resting b)) (joined_word name text) rest passes) holds.settles in
    let none = unused h values (option_text name) holds free in
    more_cut values (joined name text) rest tt
    (later false (with_joined name text h) (λ other. values other ++ given_under (option_text name) text other) utf8
    (holds_joined h name text values holds none) (one_more_once values (option_text name) text once none)
    (rest_passes (at h (resting b)) (at (with_joined name text h) idle) (joined_word name text) rest
    (walks_joined b h name text) passes))

flag_cut : (rest : List Text) → AreCut rest → (b : Bool) (h : Held) (values : Text → List Text)
    → AllByRecursion IsUtf8 rest → Holds h values → GiveOnce values []
    → Passes (at h (resting b)) (codes "--new" ∷ rest) → Cut values (codes "--new" ∷ rest)
flag_cut rest later b h values utf8 holds once passes =
    let free = flag_unused b h (turn_passes (at h (resting b)) (codes "--new") rest passes) holds.settles in
    let none = unused h values (codes "new") holds free in
    more_cut values new_flag rest tt
    (later false (with_flag h) (λ other. values other ++ given_under (codes "new") (codes "true") other) utf8
    (holds_flag h values holds none) (one_more_once values (codes "new") (codes "true") once none)
    (rest_passes (at h (resting b)) (at (with_flag h) idle) (codes "--new") rest (walks_flag b h) passes))

script_cut : (word : Text) (rest : List Text) → is_bare word ≡ true → AreCut rest → (b : Bool) (h : Held)
    (values : Text → List Text) → AllByRecursion IsUtf8 rest → Holds h values → GiveOnce values []
    → Passes (at h (resting b)) (word ∷ rest) → Cut values (word ∷ rest)
script_cut word rest bare later b h values utf8 holds once passes =
    more_cut values (script word) rest bare
    (later true (with_script word h) (λ other. values other ++ given_under (codes "scripts") word other) utf8
    (holds_script h word values holds) (scripts_once values word once)
    (rest_passes (at h (resting b)) (at (with_script word h) positional) word rest (walks_script b h word bare) passes))

-- ---- any word

flag_takes_none : (name : Text) (text : Text) (h : Held) → name ≡ codes "new"
    → long_fault rules false (arg_by_long rules name) (Some text) h ≡ [] → ⊥
flag_takes_none name text h is passes =
    filled _ _ (coe 0 1 (i. long_fault rules false (arg_by_long rules (is i)) (Some text) h ≡ []) passes)

at_word : (word : Text) (rest : List Text) → AreCut rest → LaterAreCut rest → AreCut (word ∷ rest)
at_word word rest later twice b h values utf8 holds once passes = at_kind (kinds word)
  where
    in_form : (form : Text) → word ≡ form → (Passes (at h (resting b)) (form ∷ rest) → Cut values (form ∷ rest))
        → Cut values (word ∷ rest)
    in_form form is cut =
        subst (λ (t : Text). Cut values (t ∷ rest)) (sym is)
        (cut (subst (λ (t : Text). Passes (at h (resting b)) (t ∷ rest)) is passes))

    at_name : (byte : ℕ) (tail : Text) → word ≡ 45 ∷ 45 ∷ byte ∷ tail
        → long_fault rules false (arg_by_long rules (byte ∷ tail)) None h ≡ []
        → (kind : Named) → IsNamed (byte ∷ tail) kind → Cut values (word ∷ rest)
    at_name byte tail is fault (an_option name) equal =
        in_form (option_word name) (is ∙ ap (λ (t : Text). 45 ∷ 45 ∷ t) equal)
        (λ p. option_cut name rest twice b h values utf8.1 holds once p)
    at_name byte tail is fault the_flag equal =
        in_form (codes "--new") (is ∙ ap (λ (t : Text). 45 ∷ 45 ∷ t) equal)
        (λ p. flag_cut rest later b h values utf8.1 holds once p)
    at_name byte tail is fault unknown none = absurd (not_unknown (byte ∷ tail) None h none fault)

    at_joined : (byte : ℕ) (tail name text : Text) → word ≡ 45 ∷ 45 ∷ byte ∷ tail → byte ∷ tail ≡ name ++ 61 ∷ text
        → long_fault rules false (arg_by_long rules name) (Some text) h ≡ []
        → (kind : Named) → IsNamed name kind → Cut values (word ∷ rest)
    at_joined byte tail name text is cut fault (an_option own) equal =
        in_form (joined_word own text)
        (is ∙ ap (λ (t : Text). 45 ∷ 45 ∷ t) (cut ∙ ap (λ (t : Text). t ++ 61 ∷ text) equal))
        (λ p. joined_cut own text rest later b h values utf8.1 holds once p)
    at_joined byte tail name text is cut fault the_flag equal = absurd (flag_takes_none name text h equal fault)
    at_joined byte tail name text is cut fault unknown none = absurd (not_unknown name (Some text) h none fault)

    at_long : (byte : ℕ) (tail : Text) → word ≡ 45 ∷ 45 ∷ byte ∷ tail
        → turn_fault shape [] (at h (resting b)) (45 ∷ 45 ∷ byte ∷ tail) ≡ []
        → ((long_of (45 ∷ 45 ∷ byte ∷ tail) ≡ Some (byte ∷ tail, None))
        ⊎ ((name : Text) × (text : Text) × ((byte ∷ tail ≡ name ++ 61 ∷ text)
        × (long_of (45 ∷ 45 ∷ byte ∷ tail) ≡ Some (name, Some text)))))
        → Cut values (word ∷ rest)
    at_long byte tail is takes (inl name_is) =
        let found = named (byte ∷ tail) in
        at_name byte tail is (long_passes (resting b) h byte tail (byte ∷ tail) None name_is takes) found.0 found.1
    at_long byte tail is takes (inr cut) =
        let found = named cut.0 in
        at_joined byte tail cut.0 cut.1 is cut.2.0
        (long_passes (resting b) h byte tail cut.0 (Some cut.1) cut.2.1 takes) found.0 found.1

    at_kind : (word ≡ codes "--") ⊎ (IsLong word ⊎ (IsShort word ⊎ (is_bare word ≡ true))) → Cut values (word ∷ rest)
    at_kind (inl is) = record {
      parts = [];
      behind = Some rest;
      are = ap (λ (t : Text). t ∷ rest) is;
      good = tt;
      once = once;
    }
    at_kind (inr (inl long)) =
        at_long long.0 long.1 long.2
        (coe 0 1 (i. turn_fault shape [] (at h (resting b)) (long.2 i) ≡ []) (turn_passes (at h (resting b)) word rest passes))
        (name_or_halves long.0 long.1)
    at_kind (inr (inr (inl short))) =
        absurd (never_short (resting b) h word utf8.0 holds.fresh short (turn_passes (at h (resting b)) word rest passes))
    at_kind (inr (inr (inr bare))) = script_cut word rest bare later b h values utf8.1 holds once passes

-- ---- all words

cut_words : (words : List Text) → AreCut words
cut_words [] b h values utf8 holds once passes = record {
  parts = [];
  behind = None;
  are = refl;
  good = tt;
  once = once;
}
cut_words (word ∷ []) b h values utf8 holds once passes =
    at_word word [] (cut_words []) tt b h values utf8 holds once passes
cut_words (word ∷ next ∷ more) b h values utf8 holds once passes =
    at_word word (next ∷ more) (cut_words (next ∷ more)) (cut_words more) b h values utf8 holds once passes

nothing_once : 0 ≤ 1
nothing_once = omega arith

pub taken_in_parts : (words : List Text) → AllByRecursion IsUtf8 words → AreTaken words → AreInParts words
taken_in_parts words utf8 taken =
    let walk : walk_fault shape [] (at nothing_held (resting false)) words ≡ [] = first_passes _ _ taken in
    let pending : settle_fault rules false (fold (walked rules []) (at nothing_held (resting false)) words).held ≡ [] =
    first_passes _ _ (then_passes _ _ (then_passes _ _ taken)) in
    let never : GiveOnce (λ _. []) [] = λ name other. nothing_once in
    let cut = cut_words words false nothing_held (λ _. []) utf8
    (record { fresh = refl; settles = refl; shows = λ name. refl }) never
    (record { taken = walk; settles = pending })
    in
    record { parts = cut.parts; behind = cut.behind; are = cut.are; good = cut.good; once = cut.once }
