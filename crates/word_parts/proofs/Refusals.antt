-- What a walk that refuses nothing cannot have met.
use Rattle.std.proofs.Common.{◌≡◌, ◌∙◌, ◌⊎◌, inl, inr, ℕ, Bool, true, false, List, [], ◌∷◌, ◌++◌, length, Option, Some, None, refl, sym, ap, subst}
use Rattle.std.specs.Prelude.{codes, fold, slice_get}
use Rattle.std.specs.Str.{IsUtf8, bytes_eq, chars}
use Rattle.std.proofs.lemmas.Bool.{cases_Bool}
use Rattle.std.specs.List.{AllByRecursion}
use Rattle.std.specs.Option.{option_map_or}
use Rattle.std.proofs.lemmas.Option.{none-some}
use Rattle.std.proofs.lemmas.Slice.Eq.{bytes_eq-Decides}
use Rattle.clap.specs.declared.error.kind.ErrorKind.TheVariants as kind
use Rattle.clap.specs.Faults.{react_fault, bundle_fault, bundle_step_fault, flag_word_fault, flags_fault, long_fault, settle_fault, turn_fault, walk_fault, word_fault}
use Rattle.clap.specs.Kinds.{Kinds, or_else}
use Rattle.clap.specs.Lexer.{long_of, short_of}
use Rattle.clap.specs.Walk.{Held, Rule, Text, Waiting, Walk, arg_by_long, idle, option, positional, subcommand_met, takes_values, walked}
use Rattle.word_parts.specs.Parts.{is_bare}
use Rattle.word_parts.proofs.BareWords.{not_dashes, not_long, not_short}
use Rattle.word_parts.proofs.Steps.{at, behind, met_bare, never_both, resting, rules, shape, walks_dashes}
use Rattle.word_parts.proofs.WordKinds.{IsLong, IsShort, filled, kinds, name_or_halves, some_char}

pub first_passes : (a b : Kinds) → or_else a b ≡ [] → a ≡ []
first_passes [] b is = refl
first_passes (k ∷ ks) b is = absurd (filled k ks is)

pub then_passes : (a b : Kinds) → or_else a b ≡ [] → b ≡ []
then_passes [] b is = is
then_passes (k ∷ ks) b is = absurd (filled k ks is)

-- A walk refuses no word, and in the end nothing that is pending is refused.
pub record Passes (w : Walk) (words : List Text) : Type 0 where
  pub taken : walk_fault shape [] w words ≡ []
  pub settles : settle_fault rules false (fold (walked rules []) w words).held ≡ []

pub turn_passes : (w : Walk) (word : Text) (rest : List Text) → Passes w (word ∷ rest) → turn_fault shape [] w word ≡ []
unfolding walk_fault
turn_passes w word rest passes = first_passes _ _ passes.taken

pub rest_passes : (w next : Walk) (word : Text) (rest : List Text) → walked rules [] w word ≡ next
    → Passes w (word ∷ rest) → Passes next rest
unfolding walk_fault
rest_passes w next word rest walks passes = record {
  taken = coe 0 1 (i. walk_fault shape [] (walks i) rest ≡ []) (then_passes _ _ passes.taken);
  settles = coe 0 1 (i. settle_fault rules false (fold (walked rules []) (walks i) rest).held ≡ []) passes.settles;
}

-- ---- flags

no_subcommand : (waiting : Waiting) (word : Text) → subcommand_met [] waiting word ≡ None
no_subcommand idle word = refl
no_subcommand (option id) word = refl
no_subcommand positional word = refl

pub flag_passes : (waiting : Waiting) (h : Held) (word : Text) → bytes_eq word (45 ∷ 45 ∷ []) ≡ false
    → turn_fault shape [] (at h waiting) word ≡ [] → flag_word_fault rules false (long_of word) word h ≡ []
flag_passes waiting h word apart takes =
    let same : word_fault shape [] false waiting word h ≡ flag_word_fault rules false (long_of word) word h =
    rw (no_subcommand waiting word, apart) refl in
    let first : word_fault shape [] false waiting word h ≡ [] = first_passes _ _ takes in
    sym same ∙ first

-- an option or a flag by how it is used
abbrev long_use : Rule → Bool → Option Text → Held → Kinds
long_use a true None h = settle_fault rules false h
long_use a true (Some text) h = react_fault rules false a (text ∷ []) h
long_use a false None h = react_fault rules false a [] h
long_use a false (Some text) h = kind.TooManyValues ∷ []

long_is_use : (a : Rule) (text : Option Text) (h : Held) (b : Bool) → takes_values a ≡ b
    → long_fault rules false (Some a) text h ≡ long_use a b text h
long_is_use a None h true is = rw is refl
long_is_use a (Some text) h true is = rw is refl
long_is_use a None h false is = rw is refl
long_is_use a (Some text) h false is = rw is refl

settled_by_use : (a : Rule) (b : Bool) (text : Option Text) (h : Held) → long_use a b text h ≡ []
    → settle_fault rules false h ≡ []
settled_by_use a true None h passes = passes
settled_by_use a true (Some text) h passes = first_passes _ _ passes
settled_by_use a false None h passes = first_passes _ _ passes
settled_by_use a false (Some text) h passes = absurd (filled _ _ passes)

pub settled_by_long : (found : Option Rule) (text : Option Text) (h : Held) → long_fault rules false found text h ≡ []
    → settle_fault rules false h ≡ []
settled_by_long None text h passes = absurd (filled _ _ passes)
settled_by_long (Some a) text h passes =
    settled_by_use a (takes_values a) text h (sym (long_is_use a text h (takes_values a) refl) ∙ passes)

pub not_unknown : (name : Text) (text : Option Text) (h : Held) → arg_by_long rules name ≡ None
    → long_fault rules false (arg_by_long rules name) text h ≡ [] → ⊥
not_unknown name text h none passes =
    let refused : long_fault rules false None text h ≡ [] = coe 0 1 (i. long_fault rules false (none i) text h ≡ []) passes in
    filled _ _ refused

-- one hyphen begins no flag of the command
pub never_short : (waiting : Waiting) (h : Held) (word : Text) → IsUtf8 word → h.skip ≡ 0 → IsShort word
    → turn_fault shape [] (at h waiting) word ≡ [] → ⊥
unfolding flags_fault
never_short waiting h word utf8 fresh short takes =
    go (slice_get (chars (short.byte ∷ short.rest)) 0) refl
  where
    apart : bytes_eq word (45 ∷ 45 ∷ []) ≡ false
    apart = at_test (cases_Bool (bytes_eq word (45 ∷ 45 ∷ [])))
      where
        at_test : (bytes_eq word (45 ∷ 45 ∷ []) ≡ true) ⊎ (bytes_eq word (45 ∷ 45 ∷ []) ≡ false)
            → bytes_eq word (45 ∷ 45 ∷ []) ≡ false
        at_test (inr other) = other
        at_test (inl same) =
            let is = (bytes_eq-Decides word (45 ∷ 45 ∷ [])).0 same in
            absurd (none-some (short.byte ∷ short.rest) (sym (ap short_of is) ∙ short.short))

    bundle : bundle_fault rules false (short.byte ∷ short.rest) h ≡ []
    bundle =
        let flags = flag_passes waiting h word apart takes in
        let none = coe 0 1 (i. flag_word_fault rules false (short.not_long i) word h ≡ []) flags in
        coe 0 1 (i. option_map_or (λ t. bundle_fault rules false t h) (short.short i) [] ≡ []) none

    go : (first : Option ℕ) → slice_get (chars (short.byte ∷ short.rest)) 0 ≡ first → ⊥
    go None is = some_char short.byte short.rest (subst IsUtf8 short.is utf8) is
    go (Some c) is =
        let step = coe 0 1 (i. bundle_step_fault rules false (is i) (short.byte ∷ short.rest) (fresh i)
        (record h { skip = 0 }) (flags_fault rules false (length short.rest)) ≡ []) bundle
        in
        filled _ _ step

-- ---- what is pending is refused

-- a long word settles what is pending
pub long_passes : (waiting : Waiting) (h : Held) (byte : ℕ) (rest : Text) (name : Text) (text : Option Text)
    → long_of (45 ∷ 45 ∷ byte ∷ rest) ≡ Some (name, text)
    → turn_fault shape [] (at h waiting) (45 ∷ 45 ∷ byte ∷ rest) ≡ []
    → long_fault rules false (arg_by_long rules name) text h ≡ []
long_passes waiting h byte rest name text is takes =
    coe 0 1 (i. flag_word_fault rules false (is i) (45 ∷ 45 ∷ byte ∷ rest) h ≡ [])
    (flag_passes waiting h (45 ∷ 45 ∷ byte ∷ rest) refl takes)

pub settled_by_flag : (waiting : Waiting) (h : Held) (word : Text) → IsLong word
    → turn_fault shape [] (at h waiting) word ≡ [] → settle_fault rules false h ≡ []
settled_by_flag waiting h word long takes =
    go (name_or_halves long.0 long.1) (coe 0 1 (i. turn_fault shape [] (at h waiting) (long.2 i) ≡ []) takes)
  where
    go : ((long_of (45 ∷ 45 ∷ long.0 ∷ long.1) ≡ Some (long.0 ∷ long.1, None))
        ⊎ ((name : Text) × (text : Text) × ((long.0 ∷ long.1 ≡ name ++ 61 ∷ text)
        × (long_of (45 ∷ 45 ∷ long.0 ∷ long.1) ≡ Some (name, Some text)))))
        → turn_fault shape [] (at h waiting) (45 ∷ 45 ∷ long.0 ∷ long.1) ≡ [] → settle_fault rules false h ≡ []
    go (inl is) takes =
        settled_by_long (arg_by_long rules (long.0 ∷ long.1)) None h
        (long_passes waiting h long.0 long.1 (long.0 ∷ long.1) None is takes)
    go (inr cut) takes =
        settled_by_long (arg_by_long rules cut.0) (Some cut.1) h
        (long_passes waiting h long.0 long.1 cut.0 (Some cut.1) cut.2.1 takes)

bare_turn : (b : Bool) (h : Held) (word : Text) → is_bare word ≡ true
    → turn_fault shape [] (at h (resting b)) word ≡ settle_fault rules false h
bare_turn true h word bare =
    rw (met_bare true h word bare, not_dashes word bare, not_long word bare, not_short word bare, never_both h) refl
bare_turn false h word bare =
    rw (met_bare false h word bare, not_dashes word bare, not_long word bare, not_short word bare, never_both h) refl

pub stuck_behind : (h : Held) (waiting : Waiting) (words : List Text) → (settle_fault rules false h ≡ [] → ⊥)
    → Passes (behind h waiting) words → ⊥
stuck_behind h waiting [] refused passes = refused passes.settles
stuck_behind h waiting (word ∷ rest) refused passes =
    let turn : turn_fault shape [] (behind h waiting) word ≡ settle_fault rules false h = rw (never_both h) refl in
    refused (sym turn ∙ turn_passes (behind h waiting) word rest passes)

pub stuck : (b : Bool) (h : Held) (words : List Text) → AllByRecursion IsUtf8 words → h.skip ≡ 0
    → (settle_fault rules false h ≡ [] → ⊥) → Passes (at h (resting b)) words → ⊥
stuck b h [] utf8 fresh refused passes = refused passes.settles
stuck b h (word ∷ rest) utf8 fresh refused passes =
    at_kind (kinds word) (turn_passes (at h (resting b)) word rest passes)
  where
    at_kind : (word ≡ codes "--") ⊎ (IsLong word ⊎ (IsShort word ⊎ (is_bare word ≡ true)))
        → turn_fault shape [] (at h (resting b)) word ≡ [] → ⊥
    at_kind (inl is) takes =
        stuck_behind h (resting b) rest refused
        (rest_passes (at h (resting b)) (behind h (resting b)) word rest
        (ap (λ (t : Text). walked rules [] (at h (resting b)) t) is ∙ walks_dashes b h) passes)
    at_kind (inr (inl long)) takes =
        refused (settled_by_flag (resting b) h word long takes)
    at_kind (inr (inr (inl short))) takes = never_short (resting b) h word utf8.0 fresh short takes
    at_kind (inr (inr (inr bare))) takes = refused (sym (bare_turn b h word bare) ∙ takes)
