-- What a walk that refused nothing comes to.
use Rattle.std.proofs.Common.{◌≡◌, ◌∙◌, ◌++◌, ◌||◌, ℕ, Bool, true, false, List, [], ◌∷◌, Option, Some, refl, ap, append-nil}
use Rattle.std.specs.Prelude.{codes, fold, option_and_then, option_map, slice_get, unwrap_or}
use Rattle.std.specs.List.{AllByRecursion}
use Rattle.std.specs.Option.{option_map_or}
use Rattle.std.specs.Str.{bytes_eq}
use Rattle.clap.specs.Facts.{explicit_source}
use Rattle.clap.specs.Faults.{default_fault, defaults_fault}
use Rattle.clap.specs.Takes.{is_given}
use Rattle.clap.specs.Walk.{Row, Rule, Text, all_of, first_of, has_row, is_empty, nothing_held, settled, walked, with_default}
use Rattle.clap.specs.declared.parser.matches.ValueSource.{ValueSource}
use Rattle.clap.specs.declared.parser.matches.ValueSource.TheVariants.{CommandLine, DefaultValue}
use Rattle.word_parts.specs.Laws.{AreReadAs}
use Rattle.word_parts.specs.Parts.{AreParts, Part, StandOnce, has_values, values_in, words_of}
use Rattle.word_parts.proofs.Looks.{Show, Shown, all_entry, all_shown, entry, first_entry, first_shown, given_shown, look, look_with_other, look_with_same, more, no_row, row_there}
use Rattle.word_parts.proofs.Steps.{at, flag_built, resting, rules}
use Rattle.word_parts.proofs.Walks.{Ends, all_values, parts_walk, scripts_under}

-- ---- defaults

or_true : (b : Bool) → (b || true) ≡ true
or_true true = refl
or_true false = refl

passes : (a : Rule) → is_empty a.defaults ≡ true → (rows : List Row) → default_fault rows a ≡ []
passes a none rows = rw (none, or_true (has_row a.id rows)) refl

flag_passes : (rows : List Row) → default_fault rows flag_built ≡ []
flag_passes rows = go (has_row (codes "new") rows) refl
  where
    go : (b : Bool) → has_row (codes "new") rows ≡ b → default_fault rows flag_built ≡ []
    go true is = rw is refl
    go false is = rw is refl

all_pass : (list : List Rule) → AllByRecursion (λ a. (rows : List Row) → default_fault rows a ≡ []) list
    → (rows : List Row) → defaults_fault rows list ≡ []
unfolding defaults_fault
all_pass [] each rows = refl
all_pass (a ∷ rest) each rows = rw (each.0 rows) (all_pass rest each.1 (with_default rows a))

rule_at : ℕ → Rule
rule_at i = unwrap_or (slice_get rules i) flag_built

pub defaults_pass : (rows : List Row) → defaults_fault rows rules ≡ []
unfolding rule_at
defaults_pass = all_pass rules (
  passes (rule_at 0) refl,
  (
    passes (rule_at 1) refl,
    (
      flag_passes,
      (passes (rule_at 3) refl, (passes (rule_at 4) refl, (passes (rule_at 5) refl, (passes (rule_at 6) refl, tt)))),
    ),
  ),
)

plain : (rows : List Row) (a : Rule) → is_empty a.defaults ≡ true → a.defaults ≡ [] → with_default rows a ≡ rows
plain rows a empty none = go (has_row a.id rows) refl
  where
    go : (b : Bool) → has_row a.id rows ≡ b → with_default rows a ≡ rows
    go true is = rw is refl
    go false is = rw (is, none) refl

-- The flag alone has a default.
pub one_default : (rows : List Row) → fold with_default rows rules ≡ with_default rows flag_built
unfolding rule_at
one_default rows =
    plain _ (rule_at 6) refl refl ∙ plain _ (rule_at 5) refl refl ∙ plain _ (rule_at 4) refl refl
    ∙ plain _ (rule_at 3) refl refl
    ∙ ap (λ (l : List Row). with_default l flag_built) (plain _ (rule_at 1) refl refl ∙ plain rows (rule_at 0) refl refl)

-- ---- what is given, by the values in the end

module _ (rows : List Row) (values : Text → List Text) (shows : Show rows values) where
  -- But for the flag nothing is given by a default.
  looks : (name : Text) → bytes_eq (codes "new") name ≡ false → look (fold with_default rows rules) name ≡ entry (values name)
  looks name other = ap (λ (l : List Row). look l name) (one_default rows) ∙ go (has_row (codes "new") rows) refl ∙ shows name
    where
      go : (b : Bool) → has_row (codes "new") rows ≡ b → look (with_default rows flag_built) name ≡ look rows name
      go true is = rw is refl
      go false is = rw is (look_with_other (codes "new") name _ DefaultValue (codes "false" ∷ []) rows other)

  pub first_given : (name : Text) → bytes_eq (codes "new") name ≡ false
      → first_of name (fold with_default rows rules) ≡ slice_get (values name) 0
  first_given name other =
      first_shown (fold with_default rows rules) name
      ∙ ap (λ (s : Shown). option_and_then (λ (p : List Text × Option ValueSource). slice_get p.0 0) s) (looks name other)
      ∙ first_entry (values name)

  pub all_given : (name : Text) → bytes_eq (codes "new") name ≡ false
      → unwrap_or (all_of name (fold with_default rows rules)) [] ≡ values name
  all_given name other =
      ap (λ (o : Option (List Text)). unwrap_or o []) (all_shown (fold with_default rows rules) name
      ∙ ap (λ (s : Shown). option_map (λ (p : List Text × Option ValueSource). p.0) s) (looks name other))
      ∙ all_entry (values name)

  pub flag_given : is_given (codes "new") (fold with_default rows rules) ≡ has_values (values (codes "new"))
  flag_given =
      ap (λ (l : List Row). is_given (codes "new") l) (one_default rows)
      ∙ given_shown (with_default rows flag_built) (codes "new")
      ∙ go (values (codes "new")) (shows (codes "new"))
    where
      go : (list : List Text) → look rows (codes "new") ≡ entry list
          → option_map_or (λ (p : List Text × Option ValueSource). explicit_source p.1)
          (look (with_default rows flag_built) (codes "new")) false ≡ has_values list
      go [] is =
          rw (no_row (codes "new") rows is)
          (ap (λ (s : Shown). option_map_or (λ (p : List Text × Option ValueSource). explicit_source p.1) s false)
          (look_with_same (codes "new") _ DefaultValue (codes "false" ∷ []) rows
          ∙ ap (λ (s : Shown). Some (more DefaultValue s (codes "false" ∷ []))) is))
      go (v ∷ vs) is =
          rw (row_there (codes "new") rows (v ∷ vs, Some CommandLine) is)
          (ap (λ (s : Shown). option_map_or (λ (p : List Text × Option ValueSource). explicit_source p.1) s false) is)

-- ---- scripts behind `--`

no_scripts_under : (name : Text) → bytes_eq (codes "scripts") name ≡ false → (scripts : List Text)
    → scripts_under name scripts ≡ []
no_scripts_under name other [] = refl
no_scripts_under name other (word ∷ rest) = rw other (no_scripts_under name other rest)

scripts_are : (scripts : List Text) → scripts_under (codes "scripts") scripts ≡ scripts
scripts_are [] = refl
scripts_are (word ∷ rest) = ap (λ (l : List Text). word ∷ l) (scripts_are rest)

option_values : (parts : List Part) (scripts : Option (List Text)) (name : Text) → bytes_eq (codes "scripts") name ≡ false
    → all_values (λ _. []) parts scripts name ≡ values_in name parts
option_values parts scripts name other =
    ap (λ (l : List Text). values_in name parts ++ l) (no_scripts_under name other (unwrap_or scripts []))
    ∙ append-nil (values_in name parts)

-- ---- all words

pub parts_are_read : (parts : List Part) (scripts : Option (List Text)) → AreParts parts → StandOnce parts
    → AreReadAs parts scripts
parts_are_read parts scripts are once =
    let words = words_of parts scripts in
    let values = all_values (λ _. []) parts scripts in
    let ends : Ends (at nothing_held (resting false)) (words_of parts scripts) (all_values (λ _. []) parts scripts) =
    parts_walk parts scripts false nothing_held (λ _. []) are (record { fresh = refl; settles = refl; shows = λ name. refl }) once in
    let last = (fold (walked rules []) (at nothing_held (resting false)) words).held in
    let rows = (settled rules last).rows in
    let shows = ends.holds.shows in
    let cubes = first_given rows values shows (codes "cubes") refl
    ∙ ap (λ (l : List Text). slice_get l 0) (option_values parts scripts (codes "cubes") refl) in
    let store = first_given rows values shows (codes "store") refl
    ∙ ap (λ (l : List Text). slice_get l 0) (option_values parts scripts (codes "store") refl) in
    let is_new = flag_given rows values shows
    ∙ ap (λ (l : List Text). has_values l) (option_values parts scripts (codes "new") refl) in
    let shards = first_given rows values shows (codes "shards") refl
    ∙ ap (λ (l : List Text). slice_get l 0) (option_values parts scripts (codes "shards") refl) in
    let round_every = first_given rows values shows (codes "round-every") refl
    ∙ ap (λ (l : List Text). slice_get l 0) (option_values parts scripts (codes "round-every") refl) in
    let generate = first_given rows values shows (codes "generate") refl
    ∙ ap (λ (l : List Text). slice_get l 0) (option_values parts scripts (codes "generate") refl) in
    let all_scripts = all_given rows values shows (codes "scripts") refl
    ∙ ap (λ (l : List Text). values_in (codes "scripts") parts ++ l) (scripts_are (unwrap_or scripts [])) in
    record {
      taken = rw (ends.running, ends.taken, ends.holds.settles, defaults_pass rows) refl;
      given = λ i. record {
        cubes = cubes i;
        store = store i;
        is_new = is_new i;
        shards = shards i;
        round_every = round_every i;
        generate = generate i;
        scripts = all_scripts i;
      };
    }
