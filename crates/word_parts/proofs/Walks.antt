-- A walk over the words of parts ends with what the parts give.
use Rattle.std.proofs.Common.{◌≡◌, ◌∙◌, ◌++◌, ◌≤◌, Bool, true, false, true≢false, List, [], ◌∷◌, length, Option, Some, None, refl, sym, ap, arith, append_assoc, append-nil}
use Rattle.std.specs.Prelude.{◌≢◌, codes, fold, unwrap_or}
use Rattle.std.specs.Str.{bytes_eq}
use Rattle.std.proofs.lemmas.List.{length-append}
use Rattle.std.proofs.lemmas.Slice.Eq.{bytes_eq-Decides}
use Rattle.clap.specs.Faults.{turn_fault, walk_fault}
use Rattle.clap.specs.Walk.{Held, Text, Waiting, Walk, idle, option, positional, walked}
use Rattle.word_parts.specs.Parts.{AreParts, OptionName, Part, cubes, generate, given_under, joined, new_flag, option_text, part_values, round_every, script, shards, spaced, store, values_in, words_of}
use Rattle.word_parts.proofs.Looks.{entry}
use Rattle.word_parts.proofs.Steps.{Holds, at, behind, holds_flag, holds_joined, holds_script, holds_spaced, resting, rules, shape, takes_behind, takes_dashes, takes_flag, takes_joined, takes_option, takes_script, takes_value, walks_behind, walks_dashes, walks_flag, walks_joined, walks_option, walks_script, walks_value, with_flag, with_joined, with_option, with_script, with_spaced}

-- A walk refuses no word, and in the end holds these values.
pub record Ends (w : Walk) (words : List Text) (values : Text → List Text) : Type 0 where
  pub taken : walk_fault shape [] w words ≡ []
  pub running : (fold (walked rules []) w words).stopped ≡ None
  pub holds : Holds (fold (walked rules []) w words).held values

-- One word, and then the rest.
one_word : (w next : Walk) (word : Text) (rest : List Text) (values : Text → List Text) → walked rules [] w word ≡ next
    → turn_fault shape [] w word ≡ [] → Ends next rest values → Ends w (word ∷ rest) values
unfolding walk_fault
one_word w next word rest values walks takes ends = record {
  taken = rw takes (coe 1 0 (i. walk_fault shape [] (walks i) rest ≡ []) ends.taken);
  running = coe 1 0 (i. (fold (walked rules []) (walks i) rest).stopped ≡ None) ends.running;
  holds = coe 1 0 (i. Holds (fold (walked rules []) (walks i) rest).held values) ends.holds;
}

same_holds : (h : Held) (values others : Text → List Text) → ((name : Text) → values name ≡ others name) → Holds h values
    → Holds h others
same_holds h values others same holds = record {
  fresh = holds.fresh;
  settles = holds.settles;
  shows = λ name. holds.shows name ∙ ap entry (same name);
}

same_ends : (w : Walk) (words : List Text) (values others : Text → List Text) → ((name : Text) → values name ≡ others name)
    → Ends w words values → Ends w words others
same_ends w words values others same ends = record {
  taken = ends.taken;
  running = ends.running;
  holds = same_holds _ values others same ends.holds;
}

-- What scripts give under a name.
abbrev pub scripts_under : Text → List Text → List Text
scripts_under name [] = []
scripts_under name (word ∷ rest) = given_under (codes "scripts") word name ++ scripts_under name rest

scripts_behind : (h : Held) (waiting : Waiting) (scripts : List Text) (values : Text → List Text) → Holds h values
    → Ends (behind h waiting) scripts (λ name. values name ++ scripts_under name scripts)
unfolding walk_fault
scripts_behind h waiting [] values holds = record {
  taken = refl;
  running = refl;
  holds = same_holds h values (λ name. values name ++ []) (λ name. sym (append-nil (values name))) holds;
}
scripts_behind h waiting (word ∷ rest) values holds =
    one_word (behind h waiting) (behind (with_script word h) positional) word rest
    (λ name. values name ++ scripts_under name (word ∷ rest)) (walks_behind h waiting word)
    (takes_behind h waiting word holds.settles)
    (same_ends (behind (with_script word h) positional) rest
    (λ name. (values name ++ given_under (codes "scripts") word name) ++ scripts_under name rest)
    (λ name. values name ++ scripts_under name (word ∷ rest))
    (λ name. append_assoc (values name) (given_under (codes "scripts") word name) (scripts_under name rest))
    (scripts_behind (with_script word h) positional rest
    (λ name. values name ++ given_under (codes "scripts") word name) (holds_script h word values holds)))

-- With what was given before, no option and no flag is given twice.
abbrev pub GiveOnce : (Text → List Text) → List Part → Type 0
GiveOnce values parts =
    (name : Text) → name ≢ codes "scripts" → length (values name ++ values_in name parts) ≤ 1

none_before : (before after : List Text) (text : Text) → length (before ++ text ∷ after) ≤ 1 → before ≡ []
none_before [] after text once = refl
none_before (x ∷ xs) after text once = absurd (omega (arith, once, length-append xs (text ∷ after)))

once_more : (values : Text → List Text) (part : Part) (rest : List Part) → GiveOnce values (part ∷ rest)
    → GiveOnce (λ name. values name ++ part_values name part) rest
once_more values part rest once name other =
    let same = append_assoc (values name) (part_values name part) (values_in name rest) in
    coe 1 0 (i. length (same i) ≤ 1) (once name other)

-- What parts, and scripts behind them, add to what was given before.
abbrev pub all_values : (Text → List Text) → List Part → Option (List Text) → Text → List Text
all_values values parts scripts name =
    values name ++ (values_in name parts ++ scripts_under name (unwrap_or scripts []))

more_values_in : (values : Text → List Text) (part : Part) (rest : List Part) (scripts : Option (List Text)) (name : Text)
    → all_values (λ other. values other ++ part_values other part) rest scripts name
    ≡ all_values values (part ∷ rest) scripts name
more_values_in values part rest scripts name =
    append_assoc (values name) (part_values name part) (values_in name rest ++ scripts_under name (unwrap_or scripts []))
    ∙ ap (λ (l : List Text). values name ++ l)
    (sym (append_assoc (part_values name part) (values_in name rest) (scripts_under name (unwrap_or scripts []))))

-- texts that the test tells apart
differ : (a b : Text) → bytes_eq a b ≡ false → a ≢ b
differ a b apart is = true≢false (sym ((bytes_eq-Decides a b).1 is) ∙ apart)

none_of_option : (name : OptionName) (text : Text) (values : Text → List Text) (rest : List Part)
    → ((other : Text) → other ≢ codes "scripts"
    → length (values other ++ (given_under (option_text name) text other ++ values_in other rest)) ≤ 1)
    → values (option_text name) ≡ []
none_of_option cubes text values rest once = none_before (values (option_text cubes)) (values_in (option_text cubes) rest) text
    (once (option_text cubes) (differ (option_text cubes) (codes "scripts") refl))
none_of_option store text values rest once = none_before (values (option_text store)) (values_in (option_text store) rest) text
    (once (option_text store) (differ (option_text store) (codes "scripts") refl))
none_of_option shards text values rest once = none_before (values (option_text shards)) (values_in (option_text shards) rest) text
    (once (option_text shards) (differ (option_text shards) (codes "scripts") refl))
none_of_option round_every text values rest once = none_before (values (option_text round_every)) (values_in (option_text round_every) rest) text
    (once (option_text round_every) (differ (option_text round_every) (codes "scripts") refl))
none_of_option generate text values rest once = none_before (values (option_text generate)) (values_in (option_text generate) rest) text
    (once (option_text generate) (differ (option_text generate) (codes "scripts") refl))

none_of_flag : (values : Text → List Text) (rest : List Part) → GiveOnce values (new_flag ∷ rest)
    → values (codes "new") ≡ []
none_of_flag values rest once =
    none_before (values (codes "new")) (values_in (codes "new") rest) (codes "true")
    (once (codes "new") (differ (codes "new") (codes "scripts") refl))

-- The walk over the words of parts.
pub parts_walk : (parts : List Part) (scripts : Option (List Text)) (b : Bool) (h : Held) (values : Text → List Text)
    → AreParts parts → Holds h values → GiveOnce values parts
    → Ends (at h (resting b)) (words_of parts scripts) (all_values values parts scripts)
unfolding walk_fault
parts_walk [] None b h values are holds once = record {
  taken = refl;
  running = refl;
  holds = same_holds h values (λ name. values name ++ []) (λ name. sym (append-nil (values name))) holds;
}
parts_walk [] (Some scripts) b h values are holds once =
    one_word (at h (resting b)) (behind h (resting b)) (codes "--") scripts
    (λ name. values name ++ scripts_under name scripts) (walks_dashes b h) (takes_dashes b h)
    (scripts_behind h (resting b) scripts values holds)
parts_walk (spaced name text ∷ rest) scripts b h values are holds once =
    let none = none_of_option name text values rest once in
    one_word (at h (resting b)) (at (with_option name h) (option (option_text name))) (codes "--" ++ option_text name)
    (text ∷ words_of rest scripts) (all_values values (spaced name text ∷ rest) scripts) (walks_option b h name)
    (takes_option b h name holds.settles)
    (one_word (at (with_option name h) (option (option_text name))) (at (with_spaced name text h) idle) text
    (words_of rest scripts) (all_values values (spaced name text ∷ rest) scripts) (walks_value h name text are.0)
    (takes_value h name text are.0)
    (same_ends (at (with_spaced name text h) idle) (words_of rest scripts)
    (all_values (λ other. values other ++ part_values other (spaced name text)) rest scripts)
    (all_values values (spaced name text ∷ rest) scripts) (more_values_in values (spaced name text) rest scripts)
    (parts_walk rest scripts false (with_spaced name text h)
    (λ other. values other ++ part_values other (spaced name text)) are.1 (holds_spaced h name text values holds none)
    (once_more values (spaced name text) rest once))))
parts_walk (joined name text ∷ rest) scripts b h values are holds once =
    let none = none_of_option name text values rest once in
    one_word (at h (resting b)) (at (with_joined name text h) idle)
    (codes "--" ++ (option_text name ++ (codes "=" ++ text))) (words_of rest scripts)
    (all_values values (joined name text ∷ rest) scripts) (walks_joined b h name text)
    (takes_joined b h name text values holds none)
    (same_ends (at (with_joined name text h) idle) (words_of rest scripts)
    (all_values (λ other. values other ++ part_values other (joined name text)) rest scripts)
    (all_values values (joined name text ∷ rest) scripts) (more_values_in values (joined name text) rest scripts)
    (parts_walk rest scripts false (with_joined name text h)
    (λ other. values other ++ part_values other (joined name text)) are.1 (holds_joined h name text values holds none)
    (once_more values (joined name text) rest once)))
parts_walk (new_flag ∷ rest) scripts b h values are holds once =
    let none = none_of_flag values rest once in
    one_word (at h (resting b)) (at (with_flag h) idle) (codes "--new") (words_of rest scripts)
    (all_values values (new_flag ∷ rest) scripts) (walks_flag b h) (takes_flag b h values holds none)
    (same_ends (at (with_flag h) idle) (words_of rest scripts)
    (all_values (λ other. values other ++ part_values other new_flag) rest scripts)
    (all_values values (new_flag ∷ rest) scripts) (more_values_in values new_flag rest scripts)
    (parts_walk rest scripts false (with_flag h) (λ other. values other ++ part_values other new_flag) are.1
    (holds_flag h values holds none) (once_more values new_flag rest once)))
parts_walk (script text ∷ rest) scripts b h values are holds once =
    one_word (at h (resting b)) (at (with_script text h) positional) text (words_of rest scripts)
    (all_values values (script text ∷ rest) scripts) (walks_script b h text are.0)
    (takes_script b h text are.0 holds.settles)
    (same_ends (at (with_script text h) positional) (words_of rest scripts)
    (all_values (λ other. values other ++ part_values other (script text)) rest scripts)
    (all_values values (script text ∷ rest) scripts) (more_values_in values (script text) rest scripts)
    (parts_walk rest scripts true (with_script text h)
    (λ other. values other ++ part_values other (script text)) are.1 (holds_script h text values holds)
    (once_more values (script text) rest once)))
