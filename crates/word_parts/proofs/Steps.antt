-- What a part does to clap's walk over the words.
use Rattle.std.proofs.Common.{◌≡◌, ◌∙◌, ◌++◌, ◌&&◌, Bool, true, false, List, [], ◌∷◌, Some, None, refl, ap}
use Rattle.std.specs.Prelude.{codes, unwrap_or}
use Rattle.clap.specs.Faults.{settle_fault, turn_fault}
use Rattle.clap.specs.Simple.{Shape, built, new_rule}
use Rattle.clap.specs.Walk.{Held, Rule, Step, Text, Waiting, Walk, after_step, arg_by_id, arg_by_index, has_row, idle, is_pending, option, positional, pushed, settled, used, value, walked, word_met}
use Rattle.run_words.specs.CommandLine.{command_line}
use Rattle.word_parts.specs.Parts.{OptionName, cubes, given_under, generate, is_bare, option_text, round_every, shards, store}
use Rattle.word_parts.proofs.BareWords.{not_dashes, not_long, not_short}
use Rattle.word_parts.proofs.Looks.{Show, entry, no_row, shows_added, shows_set}

abbrev pub shape : Shape
shape = (built command_line).top

abbrev pub rules : List Rule
rules = shape.rules

-- Between two parts nothing waits, or the scripts do.
abbrev pub resting : Bool → Waiting
resting true = positional
resting false = idle

abbrev pub at : Held → Waiting → Walk
at h waiting = record { held = h; waiting = waiting; position = 1; is_trailing = false; stopped = None }

abbrev pub behind : Held → Waiting → Walk
behind h waiting = record { held = h; waiting = waiting; position = 1; is_trailing = true; stopped = None }

-- What is held shows the values, once what is pending is settled, and that is not refused.
pub record Holds (h : Held) (values : Text → List Text) : Type 0 where
  pub fresh : h.skip ≡ 0
  pub settles : settle_fault rules false h ≡ []
  pub shows : Show (settled rules h).rows values

-- ---- a script

and_false : (b : Bool) → (b && false) ≡ false
and_false true = refl
and_false false = refl

abbrev pub with_script : Text → Held → Held
with_script word h = pushed (codes "scripts") word (settled rules h)

pub holds_script : (h : Held) (word : Text) (values : Text → List Text) → Holds h values
    → Holds (with_script word h) (λ name. values name ++ given_under (codes "scripts") word name)
holds_script h word values holds = record {
  fresh = holds.fresh;
  settles = refl;
  shows = shows_added (codes "scripts") word _ (settled rules h).rows values holds.shows;
}

pub met_bare : (b : Bool) (h : Held) (word : Text) → is_bare word ≡ true
    → word_met rules [] false (resting b) 1 word h ≡ (h, value)
met_bare true h word bare = rw (not_dashes word bare, not_long word bare, not_short word bare) refl
met_bare false h word bare = rw (not_dashes word bare, not_long word bare, not_short word bare) refl

pub never_both : (h : Held) → (is_pending (unwrap_or (arg_by_index rules 1) (new_rule [])) h.pending && false) ≡ false
never_both h = and_false _

pub walks_script : (b : Bool) (h : Held) (word : Text) → is_bare word ≡ true
    → walked rules [] (at h (resting b)) word ≡ at (with_script word h) positional
unfolding walked
walks_script b h word bare =
    ap (λ (met : Held × Step). after_step rules word (at h (resting b)) met.0 met.1) (met_bare b h word bare)
    ∙ rw (never_both h) refl

pub takes_script : (b : Bool) (h : Held) (word : Text) → is_bare word ≡ true → settle_fault rules false h ≡ []
    → turn_fault shape [] (at h (resting b)) word ≡ []
takes_script true h word bare settles =
    rw (met_bare true h word bare, not_dashes word bare, not_long word bare, not_short word bare, never_both h, settles) refl
takes_script false h word bare settles =
    rw (met_bare false h word bare, not_dashes word bare, not_long word bare, not_short word bare, never_both h, settles) refl

-- ---- a script behind `--`

pub walks_behind : (h : Held) (waiting : Waiting) (word : Text)
    → walked rules [] (behind h waiting) word ≡ behind (with_script word h) positional
unfolding walked
walks_behind h waiting word = rw (never_both h) refl

pub takes_behind : (h : Held) (waiting : Waiting) (word : Text) → settle_fault rules false h ≡ []
    → turn_fault shape [] (behind h waiting) word ≡ []
takes_behind h waiting word settles = rw (never_both h, settles) refl

-- ---- `--`

pub walks_dashes : (b : Bool) (h : Held) → walked rules [] (at h (resting b)) (codes "--") ≡ behind h (resting b)
unfolding walked
walks_dashes true h = refl
walks_dashes false h = refl

pub takes_dashes : (b : Bool) (h : Held) → turn_fault shape [] (at h (resting b)) (codes "--") ≡ []
takes_dashes true h = refl
takes_dashes false h = refl

-- ---- the flag

abbrev pub flag_built : Rule
flag_built = unwrap_or (arg_by_id rules (codes "new")) (new_rule [])

abbrev pub with_flag : Held → Held
with_flag h = record h { rows = used flag_built [] (settled rules h).rows; pending = None }

pub walks_flag : (b : Bool) (h : Held) → walked rules [] (at h (resting b)) (codes "--new") ≡ at (with_flag h) idle
unfolding walked
walks_flag true h = refl
walks_flag false h = refl

pub holds_flag : (h : Held) (values : Text → List Text) → Holds h values → values (codes "new") ≡ []
    → Holds (with_flag h) (λ name. values name ++ given_under (codes "new") (codes "true") name)
holds_flag h values holds none = record {
  fresh = holds.fresh;
  settles = refl;
  shows = shows_set (codes "new") (codes "true") _ (settled rules h).rows values holds.shows none;
}

pub takes_flag : (b : Bool) (h : Held) (values : Text → List Text) → Holds h values → values (codes "new") ≡ []
    → turn_fault shape [] (at h (resting b)) (codes "--new") ≡ []
takes_flag true h values holds none =
    rw (holds.settles, no_row (codes "new") (settled rules h).rows (holds.shows (codes "new") ∙ ap entry none)) refl
takes_flag false h values holds none =
    rw (holds.settles, no_row (codes "new") (settled rules h).rows (holds.shows (codes "new") ∙ ap entry none)) refl

-- ---- options

abbrev pub option_built : OptionName → Rule
option_built name = unwrap_or (arg_by_id rules (option_text name)) (new_rule [])

abbrev pub option_word : OptionName → Text
option_word name = codes "--" ++ option_text name

abbrev pub joined_word : OptionName → Text → Text
joined_word name text = codes "--" ++ (option_text name ++ (codes "=" ++ text))

abbrev pub with_joined : OptionName → Text → Held → Held
with_joined name text h =
    record h { rows = used (option_built name) (text ∷ []) (settled rules h).rows; pending = None }

abbrev pub with_option : OptionName → Held → Held
with_option name h = record (settled rules h) { pending = Some (option_text name, []) }

abbrev pub with_spaced : OptionName → Text → Held → Held
with_spaced name text h = pushed (option_text name) text (with_option name h)

none_yet : (h : Held) (name : OptionName) (values : Text → List Text) → Holds h values → values (option_text name) ≡ []
    → has_row (option_text name) (settled rules h).rows ≡ false
none_yet h name values holds none =
    no_row (option_text name) (settled rules h).rows (holds.shows (option_text name) ∙ ap entry none)

pub walks_joined : (b : Bool) (h : Held) (name : OptionName) (text : Text)
    → walked rules [] (at h (resting b)) (joined_word name text) ≡ at (with_joined name text h) idle
unfolding walked
walks_joined true h cubes text = refl
walks_joined true h store text = refl
walks_joined true h shards text = refl
walks_joined true h round_every text = refl
walks_joined true h generate text = refl
walks_joined false h cubes text = refl
walks_joined false h store text = refl
walks_joined false h shards text = refl
walks_joined false h round_every text = refl
walks_joined false h generate text = refl

pub takes_joined : (b : Bool) (h : Held) (name : OptionName) (text : Text) (values : Text → List Text) → Holds h values
    → values (option_text name) ≡ [] → turn_fault shape [] (at h (resting b)) (joined_word name text) ≡ []
takes_joined true h cubes text values holds none = rw (holds.settles, none_yet h cubes values holds none) refl
takes_joined true h store text values holds none = rw (holds.settles, none_yet h store values holds none) refl
takes_joined true h shards text values holds none = rw (holds.settles, none_yet h shards values holds none) refl
takes_joined true h round_every text values holds none = rw (holds.settles, none_yet h round_every values holds none) refl
takes_joined true h generate text values holds none = rw (holds.settles, none_yet h generate values holds none) refl
takes_joined false h cubes text values holds none = rw (holds.settles, none_yet h cubes values holds none) refl
takes_joined false h store text values holds none = rw (holds.settles, none_yet h store values holds none) refl
takes_joined false h shards text values holds none = rw (holds.settles, none_yet h shards values holds none) refl
takes_joined false h round_every text values holds none = rw (holds.settles, none_yet h round_every values holds none) refl
takes_joined false h generate text values holds none = rw (holds.settles, none_yet h generate values holds none) refl

pub holds_joined : (h : Held) (name : OptionName) (text : Text) (values : Text → List Text) → Holds h values
    → values (option_text name) ≡ []
    → Holds (with_joined name text h) (λ other. values other ++ given_under (option_text name) text other)
holds_joined h cubes text values holds none = record {
  fresh = holds.fresh;
  settles = refl;
  shows = shows_set (option_text cubes) text _ (settled rules h).rows values holds.shows none;
}
holds_joined h store text values holds none = record {
  fresh = holds.fresh;
  settles = refl;
  shows = shows_set (option_text store) text _ (settled rules h).rows values holds.shows none;
}
holds_joined h shards text values holds none = record {
  fresh = holds.fresh;
  settles = refl;
  shows = shows_set (option_text shards) text _ (settled rules h).rows values holds.shows none;
}
holds_joined h round_every text values holds none = record {
  fresh = holds.fresh;
  settles = refl;
  shows = shows_set (option_text round_every) text _ (settled rules h).rows values holds.shows none;
}
holds_joined h generate text values holds none = record {
  fresh = holds.fresh;
  settles = refl;
  shows = shows_set (option_text generate) text _ (settled rules h).rows values holds.shows none;
}

pub walks_option : (b : Bool) (h : Held) (name : OptionName)
    → walked rules [] (at h (resting b)) (option_word name) ≡ at (with_option name h) (option (option_text name))
unfolding walked
walks_option true h cubes = refl
walks_option true h store = refl
walks_option true h shards = refl
walks_option true h round_every = refl
walks_option true h generate = refl
walks_option false h cubes = refl
walks_option false h store = refl
walks_option false h shards = refl
walks_option false h round_every = refl
walks_option false h generate = refl

pub takes_option : (b : Bool) (h : Held) (name : OptionName) → settle_fault rules false h ≡ []
    → turn_fault shape [] (at h (resting b)) (option_word name) ≡ []
takes_option true h cubes settles = rw settles refl
takes_option true h store settles = rw settles refl
takes_option true h shards settles = rw settles refl
takes_option true h round_every settles = rw settles refl
takes_option true h generate settles = rw settles refl
takes_option false h cubes settles = rw settles refl
takes_option false h store settles = rw settles refl
takes_option false h shards settles = rw settles refl
takes_option false h round_every settles = rw settles refl
takes_option false h generate settles = rw settles refl

pub walks_value : (h : Held) (name : OptionName) (word : Text) → is_bare word ≡ true
    → walked rules [] (at (with_option name h) (option (option_text name))) word ≡ at (with_spaced name word h) idle
unfolding walked
walks_value h cubes word bare = rw (not_dashes word bare, not_long word bare, not_short word bare) refl
walks_value h store word bare = rw (not_dashes word bare, not_long word bare, not_short word bare) refl
walks_value h shards word bare = rw (not_dashes word bare, not_long word bare, not_short word bare) refl
walks_value h round_every word bare = rw (not_dashes word bare, not_long word bare, not_short word bare) refl
walks_value h generate word bare = rw (not_dashes word bare, not_long word bare, not_short word bare) refl

pub takes_value : (h : Held) (name : OptionName) (word : Text) → is_bare word ≡ true
    → turn_fault shape [] (at (with_option name h) (option (option_text name))) word ≡ []
takes_value h cubes word bare = rw (not_dashes word bare, not_long word bare, not_short word bare) refl
takes_value h store word bare = rw (not_dashes word bare, not_long word bare, not_short word bare) refl
takes_value h shards word bare = rw (not_dashes word bare, not_long word bare, not_short word bare) refl
takes_value h round_every word bare = rw (not_dashes word bare, not_long word bare, not_short word bare) refl
takes_value h generate word bare = rw (not_dashes word bare, not_long word bare, not_short word bare) refl

pub holds_spaced : (h : Held) (name : OptionName) (text : Text) (values : Text → List Text) → Holds h values
    → values (option_text name) ≡ []
    → Holds (with_spaced name text h) (λ other. values other ++ given_under (option_text name) text other)
holds_spaced h cubes text values holds none = record {
  fresh = holds.fresh;
  settles = rw (none_yet h cubes values holds none) refl;
  shows = shows_set (option_text cubes) text _ (settled rules h).rows values holds.shows none;
}
holds_spaced h store text values holds none = record {
  fresh = holds.fresh;
  settles = rw (none_yet h store values holds none) refl;
  shows = shows_set (option_text store) text _ (settled rules h).rows values holds.shows none;
}
holds_spaced h shards text values holds none = record {
  fresh = holds.fresh;
  settles = rw (none_yet h shards values holds none) refl;
  shows = shows_set (option_text shards) text _ (settled rules h).rows values holds.shows none;
}
holds_spaced h round_every text values holds none = record {
  fresh = holds.fresh;
  settles = rw (none_yet h round_every values holds none) refl;
  shows = shows_set (option_text round_every) text _ (settled rules h).rows values holds.shows none;
}
holds_spaced h generate text values holds none = record {
  fresh = holds.fresh;
  settles = rw (none_yet h generate values holds none) refl;
  shows = shows_set (option_text generate) text _ (settled rules h).rows values holds.shows none;
}
