-- What is found of an argument, by its row.
use Rattle.std.proofs.Common.{◌≡◌, ◌∙◌, Bool, false, Option, Some, None, refl, sym, ap}
use Rattle.std.specs.Prelude.{find, is_some, option_and_then, option_map}
use Rattle.std.specs.Option.{option_map_or}
use Rattle.std.specs.Str.{bytes_eq}
use Rattle.std.proofs.lemmas.Option.{none-some}
use Rattle.clap.specs.Facts.{Entry, explicit_source}
use Rattle.clap.specs.Matches.{matched_of}
use Rattle.clap.specs.Takes.{is_given}
use Rattle.clap.specs.Walk.{Row, Text, row_of, rows_of}
use Rattle.clap.specs.declared.parser.matches.Found.{Found}
use Rattle.clap.specs.declared.parser.matches.ValueSource.{ValueSource}
use Rattle.clap.proofs.WalkLemmas.{find_row}

abbrev entry_of : Found → Text → Option Entry
entry_of found id = find (λ e. bytes_eq e.0.now id) found.entries.items

abbrev is_given_entry : Option Entry → Bool
is_given_entry entry = option_map_or (λ r. explicit_source r.source) (option_map row_of entry) false

given_by_entry : (found : Found) (id : Text) → is_given id (rows_of found) ≡ is_given_entry (entry_of found id)
given_by_entry found id =
    ap (λ (o : Option Row). option_map_or (λ r. explicit_source r.source) o false) (find_row found.entries.items id)

-- Where the source of an argument is known, that says whether it was given.
pub given_by_source : (found : Found) (id : Text) (source : ValueSource)
    → option_and_then (λ a. a.source) (matched_of found id) ≡ Some source
    → explicit_source (Some source) ≡ is_given id (rows_of found)
given_by_source found id source is = at_entry (entry_of found id) is ∙ sym (given_by_entry found id)
  where
    at_entry : (entry : Option Entry) → option_and_then (λ a. a.source) (option_map (λ e. e.1) entry) ≡ Some source
        → explicit_source (Some source) ≡ is_given_entry entry
    at_entry None is = absurd (none-some source is)
    at_entry (Some e) is = ap explicit_source (sym is)

-- Where it has none, the argument was given where it has an entry.
pub given_without_source : (found : Found) (id : Text) → option_and_then (λ a. a.source) (matched_of found id) ≡ None
    → is_some (matched_of found id) ≡ is_given id (rows_of found)
given_without_source found id is = at_entry (entry_of found id) is ∙ sym (given_by_entry found id)
  where
    at_entry : (entry : Option Entry) → option_and_then (λ a. a.source) (option_map (λ e. e.1) entry) ≡ None
        → is_some (option_map (λ e. e.1) entry) ≡ is_given_entry entry
    at_entry None is = refl
    at_entry (Some e) is = ap explicit_source (sym is)
