-- What rows show under a name, and how that changes with a use.
use Rattle.std.proofs.Common.{◌≡◌, ◌∙◌, ◌++◌, Bool, true, false, true≢false, List, [], ◌∷◌, Option, Some, None, refl, sym, ap, subst, append-nil}
use Rattle.std.specs.Prelude.{find, option_and_then, option_map, slice_get, unwrap_or}
use Rattle.std.specs.Option.{option_map_or}
use Rattle.clap.specs.Facts.{explicit_source}
use Rattle.clap.specs.Takes.{is_given}
use Rattle.std.specs.Str.{bytes_eq}
use Rattle.std.proofs.lemmas.Option.{none-some}
use Rattle.std.proofs.lemmas.Slice.Eq.{bytes_eq-Decides}
use Rattle.clap.specs.Walk.{Row, Text, all_of, first_of, has_row, stronger, with_values, without}
use Rattle.clap.specs.declared.builder.value_parser.Reading.{Reading}
use Rattle.clap.specs.declared.parser.matches.ValueSource.{ValueSource}
use Rattle.clap.specs.declared.parser.matches.ValueSource.TheVariants.{CommandLine}
use Rattle.word_parts.specs.Parts.{given_under}

-- The values under a name, and where they came from.
abbrev pub Shown : Type 0
Shown = Option (List Text × Option ValueSource)

abbrev pub row_shown : Row → List Text × Option ValueSource
row_shown r = (r.values, r.source)

abbrev pub look : List Row → Text → Shown
look rows name = option_map row_shown (find (λ r. bytes_eq r.id name) rows)

-- Values that stood among the words.
abbrev pub entry : List Text → Shown
entry [] = None
entry (v ∷ vs) = Some (v ∷ vs, Some CommandLine)

abbrev pub more : ValueSource → Shown → List Text → List Text × Option ValueSource
more source None values = (values, Some source)
more source (Some shown) values = (shown.0 ++ values, Some (stronger shown.1 source))

same : (name : Text) → bytes_eq name name ≡ true
same name = (bytes_eq-Decides name name).1 refl

pub look_with_same : (name : Text) (how : Reading) (source : ValueSource) (values : List Text) (rows : List Row)
    → look (with_values name how source values rows) name ≡ Some (more source (look rows name) values)
look_with_same name how source values [] = rw (same name) refl
look_with_same name how source values (r ∷ rs) = go (bytes_eq r.id name) refl (look_with_same name how source values rs)
  where
    go : (b : Bool) → bytes_eq r.id name ≡ b
        → look (with_values name how source values rs) name ≡ Some (more source (look rs name) values)
        → look (with_values name how source values (r ∷ rs)) name ≡ Some (more source (look (r ∷ rs) name) values)
    go true is later = rw (is, is) refl
    go false is later = rw (is, is) later

pub look_with_other : (name other : Text) (how : Reading) (source : ValueSource) (values : List Text) (rows : List Row)
    → bytes_eq name other ≡ false → look (with_values name how source values rows) other ≡ look rows other
look_with_other name other how source values [] differ = rw differ refl
look_with_other name other how source values (r ∷ rs) differ =
    go (bytes_eq r.id name) (bytes_eq r.id other) refl refl (look_with_other name other how source values rs differ)
  where
    go : (b c : Bool) → bytes_eq r.id name ≡ b → bytes_eq r.id other ≡ c
        → look (with_values name how source values rs) other ≡ look rs other
        → look (with_values name how source values (r ∷ rs)) other ≡ look (r ∷ rs) other
    go true true is also later =
        let equal = (bytes_eq-Decides r.id name).0 is in
        absurd (true≢false (sym also ∙ ap (λ (t : Text). bytes_eq t other) equal ∙ differ))
    go true false is also later = rw (is, also) refl
    go false true is also later = rw (is, also) refl
    go false false is also later = rw (is, also) later

pub look_without : (name other : Text) (rows : List Row) → look rows name ≡ None
    → look (without name rows) other ≡ look rows other
look_without name other [] none = refl
look_without name other (r ∷ rs) none =
    go (bytes_eq r.id name) (bytes_eq r.id other) refl refl (look_without name other rs) none
  where
    go : (b c : Bool) → bytes_eq r.id name ≡ b → bytes_eq r.id other ≡ c
        → (look rs name ≡ None → look (without name rs) other ≡ look rs other) → look (r ∷ rs) name ≡ None
        → look (without name (r ∷ rs)) other ≡ look (r ∷ rs) other
    go true c is also later none =
        let shown : look (r ∷ rs) name ≡ Some (row_shown r) = rw is refl in
        absurd (none-some (row_shown r) (sym none ∙ shown))
    go false true is also later none = rw (is, also) refl
    go false false is also later none =
        let rest : look (r ∷ rs) name ≡ look rs name = rw is refl in
        rw (is, also) (later (sym rest ∙ none))

-- Rows show the values that names have.
abbrev pub Show : List Row → (Text → List Text) → Type 0
Show rows values = (name : Text) → look rows name ≡ entry (values name)

more_entry : (before : List Text) (value : Text) → Some (more CommandLine (entry before) (value ∷ [])) ≡ entry (before ++ value ∷ [])
more_entry [] value = refl
more_entry (v ∷ vs) value = refl

-- One more value under a name.
pub shows_added : (name value : Text) (how : Reading) (rows : List Row) (values : Text → List Text) → Show rows values
    → Show (with_values name how CommandLine (value ∷ []) rows) (λ other. values other ++ given_under name value other)
shows_added name value how rows values shows other = go (bytes_eq name other) refl
  where
    go : (b : Bool) → bytes_eq name other ≡ b
        → look (with_values name how CommandLine (value ∷ []) rows) other ≡ entry (values other ++ given_under name value other)
    go true is =
        let equal = (bytes_eq-Decides name other).0 is in
        let at_name : look (with_values name how CommandLine (value ∷ []) rows) name ≡ entry (values name ++ value ∷ []) =
        look_with_same name how CommandLine (value ∷ []) rows
        ∙ ap (λ (s : Shown). Some (more CommandLine s (value ∷ []))) (shows name) ∙ more_entry (values name) value
        in
        rw is (subst (λ (t : Text). look (with_values name how CommandLine (value ∷ []) rows) t ≡ entry (values t ++ value ∷ [])) equal at_name)
    go false is =
        rw is (look_with_other name other how CommandLine (value ∷ []) rows is ∙ shows other
        ∙ ap entry (sym (append-nil (values other))))

-- The first value under a name.
pub shows_set : (name value : Text) (how : Reading) (rows : List Row) (values : Text → List Text) → Show rows values
    → values name ≡ []
    → Show (with_values name how CommandLine (value ∷ []) (without name rows)) (λ other. values other ++ given_under name value other)
shows_set name value how rows values shows none =
    let absent : look rows name ≡ None = shows name ∙ ap entry none in
    shows_added name value how (without name rows) values (λ other. look_without name other rows absent ∙ shows other)

-- A name without values has no row.
pub no_row : (name : Text) (rows : List Row) → look rows name ≡ None → has_row name rows ≡ false
no_row name [] none = refl
no_row name (r ∷ rs) none = go (bytes_eq r.id name) refl (no_row name rs) none
  where
    go : (b : Bool) → bytes_eq r.id name ≡ b → (look rs name ≡ None → has_row name rs ≡ false)
        → look (r ∷ rs) name ≡ None → has_row name (r ∷ rs) ≡ false
    go true is later none =
        let shown : look (r ∷ rs) name ≡ Some (row_shown r) = rw is refl in
        absurd (none-some (row_shown r) (sym none ∙ shown))
    go false is later none =
        let rest : look (r ∷ rs) name ≡ look rs name = rw is refl in
        rw is (later (sym rest ∙ none))

-- A name that shows something has a row.
pub row_there : (name : Text) (rows : List Row) (shown : List Text × Option ValueSource) → look rows name ≡ Some shown
    → has_row name rows ≡ true
row_there name [] shown is = absurd (none-some shown is)
row_there name (r ∷ rs) shown is = go (bytes_eq r.id name) refl (row_there name rs shown) is
  where
    go : (b : Bool) → bytes_eq r.id name ≡ b → (look rs name ≡ Some shown → has_row name rs ≡ true)
        → look (r ∷ rs) name ≡ Some shown → has_row name (r ∷ rs) ≡ true
    go true at later is = rw at refl
    go false at later is =
        let rest : look (r ∷ rs) name ≡ look rs name = rw at refl in
        rw at (later (sym rest ∙ is))

-- ---- what is read of rows, by what they show

pub first_shown : (rows : List Row) (name : Text) → first_of name rows ≡ option_and_then (λ s. slice_get s.0 0) (look rows name)
first_shown rows name = go (find (λ r. bytes_eq r.id name) rows)
  where
    go : (o : Option Row) → option_and_then (λ (r : Row). slice_get r.values 0) o
        ≡ option_and_then (λ (s : List Text × Option ValueSource). slice_get s.0 0) (option_map row_shown o)
    go None = refl
    go (Some r) = refl

pub all_shown : (rows : List Row) (name : Text) → all_of name rows ≡ option_map (λ s. s.0) (look rows name)
all_shown rows name = go (find (λ r. bytes_eq r.id name) rows)
  where
    go : (o : Option Row) → option_map (λ (r : Row). r.values) o
        ≡ option_map (λ (s : List Text × Option ValueSource). s.0) (option_map row_shown o)
    go None = refl
    go (Some r) = refl

pub given_shown : (rows : List Row) (name : Text)
    → is_given name rows ≡ option_map_or (λ s. explicit_source s.1) (look rows name) false
given_shown rows name = go (find (λ r. bytes_eq r.id name) rows)
  where
    go : (o : Option Row) → option_map_or (λ (r : Row). explicit_source r.source) o false
        ≡ option_map_or (λ (s : List Text × Option ValueSource). explicit_source s.1) (option_map row_shown o) false
    go None = refl
    go (Some r) = refl

pub first_entry : (values : List Text) → option_and_then (λ s. slice_get s.0 0) (entry values) ≡ slice_get values 0
first_entry [] = refl
first_entry (v ∷ vs) = refl

pub all_entry : (values : List Text) → unwrap_or (option_map (λ s. s.0) (entry values)) [] ≡ values
all_entry [] = refl
all_entry (v ∷ vs) = refl
