-- Each text in UTF-8 declares cubes or has a fault.
use Rattle.std.proofs.Common.{◌≡◌, ℕ, ◌+◌, ◌≤◌, cond, List, [], ◌∷◌, ◌++◌, length, Option, Some, None, refl, sym, ap, ◌∙◌, subst, inl, inr, ◌⊎◌, append_assoc, IsUtf8, arith}
use Rattle.std.specs.Prelude.{IsTrue, All}
use Rattle.std.specs.List.{list_any}
use Rattle.std.specs.Str.{bytes_eq}
use Rattle.std.proofs.lemmas.Bool.{cases_Bool, cases_lt}
use Rattle.std.proofs.lemmas.List.{append-nil, length-append}
use Rattle.std.proofs.lemmas.List.Elements.{All-nil, All-cons, filter_map-append}
use Rattle.cube_language.specs.declared.cubes_fault.CubesFault.TheVariants.{BadLine, DuplicateCube, TooManyCubes, Schema}
use Rattle.cube_language.specs.declared.cubes_fault.SchemaFault.{SchemaFault}
use Rattle.cube_language.specs.declared.decl.Decl.{Decl}
use Rattle.cube_language.specs.Cubes.{IsStorable, schema_fault, first_repeated}
use Rattle.cube_language.specs.CubesText.{Line, Skipped, Cube, Dim, Metric, IsLine, AreLines, MayFollow, AllFollow, HasLines, BeginsCube, is_cube, cube_name, cube_names, cubes_in, cubes_limit, word_lines}
use Rattle.cube_schema.specs.Reading.{line_in}
use Rattle.cube_schema.specs.Texts.{AnyCubes, AnyFault}
use Rattle.cube_schema.proofs.LineForms.{line_found, line_read}
use Rattle.cube_schema.proofs.Repeated.{repeated-push}

-- Words of lines are lines that may stand where they do.
record Lined (before : List Line) (words : List (List (List ℕ))) : Type 0 where
  pub lines : List Line
  pub forms : AreLines words lines
  pub order : AllFollow before lines

-- Among words of lines is a first bad line.
record Bad (before : List Line) (words : List (List (List ℕ))) : Type 0 where
  pub front : List (List (List ℕ))
  pub bad : List (List ℕ)
  pub behind : List (List (List ℕ))
  pub whole : words ≡ front ++ bad ∷ behind
  pub lines : List Line
  pub forms : AreLines front lines
  pub order : AllFollow before lines
  pub bars : (line : Line) → IsLine bad line → MayFollow (before ++ lines) line → ⊥

may_or_not : (before : List Line) (line : Line) → MayFollow before line ⊎ (MayFollow before line → ⊥)
may_or_not before Skipped = inl tt
may_or_not before (Cube name) = inl tt
may_or_not before (Dim d) = elim (cases_Bool (list_any is_cube before)) [ inl may ↦ inl may | inr bars ↦ inr (λ may. absurd cc) ]
may_or_not before (Metric name) = elim (cases_Bool (list_any is_cube before)) [ inl may ↦ inl may | inr bars ↦ inr (λ may. absurd cc) ]

bad_here : (before : List Line) (first : List (List ℕ)) (words : List (List (List ℕ))) → ((line : Line) → IsLine first line → MayFollow before line → ⊥) → Bad before (first ∷ words)
bad_here before first words bars =
    record { front = []; bad = first; behind = words; whole = refl; lines = []; forms = tt; order = tt; bars = λ line form may. bars line form (rw (append-nil before) at may) }

lines_more : (before : List Line) (line : Line) (first : List (List ℕ)) (words : List (List (List ℕ))) → IsLine first line → MayFollow before line → Lined (before ++ line ∷ []) words ⊎ Bad (before ++ line ∷ []) words → Lined before (first ∷ words) ⊎ Bad before (first ∷ words)
lines_more before line first words form may (inl l) = inl (record { lines = line ∷ l.lines; forms = (form, l.forms); order = (may, l.order) })
lines_more before line first words form may (inr b) =
    inr (record {
      front = first ∷ b.front;
      bad = b.bad;
      behind = b.behind;
      whole = ap (λ ws. first ∷ ws) b.whole;
      lines = line ∷ b.lines;
      forms = (form, b.forms);
      order = (may, b.order);
      bars = λ other is follows. b.bars other is (rw (append_assoc before (line ∷ []) b.lines) follows);
    })

same_line : (words : List (List ℕ)) (a b : Line) → line_in words ≡ Some a → IsLine words b → b ≡ a
same_line words a b read form =
    let other = line_read words b form in
    cc

lines_or_bad : (before : List Line) (words : List (List (List ℕ))) → Lined before words ⊎ Bad before words
lines_or_bad before [] = inl (record { lines = []; forms = tt; order = tt })
lines_or_bad before (first ∷ words) = by_form (line_in first) refl (λ line. lines_or_bad (before ++ line ∷ []) words)
  where
    by_form : (form : Option Line) → line_in first ≡ form → ((line : Line) → Lined (before ++ line ∷ []) words ⊎ Bad (before ++ line ∷ []) words) → Lined before (first ∷ words) ⊎ Bad before (first ∷ words)
    by_form None e more = inr (bad_here before first words (λ line form may. let read = line_read first line form in absurd cc))
    by_form (Some line) e more = elim (may_or_not before line) [
      | inl may ↦ lines_more before line first words (line_found first line e) may (more line)
      | inr bars ↦ inr (bad_here before first words (λ other form may. bars (subst (MayFollow before) (same_line first line other e form) may)))
    ]

-- A line begins a cube of a name that a line before it has.
record Repeats (lines : List Line) : Type 0 where
  pub before : List Line
  pub name : List ℕ
  pub number : ℕ
  pub begins : BeginsCube lines before name number
  pub apart : first_repeated (cube_names before) ≡ None
  pub again : IsTrue (list_any (bytes_eq name) (cube_names before))

-- A line begins a cube that is one too many.
record Exceeds (lines : List Line) : Type 0 where
  pub before : List Line
  pub name : List ℕ
  pub number : ℕ
  pub begins : BeginsCube lines before name number
  pub full : length (cube_names before) ≡ cubes_limit

-- Of lines these stand before others.
abbrev Parts : List Line → List Line → List Line → Type 0
Parts lines before behind = lines ≡ before ++ behind

parts_more : (lines before : List Line) (line : Line) (behind : List Line) → Parts lines before (line ∷ behind) → Parts lines (before ++ line ∷ []) behind
parts_more lines before line behind parts = parts ∙ sym (append_assoc before (line ∷ []) behind)

names-push : (before : List Line) (line : Line) → cube_names (before ++ line ∷ []) ≡ cube_names before ++ cube_names (line ∷ [])
names-push before line = filter_map-append cube_name before (line ∷ [])

begins_here : (lines before : List Line) (name : List ℕ) (behind : List Line) → Parts lines before (Cube name ∷ behind) → BeginsCube lines before name (length before + 1)
begins_here lines before name behind parts = record { behind = behind; whole = parts; place = refl }

names_or_repeats : (lines before behind : List Line) → Parts lines before behind → first_repeated (cube_names before) ≡ None → (first_repeated (cube_names lines) ≡ None) ⊎ Repeats lines
names_or_repeats lines before [] parts apart = inl (rw (parts ∙ append-nil before) apart)
names_or_repeats lines before (Skipped ∷ behind) parts apart =
    names_or_repeats lines (before ++ Skipped ∷ []) behind (parts_more lines before Skipped behind parts) (ap first_repeated (names-push before Skipped ∙ append-nil (cube_names before)) ∙ apart)
names_or_repeats lines before (Dim d ∷ behind) parts apart =
    names_or_repeats lines (before ++ Dim d ∷ []) behind (parts_more lines before (Dim d) behind parts) (ap first_repeated (names-push before (Dim d) ∙ append-nil (cube_names before)) ∙ apart)
names_or_repeats lines before (Metric name ∷ behind) parts apart =
    names_or_repeats lines (before ++ Metric name ∷ []) behind (parts_more lines before (Metric name) behind parts) (ap first_repeated (names-push before (Metric name) ∙ append-nil (cube_names before)) ∙ apart)
names_or_repeats lines before (Cube name ∷ behind) parts apart = elim (cases_Bool (list_any (bytes_eq name) (cube_names before))) [
  | inl again ↦ inr (record { before = before; name = name; number = length before + 1; begins = begins_here lines before name behind parts; apart = apart; again = again })
  | inr new ↦
      names_or_repeats lines (before ++ Cube name ∷ []) behind (parts_more lines before (Cube name) behind parts)
      (ap first_repeated (names-push before (Cube name)) ∙ repeated-push (cube_names before) name apart ∙ ap (λ b. cond b (Some name) None) new)
]

few_or_exceeds : (lines before behind : List Line) → Parts lines before behind → length (cube_names before) ≤ cubes_limit → (length (cube_names lines) ≤ cubes_limit) ⊎ Exceeds lines
few_or_exceeds lines before [] parts few = inl (rw (parts ∙ append-nil before) few)
few_or_exceeds lines before (Skipped ∷ behind) parts few =
    few_or_exceeds lines (before ++ Skipped ∷ []) behind (parts_more lines before Skipped behind parts) (rw (names-push before Skipped ∙ append-nil (cube_names before)) few)
few_or_exceeds lines before (Dim d ∷ behind) parts few =
    few_or_exceeds lines (before ++ Dim d ∷ []) behind (parts_more lines before (Dim d) behind parts) (rw (names-push before (Dim d) ∙ append-nil (cube_names before)) few)
few_or_exceeds lines before (Metric name ∷ behind) parts few =
    few_or_exceeds lines (before ++ Metric name ∷ []) behind (parts_more lines before (Metric name) behind parts) (rw (names-push before (Metric name) ∙ append-nil (cube_names before)) few)
few_or_exceeds lines before (Cube name ∷ behind) parts few = elim (cases_lt (length (cube_names before)) cubes_limit) [
  | inl below ↦
      let count = length-append (cube_names before) (name ∷ []) in
      few_or_exceeds lines (before ++ Cube name ∷ []) behind (parts_more lines before (Cube name) behind parts) (rw (names-push before (Cube name)) (omega (arith, count)))
  | inr above ↦ inr (record { before = before; name = name; number = length before + 1; begins = begins_here lines before name behind parts; full = omega arith })
]

-- Among cubes is a first that cannot be stored.
record Refuses (cubes : List Decl) : Type 0 where
  pub before : List Decl
  pub cube : Decl
  pub behind : List Decl
  pub fault : SchemaFault
  pub whole : cubes ≡ before ++ cube ∷ behind
  pub storable : All IsStorable before
  pub is : schema_fault cube ≡ Some fault

refuses_more : (d : Decl) (cubes : List Decl) → IsStorable d → All IsStorable cubes ⊎ Refuses cubes → All IsStorable (d ∷ cubes) ⊎ Refuses (d ∷ cubes)
refuses_more d cubes good (inl all) = inl (All-cons IsStorable d cubes good all)
refuses_more d cubes good (inr r) =
    inr (record { before = d ∷ r.before; cube = r.cube; behind = r.behind; fault = r.fault; whole = ap (λ ds. d ∷ ds) r.whole; storable = All-cons IsStorable d r.before good r.storable; is = r.is })

storable_or_refuses : (cubes : List Decl) → All IsStorable cubes ⊎ Refuses cubes
storable_or_refuses [] = inl (All-nil IsStorable)
storable_or_refuses (d ∷ cubes) = by_fault (schema_fault d) refl (storable_or_refuses cubes)
  where
    by_fault : (found : Option SchemaFault) → schema_fault d ≡ found → All IsStorable cubes ⊎ Refuses cubes → All IsStorable (d ∷ cubes) ⊎ Refuses (d ∷ cubes)
    by_fault None e more = refuses_more d cubes e more
    by_fault (Some fault) e more = inr (record { before = []; cube = d; behind = cubes; fault = fault; whole = refl; storable = All-nil IsStorable; is = e })

by_storable : (text : List ℕ) (lines : List Line) → HasLines text lines → first_repeated (cube_names lines) ≡ None → length (cube_names lines) ≤ cubes_limit → All IsStorable (cubes_in lines) ⊎ Refuses (cubes_in lines) → AnyCubes text ⊎ AnyFault text
by_storable text lines has apart few (inl all) = inl (cubes_in lines, record { lines = lines; formed = has; names = apart; few = few; are = refl; storable = all })
by_storable text lines has apart few (inr r) = inr (Schema r.cube.name r.fault, record { lines = lines; before = r.before; cube = r.cube; behind = r.behind; formed = has; apart = apart; few = few; whole = r.whole; storable = r.storable; named = refl; bad = r.is })

by_count : (text : List ℕ) (lines : List Line) → HasLines text lines → first_repeated (cube_names lines) ≡ None → (length (cube_names lines) ≤ cubes_limit) ⊎ Exceeds lines → AnyCubes text ⊎ AnyFault text
by_count text lines has apart (inl few) = by_storable text lines has apart few (storable_or_refuses (cubes_in lines))
by_count text lines has apart (inr e) = inr (TooManyCubes e.number, record { lines = lines; before = e.before; name = e.name; formed = has; apart = apart; begins = e.begins; full = e.full })

by_names : (text : List ℕ) (lines : List Line) → HasLines text lines → (first_repeated (cube_names lines) ≡ None) ⊎ Repeats lines → AnyCubes text ⊎ AnyFault text
by_names text lines has (inl apart) = by_count text lines has apart (few_or_exceeds lines [] lines refl (omega arith))
by_names text lines has (inr r) = inr (DuplicateCube r.number, record { lines = lines; before = r.before; name = r.name; formed = has; begins = r.begins; apart = r.apart; again = r.again })

pub text_view : (text : List ℕ) → IsUtf8 text → AnyCubes text ⊎ AnyFault text
text_view text utf8 = by_lines (lines_or_bad [] (word_lines text))
  where
    by_lines : Lined [] (word_lines text) ⊎ Bad [] (word_lines text) → AnyCubes text ⊎ AnyFault text
    by_lines (inl l) =
        let has : HasLines text l.lines = record { utf8 = utf8; forms = l.forms; order = l.order } in
        by_names text l.lines has (names_or_repeats l.lines [] l.lines refl refl)
    by_lines (inr b) =
        inr (BadLine (length b.front + 1), record { utf8 = utf8; before = b.front; words = b.bad; behind = b.behind; whole = b.whole; lines = b.lines; forms = b.forms; order = b.order; bad = b.bars; place = refl })
