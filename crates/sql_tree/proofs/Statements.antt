-- What reading says of the forms of statements.
use Rattle.std.proofs.Common.{◌≡◌, ℕ, ◌-◌, ◌+◌, ◌≤◌, ◌⊎◌, inl, inr, List, [], ◌∷◌, ◌++◌, length, take, drop, Ok, Err, refl, sym, ap, subst, ◌∙◌, append_assoc, arith}
use Rattle.std.proofs.lemmas.List.{append-nil, length-append, length-map, map-append, take-append-drop, take-map, drop-map, take_at, drop_at}
use Rattle.cube_language.specs.declared.statement.Statement.{Statement}
use Rattle.cube_language.specs.declared.token.Token.{Token}
use Rattle.cube_language.specs.Grammar.{IsFormOf, IsProper, Spells}
use Rattle.cube_language.specs.declared.symbol.Symbol.{Symbol}
use Rattle.cube_language.specs.Symbols.{symbol_of, symbols_of}
use Rattle.cube_language.specs.Syntax.{IsForm, CanBegin, GoesWrongAt, GoesWrong}
use Rattle.cube_language.specs.Tokens.{AreTokens, fault_at}
use Rattle.sql_tree.specs.Laws.{AnyStatement, AnySyntaxFault}
use Rattle.sql_tree.specs.Reading.{Readout, ◌>>=◌, ended, read_begun, read_statement}
use Rattle.sql_words.specs.Laws.{AnyTokens, AnyTokenFault}
use Rattle.sql_tree.specs.Places.{first_place}
use Rattle.sql_tree.proofs.Readers.{given, Tells, IsLocal, stuck}
use Rattle.sql_tree.proofs.StatementReaders.{HasForm, statement_reader}

-- what has a form is read
pub form_is_read : (s : Statement) (symbols : List Symbol) → HasForm s symbols → read_statement symbols ≡ Ok (s, [])
form_is_read s symbols f = ap read_statement (sym (append-nil symbols)) ∙ statement_reader.again s symbols [] f refl

abbrev alone : Statement → Statement × List Symbol
alone s = (s, [])

-- symbols are a form of one statement
pub form_is_one : (a b : Statement) (symbols : List Symbol) → HasForm a symbols → HasForm b symbols → a ≡ b
form_is_one a b symbols f g =
    let pairs : given a [] ≡ given b [] = sym (form_is_read a symbols f) ∙ form_is_read b symbols g in
    let same : alone a ≡ alone b = cc in
    ap (λ (z : Statement × List Symbol). z.0) same

tells_whole : (symbols : List Symbol) (r : Readout Statement) → Tells read_statement HasForm symbols r → (s : Statement) → r ≡ Ok (s, []) → HasForm s symbols
tells_whole symbols (Ok x) t s e =
    let same : x.0 ≡ s = let pair : x ≡ (s, []) = cc in ap (λ (z : Statement × List Symbol). z.0) pair in
    let none : x.1 ≡ [] = let pair : x ≡ (s, []) = cc in ap (λ (z : Statement × List Symbol). z.1) pair in
    let whole : symbols ≡ t.front = t.whole ∙ ap (λ rest. t.front ++ rest) none ∙ append-nil t.front in
    subst (λ front. HasForm s front) (sym whole) (subst (λ (u : Statement). HasForm u t.front) same t.form)
tells_whole symbols (Err left) t s e = absurd cc

-- what is read has its form
pub read_has_form : (symbols : List Symbol) (s : Statement) → read_statement symbols ≡ Ok (s, []) → HasForm s symbols
read_has_form symbols s e = tells_whole symbols (read_statement symbols) (statement_reader.tells symbols) s e

-- No statement goes on so: the symbols are none yet where they end, or none goes on with the next.
abbrev pub IsWrong : List Symbol → List Symbol → Type 0
IsWrong front [] = IsForm front → ⊥
IsWrong front (symbol ∷ symbols) = CanBegin (front ++ symbol ∷ []) → ⊥

-- Where reading stops, the symbols go wrong.
pub record StopsThere (symbols : List Symbol) (left : ℕ) : Type 0 where
  pub front : List Symbol
  pub rest : List Symbol
  pub whole : symbols ≡ front ++ rest
  pub left_is : left ≡ length rest
  pub begins : CanBegin front
  pub wrong : IsWrong front rest

is_wrong : (front rest : List Symbol) → IsLocal read_statement front rest stuck → read_statement (front ++ rest) ≡ Err (length rest) → IsWrong front rest
is_wrong front [] local e = λ form.
    let there = form_is_read form.0 front (record { proper = form.1; form = form.2 }) in
    let here : read_statement front ≡ Err 0 = ap read_statement (sym (append-nil front)) ∙ e in
    let both : given form.0 [] ≡ Err 0 = sym there ∙ here in
    cc
is_wrong front (symbol ∷ symbols) local e = λ begins.
    let whole = (front ++ symbol ∷ []) ++ begins.more in
    let there = form_is_read begins.statement whole (record { proper = begins.proper; form = begins.form }) in
    let here : read_statement whole ≡ stuck (symbol ∷ begins.more) = ap read_statement (append_assoc front (symbol ∷ []) begins.more) ∙ local symbol symbols begins.more refl in
    let both : given begins.statement [] ≡ stuck (symbol ∷ begins.more) = sym there ∙ here in
    cc

tells_stop : (symbols : List Symbol) (r : Readout Statement) → read_statement symbols ≡ r → Tells read_statement HasForm symbols r → (left : ℕ) → r ≡ Err left → StopsThere symbols left
tells_stop symbols (Ok x) is t left e = absurd cc
tells_stop symbols (Err n) is t left e =
    let same : n ≡ left = cc in
    record {
      front = t.front;
      rest = t.rest;
      whole = t.whole;
      left_is = sym same ∙ t.left_is;
      begins = record { statement = t.value; proper = t.form.proper; more = t.more; form = t.form.form };
      wrong = is_wrong t.front t.rest t.local (ap read_statement (sym t.whole) ∙ is ∙ ap (λ (k : ℕ). Err k) t.left_is);
    }

pub stops_there : (symbols : List Symbol) (left : ℕ) → read_statement symbols ≡ Err left → StopsThere symbols left
stops_there symbols left e = tells_stop symbols (read_statement symbols) refl (statement_reader.tells symbols) left e

-- ---- the place of what is left

wrong_at : (text : List ℕ) (front rest : List Token) (at : ℕ) → IsWrong (symbols_of text front) (symbols_of text rest) → at ≡ first_place text rest → GoesWrongAt text front rest at
wrong_at text front [] at wrong e = (wrong, e)
wrong_at text front (t ∷ ts) at wrong e = (subst (λ (symbols : List Symbol). CanBegin symbols → ⊥) (sym (map-append (symbol_of text) front (t ∷ []))) wrong, e)

-- what is left of the symbols is what those of the tokens say that are left
pub goes_wrong : (text : List ℕ) (tokens : List Token) (left at : ℕ) → AreTokens text tokens → read_statement (symbols_of text tokens) ≡ Err left → at ≡ first_place text (drop (length tokens - left) tokens) → GoesWrong text at
goes_wrong text tokens left at are e place =
    let stop = stops_there (symbols_of text tokens) left e in
    let k = length stop.front in
    let count : length tokens ≡ k + length stop.rest = sym (length-map tokens (symbol_of text)) ∙ ap length stop.whole ∙ length-append stop.front stop.rest in
    let there : length tokens - left ≡ k = omega (arith, stop.left_is) in
    let front : symbols_of text (take k tokens) ≡ stop.front = sym (take-map (symbol_of text) k tokens) ∙ ap (take k) stop.whole ∙ take_at stop.front stop.rest k refl in
    let rest : symbols_of text (drop k tokens) ≡ stop.rest = sym (drop-map (symbol_of text) k tokens) ∙ ap (drop k) stop.whole ∙ drop_at stop.front stop.rest k refl in
    record {
      front = take k tokens;
      rest = drop k tokens;
      tokens = subst (AreTokens text) (sym (take-append-drop k tokens)) are;
      begins = subst CanBegin (sym front) stop.begins;
      wrong = wrong_at text (take k tokens) (drop k tokens) at (rw (front, rest) stop.wrong) (place ∙ ap (λ n. first_place text (drop n tokens)) there);
    }

-- ---- the laws, where a text has one list of tokens at most

pub one_statement : (text : List ℕ) (a b : Statement) → ((ts us : List Token) → AreTokens text ts → AreTokens text us → ts ≡ us) → Spells text a → Spells text b → a ≡ b
one_statement text a b one x y =
    let same : y.tokens ≡ x.tokens = one y.tokens x.tokens y.are x.are in
    form_is_one a b (symbols_of text x.tokens) (record { proper = x.proper; form = x.form }) (record { proper = y.proper; form = subst (λ ts. IsFormOf b (symbols_of text ts)) same y.form })

-- a front of what can begin a statement can begin one
shorter_begins : (front more : List Symbol) → CanBegin (front ++ more) → CanBegin front
shorter_begins front more begins = record {
  statement = begins.statement;
  proper = begins.proper;
  more = more ++ begins.more;
  form = subst (λ symbols. IsFormOf begins.statement symbols) (append_assoc front more begins.more) begins.form;
}

next_begins : (text : List ℕ) (front : List Token) (t : Token) (more : List Token) → CanBegin (symbols_of text (front ++ t ∷ more)) → CanBegin (symbols_of text (front ++ t ∷ []))
next_begins text front t more begins =
    let regrouped : symbols_of text (front ++ t ∷ more) ≡ symbols_of text (front ++ t ∷ []) ++ symbols_of text more = ap (symbols_of text) (sym (append_assoc front (t ∷ []) more)) ∙ map-append (symbol_of text) (front ++ t ∷ []) more in
    shorter_begins (symbols_of text (front ++ t ∷ [])) (symbols_of text more) (subst CanBegin regrouped begins)

-- a form begins with all of itself
whole_begins : (s : Statement) (symbols : List Symbol) → IsProper s → IsFormOf s symbols → CanBegin symbols
whole_begins s symbols p f = record { statement = s; proper = p; more = []; form = subst (λ front. IsFormOf s front) (sym (append-nil symbols)) f }

no_statement : (text : List ℕ) (at : ℕ) (s : Statement) (front rest : List Token) → IsFormOf s (symbols_of text (front ++ rest)) → IsProper s → GoesWrongAt text front rest at → ⊥
no_statement text at s front [] f p wrong = wrong.0 (s, p, subst (λ ts. IsFormOf s (symbols_of text ts)) (append-nil front) f)
no_statement text at s front (t ∷ rest) f p wrong = wrong.0 (next_begins text front t rest (whole_begins s (symbols_of text (front ++ t ∷ rest)) p f))

pub spells_none : (text : List ℕ) (s : Statement) (at : ℕ) → ((ts us : List Token) → AreTokens text ts → AreTokens text us → ts ≡ us) → Spells text s → GoesWrong text at → ⊥
spells_none text s at one x w =
    no_statement text at s w.front w.rest (subst (λ ts. IsFormOf s (symbols_of text ts)) (one x.tokens (w.front ++ w.rest) x.are w.tokens) x.form) x.proper w.wrong

same_place : (text : List ℕ) (front rest : List Token) (a b : ℕ) → GoesWrongAt text front rest a → GoesWrongAt text front rest b → a ≡ b
same_place text front [] a b v w = v.1 ∙ sym w.1
same_place text front (t ∷ rest) a b v w = v.1 ∙ sym w.1

-- two parts of one list: the fronts are one, or one goes on where the other ends
data AreCuts (front rest front' rest' : List Token) : Type 0 where
  Same : front ≡ front' → rest ≡ rest' → AreCuts front rest front' rest'
  Later : (t : Token) (more behind : List Token) → front' ≡ front ++ t ∷ more → rest ≡ t ∷ behind → AreCuts front rest front' rest'
  Earlier : (t : Token) (more behind : List Token) → front ≡ front' ++ t ∷ more → rest' ≡ t ∷ behind → AreCuts front rest front' rest'

cuts_more : (t : Token) (front rest front' rest' : List Token) → AreCuts front rest front' rest' → AreCuts (t ∷ front) rest (t ∷ front') rest'
cuts_more t front rest front' rest' (Same e f) = Same (ap (λ ts. t ∷ ts) e) f
cuts_more t front rest front' rest' (Later u more behind e f) = Later u more behind (ap (λ ts. t ∷ ts) e) f
cuts_more t front rest front' rest' (Earlier u more behind e f) = Earlier u more behind (ap (λ ts. t ∷ ts) e) f

cuts : (front rest front' rest' : List Token) → front ++ rest ≡ front' ++ rest' → AreCuts front rest front' rest'
cuts [] rest [] rest' e = Same refl e
cuts [] rest (t ∷ front') rest' e = Later t front' (front' ++ rest') refl e
cuts (t ∷ front) rest [] rest' e = Earlier t front (front ++ rest) refl (sym e)
cuts (t ∷ front) rest (u ∷ front') rest' e =
    let same : t ≡ u = cc in
    let behind : front ++ rest ≡ front' ++ rest' = cc in
    subst (λ v. AreCuts (t ∷ front) rest (v ∷ front') rest') same (cuts_more t front rest front' rest' (cuts front rest front' rest' behind))

-- a text goes wrong no later than where it goes wrong
no_later : (text : List ℕ) (front rest front' : List Token) (a : ℕ) (t : Token) (more behind : List Token) → GoesWrongAt text front rest a → front' ≡ front ++ t ∷ more → rest ≡ t ∷ behind → CanBegin (symbols_of text front') → ⊥
no_later text front rest front' a t more behind wrong e f begins =
    let there : GoesWrongAt text front (t ∷ behind) a = subst (λ ts. GoesWrongAt text front ts a) f wrong in
    there.0 (next_begins text front t more (subst (λ ts. CanBegin (symbols_of text ts)) e begins))

pub one_place : (text : List ℕ) (a b : ℕ) → ((ts us : List Token) → AreTokens text ts → AreTokens text us → ts ≡ us) → GoesWrong text a → GoesWrong text b → a ≡ b
one_place text a b one v w =
    elim (cuts v.front v.rest w.front w.rest (one (v.front ++ v.rest) (w.front ++ w.rest) v.tokens w.tokens)) [
      | Same e f ↦ same_place text w.front w.rest a b (subst (λ ts. GoesWrongAt text ts w.rest a) e (subst (λ ts. GoesWrongAt text v.front ts a) f v.wrong)) w.wrong
      | Later t more behind e f ↦ absurd (no_later text v.front v.rest w.front a t more behind v.wrong e f w.begins)
      | Earlier t more behind e f ↦ absurd (no_later text w.front w.rest v.front b t more behind w.wrong e f v.begins)
    ]

-- no more is left than there was
pub left_fits : (text : List ℕ) (tokens : List Token) (left : ℕ) → read_statement (symbols_of text tokens) ≡ Err left → left ≤ length tokens
left_fits text tokens left e =
    let stop = stops_there (symbols_of text tokens) left e in
    omega (arith, stop.left_is, length-append stop.front stop.rest, ap length stop.whole, length-map tokens (symbol_of text))

-- ---- a text spells a statement or goes wrong

ended_at : (r : Readout Statement) (x : Statement × List Symbol) → (r >>= λ read. ended read.0 read.1) ≡ Ok x → x.1 ≡ []
ended_at (Ok (s, [])) x e = let same : alone s ≡ x = cc in ap (λ (z : Statement × List Symbol). z.1) (sym same)
ended_at (Ok (s, symbol ∷ symbols)) x e = absurd cc
ended_at (Err left) x e = absurd cc

-- all symbols are read
nothing_left : (symbols : List Symbol) (x : Statement × List Symbol) → read_statement symbols ≡ Ok x → x.1 ≡ []
unfolding read_statement
nothing_left symbols x e = ended_at (read_begun symbols) x e

by_tokens : (text : List ℕ) (tokens : List Token) → AreTokens text tokens → (r : Readout Statement) → read_statement (symbols_of text tokens) ≡ r → AnyStatement text ⊎ AnySyntaxFault text
by_tokens text tokens are (Ok x) e =
    let whole : read_statement (symbols_of text tokens) ≡ given x.0 [] = e ∙ ap (λ rest. given x.0 rest) (nothing_left (symbols_of text tokens) x e) in
    let f = read_has_form (symbols_of text tokens) x.0 whole in
    inl (x.0, record { tokens = tokens; are = are; form = f.form; proper = f.proper })
by_tokens text tokens are (Err left) e =
    inr (first_place text (drop (length tokens - left) tokens), inr (goes_wrong text tokens left (first_place text (drop (length tokens - left) tokens)) are e refl))

-- where a text has tokens or a fault among them
pub statement_or_fault : (text : List ℕ) → AnyTokens text ⊎ AnyTokenFault text → AnyStatement text ⊎ AnySyntaxFault text
statement_or_fault text (inl found) = by_tokens text found.0 found.1 (read_statement (symbols_of text found.0)) refl
statement_or_fault text (inr fault) = inr (fault_at fault.0, inl (fault.0, fault.1, refl))
