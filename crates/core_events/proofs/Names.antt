-- Names and their numbers over events.
use Rattle.std.proofs.Common.{◌≡◌, ◌∙◌, ℕ, zero, suc, ◌+◌, ◌-◌, ◌<◌, ◌≤◌, ◌==◌, Bool, true, false, true≢false, not, ◌&&◌, cond, nat_lt, List, [], ◌∷◌, ◌++◌, length, drop, slice_get, Option, Some, None, refl, sym, ap, subst, arith, append_assoc, append-nil, length-append, length-drop, ltb-true, if◌then◌else◌}
use Rattle.std.specs.List.{position_or_len}
use Rattle.std.specs.Option.{option_map_or}
use Rattle.std.specs.Str.{bytes_eq}
use Rattle.std.proofs.lemmas.Bool.{eqb-true, eq-eqb}
use Rattle.std.proofs.lemmas.Option.{cond_some, none-some, same_Some, slice_get_within}
use Rattle.std.proofs.lemmas.Slice.Eq.{bytes_eq-Decides}
use Rattle.names_dict.specs.declared.code.Code.{Code}
use Rattle.names_dict.specs.declared.code.Code.TheVariants.{Known, Added, Full}
use Rattle.names_dict.specs.Dictionaries.{Dictionary, number_of, code_of, with_code}
use Rattle.core_events.specs.Events.{Opening, NamesEvent, Encode, FindName, CopyFrom, ClientCall, OnNames, CoreEvent, By, At}
use Rattle.core_events.specs.Clients.{ClientState, client_state, client_after_call, after_client_call, number_by_code, names_by_number, greater_of, greater_where}
use Rattle.core_events.specs.Cells.{dictionary_of, dictionary_after, dictionary_after_call}
use Rattle.core_events.specs.Fitting.{FitsCall, FitsNames}
use Rattle.core_events.specs.Runs.{IsCoreRun, NamesSay, CallSays}

-- Where a test passes first, there is an item that passes it.
record StandsAt {X : Type 0} (p : X → Bool) (xs : List X) (n : ℕ) : Type 0 where
  item : X
  is : slice_get xs n ≡ Some item
  passes : p item ≡ true

first-at : {X : Type 0} (b : Bool) (p : X → Bool) (x : X) (xs : List X) (n : ℕ) → p x ≡ b
    → position_or_len p (x ∷ xs) ≡ n → n < length (x ∷ xs)
    → ((m : ℕ) → position_or_len p xs ≡ m → m < length xs → StandsAt p xs m) → StandsAt p (x ∷ xs) n
first-at true p x xs n e at below rest =
    let here : 0 ≡ n = sym (ap (λ (b : Bool). cond (not b) (1 + position_or_len p xs) 0) e) ∙ at in
    subst (StandsAt p (x ∷ xs)) here (record { item = x; is = refl; passes = e })
first-at false p x xs n e at below rest =
    let there : 1 + position_or_len p xs ≡ n = sym (ap (λ (b : Bool). cond (not b) (1 + position_or_len p xs) 0) e) ∙ at in
    let m = position_or_len p xs in
    let less : m < length xs = omega (arith, there, below) in
    let next : suc m ≡ n = omega (arith, there) in
    let r = rest m refl less in
    subst (StandsAt p (x ∷ xs)) next (record { item = r.item; is = r.is; passes = r.passes })

first-place : {X : Type 0} (p : X → Bool) (xs : List X) (n : ℕ) → position_or_len p xs ≡ n → n < length xs
    → StandsAt p xs n
first-place p [] n at below = absurd (omega (arith, below))
first-place p (x ∷ xs) n at below = first-at (p x) p x xs n refl at below (first-place p xs)

-- The number of a name is its place.
pub number-is-place : (d : Dictionary) (name : List ℕ) (n : ℕ) → number_of d name ≡ Some n
    → slice_get d.names n ≡ Some name
number-is-place d name n e =
    let p = bytes_eq name in
    let found = cond_some (nat_lt (position_or_len p d.names) (length d.names)) (position_or_len p d.names) n e in
    let below : n < length d.names =
    subst (λ m. m < length d.names) found.1 (ltb-true (position_or_len p d.names) (length d.names) found.0)
    in
    let r = first-place p d.names n found.1 below in
    let same : name ≡ r.item = (bytes_eq-Decides name r.item).0 r.passes in
    r.is ∙ ap Some (sym same)

more-names : {X : Type 0} (xs ys : List X) (n : ℕ) (x : X) → slice_get xs n ≡ Some x
    → slice_get (xs ++ ys) n ≡ Some x
more-names [] ys n x e = absurd (none-some x e)
more-names (y ∷ xs) ys zero x e = e
more-names (y ∷ xs) ys (suc n) x e = more-names xs ys n x e

-- Names with more behind them.
abbrev pub IsLonger : List (List ℕ) → List (List ℕ) → Type 0
IsLonger more names = (rest : List (List ℕ)) × (more ≡ names ++ rest)

grows-by-code : (d : Dictionary) (name : List ℕ) (code : Code) → IsLonger (with_code d name code).names d.names
grows-by-code d name (Known n) = ([], sym (append-nil d.names))
grows-by-code d name (Added n) = (name ∷ [], refl)
grows-by-code d name Full = ([], sym (append-nil d.names))

grows-where : (here : Bool) (d e : Dictionary) → IsLonger e.names d.names → IsLonger (if here then e else d).names d.names
grows-where true d e l = l
grows-where false d e l = ([], sym (append-nil d.names))

grows-by-call : (cube dim : ℕ) (call : ClientCall) (d : Dictionary)
    → IsLonger (dictionary_after cube dim call d).names d.names
grows-by-call cube dim (OnNames (Encode c e name code)) d =
    grows-where (c == cube && e == dim) d (with_code d name code) (grows-by-code d name code)
grows-by-call cube dim call d = ([], sym (append-nil d.names))

-- A dictionary only grows.
pub names-grow : (o : Opening) (cube dim : ℕ) (later es : List CoreEvent)
    → IsLonger (dictionary_of o cube dim (later ++ es)).names (dictionary_of o cube dim es).names
names-grow o cube dim [] es = ([], sym (append-nil (dictionary_of o cube dim es).names))
names-grow o cube dim (By a call ∷ later) es =
    let before = names-grow o cube dim later es in
    let step = grows-by-call cube dim call (dictionary_of o cube dim (later ++ es)) in
    (before.0 ++ step.0, step.1 ∙ ap (λ xs. xs ++ step.0) before.1 ∙ append_assoc (dictionary_of o cube dim es).names before.0 step.0)
names-grow o cube dim (At mail move ∷ later) es = names-grow o cube dim later es

-- The number of a code is the place of the name, once the code is given.
record GivesPlace (d : Dictionary) (name : List ℕ) (code : Code) : Type 0 where
  place : (n : ℕ) → number_by_code code ≡ Some n → slice_get (with_code d name code).names n ≡ Some name

last-place : (xs : List (List ℕ)) (x : List ℕ) → slice_get (xs ++ x ∷ []) (length xs) ≡ Some x
last-place [] x = refl
last-place (y ∷ xs) x = last-place xs x

code-without : (room : Bool) (d : Dictionary) (name : List ℕ)
    → GivesPlace d name (if room then Added (length d.names) else Full)
code-without true d name = record {
  place = λ n e. ap (slice_get (d.names ++ name ∷ [])) (sym (same_Some (length d.names) n e)) ∙ last-place d.names name;
}
code-without false d name = record { place = λ n e. absurd (none-some n e) }

code-with : (number : Option ℕ) (d : Dictionary) (name : List ℕ) → number_of d name ≡ number
    → GivesPlace d name (option_map_or Known number (if nat_lt (length d.names) d.cardinality then Added (length d.names) else Full))
code-with None d name is = code-without (nat_lt (length d.names) d.cardinality) d name
code-with (Some m) d name is =
    record { place = λ n e. number-is-place d name n (is ∙ e) }

gives-place : (d : Dictionary) (name : List ℕ) (code : Code) → code ≡ code_of d name → GivesPlace d name code
gives-place d name code is = subst (GivesPlace d name) (sym is) (code-with (number_of d name) d name refl)

same-test : (n : ℕ) → (n == n) ≡ true
same-test n = eq-eqb n n refl

-- A code keeps its name.
pub codes-stay : (o : Opening) (a cube dim n : ℕ) (name : List ℕ) (code : Code) (later es : List CoreEvent)
    → IsCoreRun o (By a (OnNames (Encode cube dim name code)) ∷ es) → number_by_code code ≡ Some n
    → slice_get (dictionary_of o cube dim (later ++ By a (OnNames (Encode cube dim name code)) ∷ es)).names n ≡ Some name
codes-stay o a cube dim n name code later es run is =
    let d = dictionary_of o cube dim es in
    let now = By a (OnNames (Encode cube dim name code)) ∷ es in
    let place = (gives-place d name code run.1.says).place n is in
    let here : (cube == cube && dim == dim) ≡ true = λ i. same-test cube i && same-test dim i in
    let there : slice_get (dictionary_of o cube dim now).names n ≡ Some name =
    ap (λ (b : Bool). slice_get (if b then with_code d name code else d).names n) here ∙ place
    in
    let more = names-grow o cube dim later now in
    ap (λ xs. slice_get xs n) more.1 ∙ more-names (dictionary_of o cube dim now).names more.0 n name there

-- How many names a client knows of.

length-longer : (xs ys : List (List ℕ)) → IsLonger ys xs → length xs ≤ length ys
length-longer xs ys l =
    let e : length ys ≡ length xs + length l.0 = ap length l.1 ∙ length-append xs l.0 in omega (arith, e)

greater-fits : (more : Option ℕ) (n most : ℕ) → n ≤ most → ((m : ℕ) → more ≡ Some m → m ≤ most)
    → greater_of more n ≤ most
greater-fits None n most le all = le
greater-fits (Some m) n most le all = let l = all m refl in omega (arith, le, l)

where-fits : (here : Bool) (more : Option ℕ) (n most : ℕ) → n ≤ most
    → (here ≡ true → (m : ℕ) → more ≡ Some m → m ≤ most) → greater_where here more n ≤ most
where-fits true more n most le all = greater-fits more n most le (all refl)
where-fits false more n most le all = le

by-number : (number : Option ℕ) (names : List (List ℕ)) (m : ℕ)
    → ((n : ℕ) → number ≡ Some n → n < length names) → names_by_number number ≡ Some m → m ≤ length names
by-number None names m all e = absurd (none-some m e)
by-number (Some n) names m all e =
    let l = all n refl in let same = same_Some (n + 1) m e in omega (arith, l, same)

both : (x y : Bool) → (x && y) ≡ true → (x ≡ true) × (y ≡ true)
both true true e = (refl, refl)
both true false e = absurd (true≢false (sym e))
both false y e = absurd (true≢false (sym e))

-- The call is on this dimension.
on-this : (cube dim c d : ℕ) → (cube == c && dim == d) ≡ true → (cube ≡ c) × (dim ≡ d)
on-this cube dim c d e = let p = both (cube == c) (dim == d) e in (eqb-true cube c p.0, eqb-true dim d p.1)

after-copy : (from : ℕ) (names more : List (List ℕ)) → more ≡ drop from names → from ≤ length names
    → from + length more ≤ length names
after-copy from names more e le =
    let l : length more ≡ length names - from = ap length e ∙ length-drop from names in omega (arith, l, le)

after-encode : (here : Bool) (n : ℕ) (name : List ℕ) (code : Code) (d : Dictionary) → n ≤ length d.names
    → (here ≡ true → code ≡ code_of d name)
    → greater_where here (names_by_number (number_by_code code)) n ≤ length (if here then with_code d name code else d).names
after-encode true n name code d le says =
    let longer = length-longer d.names (with_code d name code).names (grows-by-code d name code) in
    let place = (gives-place d name code (says refl)).place in
    greater-fits (names_by_number (number_by_code code)) n (length (with_code d name code).names) (omega (arith, le, longer))
    (by-number-all (number_by_code code) (with_code d name code).names
    (λ m is. slice_get_within (with_code d name code).names m name (place m is)))
  where
    by-number-all : (number : Option ℕ) (names : List (List ℕ)) → ((n : ℕ) → number ≡ Some n → n < length names)
        → (m : ℕ) → names_by_number number ≡ Some m → m ≤ length names
    by-number-all number names all m e = by-number number names m all e
after-encode false n name code d le says = le

own-names-call : (o : Opening) (a : ℕ) (call : NamesEvent) (k : ClientState) (es : List CoreEvent) (c d : ℕ)
    → ((cube dim : ℕ) → k.names cube dim ≤ length (dictionary_of o cube dim es).names)
    → FitsNames o a call k → NamesSay o es call
    → (after_client_call o a (OnNames call) k).names c d
    ≤ length (dictionary_after_call c d call (dictionary_of o c d es)).names
own-names-call o a (Encode cube dim name code) k es c d known fits says =
    after-encode (cube == c && dim == d) (k.names c d) name code (dictionary_of o c d es) (known c d)
    (λ here. let same = on-this cube dim c d here in
    coe 0 1 (i. code ≡ code_of (dictionary_of o (same.0 i) (same.1 i) es) name) says)
own-names-call o a (FindName cube dim name number) k es c d known fits says =
    where-fits (cube == c && dim == d) (names_by_number number) (k.names c d) (length (dictionary_of o c d es).names)
    (known c d)
    (λ here m e. by-number number (dictionary_of o c d es).names m
    (λ n is. let same = on-this cube dim c d here in
    let place = number-is-place (dictionary_of o cube dim es) name n (sym says ∙ is) in
    let below = slice_get_within (dictionary_of o cube dim es).names n name place in
    coe 0 1 (i. n < length (dictionary_of o (same.0 i) (same.1 i) es).names) below) e)
own-names-call o a (CopyFrom cube dim from more) k es c d known fits says =
    where-fits (cube == c && dim == d) (Some (from + length more)) (k.names c d) (length (dictionary_of o c d es).names)
    (known c d)
    (λ here m e. let same = on-this cube dim c d here in
    let names = (dictionary_of o cube dim es).names in
    let within : from + length more ≤ length names =
    after-copy from names more says (let l = known cube dim in let f = fits.begins in omega (arith, l, f))
    in
    let is = same_Some (from + length more) m e in
    coe 0 1 (i. is i ≤ length (dictionary_of o (same.0 i) (same.1 i) es).names) within)

known-step : (o : Opening) (own : Bool) (a b : ℕ) (call : ClientCall) (k : ClientState) (es : List CoreEvent) (c d : ℕ)
    → ((cube dim : ℕ) → k.names cube dim ≤ length (dictionary_of o cube dim es).names)
    → (own ≡ true → FitsCall o a call k) → CallSays o es b call
    → (client_after_call o own a call k).names c d ≤ length (dictionary_after c d call (dictionary_of o c d es)).names
known-step o true a b (OnNames call) k es c d known fits says = own-names-call o a call k es c d known (fits refl) says
known-step o true a b call k es c d known fits says = known c d
known-step o false a b call k es c d known fits says =
    let before = known c d in
    let longer =
    length-longer (dictionary_of o c d es).names (dictionary_after c d call (dictionary_of o c d es)).names
    (grows-by-call c d call (dictionary_of o c d es))
    in
    omega (arith, before, longer)

-- The names that a client was told of are there.
pub told-names : (o : Opening) (es : List CoreEvent) → IsCoreRun o es → (a c d : ℕ)
    → (client_state o a es).names c d ≤ length (dictionary_of o c d es).names
told-names o [] run a c d = omega arith
told-names o (By b call ∷ es) run a c d =
    known-step o (b == a) a b call (client_state o a es) es c d (told-names o es run.0 a)
    (λ own. let same = eqb-true b a own in coe 0 1 (i. FitsCall o (same i) call (client_state o (same i) es)) run.1.fits)
    run.1.says
told-names o (At mail move ∷ es) run a c d = told-names o es run.0 a c d
