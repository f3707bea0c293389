-- The dictionaries on record are those that the calls left, and each is one of its dimension.
use Rattle.std.proofs.Common.{◌≡◌, ◌∙◌, ℕ, zero, suc, ◌+◌, ◌<◌, ◌≤◌, ◌==◌, Bool, true, false, ◌&&◌, ◌||◌, cond, nat_lt, List, [], ◌∷◌, ◌++◌, length, map, take, slice_get, unwrap_or, append-nil, Option, Some, None, if◌then◌else◌, refl, sym, ap, subst, arith, length-append, ltb-true, eqb-true}
use Rattle.std.specs.List.{enumerate_from, list_any, position_from}
use Rattle.std.specs.Option.{option_and_then, option_map_or}
use Rattle.std.specs.Str.{bytes_eq}
use Rattle.std.proofs.lemmas.Bool.{false≢true}
use Rattle.std.proofs.lemmas.Iterator.Adapters.{position_from-zero}
use Rattle.std.proofs.lemmas.List.{take-append-le, take_all}
use Rattle.std.proofs.lemmas.List.Elements.{All-append, All-cons, All-nil}
use Rattle.std.proofs.lemmas.Option.{none-some, same_Some}
use Rattle.cube_language.specs.declared.bad_row.TheConstants.{TEXT_BYTES}
use Rattle.cube_language.specs.declared.decl.Decl.{Decl}
use Rattle.cube_language.specs.declared.decl.DimDecl.{DimDecl}
use Rattle.cube_schema.proofs.Repeated.{repeated-push}
use Rattle.cube_run.specs.FinalNames.{HasDimension, names_at}
use Rattle.names_dict.specs.Dictionaries.{Dictionary, code_of, number_of, with_code}
use Rattle.names_dict.specs.declared.code.Code.{Code}
use Rattle.names_dict.specs.declared.code.Code.TheVariants.{Known, Added, Full}
use Rattle.core_events.specs.Cells.{desk_of, dictionary_of, dictionary_after}
use Rattle.core_events.specs.Events.{Opening, Encode, FindName, CopyFrom, ClientCall, OnDesk, OnNames, Post, Fetch, CloseMail, NoChange, CoreEvent, By, At}
use Rattle.core_events.specs.Fitting.{FitsCall}
use Rattle.core_events.specs.Clients.{client_state}
use Rattle.core_events.specs.Runs.{IsCoreRun, CallSays}
use Rattle.core_events.proofs.Names.{names-grow}
use Rattle.one_session.specs.Pasts.{EndsAs, EndsWithMore}
use Rattle.one_session.proofs.CubesBehind.{some_front}
use Rattle.core_records.specs.CoreRecords.{RunScripts, names_in, names_left, names_of_cubes, names_of_dims, record_of}
use Rattle.core_records.specs.OpeningNames.{OpensWithNames, SuitsDimension}
use Rattle.core_records.specs.ScriptedCalls.{FollowScripts}
use Rattle.core_records.proofs.CubesOnRecord.{cube-stays, cubes-are}

-- ---- names by their places

enumerated : {X Y : Type 0} (f : ℕ × X → Y) (n : ℕ) (xs : List X) (k : ℕ) (x : X) → slice_get xs k ≡ Some x
    → slice_get (map f (enumerate_from n xs)) k ≡ Some (f (n + k, x))
enumerated f n [] k x is = absurd (none-some x is)
enumerated {X} {Y} f n (y ∷ xs) zero x is =
    let here : n ≡ n + 0 = omega arith in
    (λ i. Some (f (here i, same_Some y x is i)))
enumerated {X} {Y} f n (y ∷ xs) (suc k) x is =
    let there : n + 1 + k ≡ n + suc k = omega arith in
    enumerated f (n + 1) xs k x is ∙ (λ i. Some (f (there i, x)))

none-enumerated : {X Y : Type 0} (f : ℕ × X → Y) (n : ℕ) (xs : List X) (k : ℕ) → slice_get xs k ≡ None
    → slice_get (map f (enumerate_from n xs)) k ≡ None
none-enumerated f n [] k is = refl
none-enumerated f n (y ∷ xs) zero is = absurd (none-some y (sym is))
none-enumerated f n (y ∷ xs) (suc k) is = none-enumerated f (n + 1) xs k is

from-start : (k : ℕ) → 0 + k ≡ k
from-start k = omega arith

pub cube-names : (names : ℕ → ℕ → List (List ℕ)) (cubes : List Decl) (cube : ℕ) (d : Decl)
    → slice_get cubes cube ≡ Some d
    → slice_get (names_of_cubes names cubes) cube ≡ Some (names_of_dims (names cube) d.dims)
cube-names names cubes cube d is =
    enumerated (λ (p : ℕ × Decl). names_of_dims (names p.0) p.1.dims) 0 cubes cube d is
    ∙ (λ i. Some (names_of_dims (names (from-start cube i)) d.dims))

pub dim-names : (names : ℕ → List (List ℕ)) (dims : List DimDecl) (place : ℕ) (dim : DimDecl)
    → slice_get dims place ≡ Some dim → slice_get (names_of_dims names dims) place ≡ Some (names place)
dim-names names dims place dim is =
    enumerated (λ (p : ℕ × DimDecl). names p.0) 0 dims place dim is ∙ (λ i. Some (names (from-start place i)))

pub names-are : (names : ℕ → ℕ → List (List ℕ)) (cubes : List Decl) (cube place : ℕ) (d : Decl) (dim : DimDecl)
    → slice_get cubes cube ≡ Some d → slice_get d.dims place ≡ Some dim
    → names_at (names_of_cubes names cubes) cube place ≡ names cube place
names-are names cubes cube place d dim is_cube is_dim =
    ap (λ (lists : Option (List (List (List ℕ)))). unwrap_or (option_and_then (λ dims. slice_get dims place) lists) [])
    (cube-names names cubes cube d is_cube)
    ∙ ap (λ (texts : Option (List (List ℕ))). unwrap_or texts []) (dim-names (names cube) d.dims place dim is_dim)

no-names : (names : ℕ → ℕ → List (List ℕ)) (cubes : List Decl) (cube place : ℕ) → slice_get cubes cube ≡ None
    → names_at (names_of_cubes names cubes) cube place ≡ []
no-names names cubes cube place is =
    ap (λ (lists : Option (List (List (List ℕ)))). unwrap_or (option_and_then (λ dims. slice_get dims place) lists) [])
    (none-enumerated (λ (p : ℕ × Decl). names_of_dims (names p.0) p.1.dims) 0 cubes cube is)

-- A dimension on record is one of a cube of the desk.
pub cube-of-desk : (o : Opening) (given : RunScripts) (es : List CoreEvent) (cube place : ℕ) (d : Decl) (dim : DimDecl)
    → IsCoreRun o es → FollowScripts o given es → HasDimension (record_of o given es) cube place d dim
    → slice_get (desk_of o es).cubes cube ≡ Some d
cube-of-desk o given es cube place d dim run f has =
    sym (ap (λ (cubes : List Decl). slice_get cubes cube) (cubes-are o given es es run f)) ∙ has.cube_is

pub names-on-record : (o : Opening) (given : RunScripts) (es : List CoreEvent) (cube place : ℕ) (d : Decl)
    (dim : DimDecl) → IsCoreRun o es → FollowScripts o given es → HasDimension (record_of o given es) cube place d dim
    → names_at (record_of o given es).names cube place ≡ (dictionary_of o cube place es).names
names-on-record o given es cube place d dim run f has =
    names-are (names_in o es) (desk_of o es).cubes cube place d dim
    (cube-of-desk o given es cube place d dim run f has) has.dim_is

-- ---- a name keeps its number

number-stays : (o : Opening) (later es : List CoreEvent) (cube place n : ℕ) (name : List ℕ)
    → slice_get (dictionary_of o cube place es).names n ≡ Some name
    → slice_get (dictionary_of o cube place (later ++ es)).names n ≡ Some name
number-stays o later es cube place n name is =
    let longer = names-grow o cube place later es in
    ap (λ (names : List (List ℕ)). slice_get names n) longer.1
    ∙ some_front (dictionary_of o cube place es).names longer.0 n name is

pub numbers-stay : (o : Opening) (given : RunScripts) (later es : List CoreEvent) (cube place n : ℕ) (d : Decl)
    (dim : DimDecl) (name : List ℕ) → IsCoreRun o (later ++ es) → FollowScripts o given (later ++ es)
    → HasDimension (record_of o given (later ++ es)) cube place d dim
    → slice_get (dictionary_of o cube place es).names n ≡ Some name
    → slice_get (names_at (record_of o given (later ++ es)).names cube place) n ≡ Some name
numbers-stay o given later es cube place n d dim name run f has is =
    ap (λ (names : List (List ℕ)). slice_get names n) (names-on-record o given (later ++ es) cube place d dim run f has)
    ∙ number-stays o later es cube place n name is

-- ---- a dictionary stays one of its dimension

none-from : {X : Type 0} (p : X → Bool) (n : ℕ) (xs : List X) → position_from p n xs ≡ None → list_any p xs ≡ false
none-from p n [] h = refl
none-from {X} p n (x ∷ xs) h = at (p x) refl h (none-from p (n + 1) xs)
  where
    at : (t : Bool) → p x ≡ t → cond t (Some n) (position_from p (n + 1) xs) ≡ None
        → (position_from p (n + 1) xs ≡ None → list_any p xs ≡ false) → (p x || list_any p xs) ≡ false
    at true is h rest = absurd (none-some n (sym h))
    at false is h rest = λ i. is i || rest h i

is-added : (number : Option ℕ) (space : Bool) (n len : ℕ)
    → Added n ≡ option_map_or Known number (if space then Added len else Full) → (number ≡ None) × (space ≡ true)
is-added None true n len h = (refl, refl)
is-added None false n len h = absurd (cc)
is-added (Some m) space n len h = absurd (cc)

-- A name that is added is new, and there is room for it.
record MayBeAdded (d : Dictionary) (name : List ℕ) : Type 0 where
  new : list_any (bytes_eq name) d.names ≡ false
  room : length d.names < d.cardinality

may-be-added : (d : Dictionary) (name : List ℕ) (n : ℕ) → Added n ≡ code_of d name → MayBeAdded d name
may-be-added d name n is =
    let both = is-added (number_of d name) (nat_lt (length d.names) d.cardinality) n (length d.names) is in
    record {
      new = none-from (bytes_eq name) 0 d.names (sym (position_from-zero (bytes_eq name) d.names) ∙ both.0);
      room = ltb-true (length d.names) d.cardinality both.1;
    }

suits-code : (dim : DimDecl) (d : Dictionary) (name : List ℕ) (code : Code) → SuitsDimension dim d
    → length name ≤ TEXT_BYTES → code ≡ code_of d name → SuitsDimension dim (with_code d name code)
suits-code dim d name (Known n) s short is = s
suits-code dim d name Full s short is = s
suits-code dim d name (Added n) s short is =
    let may = may-be-added d name n is in
    let room = may.room in
    let more = length-append d.names (name ∷ []) in
    record {
      room = s.room;
      fits = omega (arith, room, more);
      distinct =
          repeated-push d.names name s.distinct ∙ ap (λ (b : Bool). cond b (Some name) None) may.new;
      short =
          All-append (λ (x : List ℕ). length x ≤ TEXT_BYTES) d.names (name ∷ []) s.short
          (All-cons (λ (x : List ℕ). length x ≤ TEXT_BYTES) name [] short
          (All-nil (λ (x : List ℕ). length x ≤ TEXT_BYTES)));
    }

both-true : (x y : Bool) → (x && y) ≡ true → (x ≡ true) × (y ≡ true)
both-true true y h = (refl, h)
both-true false y h = absurd (false≢true h)

suits-where : (t : Bool) (dim : DimDecl) (d : Dictionary) (name : List ℕ) (code : Code) → SuitsDimension dim d
    → (t ≡ true → (length name ≤ TEXT_BYTES) × (code ≡ code_of d name))
    → SuitsDimension dim (if t then with_code d name code else d)
suits-where true dim d name code s h = let both = h refl in suits-code dim d name code s both.0 both.1
suits-where false dim d name code s h = s

suits-call : (o : Opening) (b : ℕ) (call : ClientCall) (es : List CoreEvent) (cube place : ℕ) (dim : DimDecl)
    → FitsCall o b call (client_state o b es) → CallSays o es b call
    → SuitsDimension dim (dictionary_of o cube place es)
    → SuitsDimension dim (dictionary_after cube place call (dictionary_of o cube place es))
suits-call o b (OnNames (Encode c p name code)) es cube place dim f says s =
    suits-where (c == cube && p == place) dim (dictionary_of o cube place es) name code s (λ here.
    let both = both-true (c == cube) (p == place) here in
    let same_cube = eqb-true c cube both.0 in
    let same_dim = eqb-true p place both.1 in
    (f.1, coe 0 1 (i. code ≡ code_of (dictionary_of o (same_cube i) (same_dim i) es) name) says))
suits-call o b (OnNames (FindName c p name number)) es cube place dim f says s = s
suits-call o b (OnNames (CopyFrom c p from names)) es cube place dim f says s = s
suits-call o b (OnDesk call) es cube place dim f says s = s
suits-call o b (Post mail job) es cube place dim f says s = s
suits-call o b (Fetch mail answer) es cube place dim f says s = s
suits-call o b (CloseMail mail) es cube place dim f says s = s
suits-call o b NoChange es cube place dim f says s = s

pub suits-run : (o : Opening) (es : List CoreEvent) (cube place : ℕ) (dim : DimDecl) → IsCoreRun o es
    → SuitsDimension dim (o.names cube place) → SuitsDimension dim (dictionary_of o cube place es)
suits-run o [] cube place dim run s = s
suits-run o (By b call ∷ es) cube place dim run s =
    suits-call o b call es cube place dim run.1.fits run.1.says (suits-run o es cube place dim run.0 s)
suits-run o (At mail move ∷ es) cube place dim run s = suits-run o es cube place dim run.0 s

-- ---- each dictionary begins with the kept one

take-front : {X : Type 0} (xs ys : List X) → take (length xs) (xs ++ ys) ≡ xs
take-front xs ys =
    take-append-le (length xs) xs ys (omega arith) ∙ take_all (length xs) xs (omega arith)

begins : (o : Opening) (later es : List CoreEvent) (cube place : ℕ)
    → take (length (dictionary_of o cube place es).names) (dictionary_of o cube place (later ++ es)).names
    ≡ (dictionary_of o cube place es).names
begins o later es cube place =
    let longer = names-grow o cube place later es in
    let names = (dictionary_of o cube place es).names in
    ap (take (length names)) longer.1 ∙ take-front names longer.0

room-of : (text : Bool) (n most : ℕ) → n ≤ (if text then most else 0) → n ≤ most
room-of true n most h = h
room-of false n most h = omega (arith, h)

pub no-room : (text : Bool) (names : List (List ℕ)) (most : ℕ) → length names ≤ (if text then most else 0)
    → text ≡ false → names ≡ []
no-room true names most h is = absurd (false≢true (sym is))
no-room false [] most h is = refl
no-room false (x ∷ names) most h is = absurd (omega (arith, h))

pub ends-later : (o : Opening) (later es : List CoreEvent) (cube place : ℕ) (dim : DimDecl)
    → SuitsDimension dim (dictionary_of o cube place (later ++ es))
    → EndsAs dim (dictionary_of o cube place es).names (dictionary_of o cube place (later ++ es)).names
ends-later o later es cube place dim s =
    let names = (dictionary_of o cube place (later ++ es)).names in
    let within : length names ≤ (if dim.text then dim.cardinality else 0) =
    subst (λ (n : ℕ). length names ≤ n) s.room s.fits
    in
    record {
      dictionary = record {
        distinct = s.distinct;
        short = s.short;
        few = room-of dim.text (length names) dim.cardinality within;
        first = begins o later es cube place;
      };
      numbers = no-room dim.text names dim.cardinality within;
    }

ends-as : (o : Opening) (es : List CoreEvent) (cube place : ℕ) (dim : DimDecl)
    → SuitsDimension dim (dictionary_of o cube place es)
    → EndsAs dim (o.names cube place).names (dictionary_of o cube place es).names
ends-as o es cube place dim =
    coe 0 1 (i. SuitsDimension dim (dictionary_of o cube place (append-nil es i))
    → EndsAs dim (o.names cube place).names (dictionary_of o cube place (append-nil es i)).names)
    (ends-later o es [] cube place dim)

pub beyond : {X : Type 0} (xs : List X) (k : ℕ) → slice_get xs k ≡ None → length xs ≤ k
beyond [] k is = omega arith
beyond (x ∷ xs) zero is = absurd (none-some x (sym is))
beyond (x ∷ xs) (suc k) is = let more = beyond xs k is in omega (arith, more)

-- The names that are kept of a cube, whether it was there at the opening or not.
kept-names : (o : Opening) (es : List CoreEvent) (cube place : ℕ) (d : Decl) (dim : DimDecl)
    → OpensWithNames o (desk_of o es).cubes → slice_get (desk_of o es).cubes cube ≡ Some d
    → slice_get d.dims place ≡ Some dim → names_at (names_left o []) cube place ≡ (o.names cube place).names
kept-names o es cube place d dim opens is_cube is_dim = at (slice_get o.cubes cube) refl
  where
    at : (there : Option Decl) → slice_get o.cubes cube ≡ there
        → names_at (names_left o []) cube place ≡ (o.names cube place).names
    at None is = no-names (names_in o []) o.cubes cube place is ∙ sym (opens.none cube place (beyond o.cubes cube is))
    at (Some x) is =
        let later : slice_get (desk_of o es).cubes cube ≡ Some x =
        ap (λ (all : List CoreEvent). slice_get (desk_of o all).cubes cube) (sym (append-nil es))
        ∙ cube-stays o es [] cube x is
        in
        let same : x ≡ d = same_Some x d (sym later ∙ is_cube) in
        names-are (names_in o []) o.cubes cube place d dim (is ∙ ap Some same) is_dim

pub names-end : (o : Opening) (given : RunScripts) (es : List CoreEvent) → IsCoreRun o es → FollowScripts o given es
    → OpensWithNames o (desk_of o es).cubes
    → EndsWithMore (record_of o given es) (record_of o given es).kept_names
names-end o given es run f opens cube place d dim has =
    let is_cube = cube-of-desk o given es cube place d dim run f has in
    let ends =
    ends-as o es cube place dim (suits-run o es cube place dim run (opens.suit cube place d dim is_cube has.dim_is))
    in
    coe 1 0 (i. EndsAs dim (kept-names o es cube place d dim opens is_cube has.dim_is i)
    (names-on-record o given es cube place d dim run f has i)) ends
