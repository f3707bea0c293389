-- Each name behind those with which a run opens is a text for whose code a session has asked.
use Rattle.std.proofs.Common.{◌≡◌, ◌∙◌, ℕ, zero, suc, ◌+◌, ◌==◌, Bool, true, false, ◌&&◌, All, List, [], ◌∷◌, ◌++◌, length, drop, map, Option, Some, None, slice_get, unwrap_or, if◌then◌else◌, refl, sym, ap, subst, arith, append-nil, append_assoc, eqb-true, eq-eqb}
use Rattle.std.specs.List.{enumerate_from}
use Rattle.std.specs.Option.{option_and_then}
use Rattle.std.proofs.lemmas.Bool.{false≢true}
use Rattle.std.proofs.lemmas.List.Elements.{All-nil, All-push, All-weaker, Contains-append_right, Contains-get_or}
use Rattle.std.proofs.lemmas.Option.{none-some, same_Some}
use Rattle.cube_language.specs.declared.decl.Decl.{Decl}
use Rattle.cube_language.specs.declared.decl.DimDecl.{DimDecl}
use Rattle.cube_run.specs.FinalNames.{HasDimension, names_at}
use Rattle.names_dict.specs.Dictionaries.{Dictionary, with_code}
use Rattle.names_dict.specs.declared.code.Code.{Code}
use Rattle.names_dict.specs.declared.code.Code.TheVariants.{Known, Added, Full}
use Rattle.core_events.specs.Cells.{desk_of, dictionary_after, dictionary_of}
use Rattle.core_events.specs.Clients.{calls_of, client_state}
use Rattle.core_events.specs.Events.{Opening, Encode, FindName, CopyFrom, ClientCall, OnDesk, OnNames, Post, Fetch, CloseMail, NoChange, CoreEvent, By, At}
use Rattle.core_events.specs.Fitting.{FitsCall}
use Rattle.core_events.specs.Runs.{IsCoreRun}
use Rattle.core_records.specs.CoreRecords.{RunScripts, names_in, names_left, names_of_dims, record_of}
use Rattle.core_records.specs.OpeningNames.{OpensWithNames}
use Rattle.core_records.proofs.CubesOnRecord.{cube-stays}
use Rattle.core_records.proofs.NamesOnRecord.{beyond, cube-of-desk, names-are, names-on-record}
use Rattle.core_agreements.specs.ScriptedRuns.{IsScriptedRun}
use Rattle.scripted_pasts.specs.AskedTexts.{IsAskedForBy, IsAskedForIn}

-- ---- what was asked for stays so

pub behind-one : (call : ClientCall) (calls : List ClientCall) (cube dim : ℕ) (text : List ℕ)
    → IsAskedForBy calls cube dim text → IsAskedForBy (call ∷ calls) cube dim text
behind-one call calls cube dim text h = record {
  call = h.call;
  among = Contains-append_right (call ∷ []) calls h.call h.among;
  asks = h.asks;
}

asked-on : (o : Opening) (e : CoreEvent) (es : List CoreEvent) (cube dim : ℕ) (text : List ℕ)
    → IsAskedForIn o es cube dim text → IsAskedForIn o (e ∷ es) cube dim text
asked-on o (By b call) es cube dim text h = record {
  session = h.session;
  is_session = h.is_session;
  asked = on (b == h.session) h.asked;
}
  where
    on : (own : Bool) → IsAskedForBy (calls_of h.session es) cube dim text
        → IsAskedForBy (if own then call ∷ calls_of h.session es else calls_of h.session es) cube dim text
    on true k = behind-one call (calls_of h.session es) cube dim text k
    on false k = k
asked-on o (At mail move) es cube dim text h =
    record { session = h.session; is_session = h.is_session; asked = h.asked }

pub first-asks : (cube dim : ℕ) (text : List ℕ) (code : Code) (calls : List ClientCall)
    → IsAskedForBy (OnNames (Encode cube dim text code) ∷ calls) cube dim text
first-asks cube dim text code calls = record {
  call = OnNames (Encode cube dim text code);
  among = Contains-get_or (OnNames (Encode cube dim text code) ∷ calls) 0 NoChange (omega arith);
  asks = (refl, refl, refl);
}

-- The call that asks is its client's own, and only a session asks.
asks-now : (o : Opening) (b cube dim : ℕ) (text : List ℕ) (code : Code) (es : List CoreEvent)
    → FitsCall o b (OnNames (Encode cube dim text code)) (client_state o b es)
    → IsAskedForIn o (By b (OnNames (Encode cube dim text code)) ∷ es) cube dim text
asks-now o b cube dim text code es fits = record {
  session = b;
  is_session = fits.0.session;
  asked =
      coe 1 0 (i. IsAskedForBy
      (if eq-eqb b b refl i then OnNames (Encode cube dim text code) ∷ calls_of b es else calls_of b es) cube dim text)
      (first-asks cube dim text code (calls_of b es));
}

-- ---- the names of a dictionary

-- Behind the names of the opening there are these, for each of which a session has asked.
record ComeByAsking (o : Opening) (es : List CoreEvent) (cube dim : ℕ) (names : List (List ℕ)) : Type 0 where
  rest : List (List ℕ)
  whole : names ≡ (o.names cube dim).names ++ rest
  each : All (IsAskedForIn o es cube dim) rest

come-on : (o : Opening) (e : CoreEvent) (es : List CoreEvent) (cube dim : ℕ) (names : List (List ℕ))
    → ComeByAsking o es cube dim names → ComeByAsking o (e ∷ es) cube dim names
come-on o e es cube dim names h = record {
  rest = h.rest;
  whole = h.whole;
  each =
      All-weaker (IsAskedForIn o es cube dim) (IsAskedForIn o (e ∷ es) cube dim) (asked-on o e es cube dim) h.rest
      h.each;
}

come-coded : (o : Opening) (es : List CoreEvent) (cube dim : ℕ) (d : Dictionary) (name : List ℕ) (code : Code)
    → ComeByAsking o es cube dim d.names → IsAskedForIn o es cube dim name
    → ComeByAsking o es cube dim (with_code d name code).names
come-coded o es cube dim d name (Known n) h asked = h
come-coded o es cube dim d name Full h asked = h
come-coded o es cube dim d name (Added n) h asked = record {
  rest = h.rest ++ name ∷ [];
  whole =
      ap (λ (names : List (List ℕ)). names ++ name ∷ []) h.whole
      ∙ append_assoc (o.names cube dim).names h.rest (name ∷ []);
  each = All-push (IsAskedForIn o es cube dim) h.rest name h.each asked;
}

both-true : (x y : Bool) → (x && y) ≡ true → (x ≡ true) × (y ≡ true)
both-true true y h = (refl, h)
both-true false y h = absurd (false≢true h)

come-where : (here : Bool) (o : Opening) (es : List CoreEvent) (cube dim : ℕ) (d : Dictionary) (name : List ℕ)
    (code : Code) → ComeByAsking o es cube dim d.names → (here ≡ true → IsAskedForIn o es cube dim name)
    → ComeByAsking o es cube dim (if here then with_code d name code else d).names
come-where true o es cube dim d name code h asked = come-coded o es cube dim d name code h (asked refl)
come-where false o es cube dim d name code h asked = h

come-call : (o : Opening) (b : ℕ) (call : ClientCall) (es : List CoreEvent) (cube dim : ℕ) (d : Dictionary)
    → FitsCall o b call (client_state o b es) → ComeByAsking o (By b call ∷ es) cube dim d.names
    → ComeByAsking o (By b call ∷ es) cube dim (dictionary_after cube dim call d).names
come-call o b (OnNames (Encode c e name code)) es cube dim d fits h =
    let now = By b (OnNames (Encode c e name code)) ∷ es in
    come-where (c == cube && e == dim) o now cube dim d name code h (λ here.
    let both = both-true (c == cube) (e == dim) here in
    let same_cube = eqb-true c cube both.0 in
    let same_dim = eqb-true e dim both.1 in
    coe 0 1 (i. IsAskedForIn o now (same_cube i) (same_dim i) name) (asks-now o b c e name code es fits))
come-call o b (OnNames (FindName c e name number)) es cube dim d fits h = h
come-call o b (OnNames (CopyFrom c e from names)) es cube dim d fits h = h
come-call o b (OnDesk call) es cube dim d fits h = h
come-call o b (Post mail job) es cube dim d fits h = h
come-call o b (Fetch mail answer) es cube dim d fits h = h
come-call o b (CloseMail mail) es cube dim d fits h = h
come-call o b NoChange es cube dim d fits h = h

come-run : (o : Opening) (es : List CoreEvent) (cube dim : ℕ) → IsCoreRun o es
    → ComeByAsking o es cube dim (dictionary_of o cube dim es).names
come-run o [] cube dim run = record {
  rest = [];
  whole = sym (append-nil (o.names cube dim).names);
  each = All-nil (IsAskedForIn o [] cube dim);
}
come-run o (By b call ∷ es) cube dim run =
    come-call o b call es cube dim (dictionary_of o cube dim es) run.1.fits
    (come-on o (By b call) es cube dim (dictionary_of o cube dim es).names (come-run o es cube dim run.0))
come-run o (At mail move ∷ es) cube dim run =
    come-on o (At mail move) es cube dim (dictionary_of o cube dim es).names (come-run o es cube dim run.0)

-- ---- on record

none-enumerated : {X Y : Type 0} (f : ℕ × X → Y) (n : ℕ) (xs : List X) (k : ℕ) → slice_get xs k ≡ None
    → slice_get (map f (enumerate_from n xs)) k ≡ None
none-enumerated f n [] k is = refl
none-enumerated f n (x ∷ xs) zero is = absurd (none-some x (sym is))
none-enumerated f n (x ∷ xs) (suc k) is = none-enumerated f (n + 1) xs k is

-- The names that are kept of a cube are those of the opening; of one that is made in the run none are.
kept-are : (o : Opening) (es : List CoreEvent) (cube place : ℕ) (d : Decl) (dim : DimDecl)
    → OpensWithNames o (desk_of o es).cubes → slice_get (desk_of o es).cubes cube ≡ Some d
    → slice_get d.dims place ≡ Some dim → names_at (names_left o []) cube place ≡ (o.names cube place).names
kept-are o es cube place d dim opens is_cube is_dim = at (slice_get o.cubes cube) refl
  where
    at : (there : Option Decl) → slice_get o.cubes cube ≡ there
        → names_at (names_left o []) cube place ≡ (o.names cube place).names
    at None is =
        ap (λ (lists : Option (List (List (List ℕ)))).
        unwrap_or (option_and_then (λ dims. slice_get dims place) lists) [])
        (none-enumerated (λ (p : ℕ × Decl). names_of_dims (names_in o [] p.0) p.1.dims) 0 o.cubes cube is)
        ∙ sym (opens.none cube place (beyond o.cubes cube is))
    at (Some x) is =
        let later : slice_get (desk_of o es).cubes cube ≡ Some x =
        ap (λ (all : List CoreEvent). slice_get (desk_of o all).cubes cube) (sym (append-nil es))
        ∙ cube-stays o es [] cube x is
        in
        let same : x ≡ d = same_Some x d (sym later ∙ is_cube) in
        names-are (names_in o []) o.cubes cube place d dim (is ∙ ap Some same) is_dim

drop-front : {X : Type 0} (xs ys : List X) → drop (length xs) (xs ++ ys) ≡ ys
drop-front [] ys = refl
drop-front (x ∷ xs) ys = drop-front xs ys

pub names-come : (o : Opening) (given : RunScripts) (es : List CoreEvent) (cube place : ℕ) (d : Decl) (dim : DimDecl)
    → IsScriptedRun o given es → HasDimension (record_of o given es) cube place d dim
    → All (IsAskedForIn o es cube place)
    (drop (length (names_at (record_of o given es).kept_names cube place))
    (names_at (record_of o given es).names cube place))
names-come o given es cube place d dim r has =
    let desk = cube-of-desk o given es cube place d dim r.run r.follow has in
    let kept : names_at (names_left o []) cube place ≡ (o.names cube place).names =
    kept-are o es cube place d dim r.opens.names desk has.dim_is
    in
    let come = come-run o es cube place r.run in
    let names = names-on-record o given es cube place d dim r.run r.follow has ∙ come.whole in
    subst (All (IsAskedForIn o es cube place))
    (sym ((λ i. drop (length (kept i)) (names i)) ∙ drop-front (o.names cube place).names come.rest)) come.each
