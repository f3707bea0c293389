-- Each call on the names, against the event that it is.
use Rattle.std.proofs.Common.{◌≡◌, ◌∙◌, ℕ, ◌==◌, Bool, true, false, true≢false, ◌&&◌, List, ◌∷◌, [], drop, length, bytes_eq, if◌then◌else◌, refl, sym, ap, arith, eqb-true}
use Rattle.std.specs.List.{position}
use Rattle.std.proofs.lemmas.Bool.{eqb-false}
use Rattle.cube_values.specs.declared.shape.CubeShape.{CubeShape}
use Rattle.names_dict.specs.declared.code.Code.{Code}
use Rattle.names_dict.specs.declared.code.Code.TheVariants.{Full}
use Rattle.names_dict.specs.Dictionaries.{Dictionary, code_of, with_code, dictionary_in, dictionary_at, dictionaries_of, dictionary_for, made_dictionaries, encoded_dictionaries, IsTextDimension, IsEncoded, IsCodeFor}
use Rattle.core_cells.specs.NamesCalls.{CanCallNames, NamesStep}
use Rattle.core_cells.specs.declared.names.NamesCall.{NamesCall}
use Rattle.core_cells.specs.declared.names.NamesCall.TheVariants as call
use Rattle.core_cells.specs.declared.names.NamesAnswer.{NamesAnswer}
use Rattle.core_cells.specs.declared.names.NamesAnswer.TheVariants as answer
use Rattle.core_events.specs.Cells.{dictionary_of}
use Rattle.core_events.specs.Clients.{client_state}
use Rattle.core_events.specs.Events.{Opening, OnDesk, OnNames, Post, Fetch, CloseMail, NoChange, ClientCall, CoreEvent, By, At}
use Rattle.core_events.specs.Runs.{IsCoreRun}
use Rattle.core_events.proofs.Names.{told-names}
use Rattle.cube_core.specs.NamesEvents.{names_event, FitsNamesCall, AreNamesOf, is_on_names}
use Rattle.cube_core.proofs.Dictionaries.{placed-other, coded-own, coded-other, encoded-own, names-same}

-- The names of a dimension, as the call looks for them and as the events say.
names-there : (o : Opening) (es : List CoreEvent) (names : List (List Dictionary)) (cube dim : ℕ) → AreNamesOf o es names
    → (dictionary_at names cube dim).names ≡ (dictionary_of o cube dim es).names
names-there o es names cube dim stand =
    names-same (o.shapes cube) (dictionaries_of names cube) dim ∙ ap (λ (d : Dictionary). d.names) (stand cube dim)

pub can : (o : Opening) (a : ℕ) (c : NamesCall) (es : List CoreEvent) (names : List (List Dictionary)) → IsCoreRun o es
    → FitsNamesCall o a c (client_state o a es) → AreNamesOf o es names → CanCallNames names c
can o a (call.Encode cube dim shape name) es names run may stand =
    (may.shape.1, coe 1 0 (i. IsTextDimension (may.shape.0 i) dim) (may.event (answer.Coded Full)).0.texts)
can o a (call.Find cube dim name) es names run may stand = tt
can o a (call.CopyFrom cube dim from) es names run may stand =
    let begins = (may.event (answer.Copied [])).begins in
    let told = told-names o es run a cube dim in
    let same = ap (λ (ns : List (List ℕ)). length ns) (names-there o es names cube dim stand) in
    omega (arith, begins, told, same)

-- The code of a name, as the events say.
code-there : (o : Opening) (es : List CoreEvent) (names : List (List Dictionary)) (shape : CubeShape) (cube dim : ℕ) (name : List ℕ) (code : Code)
    → shape ≡ o.shapes cube → AreNamesOf o es names → IsCodeFor shape names cube dim name code
    → code ≡ code_of (dictionary_of o cube dim es) name
code-there o es names shape cube dim name code same stand is =
    is
    ∙ (λ i. code_of (dictionary_for (same i) names cube dim) name)
    ∙ ap (λ (d : Dictionary). code_of d name) (stand cube dim)

-- The dictionaries after a name got a code: those of its cube, and those of another.
own-cube : (o : Opening) (es : List CoreEvent) (names new : List (List Dictionary)) (cube dim : ℕ) (name : List ℕ) (code : Code)
    → AreNamesOf o es names → IsCodeFor (o.shapes cube) names cube dim name code
    → IsEncoded (o.shapes cube) cube dim name names new code → (k : ℕ) (there : Bool) → (dim == k) ≡ there
    → dictionary_for (o.shapes cube) new cube k
    ≡ (if there then with_code (dictionary_of o cube k es) name code else dictionary_of o cube k es)
own-cube o es names new cube dim name code stand is after k true own =
    let dims = made_dictionaries (o.shapes cube) (dictionaries_of names cube) in
    let same : dim ≡ k = eqb-true dim k own in
    encoded-own (o.shapes cube) names new cube dim k name code after
    ∙ (λ i. dictionary_in (encoded_dictionaries dim name dims code) (sym same i))
    ∙ coded-own dims dim name code is
    ∙ (λ i. with_code (dictionary_in dims (same i)) name code)
    ∙ ap (λ (d : Dictionary). with_code d name code) (stand cube k)
own-cube o es names new cube dim name code stand is after k false own =
    let dims = made_dictionaries (o.shapes cube) (dictionaries_of names cube) in
    encoded-own (o.shapes cube) names new cube dim k name code after
    ∙ coded-other dims dim k name code (λ same. eqb-false dim k own (sym same))
    ∙ stand cube k

any-cube : (o : Opening) (es : List CoreEvent) (names new : List (List Dictionary)) (cube dim : ℕ) (name : List ℕ) (code : Code)
    → AreNamesOf o es names → IsCodeFor (o.shapes cube) names cube dim name code
    → IsEncoded (o.shapes cube) cube dim name names new code → (c k : ℕ) (here : Bool) → (cube == c) ≡ here
    → dictionary_for (o.shapes c) new c k
    ≡ (if here && dim == k then with_code (dictionary_of o c k es) name code else dictionary_of o c k es)
any-cube o es names new cube dim name code stand is after c k true own =
    let same : cube ≡ c = eqb-true cube c own in
    coe 0 1 (i. dictionary_for (o.shapes (same i)) new (same i) k
    ≡ (if dim == k then with_code (dictionary_of o (same i) k es) name code else dictionary_of o (same i) k es))
    (own-cube o es names new cube dim name code stand is after k (dim == k) refl)
any-cube o es names new cube dim name code stand is after c k false own =
    let dims = made_dictionaries (o.shapes cube) (dictionaries_of names cube) in
    ap (λ (n : List (List Dictionary)). dictionary_for (o.shapes c) n c k) after
    ∙ ap (λ (ds : List Dictionary). dictionary_in (made_dictionaries (o.shapes c) ds) k)
    (placed-other names cube c (encoded_dictionaries dim name dims code) (λ same. eqb-false cube c own (sym same)))
    ∙ stand c k

-- What a call makes of a run and of the dictionaries.
abbrev GoesTo : Opening → ℕ → ClientCall → List CoreEvent → List (List Dictionary) → Type 0
GoesTo o a event es new = IsCoreRun o (By a event ∷ es) × AreNamesOf o (By a event ∷ es) new

-- A call that leaves the dictionaries.
kept : (o : Opening) (es : List CoreEvent) (names new : List (List Dictionary)) → new ≡ names → AreNamesOf o es names
    → AreNamesOf o es new
kept o es names new same stand cube dim =
    ap (λ (n : List (List Dictionary)). dictionary_for (o.shapes cube) n cube dim) same ∙ stand cube dim

pub steps : (o : Opening) (a : ℕ) (c : NamesCall) (said : NamesAnswer) (es : List CoreEvent) (names new : List (List Dictionary))
    → IsCoreRun o es → FitsNamesCall o a c (client_state o a es) → AreNamesOf o es names → NamesStep names c said new
    → GoesTo o a (names_event c said) es new
steps o a (call.Encode cube dim shape name) (answer.Coded code) es names new run may stand step =
    let is : IsCodeFor (o.shapes cube) names cube dim name code = coe 0 1 (i. IsCodeFor (may.shape.0 i) names cube dim name code) step.0 in
    let after : IsEncoded (o.shapes cube) cube dim name names new code =
    coe 0 1 (i. IsEncoded (may.shape.0 i) cube dim name names new code) step.1
    in (
      (
        run,
        record { fits = may.event (answer.Coded code); says = code-there o es names shape cube dim name code may.shape.0 stand step.0 },
      ),
      λ c k. any-cube o es names new cube dim name code stand is after c k (cube == c) refl,
    )
steps o a (call.Encode cube dim shape name) answer.NoMemory es names new run may stand step =
    ((run, record { fits = tt; says = tt }), kept o es names new step.1 stand)
steps o a (call.Find cube dim name) (answer.Found number) es names new run may stand step = (
  (
    run,
    record {
      fits = may.event (answer.Found number);
      says = step.0 ∙ ap (λ (ns : List (List ℕ)). position (bytes_eq name) ns) (names-there o es names cube dim stand);
    },
  ),
  kept o es names new step.1 stand,
)
steps o a (call.CopyFrom cube dim from) (answer.Copied copied) es names new run may stand step = (
  (
    run,
    record {
      fits = may.event (answer.Copied copied);
      says = step.0 ∙ ap (λ (ns : List (List ℕ)). drop from ns) (names-there o es names cube dim stand);
    },
  ),
  kept o es names new step.1 stand,
)
steps o a (call.CopyFrom cube dim from) answer.NoMemory es names new run may stand step =
    ((run, record { fits = tt; says = tt }), kept o es names new step stand)
steps o a c said es names new run may stand step = absurd step

pub others : (o : Opening) (event : CoreEvent) (es : List CoreEvent) (names : List (List Dictionary)) → is_on_names event ≡ false
    → AreNamesOf o es names → AreNamesOf o (event ∷ es) names
others o (By a (OnNames c)) es names off stand = absurd (true≢false off)
others o (By a (OnDesk c)) es names off stand = stand
others o (By a (Post mail job)) es names off stand = stand
others o (By a (Fetch mail said)) es names off stand = stand
others o (By a (CloseMail mail)) es names off stand = stand
others o (By a NoChange) es names off stand = stand
others o (At mail move) es names off stand = stand
