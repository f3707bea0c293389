-- What a client's own calls tell it stays told, and its own calls are its part of the history.
use Rattle.std.proofs.Common.{◌≡◌, ◌∙◌, ℕ, ◌<◌, ◌+◌, ◌≤◌, ◌==◌, ◌&&◌, Bool, true, false, List, [], ◌∷◌, ◌++◌, length, Option, Some, None, Contains, refl, sym, ap, subst, arith, eqb-true, eq-eqb}
use mathlib.Core.List.{IsPrefix}
use Rattle.std.specs.List.{AllByRecursion}
use Rattle.std.proofs.lemmas.List.Elements.{All-contains, All-filter, All-from_recursion, filter_passes, recursion_from_All}
use Rattle.turn_board.specs.History.{is_by_caller, of_caller}
use Rattle.cube_core.specs.Links.{AreEventsAfter, AreEventsOf, EventOf}
use Rattle.core_events.proofs.Knowledge.{known-by-calls}
use Rattle.core_events.specs.Clients.{ClientState, after_client_call, calls_of, client_after_call, client_state, cubes_at_least, greater_of, greater_where, names_by_number, number_by_code, state_from_calls}
use Rattle.core_events.specs.Events.{Opening, Encode, FindName, CopyFrom, ClientCall, OnNames, CoreEvent, By, At}
use Rattle.core_program.specs.CoreFits.{CoreEntry}
use Rattle.cube_core.specs.declared.cell.CoreAnswer.{CoreAnswer}
use Rattle.cube_core.specs.declared.cell.CoreCall.{CoreCall}

-- The first of the entries of a caller.

all-first : (P : CoreEntry → Type 0) (own later : List CoreEntry) → AllByRecursion P (own ++ later)
    → AllByRecursion P own
all-first P [] later all = tt
all-first P (e ∷ own) later all = (all.0, all-first P own later all.1)

-- What holds of all entries of a history holds of those with which a caller's begin.
pub all-own : (P : CoreEntry → Type 0) (caller : ℕ) (own log : List CoreEntry) → IsPrefix own (of_caller caller log)
    → AllByRecursion P log → AllByRecursion P own
all-own P caller own log begins all =
    let of = All-filter (is_by_caller caller) P log (All-from_recursion P log all) in
    all-first P own begins.0
    (subst (λ (l : List CoreEntry). AllByRecursion P l) (sym begins.1) (recursion_from_All P (of_caller caller log) of))

-- They are the caller's.
abbrev pub IsBy : ℕ → CoreEntry → Type 0
IsBy caller e = e.caller ≡ caller

abbrev PassesFor : ℕ → CoreEntry → Type 0
PassesFor caller e = is_by_caller caller e ≡ true

by-passing : (caller : ℕ) (own : List CoreEntry) → AllByRecursion (PassesFor caller) own
    → AllByRecursion (IsBy caller) own
by-passing caller [] all = tt
by-passing caller (e ∷ own) all = (eqb-true e.caller caller all.0, by-passing caller own all.1)

pub own-caller : (caller : ℕ) (own log : List CoreEntry) → IsPrefix own (of_caller caller log)
    → AllByRecursion (IsBy caller) own
own-caller caller own log begins =
    by-passing caller own
    (all-first (PassesFor caller) own begins.0
    (subst (λ (l : List CoreEntry). AllByRecursion (PassesFor caller) l) (sym begins.1)
    (recursion_from_All (PassesFor caller) (of_caller caller log) (filter_passes (is_by_caller caller) log))))

-- A client's newest call.
pub state-after : (o : Opening) (client : ℕ) (c : ClientCall) (x : CoreEvent) (es : List CoreEvent) → x ≡ By client c
    → client_state o client (x ∷ es) ≡ after_client_call o client c (client_state o client es)
state-after o client c x es is =
    ap (λ (y : CoreEvent). client_state o client (y ∷ es)) is
    ∙ ap (λ (own : Bool). client_after_call o own client c (client_state o client es)) (eq-eqb client client refl)

-- A number of what a client knows that no call lowers, and what an entry tells of it.
module _ (o : Opening) (client : ℕ) (known : ClientState → ℕ)
    (rises : (c : ClientCall) (k : ClientState) → known k ≤ known (after_client_call o client c k)) where
  after-call : (own : Bool) (c : ClientCall) (k : ClientState) → known k ≤ known (client_after_call o own client c k)
  after-call true c k = rises c k
  after-call false c k = omega arith

  after-event : (x : CoreEvent) (es : List CoreEvent)
      → known (client_state o client es) ≤ known (client_state o client (x ∷ es))
  after-event (By b c) es = after-call (b == client) c (client_state o client es)
  after-event (At mail move) es = omega arith

  module _ (event : EventOf CoreCall CoreAnswer) where
    after-log : (log : List CoreEntry) (earlier es : List CoreEvent) → AreEventsAfter event earlier log es
        → known (client_state o client earlier) ≤ known (client_state o client es)
    after-log [] earlier es are =
        let same = ap (λ (l : List CoreEvent). known (client_state o client l)) are in omega (arith, same)
    after-log (e ∷ log) earlier es are =
        let now = after-event are.0 earlier in
        let later = after-log log (are.0 ∷ earlier) es are.2 in
        omega (arith, now, later)

    module _ (caller low : ℕ) (Tells : CoreCall → CoreAnswer → Type 0)
        (tell : (es : List CoreEvent) (e : CoreEntry) (x : CoreEvent) → e.caller ≡ caller → event es e x
        → Tells e.call e.answer → low < known (client_state o client (x ∷ es))) where
      told-after : (own : List CoreEntry) (earlier es : List CoreEvent) → AllByRecursion (IsBy caller) own
          → AreEventsAfter event earlier own es
          → AllByRecursion (λ (e : CoreEntry). Tells e.call e.answer → low < known (client_state o client es)) own
      told-after [] earlier es by are = tt
      told-after (e ∷ own) earlier es by are = (
        λ tells. (let now = tell earlier e are.0 by.0 are.1 tells in
            let later = after-log own (are.0 ∷ earlier) es are.2 in
            omega (arith, now, later)),
        told-after own (are.0 ∷ earlier) es by.1 are.2,
      )

      -- It is told by the calls alone.
      pub told-own : (own : List CoreEntry) (es : List CoreEvent) (e : CoreEntry) → AllByRecursion (IsBy caller) own
          → AreEventsOf event own es
          → Contains own e → Tells e.call e.answer → low < known (state_from_calls o client (calls_of client es))
      told-own own es e by are has tells =
          let P : CoreEntry → Type 0 = λ e. Tells e.call e.answer → low < known (client_state o client es) in
          subst (λ (k : ClientState). low < known k) (known-by-calls o client es)
          (All-contains P own e (All-from_recursion P own (told-after own [] es by are)) has tells)

-- Cubes and names that a client knows of do not become fewer.

greater-rises : (more : Option ℕ) (n : ℕ) → n ≤ greater_of more n
greater-rises None n = omega arith
greater-rises (Some m) n = omega arith

pub cubes-rise : (o : Opening) (client : ℕ) (c : ClientCall) (k : ClientState)
    → k.cubes ≤ (after_client_call o client c k).cubes
cubes-rise o client c k = greater-rises (cubes_at_least c) k.cubes

where-rises : (here : Bool) (more : Option ℕ) (n : ℕ) → n ≤ greater_where here more n
where-rises true more n = greater-rises more n
where-rises false more n = omega arith

pub names-rise : (o : Opening) (client cube dim : ℕ) (c : ClientCall) (k : ClientState)
    → k.names cube dim ≤ (after_client_call o client c k).names cube dim
names-rise o client cube dim (OnNames (Encode c d name code)) k =
    where-rises (c == cube && d == dim) (names_by_number (number_by_code code)) (k.names cube dim)
names-rise o client cube dim (OnNames (FindName c d name number)) k =
    where-rises (c == cube && d == dim) (names_by_number number) (k.names cube dim)
names-rise o client cube dim (OnNames (CopyFrom c d from more)) k =
    where-rises (c == cube && d == dim) (Some (from + length more)) (k.names cube dim)
names-rise o client cube dim c k = omega arith
