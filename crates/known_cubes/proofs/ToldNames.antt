-- A client knows the names whose numbers it was told.
use Rattle.std.proofs.Common.{◌≡◌, ◌∙◌, ℕ, zero, suc, ◌+◌, ◌<◌, ◌==◌, ◌&&◌, Bool, true, List, [], ◌∷◌, ◌++◌, slice_get, Option, Some, refl, sym, ap, subst, arith, append_assoc, eq-eqb}
use Rattle.std.specs.List.{AllByRecursion}
use Rattle.std.proofs.lemmas.List.Elements.{All-contains, All-from_recursion, Contains-append_left, Contains-push}
use Rattle.std.proofs.lemmas.Option.{none-some}
use Rattle.cube_core.specs.Links.{AreEventsAfter}
use Rattle.cube_core.specs.BoardCells.{IsEntryEvent, IsEventOf, client_of}
use Rattle.core_program.specs.Knowing.{IsClientOf, IsLaterRun, Knows}
use Rattle.core_events.proofs.Names.{codes-stay, names-grow, number-is-place}
use Rattle.core_events.specs.Cells.{dictionary_of}
use Rattle.core_events.specs.Clients.{ClientState, client_state, greater_of, greater_where, names_by_number, number_by_code}
use Rattle.core_events.specs.Events.{Opening, Encode, FindName, OnNames, CoreEvent, By}
use Rattle.core_events.specs.Jobs.{CoreJob, JobOutcome}
use Rattle.core_events.specs.Runs.{IsCoreRun}
use Rattle.core_events.specs.ShardView.{ShardView}
use Rattle.core_program.specs.CoreFits.{CoreEntry}
use Rattle.cube_core.specs.declared.cell.CoreAnswer.{CoreAnswer}
use Rattle.cube_core.specs.declared.cell.CoreCall.{CoreCall}
use Rattle.cube_core.specs.declared.cell.CoreCell.{CoreCell}
use Rattle.cube_core.specs.declared.shard.ShardAnswer.{ShardAnswer}
use Rattle.cube_core.specs.declared.shard.ShardCall.{ShardCall}
use Rattle.known_cubes.proofs.DeskCubes.{earlier-run}
use Rattle.known_cubes.proofs.OwnCalls.{all-own, names-rise, own-caller, state-after, told-own}
use Rattle.known_cubes.specs.KnownNames.{CallsTellNumber, IsToldOfName, TellsOfName, by_encoding, by_finding}

more-names : (names more : List (List ℕ)) (n : ℕ) (name : List ℕ) → slice_get names n ≡ Some name
    → slice_get (names ++ more) n ≡ Some name
more-names [] more n name is = absurd (none-some name is)
more-names (first ∷ names) more zero name is = is
more-names (first ∷ names) more (suc n) name is = more-names names more n name is

-- A number that is told in this dimension is below what is then known.
number-below : (cube dim number n : ℕ) (told : Option ℕ) → told ≡ Some number
    → number < greater_where (cube == cube && dim == dim) (names_by_number told) n
number-below cube dim number n told is =
    let here : (cube == cube && dim == dim) ≡ true = λ i. eq-eqb cube cube refl i && eq-eqb dim dim refl i in
    let below : number < greater_of (Some (number + 1)) n = omega arith in
    subst (λ (b : Bool). number < greater_where b (names_by_number told) n) (sym here)
    (subst (λ (t : Option ℕ). number < greater_of (names_by_number t) n) (sym is) below)

module _ {S : Type 0} (fits : Opening → ℕ → ShardCall → Type 0) (stands : Opening → ℕ → ℕ → S → ShardView → Type 0)
    (says : CoreJob → ShardAnswer → JobOutcome → Type 0) (o : Opening) where
  abbrev event : List CoreEvent → CoreEntry → CoreEvent → Type 0
  event es e x = IsEntryEvent fits stands says o es e x

  tells-client : (es : List CoreEvent) (b k : ℕ) {c : CoreCall} {a : CoreAnswer} (x : CoreEvent) (cube dim : ℕ)
      (name : List ℕ) (number : ℕ) → TellsOfName cube dim name number c a → IsEventOf fits stands says o es b k c a x
      → number < (client_state o (client_of o b) (x ∷ es)).names cube dim
  tells-client es b k x cube dim name number (by_encoding shape code gives) is =
      let client = client_of o b in
      subst (λ (state : ClientState). number < state.names cube dim)
      (sym (state-after o client (OnNames (Encode cube dim name code)) x es is.1))
      (number-below cube dim number ((client_state o client es).names cube dim) (number_by_code code) gives)
  tells-client es b k x cube dim name number by_finding is =
      let client = client_of o b in
      subst (λ (state : ClientState). number < state.names cube dim)
      (sym (state-after o client (OnNames (FindName cube dim name (Some number))) x es is.1))
      (number-below cube dim number ((client_state o client es).names cube dim) (Some number) refl)

  -- The name has the number from then on.
  name-stays : (later es : List CoreEvent) (b k : ℕ) {c : CoreCall} {a : CoreAnswer} (x : CoreEvent) (cube dim : ℕ)
      (name : List ℕ) (number : ℕ) → TellsOfName cube dim name number c a → IsEventOf fits stands says o es b k c a x
      → IsCoreRun o (x ∷ es) → slice_get (dictionary_of o cube dim (later ++ x ∷ es)).names number ≡ Some name
  name-stays later es b k x cube dim name number (by_encoding shape code gives) is run =
      let client = client_of o b in
      let coded = By client (OnNames (Encode cube dim name code)) in
      let next : IsCoreRun o (coded ∷ es) = coe 0 1 (i. IsCoreRun o (is.1 i ∷ es)) run in
      ap (λ (y : CoreEvent). slice_get (dictionary_of o cube dim (later ++ y ∷ es)).names number) is.1
      ∙ codes-stay o client cube dim number name code later es next gives
  name-stays later es b k x cube dim name number by_finding is run =
      let client = client_of o b in
      let found = By client (OnNames (FindName cube dim name (Some number))) in
      let next : IsCoreRun o (found ∷ es) = coe 0 1 (i. IsCoreRun o (is.1 i ∷ es)) run in
      let place = number-is-place (dictionary_of o cube dim es) name number (sym next.1.says) in
      let more = names-grow o cube dim later (found ∷ es) in
      ap (λ (y : CoreEvent). slice_get (dictionary_of o cube dim (later ++ y ∷ es)).names number) is.1
      ∙ ap (λ (names : List (List ℕ)). slice_get names number) more.1
      ∙ more-names (dictionary_of o cube dim es).names more.0 number name place

  -- Events that come behind earlier ones.
  behind : (log : List CoreEntry) (earlier es : List CoreEvent) → AreEventsAfter event earlier log es
      → (later : List CoreEvent) × (es ≡ later ++ earlier)
  behind [] earlier es are = ([], sym are)
  behind (e ∷ log) earlier es are =
      let rest = behind log (are.0 ∷ earlier) es are.2 in
      (rest.0 ++ are.0 ∷ [], rest.1 ∙ sym (append_assoc rest.0 (are.0 ∷ []) earlier))

  told-names : (cube dim : ℕ) (name : List ℕ) (number : ℕ) (log : List CoreEntry) (earlier es : List CoreEvent)
      → AreEventsAfter event earlier log es → IsCoreRun o es
      → AllByRecursion (λ (e : CoreEntry). TellsOfName cube dim name number e.call e.answer
      → slice_get (dictionary_of o cube dim es).names number ≡ Some name) log
  told-names cube dim name number [] earlier es are run = tt
  told-names cube dim name number (e ∷ log) earlier es are run =
      let rest = behind log (are.0 ∷ earlier) es are.2 in (
        λ tells. ap (λ (l : List CoreEvent). slice_get (dictionary_of o cube dim l).names number) rest.1
            ∙ name-stays rest.0 earlier e.caller e.cell are.0 cube dim name number tells are.1
            (earlier-run fits stands says o log (are.0 ∷ earlier) es are.2 run),
        told-names cube dim name number log (are.0 ∷ earlier) es are.2 run,
      )

  -- The name has the number in a later run.
  pub number-stands : (cells : List (CoreCell S)) (caller cube dim : ℕ) (name : List ℕ) (number : ℕ)
      (own log : List CoreEntry) (run : List CoreEvent) → IsLaterRun fits stands says cells o caller own log run
      → IsToldOfName own cube dim name number → slice_get (dictionary_of o cube dim run).names number ≡ Some name
  number-stands cells caller cube dim name number own log run later told =
      let P : CoreEntry → Type 0 =
      λ e. TellsOfName cube dim name number e.call e.answer
      → slice_get (dictionary_of o cube dim run).names number ≡ Some name
      in
      let all = told-names cube dim name number log [] run later.events later.is_run in
      All-contains P own told.entry (All-from_recursion P own (all-own P caller own log later.begins all)) told.among
      told.tells

-- The client knows of it.
module _ {S : Type 0} (fits : Opening → ℕ → ShardCall → Type 0) (stands : Opening → ℕ → ℕ → S → ShardView → Type 0)
    (says : CoreJob → ShardAnswer → JobOutcome → Type 0) (cells : List (CoreCell S)) where
  pub knows-number : (caller client cube dim : ℕ) (name : List ℕ) (number : ℕ) (own : List CoreEntry)
      → IsClientOf fits stands says cells caller client → IsToldOfName own cube dim name number
      → Knows fits stands says cells caller client own (CallsTellNumber client cube dim number)
  knows-number caller client cube dim name number own acts told o log run es later are =
      let same = acts.client_is o log later.opens in
      told-own o client (λ k. k.names cube dim) (names-rise o client cube dim) (event fits stands says o) caller number
      (TellsOfName cube dim name number)
      (λ earlier e x by is tells.
      subst (λ (n : ℕ). number < (client_state o n (x ∷ earlier)).names cube dim) (ap (client_of o) by ∙ sym same)
      (tells-client fits stands says o earlier e.caller e.cell x cube dim name number tells is))
      own es told.entry (own-caller caller own log later.begins) are told.among told.tells

-- It is told by its newest call, or was by earlier ones.
pub told-newest : (own : List CoreEntry) (e : CoreEntry) (cube dim : ℕ) (name : List ℕ) (number : ℕ)
    → TellsOfName cube dim name number e.call e.answer → IsToldOfName (own ++ e ∷ []) cube dim name number
told-newest own e cube dim name number tells = record { entry = e; among = Contains-push own e; tells = tells }

pub told-later : (own more : List CoreEntry) (cube dim : ℕ) (name : List ℕ) (number : ℕ)
    → IsToldOfName own cube dim name number
    → IsToldOfName (own ++ more) cube dim name number
told-later own more cube dim name number told =
    record { entry = told.entry; among = Contains-append_left own more told.entry told.among; tells = told.tells }
