-- The desk's cubes in a run are those of the opening and then those that its history makes.
use Rattle.std.proofs.Common.{◌≡◌, ◌∙◌, ℕ, zero, suc, ◌+◌, ◌==◌, Bool, true, false, List, [], ◌∷◌, ◌++◌, drop, length, slice_get, Option, Some, None, refl, sym, ap, subst, arith, eqb-true, eq-eqb, ne_eqb, if◌then◌else◌}
use Rattle.std.specs.List.{AllByRecursion}
use Rattle.std.proofs.lemmas.Bool.{eqb-false}
use Rattle.std.proofs.lemmas.Option.{none-some}
use Rattle.aosi_desk.specs.declared.cube.CubeAnswer.TheVariants.{Created, Exists, TooMany}
use Rattle.aosi_desk.specs.declared.cube.CubeFound.TheVariants.{Found, Unknown}
use Rattle.aosi_desk.specs.Desks.{DeskState, IsFound}
use Rattle.cube_language.specs.declared.decl.Decl.{Decl}
use Rattle.cube_schema.specs.Schemas.{cube_of}
use Rattle.cube_core.specs.Links.{AreEventsAfter, AreEventsOf}
use Rattle.cube_core.specs.BoardCells.{AnswerSays, IsEntryEvent, IsEventOf, client_of, job_asked}
use Rattle.cube_core.proofs.OffCells.{mail-off, names-off}
use Rattle.core_cells.specs.declared.desk.DeskAnswer.{DeskAnswer}
use Rattle.core_cells.specs.declared.desk.DeskAnswer.TheVariants as said
use Rattle.core_cells.specs.declared.desk.DeskCall.{DeskCall}
use Rattle.core_cells.specs.declared.desk.DeskCall.TheVariants as asked
use Rattle.core_events.specs.Cells.{desk_after, desk_of}
use Rattle.core_events.specs.Clients.{ClientState, client_state}
use Rattle.core_events.specs.Events.{Opening, ClientCall, CoreEvent, By, At}
use Rattle.core_events.specs.Jobs.{CoreJob, JobOutcome}
use Rattle.core_events.specs.Runs.{IsCoreRun, CallSays}
use Rattle.core_events.specs.ShardView.{ShardView}
use Rattle.cube_core.proofs.DeskLinks as links
use Rattle.cube_core.specs.DeskEvents.{desk_event, is_on_desk}
use Rattle.core_program.specs.CoreFits.{CoreEntry, OpensCells, decl_at, decl_made_by, decl_made_in, first_decl}
use Rattle.cube_core.specs.declared.cell.CoreAnswer.{CoreAnswer}
use Rattle.cube_core.specs.declared.cell.CoreAnswer.TheVariants as answer
use Rattle.cube_core.specs.declared.cell.CoreCall.{CoreCall}
use Rattle.cube_core.specs.declared.cell.CoreCall.TheVariants as call
use Rattle.cube_core.specs.declared.cell.CoreCell.{CoreCell}
use Rattle.cube_core.specs.declared.shard.ShardAnswer.{ShardAnswer}
use Rattle.cube_core.specs.declared.shard.ShardCall.{ShardCall}
use Rattle.known_cubes.proofs.CubesMade.{cube-made}
use Rattle.known_cubes.specs.KnownCubes.{TellsOfCube, by_listing, by_making, by_search}

-- The first of two declarations.

first-none : (found : Option Decl) → first_decl found None ≡ found
first-none None = refl
first-none (Some decl) = refl

first-first : (one two three : Option Decl)
    → first_decl (first_decl one two) three ≡ first_decl one (first_decl two three)
first-first None two three = refl
first-first (Some decl) two three = refl

-- A declaration that stands behind others.

suc-test : (a b : ℕ) (t : Bool) → (a == b) ≡ t → (suc a == suc b) ≡ t
suc-test a b true is = eq-eqb (suc a) (suc b) (ap suc (eqb-true a b is))
suc-test a b false is = ne_eqb (suc a) (suc b) (λ same. eqb-false a b is (omega (arith, same)))

abbrev decl_where : Decl → Bool → Option Decl
decl_where decl here = if here then Some decl else None

pushed : (cubes : List Decl) (decl : Decl) (place : ℕ) → slice_get (cubes ++ decl ∷ []) place
    ≡ first_decl (slice_get cubes place) (decl_where decl (length cubes == place))
pushed [] decl zero = refl
pushed [] decl (suc place) = ap (decl_where decl) (sym (ne_eqb 0 (suc place) (λ same. omega (arith, same))))
pushed (c ∷ cubes) decl zero = refl
pushed (c ∷ cubes) decl (suc place) =
    let next = suc-test (length cubes) place (length cubes == place) refl in
    pushed cubes decl place ∙ ap (λ (here : Bool). first_decl (slice_get cubes place) (decl_where decl here)) (sym next)

last-place : (cubes : List Decl) (decl : Decl) → slice_get (cubes ++ decl ∷ []) (length cubes) ≡ Some decl
last-place [] decl = refl
last-place (c ∷ cubes) decl = last-place cubes decl

-- A cube that is listed from a place on.
listed : (cubes : List Decl) (from n place : ℕ) (decl : Decl) → from + n ≡ place
    → slice_get (drop from cubes) n ≡ Some decl → slice_get cubes place ≡ Some decl
listed cubes zero n place decl at is = let same : place ≡ n = omega (arith, at) in ap (slice_get cubes) same ∙ is
listed [] (suc from) n place decl at is = absurd (none-some decl is)
listed (c ∷ cubes) (suc from) n zero decl at is = absurd (omega (arith, at))
listed (c ∷ cubes) (suc from) n (suc place) decl at is = listed cubes from n place decl (omega (arith, at)) is

-- The desk's cube at a place.
abbrev cube_at : Opening → ℕ → List CoreEvent → Option Decl
cube_at o place es = slice_get (desk_of o es).cubes place

-- What a call on the desk makes of its cubes.

left : (o : Opening) (es : List CoreEvent) (place : ℕ) → cube_at o place es ≡ first_decl (cube_at o place es) None
left o es place = sym (first-none (cube_at o place es))

desk-cubes : (o : Opening) (a : ℕ) (k : ClientState) (es : List CoreEvent) (c : DeskCall) (x : DeskAnswer) (place : ℕ)
    → CallSays o es a (desk_event a k c x) → slice_get (desk_after a (desk_event a k c x) (desk_of o es)).cubes place
    ≡ first_decl (cube_at o place es) (decl_made_by place (call.Desk c) (answer.Desk x))
desk-cubes o a k es (asked.CreateCube session statement decl) (said.Created (Created epoch at)) place says =
    pushed (desk_of o es).cubes decl place
    ∙ ap (λ (n : ℕ). first_decl (cube_at o place es) (decl_where decl (n == place)))
    (sym (cube-made (desk_of o es) decl.name epoch at says).last)
desk-cubes o a k es (asked.CreateCube session statement decl) (said.Created Exists) place says = left o es place
desk-cubes o a k es (asked.CreateCube session statement decl) (said.Created TooMany) place says = left o es place
desk-cubes o a k es (asked.FindCube session statement name) (said.Found (Found at decl)) place says = left o es place
desk-cubes o a k es (asked.FindCube session statement name) (said.Found Unknown) place says = left o es place
desk-cubes o a k es (asked.OpenWrite session statement) (said.Opened s) place says = left o es place
desk-cubes o a k es (asked.OpenRead number statement) (said.Opened s) place says = left o es place
desk-cubes o a k es (asked.Commit session statement) said.Done place says = left o es place
desk-cubes o a k es (asked.AbortEnd session statement cause) said.Done place says = left o es place
desk-cubes o a k es (asked.CloseRead number statement) said.Done place says = left o es place
desk-cubes o a k es (asked.Note note) (said.Counted shown) place says = left o es place
desk-cubes o a k es (asked.CubesFrom from) (said.Cubes cubes) place says = left o es place
desk-cubes o a k es asked.RoundOpen (said.Round round) place says = left o es place
desk-cubes o a k es (asked.RoundClose epoch end) said.Done place says = left o es place
desk-cubes o a k es asked.Counters (said.Counted shown) place says = left o es place
desk-cubes o a k es asked.StoreFailed (said.Failed failed) place says = left o es place
desk-cubes o a k es c x place says = left o es place

-- A run before its newest event.
before : (o : Opening) (x : CoreEvent) (es : List CoreEvent) → IsCoreRun o (x ∷ es) → IsCoreRun o es
before o (By a c) es run = run.0
before o (At mail move) es run = run.0

-- The event of a caller's call on the desk, and what the desk says to it.
abbrev desk_event_of : Opening → List CoreEvent → ℕ → DeskCall → DeskAnswer → ClientCall
desk_event_of o es caller c a = let client = client_of o caller in desk_event client (client_state o client es) c a

desk-says : (o : Opening) (es : List CoreEvent) (caller : ℕ) (c : DeskCall) (a : DeskAnswer) (x : CoreEvent)
    → x ≡ By (client_of o caller) (desk_event_of o es caller c a) → IsCoreRun o (x ∷ es)
    → CallSays o es (client_of o caller) (desk_event_of o es caller c a)
desk-says o es caller c a x is run =
    let next : IsCoreRun o (By (client_of o caller) (desk_event_of o es caller c a) ∷ es) =
    coe 0 1 (i. IsCoreRun o (is i ∷ es)) run
    in
    next.1.says

module _ {S : Type 0} (fits : Opening → ℕ → ShardCall → Type 0) (stands : Opening → ℕ → ℕ → S → ShardView → Type 0)
    (says : CoreJob → ShardAnswer → JobOutcome → Type 0) (o : Opening) where
  abbrev event : List CoreEvent → CoreEntry → CoreEvent → Type 0
  event es e x = IsEntryEvent fits stands says o es e x

  off-desk : (es : List CoreEvent) (x : CoreEvent) (place : ℕ) → is_on_desk x ≡ false
      → cube_at o place (x ∷ es) ≡ first_decl (cube_at o place es) None
  off-desk es x place off =
      ap (λ (desk : DeskState). slice_get desk.cubes place) (links.others o x es off) ∙ left o es place

  -- What an entry makes of the cubes.
  entry-cubes : (es : List CoreEvent) (caller k : ℕ) (c : CoreCall) (a : CoreAnswer) (x : CoreEvent) (place : ℕ)
      → IsEventOf fits stands says o es caller k c a x → IsCoreRun o (x ∷ es)
      → cube_at o place (x ∷ es) ≡ first_decl (cube_at o place es) (decl_made_by place c a)
  entry-cubes es caller k (call.Desk c) (answer.Desk a) x place is run =
      let client = client_of o caller in
      ap (λ (y : CoreEvent). cube_at o place (y ∷ es)) is.2
      ∙ desk-cubes o client (client_state o client es) es c a place (desk-says o es caller c a x is.2 run)
  entry-cubes es caller k (call.Names c) (answer.Names a) x place is run =
      off-desk es x place (ap is_on_desk is.1 ∙ (names-off (client_of o caller) c a).off_desk)
  entry-cubes es caller k (call.Shard c) (answer.Shard a) x place is run = off-desk es x place (ap is_on_desk is.is)
  entry-cubes es caller k (call.Mail c) (answer.Mail a) x place is run =
      off-desk es x place (mail-off job_asked (AnswerSays says) o is.0 es c a x is.3).off_desk
  entry-cubes es caller k c a x place is run = absurd is

  -- A run before the events of entries.
  pub earlier-run : (log : List CoreEntry) (earlier es : List CoreEvent) → AreEventsAfter event earlier log es
      → IsCoreRun o es → IsCoreRun o earlier
  earlier-run [] earlier es are run = subst (λ (l : List CoreEvent). IsCoreRun o l) (sym are) run
  earlier-run (e ∷ log) earlier es are run =
      before o are.0 earlier (earlier-run log (are.0 ∷ earlier) es are.2 run)

  -- What entries make of the cubes.
  made-after : (log : List CoreEntry) (earlier es : List CoreEvent) (place : ℕ)
      → AreEventsAfter event earlier log es → IsCoreRun o es
      → cube_at o place es ≡ first_decl (cube_at o place earlier) (decl_made_in place log)
  made-after [] earlier es place are run = ap (cube_at o place) (sym are) ∙ left o earlier place
  made-after (e ∷ log) earlier es place are run =
      let made = decl_made_in place log in
      let next = earlier-run log (are.0 ∷ earlier) es are.2 run in
      made-after log (are.0 ∷ earlier) es place are.2 run
      ∙ ap (λ (found : Option Decl). first_decl found made)
      (entry-cubes earlier e.caller e.cell e.call e.answer are.0 place are.1 next)
      ∙ first-first (cube_at o place earlier) (decl_made_by place e.call e.answer) made

  pub history-cubes : (log : List CoreEntry) (es : List CoreEvent) (place : ℕ) → AreEventsOf event log es
      → IsCoreRun o es → slice_get (desk_of o es).cubes place ≡ decl_at o.cubes place log
  history-cubes log es place are run = made-after log [] es place are run

  pub cube-shapes : (cells : List (CoreCell S)) (log : List CoreEntry) (es : List CoreEvent) (place : ℕ) (decl : Decl)
      → OpensCells fits stands says o cells log → AreEventsOf event log es → IsCoreRun o es
      → slice_get (desk_of o es).cubes place ≡ Some decl → o.shapes place ≡ cube_of decl
  cube-shapes cells log es place decl opens are run there =
      opens.shapes place decl (sym (history-cubes log es place are run) ∙ there)

  -- A cube that the desk tells of is there.
  told-now : (es : List CoreEvent) (caller k : ℕ) {c : CoreCall} {a : CoreAnswer} (x : CoreEvent) (name : List ℕ)
      (place : ℕ) (decl : Decl) → TellsOfCube name place decl c a → IsEventOf fits stands says o es caller k c a x
      → IsCoreRun o (x ∷ es) → IsFound (desk_of o (x ∷ es)).cubes name (Found place decl)
  told-now es caller k x name place decl (by_search session statement) is run =
      let found =
      desk-says o es caller (asked.FindCube session statement name) (said.Found (Found place decl)) x is.2 run
      in
      (ap (λ (y : CoreEvent). cube_at o place (y ∷ es)) is.2 ∙ found.0, found.1)
  told-now es caller k x name place decl (by_making session statement epoch named) is run =
      let cubes = (desk_of o es).cubes in
      let made =
      desk-says o es caller (asked.CreateCube session statement decl) (said.Created (Created epoch place)) x is.2 run
      in
      let last = (cube-made (desk_of o es) decl.name epoch place made).last in (
        ap (λ (y : CoreEvent). cube_at o place (y ∷ es)) is.2
            ∙ ap (λ (n : ℕ). slice_get (cubes ++ decl ∷ []) n) last ∙ last-place cubes decl,
        named,
      )
  told-now es caller k x name place decl (by_listing from n cubes at one named) is run =
      let list = desk-says o es caller (asked.CubesFrom from) (said.Cubes cubes) x is.2 run in
      let of = ap (λ (decls : List Decl). slice_get decls n) (sym list) ∙ one in
      let there = listed (desk_of o es).cubes from n place decl at of in
      (ap (λ (y : CoreEvent). cube_at o place (y ∷ es)) is.2 ∙ there, named)

  -- It stays there.
  stays-there : (log : List CoreEntry) (earlier es : List CoreEvent) (name : List ℕ) (place : ℕ) (decl : Decl)
      → AreEventsAfter event earlier log es → IsCoreRun o es → IsFound (desk_of o earlier).cubes name (Found place decl)
      → IsFound (desk_of o es).cubes name (Found place decl)
  stays-there log earlier es name place decl are run now = (
    made-after log earlier es place are run
        ∙ ap (λ (found : Option Decl). first_decl found (decl_made_in place log)) now.0,
    now.1,
  )

  pub told-cubes : (name : List ℕ) (place : ℕ) (decl : Decl) (log : List CoreEntry) (earlier es : List CoreEvent)
      → AreEventsAfter event earlier log es → IsCoreRun o es
      → AllByRecursion (λ (e : CoreEntry). TellsOfCube name place decl e.call e.answer
      → IsFound (desk_of o es).cubes name (Found place decl)) log
  told-cubes name place decl [] earlier es are run = tt
  told-cubes name place decl (e ∷ log) earlier es are run =
      let next = earlier-run log (are.0 ∷ earlier) es are.2 run in (
        λ tells. stays-there log (are.0 ∷ earlier) es name place decl are.2 run
            (told-now earlier e.caller e.cell are.0 name place decl tells are.1 next),
        told-cubes name place decl log (are.0 ∷ earlier) es are.2 run,
      )
