-- Each entry of the journal agrees with the list of cubes.
use Rattle.std.proofs.Common.{◌≡◌, ◌∙◌, ℕ, ◌<◌, ◌≤◌, ◌==◌, Bool, true, false, true≢false, List, [], ◌∷◌, ◌++◌, length, refl, ap, arith, eqb-true, length-append, if◌then◌else◌}
use Rattle.std.proofs.lemmas.Bool.{false≢true, eqb-false}
use Rattle.cube_language.specs.CubesText.{cubes_limit}
use Rattle.cube_language.specs.declared.decl.Decl.{Decl}
use Rattle.cube_journal.specs.declared.journal_entry.JournalEntry.{JournalEntry}
use Rattle.cube_journal.specs.declared.journal_entry.JournalEntry.TheVariants as entry
use Rattle.cube_journal.specs.declared.note.Note.TheVariants as note
use Rattle.cube_journal.specs.Legal.{has_cube, CubesAllow, CubesAllowAll, cubes_after}
use Rattle.aosi_desk.specs.declared.answer.RoundAnswer.TheVariants.{Target, Nothing}
use Rattle.aosi_desk.specs.declared.answer.RoundEnd.TheVariants.{Safe, Lost}
use Rattle.aosi_desk.specs.State.{state_of}
use Rattle.aosi_desk.specs.declared.cube.CubeAnswer.{CubeAnswer}
use Rattle.aosi_desk.specs.declared.cube.CubeAnswer.TheVariants.{Created, Exists, TooMany}
use Rattle.aosi_desk.specs.declared.cube.CubeFound.TheVariants.{Found, Unknown}
use Rattle.aosi_desk.specs.Desks.{decl_names, speaks_of_cubes, cubes_after_all}
use Rattle.aosi_desk.proofs.Kept.{allowed-more, cubes_after_all-more, other_entry, cube_allowed, names_more, unknown_fits, exists_fits, too_many_fits}
use Rattle.core_events.specs.Events.{Opening, OpenWrite, OpenRead, Commit, AbortEnd, CloseRead, TakeNote, CreateCube, FindCube, CubesFrom, CountersNow, RoundOpen, RoundClose, StoreFailed, ClientCall, OnDesk, OnNames, Post, Fetch, CloseMail, NoChange, CoreEvent, By, At}
use Rattle.core_events.specs.Cells.{desk_of}
use Rattle.core_events.specs.Runs.{IsCoreRun}
use Rattle.core_serial.specs.Journals.{journal_of, names_spoken}

-- A journal that the cubes allow, and the cubes that it leads to.
pub record FitsCubes (opening names : List (List ℕ)) (journal : List JournalEntry) (cubes : List Decl) : Type 0 where
  pub allowed : CubesAllowAll opening names journal
  pub leads : cubes_after_all opening names journal ≡ decl_names cubes
  pub few : length cubes ≤ cubes_limit

entry-cubes : (opening names : List (List ℕ)) (journal : List JournalEntry) (cubes after : List Decl) (name : List ℕ) (e : JournalEntry)
    → CubesAllow (decl_names cubes) name e → cubes_after (decl_names cubes) name e ≡ decl_names after → length after ≤ cubes_limit
    → FitsCubes opening names journal cubes → FitsCubes opening (names ++ name ∷ []) (journal ++ e ∷ []) after
entry-cubes opening names journal cubes after name e allows leads few f = record {
  allowed = allowed-more opening names journal name e f.allowed (coe 1 0 (i. CubesAllow (f.leads i) name e) allows);
  leads = cubes_after_all-more opening names journal name e f.allowed
      ∙ ap (λ (all : List (List ℕ)). cubes_after all name e) f.leads
      ∙ leads;
  few = few;
}

other-cubes : (opening names : List (List ℕ)) (journal : List JournalEntry) (cubes : List Decl) (e : JournalEntry) → speaks_of_cubes e ≡ false
    → FitsCubes opening names journal cubes → FitsCubes opening (names ++ [] ∷ []) (journal ++ e ∷ []) cubes
other-cubes opening names journal cubes e silent f =
    let fits = other_entry (decl_names cubes) e silent in
    entry-cubes opening names journal cubes cubes [] e fits.0 fits.1 f.few f

-- What the answer to who asks for a cube says of the cubes.

abbrev is_created : CubeAnswer → Bool
is_created (Created epoch place) = true
is_created answer = false

abbrev is_there : CubeAnswer → Bool
is_there Exists = true
is_there answer = false

created-new : (has full : Bool) (epoch place ec n : ℕ) → Created epoch place ≡ (if has then Exists else (if full then TooMany else Created ec n))
    → (has ≡ false) × (full ≡ false)
created-new true full epoch place ec n e = absurd (true≢false (ap is_created e))
created-new false true epoch place ec n e = absurd (true≢false (ap is_created e))
created-new false false epoch place ec n e = (refl, refl)

exists-there : (has full : Bool) (ec n : ℕ) → Exists ≡ (if has then Exists else (if full then TooMany else Created ec n)) → has ≡ true
exists-there true full ec n e = refl
exists-there false true ec n e = absurd (true≢false (ap is_there e))
exists-there false false ec n e = absurd (true≢false (ap is_there e))

full-without : (has full : Bool) (ec n : ℕ) → TooMany ≡ (if has then Exists else (if full then TooMany else Created ec n))
    → (has ≡ false) × (full ≡ true)
full-without true full ec n e = absurd (false≢true (ap is_there e))
full-without false true ec n e = (refl, refl)
full-without false false ec n e = absurd (false≢true (ap is_created e))

abbrev CubesFit : Opening → List CoreEvent → Type 0
CubesFit o es = FitsCubes (decl_names o.cubes) (names_spoken es) (journal_of o es) (desk_of o es).cubes

call-cubes : (o : Opening) (es : List CoreEvent) (b : ℕ) (call : ClientCall) → IsCoreRun o (By b call ∷ es) → CubesFit o es
    → CubesFit o (By b call ∷ es)
call-cubes o es b (OnDesk (OpenWrite statement epoch deps)) run f =
    other-cubes (decl_names o.cubes) (names_spoken es) (journal_of o es) (desk_of o es).cubes (entry.Begin b statement epoch deps) refl f
call-cubes o es b (OnDesk (OpenRead number statement epoch)) run f =
    other-cubes (decl_names o.cubes) (names_spoken es) (journal_of o es) (desk_of o es).cubes (entry.Read number statement epoch) refl f
call-cubes o es b (OnDesk (Commit statement epoch)) run f =
    other-cubes (decl_names o.cubes) (names_spoken es) (journal_of o es) (desk_of o es).cubes (entry.Committed b statement epoch) refl f
call-cubes o es b (OnDesk (AbortEnd statement epoch cause)) run f =
    other-cubes (decl_names o.cubes) (names_spoken es) (journal_of o es) (desk_of o es).cubes (entry.Aborted b statement epoch cause) refl f
call-cubes o es b (OnDesk (CloseRead number statement)) run f =
    other-cubes (decl_names o.cubes) (names_spoken es) (journal_of o es) (desk_of o es).cubes (entry.ReadEnd number statement) refl f
call-cubes o es b (OnDesk (TakeNote (note.Refused session statement code) counters)) run f =
    other-cubes (decl_names o.cubes) (names_spoken es) (journal_of o es) (desk_of o es).cubes (entry.Refused session statement code)
    run.1.fits.allowed.1.other f
call-cubes o es b (OnDesk (TakeNote (note.Cleared session statement) counters)) run f =
    other-cubes (decl_names o.cubes) (names_spoken es) (journal_of o es) (desk_of o es).cubes (entry.Cleared session statement) refl f
call-cubes o es b (OnDesk (TakeNote (note.Show session statement) counters)) run f =
    other-cubes (decl_names o.cubes) (names_spoken es) (journal_of o es) (desk_of o es).cubes (entry.Show session statement) refl f
call-cubes o es b (OnDesk (TakeNote (note.Flushed session statement) counters)) run f =
    other-cubes (decl_names o.cubes) (names_spoken es) (journal_of o es) (desk_of o es).cubes (entry.Flushed session statement) refl f
call-cubes o es b (OnDesk (TakeNote (note.Purged session statement epoch) counters)) run f =
    other-cubes (decl_names o.cubes) (names_spoken es) (journal_of o es) (desk_of o es).cubes (entry.Purged session statement epoch) refl f
call-cubes o es b (OnDesk (CreateCube statement decl (Created epoch place))) run f =
    let cubes = (desk_of o es).cubes in
    let new =
    created-new (has_cube (decl_names cubes) decl.name) (length cubes == cubes_limit) epoch place (state_of (desk_of o es).register).ec (length cubes)
    run.1.says
    in
    let other = eqb-false (length cubes) cubes_limit new.1 in
    let most = f.few in
    let room : length cubes < 16 = omega (arith, other, most) in
    let more = length-append cubes (decl ∷ []) in
    entry-cubes (decl_names o.cubes) (names_spoken es) (journal_of o es) cubes (cubes ++ decl ∷ []) decl.name (entry.Cube b statement epoch)
    (cube_allowed cubes decl b statement epoch room new.0) (names_more cubes (cubes ++ decl ∷ []) decl refl) (omega (arith, room, more)) f
call-cubes o es b (OnDesk (CreateCube statement decl Exists)) run f =
    let cubes = (desk_of o es).cubes in
    let there =
    exists-there (has_cube (decl_names cubes) decl.name) (length cubes == cubes_limit) (state_of (desk_of o es).register).ec (length cubes) run.1.says
    in
    entry-cubes (decl_names o.cubes) (names_spoken es) (journal_of o es) cubes cubes decl.name (entry.Refused b statement 19)
    (exists_fits cubes decl.name there) refl f.few f
call-cubes o es b (OnDesk (CreateCube statement decl TooMany)) run f =
    let cubes = (desk_of o es).cubes in
    let none =
    full-without (has_cube (decl_names cubes) decl.name) (length cubes == cubes_limit) (state_of (desk_of o es).register).ec (length cubes) run.1.says
    in
    entry-cubes (decl_names o.cubes) (names_spoken es) (journal_of o es) cubes cubes decl.name (entry.Refused b statement 21)
    (too_many_fits cubes decl.name (eqb-true (length cubes) cubes_limit none.1) none.0) refl f.few f
call-cubes o es b (OnDesk (FindCube statement name (Found place decl))) run f = f
call-cubes o es b (OnDesk (FindCube statement name Unknown)) run f =
    let cubes = (desk_of o es).cubes in
    entry-cubes (decl_names o.cubes) (names_spoken es) (journal_of o es) cubes cubes name (entry.Refused b statement 2)
    (unknown_fits cubes name run.1.says) refl f.few f
call-cubes o es b (OnDesk (CubesFrom place cubes)) run f = f
call-cubes o es b (OnDesk (CountersNow counters)) run f = f
call-cubes o es b (OnDesk (RoundOpen (Target from epoch))) run f =
    other-cubes (decl_names o.cubes) (names_spoken es) (journal_of o es) (desk_of o es).cubes (entry.Round epoch) refl f
call-cubes o es b (OnDesk (RoundOpen (Nothing epoch))) run f =
    other-cubes (decl_names o.cubes) (names_spoken es) (journal_of o es) (desk_of o es).cubes (entry.Idle epoch) refl f
call-cubes o es b (OnDesk (RoundClose epoch Safe)) run f =
    other-cubes (decl_names o.cubes) (names_spoken es) (journal_of o es) (desk_of o es).cubes (entry.Safe epoch) refl f
call-cubes o es b (OnDesk (RoundClose epoch (Lost cause))) run f =
    other-cubes (decl_names o.cubes) (names_spoken es) (journal_of o es) (desk_of o es).cubes (entry.RoundLost epoch cause) refl f
call-cubes o es b (OnDesk (StoreFailed failed)) run f = f
call-cubes o es b (OnNames call) run f = f
call-cubes o es b (Post mail job) run f = f
call-cubes o es b (Fetch mail answer) run f = f
call-cubes o es b (CloseMail mail) run f = f
call-cubes o es b NoChange run f = f

pub run-cubes : (o : Opening) (es : List CoreEvent) → IsCoreRun o es → CubesFit o es
run-cubes o [] run = record { allowed = tt; leads = refl; few = run.cubes }
run-cubes o (By b call ∷ es) run = call-cubes o es b call run (run-cubes o es run.0)
run-cubes o (At mail move ∷ es) run = let f = run-cubes o es run.0 in record { allowed = f.allowed; leads = f.leads; few = f.few }
