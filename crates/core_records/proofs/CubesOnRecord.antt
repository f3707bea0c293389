-- The cubes that a journal makes by the scripts are the desk's.
use Rattle.std.proofs.Common.{◌≡◌, ◌∙◌, ℕ, ◌==◌, Bool, true, false, cond, if◌then◌else◌, List, [], ◌∷◌, ◌++◌, length, slice_get, append-nil, append_assoc, Option, Some, None, refl, sym, ap, eq-eqb}
use Rattle.std.specs.List.{AllByRecursion, cons_option, filter_map, list_any}
use Rattle.std.specs.Option.{option_and_then}
use Rattle.std.specs.Str.{bytes_eq}
use Rattle.std.proofs.lemmas.Bool.{false≢true}
use Rattle.std.proofs.lemmas.Bool.Decides.{same_from_decides}
use Rattle.std.proofs.lemmas.List.{map-append}
use Rattle.std.proofs.lemmas.List.Elements.{filter_map-append}
use Rattle.std.proofs.lemmas.Slice.Eq.{bytes_eq-Decides}
use Rattle.cube_language.specs.Cubes.{first_repeated}
use Rattle.cube_language.specs.CubesText.{cubes_limit}
use Rattle.cube_language.specs.declared.decl.Decl.{Decl}
use Rattle.cube_schema.proofs.Repeated.{repeated-push}
use Rattle.cube_journal.specs.Legal.{has_cube}
use Rattle.cube_journal.specs.declared.journal_entry.JournalEntry.{JournalEntry}
use Rattle.cube_journal.specs.declared.note.Note.TheVariants as note
use Rattle.cube_run.specs.RunRecords.{cubes_at, declaration_in, made_by, catalog_of}
use Rattle.aosi_desk.specs.State.{state_of}
use Rattle.aosi_desk.specs.declared.answer.RoundAnswer.TheVariants.{Target, Nothing}
use Rattle.aosi_desk.specs.declared.answer.RoundEnd.TheVariants.{Safe, Lost}
use Rattle.aosi_desk.specs.Desks.{DeskState, decl_names}
use Rattle.aosi_desk.specs.declared.cube.CubeAnswer.{CubeAnswer}
use Rattle.aosi_desk.specs.declared.cube.CubeAnswer.TheVariants.{Created, Exists, TooMany}
use Rattle.aosi_desk.specs.declared.cube.CubeFound.TheVariants.{Found, Unknown}
use Rattle.core_events.specs.Cells.{desk_of, desk_after}
use Rattle.core_events.specs.Clients.{ClientState, calls_of, client_state}
use Rattle.core_events.specs.Events.{Opening, IsSession, OpenWrite, OpenRead, Commit, AbortEnd, CloseRead, TakeNote, CreateCube, FindCube, CubesFrom, CountersNow, RoundOpen, RoundClose, StoreFailed, ClientCall, OnDesk, OnNames, Post, Fetch, CloseMail, NoChange, CoreEvent, By, At}
use Rattle.core_events.specs.Fitting.{FitsCall}
use Rattle.core_events.specs.Runs.{IsCoreRun, CallSays}
use Rattle.core_events.proofs.DeskSteps.{client_entry}
use Rattle.core_serial.specs.Journals.{journal_of}
use Rattle.core_serial.proofs.Entries.{journal_with, journal-step}
use Rattle.one_session.proofs.CubesBehind.{some_front}
use Rattle.core_records.specs.CoreRecords.{RunScripts, record_of}
use Rattle.core_records.specs.ScriptedCalls.{FollowScripts, SpeaksByScript, script_given}

-- ---- scripts are followed at each moment

tail-speaks : (P : ClientCall → Type 0) (t : Bool) (call : ClientCall) (calls : List ClientCall)
    → AllByRecursion P (if t then call ∷ calls else calls) → AllByRecursion P calls
tail-speaks P true call calls h = h.1
tail-speaks P false call calls h = h

pub follow-before : (o : Opening) (given : RunScripts) (later es : List CoreEvent) → FollowScripts o given (later ++ es)
    → FollowScripts o given es
follow-before o given [] es f = f
follow-before o given (By b call ∷ later) es f = follow-before o given later es (record {
  each = f.each;
  cubes = λ session is.
      tail-speaks (SpeaksByScript (script_given given session)) (b == session) call (calls_of session (later ++ es))
      (f.cubes session is);
})
follow-before o given (At mail move ∷ later) es f =
    follow-before o given later es (record { each = f.each; cubes = f.cubes })

pub run-before : (o : Opening) (later es : List CoreEvent) → IsCoreRun o (later ++ es) → IsCoreRun o es
run-before o [] es run = run
run-before o (By b call ∷ later) es run = run-before o later es run.0
run-before o (At mail move ∷ later) es run = run-before o later es run.0

pub speaks-now : (o : Opening) (given : RunScripts) (b : ℕ) (call : ClientCall) (es : List CoreEvent)
    → FollowScripts o given (By b call ∷ es) → IsSession o b → SpeaksByScript (script_given given b) call
speaks-now o given b call es f is =
    (coe 0 1 (i. AllByRecursion (SpeaksByScript (script_given given b))
    (if eq-eqb b b refl i then call ∷ calls_of b es else calls_of b es)) (f.cubes b is)).0

-- ---- a call makes a cube, or none

abbrev pub cube_made : ClientCall → Option Decl
cube_made (OnDesk (CreateCube statement decl (Created epoch place))) = Some decl
cube_made call = None

abbrev pub cubes_with : Option Decl → List Decl → List Decl
cubes_with None cubes = cubes
cubes_with (Some d) cubes = cubes ++ d ∷ []

pub desk-cubes : (b : ℕ) (call : ClientCall) (desk : DeskState)
    → (desk_after b call desk).cubes ≡ cubes_with (cube_made call) desk.cubes
desk-cubes b (OnDesk (OpenWrite statement epoch deps)) desk = refl
desk-cubes b (OnDesk (OpenRead number statement epoch)) desk = refl
desk-cubes b (OnDesk (Commit statement epoch)) desk = refl
desk-cubes b (OnDesk (AbortEnd statement epoch cause)) desk = refl
desk-cubes b (OnDesk (CloseRead number statement)) desk = refl
desk-cubes b (OnDesk (TakeNote note counters)) desk = refl
desk-cubes b (OnDesk (CreateCube statement decl (Created epoch place))) desk = refl
desk-cubes b (OnDesk (CreateCube statement decl Exists)) desk = refl
desk-cubes b (OnDesk (CreateCube statement decl TooMany)) desk = refl
desk-cubes b (OnDesk (FindCube statement name (Found place decl))) desk = refl
desk-cubes b (OnDesk (FindCube statement name Unknown)) desk = refl
desk-cubes b (OnDesk (CubesFrom place cubes)) desk = refl
desk-cubes b (OnDesk (CountersNow counters)) desk = refl
desk-cubes b (OnDesk (RoundOpen answer)) desk = refl
desk-cubes b (OnDesk (RoundClose epoch end)) desk = refl
desk-cubes b (OnDesk (StoreFailed failed)) desk = refl
desk-cubes b (OnNames call) desk = refl
desk-cubes b (Post mail job) desk = refl
desk-cubes b (Fetch mail answer) desk = refl
desk-cubes b (CloseMail mail) desk = refl
desk-cubes b NoChange desk = refl

module _ (o : Opening) (given : RunScripts) (all : List CoreEvent) where
  -- Its entry makes the same by its statement.
  entry-makes : (b : ℕ) (call : ClientCall) (k : ClientState) → FitsCall o b call k
      → (IsSession o b → SpeaksByScript (script_given given b) call)
      → option_and_then (made_by (record_of o given all)) (client_entry b call) ≡ cube_made call
  entry-makes b (OnDesk (OpenWrite statement epoch deps)) k f s = refl
  entry-makes b (OnDesk (OpenRead number statement epoch)) k f s = refl
  entry-makes b (OnDesk (Commit statement epoch)) k f s = refl
  entry-makes b (OnDesk (AbortEnd statement epoch cause)) k f s = refl
  entry-makes b (OnDesk (CloseRead number statement)) k f s = refl
  entry-makes b (OnDesk (TakeNote (note.Refused session statement code) counters)) k f s = refl
  entry-makes b (OnDesk (TakeNote (note.Cleared session statement) counters)) k f s = refl
  entry-makes b (OnDesk (TakeNote (note.Show session statement) counters)) k f s = refl
  entry-makes b (OnDesk (TakeNote (note.Flushed session statement) counters)) k f s = refl
  entry-makes b (OnDesk (TakeNote (note.Purged session statement epoch) counters)) k f s = refl
  entry-makes b (OnDesk (CreateCube statement decl (Created epoch place))) k f s =
      ap (option_and_then declaration_in) (s f.0.session)
  entry-makes b (OnDesk (CreateCube statement decl Exists)) k f s = refl
  entry-makes b (OnDesk (CreateCube statement decl TooMany)) k f s = refl
  entry-makes b (OnDesk (FindCube statement name (Found place decl))) k f s = refl
  entry-makes b (OnDesk (FindCube statement name Unknown)) k f s = refl
  entry-makes b (OnDesk (CubesFrom place cubes)) k f s = refl
  entry-makes b (OnDesk (CountersNow counters)) k f s = refl
  entry-makes b (OnDesk (RoundOpen (Target from epoch))) k f s = refl
  entry-makes b (OnDesk (RoundOpen (Nothing epoch))) k f s = refl
  entry-makes b (OnDesk (RoundClose epoch Safe)) k f s = refl
  entry-makes b (OnDesk (RoundClose epoch (Lost cause))) k f s = refl
  entry-makes b (OnDesk (StoreFailed failed)) k f s = refl
  entry-makes b (OnNames call) k f s = refl
  entry-makes b (Post mail job) k f s = refl
  entry-makes b (Fetch mail answer) k f s = refl
  entry-makes b (CloseMail mail) k f s = refl
  entry-makes b NoChange k f s = refl

  one-more : (made : Option Decl) (before more : List Decl)
      → before ++ (more ++ cons_option made []) ≡ cubes_with made (before ++ more)
  one-more None before more = ap (λ (xs : List Decl). before ++ xs) (append-nil more)
  one-more (Some d) before more = sym (append_assoc before more (d ∷ []))

  cubes-more : (e : Option JournalEntry) (journal : List JournalEntry)
      → cubes_at (record_of o given all) (journal_with e journal)
      ≡ cubes_with (option_and_then (made_by (record_of o given all)) e) (cubes_at (record_of o given all) journal)
  cubes-more None journal = refl
  cubes-more (Some e) journal =
      ap (λ (made : List Decl). o.cubes ++ made)
      (filter_map-append (made_by (record_of o given all)) journal (e ∷ []))
      ∙ one-more (made_by (record_of o given all) e) o.cubes (filter_map (made_by (record_of o given all)) journal)

  pub cubes-are : (es : List CoreEvent) → IsCoreRun o es → FollowScripts o given es
      → cubes_at (record_of o given all) (journal_of o es) ≡ (desk_of o es).cubes
  cubes-are [] run f = append-nil o.cubes
  cubes-are (By b call ∷ es) run f =
      ap (cubes_at (record_of o given all)) (journal-step o b call es)
      ∙ cubes-more (client_entry b call) (journal_of o es)
      ∙ (λ i. cubes_with
      (entry-makes b call (client_state o b es) run.1.fits (speaks-now o given b call es f) i)
      (cubes-are es run.0 (follow-before o given (By b call ∷ []) es f) i))
      ∙ sym (desk-cubes b call (desk_of o es))
  cubes-are (At mail move ∷ es) run f = cubes-are es run.0 (follow-before o given (At mail move ∷ []) es f)

-- ---- cubes stay

with-front : (made : Option Decl) (cubes : List Decl) (cube : ℕ) (d : Decl) → slice_get cubes cube ≡ Some d
    → slice_get (cubes_with made cubes) cube ≡ Some d
with-front None cubes cube d is = is
with-front (Some x) cubes cube d is = some_front cubes (x ∷ []) cube d is

pub cube-stays : (o : Opening) (later es : List CoreEvent) (cube : ℕ) (d : Decl)
    → slice_get (desk_of o es).cubes cube ≡ Some d → slice_get (desk_of o (later ++ es)).cubes cube ≡ Some d
cube-stays o [] es cube d is = is
cube-stays o (By b call ∷ later) es cube d is =
    ap (λ (cubes : List Decl). slice_get cubes cube) (desk-cubes b call (desk_of o (later ++ es)))
    ∙ with-front (cube_made call) (desk_of o (later ++ es)).cubes cube d (cube-stays o later es cube d is)
cube-stays o (At mail move ∷ later) es cube d is = cube-stays o later es cube d is

pub cube-on-record : (o : Opening) (given : RunScripts) (later es : List CoreEvent) (cube : ℕ) (d : Decl)
    → IsCoreRun o (later ++ es) → FollowScripts o given (later ++ es) → slice_get (desk_of o es).cubes cube ≡ Some d
    → slice_get (catalog_of (record_of o given (later ++ es))).cubes cube ≡ Some d
cube-on-record o given later es cube d run f is =
    ap (λ (cubes : List Decl). slice_get cubes cube) (cubes-are o given (later ++ es) (later ++ es) run f)
    ∙ cube-stays o later es cube d is

-- ---- no name stands twice

abbrev is_created : CubeAnswer → Bool
is_created (Created epoch place) = true
is_created answer = false

created-new : (has full : Bool) (epoch place ec n : ℕ)
    → Created epoch place ≡ (if has then Exists else (if full then TooMany else Created ec n)) → has ≡ false
created-new true full epoch place ec n e = absurd (false≢true (sym (ap is_created e)))
created-new false full epoch place ec n e = refl

either-way : (a b : List ℕ) → bytes_eq a b ≡ bytes_eq b a
either-way a b =
    let ab = bytes_eq-Decides a b in
    let ba = bytes_eq-Decides b a in
    same_from_decides _ _ ab (λ t. sym (ba.0 t), λ e. ba.1 (sym e))

apart-more : (cubes : List Decl) (d : Decl) → first_repeated (decl_names cubes) ≡ None
    → has_cube (decl_names cubes) d.name ≡ false → first_repeated (decl_names (cubes ++ d ∷ [])) ≡ None
apart-more cubes d apart new =
    let other : list_any (bytes_eq d.name) (decl_names cubes) ≡ false =
    (λ i. list_any (λ cube. either-way d.name cube i) (decl_names cubes)) ∙ new
    in
    ap first_repeated (map-append (λ (x : Decl). x.name) cubes (d ∷ []))
    ∙ repeated-push (decl_names cubes) d.name apart
    ∙ ap (λ (b : Bool). cond b (Some d.name) None) other

apart-call : (o : Opening) (b : ℕ) (call : ClientCall) (es : List CoreEvent) → CallSays o es b call
    → first_repeated (decl_names (desk_of o es).cubes) ≡ None
    → first_repeated (decl_names (cubes_with (cube_made call) (desk_of o es).cubes)) ≡ None
apart-call o b (OnDesk (CreateCube statement decl (Created epoch place))) es says apart =
    let desk = desk_of o es in
    apart-more desk.cubes decl apart
    (created-new (has_cube (decl_names desk.cubes) decl.name) (length desk.cubes == cubes_limit) epoch place
    (state_of desk.register).ec (length desk.cubes) says)
apart-call o b (OnDesk (CreateCube statement decl Exists)) es says apart = apart
apart-call o b (OnDesk (CreateCube statement decl TooMany)) es says apart = apart
apart-call o b (OnDesk (OpenWrite statement epoch deps)) es says apart = apart
apart-call o b (OnDesk (OpenRead number statement epoch)) es says apart = apart
apart-call o b (OnDesk (Commit statement epoch)) es says apart = apart
apart-call o b (OnDesk (AbortEnd statement epoch cause)) es says apart = apart
apart-call o b (OnDesk (CloseRead number statement)) es says apart = apart
apart-call o b (OnDesk (TakeNote note counters)) es says apart = apart
apart-call o b (OnDesk (FindCube statement name answer)) es says apart = apart
apart-call o b (OnDesk (CubesFrom place cubes)) es says apart = apart
apart-call o b (OnDesk (CountersNow counters)) es says apart = apart
apart-call o b (OnDesk (RoundOpen answer)) es says apart = apart
apart-call o b (OnDesk (RoundClose epoch end)) es says apart = apart
apart-call o b (OnDesk (StoreFailed failed)) es says apart = apart
apart-call o b (OnNames call) es says apart = apart
apart-call o b (Post mail job) es says apart = apart
apart-call o b (Fetch mail answer) es says apart = apart
apart-call o b (CloseMail mail) es says apart = apart
apart-call o b NoChange es says apart = apart

pub names-apart : (o : Opening) (es : List CoreEvent) → IsCoreRun o es → first_repeated (decl_names o.cubes) ≡ None
    → first_repeated (decl_names (desk_of o es).cubes) ≡ None
names-apart o [] run apart = apart
names-apart o (By b call ∷ es) run apart =
    ap (λ (cubes : List Decl). first_repeated (decl_names cubes)) (desk-cubes b call (desk_of o es))
    ∙ apart-call o b call es run.1.says (names-apart o es run.0 apart)
names-apart o (At mail move ∷ es) run apart = names-apart o es run.0 apart
