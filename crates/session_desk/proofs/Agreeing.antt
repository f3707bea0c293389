-- Which entries agree with the cubes before them.
use Rattle.std.proofs.Common.{◌≡◌, ◌∙◌, ℕ, ◌-◌, Bool, true, false, true≢false, ◌||◌, cond, List, [], ◌∷◌, ◌++◌, Option, Some, None, slice_get, unwrap_or, refl, sym, ap, subst}
use Rattle.std.specs.Prelude.{map}
use Rattle.std.specs.List.{list_any}
use Rattle.std.specs.Option.{option_and_then}
use Rattle.std.specs.Str.{bytes_eq}
use Rattle.std.proofs.lemmas.Option.{none-some}
use Rattle.cube_language.specs.declared.decl.Decl.{Decl}
use Rattle.cube_language.specs.declared.misfit.Misfit.{Misfit}
use Rattle.cube_language.specs.declared.misfit.Misfit.TheVariants as misfit
use Rattle.cube_language.specs.declared.statement.Statement.{Statement}
use Rattle.cube_language.specs.declared.statement.Statement.TheVariants.{Begin, Commit, CreateCube, Flush, Purge, Rollback, ShowEpochs}
use Rattle.cube_journal.specs.Legal.{CubesAllow, CubesAllowAll, cubes_after, has_cube}
use Rattle.cube_journal.specs.Refusals.{code, of_misfit}
use Rattle.cube_journal.specs.declared.journal_entry.JournalEntry.{JournalEntry}
use Rattle.cube_journal.specs.declared.journal_entry.JournalEntry.TheVariants as entry
use Rattle.cube_journal.specs.declared.refusal.Refusal.{Refusal}
use Rattle.cube_run.specs.RunRecords.{RunRecord, Sentence, Says, cube_called, cube_needed, name_of_entry, name_spoken_of, script_of, statement_said}
use Rattle.cube_run.specs.SessionStates.{Mode, Idle, Open, Aborted}
use Rattle.cube_run.specs.StepOutcomes.{refused_by_mode}
use Rattle.aosi_desk.specs.Desks.{cubes_after_all, decl_names, is_cube_code, speaks_of_cubes}
use Rattle.session_desk.specs.CubesBefore.{AgreeWithCubes}
use Rattle.session_desk.proofs.NamedApart.{or_left, or_right}

-- ---- entries that speak of no cube

-- A refusal of this number speaks of no cube.
not_code : (n k : ℕ) → is_cube_code n ≡ false → is_cube_code k ≡ true → n ≡ k → ⊥
not_code n k other speaks same = true≢false (sym speaks ∙ sym (ap is_cube_code same) ∙ other)

no_cube_entry : (cubes : List (List ℕ)) (name : List ℕ) (e : JournalEntry) → speaks_of_cubes e ≡ false
    → CubesAllow cubes name e × (cubes_after cubes name e ≡ cubes)
no_cube_entry cubes name (entry.Begin session statement epoch deps) other = (tt, refl)
no_cube_entry cubes name (entry.Read session statement epoch) other = (tt, refl)
no_cube_entry cubes name (entry.ReadEnd session statement) other = (tt, refl)
no_cube_entry cubes name (entry.Committed session statement epoch) other = (tt, refl)
no_cube_entry cubes name (entry.Aborted session statement epoch cause) other = (tt, refl)
no_cube_entry cubes name (entry.Refused session statement n) other = (
  record {
    unknown = λ is. absurd (not_code n 2 other refl is);
    exists = λ is. absurd (not_code n 19 other refl is);
    too_many = λ is. absurd (not_code n 21 other refl is);
  },
  refl,
)
no_cube_entry cubes name (entry.Cleared session statement) other = (tt, refl)
no_cube_entry cubes name (entry.Show session statement) other = (tt, refl)
no_cube_entry cubes name (entry.Flushed session statement) other = (tt, refl)
no_cube_entry cubes name (entry.Purged session statement epoch) other = (tt, refl)
no_cube_entry cubes name (entry.Cube session statement epoch) other = absurd (true≢false other)
no_cube_entry cubes name (entry.Round epoch) other = (tt, refl)
no_cube_entry cubes name (entry.Idle epoch) other = (tt, refl)
no_cube_entry cubes name (entry.Safe epoch) other = (tt, refl)
no_cube_entry cubes name (entry.RoundLost epoch cause) other = (tt, refl)

no_cube_entries : (run : RunRecord) (cubes : List (List ℕ)) (es : List JournalEntry)
    → list_any speaks_of_cubes es ≡ false
    → CubesAllowAll cubes (map (name_of_entry run) es) es
    × (cubes_after_all cubes (map (name_of_entry run) es) es ≡ cubes)
no_cube_entries run cubes [] h = (tt, refl)
no_cube_entries run cubes (e ∷ es) h =
    let one = no_cube_entry cubes (name_of_entry run e) e (or_left (speaks_of_cubes e) (list_any speaks_of_cubes es) h) in
    let rest = no_cube_entries run (cubes_after cubes (name_of_entry run e) e) es
    (or_right (speaks_of_cubes e) (list_any speaks_of_cubes es) h) in
    ((one.0, rest.0), rest.1 ∙ one.1)

pub none_agree : (run : RunRecord) (cubes : List Decl) (es : List JournalEntry) → list_any speaks_of_cubes es ≡ false
    → AgreeWithCubes run cubes es cubes
none_agree run cubes es h =
    let both = no_cube_entries run (decl_names cubes) es h in record { allowed = both.0; leads = both.1 }

-- ---- entries behind others

allowed_then : (run : RunRecord) (cubes : List (List ℕ)) (front back : List JournalEntry)
    → CubesAllowAll cubes (map (name_of_entry run) front) front
    → CubesAllowAll (cubes_after_all cubes (map (name_of_entry run) front) front) (map (name_of_entry run) back) back
    → CubesAllowAll cubes (map (name_of_entry run) (front ++ back)) (front ++ back)
allowed_then run cubes [] back a b = b
allowed_then run cubes (e ∷ front) back a b =
    (a.0, allowed_then run (cubes_after cubes (name_of_entry run e) e) front back a.1 b)

leads_then : (run : RunRecord) (cubes : List (List ℕ)) (front back : List JournalEntry)
    → cubes_after_all cubes (map (name_of_entry run) (front ++ back)) (front ++ back)
    ≡ cubes_after_all (cubes_after_all cubes (map (name_of_entry run) front) front) (map (name_of_entry run) back) back
leads_then run cubes [] back = refl
leads_then run cubes (e ∷ front) back = leads_then run (cubes_after cubes (name_of_entry run e) e) front back

pub agree_then : (run : RunRecord) (before middle after : List Decl) (front back : List JournalEntry)
    → AgreeWithCubes run before front middle → AgreeWithCubes run middle back after
    → AgreeWithCubes run before (front ++ back) after
agree_then run before middle after front back a b = record {
  allowed =
      allowed_then run (decl_names before) front back a.allowed
      (subst (λ (cubes : List (List ℕ)). CubesAllowAll cubes (map (name_of_entry run) back) back) (sym a.leads)
      b.allowed);
  leads =
      leads_then run (decl_names before) front back
      ∙ ap (λ (cubes : List (List ℕ)). cubes_after_all cubes (map (name_of_entry run) back) back) a.leads
      ∙ b.leads;
}

-- ---- one entry

pub one_agrees : (run : RunRecord) (before after : List Decl) (e : JournalEntry) (name : List ℕ)
    → name_of_entry run e ≡ name → CubesAllow (decl_names before) name e
    → cubes_after (decl_names before) name e ≡ decl_names after → AgreeWithCubes run before (e ∷ []) after
one_agrees run before after e name same allows leads = record {
  allowed = (subst (λ (n : List ℕ). CubesAllow (decl_names before) n e) (sym same) allows, tt);
  leads = ap (λ (n : List ℕ). cubes_after (decl_names before) n e) same ∙ leads;
}

-- The entries of the statement of this number, which says this, lead from these cubes to those.
abbrev pub AgreeFor : Sentence → ℕ → List Decl → List JournalEntry → List Decl → Type 0
AgreeFor sentence number before added after =
    (run : RunRecord) → slice_get (script_of run 1) (number - 1) ≡ Some sentence
    → AgreeWithCubes run before added after

pub none_for : (sentence : Sentence) (number : ℕ) (cubes : List Decl) (added : List JournalEntry)
    → list_any speaks_of_cubes added ≡ false → AgreeFor sentence number cubes added cubes
none_for sentence number cubes added h = λ run said. none_agree run cubes added h

pub one_for : (s : Statement) (number : ℕ) (before after : List Decl) (e : ℕ → JournalEntry) (name : List ℕ)
    → ((run : RunRecord) → name_of_entry run (e number)
    ≡ unwrap_or (option_and_then (λ (x : Statement). Some (name_spoken_of x))
    (option_and_then statement_said (slice_get (script_of run 1) (number - 1)))) [])
    → name_spoken_of s ≡ name → CubesAllow (decl_names before) name (e number)
    → cubes_after (decl_names before) name (e number) ≡ decl_names after
    → AgreeFor (Says s) number before (e number ∷ []) after
one_for s number before after e name own spoken allows leads = λ run said.
    one_agrees run before after (e number) name
    (own run
    ∙ ap (λ (o : Option Sentence). unwrap_or (option_and_then (λ (x : Statement). Some (name_spoken_of x))
    (option_and_then statement_said o)) []) said
    ∙ spoken)
    allows leads

-- A statement that needs a cube speaks of it.
pub needed_spoken : (s : Statement) (name : List ℕ) → cube_needed s ≡ Some name → name_spoken_of s ≡ name
needed_spoken (CreateCube d) name h = absurd (none-some name h)
needed_spoken s name h = ap (λ (o : Option (List ℕ)). unwrap_or o []) h

-- Where none is called so, none has the name.
pub none_has : (cubes : List Decl) (name : List ℕ) → cube_called cubes name ≡ None
    → has_cube (decl_names cubes) name ≡ false
none_has [] name h = refl
none_has (x ∷ cubes) name h = at (bytes_eq x.name name) h (none_has cubes name)
  where
    at : (b : Bool) → cond b (Some x) (cube_called cubes name) ≡ None
        → (cube_called cubes name ≡ None → has_cube (decl_names cubes) name ≡ false)
        → (b || has_cube (decl_names cubes) name) ≡ false
    at true h later = absurd (none-some x (sym h))
    at false h later = later h

-- ---- the numbers of refusals

abbrev speaks_of_some : Option Refusal → Bool
speaks_of_some None = false
speaks_of_some (Some r) = is_cube_code (code r)

-- What the mode refuses speaks of no cube.
modes_of_none : (mode : Mode) (s : Statement) → speaks_of_some (refused_by_mode mode s) ≡ false
modes_of_none Idle Commit = refl
modes_of_none Idle Rollback = refl
modes_of_none Idle s = refl
modes_of_none (Open writer) Begin = refl
modes_of_none (Open writer) (CreateCube d) = refl
modes_of_none (Open writer) s = refl
modes_of_none (Aborted epoch) Rollback = refl
modes_of_none (Aborted epoch) Flush = refl
modes_of_none (Aborted epoch) Purge = refl
modes_of_none (Aborted epoch) ShowEpochs = refl
modes_of_none (Aborted epoch) s = refl

one_of_none : (b : Bool) → b ≡ false → (b || false) ≡ false
one_of_none b h = ap (λ (x : Bool). x || false) h

pub mode_refusal : (mode : Mode) (s : Statement) (r : Refusal) (number : ℕ) → refused_by_mode mode s ≡ Some r
    → list_any speaks_of_cubes (entry.Refused 1 number (code r) ∷ []) ≡ false
mode_refusal mode s r number h =
    one_of_none (is_cube_code (code r)) (ap speaks_of_some (sym h) ∙ modes_of_none mode s)

misfits_of_none : (m : Misfit) → is_cube_code (code (of_misfit m)) ≡ false
misfits_of_none (misfit.UnknownColumn name) = refl
misfits_of_none (misfit.WrongKind name) = refl
misfits_of_none (misfit.NotGrouped name) = refl
misfits_of_none (misfit.NotAnItem item) = refl
misfits_of_none (misfit.BadHaving item) = refl
misfits_of_none (misfit.NotWatchable item) = refl
misfits_of_none (misfit.CutsBrick name) = refl
misfits_of_none (misfit.BadRow row why) = refl

-- Nor does what says how it fails on its cube.
pub misfit_refusal : (m : Misfit) (number : ℕ)
    → list_any speaks_of_cubes (entry.Refused 1 number (code (of_misfit m)) ∷ []) ≡ false
misfit_refusal m number = one_of_none (is_cube_code (code (of_misfit m))) (misfits_of_none m)
