-- A statement that is bound to none of its desk's cubes.
use Rattle.std.proofs.Common.{◌≡◌, ◌∙◌, ℕ, zero, suc, Bool, true, false, cond, List, [], ◌∷◌, slice_get, Option, Some, None, refl, sym, ap}
use Rattle.std.specs.Option.{option_and_then}
use Rattle.std.specs.Str.{bytes_eq}
use Rattle.std.proofs.lemmas.Option.{none-some, same_Some}
use Rattle.std.proofs.lemmas.Slice.Eq.{bytes_eq-Decides}
use Rattle.cube_language.specs.Misfits.{HasMisfit}
use Rattle.cube_language.specs.declared.decl.Decl.{Decl}
use Rattle.cube_language.specs.declared.misfit.Misfit.{Misfit}
use Rattle.cube_language.specs.declared.statement.Statement.{Statement}
use Rattle.cube_language.specs.declared.statement.Statement.TheVariants.{ShowWatch}
use Rattle.cube_journal.specs.Refusals.{code, of_misfit}
use Rattle.cube_journal.specs.declared.journal_entry.JournalEntry.{JournalEntry}
use Rattle.cube_journal.specs.declared.journal_entry.JournalEntry.TheVariants as entry
use Rattle.cube_journal.specs.declared.refusal.Refusal.TheVariants as refusal
use Rattle.cube_journal.specs.declared.reply.Reply.TheVariants as reply
use Rattle.cube_run.specs.RunRecords.{Says, cube_called, cube_needed}
use Rattle.cube_run.specs.StepOutcomes.{refused_by_mode, refused_by_watch}
use Rattle.one_session.specs.Behind.{last_step}
use Rattle.one_session.specs.Changes.{AreNamedApart}
use Rattle.one_session.proofs.Coded.{same_name}
use Rattle.query_plan.specs.Bindings.{FailsOnCube}
use Rattle.aosi_desk.specs.Desks.{AreCubes, DeskState}
use Rattle.session_replies.specs.Modes.{mode_of}
use Rattle.session_replies.proofs.Reading.{unfit}
use Rattle.session_replies.proofs.Refusing.{unknown_cube}
use Rattle.session_desk.specs.declared.session.Session.{Session}
use Rattle.session_desk.specs.Executed.{ExecutesAtDesk}
use Rattle.session_desk.specs.Standing.{session_state}
use Rattle.aosi_desk.proofs.Kept.{unknown_fits}
use Rattle.session_desk.proofs.Agreeing.{misfit_refusal, needed_spoken, none_for, none_has, one_for}
use Rattle.session_desk.proofs.FindingCubes.{finds_its_cube}
use Rattle.session_desk.proofs.Growing.{grown, world_of}
use Rattle.session_desk.proofs.NamedApart.{named_apart}
use Rattle.session_desk.proofs.Refused.{Refuses, refused_stays}
use Rattle.session_desk.proofs.Staying.{stay_executes}

-- A statement that needs a cube is none that a session without a watch refuses for that.
no_watch : (s : Statement) (name : List ℕ) → cube_needed s ≡ Some name → refused_by_watch None s ≡ None
no_watch ShowWatch name h = absurd (none-some name h)
no_watch s name h = refl

-- No cube has the name that it needs.
pub refuses_unknown : (s : Statement) (name : List ℕ) (desk : DeskState) (session : Session) (new_desk : DeskState)
    (now : Session) → Refuses 2 desk session new_desk now → refused_by_mode (mode_of session.mode) s ≡ None
    → cube_needed s ≡ Some name → cube_called desk.cubes name ≡ None
    → ExecutesAtDesk (Says s) desk session new_desk now (reply.Refused (refusal.UnknownCube name))
refuses_unknown s name desk session new_desk now h may needed lacks =
    let added : List JournalEntry = entry.Refused 1 now.statements 2 ∷ [] in
    stay_executes (Says s) added (λ n. entry.Refused 1 n 2) desk session new_desk now
    (reply.Refused (refusal.UnknownCube name)) (refused_stays 2 desk session new_desk now h)
    (one_for s now.statements desk.cubes desk.cubes (λ n. entry.Refused 1 n 2) name (λ run. refl)
    (needed_spoken s name needed) (unknown_fits desk.cubes name (none_has desk.cubes name lacks)) refl)
    (λ beginning past names done run stands more on step.
    unknown_cube run (last_step (grown past (Says s) added) (session_state session) (Says s) added)
    (mode_of session.mode) s name step may (no_watch s name needed) needed)

-- It fails a test on its cube.
pub refuses_unfit : (s : Statement) (place : ℕ) (d : Decl) (misfit : Misfit) (desk : DeskState) (session : Session)
    (new_desk : DeskState) (now : Session) → Refuses (code (of_misfit misfit)) desk session new_desk now
    → refused_by_mode (mode_of session.mode) s ≡ None → AreNamedApart desk.cubes
    → slice_get desk.cubes place ≡ Some d → cube_needed s ≡ Some d.name → HasMisfit d s misfit
    → ExecutesAtDesk (Says s) desk session new_desk now (reply.Refused (of_misfit misfit))
refuses_unfit s place d misfit desk session new_desk now h may apart there needed fails =
    let n = code (of_misfit misfit) in
    let added : List JournalEntry = entry.Refused 1 now.statements n ∷ [] in
    stay_executes (Says s) added (λ k. entry.Refused 1 k n) desk session new_desk now
    (reply.Refused (of_misfit misfit)) (refused_stays n desk session new_desk now h)
    (none_for (Says s) now.statements desk.cubes added (misfit_refusal misfit now.statements))
    (λ beginning past names done run stands more on step.
    let last = last_step (grown past (Says s) added) (session_state session) (Says s) added in
    unfit run last (mode_of session.mode) s d misfit step may (no_watch s d.name needed)
    (finds_its_cube beginning past (grown past (Says s) added) (world_of desk names session done) s added run place d
    stands more on apart there needed)
    fails)

abbrev is_called : List ℕ → Decl → Bool
is_called name d = bytes_eq d.name name

-- Where no cube is called so, none at any place has the name.
pub none_called : (cubes : List Decl) (place : ℕ) (d : Decl) (name : List ℕ) → cube_called cubes name ≡ None
    → slice_get cubes place ≡ Some d → d.name ≡ name → ⊥
none_called [] place d name none is same = none-some d is
none_called (x ∷ cubes) zero d name none is same =
    let called : bytes_eq x.name name ≡ true =
    ap (λ (y : Decl). bytes_eq y.name name) (same_Some x d is)
    ∙ ap (λ (n : List ℕ). bytes_eq n name) same ∙ same_name name
    in
    none-some x (sym none ∙ ap (λ (b : Bool). cond b (Some x) (cube_called cubes name)) called)
none_called (x ∷ cubes) (suc place) d name none is same = at (bytes_eq x.name name) none (none_called cubes place d name)
  where
    at : (b : Bool) → cond b (Some x) (cube_called cubes name) ≡ None
        → (cube_called cubes name ≡ None → slice_get cubes place ≡ Some d → d.name ≡ name → ⊥) → ⊥
    at true h later = none-some x (sym h)
    at false h later = later h is same

-- The place of the cube that is called so.
pub record IsPlaceOf (cubes : List Decl) (name : List ℕ) (d : Decl) : Type 0 where
  pub place : ℕ
  pub there : slice_get cubes place ≡ Some d
  pub named : d.name ≡ name

pub called_at : (cubes : List Decl) (name : List ℕ) (d : Decl) → cube_called cubes name ≡ Some d
    → IsPlaceOf cubes name d
called_at [] name d h = absurd (none-some d h)
called_at (x ∷ cubes) name d h = at (bytes_eq x.name name) refl h (called_at cubes name d)
  where
    at : (b : Bool) → bytes_eq x.name name ≡ b → cond b (Some x) (cube_called cubes name) ≡ Some d
        → (cube_called cubes name ≡ Some d → IsPlaceOf cubes name d) → IsPlaceOf (x ∷ cubes) name d
    at true is h later = record {
      place = 0;
      there = h;
      named = ap (λ (y : Decl). y.name) (sym (same_Some x d h)) ∙ (bytes_eq-Decides x.name name).0 is;
    }
    at false is h later =
        let p = later h in
        record { place = suc p.place; there = p.there; named = p.named }

-- A statement that fails on its cube needs that by its name.
pub fails_there : (cubes : List Decl) (s : Statement) (misfit : Misfit) → (f : FailsOnCube cubes s misfit)
    → (p : IsPlaceOf cubes f.decl.name f.decl) × (cube_needed s ≡ Some f.decl.name)
fails_there cubes s misfit f = at (cube_needed s) refl f.cube_is
  where
    at : (o : Option (List ℕ)) → cube_needed s ≡ o → option_and_then (cube_called cubes) o ≡ Some f.decl
        → (p : IsPlaceOf cubes f.decl.name f.decl) × (cube_needed s ≡ Some f.decl.name)
    at None needed h = absurd (none-some f.decl h)
    at (Some name) needed h =
        let p = called_at cubes name f.decl h in (
          record { place = p.place; there = p.there; named = refl },
          needed ∙ ap (λ (n : List ℕ). Some n) (sym p.named),
        )

pub refuses_failing : (s : Statement) (misfit : Misfit) (desk : DeskState) (session : Session)
    (new_desk : DeskState) (now : Session) → Refuses (code (of_misfit misfit)) desk session new_desk now
    → refused_by_mode (mode_of session.mode) s ≡ None → AreCubes desk.cubes → FailsOnCube desk.cubes s misfit
    → ExecutesAtDesk (Says s) desk session new_desk now (reply.Refused (of_misfit misfit))
refuses_failing s misfit desk session new_desk now h may cubes f =
    let at = fails_there desk.cubes s misfit f in
    refuses_unfit s at.0.place f.decl misfit desk session new_desk now h may (named_apart desk.cubes cubes)
    at.0.there at.1 f.fails
