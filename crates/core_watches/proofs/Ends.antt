-- How a WATCH and a SHOW WATCH end, by what their parts did.
use Rattle.std.proofs.Common.{◌≡◌, ◌≢◌, ◌∙◌, ℕ, true, false, List, [], ◌∷◌, Some, None, refl, sym, subst, arith}
use Rattle.aosi_desk.specs.Desks.{is_cube_code}
use mathlib.Core.List.{IsPrefix}
use Rattle.core_watches.specs.WatchEnds.{EndsShow, EndsWatch, WatchesCube, begun, given_up, gave_up, no_memory_entry, reader_closed, reader_opened, show_given_up, show_unread, shown, unfit, without_memory}
use Rattle.core_watches.specs.BoundReaders.{IsShownWatch}
use Rattle.core_watches.specs.WatchingCalls.{LeavesByWatching}
use Rattle.core_program.specs.CoreFits.{CoreEntry}
use Rattle.core_states.specs.declared.session.CoreSession.{CoreSession}
use Rattle.core_watches.proofs.KeptOn.{still-told}
use Rattle.core_watches.specs.KeptWatches.{HoldersHold, IsRefusedSo, IsShownAt, KeepsWatch}
use Rattle.core_watches.specs.declared.kept.ShownWatch.{ShownWatch}
use Rattle.cube_core.specs.declared.cell.CoreCell.{CoreCell}
use Rattle.cube_journal.specs.Refusals.{code, of_misfit}
use Rattle.cube_journal.specs.declared.journal_entry.JournalEntry.TheVariants as entry
use Rattle.cube_journal.specs.declared.refusal.Refusal.TheVariants as cause
use Rattle.cube_journal.specs.declared.reply.Reply.{Reply}
use Rattle.cube_journal.specs.declared.reply.Reply.TheVariants as reply
use Rattle.cube_language.specs.Misfits.{FitsCube, HasMisfit}
use Rattle.cube_language.specs.declared.decl.Decl.{Decl}
use Rattle.cube_language.specs.declared.misfit.Misfit.{Misfit}
use Rattle.cube_language.specs.declared.misfit.Misfit.TheVariants as misfit
use Rattle.cube_language.specs.declared.statement.Statement.{Statement}
use Rattle.cube_run.specs.RunRecords.{cube_needed}
use Rattle.cube_run.specs.SessionStates.{KeptWatch, first_holder, other_holder}
use Rattle.cube_run.specs.StatementEntries.{is_watch}
use Rattle.known_cubes.specs.KnownCubes.{IsToldOfCube}
use Rattle.linked_shards.specs.declared.cell.CoreShard.{CoreShard}
use Rattle.session_desk.specs.Executed.{IfReplied}
use Rattle.session_desk.specs.declared.answered.Answered.{Answered}
use Rattle.session_desk.specs.declared.answered.Answered.TheVariants.{Replied, Stopped}
use Rattle.watch_holds.specs.HolderStates.{OneReader}

module _ (cells then : List (CoreCell CoreShard)) (caller number : ℕ) (p : then ≡ cells) (q : number ≡ caller)
    (session : CoreSession) (own now : List CoreEntry) where
  -- A watch that is shown is kept.
  pub keeps-shown : (s : Statement) (d : Decl) (holder epoch place : ℕ) (x : ShownWatch)
      → HoldersHold then number session.number now (OneReader holder epoch)
      → IsShownAt then number session.number now holder epoch place d s x → WatchesCube s place d now
      → KeepsWatch then number session.number now (record { watch = x.watch; asked = s; cube = d })
  keeps-shown s d holder epoch place x reads at watches = record {
    reader =
        coe 1 0 (i. HoldersHold then number session.number now (OneReader (at.holder_is i) (at.epoch_is i))) reads;
    bound = at.shown.watch;
    watches = coe 1 0 (i. WatchesCube s (at.place_is i) d now) watches;
  }

  -- A WATCH is done.
  pub watch-begun : (s : Statement) (d : Decl) (holder epoch place : ℕ) (x : ShownWatch) → FitsCube d s
      → holder ≡ first_holder session.number
      → LeavesByWatching cells caller session.number own now (reader_opened session holder epoch ∷ [])
      → IsShownAt then number session.number now holder epoch place d s x
      → EndsWatch cells caller session s d own now (Some (record { holder = x.watch.holder; asked = s }))
      (reply.Watching epoch x.table)
  watch-begun s d holder epoch place x fits first left at =
      let w = x.watch in
      subst (λ (e : ℕ). EndsWatch cells caller session s d own now (Some (record { holder = w.holder; asked = s }))
      (reply.Watching e x.table)) at.epoch_is
      (begun w x.table fits (at.holder_is ∙ first)
      (coe 1 0 (i. LeavesByWatching cells caller session.number own now
      (reader_opened session (at.holder_is i) (at.epoch_is i) ∷ [])) left)
      (coe 0 1 (i. IsShownWatch (p i) (q i) now session.number d s w x.table) at.shown))

  -- A SHOW WATCH is done.
  pub show-done : (kept : KeptWatch) (d : Decl) (holder epoch place : ℕ) (x : ShownWatch)
      → holder ≡ other_holder session.number kept.holder
      → LeavesByWatching cells caller session.number own now
      (reader_opened session holder epoch ∷ reader_closed session kept.holder ∷ [])
      → IsShownAt then number session.number now holder epoch place d kept.asked x
      → EndsShow cells caller session kept d own now (record { holder = x.watch.holder; asked = kept.asked })
      (reply.Watching epoch x.table)
  show-done kept d holder epoch place x newer left at =
      let w = x.watch in
      subst (λ (e : ℕ). EndsShow cells caller session kept d own now
      (record { holder = w.holder; asked = kept.asked }) (reply.Watching e x.table)) at.epoch_is
      (shown w x.table (at.holder_is ∙ newer)
      (coe 1 0 (i. LeavesByWatching cells caller session.number own now
      (reader_opened session (at.holder_is i) (at.epoch_is i) ∷ reader_closed session kept.holder ∷ [])) left)
      (coe 0 1 (i. IsShownWatch (p i) (q i) now session.number d kept.asked w x.table) at.shown))

module _ (cells : List (CoreCell CoreShard)) (caller : ℕ) (session : CoreSession) (own now : List CoreEntry) where
  -- A WATCH is refused.
  pub watch-given-up : (s : Statement) (d : Decl) (epoch : ℕ) (result : Answered)
      → IfReplied result (IsRefusedSo cells caller session.number own now
      (given_up session (first_holder session.number) epoch) cause.NoMemory)
      → IfReplied result (EndsWatch cells caller session s d own now None)
  watch-given-up s d epoch (Replied said) r =
      subst (λ (x : Reply). EndsWatch cells caller session s d own now None x) (sym r.said_is) (gave_up epoch r.left)
  watch-given-up s d epoch Stopped r = tt

  pub watch-unread : (s : Statement) (d : Decl) (result : Answered)
      → IfReplied result (IsRefusedSo cells caller session.number own now (no_memory_entry session ∷ []) cause.NoMemory)
      → IfReplied result (EndsWatch cells caller session s d own now None)
  watch-unread s d (Replied said) r =
      subst (λ (x : Reply). EndsWatch cells caller session s d own now None x) (sym r.said_is) (without_memory r.left)
  watch-unread s d Stopped r = tt

  pub watch-unfit : (s : Statement) (d : Decl) (misfit : Misfit) (result : Answered) → HasMisfit d s misfit
      → IfReplied result (IsRefusedSo cells caller session.number own now
      (entry.Refused session.number session.statements (code (of_misfit misfit)) ∷ []) (of_misfit misfit))
      → IfReplied result (EndsWatch cells caller session s d own now None)
  watch-unfit s d misfit (Replied said) has r =
      subst (λ (x : Reply). EndsWatch cells caller session s d own now None x) (sym r.said_is) (unfit misfit has r.left)
  watch-unfit s d misfit Stopped has r = tt

  -- A SHOW WATCH is refused.
  pub show-given-up : (kept : KeptWatch) (d : Decl) (epoch : ℕ) (result : Answered)
      → IfReplied result (IsRefusedSo cells caller session.number own now
      (given_up session (other_holder session.number kept.holder) epoch) cause.NoMemory)
      → IfReplied result (EndsShow cells caller session kept d own now kept)
  show-given-up kept d epoch (Replied said) r =
      subst (λ (x : Reply). EndsShow cells caller session kept d own now kept x) (sym r.said_is) (show_given_up epoch r.left)
  show-given-up kept d epoch Stopped r = tt

  pub show-unread : (kept : KeptWatch) (d : Decl) (result : Answered)
      → IfReplied result (IsRefusedSo cells caller session.number own now (no_memory_entry session ∷ []) cause.NoMemory)
      → IfReplied result (EndsShow cells caller session kept d own now kept)
  show-unread kept d (Replied said) r =
      subst (λ (x : Reply). EndsShow cells caller session kept d own now kept x) (sym r.said_is) (show_unread r.left)
  show-unread kept d Stopped r = tt

-- What a session was told of the cube of its WATCH.
pub watches-told : (s : Statement) (place : ℕ) (d : Decl) (own now : List CoreEntry) → IsPrefix own now
    → is_watch s ≡ true → FitsCube d s
    → ((name : List ℕ) × (cube_needed s ≡ Some name) × IsToldOfCube own name place d) → WatchesCube s place d now
watches-told s place d own now more form fits told = record {
  form = form;
  name = told.0;
  needed = told.1;
  told = still-told own now told.0 place d more told.2;
  fits = fits;
}

-- A refusal for a misfit speaks of no cube, and not of the store.
pub misfit-plain : (m : Misfit) → (is_cube_code (code (of_misfit m)) ≡ false) × (code (of_misfit m) ≢ 17)
misfit-plain (misfit.UnknownColumn name) = (refl, λ is. omega (arith, is))
misfit-plain (misfit.WrongKind name) = (refl, λ is. omega (arith, is))
misfit-plain (misfit.NotGrouped name) = (refl, λ is. omega (arith, is))
misfit-plain (misfit.NotAnItem item) = (refl, λ is. omega (arith, is))
misfit-plain (misfit.BadHaving item) = (refl, λ is. omega (arith, is))
misfit-plain (misfit.NotWatchable item) = (refl, λ is. omega (arith, is))
misfit-plain (misfit.CutsBrick name) = (refl, λ is. omega (arith, is))
misfit-plain (misfit.BadRow row why) = (refl, λ is. omega (arith, is))
