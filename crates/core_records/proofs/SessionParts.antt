-- A session's part of the journal is what its own calls left.
use Rattle.std.proofs.Common.{◌≡◌, ◌∙◌, ℕ, ◌==◌, Bool, true, false, cond, if◌then◌else◌, List, [], ◌∷◌, ◌++◌, filter, append-nil, Option, Some, None, refl, sym, ap, eqb-true}
use Rattle.std.proofs.lemmas.List.Elements.{filter-append}
use Rattle.cube_journal.specs.declared.journal_entry.JournalEntry.{JournalEntry}
use Rattle.cube_run.specs.SessionSteps.{belongs_to, entries_of, is_of_statement, session_part}
use Rattle.aosi_desk.specs.State.{RegisterState}
use Rattle.aosi_desk.specs.Desks.{DeskState}
use Rattle.core_events.specs.Cells.{desk_after}
use Rattle.core_events.specs.Clients.{calls_of, client_state}
use Rattle.core_events.specs.Events.{Opening, IsOpening, IsSession, ClientCall, OnDesk, OnNames, Post, Fetch, CloseMail, NoChange, CoreEvent, By, At}
use Rattle.core_events.specs.Runs.{IsCoreRun}
use Rattle.core_events.proofs.Agreement.{opening-of}
use Rattle.core_events.proofs.DeskSteps.{client_entry, desk_entry, register_with, register-step}
use Rattle.core_serial.specs.Journals.{journal_of}
use Rattle.core_serial.proofs.Entries.{journal_with, journal-step}
use Rattle.core_records.specs.OwnEntries.{desk_by_calls, entries_by_calls}
use Rattle.core_records.proofs.EntryOwners.{IsEntryOf, belongs, entry-of}

with-journal : (e : Option JournalEntry) (r : RegisterState) → (register_with e r).journal ≡ journal_with e r.journal
with-journal None r = refl
with-journal (Some e) r = refl

-- The journal of any desk after a call.
pub desk-journal : (a : ℕ) (call : ClientCall) (desk : DeskState)
    → (desk_after a call desk).register.journal ≡ journal_with (client_entry a call) desk.register.journal
desk-journal a (OnDesk call) desk =
    ap (λ (r : RegisterState). r.journal) (register-step a call desk) ∙ with-journal (desk_entry a call) desk.register
desk-journal a (OnNames call) desk = refl
desk-journal a (Post mail job) desk = refl
desk-journal a (Fetch mail answer) desk = refl
desk-journal a (CloseMail mail) desk = refl
desk-journal a NoChange desk = refl

-- The entry counts where the call is the session's own.
abbrev journal_where : Bool → Option JournalEntry → List JournalEntry → List JournalEntry
journal_where true e journal = journal_with e journal
journal_where false e journal = journal

part-step : (o : Opening) (a b : ℕ) (t : Bool) (e : Option JournalEntry) (journal : List JournalEntry) → IsOpening o
    → IsSession o a → IsEntryOf o b e → (b == a) ≡ t
    → session_part a (journal_with e journal) ≡ journal_where t e (session_part a journal)
part-step o a b true None journal opening sa is own = refl
part-step o a b false None journal opening sa is own = refl
part-step o a b true (Some e) journal opening sa is own =
    filter-append (belongs_to a) journal (e ∷ [])
    ∙ ap (λ (c : Bool). session_part a journal ++ cond c (e ∷ []) []) (belongs o a b e opening sa is ∙ own)
part-step o a b false (Some e) journal opening sa is own =
    filter-append (belongs_to a) journal (e ∷ [])
    ∙ ap (λ (c : Bool). session_part a journal ++ cond c (e ∷ []) []) (belongs o a b e opening sa is ∙ own)
    ∙ append-nil (session_part a journal)

call-step : (o : Opening) (a b : ℕ) (call : ClientCall) (t : Bool) (calls : List ClientCall) (part : List JournalEntry)
    → (b == a) ≡ t → part ≡ entries_by_calls o a calls
    → journal_where t (client_entry b call) part ≡ entries_by_calls o a (if t then call ∷ calls else calls)
call-step o a b call true calls part own before =
    ap (journal_with (client_entry b call)) before
    ∙ ap (λ (c : ℕ). journal_with (client_entry c call) (entries_by_calls o a calls)) (eqb-true b a own)
    ∙ sym (desk-journal a call (desk_by_calls o a calls))
call-step o a b call false calls part own before = before

pub own-part : (o : Opening) (es : List CoreEvent) (a : ℕ) → IsCoreRun o es → IsSession o a
    → session_part a (journal_of o es) ≡ entries_by_calls o a (calls_of a es)
own-part o [] a run sa = refl
own-part o (By b call ∷ es) a run sa =
    ap (session_part a) (journal-step o b call es)
    ∙ part-step o a b (b == a) (client_entry b call) (journal_of o es) (opening-of o es run.0) sa
    (entry-of o b call (client_state o b es) run.1.fits) refl
    ∙ call-step o a b call (b == a) (calls_of a es) (session_part a (journal_of o es)) refl (own-part o es a run.0 sa)
own-part o (At mail move ∷ es) a run sa = own-part o es a run.0 sa

pub own-entries : (o : Opening) (es : List CoreEvent) (a statement : ℕ) → IsCoreRun o es → IsSession o a
    → entries_of a statement (journal_of o es)
    ≡ filter (is_of_statement statement) (entries_by_calls o a (calls_of a es))
own-entries o es a statement run sa = ap (filter (is_of_statement statement)) (own-part o es a run sa)
