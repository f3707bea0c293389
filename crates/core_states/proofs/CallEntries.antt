-- What a client's own calls leave in the journal, with one call more.
use Rattle.std.proofs.Common.{◌≡◌, ◌∙◌, ℕ, zero, suc, List, [], ◌∷◌, ◌++◌, replicate, Option, Some, None, refl, sym, ap, subst, append_assoc, append-nil}
use Rattle.std.specs.Option.{option_map_or}
use Rattle.mail_cell.specs.declared.answer.Fetched.{Fetched}
use Rattle.mail_cell.specs.declared.answer.Fetched.TheVariants.{Got, NotYet}
use Rattle.aosi_desk.specs.declared.cube.CubeAnswer.TheVariants.{Created, Exists, TooMany}
use Rattle.aosi_desk.specs.declared.cube.CubeFound.TheVariants.{Unknown}
use Rattle.core_program.specs.ClientCalls.{HasFetched, ask_entry, desk_entry, names_entry, post_entry}
use Rattle.cube_core.specs.Links.{AreEventsOf}
use Rattle.cube_core.specs.BoardCells.{IsEntryEvent, job_asked}
use Rattle.core_cells.specs.declared.desk.DeskAnswer.{DeskAnswer}
use Rattle.core_cells.specs.declared.desk.DeskAnswer.TheVariants as answer
use Rattle.core_cells.specs.declared.desk.DeskCall.{DeskCall}
use Rattle.core_cells.specs.declared.desk.DeskCall.TheVariants as call
use Rattle.core_cells.specs.declared.names.NamesAnswer.{NamesAnswer}
use Rattle.core_cells.specs.declared.names.NamesAnswer.TheVariants as named
use Rattle.core_cells.specs.declared.names.NamesCall.{NamesCall}
use Rattle.core_cells.specs.declared.names.NamesCall.TheVariants as names
use Rattle.core_program.proofs.KnownCalls.{desk-learns, earlier-run, fetch-learns, names-learn, post-learns, waiting-learns}
use Rattle.core_program.specs.Knowing.{IsClientOf, IsMailAt}
use Rattle.core_events.proofs.DeskSteps.{client_entry}
use Rattle.core_events.specs.Clients.{ClientState, calls_of, held_under, state_from_calls}
use Rattle.core_events.specs.Events.{Opening, ClientCall, Fetch, NoChange, Post, CoreEvent}
use Rattle.core_events.specs.Jobs.{CoreJob, JobOutcome}
use Rattle.core_events.specs.ShardView.{ShardView}
use Rattle.core_serial.proofs.Entries.{journal_with}
use Rattle.cube_core.specs.DeskEvents.{desk_event, own_epoch}
use Rattle.cube_core.specs.NamesEvents.{names_event}
use Rattle.core_states.specs.CorePasts.{nothing_behind}
use Rattle.core_states.specs.OwnCalls.{EndsAt, KnowsEnd, OwnCallsLeave, Tells, desk_leaves}
use Rattle.core_program.specs.CoreFits.{CoreEntry, OpensCells}
use Rattle.core_records.proofs.SessionParts.{desk-journal}
use Rattle.core_records.specs.OwnEntries.{desk_by_calls, entries_by_calls}
use Rattle.cube_core.specs.declared.cell.CoreCell.{CoreCell}
use Rattle.cube_core.specs.declared.jobs.Job.{Job}
use Rattle.cube_core.specs.declared.jobs.JobAnswer.{JobAnswer}
use Rattle.cube_core.specs.declared.shard.ShardAnswer.{ShardAnswer}
use Rattle.cube_core.specs.declared.shard.ShardCall.{ShardCall}
use Rattle.cube_journal.specs.declared.journal_entry.AbortCause.{AbortCause}
use Rattle.cube_journal.specs.declared.journal_entry.JournalEntry.{JournalEntry}
use Rattle.cube_journal.specs.declared.journal_entry.JournalEntry.TheVariants as entry
use Rattle.cube_values.specs.declared.snapshot.Snapshot.{Snapshot}
use Rattle.session_snapshots.specs.KnownHolds.{HoldsRolledBack, HoldsWriter}

-- What the event of a call adds to a journal is what the call leaves.
event-leaves : (a epoch : ℕ) (o : Opening) (calls : List ClientCall) (c : DeskCall) (said : DeskAnswer)
    (entries : List JournalEntry) → EndsAt a epoch c o calls
    → journal_with (client_entry a (desk_event a (state_from_calls o a calls) c said)) entries
    ≡ entries ++ desk_leaves a epoch c said
event-leaves a epoch o calls (call.OpenWrite session statement) (answer.Opened s) entries h = refl
event-leaves a epoch o calls (call.OpenRead number statement) (answer.Opened s) entries h = refl
event-leaves a epoch o calls (call.Commit session statement) answer.Done entries h =
    ap (λ (n : ℕ). entries ++ entry.Committed a statement n ∷ []) h
event-leaves a epoch o calls (call.AbortEnd session statement cause) answer.Done entries h =
    ap (λ (n : ℕ). entries ++ entry.Aborted a statement n cause ∷ []) h
event-leaves a epoch o calls (call.CloseRead number statement) answer.Done entries h = refl
event-leaves a epoch o calls (call.Note note) (answer.Counted shown) entries h = refl
event-leaves a epoch o calls (call.CreateCube session statement decl) (answer.Created (Created made place)) entries h = refl
event-leaves a epoch o calls (call.CreateCube session statement decl) (answer.Created Exists) entries h = refl
event-leaves a epoch o calls (call.CreateCube session statement decl) (answer.Created TooMany) entries h = refl
event-leaves a epoch o calls (call.FindCube session statement name) (answer.Found Unknown) entries h = refl
event-leaves a epoch o calls call.RoundOpen (answer.Round asked) entries h = refl
event-leaves a epoch o calls (call.RoundClose closed end) answer.Done entries h = refl
event-leaves a epoch o calls (call.CubesFrom place) (answer.Cubes cubes) entries h = sym (append-nil entries)
event-leaves a epoch o calls call.Counters (answer.Counted shown) entries h = sym (append-nil entries)
event-leaves a epoch o calls call.StoreFailed (answer.Failed failed) entries h = sym (append-nil entries)
event-leaves a epoch o calls c said entries h = sym (append-nil entries)

-- A call on the names is none on the desk.
names-leave : (a : ℕ) (c : NamesCall) (said : NamesAnswer) → client_entry a (names_event c said) ≡ None
names-leave a (names.Encode cube dim shape name) (named.Coded code) = refl
names-leave a (names.Find cube dim name) (named.Found number) = refl
names-leave a (names.CopyFrom cube dim from) (named.Copied copied) = refl
names-leave a c said = refl

module _ {S : Type 0} (fits : Opening → ℕ → ShardCall → Type 0) (stands : Opening → ℕ → ℕ → S → ShardView → Type 0)
    (says : CoreJob → ShardAnswer → JobOutcome → Type 0) (cells : List (CoreCell S)) (caller client : ℕ) where
  abbrev Leave : List CoreEntry → List JournalEntry → Type 0
  Leave own entries = OwnCallsLeave fits stands says cells caller client own entries

  pub none-left : Tells fits stands says cells caller client nothing_behind
  none-left o log run es later are =
      subst (λ (l : List CoreEvent). entries_by_calls o client (calls_of client l) ≡ []) are refl

  pub desk-left : (own : List CoreEntry) (entries : List JournalEntry) (epoch : ℕ) (c : DeskCall) (said : DeskAnswer)
      → IsClientOf fits stands says cells caller client → Leave own entries
      → KnowsEnd fits stands says cells caller client own epoch c
      → Leave (own ++ desk_entry caller c said ∷ []) (entries ++ desk_leaves client epoch c said)
  desk-left own entries epoch c said acts leave ends o log run es later are =
      let g = desk-learns fits stands says cells caller client acts own c said o log es later.opens are in
      let earlier = earlier-run fits stands says cells o caller own (desk_entry caller c said ∷ []) log run later in
      let calls = calls_of client g.before in
      let x = desk_event client (state_from_calls o client calls) c said in
      ap (entries_by_calls o client) g.calls
      ∙ desk-journal client x (desk_by_calls o client calls)
      ∙ ap (journal_with (client_entry client x)) (leave o log run g.before earlier g.events)
      ∙ event-leaves client epoch o calls c said entries (ends o log run g.before earlier g.events)

  -- The events of own calls with one more are those of the calls before it and one that leaves no entry.
  pub record NoEntryMore (o : Opening) (own : List CoreEntry) (es : List CoreEvent) : Type 0 where
    pub before : List CoreEvent
    pub events : AreEventsOf (IsEntryEvent fits stands says o) own before
    pub last : ClientCall
    pub calls : calls_of client es ≡ last ∷ calls_of client before
    pub none : client_entry client last ≡ None

  no-more-left : (own : List CoreEntry) (e : CoreEntry) (entries : List JournalEntry) → Leave own entries
      → ((o : Opening) (log : List CoreEntry) (es : List CoreEvent) → OpensCells fits stands says o cells log
      → AreEventsOf (IsEntryEvent fits stands says o) (own ++ e ∷ []) es → NoEntryMore o own es)
      → Leave (own ++ e ∷ []) entries
  no-more-left own e entries leave adds o log run es later are =
      let g = adds o log es later.opens are in
      let earlier = earlier-run fits stands says cells o caller own (e ∷ []) log run later in
      ap (entries_by_calls o client) g.calls
      ∙ desk-journal client g.last (desk_by_calls o client (calls_of client g.before))
      ∙ ap (λ (x : Option JournalEntry). journal_with x (entries_by_calls o client (calls_of client g.before))) g.none
      ∙ leave o log run g.before earlier g.events

  pub names-left : (own : List CoreEntry) (entries : List JournalEntry) (c : NamesCall) (said : NamesAnswer)
      → IsClientOf fits stands says cells caller client → Leave own entries
      → Leave (own ++ names_entry caller c said ∷ []) entries
  names-left own entries c said acts leave =
      no-more-left own (names_entry caller c said) entries leave (λ o log es opens are.
      let g = names-learn fits stands says cells caller client acts own c said o log es opens are in
      record {
        before = g.before;
        events = g.events;
        last = names_event c said;
        calls = g.calls;
        none = names-leave client c said;
      })

  pub post-left : (number cell : ℕ) (own : List CoreEntry) (entries : List JournalEntry) (job : Job)
      → IsClientOf fits stands says cells caller client → IsMailAt fits stands says cells number cell → Leave own entries
      → Leave (own ++ post_entry caller client cell job ∷ []) entries
  post-left number cell own entries job acts at leave =
      no-more-left own (post_entry caller client cell job) entries leave (λ o log es opens are.
      let g = post-learns fits stands says cells caller client acts number cell own job o log es at opens are in
      record {
        before = g.before;
        events = g.events;
        last = Post number (job_asked job);
        calls = g.calls;
        none = refl;
      })

  pub ask-left : (number cell : ℕ) (own : List CoreEntry) (entries : List JournalEntry) (fetched : Fetched JobAnswer)
      → IsClientOf fits stands says cells caller client → IsMailAt fits stands says cells number cell → Leave own entries
      → Leave (own ++ ask_entry caller client cell fetched ∷ []) entries
  ask-left number cell own entries (Got said) acts at leave =
      no-more-left own (ask_entry caller client cell (Got said)) entries leave (λ o log es opens are.
      let g = fetch-learns fits stands says cells caller client acts number cell own said o log es at opens are in
      record {
        before = g.before;
        events = g.events;
        last = Fetch number g.outcome;
        calls = g.calls;
        none = refl;
      })
  ask-left number cell own entries NotYet acts at leave =
      no-more-left own (ask_entry caller client cell NotYet) entries leave (λ o log es opens are.
      let g = waiting-learns fits stands says cells caller client acts number cell own o log es at opens are in
      record {
        before = g.before;
        events = g.events;
        last = NoChange;
        calls = g.calls;
        none = refl;
      })

  waits-left : (number cell waits : ℕ) (own : List CoreEntry) (entries : List JournalEntry)
      → IsClientOf fits stands says cells caller client → IsMailAt fits stands says cells number cell → Leave own entries
      → Leave (own ++ replicate waits (ask_entry caller client cell NotYet)) entries
  waits-left number cell zero own entries acts at leave =
      subst (λ (l : List CoreEntry). Leave l entries) (sym (append-nil own)) leave
  waits-left number cell (suc waits) own entries acts at leave =
      let ask = ask_entry caller client cell NotYet in
      subst (λ (l : List CoreEntry). Leave l entries) (append_assoc own (ask ∷ []) (replicate waits ask))
      (waits-left number cell waits (own ++ ask ∷ []) entries acts at (ask-left number cell own entries NotYet acts at leave))

  pub fetch-left : (number cell : ℕ) (own now : List CoreEntry) (entries : List JournalEntry) (said : JobAnswer)
      → IsClientOf fits stands says cells caller client → IsMailAt fits stands says cells number cell → Leave own entries
      → HasFetched caller client cell said own now → Leave now entries
  fetch-left number cell own now entries said acts at leave fetched =
      subst (λ (l : List CoreEntry). Leave l entries) (sym fetched.whole)
      (ask-left number cell (own ++ replicate fetched.waits (ask_entry caller client cell NotYet)) entries (Got said) acts at
      (waits-left number cell fetched.waits own entries acts at leave))

  held-epoch : (a : ℕ) (k : ClientState) (s : Snapshot) → held_under a k.holds ≡ Some s → own_epoch a k ≡ s.epoch
  held-epoch a k s held = ap (λ (h : Option Snapshot). option_map_or (λ x. x.epoch) h 0) held

  pub commits-at : (number statement : ℕ) (own : List CoreEntry) (s : Snapshot)
      → HoldsWriter fits stands says cells caller client own s
      → KnowsEnd fits stands says cells caller client own s.epoch (call.Commit number statement)
  commits-at number statement own s holds o log run es later are =
      held-epoch client (state_from_calls o client (calls_of client es)) s
      (holds o log run es later are).ready.holds.held

  pub aborts-at : (number statement : ℕ) (cause : AbortCause) (own : List CoreEntry) (s : Snapshot)
      → HoldsRolledBack fits stands says cells caller client own s
      → KnowsEnd fits stands says cells caller client own s.epoch (call.AbortEnd number statement cause)
  aborts-at number statement cause own s holds o log run es later are =
      held-epoch client (state_from_calls o client (calls_of client es)) s
      (holds o log run es later are).holds.held
