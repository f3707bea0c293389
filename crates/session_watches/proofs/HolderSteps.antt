-- A session opens or closes a reader of a holder: what it then knows.
use Rattle.std.proofs.Common.{◌≡◌, ℕ, List, [], ◌∷◌, ◌++◌, Option, Some, None, IfSome, IfNone, sym, subst}
use Rattle.std.specs.Option.{option_map_or}
use Rattle.cube_values.specs.declared.snapshot.Snapshot.{Snapshot}
use Rattle.core_program.specs.ClientCalls.{desk_entry}
use Rattle.core_cells.specs.declared.desk.DeskAnswer.{DeskAnswer}
use Rattle.core_cells.specs.declared.desk.DeskAnswer.TheVariants as answer
use Rattle.core_cells.specs.declared.desk.DeskCall.TheVariants as call
use Rattle.core_program.specs.Knowing.{IsClientOf, IsSessionOf, Knows, MayCallDesk}
use Rattle.core_events.specs.Clients.{ClientState, reader_up_to}
use Rattle.core_events.specs.Events.{Opening}
use Rattle.core_events.specs.Jobs.{CoreJob, JobOutcome}
use Rattle.core_events.specs.ShardView.{ShardView}
use Rattle.core_program.specs.CoreFits.{CoreEntry}
use Rattle.cube_core.specs.declared.cell.CoreCell.{CoreCell}
use Rattle.cube_core.specs.declared.shard.ShardAnswer.{ShardAnswer}
use Rattle.cube_core.specs.declared.shard.ShardCall.{ShardCall}
use Rattle.session_snapshots.specs.KnownHolds.{HoldsReady, HoldsTheSame}
use Rattle.cube_core.specs.HoldStates.{IsReadyWith, after_desk_call}
use Rattle.cube_core.proofs.Snapshots.{no-memory}
use Rattle.session_snapshots.proofs.KnownSteps.{after-call, holds-on, if-not-answered, may-call}
use Rattle.session_watches.specs.KnownReaders.{HoldersGain, HoldersHave, HoldersKeep, opened_reader}
use Rattle.watch_holds.specs.HolderStates.{HasReaderUnder, HasReaders, HeldReaders, IsFreeBeside, IsHolderOf, NoReader, OneReader, TwoReaders, readers_with}
use Rattle.watch_holds.proofs.HolderCalls.{last-closed, may-close, may-open, newer-closed, older-closed, opened}
use Rattle.watch_holds.proofs.HolderStaying.{closed-stays, opened-stays}

-- The own snapshot by an answer.
ready-by-opening : (a number statement : ℕ) (result : Option ℕ) → IsHolderOf a number → (held : Option Snapshot)
    (o : Opening) (k : ClientState) → IsReadyWith o a held k → IsReadyWith o a held (after_desk_call o a
    (call.OpenRead number statement) (option_map_or opened_reader result answer.NoMemory) k)
ready-by-opening a number statement (Some epoch) holder held o k r =
    opened-stays o a number statement (reader_up_to epoch) held k holder r
ready-by-opening a number statement None holder held o k r =
    subst (IsReadyWith o a held) (sym (no-memory o a (call.OpenRead number statement) k)) r

module _ {S : Type 0} (fits : Opening → ℕ → ShardCall → Type 0) (stands : Opening → ℕ → ℕ → S → ShardView → Type 0)
    (says : CoreJob → ShardAnswer → JobOutcome → Type 0) (cells : List (CoreCell S)) (caller session : ℕ)
    (acts : IsClientOf fits stands says cells caller session) (session_of : IsSessionOf fits stands says cells session)
    (own : List CoreEntry) (number statement : ℕ) (holder : IsHolderOf session number) where
  abbrev HaveBefore : HeldReaders → Type 0
  HaveBefore readers = HoldersHave fits stands says cells caller session own readers

  abbrev ReadyBefore : Option Snapshot → Type 0
  ReadyBefore held = HoldsReady fits stands says cells caller session own held

  abbrev IsReadyHaving : Option Snapshot → HeldReaders → Opening → ClientState → Type 0
  IsReadyHaving held readers o k = IsReadyWith o session held k × HasReaders session readers k

  pub may-open-holder : (held : Option Snapshot) (readers : HeldReaders) → ReadyBefore held → IsFreeBeside number readers → HaveBefore readers
      → Knows fits stands says cells caller session own (MayCallDesk session (call.OpenRead number statement))
  may-open-holder held readers ready free have =
      may-call fits stands says cells caller session own (call.OpenRead number statement) (IsReadyHaving held readers) session_of
      (λ o log run es later are. (ready o log run es later are, have o log run es later are))
      (λ o k a_session both. may-open o session number statement held readers k a_session both.0 both.1 holder free)

  pub may-close-holder : (held : Option Snapshot) (readers : HeldReaders) → ReadyBefore held → HasReaderUnder number readers → HaveBefore readers
      → Knows fits stands says cells caller session own (MayCallDesk session (call.CloseRead number statement))
  may-close-holder held readers ready under have =
      may-call fits stands says cells caller session own (call.CloseRead number statement) (IsReadyHaving held readers) session_of
      (λ o log run es later are. (ready o log run es later are, have o log run es later are))
      (λ o k a_session both. may-close o session number statement held readers k a_session both.0 both.1 under)

  module _ (now : List CoreEntry) (new_cells : List (CoreCell S)) (new_caller : ℕ) (same_cells : new_cells ≡ cells)
      (same_caller : new_caller ≡ caller) (said : DeskAnswer) where
    abbrev HaveThen : HeldReaders → Type 0
    HaveThen readers = HoldersHave fits stands says new_cells new_caller session now readers

    module _ (is : now ≡ own ++ desk_entry caller (call.OpenRead number statement) said ∷ []) (result : Option ℕ)
        (answered : said ≡ option_map_or opened_reader result answer.NoMemory) where
      pub opening-keeps : HoldsTheSame fits stands says session cells caller own new_cells new_caller now
      opening-keeps =
          holds-on fits stands says cells caller session acts session_of own now (call.OpenRead number statement) new_cells new_caller
          same_cells same_caller said is (option_map_or opened_reader result answer.NoMemory) answered
          (ready-by-opening session number statement result holder)

    module _ (is : now ≡ own ++ desk_entry caller (call.OpenRead number statement) said ∷ []) where
      pub opening-gains : (result : Option ℕ) → said ≡ option_map_or opened_reader result answer.NoMemory
          → IfSome result (HoldersGain fits stands says session cells caller own new_cells new_caller now number)
      opening-gains (Some epoch) answered = λ readers free have.
          after-call fits stands says cells caller session acts session_of own now (call.OpenRead number statement) new_cells new_caller
          same_cells same_caller said is (opened_reader epoch) (λ o k. HasReaders session readers k)
          (λ o k. HasReaders session (readers_with number epoch readers) k) answered have
          (λ o k a_session h. opened o session number statement (reader_up_to epoch) readers k h holder free)
      opening-gains None answered = tt

      pub opening-none : (result : Option ℕ) → said ≡ option_map_or opened_reader result answer.NoMemory
          → IfNone result (HoldersKeep fits stands says session cells caller own new_cells new_caller now)
      opening-none (Some epoch) answered = tt
      opening-none None answered = λ readers have.
          if-not-answered fits stands says cells caller session acts session_of own now (call.OpenRead number statement) new_cells new_caller
          same_cells same_caller said is opened_reader None (λ o k. HasReaders session readers k) answered have

    module _ (is : now ≡ own ++ desk_entry caller (call.CloseRead number statement) said ∷ []) (done : said ≡ answer.Done) where
      pub closing-keeps : HoldsTheSame fits stands says session cells caller own new_cells new_caller now
      closing-keeps =
          holds-on fits stands says cells caller session acts session_of own now (call.CloseRead number statement) new_cells new_caller
          same_cells same_caller said is answer.Done done
          (λ held o k r. closed-stays o session number statement held k holder r)

      closing-leads : (before then : HeldReaders) → ((o : Opening) (k : ClientState) → HasReaders session before k
          → HasReaders session then (after_desk_call o session (call.CloseRead number statement) answer.Done k))
          → HaveBefore before → HaveThen then
      closing-leads before then leads have =
          after-call fits stands says cells caller session acts session_of own now (call.CloseRead number statement) new_cells new_caller
          same_cells same_caller said is answer.Done (λ o k. HasReaders session before k) (λ o k. HasReaders session then k) done have
          (λ o k a_session h. leads o k h)

      pub closing-last : (epoch : ℕ) → HaveBefore (OneReader number epoch) → HaveThen NoReader
      closing-last epoch =
          closing-leads (OneReader number epoch) NoReader (λ o k h. last-closed o session number statement epoch k h)

      pub closing-older : (from newer to : ℕ) → HaveBefore (TwoReaders number from newer to) → HaveThen (OneReader newer to)
      closing-older from newer to =
          closing-leads (TwoReaders number from newer to) (OneReader newer to)
          (λ o k h. older-closed o session number from newer to statement k h)

      pub closing-newer : (older from to : ℕ) → HaveBefore (TwoReaders older from number to) → HaveThen (OneReader older from)
      closing-newer older from to =
          closing-leads (TwoReaders older from number to) (OneReader older from)
          (λ o k h. newer-closed o session older from number to statement k h)
