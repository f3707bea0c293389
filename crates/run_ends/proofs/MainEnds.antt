-- Main's purge goes up to the LSE at which the run ends, and its group stays as it closes the mails.
use Rattle.std.proofs.Common.{◌≡◌, ◌∙◌, ℕ, zero, suc, ◌+◌, ◌<◌, ◌≤◌, List, [], ◌∷◌, ◌++◌, append_assoc, append-nil, inl, sym, ap, arith}
use Rattle.cube_journal.specs.declared.counters.Counters.{Counters}
use Rattle.closing_calls.specs.ClosingCalls.{close_entries}
use Rattle.cube_journal.specs.Counters.{counters_in}
use Rattle.core_events.specs.Cells.{counters_of_run}
use Rattle.core_events.specs.Clients.{ClientState, calls_of, client_state, state_from_calls}
use Rattle.core_events.specs.Events.{Opening, CloseMail, CoreEvent, By}
use Rattle.core_events.specs.Runs.{IsCoreRun}
use Rattle.core_events.proofs.Knowledge.{known-by-calls}
use Rattle.core_program.specs.ClientCalls.{close_entry}
use Rattle.core_program.specs.CoreFits.{CoreEntry, FitsOwnCalls, OpensCells}
use Rattle.core_program.proofs.KnownCalls.{client-part, split-last}
use Rattle.cube_core.proofs.OwnEntries.{client-low}
use Rattle.cube_core.specs.BoardCells.{IsEntryEvent, cell_of_shard}
use Rattle.cube_core.specs.CoreSteps.{CoreStep}
use Rattle.cube_core.specs.Links.{AreEventsAfter, AreEventsOf}
use Rattle.cube_core.specs.declared.cell.CoreCell.{CoreCell}
use Rattle.cube_core.specs.declared.cell.CoreCell.TheVariants as cell
use Rattle.linked_shards.specs.CellShards.{CoreShardStands, CoreShardStep}
use Rattle.linked_shards.specs.declared.cell.CoreShard.{CoreShard}
use Rattle.shard_events.specs.ShardsInRuns.{FitsShard, ShardAnswerSays}
use Rattle.threaded_callers.specs.Ends.{IsHistoryTo}
use Rattle.turn_board.proofs.Places.{inside, there}
use Rattle.turn_board.specs.History.{of_caller}
use Rattle.final_shards.specs.FinalShards.{HasPurgedToLse, lse_of}
use Rattle.final_shards.specs.PurgedBricks.{HasPurgedShards}
use Rattle.final_shards.proofs.PurgedShards.{all-purged}
use Rattle.shut_shards.specs.ShutShards.{HasNoMarksUpTo, IsShardIn}
use Rattle.shut_shards.proofs.MarkedCells.{cell-cleared}
use Rattle.run_ends.specs.RunEnds.{EndsByPurge}
use Rattle.run_ends.proofs.QuietCallers.{NoneOfEnded, counters_entry, read-counters, rest-of, split, state-stays}

-- ---- main closes the mails

abbrev OfEntries : Opening → List CoreEvent → List CoreEntry → List CoreEvent → Type 0
OfEntries o start log es = AreEventsAfter (IsEntryEvent FitsShard CoreShardStands ShardAnswerSays o) start log es

abbrev main_state : Opening → List CoreEvent → ClientState
main_state o es = state_from_calls o 0 (calls_of 0 es)

closing-stays : (o : Opening) (first mails : ℕ) (start es : List CoreEvent)
    → OfEntries o start (close_entries first mails) es → (main_state o es).group ≡ (main_state o start).group
closing-stays o first zero start es are = ap (λ (l : List CoreEvent). (main_state o l).group) (sym are)
closing-stays o first (suc mails) start es are =
    let last =
    split-last (IsEntryEvent FitsShard CoreShardStands ShardAnswerSays o) start (close_entries first mails)
    (close_entry 0 (first + mails)) es are
    in
    let is : last.last ≡ By 0 (CloseMail last.is.0) = last.is.3 in
    ap (λ (l : List CoreEvent). (main_state o l).group) (sym last.whole)
    ∙ ap (λ (x : CoreEvent). (main_state o (x ∷ last.before)).group) is
    ∙ closing-stays o first mails start last.before last.events

module _ (o : Opening) (opening : List (CoreCell CoreShard)) (log : List CoreEntry) (es : List CoreEvent)
    (counters : Counters) (opens : OpensCells FitsShard CoreShardStands ShardAnswerSays o opening log)
    (events : AreEventsOf (IsEntryEvent FitsShard CoreShardStands ShardAnswerSays o) log es) (run : IsCoreRun o es)
    (h : EndsByPurge o.shards o.sessions counters opening log) where
  main-low : 0 ≤ o.sessions
  main-low = omega arith

  -- All that main's own calls are.
  main-part : (own : List CoreEvent) × OfEntries o [] (of_caller 0 log) own × (calls_of 0 es ≡ calls_of 0 own)
  main-part =
      let part = client-part FitsShard CoreShardStands ShardAnswerSays o 0 log es (inl main-low) events in (
        part.own,
        part.events,
        coe 0 1 (i. calls_of (client-low o 0 main-low i) es ≡ calls_of (client-low o 0 main-low i) part.own) part.same,
      )

  pub main-purged : HasPurgedShards o.shards counters.lse (client_state o 0 es).group
  main-purged =
      let part = main-part in
      let ends = h.ends in
      let cut =
      split o ends.purged (close_entries (2 + o.shards) o.shards) [] part.0
      (coe 0 1 (i. OfEntries o [] (ends.closes i) part.0) part.1)
      in
      let knows =
      ends.purges.purged o log es cut.0
      (record {
        opens = opens;
        begins = (close_entries (2 + o.shards) o.shards, sym ends.closes);
        events = events;
        is_run = run;
      }) cut.1
      in
      let same : (client_state o 0 es).group ≡ (main_state o cut.0).group =
      ap (λ (k : ClientState). k.group) (known-by-calls o 0 es ∙ ap (state_from_calls o 0) part.2)
      ∙ closing-stays o (2 + o.shards) o.shards cut.0 part.0 cut.2
      in
      coe 1 0 (i. HasPurgedShards o.shards counters.lse (same i)) (record { purges = knows.purges; done = knows.done })

  -- What main did behind the moment begins with the counters.
  behind-reads : (more : List CoreEntry) × (of_caller 0 h.goes_on.0 ≡ counters_entry counters ∷ more)
  behind-reads =
      let ends = h.ends in
      let asked = ends.purges.asked.more in
      let closes = close_entries (2 + o.shards) o.shards in
      let stopping = of_caller 0 h.moment in
      let read = counters_entry counters in (
        asked.more ++ closes,
        rest-of 0 h.moment h.goes_on.0 log (read ∷ (asked.more ++ closes)) h.goes_on.1
            (ends.closes
            ∙ ap (λ (l : List CoreEntry). l ++ closes) (asked.whole ∙ append_assoc stopping (read ∷ []) asked.more)
            ∙ append_assoc stopping (read ∷ asked.more) closes),
      )

  others-quiet : NoneOfEnded o h.goes_on.0
  others-quiet caller is =
      rest-of caller h.moment h.goes_on.0 log [] h.goes_on.1
      (sym (h.ended caller is) ∙ sym (append-nil (of_caller caller h.moment)))

  pub last-counters : counters ≡ counters_in (counters_of_run o es)
  last-counters =
      let cut = split o h.moment h.goes_on.0 [] es (coe 1 0 (i. OfEntries o [] (h.goes_on.1 i) es) events) in
      read-counters o counters h.goes_on.0 behind-reads.0 cut.0 es cut.2 run others-quiet behind-reads.1
      ∙ ap counters_in (sym (state-stays o h.goes_on.0 cut.0 es cut.2 run others-quiet))

  last-lse : lse_of o es ≡ counters.lse
  last-lse = ap (λ (c : Counters). c.lse) (sym last-counters)

  pub main-purged-to-lse : HasPurgedToLse o es 0
  main-purged-to-lse = coe 1 0 (i. HasPurgedShards o.shards (last-lse i) (client_state o 0 es).group) main-purged

  pub no-old-marks : (callers : ℕ) (cells : List (CoreCell CoreShard)) (number : ℕ) (s : CoreShard)
      → IsHistoryTo (CoreStep CoreShardStep) (FitsOwnCalls FitsShard CoreShardStands ShardAnswerSays) callers opening
      cells log → number < o.shards → IsShardIn cells number s → HasNoMarksUpTo (lse_of o es) s.shard
  no-old-marks callers cells number s history low is =
      let within = inside cells (cell_of_shard number) (cell.Shard s) is in
      let long = history.long in
      let first = there opening (cell_of_shard number) (omega (arith, within, long)) in
      cell-cleared o number (lse_of o es) log es first.0 (cell.Shard s) events run
      (history.leads (cell_of_shard number) first.0 (cell.Shard s) first.1 is)
      (all-purged o es 0 (lse_of o es) number run main-purged-to-lse low)
