-- Behind the sessions' last calls come those of the flusher's last round.
use Rattle.std.proofs.Common.{◌≡◌, ◌≢◌, ◌∙◌, ℕ, ◌+◌, ◌≤◌, eqb, Bool, true, false, true≢false, ◌||◌, List, [], ◌∷◌, ◌++◌, cond, drop, filter, get_or, length, map, append_assoc, append-nil, Some, zero, if◌then◌else◌, inl, refl, sym, ap, arith, eq-eqb}
use Rattle.std.specs.List.{list_any}
use Rattle.std.proofs.lemmas.Bool.{eqb-false}
use Rattle.std.proofs.lemmas.List.Elements.{filter-append}
use Rattle.cube_journal.specs.Counters.{counters_in, lce}
use Rattle.cube_journal.specs.declared.counters.Counters.{Counters}
use Rattle.core_events.specs.Cells.{counters_of_run}
use Rattle.core_events.specs.Clients.{ClientState, calls_of, held_under, state_from_calls}
use Rattle.core_events.specs.Events.{Opening, flusher, flush_mail, ClientCall, NoJob, CoreEvent, By, At}
use Rattle.core_events.specs.Runs.{IsCoreRun}
use Rattle.core_events.proofs.Knowledge.{known-by-calls}
use Rattle.core_program.specs.CoreFits.{CoreEntry}
use Rattle.core_serial.specs.Journals.{journal_of}
use Rattle.core_settled.proofs.Settled.{run-before}
use Rattle.cube_core.proofs.OwnEntries.{client-low, own-calls}
use Rattle.cube_core.specs.BoardCells.{IsClientCaller, client_of}
use Rattle.cube_core.specs.Links.{is_call_of}
use Rattle.cube_core.specs.declared.cell.CoreCell.{CoreCell}
use Rattle.flush_loop.specs.FlushTurns.{GoOnByFlushes}
use Rattle.flush_loop.specs.declared.round_result.RoundResult.{RoundResult}
use Rattle.linked_shards.specs.CellShards.{CoreShardStands}
use Rattle.linked_shards.specs.declared.cell.CoreShard.{CoreShard}
use Rattle.shard_events.specs.ShardsInRuns.{FitsShard, ShardAnswerSays}
use Rattle.turn_board.specs.History.{of_caller}
use Rattle.final_shards.specs.FinalShards.{AllIsSafe, lse_of}
use Rattle.last_rounds.specs.SavedEpochs.{EndsByLastRound, EndsByRound, HasNoSessionCalls, HasSaved, SessionsHoldNothing, last_saved}
use Rattle.last_rounds.proofs.OpenCounters.{none-pending}
use Rattle.last_rounds.proofs.SavedRounds.{all-safe, calls-joined, saved-last, saved-lce, saved-lse}
use Rattle.run_ends.specs.RunEnds.{FlushesLast, IsEndedRun, ShowAllSafe}
use Rattle.run_ends.proofs.FlusherEvents.{OfEntries, caller_here, calls-among, finds_closed, flushers-events, is_flushers, none-among, none-found}
use Rattle.run_ends.proofs.QuietCallers.{rest-of, split}
use Rattle.run_ends.proofs.RecordedEnds.{shown-counters}

-- ---- callers without entries

-- The events of entries, behind earlier ones; who has no entry makes no call in them.
record EventsBehind (o : Opening) (log : List CoreEntry) (start es : List CoreEvent) : Type 0 where
  later : List CoreEvent
  whole : es ≡ later ++ start
  quiet : (caller : ℕ) → IsClientCaller o caller → of_caller caller log ≡ [] → calls_of (client_of o caller) later ≡ []

skip-call : (a : ℕ) (x : CoreEvent) → is_call_of a x ≡ false → calls_of a (x ∷ []) ≡ []
skip-call a (By b c) other = ap (λ (own : Bool). if own then c ∷ [] else []) other
skip-call a (At m move) other = refl

no-entry : (caller : ℕ) (e : CoreEntry) (log : List CoreEntry) → of_caller caller (e ∷ log) ≡ []
    → (e.caller ≢ caller) × (of_caller caller log ≡ [])
no-entry caller e log none = at (eqb e.caller caller) refl none
  where
    at : (own : Bool) → eqb e.caller caller ≡ own → cond own (e ∷ of_caller caller log) (of_caller caller log) ≡ []
        → (e.caller ≢ caller) × (of_caller caller log ≡ [])
    at true is none = absurd (let long = ap length none in omega (arith, long))
    at false is none = (eqb-false e.caller caller is, none)

events-behind : (o : Opening) (log : List CoreEntry) (start es : List CoreEvent) → OfEntries o start log es
    → EventsBehind o log start es
events-behind o [] start es are = record { later = []; whole = sym are; quiet = λ caller acts none. refl }
events-behind o (e ∷ log) start es are =
    let rest = events-behind o log (are.0 ∷ start) es are.2 in
    record {
      later = rest.later ++ are.0 ∷ [];
      whole = rest.whole ∙ sym (append_assoc rest.later (are.0 ∷ []) start);
      quiet = λ caller acts none.
          let parts = no-entry caller e log none in
          let other = own-calls FitsShard CoreShardStands ShardAnswerSays o caller acts start e are.0 parts.0 are.1 in
          calls-joined (client_of o caller) rest.later (are.0 ∷ [])
          ∙ (λ i. rest.quiet caller acts parts.1 i ++ skip-call (client_of o caller) are.0 other i);
    }

-- ---- a list that is cut behind an item

found-behind : (p : CoreEvent → Bool) (a : List CoreEvent) (x : CoreEvent) (b : List CoreEvent) → p x ≡ true
    → list_any p (a ++ x ∷ b) ≡ true
found-behind p [] x b is = ap (λ (t : Bool). t || list_any p b) is
found-behind p (y ∷ a) x b is = ap (λ (t : Bool). p y || t) (found-behind p a x b is) ∙ or-true (p y)
  where
    or-true : (t : Bool) → (t || true) ≡ true
    or-true true = refl
    or-true false = refl

cut-before : (p : CoreEvent → Bool) (a : List CoreEvent) (x : CoreEvent) (b first second : List CoreEvent) → p x ≡ true
    → a ++ x ∷ b ≡ first ++ second → list_any p second ≡ false
    → (c : List CoreEvent) × (first ≡ a ++ x ∷ c)
cut-before p a x b [] second is whole none =
    absurd (true≢false (sym (found-behind p a x b is) ∙ ap (list_any p) whole ∙ none))
cut-before p [] x b (y ∷ first) second is whole none =
    (first, λ i. sym (ap (λ (l : List CoreEvent). get_or l zero x) whole) i ∷ first)
cut-before p (z ∷ a) x b (y ∷ first) second is whole none =
    let rest = cut-before p a x b first second is (ap (λ (l : List CoreEvent). drop 1 l) whole) none in
    (rest.0, λ i. sym (ap (λ (l : List CoreEvent). get_or l zero x) whole) i ∷ rest.1 i)

own-calls-first : (a : ℕ) (calls : List ClientCall) (rest : List CoreEvent)
    → calls_of a (map (λ c. By a c) calls ++ rest) ≡ calls ++ calls_of a rest
own-calls-first a [] rest = refl
own-calls-first a (c ∷ calls) rest =
    ap (λ (own : Bool). if own then c ∷ calls_of a (map (λ d. By a d) calls ++ rest)
    else calls_of a (map (λ d. By a d) calls ++ rest)) (eq-eqb a a refl)
    ∙ ap (λ (l : List ClientCall). c ∷ l) (own-calls-first a calls rest)

-- ---- the last round

module _ (o : Opening) (how : RoundResult) (counters : Counters) (callers : ℕ)
    (opening cells : List (CoreCell CoreShard)) (log : List CoreEntry) (es : List CoreEvent)
    (r : IsEndedRun o counters callers opening cells log es) (h : FlushesLast o how opening log)
    (nothing : SessionsHoldNothing o es) where
  main-low : 0 ≤ o.sessions
  main-low = omega arith

  cut : (before : List CoreEvent) × OfEntries o [] h.moment before × OfEntries o before h.goes_on.0 es
  cut = split o h.moment h.goes_on.0 [] es (coe 1 0 (i. OfEntries o [] (h.goes_on.1 i) es) r.events)

  first : EventsBehind o h.moment [] cut.0
  first = events-behind o h.moment [] cut.0 cut.1

  second : EventsBehind o h.goes_on.0 cut.0 es
  second = events-behind o h.goes_on.0 cut.0 es cut.2

  run-there : IsCoreRun o cut.0
  run-there = run-before o second.later cut.0 (coe 0 1 (i. IsCoreRun o (second.whole i)) r.run)

  main-waits : calls_of 0 cut.0 ≡ []
  main-waits =
      ap (calls_of 0) (first.whole ∙ append-nil first.later)
      ∙ coe 0 1 (i. calls_of (client-low o 0 main-low i) first.later ≡ []) (first.quiet 0 (inl main-low) h.main_waits)

  quiet-sessions : HasNoSessionCalls o second.later
  quiet-sessions session is =
      let low = is.last in
      coe 0 1 (i. calls_of (client-low o session low i) second.later ≡ [])
      (second.quiet session (inl low)
      (rest-of session h.moment h.goes_on.0 log [] h.goes_on.1
      (sym (h.played session is) ∙ sym (append-nil (of_caller session h.moment)))))

  held-nothing : SessionsHoldNothing o cut.0
  held-nothing session number is under =
      let same : calls_of session es ≡ calls_of session cut.0 =
      ap (calls_of session) second.whole
      ∙ calls-joined session second.later cut.0
      ∙ ap (λ (l : List ClientCall). l ++ calls_of session cut.0) (quiet-sessions session is)
      in
      ap (λ (k : ClientState). held_under number k.holds)
      (known-by-calls o session cut.0 ∙ ap (state_from_calls o session) (sym same) ∙ sym (known-by-calls o session es))
      ∙ nothing session number is under

  flushes : GoOnByFlushes FitsShard CoreShardStands ShardAnswerSays opening (caller_here o) (flusher o) (flush_mail o)
      (Some how) o [] (filter (is_flushers o) es)
  flushes =
      h.flushed o log es (filter (is_flushers o) es)
      (record {
        opens = r.opens;
        begins = ([], append-nil (of_caller (caller_here o) log));
        events = r.events;
        is_run = r.run;
      }) (flushers-events o log es r.events)

  ends-by-round : EndsByRound o how second.later
  ends-by-round =
      let g = flushes in
      let found = At (flush_mail o) (NoJob true) in
      let mine = filter (is_flushers o) in
      let joined : mine es ≡ mine second.later ++ mine cut.0 =
      ap mine second.whole ∙ filter-append (is_flushers o) second.later cut.0
      in
      let none =
      none-among (finds_closed (flush_mail o)) (is_flushers o) cut.0
      (none-found o (flush_mail o) cut.0 run-there main-waits)
      in
      let parts =
      cut-before (finds_closed (flush_mail o)) (map (λ c. By (flusher o) c) g.calls) found _ (mine second.later)
      (mine cut.0)
      (eq-eqb (flush_mail o) (flush_mail o) refl) (sym g.whole ∙ joined) none
      in
      record {
        calls = g.calls;
        older = calls_of (flusher o) parts.0;
        whole =
            sym (calls-among o second.later)
            ∙ ap (calls_of (flusher o)) parts.1
            ∙ own-calls-first (flusher o) g.calls (found ∷ parts.0);
        of_round = g.last.1;
      }

  ends-by-last-round : EndsByLastRound o how second.later cut.0
  ends-by-last-round = record { nothing = held-nothing; quiet = quiet-sessions; round = ends-by-round }

  run-whole : IsCoreRun o (second.later ++ cut.0)
  run-whole = coe 0 1 (i. IsCoreRun o (second.whole i)) r.run

  module _ (epoch : ℕ) (is : HasSaved epoch how) where
    last-is : last_saved (journal_of o es) ≡ Some epoch
    last-is =
        ap (λ (l : List CoreEvent). last_saved (journal_of o l)) second.whole
        ∙ saved-last o second.later cut.0 epoch how run-whole ends-by-last-round is

    lce-is : epoch ≡ lce (counters_of_run o es)
    lce-is =
        saved-lce o second.later cut.0 epoch how run-whole ends-by-last-round is
        ∙ ap (λ (l : List CoreEvent). lce (counters_of_run o l)) (sym second.whole)

    safe-is : AllIsSafe o es
    safe-is =
        coe 1 0 (i. AllIsSafe o (second.whole i))
        (all-safe o second.later cut.0 epoch how run-whole ends-by-last-round is)

    shown : counters ≡ counters_in (counters_of_run o es)
    shown = shown-counters o counters callers opening cells log es r

    pub epoch-shown : epoch ≡ counters.lce
    epoch-shown = lce-is ∙ ap (λ (c : Counters). c.lce) (sym shown)

    pub last-shown : last_saved (journal_of o es) ≡ Some counters.lce
    last-shown = last-is ∙ ap (λ (n : ℕ). Some n) epoch-shown

    pub lse-shown : counters.lse ≡ counters.lce
    lse-shown =
        ap (λ (c : Counters). c.lse) shown
        ∙ ap (λ (l : List CoreEvent). lse_of o l) second.whole
        ∙ saved-lse o second.later cut.0 epoch how run-whole ends-by-last-round is
        ∙ epoch-shown

    pub pending-shown : counters.pending ≡ []
    pending-shown = ap (λ (c : Counters). c.pending) shown ∙ none-pending o es r.run nothing

    pub safe-shown : ShowAllSafe counters
    safe-shown =
        ap (λ (c : Counters). c.ec) shown
        ∙ safe-is
        ∙ ap (λ (c : Counters). c.lse + 1) (sym shown)
