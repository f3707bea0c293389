-- What a session holds while its own calls go on by calls on the names, and what it was told.
use Rattle.std.proofs.Common.{◌≡◌, ℕ, zero, suc, true, List, [], ◌∷◌, ◌++◌, slice_get, map, Some, All, sym, subst, append-nil, append_assoc}
use Rattle.std.specs.List.{AllByRecursion}
use Rattle.std.proofs.lemmas.List.Elements.{All-weaker}
use Rattle.std.proofs.lemmas.Option.{none-some, same_Some}
use Rattle.cube_values.specs.declared.row.CodedRow.{CodedRow}
use Rattle.cube_values.specs.declared.shape.CubeShape.{CubeShape}
use Rattle.cube_language.specs.declared.decl.Decl.{Decl}
use Rattle.cube_language.specs.declared.decl.DimDecl.{DimDecl}
use Rattle.cube_journal.specs.declared.journal_entry.JournalEntry.{JournalEntry}
use Rattle.names_dict.specs.Dictionaries.{IsTextDimension}
use Rattle.core_program.specs.ClientCalls.{names_entry}
use Rattle.core_cells.specs.declared.names.NamesAnswer.{NamesAnswer}
use Rattle.core_cells.specs.declared.names.NamesCall.{NamesCall}
use Rattle.core_program.proofs.KnownCalls.{earlier-run, names-learn}
use Rattle.core_program.specs.Knowing.{IsClientOf, Knows}
use Rattle.core_events.specs.Clients.{calls_of, state_from_calls}
use Rattle.core_events.specs.Events.{Opening, ClientCall}
use Rattle.core_events.specs.Fitting.{AreToldNames}
use Rattle.core_events.specs.Jobs.{CoreJob, JobOutcome}
use Rattle.core_events.specs.ShardView.{ShardView}
use Rattle.cube_core.specs.NamesEvents.{names_event}
use Rattle.core_states.proofs.CallEntries.{names-left}
use Rattle.core_states.specs.OwnCalls.{OwnCallsLeave}
use Rattle.core_program.specs.CoreFits.{CoreEntry}
use Rattle.cube_core.specs.declared.cell.CoreCell.{CoreCell}
use Rattle.cube_core.specs.declared.shard.ShardAnswer.{ShardAnswer}
use Rattle.cube_core.specs.declared.shard.ShardCall.{ShardCall}
use Rattle.known_cubes.specs.KnownCubes.{IsToldOfCube, OpenWithStorableCubes}
use Rattle.known_cubes.proofs.ToldCubes.{knows-cube}
use Rattle.known_cubes.proofs.ToldNames.{knows-number}
use Rattle.session_snapshots.specs.KnownHolds.{HoldsReader, HoldsReady, HoldsTheSame, HoldsWriter}
use Rattle.row_encoding.specs.CodedInserts.{HasNumbers}
use Rattle.row_encoding.specs.FinalCodes.{dim_at}
use Rattle.cube_core.proofs.Looking.{asks-names}
use Rattle.cube_core.specs.HoldStates.{IsReadyWith, IsReading, IsWriting}
use Rattle.core_names.specs.AskedNames.{GoOnByNames, IsNamesEntry}
use Rattle.core_names.specs.KnownNumbers.{HasToldNumber}

text-in : (dims : List DimDecl) (k : ℕ) → slice_get (map (λ dim. dim.text) dims) k ≡ Some true → (dim_at dims k).text ≡ true
text-in [] k h = absurd (none-some true h)
text-in (dim ∷ dims) zero h = same_Some dim.text true h
text-in (dim ∷ dims) (suc k) h = text-in dims k h

-- What no call on the names changes stays by all of them.
module _ (caller : ℕ) (Holds : List CoreEntry → Type 0)
    (step : (own : List CoreEntry) (c : NamesCall) (said : NamesAnswer) → Holds own → Holds (own ++ names_entry caller c said ∷ [])) where
  by-all : (added own : List CoreEntry) → AllByRecursion (IsNamesEntry caller) added → Holds own → Holds (own ++ added)
  by-all [] own only h = subst Holds (sym (append-nil own)) h
  by-all (e ∷ added) own only h =
      let one : Holds (own ++ e ∷ []) = subst (λ (x : CoreEntry). Holds (own ++ x ∷ [])) (sym only.0.is) (step own only.0.call only.0.said h) in
      subst Holds (append_assoc own (e ∷ []) added) (by-all added (own ++ e ∷ []) only.1 one)

  pub by-names : (own now : List CoreEntry) → GoOnByNames caller own now → Holds own → Holds now
  by-names own now asks h = subst Holds (sym asks.whole) (by-all asks.added own asks.only h)

module _ {S : Type 0} (fits : Opening → ℕ → ShardCall → Type 0) (stands : Opening → ℕ → ℕ → S → ShardView → Type 0)
    (says : CoreJob → ShardAnswer → JobOutcome → Type 0) (cells : List (CoreCell S)) (caller session : ℕ)
    (acts : IsClientOf fits stands says cells caller session) where
  -- A claim on the session's state that no call on the names changes.
  knows-on : (P : Opening → List ClientCall → Type 0)
      → ((o : Opening) (c : NamesCall) (said : NamesAnswer) (calls : List ClientCall) → P o calls → P o (names_event c said ∷ calls))
      → (own : List CoreEntry) (c : NamesCall) (said : NamesAnswer) → Knows fits stands says cells caller session own P
      → Knows fits stands says cells caller session (own ++ names_entry caller c said ∷ []) P
  knows-on P same own c said knows o log run es later are =
      let g = names-learn fits stands says cells caller session acts own c said o log es later.opens are in
      subst (λ (calls : List ClientCall). P o calls) (sym g.calls)
      (same o c said (calls_of session g.before)
      (knows o log run g.before (earlier-run fits stands says cells o caller own (names_entry caller c said ∷ []) log run later) g.events))

  pub holds-on : (own now : List CoreEntry) → GoOnByNames caller own now → HoldsTheSame fits stands says session cells caller own cells caller now
  holds-on own now asks = record {
    ready = λ held. by-names caller (λ l. HoldsReady fits stands says cells caller session l held)
        (knows-on (λ o calls. IsReadyWith o session held (state_from_calls o session calls))
        (λ o c said calls r. asks-names o session c said held (state_from_calls o session calls) r)) own now asks;
    reader = λ s. by-names caller (λ l. HoldsReader fits stands says cells caller session l s)
        (knows-on (λ o calls. IsReading o session s (state_from_calls o session calls))
        (λ o c said calls r. record { ready = asks-names o session c said (Some s) (state_from_calls o session calls) r.ready; reader = r.reader })) own now asks;
    writer = λ s. by-names caller (λ l. HoldsWriter fits stands says cells caller session l s)
        (knows-on (λ o calls. IsWriting o session s (state_from_calls o session calls))
        (λ o c said calls r. record { ready = asks-names o session c said (Some s) (state_from_calls o session calls) r.ready; writer = r.writer })) own now asks;
  }

  pub entries-on : (own now : List CoreEntry) (entries : List JournalEntry) → GoOnByNames caller own now
      → OwnCallsLeave fits stands says cells caller session own entries → OwnCallsLeave fits stands says cells caller session now entries
  entries-on own now entries asks =
      by-names caller (λ l. OwnCallsLeave fits stands says cells caller session l entries)
      (λ l c said leave. names-left fits stands says cells caller session l entries c said acts leave) own now asks

  -- ---- rows whose numbers were given

  module _ (storable : OpenWithStorableCubes fits stands says cells) (own : List CoreEntry) (name : List ℕ) (place : ℕ) (d : Decl)
      (told : IsToldOfCube own name place d) where
    pub rows-told : (rows : List CodedRow) → All (HasNumbers (HasToldNumber own place) d) rows
        → Knows fits stands says cells caller session own (λ o calls. All (λ row. AreToldNames o place (state_from_calls o session calls) row.coords) rows)
    rows-told rows given o log run es later are =
        let calls = calls_of session es in
        let cube = knows-cube fits stands says cells caller session own name place d acts storable told o log run es later are in
        All-weaker (HasNumbers (HasToldNumber own place) d) (λ row. AreToldNames o place (state_from_calls o session calls) row.coords)
        (λ row numbers dim coord texts at.
        let is : (dim_at d.dims dim).text ≡ true = text-in d.dims dim (subst (λ (shape : CubeShape). IsTextDimension shape dim) cube.shape texts) in
        let has = numbers dim coord is at in
        knows-number fits stands says cells caller session place dim has.name coord own acts has.told o log run es later are)
        rows given
