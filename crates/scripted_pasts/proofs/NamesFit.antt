-- The dictionaries fit a run whose sessions' calls and statements fit them.
use Rattle.std.proofs.Common.{◌≡◌, ℕ, suc, ◌+◌, ◌-◌, ◌<◌, All, List, [], ◌∷◌, length, drop, slice_get, unwrap_or, subst, arith}
use Rattle.std.specs.List.{AllByRecursion, enumerate_from, flat_map}
use Rattle.std.proofs.lemmas.List.Elements.{All-append, All-from_recursion, All-nil, All-weaker}
use Rattle.cube_language.specs.declared.decl.Decl.{Decl}
use Rattle.cube_language.specs.declared.decl.DimDecl.{DimDecl}
use Rattle.cube_run.specs.FinalNames.{DropsNamed, FinalNamesFit, HasDimension, IsDictionary, NamesFit, Offers, PutsNamed, names_at}
use Rattle.cube_run.specs.RunRecords.{RunRecord, Sentence, catalog_of, script_of}
use Rattle.cube_run.specs.RunTransactions.{operation_done}
use Rattle.cube_run.specs.SessionSteps.{SessionStep, all_steps, steps_of}
use Rattle.core_events.specs.Clients.{calls_of}
use Rattle.core_events.specs.Events.{Opening, IsSession, CoreEvent}
use Rattle.core_records.specs.CoreRecords.{RunScripts, record_of}
use Rattle.core_records.proofs.NamesOnRecord.{names-end}
use Rattle.core_agreements.specs.ScriptedRuns.{IsScriptedRun}
use Rattle.scripted_pasts.specs.AskedTexts.{IsAskedForIn}
use Rattle.scripted_pasts.specs.NamesStand.{IsNamedStep, NamesStand}
use Rattle.scripted_pasts.proofs.NamedRows.{kept-named}
use Rattle.scripted_pasts.proofs.NamesCome.{names-come}

pub is-dictionary : (o : Opening) (given : RunScripts) (es : List CoreEvent) (cube place : ℕ) (d : Decl)
    (dim : DimDecl) → IsScriptedRun o given es → HasDimension (record_of o given es) cube place d dim
    → IsDictionary dim (names_at (record_of o given es).kept_names cube place)
    (names_at (record_of o given es).names cube place)
is-dictionary o given es cube place d dim r has =
    (names-end o given es r.run r.follow r.opens.names cube place d dim has).dictionary

-- ---- the steps of all sessions

-- What holds of the steps of each session holds of those of all, the first of which has this number.
of-scripts : (P : SessionStep → Type 0) (run : RunRecord) (first : ℕ) (scripts : List (List Sentence))
    → ((k : ℕ) → k < length scripts → All P (steps_of run (first + k) (unwrap_or (slice_get scripts k) [])))
    → All P (flat_map (λ p. steps_of run p.0 p.1) (enumerate_from first scripts))
of-scripts P run first [] each = All-nil P
of-scripts P run first (script ∷ scripts) each =
    let here : first + 0 ≡ first = omega arith in
    All-append P (steps_of run first script)
    (flat_map (λ p. steps_of run p.0 p.1) (enumerate_from (first + 1) scripts))
    (subst (λ (n : ℕ). All P (steps_of run n script)) here (each 0 (omega arith)))
    (of-scripts P run (first + 1) scripts (λ k low.
    let there : first + suc k ≡ first + 1 + k = omega arith in
    subst (λ (n : ℕ). All P (steps_of run n (unwrap_or (slice_get scripts k) []))) there
    (each (suc k) (omega (arith, low)))))

module _ (o : Opening) (given : RunScripts) (es : List CoreEvent) (r : IsScriptedRun o given es)
    (stand : (session : ℕ) → IsSession o session → NamesStand (record_of o given es) session
    (script_of (record_of o given es) session) (calls_of session es)) where
  abbrev run_here : RunRecord
  run_here = record_of o given es

  steps-named : All (IsNamedStep run_here) (all_steps run_here)
  steps-named =
      of-scripts (IsNamedStep run_here) run_here 1 given.scripts (λ k low.
      let all = r.follow.each in
      let is : IsSession o (1 + k) = record { first = omega arith; last = omega (arith, low, all) } in
      let back : 1 + k - 1 ≡ k = omega arith in
      All-from_recursion (IsNamedStep run_here) (steps_of run_here (1 + k) (unwrap_or (slice_get given.scripts k) []))
      (coe 0 1 (i. AllByRecursion (IsNamedStep run_here)
      (steps_of run_here (1 + k) (unwrap_or (slice_get given.scripts (back i)) []))) (stand (1 + k) is).steps))

  fits : (cube place : ℕ) (d : Decl) (dim : DimDecl) → HasDimension run_here cube place d dim
      → NamesFit run_here d dim place (names_at run_here.kept_names cube place) (names_at run_here.names cube place)
  fits cube place d dim has = record {
    dictionary = is-dictionary o given es cube place d dim r has;
    offered =
        All-weaker (IsAskedForIn o es cube place) (Offers run_here d dim place)
        (λ text asked. (stand asked.session asked.is_session).offered cube place d dim text has asked.asked)
        (drop (length (names_at run_here.kept_names cube place)) (names_at run_here.names cube place))
        (names-come o given es cube place d dim r has);
    kept_rows = kept-named o given es cube place d dim r has;
    stored_rows =
        All-weaker (IsNamedStep run_here)
        (λ step. PutsNamed d.name place (names_at run_here.names cube place)
        (operation_done (catalog_of run_here) step))
        (λ step named. named.puts cube place d dim has) (all_steps run_here) steps-named;
    deletions =
        All-weaker (IsNamedStep run_here) (DropsNamed dim d.name (names_at run_here.names cube place))
        (λ step named. named.drops cube place d dim has) (all_steps run_here) steps-named;
  }

  pub final-names-fit : FinalNamesFit run_here
  final-names-fit = fits
