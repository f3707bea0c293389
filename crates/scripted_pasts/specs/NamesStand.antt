-- When a session's calls and statements fit the dictionaries in the end: its calls ask for no text but those that are
-- offered, and what its statements have done is named.
-- Source: Cubrick (VLDB 2016), dictionaries of dimensions; who offers a text is this project's own.
use Rattle.std.specs.Prelude.{ℕ, List}
use Rattle.std.specs.List.{AllByRecursion}
use Rattle.cube_language.specs.declared.decl.Decl.{Decl}
use Rattle.cube_language.specs.declared.decl.DimDecl.{DimDecl}
use Rattle.cube_run.specs.FinalNames.{DropsNamed, HasDimension, Offers, PutsNamed, names_at}
use Rattle.cube_run.specs.RunRecords.{RunRecord, Sentence, catalog_of}
use Rattle.cube_run.specs.RunTransactions.{operation_done}
use Rattle.cube_run.specs.SessionSteps.{SessionStep, steps_of}
use Rattle.core_events.specs.Events.{ClientCall}
use Rattle.scripted_pasts.specs.AskedTexts.{IsAskedForBy}

-- Each text for which these calls ask was offered to its dimension.
abbrev pub AskForOffered : RunRecord → List ClientCall → Type 0
AskForOffered run calls =
    (cube place : ℕ) (d : Decl) (dim : DimDecl) (text : List ℕ) → HasDimension run cube place d dim
    → IsAskedForBy calls cube place text → Offers run d dim place text

-- The rows that a step has put have their names in the dictionaries in the end, and so have the texts that its
-- deletion compares with, or these are full.
pub record IsNamedStep (run : RunRecord) (step : SessionStep) : Type 0 where
  pub puts : (cube place : ℕ) (d : Decl) (dim : DimDecl) → HasDimension run cube place d dim
      → PutsNamed d.name place (names_at run.names cube place) (operation_done (catalog_of run) step)
  pub drops : (cube place : ℕ) (d : Decl) (dim : DimDecl) → HasDimension run cube place d dim
      → DropsNamed dim d.name (names_at run.names cube place) step

-- So it is of a session that has played this script by these calls.
pub record NamesStand (run : RunRecord) (session : ℕ) (script : List Sentence) (calls : List ClientCall) : Type 0 where
  pub offered : AskForOffered run calls
  pub steps : AllByRecursion (IsNamedStep run) (steps_of run session script)
