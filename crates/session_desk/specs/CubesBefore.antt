-- The entries of a run agree with the cubes that are there before them.
-- Source: this project's own.
use Rattle.std.specs.Prelude.{◌≡◌, List, map}
use Rattle.cube_language.specs.declared.decl.Decl.{Decl}
use Rattle.cube_journal.specs.Legal.{CubesAllowAll}
use Rattle.cube_journal.specs.declared.journal_entry.JournalEntry.{JournalEntry}
use Rattle.cube_run.specs.RunRecords.{RunRecord, name_of_entry}
use Rattle.aosi_desk.specs.Desks.{cubes_after_all, decl_names}

-- Each entry, by the name that its own statement speaks of, is allowed by the cubes before it; and the entries lead from
-- these cubes to those.
pub record AgreeWithCubes (run : RunRecord) (before : List Decl) (entries : List JournalEntry) (after : List Decl)
    : Type 0 where
  pub allowed : CubesAllowAll (decl_names before) (map (name_of_entry run) entries) entries
  pub leads : cubes_after_all (decl_names before) (map (name_of_entry run) entries) entries ≡ decl_names after
