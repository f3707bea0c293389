-- A run over what is kept, as it is on record with what it left.
use Rattle.std.proofs.Common.{◌≡◌, ◌∙◌, ℕ, Bool, List, [], length, sym, ap, subst, arith}
use Rattle.std.specs.Bool.{OnTrue}
use Rattle.aosi_desk.specs.Desks.{DeskState}
use Rattle.core_events.specs.Cells.{dictionary_of}
use Rattle.core_events.specs.Events.{Opening}
use Rattle.core_records.specs.CoreRecords.{names_left, record_of, rows_kept}
use Rattle.core_scripts.specs.ToldFiles.{ShelfTold, files_told}
use Rattle.core_serial.specs.Journals.{journal_of}
use Rattle.core_program.specs.CoreFits.{CoreEntry}
use Rattle.cube_journal.specs.WholeText.{whole_text}
use Rattle.cube_journal.specs.declared.reply.Reply.{Reply}
use Rattle.cube_language.specs.declared.decl.Decl.{Decl}
use Rattle.cube_language.specs.declared.decl.DimDecl.{DimDecl}
use Rattle.cube_rounds.specs.Stands.{Kept}
use Rattle.cube_run.specs.FinalNames.{FinalNamesFit, HasDimension, names_at}
use Rattle.cube_run.specs.Merge.{IsMerge}
use Rattle.cube_run.specs.RunRecords.{IsLegalRun, RunRecord, Sentence}
use Rattle.cube_run.specs.RunText.{AreReplies, IsText}
use Rattle.names_dict.specs.Dictionaries.{Dictionary}
use Rattle.opened_core.specs.Openings.{opening_over}
use Rattle.run_threads.specs.CoreWorks.{OpeningCells}
use Rattle.scripted_ends.specs.PlayedHistories.{IsPlayedRun}
use Rattle.threaded_core.specs.CoreParts.{IsLeftByRun}
use Rattle.threaded_core.specs.declared.cores.CoreLeft.{CoreLeft}
use Rattle.played_runs.proofs.FinalLists.{answers-of-played, names-there}
use Rattle.played_runs.specs.RunsOnRecord.{AreFilesOf, AreFinalNames, EndsSafe, IsOnRecord, IsRunOver, kept_values, run_over, told_to}

module _ (kept : Kept) (shards sessions every : ℕ) (cells : OpeningCells) (log : List CoreEntry) (left : CoreLeft)
    (l : IsLeftByRun (opening_over kept shards sessions log) log cells left) (tells : List ShelfTold)
    (scripts : List (List Sentence)) (replies : List (List Reply)) (as_many : length scripts ≡ sessions)
    (p : IsPlayedRun (λ session. files_told (told_to tells session)) every scripts replies
    (opening_over kept shards sessions log) l.to.es)
    (names : names_left (opening_over kept shards sessions log) [] ≡ kept.names)
    (rows : rows_kept (opening_over kept shards sessions log) ≡ kept_values kept)
    (are : (cube place : ℕ) (d : Decl) (dim : DimDecl)
    → HasDimension (record_of (opening_over kept shards sessions log) p.given l.to.es) cube place d dim
    → names_at (record_of (opening_over kept shards sessions log) p.given l.to.es).names cube place
    ≡ (dictionary_of (opening_over kept shards sessions log) cube place l.to.es).names) where
  abbrev o : Opening
  o = opening_over kept shards sessions log

  abbrev run : RunRecord
  run = record_of o p.given l.to.es

  abbrev last : List (List (List (List ℕ)))
  last = names_left o l.to.es

  journal-is : journal_of o l.to.es ≡ left.desk.register.journal
  journal-is = ap (λ (d : DeskState). d.register.journal) (sym l.desk)

  same : record_of o p.given l.to.es ≡ run_over kept scripts p.given.file every last left.desk.register.journal
  same = λ i. record {
    safe = kept.epoch;
    kept = rows i;
    kept_names = names i;
    cubes = kept.cubes;
    scripts = p.scripts_are i;
    file = p.given.file;
    round_every = p.every_is i;
    names = last;
    journal = journal-is i;
  }

  final : AreFinalNames (run_over kept scripts p.given.file every last left.desk.register.journal) left.names
  final cube place d dim has =
      are cube place d dim (subst (λ (r : RunRecord). HasDimension r cube place d dim) (sym same) has)
      ∙ ap (λ (dict : Dictionary). dict.names) (sym (l.names cube place))
      ∙ names-there (o.shapes cube) left.names cube place

  files : AreFilesOf tells scripts replies p.given.file
  files session low high = p.files session (record { first = low; last = omega (arith, high, as_many) })

  pub run-over : (saved : Bool) → OnTrue saved (EndsSafe (record_of o p.given l.to.es) left.shards.items)
      → IsOnRecord kept every tells scripts replies left.names left.desk.register.journal saved left.shards.items
      (record_of o p.given l.to.es)
  run-over saved ends = record {
    over = over;
    same = same;
  }
    where
      over : IsRunOver kept every tells scripts replies left.names left.desk.register.journal saved left.shards.items
      over = record {
        file = p.given.file;
        names = last;
        files = files;
        final = final;
        in_full = record {
          legal = coe 0 1 (i. IsLegalRun (same i)) p.legal;
          merge = coe 0 1 (i. IsMerge (same i)) p.merge;
          answers = coe 0 1 (i. AreReplies (same i) replies) (answers-of-played run replies p.played);
          text = coe 0 1 (i. IsText (same i) (whole_text kept.epoch replies (journal-is i))) p.text;
          names = coe 0 1 (i. FinalNamesFit (same i)) p.fit;
        };
        ends = coe 0 1 (i. OnTrue saved (EndsSafe (same i) left.shards.items)) ends;
      }
