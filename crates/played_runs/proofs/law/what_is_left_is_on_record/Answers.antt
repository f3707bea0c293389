use Rattle.std.proofs.Common.{◌∙◌, List, sym, ap, subst}
use Rattle.std.specs.List.{AllZip, enumerate_from}
use Rattle.aosi_desk.specs.Desks.{DeskState, decl_names}
use Rattle.core_records.specs.CoreRecords.{record_of}
use Rattle.core_serial.proofs.Entries.{run-safe}
use Rattle.core_serial.specs.Journals.{names_spoken}
use Rattle.cube_journal.specs.Legal.{IsLegal}
use Rattle.cube_run.specs.RunRecords.{Sentence}
use Rattle.opened_core.specs.Openings.{opening_over}
use Rattle.played_scripts.specs.PlayedRuns.{HasPlayed}
use Rattle.played_runs.proofs.FinalLists.{few-replies}
use Rattle.played_runs.proofs.KeptOnRecord.{names-kept, rows-kept}
use Rattle.played_runs.proofs.RecordedRuns.{run-over}
use Rattle.played_runs.proofs.law.what_is_left_is_on_record.Goals as goal

pub returns-clause-legal : goal.returns-clause-legal
returns-clause-legal c = λ kept shards sessions cells log left l.
    let o = opening_over kept shards sessions log in (
      names_spoken l.to.es,
      subst (λ (d : DeskState). IsLegal kept.epoch (decl_names kept.cubes) (names_spoken l.to.es) d.register.journal)
          (sym l.desk) (c.journals_are_legal.ensures.legal o l.to.es l.to.run),
    )

pub returns-clause-safe : goal.returns-clause-safe
returns-clause-safe c = λ kept shards sessions cells log left l.
    ap (λ (d : DeskState). d.register.safe) l.desk ∙ run-safe (opening_over kept shards sessions log) l.to.es

pub returns-clause-run : goal.returns-clause-run
returns-clause-run c = λ kept shards sessions every cells log left tells scripts replies by_file l many p saved ends.
    let sound = c.kept_data_are_sound.ensures.sound kept by_file in
    let found = c.kept_names_are_found.ensures in
    let names =
    names-kept kept shards sessions log sound.lists
    (λ cube dim d is. found.made kept.cubes kept.names cube dim d sound.names is)
    (λ cube dim. found.each kept.cubes kept.names cube dim sound.names) in
    run-over kept shards sessions every cells log left l tells scripts replies many p names
    (rows-kept kept shards sessions log names)
    (λ cube place d dim has.
    c.dictionaries_are_on_record.ensures.are (opening_over kept shards sessions log) p.given l.to.es cube place d dim
    p.run.run p.run.follow has) saved ends

pub returns-clause-few : goal.returns-clause-few
returns-clause-few c = λ kept shards sessions every log tells scripts replies es p few.
    let run = record_of (opening_over kept shards sessions log) p.given es in
    few-replies run 1 scripts replies
    (subst
    (λ (all : List (List Sentence)). AllZip (λ q said. HasPlayed run q.0 q.1 said) (enumerate_from 1 all) replies)
    p.scripts_are p.played.sessions) few
