use Rattle.std.proofs.Common.{subst}
use Rattle.run_files.specs.Readings.{IsBadAnswer}
use Rattle.run_files.specs.RunFiles.{ScriptFile}
use Rattle.run_files.specs.Texts.{HoldsScript}
use Rattle.run_files.proofs.FilesRead.{read_whole_shows, read_bad, script_shown}
use Rattle.run_files.proofs.reading.read_script.Goals as goal

pub returns-in-Ok-clause-read : goal.returns-in-Ok-clause-read
returns-in-Ok-clause-read g c =
    read_whole_shows HoldsScript (g.H.Shelf.told c.args.shelf.now) _ _ (ScriptFile c.args.script c.args.name.now) c.in-Ok.bytes c.script_of.result c.in-Ok.ensures.given c.in-Ok.ensures.calls
    (script_shown c.args.script c.args.name.now c.in-Ok.bytes.items c.script_of.result c.script_of.ensures)

pub returns-in-Err-clause-read : goal.returns-in-Err-clause-read
returns-in-Err-clause-read g c =
    read_bad HoldsScript (g.H.Shelf.told c.args.shelf.now) _ _ (ScriptFile c.args.script c.args.name.now) c.in-Err.error c.unread_script.result c.in-Err.ensures.given c.in-Err.ensures.calls
    (subst (λ own. IsBadAnswer (ScriptFile c.args.script own) c.in-Err.error c.unread_script.result) c.in_ok-own.ensures c.unread_script.ensures)
