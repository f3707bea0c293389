use Rattle.std.proofs.Common.{◌≡◌, Err, map, string_bytes, refl, subst}
use Rattle.cube_values.specs.Faults.{IfFault}
use Rattle.cube_values.specs.declared.call_error.CallError.{CallError}
use Rattle.run_words.specs.Words.{HaveFault}
use Rattle.run_words.specs.declared.command.Command.{Command}
use Rattle.run_words.specs.declared.command.Command.TheVariants as asked
use Rattle.run_words.specs.declared.command.GenerateCommand.{GenerateCommand}
use Rattle.run_words.specs.declared.command.RunCommand.{RunCommand}
use Rattle.run_words.specs.declared.fault.WordsFault.{WordsFault}
use Rattle.cubrick_top.specs.Generated.{GeneratedEnds}
use Rattle.cubrick_top.specs.RunEnds.{RunEnds}
use Rattle.cubrick_top.proofs.AskedShards.{generated-shards, run-shards}
use Rattle.cubrick_top.proofs.ServedRuns.{run-served}
use Rattle.cubrick_top.proofs.running.run.Goals as goal

pub run_command-requires-clause-some_shards : goal.run_command-requires-clause-some_shards
run_command-requires-clause-some_shards g c κs within =
    (run-shards c.in-Ok-Run.command c.in-Ok-Run.field-0-is c.in-Ok-Run.ensures.command).0

pub run_command-requires-clause-few_shards : goal.run_command-requires-clause-few_shards
run_command-requires-clause-few_shards g c κs within =
    (run-shards c.in-Ok-Run.command c.in-Ok-Run.field-0-is c.in-Ok-Run.ensures.command).1

pub run_generator-requires-clause-some_shards : goal.run_generator-requires-clause-some_shards
run_generator-requires-clause-some_shards g c κs within =
    (generated-shards c.in-Ok-Generate.command c.in-Ok-Generate.field-0-is c.in-Ok-Generate.ensures.command).0

pub run_generator-requires-clause-few_shards : goal.run_generator-requires-clause-few_shards
run_generator-requires-clause-few_shards g c κs within =
    (generated-shards c.in-Ok-Generate.command c.in-Ok-Generate.field-0-is c.in-Ok-Generate.ensures.command).1

pub returns-in-Ok-Run-clause-refused : goal.returns-in-Ok-Run-clause-refused
returns-in-Ok-Run-clause-refused g c cause has =
    absurd (c.words_ask_for_a_command_or_have_one_fault.ensures.no_fault (map string_bytes c.args.words.now)
    c.in-Ok-Run.field-0 cause c.in-Ok-Run.ensures.command has)

pub returns-in-Ok-Run-clause-run : goal.returns-in-Ok-Run-clause-run
returns-in-Ok-Run-clause-run g c command asks =
    let one =
    c.words_ask_for_a_command_or_have_one_fault.ensures.one_command (map string_bytes c.args.words.now)
    c.in-Ok-Run.field-0 (asked.Run command) c.in-Ok-Run.ensures.command asks in
    let same : c.in-Ok-Run.command ≡ command = cc (one, c.in-Ok-Run.field-0-is) in
    subst (λ (x : RunCommand). RunEnds g.H.Shelf.told g.H.Shelf.call_list g.H.Shelf.fault_count g.H.Shelf.absence_count
    g.D.Disk.view x c.args.outside c.run_command.result.outside (g.K.Sink.taken c.args.sink.now)
    (g.K.Sink.taken c.run_command.new.sink) c.run_command.result.finish) same c.run_command.ensures.ends

pub returns-in-Ok-Run-clause-served : goal.returns-in-Ok-Run-clause-served
returns-in-Ok-Run-clause-served g c command asks ready quiet =
    let one =
    c.words_ask_for_a_command_or_have_one_fault.ensures.one_command (map string_bytes c.args.words.now)
    c.in-Ok-Run.field-0 (asked.Run command) c.in-Ok-Run.ensures.command asks in
    let same : c.in-Ok-Run.command ≡ command = cc (one, c.in-Ok-Run.field-0-is) in
    run-served g.H.Shelf.told g.H.Shelf.call_list g.H.Shelf.fault_count g.H.Shelf.absence_count g.D.Disk.view command
    c.args.outside c.run_command.result.outside (g.K.Sink.fault_count c.args.sink.now)
    (g.K.Sink.fault_count c.run_command.new.sink) c.run_command.result.finish quiet c.run_command.ensures.output
    (g.K.Sink.taken c.args.sink.now) (g.K.Sink.taken c.run_command.new.sink)
    c.files_decide_their_end.ensures.one c.a_text_declares_or_has_one_fault.ensures.one_list ready
    (subst (λ (x : RunCommand). RunEnds g.H.Shelf.told g.H.Shelf.call_list g.H.Shelf.fault_count
    g.H.Shelf.absence_count g.D.Disk.view x c.args.outside c.run_command.result.outside
    (g.K.Sink.taken c.args.sink.now) (g.K.Sink.taken c.run_command.new.sink) c.run_command.result.finish) same
    c.run_command.ensures.ends)

pub returns-in-Ok-Generate-clause-refused : goal.returns-in-Ok-Generate-clause-refused
returns-in-Ok-Generate-clause-refused g c cause has =
    absurd (c.words_ask_for_a_command_or_have_one_fault.ensures.no_fault (map string_bytes c.args.words.now)
    c.in-Ok-Generate.field-0 cause c.in-Ok-Generate.ensures.command has)

pub returns-in-Ok-Generate-clause-generated : goal.returns-in-Ok-Generate-clause-generated
returns-in-Ok-Generate-clause-generated g c command asks =
    let one =
    c.words_ask_for_a_command_or_have_one_fault.ensures.one_command (map string_bytes c.args.words.now)
    c.in-Ok-Generate.field-0 (asked.Generate command) c.in-Ok-Generate.ensures.command asks in
    let same : c.in-Ok-Generate.command ≡ command = cc (one, c.in-Ok-Generate.field-0-is) in (
      refl,
      subst (λ (x : GenerateCommand). GeneratedEnds x (g.K.Sink.taken c.args.sink.now)
          (g.K.Sink.taken c.run_generator.new.sink) c.run_generator.result c.run_generator.result.fault) same
          c.run_generator.ensures.ended,
    )

pub returns-in-Err-Fault-clause-words : goal.returns-in-Err-Fault-clause-words
returns-in-Err-Fault-clause-words g c cause is =
    let same : c.in-Err-Fault.fault ≡ cause = cc (is, c.finish_unplayed.ensures.fault) in
    subst (λ (fault : WordsFault). HaveFault (map string_bytes c.args.words.now) fault) same
    (subst (λ (error : CallError WordsFault). IfFault {T = Command} (Err error)
    (HaveFault (map string_bytes c.args.words.now))) c.in-Err-Fault.field-0-is c.in-Err-Fault.ensures.fault)
