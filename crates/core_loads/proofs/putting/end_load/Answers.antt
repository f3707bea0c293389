use Rattle.std.proofs.Common.{refl, ap, subst}
use Rattle.core_loads.proofs.BegunLoads.{loading-at-epoch, loading-batches, of-records}
use Rattle.core_loads.proofs.TextsOfLoads.{asks-of-file}
use Rattle.core_loads.specs.LoadEnds.{IsFileText}
use Rattle.core_loads.specs.ShelfLoads.{allowed_loaded}
use Rattle.cube_journal.specs.declared.refusal.Refusal.TheVariants as refusal
use Rattle.loaded_batches.specs.LoadEnds.{HasEndedSo, HaveFewBad, HaveManyBad, HoldsAfterLoad, StandForRecords}
use Rattle.loaded_batches.specs.declared.records.LoadEnd.{LoadEnd}
use Rattle.loaded_files.specs.LoadedFiles.{loaded_file}
use Rattle.outside.specs.Given.{whole}
use Rattle.core_loads.proofs.putting.end_load.Goals as goal

pub finish_load-requires-clause-holds : goal.finish_load-requires-clause-holds
finish_load-requires-clause-holds g c =
    let old = c.args.caller.now in
    subst (λ (e : LoadEnd). HoldsAfterLoad (g.P.CellCaller.opening old) (g.P.CellCaller.number old)
    c.args.session.now.number c.args.writer.now (g.P.CellCaller.own old) e) c.in-Stored.is c.requires.holds

pub returns-in-Stored-clause-answered : goal.returns-in-Stored-clause-answered
returns-in-Stored-clause-answered g c = λ first begun load bytes begins has goes asked ended.
    let old = c.args.caller.now in
    let cells = g.P.CellCaller.opening old in
    let caller = g.P.CellCaller.number old in
    let own = g.P.CellCaller.own old in
    let session = c.args.session.now in
    let writer = c.args.writer.now in
    let s = c.args.statement.now in
    let d = c.args.cube.now in
    let place = c.args.place in
    let allowed = allowed_loaded s in
    let stored =
    coe 0 1 (i. HasEndedSo cells caller session.number place writer d (c.requires.allows i) load begun own
    (c.in-Stored.is i)) ended
    in
    c.finish_load.ensures.answered first (loaded_file (whole bytes)) stored.batches
    (of-records cells caller own place d allowed load bytes
    (λ lists looked.
    StandForRecords d lists allowed looked stored.batches c.in-Stored.rows c.in-Stored.bad) begins stored.stand)
    (loading-batches cells caller session s first begun own
    (IsFileText cells caller own place d allowed (loaded_file (whole bytes))) writer place goes has
    (asks-of-file cells caller session.number place d c.args.allowed allowed begun own load bytes c.requires.allows
    begins asked)
    stored.batches stored.posted)

pub fail_load-requires-clause-holds : goal.fail_load-requires-clause-holds
fail_load-requires-clause-holds g c =
    let old = c.args.caller.now in
    subst (λ (e : LoadEnd). HoldsAfterLoad (g.P.CellCaller.opening old) (g.P.CellCaller.number old)
    c.args.session.now.number c.args.writer.now (g.P.CellCaller.own old) e) c.in-TooMany.is c.requires.holds

pub returns-in-TooMany-clause-answered : goal.returns-in-TooMany-clause-answered
returns-in-TooMany-clause-answered g c = λ first begun load bytes begins has goes asked ended.
    let old = c.args.caller.now in
    let cells = g.P.CellCaller.opening old in
    let caller = g.P.CellCaller.number old in
    let own = g.P.CellCaller.own old in
    let session = c.args.session.now in
    let writer = c.args.writer.now in
    let s = c.args.statement.now in
    let d = c.args.cube.now in
    let place = c.args.place in
    let allowed = allowed_loaded s in
    let rejected = c.in-TooMany.rejected in
    let many =
    coe 0 1 (i. HasEndedSo cells caller session.number place writer d (c.requires.allows i) load begun own
    (c.in-TooMany.is i)) ended
    in
    c.fail_load.ensures.answered first (loaded_file (whole bytes)) (
      rejected,
      ap (refusal.TooManyRejected rejected) c.requires.allows,
      of-records cells caller own place d allowed load bytes (λ lists looked. HaveManyBad allowed rejected looked) begins
          many,
    )
    (loading-at-epoch cells caller session s first begun own
    (IsFileText cells caller own place d allowed (loaded_file (whole bytes))) writer place goes has
    (asks-of-file cells caller session.number place d c.args.allowed allowed begun own load bytes c.requires.allows
    begins asked))

pub fail_load-requires-in-ShardFull-clause-holds : goal.fail_load-requires-in-ShardFull-clause-holds
fail_load-requires-in-ShardFull-clause-holds g c =
    let old = c.args.caller.now in
    subst (λ (e : LoadEnd). HoldsAfterLoad (g.P.CellCaller.opening old) (g.P.CellCaller.number old)
    c.args.session.now.number c.args.writer.now (g.P.CellCaller.own old) e) c.in-ShardFull.is c.requires.holds

pub returns-in-ShardFull-clause-answered : goal.returns-in-ShardFull-clause-answered
returns-in-ShardFull-clause-answered g c = λ first begun load bytes begins has goes asked ended.
    let old = c.args.caller.now in
    let cells = g.P.CellCaller.opening old in
    let caller = g.P.CellCaller.number old in
    let own = g.P.CellCaller.own old in
    let session = c.args.session.now in
    let writer = c.args.writer.now in
    let s = c.args.statement.now in
    let d = c.args.cube.now in
    let place = c.args.place in
    let allowed = allowed_loaded s in
    let few =
    coe 0 1 (i. HasEndedSo cells caller session.number place writer d (c.requires.allows i) load begun own
    (c.in-ShardFull.is i)) ended
    in
    c.fail_load-in-ShardFull.ensures.answered first (loaded_file (whole bytes))
    (refl, of-records cells caller own place d allowed load bytes (λ lists looked. HaveFewBad allowed looked) begins few)
    (loading-at-epoch cells caller session s first begun own
    (IsFileText cells caller own place d allowed (loaded_file (whole bytes))) writer place goes has
    (asks-of-file cells caller session.number place d c.args.allowed allowed begun own load bytes c.requires.allows
    begins asked))

pub fail_load-requires-in-OutOfMemory-clause-holds : goal.fail_load-requires-in-OutOfMemory-clause-holds
fail_load-requires-in-OutOfMemory-clause-holds g c =
    let old = c.args.caller.now in
    subst (λ (e : LoadEnd). HoldsAfterLoad (g.P.CellCaller.opening old) (g.P.CellCaller.number old)
    c.args.session.now.number c.args.writer.now (g.P.CellCaller.own old) e) c.in-OutOfMemory.is c.requires.holds

pub returns-in-OutOfMemory-clause-answered : goal.returns-in-OutOfMemory-clause-answered
returns-in-OutOfMemory-clause-answered g c = λ first begun load bytes begins has goes asked ended.
    let old = c.args.caller.now in
    let cells = g.P.CellCaller.opening old in
    let caller = g.P.CellCaller.number old in
    let own = g.P.CellCaller.own old in
    let session = c.args.session.now in
    let s = c.args.statement.now in
    let d = c.args.cube.now in
    let place = c.args.place in
    let allowed = allowed_loaded s in
    c.fail_load-in-OutOfMemory.ensures.answered first (loaded_file (whole bytes)) refl
    (loading-at-epoch cells caller session s first begun own
    (IsFileText cells caller own place d allowed (loaded_file (whole bytes))) c.args.writer.now place goes has
    (asks-of-file cells caller session.number place d c.args.allowed allowed begun own load bytes c.requires.allows
    begins asked))
