use Rattle.std.proofs.Common.{◌<◌, length, ap, ◌∙◌, refl, arith}
use Rattle.cube_values.specs.Batches.{Batch}
use Rattle.agg_fold.specs.Coded.{coded_row}
use Rattle.row_encoding.specs.declared.load.TheConstants.{BATCH_ROWS}
use Rattle.row_encoding.proofs.LoadSteps.{bad_loaded, goes_one_more, grown_by_record, grown_in_all, grown_so_far, last_loaded, load_begins, row_loaded}
use Rattle.row_encoding.proofs.load.load_rows.Goals as goal

pub records-init : goal.records-init
records-init g c =
    load_begins g.E.Encoder.may_end g.E.Encoder.suits g.E.Encoder.has_name g.E.Encoder.keeps g.E.Encoder.has_given g.met.E.Encoder.carries_on c.args.place c.args.cube.now c.args.allowed c.args.load.now c.args.bad.now c.reserve.new.self
    c.args.encoder.now c.reserve.new.self c.requires.suits c.requires.few c.requires.counted refl
    (ap (λ (b : Batch). b.rows) c.in_ok-reserve.ensures.ok ∙ ap (λ (b : Batch). b.rows) c.clear.ensures)

pub returns-in_err-load_record-clause-grow : goal.returns-in_err-load_record-clause-grow
returns-in_err-load_record-clause-grow g c =
    grown_in_all g.E.Encoder.may_end g.E.Encoder.suits g.E.Encoder.has_name g.E.Encoder.keeps g.E.Encoder.has_given g.met.E.Encoder.carries_on c.args.place c.args.cube.now c.args.allowed c.args.load.now c.args.bad.now c.reserve.new.self
    c.args.encoder.now c.records.encoder c.load_record.new.encoder c.records.load c.records.bad c.records.batch c.records.invariant c.load_record.ensures.grow

pub returns-in_err-add-in-Bad-clause-grow : goal.returns-in_err-add-in-Bad-clause-grow
returns-in_err-add-in-Bad-clause-grow g c =
    grown_in_all g.E.Encoder.may_end g.E.Encoder.suits g.E.Encoder.has_name g.E.Encoder.keeps g.E.Encoder.has_given g.met.E.Encoder.carries_on c.args.place c.args.cube.now c.args.allowed c.args.load.now c.args.bad.now c.reserve.new.self
    c.args.encoder.now c.records.encoder c.load_record.new.encoder c.records.load c.records.bad c.records.batch c.records.invariant c.load_record.ensures.grow

pub returns-then-bad-allowed-clause-grow : goal.returns-then-bad-allowed-clause-grow
returns-then-bad-allowed-clause-grow g c =
    grown_in_all g.E.Encoder.may_end g.E.Encoder.suits g.E.Encoder.has_name g.E.Encoder.keeps g.E.Encoder.has_given g.met.E.Encoder.carries_on c.args.place c.args.cube.now c.args.allowed c.args.load.now c.args.bad.now c.reserve.new.self
    c.args.encoder.now c.records.encoder c.load_record.new.encoder c.records.load c.records.bad c.records.batch c.records.invariant c.load_record.ensures.grow

pub returns-in-End-clause-grow : goal.returns-in-End-clause-grow
returns-in-End-clause-grow g c =
    grown_in_all g.E.Encoder.may_end g.E.Encoder.suits g.E.Encoder.has_name g.E.Encoder.keeps g.E.Encoder.has_given g.met.E.Encoder.carries_on c.args.place c.args.cube.now c.args.allowed c.args.load.now c.args.bad.now c.reserve.new.self
    c.args.encoder.now c.records.encoder c.load_record.new.encoder c.records.load c.records.bad c.records.batch c.records.invariant c.load_record.ensures.grow

pub returns-clause-grow : goal.returns-clause-grow
returns-clause-grow g c =
    grown_so_far g.E.Encoder.may_end g.E.Encoder.suits g.E.Encoder.has_name g.E.Encoder.keeps g.E.Encoder.has_given g.met.E.Encoder.carries_on c.args.place c.args.cube.now c.args.allowed c.args.load.now c.args.bad.now c.reserve.new.self
    c.args.encoder.now c.records.encoder c.records.load c.records.bad c.records.batch c.records.invariant

pub records-preserved-in-Row : goal.records-preserved-in-Row
records-preserved-in-Row g c =
    let room : length c.records.batch.rows < BATCH_ROWS = grind (arith, c.len-in-records.ensures.rows, c.records-test.true) in
    row_loaded g.E.Encoder.may_end g.E.Encoder.suits g.E.Encoder.has_name g.E.Encoder.keeps g.E.Encoder.has_given g.met.E.Encoder.carries_on c.args.place c.args.cube.now c.args.allowed c.args.load.now c.args.bad.now c.reserve.new.self
    c.args.encoder.now c.records.encoder c.load_record.new.encoder c.records.load c.load_record.new.load c.records.bad c.records.batch c.load_record.new.batch
    (coded_row c.load_record.new.coords.items c.load_record.new.load.metrics) c.records.invariant (rw c.in-Row.is at c.in_ok-load_record.ensures.taken)
    (rw c.in-Row.is at c.in_ok-load_record.ensures.found) (rw c.in-Row.is at c.in_ok-load_record.ensures.rows) c.in_ok-load_record.ensures.inside c.in_ok-load_record.ensures.numbers room
    c.in_ok-load_record.ensures.given

pub returns-then-bad-allowed-clause-goes_on : goal.returns-then-bad-allowed-clause-goes_on
returns-then-bad-allowed-clause-goes_on g c =
    goes_one_more c.args.load.now c.records.load c.load_record.new.load c.records.invariant.goes (rw c.in-Bad.is at c.in_ok-load_record.ensures.taken)

pub returns-then-bad-allowed-clause-given : goal.returns-then-bad-allowed-clause-given
returns-then-bad-allowed-clause-given g c =
    grown_by_record g.E.Encoder.may_end g.E.Encoder.suits g.E.Encoder.has_name g.E.Encoder.keeps g.E.Encoder.has_given g.met.E.Encoder.carries_on c.args.place c.args.cube.now c.args.allowed c.args.load.now c.args.bad.now c.reserve.new.self
    c.args.encoder.now c.records.encoder c.load_record.new.encoder c.records.load c.load_record.new.load c.records.invariant.goes (rw c.in-Bad.is at c.in_ok-load_record.ensures.taken) c.records.invariant.grow c.in_ok-load_record.ensures.given

pub returns-then-bad-allowed-clause-batch : goal.returns-then-bad-allowed-clause-batch
returns-then-bad-allowed-clause-batch g c =
    last_loaded g.E.Encoder.may_end g.E.Encoder.suits g.E.Encoder.has_name g.E.Encoder.keeps g.E.Encoder.has_given g.met.E.Encoder.carries_on c.args.place c.args.cube.now c.args.allowed c.args.load.now c.args.bad.now c.reserve.new.self
    c.args.encoder.now c.records.encoder c.load_record.new.encoder c.records.load c.load_record.new.load c.records.bad c.add.new.self c.records.batch c.load_record.new.batch
    (coded_row c.load_record.new.coords.items c.load_record.new.load.metrics) c.in-Bad.why c.records.invariant (rw c.in-Bad.is at c.in_ok-load_record.ensures.taken)
    (rw c.in-Bad.is at c.in_ok-load_record.ensures.found) (rw c.in-Bad.is at c.in_ok-load_record.ensures.rows)
    (rw c.number.ensures at c.in_ok-add-in-Bad.ensures.told) c.add.ensures.count c.if-bad-allowed.true c.in_ok-load_record.ensures.given

pub records-preserved : goal.records-preserved
records-preserved g c =
    bad_loaded g.E.Encoder.may_end g.E.Encoder.suits g.E.Encoder.has_name g.E.Encoder.keeps g.E.Encoder.has_given g.met.E.Encoder.carries_on c.args.place c.args.cube.now c.args.allowed c.args.load.now c.args.bad.now c.reserve.new.self
    c.args.encoder.now c.records.encoder c.load_record.new.encoder c.records.load c.load_record.new.load c.records.bad c.add.new.self c.records.batch c.load_record.new.batch
    (coded_row c.load_record.new.coords.items c.load_record.new.load.metrics) c.in-Bad.why c.records.invariant (rw c.in-Bad.is at c.in_ok-load_record.ensures.taken)
    (rw c.in-Bad.is at c.in_ok-load_record.ensures.found) (rw c.in-Bad.is at c.in_ok-load_record.ensures.rows) c.in_ok-load_record.ensures.numbers
    (rw c.number.ensures at c.in_ok-add-in-Bad.ensures.told) c.add.ensures.count c.if-bad-allowed.false c.in_ok-load_record.ensures.given
