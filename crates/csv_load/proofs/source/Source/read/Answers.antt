use Rattle.std.proofs.Common.{◌≡◌, true, subst, ap, sym, ◌∙◌}
use Rattle.csv.specs.Records.{fields_of}
use Rattle.csv_load.specs.Sources.{gave_record, remaining_in}
use Rattle.csv_load.proofs.SourceSteps.{HasRead, source_with, stays_between, took}
use Rattle.csv_load.proofs.source.Source.read.Goals as goal

pub invariant_of-self : goal.invariant_of-self
invariant_of-self c = λ live.
    let read = c.read_byte_record-found in
    let has : HasRead remaining_in c.self.inside.reader read.new.self (fields_of read.new.row) read.result = record {
      between = c.self.invariant c.if-not-self.false;
      reads = read.ensures.reads;
      ready = read.ensures.ready;
      flexible = read.ensures.flexible;
      sound = read.ensures.goes;
    } in
    stays_between remaining_in c.self.inside.reader read.new.self (fields_of read.new.row) read.result has
    (sym c.gave_record-self-inside.ensures ∙ live)

pub returns-in-Ok-clause-next : goal.returns-in-Ok-clause-next
returns-in-Ok-clause-next c =
    let read = c.read_byte_record-found in
    let has : HasRead remaining_in c.self.inside.reader read.new.self (fields_of read.new.row) read.result = record {
      between = c.self.invariant c.if-not-self.false;
      reads = read.ensures.reads;
      ready = read.ensures.ready;
      flexible = read.ensures.flexible;
      sound = read.ensures.goes;
    } in
    let view : c.args.self.now ≡ source_with remaining_in c.self.inside.reader (fields_of c.self.inside.last) true =
    sym c.self.view_is ∙ ap (source_with remaining_in c.self.inside.reader
    (fields_of c.self.inside.last)) c.if-not-self.false in
    let got : c.gave_record-self-inside.result ≡ c.in-Ok.found = c.gave_record-self-inside.ensures
    ∙ ap gave_record c.in-Ok.is in
    rw (view, got) (took remaining_in c.self.inside.reader read.new.self (fields_of c.self.inside.last)
    (fields_of read.new.row) c.in-Ok.found
    (subst (HasRead remaining_in c.self.inside.reader read.new.self (fields_of read.new.row)) c.in-Ok.is has))
