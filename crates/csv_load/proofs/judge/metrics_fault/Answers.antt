use Rattle.std.proofs.Common.{◌≡◌, ◌<◌, ◌≤◌, [], ◌∷◌, ◌++◌, None, length, drop, get_or, subst, ap, sym, ◌∙◌, arith}
use Rattle.std.specs.Int.{w64}
use Rattle.std.specs.Prelude.{FitsSigned}
use Rattle.std.proofs.lemmas.Int.{to_z-of_z}
use Rattle.std.proofs.lemmas.List.{length-drop}
use Rattle.csv.specs.Records.{fields_of}
use Rattle.csv_load.specs.Fields.{field_number, metric_field_reason}
use Rattle.csv_load.proofs.Judged.{metric_fits, metrics_more}
use Rattle.csv_load.proofs.Narrow.{field_fits}
use Rattle.csv_load.proofs.judge.metrics_fault.Goals as goal

pub names-preserved : goal.names-preserved
names-preserved c =
    let names = c.args.names.now in
    let fields = drop c.args.first (fields_of c.args.read.now) in
    let before = c.names.metrics.items in
    let number = c.in-Ok.number in
    let long : length names ≤ length fields =
    omega (arith, c.requires, length-drop c.args.first (fields_of c.args.read.now)) in
    let within = c.names-test.true in
    let there : c.names.i < length fields = omega (arith, long, within) in
    let at = c.field_from.ensures in
    let none : metric_field_reason (get_or fields c.names.i []) ≡ None =
    ap metric_field_reason (sym at) ∙ c.in-Ok.ensures.fits in
    let fits : FitsSigned w64 number =
    subst (FitsSigned w64) (sym c.in-Ok.ensures.number) (field_fits c.field_from.result.now) in
    let pushed = c.in_ok-push-in-Ok.ensures.items ∙ ap (λ n. before ++ n ∷ []) (to_z-of_z w64 number fits) in
    record {
      fault = sym (metric_fits names fields c.names.i [] within long none) ∙ c.names.invariant.fault;
      numbers = metrics_more fields c.names.i number before c.push.new.self.items _ there
          (c.in-Ok.ensures.number ∙ ap field_number at) pushed c.names.invariant.numbers;
    }
