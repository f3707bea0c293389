use Rattle.std.proofs.Common.{◌≡◌, take}
use Rattle.std.specs.Str.Parse.{digits_value}
use Rattle.csv_load.proofs.number.magnitude.Given as goal

abbrev pub invariant-digits : goal.invariant-digits
invariant-digits l = digits_value 10 (take l.digit-index l.digits) ≡ l.n
