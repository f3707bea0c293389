use Rattle.std.proofs.Common.{rules, arith}
use Rattle.run_words.proofs.SpelledNumbers.{parsed_as, same_number}
use Rattle.run_words.proofs.number.number_up_to.Goals as goal
use Rattle.run_words.proofs.number.number_up_to.Goals.{then-number-lt1-via-then-number-lt1, then-number-lt1-via-else-number-lt1+then-number-most, then-number-lt1-via-else-number-lt1+else-number-most+then-ne}

pub returns-in_default-clause-none : goal.returns-in_default-clause-none
returns-in_default-clause-none c none number is =
    search (rules, parsed_as c.args.most number c.args.text.now c.parse.result c.ranges.most.fits is c.parse.ensures.value.0, c.in_default.is)

pub returns-then-number-lt1-clause-none : goal.returns-then-number-lt1-clause-none
returns-then-number-lt1-clause-none c none number is =
    let same = same_number c.args.most number c.in-Ok.number c.args.text.now c.parse.result c.ranges.most.fits is c.parse.ensures.value.0 c.in-Ok.is in
    let some = is.some in
    let few = is.few in
    elim c.then-number-lt1.branch [
      | then-number-lt1-via-then-number-lt1 w ↦ omega (arith, same, some, w.if-number-lt1)
      | then-number-lt1-via-else-number-lt1+then-number-most w ↦ omega (arith, same, few, w.if-number-most)
      | then-number-lt1-via-else-number-lt1+else-number-most+then-ne w ↦ search (rules, same, is.digits, w.if-ne, w.format.ensures, w.ne.ensures)
    ]
