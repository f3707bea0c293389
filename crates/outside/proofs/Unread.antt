-- An answer that claims nothing of the file, whatever the shelf tells.
use Rattle.std.proofs.Common.{ℕ, List, Option, Some, None, Result, Err, Vec, rules, arith}
use Rattle.std.specs.declared.alloc.Global.{Global}
use Rattle.cube_values.specs.declared.call_error.CallError.{CallError}
use Rattle.cube_values.specs.declared.call_error.CallError.TheVariants.{Fault, NoMemory}
use Rattle.outside.specs.declared.reading.FileFault.{FileFault}
use Rattle.outside.specs.declared.reading.FileFault.TheVariants.{Failed}
use Rattle.outside.specs.Files.{content_of}
use Rattle.outside.specs.Given.{Given, missing, given_by, IsWithin, ShowsGiven, ReadsWhole}

-- what a file gives is within the limit
within_limit : (limit : ℕ) (content : Option (List ℕ)) → IsWithin limit (given_by limit content)
within_limit limit None = tt
within_limit limit (Some bytes) = grind arith

-- an answer that shows whatever may be given
pub ReadsWhole-of_nothing :
    (told : Option (List (List ℕ × List ℕ))) (name : List ℕ) (limit : ℕ)
    (answer : Result (Vec ℕ Global) (CallError FileFault)) →
    ((given : Given) → ShowsGiven answer given) → ReadsWhole told name limit answer
ReadsWhole-of_nothing None name limit answer shows =
    record { given = missing; shown = shows missing; within = tt; by_files = λ files e. cc }
ReadsWhole-of_nothing (Some files) name limit answer shows =
    let content = content_of files name in
    record {
      given = given_by limit content;
      shown = shows _;
      within = within_limit limit content;
      by_files = λ other e. search rules;
    }

-- a failed read claims nothing
pub ReadsWhole-failed :
    (told : Option (List (List ℕ × List ℕ))) (name : List ℕ) (limit : ℕ) →
    ReadsWhole told name limit (Err (Fault Failed))
ReadsWhole-failed told name limit = ReadsWhole-of_nothing told name limit _ (λ _. tt)

-- want of memory claims nothing
pub ReadsWhole-no_memory :
    (told : Option (List (List ℕ × List ℕ))) (name : List ℕ) (limit : ℕ) →
    ReadsWhole told name limit (Err NoMemory)
ReadsWhole-no_memory told name limit = ReadsWhole-of_nothing told name limit _ (λ _. tt)

pub ruleset unread = (ReadsWhole-failed, ReadsWhole-no_memory)
