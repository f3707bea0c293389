-- What is known of texts before and after calls on the names.
use Rattle.std.proofs.Common.{ℕ, List, sym}
use mathlib.Core.List.{IsPrefix}
use Rattle.core_names.specs.AskedNames.{GoOnByNames}
use Rattle.core_names.specs.StaysAsWhoAsks.{asks-none}
use Rattle.core_program.specs.CoreFits.{CoreEntry}

pub names_go_on : (caller : ℕ) (own now : List CoreEntry) → GoOnByNames caller own now → IsPrefix own now
names_go_on caller own now asks = (asks.added, sym asks.whole)

pub no_names_asked : (caller : ℕ) (own : List CoreEntry) → GoOnByNames caller own own
no_names_asked caller own = asks-none caller own
