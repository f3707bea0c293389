-- Where entries lead.
use Rattle.std.proofs.Common.{ℕ, ◌≤◌, List, [], ◌∷◌, arith}
use Rattle.cube_values.specs.declared.entry.Entry.{Entry}
use Rattle.cube_values.specs.declared.entry.Entry.TheVariants.{Run, Mark}
use Rattle.cube_values.specs.EpochsVector.{Leads}

-- Entries lead up, and never down.
pub leads_up : (from : ℕ) (entries : List Entry) (to : ℕ) → Leads from entries to → from ≤ to
leads_up from [] to h = omega arith
leads_up from (Run epoch end ∷ entries) to h = let up = leads_up end entries to h.1 in omega (arith, h.0)
leads_up from (Mark epoch at ∷ entries) to h = leads_up from entries to h.1
