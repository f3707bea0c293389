-- What holds of the counters of every legal journal: EC is above LCE, and from LSE over the bounds of the open
-- snapshots, in the order of opening, up to LCE no number falls.
-- Source: AOSI (ICDE 2018), EC > LCE >= LSE; bounds are this project's own.
use Rattle.std.specs.Prelude.{◌≡◌, ℕ, ◌<◌, ◌≤◌, List, [], ◌∷◌, All, IfSome, nat_le}
use Rattle.cube_values.specs.Sees.{admissible}
use Rattle.cube_journal.specs.declared.counters.OpenSnapshot.{OpenSnapshot}
use Rattle.cube_journal.specs.Counters.{JournalState, lce, target}

-- From one epoch over the bounds of snapshots to another no number is below the one before it.
abbrev pub NeverFalls : ℕ → List OpenSnapshot → ℕ → Type 0
NeverFalls low [] high = low ≤ high
NeverFalls low (o ∷ snapshots) high = (low ≤ o.bound) × NeverFalls o.bound snapshots high

-- A snapshot is admissible for the epochs that are not above its bound.
abbrev pub IsAdmissibleToBound : OpenSnapshot → Type 0
IsAdmissibleToBound o = (epoch : ℕ) → admissible o.snapshot epoch ≡ nat_le epoch o.bound

-- What holds after each entry.
pub record IsInOrder (s : JournalState) : Type 0 where
  pub next : lce s < s.ec
  pub bounds : NeverFalls s.lse s.snapshots (lce s)
  pub admissible : All IsAdmissibleToBound s.snapshots
  pub round : IfSome s.round (λ epoch. (s.lse < epoch) × (epoch ≤ target s))
