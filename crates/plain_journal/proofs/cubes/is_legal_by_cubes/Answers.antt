use Rattle.std.proofs.Common.{◌≡◌, ◌==◌, ◌<◌, ℕ, true, List, [], ◌∷◌, length, arith, refl}
use Rattle.cube_journal.specs.declared.journal_entry.JournalEntry.{JournalEntry}
use Rattle.cube_journal.specs.Legal.{CubesAllowAll}
use Rattle.plain_journal.proofs.LaterPlaces.{same-number}
use Rattle.plain_journal.proofs.cubes.is_legal_by_cubes.Goals as goal

-- Where no entry is left, no name may be.
ends : (cubes names : List (List ℕ)) (left : List JournalEntry) → length left < 1
    → ((length names == 0) ≡ true → CubesAllowAll cubes names left) × (CubesAllowAll cubes names left → (length names == 0) ≡ true)
ends cubes [] [] lt = (λ p. tt, λ h. refl)
ends cubes (name ∷ names) [] lt = (λ p. absurd (omega (arith, same-number (length (name ∷ names)) 0 p)), λ h. absurd h)
ends cubes [] (e ∷ left) lt = absurd (omega arith)
ends cubes (name ∷ names) (e ∷ left) lt = absurd (omega arith)

pub returns : goal.returns
returns c =
    let e = ends c.entries.there.items c.entries.names_left.now c.entries.left.now (omega arith) in
    rw c.is_empty.ensures (λ p. c.entries.invariant.back (e.0 p), λ h. e.1 (c.entries.invariant.forth h))
