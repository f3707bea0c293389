-- The cubes that a file keeps can be made.
use Rattle.std.proofs.Common.{ℕ, List, [], ◌∷◌, All, sym, subst}
use Rattle.std.proofs.lemmas.List.Elements.{All-append}
use Rattle.cube_language.specs.Cubes.{cubes_text}
use Rattle.cube_language.specs.CubesText.{Declares}
use Rattle.cube_language.specs.declared.decl.Decl.{Decl}
use Rattle.cube_rounds.specs.declared.round.Round.{Round}
use Rattle.cube_rounds.specs.Stands.{Kept, RoundsMayFollow, kept_of_cubes, kept_with, kept_with_all}
use Rattle.kept_data.specs.KeptFiles.{IsKeptByFile}
use Rattle.core_events.specs.Fitting.{CanBeMade}

-- Those that a text declares can be made.
abbrev DeclaredCanBeMade : Type 0
DeclaredCanBeMade = (text : List ℕ) (cubes : List Decl) → Declares text cubes → All CanBeMade cubes

made-behind : DeclaredCanBeMade → (kept : Kept) (rounds : List Round) → All CanBeMade kept.cubes
    → RoundsMayFollow kept rounds → All CanBeMade (kept_with_all kept rounds).cubes
made-behind declared kept [] all chain = all
made-behind declared kept (round ∷ rounds) all chain =
    made-behind declared (kept_with kept round) rounds
    (All-append CanBeMade kept.cubes round.made all
    (declared (cubes_text round.made) round.made chain.1.made.declared)) chain.2

pub kept-made : ((text : List ℕ) (cubes : List Decl) → Declares text cubes → All CanBeMade cubes) → (kept : Kept)
    → IsKeptByFile kept → All CanBeMade kept.cubes
kept-made declared kept by =
    subst (λ (k : Kept). All CanBeMade k.cubes) (sym by.are)
    (made-behind declared (kept_of_cubes by.cubes) by.rounds (declared (cubes_text by.cubes) by.cubes by.declares)
    by.chain)
