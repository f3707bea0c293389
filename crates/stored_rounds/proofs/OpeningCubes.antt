-- The cubes that are kept with a round hold those with which the run opened.
use Rattle.std.proofs.Common.{◌≡◌, ◌∙◌, ℕ, List, [], ◌++◌, sym, ap, append-nil}
use mathlib.Core.List.{IsPrefix}
use Rattle.cube_language.specs.declared.decl.Decl.{Decl}
use Rattle.cube_rounds.specs.Demands.{DimNames}
use Rattle.cube_rounds.specs.declared.round.Round.{Round}
use Rattle.core_events.specs.Cells.{desk_of}
use Rattle.core_events.specs.Events.{Opening, CoreEvent}
use Rattle.copied_rounds.specs.CopiedRounds.{IsRoundBehindKept}
use Rattle.following_rounds.proofs.KeptLists.{cubes-listed}
use Rattle.following_rounds.proofs.MadeCubes.{cubes-grow}

pub opening-with-round : (o : Opening) (run : List CoreEvent) (client : ℕ) (cubes : List Decl) (names : List DimNames)
    (round : Round) → IsRoundBehindKept o run client cubes names round → IsPrefix o.cubes (cubes ++ round.made)
opening-with-round o run client cubes names round behind =
    let listed = behind.taken.made.since ++ behind.copied in
    let grows = cubes-grow o listed [] in (
      grows.0,
      sym grows.1
          ∙ ap (λ (all : List CoreEvent). (desk_of o all).cubes) (append-nil listed)
          ∙ cubes-listed o behind.copied run client cubes names round behind.kept behind.taken,
    )
