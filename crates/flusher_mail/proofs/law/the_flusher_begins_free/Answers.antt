use Rattle.std.proofs.Common.{false, List, refl, subst}
use Rattle.cube_core.specs.BoardCells.{flusher_part}
use Rattle.core_events.specs.Events.{CoreEvent}
use Rattle.flusher_mail.specs.FlusherMail.{HasNoFlush}
use Rattle.flusher_rounds.proofs.Rounds.{begins}
use Rattle.flusher_mail.proofs.law.the_flusher_begins_free.Goals as goal

pub returns : goal.returns
returns g c = λ cells caller o log run es later are.
    subst (λ (l : List CoreEvent). HasNoFlush false o (flusher_part o l)) are (record { has = refl; between = begins o })
