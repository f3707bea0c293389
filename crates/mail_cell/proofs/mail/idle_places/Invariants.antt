use Rattle.std.proofs.Common.{◌≡◌, replicate}
use Rattle.mail_cell.specs.declared.place.Place.TheVariants.{Idle}
use Rattle.mail_cell.proofs.mail.idle_places.Given as goal

abbrev pub invariant-loop-client : goal.invariant-loop-client
invariant-loop-client g l = l.places.items ≡ replicate l._client Idle
