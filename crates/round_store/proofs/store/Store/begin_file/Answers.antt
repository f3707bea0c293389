use Rattle.std.proofs.Common.{ℕ, List, ◌+◌, not, refl, sym, ap, ◌∙◌}
use Rattle.cube_rounds.specs.Stands.{kept_of_cubes, kept_with}
use Rattle.round_store.specs.Counts.{CubeCounts}
use Rattle.round_store.specs.States.{StoreState, header_cubes, whole_place}
use Rattle.round_store.proofs.WholeLaws.{replace_moves, replace_added, still_beside}
use Rattle.round_store.proofs.StoreLaws.{store_of_whole}
use Rattle.round_store.proofs.store.Store.begin_file.Goals as goal

pub returns-in_err-next-clause-any_moment : goal.returns-in_err-next-clause-any_moment
returns-in_err-next-clause-any_moment g c = λ kept other is follows.
    let old = g.D.Disk.view c.args.target.now in
    still_beside old.told old c.args.self.now kept (kept_with (kept_of_cubes (header_cubes kept)) c.args.round.now) other refl c.requires.synced (g.met.D.Disk.only_now c.args.target.now)

pub returns-in-Ok-clause-any_moment : goal.returns-in-Ok-clause-any_moment
returns-in-Ok-clause-any_moment g c = λ kept other is follows.
    let old = g.D.Disk.view c.args.target.now in
    replace_moves old.told old (g.D.Disk.view c.replace_file.new.disk) c.args.self.now kept other c.args.round.now c.as_slice.result.now is c.requires.wants follows
    (rw c.as_slice.ensures.value c.in_ok-next.ensures.bytes) c.replace_file.ensures.any_moment

pub returns-in-Err-clause-any_moment : goal.returns-in-Err-clause-any_moment
returns-in-Err-clause-any_moment g c = λ kept other is follows.
    let old = g.D.Disk.view c.args.target.now in
    replace_moves old.told old (g.D.Disk.view c.replace_file.new.disk) c.args.self.now kept other c.args.round.now c.as_slice.result.now is c.requires.wants follows
    (rw c.as_slice.ensures.value c.in_ok-next.ensures.bytes) c.replace_file.ensures.any_moment

pub returns-in-Ok-clause-added : goal.returns-in-Ok-clause-added
returns-in-Ok-clause-added g c = λ kept other is follows.
    let old = g.D.Disk.view c.args.target.now in
    let s = c.args.self.now in
    replace_added old.told (g.D.Disk.view c.replace_file.new.disk).told s c.go_on.new.self kept other c.args.round.now c.as_slice.result.now is c.requires.wants follows
    (rw c.as_slice.ensures.value c.in_ok-next.ensures.bytes)
    (ap (λ (x : StoreState). x.place) c.go_on.ensures ∙ c.in_ok-next.ensures.place ∙ ap (λ (b : List ℕ). whole_place (not s.place.second) (s.place.generation + 1) b) (sym c.as_slice.ensures.value))
    (ap (λ (x : StoreState). x.shut) c.go_on.ensures) c.in-Ok.ensures.written

pub returns-in-Ok-clause-store : goal.returns-in-Ok-clause-store
returns-in-Ok-clause-store g c = λ kept is follows.
    store_of_whole c.args.self.now c.go_on.new.self kept c.args.round.now is follows
    (ap (λ (x : StoreState). x.cubes) c.go_on.ensures ∙ ap (λ (x : CubeCounts). x.cubes) c.in_ok-next.ensures.data)
    (ap (λ (x : StoreState). x.counts) c.go_on.ensures ∙ ap (λ (x : CubeCounts). x.counts) c.in_ok-next.ensures.data)
    (ap (λ (x : StoreState). x.declared) c.go_on.ensures)
    (ap (λ (x : StoreState). x.rounds) c.go_on.ensures ∙ c.in_ok-next.ensures.rounds)
