use Rattle.std.proofs.Common.{ℕ, List, length, refl, sym, ap, ◌∙◌}
use Rattle.cube_rounds.specs.Stands.{kept_with}
use Rattle.round_store.specs.Counts.{CubeCounts}
use Rattle.round_store.specs.States.{StoreState, place_behind}
use Rattle.round_store.proofs.AppendLaws.{append_moves, append_added, still_current}
use Rattle.round_store.proofs.StoreLaws.{store_with}
use Rattle.round_store.proofs.store.Store.append_round.Goals as goal

pub returns-in_err-next-clause-any_moment : goal.returns-in_err-next-clause-any_moment
returns-in_err-next-clause-any_moment g c = λ kept other is follows.
    let old = g.D.Disk.view c.args.current.now in
    still_current old.told old c.args.self.now kept (kept_with kept c.args.round.now) other refl c.requires.synced (g.met.D.Disk.only_now c.args.current.now)

pub returns-in-Ok-clause-any_moment : goal.returns-in-Ok-clause-any_moment
returns-in-Ok-clause-any_moment g c = λ kept other is follows.
    let old = g.D.Disk.view c.args.current.now in
    append_moves old.told old (g.D.Disk.view c.append_bytes.new.disk) c.args.self.now kept other c.args.round.now c.as_slice.result.now is follows (c.as_slice.ensures.value ∙ c.in_ok-next.ensures.bytes)
    (λ front long. c.append_bytes.ensures.any_moment front (long ∙ ap (λ (x : StoreState). x.place.end) (sym c.self.view_is)))

pub returns-in-Err-clause-any_moment : goal.returns-in-Err-clause-any_moment
returns-in-Err-clause-any_moment g c = λ kept other is follows.
    let old = g.D.Disk.view c.args.current.now in
    append_moves old.told old (g.D.Disk.view c.append_bytes.new.disk) c.args.self.now kept other c.args.round.now c.as_slice.result.now is follows (c.as_slice.ensures.value ∙ c.in_ok-next.ensures.bytes)
    (λ front long. c.append_bytes.ensures.any_moment front (long ∙ ap (λ (x : StoreState). x.place.end) (sym c.self.view_is)))

pub returns-in-Ok-clause-added : goal.returns-in-Ok-clause-added
returns-in-Ok-clause-added g c = λ kept other is follows.
    let old = g.D.Disk.view c.args.current.now in
    let s = c.args.self.now in
    append_added old.told (g.D.Disk.view c.append_bytes.new.disk).told s c.go_on.new.self kept other c.args.round.now c.as_slice.result.now is follows (c.as_slice.ensures.value ∙ c.in_ok-next.ensures.bytes)
    (ap (λ (x : StoreState). x.place) c.go_on.ensures ∙ c.in_ok-next.ensures.place ∙ ap (λ (b : List ℕ). place_behind s.place (length b)) (sym c.as_slice.ensures.value))
    (ap (λ (x : StoreState). x.shut) c.go_on.ensures ∙ ap (λ (x : StoreState). x.shut) c.self.view_is)
    (λ front long. c.in-Ok.ensures.written front (long ∙ ap (λ (x : StoreState). x.place.end) (sym c.self.view_is)))

pub returns-in-Ok-clause-store : goal.returns-in-Ok-clause-store
returns-in-Ok-clause-store g c = λ kept is follows.
    store_with c.args.self.now c.go_on.new.self kept c.args.round.now is follows
    (ap (λ (x : StoreState). x.cubes) c.go_on.ensures ∙ ap (λ (x : CubeCounts). x.cubes) c.in_ok-next.ensures.data)
    (ap (λ (x : StoreState). x.counts) c.go_on.ensures ∙ ap (λ (x : CubeCounts). x.counts) c.in_ok-next.ensures.data)
    (ap (λ (x : StoreState). x.declared) c.go_on.ensures)
    (ap (λ (x : StoreState). x.rounds) c.go_on.ensures ∙ c.in_ok-next.ensures.rounds)
