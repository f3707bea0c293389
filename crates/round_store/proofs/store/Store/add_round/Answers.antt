use Rattle.std.proofs.Common.{◌≡◌, true, false, refl, sym, ap, subst, ◌∙◌}
use Rattle.cube_rounds.specs.Stands.{Kept, kept_of_cubes, kept_with}
use Rattle.std.specs.Prelude.{OnOk}
use Rattle.outside_disk.specs.Views.{LeavesOnly}
use Rattle.round_store.specs.States.{StoreState, wants_whole, header_cubes, AreFilesOf, IsAt, kept_after, StandForEither}
use Rattle.round_store.proofs.AddedLaws.{after_whole, after_more, added_first, added_second, begun_at_first, begun_at_second}
use Rattle.round_store.proofs.AroundLaws.{Told, files_first, files_second, follows_behind, follows_header, first_file, second_file, append_first, append_second, whole_first, whole_second, first_stays, second_stays}
use Rattle.round_store.proofs.store.Store.add_round.Goals as goal

pub begin_file-requires-clause-follows : goal.begin_file-requires-clause-follows
begin_file-requires-clause-follows g c =
    let s = c.args.self.now in
    let v1 = g.D.Disk.view c.args.disk.now in
    let v2 = g.D.Disk.view c.args.other.now in
    let wants : wants_whole s ≡ true = sym c.wants_whole.ensures ∙ c.if-wants_whole.true in
    let second : s.place.second ≡ true = ap (λ (x : StoreState). x.place.second) (sym c.self.view_is) ∙ c.if-self.true in
    let kept = c.requires.0 in
    let at = c.requires.1 in
    (kept, at.store, follows_header s kept c.args.round.now wants c.requires.2, first_file (λ f h. AreFilesOf s kept h f) v1.told v2.told at.both (files_second s kept v1.told v2.told second at.files))

pub returns-then-self-clause-first_moves : goal.returns-then-self-clause-first_moves
returns-then-self-clause-first_moves g c = λ kept at follows.
    let s = c.args.self.now in
    let v1 = g.D.Disk.view c.args.disk.now in
    let v2 = g.D.Disk.view c.args.other.now in
    let wants : wants_whole s ≡ true = sym c.wants_whole.ensures ∙ c.if-wants_whole.true in
    let second : s.place.second ≡ true = ap (λ (x : StoreState). x.place.second) (sym c.self.view_is) ∙ c.if-self.true in
    subst (λ (k : Kept). Told v1.told v2.told (λ f h. LeavesOnly v1 (g.D.Disk.view c.begin_file.new.target) (λ x. StandForEither kept k x h))) (sym (after_whole s kept c.args.round.now wants))
    (whole_first v1.told v2.told v1 (g.D.Disk.view c.begin_file.new.target) s kept (kept_with (kept_of_cubes (header_cubes kept)) c.args.round.now) (files_second s kept v1.told v2.told second at.files)
    (λ f. c.begin_file.ensures.any_moment kept f at.store (follows_header s kept c.args.round.now wants follows)))

pub returns-then-self-clause-second_moves : goal.returns-then-self-clause-second_moves
returns-then-self-clause-second_moves g c = λ kept at follows.
    let s = c.args.self.now in
    let v1 = g.D.Disk.view c.args.disk.now in
    let v2 = g.D.Disk.view c.args.other.now in
    second_stays v1.told v2.told v2 s kept (kept_after s kept c.args.round.now) refl at.second_synced (g.met.D.Disk.only_now c.args.other.now) at.files

pub returns-then-self-clause-added : goal.returns-then-self-clause-added
returns-then-self-clause-added g c = λ kept at follows.
    let s = c.args.self.now in
    let v1 = g.D.Disk.view c.args.disk.now in
    let v2 = g.D.Disk.view c.args.other.now in
    let wants : wants_whole s ≡ true = sym c.wants_whole.ensures ∙ c.if-wants_whole.true in
    let second : s.place.second ≡ true = ap (λ (x : StoreState). x.place.second) (sym c.self.view_is) ∙ c.if-self.true in
    let may = follows_header s kept c.args.round.now wants follows in
    subst (λ (k : Kept). OnOk c.begin_file.result (IsAt c.begin_file.new.self k (g.D.Disk.view c.begin_file.new.target) v2)) (sym (after_whole s kept c.args.round.now wants))
    (begun_at_first c.begin_file.result s c.begin_file.new.self kept (kept_with (kept_of_cubes (header_cubes kept)) c.args.round.now) v1 (g.D.Disk.view c.begin_file.new.target) v2 at second
    (λ f. c.begin_file.ensures.added kept f at.store may) (c.begin_file.ensures.store kept at.store may) c.begin_file.ensures.place c.begin_file.ensures.synced c.begin_file.ensures.tells)

pub begin_file-requires-then-wants_whole-clause-follows : goal.begin_file-requires-then-wants_whole-clause-follows
begin_file-requires-then-wants_whole-clause-follows g c =
    let s = c.args.self.now in
    let v1 = g.D.Disk.view c.args.disk.now in
    let v2 = g.D.Disk.view c.args.other.now in
    let wants : wants_whole s ≡ true = sym c.wants_whole.ensures ∙ c.if-wants_whole.true in
    let second : s.place.second ≡ false = ap (λ (x : StoreState). x.place.second) (sym c.self.view_is) ∙ c.if-self.false in
    let kept = c.requires.0 in
    let at = c.requires.1 in
    (kept, at.store, follows_header s kept c.args.round.now wants c.requires.2, second_file (λ f h. AreFilesOf s kept f h) v1.told v2.told at.both (files_first s kept v1.told v2.told second at.files))

pub returns-then-wants_whole-clause-second_moves : goal.returns-then-wants_whole-clause-second_moves
returns-then-wants_whole-clause-second_moves g c = λ kept at follows.
    let s = c.args.self.now in
    let v1 = g.D.Disk.view c.args.disk.now in
    let v2 = g.D.Disk.view c.args.other.now in
    let wants : wants_whole s ≡ true = sym c.wants_whole.ensures ∙ c.if-wants_whole.true in
    let second : s.place.second ≡ false = ap (λ (x : StoreState). x.place.second) (sym c.self.view_is) ∙ c.if-self.false in
    subst (λ (k : Kept). Told v1.told v2.told (λ f h. LeavesOnly v2 (g.D.Disk.view c.begin_file-then-wants_whole.new.target) (λ d. StandForEither kept k f d))) (sym (after_whole s kept c.args.round.now wants))
    (whole_second v1.told v2.told v2 (g.D.Disk.view c.begin_file-then-wants_whole.new.target) s kept (kept_with (kept_of_cubes (header_cubes kept)) c.args.round.now) (files_first s kept v1.told v2.told second at.files)
    (λ f. c.begin_file-then-wants_whole.ensures.any_moment kept f at.store (follows_header s kept c.args.round.now wants follows)))

pub returns-then-wants_whole-clause-first_moves : goal.returns-then-wants_whole-clause-first_moves
returns-then-wants_whole-clause-first_moves g c = λ kept at follows.
    let s = c.args.self.now in
    let v1 = g.D.Disk.view c.args.disk.now in
    let v2 = g.D.Disk.view c.args.other.now in
    first_stays v1.told v2.told v1 s kept (kept_after s kept c.args.round.now) refl at.first_synced (g.met.D.Disk.only_now c.args.disk.now) at.files

pub returns-then-wants_whole-clause-added : goal.returns-then-wants_whole-clause-added
returns-then-wants_whole-clause-added g c = λ kept at follows.
    let s = c.args.self.now in
    let v1 = g.D.Disk.view c.args.disk.now in
    let v2 = g.D.Disk.view c.args.other.now in
    let wants : wants_whole s ≡ true = sym c.wants_whole.ensures ∙ c.if-wants_whole.true in
    let second : s.place.second ≡ false = ap (λ (x : StoreState). x.place.second) (sym c.self.view_is) ∙ c.if-self.false in
    let may = follows_header s kept c.args.round.now wants follows in
    subst (λ (k : Kept). OnOk c.begin_file-then-wants_whole.result (IsAt c.begin_file-then-wants_whole.new.self k v1 (g.D.Disk.view c.begin_file-then-wants_whole.new.target))) (sym (after_whole s kept c.args.round.now wants))
    (begun_at_second c.begin_file-then-wants_whole.result s c.begin_file-then-wants_whole.new.self kept (kept_with (kept_of_cubes (header_cubes kept)) c.args.round.now) v1 v2 (g.D.Disk.view c.begin_file-then-wants_whole.new.target) at second
    (λ f. c.begin_file-then-wants_whole.ensures.added kept f at.store may) (c.begin_file-then-wants_whole.ensures.store kept at.store may) c.begin_file-then-wants_whole.ensures.place c.begin_file-then-wants_whole.ensures.synced c.begin_file-then-wants_whole.ensures.tells)

pub append_round-requires-clause-follows : goal.append_round-requires-clause-follows
append_round-requires-clause-follows g c =
    let s = c.args.self.now in
    let v1 = g.D.Disk.view c.args.disk.now in
    let v2 = g.D.Disk.view c.args.other.now in
    let wants : wants_whole s ≡ false = sym c.wants_whole.ensures ∙ c.if-wants_whole.false in
    let second : s.place.second ≡ true = ap (λ (x : StoreState). x.place.second) (sym c.self.view_is) ∙ c.if-self-2.true in
    let kept = c.requires.0 in
    let at = c.requires.1 in
    (kept, at.store, follows_behind s kept c.args.round.now wants c.requires.2, second_file (λ f h. AreFilesOf s kept h f) v1.told v2.told at.both (files_second s kept v1.told v2.told second at.files))

pub returns-then-self-2-clause-second_moves : goal.returns-then-self-2-clause-second_moves
returns-then-self-2-clause-second_moves g c = λ kept at follows.
    let s = c.args.self.now in
    let v1 = g.D.Disk.view c.args.disk.now in
    let v2 = g.D.Disk.view c.args.other.now in
    let wants : wants_whole s ≡ false = sym c.wants_whole.ensures ∙ c.if-wants_whole.false in
    let second : s.place.second ≡ true = ap (λ (x : StoreState). x.place.second) (sym c.self.view_is) ∙ c.if-self-2.true in
    subst (λ (k : Kept). Told v1.told v2.told (λ f h. LeavesOnly v2 (g.D.Disk.view c.append_round.new.current) (λ d. StandForEither kept k f d))) (sym (after_more s kept c.args.round.now wants))
    (append_second v1.told v2.told v2 (g.D.Disk.view c.append_round.new.current) s kept (kept_with kept c.args.round.now) (files_second s kept v1.told v2.told second at.files)
    (λ f. c.append_round.ensures.any_moment kept f at.store (follows_behind s kept c.args.round.now wants follows)))

pub returns-then-self-2-clause-first_moves : goal.returns-then-self-2-clause-first_moves
returns-then-self-2-clause-first_moves g c = λ kept at follows.
    let s = c.args.self.now in
    let v1 = g.D.Disk.view c.args.disk.now in
    let v2 = g.D.Disk.view c.args.other.now in
    first_stays v1.told v2.told v1 s kept (kept_after s kept c.args.round.now) refl at.first_synced (g.met.D.Disk.only_now c.args.disk.now) at.files

pub returns-then-self-2-clause-added : goal.returns-then-self-2-clause-added
returns-then-self-2-clause-added g c = λ kept at follows.
    let s = c.args.self.now in
    let v1 = g.D.Disk.view c.args.disk.now in
    let v2 = g.D.Disk.view c.args.other.now in
    let wants : wants_whole s ≡ false = sym c.wants_whole.ensures ∙ c.if-wants_whole.false in
    let second : s.place.second ≡ true = ap (λ (x : StoreState). x.place.second) (sym c.self.view_is) ∙ c.if-self-2.true in
    let may = follows_behind s kept c.args.round.now wants follows in
    subst (λ (k : Kept). OnOk c.append_round.result (IsAt c.append_round.new.self k v1 (g.D.Disk.view c.append_round.new.current))) (sym (after_more s kept c.args.round.now wants))
    (added_second c.append_round.result s c.append_round.new.self kept (kept_with kept c.args.round.now) v1 v2 (g.D.Disk.view c.append_round.new.current) at second
    (λ f. c.append_round.ensures.added kept f at.store may) (c.append_round.ensures.store kept at.store may) c.append_round.ensures.place c.append_round.ensures.synced c.append_round.ensures.tells)

pub append_round-requires-2-clause-follows : goal.append_round-requires-2-clause-follows
append_round-requires-2-clause-follows g c =
    let s = c.args.self.now in
    let v1 = g.D.Disk.view c.args.disk.now in
    let v2 = g.D.Disk.view c.args.other.now in
    let wants : wants_whole s ≡ false = sym c.wants_whole.ensures ∙ c.if-wants_whole.false in
    let second : s.place.second ≡ false = ap (λ (x : StoreState). x.place.second) (sym c.self.view_is) ∙ c.if-self-2.false in
    let kept = c.requires.0 in
    let at = c.requires.1 in
    (kept, at.store, follows_behind s kept c.args.round.now wants c.requires.2, first_file (λ f h. AreFilesOf s kept f h) v1.told v2.told at.both (files_first s kept v1.told v2.told second at.files))

pub returns-clause-first_moves : goal.returns-clause-first_moves
returns-clause-first_moves g c = λ kept at follows.
    let s = c.args.self.now in
    let v1 = g.D.Disk.view c.args.disk.now in
    let v2 = g.D.Disk.view c.args.other.now in
    let wants : wants_whole s ≡ false = sym c.wants_whole.ensures ∙ c.if-wants_whole.false in
    let second : s.place.second ≡ false = ap (λ (x : StoreState). x.place.second) (sym c.self.view_is) ∙ c.if-self-2.false in
    subst (λ (k : Kept). Told v1.told v2.told (λ f h. LeavesOnly v1 (g.D.Disk.view c.append_round-2.new.current) (λ x. StandForEither kept k x h))) (sym (after_more s kept c.args.round.now wants))
    (append_first v1.told v2.told v1 (g.D.Disk.view c.append_round-2.new.current) s kept (kept_with kept c.args.round.now) (files_first s kept v1.told v2.told second at.files)
    (λ f. c.append_round-2.ensures.any_moment kept f at.store (follows_behind s kept c.args.round.now wants follows)))

pub returns-clause-second_moves : goal.returns-clause-second_moves
returns-clause-second_moves g c = λ kept at follows.
    let s = c.args.self.now in
    let v1 = g.D.Disk.view c.args.disk.now in
    let v2 = g.D.Disk.view c.args.other.now in
    second_stays v1.told v2.told v2 s kept (kept_after s kept c.args.round.now) refl at.second_synced (g.met.D.Disk.only_now c.args.other.now) at.files

pub returns-clause-added : goal.returns-clause-added
returns-clause-added g c = λ kept at follows.
    let s = c.args.self.now in
    let v1 = g.D.Disk.view c.args.disk.now in
    let v2 = g.D.Disk.view c.args.other.now in
    let wants : wants_whole s ≡ false = sym c.wants_whole.ensures ∙ c.if-wants_whole.false in
    let second : s.place.second ≡ false = ap (λ (x : StoreState). x.place.second) (sym c.self.view_is) ∙ c.if-self-2.false in
    let may = follows_behind s kept c.args.round.now wants follows in
    subst (λ (k : Kept). OnOk c.append_round-2.result (IsAt c.append_round-2.new.self k (g.D.Disk.view c.append_round-2.new.current) v2)) (sym (after_more s kept c.args.round.now wants))
    (added_first c.append_round-2.result s c.append_round-2.new.self kept (kept_with kept c.args.round.now) v1 (g.D.Disk.view c.append_round-2.new.current) v2 at second
    (λ f. c.append_round-2.ensures.added kept f at.store may) (c.append_round-2.ensures.store kept at.store may) c.append_round-2.ensures.place c.append_round-2.ensures.synced c.append_round-2.ensures.tells)
