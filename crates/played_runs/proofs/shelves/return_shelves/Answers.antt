use Rattle.std.proofs.Common.{◌≡◌, ◌∙◌, false, true, List, [], ◌∷◌, length, sym, ap, arith, length-append}
use Rattle.played_runs.proofs.Lists.{first-out, one-out, put-behind, whole-last, whole-on}
use Rattle.played_runs.specs.ReadySessions.{IsWhole, replies_of, shelf_of}
use Rattle.played_runs.proofs.shelves.return_shelves.Goals as goal
use Rattle.played_runs.proofs.shelves.return_shelves.Goals.{then-whole, else-whole}

pub works-preserved : goal.works-preserved
works-preserved g c =
    let held = c.works.invariant in
    let below = c.works-test.true in
    let left = held.left in
    let said = held.said in
    let places = held.places in
    let room = held.room in
    let made = c.left_by-shelf.ensures in
    let put = c.push_reserved.ensures in
    let answered = c.push_reserved-in-works.ensures in
    let same_places = put.capacity in
    let same_room = answered.capacity in
    let out =
    first-out c.works.left.items c.remove.new.self.items c.remove.result (omega (arith, below, left))
    c.remove.ensures.value c.remove.ensures.items
    in
    let fewer = one-out c.works.left.items c.remove.new.self.items c.remove.result out in
    let longer =
    ap (λ (xs : List _). length xs) put.items ∙ length-append c.works.shelves.items (c.left_by-shelf.result.0 ∷ []) in
    let more =
    ap (λ (xs : List _). length xs) answered.items ∙ length-append c.works.replies.items (c.left_by-shelf.result.1 ∷ [])
    in
    record {
      left = omega (arith, fewer, left);
      said = omega (arith, more, said);
      room = omega (arith, same_room, room);
      places = omega (arith, longer, fewer, same_places, places);
      shelves = put-behind shelf_of c.works.shelves.items c.push_reserved.new.self.items c.left_by-shelf.result.0
          c.works.left.items c.remove.new.self.items c.remove.result _ put.items made.shelf out held.shelves;
      replies = put-behind replies_of c.works.replies.items c.push_reserved-in-works.new.self.items
          c.left_by-shelf.result.1 c.works.left.items c.remove.new.self.items c.remove.result _ answered.items made.replies
          out held.replies;
      whole = elim c.if-whole.branch [
        | then-whole w ↦
            whole-on IsWhole c.works.whole c.if-whole.whole c.works.left.items c.remove.new.self.items c.remove.result out
            (λ is. (w.if-whole.true, sym made.whole ∙ sym w.whole-is ∙ is)) (λ t p. w.whole-is ∙ made.whole ∙ p) held.whole
        | else-whole w ↦
            whole-on IsWhole c.works.whole c.if-whole.whole c.works.left.items c.remove.new.self.items c.remove.result out
            (λ is. let no : false ≡ true = sym w.if-whole.false ∙ sym w.whole-is ∙ is in absurd cc)
            (λ t p. let no : false ≡ true = sym w.if-whole.false ∙ t in absurd cc) held.whole
      ];
    }

pub returns-clause-whole : goal.returns-clause-whole
returns-clause-whole g c =
    let left = c.works.invariant.left in
    let all = c.works-test.false in
    whole-last IsWhole c.works.whole c.works.left.items (omega (arith, left, all)) c.works.invariant.whole
