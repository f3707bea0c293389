-- Partials of shards, merged one after the other.
use Rattle.std.proofs.Common.{◌≡◌, ◌∙◌, ℕ, suc, ◌+◌, ◌-◌, ◌*◌, ◌^◌, ◌<◌, ◌≤◌, Bool, false, ◌||◌, List, [], ◌∷◌, ◌++◌, append_assoc, append-nil, length, take, drop, get_or, refl, sym, ap, subst, arith}
use Rattle.std.specs.List.{list_any}
use Rattle.std.proofs.lemmas.Bool.{or_parts}
use Rattle.std.proofs.lemmas.List.{length-append, take_all}
use Rattle.cube_values.specs.declared.query.BoundQuery.{BoundQuery}
use Rattle.cube_values.specs.declared.row.CodedRow.{CodedRow}
use Rattle.agg_fold.specs.Standing.{StandsFor}
use Rattle.agg_fold.specs.declared.groups.Groups.{Groups}
use Rattle.core_events.specs.Jobs.{JobOutcome, Found, is_refusal}
use Rattle.core_serial.specs.Queries.{rows_of_answer}
use Rattle.cube_core.specs.declared.jobs.JobAnswer.{JobAnswer}
use Rattle.cube_core.specs.declared.jobs.JobAnswer.TheVariants as reply
use Rattle.cube_core.specs.declared.shard.ShardAnswer.{ShardAnswer}
use Rattle.cube_core.specs.declared.shard.ShardAnswer.TheVariants as answer
use Rattle.session_groups.specs.AnswersInTurn.{AddsAnswer, AreMerged, HasRoomFor, HasRoomForAnswer, HaveFound, HoldInTurn, MergeAll, StandsForFound, rows_of_outcomes}

rows-last : (xs : List JobOutcome) (x : JobOutcome) → rows_of_outcomes (xs ++ x ∷ []) ≡ rows_of_outcomes xs ++ rows_of_answer x
rows-last [] x = append-nil (rows_of_answer x)
rows-last (y ∷ ys) x =
    ap (λ (l : List CodedRow). rows_of_answer y ++ l) (rows-last ys x)
    ∙ sym (append_assoc (rows_of_answer y) (rows_of_outcomes ys) (rows_of_answer x))

none-last : (xs : List JobOutcome) (x : JobOutcome) → list_any is_refusal xs ≡ false → is_refusal x ≡ false
    → list_any is_refusal (xs ++ x ∷ []) ≡ false
none-last [] x none is = ap (λ (b : Bool). b || false) is
none-last (y ∷ ys) x none is =
    let parts = or_parts (is_refusal y) (list_any is_refusal ys) none in
    λ i. parts.0 i || none-last ys x parts.1 is i

one-longer : (xs : List JobOutcome) (x : JobOutcome) → length (xs ++ x ∷ []) ≡ length xs + 1
one-longer [] x = refl
one-longer (y ∷ ys) x = let rest = one-longer ys x in omega (arith, rest)

-- Some of the answers are merged; the outcomes of the rest are behind.
pub record MergedPart (query : BoundQuery) (left : List JobAnswer) (groups : Groups) (all : ℕ) (outcomes : List JobOutcome) : Type 0 where
  pub front : List JobOutcome
  pub back : List JobOutcome
  pub split : outcomes ≡ front ++ back
  pub rest : HoldInTurn (StandsForFound query) left back
  pub none : list_any is_refusal front ≡ false
  pub stands : StandsFor query (rows_of_outcomes front) groups
  pub few : length (rows_of_outcomes front) ≤ length front * 2 ^ 40
  pub long : length front + length left ≡ all

pub record MergedSoFar (query : BoundQuery) (answers left : List JobAnswer) (groups : Groups) : Type 0 where
  pub part : (outcomes : List JobOutcome) → HoldInTurn (StandsForFound query) answers outcomes
      → MergedPart query left groups (length answers) outcomes

none-more : (n : ℕ) → 0 + n ≡ n
none-more n = omega arith

pub none-merged : (query : BoundQuery) (answers : List JobAnswer) (groups : Groups) → ((q : BoundQuery) → StandsFor q [] groups)
    → MergedSoFar query answers answers groups
none-merged query answers groups new = record {
  part = λ outcomes stand. record {
    front = [];
    back = outcomes;
    split = refl;
    rest = stand;
    none = refl;
    stands = new query;
    few = omega arith;
    long = none-more (length answers);
  };
}

-- The first of those that are left, and the others.
abbrev pub others : {X : Type 0} → List X → List X
others left = take (length left - 1) (drop 1 left)

cut-first : {X : Type 0} (left : List X) (x : X) → 1 ≤ length left → x ≡ get_or left 0 x → left ≡ x ∷ others left
cut-first [] x some is = absurd (omega (arith, some))
cut-first (y ∷ ys) x some is = λ i. sym is i ∷ sym (take_all (length (y ∷ ys) - 1) ys (omega arith)) i

-- There is room for the next.
found-room : (query : BoundQuery) (said : ShardAnswer) (outcome : JobOutcome) (rows : List CodedRow) (groups : Groups)
    → StandsForFound query (reply.Shard said) outcome → StandsFor query rows groups → length rows ≤ 64 * 2 ^ 40 → HasRoomFor query groups said
found-room query (answer.Scanned found) (Found more) rows groups are stands few =
    let count = are.stands.count in
    let limit = are.few in
    ((rows, stands, omega (arith, few, limit, count)), (more, are.stands, omega (arith, limit)))
found-room query (answer.Scanned found) outcome rows groups are stands few = absurd are
found-room query said outcome rows groups are stands few = tt

answer-room : (query : BoundQuery) (said : JobAnswer) (outcome : JobOutcome) (rows : List CodedRow) (groups : Groups)
    → StandsForFound query said outcome → StandsFor query rows groups → length rows ≤ 64 * 2 ^ 40 → HasRoomForAnswer query groups said
answer-room query (reply.Shard said) outcome rows groups are stands few = found-room query said outcome rows groups are stands few
answer-room query said outcome rows groups are stands few = tt

first-room : (query : BoundQuery) (said : JobAnswer) (rest : List JobAnswer) (back : List JobOutcome) (rows : List CodedRow) (groups : Groups)
    → HoldInTurn (StandsForFound query) (said ∷ rest) back → StandsFor query rows groups → length rows ≤ 64 * 2 ^ 40
    → HasRoomForAnswer query groups said
first-room query said rest [] rows groups hold stands few = absurd hold
first-room query said rest (outcome ∷ back) rows groups hold stands few = answer-room query said outcome rows groups hold.0 stands few

pub room-for : (query : BoundQuery) (answers left : List JobAnswer) (said : JobAnswer) (groups : Groups)
    → MergedSoFar query answers left groups → 1 ≤ length left → said ≡ get_or left 0 said → HaveFound query answers → length answers ≤ 64
    → HasRoomForAnswer query groups said
room-for query answers left said groups merged some is found small =
    let p = merged.part found.outcomes found.stand in
    let few = p.few in
    let long = p.long in
    first-room query said (others left) p.back (rows_of_outcomes p.front) groups
    (subst (λ (l : List JobAnswer). HoldInTurn (StandsForFound query) l p.back) (cut-first left said some is) p.rest) p.stands
    (omega (arith, few, long, small))

-- One is merged.
module _ (query : BoundQuery) (outcomes : List JobOutcome) (all : ℕ) (rest : List JobAnswer) (old new : Groups) where
  merged-more : (said : JobAnswer) (outcome : JobOutcome) (front back : List JobOutcome) → StandsForFound query said outcome
      → AddsAnswer query said old new → outcomes ≡ front ++ outcome ∷ back → HoldInTurn (StandsForFound query) rest back
      → list_any is_refusal front ≡ false → StandsFor query (rows_of_outcomes front) old
      → length (rows_of_outcomes front) ≤ length front * 2 ^ 40 → length front + suc (length rest) ≡ all
      → MergedPart query rest new all outcomes
  merged-more (reply.Shard (answer.Scanned found)) (Found more) front back are adds split hold none stands few long =
      let limit = are.few in
      let rows = ap (λ (l : List CodedRow). length l) (rows-last front (Found more)) ∙ length-append (rows_of_outcomes front) more in
      let longer = one-longer front (Found more) in
      record {
        front = front ++ Found more ∷ [];
        back = back;
        split = split ∙ sym (append_assoc front (Found more ∷ []) back);
        rest = hold;
        none = none-last front (Found more) none refl;
        stands = subst (λ (l : List CodedRow). StandsFor query l new) (sym (rows-last front (Found more)))
            (adds more are.stands (rows_of_outcomes front) stands);
        few = omega (arith, few, limit, rows, longer);
        long = omega (arith, long, longer);
      }
  merged-more (reply.Shard (answer.Scanned found)) outcome front back are adds split hold none stands few long = absurd are
  merged-more said outcome front back are adds split hold none stands few long = absurd adds

  merged-first : (said : JobAnswer) (back : List JobOutcome) → AddsAnswer query said old new → (p : MergedPart query (said ∷ rest) old all outcomes)
      → outcomes ≡ p.front ++ back → HoldInTurn (StandsForFound query) (said ∷ rest) back → MergedPart query rest new all outcomes
  merged-first said [] adds p split hold = absurd hold
  merged-first said (outcome ∷ back) adds p split hold =
      merged-more said outcome p.front back hold.0 adds split hold.1 p.none p.stands p.few p.long

pub merged-next : (query : BoundQuery) (answers left : List JobAnswer) (said : JobAnswer) (old new : Groups)
    → MergedSoFar query answers left old → 1 ≤ length left → said ≡ get_or left 0 said → AddsAnswer query said old new
    → MergedSoFar query answers (others left) new
merged-next query answers left said old new merged some is adds = record {
  part = λ outcomes stand.
      let p =
      subst (λ (l : List JobAnswer). MergedPart query l old (length answers) outcomes) (cut-first left said some is) (merged.part outcomes stand)
      in
      merged-first query outcomes (length answers) (others left) old new said p.back adds p p.split p.rest;
}

-- All are.
no-others : {X : Type 0} (left : List X) → length left < 1 → left ≡ []
no-others [] none = refl
no-others (x ∷ left) none = absurd (omega (arith, none))

merged-whole : (query : BoundQuery) (groups : Groups) (outcomes front back : List JobOutcome) → outcomes ≡ front ++ back
    → HoldInTurn (StandsForFound query) [] back → list_any is_refusal front ≡ false → StandsFor query (rows_of_outcomes front) groups
    → AreMerged query groups outcomes
merged-whole query groups outcomes front [] split hold none stands =
    subst (λ (l : List JobOutcome). AreMerged query groups l) (sym (split ∙ append-nil front)) (record { none = none; stands = stands })
merged-whole query groups outcomes front (x ∷ back) split hold none stands = absurd hold

pub merged-all : (query : BoundQuery) (answers left : List JobAnswer) (groups : Groups) → MergedSoFar query answers left groups
    → length left < 1 → MergeAll query answers groups
merged-all query answers left groups merged none outcomes stand =
    let is = no-others left none in
    let p = merged.part outcomes stand in
    merged-whole query groups outcomes p.front p.back p.split
    (subst (λ (l : List JobAnswer). HoldInTurn (StandsForFound query) l p.back) is p.rest) p.none p.stands
