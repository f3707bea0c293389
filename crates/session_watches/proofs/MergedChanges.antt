-- Changes of shards, merged one after the other.
use Rattle.std.proofs.Common.{◌≡◌, ◌∙◌, ℕ, suc, ◌+◌, ◌-◌, ◌<◌, ◌≤◌, Bool, false, ◌||◌, List, [], ◌∷◌, ◌++◌, append_assoc, append-nil, length, get_or, refl, sym, ap, subst, arith}
use Rattle.std.specs.List.{list_any}
use Rattle.std.proofs.lemmas.Bool.{or_parts}
use Rattle.std.proofs.lemmas.List.{length-append, take_all}
use Rattle.cube_values.specs.declared.query.BoundQuery.{BoundQuery}
use Rattle.cube_values.specs.declared.row.CodedRow.{CodedRow}
use Rattle.agg_fold.specs.Standing.{StandsFor}
use Rattle.agg_fold.specs.declared.groups.Groups.{Groups}
use Rattle.core_serial.specs.Deltas.{rows_that_came, rows_that_went}
use Rattle.core_events.specs.Jobs.{JobOutcome, Compared, is_refusal}
use Rattle.cube_core.specs.declared.jobs.JobAnswer.{JobAnswer}
use Rattle.cube_core.specs.declared.jobs.JobAnswer.TheVariants as reply
use Rattle.cube_core.specs.declared.shard.ShardAnswer.{ShardAnswer}
use Rattle.cube_core.specs.declared.shard.ShardAnswer.TheVariants as answer
use Rattle.session_groups.proofs.MergedPartials.{others}
use Rattle.session_groups.specs.AnswersInTurn.{HoldInTurn}
use Rattle.session_watches.specs.DeltaAnswers.{AddsChange, AreGroupsOfShards, AreMergedChanges, HasRoomForChange, HasRoomForSaid, HasRoomToMerge, HaveCompared, MergeAllChanges, StandsForCompared, rows_come, rows_gone}
use Rattle.shard_events.specs.ShardsInRuns.{AreGroupsFor}
use Rattle.standing_query.specs.declared.change.Change.{Change}

come-last : (xs : List JobOutcome) (x : JobOutcome) → rows_come (xs ++ x ∷ []) ≡ rows_come xs ++ rows_that_came x
come-last [] x = append-nil (rows_that_came x)
come-last (y ∷ ys) x =
    ap (λ (l : List CodedRow). rows_that_came y ++ l) (come-last ys x)
    ∙ sym (append_assoc (rows_that_came y) (rows_come ys) (rows_that_came x))

gone-last : (xs : List JobOutcome) (x : JobOutcome) → rows_gone (xs ++ x ∷ []) ≡ rows_gone xs ++ rows_that_went x
gone-last [] x = append-nil (rows_that_went x)
gone-last (y ∷ ys) x =
    ap (λ (l : List CodedRow). rows_that_went y ++ l) (gone-last ys x)
    ∙ sym (append_assoc (rows_that_went y) (rows_gone ys) (rows_that_went x))

none-last : (xs : List JobOutcome) (x : JobOutcome) → list_any is_refusal xs ≡ false → is_refusal x ≡ false
    → list_any is_refusal (xs ++ x ∷ []) ≡ false
none-last [] x none is = ap (λ (b : Bool). b || false) is
none-last (y ∷ ys) x none is =
    let parts = or_parts (is_refusal y) (list_any is_refusal ys) none in
    λ i. parts.0 i || none-last ys x parts.1 is i

one-longer : (xs : List JobOutcome) (x : JobOutcome) → length (xs ++ x ∷ []) ≡ length xs + 1
one-longer [] x = refl
one-longer (y ∷ ys) x = let rest = one-longer ys x in omega (arith, rest)

none-more : (n : ℕ) → 0 + n ≡ n
none-more n = omega arith

cut-first : {X : Type 0} (left : List X) (x : X) → 1 ≤ length left → x ≡ get_or left 0 x → left ≡ x ∷ others left
cut-first [] x some is = absurd (omega (arith, some))
cut-first (y ∷ ys) x some is = λ i. sym is i ∷ sym (take_all (length (y ∷ ys) - 1) ys (omega arith)) i

no-others : {X : Type 0} (left : List X) → length left < 1 → left ≡ []
no-others [] none = refl
no-others (x ∷ left) none = absurd (omega (arith, none))

-- Some of the answers are merged; the outcomes of the rest are behind.
pub record MergedPart (query : BoundQuery) (left : List JobAnswer) (whole : Change) (all : ℕ) (outcomes : List JobOutcome) : Type 0 where
  pub front : List JobOutcome
  pub back : List JobOutcome
  pub split : outcomes ≡ front ++ back
  pub rest : HoldInTurn (StandsForCompared query) left back
  pub none : list_any is_refusal front ≡ false
  pub came : AreGroupsOfShards query (length front) (rows_come front) whole.came.groups
  pub went : AreGroupsOfShards query (length front) (rows_gone front) whole.went.groups
  pub long : length front + length left ≡ all

pub record MergedSoFar (query : BoundQuery) (answers left : List JobAnswer) (whole : Change) : Type 0 where
  pub part : (outcomes : List JobOutcome) → HoldInTurn (StandsForCompared query) answers outcomes
      → MergedPart query left whole (length answers) outcomes

pub none-merged : (query : BoundQuery) (answers : List JobAnswer) (whole : Change)
    → ((q : BoundQuery) → StandsFor q [] whole.came.groups) → ((q : BoundQuery) → StandsFor q [] whole.went.groups)
    → MergedSoFar query answers answers whole
none-merged query answers whole came went = record {
  part = λ outcomes stand. record {
    front = [];
    back = outcomes;
    split = refl;
    rest = stand;
    none = refl;
    came = record { stands = came query; few = omega arith };
    went = record { stands = went query; few = omega arith };
    long = none-more (length answers);
  };
}

-- There is room for the next.

room-to-merge : (query : BoundQuery) (shards : ℕ) (rows more : List CodedRow) (groups other : Groups) → shards ≤ 64
    → AreGroupsOfShards query shards rows groups → AreGroupsFor query more other → HasRoomToMerge query other groups
room-to-merge query shards rows more groups other small stands are =
    let few = stands.few in
    let count = are.stands.count in
    let limit = are.few in
    ((rows, stands.stands, omega (arith, few, limit, count, small)), (more, are.stands, omega (arith, limit)))

said-room : (query : BoundQuery) (shards : ℕ) (said : ShardAnswer) (outcome : JobOutcome) (come gone : List CodedRow) (whole : Change) → shards ≤ 64
    → StandsForCompared query (reply.Shard said) outcome → AreGroupsOfShards query shards come whole.came.groups
    → AreGroupsOfShards query shards gone whole.went.groups → HasRoomForSaid query whole said
said-room query shards (answer.Changed change) (Compared came went) come gone whole small are first second = (
  room-to-merge query shards come came whole.came.groups change.came.groups small first are.0,
  room-to-merge query shards gone went whole.went.groups change.went.groups small second are.1,
)
said-room query shards (answer.Changed change) outcome come gone whole small are first second = absurd are
said-room query shards said outcome come gone whole small are first second = tt

answer-room : (query : BoundQuery) (shards : ℕ) (said : JobAnswer) (outcome : JobOutcome) (come gone : List CodedRow) (whole : Change) → shards ≤ 64
    → StandsForCompared query said outcome → AreGroupsOfShards query shards come whole.came.groups
    → AreGroupsOfShards query shards gone whole.went.groups → HasRoomForChange query whole said
answer-room query shards (reply.Shard said) outcome come gone whole small are first second =
    said-room query shards said outcome come gone whole small are first second
answer-room query shards said outcome come gone whole small are first second = tt

first-room : (query : BoundQuery) (shards : ℕ) (said : JobAnswer) (rest : List JobAnswer) (back : List JobOutcome) (come gone : List CodedRow)
    (whole : Change) → shards ≤ 64 → HoldInTurn (StandsForCompared query) (said ∷ rest) back → AreGroupsOfShards query shards come whole.came.groups
    → AreGroupsOfShards query shards gone whole.went.groups → HasRoomForChange query whole said
first-room query shards said rest [] come gone whole small hold first second = absurd hold
first-room query shards said rest (outcome ∷ back) come gone whole small hold first second =
    answer-room query shards said outcome come gone whole small hold.0 first second

pub room-for : (query : BoundQuery) (answers left : List JobAnswer) (said : JobAnswer) (whole : Change)
    → MergedSoFar query answers left whole → 1 ≤ length left → said ≡ get_or left 0 said → HaveCompared query answers → length answers ≤ 64
    → HasRoomForChange query whole said
room-for query answers left said whole merged some is compared small =
    let p = merged.part compared.outcomes compared.stand in
    let long = p.long in
    first-room query (length p.front) said (others left) p.back (rows_come p.front) (rows_gone p.front) whole (omega (arith, long, small))
    (subst (λ (l : List JobAnswer). HoldInTurn (StandsForCompared query) l p.back) (cut-first left said some is) p.rest) p.came p.went

-- One is merged.

few-more : (query : BoundQuery) (shards : ℕ) (rows more both : List CodedRow) (old new other : Groups) → AreGroupsOfShards query shards rows old
    → AreGroupsFor query more other
    → ((added : List CodedRow) → StandsFor query added other → (l : List CodedRow) → StandsFor query l old → StandsFor query (l ++ added) new)
    → both ≡ rows ++ more → AreGroupsOfShards query (shards + 1) both new
few-more query shards rows more both old new other stands are adds is =
    let few = stands.few in
    let limit = are.few in
    let long = ap (λ (l : List CodedRow). length l) is ∙ length-append rows more in
    record {
      stands = subst (λ (l : List CodedRow). StandsFor query l new) (sym is) (adds more are.stands rows stands.stands);
      few = omega (arith, few, limit, long);
    }

module _ (query : BoundQuery) (outcomes : List JobOutcome) (all : ℕ) (rest : List JobAnswer) (old new : Change) where
  merged-more : (said : JobAnswer) (outcome : JobOutcome) (front back : List JobOutcome) → StandsForCompared query said outcome
      → AddsChange query said old new → outcomes ≡ front ++ outcome ∷ back → HoldInTurn (StandsForCompared query) rest back
      → list_any is_refusal front ≡ false → AreGroupsOfShards query (length front) (rows_come front) old.came.groups
      → AreGroupsOfShards query (length front) (rows_gone front) old.went.groups → length front + suc (length rest) ≡ all
      → MergedPart query rest new all outcomes
  merged-more (reply.Shard (answer.Changed change)) (Compared came went) front back are adds split hold none first second long =
      let longer = one-longer front (Compared came went) in
      record {
        front = front ++ Compared came went ∷ [];
        back = back;
        split = split ∙ sym (append_assoc front (Compared came went ∷ []) back);
        rest = hold;
        none = none-last front (Compared came went) none refl;
        came = subst (λ (n : ℕ). AreGroupsOfShards query n (rows_come (front ++ Compared came went ∷ [])) new.came.groups) (sym longer)
            (few-more query (length front) (rows_come front) came (rows_come (front ++ Compared came went ∷ [])) old.came.groups new.came.groups
            change.came.groups first are.0 adds.0 (come-last front (Compared came went)));
        went = subst (λ (n : ℕ). AreGroupsOfShards query n (rows_gone (front ++ Compared came went ∷ [])) new.went.groups) (sym longer)
            (few-more query (length front) (rows_gone front) went (rows_gone (front ++ Compared came went ∷ [])) old.went.groups new.went.groups
            change.went.groups second are.1 adds.1 (gone-last front (Compared came went)));
        long = omega (arith, long, longer);
      }
  merged-more (reply.Shard (answer.Changed change)) outcome front back are adds split hold none first second long = absurd are
  merged-more said outcome front back are adds split hold none first second long = absurd adds

  merged-first : (said : JobAnswer) (back : List JobOutcome) → AddsChange query said old new → (p : MergedPart query (said ∷ rest) old all outcomes)
      → outcomes ≡ p.front ++ back → HoldInTurn (StandsForCompared query) (said ∷ rest) back → MergedPart query rest new all outcomes
  merged-first said [] adds p split hold = absurd hold
  merged-first said (outcome ∷ back) adds p split hold =
      merged-more said outcome p.front back hold.0 adds split hold.1 p.none p.came p.went p.long

pub merged-next : (query : BoundQuery) (answers left : List JobAnswer) (said : JobAnswer) (old new : Change)
    → MergedSoFar query answers left old → 1 ≤ length left → said ≡ get_or left 0 said → AddsChange query said old new
    → MergedSoFar query answers (others left) new
merged-next query answers left said old new merged some is adds = record {
  part = λ outcomes stand.
      let p =
      subst (λ (l : List JobAnswer). MergedPart query l old (length answers) outcomes) (cut-first left said some is) (merged.part outcomes stand)
      in
      merged-first query outcomes (length answers) (others left) old new said p.back adds p p.split p.rest;
}

-- All are.

merged-whole : (query : BoundQuery) (whole : Change) (outcomes front back : List JobOutcome) → outcomes ≡ front ++ back
    → HoldInTurn (StandsForCompared query) [] back → list_any is_refusal front ≡ false
    → AreGroupsOfShards query (length front) (rows_come front) whole.came.groups → AreGroupsOfShards query (length front) (rows_gone front) whole.went.groups
    → AreMergedChanges query whole outcomes
merged-whole query whole outcomes front [] split hold none came went =
    subst (λ (l : List JobOutcome). AreMergedChanges query whole l) (sym (split ∙ append-nil front)) (record {
      none = none;
      came = came;
      went = went;
    })
merged-whole query whole outcomes front (x ∷ back) split hold none came went = absurd hold

pub merged-all : (query : BoundQuery) (answers left : List JobAnswer) (whole : Change) → MergedSoFar query answers left whole
    → length left < 1 → MergeAllChanges query answers whole
merged-all query answers left whole merged none outcomes stand =
    let is = no-others left none in
    let p = merged.part outcomes stand in
    merged-whole query whole outcomes p.front p.back p.split
    (subst (λ (l : List JobAnswer). HoldInTurn (StandsForCompared query) l p.back) is p.rest) p.none p.came p.went
