-- The flusher opens, fills and closes its round.
use Rattle.std.proofs.Common.{◌≡◌, ◌∙◌, ◌⊎◌, ℕ, ◌+◌, ◌<◌, ◌≤◌, ◌&&◌, ◌||◌, Bool, true, false, not, max, List, [], ◌∷◌, length, Option, Some, None, IsSomeAnd, IfSome, refl, sym, ap, subst, arith, true≢false}
use Rattle.std.proofs.Math.Bool.{or-false}
use Rattle.std.proofs.lemmas.Bool.{and_parts, or_right}
use Rattle.cube_journal.specs.declared.counters.Counters.{Counters}
use Rattle.cube_language.specs.declared.decl.Decl.{Decl}
use Rattle.aosi_desk.specs.declared.answer.RoundAnswer.TheVariants.{Target, Nothing}
use Rattle.aosi_desk.specs.declared.answer.RoundEnd.{RoundEnd}
use Rattle.core_cells.specs.declared.desk.DeskAnswer.{DeskAnswer}
use Rattle.core_cells.specs.declared.desk.DeskAnswer.TheVariants as answer
use Rattle.core_cells.specs.declared.desk.DeskCall.TheVariants as call
use Rattle.core_cells.specs.declared.names.NamesAnswer.{NamesAnswer}
use Rattle.core_cells.specs.declared.names.NamesAnswer.TheVariants as told
use Rattle.core_cells.specs.declared.names.NamesCall.{NamesCall}
use Rattle.core_cells.specs.declared.names.NamesCall.TheVariants as names
use Rattle.core_events.specs.Clients.{OwnRound, ClientState, greater_where, is_lost_to_disk, names_after_call, opening_client, round_with_cubes}
use Rattle.core_events.specs.Events.{Opening, CopyFrom, flusher}
use Rattle.core_events.specs.Fitting.{FitsCall, HasCopies, MayCopy}
use Rattle.core_events.specs.Groups.{Copies, JobGroup, has_all_below, has_ended, has_refusal, is_complete, is_empty, is_ready, is_spoiled, mails_of, no_group}
use Rattle.core_events.specs.Jobs.{CopyRound}
use Rattle.cube_core.specs.DeskEvents.{FitsDeskCall, desk_event}
use Rattle.cube_core.specs.NamesEvents.{FitsNamesCall, names_event}
use Rattle.cube_core.specs.GroupEnds.{HasAllAnswers, MayBeginBy}
use Rattle.cube_core.specs.HoldStates.{ComesTo, after_desk_call}
use Rattle.cube_core.proofs.Snapshots.{same-number}
use Rattle.flusher_rounds.specs.RoundStates.{HasCopiedCubes, HasCopiedRows, HasLostStore, HasNoRound, HasRound, HasRoundCopies, IsBetweenRounds, IsInRound, LacksRows, after_names_call, round_up_to}

-- It opens.

pub begins : (o : Opening) → HasNoRound o (opening_client o)
begins o = record { none = refl; store = refl; ready = refl }

open-fits : (o : Opening) (k : ClientState) → HasNoRound o k → (said : DeskAnswer)
    → FitsCall o (flusher o) (desk_event (flusher o) k call.RoundOpen said) k
open-fits o k has (answer.Round asked) =
    record { flusher = refl; none = has.none; store = has.store; ready = has.ready }
open-fits o k has said = tt

pub may-ask : (o : Opening) (k : ClientState) → HasNoRound o k → FitsDeskCall o (flusher o) call.RoundOpen k
may-ask o k has = record { number = tt; event = open-fits o k has }

pub opened : (o : Opening) (from epoch : ℕ) (k : ClientState) → HasNoRound o k
    → ComesTo o (flusher o) call.RoundOpen (answer.Round (Target from epoch)) k
    (record k {
      group = no_group;
      lse = max k.lse from;
      shown = from ∷ k.shown;
      round = Some (round_up_to from epoch false);
    }) (HasRound o from epoch)
opened o from epoch k has = record {
  stands = record { within = record { round = refl; store = has.store; fetched = refl }; ready = refl };
  knows = refl;
}

pub nothing : (o : Opening) (epoch : ℕ) (k : ClientState) → HasNoRound o k
    → ComesTo o (flusher o) call.RoundOpen (answer.Round (Nothing epoch)) k
    (record k { group = no_group; lse = max k.lse epoch; shown = epoch ∷ k.shown }) (HasNoRound o)
nothing o epoch k has = record {
  stands = record { none = refl; store = has.store; ready = refl };
  knows = λ i. record k {
    group = no_group;
    lse = max k.lse epoch;
    shown = epoch ∷ k.shown;
    round = sym has.none i;
  };
}

pub no-more : (o : Opening) (k : ClientState) → HasLostStore o k → FitsDeskCall o (flusher o) call.RoundOpen k → ⊥
no-more o k has fits =
    let none-lost = (fits.event (answer.Round (Nothing 0))).store in
    true≢false (sym has.store ∙ none-lost)

-- It copies rows.

pub may-copy : (o : Opening) (mail from epoch start : ℕ) (k : ClientState) → HasRound o from epoch k
    → (start ≡ from) ⊎ (start ≡ 0) → MayBeginBy o (flusher o) mail (CopyRound start epoch) k
may-copy o mail from epoch start k has from-there = record {
  ended = (and_parts (has_ended o.shards k.group)
      (not (is_spoiled k.group.kind (has_refusal k.group.answers))) has.ready).0;
  begins = has.ready;
  bears = λ g. (
    refl,
    subst (λ (r : Option OwnRound). IsSomeAnd r (MayCopy start epoch)) (sym has.within.round)
        (record { ends = refl; begins = from-there; first = refl }),
  );
}

within-copies : (shards from epoch start : ℕ) (k : ClientState) (g : JobGroup) → IsInRound from epoch false k
    → HasAllAnswers shards (Copies start epoch) g → IsInRound from epoch false (record k { group = g })
within-copies shards from epoch start k g within all =
    record { round = within.round; store = within.store; fetched = ap is_empty all.fetched.none_out }

copies-ready : (shards epoch start : ℕ) (g : JobGroup) → HasAllAnswers shards (Copies start epoch) g
    → is_ready shards g ≡ true
copies-ready shards epoch start g all =
    (λ i. (is_empty (all.fetched.none_out i)
    && is_complete shards (all.fetched.kind_is i) (has_refusal g.answers) (mails_of g.answers))
    && not (is_spoiled (all.fetched.kind_is i) (has_refusal g.answers)))
    ∙ ap (λ (b : Bool). b && true)
    (or_right (has_refusal g.answers) (has_all_below shards (mails_of g.answers)) all.all)

pub copied : (o : Opening) (from epoch start : ℕ) (k : ClientState) (g : JobGroup) → HasRound o from epoch k
    → HasAllAnswers o.shards (Copies start epoch) g → has_refusal g.answers ≡ false
    → HasCopiedRows o from epoch start (record k { group = g })
copied o from epoch start k g has all none = record {
  within = within-copies o.shards from epoch start k g has.within all;
  copied = record {
    copies = all.fetched.kind_is;
    done = record { all = all.all; fetched = ap is_empty all.fetched.none_out; none = none };
  };
}

pub refused : (o : Opening) (from epoch start : ℕ) (k : ClientState) (g : JobGroup) → HasRound o from epoch k
    → HasAllAnswers o.shards (Copies start epoch) g → has_refusal g.answers ≡ true
    → LacksRows o from epoch (record k { group = g })
refused o from epoch start k g has all some = record {
  has = record {
    within = within-copies o.shards from epoch start k g has.within all;
    ready = copies-ready o.shards epoch start g all;
  };
  refused = some;
}

-- It copies cubes and names.

list-fits : (o : Opening) (from epoch start place : ℕ) (has_cubes : Bool) (k : ClientState)
    → HasRoundCopies o from epoch start has_cubes k → place ≤ k.cubes → (said : DeskAnswer)
    → FitsCall o (flusher o) (desk_event (flusher o) k (call.CubesFrom place) said) k
list-fits o from epoch start place has_cubes k has there (answer.Cubes cubes) = (
  there,
  subst (λ (r : Option OwnRound). IfSome r (HasCopies o.shards k.group)) (sym has.within.round)
      (record { from = start; copies = has.copied.copies; done = has.copied.done }),
)
list-fits o from epoch start place has_cubes k has there said = tt

pub may-list : (o : Opening) (from epoch start place : ℕ) (has_cubes : Bool) (k : ClientState)
    → HasRoundCopies o from epoch start has_cubes k → place ≤ k.cubes
    → FitsDeskCall o (flusher o) (call.CubesFrom place) k
may-list o from epoch start place has_cubes k has there =
    record { number = tt; event = list-fits o from epoch start place has_cubes k has there }

pub listed : (o : Opening) (from epoch start place : ℕ) (has_cubes : Bool) (cubes : List Decl) (k : ClientState)
    → HasRoundCopies o from epoch start has_cubes k
    → ComesTo o (flusher o) (call.CubesFrom place) (answer.Cubes cubes) k
    (record k { round = Some (round_up_to from epoch true); cubes = max k.cubes (place + length cubes) })
    (HasCopiedCubes o from epoch start)
listed o from epoch start place has_cubes cubes k has =
    let now = ap round_with_cubes has.within.round in
    record {
      stands = record {
        within = record { round = now; store = has.within.store; fetched = has.within.fetched };
        copied = record { copies = has.copied.copies; done = has.copied.done };
      };
      knows = λ i. record k { round = now i; cubes = max k.cubes (place + length cubes) };
    }

pub lacking : (o : Opening) (from epoch place : ℕ) (k : ClientState) → LacksRows o from epoch k
    → FitsDeskCall o (flusher o) (call.CubesFrom place) k → ⊥
lacking o from epoch place k lacks fits =
    let copies = subst (λ (r : Option OwnRound). IfSome r (HasCopies o.shards k.group)) lacks.has.within.round
    (fits.event (answer.Cubes [])).1 in
    true≢false (sym lacks.refused ∙ copies.done.none)

name-fits : (o : Opening) (from epoch start cube dim number : ℕ) (k : ClientState)
    → HasCopiedCubes o from epoch start k → cube < k.cubes → number ≤ k.names cube dim → (said : NamesAnswer)
    → FitsCall o (flusher o) (names_event (names.CopyFrom cube dim number) said) k
name-fits o from epoch start cube dim number k has there begins (told.Copied copied) = record {
  there = there;
  begins = begins;
  after = subst (λ (r : Option OwnRound). IfSome r (λ round. round.has_cubes ≡ true)) (sym has.within.round) refl;
}
name-fits o from epoch start cube dim number k has there begins said = tt

pub may-name : (o : Opening) (from epoch start cube dim number : ℕ) (k : ClientState)
    → HasCopiedCubes o from epoch start k → cube < k.cubes → number ≤ k.names cube dim
    → FitsNamesCall o (flusher o) (names.CopyFrom cube dim number) k
may-name o from epoch start cube dim number k has there begins =
    record { shape = tt; event = name-fits o from epoch start cube dim number k has there begins }

pub named : (o : Opening) (from epoch start cube dim number : ℕ) (more : List (List ℕ)) (k : ClientState)
    → HasCopiedCubes o from epoch start k
    → HasCopiedCubes o from epoch start (after_names_call o (names.CopyFrom cube dim number) (told.Copied more) k)
named o from epoch start cube dim number more k has = record {
  within = record { round = has.within.round; store = has.within.store; fetched = has.within.fetched };
  copied = record { copies = has.copied.copies; done = has.copied.done };
}

pub knows-names : (o : Opening) (cube dim number : ℕ) (more : List (List ℕ)) (k : ClientState)
    → after_names_call o (names.CopyFrom cube dim number) (told.Copied more) k
    ≡ record k { names = names_after_call (CopyFrom cube dim number more) k.names }
knows-names o cube dim number more k = refl

pub names-told : (o : Opening) (cube dim number : ℕ) (more : List (List ℕ)) (k : ClientState)
    → number + length more
    ≤ (after_names_call o (names.CopyFrom cube dim number) (told.Copied more) k).names cube dim
names-told o cube dim number more k =
    coe 1 0
    (i. number + length more
    ≤ greater_where (same-number cube i && same-number dim i) (Some (number + length more)) (k.names cube dim))
    (most (k.names cube dim) (number + length more))
  where
    most : (n m : ℕ) → m ≤ max n m
    most n m = omega arith

pub no-names : (o : Opening) (c : NamesCall) (k : ClientState) → after_names_call o c told.NoMemory k ≡ k
no-names o (names.Encode cube dim shape name) k = refl
no-names o (names.Find cube dim name) k = refl
no-names o (names.CopyFrom cube dim from) k = refl

-- It closes.

close-fits : (o : Opening) (from epoch : ℕ) (has_cubes : Bool) (end : RoundEnd) (k : ClientState)
    → IsInRound from epoch has_cubes k → (said : DeskAnswer)
    → FitsCall o (flusher o) (desk_event (flusher o) k (call.RoundClose epoch end) said) k
close-fits o from epoch has_cubes end k within answer.Done = record {
  flusher = refl;
  round = subst (λ (r : Option OwnRound). IsSomeAnd r (λ r. r.epoch ≡ epoch)) (sym within.round) refl;
  fetched = within.fetched;
}
close-fits o from epoch has_cubes end k within said = tt

pub may-close : (o : Opening) (from epoch : ℕ) (has_cubes : Bool) (end : RoundEnd) (k : ClientState)
    → IsInRound from epoch has_cubes k → FitsDeskCall o (flusher o) (call.RoundClose epoch end) k
may-close o from epoch has_cubes end k within =
    record { number = tt; event = close-fits o from epoch has_cubes end k within }

pub closed : (o : Opening) (from epoch : ℕ) (has_cubes : Bool) (end : RoundEnd) (k : ClientState)
    → IsInRound from epoch has_cubes k
    → ComesTo o (flusher o) (call.RoundClose epoch end) answer.Done k
    (record k { group = no_group; round = None; store_lost = is_lost_to_disk end })
    (IsBetweenRounds o (is_lost_to_disk end))
closed o from epoch has_cubes end k within =
    let lost = ap (λ (b : Bool). is_lost_to_disk end || b) within.store ∙ or-false (is_lost_to_disk end) in
    record {
      stands = record { none = refl; store = lost; ready = refl };
      knows = λ i. record k { group = no_group; round = None; store_lost = lost i };
    }

-- It looks.

pub counted : (o : Opening) (lost : Bool) (now : Counters) (k : ClientState) → IsBetweenRounds o lost k
    → ComesTo o (flusher o) call.Counters (answer.Counted now) k
    (record k { lse = max k.lse now.lse; shown = now.lse ∷ k.shown }) (IsBetweenRounds o lost)
counted o lost now k has =
    record { stands = record { none = has.none; store = has.store; ready = has.ready }; knows = refl }

failed-fits : (o : Opening) (k : ClientState) (said : DeskAnswer)
    → FitsCall o (flusher o) (desk_event (flusher o) k call.StoreFailed said) k
failed-fits o k (answer.Failed failed) = refl
failed-fits o k said = tt

pub may-ask-failed : (o : Opening) (k : ClientState) → FitsDeskCall o (flusher o) call.StoreFailed k
may-ask-failed o k = record { number = tt; event = failed-fits o k }

pub asked-failed : (o : Opening) (failed : Bool) (k : ClientState)
    → after_desk_call o (flusher o) call.StoreFailed (answer.Failed failed) k ≡ k
asked-failed o failed k = refl
