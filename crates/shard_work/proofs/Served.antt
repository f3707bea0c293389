-- What a worker has in hand after one more call, and after whole turns.
use Rattle.std.proofs.Common.{◌≡◌, ◌∙◌, ◌+◌, ℕ, List, [], ◌∷◌, ◌++◌, length, append_assoc, append-nil, inl, inr, refl, sym, ap}
use Rattle.std.proofs.lemmas.List.{length-append}
use Rattle.std.specs.Prelude.{fold, flat_map}
use Rattle.mail_cell.specs.declared.answer.Taken.{Taken}
use Rattle.mail_cell.specs.declared.answer.Taken.TheVariants.{Job as SomeJob, Empty, Closed}
use Rattle.core_program.specs.CoreFits.{CoreEntry}
use Rattle.core_program.specs.Workers.{JobInHand, NoneInHand, JobTaken, JobDone, with_answer, in_hand_after, in_hand, IsShardWork}
use Rattle.cube_core.specs.declared.jobs.Job.{Job}
use Rattle.cube_core.specs.declared.jobs.Work.TheVariants as work
use Rattle.cube_core.specs.declared.shard.ShardAnswer.{ShardAnswer}
use Rattle.cube_core.specs.declared.shard.ShardCall.{ShardCall}
use Rattle.shard_work.specs.Serving.{Turn, FoundNone, DidJob, take_entry, call_entry, reply_entry, turn_entries, IsForShard, AreJobs, HasDoneJob, HasServed, HasServedWaiting}

abbrev after : JobInHand → CoreEntry → JobInHand
after hand e = in_hand_after e.call e.answer hand

fold-more : (hand : JobInHand) (own : List CoreEntry) (e : CoreEntry) → fold after hand (own ++ e ∷ []) ≡ after (fold after hand own) e
fold-more hand [] e = refl
fold-more hand (f ∷ own) e = fold-more (after hand f) own e

pub in-hand-more : (own : List CoreEntry) (e : CoreEntry) → in_hand (own ++ e ∷ []) ≡ in_hand_after e.call e.answer (in_hand own)
in-hand-more own e = fold-more NoneInHand own e

pub has-taken : (own now : List CoreEntry) (caller cell client : ℕ) (job : Job) → now ≡ own ++ take_entry caller cell (SomeJob client job) ∷ []
    → in_hand now ≡ JobTaken client job
has-taken own now caller cell client job is = ap in_hand is ∙ in-hand-more own (take_entry caller cell (SomeJob client job))

pub for-shard : (own now : List CoreEntry) (caller cell : ℕ) (taken : Taken Job) → now ≡ own ++ take_entry caller cell taken ∷ []
    → ((client : ℕ) (job : Job) → in_hand now ≡ JobTaken client job → IsShardWork job.work) → IsForShard taken
for-shard own now caller cell (SomeJob client job) is calls = calls client job (has-taken own now caller cell client job is)
for-shard own now caller cell Empty is calls = tt
for-shard own now caller cell Closed is calls = tt

pub has-done : (own now : List CoreEntry) (caller number client : ℕ) (job : Job) (c : ShardCall) (a : ShardAnswer)
    → now ≡ own ++ call_entry caller number c a ∷ [] → in_hand own ≡ JobTaken client job → in_hand now ≡ JobDone client job a
has-done own now caller number client job c a is taken =
    ap in_hand is ∙ in-hand-more own (call_entry caller number c a) ∙ ap (with_answer a) taken

flat-more : (entries : Turn → List CoreEntry) (turns : List Turn) (turn : Turn)
    → flat_map entries (turns ++ turn ∷ []) ≡ flat_map entries turns ++ entries turn
flat-more entries [] turn = append-nil (entries turn)
flat-more entries (t ∷ turns) turn =
    ap (λ (l : List CoreEntry). entries t ++ l) (flat-more entries turns turn)
    ∙ sym (append_assoc (entries t) (flat_map entries turns) (entries turn))

jobs-more : (turns : List Turn) (client : ℕ) (job : Job) (c : ShardCall) (a : ShardAnswer) (asks : job.work ≡ work.Shard c)
    → AreJobs turns → AreJobs (turns ++ DidJob client job c a asks ∷ [])
jobs-more [] client job c a asks all = tt
jobs-more (FoundNone ∷ turns) client job c a asks all = absurd all
jobs-more (DidJob k j d b says ∷ turns) client job c a asks all = jobs-more turns client job c a asks all

module _ (caller number cell : ℕ) where
  abbrev one-more : (own now next : List CoreEntry) (turn : Turn) → HasServed caller number cell own now
      → next ≡ now ++ turn_entries caller number cell turn → in_hand next ≡ NoneInHand → HasServed caller number cell own next
  one-more own now next turn served is idle = record {
    turns = served.turns ++ turn ∷ [];
    whole = is
        ∙ ap (λ (l : List CoreEntry). l ++ turn_entries caller number cell turn) served.whole
        ∙ append_assoc own (flat_map (turn_entries caller number cell) served.turns) (turn_entries caller number cell turn)
        ∙ ap (λ (l : List CoreEntry). own ++ l) (sym (flat-more (turn_entries caller number cell) served.turns turn));
    idle = idle;
  }

  -- Of no turn.
  pub served-none : (own : List CoreEntry) → in_hand own ≡ NoneInHand → HasServed caller number cell own own
  served-none own idle = record { turns = []; whole = sym (append-nil own); idle = idle }

  -- Of one that finds nothing.
  pub finds-none : (own now next : List CoreEntry) → HasServed caller number cell own now
      → next ≡ now ++ take_entry caller cell Empty ∷ [] → HasServed caller number cell own next
  finds-none own now next served is =
      one-more own now next FoundNone served is (ap in_hand is ∙ in-hand-more now (take_entry caller cell Empty) ∙ served.idle)

  -- Of one that does a job.
  pub serves-job : (own now between next : List CoreEntry) (client : ℕ) (job : Job) → HasServed caller number cell own now
      → between ≡ now ++ take_entry caller cell (SomeJob client job) ∷ [] → HasDoneJob caller number cell client job between next
      → HasServed caller number cell own next
  serves-job own now between next client job served took did =
      let take = take_entry caller cell (SomeJob client job) in
      let call = call_entry caller number did.asked did.said in
      let reply = reply_entry caller cell client did.said in
      let is : next ≡ now ++ take ∷ call ∷ reply ∷ [] =
      did.whole
      ∙ ap (λ (l : List CoreEntry). (l ++ call ∷ []) ++ reply ∷ []) took
      ∙ append_assoc (now ++ take ∷ []) (call ∷ []) (reply ∷ [])
      ∙ append_assoc now (take ∷ []) (call ∷ reply ∷ [])
      in
      one-more own now next (DidJob client job did.asked did.said did.asks) served is
      (ap in_hand did.whole ∙ in-hand-more (between ++ call ∷ []) reply)

  -- With jobs alone in its turns, so many.
  abbrev pub HasDone : List CoreEntry → List CoreEntry → ℕ → Type 0
  HasDone own now count = (s : HasServed caller number cell own now) × AreJobs s.turns × (length s.turns ≡ count)

  pub done-none : (own : List CoreEntry) → in_hand own ≡ NoneInHand → HasDone own own 0
  done-none own idle = (record { turns = []; whole = sym (append-nil own); idle = idle }, tt, refl)

  pub done-one : (own now between next : List CoreEntry) (count client : ℕ) (job : Job) → HasDone own now count
      → between ≡ now ++ take_entry caller cell (SomeJob client job) ∷ [] → HasDoneJob caller number cell client job between next
      → HasDone own next (count + 1)
  done-one own now between next count client job done took did =
      let take = take_entry caller cell (SomeJob client job) in
      let call = call_entry caller number did.asked did.said in
      let reply = reply_entry caller cell client did.said in
      let turn = DidJob client job did.asked did.said did.asks in
      let is : next ≡ now ++ take ∷ call ∷ reply ∷ [] =
      did.whole
      ∙ ap (λ (l : List CoreEntry). (l ++ call ∷ []) ++ reply ∷ []) took
      ∙ append_assoc (now ++ take ∷ []) (call ∷ []) (reply ∷ [])
      ∙ append_assoc now (take ∷ []) (call ∷ reply ∷ [])
      in (
        one-more own now next turn done.0 is (ap in_hand did.whole ∙ in-hand-more (between ++ call ∷ []) reply),
        jobs-more done.0.turns client job did.asked did.said did.asks done.1,
        length-append done.0.turns (turn ∷ []) ∙ ap (λ n. n + 1) done.2,
      )

  pub done-then-none : (own now next : List CoreEntry) (count most : ℕ) → HasDone own now count
      → next ≡ now ++ take_entry caller cell Empty ∷ [] → HasServedWaiting caller number cell most own next
  done-then-none own now next count most done is = record {
    served = one-more own now next FoundNone done.0 is
        (ap in_hand is ∙ in-hand-more now (take_entry caller cell Empty) ∙ done.0.idle);
    jobs = done.0.turns;
    are_jobs = done.1;
    ends = inl refl;
  }

  pub done-most : (own now : List CoreEntry) (most : ℕ) → HasDone own now most → HasServedWaiting caller number cell most own now
  done-most own now most done =
      record { served = done.0; jobs = done.0.turns; are_jobs = done.1; ends = inr (refl, done.2) }
