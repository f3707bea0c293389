-- The fetches of some shards' answers, by a client's own calls.
use Rattle.std.proofs.Common.{◌≡◌, ◌∙◌, ℕ, ◌+◌, nat_eq, List, [], ◌∷◌, ◌++◌, append_assoc, append-nil, length, replicate, slice_get, Some, refl, sym, ap, subst, arith}
use Rattle.std.specs.List.{IsDistinct}
use Rattle.mail_cell.specs.declared.answer.Fetched.TheVariants.{Got, NotYet}
use Rattle.core_program.specs.ClientCalls.{HasFetched, LearnsByFetch, ask_entry}
use Rattle.cube_core.specs.Links.{AreEventsOf}
use Rattle.cube_core.specs.BoardCells.{IsEntryEvent}
use Rattle.core_program.specs.Knowing.{IsLaterRun, Knows, MayFetchFrom}
use Rattle.core_program.proofs.KnownCalls.{earlier-run}
use Rattle.core_events.specs.Events.{Opening, CoreEvent}
use Rattle.core_events.specs.Jobs.{CoreJob, JobOutcome}
use Rattle.core_events.specs.ShardView.{ShardView}
use Rattle.core_program.specs.CoreFits.{CoreEntry}
use Rattle.cube_core.specs.declared.cell.CoreCell.{CoreCell}
use Rattle.cube_core.specs.declared.jobs.JobAnswer.{JobAnswer}
use Rattle.cube_core.specs.declared.shard.ShardAnswer.{ShardAnswer}
use Rattle.cube_core.specs.declared.shard.ShardCall.{ShardCall}
use Rattle.job_groups.proofs.FetchSteps.{IsFetchedFrom, all-fetched-from, awaits-posted, both-parts, may-fetch-from, next-fetched-from, none-fetched-from}
use Rattle.job_groups.specs.AskedEach.{HasMore}
use Rattle.job_groups.specs.AskedSome.{LearnsOfSome}
use Rattle.job_groups.specs.PostedSome.{AwaitsSome, LearnsOfFetches, LearnsOfPosts}

one-answer : (answers : List JobAnswer) (said : JobAnswer) → length (answers ++ said ∷ []) ≡ length answers + 1
one-answer [] said = refl
one-answer (a ∷ answers) said = let rest = one-answer answers said in omega (arith, rest)

pub more-both : (own mid now : List CoreEntry) → HasMore own mid → HasMore mid now → HasMore own now
more-both own mid now one two = record {
  more = one.more ++ two.more;
  whole = two.whole ∙ ap (λ (l : List CoreEntry). l ++ two.more) one.whole ∙ append_assoc own one.more two.more;
}

module _ {S : Type 0} (fits : Opening → ℕ → ShardCall → Type 0) (stands : Opening → ℕ → ℕ → S → ShardView → Type 0)
    (says : CoreJob → ShardAnswer → JobOutcome → Type 0) (cells : List (CoreCell S)) (caller client : ℕ)
    (numbers : List ℕ) where
  abbrev Of : Opening → List CoreEntry → List CoreEvent → Type 0
  Of o entries es = AreEventsOf (IsEntryEvent fits stands says o) entries es

  abbrev Later : Opening → List CoreEntry → List CoreEntry → List CoreEvent → Type 0
  Later o now log run = IsLaterRun fits stands says cells o caller now log run

  pub earlier : (o : Opening) (first now log : List CoreEntry) (run : List CoreEvent) → HasMore first now
      → Later o now log run → Later o first log run
  earlier o first now log run more later =
      earlier-run fits stands says cells o caller first more.more log run
      (subst (λ (l : List CoreEntry). Later o l log run) more.whole later)

  module _ (own : List CoreEntry) where
    pub record FetchedFrom (n : ℕ) (answers : List JobAnswer) (now : List CoreEntry) : Type 0 where
      pub answered : length answers ≡ n
      pub more : HasMore own now
      pub learns : (o : Opening) (log : List CoreEntry) (run es : List CoreEvent) → Later o now log run → Of o now es
          → IsFetchedFrom fits stands says o client numbers own n answers es

    pub fetched-from-none : (answers : List JobAnswer) → answers ≡ []
        → Knows fits stands says cells caller client own (AwaitsSome client numbers) → FetchedFrom 0 answers own
    fetched-from-none answers none awaits =
        subst (λ (l : List JobAnswer). FetchedFrom 0 l own) (sym none)
        (record {
          answered = refl;
          more = record { more = []; whole = sym (append-nil own) };
          learns = λ o log run es later are.
              none-fetched-from fits stands says o client numbers own es are (awaits o log run es later are);
        })

    pub knows-fetch-from : (n number : ℕ) (answers : List JobAnswer) (now : List CoreEntry) → FetchedFrom n answers now
        → slice_get numbers n ≡ Some number
        → Knows fits stands says cells caller client now (MayFetchFrom client number)
    knows-fetch-from n number answers now fetched at o log run es later are =
        may-fetch-from fits stands says o client numbers own n number answers es (fetched.learns o log run es later are) at

    pub fetched-from-next : (distinct : IsDistinct nat_eq numbers) (n number cell : ℕ) (answers : List JobAnswer)
        (now next : List CoreEntry) (said : JobAnswer) → FetchedFrom n answers now → slice_get numbers n ≡ Some number
        → HasFetched caller client cell said now next
        → LearnsByFetch fits stands says cells client number said now next
        → FetchedFrom (n + 1) (answers ++ said ∷ []) next
    fetched-from-next distinct n number cell answers now next said fetched at got goes =
        let asks = replicate got.waits (ask_entry caller client cell NotYet) in
        let last : HasMore now next = record {
          more = asks ++ ask_entry caller client cell (Got said) ∷ [];
          whole = got.whole ∙ append_assoc now asks (ask_entry caller client cell (Got said) ∷ []);
        } in
        record {
          answered = one-answer answers said ∙ ap (λ (m : ℕ). m + 1) fetched.answered;
          more = more-both own now next fetched.more last;
          learns = λ o log run es later are.
              let s = goes o log es later.opens are in
              let f = fetched.learns o log run s.before (earlier o now next log run last later) s.events in
              next-fetched-from fits stands says o client numbers own distinct n number answers es s.before said s.waits
              s.job s.outcome f fetched.answered at s.asked s.stands_for s.whole s.calls;
        }

    pub learns-of-fetches : (n : ℕ) (answers : List JobAnswer) (now : List CoreEntry) → n ≡ length numbers
        → FetchedFrom n answers now
        → LearnsOfFetches fits stands says cells caller client numbers answers own now
    learns-of-fetches n answers now all fetched o log run es later are =
        all-fetched-from fits stands says o client numbers own n answers es all (fetched.learns o log run es later are)

    -- After posts the client waits for their answers,
    pub knows-awaits : (calls : List ShardCall) (now : List CoreEntry)
        → LearnsOfPosts fits stands says cells caller client numbers calls own now
        → Knows fits stands says cells caller client now (AwaitsSome client numbers)
    knows-awaits calls now posted o log run es later are =
        awaits-posted fits stands says o client numbers calls own es (posted o log run es later are)

    -- and with the fetches they are a group with all its answers.
    pub learns-of-both : (calls : List ShardCall) (answers : List JobAnswer) (mid now : List CoreEntry)
        → length calls ≡ length numbers → HasMore mid now
        → LearnsOfPosts fits stands says cells caller client numbers calls own mid
        → LearnsOfFetches fits stands says cells caller client numbers answers mid now
        → LearnsOfSome fits stands says cells caller client numbers calls answers own now
    learns-of-both calls answers mid now each more posted fetched o log run es later are =
        let f = fetched o log run es later are in
        both-parts fits stands says o client numbers calls answers own mid es each f
        (posted o log run f.before (earlier o mid now log run more later) f.events)
