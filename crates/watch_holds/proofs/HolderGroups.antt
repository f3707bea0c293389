-- A session asks its shards by a leading reader, and between two readers.
use Rattle.std.proofs.Common.{◌≡◌, ◌∙◌, ℕ, Bool, true, not, ◌&&◌, [], ◌∷◌, map, Option, Some, IsSomeAnd, inr, ap, sym, subst}
use Rattle.std.proofs.lemmas.Bool.{or_right}
use Rattle.cube_values.specs.declared.query.BoundQuery.{BoundQuery}
use Rattle.cube_values.specs.declared.snapshot.Snapshot.{Snapshot}
use Rattle.core_events.specs.Clients.{Holding, ClientState, held_under, reader_up_to}
use Rattle.core_events.specs.Events.{Opening, IsSession}
use Rattle.core_events.specs.Fitting.{IsQueryOf}
use Rattle.core_events.specs.Groups.{Compares, JobGroup, has_all_below, has_refusal, is_complete, is_empty, is_ready, is_spoiled, mails_of}
use Rattle.core_events.specs.Jobs.{Delta, Scan}
use Rattle.cube_core.specs.GroupEnds.{HasAllAnswers, MayBeginBy}
use Rattle.cube_core.specs.HoldStates.{IsReadyWith}
use Rattle.cube_core.proofs.Groups.{in-group, ready-ended}
use Rattle.watch_holds.specs.HolderStates.{HasReaders, LeadingReader, TwoReaders, reader_under}
use Rattle.watch_holds.proofs.OtherHolds.{held-first, held-in-others, not-own}

pub may-scan : (o : Opening) (a mail number epoch : ℕ) (query : BoundQuery) (own : Option Snapshot) (k : ClientState)
    → IsSession o a → IsReadyWith o a own k → HasReaders a (LeadingReader number epoch) k → IsQueryOf o query k
    → MayBeginBy o a mail (Scan query (reader_up_to epoch)) k
may-scan o a mail number epoch query own k session r h sound =
    let held = held-in-others a number k.holds (reader_under number epoch ∷ []) (not-own a number h.0.holder) h.0.others
    ∙ held-first number epoch []
    in
    record {
      ended = ready-ended o.shards k.group r.ready;
      begins = r.ready;
      bears = λ g. record {
        session = session;
        sound = record { there = sound.there; sound = sound.sound };
        held = inr (subst (λ (leader : Option ℕ).
            IsSomeAnd leader (λ holder. held_under holder k.holds ≡ Some (reader_up_to epoch))) (sym h.1) held);
      };
    }

pub may-compare : (o : Opening) (a mail older from newer to : ℕ) (query : BoundQuery) (own : Option Snapshot)
    (k : ClientState) → IsSession o a → IsReadyWith o a own k → HasReaders a (TwoReaders older from newer to) k
    → IsQueryOf o query k → MayBeginBy o a mail (Delta query from to) k
may-compare o a mail older from newer to query own k session r h sound = record {
  ended = ready-ended o.shards k.group r.ready;
  begins = r.ready;
  bears = λ g. record {
    session = session;
    sound = record { there = sound.there; sound = sound.sound };
    readers = ap (map (λ (x : Holding). x.snapshot.epoch)) h.others;
  };
}

compare-ready : (shards : ℕ) (query : BoundQuery) (from to : ℕ) (g : JobGroup)
    → HasAllAnswers shards (Compares query from to) g → is_ready shards g ≡ true
compare-ready shards query from to g all =
    (λ i. (is_empty (all.fetched.none_out i)
    && is_complete shards (all.fetched.kind_is i) (has_refusal g.answers) (mails_of g.answers))
    && not (is_spoiled (all.fetched.kind_is i) (has_refusal g.answers)))
    ∙ ap (λ (b : Bool). b && true) (or_right (has_refusal g.answers) (has_all_below shards (mails_of g.answers)) all.all)

pub compared : (o : Opening) (a from to : ℕ) (query : BoundQuery) (own : Option Snapshot) (k : ClientState)
    (g : JobGroup) → IsReadyWith o a own k → HasAllAnswers o.shards (Compares query from to) g
    → IsReadyWith o a own (record k { group = g })
compared o a from to query own k g r all =
    record { holds = in-group a own k g r.holds; ready = compare-ready o.shards query from to g all }
