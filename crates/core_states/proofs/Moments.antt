-- The moment of a run at which a client had made its calls so far.
use Rattle.std.proofs.Common.{◌≡◌, ℕ, ◌==◌, Bool, true, false, true≢false, List, [], ◌∷◌, ◌++◌, refl, sym, ap, if◌then◌else◌}
use Rattle.core_events.specs.Clients.{calls_of}
use Rattle.core_events.specs.Events.{ClientCall, CoreEvent, By, At}

-- The events by then, where a client's calls so far were these.
pub record Moment (run : List CoreEvent) (client : ℕ) (calls : List ClientCall) : Type 0 where
  pub later : List CoreEvent
  pub es : List CoreEvent
  pub whole : run ≡ later ++ es
  pub made : calls ≡ calls_of client es

abbrev is_empty : List ClientCall → Bool
is_empty [] = true
is_empty (c ∷ calls) = false

abbrev rest_of : List ClientCall → List ClientCall
rest_of [] = []
rest_of (c ∷ calls) = calls

-- A moment of a run is one of the run with an event more.
after-event : (e : CoreEvent) (run : List CoreEvent) (client : ℕ) (calls : List ClientCall) → Moment run client calls
    → Moment (e ∷ run) client calls
after-event e run client calls m = record {
  later = e ∷ m.later;
  es = m.es;
  whole = ap (λ (l : List CoreEvent). e ∷ l) m.whole;
  made = m.made;
}

by-call : (own : Bool) (b : ℕ) (call : ClientCall) (client : ℕ) (run : List CoreEvent) (c : ClientCall)
    (later calls : List ClientCall)
    → (if own then call ∷ calls_of client run else calls_of client run) ≡ c ∷ (later ++ calls)
    → (calls_of client run ≡ later ++ calls → Moment run client calls)
    → (calls_of client run ≡ c ∷ (later ++ calls) → Moment run client calls) → Moment run client calls
by-call true b call client run c later calls is here behind = here (ap rest_of is)
by-call false b call client run c later calls is here behind = behind is

pub moment-of : (client : ℕ) (run : List CoreEvent) (later calls : List ClientCall)
    → calls_of client run ≡ later ++ calls → Moment run client calls
moment-of client run [] calls is = record { later = []; es = run; whole = refl; made = sym is }
moment-of client [] (c ∷ later) calls is = absurd (true≢false (ap is_empty is))
moment-of client (By b call ∷ run) (c ∷ later) calls is =
    after-event (By b call) run client calls
    (by-call (b == client) b call client run c later calls is (λ here. moment-of client run later calls here)
    (λ behind. moment-of client run (c ∷ later) calls behind))
moment-of client (At mail move ∷ run) (c ∷ later) calls is =
    after-event (At mail move) run client calls (moment-of client run (c ∷ later) calls is)
