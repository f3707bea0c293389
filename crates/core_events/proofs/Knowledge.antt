-- What a client knows is read off its own calls.
use Rattle.std.proofs.Common.{◌≡◌, ℕ, ◌==◌, Bool, true, false, List, [], ◌∷◌, if◌then◌else◌, refl, ap}
use Rattle.core_events.specs.Events.{Opening, ClientCall, CoreEvent, By, At}
use Rattle.core_events.specs.Clients.{ClientState, client_state, client_after_call, after_client_call, calls_of, state_from_calls}

known-step : (o : Opening) (own : Bool) (a : ℕ) (call : ClientCall) (k : ClientState) (calls : List ClientCall)
    → k ≡ state_from_calls o a calls
    → client_after_call o own a call k ≡ state_from_calls o a (if own then call ∷ calls else calls)
known-step o true a call k calls same = ap (after_client_call o a call) same
known-step o false a call k calls same = same

pub known-by-calls : (o : Opening) (a : ℕ) (es : List CoreEvent)
    → client_state o a es ≡ state_from_calls o a (calls_of a es)
known-by-calls o a [] = refl
known-by-calls o a (By b call ∷ es) =
    known-step o (b == a) a call (client_state o a es) (calls_of a es) (known-by-calls o a es)
known-by-calls o a (At mail move ∷ es) = known-by-calls o a es
