-- A worker that served, and then served more.
use Rattle.std.proofs.Common.{◌≡◌, ◌∙◌, ℕ, ◌+◌, Bool, true, false, List, [], ◌∷◌, ◌++◌, append_assoc, sym, refl, ap}
use Rattle.std.specs.Prelude.{flat_map, MatchBool}
use Rattle.std.specs.Bool.{OnFalse, OnTrue}
use Rattle.core_program.specs.CoreFits.{CoreEntry}
use Rattle.shard_work.specs.Serving.{HasServed, HasServedAll, HasServedWaiting, Turn, turn_entries}

flat-append : (entries : Turn → List CoreEntry) (first more : List Turn)
    → flat_map entries (first ++ more) ≡ flat_map entries first ++ flat_map entries more
flat-append entries [] more = refl
flat-append entries (turn ∷ first) more =
    ap (λ (l : List CoreEntry). entries turn ++ l) (flat-append entries first more)
    ∙ sym (append_assoc (entries turn) (flat_map entries first) (flat_map entries more))

module _ (caller number cell : ℕ) where
  served-on : (own mid now : List CoreEntry) → HasServed caller number cell own mid → HasServed caller number cell mid now
      → HasServed caller number cell own now
  served-on own mid now first more = let entries = turn_entries caller number cell in record {
    turns = first.turns ++ more.turns;
    whole = more.whole ∙ ap (λ (l : List CoreEntry). l ++ flat_map entries more.turns) first.whole
        ∙ append_assoc own (flat_map entries first.turns) (flat_map entries more.turns)
        ∙ ap (λ (l : List CoreEntry). own ++ l) (sym (flat-append entries first.turns more.turns));
    idle = more.idle;
  }

  -- It has served all where it found the mail closed, and else as far as there was something to do.
  pub served-so : {X : Type 0} (over : Bool) (most : ℕ) (own mid now : List CoreEntry) → X → HasServed caller number cell own mid
      → OnFalse over (HasServedWaiting caller number cell most mid now) → OnTrue over (HasServedAll caller number cell mid now)
      → MatchBool over (HasServedAll caller number cell own now) (X × HasServed caller number cell own now)
  served-so true most own mid now x first some all =
      record { before = all.before; served = served-on own mid all.before first all.served; last = all.last }
  served-so false most own mid now x first some all = (x, served-on own mid now first some.served)
