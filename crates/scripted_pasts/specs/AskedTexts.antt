-- The texts for whose codes sessions of the core ask the names.
-- Source: Cubrick (VLDB 2016), dictionary encoding of text dimensions; the rest is this project's own.
use Rattle.std.specs.Prelude.{◌≡◌, ◌⊎◌, ℕ, List, Contains}
use Rattle.core_events.specs.Clients.{calls_of}
use Rattle.core_events.specs.Events.{Opening, IsSession, Encode, ClientCall, OnNames, CoreEvent}

-- A call asks for the code of a text in a dimension of a cube, and is told it.
abbrev pub AsksForText : ℕ → ℕ → List ℕ → ClientCall → Type 0
AsksForText cube dim text (OnNames (Encode c d name code)) = (c ≡ cube) × (d ≡ dim) × (name ≡ text)
AsksForText cube dim text call = ⊥

-- One of these calls does.
pub record IsAskedForBy (calls : List ClientCall) (cube dim : ℕ) (text : List ℕ) : Type 0 where
  pub call : ClientCall
  pub among : Contains calls call
  pub asks : AsksForText cube dim text call

-- From the calls before to those after none asks for a text for which one before does not, but for such.
abbrev pub AsksOnly : (ℕ → ℕ → List ℕ → Type 0) → ℕ → Opening → List ClientCall → List ClientCall → Type 0
AsksOnly IsText session o before after = (cube dim : ℕ) (text : List ℕ)
    → IsAskedForBy after cube dim text → IsAskedForBy before cube dim text ⊎ IsText cube dim text

-- A call of a session of the run does.
pub record IsAskedForIn (o : Opening) (es : List CoreEvent) (cube dim : ℕ) (text : List ℕ) : Type 0 where
  pub session : ℕ
  pub is_session : IsSession o session
  pub asked : IsAskedForBy (calls_of session es) cube dim text
