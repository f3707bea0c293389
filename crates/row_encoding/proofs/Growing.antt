-- Dictionaries that grow in steps.
use Rattle.std.proofs.Common.{ℕ, List, inl, inr}
use Rattle.cube_language.specs.declared.decl.Decl.{Decl}
use Rattle.row_encoding.specs.FinalCodes.{CarriesOn, Grow}

pub grow_none : {S : Type 0} {may_end : S → List (List (List (List ℕ))) → Type 0} {suits : S → ℕ → Decl → Type 0} {has_name : S → ℕ → ℕ → List ℕ → Type 0}
    {keeps : S → S → Type 0} {has_given : S → ℕ → ℕ → ℕ → Type 0} {place : ℕ} {d : Decl} {Given : ℕ → List ℕ → Type 0} {now : S}
    → CarriesOn keeps has_given → suits now place d → Grow may_end suits has_name keeps place d Given now now
grow_none {now = now} on suit = record {
  later = λ names h. h;
  here = suit;
  elsewhere = λ p other n h. h;
  names = λ p k text h. inl h;
  keeps_else = on.itself now;
}

pub grow_more : {S : Type 0} {may_end : S → List (List (List (List ℕ))) → Type 0} {suits : S → ℕ → Decl → Type 0} {has_name : S → ℕ → ℕ → List ℕ → Type 0}
    {keeps : S → S → Type 0} {has_given : S → ℕ → ℕ → ℕ → Type 0} {place : ℕ} {d : Decl} {Given Next : ℕ → List ℕ → Type 0} {old mid new : S}
    → CarriesOn keeps has_given → Grow may_end suits has_name keeps place d Given old mid
    → Grow may_end suits has_name keeps place d Next mid new → ((k : ℕ) (text : List ℕ) → Next k text → Given k text)
    → Grow may_end suits has_name keeps place d Given old new
grow_more {old = old} {mid = mid} {new = new} on first next given = record {
  later = λ names h. first.later names (next.later names h);
  here = next.here;
  elsewhere = λ p other n h. next.elsewhere p other n (first.elsewhere p other n h);
  names = λ p k text h. elim (next.names p k text h) [
    | inl old ↦ first.names p k text old
    | inr new ↦ inr (new.0, given k text new.1)
  ];
  keeps_else = on.goes_on old mid new first.keeps_else next.keeps_else;
}

pub grow_wider : {S : Type 0} {may_end : S → List (List (List (List ℕ))) → Type 0} {suits : S → ℕ → Decl → Type 0} {has_name : S → ℕ → ℕ → List ℕ → Type 0}
    {keeps : S → S → Type 0} {place : ℕ} {d : Decl} {Given Wide : ℕ → List ℕ → Type 0} {old new : S} → Grow may_end suits has_name keeps place d Given old new
    → ((k : ℕ) (text : List ℕ) → Given k text → Wide k text) → Grow may_end suits has_name keeps place d Wide old new
grow_wider grow wide = record {
  later = grow.later;
  here = grow.here;
  elsewhere = grow.elsewhere;
  names = λ p k text h. elim (grow.names p k text h) [
    | inl old ↦ inl old
    | inr new ↦ inr (new.0, wide k text new.1)
  ];
  keeps_else = grow.keeps_else;
}
