-- What stays of a session's caller while texts are given their codes.
-- Source: this project's own.
use Rattle.std.specs.Prelude.{◌≡◌, ℕ, List, [], ◌∷◌, ◌++◌}
use Rattle.std.specs.List.{AllByRecursion}
use Rattle.std.proofs.Common.{◌∙◌, refl, sym, ap, subst, append-nil, append_assoc}
use Rattle.core_program.specs.CoreFits.{CoreEntry}
use Rattle.known_cubes.specs.KnownNames.{IsToldOfName}
use Rattle.known_cubes.proofs.ToldNames.{told-later}
use Rattle.row_encoding.specs.FinalCodes.{CarriesOn}
use Rattle.core_names.specs.AskedNames.{GoOnByNames, IsNamesEntry}
use Rattle.core_names.specs.KnownNumbers.{HasToldNumber}

-- Which caller asks, on which board, and for whom: its number, the others that go with it, the session, and the place
-- of the cube.
pub record WhoAsks (C K B X H : Type 0) : Type 0 where
  pub caller : C
  pub known : K
  pub board : B
  pub opening : List X
  pub number : ℕ
  pub others : H
  pub session : ℕ
  pub place : ℕ

-- All that stays, and its own calls go on by calls on the names alone.
pub record StaysAndAsks {C K B X H : Type 0} (old new : WhoAsks C K B X H) (own now : List CoreEntry) : Type 0 where
  pub stays : new ≡ old
  pub asks : GoOnByNames old.number own now

-- ---- it carries on

pub told-still : (caller : ℕ) (own now : List CoreEntry) (place dim number : ℕ) → GoOnByNames caller own now
    → HasToldNumber own place dim number → HasToldNumber now place dim number
told-still caller own now place dim number asks has = record {
  name = has.name;
  told = subst (λ (l : List CoreEntry). IsToldOfName l place dim has.name number) (sym asks.whole)
      (told-later own asks.added place dim has.name number has.told);
}

both-only : (caller : ℕ) (xs ys : List CoreEntry) → AllByRecursion (IsNamesEntry caller) xs
    → AllByRecursion (IsNamesEntry caller) ys → AllByRecursion (IsNamesEntry caller) (xs ++ ys)
both-only caller [] ys h k = k
both-only caller (x ∷ xs) ys h k = (h.0, both-only caller xs ys h.1 k)

pub asks-none : (caller : ℕ) (own : List CoreEntry) → GoOnByNames caller own own
asks-none caller own = record { added = []; whole = sym (append-nil own); only = tt }

pub asks-both : (caller : ℕ) (own mid now : List CoreEntry) → GoOnByNames caller own mid → GoOnByNames caller mid now
    → GoOnByNames caller own now
asks-both caller own mid now h k = record {
  added = h.added ++ k.added;
  whole = k.whole ∙ ap (λ (l : List CoreEntry). l ++ k.added) h.whole ∙ append_assoc own h.added k.added;
  only = both-only caller h.added k.added h.only k.only;
}

pub stays-and-asks : {T C K B X H : Type 0} (who : T → WhoAsks C K B X H) (own : T → List CoreEntry)
    → CarriesOn (λ old new. StaysAndAsks (who old) (who new) (own old) (own new)) (λ now. HasToldNumber (own now))
stays-and-asks who own = record {
  itself = λ now. record { stays = refl; asks = asks-none (who now).number (own now) };
  goes_on = λ old mid new h k. record {
    stays = k.stays ∙ h.stays;
    asks = asks-both (who old).number (own old) (own mid) (own new) h.asks
        (subst (λ (n : ℕ). GoOnByNames n (own mid) (own new)) (ap (λ w. w.number) h.stays) k.asks);
  };
  given = λ old new place dim number h has.
      told-still (who old).number (own old) (own new) place dim number h.asks has;
}
