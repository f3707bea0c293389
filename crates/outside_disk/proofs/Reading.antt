-- Reading calls of a disk, and what they have read.
use Rattle.std.proofs.Common.{◌≡◌, ◌≤◌, ◌<◌, ◌+◌, ◌-◌, ℕ, List, length, take, Option, Result, Some, None, inl, inr, ⊎_elim, refl, sym, ◌∙◌, subst, arith}
use Rattle.std.proofs.lemmas.List.{length-take-le}
use Rattle.std.specs.Prelude.{◌↔◌, IfSome, IsSome}
use borrow.Rule.Slice.PartMut.{put_mid}
use Rattle.outside.specs.Files.{IsPiece}
use Rattle.outside.proofs.Pieces.{take_more_piece}
use Rattle.outside_disk.specs.declared.disk.Failed.{Failed}
use Rattle.outside_disk.specs.Reads.{IsUntouched}
use Rattle.outside_disk.specs.Effects.{Goes, IsSame}
use Rattle.outside_disk.specs.Views.{View, LeavesOnly}
use Rattle.outside_disk.proofs.Moments.{LeavesOnly-more}

-- an image that no call has added
same_image : {T : Type 0} (result : Result T Failed) (old new : View) → Goes IsSame result old new → (c : List ℕ) → new.image c → old.image c
same_image result old new call c now = let was = call.images c now in subst old.image (sym was.2) was.1

-- one call more that changes nothing
pub IsUntouched-more : {T : Type 0} (result : Result T Failed) (old mid new : View) → IsUntouched old mid → Goes IsSame result mid new → new.told ≡ mid.told → IsUntouched old new
IsUntouched-more result old mid new so_far call told = record {
  told = told ∙ so_far.told;
  images = λ c now. so_far.images c (same_image result mid new call c now);
  any_moment = LeavesOnly-more IsSame result old mid new old.image so_far.any_moment call
      (λ c now. so_far.images c (same_image result mid new call c now));
  count = omega (arith, so_far.count, call.count);
}

-- a piece more of the file that a disk tells
pub prefix_more : (told : Option (List ℕ)) (old piece : List ℕ) (at n : ℕ) → IfSome told (λ f. take at old ≡ take at f)
    → IfSome told (λ f. IsPiece f at n piece) → at ≤ length old → n ≤ length piece
    → IfSome told (λ f. take (at + n) (put_mid at (length old - at) old piece) ≡ take (at + n) f)
prefix_more None old piece at n front part within fits = tt
prefix_more (Some f) old piece at n front part within fits = take_more_piece f old piece at n front within fits part

-- a cut file is as long as it was cut
pub cut_is_long : (old new : Option (List ℕ)) (at : ℕ) → IfSome old (λ f. at ≤ length f) → IfSome old (λ f. new ≡ Some (take at f))
    → (IsSome old ↔ IsSome new) → IfSome new (λ f. at ≤ length f)
cut_is_long None None at within cut tells = tt
cut_is_long None (Some f) at within cut tells = let told = tells.1 refl in absurd cc
cut_is_long (Some f) new at within cut tells =
    let len = length-take-le at f within in
    subst (λ o. IfSome o (λ g. at ≤ length g)) (sym cut) (omega (arith, len))
