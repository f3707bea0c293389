-- A disk that has answered no call.
use Rattle.std.proofs.Common.{◌≡◌, ℕ, List, [], ◌∷◌, Option, Some, map, refl, sym, ap, ◌∙◌, subst}
use Rattle.outside_disk.specs.DiskBytes.{settled_byte, read_bytes, IsImage}
use Rattle.outside_disk.specs.Memory.{DiskState, new_disk, disk_view}
use Rattle.outside_disk.specs.Views.{IsSynced}

read_settled : (first : List ℕ) → read_bytes (map settled_byte first) ≡ first
read_settled [] = refl
read_settled (byte ∷ first) = ap (λ rest. byte ∷ rest) (read_settled first)

one_image : (first c : List ℕ) → IsImage (map settled_byte first) c → c ≡ first
one_image [] [] im = refl
one_image [] (x ∷ c) im = absurd im
one_image (byte ∷ first) [] im = absurd im
one_image (byte ∷ first) (x ∷ c) im = (λ i. im.0 refl i ∷ one_image first c im.1 i)

module _ (first : List ℕ) (room : ℕ) (failing : List ℕ) (stop : Option ℕ) (disk : DiskState) where
  pub new_told : disk ≡ new_disk first room failing stop → (disk_view disk).told ≡ Some first
  new_told e = ap (λ d. (disk_view d).told) e ∙ ap Some (read_settled first)

  pub new_synced : disk ≡ new_disk first room failing stop → IsSynced (disk_view disk)
  new_synced e = subst (λ d. IsSynced (disk_view d)) (sym e) (λ c im. one_image first c im ∙ sym (read_settled first))
