-- Replies are counted one after the other.
use Rattle.std.proofs.Common.{◌≡◌, ◌∙◌, ℕ, List, [], ◌∷◌, ◌++◌, refl, sym, ap, subst, append_assoc, append-nil}
use Rattle.cube_journal.specs.declared.reply.Reply.{Reply}
use Rattle.loaded_files.specs.CountedReplies.{CountsAbsence, CountsEach, CountsFault, GainsReplies}

one_more : (Counts : Reply → ℕ → ℕ → Type 0) (replies : List Reply) (said : Reply) (before middle now : ℕ)
    → CountsEach Counts replies before middle → Counts said middle now
    → CountsEach Counts (replies ++ said ∷ []) before now
one_more Counts [] said before middle now h one = (now, subst (λ (n : ℕ). Counts said n now) h one, refl)
one_more Counts (r ∷ replies) said before middle now h one =
    (h.0, h.1, one_more Counts replies said h.0 middle now h.2 one)

pub gains_none : (replies : List Reply) (faults absences : ℕ)
    → GainsReplies replies replies faults faults absences absences
gains_none replies faults absences = record {
  gained = [];
  are = sym (append-nil replies);
  count_faults = refl;
  count_absences = refl;
}

pub gains_more : (before after new : List Reply) (said : Reply) (faults some_faults new_faults : ℕ)
    (absences some_absences new_absences : ℕ)
    → GainsReplies before after faults some_faults absences some_absences → new ≡ after ++ said ∷ []
    → CountsFault said some_faults new_faults → CountsAbsence said some_absences new_absences
    → GainsReplies before new faults new_faults absences new_absences
gains_more before after new said faults some_faults new_faults absences some_absences new_absences h more in_faults
    in_absences = record {
      gained = h.gained ++ said ∷ [];
      are =
          more ∙ ap (λ (rs : List Reply). rs ++ said ∷ []) h.are ∙ append_assoc before h.gained (said ∷ []);
      count_faults = one_more CountsFault h.gained said faults some_faults new_faults h.count_faults in_faults;
      count_absences =
          one_more CountsAbsence h.gained said absences some_absences new_absences h.count_absences in_absences;
    }
