use Rattle.std.proofs.Common.{codes, ◌≡◌, ◌∙◌, ℕ, List, [], ◌∷◌, ◌++◌, ap, refl, pos, decimal, arith}
use Rattle.std.proofs.lemmas.Fmt.{decimal_step}
use Rattle.cube_values.specs.declared.table.Field.TheVariants.{Whole, Null}
use Rattle.cube_journal.specs.declared.reply.Reply.TheVariants as reply
use Rattle.cube_journal.proofs.Digits.{decimal-0, decimal-1, decimal-2, decimal-3, decimal-4, decimal-5, decimal-6, decimal-12, decimal-17}
use Rattle.cube_run.specs.StatementEntries.{Done}
use Rattle.cube_run.proofs.SmallRuns.{watched-1, watched-2, watched-3, watched-4, watched-5}
use Rattle.cube_run.proofs.Passing.{replied}
use Rattle.cube_run.proofs.worked.watched_run_worked.Goals as goal

decimal-33 : decimal 33 ≡ codes "33"
decimal-33 = decimal_step 33 (omega arith) (omega arith) ∙ ap (λ (ds : List ℕ). ds ++ 51 ∷ []) decimal-3

pub returns-clause-merge : goal.returns-clause-merge
returns-clause-merge c = record {
  sessions = (
    record {
      statements =
          ((Done, watched-1), ((Done, watched-2), ((Done, watched-3), ((Done, watched-4), ((Done, watched-5), tt)))));
      whole = refl;
    },
    tt,
  );
  others = refl;
}

pub returns-clause-text : goal.returns-clause-text
returns-clause-text c = record {
  replies = (reply.Watching 0 ((Null ∷ Whole (pos 0) ∷ []) ∷ []) ∷ reply.Stored 1 1
      ∷ reply.Watching 1 ((Whole (pos 5) ∷ Whole (pos 1) ∷ []) ∷ []) ∷ reply.Dropped 2
      ∷ reply.Watching 2 ((Null ∷ Whole (pos 0) ∷ []) ∷ []) ∷ []) ∷ [];
  answers = (
    (replied watched-1, (replied watched-2, (replied watched-3, (replied watched-4, (replied watched-5, tt))))),
    tt,
  );
  whole = simp (
    decimal-0,
    decimal-1,
    decimal-2,
    decimal-3,
    decimal-4,
    decimal-5,
    decimal-6,
    decimal-12,
    decimal-17,
    decimal-33,
  );
}
