use Rattle.std.proofs.Common.{[], ◌∷◌, refl, pos}
use Rattle.cube_values.specs.declared.table.Field.TheVariants.{Whole, Null}
use Rattle.cube_journal.specs.declared.refusal.Refusal.TheVariants as refusal
use Rattle.cube_journal.specs.declared.reply.Reply.TheVariants as reply
use Rattle.cube_journal.proofs.Digits.{decimal-0, decimal-1, decimal-2, decimal-3, decimal-4, decimal-5, decimal-9, decimal-13}
use Rattle.cube_run.specs.StatementEntries.{Done, RefusedWith}
use Rattle.cube_run.proofs.SmallRuns.{paired-1-1, paired-1-2, paired-1-3, paired-1-4, paired-1-5, paired-2-1, paired-2-2}
use Rattle.cube_run.proofs.Passing.{replied}
use Rattle.cube_run.proofs.worked.paired_run_worked.Goals as goal

pub returns-clause-merge : goal.returns-clause-merge
returns-clause-merge c = record {
  sessions = (
    record {
      statements = (
        (Done, paired-1-1),
        (
          (Done, paired-1-2),
          (
            (Done, paired-1-3),
            (
              (Done, paired-1-4),
              ((RefusedWith refusal.NoTransaction, paired-1-5), tt),
            ),
          ),
        ),
      );
      whole = refl;
    },
    (
      record {
        statements = ((Done, paired-2-1), ((Done, paired-2-2), tt));
        whole = refl;
      },
      tt,
    ),
  );
  others = refl;
}

pub returns-clause-text : goal.returns-clause-text
returns-clause-text c = record {
  replies = (reply.Begun 1 ∷ reply.Stored 1 1
      ∷ reply.Rows 1 ((Whole (pos 5) ∷ Whole (pos 1) ∷ []) ∷ []) ∷ reply.Committed 1
      ∷ reply.Refused refusal.NoTransaction ∷ [])
      ∷ (reply.Stored 1 2 ∷ reply.Rows 0 ((Null ∷ Whole (pos 0) ∷ []) ∷ []) ∷ []) ∷ [];
  answers = (
    (
      replied paired-1-1,
      (
        replied paired-1-2,
        (
          replied paired-1-3,
          (
            replied paired-1-4,
            (
              replied paired-1-5,
              tt,
            ),
          ),
        ),
      ),
    ),
    ((replied paired-2-1, (replied paired-2-2, tt)), tt),
  );
  whole = simp (decimal-0, decimal-1, decimal-2, decimal-3, decimal-4, decimal-5, decimal-9, decimal-13);
}
