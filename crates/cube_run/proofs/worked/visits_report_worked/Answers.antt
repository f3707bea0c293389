use Rattle.std.proofs.Common.{codes, [], ◌∷◌, refl, pos}
use Rattle.cube_values.specs.declared.table.Field.TheVariants.{Text, Whole}
use Rattle.cube_journal.specs.declared.reply.Reply.TheVariants as reply
use Rattle.cube_journal.proofs.Digits.{decimal-1, decimal-2, decimal-3, decimal-4, decimal-5, decimal-7, decimal-12}
use Rattle.cube_run.specs.StatementEntries.{Done}
use Rattle.cube_run.proofs.VisitsWorked.{first-end, second-end, third-end, fourth-end, fifth-end}
use Rattle.cube_run.proofs.Passing.{replied}
use Rattle.cube_run.proofs.worked.visits_report_worked.Goals as goal

pub returns-clause-merge : goal.returns-clause-merge
returns-clause-merge c = record {
  sessions = (
    record {
      statements =
          ((Done, first-end), ((Done, second-end), ((Done, third-end), ((Done, fourth-end), ((Done, fifth-end), tt)))));
      whole = refl;
    },
    tt,
  );
  others = refl;
}

pub returns-clause-text : goal.returns-clause-text
returns-clause-text c = record {
  replies = (reply.Stored 1 1 ∷ reply.Stored 1 2 ∷ reply.Stored 1 3 ∷ reply.Stored 1 4
      ∷ reply.Rows 4 ((Text (codes "CA") ∷ Whole (pos 5) ∷ Whole (pos 2) ∷ [])
      ∷ (Text (codes "NY") ∷ Whole (pos 5) ∷ Whole (pos 1) ∷ [])
      ∷ (Text (codes "TX") ∷ Whole (pos 7) ∷ Whole (pos 1) ∷ []) ∷ []) ∷ []) ∷ [];
  answers = (
    (
      replied first-end,
      (
        replied second-end,
        (
          replied third-end,
          (
            replied fourth-end,
            (
              replied fifth-end,
              tt,
            ),
          ),
        ),
      ),
    ),
    tt,
  );
  whole = simp (decimal-1, decimal-2, decimal-3, decimal-4, decimal-5, decimal-7, decimal-12);
}
