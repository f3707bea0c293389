use Rattle.std.proofs.Common.{codes, [], ◌∷◌, refl}
use Rattle.cube_language.specs.declared.bad_row.BadRow.TheVariants.{Column}
use Rattle.cube_language.specs.declared.bad_row.Reason.TheVariants.{OutOfRange}
use Rattle.cube_journal.specs.declared.refusal.Refusal.TheVariants as refusal
use Rattle.cube_journal.specs.declared.reply.Reply.TheVariants as reply
use Rattle.cube_journal.proofs.Digits.{decimal-0, decimal-1, decimal-2, decimal-3, decimal-4, decimal-5, decimal-6, decimal-7, decimal-8, decimal-9, decimal-10, decimal-11, decimal-14, decimal-15, decimal-19}
use Rattle.cube_run.specs.StatementEntries.{Done, RefusedWith}
use Rattle.cube_run.proofs.FaultyRun.{faulty-1, faulty-2, faulty-3, faulty-4, faulty-5, faulty-6, faulty-7, faulty-8, faulty-9, faulty-10, faulty-11}
use Rattle.cube_run.proofs.Passing.{replied}
use Rattle.cube_run.proofs.worked.faulty_run_worked.Goals as goal

pub returns-clause-merge : goal.returns-clause-merge
returns-clause-merge c = record {
  sessions = (
    record {
      statements = (
        (Done, faulty-1),
        (
          (RefusedWith (refusal.CubeExists (codes "u")), faulty-2),
          (
            (Done, faulty-3),
            (
              (Done, faulty-4),
              (
                (RefusedWith (refusal.TooManyRejected 1 0), faulty-5),
                (
                  (RefusedWith refusal.TransactionAborted, faulty-6),
                  (
                    (Done, faulty-7),
                    (
                      (Done, faulty-8),
                      (
                        (Done, faulty-9),
                        ((Done, faulty-10), ((RefusedWith (refusal.UnknownCube (codes "w")), faulty-11), tt)),
                      ),
                    ),
                  ),
                ),
              ),
            ),
          ),
        ),
      );
      whole = refl;
    },
    tt,
  );
  others = refl;
}

pub returns-clause-text : goal.returns-clause-text
returns-clause-text c = record {
  replies = (reply.Created 1 ∷ reply.Refused (refusal.CubeExists (codes "u"))
      ∷ reply.Loaded 1 1 (record { number = 2; why = Column (codes "x") OutOfRange } ∷ []) 2
      ∷ reply.Begun 3 ∷ reply.Refused (refusal.TooManyRejected 1 0) ∷ reply.Refused refusal.TransactionAborted
      ∷ reply.RolledBack 3 ∷ reply.Flushed 3 ∷ reply.Purged 3
      ∷ reply.Epochs (record { ec = 4; lce = 3; lse = 3; pending = [] })
      ∷ reply.Refused (refusal.UnknownCube (codes "w")) ∷ []) ∷ [];
  answers = (
    (
      replied faulty-1,
      (
        replied faulty-2,
        (
          replied faulty-3,
          (
            replied faulty-4,
            (
              replied faulty-5,
              (
                replied faulty-6,
                (
                  replied faulty-7,
                  (
                    replied faulty-8,
                    (
                      replied faulty-9,
                      (
                        replied faulty-10,
                        (replied faulty-11, tt),
                      ),
                    ),
                  ),
                ),
              ),
            ),
          ),
        ),
      ),
    ),
    tt,
  );
  whole = simp (
    decimal-0,
    decimal-1,
    decimal-2,
    decimal-3,
    decimal-4,
    decimal-5,
    decimal-6,
    decimal-7,
    decimal-8,
    decimal-9,
    decimal-10,
    decimal-11,
    decimal-14,
    decimal-15,
    decimal-19,
  );
}
