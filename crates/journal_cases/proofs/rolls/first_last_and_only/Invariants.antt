use Rattle.journal_cases.proofs.rolls.first_last_and_only.Given as goal

abbrev pub ghosts-removals : goal.ghosts-removals
ghosts-removals g a = record { name = a.blank.name; parts = a.blank.parts }
