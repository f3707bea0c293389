use Rattle.journal_cases.proofs.rolls.a_roll_of_three.Given as goal

abbrev pub ghosts-three : goal.ghosts-three
ghosts-three g a = record { name = a.blank.name; parts = a.blank.parts }
