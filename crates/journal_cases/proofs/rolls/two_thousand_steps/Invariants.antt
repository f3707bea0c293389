use Rattle.journal_cases.proofs.rolls.two_thousand_steps.Given as goal

abbrev pub ghosts-beside_a_list : goal.ghosts-beside_a_list
ghosts-beside_a_list g a = record { name = a.blank.name; parts = a.blank.parts }
