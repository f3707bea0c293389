use Rattle.scripted_pasts.proofs.law.runs_of_scripts_open.Goals as goal

pub returns : goal.returns
returns c = λ every o given events h. record { opens = h.run.opens; every_is = h.every_is }
