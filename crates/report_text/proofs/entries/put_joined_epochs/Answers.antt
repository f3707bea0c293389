use Rattle.std.proofs.Common.{◌++◌, ◌-◌, ◌∙◌, length, ap, sym, take, drop}
use Rattle.report_text.specs.Lines.{epochs_after_commas}
use Rattle.report_text.proofs.JoinedEpochs.{joined_at_least}
use Rattle.report_text.proofs.entries.put_joined_epochs.Goals as goal

pub returns : goal.returns
returns c =
    c.in_ok-put_epochs_after_commas.ensures
    ∙ (ap (λ text. text ++ epochs_after_commas (take (length c.args.epochs.now - 1) (drop 1 c.args.epochs.now)))
    c.in_ok-put_u64.ensures
    ∙ sym (joined_at_least c.args.out.now.items c.args.epochs.now c.in-len1-up.len_at_least))
