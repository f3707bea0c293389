use Rattle.known_names.proofs.Slots.{right_slot}
use Rattle.known_names.proofs.short_texts.ShortTexts.note.Goals as goal

pub returns : goal.returns
returns c = λ known right is.
    c.put.ensures known right
    (right_slot known c.new.result c.in-Some.key c.args.text.now c.args.code c.in-Some.ensures.short
    c.in-Some.ensures.key c.new.ensures.key c.new.ensures.code is)
