use Rattle.std.proofs.Common.{vec_items, subst, sym}
use Rattle.known_names.specs.KnownTexts.{texts_of}
use Rattle.known_names.specs.Slots.{AreRight}
use Rattle.known_names.proofs.Entries.{text_added}
use Rattle.known_names.proofs.Slots.{right_with}
use Rattle.known_names.proofs.known.Known.add.Goals as goal

pub returns-clause-added : goal.returns-clause-added
returns-clause-added c =
    text_added vec_items c.self.inside.texts c.args.self.now c.insert.new.self.entries c.in_ok-owned.owned
    c.args.text.now c.args.code c.self.view_is c.in_ok-owned.ensures.items c.requires c.in_ok-insert.ensures.entries

pub invariant_of-self-in_err-insert : goal.invariant_of-self-in_err-insert
invariant_of-self-in_err-insert c = (
  c.insert.ensures.unique,
  subst (λ es. AreRight (texts_of vec_items es) c.make_room.new.self.slots.items) (sym c.in_err-insert.ensures.err)
      (c.make_room.ensures (texts_of vec_items c.self.inside.texts.entries) c.self.invariant.1),
)

pub invariant_of-self-2 : goal.invariant_of-self-2
invariant_of-self-2 c =
    let added = text_added vec_items c.self.inside.texts c.args.self.now c.insert.new.self.entries c.in_ok-owned.owned
    c.args.text.now c.args.code c.self.view_is c.in_ok-owned.ensures.items c.requires
    c.in_ok-insert.ensures.entries in
    let room = c.make_room.ensures c.args.self.now
    (subst (λ k. AreRight k c.self.inside.short.slots.items) c.self.view_is c.self.invariant.1) in (
      c.insert.ensures.unique,
      right_with c.args.self.now (texts_of vec_items c.insert.new.self.entries) c.args.text.now c.args.code
          c.make_room.new.self.slots.items c.note.new.self.slots.items c.requires added room c.note.ensures,
    )
