use Rattle.opened_rounds.proofs.maker.rounds_of_store.Goals as goal

pub returns-clause-keeps : goal.returns-clause-keeps
returns-clause-keeps g c = λ shards sessions caller cells over.
    c.a_store_keeps_rounds_of_its_core.ensures c.args.opened.kept shards sessions caller cells
    (record {
      store = c.args.opened.store;
      first = c.args.disk;
      second = c.args.other;
      alloc = c.args.alloc;
    })
    c.requires.kept over c.requires.at
