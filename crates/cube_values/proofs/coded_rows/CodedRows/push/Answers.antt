use Rattle.std.proofs.Common.{◌+◌, ◌<◌, ◌++◌, ◌∷◌, [], length, ap, sym, ◌∙◌, arith}
use Rattle.cube_values.specs.Batches.{Batch, flat_rows}
use Rattle.cube_values.proofs.FlatRows.{length_flat, long_more, part_within, rows_more}
use Rattle.cube_values.proofs.coded_rows.CodedRows.push.Goals as goal

pub put_all-requires : goal.put_all-requires
put_all-requires c =
    let b = c.self.inside in
    let h : b.rows < b.room = omega (arith, c.requires.room, length_flat b.dims b.width b.coords.items b.metrics.items b.rows, ap (λ (v : Batch). length v.rows) c.self.view_is, ap (λ (v : Batch). v.room) c.self.view_is) in
    omega (arith, c.requires.coords, ap (λ (v : Batch). v.dims) c.self.view_is, c.self.invariant.1.long, c.self.invariant.1.memory, part_within b.dims b.room b.rows h)

pub put_all-requires-2 : goal.put_all-requires-2
put_all-requires-2 c =
    let b = c.self.inside in
    let h : b.rows < b.room = omega (arith, c.requires.room, length_flat b.dims b.width b.coords.items b.metrics.items b.rows, ap (λ (v : Batch). length v.rows) c.self.view_is, ap (λ (v : Batch). v.room) c.self.view_is) in
    omega (arith, c.requires.metrics, ap (λ (v : Batch). v.width) c.self.view_is, c.self.invariant.2.long, c.self.invariant.2.memory, part_within b.width b.room b.rows h)

pub overflow_add-self : goal.overflow_add-self
overflow_add-self c =
    let b = c.self.inside in
    omega (arith, c.requires.room, length_flat b.dims b.width b.coords.items b.metrics.items b.rows, ap (λ (v : Batch). length v.rows) c.self.view_is, ap (λ (v : Batch). v.room) c.self.view_is)

pub invariant_of-self : goal.invariant_of-self
invariant_of-self c =
    let b = c.self.inside in
    let k = c.self.invariant in
    let h : b.rows < b.room = omega (arith, c.requires.room, length_flat b.dims b.width b.coords.items b.metrics.items b.rows, ap (λ (v : Batch). length v.rows) c.self.view_is, ap (λ (v : Batch). v.room) c.self.view_is) in
    let d = c.requires.coords ∙ sym (ap (λ (v : Batch). v.dims) c.self.view_is) in
    let w = c.requires.metrics ∙ sym (ap (λ (v : Batch). v.width) c.self.view_is) in (
      omega arith,
      record {
        long = ap length c.put_all.ensures.items ∙ long_more b.dims b.rows b.coords.items c.args.coords.now k.1.long d;
        memory = omega (arith, k.1.memory, c.put_all.ensures.capacity);
      },
      record {
        long = ap length c.put_all-2.ensures.items ∙ long_more b.width b.rows b.metrics.items c.args.metrics.now k.2.long w;
        memory = omega (arith, k.2.memory, c.put_all-2.ensures.capacity);
      },
    )

pub returns : goal.returns
returns c =
    let b = c.self.inside in
    let k = c.self.invariant in
    let v = c.self.view_is in
    let d = c.requires.coords ∙ sym (ap (λ (v : Batch). v.dims) v) in
    let w = c.requires.metrics ∙ sym (ap (λ (v : Batch). v.width) v) in
    let more = (λ t. flat_rows b.dims b.width (c.put_all.ensures.items t) (c.put_all-2.ensures.items t) (b.rows + 1)) ∙ rows_more b.dims b.width b.coords.items b.metrics.items b.rows k.1.long k.2.long c.args.coords.now c.args.metrics.now d w in
    (λ t. record { rows = more t; dims = b.dims; width = b.width; room = b.room }) ∙ ap (λ (v : Batch). record v { rows = v.rows ++ record { coords = c.args.coords.now; metrics = c.args.metrics.now } ∷ [] }) v
