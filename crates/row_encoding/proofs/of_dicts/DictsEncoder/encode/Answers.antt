use Rattle.row_encoding.proofs.CubeSteps.{is_text_dimension, encoded_final, encoded_inside, encoded_grow}
use Rattle.row_encoding.proofs.of_dicts.DictsEncoder.encode.Goals as goal

pub encode-requires-clause-text : goal.encode-requires-clause-text
encode-requires-clause-text c = rw c.cube_shape.ensures.value (is_text_dimension c.args.cube.now c.args.dim c.requires.text)

pub returns-clause-code : goal.returns-clause-code
returns-clause-code c =
    encoded_final c.args.cube.now c.cube_shape.result.now c.args.place c.args.dim c.args.text.now c.args.self.now c.encode.new.self
    c.cube_shape.ensures.value c.requires.suits c.requires.text c.requires.short c.encode.result c.encode.ensures.code c.encode.ensures.names

pub returns-clause-inside : goal.returns-clause-inside
returns-clause-inside c =
    encoded_inside c.args.cube.now c.cube_shape.result.now c.args.place c.args.dim c.args.text.now c.args.self.now c.encode.new.self
    c.cube_shape.ensures.value c.requires.suits c.requires.text c.requires.short c.encode.result c.encode.ensures.code c.encode.ensures.names

pub returns-clause-grow : goal.returns-clause-grow
returns-clause-grow c =
    encoded_grow c.args.cube.now c.cube_shape.result.now c.args.place c.args.dim c.args.text.now c.args.self.now c.encode.new.self
    c.cube_shape.ensures.value c.requires.suits c.requires.text c.requires.short c.encode.result c.encode.ensures.code c.encode.ensures.names c.encode.ensures.err
