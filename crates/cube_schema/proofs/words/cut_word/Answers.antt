use Rattle.std.proofs.Common.{◌∙◌, ap, take, drop}
use Rattle.cube_schema.proofs.WordParts.{Cut, first_word, no_words}
use Rattle.cube_schema.proofs.words.cut_word.Goals as goal

pub returns : goal.returns
returns c =
    let line = c.args.line.now in
    let front = c.split_at.result.1.now in
    let parts = c.split_at-2 in
    let cut : Cut line front parts.result.0.now parts.result.1.now = record {
      front_is = c.split_at.ensures.back ∙ ap (λ n. drop n line) c.blanks_len.ensures;
      word_is = parts.ensures.front ∙ ap (λ n. take n front) c.word_len.ensures;
      behind_is = parts.ensures.back ∙ ap (λ n. drop n front) c.word_len.ensures;
    } in
    record { first = first_word line front parts.result.0.now parts.result.1.now cut; none = no_words line front parts.result.0.now parts.result.1.now cut }
