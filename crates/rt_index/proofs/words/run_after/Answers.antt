use Rattle.std.proofs.Common.{◌-◌, ◌≤◌, ◌∙◌, length, take, ap, arith}
use Rattle.std.specs.List.{prefix_len}
use Rattle.std.proofs.lemmas.List.{length-take}
use Rattle.std.proofs.lemmas.List.Sums.{prefix_len-le-length}
use Rattle.rt_index.specs.Characters.{is_word_character}
use Rattle.rt_index.specs.declared.words.TheConstants.{READ_CHARACTERS}
use Rattle.rt_index.proofs.Runs.{read_of}
use Rattle.rt_index.proofs.words.run_after.Goals as goal

pub returns-clause-value : goal.returns-clause-value
returns-clause-value g c =
    let text = (g.G.Ground.widget c.args.ground.now).text in
    c.in_front.ensures ∙ ap (prefix_len is_word_character) (read_of _ text READ_CHARACTERS c.args.place c.characters-read.result c.characters-read.ensures.count c.characters-read.ensures.characters)

pub returns-clause-few : goal.returns-clause-few
returns-clause-few g c =
    let read = take c.characters-read.result c.characters-read.new.buffer in
    let few : c.characters-read.result ≤ READ_CHARACTERS = omega (arith, c.characters-read.ensures.count) in
    omega (arith, few, c.in_front.ensures, prefix_len-le-length is_word_character read, length-take c.characters-read.result c.characters-read.new.buffer)

pub returns-clause-within : goal.returns-clause-within
returns-clause-within g c =
    let text = (g.G.Ground.widget c.args.ground.now).text in
    let read = take c.characters-read.result c.characters-read.new.buffer in
    let few : c.characters-read.result ≤ length text - c.args.place = omega (arith, c.characters-read.ensures.count) in
    omega (arith, few, c.requires, c.in_front.ensures, prefix_len-le-length is_word_character read, length-take c.characters-read.result c.characters-read.new.buffer)
