use Rattle.std.proofs.Common.{◌-◌, ◌∙◌, take, reverse, ap, arith}
use Rattle.std.specs.List.{prefix_len}
use Rattle.std.proofs.lemmas.List.{length-reverse, length-take}
use Rattle.std.proofs.lemmas.List.Sums.{prefix_len-le-length}
use Rattle.rt_index.specs.Characters.{is_word_character}
use Rattle.rt_index.specs.declared.words.TheConstants.{READ_CHARACTERS}
use Rattle.rt_index.proofs.Runs.{read_before}
use Rattle.rt_index.proofs.words.run_before.Goals as goal

pub returns-clause-value : goal.returns-clause-value
returns-clause-value g c =
    let text = (g.G.Ground.widget c.args.ground.now).text in
    c.at_back.ensures ∙ ap (prefix_len is_word_character) (read_before _ text READ_CHARACTERS c.saturating_sub-from.result c.args.place c.characters.result c.requires c.saturating_sub-from.ensures c.characters.ensures.count c.characters.ensures.characters)

pub returns-clause-few : goal.returns-clause-few
returns-clause-few g c =
    let size = c.args.place - c.saturating_sub-from.result in
    let read = take size c.characters.new.buffer in
    omega (arith, c.saturating_sub-from.ensures, c.at_back.ensures, prefix_len-le-length is_word_character (reverse read), length-reverse read, length-take size c.characters.new.buffer)

pub returns-clause-within : goal.returns-clause-within
returns-clause-within g c =
    let size = c.args.place - c.saturating_sub-from.result in
    let read = take size c.characters.new.buffer in
    omega (arith, c.at_back.ensures, prefix_len-le-length is_word_character (reverse read), length-reverse read, length-take size c.characters.new.buffer)
