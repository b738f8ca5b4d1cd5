use Rattle.std.proofs.Common.{arith, sym, ◌∙◌}
use Rattle.std.proofs.lemmas.List.{get_or-drop, length-drop}
use Rattle.rt_tree.proofs.Buffers.{behind_it, one_more}
use Rattle.rt_tree.proofs.copy.copy.Goals as goal

pub loop-i-preserved : goal.loop-i-preserved
loop-i-preserved c =
    let a = c.args in
    let old = c.loop-i.invariant in
    let i = c.loop-i.i in
    let ch = c.index-text-from.result in
    let long = length-drop a.from a.text.now in
    record {
      characters = one_more a.text.now a.buffer.now c.loop-i.buffer a.from a.at i ch (omega (arith, c.loop-i-test.true, c.requires.within, c.loop-i.auto.buffer)) (omega (arith, long, c.loop-i-test.true, c.requires.has)) (c.index-text-from.is ∙ sym (get_or-drop a.from a.text.now i ch)) old.characters;
      rest = behind_it a.buffer.now c.loop-i.buffer a.at i ch old.rest;
    }
