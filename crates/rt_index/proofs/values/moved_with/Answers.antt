use Rattle.std.proofs.Common.{◌+◌, ◌∙◌, ap, drop, refl, sym}
use Rattle.std.proofs.lemmas.List.{at_drop_more, drop_all}
use Rattle.rt_index.specs.Values.{all_moved}
use Rattle.rt_index.proofs.values.moved_with.Goals as goal

pub loop-modifier-init : goal.loop-modifier-init
loop-modifier-init g c = record { within = c.requires.place; words = c.requires.words; same = refl }

pub loop-modifier-preserved : goal.loop-modifier-preserved
loop-modifier-preserved g c =
    let text = (g.G.Ground.widget c.args.ground.now).text in
    let modifiers = c.args.modifiers.now in
    let index = c.loop-modifier.modifier-index in
    record {
      within = c.moved-reached.ensures.within;
      words = c.moved-reached.ensures.words;
      same = ap (λ place. all_moved text place (drop (index + 1) modifiers)) c.moved-reached.ensures.value
          ∙ sym (at_drop_more (all_moved text c.loop-modifier.reached) modifiers index _ c.loop-modifier-test.true)
          ∙ c.loop-modifier.invariant.same;
    }

pub returns-clause-value : goal.returns-clause-value
returns-clause-value g c =
    let text = (g.G.Ground.widget c.args.ground.now).text in
    sym (ap (all_moved text c.loop-modifier.reached) (drop_all c.loop-modifier.modifier-index c.args.modifiers.now c.loop-modifier-test.false)) ∙ c.loop-modifier.invariant.same

pub returns-clause-within : goal.returns-clause-within
returns-clause-within g c = c.loop-modifier.invariant.within
