use Rattle.std.proofs.Common.{arith}
use Rattle.rt_index.specs.Characters.{is_word_character}
use Rattle.rt_index.specs.declared.words.TheConstants.{READ_CHARACTERS}
use Rattle.rt_index.proofs.Runs.{ends_after, goes_after}
use Rattle.rt_index.proofs.words.run_end.Goals as goal

pub overflow_add-end : goal.overflow_add-end
overflow_add-end g c = omega (arith, c.run_after-found.ensures.within, (g.met.G.Ground.proper c.args.ground.now).bounded)

pub loop-found-smaller : goal.loop-found-smaller
loop-found-smaller g c = omega (arith, c.run_after-found.ensures.within, c.loop-found-test.true)

pub loop-found-preserved : goal.loop-found-preserved
loop-found-preserved g c =
    let text = (g.G.Ground.widget c.args.ground.now).text in
    let so_far = c.loop-found.invariant.more c.loop-found-test.true in
    let read = c.run_after-found.ensures in
    record {
      within = read.within;
      few = read.few;
      more = λ e. goes_after is_word_character text READ_CHARACTERS c.loop-found.end c.args.place c.run_after-found.result so_far read.value e;
      done = λ h. ends_after is_word_character text READ_CHARACTERS c.loop-found.end c.args.place c.run_after-found.result so_far read.value h;
    }
