use Rattle.std.proofs.Common.{◌≤◌, length, arith}
use Rattle.rt_index.specs.Characters.{is_word_character}
use Rattle.rt_index.specs.declared.words.TheConstants.{READ_CHARACTERS}
use Rattle.rt_index.proofs.Runs.{ends_before, goes_before}
use Rattle.rt_index.proofs.words.run_start.Goals as goal

pub loop-found-preserved : goal.loop-found-preserved
loop-found-preserved g c =
    let text = (g.G.Ground.widget c.args.ground.now).text in
    let so_far = c.loop-found.invariant.more c.loop-found-test.true in
    let read = c.run_before-found.ensures in
    let inside : c.loop-found.start ≤ length text = omega (arith, c.loop-found.invariant.within, c.requires) in
    record {
      within = omega (arith, c.loop-found.invariant.within);
      few = read.few;
      more = λ e. goes_before is_word_character text READ_CHARACTERS c.loop-found.start c.args.place c.run_before-found.result inside so_far read.value e read.within;
      done = λ h. ends_before is_word_character text READ_CHARACTERS c.loop-found.start c.args.place c.run_before-found.result so_far read.value h read.within;
    }
