use Rattle.std.proofs.Common.{◌-◌, ◌<◌, arith, length}
use Rattle.rt_search.proofs.Passing.{goes_further, leaves}
use Rattle.rt_search.proofs.pass.Pass.read.Goals as goal

pub overflow_add-place : goal.overflow_add-place
overflow_add-place g c = omega (arith, c.requires.fits c.nth-place.result c.nth-place.ensures.end)

pub overflow_add-self-2 : goal.overflow_add-self-2
overflow_add-self-2 g c = omega (arith, c.requires.fits (c.args.room.end - 1) (omega arith))

pub returns-clause-agrees : goal.returns-clause-agrees
returns-clause-agrees g c =
    let few : c.args.self.now.agreed < length c.args.pattern.now = omega arith in
    let further = goes_further c.args.search c.args.pattern.now c.args.text.now c.args.room c.args.self.now.start c.args.self.now.agreed c.nth-place.result c.read_at-ahead.result c.at-character.result c.further-agreed.result
    c.requires.within few c.nth-place.ensures.place c.read_at-ahead.ensures.value c.at-character.ensures.value c.requires.pass.agrees c.further-agreed.ensures.further in
    further.stands

pub returns-clause-left : goal.returns-clause-left
returns-clause-left g c =
    let few : c.args.self.now.agreed < length c.args.pattern.now = omega arith in
    leaves c.args.search c.args.pattern.now c.args.text.now c.args.room c.requires.fits c.args.self.now.start c.args.self.now.agreed c.further-agreed.result (omega arith)
    (goes_further c.args.search c.args.pattern.now c.args.text.now c.args.room c.args.self.now.start c.args.self.now.agreed c.nth-place.result c.read_at-ahead.result c.at-character.result c.further-agreed.result
    c.requires.within few c.nth-place.ensures.place c.read_at-ahead.ensures.value c.at-character.ensures.value c.requires.pass.agrees c.further-agreed.ensures.further)
