use Rattle.std.proofs.Common.{arith, ◌+◌, ◌-◌, ◌/◌}
use Rattle.rt_text.specs.Widgets.{shows_tag, cells_shown}
use Rattle.rt_tagcmd.proofs.LastRange.{begin_behind, through_one}
use Rattle.rt_tagcmd.proofs.tag_range.range_begin.Goals as goal

pub loop-low-init : goal.loop-low-init
loop-low-init g c = record {
  order = c.begin_from-low.ensures.within;
  within = omega arith;
  passes = through_one (shows_tag c.args.view.now.own c.args.name.now) (cells_shown c.args.view.now) c.args.place c.requires;
  least = c.begin_from-low.ensures.begin;
}

pub loop-low-preserved-then-all_tagged : goal.loop-low-preserved-then-all_tagged
loop-low-preserved-then-all_tagged g c = record {
  order = omega arith;
  within = omega (arith, c.loop-low.invariant.within, c.loop-low-test.true);
  passes = c.all_tagged.ensures.0 c.if-all_tagged.true;
  least = c.loop-low.invariant.least;
}

pub loop-low-preserved : goal.loop-low-preserved
loop-low-preserved g c = record {
  order = omega (arith, c.loop-low-test.true);
  within = c.loop-low.invariant.within;
  passes = c.loop-low.invariant.passes;
  least = begin_behind (shows_tag c.args.view.now.own c.args.name.now) (cells_shown c.args.view.now) c.args.place (c.loop-low.low + (c.loop-low.high - c.loop-low.low) / 2) c.all_tagged.result c.all_tagged.ensures c.if-all_tagged.false;
}

pub returns : goal.returns
returns g c = record {
  within = c.loop-low.invariant.within;
  passes = c.loop-low.invariant.passes;
  least = λ k h. omega (arith, c.loop-low.invariant.least k h, c.loop-low-test.false);
}
