use Rattle.std.proofs.Common.{◌≡◌, ◌≤◌, ◌+◌, arith}
use Rattle.rt_search.proofs.Lines.{line_starts, lines_few}
use Rattle.rt_search.proofs.walk.Walk.at.Goals as goal

pub returns-clause-stands : goal.returns-clause-stands
returns-clause-stands g c =
    let text = c.args.text.now in
    record {
      within = omega arith;
      line = c.line_at-line.ensures.line;
      start = c.line_at-line.ensures.start;
      few = omega (arith, c.line_at-line.ensures.line, lines_few text c.args.place);
      before = omega (arith, c.line_at-line.ensures.start, line_starts text c.args.place);
      shows = c.new.ensures text;
    }
