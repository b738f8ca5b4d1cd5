use Rattle.rt_lines.proofs.Whole.{shown_ends, stretch_some, stretch_whole, stretch_within}
use Rattle.rt_lines.proofs.laws.shown_lines.Goals as goal

pub returns-clause-all : goal.returns-clause-all
returns-clause-all c s cells h = stretch_whole cells h

pub returns-clause-some : goal.returns-clause-some
returns-clause-some c s cells limits h = stretch_some cells limits h

pub returns-clause-within : goal.returns-clause-within
returns-clause-within c s cells limits h = stretch_within cells limits h

pub returns-clause-newline : goal.returns-clause-newline
returns-clause-newline c s cells limits h = shown_ends cells limits h
