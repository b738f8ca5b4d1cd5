use Rattle.rt_text.proofs.WholeText.{at_first, got_shown, got_whole}
use Rattle.rt_text.proofs.laws.whole_text.Goals as goal

pub returns-clause-first : goal.returns-clause-first
returns-clause-first c view ends = at_first view ends

pub returns-clause-got : goal.returns-clause-got
returns-clause-got c view ends = got_shown view ends

pub returns-clause-whole : goal.returns-clause-whole
returns-clause-whole c view ends none = got_whole view ends none
