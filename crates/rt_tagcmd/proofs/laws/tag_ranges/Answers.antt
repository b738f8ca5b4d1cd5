use Rattle.rt_tagcmd.proofs.TagRangeLaws.{each_maximal, maximal_contained, place_covered, ranges_apart}
use Rattle.rt_tagcmd.proofs.laws.tag_ranges.Goals as goal

pub returns-clause-maximal : goal.returns-clause-maximal
returns-clause-maximal c s test characters = each_maximal test characters

pub returns-clause-covering : goal.returns-clause-covering
returns-clause-covering c s test characters place = place_covered test characters place

pub returns-clause-apart : goal.returns-clause-apart
returns-clause-apart c s test characters = ranges_apart test characters

pub returns-clause-each : goal.returns-clause-each
returns-clause-each c s test characters range = maximal_contained test characters range
