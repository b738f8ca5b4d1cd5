use Rattle.rt_holding.proofs.Settling.{cells_in_turn, full_stays, none_left, nothing_tried, settled_settles, taken_in_turn}
use Rattle.rt_holding.proofs.laws.settling.Goals as goal

pub returns-clause-settles : goal.returns-clause-settles
returns-clause-settles c = settled_settles

pub returns-clause-none_left : goal.returns-clause-none_left
returns-clause-none_left c = none_left

pub returns-clause-taken : goal.returns-clause-taken
returns-clause-taken c = taken_in_turn

pub returns-clause-cells : goal.returns-clause-cells
returns-clause-cells c = cells_in_turn

pub returns-clause-full : goal.returns-clause-full
returns-clause-full c = full_stays

pub returns-clause-nothing : goal.returns-clause-nothing
returns-clause-nothing c = nothing_tried
