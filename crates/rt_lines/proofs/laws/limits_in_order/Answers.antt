use Rattle.std.proofs.Common.{◌∙◌, sym}
use Rattle.rt_lines.proofs.ChosenOrder.{first_in_order, order_chosen}
use Rattle.rt_lines.proofs.InOrder.{none_in_order, order_grown, order_renamed, position_is}
use Rattle.rt_lines.proofs.laws.limits_in_order.Goals as goal

pub returns-clause-none : goal.returns-clause-none
returns-clause-none g c cells = none_in_order cells

pub returns-clause-chosen : goal.returns-clause-chosen
returns-clause-chosen g c cells start end limits chosen d f h e = order_chosen cells start end limits chosen d f h e

pub returns-clause-grown : goal.returns-clause-grown
returns-clause-grown g c cells more limits d f e a h = order_grown cells more limits d f e a h

pub returns-clause-came_back : goal.returns-clause-came_back
returns-clause-came_back g c cells limits former position new f a n h = order_renamed cells limits former position new (sym (position_is cells former) ∙ f) a n h

pub returns-clause-first : goal.returns-clause-first
returns-clause-first g c cells limits f h = first_in_order cells limits f h
