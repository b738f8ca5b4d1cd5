use Rattle.std.proofs.Common.{◌∙◌, sym}
use Rattle.rt_tree.proofs.homes.Homes.look_up.Goals as goal

pub returns-in-Some : goal.returns-in-Some
returns-in-Some c = let e = c.in-Some.ensures in record { sure = e.sure; home = e.home; with_stamp = e.has }

pub returns-then-is_nowhere : goal.returns-then-is_nowhere
returns-then-is_nowhere c = let none = c.is_nowhere.ensures c.if-is_nowhere.true in (none.0, sym c.leaf_of-leaf.ensures ∙ none.1)

pub returns-in-Some-locate : goal.returns-in-Some-locate
returns-in-Some-locate c = let e = c.in-Some-locate.ensures in record { sure = e.sure; home = e.home; with_stamp = e.has }
