-- A list that is mostly of one, however it is kept.
use Rattle.std.specs.Prelude.{List, [], ◌∷◌}
use Rattle.rt_rga.specs.declared.one_or_many.OneOrMany.{OneOrMany}
use Rattle.rt_rga.specs.declared.one_or_many.OneOrMany.TheVariants.{One, Many}

module _ {T : Type 0} where
  -- the item that stands alone, or those of the list
  abbrev pub items_in : OneOrMany T → List T
  items_in (One item) = item ∷ []
  items_in (Many items) = items.items
