-- The marks of the worked examples.
use Rattle.std.specs.Prelude.{ℕ, List}
use Rattle.rt_marks.specs.declared.gravity.Gravity.TheVariants.{Left, Right}
use Rattle.rt_marks.specs.Marks.{Mark}

-- a mark of left gravity, and one of right gravity
abbrev pub left_mark : ℕ → List ℕ → Mark
left_mark place name = record { name = name; place = place; gravity = Left }

abbrev pub right_mark : ℕ → List ℕ → Mark
right_mark place name = record { name = name; place = place; gravity = Right }
