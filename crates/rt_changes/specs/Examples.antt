-- The operations of the worked examples.
use Rattle.std.specs.Prelude.{false, List, [], ◌∷◌, codes}
use Rattle.rt_ops.specs.Operations.{Operation, Insert, Delete, Tag}
use Rattle.rt_ops.specs.Examples.{span}
use Rattle.rt_rga.specs.Texts.{TaggedCharacter, tagged_text}
use Rattle.rt_stamps.specs.declared.stamp.TheConstants.{ROOT}
use Rattle.rt_rga.specs.Examples.{cells_after, only_t}
use Rattle.rt_changes.specs.Replays.{VisibleChange, replayed, changes_of}

-- site 1 writes `abcd`, the tag `t` on each, and takes `a`, `b` and `d` away, or the tag off `b` alone
abbrev pub insert_abcd : Operation
insert_abcd = record { count = 1; site = 1; prev = 0; body = Insert ROOT only_t (codes "abcd") }

abbrev pub delete_ab_d : Operation
delete_ab_d = record { count = 5; site = 1; prev = 4; body = Delete (span 1 1 2 ∷ span 1 4 4 ∷ []) }

abbrev pub tag_off_b : Operation
tag_off_b = record { count = 5; site = 1; prev = 4; body = Tag false (codes "t") (span 1 2 2 ∷ []) }

-- it takes the tag off all four then
abbrev pub tag_off_all : Operation
tag_off_all = record { count = 6; site = 1; prev = 5; body = Tag false (codes "t") (span 1 1 4 ∷ []) }

-- what an operation changes after others
abbrev pub changes_after : List Operation → Operation → List VisibleChange
changes_after ops op = changes_of op (cells_after ops)

-- those changes, replayed on the text after the others
abbrev pub replayed_after : List Operation → Operation → List TaggedCharacter
replayed_after ops op = replayed (changes_after ops op) (tagged_text (cells_after ops))
