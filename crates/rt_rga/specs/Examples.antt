-- The operations of the worked examples. Site 1 wrote `ab`, so `a` is (1,1) and `b` is (2,1).
use Rattle.std.specs.Prelude.{ℕ, Bool, false, true, List, [], ◌∷◌, codes, map, slice_index_or}
use Rattle.rt_stamps.specs.declared.stamp.Stamp.{Stamp}
use Rattle.rt_stamps.specs.declared.stamp.TheConstants.{ROOT}
use Rattle.rt_store.specs.Cells.{text_of, visible_of}
use Rattle.rt_tags.specs.States.{is_on}
use Rattle.rt_ops.specs.Operations.{Name, Operation, Insert, Delete, Tag}
use Rattle.rt_ops.specs.Examples.{span}
use Rattle.rt_rga.specs.Answers.{all_taken}
use Rattle.rt_rga.specs.Cells.{cells_of}
use Rattle.rt_rga.specs.Requests.{Make, Offer, ReplicaRequest}
use Rattle.rt_store.specs.Shown.{TaggedCell}
use Rattle.rt_rga.specs.Texts.{TaggedCharacter, tagged_text}

abbrev pub at : ℕ → ℕ → Stamp
at count site = record { count = count; site = site }

-- the cells after operations were offered one after the other, the visible text, and where the tag `t` is on
abbrev pub cells_after : List Operation → List TaggedCell
cells_after ops = cells_of (all_taken ops [])

abbrev pub text_after : List Operation → List ℕ
text_after ops = text_of (cells_after ops)

abbrev pub text_with_tags : List Operation → List TaggedCharacter
text_with_tags ops = tagged_text (cells_after ops)

abbrev pub tagged_after : List Operation → List Bool
tagged_after ops = map (λ cell. is_on (codes "t") cell.state) (visible_of (cells_after ops))

-- the tag `t` alone
abbrev pub only_t : List Name
only_t = codes "t" ∷ []

-- a character with its tags
abbrev pub tagged : List ℕ → List Name → TaggedCharacter
tagged character tags = record { ch = slice_index_or character 0 0; tags = tags }

abbrev pub insert_ab : Operation
insert_ab = record { count = 1; site = 1; prev = 0; body = Insert ROOT [] (codes "ab") }

-- behind `a`, by site 1 and by site 2, neither of which knows of the other
abbrev pub insert_xx : Operation
insert_xx = record { count = 3; site = 1; prev = 2; body = Insert (at 1 1) [] (codes "XX") }

abbrev pub insert_y : Operation
insert_y = record { count = 3; site = 2; prev = 0; body = Insert (at 1 1) [] (codes "Y") }

-- site 1 removes `b`, and site 2 puts `Z` in behind it
abbrev pub delete_b : Operation
delete_b = record { count = 3; site = 1; prev = 2; body = Delete (span 1 2 2 ∷ []) }

abbrev pub insert_z : Operation
insert_z = record { count = 3; site = 2; prev = 0; body = Insert (at 2 1) [] (codes "Z") }

-- `ab` with the tag t, which site 1 takes off `a` and puts on it again
abbrev pub insert_tagged_ab : Operation
insert_tagged_ab = record { count = 1; site = 1; prev = 0; body = Insert ROOT only_t (codes "ab") }

abbrev pub tag_off_by_1 : Operation
tag_off_by_1 = record { count = 3; site = 1; prev = 2; body = Tag false (codes "t") (span 1 1 1 ∷ []) }

abbrev pub tag_on_by_1 : Operation
tag_on_by_1 = record { count = 4; site = 1; prev = 3; body = Tag true (codes "t") (span 1 1 1 ∷ []) }

-- site 2 takes it off too, at once or after an insertion
abbrev pub tag_off_by_2 : Operation
tag_off_by_2 = record { count = 3; site = 2; prev = 0; body = Tag false (codes "t") (span 1 1 1 ∷ []) }

abbrev pub insert_q : Operation
insert_q = record { count = 3; site = 2; prev = 0; body = Insert (at 2 1) [] (codes "q") }

abbrev pub tag_off_by_2_later : Operation
tag_off_by_2_later = record { count = 4; site = 2; prev = 3; body = Tag false (codes "t") (span 1 1 1 ∷ []) }

-- another first operation of site 1
abbrev pub insert_b : Operation
insert_b = record { count = 1; site = 1; prev = 0; body = Insert ROOT [] (codes "b") }

-- goes after its own character
abbrev pub insert_after_itself : Operation
insert_after_itself = record { count = 1; site = 1; prev = 0; body = Insert (at 1 1) [] (codes "a") }

-- names the final newline, whose stamp is less than (1,1)
abbrev pub delete_final : Operation
delete_final = record { count = 1; site = 1; prev = 0; body = Delete (span 0 1 1 ∷ []) }

abbrev pub tag_final : Operation
tag_final = record { count = 1; site = 1; prev = 0; body = Tag true (codes "t") (span 0 1 1 ∷ []) }

-- goes after (3,1), which is the stamp of the Delete of `b`
abbrev pub insert_after_delete : Operation
insert_after_delete = record { count = 4; site = 2; prev = 0; body = Insert (at 3 1) [] (codes "Y") }

-- goes after a count 0, which no site gives
abbrev pub insert_after_zero : Operation
insert_after_zero = record { count = 1; site = 1; prev = 0; body = Insert (at 0 5) [] (codes "a") }

-- site 1 writes `ab`, is offered `Y` of site 2 and its own `ab`, and writes `XX` behind `a`
abbrev pub asked_of_1 : List ReplicaRequest
asked_of_1 = Make (insert_ab.body ∷ []) ∷ Offer insert_y ∷ Offer insert_ab ∷ Make (insert_xx.body ∷ []) ∷ []
