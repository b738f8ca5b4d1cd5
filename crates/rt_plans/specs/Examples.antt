-- The cells of the worked examples.
use Rattle.std.specs.Prelude.{ℕ, zero, suc, ◌+◌, false, List, [], ◌∷◌, ◌++◌, map, codes, Option, Some}
use Rattle.rt_store.specs.Cells.{cells_from, visible_of}
use Rattle.rt_store.specs.Shown.{TaggedCell}
use Rattle.rt_stamps.specs.declared.limits.TheConstants.{GREATEST_COUNT}
use Rattle.rt_stamps.specs.declared.stamp.TheConstants.{FINAL, ROOT}
use Rattle.rt_stamps.specs.Words.{Word}
use Rattle.rt_ops.specs.Operations.{Operation, Insert}
use Rattle.rt_tags.specs.States.{names_on}
use Rattle.rt_tags.specs.Tags.{sel}
use Rattle.rt_tags.specs.Writers.{listed_by, state_after}
use Rattle.rt_rga.specs.Examples.{at, only_t}
use Rattle.rt_plans.specs.DocValue.{DocValue, new_doc}
use Rattle.rt_plans.specs.Insertions.{Insertion, Piece}

-- site 2 wrote `Y`, which is (3,2), before the `ab` of site 1, which are (1,1) and (2,1)
abbrev pub cells_of_yab : List TaggedCell
cells_of_yab = cells_from 3 2 [] (codes "Y") ++ cells_from 1 1 [] (codes "ab")

-- these cells where `a` has the tag t, and a document of site 3 with them
abbrev pub cells_with_t : List TaggedCell
cells_with_t = cells_from 3 2 [] (codes "Y") ++ cells_from 1 1 (state_after [] (listed_by ROOT only_t)) (codes "a") ++ cells_from 2 1 [] (codes "b")

abbrev pub doc_with_t : DocValue
doc_with_t = record (new_doc 3 9) { cells = cells_with_t; count = 3 }

-- that document with the last newline, which has the tag t too
abbrev pub doc_with_newline : DocValue
doc_with_newline = record doc_with_t {
  cells = cells_with_t ++ record { stamp = FINAL; ch = 10; gone = false; state = state_after [] (listed_by ROOT only_t) } ∷ [];
}

-- the lines `a`, `b`, `c` and `d`, of site 1, each character of which has the tag t, and the last newline
abbrev pub doc_of_lines : DocValue
doc_of_lines = record (new_doc 3 9) {
  cells = cells_from 1 1 (state_after [] (listed_by (at 1 1) only_t)) (codes "a\nb\nc\nd") ++ record { stamp = FINAL; ch = 10; gone = false; state = [] } ∷ [];
  count = 7;
}

-- the tags on each character of a text
abbrev pub tags_of_each : List TaggedCell → List (List Word)
tags_of_each cells = map (λ cell. names_on cell.state) (visible_of cells)

-- so many names of two bytes each: a first one, and a second one from one on
abbrev pub names_from : ℕ → ℕ → ℕ → List Word
names_from zero first second = []
names_from (suc n) first second = (first ∷ second ∷ []) ∷ names_from n first (second + 1)

-- as many tags as an Insert lists, `a0` to `a~`, those of `b` and `c`, and `d0` to `dA`, and one more
abbrev pub listed_tags : List Word
listed_tags = names_from 79 97 48 ++ (names_from 79 98 48 ++ (names_from 79 99 48 ++ names_from 18 100 48))

abbrev pub all_tags : List Word
all_tags = listed_tags ++ codes "u" ∷ []

-- pieces `ab` with the tag t and `c` without a tag
abbrev pub two_pieces : List Piece
two_pieces = record { text = codes "ab"; tags = only_t } ∷ record { text = codes "c"; tags = [] } ∷ []

-- these two pieces with an empty one between them
abbrev pub three_pieces : List Piece
three_pieces =
    record { text = codes "ab"; tags = only_t } ∷ record { text = []; tags = codes "u" ∷ [] } ∷ record { text = codes "c"; tags = [] } ∷ []

-- a piece whose list has `sel`, and a name twice
abbrev pub piece_with_sel : List Piece
piece_with_sel = record { text = codes "ab"; tags = codes "t" ∷ sel ∷ codes "t" ∷ [] } ∷ []

-- a neighbour of the place, with the tag u
abbrev pub with_u : Option TaggedCell
with_u = Some (record { stamp = at 1 2; ch = 120; gone = false; state = state_after [] (listed_by ROOT (codes "u" ∷ [])) })

abbrev pub nothing_yet : ℕ → Insertion
nothing_yet count = record { cells = []; count = count; sel = []; others = []; tags = [] }

-- a log with the greatest count
abbrev pub log_at_end : List Operation
log_at_end = record { count = GREATEST_COUNT; site = 2; prev = 0; body = Insert ROOT [] (codes "z") } ∷ []
