-- Documents and groups for the worked examples.
use Rattle.std.specs.Prelude.{ℕ, true, false, List, [], ◌∷◌}
use Rattle.rt_stamps.specs.declared.stamp.TheConstants.{FINAL, ROOT}
use Rattle.rt_stamps.specs.declared.stamp.Stamp.{Stamp}
use Rattle.rt_stamps.specs.Words.{Word}
use Rattle.rt_store.specs.Shown.{TaggedCell}
use Rattle.rt_tags.specs.Writers.{listed_by, state_after}
use Rattle.rt_rga.specs.Examples.{at, only_t}
use Rattle.rt_plans.specs.DocValue.{DocValue, new_doc}
use Rattle.rt_undo.specs.declared.action.Kind.TheVariants.{Insert, Delete}
use Rattle.rt_undo.specs.Actions.{Action}

-- a character, and one that is gone; the last newline
abbrev pub visible_cell : Stamp → ℕ → List Word → TaggedCell
visible_cell stamp ch tags = record { stamp = stamp; ch = ch; gone = false; state = state_after [] (listed_by ROOT tags) }

abbrev pub gone : Stamp → ℕ → List Word → TaggedCell
gone stamp ch tags = record (visible_cell stamp ch tags) { gone = true }

-- Site 1 typed `abc`, site 2 put `X` behind the `a`, and site 1 removed the `b`.
abbrev pub beside_x : DocValue
beside_x = record (new_doc 1 99) {
  cells = visible_cell (at 1 1) 97 [] ∷ visible_cell (at 4 2) 88 [] ∷ gone (at 2 1) 98 [] ∷ visible_cell (at 3 1) 99 [] ∷ visible_cell FINAL 10 [] ∷ [];
  count = 4;
}

-- the removal of the `b`, and the insertion of `abc`; this one by the stamps that its characters have when the `b` came back
abbrev pub b_removed : Action (List Word)
b_removed = record { number = 4; kind = Delete; inserted = []; removed = record { stamp = at 2 1; tags = [] } ∷ [] }

abbrev pub abc_inserted : Action (List Word)
abc_inserted = record { number = 1; kind = Insert; inserted = at 1 1 ∷ at 5 1 ∷ at 3 1 ∷ []; removed = [] }

-- the removal of the `c`, which is there
abbrev pub c_removed : Action (List Word)
c_removed = record b_removed { removed = record { stamp = at 3 1; tags = [] } ∷ [] }

-- `ab` typed, and the `b` removed, in one group
abbrev pub b_gone : DocValue
b_gone = record (new_doc 1 99) { cells = visible_cell (at 1 1) 97 [] ∷ gone (at 2 1) 98 [] ∷ visible_cell FINAL 10 [] ∷ []; count = 3 }

abbrev pub both_actions : List (Action (List Word))
both_actions = record { number = 1; kind = Insert; inserted = at 1 1 ∷ at 2 1 ∷ []; removed = [] } ∷ record b_removed { number = 3 } ∷ []

-- an `a` with the tag t, which was removed, and its removal
abbrev pub tagged_gone : DocValue
tagged_gone = record (new_doc 1 99) { cells = gone (at 1 1) 97 only_t ∷ visible_cell FINAL 10 [] ∷ []; count = 2 }

abbrev pub tagged_removed : Action (List Word)
tagged_removed = record { number = 2; kind = Delete; inserted = []; removed = record { stamp = at 1 1; tags = only_t } ∷ [] }

-- Site 1 typed `abc`, and site 2 removed the `b`; then site 2 undid that.
abbrev pub without_b : DocValue
without_b = record (new_doc 1 99) {
  cells = visible_cell (at 1 1) 97 [] ∷ gone (at 2 1) 98 [] ∷ visible_cell (at 3 1) 99 [] ∷ visible_cell FINAL 10 [] ∷ [];
  count = 4;
}

abbrev pub with_b_again : DocValue
with_b_again = record (new_doc 1 99) {
  cells = visible_cell (at 1 1) 97 [] ∷ gone (at 2 1) 98 [] ∷ visible_cell (at 5 2) 98 [] ∷ visible_cell (at 3 1) 99 [] ∷ visible_cell FINAL 10 [] ∷ [];
  count = 5;
}

-- the insertion of `abc`, as a group
abbrev pub abc_typed : List (Action (List Word))
abc_typed = record { number = 1; kind = Insert; inserted = at 1 1 ∷ at 2 1 ∷ at 3 1 ∷ []; removed = [] } ∷ []
