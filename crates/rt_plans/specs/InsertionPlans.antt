-- What the plan of an insertion stands for, and a typed character.
use Rattle.std.specs.Prelude.{◌≡◌, ℕ, ◌+◌, false, List, [], ◌∷◌, ◌++◌, length, map, Option, None, Some}
use Rattle.rt_stamps.specs.declared.stamp.Stamp.{Stamp}
use Rattle.rt_stamps.specs.Words.{Word, as_words}
use Rattle.rt_plans.specs.declared.inserting.Between.{Between}
use Rattle.rt_plans.specs.declared.inserting.Plan.{Plan}
use Rattle.rt_plans.specs.declared.inserting.Typed.{Typed}
use Rattle.rt_plans.specs.Insertions.{Insertion, all_listed, selected_with}
use Rattle.rt_plans.specs.Selections.{with_stamps}

-- a selection that has both neighbours gets the characters between them
abbrev pub selected_between : Option Between → List Stamp → List Stamp
selected_between None selection = selection
selected_between (Some between) selection = selected_with between.left between.right between.stamps selection

-- a plan for a widget with a selection, beside others with theirs, where some tags are listed: it has as many characters as the
-- insertion, and comes to its selections and listed tags
pub record Plans (plan : Plan) (selection : List Stamp) (selections : List (List Stamp)) (listed : List Word) (new : Insertion) : Type 0 where
  pub characters : plan.characters ≡ length new.cells
  pub sel : with_stamps plan.selected.items selection ≡ new.sel
  pub others : map (selected_between plan.between) selections ≡ new.others
  pub tags : all_listed (as_words plan.names.items) listed ≡ new.tags

-- A typed character is one more cell, without tags, with the count after one. The widget doesn't select it; another one does that
-- has both neighbours.
abbrev pub with_typed : ℕ → Typed → Insertion → Insertion
with_typed site typed so_far =
    let stamp : Stamp = record { count = so_far.count + 1; site = site } in
    record so_far {
      cells = so_far.cells ++ record { stamp = stamp; ch = typed.character; gone = false; state = [] } ∷ [];
      count = so_far.count + 1;
      others = map (selected_with typed.left typed.right (stamp ∷ [])) so_far.others;
    }
