-- Equal logs show equal text.
use Rattle.std.proofs.Common.{◌≡◌, ◌↔◌, ℕ, Bool, true, false, not, All, refl, sym, ap, subst, ◌∙◌, List, [], ◌∷◌, cond, map}
use Rattle.std.proofs.lemmas.List.Elements.{All-from_recursion}
use Rattle.std.specs.List.{AllByRecursion}
use Rattle.rt_stamps.specs.declared.stamp.Stamp.{Stamp}
use Rattle.rt_store.specs.declared.cell.Cell.{Cell}
use Rattle.rt_store.specs.Cells.{map_state, stamps_of, text_of, visible_of}
use Rattle.rt_tags.specs.States.{IsByName, TagStates, is_on, names_on, state_at}
use Rattle.rt_tags.specs.Tags.{HaveNoRepeats, is_listed}
use Rattle.rt_tags.specs.Writers.{is_shared, state_after}
use Rattle.rt_tags.proofs.Commuting.{on_is_listed, on_once}
use Rattle.rt_ops.specs.Operations.{Operation, Name}
use Rattle.rt_oplog.specs.Logs.{AreOf}
use Rattle.rt_rga.specs.Reading.{Character, reading_by_stamp}
use Rattle.rt_rga.specs.Histories.{IsHistory, characters}
use Rattle.rt_rga.specs.Cells.{cell_in, cells_of, stamped_writes_on, writes_on}
use Rattle.rt_rga.specs.Replicas.{IsReplica}
use Rattle.rt_rga.specs.Texts.{TaggedCharacter, tagged_text}
use Rattle.rt_rga.proofs.Accepting.{one_list}
use Rattle.rt_rga.proofs.Merging.{cells_are, map_map}
use Rattle.rt_rga.proofs.Shared.{shared_is}
use Rattle.rt_store.proofs.Shown.{stamps_shown}
use Rattle.rt_store.specs.Shown.{shown, TaggedCell}
use Rattle.rt_rga.proofs.Writes.{state_sorted}

-- WHAT TWO REPLICAS SHOW

pub shown_alike : (one other : List Operation) (table tags : TagStates) (kept more : List (Cell ℕ)) → IsReplica one table kept → IsReplica other tags more
    → AreOf one other → map (shown table) kept ≡ map (shown tags) more
shown_alike one other table tags kept more r q same = r.cells ∙ ap cells_of (one_list one other r.history q.history same) ∙ sym q.cells

pub text_alike : (one other : List Operation) (table tags : TagStates) (kept more : List (Cell ℕ)) → IsReplica one table kept → IsReplica other tags more
    → AreOf one other → tagged_text (map (shown table) kept) ≡ tagged_text (map (shown tags) more)
text_alike one other table tags kept more r q same = ap tagged_text (shown_alike one other table tags kept more r q same)

-- a text with its tags has the characters of the text
pub tagged_characters : (cells : List TaggedCell) → map (λ (c : TaggedCharacter). c.ch) (tagged_text cells) ≡ text_of cells
tagged_characters cells = map_map (λ (c : TaggedCharacter). c.ch) (λ (cell : TaggedCell). record { ch = cell.ch; tags = names_on cell.state }) (visible_of cells)

text_shown : {S T : Type 0} (f : S → T) (cells : List (Cell S)) → text_of (map (map_state f) cells) ≡ text_of cells
text_shown f [] = refl
text_shown {S} {T} f (c ∷ cs) = by c.gone (text_shown f cs)
  where
    by : (b : Bool) → text_of (map (map_state f) cs) ≡ text_of cs
        → map (λ (cell : Cell T). cell.ch) (cond (not b) (map_state f c ∷ visible_of (map (map_state f) cs)) (visible_of (map (map_state f) cs)))
        ≡ map (λ (cell : Cell S). cell.ch) (cond (not b) (c ∷ visible_of cs) (visible_of cs))
    by true h = h
    by false h = ap (λ t. c.ch ∷ t) h

-- the characters of the kept cells are those of the cells
pub text_kept : (log : List Operation) (table : TagStates) (kept : List (Cell ℕ)) → IsReplica log table kept → text_of kept ≡ text_of (cells_of log)
text_kept log table kept r = sym (text_shown (state_at table) kept) ∙ ap text_of r.cells

-- and so are their stamps
pub stamps_kept : (log : List Operation) (table : TagStates) (kept : List (Cell ℕ)) → IsReplica log table kept → stamps_of kept ≡ stamps_of (cells_of log)
stamps_kept log table kept r = sym (stamps_shown (state_at table) kept) ∙ ap stamps_of r.cells

-- THE TAGS OF A CELL

every_cell : (set : List Operation) (P : TaggedCell → Type 0) → ((c : Character) → P (cell_in set c)) → (xs : List Character) → AllByRecursion P (map (cell_in set) xs)
every_cell set P f [] = tt
every_cell set P f (x ∷ xs) = (f x, every_cell set P f xs)

pub all_cells_of : (set : List Operation) → IsHistory set → (P : TaggedCell → Type 0) → ((c : Character) → P (cell_in set c)) → All P (cells_of set)
all_cells_of set h P f = All-from_recursion P (cells_of set) (subst (AllByRecursion P) (sym (cells_are set h)) (every_cell set P f (reading_by_stamp (characters set))))

pub shared_on : (set : List Operation) (name : Name) → IsHistory set → All (λ (cell : TaggedCell). is_on name cell.state ≡ is_shared name (stamped_writes_on set cell.stamp)) (cells_of set)
shared_on set name h = all_cells_of set h (λ (cell : TaggedCell). is_on name cell.state ≡ is_shared name (stamped_writes_on set cell.stamp)) (λ c. shared_is set h c.stamp name)

sorted_on : (set : List Operation) (s : Stamp) → IsByName (state_after [] (writes_on set s))
sorted_on set s = state_sorted [] (writes_on set s) tt

pub shared_listed : (set : List Operation) (name : Name) → IsHistory set → All (λ (cell : TaggedCell). is_listed name (names_on cell.state) ≡ is_shared name (stamped_writes_on set cell.stamp)) (cells_of set)
shared_listed set name h = all_cells_of set h (λ (cell : TaggedCell). is_listed name (names_on cell.state) ≡ is_shared name (stamped_writes_on set cell.stamp))
    (λ c. sym (on_is_listed name (state_after [] (writes_on set c.stamp)) (sorted_on set c.stamp)) ∙ shared_is set h c.stamp name)

pub listed_once : (set : List Operation) → IsHistory set → All (λ (cell : TaggedCell). HaveNoRepeats (names_on cell.state)) (cells_of set)
listed_once set h = all_cells_of set h (λ (cell : TaggedCell). HaveNoRepeats (names_on cell.state)) (λ c. on_once (state_after [] (writes_on set c.stamp)) (sorted_on set c.stamp))
