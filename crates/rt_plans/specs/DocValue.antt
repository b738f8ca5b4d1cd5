-- A document as a flat list of cells.
use Rattle.std.specs.Prelude.{ℕ, zero, suc, List, [], ◌∷◌, ◌++◌, take, drop, slice_get, unwrap_or, option_map}
use Rattle.rt_marks.specs.Marks.{Mark}
use Rattle.rt_ops.specs.Operations.{Body, Operation}
use Rattle.rt_rga.specs.Drafts.{with_drafts}
use Rattle.rt_stamps.specs.declared.stamp.Stamp.{Stamp}
use Rattle.rt_stamps.specs.declared.stamp.TheConstants.{ROOT}
use Rattle.rt_store.specs.declared.cell.Cell.{Cell}
use Rattle.rt_store.specs.Cells.{visible_of, after_element, final_cell, map_state}
use Rattle.rt_store.specs.Shown.{TaggedCell}
use Rattle.rt_tags.specs.Tags.{sel}

-- a document: its cells, its site, the most cells that it may have, its operations, the newest first, and the greatest count
-- of these, the site's marks in their order, and the tags that the site lists, lowest priority first
pub record DocValue : Type 0 where
  pub cells : List TaggedCell
  pub site : ℕ
  pub limit : ℕ
  pub log : List Operation
  pub count : ℕ
  pub marks : List Mark
  pub tags : List (List ℕ)

-- a new document is the final newline alone, without tags; it has no marks, and lists the tag `sel`
abbrev pub new_doc : ℕ → ℕ → DocValue
new_doc site limit = record { cells = map_state (λ _. []) final_cell ∷ []; site = site; limit = limit; log = []; count = 0; marks = []; tags = sel ∷ [] }

-- the stamp of the visible cell before a place, which is the root's at the beginning
abbrev pub left_stamp : {T : Type 0} → List (Cell T) → ℕ → Stamp
left_stamp cells zero = ROOT
left_stamp cells (suc place) = unwrap_or (option_map (λ cell. cell.stamp) (slice_get (visible_of cells) place)) ROOT

-- new cells, put in directly after an element
abbrev pub put_after : {T : Type 0} → List (Cell T) → Stamp → List (Cell T) → List (Cell T)
put_after cells left new = let at = after_element cells left in take at cells ++ new ++ drop at cells

-- an edited document, whose log has gained the operations that the site makes of drafts
abbrev pub logged : DocValue → List Body → DocValue → DocValue
logged doc drafts edited = record edited { log = with_drafts doc.site drafts doc.log }
