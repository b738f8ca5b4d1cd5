-- What operations change, noted as they are put in one after the other.
use Rattle.std.proofs.Common.{◌≡◌, ◌∙◌, ℕ, ◌+◌, ◌≤◌, false, List, ◌++◌, ap, arith, drop, length, map, refl, subst, sym}
use Rattle.std.specs.List.{IsDistinct}
use Rattle.std.proofs.lemmas.List.{length-append, length-drop, length-map}
use Rattle.rt_stamps.specs.declared.stamp.Stamp.{Stamp}
use Rattle.rt_stamps.specs.declared.stamp.TheConstants.{FINAL}
use Rattle.rt_stamps.specs.Stamps.{is_same}
use Rattle.rt_ops.specs.Operations.{Operation, Body, Insert, Delete, Tag, Name, stamp_of}
use Rattle.rt_store.specs.declared.cell.Cell.{Cell}
use Rattle.rt_store.specs.Cells.{AreDistinct, IsPlaced, stamps_of}
use Rattle.rt_store.specs.Shown.{shown, TaggedCell}
use Rattle.rt_store.proofs.Shown.{stamps_shown}
use Rattle.rt_tags.specs.States.{TagStates, state_at}
use Rattle.rt_rga.specs.Cells.{cells_of, deletes}
use Rattle.rt_rga.specs.Histories.{IsHistory}
use Rattle.rt_rga.specs.Making.{CanBePut, fresh_by, put_by_kept}
use Rattle.rt_rga.specs.Requests.{characters_in}
use Rattle.rt_rga.proofs.Corollaries.{cells_distinct}
use Rattle.rt_rga.proofs.Planned.{stamps_keep}
use Rattle.rt_rga.proofs.Putting.{length_fresh, put_length}

-- ONE OPERATION

-- what a store asks of an operation says where an Insert goes, and that a Delete leaves the last newline
pub goes_in : (stamp : Stamp) (body : Body) (new kept : List (Cell ℕ)) → CanBePut stamp body new kept → (after : Stamp) (tags : List Name) (text : List ℕ) → body ≡ Insert after tags text → IsPlaced kept after stamp
goes_in stamp body new kept can after tags text e = (subst (λ (b : Body). CanBePut stamp b new kept) e can).0

pub newline_stays : (stamp : Stamp) (body : Body) (new kept : List (Cell ℕ)) → CanBePut stamp body new kept → deletes body FINAL ≡ false
newline_stays stamp (Insert after tags text) new kept can = refl
newline_stays stamp (Delete spans) new kept can = can
newline_stays stamp (Tag on name spans) new kept can = refl

-- there are new cells for it
pub enough_left : (table : TagStates) (stamp : Stamp) (body : Body) (new : List (Cell ℕ)) (rest : List TaggedCell) → map (shown table) new ≡ fresh_by stamp body ++ rest → characters_in body ≤ length new
enough_left table stamp body new rest e =
    let m = length-map new (shown table) in
    let s = ap (λ (cells : List TaggedCell). length cells) e in
    let a = length-append (fresh_by stamp body) rest in
    let f = length_fresh stamp body in
    omega (arith, m, s, a, f)

-- SEVERAL

-- no two cells of a store have one stamp that are those of a history but for their states
pub alike_distinct : (log : List Operation) (table : TagStates) (f : TaggedCell → TaggedCell) (kept : List (Cell ℕ)) (known : List TaggedCell) → IsHistory log → ((c : TaggedCell) → (f c).stamp ≡ c.stamp)
    → map (shown table) kept ≡ known → map f known ≡ cells_of log → AreDistinct kept
alike_distinct log table f kept known h stamps is all =
    let same : stamps_of kept ≡ stamps_of (cells_of log) = sym (stamps_shown (state_at table) kept) ∙ ap (λ (cells : List TaggedCell). stamps_of cells) is ∙ sym (stamps_keep f stamps known) ∙ ap (λ (cells : List TaggedCell). stamps_of cells) all in
    subst (λ (stamps : List Stamp). IsDistinct is_same stamps) (sym same) (cells_distinct log h)

-- the cells that are kept and those that are left are as many as before
pub cells_in_all : (op : Operation) (table : TagStates) (new now kept cells : List (Cell ℕ)) (rest : List TaggedCell) (n : ℕ) → now ≡ drop (characters_in op.body) new
    → cells ≡ put_by_kept (stamp_of op) op.body new kept → CanBePut (stamp_of op) op.body new kept → map (shown table) new ≡ fresh_by (stamp_of op) op.body ++ rest
    → length kept + length new ≡ n → length cells + length now ≡ n
cells_in_all op table new now kept cells rest n d k can e h =
    let m = enough_left table (stamp_of op) op.body new rest e in
    let p = put_length (stamp_of op) op.body new kept can in
    let s = ap (λ (xs : List (Cell ℕ)). length xs) k in
    let t = ap (λ (xs : List (Cell ℕ)). length xs) d in
    let u = length-drop (characters_in op.body) new in
    omega (arith, m, p, s, t, u, h)
