-- Nodes without totals.
use Rattle.std.proofs.Common.{◌≡◌, ℕ, zero, suc, List, [], ◌∷◌, map, get_or, refl}
use Rattle.rt_nodes.specs.Nodes.{entries}
use Rattle.rt_tree.specs.declared.node.Entry.{Entry}
use Rattle.rt_tree.specs.Changes.{bare, links}
use Rattle.rt_tree.specs.Shape.{Memory}

pub at-map : (rows : List (List Entry)) (id : ℕ) → get_or (map (links) rows) id [] ≡ links (get_or rows id [])
at-map [] id = refl
at-map (r ∷ rows) zero = refl
at-map (r ∷ rows) (suc id) = at-map rows id

-- the links of a node
pub bare-entries : (m : Memory) (id : ℕ) → entries (bare m) id ≡ links (entries m id)
bare-entries m id = at-map m.rows id
