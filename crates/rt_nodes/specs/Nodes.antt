-- What a contract sees of a `NodeMem`: a map from ids to a header and a row of entries.
use Rattle.std.specs.Prelude.{ℕ, ◌-◌, ◌<◌, List, [], ◌∷◌, ◌++◌, length, slice_index_or, slice_set, refl}
use Rattle.std.specs.Coded.{Coded, code_by, coded×, coded_ℕ, coded_list}

-- the header and the entries of the node i stand at the place i of the two lists, and room more nodes can be made
pub record Nodes (H E : Type 0) : Type 0 where
  pub heads : List H
  pub rows : List (List E)
  pub room : ℕ

abbrev pub nodes_code : {H E : Type 0} → Coded H → Coded E → Coded (Nodes H E)
nodes_code {H} {E} h e =
    code_by (List H × (List (List E) × ℕ)) (coded× (coded_list h) (coded× (coded_list (coded_list e)) coded_ℕ))
    (λ m. (m.heads, (m.rows, m.room))) (λ p. record { heads = p.0; rows = p.1.0; room = p.1.1 }) (λ _. refl)

module _ {H E : Type 0} where
  abbrev pub no_nodes : Nodes H E
  no_nodes = record { heads = []; rows = []; room = 0 }

  -- the id names a node
  abbrev pub IsNode : Nodes H E → ℕ → Type 0
  IsNode m id = (id < length m.heads) × (id < length m.rows)

  -- the entries of a node
  abbrev pub entries : Nodes H E → ℕ → List E
  entries m id = slice_index_or m.rows id []

  -- m with the header h at the id; all else stays
  abbrev pub with_head : Nodes H E → ℕ → H → Nodes H E
  with_head m id h = record m { heads = slice_set m.heads id h }

  -- m with the entries es at the id; all else stays
  abbrev pub with_entries : Nodes H E → ℕ → List E → Nodes H E
  with_entries m id es = record m { rows = slice_set m.rows id es }

  -- m with the entry e at the place i of the node at the id; all else stays
  abbrev pub with_entry : Nodes H E → ℕ → ℕ → E → Nodes H E
  with_entry m id i e = with_entries m id (slice_set (entries m id) i e)

  -- m with one node more, in room that it had; all other nodes stay
  abbrev pub with_node : Nodes H E → H → Nodes H E
  with_node m h = record { heads = m.heads ++ h ∷ []; rows = m.rows ++ [] ∷ []; room = m.room - 1 }

  -- m with room for n more nodes; all nodes stay
  abbrev pub with_room : Nodes H E → ℕ → Nodes H E
  with_room m n = record m { room = n }
