-- What a `NodeMem` ends as, once a `&mut` into it has ended.
use Rattle.std.specs.Prelude.{ℕ}
use Rattle.std.specs.Borrow.{Lends, Fml, RattleType, MutBor}
use Rattle.rt_nodes.specs.Nodes.{Nodes, with_head, with_entry}
use Rattle.rt_nodes.specs.contracts.memory.NodeMem.{the_row}

module _ (H E CAP : RattleType) (m : MutBor (Nodes H.Denot E.Denot)) (id : ℕ) where
  -- once r ends, the node at the id has the last header written through r, and nothing else has changed
  abbrev pub lends_head : MutBor H.Denot → Fml
  lends_head r = Lends (the_row H E CAP) H m r (with_head m.now id)

  -- once r ends, that entry of that node is the last one written through r, and nothing else has changed
  abbrev pub lends_entry : ℕ → MutBor E.Denot → Fml
  lends_entry i r = Lends (the_row H E CAP) E m r (with_entry m.now id i)
