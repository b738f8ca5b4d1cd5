use Rattle.rt_tests.proofs.stores.Pair.focus.Goals as goal

pub invariant_of-self : goal.invariant_of-self
invariant_of-self c =
    let pair = c.args.self.now in
    record {
      tag_given = pair.tag_given;
      tagged_given = pair.tagged_given;
      list_given = c.focus.ensures.agrees pair.states pair.list_given;
      tree_given = c.focus-2.ensures.agrees pair.states pair.tree_given;
    }
