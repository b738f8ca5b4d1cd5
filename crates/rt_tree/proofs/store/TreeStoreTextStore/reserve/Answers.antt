use Rattle.std.proofs.Common.{Result, Ok, Err, OnErr, OnOk, ap, subst, sym, ◌∙◌}
use Rattle.rt_store.specs.Cells.{EndsFinal}
use Rattle.rt_tree.specs.Trees.{TreeValue}
use Rattle.rt_tree.proofs.Showing.{SameTree, same_back, same_tree}
use Rattle.rt_tree.proofs.store.TreeStoreTextStore.reserve.Goals as goal

either : {A E : Type 0} (r : Result A E) (P Q R : Type 0) → OnOk r P → OnErr r Q → (P → R) → (Q → R) → R
either (Ok x) P Q R p q f g = f p
either (Err e) P Q R p q f g = g q

pub invariant_of-self : goal.invariant_of-self
invariant_of-self c =
    let old = c.args.self.now in let tree = c.reserve.new.self in let e = c.reserve.ensures in
    let same : SameTree old.tree tree = either c.reserve.result _ _ (SameTree old.tree tree) e.same e.unchanged
    (λ s. record { cells = ap (λ (v : TreeValue). v.cells) s; stretches = ap (λ (v : TreeValue). v.stretches) s })
    (λ s. record { cells = ap (λ (v : TreeValue). v.cells) s; stretches = ap (λ (v : TreeValue). v.stretches) s }) in
    record {
      ends = subst EndsFinal (sym same.cells) old.ends;
      later = λ a b keeps agrees. same_tree b old.tree tree same (old.later a b keeps (same_back a old.tree tree same agrees));
      fresh = λ table is given. same_tree table old.tree tree same (old.fresh table (sym same.cells ∙ is) given);
    }
