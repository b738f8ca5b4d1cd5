use Rattle.std.proofs.Common.{◌<◌, List, arith, length, subst, sym}
use Rattle.rt_tags.specs.SharedStates.{AreBelow, AreShared}
use Rattle.rt_tags.specs.declared.nodes.Node.{Node}
use Rattle.rt_tags.proofs.Putting.{small_at}
use Rattle.rt_tags.proofs.writing.write.Goals as goal

pub put-requires-clause-within : goal.put-requires-clause-within
put-requires-clause-within c =
    let same = sym c.in_ok-reserve.ensures.keys in
    small_at c.reserve.new.self.keys c.args.id (subst AreShared same c.requires.kept) (subst (λ (v : List Node). c.args.id < length v) same c.requires.given)

pub returns-clause-below : goal.returns-clause-below
returns-clause-below c = λ n below w. c.put.ensures.below n (subst (AreBelow n) (sym c.in_ok-reserve.ensures.keys) below) (let e = c.place-tag.ensures in omega (arith, e, w))
