use Rattle.std.proofs.Common.{◌≡◌, suc, ◌+◌, ◌-◌, ◌++◌, ap, ◌∙◌, arith}
use Rattle.rt_oplog.specs.Runs.{places_from}
use Rattle.rt_oplog.proofs.InRuns.{from_more, length_from, length_of}
use Rattle.rt_oplog.proofs.run.Run.cut.Goals as goal

pub overflow_cast-front : goal.overflow_cast-front
overflow_cast-front c = omega (arith, length_of c.args.self, c.requires.within, c.args.self.fits)

pub overflow_cast-back : goal.overflow_cast-back
overflow_cast-back c = omega (arith, length_of c.args.self, c.requires.within, c.args.self.fits)

pub overflow_add-back : goal.overflow_add-back
overflow_add-back c = omega (arith, length_of c.args.self, c.requires.within, c.args.self.fits)

pub overflow_cast-back-2 : goal.overflow_cast-back-2
overflow_cast-back-2 c = omega (arith, length_of c.args.self, c.requires.within, c.args.self.fits)

pub overflow_sub-back : goal.overflow_sub-back
overflow_sub-back c = omega (arith, length_of c.args.self, c.requires.within)

pub invariant_of-front : goal.invariant_of-front
invariant_of-front c = omega (arith, length_of c.args.self, c.requires.within, c.requires.some, c.args.self.fits)

pub invariant_of-back : goal.invariant_of-back
invariant_of-back c = omega (arith, length_of c.args.self, c.requires.within, c.args.self.fits)

pub returns-clause-places : goal.returns-clause-places
returns-clause-places c =
    let self = c.args.self in
    let n = c.args.number in
    let all : suc self.more ≡ n + suc (self.more - n) = omega (arith, length_of self, c.requires.within) in
    let front : n ≡ suc (n - 1) = omega (arith, c.requires.some) in
    ap (places_from self.row self.at) all ∙ from_more self.row self.at n (suc (self.more - n)) ∙ ap (λ k. places_from self.row self.at k ++ places_from self.row (self.at + n) (suc (self.more - n))) front

pub returns-clause-number : goal.returns-clause-number
returns-clause-number c =
    omega (arith, length_from c.args.self.row c.args.self.at (suc (c.args.number - 1)), c.requires.some)
