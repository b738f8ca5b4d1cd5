use Rattle.std.proofs.Common.{suc, sym, arith}
use Rattle.rt_oplog.proofs.InRuns.{length_of, place_from}
use Rattle.rt_oplog.proofs.run.Run.place.Goals as goal

pub overflow_cast-result : goal.overflow_cast-result
overflow_cast-result c = omega (arith, length_of c.args.self, c.requires, c.args.self.fits)

pub overflow_add-result : goal.overflow_add-result
overflow_add-result c = omega (arith, length_of c.args.self, c.requires, c.args.self.fits)

pub returns : goal.returns
returns c = λ d. sym (place_from c.args.self.row c.args.self.at (suc c.args.self.more) c.args.number d (omega (arith, length_of c.args.self, c.requires)))
