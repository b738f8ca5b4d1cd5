use Rattle.std.proofs.Common.{inr, refl}
use Rattle.rt_ops.proofs.Parts.{no_content, decoded}
use Rattle.rt_ops.proofs.decode.decode.Goals as goal

pub returns-in-None : goal.returns-in-None
returns-in-None c = inr (refl, no_content {ver = c.args.version} c.args.bytes.now c.in-None.ensures.none)

pub returns-in-1 : goal.returns-in-1
returns-in-1 c = decoded {ver = c.args.version} 1 c.in-Some.found.0.stamp c.in-Some.found.0.prev c.args.bytes.now c.in-Some.found.1.now c.insert_of.result c.in-Some.ensures.fits.0 c.in-Some.ensures.fits.1 (rw c.in-1.is at c.in-Some.ensures.bytes) c.insert_of.ensures

pub returns-in-2 : goal.returns-in-2
returns-in-2 c = decoded {ver = c.args.version} 2 c.in-Some.found.0.stamp c.in-Some.found.0.prev c.args.bytes.now c.in-Some.found.1.now c.delete_of.result c.in-Some.ensures.fits.0 c.in-Some.ensures.fits.1 (rw c.in-2.is at c.in-Some.ensures.bytes) c.delete_of.ensures

pub returns-in-3 : goal.returns-in-3
returns-in-3 c = decoded {ver = c.args.version} 3 c.in-Some.found.0.stamp c.in-Some.found.0.prev c.args.bytes.now c.in-Some.found.1.now c.tag_of.result c.in-Some.ensures.fits.0 c.in-Some.ensures.fits.1 (rw c.in-3.is at c.in-Some.ensures.bytes) c.tag_of.ensures
