use Rattle.std.proofs.Common.{◌≡◌, ◌∷◌, ◌∙◌, ℕ, false, ap, refl}
use Rattle.std.specs.List.{list_any}
use Rattle.rt_oplog.specs.Logs.{holds, clash, known_end, with_operation}
use Rattle.rt_oplog.specs.Ends.{end_in}
use Rattle.rt_oplog.specs.Kept.{newest_first}
use Rattle.rt_oplog.proofs.Pushes.{sound_last}
use Rattle.rt_oplog.proofs.Places.{kept_put, put_seen}
use Rattle.rt_oplog.proofs.log.OpLog.put.Goals as goal

pub last_count-requires : goal.last_count-requires
last_count-requires c = sound_last c.args.op c.requires.sound

pub invariant_of-self : goal.invariant_of-self
invariant_of-self c =
    let op = c.args.op in
    let ops = c.self.inside.ops.rows in
    let order = c.self.inside.order.items in
    let ends = c.self.inside.ends in
    let set = newest_first ops order in
    let seen : set ≡ c.args.self.now.operations = ap (λ log. log.operations) c.self.view_is in
    let new : holds set op ≡ false = rw seen c.requires.new in
    let free : list_any (clash op) set ≡ false = rw seen c.requires.free in
    let known : (s : ℕ) → end_in c.raise.new.self s ≡ known_end (op ∷ set) s = λ s. c.raise.ensures.ends s ∙ rw (c.site.ensures, c.last_count.ensures, c.self.invariant.known s) refl in
    kept_put ops c.put_in_order.new.ops.rows order c.put_in_order.new.order.items ends c.raise.new.self op c.put_in_order.ensures.kept c.self.invariant c.put_in_order.ensures.put c.requires.sound new free known

pub returns-clause-operations : goal.returns-clause-operations
returns-clause-operations c =
    let op = c.args.op in
    let ops = c.self.inside.ops.rows in
    let order = c.self.inside.order.items in
    let seen : newest_first ops order ≡ c.args.self.now.operations = ap (λ log. log.operations) c.self.view_is in
    put_seen ops c.put_in_order.new.ops.rows order c.put_in_order.new.order.items op c.put_in_order.ensures.kept c.self.invariant.within c.self.invariant.log.falling c.put_in_order.ensures.put
    ∙ ap (with_operation op) seen
