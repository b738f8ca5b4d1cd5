use Rattle.std.proofs.Common.{◌≡◌, ◌∷◌, ◌≤◌, ◌∙◌, ℕ, refl, ap, sym, subst, true}
use Rattle.std.specs.List.{AllByRecursion}
use Rattle.std.proofs.lemmas.List.Elements.{recursion_from_All}
use Rattle.rt_stamps.specs.Stamps.{is_before}
use Rattle.rt_ops.specs.Operations.{Operation, stamp_of}
use Rattle.rt_oplog.specs.Logs.{known_end}
use Rattle.rt_oplog.specs.Ends.{end_in}
use Rattle.rt_oplog.specs.Kept.{newest_first}
use Rattle.rt_oplog.proofs.Kept.{kept_newest, seen_newest}
use Rattle.rt_oplog.proofs.log.OpLog.append.Goals as goal

pub invariant_of-self : goal.invariant_of-self
invariant_of-self c =
    let op = c.args.op in
    let ops = c.self.inside.ops.rows in
    let order = c.self.inside.order.items in
    let ends = c.self.inside.ends in
    let set = newest_first ops order in
    let seen : set ≡ c.args.self.now.operations = ap (λ log. log.operations) c.self.view_is in
    let before : Operation → Type 0 = λ q. is_before (stamp_of q) (stamp_of op) ≡ true in
    let newest : AllByRecursion before set = subst (AllByRecursion before) (sym seen) (recursion_from_All before c.args.self.now.operations c.requires.newest) in
    let past : known_end set op.site ≤ op.prev = rw seen c.requires.prev in
    let known : (s : ℕ) → end_in c.raise.new.self s ≡ known_end (op ∷ set) s = λ s. c.raise.ensures.ends s ∙ rw (c.site.ensures, c.last_count-last.ensures, c.self.invariant.known s) refl in
    kept_newest ops c.push_newest.new.ops.rows order c.push_newest.new.order.items ends c.raise.new.self op c.push_newest.ensures.kept c.self.invariant c.push_newest.ensures.put c.requires.sound newest past known

pub returns-clause-operations : goal.returns-clause-operations
returns-clause-operations c =
    let op = c.args.op in
    let ops = c.self.inside.ops.rows in
    let order = c.self.inside.order.items in
    let seen : newest_first ops order ≡ c.args.self.now.operations = ap (λ log. log.operations) c.self.view_is in
    seen_newest ops c.push_newest.new.ops.rows order c.push_newest.new.order.items op c.push_newest.ensures.kept c.self.invariant.within c.push_newest.ensures.put ∙ ap (λ set. op ∷ set) seen
