use Rattle.std.proofs.Common.{◌≡◌, ◌+◌, ◌==◌, ◌∷◌, [], ◌≤◌, ◌∙◌, ℕ, cond, max, false, ap, sym, subst, arith, true}
use Rattle.std.specs.List.{AllByRecursion}
use Rattle.std.proofs.lemmas.List.Elements.{recursion_from_All}
use Rattle.rt_stamps.specs.Stamps.{is_before}
use Rattle.rt_ops.specs.Operations.{Insert, Operation, has_bad_stamp, stamp_of}
use Rattle.rt_rows.specs.Views.{operation_typed}
use Rattle.rt_oplog.specs.Logs.{going_on, known_end}
use Rattle.rt_oplog.specs.Ends.{end_in}
use Rattle.rt_oplog.specs.Kept.{newest_first, IsPutBehind}
use Rattle.rt_oplog.proofs.Kept.{kept_newest, seen_newest}
use Rattle.rt_oplog.proofs.Pushes.{sound_last}
use Rattle.rt_oplog.proofs.log.OpLog.append_typed.Goals as goal

pub push_newest_typed-requires-clause-count : goal.push_newest_typed-requires-clause-count
push_newest_typed-requires-clause-count c =
    let last = sound_last (going_on c.args.self.now.operations c.args.stamp (Insert c.args.after [] (c.args.character ∷ []))) c.requires.sound in
    omega (arith, last)

pub invariant_of-self : goal.invariant_of-self
invariant_of-self c =
    let stamp = c.args.stamp in
    let ops = c.self.inside.ops.rows in
    let order = c.self.inside.order.items in
    let ends = c.self.inside.ends in
    let set = newest_first ops order in
    let op : Operation = going_on set stamp (Insert c.args.after [] (c.args.character ∷ [])) in
    let seen : set ≡ c.args.self.now.operations = ap (λ log. log.operations) c.self.view_is in
    let prev = c.raise-prev.ensures.known ∙ c.self.invariant.known stamp.site in
    let made = ap (λ n. operation_typed (record { stamp = stamp; prev = n; after = c.args.after; character = c.args.character })) prev in
    let put = subst (λ o. IsPutBehind o c.push_newest_typed.new.ops.rows order c.push_newest_typed.new.order.items) made c.push_newest_typed.ensures.put in
    let before : Operation → Type 0 = λ q. is_before (stamp_of q) stamp ≡ true in
    let newest : AllByRecursion before set = subst (AllByRecursion before) (sym seen) (recursion_from_All before c.args.self.now.operations c.requires.newest) in
    let sound : has_bad_stamp op ≡ false = rw seen c.requires.sound in
    let past : known_end set op.site ≤ op.prev = omega arith in
    let alone : stamp.count ≡ stamp.count + 0 = omega arith in
    let known : (s : ℕ) → end_in c.raise-prev.new.self s ≡ known_end (op ∷ set) s = λ s. c.raise-prev.ensures.ends s
    ∙ rw (c.self.invariant.known s) (ap (λ n. cond (stamp.site == s) (max n (known_end set s)) (known_end set s)) alone) in
    kept_newest ops c.push_newest_typed.new.ops.rows order c.push_newest_typed.new.order.items ends c.raise-prev.new.self op c.push_newest_typed.ensures.kept c.self.invariant put sound newest past known

pub returns-clause-operations : goal.returns-clause-operations
returns-clause-operations c =
    let stamp = c.args.stamp in
    let ops = c.self.inside.ops.rows in
    let order = c.self.inside.order.items in
    let set = newest_first ops order in
    let op : Operation = going_on set stamp (Insert c.args.after [] (c.args.character ∷ [])) in
    let seen : set ≡ c.args.self.now.operations = ap (λ log. log.operations) c.self.view_is in
    let prev = c.raise-prev.ensures.known ∙ c.self.invariant.known stamp.site in
    let made = ap (λ n. operation_typed (record { stamp = stamp; prev = n; after = c.args.after; character = c.args.character })) prev in
    let put = subst (λ o. IsPutBehind o c.push_newest_typed.new.ops.rows order c.push_newest_typed.new.order.items) made c.push_newest_typed.ensures.put in
    seen_newest ops c.push_newest_typed.new.ops.rows order c.push_newest_typed.new.order.items op c.push_newest_typed.ensures.kept c.self.invariant.within put
    ∙ ap (λ log. going_on log stamp (Insert c.args.after [] (c.args.character ∷ [])) ∷ log) seen
