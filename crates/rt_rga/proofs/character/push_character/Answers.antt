use Rattle.std.proofs.Common.{◌≡◌, ◌∙◌, List, [], ◌∷◌, ap, arith, false, subst, sym}
use Rattle.rt_ops.specs.Operations.{Insert, Operation, has_bad_stamp}
use Rattle.rt_oplog.specs.Logs.{going_on}
use Rattle.rt_rga.specs.Histories.{greatest_last_count}
use Rattle.rt_rga.specs.Making.{next_insert}
use Rattle.rt_rga.proofs.Counts.{count_with}
use Rattle.rt_rga.proofs.Drafting.{newer_than_all, newest}
use Rattle.rt_rga.proofs.character.push_character.Goals as goal

pub append_typed-requires : goal.append_typed-requires
append_typed-requires c =
    let old : List Operation = c.args.log.now.operations in
    let op : Operation = next_insert c.args.stamp.site c.args.after c.args.character old in
    let next : Operation = going_on old c.args.stamp (Insert c.args.after [] (c.args.character ∷ [])) in
    let made : next ≡ op = λ i. record { count = c.requires.next i; site = c.args.stamp.site; prev = next.prev; body = next.body } in
    record {
      sound = subst (λ (x : Operation). has_bad_stamp x ≡ false) (sym made) c.requires.continues.sound;
      newest = newer_than_all next old (omega (arith, c.requires.next));
      room = c.requires.room;
    }

pub returns : goal.returns
returns c =
    let old : List Operation = c.args.log.now.operations in
    let op : Operation = next_insert c.args.stamp.site c.args.after c.args.character old in
    let next : Operation = going_on old c.args.stamp (Insert c.args.after [] (c.args.character ∷ [])) in
    let made : next ≡ op = λ i. record { count = c.requires.next i; site = c.args.stamp.site; prev = next.prev; body = next.body } in
    let appended = c.append_typed.ensures.operations ∙ ap (λ (x : Operation). x ∷ old) made ∙ sym (newest op old (omega arith)) in
    record {
      operations = appended;
      seen = omega (arith, c.saw.ensures, count_with op old, ap greatest_last_count appended, c.requires.seen, c.requires.next);
    }
