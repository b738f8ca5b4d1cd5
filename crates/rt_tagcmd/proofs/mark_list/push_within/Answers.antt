use Rattle.std.proofs.Common.{◌∷◌, [], ap, map, ◌∙◌}
use Rattle.std.proofs.lemmas.List.{map-append}
use Rattle.rt_marks.specs.Seen.{spotted}
use Rattle.rt_tagcmd.proofs.Sorting.{before_it, behind_it, put_more, put_none}
use Rattle.rt_tagcmd.proofs.mark_list.push_within.Goals.{else-from-spot-via-then-from-spot+else-spot-behind, else-from-spot-via-else-from-spot}
use Rattle.rt_tagcmd.proofs.mark_list.push_within.Goals as goal

pub returns-in_ok-push-clause-ok : goal.returns-in_ok-push-clause-ok
returns-in_ok-push-clause-ok c = λ marks e.
    let old = c.args.spots.now.items in
    put_more c.args.from c.args.behind (map spotted old) (map spotted c.push.new.self.items) (spotted c.args.spot) marks c.if-from-spot.true c.if-spot-behind.true
    (ap (map spotted) c.in_ok-push.ensures.items ∙ map-append spotted old (c.args.spot ∷ [])) e

pub returns-else-from-spot-clause-ok : goal.returns-else-from-spot-clause-ok
returns-else-from-spot-clause-ok c = λ marks e.
    put_none c.args.from c.args.behind (map spotted c.args.spots.now.items) (spotted c.args.spot) marks
    (elim c.else-from-spot.branch [
      | else-from-spot-via-then-from-spot+else-spot-behind w ↦ behind_it c.args.from c.args.spot.place c.args.behind w.if-spot-behind.false
      | else-from-spot-via-else-from-spot w ↦ before_it c.args.from c.args.spot.place c.args.behind w.if-from-spot.false
    ]) e
