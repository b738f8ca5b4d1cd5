use Rattle.std.proofs.Common.{◌<◌, ◌==◌, ◌∙◌, arith, ap, length, get_or, max, if◌then◌else◌}
use Rattle.rt_oplog.specs.declared.ends.SiteEnd.{SiteEnd}
use Rattle.rt_oplog.specs.Ends.{is_of_another}
use Rattle.rt_oplog.specs.Kept.{leading}
use Rattle.rt_oplog.proofs.AtHand.{at_hand_found, at_hand_raised}
use Rattle.rt_oplog.proofs.ends.Ends.raise.Goals as goal

pub returns-clause-known : goal.returns-clause-known
returns-clause-known c =
    let ends = c.at_hand-at.new.self in
    let d : SiteEnd = record { site = 0; last = 0 } in
    let within : leading (is_of_another c.args.site) ends.recent < length ends.recent = omega (arith, c.at_hand-at.ensures.place, c.at_hand-at.ensures.within) in
    ap (λ i. (get_or ends.recent i d).last) c.at_hand-at.ensures.place ∙ at_hand_found ends.recent ends.others c.args.site d within ∙ c.at_hand-at.ensures.same c.args.site

pub returns-clause-ends : goal.returns-clause-ends
returns-clause-ends c = λ s.
    let ends = c.at_hand-at.new.self in
    let d : SiteEnd = record { site = 0; last = 0 } in
    let within : leading (is_of_another c.args.site) ends.recent < length ends.recent = omega (arith, c.at_hand-at.ensures.place, c.at_hand-at.ensures.within) in
    rw (c.max.ensures, c.at_hand-at.ensures.place) (at_hand_raised ends.recent ends.others c.args.site c.args.last d within s
    ∙ ap (λ n. if c.args.site == s then max c.args.last n else n) (c.at_hand-at.ensures.same s))
