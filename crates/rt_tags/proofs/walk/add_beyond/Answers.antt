use Rattle.std.proofs.Common.{◌≡◌, ◌∙◌, ◌+◌, ◌*◌, ◌<◌, ◌≤◌, ◌^◌, ap, arith, drop, length}
use Rattle.std.proofs.lemmas.List.{drop_all}
use Rattle.rt_tags.specs.SharedStates.{at_id, chosen, is_off, puts_on, setting_of}
use Rattle.rt_tags.specs.Toggles.{count_in}
use Rattle.rt_tags.proofs.Beyond.{most_one}
use Rattle.rt_tags.proofs.ManyCounts.{placed}
use Rattle.rt_tags.proofs.Members.{beyond_whole}
use Rattle.rt_tags.proofs.Putting.{small_at}
use Rattle.rt_tags.proofs.Walking.{times}
use Rattle.rt_tags.proofs.walk.add_beyond.Goals as goal

pub put_beyond-requires-clause-fits : goal.put_beyond-requires-clause-fits
put_beyond-requires-clause-fits c = λ t is. let w = small_at c.args.nodes.now.keys c.args.here c.requires.kept c.requires.here t is in omega (arith, w)

pub put_beyond-requires-clause-placed : goal.put_beyond-requires-clause-placed
put_beyond-requires-clause-placed c = placed c.len-ordered.result c.args.counts.now.items (c.len-ordered.ensures ∙ c.args.counts.now.ok.0) c.requires.order

pub put_beyond-requires-clause-few : goal.put_beyond-requires-clause-few
put_beyond-requires-clause-few c = λ tag.
    let nodes = c.args.nodes.now.keys in
    let e = beyond_whole nodes c.args.here c.args.there c.requires.kept c.requires.here tag in
    let m = most_one (puts_on (setting_of (at_id nodes c.args.here) tag)) (puts_on (setting_of (at_id nodes c.args.there) tag)) in
    let k = c.requires.few tag in
    let w : count_in tag c.args.counts.now.items + times tag (chosen (λ t. t * 1 + 0) (is_off (at_id nodes c.args.there)) (at_id nodes c.args.here)) < 2 ^ 32 = omega (arith, e, m, k) in
    w

pub put_beyond-requires-clause-behind : goal.put_beyond-requires-clause-behind
put_beyond-requires-clause-behind c = λ tag.
    let nodes = c.args.nodes.now.keys in
    let cs = c.args.counts.now.items in
    let e = beyond_whole nodes c.args.here c.args.there c.requires.kept c.requires.here tag in
    let m = most_one (puts_on (setting_of (at_id nodes c.args.here) tag)) (puts_on (setting_of (at_id nodes c.args.there) tag)) in
    let n : c.len-ordered.result ≡ length cs = c.len-ordered.ensures ∙ c.args.counts.now.ok.0 in
    let z : count_in tag (drop c.len-ordered.result cs) ≡ 0 = ap (count_in tag) (drop_all c.len-ordered.result cs (omega (arith, n))) in
    let w : count_in tag (drop c.len-ordered.result cs) + times tag (chosen (λ t. t * 1 + 0) (is_off (at_id nodes c.args.there)) (at_id nodes c.args.here)) ≤ 1 = omega (arith, e, m, z) in
    w

pub returns-clause-counts : goal.returns-clause-counts
returns-clause-counts c = λ tag.
    let nodes = c.args.nodes.now.keys in
    let e = beyond_whole nodes c.args.here c.args.there c.requires.kept c.requires.here tag in
    c.sort.ensures.counts tag ∙ (c.put_beyond.ensures.counts tag ∙ ap (λ n. count_in tag c.args.counts.now.items + n) e)
