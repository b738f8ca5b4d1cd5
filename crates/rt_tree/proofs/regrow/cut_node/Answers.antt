use Rattle.std.proofs.Common.{◌∙◌, ◌<◌, ap, arith, length, subst, sym}
use Rattle.std.specs.List.{AllByRecursion}
use Rattle.rt_tags.specs.States.{IsState}
use Rattle.rt_tree.specs.Summaries.{shown_states}
use Rattle.rt_tree.proofs.Parting.{both_summed, kids_back, kids_front, n_is, node_given, node_short, q_is}
use Rattle.rt_tree.proofs.Standing.{stay_cut}
use Rattle.rt_tree.proofs.Wholes.{runs-bare, shape-bare}
use Rattle.rt_tree.proofs.regrow.cut_node.Goals as goal

pub gather_at-requires-clause-node : goal.gather_at-requires-clause-node
gather_at-requires-clause-node c =
    let m = c.split-new.new.mem in
    let is = n_is c.args.mem.now c.split-new.new.mem c.args.top.height c.args.top.root.index c.args.node.index c.split-new.result.index c.split-new.ensures.tree c.split-new.ensures.halves c.requires.node.0 c.split-new.ensures.still.level c.split-new.ensures.others in
    let t = shape-bare m c.args.top.height c.args.top.root.index c.split-new.ensures.tree in
    (is, subst (λ n. c.args.node.index < n) t.same is)

pub gather_at-requires-clause-within : goal.gather_at-requires-clause-within
gather_at-requires-clause-within c =
    let h = c.split-new.ensures.halves in
    let is = n_is c.args.mem.now c.split-new.new.mem c.args.top.height c.args.top.root.index c.args.node.index c.split-new.result.index c.split-new.ensures.tree c.split-new.ensures.halves c.requires.node.0 c.split-new.ensures.still.level c.split-new.ensures.others in
    omega (arith, is, h.longer, h.new, c.requires.room, c.requires.many)

pub gather_at-requires-clause-kids : goal.gather_at-requires-clause-kids
gather_at-requires-clause-kids c =
    let h = c.split-new.ensures.halves in
    kids_front c.args.mem.now c.split-new.new.mem c.args.top.height c.args.top.root.index c.args.node.index c.split-new.result.index c.split-new.ensures.tree c.split-new.ensures.halves c.requires.node.0 c.split-new.ensures.still.level c.split-new.ensures.others c.args.states.now c.args.sums.now.each.items c.requires.summed (omega (arith, h.longer, h.new, c.requires.room, c.requires.many))

pub gather_at-requires-clause-given : goal.gather_at-requires-clause-given
gather_at-requires-clause-given c =
    let m = c.split-new.new.mem in
    let all = sym c.split-new.ensures.runs ∙ runs-bare m c.args.top.height c.args.top.root.index in
    node_given c.split-new.new.mem c.args.top.height c.args.top.root.index (shape-bare c.split-new.new.mem c.args.top.height c.args.top.root.index c.split-new.ensures.tree) c.args.node.index (n_is c.args.mem.now c.split-new.new.mem c.args.top.height c.args.top.root.index c.args.node.index c.split-new.result.index c.split-new.ensures.tree c.split-new.ensures.halves c.requires.node.0 c.split-new.ensures.still.level c.split-new.ensures.others) c.args.states.now (subst (λ rs. AllByRecursion (IsState c.args.states.now) (shown_states rs)) all c.requires.given)

pub gather_at-requires-clause-few : goal.gather_at-requires-clause-few
gather_at-requires-clause-few c =
    let m = c.split-new.new.mem in
    let all = ap (λ rs. length (shown_states rs)) (sym c.split-new.ensures.runs ∙ runs-bare m c.args.top.height c.args.top.root.index) in
    let own = node_short c.split-new.new.mem c.args.top.height c.args.top.root.index (shape-bare c.split-new.new.mem c.args.top.height c.args.top.root.index c.split-new.ensures.tree) c.args.node.index (n_is c.args.mem.now c.split-new.new.mem c.args.top.height c.args.top.root.index c.args.node.index c.split-new.result.index c.split-new.ensures.tree c.split-new.ensures.halves c.requires.node.0 c.split-new.ensures.still.level c.split-new.ensures.others) in
    omega (arith, all, own, c.requires.short)

pub gather_at-requires-2-clause-node : goal.gather_at-requires-2-clause-node
gather_at-requires-2-clause-node c =
    let m = c.split-new.new.mem in
    let is = q_is c.args.mem.now c.split-new.new.mem c.args.top.height c.args.top.root.index c.args.node.index c.split-new.result.index c.split-new.ensures.tree c.split-new.ensures.halves c.requires.node.0 c.split-new.ensures.still.level c.split-new.ensures.others in
    let t = shape-bare m c.args.top.height c.args.top.root.index c.split-new.ensures.tree in
    (is, subst (λ n. c.split-new.result.index < n) t.same is)

pub gather_at-requires-2-clause-within : goal.gather_at-requires-2-clause-within
gather_at-requires-2-clause-within c =
    let h = c.split-new.ensures.halves in
    let is = q_is c.args.mem.now c.split-new.new.mem c.args.top.height c.args.top.root.index c.args.node.index c.split-new.result.index c.split-new.ensures.tree c.split-new.ensures.halves c.requires.node.0 c.split-new.ensures.still.level c.split-new.ensures.others in
    omega (arith, is, h.longer, h.new, c.requires.room, c.requires.many, c.gather_at.ensures.many)

pub gather_at-requires-2-clause-kids : goal.gather_at-requires-2-clause-kids
gather_at-requires-2-clause-kids c =
    let h = c.split-new.ensures.halves in
    kids_back c.args.mem.now c.split-new.new.mem c.args.top.height c.args.top.root.index c.args.node.index c.split-new.result.index c.split-new.ensures.tree c.split-new.ensures.halves c.requires.node.0 c.split-new.ensures.still.level c.split-new.ensures.others c.args.states.now c.args.sums.now.each.items c.requires.summed (omega (arith, h.longer, h.new, c.requires.room, c.requires.many)) c.gather_at.new.sums.each.items c.gather_at.ensures.many c.gather_at.ensures.gathered c.gather_at.ensures.others

pub gather_at-requires-2-clause-given : goal.gather_at-requires-2-clause-given
gather_at-requires-2-clause-given c =
    let m = c.split-new.new.mem in
    let all = sym c.split-new.ensures.runs ∙ runs-bare m c.args.top.height c.args.top.root.index in
    node_given c.split-new.new.mem c.args.top.height c.args.top.root.index (shape-bare c.split-new.new.mem c.args.top.height c.args.top.root.index c.split-new.ensures.tree) c.split-new.result.index (q_is c.args.mem.now c.split-new.new.mem c.args.top.height c.args.top.root.index c.args.node.index c.split-new.result.index c.split-new.ensures.tree c.split-new.ensures.halves c.requires.node.0 c.split-new.ensures.still.level c.split-new.ensures.others) c.args.states.now (subst (λ rs. AllByRecursion (IsState c.args.states.now) (shown_states rs)) all c.requires.given)

pub gather_at-requires-2-clause-few : goal.gather_at-requires-2-clause-few
gather_at-requires-2-clause-few c =
    let m = c.split-new.new.mem in
    let all = ap (λ rs. length (shown_states rs)) (sym c.split-new.ensures.runs ∙ runs-bare m c.args.top.height c.args.top.root.index) in
    let own = node_short c.split-new.new.mem c.args.top.height c.args.top.root.index (shape-bare c.split-new.new.mem c.args.top.height c.args.top.root.index c.split-new.ensures.tree) c.split-new.result.index (q_is c.args.mem.now c.split-new.new.mem c.args.top.height c.args.top.root.index c.args.node.index c.split-new.result.index c.split-new.ensures.tree c.split-new.ensures.halves c.requires.node.0 c.split-new.ensures.still.level c.split-new.ensures.others) in
    omega (arith, all, own, c.requires.short)

pub gather_at-requires-2-clause-tags : goal.gather_at-requires-2-clause-tags
gather_at-requires-2-clause-tags c =
    omega (arith, c.gather_at.ensures.tags, c.requires.tags)

pub returns-clause-summed : goal.returns-clause-summed
returns-clause-summed c =
    let h = c.split-new.ensures.halves in
    both_summed c.args.mem.now c.split-new.new.mem c.args.top.height c.args.top.root.index c.args.node.index c.split-new.result.index c.split-new.ensures.tree c.split-new.ensures.halves c.requires.node.0 c.split-new.ensures.still.level c.split-new.ensures.others c.args.states.now c.args.sums.now.each.items c.requires.summed (omega (arith, h.longer, h.new, c.requires.room, c.requires.many)) c.gather_at.new.sums.each.items c.gather_at.ensures.many c.gather_at.ensures.gathered c.gather_at.ensures.others c.gather_at-2.new.sums.each.items c.gather_at-2.ensures.gathered c.gather_at-2.ensures.others

pub returns-clause-many : goal.returns-clause-many
returns-clause-many c =
    c.gather_at-2.ensures.many ∙ c.gather_at.ensures.many

pub returns-clause-tags : goal.returns-clause-tags
returns-clause-tags c =
    c.gather_at-2.ensures.tags ∙ c.gather_at.ensures.tags

pub returns-clause-stay : goal.returns-clause-stay
returns-clause-stay c = stay_cut c.args.mem.now c.split-new.new.mem c.args.node.index c.split-new.result.index c.split-new.ensures.halves c.split-new.ensures.others
