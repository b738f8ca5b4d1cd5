use Rattle.std.proofs.Common.{◌≡◌, ◌∙◌, ap, subst, sym, true}
use Rattle.rt_holding.specs.Grown.{AreTriedAt, HeldValue}
use Rattle.rt_holding.specs.Holding.{without_op}
use Rattle.rt_holding.specs.Kept.{ops_in}
use Rattle.rt_holding.specs.Waits.{are_tried_at, is_tried_at}
use Rattle.rt_holding.proofs.Places.{forgotten}
use Rattle.rt_holding.proofs.Putting.{tried_away}
use Rattle.rt_holding.proofs.Steps.{grown_by}
use Rattle.rt_holding.proofs.Tries.{taken_state}
use Rattle.rt_holding.proofs.held.Held.take.Goals as goal

pub invariant_of-self : goal.invariant_of-self
invariant_of-self g c = record {
  held = (forgotten c.self.inside.arrivals c.args.op c.standing_of-held.result c.self.inside.ops.entries c.take_away.new.ops.entries c.self.invariant.held
      c.standing_of-held.ensures.some c.standing_of-held.ensures.none c.take_away.ensures.some c.take_away.ensures.none).held;
  ready = c.self.invariant.ready;
}

pub settle-requires : goal.settle-requires
settle-requires g c =
    let log = g.T.Taking.log in
    let older = log c.args.site.now in
    let limit = g.T.Taking.limit in
    let old = c.self.inside in
    record {
      older = older;
      tried = tried_away (is_tried_at (limit c.take.new.self) older old.waits.keys old.waits.again.items) c.standing_of-held.result old.ops.entries c.take_away.new.ops.entries c.take_away.ensures.some c.take_away.ensures.none
          (subst (λ n. are_tried_at n older old.waits.keys old.waits.again.items old.ops.entries ≡ true) (sym c.take.ensures.limit)
          (subst (AreTriedAt (limit c.args.site.now) older) (sym c.self.view_is) c.requires.tried));
      grown = grown_by older (log c.take.new.self) c.site-made_by.result c.args.op c.requires.history c.site-made_by.ensures c.in-Ok.ensures.log;
    }

pub returns-clause-offered : goal.returns-clause-offered
returns-clause-offered g c =
    let log = g.T.Taking.log in
    let after = g.T.Taking.after in
    let site = c.take.new.self in
    let less = c.take_away.new.ops.entries in
    let out = (forgotten c.self.inside.arrivals c.args.op c.standing_of-held.result c.self.inside.ops.entries less c.self.invariant.held
    c.standing_of-held.ensures.some c.standing_of-held.ensures.none c.take_away.ensures.some c.take_away.ensures.none).ops ∙ ap (λ (v : HeldValue). without_op c.args.op v.held) c.self.view_is in
    taken_state log after (g.T.Taking.limit c.args.site.now) (g.T.Taking.limit site) c.args.op c.args.site.now site c.args.self.now.held (ops_in less) c.settle.new.site c.settle.new.self.held c.settle.result
    c.take.ensures.limit c.in-Ok.ensures.taken c.in-Ok.ensures.log out c.settle.ensures.tried
