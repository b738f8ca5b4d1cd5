use Rattle.std.proofs.Common.{◌∙◌, List, [], ap, map, refl, subst, sym}
use Rattle.rt_ops.specs.Edits.{body_of}
use Rattle.rt_ops.specs.Operations.{Operation}
use Rattle.rt_rga.specs.Drafts.{with_drafts}
use Rattle.rt_rga.specs.Histories.{IsHistory}
use Rattle.rt_holding.specs.Grown.{AreTriedAt, HasGrownBy}
use Rattle.rt_holding.proofs.Drafts.{drafts_grow_by}
use Rattle.rt_replica.specs.Replicas.{HoldingValue, TakesAndTells}
use Rattle.rt_replica.specs.Told.{TellingValue}
use Rattle.rt_replica.proofs.Takes.{takes, then_turn}
use Rattle.rt_replica.proofs.Told.{all_sited}
use Rattle.rt_replica.proofs.replica.HoldingReplica.make.Goals as goal

pub settle-requires : goal.settle-requires
settle-requires g c =
    let t = c.self.inside.telling in
    let before : IsHistory t.log = subst IsHistory c.replica.ensures.log c.log.ensures.history in
    let own = c.number-site.ensures.value ∙ c.site.ensures ∙ c.replica-own.ensures.site ∙ c.make.ensures.site in
    record {
      older = t.log;
      tried = subst (λ n. AreTriedAt n t.log c.self.inside.held) (sym c.make.ensures.limit) c.self.invariant.tried;
      grown = subst (λ n. HasGrownBy n t.log c.make.new.self.log) (sym own)
          (subst (λ (log : List Operation). HasGrownBy t.site t.log log) (sym c.in_ok-ops.ensures.log) (drafts_grow_by t.site (map body_of c.args.drafts.items) t.log before));
    }

pub returns-clause-taken : goal.returns-clause-taken
returns-clause-taken g c =
    let t = c.self.inside.telling in
    let mid = c.make.new.self in
    let held = c.self.inside.held.held in
    let site = c.settle.new.site in
    let left = c.settle.new.self.held in
    let bodies = map body_of c.args.drafts.items in
    let rest = c.told.ensures.rest in
    let new : HoldingValue = record { log = c.told.new.self.log; held = left; cells = c.told.new.self.cells; site = c.told.new.self.site; limit = c.told.new.self.limit } in
    let tried = c.settle.ensures.tried in
    let before : IsHistory mid.log = subst IsHistory c.replica-own.ensures.log c.log-2.ensures.history in
    let after : IsHistory site.log = subst IsHistory c.replica-2.ensures.log c.log-3.ensures.history in
    let taken : TakesAndTells [] mid.log held new c.told.result.items =
    takes [] mid site held left c.settle.result c.told.result.items new tried c.in_ok-ops.ensures.cells (c.make.ensures.changes ∙ c.self.invariant.told) c.told.ensures.told
    before after (then_turn mid.limit _ _ tried.more tried.settles)
    (ap (λ (s : TellingValue). s.log) rest) refl (ap (λ (s : TellingValue). s.cells) rest) (ap (λ (s : TellingValue). s.limit) rest) in
    subst (λ (v : HoldingValue). TakesAndTells [] (with_drafts v.site bodies v.log) v.held new c.told.result.items) c.self.view_is
    (subst (λ (log : List Operation). TakesAndTells [] log held new c.told.result.items) c.in_ok-ops.ensures.log taken)

pub returns-clause-site : goal.returns-clause-site
returns-clause-site g c =
    let tried = c.settle.ensures.tried in
    ap (λ (s : TellingValue). s.site) (c.told.ensures.rest) ∙ ap (λ (s : TellingValue). s.site) tried.each ∙ all_sited tried.more c.make.new.self
    ∙ c.make.ensures.site ∙ ap (λ (v : HoldingValue). v.site) c.self.view_is
