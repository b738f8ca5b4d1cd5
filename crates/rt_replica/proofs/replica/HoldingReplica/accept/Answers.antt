use Rattle.std.proofs.Common.{◌≡◌, ◌∙◌, [], ◌∷◌, Ok, ap, refl, subst, sym}
use Rattle.rt_rga.specs.Answers.{New, answer_within}
use Rattle.rt_rga.specs.Histories.{IsHistory}
use Rattle.rt_holding.specs.declared.held.Offered.{Offered}
use Rattle.rt_holding.specs.Holding.{reply_to}
use Rattle.rt_holding.specs.Taken.{IsOffered, IsRefused, replied}
use Rattle.rt_replica.specs.Replicas.{HoldingValue, TakesAndTells, holding_of}
use Rattle.rt_replica.specs.Told.{TellingValue, after_taken}
use Rattle.rt_replica.proofs.Takes.{new_by, takes, then_turn}
use Rattle.rt_replica.proofs.Told.{all_sited}
use Rattle.rt_replica.proofs.replica.HoldingReplica.accept.Goals as goal

pub returns-in-Ok-New-clause-taken : goal.returns-in-Ok-New-clause-taken
returns-in-Ok-New-clause-taken g c =
    let t = c.self.inside.telling in
    let held = c.self.inside.held.held in
    let op = c.args.op in
    let site = c.offer.new.site in
    let left = c.offer.new.self.held in
    let rest = c.told.ensures.rest in
    let new : HoldingValue = record { log = c.told.new.self.log; held = left; cells = c.told.new.self.cells; site = c.told.new.self.site; limit = c.told.new.self.limit } in
    let tried = subst (λ (o : Offered). IsOffered (λ (s : TellingValue). s.log) after_taken t.limit op o t held site left) c.in-Ok-New.field-0-is c.in-Ok-New.ensures.offered in
    let reply = c.in-Ok-New.ensures.reply ∙ ap (λ o. replied (Ok o)) c.in-Ok-New.field-0-is in
    let is_new : answer_within t.limit op t.log ≡ New = new_by (answer_within t.limit op t.log) op held reply in
    let before : IsHistory t.log = subst IsHistory c.replica.ensures.log c.log.ensures.history in
    let after : IsHistory site.log = subst IsHistory c.replica-in-Ok-New.ensures.log c.log-in-Ok-New.ensures.history in
    subst (λ (v : HoldingValue). TakesAndTells (op ∷ []) v.log (Rattle.rt_holding.specs.Holding.without_op op v.held) new c.told.result.items) c.self.view_is
    (takes (op ∷ []) t site (Rattle.rt_holding.specs.Holding.without_op op held) left c.in-Ok-New.field-0-0 c.told.result.items new tried refl c.self.invariant.told c.told.ensures.told
    before after (is_new, then_turn t.limit _ _ tried.more tried.settles)
    (ap (λ (s : TellingValue). s.log) rest) refl (ap (λ (s : TellingValue). s.cells) rest) (ap (λ (s : TellingValue). s.limit) rest))

pub returns-in-Ok-New-clause-site : goal.returns-in-Ok-New-clause-site
returns-in-Ok-New-clause-site g c =
    let t = c.self.inside.telling in
    let op = c.args.op in
    let tried = subst (λ (o : Offered). IsOffered (λ (s : TellingValue). s.log) after_taken t.limit op o t c.self.inside.held.held c.offer.new.site c.offer.new.self.held) c.in-Ok-New.field-0-is c.in-Ok-New.ensures.offered in
    ap (λ (s : TellingValue). s.site) (c.told.ensures.rest) ∙ ap (λ (s : TellingValue). s.site) tried.each ∙ all_sited tried.more (after_taken op t)
    ∙ ap (λ (v : HoldingValue). v.site) c.self.view_is

pub returns-in-Ok-Repeat-clause-reply : goal.returns-in-Ok-Repeat-clause-reply
returns-in-Ok-Repeat-clause-reply g c =
    ap (λ (v : HoldingValue). reply_to v.limit c.args.op (holding_of v)) (sym c.self.view_is)
    ∙ c.in-Ok-Repeat.ensures.reply ∙ ap (λ o. replied (Ok o)) c.in-Ok-Repeat.field-0-is

pub returns-in-Ok-Held-clause-reply : goal.returns-in-Ok-Held-clause-reply
returns-in-Ok-Held-clause-reply g c =
    ap (λ (v : HoldingValue). reply_to v.limit c.args.op (holding_of v)) (sym c.self.view_is)
    ∙ c.in-Ok-Held.ensures.reply ∙ ap (λ o. replied (Ok o)) c.in-Ok-Held.field-0-is

pub returns-in-Err-clause-refused : goal.returns-in-Err-clause-refused
returns-in-Err-clause-refused g c =
    subst (λ (v : HoldingValue). IsRefused (reply_to v.limit c.args.op (holding_of v)) c.in-Err.fault) c.self.view_is c.in-Err.ensures.refused

pub returns-in-Ok-New-clause-reply : goal.returns-in-Ok-New-clause-reply
returns-in-Ok-New-clause-reply g c =
    ap (λ (v : HoldingValue). reply_to v.limit c.args.op (holding_of v)) (sym c.self.view_is)
    ∙ c.in-Ok-New.ensures.reply ∙ ap (λ o. replied (Ok o)) c.in-Ok-New.field-0-is
