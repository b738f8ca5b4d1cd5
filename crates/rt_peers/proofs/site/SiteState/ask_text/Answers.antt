use Rattle.std.proofs.Common.{◌≡◌, ◌<◌, ◌≤◌, ◌∙◌, Err, List, ap, arith, length, refl, subst, sym}
use Rattle.std.specs.Prelude.{IfErr}
use Rattle.rt_stamps.specs.Words.{as_words}
use Rattle.rt_peers.specs.SiteValue.{SiteValue, holding_of_site}
use Rattle.rt_store.specs.Shown.{TaggedCell}
use Rattle.rt_ops.specs.Operations.{Operation}
use Rattle.rt_holding.specs.Grown.{AreTriedAt, AreTriedBefore}
use Rattle.rt_peers.specs.SiteStep.{AnswersInTurn, MakesAndTries, Tries, by_widget, cell_limit, log_of, site_of, text_limit, text_log}
use Rattle.rt_peers.specs.Step.{step}
use Rattle.rt_peers.proofs.InTurn.{asked_steps, made_in_turn, made_none}
use Rattle.rt_peers.proofs.Making.{gains_grow_by, site_keeps, site_makes}
use Rattle.rt_peers.proofs.Staying.{tried_stay}
use Rattle.rt_peers.proofs.PeerLaws.{leading_site}
use Rattle.rt_peers.proofs.TakesNone.{refused_site}
use Rattle.rt_peers.proofs.site.SiteState.ask_text.Goals as goal

pub invariant_of-self : goal.invariant_of-self
invariant_of-self c =
    let steps = asked_steps c.args.number c.args.request.now c.self.inside.text c.ask-reply.new.self c.ask-reply.result c.ask-reply.ensures.answers in
    let mid : SiteValue = record { paths = as_words c.self.inside.paths.items; text = c.ask-reply.new.self; held = c.self.inside.held.held } in
    let tried = tried_stay (text_limit mid.text) (holding_of_site mid) mid.text c.settle.new.site c.settle.new.self.held c.settle.result c.settle.ensures.tried in
    record {
      paths = record { each = omega (arith, steps.number, tried, c.self.invariant.paths.each); differ = c.self.invariant.paths.differ };
      tried = c.settle.ensures.log;
    }

pub invariant_of-self-else-before-len : goal.invariant_of-self-else-before-len
invariant_of-self-else-before-len c =
    let steps = asked_steps c.args.number c.args.request.now c.self.inside.text c.ask-reply.new.self c.ask-reply.result c.ask-reply.ensures.answers in
    let state : SiteValue = record { paths = as_words c.self.inside.paths.items; text = c.self.inside.text; held = c.self.inside.held.held } in
    let mid : SiteValue = record state { text = c.ask-reply.new.self } in
    let none : length (log_of mid) ≤ length (log_of state) =
    omega (arith, c.if-before-len.false, c.len-before.ensures, c.len.ensures, ap length c.log.ensures.operations, ap length c.log-2.ensures.operations) in
    let kept = site_keeps state mid steps.gains refl none in
    record {
      paths = record { each = omega (arith, steps.number, c.self.invariant.paths.each); differ = c.self.invariant.paths.differ };
      tried = subst (λ n. AreTriedAt n (log_of mid) c.self.inside.held) (sym kept.limit)
          (subst (λ (log : List Operation). AreTriedAt (cell_limit state) log c.self.inside.held) (sym kept.log) c.self.invariant.tried);
    }

-- held ones were last tried before the site made operations
pub settle-requires : goal.settle-requires
settle-requires c =
    let state : SiteValue = record { paths = as_words c.self.inside.paths.items; text = c.self.inside.text; held = c.self.inside.held.held } in
    let steps = asked_steps c.args.number c.args.request.now c.self.inside.text c.ask-reply.new.self c.ask-reply.result c.ask-reply.ensures.answers in
    let gains = steps.gains in
    let own : c.number-site.result ≡ site_of state = c.number-site.ensures.value ∙ c.site.ensures ∙ gains.same.site in
    subst (λ n. AreTriedBefore (text_limit c.ask-reply.new.self) n c.self.inside.held (text_log c.ask-reply.new.self)) (sym own) (record {
      older = log_of state;
      tried = subst (λ n. AreTriedAt n (log_of state) c.self.inside.held) (sym gains.same.limit) c.self.invariant.tried;
      grown = gains_grow_by state.text.view.doc c.ask-reply.new.self.view.doc gains c.log.ensures.history;
    })

pub returns-then-before-len-clause-answers : goal.returns-then-before-len-clause-answers
returns-then-before-len-clause-answers c =
    let number = c.args.number in
    let request = c.args.request.now in
    let result = c.ask-reply.result in
    let state : SiteValue = record { paths = as_words c.self.inside.paths.items; text = c.self.inside.text; held = c.self.inside.held.held } in
    let mid : SiteValue = record state { text = c.ask-reply.new.self } in
    let new : SiteValue = record { paths = state.paths; text = c.settle.new.site; held = c.settle.new.self.held } in
    let answers = leading_site number state (λ text. step text request) result mid.text c.ask-reply.ensures.answers in
    let steps = asked_steps number request state.text mid.text result c.ask-reply.ensures.answers in
    let few = subst (λ (cells : List TaggedCell). length cells ≤ cell_limit mid) c.log-2.ensures.cells c.log-2.ensures.few in
    let more : length (log_of state) < length (log_of mid) =
    omega (arith, c.if-before-len.true, c.len-before.ensures, c.len.ensures, ap length c.log.ensures.operations, ap length c.log-2.ensures.operations) in
    let tries : Tries mid new = record { count = c.settle.result; tried = c.settle.ensures.tried; widgets = refl } in
    let makes : MakesAndTries state mid new =
    record { drafts = steps.gains.drafts; makes = site_makes state mid steps.gains refl c.log-2.ensures.history few; tries = tries } in
    subst (λ (s : SiteValue). AnswersInTurn (by_widget number s (λ text. step text request)) s result new) c.self.view_is
    (made_in_turn (by_widget number state (λ text. step text request)) state mid new result answers more makes)

pub returns-else-before-len-clause-answers : goal.returns-else-before-len-clause-answers
returns-else-before-len-clause-answers c =
    let number = c.args.number in
    let request = c.args.request.now in
    let result = c.ask-reply.result in
    let state : SiteValue = record { paths = as_words c.self.inside.paths.items; text = c.self.inside.text; held = c.self.inside.held.held } in
    let mid : SiteValue = record state { text = c.ask-reply.new.self } in
    let answers = leading_site number state (λ text. step text request) result mid.text c.ask-reply.ensures.answers in
    let steps = asked_steps number request state.text mid.text result c.ask-reply.ensures.answers in
    let none : length (log_of mid) ≤ length (log_of state) =
    omega (arith, c.if-before-len.false, c.len-before.ensures, c.len.ensures, ap length c.log.ensures.operations, ap length c.log-2.ensures.operations) in
    subst (λ (s : SiteValue). AnswersInTurn (by_widget number s (λ text. step text request)) s result mid) c.self.view_is
    (made_none (by_widget number state (λ text. step text request)) state mid result answers none (site_keeps state mid steps.gains refl none))

pub returns-then-before-len-clause-memory : goal.returns-then-before-len-clause-memory
returns-then-before-len-clause-memory c = λ none.
    let number = c.args.number in
    let request = c.args.request.now in
    let state : SiteValue = record { paths = as_words c.self.inside.paths.items; text = c.self.inside.text; held = c.self.inside.held.held } in
    subst (λ (s : SiteValue). IfErr c.ask-reply.result (λ fault. by_widget number s (λ text. step text request) ≡ Err fault)) c.self.view_is
    (refused_site number state (λ text. step text request) c.ask-reply.result (c.ask-reply.ensures.memory none))

pub returns-else-before-len-clause-memory : goal.returns-else-before-len-clause-memory
returns-else-before-len-clause-memory c = λ none.
    let number = c.args.number in
    let request = c.args.request.now in
    let state : SiteValue = record { paths = as_words c.self.inside.paths.items; text = c.self.inside.text; held = c.self.inside.held.held } in
    subst (λ (s : SiteValue). IfErr c.ask-reply.result (λ fault. by_widget number s (λ text. step text request) ≡ Err fault)) c.self.view_is
    (refused_site number state (λ text. step text request) c.ask-reply.result (c.ask-reply.ensures.memory none))
