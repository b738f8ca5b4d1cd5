use Rattle.std.proofs.Common.{◌≡◌, ◌<◌, ◌≤◌, ◌∙◌, Err, List, ap, arith, length, refl, subst, sym}
use Rattle.std.specs.Prelude.{IfErr, IfSome}
use Rattle.std.proofs.lemmas.Option.{IfSome_then}
use Rattle.rt_stamps.specs.Words.{as_words}
use Rattle.rt_peers.specs.SiteValue.{SiteValue, holding_of_site}
use Rattle.rt_store.specs.Shown.{TaggedCell}
use Rattle.rt_ops.specs.Operations.{Operation}
use Rattle.rt_holding.specs.Grown.{AreTriedAt, AreTriedBefore}
use Rattle.rt_peers.specs.SiteStep.{AnswersInTurn, MakesAndTries, Tries, by_widget, cell_limit, log_of, site_of, text_limit, text_log}
use Rattle.rt_peers.specs.Step.{step}
use Rattle.rt_peers.specs.Telling.{AreToldOf}
use Rattle.rt_peers.proofs.InTurn.{asked_steps, made_in_turn, made_none}
use Rattle.rt_peers.proofs.Making.{gains_grow_by, site_keeps, site_makes}
use Rattle.rt_peers.proofs.Noting.{no_shorter}
use Rattle.rt_peers.proofs.PeerLaws.{leading_site}
use Rattle.rt_peers.proofs.Staying.{tried_stay}
use Rattle.rt_peers.proofs.TakesNone.{refused_site}
use Rattle.rt_peers.proofs.Telling.{told_of}
use Rattle.rt_peers.proofs.site.SiteState.ask_text_telling.Goals as goal

pub invariant_of-self : goal.invariant_of-self
invariant_of-self c =
    let asked = c.ask_telling-reply in
    let steps = asked_steps c.args.number c.args.request.now c.self.inside.text asked.new.self asked.result.reply asked.ensures.answers in
    let state : SiteValue = record { paths = as_words c.self.inside.paths.items; text = c.self.inside.text; held = c.self.inside.held.held } in
    let mid : SiteValue = record state { text = asked.new.self } in
    let none : length (log_of mid) ≤ length (log_of state) =
    omega (arith, c.if-len-before.true, c.len-before.ensures, c.len.ensures, ap length c.log.ensures.operations, ap length c.log-2.ensures.operations) in
    let kept = site_keeps state mid steps.gains refl none in
    record {
      paths = record { each = omega (arith, steps.number, c.self.invariant.paths.each); differ = c.self.invariant.paths.differ };
      tried = subst (λ n. AreTriedAt n (log_of mid) c.self.inside.held) (sym kept.limit)
          (subst (λ (log : List Operation). AreTriedAt (cell_limit state) log c.self.inside.held) (sym kept.log) c.self.invariant.tried);
    }

pub returns-then-len-before-clause-answers : goal.returns-then-len-before-clause-answers
returns-then-len-before-clause-answers c =
    let asked = c.ask_telling-reply in
    let number = c.args.number in
    let request = c.args.request.now in
    let result = asked.result.reply in
    let state : SiteValue = record { paths = as_words c.self.inside.paths.items; text = c.self.inside.text; held = c.self.inside.held.held } in
    let mid : SiteValue = record state { text = asked.new.self } in
    let answers = leading_site number state (λ text. step text request) result mid.text asked.ensures.answers in
    let steps = asked_steps number request state.text mid.text result asked.ensures.answers in
    let none : length (log_of mid) ≤ length (log_of state) =
    omega (arith, c.if-len-before.true, c.len-before.ensures, c.len.ensures, ap length c.log.ensures.operations, ap length c.log-2.ensures.operations) in
    subst (λ (s : SiteValue). AnswersInTurn (by_widget number s (λ text. step text request)) s result mid) c.self.view_is
    (made_none (by_widget number state (λ text. step text request)) state mid result answers none (site_keeps state mid steps.gains refl none))

pub returns-then-len-before-clause-told : goal.returns-then-len-before-clause-told
returns-then-len-before-clause-told c =
    let asked = c.ask_telling-reply in
    let new = asked.new.self in
    subst (λ (s : SiteValue). IfSome asked.result.changes (λ changes. AreToldOf s.text new changes.items)) c.self.view_is
    (IfSome_then asked.result.changes asked.ensures.told
    (λ changes turn. told_of c.self.inside.text new changes.items c.log.ensures.history turn c.log.ensures.cells c.log-2.ensures.cells))

-- held ones were last tried before the site made operations
pub settle_telling-changes-requires : goal.settle_telling-changes-requires
settle_telling-changes-requires c =
    let asked = c.ask_telling-reply in
    let new = asked.new.self in
    let state : SiteValue = record { paths = as_words c.self.inside.paths.items; text = c.self.inside.text; held = c.self.inside.held.held } in
    let gains = (asked_steps c.args.number c.args.request.now c.self.inside.text new asked.result.reply asked.ensures.answers).gains in
    let own : c.number-site.result ≡ site_of state = c.number-site.ensures.value ∙ c.site.ensures ∙ gains.same.site in
    subst (λ n. AreTriedBefore (text_limit new) n c.self.inside.held (text_log new)) (sym own) (record {
      older = log_of state;
      tried = subst (λ n. AreTriedAt n (log_of state) c.self.inside.held) (sym gains.same.limit) c.self.invariant.tried;
      grown = gains_grow_by state.text.view.doc new.view.doc gains c.log.ensures.history;
    })

pub invariant_of-self-2 : goal.invariant_of-self-2
invariant_of-self-2 c =
    let asked = c.ask_telling-reply in
    let settled = c.settle_telling-changes in
    let steps = asked_steps c.args.number c.args.request.now c.self.inside.text asked.new.self asked.result.reply asked.ensures.answers in
    let mid : SiteValue = record { paths = as_words c.self.inside.paths.items; text = asked.new.self; held = c.self.inside.held.held } in
    let tried = tried_stay (text_limit mid.text) (holding_of_site mid) mid.text settled.new.self settled.new.held.held settled.ensures.tries.0 settled.ensures.tries.1 in
    record {
      paths = record { each = omega (arith, steps.number, tried, c.self.invariant.paths.each); differ = c.self.invariant.paths.differ };
      tried = settled.ensures.log;
    }

pub returns-clause-answers : goal.returns-clause-answers
returns-clause-answers c =
    let asked = c.ask_telling-reply in
    let settled = c.settle_telling-changes in
    let number = c.args.number in
    let request = c.args.request.now in
    let result = asked.result.reply in
    let state : SiteValue = record { paths = as_words c.self.inside.paths.items; text = c.self.inside.text; held = c.self.inside.held.held } in
    let mid : SiteValue = record state { text = asked.new.self } in
    let new : SiteValue = record { paths = state.paths; text = settled.new.self; held = settled.new.held.held } in
    let answers = leading_site number state (λ text. step text request) result mid.text asked.ensures.answers in
    let steps = asked_steps number request state.text mid.text result asked.ensures.answers in
    let few = subst (λ (cells : List TaggedCell). length cells ≤ cell_limit mid) c.log-2.ensures.cells c.log-2.ensures.few in
    let more : length (log_of state) < length (log_of mid) =
    omega (arith, c.if-len-before.false, c.len-before.ensures, c.len.ensures, ap length c.log.ensures.operations, ap length c.log-2.ensures.operations) in
    let tries : Tries mid new = record { count = settled.ensures.tries.0; tried = settled.ensures.tries.1; widgets = refl } in
    let makes : MakesAndTries state mid new =
    record { drafts = steps.gains.drafts; makes = site_makes state mid steps.gains refl c.log-2.ensures.history few; tries = tries } in
    subst (λ (s : SiteValue). AnswersInTurn (by_widget number s (λ text. step text request)) s result new) c.self.view_is
    (made_in_turn (by_widget number state (λ text. step text request)) state mid new result answers more makes)

pub returns-clause-told : goal.returns-clause-told
returns-clause-told c =
    let asked = c.ask_telling-reply in
    let settled = c.settle_telling-changes in
    let new = settled.new.self in
    subst (λ (s : SiteValue). IfSome settled.result (λ changes. AreToldOf s.text new changes.items)) c.self.view_is
    (IfSome_then settled.result (settled.ensures.told (text_log c.self.inside.text) asked.ensures.told)
    (λ changes turn. told_of c.self.inside.text new changes.items c.log.ensures.history turn c.log.ensures.cells c.log-3.ensures.cells))

-- the log is longer
pub returns-clause-known : goal.returns-clause-known
returns-clause-known c = λ same.
    let settled = c.settle_telling-changes in
    let longer = no_shorter c.ask_telling-reply.new.self c.self.inside.held.held settled.new.self settled.new.held.held settled.ensures.tries in
    absurd (omega (
      arith,
      ap length same,
      ap (λ (s : SiteValue). length (log_of s)) c.self.view_is,
      longer,
      c.if-len-before.false,
      c.len-before.ensures,
      c.len.ensures,
      ap length c.log.ensures.operations,
      ap length c.log-2.ensures.operations,
    ))

pub returns-then-len-before-clause-memory : goal.returns-then-len-before-clause-memory
returns-then-len-before-clause-memory c = λ none.
    let asked = c.ask_telling-reply in
    let number = c.args.number in
    let request = c.args.request.now in
    let state : SiteValue = record { paths = as_words c.self.inside.paths.items; text = c.self.inside.text; held = c.self.inside.held.held } in
    subst (λ (s : SiteValue). IfErr asked.result.reply (λ fault. by_widget number s (λ text. step text request) ≡ Err fault)) c.self.view_is
    (refused_site number state (λ text. step text request) asked.result.reply (asked.ensures.memory none))

pub returns-clause-memory : goal.returns-clause-memory
returns-clause-memory c = λ none.
    let asked = c.ask_telling-reply in
    let number = c.args.number in
    let request = c.args.request.now in
    let state : SiteValue = record { paths = as_words c.self.inside.paths.items; text = c.self.inside.text; held = c.self.inside.held.held } in
    subst (λ (s : SiteValue). IfErr asked.result.reply (λ fault. by_widget number s (λ text. step text request) ≡ Err fault)) c.self.view_is
    (refused_site number state (λ text. step text request) asked.result.reply (asked.ensures.memory none))
