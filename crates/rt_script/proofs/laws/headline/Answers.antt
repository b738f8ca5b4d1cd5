use Rattle.std.proofs.Common.{◌≡◌, ◌∙◌, ℕ, Bool, true, false, Ok, Err, ap, length, subst, arith, inl, inr}
use Rattle.std.specs.Prelude.{◌⊎◌, MatchBool, nat_lt}
use Rattle.std.proofs.lemmas.Bool.Decides.{nat_tests}
use Rattle.rt_peers.specs.SiteStep.{KeepsOperations, MakesAndTries, Tries, has_made, log_of}
use Rattle.rt_peers.specs.SiteValue.{SiteValue}
use Rattle.rt_script.specs.Headline.{RepliesByStep}
use Rattle.rt_script.proofs.laws.headline.Goals as goal

never_less : (n : ℕ) → nat_lt n n ≡ false
never_less n = grind (arith, nat_tests)

tried_or_kept : (made : Bool) (old mid new : SiteValue) → MatchBool made (MakesAndTries old mid new) (KeepsOperations old mid × (new ≡ mid)) → (new ≡ mid) ⊎ Tries mid new
tried_or_kept true old mid new h = inr h.tries
tried_or_kept false old mid new h = inl h.1

by_step : RepliesByStep
by_step path request old new (Ok reply) h = (h.0, h.1, tried_or_kept (has_made old h.0) old h.0 new h.2)
by_step path request old new (Err fault) h =
    let same : h.0 ≡ old = h.1.0 in
    let none : has_made old h.0 ≡ false = ap (has_made old) same ∙ never_less (length (log_of old)) in
    let kept = subst (λ (b : Bool). MatchBool b (MakesAndTries old h.0 new) (KeepsOperations old h.0 × (new ≡ h.0))) none h.2 in
    (kept.1 ∙ same, h.1.1)

pub returns : goal.returns
returns c =
    let first = c.histories.ensures.logs (log_of c.args.one.now) c.log.ensures.history in
    let second = c.histories.ensures.logs (log_of c.args.other.now) c.log-2.ensures.history in
    record {
      history = c.log.ensures.history;
      cells = c.log.ensures.cells;
      agree = c.sites_agree.ensures.text;
      in_any_order = c.sites_agree_in_any_order.ensures.text;
      accepted = c.accepted.ensures.greatest;
      union = λ log. c.joining.ensures.union (log_of c.args.one.now) (log_of c.args.other.now) log first second;
      conflict = c.joining.ensures.conflict (log_of c.args.one.now) (log_of c.args.other.now) first second;
      exchange = c.exchange.ensures.any;
      words = λ words. let asked = c.reading_is_total.ensures words in (asked.0, asked.1, λ other h. c.reading_is_unique.ensures words other asked.0 h asked.1);
      replies = by_step;
      one_way = c.one_way.ensures.events;
      lines = c.one_output.ensures.lines;
      calls = c.lives_on.ensures.events;
      runs = c.runs.ensures.lives;
      output = c.one_output.ensures.runs;
    }
