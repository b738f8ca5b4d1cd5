use Rattle.std.proofs.Common.{◌≡◌, ◌∙◌, ◌⊎◌, ◌==◌, ℕ, List, Some, ap, false, inl, inr, subst, sym, true}
use Rattle.std.specs.BTreeSet.{BTreeSet, contains}
use Rattle.rt_ops.specs.Operations.{Operation}
use Rattle.rt_oplog.specs.Logs.{known_end}
use Rattle.rt_holding.specs.declared.waits.Key.{Key}
use Rattle.rt_holding.specs.declared.waits.Keys.{Keys}
use Rattle.rt_holding.specs.declared.waking.Passed.TheVariants.{Due, GoesOn}
use Rattle.rt_holding.specs.Waiting.{targets}
use Rattle.rt_holding.specs.Waits.{IfIsThere, by_key, is_due, is_noted}
use Rattle.rt_holding.specs.Waking.{IsPassedOn, IsSeenTo}
use Rattle.rt_holding.proofs.Sleeping.{came_goes_on}
use Rattle.rt_holding.proofs.waking.pass.Goals as goal

abbrev end_key : Key → ℕ → Key
end_key key count = record { site = key.site; count = count; place = key.place }

-- a span has begun and goes on, and the key at its end was put in
seen : (log : List Operation) (alone : BTreeSet Key) (new : Keys) (key : Key) (op : Operation) (last known : ℕ) → known ≡ known_end log key.site
    → contains by_key new.begun (end_key key last) ≡ true → is_noted new.ends key.site known ≡ true
    → (GoesOn last ≡ Due) ⊎ (((key.site == op.site) ≡ false) × IsPassedOn log alone key (targets op.body) (GoesOn last)) → IsSeenTo log new key op
seen log alone new key op last known k kept noted (inl e) = absurd (cc e)
seen log alone new key op last known k kept noted (inr w) =
    let (span, came, on, is) = w.1 in
    record {
      other = w.0;
      span = span;
      came = came;
      next = λ l. (ap (λ n. contains by_key new.begun (end_key key n)) (sym is) ∙ kept, ap (is_noted new.ends key.site) (sym k) ∙ noted);
      waits = inl (came_goes_on log key (targets op.body) span came on);
    }

pub returns-in-Ok-clause-here : goal.returns-in-Ok-clause-here
returns-in-Ok-clause-here g c =
    let log = g.T.Taking.log c.args.site.now in
    subst (IfIsThere (λ op. (is_due c.args.key.place c.args.waits.now.due ≡ true) ⊎ IsSeenTo log c.put_begun.new.keys c.args.key op))
    (ap (λ v. Some v) (sym c.in-Some-Some.field-0-is) ∙ c.in-Some-Some.ensures.value)
    (inr (seen log c.args.waits.now.keys.alone c.put_begun.new.keys c.args.key c.in-Some-Some.op c.in-GoesOn.last c.known-known.result c.known-known.ensures.known
    c.in-Ok.ensures.kept c.in-Ok.ensures.noted c.in-GoesOn.ensures))
