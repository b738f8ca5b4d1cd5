use Rattle.rt_plans.specs.NamedSpans.{by_site}
use Rattle.rt_plans.proofs.NamedSpanLaws.{by_site_sorted, spans_counted, spans_forward, spans_hold}
use Rattle.rt_plans.proofs.SpanLaws.{clear_runs}
use Rattle.rt_plans.proofs.laws.named_spans.Goals as goal

pub returns-clause-same : goal.returns-clause-same
returns-clause-same c = spans_hold

pub returns-clause-count : goal.returns-clause-count
returns-clause-count c = spans_counted

pub returns-clause-forward : goal.returns-clause-forward
returns-clause-forward c = spans_forward

pub returns-clause-clear : goal.returns-clause-clear
returns-clause-clear c = λ stamps h. clear_runs (by_site stamps) (by_site_sorted stamps h)
