use Rattle.std.proofs.Common.{inr, refl, sym, ap, ◌∙◌, ◌*◌, arith}
use Rattle.rt_ops.proofs.Parts.{no_spans, other_size, spans_read}
use Rattle.rt_ops.proofs.fields.spans_of.Goals as goal

pub returns-in-None : goal.returns-in-None
returns-in-None c = inr (refl, λ spans fits e. no_spans c.args.version c.args.bytes.now spans c.in-None.ensures.none e)

pub returns-then-rest-span_bytes : goal.returns-then-rest-span_bytes
returns-then-rest-span_bytes c = inr (
  refl,
  λ spans fits e.
      other_size {ver = c.args.version} c.args.bytes.now c.in-Some.found.1.now c.in-Some.found.0 spans c.in-Some.ensures.fits fits c.in-Some.ensures.bytes (λ h. c.if-rest-span_bytes.true (omega (arith, h ∙ ap (λ k. k * c.in-Some.found.0) (sym c.span_bytes.ensures) ∙ ap (λ n. c.span_bytes.result * n) (sym c.from.ensures)))) e,
)

pub returns : goal.returns
returns c = spans_read c.args.version c.spans_in.result (λ spans. spans.items) c.args.bytes.now c.in-Some.found.1.now c.in-Some.found.0 c.in-Some.ensures.fits c.in-Some.ensures.bytes
    c.spans_in.ensures.fits c.spans_in.ensures.count c.spans_in.ensures.bytes c.spans_in.ensures.fault
