use Rattle.std.proofs.Common.{◌<◌, ◌++◌, ◌∷◌, [], ◌∙◌, ap, sym, arith, append_assoc, append-nil}
use Rattle.std.specs.Prelude.{encode_utf8_all}
use Rattle.rt_tagcmd.specs.declared.element.Key.TheVariants.{Text}
use Rattle.rt_tagcmd.specs.Elements.{element_at}
use Rattle.rt_tagcmd.proofs.Values.{values_left, values_step, values_done, part_taken}
use Rattle.rt_tagcmd.proofs.texts.values_of.Goals as goal

pub overflow_sub-end : goal.overflow_sub-end
overflow_sub-end c = omega (arith, c.loop-start.invariant.after, c.text_end-end.ensures.behind)

pub slice_bounds-text_value-count : goal.slice_bounds-text_value-count
slice_bounds-text_value-count c = omega (arith, c.loop-start.invariant.after, c.text_end-end.ensures.behind)

pub loop-start-smaller : goal.loop-start-smaller
loop-start-smaller c = omega (arith, c.text_end-end.ensures.behind, c.text_end-end.ensures.within)

pub loop-start-preserved : goal.loop-start-preserved
loop-start-preserved c =
    let behind : c.loop-start.start < c.text_end-end.result = c.text_end-end.ensures.behind in
    let after = c.loop-start.invariant.after in
    let within = c.text_end-end.ensures.within in
    record {
      after = omega arith;
      whole = λ text e.
          let part = part_taken text c.args.chars.now c.args.from c.args.to c.loop-start.start c.text_end-end.result e after (omega arith) within in
          let value = c.in_ok-text_value.ensures.ok ∙ ap (λ v. element_at Text (encode_utf8_all v) c.loop-start.start) part in
          c.loop-start.invariant.whole text e
          ∙ ap (λ v. c.loop-start.values.items ++ v) (values_step text c.args.others.now c.args.to c.loop-start.start c.text_end-end.result (omega arith) (c.text_end-end.ensures.ends text e))
          ∙ ap (λ v. c.loop-start.values.items ++ v ∷ values_left text c.args.others.now c.args.to c.text_end-end.result) (sym value)
          ∙ sym (append_assoc c.loop-start.values.items (c.in_ok-text_value.field-0 ∷ []) (values_left text c.args.others.now c.args.to c.text_end-end.result))
          ∙ ap (λ v. v ++ values_left text c.args.others.now c.args.to c.text_end-end.result) (sym c.in_ok-push.ensures.items);
    }

pub returns-clause-ok : goal.returns-clause-ok
returns-clause-ok c =
    λ text e. sym (c.loop-start.invariant.whole text e ∙ ap (λ v. c.loop-start.values.items ++ v) (values_done text c.args.others.now c.args.to c.loop-start.start (omega arith)) ∙ append-nil c.loop-start.values.items)
