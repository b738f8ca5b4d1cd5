use Rattle.std.proofs.Common.{refl}
use Rattle.std.specs.Prelude.{option_copied}
use Rattle.std.proofs.lemmas.Result.{err_from_is_err_and}
use Rattle.rt_tags.specs.Tags.{raised}
use Rattle.rt_text.specs.Widgets.{with_tags}
use Rattle.rt_tagcmd.proofs.TagOrders.{order_err, order_ok, order_refused}
use Rattle.rt_tagcmd.proofs.tag.tag_raise.Goals as goal

pub returns-in_err-check_both : goal.returns-in_err-check_both
returns-in_err-check_both g c =
    let (y, is, gives) = err_from_is_err_and c.from_residual.result c.from_residual.ensures.1 in
    let view = c.args.view.now in
    let other = option_copied c.args.above in
    rw (is, gives) (record {
      ok = tt;
      err = order_refused view c.args.name.now other (with_tags view (raised c.args.name.now other view.doc.tags)) c.in_err-check_both.field-0.0 c.in_err-check_both.ensures;
      unchanged = refl;
    })

pub returns : goal.returns
returns g c =
    let call = c.raise_tag in
    let view = c.args.view.now in
    let other = option_copied c.args.above in
    let after = with_tags view (raised c.args.name.now other view.doc.tags) in
    record {
      ok = order_ok view c.args.name.now other call.new.self after call.result c.in_ok-check_both.field-0 c.in_ok-check_both.ensures call.ensures.answer call.ensures.ok;
      err = order_err view c.args.name.now other after call.result c.in_ok-check_both.field-0 c.in_ok-check_both.ensures call.ensures.answer;
      unchanged = call.ensures.unchanged;
    }
