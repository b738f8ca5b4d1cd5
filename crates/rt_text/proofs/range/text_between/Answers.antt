use Rattle.std.proofs.lemmas.Result.{err_from_is_err_and}
use Rattle.std.proofs.Common.{◌≡◌, ◌≤◌, ◌∙◌, ap, sym, arith, length, min, max, take}
use Rattle.std.specs.Prelude.{encode_utf8_all, ◌++◌}
use Rattle.rt_store.specs.Cells.{text_of}
use Rattle.rt_text.specs.Ranges.{text_between}
use Rattle.rt_plans.proofs.PlaceLaws.{length_text}
use Rattle.rt_text.proofs.TextLaws.{between_more, between_all}
use Rattle.rt_text.proofs.range.text_between.Goals as goal

pub returns-in_err-push_all : goal.returns-in_err-push_all
returns-in_err-push_all g c =
    let p = err_from_is_err_and c.from_residual.result c.from_residual.ensures.1 in
    rw (p.1, p.2) (record { ok = tt; err = c.in_err-push_all.ensures.err })

pub returns-clause-err : goal.returns-clause-err
returns-clause-err g c = tt

pub loop-place-preserved : goal.loop-place-preserved
loop-place-preserved g c =
    let text = text_of (g.S.TextStore.list c.args.store.now) in
    let few : c.min-read.result ≤ c.characters.result = omega (arith, c.min-read.ensures) in
    let more = encode_utf8_all (take c.min-read.result c.characters.new.buffer) in
    record {
      from = omega (arith, c.loop-place.invariant.from);
      to = omega (arith, c.min-read.ensures, c.loop-place-test.true);
      same = c.in_ok-push_all.ensures.ok ∙ ap (λ v. v ++ more) c.loop-place.invariant.same ∙ sym (between_more text c.characters.new.buffer c.args.from c.loop-place.place c.characters.result c.min-read.result c.loop-place.invariant.from few c.characters.ensures.characters);
    }

pub returns-clause-ok : goal.returns-clause-ok
returns-clause-ok g c =
    let cells = g.S.TextStore.list c.args.store.now in
    let n : c.visible.result ≡ length (text_of cells) = c.visible.ensures ∙ sym (length_text cells) in
    let last : c.loop-place.place ≡ max (min c.args.to c.visible.result) c.args.from = omega (arith, c.loop-place.invariant.to) in
    c.loop-place.invariant.same ∙ ap (λ place. encode_utf8_all (text_between (text_of cells) c.args.from place)) last
    ∙ ap encode_utf8_all (between_all (text_of cells) c.args.from c.args.to c.visible.result n)
