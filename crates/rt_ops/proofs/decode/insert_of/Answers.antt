use Rattle.std.proofs.Common.{inr, refl, ◌∙◌, ap, ◌++◌, arith, length, ◌≡◌, ◌≤◌, string_bytes, Global}
use Rattle.std.proofs.lemmas.List.{length-map}
use Rattle.std.proofs.lemmas.Result.{err_from_is_err_and}
use Rattle.rt_stamps.specs.Words.{as_words}
use Rattle.rt_ops.specs.Operations.{Insert}
use Rattle.rt_ops.specs.Versions.{layout}
use Rattle.rt_ops.specs.File.{stamp_bytes, tags_bytes}
use Rattle.rt_ops.proofs.Rooms.{insert_fits}
use Rattle.rt_ops.proofs.Parts.{refused_as, decided, no_insert, no_tags_of, no_text_of, too_many_tags}
use Rattle.rt_ops.proofs.decode.insert_of.Goals as goal

pub returns-in-None : goal.returns-in-None
returns-in-None c = inr (refl, no_insert c.args.version c.args.bytes.now c.in-None.ensures.none)

pub returns-in_err-tags : goal.returns-in_err-tags
returns-in_err-tags c =
    let p = err_from_is_err_and c.from_residual.result c.from_residual.ensures.1 in
    let after = c.in-Some.ensures in
    rw (p.1, p.2) (refused_as c.in_err-tags.field-0.0 (no_tags_of c.args.bytes.now c.in-Some.found.1.now c.in-Some.found.0 after.fits after.bytes) c.in_err-tags.ensures)

pub returns-then-len-most_tags : goal.returns-then-len-most_tags
returns-then-len-most_tags c =
    let after = c.in-Some.ensures in
    let names = as_words c.in_ok-tags.tags.items in
    let size : length names ≡ length c.in_ok-tags.tags.items = length-map c.in_ok-tags.tags.items (string_bytes {Z = Global}) in
    inr (
      refl,
      too_many_tags c.args.bytes.now c.in-Some.found.1.now c.in_ok-tags.rest.now c.in-Some.found.0 names after.fits after.bytes c.in_ok-tags.ensures.1
          (omega (arith, size, c.if-len-most_tags.true, c.most_tags.ensures, c.len.ensures, c.in_ok-tags.tags.ok.0)),
    )

pub returns-in_err-text : goal.returns-in_err-text
returns-in_err-text c =
    let p = err_from_is_err_and c.from_residual-in_err-text.result c.from_residual-in_err-text.ensures.1 in
    let after = c.in-Some.ensures in
    let tags = c.in_ok-tags.ensures in
    rw (p.1, p.2) (refused_as c.in_err-text.field-0.0 (no_text_of c.args.bytes.now c.in-Some.found.1.now c.in_ok-tags.rest.now c.in-Some.found.0 (as_words c.in_ok-tags.tags.items) after.fits after.bytes tags.1) c.in_err-text.ensures)

pub returns : goal.returns
returns c =
    let after = c.in-Some.ensures in
    let tags = c.in_ok-tags.ensures in
    let text = c.in_ok-text.ensures in
    let names = as_words c.in_ok-tags.tags.items in
    let size : length names ≡ length c.in_ok-tags.tags.items = length-map c.in_ok-tags.tags.items (string_bytes {Z = Global}) in
    let few : length names ≤ (layout c.args.version).most_tags = omega (arith, size, c.if-len-most_tags.false, c.most_tags.ensures, c.len.ensures, c.in_ok-tags.tags.ok.0) in
    rw c.insert_text.ensures (decided c.args.version 1 c.args.stamp c.args.prev (Insert c.in-Some.found.0 names c.in_ok-text.text) c.args.bytes.now refl (insert_fits c.args.version c.in-Some.found.0 names c.in_ok-text.text after.fits few) (after.fits, tags.0)
    (after.bytes ∙ ap (λ v. stamp_bytes c.args.version c.in-Some.found.0 ++ v) (tags.1 ∙ ap (λ v. tags_bytes names ++ v) text.1)))
