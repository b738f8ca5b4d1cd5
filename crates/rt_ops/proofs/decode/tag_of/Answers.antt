use Rattle.std.proofs.Common.{refl, string_bytes, Global, ◌∙◌, ap, ◌∷◌, ◌++◌}
use Rattle.std.proofs.lemmas.Result.{err_from_is_err_and}
use Rattle.rt_ops.specs.Operations.{Tag}
use Rattle.rt_ops.specs.File.{flag, name_bytes}
use Rattle.rt_ops.proofs.Rooms.{tag_fits}
use Rattle.rt_ops.proofs.Parts.{refused_as, decided, no_spans_of}
use Rattle.rt_ops.proofs.decode.tag_of.Goals as goal

pub returns-in_err-spans : goal.returns-in_err-spans
returns-in_err-spans c =
    let p = err_from_is_err_and c.from_residual-in_err-spans.result c.from_residual-in_err-spans.ensures.1 in
    let name = c.in_ok-name.ensures in
    rw (p.1, p.2) (refused_as c.in_err-spans.field-0.0 (no_spans_of c.args.bytes.now c.in-Some.found.1.now c.in_ok-name.rest.now c.in-Some.found.0 (string_bytes {Z = Global} c.in_ok-name.name) c.in-Some.ensures.bytes name.1) c.in_err-spans.ensures)

pub returns : goal.returns
returns c =
    let name = c.in_ok-name.ensures in
    let read = c.in_ok-spans.ensures in
    let bytes = string_bytes {Z = Global} c.in_ok-name.name in
    rw c.tag.ensures (decided c.args.version 3 c.args.stamp c.args.prev (Tag c.in-Some.found.0 bytes c.in_ok-spans.spans.items) c.args.bytes.now refl (tag_fits c.args.version c.in-Some.found.0 bytes c.in_ok-spans.spans.items read.0.each) (name.0, read.0)
    (c.in-Some.ensures.bytes ∙ ap (λ v. flag c.in-Some.found.0 ∷ v) (name.1 ∙ ap (λ v. name_bytes bytes ++ v) read.1)))
