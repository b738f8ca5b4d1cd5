use Rattle.std.proofs.Common.{◌≡◌, ◌∷◌, [], ◌+◌, ◌-◌, ◌++◌, drop, length, arith, ap, ◌∙◌, List, ℕ, refl}
use Rattle.std.specs.Int.{w32}
use Rattle.std.proofs.lemmas.List.{length-append}
use Rattle.rt_ops.specs.File.{number, content_of}
use Rattle.rt_ops.specs.Views.{operation_in}
use Rattle.rt_ops.proofs.Lengths.{patched}
use Rattle.rt_ops.proofs.spell.spell.Goals as goal

-- the length field that isn't written yet
abbrev zeros : List ℕ
zeros = 0 ∷ 0 ∷ 0 ∷ 0 ∷ []

pub overflow_cast-length : goal.overflow_cast-length
overflow_cast-length c =
    let is : c.push_record.new.buffer.items ≡ zeros ++ content_of c.args.version (operation_in c.args.op) =
    c.in_default.ensures.ok ∙ ap (λ v. v ++ (zeros ++ content_of c.args.version (operation_in c.args.op))) c.clear.ensures.items in
    let size : length c.push_record.new.buffer.items ≡ 4 + length (content_of c.args.version (operation_in c.args.op)) = ap length is ∙ length-append zeros (content_of c.args.version (operation_in c.args.op)) in
    omega (arith, size, c.in_default.ensures.short, c.len-length.ensures, c.push_record.new.buffer.ok.0)

pub returns-clause-ok : goal.returns-clause-ok
returns-clause-ok c =
    let is : c.push_record.new.buffer.items ≡ zeros ++ content_of c.args.version (operation_in c.args.op) =
    c.in_default.ensures.ok ∙ ap (λ v. v ++ (zeros ++ content_of c.args.version (operation_in c.args.op))) c.clear.ensures.items in
    let size : length c.push_record.new.buffer.items ≡ 4 + length (content_of c.args.version (operation_in c.args.op)) = ap length is ∙ length-append zeros (content_of c.args.version (operation_in c.args.op)) in
    patched c.push_record.new.buffer.items c.write_length.new.buffer zeros (content_of c.args.version (operation_in c.args.op)) c.push_record.new.buffer.len (c.len-length.result - 4)
    (omega (arith, c.push_record.new.buffer.ok.0)) is refl (omega (arith, size, c.len-length.ensures, c.push_record.new.buffer.ok.0))
    (c.write_length.ensures ∙ ap (λ v. number w32 (c.len-length.result - 4) ++ drop 4 v) c.deref_mut.ensures.value)
