use Rattle.std.proofs.Common.{◌≡◌, ◌∙◌, codes, ap, sym, arith}
use Rattle.std.proofs.lemmas.Grind.{elements}
use Rattle.std.specs.Str.{bytes_eq}
use Rattle.rt_script.proofs.site_lines.is_receive.Goals as goal

pub returns-in-114 : goal.returns-in-114
returns-in-114 c =
    let e : c.as_bytes.result.now ≡ codes "receive" = grind (arith, elements) in
    sym (ap (λ s. bytes_eq s (codes "receive")) (sym c.as_bytes.ensures.value ∙ e))
