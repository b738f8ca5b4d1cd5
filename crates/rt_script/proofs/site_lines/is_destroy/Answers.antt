use Rattle.std.proofs.Common.{◌≡◌, ◌∙◌, codes, ap, sym, arith}
use Rattle.std.proofs.lemmas.Grind.{elements}
use Rattle.std.specs.Str.{bytes_eq}
use Rattle.rt_script.proofs.site_lines.is_destroy.Goals as goal

pub returns-in-100 : goal.returns-in-100
returns-in-100 c =
    let e : c.as_bytes.result.now ≡ codes "destroy" = grind (arith, elements) in
    sym (ap (λ s. bytes_eq s (codes "destroy")) (sym c.as_bytes.ensures.value ∙ e))
