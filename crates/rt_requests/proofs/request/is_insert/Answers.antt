use Rattle.std.proofs.Common.{◌≡◌, ◌∙◌, codes, ap, sym, arith}
use Rattle.std.proofs.lemmas.Grind.{elements}
use Rattle.std.specs.Str.{bytes_eq}
use Rattle.rt_requests.proofs.request.is_insert.Goals as goal

pub returns-in-105 : goal.returns-in-105
returns-in-105 c =
    let e : c.as_bytes.result.now ≡ codes "insert" = grind (arith, elements) in
    sym (ap (λ s. bytes_eq s (codes "insert")) (sym c.as_bytes.ensures.value ∙ e))
