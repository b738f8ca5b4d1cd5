use Rattle.std.proofs.Common.{◌≡◌, ◌∙◌, ◌&&◌, ◌-◌, ap, sym, refl, rules, length, true}
use Rattle.rt_stamps.specs.Stamps.{is_same}
use Rattle.rt_rows.specs.Listed.{KeptRow}
use Rattle.rt_rows.specs.Rows.{follows, stamp_in}
use Rattle.rt_rows.specs.Views.{operation_under}
use Rattle.rt_rows.proofs.row.Row.goes_on.Goals as goal

pub returns-then-goes_on-clause-next : goal.returns-then-goes_on-clause-next
returns-then-goes_on-clause-next c tags =
    let row : KeptRow = c.args.self.now in
    let op = operation_under tags c.args.typed.now in
    let f : c.goes_on.result ≡ follows row.start (length row.text) op =
    c.goes_on.ensures op refl refl ∙ ap (λ n. follows c.self.inside.start n op) c.len-many.ensures.value ∙ ap (λ (r : KeptRow). follows r.start (length r.text) op) c.self.view_is in
    let last : c.stamp_at.result ≡ stamp_in row.start (length row.text - 1) = c.stamp_at.ensures ∙ ap (λ n. stamp_in c.self.inside.start (n - 1)) c.len-many.ensures.value
    ∙ ap (λ (r : KeptRow). stamp_in r.start (length r.text - 1)) c.self.view_is in
    let first : follows row.start (length row.text) op ≡ true = sym f ∙ c.if-goes_on.true in
    let same : c.eq.result ≡ is_same c.args.typed.now.after c.stamp_at.result = search rules in
    rw first (same ∙ ap (is_same c.args.typed.now.after) last)

pub returns-else-goes_on-clause-next : goal.returns-else-goes_on-clause-next
returns-else-goes_on-clause-next c tags =
    let row : KeptRow = c.args.self.now in
    let op = operation_under tags c.args.typed.now in
    let f : c.goes_on.result ≡ follows row.start (length row.text) op =
    c.goes_on.ensures op refl refl ∙ ap (λ n. follows c.self.inside.start n op) c.len-many.ensures.value ∙ ap (λ (r : KeptRow). follows r.start (length r.text) op) c.self.view_is in
    c.if-goes_on.false ∙ sym (ap (λ b. b && is_same c.args.typed.now.after (stamp_in row.start (length row.text - 1))) (sym f ∙ c.if-goes_on.false))
