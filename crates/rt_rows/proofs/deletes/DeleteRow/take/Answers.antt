use Rattle.std.proofs.Common.{◌≡◌, ◌<◌, ◌∙◌, ◌∷◌, [], ◌++◌, ap, sym, refl, arith, length, true}
use Rattle.std.proofs.lemmas.Option.{IfSome_then}
use Rattle.rt_rows.specs.Rows.{DeletesInRow, deletes, deletes_in_row, follows}
use Rattle.rt_rows.specs.Views.{operation_deleting}
use Rattle.rt_rows.proofs.Following.{follows_count, follows_true, from_length, row_more}
use Rattle.rt_rows.proofs.deletes.DeleteRow.take.Goals as goal

pub push-requires-clause-count : goal.push-requires-clause-count
push-requires-clause-count c =
    let row : DeletesInRow = c.args.self.now in
    let op = operation_deleting c.args.deleted.now in
    let f : follows row.start (length row.spans) op ≡ true =
    ap (λ (r : DeletesInRow). follows r.start (length row.spans) op) (sym c.self.view_is) ∙ ap (λ n. follows c.self.inside.start n op) (sym c.len-many.ensures.len)
    ∙ sym (c.goes_on.ensures op refl refl) ∙ c.if-not-goes_on.false in
    let count = follows_count row.start (length row.spans) op f in
    omega (arith, count, c.requires.count)

pub returns-clause-place : goal.returns-clause-place
returns-clause-place c =
    let row : DeletesInRow = c.args.self.now in
    IfSome_then c.push.result c.push.ensures.more (λ at h. h.0 ∙ sym (from_length row.start deletes 0 row.spans))

pub returns-clause-more : goal.returns-clause-more
returns-clause-more c =
    let row : DeletesInRow = c.args.self.now in
    let op = operation_deleting c.args.deleted.now in
    let f : follows row.start (length row.spans) op ≡ true =
    ap (λ (r : DeletesInRow). follows r.start (length row.spans) op) (sym c.self.view_is) ∙ ap (λ n. follows c.self.inside.start n op) (sym c.len-many.ensures.len)
    ∙ sym (c.goes_on.ensures op refl refl) ∙ c.if-not-goes_on.false in
    let some : 0 < length row.spans = omega (arith, c.len-many.ensures.some, c.len-many.ensures.len) in
    let made : deletes_in_row (record row { spans = row.spans ++ c.args.deleted.now.span ∷ [] }) ≡ deletes_in_row row ++ op ∷ [] =
    row_more row.start deletes row.spans c.args.deleted.now.span ∙ ap (λ x. deletes_in_row row ++ x ∷ []) (sym (follows_true row.start (length row.spans) op some f)) in
    IfSome_then c.push.result c.push.ensures.more (λ at h. ap deletes_in_row h.1 ∙ made)
