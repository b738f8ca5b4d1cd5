use Rattle.std.proofs.Common.{◌≡◌, ◌∙◌, ◌==◌, ◌∷◌, false, length, string_bytes, sym}
use Rattle.rt_requests.proofs.Inserting.{replace_of_some}
use Rattle.rt_requests.proofs.editing.replace_from.Goals as goal

pub returns : goal.returns
returns c =
    let some : (length c.in-Some.texts.now == 0) ≡ false = sym c.is_empty.ensures ∙ c.if-is_empty.false in
    let split : c.args.words.now ≡ c.in-Some.to.now ∷ c.in-Some.texts.now = c.in-Some.ensures.cases.0 in
    rw split (replace_of_some _ c.args.from.now (string_bytes c.in-Some.to.now) c.in-Some.texts.now some (rw (← c.deref.ensures) c.replace_by_texts.ensures))
