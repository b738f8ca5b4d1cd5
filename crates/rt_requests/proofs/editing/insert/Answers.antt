use Rattle.std.proofs.Common.{◌≡◌, ◌∙◌, ◌==◌, ◌∷◌, false, length, string_bytes, sym}
use Rattle.rt_requests.proofs.Inserting.{insert_of_some}
use Rattle.rt_requests.proofs.editing.insert.Goals as goal

pub returns : goal.returns
returns c =
    let some : (length c.in-Some.words.now == 0) ≡ false = sym c.is_empty.ensures ∙ c.if-is_empty.false in
    let split : c.args.words.now ≡ c.in-Some.index.now ∷ c.in-Some.words.now = c.in-Some.ensures.cases.0 in
    rw split (insert_of_some _ (string_bytes c.in-Some.index.now) c.in-Some.words.now some (rw (← c.deref.ensures) c.insert_texts.ensures))
