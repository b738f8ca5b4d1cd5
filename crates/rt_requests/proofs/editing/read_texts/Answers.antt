use Rattle.std.proofs.Common.{◌∙◌, List, string_bytes, subst}
use Rattle.rt_stamps.specs.Words.{Word, as_words}
use Rattle.rt_words.specs.Spelling.{SpellsList}
use Rattle.rt_requests.proofs.ReadTexts.{Reading, next, read_all, two_and_more}
use Rattle.rt_requests.proofs.editing.read_texts.Goals as goal

pub loop-left-preserved : goal.loop-left-preserved
loop-left-preserved c =
    let words : List Word = as_words c.args.words.now in
    let split = two_and_more c.loop-left.left.now c.text-item.result c.list-item.result c.in-len2-up.len_at_least c.text-item.is c.list-item.is in
    let read = subst (λ (v : List Word). Reading words v c.loop-left.pieces.items) split c.loop-left.invariant in
    let spelled = subst (λ (v : Word). SpellsList v c.in_ok-piece.field-0.tags) c.deref-in-len2-up.ensures c.in_ok-piece.ensures.ok.1 in
    rw c.in_ok-push.ensures.items (next words _ (string_bytes c.text-item.result) (string_bytes c.list-item.result) c.loop-left.pieces.items c.in_ok-piece.field-0 (c.in_ok-piece.ensures.ok.0 ∙ c.deref.ensures) spelled read)

pub returns-clause-ok : goal.returns-clause-ok
returns-clause-ok c = rw c.new.ensures (read_all (as_words c.args.words.now) (as_words c.loop-left.left.now) _ c.loop-left.pieces.items c.only_text-rest.ensures c.loop-left.invariant)
