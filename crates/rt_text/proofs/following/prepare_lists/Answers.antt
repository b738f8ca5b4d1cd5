use Rattle.std.proofs.Common.{◌≡◌, ◌∙◌, ◌||◌, ℕ, List, All, ap, string_bytes, subst, sym, true}
use Rattle.std.proofs.lemmas.List.Elements.{All-map}
use Rattle.rt_stamps.specs.Words.{as_words}
use Rattle.rt_ops.specs.Edits.{body_of}
use Rattle.rt_rga.specs.Taken.{lists_of}
use Rattle.rt_tags.specs.Tags.{IsName, is_listed, is_ready}
use Rattle.rt_text.proofs.AcceptedDocument.{all_under, lists_named, ok_more}
use Rattle.rt_text.proofs.following.prepare_lists.Goals as goal

pub prepare_tags-requires : goal.prepare_tags-requires
prepare_tags-requires c =
    let lists = ap (λ e. lists_of (body_of e)) c.in-Insert.is in
    subst (All (λ w. IsName (string_bytes w))) (sym c.deref.ensures.value) (all_under IsName string_bytes c.in-Insert.tags.items (subst (All IsName) lists (lists_named (body_of c.args.edit.now) c.requires)))

pub returns-in-Insert-clause-ready : goal.returns-in-Insert-clause-ready
returns-in-Insert-clause-ready c =
    let lists = ap (λ e. lists_of (body_of e)) c.in-Insert.is in
    ok_more c.prepare_tags.result
    (λ all. subst (All (λ name. is_ready name c.prepare_tags.new.table ≡ true)) (ap as_words c.deref.ensures.value ∙ sym lists) (All-map (λ name. is_ready name c.prepare_tags.new.table ≡ true) string_bytes c.deref.result.now all))
    c.prepare_tags.ensures.ready

pub returns-in-Insert-clause-only : goal.returns-in-Insert-clause-only
returns-in-Insert-clause-only c =
    let lists = ap (λ e. lists_of (body_of e)) c.in-Insert.is in
    let given : as_words c.deref.result.now ≡ lists_of (body_of c.args.edit.now) = ap as_words c.deref.ensures.value ∙ sym lists in
    λ q h. sym (ap (λ l. is_listed q l || is_ready q c.args.table.now) given) ∙ c.prepare_tags.ensures.only q h

pub returns-in-Insert-clause-memory : goal.returns-in-Insert-clause-memory
returns-in-Insert-clause-memory c =
    let lists = ap (λ e. lists_of (body_of e)) c.in-Insert.is in
    let given : as_words c.deref.result.now ≡ lists_of (body_of c.args.edit.now) = ap as_words c.deref.ensures.value ∙ sym lists in
    let P : List ℕ → Type 0 = λ name. is_ready name c.args.table.now ≡ true in
    λ all. c.prepare_tags.ensures.memory (all_under P string_bytes c.deref.result.now (subst (All P) (sym given) all))
