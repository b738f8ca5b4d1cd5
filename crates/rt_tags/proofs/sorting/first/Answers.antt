use Rattle.std.proofs.Common.{◌∙◌, string_bytes, sym, ◌<◌, ℕ, List, length, subst}
use Rattle.rt_tags.proofs.Merging.{first_in_new, first_in_old, first_is_equal, first_is_greater, first_is_less}
use Rattle.std.proofs.lemmas.List.{length-map}
use Rattle.std.proofs.lemmas.List.Elements.{All-head}
use Rattle.rt_stamps.specs.Words.{as_words}
use Rattle.rt_tags.specs.declared.states.TagEntry.{TagEntry}
use Rattle.rt_tags.specs.Kept.{HaveNames}
use Rattle.rt_tags.proofs.sorting.first.Goals as goal

pub returns-in-Some-split_first-clause-some : goal.returns-in-Some-split_first-clause-some
returns-in-Some-split_first-clause-some c =
    first_in_new (as_words c.args.names.now) c.args.old.now c.args.new.now c.in-Some-split_first.more_new.now c.in-Some-split_first.y.now c.in-None.ensures.cases c.in-Some-split_first.ensures.cases c.requires.old c.requires.new

pub returns-in-None-split_first-2-clause-some : goal.returns-in-None-split_first-2-clause-some
returns-in-None-split_first-2-clause-some c =
    first_in_old (as_words c.args.names.now) c.args.old.now c.args.new.now c.in-Some.more_old.now c.in-Some.x.now c.in-Some.ensures.cases c.in-None-split_first-2.ensures.cases c.requires.old c.requires.new

pub returns-in-Less-clause-some : goal.returns-in-Less-clause-some
returns-in-Less-clause-some c =
    first_is_less (as_words c.args.names.now) c.args.old.now c.args.new.now c.in-Some.more_old.now c.in-Some-split_first-2.more_new.now c.in-Some.x.now c.in-Some-split_first-2.y.now c.in-Some.ensures.cases c.in-Some-split_first-2.ensures.cases c.requires.old c.requires.new (sym c.order.ensures ∙ c.in-Less.is)

pub returns-in-Greater-clause-some : goal.returns-in-Greater-clause-some
returns-in-Greater-clause-some c =
    first_is_greater (as_words c.args.names.now) c.args.old.now c.args.new.now c.in-Some.more_old.now c.in-Some-split_first-2.more_new.now c.in-Some.x.now c.in-Some-split_first-2.y.now c.in-Some.ensures.cases c.in-Some-split_first-2.ensures.cases c.requires.old c.requires.new (sym c.order.ensures ∙ c.in-Greater.is)

pub returns-in-Equal-clause-some : goal.returns-in-Equal-clause-some
returns-in-Equal-clause-some c =
    first_is_equal (as_words c.args.names.now) c.args.old.now c.args.new.now c.in-Some.more_old.now c.in-Some-split_first-2.more_new.now c.in-Some.x.now c.in-Some-split_first-2.y.now c.in-Some.ensures.cases c.in-Some-split_first-2.ensures.cases c.requires.old c.requires.new c.newer.result (sym c.order.ensures ∙ c.in-Equal.is) c.newer.ensures

-- both entries have names
pub order-requires-clause-x : goal.order-requires-clause-x
order-requires-clause-x c =
    let names : List (List ℕ) = as_words c.args.names.now in
    let named = subst (HaveNames (length names)) c.in-Some.ensures.cases.0 c.requires.old.named in
    subst (λ n. c.in-Some.x.now.tag < n) (length-map c.args.names.now (λ s. string_bytes s)) (All-head (λ (e : TagEntry). e.tag < length names) c.in-Some.x.now c.in-Some.more_old.now named)

pub order-requires-clause-y : goal.order-requires-clause-y
order-requires-clause-y c =
    let names : List (List ℕ) = as_words c.args.names.now in
    let named = subst (HaveNames (length names)) c.in-Some-split_first-2.ensures.cases.0 c.requires.new.named in
    subst (λ n. c.in-Some-split_first-2.y.now.tag < n) (length-map c.args.names.now (λ s. string_bytes s)) (All-head (λ (e : TagEntry). e.tag < length names) c.in-Some-split_first-2.y.now c.in-Some-split_first-2.more_new.now named)
