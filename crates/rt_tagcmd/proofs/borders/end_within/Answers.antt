use Rattle.std.proofs.Common.{◌≡◌, ℕ, ◌<◌, List, min, Bool, arith, subst, ◌∙◌, inl, inr}
use Rattle.std.proofs.lemmas.Bool.{cases_lt}
use Rattle.std.proofs.lemmas.List.{length-map}
use Rattle.rt_store.specs.Tagged.{Passes}
use Rattle.rt_tagcmd.specs.TagRanges.{PassUpTo}
use Rattle.rt_tagcmd.proofs.FirstRange.{passing_end}
use Rattle.rt_tagcmd.proofs.TagRangeLaws.{passing_within}
use Rattle.rt_text.specs.Widgets.{shows_tag, cells_shown}
use Rattle.rt_tagcmd.specs.Stretches.{RunsTo}
use Rattle.rt_tagcmd.proofs.borders.end_within.Goals as goal

-- up to an end, if the characters that pass go on up to that
cut : {A : Type 0} (test : A → Bool) (cs : List A) (begin end found behind : ℕ) → PassUpTo test cs begin end → Passes test cs begin → begin < behind → found ≡ min end behind → RunsTo test cs begin found behind
cut test cs begin end found behind h p l e = record {
  behind = elim (cases_lt begin end) [ inl m ↦ omega arith | inr m ↦ absurd (h.none_behind (let from = h.from in let same : begin ≡ end = omega arith in subst (Passes test cs) same p)) ];
  within = omega arith;
  all = λ k m n. h.passes k m (omega arith);
  stops = λ m q. let same : found ≡ end = omega arith in h.none_behind (subst (Passes test cs) same q);
}

pub returns : goal.returns
returns g c =
    let test = shows_tag c.args.view.now.own c.args.name.now in
    let cs = cells_shown c.args.view.now in
    let within = passing_within test cs c.args.begin c.requires.tagged in
    cut test cs c.args.begin c.unwrap_or.result c.min.result c.args.behind
    (passing_end test cs c.args.begin c.next_untagged.result c.visible-end.result c.unwrap_or.result (omega (arith, within)) c.next_untagged.ensures (c.visible-end.ensures ∙ length-map cs (λ cell. cell.ch)) c.unwrap_or.ensures)
    c.requires.tagged c.requires.before c.min.ensures
