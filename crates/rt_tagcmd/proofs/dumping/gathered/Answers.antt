use Rattle.std.proofs.Common.{◌≡◌, ◌∙◌, ◌++◌, ap, subst, sym}
use Rattle.rt_tagcmd.specs.Dumping.{others_asked}
use Rattle.rt_tagcmd.specs.Elements.{by_place, if_asked, places_between, text_values}
use Rattle.rt_tagcmd.specs.Stretches.{IsSortOf, within}
use Rattle.rt_text.specs.Widgets.{length_shown, text_shown}
use Rattle.rt_tagcmd.proofs.Dumps.{others_dumped, stretch_at, texts_dumped}
use Rattle.rt_tagcmd.proofs.dumping.gathered.Goals.{then-kinds+in_ok-texts+in_ok-append+in_ok-sort-2, else-kinds}
use Rattle.rt_tagcmd.proofs.dumping.gathered.Goals as goal

pub returns-clause-ok : goal.returns-clause-ok
returns-clause-ok g c =
    let view = c.args.view.now in
    let n = length_shown view in
    let from = c.args.from in
    let to = c.args.to in
    let others = others_asked view c.args.kinds in
    let texts = text_values (text_shown view) others from to in
    let first : c.in_ok-all.all.items ≡ within (stretch_at n from to) others = c.in_ok-all.ensures.ok ∙ ap (λ s. within s others) c.stretch_of.ensures in
    let sorted : IsSortOf c.in_ok-all.all.items c.sort.new.elements.items = c.in_ok-sort.ensures.ok in
    elim c.if-kinds.branch [
      | then-kinds+in_ok-texts+in_ok-append+in_ok-sort-2 w ↦
          (λ i. (w.all-is i).items)
          ∙ texts_dumped n from to (text_shown view) others c.in_ok-all.all.items c.sort.new.elements.items w.in_ok-texts.texts.items w.sort-then-kinds.new.elements.items first sorted
          (w.in_ok-texts.ensures.ok ∙ (λ i. text_values (w.shown.ensures i) (w.deref.ensures.value i) from to))
          (subst (λ v. IsSortOf v w.sort-then-kinds.new.elements.items) w.in_ok-append.ensures.items w.in_ok-sort-2.ensures.ok)
          ∙ (λ i. by_place (places_between n from to) (others ++ if_asked (sym w.if-kinds.true i) texts))
      | else-kinds w ↦
          (λ i. (w.all-is i).items)
          ∙ others_dumped n from to others c.in_ok-all.all.items c.sort.new.elements.items first sorted
          ∙ (λ i. by_place (places_between n from to) (others ++ if_asked (sym w.if-kinds.false i) texts))
    ]
