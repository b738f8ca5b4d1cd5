use Rattle.std.proofs.Common.{◌≡◌, ◌∙◌, List, ap, arith, length, map, subst, sym}
use Rattle.rt_marks.specs.Marks.{HaveOwnNames}
use Rattle.rt_stamps.specs.Places.{line_of}
use Rattle.rt_store.specs.Cells.{text_of}
use Rattle.rt_tags.specs.States.{state_at}
use Rattle.rt_plans.specs.DocValue.{DocValue}
use Rattle.rt_plans.specs.Listed.{AreListed}
use Rattle.rt_store.specs.Shown.{TaggedCell, shown}
use Rattle.rt_text.specs.Widgets.{AreSiteMarks}
use Rattle.rt_text.proofs.MarkLaws.{site_named}
use Rattle.rt_text.proofs.PartLines.{lines_of_limits}
use Rattle.rt_plans.proofs.PlaceLaws.{text_within}
use Rattle.rt_store.proofs.Shown.{text_shown}
use Rattle.rt_lines.specs.Stretches.{stretch_of}
use Rattle.rt_lines.proofs.Shown.{stretch_shown}
use Rattle.rt_text.proofs.doc.Doc.ground.Goals as goal

pub stretch-stretch-requires : goal.stretch-stretch-requires
stretch-stretch-requires g c = omega (arith, c.kept.ensures.few, c.kept.ensures.most)

pub line_at-requires : goal.line_at-requires
line_at-requires g c = omega (arith, c.stretch-stretch.ensures.some, c.stretch-stretch.ensures.within)

pub invariant_of-result : goal.invariant_of-result
invariant_of-result g c =
    let kept = g.S.TextStore.list c.kept.result.0.now in
    let limits = c.limits.result in
    let seen : List TaggedCell = map (shown c.kept.result.1.now) kept in
    let n = length (text_of seen) in
    let text : text_of seen ≡ text_of kept = text_shown (state_at c.kept.result.1.now) kept in
    let many : n ≡ length (text_of kept) = ap length text in
    let cells : c.self.inside.replica.cells ≡ seen = ap (λ (f : DocValue). f.cells) c.self.view_is ∙ sym c.kept.ensures.cells in
    let placed : AreSiteMarks n c.self.inside.marks = subst (λ (seen : List TaggedCell). AreSiteMarks (length (text_of seen)) c.self.inside.marks) cells c.self.invariant.placed in
    let ends = g.met.S.TextStore.ends c.kept.result.0.now in
    let stretch = c.stretch-stretch.result in
    record {
      same = sym c.kept.ensures.cells;
      listed = subst (λ (seen : List TaggedCell). AreListed c.self.inside.tags.names seen) cells c.self.invariant.listed;
      text = text;
      few = omega (arith, many, text_within kept, c.kept.ensures.most, c.kept.ensures.few);
      lines = lines_of_limits kept limits stretch (text_of seen) ends c.stretch-stretch.ensures.value text;
      begins = c.line_at.ensures ∙ ap (λ t. line_of t stretch.begin) (sym text);
      names = λ name h. site_named n c.self.inside.marks placed name h;
    }

pub returns-clause-stretch : goal.returns-clause-stretch
returns-clause-stretch g c =
    let kept = g.S.TextStore.list c.kept.result.0.now in
    c.stretch-stretch.ensures.value ∙ sym (stretch_shown (state_at c.kept.result.1.now) kept c.limits.result)
    ∙ (λ i. stretch_of (c.kept.ensures.cells i) (c.limits.ensures i))

pub returns-clause-names : goal.returns-clause-names
returns-clause-names g c = subst (λ (f : DocValue). HaveOwnNames f.marks) c.self.view_is c.order.ensures.own_names
