use Rattle.std.proofs.Common.{ℕ, refl, arith, ◌∙◌, ◌≡◌, ◌+◌, ◌-◌, ◌^◌, length, take, drop, subst}
use Rattle.std.proofs.lemmas.List.Elements.{All-drop}
use Rattle.std.specs.Prelude.{IfSome}
use Rattle.rt_tree.specs.Growing.{EndsThere}
use Rattle.rt_tree.specs.Holds.{IsEndAt}
use Rattle.rt_tree.specs.Runs.{cells_of_runs}
use Rattle.rt_tree.specs.Shape.{tree_runs}
use Rattle.rt_tree.specs.Sharing.{NoneIsNewer}
use Rattle.rt_tree.proofs.Ends.{known_behind}
use Rattle.rt_tree.proofs.Newest.{upto_drop, upto_next}
use Rattle.rt_tree.proofs.Splicing.{all_spliced, fewer_cells, more_spliced, new_ends, none_spliced, spliced_few, spliced_low, spliced_once, spliced_runs, spliced_with, spliced_within}
use Rattle.rt_tree.proofs.Sure.{front_below, front_new}
use Rattle.rt_store.specs.declared.cell.Cell.{Cell}
use Rattle.rt_tags.specs.States.{IsState}
use Rattle.rt_tree.proofs.Told.{front_given, short_kept}
use Rattle.rt_tree.proofs.splice.put_runs.Goals as goal

pub loop-done-init : goal.loop-done-init
loop-done-init c = record {
  tree = c.requires.tree;
  spliced = none_spliced c.args.new.now.text.now (tree_runs c.args.mem.now c.args.root.index) c.args.new.now.at c.args.new.now.cells.now c.requires.kept c.requires.edge c.requires.apart;
  upto = c.requires.upto;
  room = refl;
  told = c.requires.told;
  tags = refl;
  home = c.requires.home;
  housed = c.requires.housed;
  sure = λ was once below. was;
  left = omega arith;
  newest = λ some. absurd (omega (arith, some));
  end = subst (λ at. IfSome c.args.end (IsEndAt c.args.mem.now c.args.root.index at)) (omega arith) c.requires.end;
}

pub put_home-root-requires-clause-tree : goal.put_home-root-requires-clause-tree
put_home-root-requires-clause-tree c = c.loop-done.invariant.tree

pub put_home-root-requires-clause-within : goal.put_home-root-requires-clause-within
put_home-root-requires-clause-within c =
    let r = c.requires in let l = c.loop-done in let old = tree_runs c.args.mem.now c.args.root.index in
    spliced_within c.args.new.now.text.now old (tree_runs l.mem l.root.index) c.args.new.now.at l.done l.more l.lone c.args.new.now.cells.now r.kept r.short r.few r.within l.invariant.spliced

pub put_home-root-requires-clause-few : goal.put_home-root-requires-clause-few
put_home-root-requires-clause-few c =
    let r = c.requires in let l = c.loop-done in let old = tree_runs c.args.mem.now c.args.root.index in
    spliced_with c.args.new.now.text.now old (tree_runs l.mem l.root.index) c.args.new.now.at l.done l.more l.lone c.args.new.now.cells.now r.kept r.short r.few r.within l.invariant.spliced c.choose-next.result.run c.choose-next.ensures.run

pub put_home-root-requires-clause-height : goal.put_home-root-requires-clause-height
put_home-root-requires-clause-height c =
    let r = c.requires in let l = c.loop-done in let old = tree_runs c.args.mem.now c.args.root.index in
    spliced_low c.args.new.now.text.now old (tree_runs l.mem l.root.index) c.args.new.now.at l.done l.more l.lone c.args.new.now.cells.now r.kept r.short r.few r.within l.invariant.spliced l.mem l.root.index l.invariant.tree refl

pub put_home-root-requires-clause-room : goal.put_home-root-requires-clause-room
put_home-root-requires-clause-room c =
    let r = c.requires in let l = c.loop-done in let old = tree_runs c.args.mem.now c.args.root.index in
    let n = spliced_runs c.args.new.now.text.now old (tree_runs l.mem l.root.index) c.args.new.now.at l.done l.more l.lone c.args.new.now.cells.now r.kept r.short r.few r.within l.invariant.spliced in
    omega (arith, n, r.room, l.invariant.room)

pub loop-done-preserved : goal.loop-done-preserved
loop-done-preserved c =
    let r = c.requires in let l = c.loop-done in let old = tree_runs c.args.mem.now c.args.root.index in
    let p = c.put_home-root.ensures in let len = c.choose-next.result.run.len in let m = c.newest_of-newest.result in
    let now = tree_runs l.mem l.root.index in let new = tree_runs c.put_home-root.new.mem c.put_home-root.result.index in
    let n : l.done + len - l.done ≡ len = omega arith in
    let more = subst (λ i. NoneIsNewer m (take i (drop l.done c.args.new.now.cells.now))) n c.newest_of-newest.ensures.cells in
    let then_spliced = more_spliced c.args.new.now.text.now old (tree_runs l.mem l.root.index) c.args.new.now.at l.done l.more l.lone c.args.new.now.cells.now r.kept r.short r.few r.within l.invariant.spliced c.choose-next.result.run c.choose-next.ensures.run (tree_runs c.put_home-root.new.mem c.put_home-root.result.index) p.runs c.choose-next.result.lone c.choose-next.ensures.apart c.choose-next.ensures.stretch in
    record {
      tree = p.tree;
      spliced = then_spliced;
      upto = upto_next l.newest m c.args.new.now.at l.done len c.args.new.now.cells.now (cells_of_runs c.args.new.now.text.now old) (cells_of_runs c.args.new.now.text.now now) (cells_of_runs c.args.new.now.text.now new) c.newest_of-newest.ensures.least l.invariant.spliced.changed.cells then_spliced.changed.cells l.invariant.upto more;
      room = p.room ∙ l.invariant.room;
      told = p.told;
      tags = p.tags ∙ l.invariant.tags;
      home = p.home;
      housed = p.housed;
      sure = λ was once below.
          let text = c.args.new.now.text.now in let run = c.choose-next.result.run in let front = c.choose-next.ensures.run in let rest = drop l.done c.args.new.now.cells.now in
          let apart = spliced_once text old now c.args.new.now.at l.done l.more l.lone c.args.new.now.cells.now r.kept r.short r.few r.within l.invariant.spliced once in
          p.sure (l.invariant.sure was once below) (front_new text run rest front now l.invariant.spliced.changed.kept apart) front.run.some
          (front_below text run rest front (upto_drop (2 ^ 64 - 2) l.done c.args.new.now.cells.now below));
      left = let i = l.invariant.left in let s = c.choose-next.ensures.run.run.some in let n = p.left in omega (arith, i, s, n);
      newest = λ some. new_ends c.args.new.now.text.now old (tree_runs l.mem l.root.index) c.args.new.now.at l.done l.more l.lone c.args.new.now.cells.now r.kept r.short r.few r.within l.invariant.spliced c.choose-next.result.run c.choose-next.ensures.run new p.runs r.last.long;
      end = tt;
    }

pub loop-done-smaller : goal.loop-done-smaller
loop-done-smaller c =
    let r = c.requires in let l = c.loop-done in let old = tree_runs c.args.mem.now c.args.root.index in
    fewer_cells c.args.new.now.text.now old (tree_runs l.mem l.root.index) c.args.new.now.at l.done l.more l.lone c.args.new.now.cells.now r.kept r.short r.few r.within l.invariant.spliced c.choose-next.result.run c.choose-next.ensures.run (tree_runs c.put_home-root.new.mem c.put_home-root.result.index) c.put_home-root.ensures.runs

pub returns-clause-tree : goal.returns-clause-tree
returns-clause-tree c = c.loop-done.invariant.tree

pub returns-clause-cells : goal.returns-clause-cells
returns-clause-cells c =
    let l = c.loop-done in let old = tree_runs c.args.mem.now c.args.root.index in
    let a = all_spliced c.args.new.now.text.now old (tree_runs l.mem l.root.index) c.args.new.now.at l.done l.more l.lone c.args.new.now.cells.now l.invariant.spliced (omega (arith, c.loop-done-test.false)) in a.0

pub returns-clause-runs : goal.returns-clause-runs
returns-clause-runs c = c.loop-done.invariant.spliced.runs

pub returns-clause-more : goal.returns-clause-more
returns-clause-more c =
    let l = c.loop-done in let old = tree_runs c.args.mem.now c.args.root.index in
    let a = all_spliced c.args.new.now.text.now old (tree_runs l.mem l.root.index) c.args.new.now.at l.done l.more l.lone c.args.new.now.cells.now l.invariant.spliced (omega (arith, c.loop-done-test.false)) in a.1

pub returns-clause-newest : goal.returns-clause-newest
returns-clause-newest c some =
    let l = c.loop-done in let new = tree_runs l.mem l.root.index in
    let cells = c.args.new.now.cells.now in let all = length c.args.new.now.text.now in
    let done : l.done ≡ length cells = (let low = l.invariant.spliced.low in omega (arith, c.loop-done-test.false, low)) in
    let end : all - length cells + length cells ≡ all = (let long = c.requires.last.long in omega (arith, long)) in
    let at = l.invariant.newest (omega (arith, done, some)) in
    subst (EndsThere new (c.args.new.now.at + length cells)) end (subst (λ k. EndsThere new (c.args.new.now.at + k) (all - length cells + k)) done at)

pub returns-clause-room : goal.returns-clause-room
returns-clause-room c = c.loop-done.invariant.room

pub overflow_add-more : goal.overflow_add-more
overflow_add-more c =
    let s = c.loop-done.invariant.spliced in
    let f = s.most in let n = s.low in let m = c.requires.few in
    omega (arith, f, n, m)

pub choose-next-requires-clause-tree : goal.choose-next-requires-clause-tree
choose-next-requires-clause-tree c = c.loop-done.invariant.tree

pub choose-next-requires-clause-kept : goal.choose-next-requires-clause-kept
choose-next-requires-clause-kept c = c.loop-done.invariant.spliced.changed.kept

pub choose-next-requires-clause-upto : goal.choose-next-requires-clause-upto
choose-next-requires-clause-upto c = c.loop-done.invariant.upto

pub choose-next-requires-clause-apart : goal.choose-next-requires-clause-apart
choose-next-requires-clause-apart c = c.loop-done.invariant.spliced.apart

pub choose-next-requires-clause-few : goal.choose-next-requires-clause-few
choose-next-requires-clause-few c =
    let r = c.requires in let l = c.loop-done in let old = tree_runs c.args.mem.now c.args.root.index in
    spliced_few c.args.new.now.text.now old (tree_runs l.mem l.root.index) c.args.new.now.at l.done l.more l.lone c.args.new.now.cells.now r.kept r.short r.few r.within l.invariant.spliced

pub returns-clause-apart : goal.returns-clause-apart
returns-clause-apart c = c.loop-done.invariant.spliced.apart

pub returns-clause-most : goal.returns-clause-most
returns-clause-most c =
    let s = c.loop-done.invariant.spliced in
    let f = s.most in let n = s.low in
    omega (arith, f, n)

pub choose-next-requires-clause-home : goal.choose-next-requires-clause-home
choose-next-requires-clause-home c = c.loop-done.invariant.home

pub put_home-root-requires-clause-counts : goal.put_home-root-requires-clause-counts
put_home-root-requires-clause-counts c = c.choose-next.ensures.run.run.counts

pub put_home-root-requires-clause-known : goal.put_home-root-requires-clause-known
put_home-root-requires-clause-known c = record { text = c.args.new.now.text.now; kept = c.loop-done.invariant.spliced.changed.kept; upto = c.loop-done.invariant.upto }

pub put_home-root-requires-clause-home : goal.put_home-root-requires-clause-home
put_home-root-requires-clause-home c = c.loop-done.invariant.home

pub put_home-root-requires-clause-left : goal.put_home-root-requires-clause-left
put_home-root-requires-clause-left c =
    let i = c.loop-done.invariant.left in let t = c.loop-done-test.true in
    omega (arith, i, t, c.requires.left)

pub put_home-root-requires-clause-housed : goal.put_home-root-requires-clause-housed
put_home-root-requires-clause-housed c = c.loop-done.invariant.housed

pub returns-clause-home : goal.returns-clause-home
returns-clause-home c = c.loop-done.invariant.home

pub returns-clause-housed : goal.returns-clause-housed
returns-clause-housed c = c.loop-done.invariant.housed

pub returns-clause-left : goal.returns-clause-left
returns-clause-left c = let i = c.loop-done.invariant.left in let low = c.loop-done.invariant.spliced.low in omega (arith, i, low)

pub put_home-root-requires-clause-told : goal.put_home-root-requires-clause-told
put_home-root-requires-clause-told c = c.loop-done.invariant.told

pub put_home-root-requires-clause-short : goal.put_home-root-requires-clause-short
put_home-root-requires-clause-short c =
    let r = c.requires in let l = c.loop-done in let old = tree_runs c.args.mem.now c.args.root.index in
    short_kept (tree_runs l.mem l.root.index) (record { text = c.args.new.now.text.now; short = r.short; runs = l.invariant.spliced.changed.kept })
    (spliced_few c.args.new.now.text.now old (tree_runs l.mem l.root.index) c.args.new.now.at l.done l.more l.lone c.args.new.now.cells.now r.kept r.short r.few r.within l.invariant.spliced)

pub put_home-root-requires-clause-state : goal.put_home-root-requires-clause-state
put_home-root-requires-clause-state c =
    let l = c.loop-done in let table = c.args.states.now in
    let p : Cell ℕ → Type 0 = λ x. IsState table x.state in
    front_given table c.args.new.now.text.now (drop l.done c.args.new.now.cells.now) c.choose-next.result.run c.choose-next.ensures.run (All-drop p l.done c.args.new.now.cells.now c.requires.states)

pub returns-clause-told : goal.returns-clause-told
returns-clause-told c = c.loop-done.invariant.told

pub returns-clause-tags : goal.returns-clause-tags
returns-clause-tags c = c.loop-done.invariant.tags

pub put_home-root-requires-clause-hint : goal.put_home-root-requires-clause-hint
put_home-root-requires-clause-hint c = let l = c.loop-done in known_behind l.end c.behind.result l.mem l.root.index (c.args.new.now.at + l.done) c.behind.ensures l.invariant.end

pub returns-clause-sure : goal.returns-clause-sure
returns-clause-sure c = c.loop-done.invariant.sure
