use Rattle.std.proofs.Common.{◌≡◌, ◌+◌, ◌-◌, ◌^◌, ◌≤◌, ℕ, List, take, drop, length, arith, ap, ◌∙◌, sym, subst}
use Rattle.std.proofs.lemmas.List.{length-drop, take_all}
use Rattle.std.proofs.lemmas.List.Elements.{All-drop}
use Rattle.rt_store.specs.declared.cell.Cell.{Cell}
use Rattle.rt_store.specs.Cells.{put_at}
use Rattle.rt_tree.specs.Additions.{EndsWith, stretch_count}
use Rattle.rt_tree.specs.Growing.{EndsThere}
use Rattle.rt_tree.specs.Runs.{cells_of_runs}
use Rattle.rt_tree.specs.Shape.{tree_runs}
use Rattle.rt_tree.specs.Sharing.{AreBelowGreatest, AreOnce, NoneIsNewer}
use Rattle.rt_tree.proofs.Newest.{upto_drop, upto_more, upto_put}
use Rattle.rt_tree.specs.Stretches.{AreChanged}
use Rattle.rt_tree.proofs.Ends.{held_still}
use Rattle.rt_tree.proofs.Following.{stretches_drop}
use Rattle.rt_tree.proofs.Splicing.{cut_count, ends_later, put_count, put_twice, rest_is, rest_once}
use Rattle.rt_store.specs.Tagged.{AreStates}
use Rattle.rt_tags.specs.States.{IsState}
use Rattle.rt_tree.proofs.splice.put_cells.Goals as goal

pub cut_home-end-requires-clause-few : goal.cut_home-end-requires-clause-few
cut_home-end-requires-clause-few c =
    let r = c.requires in let e = c.extend-extended.ensures in let old = tree_runs c.args.mem.now c.args.root.index in
    let n = put_count c.args.new.now.text.now old (tree_runs c.extend-extended.new.mem c.args.root.index) c.args.new.now.at c.extend-extended.result.done c.args.new.now.cells.now r.kept e.cells e.within r.within in
    let w = e.within in let f = r.few in
    omega (arith, n, w, f)

pub cut_home-end-requires-clause-within : goal.cut_home-end-requires-clause-within
cut_home-end-requires-clause-within c =
    let r = c.requires in let e = c.extend-extended.ensures in let old = tree_runs c.args.mem.now c.args.root.index in
    let n = put_count c.args.new.now.text.now old (tree_runs c.extend-extended.new.mem c.args.root.index) c.args.new.now.at c.extend-extended.result.done c.args.new.now.cells.now r.kept e.cells e.within r.within in
    let w = r.within in
    omega (arith, n, w)

pub put_runs-then-requires-clause-kept : goal.put_runs-then-requires-clause-kept
put_runs-then-requires-clause-kept c = c.cut_home-end.ensures.recut.kept c.args.new.now.text.now c.extend-extended.ensures.cells.kept

pub put_runs-then-requires-clause-apart : goal.put_runs-then-requires-clause-apart
put_runs-then-requires-clause-apart c = c.cut_home-end.ensures.recut.apart c.extend-extended.ensures.apart

pub put_runs-then-requires-clause-upto : goal.put_runs-then-requires-clause-upto
put_runs-then-requires-clause-upto c =
    let e = c.extend-extended.ensures in let text = c.args.new.now.text.now in let n = c.newest_of-newest.ensures in let m = c.newest_of-newest.result in
    let old = cells_of_runs text (tree_runs c.args.mem.now c.args.root.index) in
    let front = take c.extend-extended.result.done c.args.new.now.cells.now in
    subst (NoneIsNewer m) (sym (c.cut_home-end.ensures.recut.cells text e.cells.kept ∙ e.cells.cells))
    (upto_put m c.args.new.now.at front old (upto_more c.args.new.now.newest m old n.least c.requires.upto) n.cells)

pub put_runs-then-requires-clause-last : goal.put_runs-then-requires-clause-last
put_runs-then-requires-clause-last c =
    let cells = c.args.new.now.cells.now in let k = c.extend-extended.result.done in let w = c.extend-extended.ensures.within in
    subst (λ (x : List (Cell ℕ)). EndsWith c.args.new.now.text.now x) (sym (rest_is k cells w)) (ends_later c.args.new.now.text.now cells k w c.requires.last)

pub put_runs-then-requires-clause-few : goal.put_runs-then-requires-clause-few
put_runs-then-requires-clause-few c =
    let r = c.requires in let e = c.extend-extended.ensures in let old = tree_runs c.args.mem.now c.args.root.index in
    let k = c.extend-extended.result.done in let cells = c.args.new.now.cells.now in
    let n = cut_count c.args.new.now.text.now old (tree_runs c.extend-extended.new.mem c.args.root.index) c.args.new.now.at k cells r.kept e.cells e.within r.within (tree_runs c.cut_home-end.new.mem c.cut_home-end.result.change.root.index) c.cut_home-end.ensures.recut in
    let l = ap length (rest_is k cells e.within) ∙ length-drop k cells in
    let w = e.within in let f = r.few in
    omega (arith, n, l, w, f)

pub put_runs-then-requires-clause-within : goal.put_runs-then-requires-clause-within
put_runs-then-requires-clause-within c =
    let r = c.requires in let e = c.extend-extended.ensures in let old = tree_runs c.args.mem.now c.args.root.index in
    let n = cut_count c.args.new.now.text.now old (tree_runs c.extend-extended.new.mem c.args.root.index) c.args.new.now.at c.extend-extended.result.done c.args.new.now.cells.now r.kept e.cells e.within r.within (tree_runs c.cut_home-end.new.mem c.cut_home-end.result.change.root.index) c.cut_home-end.ensures.recut in
    let w = r.within in
    omega (arith, n, w)

pub put_runs-then-requires-clause-room : goal.put_runs-then-requires-clause-room
put_runs-then-requires-clause-room c =
    let r = c.requires in let e = c.extend-extended.ensures in let k = c.cut_home-end.ensures in
    let l = ap length (rest_is c.extend-extended.result.done c.args.new.now.cells.now e.within) ∙ length-drop c.extend-extended.result.done c.args.new.now.cells.now in
    let a = e.runs in let b = k.runs in let m = k.more in let x = e.room in let y = k.room in let z = r.room in
    omega (arith, a, b, m, l, x, y, z)

-- so many runs are put in
few : (cells : List (Cell ℕ)) (k more : ℕ) → k ≤ length cells → more ≤ stretch_count (take (length cells - k) (drop k cells)) → more ≤ stretch_count cells
few cells k more w le = let e = ap stretch_count (rest_is k cells w) in let s = stretches_drop k cells in omega (arith, le, e, s)

pub overflow_add-result : goal.overflow_add-result
overflow_add-result c =
    let w = c.extend-extended.ensures.within in
    let m = c.put_runs-then.ensures.most in
    let n = ap length (rest_is c.extend-extended.result.done c.args.new.now.cells.now w) ∙ length-drop c.extend-extended.result.done c.args.new.now.cells.now in
    let k = c.cut_home-end.ensures.more in let f = c.requires.few in
    omega (arith, m, n, k, f)

pub returns-clause-cells : goal.returns-clause-cells
returns-clause-cells c =
    let r = c.requires in let e = c.extend-extended.ensures in let old = tree_runs c.args.mem.now c.args.root.index in
    let k = c.extend-extended.result.done in let cells = c.args.new.now.cells.now in
    let mid = tree_runs c.cut_home-end.new.mem c.cut_home-end.result.change.root.index in let new = tree_runs c.put_runs-then.new.mem c.put_runs-then.result.root.index in
    put_twice c.args.new.now.text.now old (tree_runs c.extend-extended.new.mem c.args.root.index) c.args.new.now.at k cells r.kept e.cells e.within r.within mid c.cut_home-end.ensures.recut new
    (subst (λ (x : List (Cell ℕ)). AreChanged mid new c.args.new.now.text.now (put_at (c.args.new.now.at + k) x)) (rest_is k cells e.within) c.put_runs-then.ensures.cells)

pub returns-clause-most : goal.returns-clause-most
returns-clause-most c =
    let w = c.extend-extended.ensures.within in
    let m = c.put_runs-then.ensures.most in
    let n = ap length (rest_is c.extend-extended.result.done c.args.new.now.cells.now w) ∙ length-drop c.extend-extended.result.done c.args.new.now.cells.now in
    let k = c.cut_home-end.ensures.more in
    omega (arith, m, n, k)

pub returns-clause-more : goal.returns-clause-more
returns-clause-more c =
    let r = c.requires in let e = c.extend-extended.ensures in let old = tree_runs c.args.mem.now c.args.root.index in
    let done = c.extend-extended.result.done in let cells = c.args.new.now.cells.now in
    let mid = tree_runs c.cut_home-end.new.mem c.cut_home-end.result.change.root.index in
    let k = c.cut_home-end.ensures.more in
    λ once. let o = rest_once c.args.new.now.text.now old (tree_runs c.extend-extended.new.mem c.args.root.index) c.args.new.now.at done cells r.kept e.cells e.within r.within mid c.cut_home-end.ensures.recut once in
    let p = subst (λ (x : List (Cell ℕ)). AreOnce (cells_of_runs c.args.new.now.text.now mid) x) (sym (rest_is done cells e.within)) o in
    let m = few cells done c.put_runs-then.result.more e.within (c.put_runs-then.ensures.more p) in
    omega (arith, m, k)

pub returns-then-done-new-clause-cells : goal.returns-then-done-new-clause-cells
returns-then-done-new-clause-cells c =
    let e = c.extend-extended.ensures in let old = tree_runs c.args.mem.now c.args.root.index in let new = tree_runs c.extend-extended.new.mem c.args.root.index in
    let all = take_all c.extend-extended.result.done c.args.new.now.cells.now (let d = c.if-done-new.true in omega (arith, d)) in
    subst (λ (x : List (Cell ℕ)). AreChanged old new c.args.new.now.text.now (put_at c.args.new.now.at x)) all e.cells

pub cut_home-end-requires-clause-home : goal.cut_home-end-requires-clause-home
cut_home-end-requires-clause-home c = c.extend-extended.ensures.home

pub put_runs-then-requires-clause-home : goal.put_runs-then-requires-clause-home
put_runs-then-requires-clause-home c = c.cut_home-end.ensures.home

pub put_runs-then-requires-clause-left : goal.put_runs-then-requires-clause-left
put_runs-then-requires-clause-left c =
    let l = ap length (rest_is c.extend-extended.result.done c.args.new.now.cells.now c.extend-extended.ensures.within) ∙ length-drop c.extend-extended.result.done c.args.new.now.cells.now in
    let x = c.extend-extended.ensures.left in let y = c.cut_home-end.ensures.left in
    omega (arith, l, x, y, c.requires.left)

pub cut_home-end-requires-clause-housed : goal.cut_home-end-requires-clause-housed
cut_home-end-requires-clause-housed c = c.extend-extended.ensures.housed

pub put_runs-then-requires-clause-housed : goal.put_runs-then-requires-clause-housed
put_runs-then-requires-clause-housed c = c.cut_home-end.ensures.housed

pub cut_home-end-requires-clause-told : goal.cut_home-end-requires-clause-told
cut_home-end-requires-clause-told c = c.extend-extended.ensures.told

pub put_runs-then-requires-clause-told : goal.put_runs-then-requires-clause-told
put_runs-then-requires-clause-told c = c.cut_home-end.ensures.told

pub put_runs-then-requires-clause-states : goal.put_runs-then-requires-clause-states
put_runs-then-requires-clause-states c =
    let table = c.args.states.now in let k = c.extend-extended.result.done in let cells = c.args.new.now.cells.now in
    let p : Cell ℕ → Type 0 = λ x. IsState table x.state in
    subst (AreStates table) (sym (rest_is k cells c.extend-extended.ensures.within)) (All-drop p k cells c.requires.states)

pub returns-clause-tags : goal.returns-clause-tags
returns-clause-tags c = c.put_runs-then.ensures.tags ∙ c.cut_home-end.ensures.tags ∙ c.extend-extended.ensures.tags

pub cut_home-end-requires-clause-edge : goal.cut_home-end-requires-clause-edge
cut_home-end-requires-clause-edge c = c.extend-extended.ensures.edge

pub cut_home-end-requires-clause-held : goal.cut_home-end-requires-clause-held
cut_home-end-requires-clause-held c =
    let s = c.still_there-last.ensures in
    held_still c.args.last.now c.still_there-last.result.now c.extend-extended.result.done c.args.mem.now c.extend-extended.new.mem c.args.root.index s.still s.dropped c.requires.held c.extend-extended.ensures.still

pub returns-clause-sure : goal.returns-clause-sure
returns-clause-sure c = λ was once below.
    let r = c.requires in let e = c.extend-extended.ensures in let old = tree_runs c.args.mem.now c.args.root.index in
    let done = c.extend-extended.result.done in let cells = c.args.new.now.cells.now in
    let mid = tree_runs c.cut_home-end.new.mem c.cut_home-end.result.change.root.index in
    let same = sym (rest_is done cells e.within) in
    let o = rest_once c.args.new.now.text.now old (tree_runs c.extend-extended.new.mem c.args.root.index) c.args.new.now.at done cells r.kept e.cells e.within r.within mid c.cut_home-end.ensures.recut once in
    let p = subst (λ (x : List (Cell ℕ)). AreOnce (cells_of_runs c.args.new.now.text.now mid) x) same o in
    let b = subst AreBelowGreatest same (upto_drop (2 ^ 64 - 2) done cells below) in
    c.put_runs-then.ensures.sure (c.cut_home-end.ensures.sure ∙ e.sure was once below) p b

pub returns-then-done-new-clause-newest : goal.returns-then-done-new-clause-newest
returns-then-done-new-clause-newest c some =
    let e = c.extend-extended.ensures in let new = tree_runs c.extend-extended.new.mem c.args.root.index in
    let cells = c.args.new.now.cells.now in let all = length c.args.new.now.text.now in
    let done : c.extend-extended.result.done ≡ length cells = (let d = c.if-done-new.true in omega (arith, d)) in
    let end : all - length cells + length cells ≡ all = (let long = c.requires.last.long in omega (arith, long)) in
    let at = e.newest (omega (arith, done, some)) in
    subst (EndsThere new (c.args.new.now.at + length cells)) end (subst (λ k. EndsThere new (c.args.new.now.at + k) (all - length cells + k)) done at)

pub returns-clause-newest : goal.returns-clause-newest
returns-clause-newest c some =
    let w = c.extend-extended.ensures.within in
    let new = tree_runs c.put_runs-then.new.mem c.put_runs-then.result.root.index in
    let cells = c.args.new.now.cells.now in let k = c.extend-extended.result.done in let at = c.args.new.now.at in
    let rest = take (length cells - k) (drop k cells) in
    let n = ap length (rest_is k cells w) ∙ length-drop k cells in
    let left = c.if-done-new.false in
    let to : at + k + length rest ≡ at + length cells = omega (arith, n, w) in
    subst (λ i. EndsThere new i (length c.args.new.now.text.now)) to (c.put_runs-then.ensures.newest (omega (arith, n, w, left)))

pub returns-clause-typed : goal.returns-clause-typed
returns-clause-typed c once on = let d = c.extend-extended.ensures.typed once on in let left = c.if-done-new.false in absurd (omega (arith, d, left))
