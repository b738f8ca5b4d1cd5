use Rattle.std.proofs.Common.{◌≡◌, ◌+◌, ◌-◌, ◌<◌, ◌∙◌, arith, false, length, refl, suc, sym, ap, subst}
use Rattle.std.proofs.lemmas.Bool.{lt-ltb, true≢false}
use Rattle.std.specs.List.{AllByRecursion}
use Rattle.rt_nodes.specs.Nodes.{entries}
use Rattle.rt_tags.specs.States.{IsState}
use Rattle.rt_tree.specs.Reaches.{reached}
use Rattle.rt_tree.specs.Seeks.{IsReached, most_below, runs_at}
use Rattle.rt_tree.specs.Shape.{IsTree, Memory, level_of, runs}
use Rattle.rt_tree.specs.Skips.{HasCells}
use Rattle.rt_tree.specs.Summaries.{AreSummed, shown_states, summary_of, tagged_as}
use Rattle.rt_tree.proofs.Nearing.{given-run, leaf-entry}
use Rattle.rt_tree.proofs.Reaching.{visible}
use Rattle.rt_tree.proofs.Seeking.{enough, most_down, reaches_none, spends}
use Rattle.rt_tree.proofs.Sighting.{all-at, fits-at, found-at, further-at, more-at, not_at_start, nowhere-at, sees, some-at, zero_is}
use Rattle.rt_tree.proofs.reach.+reached.Goals as goal

-- AN ENTRY

pub entry_reached-run_reached-requires-clause-state :
    goal.entry_reached-run_reached-requires-clause-state
entry_reached-run_reached-requires-clause-state g t c =
    let a = c.args in
    let s = c.look-seen in
    given-run (g.L.Looks.nodes a.looks.now) a.root.index c.requires.tree a.node.index c.requires.node.0 a.i s.result.entry c.requires.within s.ensures.tells a.states.now c.requires.given c.in-Here.run' (sym c.get.ensures ∙ c.in-Here.is)

pub entry_reached-is_past-requires-clause-state : goal.entry_reached-is_past-requires-clause-state
entry_reached-is_past-requires-clause-state g t c =
    let a = c.args in
    let s = c.look-seen in
    let d = sees (g.L.Looks.nodes a.looks.now) a.root.index c.requires.tree a.node.index c.requires.node.0 a.i s.result.entry c.requires.within s.ensures.tells a.states.now c.requires.given (g.L.Looks.summaries a.looks.now) c.requires.sums a.wanted.now.tag s.result.borders s.result.first s.ensures.borders s.ensures.first c.in-Down.child c.in-Down.totals (sym c.get.ensures ∙ c.in-Down.is) in
    d.first

pub entry_reached-returns-then-is_past-clause-place :
    goal.entry_reached-returns-then-is_past-clause-place
entry_reached-returns-then-is_past-clause-place g t c some =
    let a = c.args in
    let s = c.look-seen in
    let m = g.L.Looks.nodes a.looks.now in
    let sums = g.L.Looks.summaries a.looks.now in
    let d = sees m a.root.index c.requires.tree a.node.index c.requires.node.0 a.i s.result.entry c.requires.within s.ensures.tells a.states.now c.requires.given sums c.requires.sums a.wanted.now.tag s.result.borders s.result.first s.ensures.borders s.ensures.first c.in-Down.child c.in-Down.totals (sym c.get.ensures ∙ c.in-Down.is) in
    let rs = runs_at m a.node.index a.i in
    let test = tagged_as a.states.now a.wanted.now.tag a.wanted.now.on in
    let past = c.is_past.ensures.past rs (summary_of sums c.in-Down.child.index) d.summed d.tells d.counted c.if-is_past.true in
    reaches_none test a.from rs (record { place = c.in-Down.totals.counts.visible; found = false }) (past ∙ d.counted) d.counted refl

pub entry_reached-returns-then-is_past-clause-whole :
    goal.entry_reached-returns-then-is_past-clause-whole
entry_reached-returns-then-is_past-clause-whole g t c off =
    let a = c.args in
    let s = c.look-seen in
    let d = sees (g.L.Looks.nodes a.looks.now) a.root.index c.requires.tree a.node.index c.requires.node.0 a.i s.result.entry c.requires.within s.ensures.tells a.states.now c.requires.given (g.L.Looks.summaries a.looks.now) c.requires.sums a.wanted.now.tag s.result.borders s.result.first s.ensures.borders s.ensures.first c.in-Down.child c.in-Down.totals (sym c.get.ensures ∙ c.in-Down.is) in
    d.counted

pub entry_reached-returns-then-is_past-clause-inside :
    goal.entry_reached-returns-then-is_past-clause-inside
entry_reached-returns-then-is_past-clause-inside g t c =
    let a = c.args in
    let s = c.look-seen in
    let d = sees (g.L.Looks.nodes a.looks.now) a.root.index c.requires.tree a.node.index c.requires.node.0 a.i s.result.entry c.requires.within s.ensures.tells a.states.now c.requires.given (g.L.Looks.summaries a.looks.now) c.requires.sums a.wanted.now.tag s.result.borders s.result.first s.ensures.borders s.ensures.first c.in-Down.child c.in-Down.totals (sym c.get.ensures ∙ c.in-Down.is) in
    omega (arith, d.counted)

pub entry_reached-reached-below-requires : goal.entry_reached-reached-below-requires
entry_reached-reached-below-requires g t c κs within =
    let a = c.args in
    let s = c.look-seen in
    let m = g.L.Looks.nodes a.looks.now in
    let sums = g.L.Looks.summaries a.looks.now in
    let n = g.L.Looks.nodes s.new.self in
    let child = c.in-Down.child.index in
    let d = sees m a.root.index c.requires.tree a.node.index c.requires.node.0 a.i s.result.entry c.requires.within s.ensures.tells a.states.now c.requires.given sums c.requires.sums a.wanted.now.tag s.result.borders s.result.first s.ensures.borders s.ensures.first c.in-Down.child c.in-Down.totals (sym c.get.ensures ∙ c.in-Down.is) in
    let back = sym s.ensures.same in
    let lvl : level_of n child ≡ level_of m child = ap (λ x. level_of x child) s.ensures.same in
    let room = most_down a.from (level_of n child) (level_of m a.node.index) (d.level ∙ ap suc (sym lvl)) in
    let IsThere : Memory → Type 0 = λ x. (child < length x.heads) × (child < length x.rows) in
    let summed = subst (λ x. AreSummed a.states.now x sums) back c.requires.sums in (
      omega (arith, lvl, d.level, c.decreases),
      (
        within,
        (
          subst (λ x. IsTree x a.root.index) back c.requires.tree,
          (
            subst (AreSummed a.states.now n) (sym s.ensures.kept) summed,
            (
              c.requires.tag,
              (
                subst IsThere back (d.is, subst (λ x. child < x) c.requires.tree.shape.same d.is),
                (
                  subst (λ x. AllByRecursion (IsState a.states.now) (shown_states (runs x (level_of x child) child))) back d.states,
                  (
                    subst (λ x. visible (runs x (level_of x child) child) < 4294967296) back (omega (arith, d.few, c.requires.few)),
                    omega (arith, room, s.ensures.counts, c.requires.room),
                  ),
                ),
              ),
            ),
          ),
        ),
      ),
    )

pub entry_reached-returns-then-below-clause-place :
    goal.entry_reached-returns-then-below-clause-place
entry_reached-returns-then-below-clause-place g t c some =
    let a = c.args in
    let s = c.look-seen in
    let m = g.L.Looks.nodes a.looks.now in
    let child = c.in-Down.child.index in
    let d = sees m a.root.index c.requires.tree a.node.index c.requires.node.0 a.i s.result.entry c.requires.within s.ensures.tells a.states.now c.requires.given (g.L.Looks.summaries a.looks.now) c.requires.sums a.wanted.now.tag s.result.borders s.result.first s.ensures.borders s.ensures.first c.in-Down.child c.in-Down.totals (sym c.get.ensures ∙ c.in-Down.is) in
    let test = tagged_as a.states.now a.wanted.now.tag a.wanted.now.on in
    let same = d.same ∙ ap (λ x. runs x (level_of x child) child) (sym s.ensures.same) in
    subst (λ rs. IsReached test a.from rs c.reached-below.result) (sym same) (c.reached-below.ensures.place (subst (AllByRecursion HasCells) same some))

pub entry_reached-returns-then-below-clause-inside :
    goal.entry_reached-returns-then-below-clause-inside
entry_reached-returns-then-below-clause-inside g t c =
    let a = c.args in
    let s = c.look-seen in
    let child = c.in-Down.child.index in
    let d = sees (g.L.Looks.nodes a.looks.now) a.root.index c.requires.tree a.node.index c.requires.node.0 a.i s.result.entry c.requires.within s.ensures.tells a.states.now c.requires.given (g.L.Looks.summaries a.looks.now) c.requires.sums a.wanted.now.tag s.result.borders s.result.first s.ensures.borders s.ensures.first c.in-Down.child c.in-Down.totals (sym c.get.ensures ∙ c.in-Down.is) in
    let same = ap visible (d.same ∙ ap (λ x. runs x (level_of x child) child) (sym s.ensures.same)) in
    omega (arith, same, c.reached-below.ensures.inside)

pub entry_reached-returns-then-below-clause-cost :
    goal.entry_reached-returns-then-below-clause-cost
entry_reached-returns-then-below-clause-cost g t c =
    let a = c.args in
    let s = c.look-seen in
    let m = g.L.Looks.nodes a.looks.now in
    let child = c.in-Down.child.index in
    let n = g.L.Looks.nodes s.new.self in
    let d = sees m a.root.index c.requires.tree a.node.index c.requires.node.0 a.i s.result.entry c.requires.within s.ensures.tells a.states.now c.requires.given (g.L.Looks.summaries a.looks.now) c.requires.sums a.wanted.now.tag s.result.borders s.result.first s.ensures.borders s.ensures.first c.in-Down.child c.in-Down.totals (sym c.get.ensures ∙ c.in-Down.is) in
    let room = most_down a.from (level_of n child) (level_of m a.node.index) (d.level ∙ ap (λ x. suc (level_of x child)) (sym s.ensures.same)) in
    omega (arith, room, s.ensures.counts, c.reached-below.ensures.cost)

pub entry_reached-returns-then-below-clause-far : goal.entry_reached-returns-then-below-clause-far
entry_reached-returns-then-below-clause-far g t c le =
    let a = c.args in
    let s = c.look-seen in
    let d = sees (g.L.Looks.nodes a.looks.now) a.root.index c.requires.tree a.node.index c.requires.node.0 a.i s.result.entry c.requires.within s.ensures.tells a.states.now c.requires.given (g.L.Looks.summaries a.looks.now) c.requires.sums a.wanted.now.tag s.result.borders s.result.first s.ensures.borders s.ensures.first c.in-Down.child c.in-Down.totals (sym c.get.ensures ∙ c.in-Down.is) in
    absurd (true≢false (sym (c.is_past.ensures.far (omega (arith, d.counted, le))) ∙ c.if-is_past.false))

pub entry_reached-returns-else-below-clause-place :
    goal.entry_reached-returns-else-below-clause-place
entry_reached-returns-else-below-clause-place g t c some =
    let a = c.args in
    let s = c.look-seen in
    let m = g.L.Looks.nodes a.looks.now in
    let sums = g.L.Looks.summaries a.looks.now in
    let child = c.in-Down.child.index in
    let d = sees m a.root.index c.requires.tree a.node.index c.requires.node.0 a.i s.result.entry c.requires.within s.ensures.tells a.states.now c.requires.given sums c.requires.sums a.wanted.now.tag s.result.borders s.result.first s.ensures.borders s.ensures.first c.in-Down.child c.in-Down.totals (sym c.get.ensures ∙ c.in-Down.is) in
    let test = tagged_as a.states.now a.wanted.now.tag a.wanted.now.on in
    let rs = runs_at m a.node.index a.i in
    let same = d.same ∙ ap (λ x. runs x (level_of x child) child) (sym s.ensures.same) in
    let is = subst (λ l. IsReached test a.from l c.reached-below.result) (sym same) (c.reached-below.ensures.place (subst (AllByRecursion HasCells) same some)) in
    let there = λ (z : a.from ≡ 0). subst (λ v. reached test a.from rs < v) d.counted (c.is_past.ensures.there rs (summary_of sums child) d.summed d.tells d.counted some z c.if-is_past.false) in
    record { place = is.place; found = not_at_start a.from c.reached-below.result.found test rs is.found c.if-below.false there }

pub entry_reached-returns-else-below-clause-whole :
    goal.entry_reached-returns-else-below-clause-whole
entry_reached-returns-else-below-clause-whole g t c off =
    let a = c.args in
    let s = c.look-seen in
    let child = c.in-Down.child.index in
    let d = sees (g.L.Looks.nodes a.looks.now) a.root.index c.requires.tree a.node.index c.requires.node.0 a.i s.result.entry c.requires.within s.ensures.tells a.states.now c.requires.given (g.L.Looks.summaries a.looks.now) c.requires.sums a.wanted.now.tag s.result.borders s.result.first s.ensures.borders s.ensures.first c.in-Down.child c.in-Down.totals (sym c.get.ensures ∙ c.in-Down.is) in
    let same = d.same ∙ ap (λ x. runs x (level_of x child) child) (sym s.ensures.same) in
    c.reached-below.ensures.whole c.if-below.false ∙ ap visible (sym same)

pub entry_reached-returns-else-below-clause-inside :
    goal.entry_reached-returns-else-below-clause-inside
entry_reached-returns-else-below-clause-inside g t c =
    let a = c.args in
    let s = c.look-seen in
    let child = c.in-Down.child.index in
    let d = sees (g.L.Looks.nodes a.looks.now) a.root.index c.requires.tree a.node.index c.requires.node.0 a.i s.result.entry c.requires.within s.ensures.tells a.states.now c.requires.given (g.L.Looks.summaries a.looks.now) c.requires.sums a.wanted.now.tag s.result.borders s.result.first s.ensures.borders s.ensures.first c.in-Down.child c.in-Down.totals (sym c.get.ensures ∙ c.in-Down.is) in
    let same = ap visible (d.same ∙ ap (λ x. runs x (level_of x child) child) (sym s.ensures.same)) in
    omega (arith, same, c.reached-below.ensures.inside)

pub entry_reached-returns-else-below-clause-cost :
    goal.entry_reached-returns-else-below-clause-cost
entry_reached-returns-else-below-clause-cost g t c =
    let a = c.args in
    let s = c.look-seen in
    let m = g.L.Looks.nodes a.looks.now in
    let child = c.in-Down.child.index in
    let n = g.L.Looks.nodes s.new.self in
    let d = sees m a.root.index c.requires.tree a.node.index c.requires.node.0 a.i s.result.entry c.requires.within s.ensures.tells a.states.now c.requires.given (g.L.Looks.summaries a.looks.now) c.requires.sums a.wanted.now.tag s.result.borders s.result.first s.ensures.borders s.ensures.first c.in-Down.child c.in-Down.totals (sym c.get.ensures ∙ c.in-Down.is) in
    let room = most_down a.from (level_of n child) (level_of m a.node.index) (d.level ∙ ap (λ x. suc (level_of x child)) (sym s.ensures.same)) in
    omega (arith, room, s.ensures.counts, c.reached-below.ensures.cost)

pub entry_reached-returns-else-below-clause-none :
    goal.entry_reached-returns-else-below-clause-none
entry_reached-returns-else-below-clause-none g t c off =
    let a = c.args in
    let s = c.look-seen in
    let child = c.in-Down.child.index in
    let d = sees (g.L.Looks.nodes a.looks.now) a.root.index c.requires.tree a.node.index c.requires.node.0 a.i s.result.entry c.requires.within s.ensures.tells a.states.now c.requires.given (g.L.Looks.summaries a.looks.now) c.requires.sums a.wanted.now.tag s.result.borders s.result.first s.ensures.borders s.ensures.first c.in-Down.child c.in-Down.totals (sym c.get.ensures ∙ c.in-Down.is) in
    let lvl = ap (λ x. level_of x child) s.ensures.same in
    omega (arith, lvl, d.level, s.ensures.counts, c.reached-below.ensures.none c.if-below.false)

pub entry_reached-returns-else-below-clause-far : goal.entry_reached-returns-else-below-clause-far
entry_reached-returns-else-below-clause-far g t c le =
    let a = c.args in
    let s = c.look-seen in
    let d = sees (g.L.Looks.nodes a.looks.now) a.root.index c.requires.tree a.node.index c.requires.node.0 a.i s.result.entry c.requires.within s.ensures.tells a.states.now c.requires.given (g.L.Looks.summaries a.looks.now) c.requires.sums a.wanted.now.tag s.result.borders s.result.first s.ensures.borders s.ensures.first c.in-Down.child c.in-Down.totals (sym c.get.ensures ∙ c.in-Down.is) in
    absurd (true≢false (sym (c.is_past.ensures.far (omega (arith, d.counted, le))) ∙ c.if-is_past.false))

pub entry_reached-returns-in-Here-clause-looked : goal.entry_reached-returns-in-Here-clause-looked
entry_reached-returns-in-Here-clause-looked g t c some found =
    let a = c.args in
    let s = c.look-seen in
    let m = g.L.Looks.nodes a.looks.now in
    let leaf = leaf-entry m a.root.index c.requires.tree a.node.index c.requires.node.0 a.i s.result.entry c.requires.within s.ensures.tells c.in-Here.run' (sym c.get.ensures ∙ c.in-Here.is) in
    omega (arith, leaf, s.ensures.counts)

pub entry_reached-returns-then-below-clause-looked : goal.entry_reached-returns-then-below-clause-looked
entry_reached-returns-then-below-clause-looked g t c some found =
    let a = c.args in
    let s = c.look-seen in
    let m = g.L.Looks.nodes a.looks.now in
    let child = c.in-Down.child.index in
    let d = sees m a.root.index c.requires.tree a.node.index c.requires.node.0 a.i s.result.entry c.requires.within s.ensures.tells a.states.now c.requires.given (g.L.Looks.summaries a.looks.now) c.requires.sums a.wanted.now.tag s.result.borders s.result.first s.ensures.borders s.ensures.first c.in-Down.child c.in-Down.totals (sym c.get.ensures ∙ c.in-Down.is) in
    let same = d.same ∙ ap (λ x. runs x (level_of x child) child) (sym s.ensures.same) in
    let lvl = ap (λ x. level_of x child) s.ensures.same in
    let below = c.reached-below.ensures.looked (subst (AllByRecursion HasCells) same some) c.if-below.true in
    omega (arith, lvl, d.level, s.ensures.counts, below)

pub entry_reached-returns-else-below-clause-looked : goal.entry_reached-returns-else-below-clause-looked
entry_reached-returns-else-below-clause-looked g t c some found =
    let a = c.args in
    let s = c.look-seen in
    let m = g.L.Looks.nodes a.looks.now in
    let sums = g.L.Looks.summaries a.looks.now in
    let child = c.in-Down.child.index in
    let d = sees m a.root.index c.requires.tree a.node.index c.requires.node.0 a.i s.result.entry c.requires.within s.ensures.tells a.states.now c.requires.given sums c.requires.sums a.wanted.now.tag s.result.borders s.result.first s.ensures.borders s.ensures.first c.in-Down.child c.in-Down.totals (sym c.get.ensures ∙ c.in-Down.is) in
    let test = tagged_as a.states.now a.wanted.now.tag a.wanted.now.on in
    let rs = runs_at m a.node.index a.i in
    let same = d.same ∙ ap (λ x. runs x (level_of x child) child) (sym s.ensures.same) in
    let is = subst (λ l. IsReached test a.from l c.reached-below.result) (sym same) (c.reached-below.ensures.place (subst (AllByRecursion HasCells) same some)) in
    let there = subst (λ v. reached test a.from rs < v) d.counted (c.is_past.ensures.there rs (summary_of sums child) d.summed d.tells d.counted some (zero_is a.from found) c.if-is_past.false) in
    absurd (true≢false (sym (lt-ltb (reached test a.from rs) (visible rs) there) ∙ sym is.found ∙ c.if-below.false))

-- A NODE

pub reached-entry_reached-here-requires : goal.reached-entry_reached-here-requires
reached-entry_reached-here-requires g t c κs within =
    let a = c.args in
    let m = g.L.Looks.nodes a.looks.now in
    let sums = g.L.Looks.summaries a.looks.now in
    let id = a.node.index in
    let l = c.loop-i in
    let n = g.L.Looks.nodes l.looks in
    let back = sym l.invariant.same in
    let lvl : level_of n id ≡ level_of m id = ap (λ x. level_of x id) l.invariant.same in
    let lt : l.i < length (entries m id) = omega (arith, c.len-i-end.ensures.value, c.loop-i-test.true) in
    let share = enough (level_of m id) a.from l.done (g.L.Looks.looked a.looks.now) l.i (g.L.Looks.looked l.looks) l.invariant.spent (omega (arith, c.len-i-end.ensures.fits, c.loop-i-test.true)) in
    let from_is = ap (λ x. most_below x (level_of n id)) c.saturating_sub.ensures in
    let level_is = ap (most_below (a.from - l.done)) lvl in
    let IsThere : Memory → Type 0 = λ x. (id < length x.heads) × (id < length x.rows) in (
      omega (arith, lvl, c.decreases),
      (
        within,
        (
          subst (λ x. IsTree x a.root.index) back c.requires.tree,
          (
            subst (AreSummed a.states.now n) (sym l.invariant.kept) (subst (λ x. AreSummed a.states.now x sums) back c.requires.sums),
            (
              c.requires.tag,
              (
                subst IsThere back c.requires.node,
                (
                  subst (λ x. l.i < length (entries x id)) back lt,
                  (
                    subst (λ x. AllByRecursion (IsState a.states.now) (shown_states (runs x (level_of x id) id))) back c.requires.given,
                    (
                      subst (λ x. visible (runs x (level_of x id) id) < 4294967296) back c.requires.few,
                      omega (arith, share, from_is, level_is, c.requires.room),
                    ),
                  ),
                ),
              ),
            ),
          ),
        ),
      ),
    )

pub reached-returns-then-here-clause-cost : goal.reached-returns-then-here-clause-cost
reached-returns-then-here-clause-cost g t c =
    let a = c.args in
    let m = g.L.Looks.nodes a.looks.now in
    let id = a.node.index in
    let l = c.loop-i in
    let n = g.L.Looks.nodes l.looks in
    let r = c.entry_reached-here in
    let share = enough (level_of m id) a.from l.done (g.L.Looks.looked a.looks.now) l.i (g.L.Looks.looked l.looks) l.invariant.spent (omega (arith, c.len-i-end.ensures.fits, c.loop-i-test.true)) in
    let from_is = ap (λ x. most_below x (level_of n id)) c.saturating_sub.ensures in
    let level_is = ap (λ x. most_below (a.from - l.done) (level_of x id)) l.invariant.same in
    omega (arith, share, from_is, level_is, r.ensures.cost)

pub reached-overflow_add-done : goal.reached-overflow_add-done
reached-overflow_add-done g t c =
    let a = c.args in
    let m = g.L.Looks.nodes a.looks.now in
    let id = a.node.index in
    let l = c.loop-i in
    let r = c.entry_reached-here in
    let at = ap (λ x. visible (runs_at x id l.i)) l.invariant.same in
    let lt : l.i < length (entries m id) = omega (arith, c.len-i-end.ensures.value, c.loop-i-test.true) in
    let fits = fits-at m a.root.index c.requires.tree id c.requires.node.0 l.i l.done r.result.place lt l.invariant.visible (omega (arith, at, r.ensures.inside)) in
    omega (arith, fits, c.requires.few)

pub reached-returns-then-here-clause-place : goal.reached-returns-then-here-clause-place
reached-returns-then-here-clause-place g t c some =
    let a = c.args in
    let m = g.L.Looks.nodes a.looks.now in
    let id = a.node.index in
    let l = c.loop-i in
    let r = c.entry_reached-here in
    let test = tagged_as a.states.now a.wanted.now.tag a.wanted.now.on in
    let at = ap (λ x. runs_at x id l.i) l.invariant.same in
    let lt : l.i < length (entries m id) = omega (arith, c.len-i-end.ensures.value, c.loop-i-test.true) in
    let own = r.ensures.place (subst (AllByRecursion HasCells) (sym at) (some-at m a.root.index c.requires.tree id c.requires.node.0 l.i lt some)) in
    let here = subst (λ n. IsReached test n (runs_at m id l.i) r.result) c.saturating_sub.ensures (subst (λ rs. IsReached test c.saturating_sub.result rs r.result) at own) in
    let found = found-at m a.root.index c.requires.tree id c.requires.node.0 test a.from l.i l.done (l.done + r.result.place) r.result lt l.invariant.visible (l.invariant.reached some) here c.if-here.true refl in
    record { place = found.0; found = found.1 }

pub reached-returns-then-here-clause-inside : goal.reached-returns-then-here-clause-inside
reached-returns-then-here-clause-inside g t c =
    let a = c.args in
    let m = g.L.Looks.nodes a.looks.now in
    let id = a.node.index in
    let l = c.loop-i in
    let r = c.entry_reached-here in
    let at = ap (λ x. visible (runs_at x id l.i)) l.invariant.same in
    let lt : l.i < length (entries m id) = omega (arith, c.len-i-end.ensures.value, c.loop-i-test.true) in
    fits-at m a.root.index c.requires.tree id c.requires.node.0 l.i l.done r.result.place lt l.invariant.visible (omega (arith, at, r.ensures.inside))

pub reached-returns-then-here-clause-looked : goal.reached-returns-then-here-clause-looked
reached-returns-then-here-clause-looked g t c some found =
    let a = c.args in
    let m = g.L.Looks.nodes a.looks.now in
    let id = a.node.index in
    let l = c.loop-i in
    let r = c.entry_reached-here in
    let at = ap (λ x. runs_at x id l.i) l.invariant.same in
    let lvl = ap (λ x. level_of x id) l.invariant.same in
    let lt : l.i < length (entries m id) = omega (arith, c.len-i-end.ensures.value, c.loop-i-test.true) in
    let here = r.ensures.looked (subst (AllByRecursion HasCells) (sym at) (some-at m a.root.index c.requires.tree id c.requires.node.0 l.i lt some)) c.if-here.true in
    omega (arith, lvl, here, l.invariant.counted)

pub reached-loop-i-preserved : goal.reached-loop-i-preserved
reached-loop-i-preserved g t c =
    let a = c.args in
    let m = g.L.Looks.nodes a.looks.now in
    let id = a.node.index in
    let l = c.loop-i in
    let r = c.entry_reached-here in
    let test = tagged_as a.states.now a.wanted.now.tag a.wanted.now.on in
    let at = ap (λ x. runs_at x id l.i) l.invariant.same in
    let number = ap visible at in
    let lvl = ap (λ x. level_of x id) l.invariant.same in
    let lt : l.i < length (entries m id) = omega (arith, c.len-i-end.ensures.value, c.loop-i-test.true) in
    let whole : r.result.place ≡ visible (runs_at m id l.i) = r.ensures.whole c.if-here.false ∙ number in
    record {
      visible = more-at m a.root.index c.requires.tree id c.requires.node.0 l.i l.done r.result.place lt l.invariant.visible whole;
      reached = λ some.
          let own = r.ensures.place (subst (AllByRecursion HasCells) (sym at) (some-at m a.root.index c.requires.tree id c.requires.node.0 l.i lt some)) in
          let here = subst (λ n. IsReached test n (runs_at m id l.i) r.result) c.saturating_sub.ensures (subst (λ rs. IsReached test c.saturating_sub.result rs r.result) at own) in
          further-at m a.root.index c.requires.tree id c.requires.node.0 test a.from l.i l.done r.result.place r.result lt l.invariant.visible (l.invariant.reached some) here refl whole;
      spent = spends (level_of m id) a.from l.done (g.L.Looks.looked a.looks.now) l.i (g.L.Looks.looked l.looks) r.result.place (g.L.Looks.looked r.new.looks) l.invariant.spent
          (omega (arith, lvl, r.ensures.none c.if-here.false))
          (λ z. r.ensures.start c.if-here.false (c.saturating_sub.ensures ∙ z))
          (λ le. r.ensures.far (omega (arith, le, number, whole, c.saturating_sub.ensures)));
      counted = omega (arith, r.ensures.counted, l.invariant.counted);
      same = r.ensures.same ∙ l.invariant.same;
      kept = r.ensures.kept ∙ l.invariant.kept;
      lent = r.ensures.lent ∙ l.invariant.lent;
    }

pub reached-returns-clause-place : goal.reached-returns-clause-place
reached-returns-clause-place g t c some =
    let a = c.args in
    let m = g.L.Looks.nodes a.looks.now in
    let l = c.loop-i in
    let test = tagged_as a.states.now a.wanted.now.tag a.wanted.now.on in
    let end : l.i ≡ length (entries m a.node.index) = omega (arith, c.len-i-end.ensures.value, c.loop-i-test.false, l.auto.i-end) in
    nowhere-at m a.root.index c.requires.tree a.node.index c.requires.node.0 test a.from l.i l.done (record { place = l.done; found = false }) end l.invariant.visible (l.invariant.reached some) refl refl

pub reached-returns-clause-whole : goal.reached-returns-clause-whole
reached-returns-clause-whole g t c off =
    let a = c.args in
    let l = c.loop-i in
    let end : l.i ≡ length (entries (g.L.Looks.nodes a.looks.now) a.node.index) = omega (arith, c.len-i-end.ensures.value, c.loop-i-test.false, l.auto.i-end) in
    all-at (g.L.Looks.nodes a.looks.now) a.root.index c.requires.tree a.node.index c.requires.node.0 l.i l.done end l.invariant.visible

pub reached-returns-clause-inside : goal.reached-returns-clause-inside
reached-returns-clause-inside g t c =
    let a = c.args in
    let l = c.loop-i in
    let end : l.i ≡ length (entries (g.L.Looks.nodes a.looks.now) a.node.index) = omega (arith, c.len-i-end.ensures.value, c.loop-i-test.false, l.auto.i-end) in
    let all = all-at (g.L.Looks.nodes a.looks.now) a.root.index c.requires.tree a.node.index c.requires.node.0 l.i l.done end l.invariant.visible in
    omega (arith, all)
