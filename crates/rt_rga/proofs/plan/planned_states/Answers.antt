use Rattle.std.proofs.Common.{◌≡◌, ◌∙◌, ◌++◌, ℕ, All, List, ap, subst, sym}
use Rattle.std.proofs.lemmas.List.Sorted.{All-permutation}
use Rattle.std.proofs.lemmas.Result.{IfOk-weaker}
use Rattle.rt_store.specs.declared.cell.Cell.{Cell}
use Rattle.rt_store.specs.Shown.{shown}
use Rattle.rt_tags.specs.States.{IsTag}
use Rattle.rt_rga.specs.declared.plan.Named.{Named}
use Rattle.rt_rga.specs.Batches.{after_tags, entries_on}
use Rattle.rt_rga.specs.Runs.{put_back, put_back_in_any}
use Rattle.rt_rga.proofs.PlannedStates.{all_planned}
use Rattle.std.proofs.lemmas.Result.{err_from_is_err_and}
use Rattle.rt_tags.proofs.Listing.{keeps_both}
use Rattle.rt_rga.proofs.plan.planned_states.Goals as goal

pub written_cells-requires-clause-tags : goal.written_cells-requires-clause-tags
written_cells-requires-clause-tags g c =
    subst (λ (named : List Named). All (λ n. IsTag c.named_writes.new.states n.entry.tag) named) (sym c.deref.ensures.value)
    (All-permutation (λ (n : Named). IsTag c.named_writes.new.states n.entry.tag) c.in_ok-named.named.items c.put_in_order.new.named.items c.put_in_order.ensures.same c.in_ok-named.ensures.tags)

pub returns-clause-runs : goal.returns-clause-runs
returns-clause-runs g c =
    let old = c.args.states.now in
    let new = c.written_cells.new.states in
    let cells = c.args.new.now ++ g.S.TextStore.list c.args.store.now in
    let copies = c.in_ok-copies.copies.items in
    let ops = c.args.ops.now in
    IfOk-weaker c.state_runs.result (λ runs. (cell : Cell ℕ) → put_back_in_any runs.items cell ≡ put_back c.deref-2.result.now cell)
    (λ runs. All (λ cell. shown new (put_back_in_any runs.items cell) ≡ after_tags ops (shown old cell)) cells)
    (λ runs back. all_planned old c.named_writes.new.states new c.in_ok-named.named.items c.deref.result.now ops cells copies runs.items
    c.requires.distinct c.requires.states c.named_writes.ensures.ids c.written_cells.ensures.ids c.in_ok-named.ensures.writes
    (λ s. ap (λ named. entries_on named s) c.deref.ensures.value ∙ c.in_ok-put_in_order.ensures.entries s)
    c.in_ok-copies.ensures.written c.in_ok-copies.ensures.all
    (λ cell. back cell ∙ ap (λ copies. put_back copies cell) c.deref-2.ensures.value))
    c.state_runs.ensures.ok

pub returns-in_err-named : goal.returns-in_err-named
returns-in_err-named g c =
    let (y, is, gives) = err_from_is_err_and c.from_residual.result c.from_residual.ensures.1 in
    rw (is, gives) (record { runs = tt; given = tt; ids = c.named_writes.ensures.ids; fault = c.in_err-named.ensures.fault })

pub returns-in_err-put_in_order : goal.returns-in_err-put_in_order
returns-in_err-put_in_order g c =
    let (y, is, gives) = err_from_is_err_and c.from_residual-in_err-put_in_order.result c.from_residual-in_err-put_in_order.ensures.1 in
    rw (is, gives) (record { runs = tt; given = tt; ids = c.named_writes.ensures.ids; fault = c.in_err-put_in_order.ensures.fault })

pub returns-in_err-copies : goal.returns-in_err-copies
returns-in_err-copies g c =
    let (y, is, gives) = err_from_is_err_and c.from_residual-in_err-copies.result c.from_residual-in_err-copies.ensures.1 in
    rw (is, gives) (record { runs = tt; given = tt; ids = keeps_both c.args.states.now c.named_writes.new.states c.written_cells.new.states c.named_writes.ensures.ids c.written_cells.ensures.ids; fault = c.in_err-copies.ensures.fault })
