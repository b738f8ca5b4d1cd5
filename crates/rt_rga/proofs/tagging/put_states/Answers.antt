use Rattle.std.proofs.Common.{◌≡◌, ◌∙◌, ◌-◌, ap, arith, drop, length, map, sym, subst}
use Rattle.std.proofs.lemmas.List.{drop_all}
use Rattle.rt_store.specs.Cells.{state_in}
use Rattle.rt_tags.specs.States.{IsState}
use Rattle.rt_rga.specs.declared.tagging.StateRun.{StateRun}
use Rattle.rt_rga.specs.Runs.{put_back_in_any}
use Rattle.rt_rga.proofs.StateRuns.{put_more, put_none}
use Rattle.rt_rga.proofs.tagging.put_states.Goals as goal

pub set_state-requires-clause-state : goal.set_state-requires-clause-state
set_state-requires-clause-state g c =
    subst (λ (r : StateRun). IsState c.args.states.now r.state) (sym c.index-runs-runs.is) (c.requires.runs _ _ (omega arith))

pub loop-behind-init : goal.loop-behind-init
loop-behind-init g c =
    let cells = g.S.TextStore.list c.args.store.now in
    let runs = c.args.runs.now in
    record {
      list = sym (put_none cells) ∙ ap (λ l. map (put_back_in_any l) cells) (sym (drop_all (length runs - 0) runs (omega arith)));
      states = c.requires.states;
      room = (omega arith, omega (arith, c.requires.room.1), c.requires.room.2);
    }

pub loop-behind-preserved : goal.loop-behind-preserved
loop-behind-preserved g c =
    let before = g.S.TextStore.list c.args.store.now in
    let runs = c.args.runs.now in
    let behind = c.loop-behind.behind in
    let run = c.index-runs-runs.result in
    record {
      list = c.set_state.ensures.list ∙ (λ i. map (state_in (c.index-runs-runs.is i).span (c.index-runs-runs.is i).state) (c.loop-behind.invariant.list i))
          ∙ put_more runs before behind run c.loop-behind-test.true;
      states = c.set_state.ensures.states;
      room = (omega arith, omega (arith, c.set_state.ensures.room.1, c.loop-behind.invariant.room.1), omega (arith, c.set_state.ensures.room.2, c.loop-behind.invariant.room.2));
    }

pub returns : goal.returns
returns g c =
    let all : length c.args.runs.now - c.loop-behind.behind ≡ 0 = omega arith in
    record { list = c.loop-behind.invariant.list ∙ ap (λ n. map (put_back_in_any (drop n c.args.runs.now)) (g.S.TextStore.list c.args.store.now)) all; states = c.loop-behind.invariant.states }
