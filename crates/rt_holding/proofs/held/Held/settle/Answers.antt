use Rattle.std.proofs.Common.{◌≡◌, ◌∙◌, ◌^◌, refl, ◌≤◌, List, [], true, arith, ap, length, subst, sym}
use Rattle.std.proofs.lemmas.List.{nil_from_length}
use Rattle.std.specs.BTreeMap.{get}
use Rattle.std.specs.BinaryHeap.{heap_items, heap_len}
use Rattle.std.specs.declared.collections.BinaryHeap.{BinaryHeap}
use Rattle.rt_ops.specs.Operations.{Operation}
use Rattle.rt_rga.specs.Histories.{IsHistory}
use Rattle.rt_holding.specs.Grown.{AreTriedAt, HeldValue}
use Rattle.rt_holding.specs.Holding.{is_new, next_of}
use Rattle.rt_holding.specs.Kept.{AreHeld, IsNewAt, by_stamp_and_arrival, ops_in}
use Rattle.rt_holding.specs.Taken.{AreTried, site_holding}
use Rattle.rt_holding.specs.Waits.{are_tried_at, after_try_there}
use Rattle.rt_holding.proofs.Steps.{IsGoing, IsThere, absent, done_in, dropped, stays_sound, fewer_ops, going, same_entries, slept, stayed, taken_new, took, waits_there}
use Rattle.rt_holding.proofs.Places.{get_at}
use Rattle.rt_holding.proofs.Tries.{begins, ends}
use Rattle.rt_holding.proofs.held.Held.settle.Goals as goal

few_due : {X Z : Type 0} (due : BinaryHeap X Z) → heap_len due ≤ 2 ^ 63
few_due due = let a = due.data.ok.1 in let b = due.data.small in omega (arith, a, b)

same_len : {X Z : Type 0} (a b : BinaryHeap X Z) → heap_items a ≡ heap_items b → heap_len a ≡ heap_len b
same_len a b e = a.data.ok.0 ∙ ap length e ∙ sym b.data.ok.0

pub returns-then-are_over-clause-tried : goal.returns-then-are_over-clause-tried
returns-then-are_over-clause-tried g c =
    let log = g.T.Taking.log in
    let site = c.args.site.now in
    let limit = g.T.Taking.limit site in
    let entries = c.self.inside.ops.entries in
    let none = nil_from_length entries (sym c.len.ensures.len ∙ c.if-len-eq0.true) in
    subst (λ (held : List Operation). AreTried log g.T.Taking.after limit (site_holding log site held) site site held 0) (ap (λ (v : HeldValue). v.held) c.self.view_is)
    (ends log g.T.Taking.after limit [] (site_holding log site (ops_in entries)) site site (ops_in entries) 0 (begins log g.T.Taking.after limit site (ops_in entries))
    (ap (λ es. next_of limit [] (log site) (ops_in es)) none))

pub loop-place-init : goal.loop-place-init
loop-place-init g c = record {
  limit = refl;
  history = c.wake.ensures.history;
  held = c.self.invariant.held;
  waits = c.wake.ensures.ready;
  ordered = c.len.ensures.ordered;
  goes = going g.T.Taking.log g.T.Taking.after (g.T.Taking.limit c.args.site.now) c.args.made_by c.self.inside.arrivals c.requires.older c.args.site.now c.self.inside.ops c.self.inside.waits c.wake.new.waits
      c.requires.grown c.wake.ensures.woken c.self.invariant.held c.len.ensures.ordered (subst (AreTriedAt (g.T.Taking.limit c.args.site.now) c.requires.older) (sym c.self.view_is) c.requires.tried);
  few = omega arith;
}

pub take_at-requires : goal.take_at-requires
take_at-requires g c =
    let log = g.T.Taking.log in
    let l = c.loop-place in
    let b = l.invariant in
    let limit = g.T.Taking.limit c.args.site.now in
    let state = site_holding log c.args.site.now (ops_in c.self.inside.ops.entries) in
    let o = c.after_try_at.ensures ∙ ap (λ n. after_try_there l.lacks n (log l.site) (get by_stamp_and_arrival l.self-inside.ops c.in-Some.place)) b.limit in
    subst (λ n. IsNewAt n (log l.site) l.self-inside.ops.entries c.in-Some.place) (sym b.limit)
    (taken_new log g.T.Taking.after l.lacks limit state c.args.site.now l.site l.self-inside.ops l.self-inside.waits l.taken b.goes c.pop_first.new.due c.in-Some.place c.in-Some.ensures.some
    c.after_try_at.result c.in-Taken.is o b.ordered).0

pub loop-place-smaller-in-Ok : goal.loop-place-smaller-in-Ok
loop-place-smaller-in-Ok g c =
    let log = g.T.Taking.log in
    let l = c.loop-place in
    let b = l.invariant in
    let limit = g.T.Taking.limit c.args.site.now in
    let state = site_holding log c.args.site.now (ops_in c.self.inside.ops.entries) in
    let o = c.after_try_at.ensures ∙ ap (λ n. after_try_there l.lacks n (log l.site) (get by_stamp_and_arrival l.self-inside.ops c.in-Some.place)) b.limit in
    let (n, f) = taken_new log g.T.Taking.after l.lacks limit state c.args.site.now l.site l.self-inside.ops l.self-inside.waits l.taken b.goes c.pop_first.new.due c.in-Some.place c.in-Some.ensures.some
    c.after_try_at.result c.in-Taken.is o b.ordered in
    let gone = took log g.T.Taking.after l.lacks limit state c.args.site.now l.site l.self-inside.ops l.self-inside.waits l.taken b.goes c.pop_first.new.due c.in-Some.place c.in-Some.ensures.some
    n f b.ordered b.history c.take_at.new.site l.self-inside.arrivals c.in-Ok.by c.take_at.new.ops c.wake-in-Ok.new.waits b.held
    c.in-Ok.ensures.site c.in-Ok.ensures.log c.in-Ok.ensures.by c.wake-in-Ok.ensures.woken c.in-Ok.ensures.others c.in-Ok.ensures.out in
    fewer_ops (length c.take_at.new.ops.entries) (length l.self-inside.ops.entries) (heap_len c.wake-in-Ok.new.waits.due) (2 ^ 63) (heap_len l.self-inside.waits.due) gone.length (few_due c.wake-in-Ok.new.waits.due)

pub loop-place-preserved-in-Ok : goal.loop-place-preserved-in-Ok
loop-place-preserved-in-Ok g c =
    let log = g.T.Taking.log in
    let l = c.loop-place in
    let b = l.invariant in
    let limit = g.T.Taking.limit c.args.site.now in
    let state = site_holding log c.args.site.now (ops_in c.self.inside.ops.entries) in
    let o = c.after_try_at.ensures ∙ ap (λ n. after_try_there l.lacks n (log l.site) (get by_stamp_and_arrival l.self-inside.ops c.in-Some.place)) b.limit in
    let (n, f) = taken_new log g.T.Taking.after l.lacks limit state c.args.site.now l.site l.self-inside.ops l.self-inside.waits l.taken b.goes c.pop_first.new.due c.in-Some.place c.in-Some.ensures.some
    c.after_try_at.result c.in-Taken.is o b.ordered in
    let gone = took log g.T.Taking.after l.lacks limit state c.args.site.now l.site l.self-inside.ops l.self-inside.waits l.taken b.goes c.pop_first.new.due c.in-Some.place c.in-Some.ensures.some
    n f b.ordered b.history c.take_at.new.site l.self-inside.arrivals c.in-Ok.by c.take_at.new.ops c.wake-in-Ok.new.waits b.held
    c.in-Ok.ensures.site c.in-Ok.ensures.log c.in-Ok.ensures.by c.wake-in-Ok.ensures.woken c.in-Ok.ensures.others c.in-Ok.ensures.out in
    let few = b.few in
    let less = gone.length in
    let popped = c.in-Some.ensures.len in
    record {
      limit = c.take_at.ensures.limit ∙ b.limit;
      history = c.wake-in-Ok.ensures.history;
      held = gone.held;
      waits = c.wake-in-Ok.ensures.ready;
      ordered = c.take_at.ensures.ordered;
      goes = gone.goes;
      few = omega (arith, few, less);
    }

pub loop-place-preserved-in-Err : goal.loop-place-preserved-in-Err
loop-place-preserved-in-Err g c =
    let log = g.T.Taking.log in
    let l = c.loop-place in
    let b = l.invariant in
    let limit = g.T.Taking.limit c.args.site.now in
    let state = site_holding log c.args.site.now (ops_in c.self.inside.ops.entries) in
    let o = c.after_try_at.ensures ∙ ap (λ n. after_try_there l.lacks n (log l.site) (get by_stamp_and_arrival l.self-inside.ops c.in-Some.place)) b.limit in
    let (n, f) = taken_new log g.T.Taking.after l.lacks limit state c.args.site.now l.site l.self-inside.ops l.self-inside.waits l.taken b.goes c.pop_first.new.due c.in-Some.place c.in-Some.ensures.some
    c.after_try_at.result c.in-Taken.is o b.ordered in
    let there : IsThere l.self-inside.ops c.in-Some.place = record { op = n.op; found = get_at l.self-inside.ops c.in-Some.place n.op n.there } in
    let goes = stayed log g.T.Taking.after l.lacks limit state c.args.site.now l.site l.self-inside.ops l.self-inside.waits l.taken b.goes c.pop_first.new.due c.in-Some.place c.in-Some.ensures.some
    true c.keep.new.waits there b.ordered c.keep.ensures.keys c.keep.ensures.due c.keep.ensures.listed (λ e. f) (ap is_new n.new, refl) in
    let few = b.few in
    let shorter = ap length c.in-Err.ensures.same_ops in
    let popped = c.in-Some.ensures.len in
    record {
      limit = c.take_at.ensures.limit ∙ b.limit;
      history = subst IsHistory (ap log (sym c.in-Err.ensures.same_site)) b.history;
      held = subst (AreHeld l.self-inside.arrivals) (sym c.in-Err.ensures.same_ops) b.held;
      waits = c.keep.ensures.ready;
      ordered = c.take_at.ensures.ordered;
      goes = subst (λ s. IsGoing log g.T.Taking.after true limit state c.args.site.now s c.take_at.new.ops c.keep.new.waits l.taken) (sym c.in-Err.ensures.same_site)
          (same_entries log g.T.Taking.after true limit state c.args.site.now l.site l.self-inside.ops c.take_at.new.ops c.keep.new.waits l.taken goes c.in-Err.ensures.same_ops);
      few = omega (arith, few, shorter);
    }

pub loop-place-preserved-in-Waits : goal.loop-place-preserved-in-Waits
loop-place-preserved-in-Waits g c =
    let log = g.T.Taking.log in
    let l = c.loop-place in
    let b = l.invariant in
    let limit = g.T.Taking.limit c.args.site.now in
    let state = site_holding log c.args.site.now (ops_in c.self.inside.ops.entries) in
    let o = c.after_try_at.ensures ∙ ap (λ n. after_try_there l.lacks n (log l.site) (get by_stamp_and_arrival l.self-inside.ops c.in-Some.place)) b.limit in
    let w = waits_there l.lacks limit (log l.site) l.self-inside.ops c.in-Some.place c.after_try_at.result c.in-Waits.is o in
    let few = b.few in
    let popped = c.in-Some.ensures.len in
    record {
      limit = b.limit;
      history = b.history;
      held = b.held;
      waits = c.keep-in-Waits.ensures.ready;
      ordered = b.ordered;
      goes = stayed log g.T.Taking.after l.lacks limit state c.args.site.now l.site l.self-inside.ops l.self-inside.waits l.taken b.goes c.pop_first.new.due c.in-Some.place c.in-Some.ensures.some
          l.lacks c.keep-in-Waits.new.waits w.there b.ordered c.keep-in-Waits.ensures.keys c.keep-in-Waits.ensures.due c.keep-in-Waits.ensures.listed (λ e. e) w.why;
      few = few;
    }

pub sleep-requires-clause-sound : goal.sleep-requires-clause-sound
sleep-requires-clause-sound g c =
    let log = g.T.Taking.log in
    let l = c.loop-place in
    let b = l.invariant in
    let limit = g.T.Taking.limit c.args.site.now in
    let state = site_holding log c.args.site.now (ops_in c.self.inside.ops.entries) in
    let o = c.after_try_at.ensures ∙ ap (λ n. after_try_there l.lacks n (log l.site) (get by_stamp_and_arrival l.self-inside.ops c.in-Some.place)) b.limit in
    stays_sound l.lacks limit (log l.site) c.after_try_at.result (get by_stamp_and_arrival l.self-inside.ops c.in-Some.place) c.in-Stays.is o

pub loop-place-smaller-in-Stays : goal.loop-place-smaller-in-Stays
loop-place-smaller-in-Stays g c =
    let popped = c.in-Some.ensures.len in
    let same = same_len c.sleep.new.waits.due c.pop_first.new.due c.sleep.ensures.due in
    omega (arith, popped, same)

pub loop-place-preserved-in-Stays : goal.loop-place-preserved-in-Stays
loop-place-preserved-in-Stays g c =
    let log = g.T.Taking.log in
    let l = c.loop-place in
    let b = l.invariant in
    let limit = g.T.Taking.limit c.args.site.now in
    let state = site_holding log c.args.site.now (ops_in c.self.inside.ops.entries) in
    let o = c.after_try_at.ensures ∙ ap (λ n. after_try_there l.lacks n (log l.site) (get by_stamp_and_arrival l.self-inside.ops c.in-Some.place)) b.limit in
    record {
      limit = b.limit;
      history = b.history;
      held = b.held;
      waits = c.sleep.ensures.ready;
      ordered = b.ordered;
      goes = slept log g.T.Taking.after l.lacks limit state c.args.site.now l.site l.self-inside.ops l.self-inside.waits l.taken b.goes c.pop_first.new.due c.in-Some.place c.in-Some.ensures.some
          c.after_try_at.result c.in-Stays.is o c.sleep.new.waits c.sleep.ensures.keys c.sleep.ensures.due c.sleep.ensures.again c.sleep.ensures.asleep;
      few = b.few;
    }

pub loop-place-preserved-in-Absent : goal.loop-place-preserved-in-Absent
loop-place-preserved-in-Absent g c =
    let log = g.T.Taking.log in
    let l = c.loop-place in
    let b = l.invariant in
    let limit = g.T.Taking.limit c.args.site.now in
    let state = site_holding log c.args.site.now (ops_in c.self.inside.ops.entries) in
    let o = c.after_try_at.ensures ∙ ap (λ n. after_try_there l.lacks n (log l.site) (get by_stamp_and_arrival l.self-inside.ops c.in-Some.place)) b.limit in
    let due = b.waits.due in
    let again = b.waits.again in
    let popped = c.in-Some.ensures.len in
    let room = c.in-Some.ensures.capacity in
    record {
      limit = b.limit;
      history = b.history;
      held = b.held;
      waits = record { heap = c.in-Some.ensures.heap; due = omega (arith, due, popped, room); again = omega (arith, again, popped) };
      ordered = b.ordered;
      goes = absent log g.T.Taking.after l.lacks limit state c.args.site.now l.site l.self-inside.ops l.self-inside.waits l.taken b.goes c.pop_first.new.due c.in-Some.place c.in-Some.ensures.some
          c.after_try_at.result c.in-Absent.is o;
      few = b.few;
    }

pub loop-place-smaller : goal.loop-place-smaller
loop-place-smaller g c =
    let log = g.T.Taking.log in
    let l = c.loop-place in
    let b = l.invariant in
    let limit = g.T.Taking.limit c.args.site.now in
    let state = site_holding log c.args.site.now (ops_in c.self.inside.ops.entries) in
    let o = c.after_try_at.ensures ∙ ap (λ n. after_try_there l.lacks n (log l.site) (get by_stamp_and_arrival l.self-inside.ops c.in-Some.place)) b.limit in
    let gone = dropped log g.T.Taking.after l.lacks limit state c.args.site.now l.site l.self-inside.ops l.self-inside.waits l.taken b.goes c.pop_first.new.due c.in-Some.place c.in-Some.ensures.some
    c.after_try_at.result c.in-Dropped.is o b.ordered l.self-inside.arrivals c.drop_at.new.ops c.drop_at.new.keys b.held c.drop_at.ensures.others c.drop_at.ensures.keys c.drop_at.ensures.entries in
    fewer_ops (length c.drop_at.new.ops.entries) (length l.self-inside.ops.entries) (heap_len c.pop_first.new.due) (2 ^ 63) (heap_len l.self-inside.waits.due) gone.length (few_due c.pop_first.new.due)

pub loop-place-preserved : goal.loop-place-preserved
loop-place-preserved g c =
    let log = g.T.Taking.log in
    let l = c.loop-place in
    let b = l.invariant in
    let limit = g.T.Taking.limit c.args.site.now in
    let state = site_holding log c.args.site.now (ops_in c.self.inside.ops.entries) in
    let o = c.after_try_at.ensures ∙ ap (λ n. after_try_there l.lacks n (log l.site) (get by_stamp_and_arrival l.self-inside.ops c.in-Some.place)) b.limit in
    let gone = dropped log g.T.Taking.after l.lacks limit state c.args.site.now l.site l.self-inside.ops l.self-inside.waits l.taken b.goes c.pop_first.new.due c.in-Some.place c.in-Some.ensures.some
    c.after_try_at.result c.in-Dropped.is o b.ordered l.self-inside.arrivals c.drop_at.new.ops c.drop_at.new.keys b.held c.drop_at.ensures.others c.drop_at.ensures.keys c.drop_at.ensures.entries in
    let few = b.few in
    let less = gone.length in
    let due = b.waits.due in
    let again = b.waits.again in
    let fewer = c.drop_at.ensures.fewer in
    let popped = c.in-Some.ensures.len in
    let room = c.in-Some.ensures.capacity in
    record {
      limit = b.limit;
      history = b.history;
      held = gone.held;
      waits = record { heap = c.in-Some.ensures.heap; due = omega (arith, due, popped, room, fewer); again = omega (arith, again, popped, fewer) };
      ordered = c.drop_at.ensures.ordered;
      goes = gone.goes;
      few = omega (arith, few, less);
    }

pub invariant_of-self : goal.invariant_of-self
invariant_of-self g c =
    let b = c.loop-place.invariant in
    let due = b.waits.due in
    let again = b.waits.again in
    let popped = c.in_default.ensures.fewer in
    let room = c.in_default.ensures.capacity in
    record {
      held = b.held;
      ready = record { heap = c.in_default.ensures.heap; due = omega (arith, due, popped, room); again = omega (arith, again, popped) };
    }

pub returns-clause-tried : goal.returns-clause-tried
returns-clause-tried g c =
    let log = g.T.Taking.log in
    let l = c.loop-place in
    let b = l.invariant in
    let limit = g.T.Taking.limit c.args.site.now in
    let state = site_holding log c.args.site.now (ops_in c.self.inside.ops.entries) in
    subst (λ (held : List Operation). AreTried log g.T.Taking.after limit (site_holding log c.args.site.now held) c.args.site.now l.site (ops_in l.self-inside.ops.entries) l.taken)
    (ap (λ (v : HeldValue). v.held) c.self.view_is)
    (done_in log g.T.Taking.after l.lacks limit state c.args.site.now l.site l.self-inside.ops l.self-inside.waits l.taken b.goes c.in_default.ensures.none b.ordered).0

pub returns-clause-log : goal.returns-clause-log
returns-clause-log g c =
    let log = g.T.Taking.log in
    let l = c.loop-place in
    let b = l.invariant in
    let limit = g.T.Taking.limit c.args.site.now in
    let state = site_holding log c.args.site.now (ops_in c.self.inside.ops.entries) in
    subst (λ n. are_tried_at n (log l.site) l.self-inside.waits.keys l.self-inside.waits.again.items l.self-inside.ops.entries ≡ true) (sym b.limit)
    (done_in log g.T.Taking.after l.lacks limit state c.args.site.now l.site l.self-inside.ops l.self-inside.waits l.taken b.goes c.in_default.ensures.none b.ordered).1
