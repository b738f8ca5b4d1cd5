use Rattle.std.proofs.Common.{◌<◌, ◌≤◌, length, sym, ◌∙◌, arith, inr}
use Rattle.rt_stamps.specs.declared.limits.TheConstants.{PIECE_BYTES}
use Rattle.rt_script.proofs.EndsLaws.{goes_more, ends_failed, ends_over, ends_turns, ends_whole, ends_stopped, stops_in_last, unread_is_stored, finished_is_stored, gave_piece, unseen_at_last}
use Rattle.rt_script.proofs.RunLaws.{kept_short}
use Rattle.rt_script.proofs.engine.run_lines.Goals as goal

pub returns-in-Err-clause-ends : goal.returns-in-Err-clause-ends
returns-in-Err-clause-ends g c =
    let e = c.in-Err.ensures in
    rw (c.stopped.ensures.site, c.stopped.ensures.fault) (ends_failed _ _ _ _ _ _ _ _ _ _ c.loop.invariant.goes c.loop-test.true e.bytes e.calls e.failures)

pub returns-in-Err-clause-last : goal.returns-in-Err-clause-last
returns-in-Err-clause-last g c = λ e. absurd (unread_is_stored _ c.stopped.ensures.fault e)

pub returns-then-n-eq0-clause-ends : goal.returns-then-n-eq0-clause-ends
returns-then-n-eq0-clause-ends g c =
    let e = c.in-Ok.ensures in
    let same = c.read_piece.auto.buf in
    let filled = c.loop.invariant.buffer in
    let space : 0 < length c.read_piece.new.buf = omega arith in
    rw c.err-fault.ensures.value (ends_whole _ _ _ _ _ _ _ _ _ c.in-Ok.n c.read_piece.new.buf _ _ c.finish.result c.loop.invariant.goes c.loop-test.true e.bytes.0 c.if-n-eq0.true
    (e.bytes.1 c.if-n-eq0.true space) e.calls e.failures (λ rest is. c.finish.ensures.ran rest (c.deref.ensures.value ∙ is)) c.finish.ensures.fault)

pub returns-then-n-eq0-clause-last : goal.returns-then-n-eq0-clause-last
returns-then-n-eq0-clause-last g c = λ e. absurd (finished_is_stored c.finish.result c.finish.ensures.fault (sym c.err-fault.ensures.value ∙ e))

pub returns-then-room-eq0-clause-ends : goal.returns-then-room-eq0-clause-ends
returns-then-room-eq0-clause-ends g c =
    let e = c.in-Ok.ensures in
    rw (c.stopped-then-room-eq0.ensures.site, c.stopped-then-room-eq0.ensures.fault)
    (ends_over _ _ _ _ _ _ _ _ c.in-Ok.n c.read_piece.new.buf _ _ c.loop.invariant.goes c.loop-test.true c.if-room-eq0.true e.bytes.0 e.within (omega (arith, e.bounded, c.if-room-eq0.true)) c.if-n-eq0.false e.calls)

pub returns-then-room-eq0-clause-last : goal.returns-then-room-eq0-clause-last
returns-then-room-eq0-clause-last g c = λ e. absurd (unread_is_stored _ c.stopped-then-room-eq0.ensures.fault e)

pub feed-requires : goal.feed-requires
feed-requires g c = rw c.loop.invariant.goes.rest (kept_short _)

pub returns-in-Err-feed-clause-ends : goal.returns-in-Err-feed-clause-ends
returns-in-Err-feed-clause-ends g c =
    let e = c.in-Ok.ensures in
    let same = c.read_piece.auto.buf in
    let filled = c.loop.invariant.buffer in
    let within = e.within in
    let small : c.in-Ok.n ≤ PIECE_BYTES = omega (arith, same, filled, within) in
    rw (c.stopped-in-Err-feed.ensures.site, c.stopped-in-Err-feed.ensures.fault)
    (ends_stopped _ _ _ _ _ _ _ _ _ c.in-Ok.n c.read_piece.new.buf _ _ c.in-Err-feed.fault c.loop.invariant.goes c.loop-test.true e.bytes.0 e.within small (omega (arith, e.bounded)) c.if-n-eq0.false e.calls e.failures c.in-Err-feed.ensures.ran)

pub returns-in-Err-feed-clause-last : goal.returns-in-Err-feed-clause-last
returns-in-Err-feed-clause-last g c = λ is.
    let e = c.in-Ok.ensures in
    let same = c.read_piece.auto.buf in
    let filled = c.loop.invariant.buffer in
    let within = e.within in
    let small : c.in-Ok.n ≤ PIECE_BYTES = omega (arith, same, filled, within) in
    rw c.stopped-in-Err-feed.ensures.site
    (stops_in_last _ g.R.Source.stream _ _ _ _ _ _ _ _ c.in-Ok.n c.read_piece.new.buf _ _ c.in-Err-feed.fault c.loop.invariant.goes e.bytes.0 e.within small c.if-n-eq0.false e.calls c.in-Err-feed.ensures.ran
    (sym c.stopped-in-Err-feed.ensures.fault ∙ is))

pub loop-preserved : goal.loop-preserved
loop-preserved g c =
    let e = c.in-Ok.ensures in
    record {
      goes = goes_more _ _ _ _ _ _ _ _ _ _ c.in-Ok.n c.read_piece.new.buf _ _ c.loop.invariant.goes e.bytes.0 e.within (omega (arith, e.bounded)) c.if-n-eq0.false e.calls e.failures c.in-Ok-feed.ensures.ran c.in-Ok-feed.ensures.rest;
      gave = inr (gave_piece _ g.R.Source.stream _ _ _ _ _ _ _ c.in-Ok.n c.read_piece.new.buf _ _ c.loop.invariant.goes e.bytes.0 e.within c.if-n-eq0.false e.calls);
      buffer = c.read_piece.auto.buf ∙ c.loop.invariant.buffer;
    }

pub returns-clause-ends : goal.returns-clause-ends
returns-clause-ends g c = rw (c.stopped-2.ensures.site, c.stopped-2.ensures.fault) (ends_turns _ _ _ _ _ _ _ _ _ c.loop.invariant.goes (omega arith))

pub returns-clause-last : goal.returns-clause-last
returns-clause-last g c = λ e. absurd (unread_is_stored _ c.stopped-2.ensures.fault e)

pub returns-clause-unseen : goal.returns-clause-unseen
returns-clause-unseen g c = rw c.stopped-2.ensures.fault (λ is same. unseen_at_last g.R.Source.stream c.args.bounds _ _ _ c.loop.invariant.gave (omega arith))

pub returns-then-room-eq0-clause-unseen : goal.returns-then-room-eq0-clause-unseen
returns-then-room-eq0-clause-unseen g c =
    let e = c.in-Ok.ensures in
    rw c.stopped-then-room-eq0.ensures.fault
    (λ is same. inr (gave_piece _ g.R.Source.stream _ _ _ _ _ _ _ c.in-Ok.n c.read_piece.new.buf _ _ c.loop.invariant.goes e.bytes.0 e.within c.if-n-eq0.false e.calls))

pub returns-in-Err-clause-unseen : goal.returns-in-Err-clause-unseen
returns-in-Err-clause-unseen g c =
    let e = c.in-Err.ensures in
    rw c.stopped.ensures.fault (λ is same. absurd (omega (arith, same, e.failures, c.loop.invariant.goes.reads)))

pub returns-in-Err-feed-clause-unseen : goal.returns-in-Err-feed-clause-unseen
returns-in-Err-feed-clause-unseen g c =
    let e = c.in-Ok.ensures in
    rw c.stopped-in-Err-feed.ensures.fault
    (λ is same. inr (gave_piece _ g.R.Source.stream _ _ _ _ _ _ _ c.in-Ok.n c.read_piece.new.buf _ _ c.loop.invariant.goes e.bytes.0 e.within c.if-n-eq0.false e.calls))
