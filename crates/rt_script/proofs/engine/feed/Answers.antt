use Rattle.std.proofs.Common.{ℕ, ◌+◌, ◌<◌, ◌++◌, take, length, ap, sym, refl, ◌∙◌, append-nil, arith}
use Rattle.std.proofs.lemmas.List.{take_all}
use Rattle.std.proofs.lemmas.Result.{err_from_is_err_and}
use Rattle.rt_script.specs.Lines.{rest_of}
use Rattle.rt_script.specs.Pieces.{kept_bytes}
use Rattle.rt_script.proofs.LinesLaws.{complete_none}
use Rattle.rt_script.proofs.RunLaws.{line_counted, line_within, newline_at, ran_start, ran_more, stopped_lines, kept_lines, kept_rest, bytes_newline, kept_newline}
use Rattle.rt_script.proofs.engine.feed.Goals as goal

pub loop-start-init : goal.loop-start-init
loop-start-init g c = record {
  ran = λ rest none is. rw (append-nil rest) (ran_start _ _ rest (complete_none rest none));
  rest = λ rest none is. is ∙ ap (λ v. kept_bytes v) (sym (ap (λ p. p.1) none) ∙ ap rest_of (sym (append-nil rest)));
  short = c.requires;
  failures = refl;
}

pub overflow_add-end : goal.overflow_add-end
overflow_add-end g c =
    let n = line_counted c.args.piece.now c.loop-start.start c.line_len.result c.line_len.ensures in
    omega (arith, line_within c.args.piece.now c.loop-start.start c.line_len.result n (omega (arith, c.loop-start-test.true)))

pub keep-requires : goal.keep-requires
keep-requires g c = c.loop-start.invariant.short

pub returns-then-end-piece-clause-ran : goal.returns-then-end-piece-clause-ran
returns-then-end-piece-clause-ran g c = λ rest none is.
    let n = line_counted c.args.piece.now c.loop-start.start c.line_len.result c.line_len.ensures in
    kept_lines _ _ _ rest c.args.piece.now c.loop-start.start c.line_len.result c.keep.result n c.if-end-piece.true c.loop-start-test.true c.keep.ensures.fault
    (c.loop-start.invariant.ran rest none is) c.loop-start.invariant.failures

pub returns-then-end-piece-clause-rest : goal.returns-then-end-piece-clause-rest
returns-then-end-piece-clause-rest g c = λ rest none is.
    let n = line_counted c.args.piece.now c.loop-start.start c.line_len.result c.line_len.ensures in
    kept_rest _ _ rest c.args.piece.now c.loop-start.start c.line_len.result c.keep.result n c.if-end-piece.true c.keep.ensures.kept (c.loop-start.invariant.rest rest none is)

pub slice_bounds-end_line-end : goal.slice_bounds-end_line-end
slice_bounds-end_line-end g c =
    let n = line_counted c.args.piece.now c.loop-start.start c.line_len.result c.line_len.ensures in
    omega (arith, line_within c.args.piece.now c.loop-start.start c.line_len.result n (omega (arith, c.loop-start-test.true)))

pub end_line-requires : goal.end_line-requires
end_line-requires g c = c.loop-start.invariant.short

pub returns-in_err-end_line-clause-ran : goal.returns-in_err-end_line-clause-ran
returns-in_err-end_line-clause-ran g c = λ rest none is.
    let p = err_from_is_err_and c.from_residual.result c.from_residual.ensures.1 in
    let n = line_counted c.args.piece.now c.loop-start.start c.line_len.result c.line_len.ensures in
    let more : c.loop-start.start + c.line_len.result < length c.args.piece.now =
    omega (arith, c.if-end-piece.false, line_within c.args.piece.now c.loop-start.start c.line_len.result n (omega (arith, c.loop-start-test.true))) in
    rw (p.1, p.2)
    (stopped_lines _ _ _ _ rest c.args.piece.now c.loop-start.start c.line_len.result _ n more (c.loop-start.invariant.ran rest none is) c.loop-start.invariant.failures
    (c.in_err-end_line.ensures.ran _ (c.loop-start.invariant.rest rest none is)))

pub loop-start-preserved : goal.loop-start-preserved
loop-start-preserved g c =
    let n = line_counted c.args.piece.now c.loop-start.start c.line_len.result c.line_len.ensures in
    let end : ℕ = c.loop-start.start + c.line_len.result in
    let more : end < length c.args.piece.now = omega (arith, c.if-end-piece.false, line_within c.args.piece.now c.loop-start.start c.line_len.result n (omega (arith, c.loop-start-test.true))) in
    record {
      ran = λ rest none is.
          ran_more _ _ _ _ rest c.args.piece.now c.loop-start.start c.line_len.result n more (c.loop-start.invariant.ran rest none is)
          (c.in_ok-end_line.ensures.ran _ (c.loop-start.invariant.rest rest none is)).0;
      rest = λ rest none is.
          c.in_ok-end_line.ensures.rest ∙ kept_newline (rest ++ take end c.args.piece.now) _ (bytes_newline rest c.args.piece.now end more (newline_at c.args.piece.now c.loop-start.start c.line_len.result n more));
      short = rw c.in_ok-end_line.ensures.rest (omega arith);
      failures = (c.in_ok-end_line.ensures.ran _ (sym (take_all _ _ c.loop-start.invariant.short))).1 ∙ c.loop-start.invariant.failures;
    }

pub returns-clause-ran : goal.returns-clause-ran
returns-clause-ran g c = λ rest none is.
    let all = take_all c.loop-start.start c.args.piece.now (omega (arith, c.loop-start-test.false)) in
    (rw (sym all) (c.loop-start.invariant.ran rest none is), c.loop-start.invariant.failures)

pub returns-clause-rest : goal.returns-clause-rest
returns-clause-rest g c = λ rest none is.
    let all = take_all c.loop-start.start c.args.piece.now (omega (arith, c.loop-start-test.false)) in
    c.loop-start.invariant.rest rest none is ∙ ap (λ v. kept_bytes (rest_of (rest ++ v))) all
