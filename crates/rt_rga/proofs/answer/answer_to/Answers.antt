use Rattle.std.proofs.Common.{◌≡◌, ◌∙◌, ◌≤◌, ap, arith, Bool, Err, false, nat_lt, not, Ok, sym, true}
use Rattle.std.proofs.lemmas.Bool.Decides.{nat_tests}
use Rattle.std.proofs.lemmas.Result.{err_from_is_err_and}
use Rattle.std.specs.List.{list_all, list_any}
use Rattle.rt_ops.specs.Operations.{named, soundness}
use Rattle.rt_oplog.specs.Logs.{known_end}
use Rattle.rt_rga.specs.Answers.{can_never_be_known}
use Rattle.rt_rga.specs.Histories.{is_known}
use Rattle.rt_rga.proofs.Answering.{bad_answer, by_bad, by_known, by_late, by_unknown, later_answer}
use Rattle.rt_rga.proofs.answer.answer_to.Goals as goal

pub returns-in_err-check : goal.returns-in_err-check
returns-in_err-check g c =
    let (y, is, gives) = err_from_is_err_and c.from_residual.result c.from_residual.ensures.1 in
    let bad : soundness c.args.op.now ≡ Err y = cc (c.in_err-check.ensures, gives) in
    rw is (bad_answer c.args.op.now c.args.log.now.operations y bad)

pub returns-then-known-prev : goal.returns-then-known-prev
returns-then-known-prev g c =
    let op = c.args.op.now in let set = c.args.log.now.operations in
    let known : c.known-known.result ≡ known_end set op.site = c.known-known.ensures ∙ ap (known_end set) c.site-site.ensures in
    let sound : soundness op ≡ Ok tt = sym c.in_ok-check.ensures in
    let low : known_end set op.site ≤ op.prev = omega (arith, known, c.prev.ensures, c.if-prev-known.false) in
    let late : nat_lt (known_end set op.site) op.prev ≡ true = (let p = c.prev-2.ensures in let l = c.if-known-prev.true in grind (arith, nat_tests, known, p, l)) in
    by_late _ _ _ late ∙ later_answer op set sound low

pub returns-then-names_bad_target : goal.returns-then-names_bad_target
returns-then-names_bad_target g c =
    let op = c.args.op.now in let set = c.args.log.now.operations in
    let known : c.known-known.result ≡ known_end set op.site = c.known-known.ensures ∙ ap (known_end set) c.site-site.ensures in
    let sound : soundness op ≡ Ok tt = sym c.in_ok-check.ensures in
    let low : known_end set op.site ≤ op.prev = omega (arith, known, c.prev.ensures, c.if-prev-known.false) in
    let late : nat_lt (known_end set op.site) op.prev ≡ false = (let p = c.prev-2.ensures in let l = c.if-known-prev.false in grind (arith, nat_tests, known, p, l)) in
    let bad : list_any (can_never_be_known set op) (named op.body) ≡ true = sym c.names_bad_target.ensures ∙ c.if-names_bad_target.true in
    by_bad _ _ _ late bad ∙ later_answer op set sound low

pub returns-then-names_later : goal.returns-then-names_later
returns-then-names_later g c =
    let op = c.args.op.now in let set = c.args.log.now.operations in
    let known : c.known-known.result ≡ known_end set op.site = c.known-known.ensures ∙ ap (known_end set) c.site-site.ensures in
    let sound : soundness op ≡ Ok tt = sym c.in_ok-check.ensures in
    let low : known_end set op.site ≤ op.prev = omega (arith, known, c.prev.ensures, c.if-prev-known.false) in
    let late : nat_lt (known_end set op.site) op.prev ≡ false = (let p = c.prev-2.ensures in let l = c.if-known-prev.false in grind (arith, nat_tests, known, p, l)) in
    let bad : list_any (can_never_be_known set op) (named op.body) ≡ false = sym c.names_bad_target.ensures ∙ c.if-names_bad_target.false in
    let all : not (list_all (is_known set op.body) (named op.body)) ≡ true = sym c.names_later.ensures ∙ c.if-names_later.true in
    by_unknown _ _ _ late bad all ∙ later_answer op set sound low

pub returns : goal.returns
returns g c =
    let op = c.args.op.now in let set = c.args.log.now.operations in
    let known : c.known-known.result ≡ known_end set op.site = c.known-known.ensures ∙ ap (known_end set) c.site-site.ensures in
    let sound : soundness op ≡ Ok tt = sym c.in_ok-check.ensures in
    let low : known_end set op.site ≤ op.prev = omega (arith, known, c.prev.ensures, c.if-prev-known.false) in
    let late : nat_lt (known_end set op.site) op.prev ≡ false = (let p = c.prev-2.ensures in let l = c.if-known-prev.false in grind (arith, nat_tests, known, p, l)) in
    let bad : list_any (can_never_be_known set op) (named op.body) ≡ false = sym c.names_bad_target.ensures ∙ c.if-names_bad_target.false in
    let all : not (list_all (is_known set op.body) (named op.body)) ≡ false = sym c.names_later.ensures ∙ c.if-names_later.false in
    by_known _ _ _ late bad all ∙ later_answer op set sound low
