use Rattle.std.proofs.Common.{◌≡◌, ◌∙◌, ◌+◌, ◌++◌, ◌∷◌, [], ap, append_assoc, drop, map, rules, sym, true, refl, append-nil}
use Rattle.std.specs.List.{take_while}
use Rattle.rt_stamps.specs.Stamps.{is_same}
use Rattle.std.proofs.lemmas.List.{drop_all}
use Rattle.rt_rga.proofs.PlannedEntries.{front_from}
use Rattle.std.proofs.lemmas.Result.{err_from_is_err_and}
use Rattle.rt_rga.proofs.plan.entries_in_front.Goals as goal

pub loop-n-preserved : goal.loop-n-preserved
loop-n-preserved c =
    let named = c.args.named.now in
    let stamp = c.args.stamp in
    let i = c.loop-n.n-index in
    let n = c.n-item.result in
    let rest = map (λ n. n.entry) (take_while (λ n. is_same n.stamp stamp) (drop (i + 1) named)) in
    let t : is_same n.stamp stamp ≡ true = search rules in
    ap (λ items. items ++ rest) c.in_ok-push.ensures.items
    ∙ append_assoc c.loop-n.entries.items (n.entry ∷ []) rest
    ∙ ap (λ es. c.loop-n.entries.items ++ es) (sym (front_from named stamp i n c.loop-n-test.true c.n-item.is t))
    ∙ c.loop-n.invariant

pub returns-in_err-push : goal.returns-in_err-push
returns-in_err-push c =
    let (y, is, gives) = err_from_is_err_and c.from_residual.result c.from_residual.ensures.1 in
    rw (is, gives) (record { entries = tt; fault = refl })

pub returns-clause-entries : goal.returns-clause-entries
returns-clause-entries c =
    let none = drop_all c.loop-n.n-index c.args.named.now c.loop-n-test.false in
    let done = c.loop-n.entries.items in
    sym (append-nil done)
    ∙ sym (ap (λ named. done ++ map (λ n. n.entry) (take_while (λ n. is_same n.stamp c.args.stamp) named)) none)
    ∙ c.loop-n.invariant
