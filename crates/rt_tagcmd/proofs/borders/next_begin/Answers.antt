use Rattle.std.proofs.Common.{sym, arith}
use Rattle.rt_store.proofs.Least.{least, no_next}
use Rattle.rt_text.specs.Widgets.{shows_tag, cells_shown}
use Rattle.rt_tagcmd.proofs.borders.next_begin.Goals as goal

pub returns-in-Some-clause-some : goal.returns-in-Some-clause-some
returns-in-Some-clause-some g c =
    (least (shows_tag c.args.view.now.own c.args.name.now) (cells_shown c.args.view.now) c.args.place c.in-Some.begin (sym c.in-Some.ensures), c.if-begin-behind.true)

pub returns-in_default-clause-none : goal.returns-in_default-clause-none
returns-in_default-clause-none g c =
    λ _ k l m p.
    (least (shows_tag c.args.view.now.own c.args.name.now) (cells_shown c.args.view.now) c.args.place c.in-Some.begin (sym c.in-Some.ensures)).none_before k l
    (omega (arith, m, c.if-begin-behind.false)) p

pub returns-in_default-2-clause-none : goal.returns-in_default-2-clause-none
returns-in_default-2-clause-none g c = λ _ k l m p. no_next (shows_tag c.args.view.now.own c.args.name.now) (cells_shown c.args.view.now) c.args.place k (sym c.in_default.ensures) l p
