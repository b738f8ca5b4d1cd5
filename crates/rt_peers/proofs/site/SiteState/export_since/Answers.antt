use Rattle.std.proofs.Common.{Err, List, OnOk, Ok, Result, ◌∙◌, ap, reverse, subst}
use Rattle.rt_ops.specs.File.{spelling}
use Rattle.rt_ops.specs.Operations.{Operation}
use Rattle.rt_ops.specs.Reading.{offsets_of}
use Rattle.rt_peers.specs.Exchange.{IsFileOf}
use Rattle.rt_peers.specs.Lacking.{known_in, past_known}
use Rattle.rt_peers.proofs.site.SiteState.export_since.Goals as goal

on_ok : {T E : Type 0} (r : Result T E) (P Q : Type 0) → (P → Q) → OnOk r P → OnOk r Q
on_ok (Ok value) P Q f h = f h
on_ok (Err fault) P Q f h = h

pub returns-clause-read_back : goal.returns-clause-read_back
returns-clause-read_back c =
    let lacking = c.in_ok-lacking.ensures.ok ∙ ap (past_known (known_in c.args.ends.now)) c.log.ensures.operations in
    on_ok c.export.result _ _
    (λ reads. subst (λ (log : List Operation). IsFileOf (spelling (reverse log)) log) lacking (offsets_of (reverse c.in_ok-lacking.lacking.operations), reads))
    c.export.ensures.read_back
