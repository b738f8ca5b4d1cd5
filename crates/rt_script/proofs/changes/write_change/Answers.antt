use Rattle.std.proofs.Common.{List, ℕ, subst, sym}
use Rattle.std.specs.Prelude.{OnOk}
use Rattle.std.specs.Io.KnownBytes.{Appends}
use Rattle.rt_script.proofs.ChangeLines.{deleted_is, tagged_is}
use Rattle.rt_script.proofs.changes.write_change.Goals as goal

pub returns-in-Deleted : goal.returns-in-Deleted
returns-in-Deleted g c =
    subst (λ (text : List ℕ). OnOk c.write_deletes.result (Appends (g.W.Sink.stream c.args.out.now).bytes (g.W.Sink.stream c.write_deletes.new.out).bytes text))
    (sym (deleted_is c.args.change.now c.in-Deleted.runs c.deref-in-Deleted.result.now c.in-Deleted.is c.deref-in-Deleted.ensures.value)) c.write_deletes.ensures

pub returns-in-Tagged : goal.returns-in-Tagged
returns-in-Tagged g c =
    subst (λ (text : List ℕ). OnOk c.write_tags.result (Appends (g.W.Sink.stream c.args.out.now).bytes (g.W.Sink.stream c.write_tags.new.out).bytes text))
    (sym (tagged_is c.args.change.now c.in-Tagged.on c.in-Tagged.name c.deref-in-Tagged.result.now c.in-Tagged.runs c.deref-in-Tagged-2.result.now c.in-Tagged.is c.deref-in-Tagged.ensures c.deref-in-Tagged-2.ensures.value)) c.write_tags.ensures
