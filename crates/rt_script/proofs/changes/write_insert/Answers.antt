use Rattle.std.proofs.Common.{List, ℕ, subst, sym}
use Rattle.std.specs.Prelude.{OnOk}
use Rattle.std.specs.Io.KnownBytes.{Appends}
use Rattle.rt_script.proofs.ChangeLines.{insert_is}
use Rattle.rt_script.proofs.changes.write_insert.Goals as goal

pub returns : goal.returns
returns g c =
    subst (λ (text : List ℕ). OnOk c.write_line.result (Appends (g.W.Sink.stream c.args.out.now).bytes (g.W.Sink.stream c.write_line.new.out).bytes text))
    (sym (insert_is c.args.at c.args.text.now c.args.tags.now)) c.write_line.ensures
