use Rattle.std.proofs.Common.{◌∙◌, sym, subst, reverse}
use Rattle.std.specs.Prelude.{OnOk}
use Rattle.std.specs.List.{AllByRecursion}
use Rattle.rt_stamps.specs.Written.{WritesBuffered}
use Rattle.rt_ops.specs.File.{file_of, HasRecord}
use Rattle.rt_oplog.specs.Logs.{IsLog}
use Rattle.rt_oplog.proofs.Fitting.{first_fits}
use Rattle.rt_oplog.proofs.ReadBack.{on_ok, written_is_read}
use Rattle.rt_oplog.proofs.file.write_file.Goals as goal

pub write_in-requires : goal.write_in-requires
write_in-requires g c = λ one. first_fits (reverse c.args.log.now.operations) (sym c.version_of.ensures ∙ one)

pub returns-clause-writes : goal.returns-clause-writes
returns-clause-writes g c =
    subst (λ v. WritesBuffered (g.W.Sink.stream c.args.out.now) (g.W.Sink.stream c.write_in.new.out) c.write_in.result (file_of v (reverse c.args.log.now.operations))) c.version_of.ensures c.write_in.ensures.writes

pub returns-clause-read_back : goal.returns-clause-read_back
returns-clause-read_back g c =
    let log = c.args.log.now.operations in
    on_ok c.write_in.result (λ written. written_is_read log written.0 written.1)
    (subst (λ v. OnOk c.write_in.result (IsLog log × AllByRecursion (HasRecord v) (reverse log))) c.version_of.ensures c.write_in.ensures.records)
