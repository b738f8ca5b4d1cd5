use Rattle.std.proofs.Common.{inl, sym, ap, ◌∙◌, add-zero}
use Rattle.rt_files.specs.Files.{ending_of}
use Rattle.rt_files.proofs.show.show_file.Goals as goal

pub returns-in-Some : goal.returns-in-Some
returns-in-Some g c =
    let e = c.in-Ok-write_lines.ensures in
    inl (
      c.in-Ok.reading.ops.items,
      c.in-Ok.reading.offsets.items,
      c.in-Ok.reading.fault,
      c.in-Ok.ensures.reads,
      inl (rw c.deref.ensures.value at e.wrote, e.failures ∙ add-zero _, sym (ap ending_of c.in-Some.is)),
    )

pub returns : goal.returns
returns g c =
    let e = c.in-Ok-write_lines.ensures in
    inl (
      c.in-Ok.reading.ops.items,
      c.in-Ok.reading.offsets.items,
      c.in-Ok.reading.fault,
      c.in-Ok.ensures.reads,
      inl (rw c.deref.ensures.value at e.wrote, e.failures ∙ add-zero _, sym (ap ending_of c.in-None.is)),
    )
