use Rattle.std.proofs.Common.{◌∙◌, ap, sym, count_by}
use Rattle.rt_stamps.specs.Places.{is_newline}
use Rattle.rt_store.specs.Cells.{text_of}
use Rattle.rt_store.proofs.Steps.{newlines_count}
use Rattle.rt_store.proofs.list.ListStoreTextStore.lines.Goals as goal

pub returns : goal.returns
returns c = c.newline_count.ensures ∙ ap (λ cells. count_by is_newline (text_of cells)) c.deref.ensures.value ∙ sym (newlines_count (text_of c.args.self.now.cells.items))
