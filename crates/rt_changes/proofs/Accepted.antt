-- What a replica tells of an operation that it takes, replayed.
use Rattle.std.proofs.Common.{◌≡◌, List, sym, ◌∙◌, ap, subst}
use Rattle.rt_ops.specs.Operations.{Operation}
use Rattle.rt_oplog.specs.Logs.{with_operation}
use Rattle.rt_store.specs.Shown.{TaggedCell}
use Rattle.rt_rga.specs.Cells.{cells_of}
use Rattle.rt_rga.specs.Histories.{IsHistory}
use Rattle.rt_rga.specs.Taken.{IsChange}
use Rattle.rt_rga.specs.Texts.{tagged_text}
use Rattle.rt_rga.specs.declared.taken.Change.{Change}
use Rattle.rt_rga.proofs.Histories.{continues_from}
use Rattle.rt_changes.specs.Replays.{replayed, changes_of, told_by}
use Rattle.rt_changes.proofs.Texts.{changes_replay}
use Rattle.rt_changes.proofs.Told.{told_changes_are}

pub told_replays : (log more : List Operation) (cells new : List TaggedCell) (op : Operation) (change : Change) → IsHistory log → IsHistory more → cells ≡ cells_of log → new ≡ cells_of more
    → more ≡ with_operation op log → IsChange op cells change → replayed (told_by op.body change) (tagged_text cells) ≡ tagged_text new
told_replays log more cells new op change h w c n larger t =
    (λ i. replayed (told_changes_are op cells change t i) (tagged_text cells))
    ∙ ap (λ cs. replayed (changes_of op cs) (tagged_text cs)) c
    ∙ changes_replay log op h (continues_from op log h (subst IsHistory larger w))
    ∙ sym (ap tagged_text (n ∙ ap cells_of larger))
