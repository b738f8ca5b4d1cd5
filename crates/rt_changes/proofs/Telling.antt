-- What an editor is told of operations that a text takes.
use Rattle.std.proofs.Common.{◌≡◌, ◌∙◌, List, [], ◌∷◌, ◌++◌, ap, refl, subst, sym}
use Rattle.std.proofs.lemmas.Grind.{flat_map-append}
use Rattle.rt_ops.specs.Operations.{Operation}
use Rattle.rt_oplog.specs.Logs.{with_operation}
use Rattle.rt_store.specs.Shown.{TaggedCell}
use Rattle.rt_rga.specs.Cells.{cells_of}
use Rattle.rt_rga.specs.Drafts.{ContinueInTurn, with_operations}
use Rattle.rt_rga.specs.Histories.{IsHistory}
use Rattle.rt_rga.specs.Taken.{IsChange}
use Rattle.rt_rga.specs.Texts.{TaggedCharacter, tagged_text}
use Rattle.rt_rga.specs.declared.taken.Change.{Change}
use Rattle.rt_rga.proofs.Histories.{history_with}
use Rattle.rt_changes.specs.declared.change.ToldChange.{ToldChange}
use Rattle.rt_changes.specs.declared.change.ToTell.{ToTell}
use Rattle.rt_changes.specs.Replays.{AreInText, VisibleChange, changes_in_turn, changes_of, replayed, with_change}
use Rattle.rt_changes.specs.Telling.{AreExactInTurn, IsToTell, all_changes_in, changes_in, placed}
use Rattle.rt_changes.proofs.Exact.{changes_exact}
use Rattle.rt_changes.proofs.Texts.{changes_replay}
use Rattle.rt_changes.proofs.Told.{told_changes_are}
use Rattle.rt_changes.proofs.Turns.{replayed_append}
use Rattle.rt_changes.proofs.Within.{changes_within}

-- ONE OPERATION

-- what is told with a change are the operation's changes
pub placed_changes : (op : Operation) (cells : List TaggedCell) (t : ToTell) (change : Change) → IsToTell op.body t → IsChange op cells change
    → placed t change ≡ changes_of op cells
placed_changes op cells t change h c = h change c.lists ∙ told_changes_are op cells change c

-- told behind others
pub one_more_told : (before : List ToldChange) (change : ToldChange) (changes : List VisibleChange) → changes_in change ≡ changes
    → all_changes_in (before ++ change ∷ []) ≡ all_changes_in before ++ changes
one_more_told before change changes e =
    flat_map-append changes_in before (change ∷ []) ∙ ap (λ (l : List VisibleChange). all_changes_in before ++ l) (append_none (changes_in change) ∙ e)
  where
    append_none : (l : List VisibleChange) → l ++ [] ≡ l
    append_none [] = refl
    append_none (x ∷ l) = ap (λ m. x ∷ m) (append_none l)

-- IN TURN

within_append : (changes more : List VisibleChange) (t : List TaggedCharacter) → AreInText changes t → AreInText more (replayed changes t)
    → AreInText (changes ++ more) t
within_append [] more t h k = k
within_append (c ∷ changes) more t h k = (h.0, within_append changes more (with_change c t) h.1 k)

pub taken_replay : (ops log : List Operation) → IsHistory log → ContinueInTurn log ops
    → replayed (changes_in_turn ops log) (tagged_text (cells_of log)) ≡ tagged_text (cells_of (with_operations ops log))
taken_replay [] log h k = refl
taken_replay (op ∷ ops) log h k =
    let more = with_operation op log in
    replayed_append (changes_of op (cells_of log)) (changes_in_turn ops more) (tagged_text (cells_of log))
    ∙ ap (replayed (changes_in_turn ops more)) (changes_replay log op h k.0)
    ∙ taken_replay ops more (history_with op log h k.0) k.1

pub taken_within : (ops log : List Operation) → IsHistory log → ContinueInTurn log ops → AreInText (changes_in_turn ops log) (tagged_text (cells_of log))
taken_within [] log h k = tt
taken_within (op ∷ ops) log h k =
    let more = with_operation op log in
    within_append (changes_of op (cells_of log)) (changes_in_turn ops more) (tagged_text (cells_of log)) (changes_within log op h k.0)
    (subst (AreInText (changes_in_turn ops more)) (sym (changes_replay log op h k.0)) (taken_within ops more (history_with op log h k.0) k.1))

pub taken_exact : (ops log : List Operation) → IsHistory log → ContinueInTurn log ops → AreExactInTurn ops log
taken_exact [] log h k = tt
taken_exact (op ∷ ops) log h k = (changes_exact log op h k.0, taken_exact ops (with_operation op log) (history_with op log h k.0) k.1)
