-- What is noted of the newest operations of a log.
use Rattle.std.proofs.Common.{◌≡◌, ◌∙◌, List, [], ◌∷◌, ◌++◌, ap, arith, length, refl, reverse, subst, sym}
use Rattle.std.proofs.lemmas.List.{append_assoc, length-reverse, reverse-append}
use Rattle.rt_ops.specs.Operations.{Operation}
use Rattle.rt_oplog.specs.Logs.{with_operation}
use Rattle.rt_rga.specs.Drafts.{with_operations}
use Rattle.rt_rga.specs.Making.{AreNewest}
use Rattle.rt_rga.specs.Noted.{AreNotedOf, AreNotes, AreOfNewest}
use Rattle.rt_rga.specs.declared.notes.Notes.{Notes}
use Rattle.rt_rga.specs.declared.taken.Change.{Change}
use Rattle.rt_rga.proofs.Drafting.{newest}

-- the changes of some operations, and those of the operations before them
joined : (more old : List Change) (ops log : List Operation) → length more ≡ length ops → AreOfNewest more (ops ++ log) → AreOfNewest old log → AreOfNewest (more ++ old) (ops ++ log)
joined [] old [] log e h k = k
joined [] old (op ∷ ops) log e h k = absurd (omega (arith, e))
joined (change ∷ more) old [] log e h k = absurd (omega (arith, e))
joined (change ∷ more) old (op ∷ ops) log e h k = (h.0, joined more old ops log (omega (arith, e)) h.1 k)

-- what is noted stays right where what further operations changed is added
pub added : (log ops : List Operation) (old more : List Change) → AreOfNewest (reverse old) log → AreNotedOf log ops more → AreOfNewest (reverse (old ++ more)) (reverse ops ++ log)
added log ops old more h n =
    subst (λ (changes : List Change). AreOfNewest changes (reverse ops ++ log)) (sym (reverse-append old more))
    (joined (reverse more) (reverse old) (reverse ops) log (length-reverse more ∙ n.many ∙ sym (length-reverse ops)) n.each h)

-- operations that are newer than a log stand in front of it, the newest first
pub in_front : (ops log : List Operation) → AreNewest log ops → with_operations ops log ≡ reverse ops ++ log
in_front [] log h = refl
in_front (op ∷ ops) log h =
    let front : with_operation op log ≡ op ∷ log = newest op log h.0 in
    ap (with_operations ops) front
    ∙ in_front ops (op ∷ log) (subst (λ (l : List Operation). AreNewest l ops) front h.1)
    ∙ sym (append_assoc (reverse ops) (op ∷ []) log)
    ∙ ap (λ (l : List Operation). l ++ log) (sym (reverse-append (op ∷ []) ops))

-- what is noted of a log is noted of the same log
pub noted_same : (notes : Notes) (log more : List Operation) → more ≡ log → AreNotes notes log → AreNotes notes more
noted_same notes log more e h = subst (AreNotes notes) (sym e) h
