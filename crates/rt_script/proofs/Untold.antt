-- What is told of a site that accepts nothing.
use Rattle.std.proofs.Common.{◌≡◌, ◌∙◌, ap, refl, subst, sym, List, [], Ok, Err, Result, Some}
use Rattle.rt_stamps.specs.declared.fault.Fault.{Fault}
use Rattle.rt_stamps.specs.Words.{Word}
use Rattle.rt_ops.specs.Operations.{Operation}
use Rattle.rt_rga.specs.Cells.{cells_of}
use Rattle.rt_rga.specs.Texts.{tagged_text}
use Rattle.rt_peers.specs.PeerStep.{Destroys, destroyed}
use Rattle.rt_peers.specs.SiteStep.{KeepsOperations, log_of}
use Rattle.rt_peers.specs.SiteValue.{SiteValue}
use Rattle.rt_script.specs.declared.answer.Answer.TheVariants as answers
use Rattle.rt_script.specs.Site.{IsDone, as_answer}
use Rattle.rt_script.specs.Telling.{TellsChanges}

-- where the log and the cells stay, no changes are told
pub untold : (old new : SiteValue) → log_of new ≡ log_of old → new.text.view.doc.cells ≡ old.text.view.doc.cells → TellsChanges old new (Some [])
untold old new same cells = record {
  told = record {
    told = record { between = record { ops = []; turn = tt; taken = same; told = refl; exact = tt }; each = refl };
    replays = ap (λ c. tagged_text c) (sym cells);
    within = tt;
  };
  known = λ e. refl;
}

-- where nothing changed at all
pub unchanged : (old new : SiteValue) → new ≡ old → TellsChanges old new (Some [])
unchanged old new e = untold old new (ap log_of e) (ap (λ (s : SiteValue). s.text.view.doc.cells) e)

-- a widget that goes, or stays for a fault
pub is_done : (path : Word) (old : SiteValue) (result : Result (List Word) Fault) (new : SiteValue) → Destroys path old result new → IsDone (destroyed path old) old (as_answer result) new
is_done path old (Ok reply) new d = subst (λ (o : Result SiteValue Fault). IsDone o old (answers.Replied reply) new) (sym d.ok) (ap answers.Replied d.reply, refl)
is_done path old (Err fault) new d = subst (λ (o : Result SiteValue Fault). IsDone o old (answers.Refused fault) new) (sym d.err) (refl, d.unchanged)

pub is_untold : (path : Word) (old : SiteValue) (result : Result (List Word) Fault) (new : SiteValue) → Destroys path old result new → (destroyed path old ≡ Ok new → KeepsOperations old new)
    → old.text.view.doc.cells ≡ cells_of (log_of old) → new.text.view.doc.cells ≡ cells_of (log_of new) → TellsChanges old new (Some [])
is_untold path old (Ok reply) new d keeps first last =
    let same = (keeps d.ok).log in
    untold old new same (last ∙ ap (λ (log : List Operation). cells_of log) same ∙ sym first)
is_untold path old (Err fault) new d keeps first last = unchanged old new d.unchanged
