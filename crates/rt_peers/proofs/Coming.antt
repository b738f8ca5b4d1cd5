-- Which operations come to a site with a call: its own, and those of a file that it receives.
use Rattle.std.proofs.Common.{◌≡◌, ◌∙◌, ℕ, Bool, true, false, cond, inl, inr, List, [], ◌∷◌, ap, sym}
use Rattle.rt_ops.specs.Operations.{Body, Operation}
use Rattle.rt_oplog.specs.Logs.{HasOp, with_operation}
use Rattle.rt_rga.specs.Drafts.{next_operation, operations_of}
use Rattle.rt_recording.specs.EditedValue.{EditedValue}
use Rattle.rt_recording.specs.Edits.{text_with_new}
use Rattle.rt_holding.specs.declared.receiving.Received.{Received}
use Rattle.rt_holding.specs.Came.{came_with, is_want, offered_in}
use Rattle.rt_holding.specs.Receiving.{Behind, Offers, Receives, State as Holder}
use Rattle.rt_holding.proofs.Fronts.{begun_with}
use Rattle.rt_peers.specs.Lives.{IsOfFile, Lives, came_to, made_by}
use Rattle.rt_peers.specs.SiteStep.{MakesAndTries, SiteReceives, log_of, site_of, text_limit, text_log}
use Rattle.rt_peers.specs.SiteValue.{SiteValue}
use Rattle.rt_peers.proofs.Lived.{has_run}

-- what is made of drafts is the site's
drafts_of : (site : ℕ) (drafts : List Body) (log : List Operation) (op : Operation) → HasOp (operations_of site drafts log) op → op.site ≡ site
drafts_of site [] log op h = absurd h
drafts_of site (draft ∷ drafts) log op (inl e) = sym (ap (λ (o : Operation). o.site) e)
drafts_of site (draft ∷ drafts) log op (inr i) = drafts_of site drafts (with_operation (next_operation site draft log) log) op i

pub made_of : (site limit : ℕ) (old mid new : SiteValue) (came : List Operation) (h : MakesAndTries old mid new) → Lives site limit old came
    → (op : Operation) → HasOp (made_by h) op → op.site ≡ site
made_of site limit old mid new came h l op i = drafts_of (site_of old) h.drafts (log_of old) op i ∙ (has_run site limit old came l).of.0

-- those that were offered are of the file
one_of : (b : Bool) (op x : Operation) (ops : List Operation) → HasOp (cond b [] (op ∷ [])) x → HasOp (op ∷ ops) x
one_of true op x ops h = absurd h
one_of false op x ops (inl e) = inl e
one_of false op x ops (inr i) = absurd i

offered_among : (ops : List Operation) (offsets : List ℕ) (behind : Behind) (old : Holder EditedValue) (received : Received) (new : Holder EditedValue)
    → (h : Offers text_log text_limit text_with_new ops offsets behind old received new) (x : Operation)
    → HasOp (offered_in text_log text_limit text_with_new ops offsets behind old received new h) x → HasOp ops x
offered_among [] offsets behind old received new h x i = absurd i
offered_among (op ∷ ops) [] behind old received new h x i = absurd h
offered_among (op ∷ ops) (offset ∷ offsets) behind old received new (inl refused) x i = one_of (is_want refused.fault) op x ops i
offered_among (op ∷ ops) (offset ∷ offsets) behind old received new (inr more) x (inl e) = inl e
offered_among (op ∷ ops) (offset ∷ offsets) behind old received new (inr more) x (inr i) =
    inr (offered_among ops offsets behind more.next more.rest new more.others x i)

came_of : (bytes : List ℕ) (old : Holder EditedValue) (received : Received) (new : Holder EditedValue) (h : Receives text_log text_limit text_with_new bytes old received new) (x : Operation)
    → HasOp (came_with text_log text_limit text_with_new bytes old received new h) x → IsOfFile bytes x
came_of bytes old received new h x i =
    let among = offered_among h.ops h.offsets h.behind old received new h.offers x i in
    (h.ops, begun_with bytes h.ops h.offsets h.behind h.read x among, among)

pub file_of : (bytes : List ℕ) (old new : SiteValue) (received : Received) (h : SiteReceives bytes old received new) (x : Operation)
    → HasOp (came_to bytes old received new h) x → IsOfFile bytes x
file_of bytes old new received h x i =
    came_of bytes (record { site = old.text; held = old.held }) received (record { site = new.text; held = new.held }) h.text x i
