-- What came to a site: its calls are the requests of runs that hold operations.
use Rattle.std.proofs.Common.{◌≡◌, ◌∙◌, ℕ, ◌<◌, inl, List, [], ◌∷◌, ◌++◌, arith, refl, subst, sym}
use Rattle.std.proofs.lemmas.List.{append-nil}
use Rattle.rt_ops.specs.Operations.{Operation}
use Rattle.rt_rga.specs.Cells.{cells_of}
use Rattle.rt_rga.specs.Drafts.{with_drafts}
use Rattle.rt_rga.specs.Histories.{IsHistory}
use Rattle.rt_rga.specs.Requests.{Make, ReplicaRequest}
use Rattle.rt_recording.specs.EditedValue.{EditedValue}
use Rattle.rt_recording.specs.Edits.{text_with_new}
use Rattle.rt_holding.specs.declared.receiving.Received.{Received}
use Rattle.rt_holding.specs.Holding.{Holding, Settles, new_holding}
use Rattle.rt_holding.specs.Receiving.{State as Holder}
use Rattle.rt_oplog.specs.Logs.{AreOf}
use Rattle.rt_holding.specs.Runs.{AreFree, IsGreatestHistoryWithin, IsHolding, Leads, NoneCouldBeTaken, Runs, before_tries, brought_by, next, none}
use Rattle.rt_holding.proofs.Accepted.{greatest_accepted, histories_accepted, sites_agree}
use Rattle.rt_holding.proofs.Came.{file_goes, runs_on}
use Rattle.rt_holding.proofs.Sites.{requests_keep}
use Rattle.rt_peers.specs.Lives.{IsAtRest, Lives, begins, came_to, keeps, made_by, makes, receives}
use Rattle.rt_peers.specs.SiteStep.{KeepsOperations, MakesAndTries, SiteReceives, cell_limit, log_of, site_of, text_limit, text_log}
use Rattle.rt_peers.specs.SiteValue.{SiteValue, holding_of_site}
use Rattle.rt_peers.proofs.Staying.{received_keep, tried_keep}

-- a text of a site, that may have so many cells: it is so whichever operations are taken
abbrev IsOf : ℕ → ℕ → EditedValue → Type 0
IsOf site limit text = (text.view.doc.site ≡ site) × (text.view.doc.limit ≡ limit)

taken_of : (site limit : ℕ) (op : Operation) (text : EditedValue) → IsOf site limit text → IsOf site limit (text_with_new op text)
taken_of site limit op text h = h

-- A site that lived so has run through requests that brought what came to it, and keeps to what a site does that holds operations.
pub record HasRun (site limit : ℕ) (state : SiteValue) (came : List Operation) : Type 0 where
  pub requests : List ReplicaRequest
  pub runs : Runs site limit requests new_holding (holding_of_site state) came
  pub holding : IsHolding limit (holding_of_site state)
  pub of : IsOf site limit state.text
  pub some : 0 < site

nothing_holds : (limit : ℕ) → 0 < limit → IsHolding limit new_holding
nothing_holds limit p = record {
  history = tt;
  room = p;
  few = omega arith;
  once = tt;
  order = tt;
  rules = λ op i. absurd i;
  waiting = λ op i. absurd i;
}

-- A CALL THAT ACCEPTS NOTHING

kept_runs : (site limit : ℕ) (old new : SiteValue) (came : List Operation) → HasRun site limit old came → KeepsOperations old new → HasRun site limit new came
kept_runs site limit old new came r k =
    let same : holding_of_site old ≡ holding_of_site new = λ i. record { log = sym k.log i; held = sym k.held i } in
    record {
      requests = r.requests;
      runs = subst (λ t. Runs site limit r.requests new_holding t came) same r.runs;
      holding = subst (IsHolding limit) same r.holding;
      of = (k.site ∙ r.of.0, k.limit ∙ r.of.1);
      some = r.some;
    }

-- OPERATIONS OF ITS OWN

own_leads : (old mid new : SiteValue) (h : MakesAndTries old mid new) → Leads (site_of old) (cell_limit old) (Make h.drafts) (holding_of_site old) (holding_of_site new) h.tries.tried.more
own_leads old mid new h =
    let first : Holding = record { log = with_drafts (site_of old) h.drafts (log_of old); held = old.held } in
    let at : before_tries (site_of old) (cell_limit old) (Make h.drafts) (holding_of_site old) ≡ first = rw h.makes.fit refl in
    let from : holding_of_site mid ≡ first = λ i. record { log = h.makes.log i; held = h.makes.held i } in
    let tried : Settles (cell_limit mid) [] (holding_of_site mid) (holding_of_site new) h.tries.tried.more = h.tries.tried.settles in
    let here : Settles (cell_limit old) [] (holding_of_site mid) (holding_of_site new) h.tries.tried.more =
    subst (λ l. Settles l [] (holding_of_site mid) (holding_of_site new) h.tries.tried.more) h.makes.limit tried in
    inl (h.makes.fit, subst (λ s. Settles (cell_limit old) [] s (holding_of_site new) h.tries.tried.more) (from ∙ sym at) here)

own_brings : (old mid new : SiteValue) (h : MakesAndTries old mid new) → brought_by (site_of old) (cell_limit old) (Make h.drafts) (holding_of_site old) ++ [] ≡ made_by h
own_brings old mid new h =
    let brought : brought_by (site_of old) (cell_limit old) (Make h.drafts) (holding_of_site old) ≡ made_by h = rw h.makes.fit refl in
    append-nil (brought_by (site_of old) (cell_limit old) (Make h.drafts) (holding_of_site old)) ∙ brought

own_runs : (old mid new : SiteValue) (before : List Operation) (h : MakesAndTries old mid new) → HasRun (site_of old) (cell_limit old) old before
    → HasRun (site_of old) (cell_limit old) new (before ++ made_by h)
own_runs old mid new before h r =
    let site = site_of old in
    let limit = cell_limit old in
    let leads = own_leads old mid new h in
    let one : Runs site limit (Make h.drafts ∷ []) (holding_of_site old) (holding_of_site new) (made_by h) =
    subst (Runs site limit (Make h.drafts ∷ []) (holding_of_site old) (holding_of_site new)) (own_brings old mid new h) (next h.tries.tried.more h.makes.may leads none) in
    let after = tried_keep (IsOf (site_of mid) (cell_limit mid)) (taken_of (site_of mid) (cell_limit mid)) (text_limit mid.text) (holding_of_site mid) mid.text new.text new.held h.tries.count h.tries.tried (refl, refl) in
    record {
      requests = r.requests ++ Make h.drafts ∷ [];
      runs = runs_on site limit r.requests (Make h.drafts ∷ []) new_holding (holding_of_site old) (holding_of_site new) before (made_by h) r.runs one;
      holding = requests_keep site limit (Make h.drafts) (holding_of_site old) (holding_of_site new) h.tries.tried.more r.some r.holding h.makes.may leads;
      of = (after.0 ∙ h.makes.site, after.1 ∙ h.makes.limit);
      some = r.some;
    }

-- what goes from run to run goes so under the names that the number and the limit had
as_named : (site limit : ℕ) (old new : SiteValue) (before came : List Operation) → IsOf site limit old.text
    → (HasRun (site_of old) (cell_limit old) old before → HasRun (site_of old) (cell_limit old) new came) → HasRun site limit old before → HasRun site limit new came
as_named site limit old new before came of goes r =
    subst (λ n. HasRun n limit new came) of.0 (subst (λ l. HasRun (site_of old) l new came) of.1
    (goes (subst (λ n. HasRun n (cell_limit old) old before) (sym of.0) (subst (λ l. HasRun site l old before) (sym of.1) r))))

-- A FILE

file_runs : (bytes : List ℕ) (old new : SiteValue) (received : Received) (before : List Operation) (h : SiteReceives bytes old received new)
    → HasRun (site_of old) (cell_limit old) old before → HasRun (site_of old) (cell_limit old) new (before ++ came_to bytes old received new h)
file_runs bytes old new received before h r =
    let site = site_of old in
    let limit = cell_limit old in
    let from : Holder EditedValue = record { site = old.text; held = old.held } in
    let to : Holder EditedValue = record { site = new.text; held = new.held } in
    let goes = file_goes text_log text_limit text_with_new (λ op text. refl) site bytes from received to h.text r.some r.holding in
    record {
      requests = r.requests ++ goes.requests;
      runs = runs_on site limit r.requests goes.requests new_holding (holding_of_site old) (holding_of_site new) before (came_to bytes old received new h) r.runs goes.runs;
      holding = goes.holding;
      of = received_keep (IsOf site limit) (taken_of site limit) bytes from received to h.text (refl, refl);
      some = r.some;
    }

-- ALL CALLS

pub has_run : (site limit : ℕ) (state : SiteValue) (came : List Operation) → Lives site limit state came → HasRun site limit state came
has_run site limit state came (begins p q) = record { requests = []; runs = none; holding = nothing_holds limit q; of = (refl, refl); some = p }
has_run site limit state came (keeps {old = old} l k) = kept_runs site limit old state came (has_run site limit old came l) k
has_run site limit state came (makes {old = old} {mid = mid} {came = before} l h) =
    let r = has_run site limit old before l in
    as_named site limit old state before (before ++ made_by h) r.of (own_runs old mid state before h) r
has_run site limit state came (receives {old = old} {came = before} bytes received l h) =
    let r = has_run site limit old before l in
    as_named site limit old state before (before ++ came_to bytes old received state h) r.of (file_runs bytes old state received before h) r

-- WHAT IS ACCEPTED

at_rest : (site limit : ℕ) (state : SiteValue) (came : List Operation) → HasRun site limit state came → IsAtRest state → NoneCouldBeTaken limit (holding_of_site state)
at_rest site limit state came r q = subst (λ l. NoneCouldBeTaken l (holding_of_site state)) r.of.1 q

pub accepts_greatest : (site limit : ℕ) (state : SiteValue) (came : List Operation) → Lives site limit state came → AreFree came → IsAtRest state
    → IsGreatestHistoryWithin came (log_of state)
accepts_greatest site limit state came l f q =
    let r = has_run site limit state came l in greatest_accepted site limit r.requests came (holding_of_site state) r.some r.runs f (at_rest site limit state came r q)

pub accepts_history : (site limit : ℕ) (state : SiteValue) (came set : List Operation) → Lives site limit state came → IsHistory set → AreOf came set → IsAtRest state
    → (log_of state ≡ set) × (state.held ≡ [])
accepts_history site limit state came set l h o q =
    let r = has_run site limit state came l in histories_accepted site limit r.requests came set (holding_of_site state) r.some r.runs h o (at_rest site limit state came r q)

pub agree_in_any_order : (site number limit most : ℕ) (one other : SiteValue) (came more : List Operation) → Lives site limit one came → Lives number most other more
    → AreOf came more → AreFree came → IsAtRest one → IsAtRest other → cells_of (log_of one) ≡ cells_of (log_of other)
agree_in_any_order site number limit most one other came more l m o f p q =
    let r = has_run site limit one came l in
    let s = has_run number most other more m in
    sites_agree site number limit most r.requests s.requests came more (holding_of_site one) (holding_of_site other) r.some s.some r.runs s.runs o f
    (at_rest site limit one came r p) (at_rest number most other more s q)
