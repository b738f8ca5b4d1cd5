-- Operations that a site made of drafts: what is so of these where the log is a history afterwards.
use Rattle.std.proofs.Common.{◌≡◌, ◌∙◌, ℕ, suc, ◌+◌, ◌≤◌, true, ◌&&◌, List, [], ◌∷◌, ap, arith, length, nat_le, refl, subst, sym}
use Rattle.std.proofs.lemmas.Bool.Decides.{nat_tests}
use Rattle.rt_stamps.specs.declared.limits.TheConstants.{GREATEST_COUNT}
use Rattle.rt_stamps.specs.Stamps.{is_before}
use Rattle.rt_ops.specs.Operations.{Body, Operation, stamp_of}
use Rattle.rt_plans.specs.DocValue.{DocValue}
use Rattle.rt_oplog.specs.Logs.{with_operation}
use Rattle.rt_rga.specs.Cells.{cells_of}
use Rattle.rt_rga.specs.Drafts.{ContinueInTurn, next_operation, operations_of, with_drafts, with_operations}
use Rattle.rt_rga.specs.Histories.{IsHistory, greatest_last_count}
use Rattle.rt_rga.specs.Requests.{MayBeMade, fit, last_count_after}
use Rattle.rt_rga.proofs.Drafting.{newest}
use Rattle.rt_rga.proofs.Requests.{all_count_on, greatest_bound}
use Rattle.rt_rga.proofs.Skipping.{split}
use Rattle.rt_holding.specs.Grown.{HasGrownBy}
use Rattle.rt_holding.proofs.Drafts.{drafts_grow_by}
use Rattle.rt_peers.specs.SiteStep.{KeepsOperations, SiteMakes, cell_limit, log_of, site_of}
use Rattle.rt_peers.specs.SiteValue.{SiteValue}
use Rattle.rt_peers.proofs.Gaining.{Gains}

-- the newest operation stands in front
one_made : (site : ℕ) (draft : Body) (set : List Operation) → IsHistory (with_operation (next_operation site draft set) set) → IsHistory (next_operation site draft set ∷ set)
one_made site draft set h = subst IsHistory (newest (next_operation site draft set) set (omega arith)) h

-- without the operations of drafts a history is one still
older : (site : ℕ) (drafts : List Body) (set : List Operation) → IsHistory (with_drafts site drafts set) → IsHistory set
older site [] set h = h
older site (draft ∷ drafts) set h = (one_made site draft set (older site drafts (with_operation (next_operation site draft set) set) h)).2

-- and the drafts could be made
made_may : (site : ℕ) (drafts : List Body) (set : List Operation) → IsHistory (with_drafts site drafts set) → MayBeMade site set drafts
made_may site [] set h = tt
made_may site (draft ∷ drafts) set h =
    let more = with_operation (next_operation site draft set) set in
    let one = one_made site draft set (older site drafts more h) in
    (one.1.rules, one.1.known, made_may site drafts more h)

-- each of their operations continued those before it
pub continue_made : (site : ℕ) (drafts : List Body) (set : List Operation) → IsHistory (with_drafts site drafts set)
    → ContinueInTurn set (operations_of site drafts set)
continue_made site [] set h = tt
continue_made site (draft ∷ drafts) set h =
    let more = with_operation (next_operation site draft set) set in
    ((one_made site draft set (older site drafts more h)).1, continue_made site drafts more h)

made_fit : (site limit : ℕ) (drafts : List Body) (set : List Operation) → IsHistory (with_drafts site drafts set) → length (cells_of (with_drafts site drafts set)) ≤ limit → fit site limit drafts set ≡ true
made_fit site limit drafts set h few = both (last_count_after (greatest_last_count set) drafts) (length (cells_of (with_drafts site drafts set)))
    (let b = greatest_bound (with_drafts site drafts set) h in let c = all_count_on site drafts set in omega (arith, b, c)) few
  where
    both : (count cells : ℕ) → count ≤ GREATEST_COUNT → cells ≤ limit → (nat_le count GREATEST_COUNT && nat_le cells limit) ≡ true
    both count cells a b = grind (arith, nat_tests)

-- A LOG THAT GETS NO LONGER

longer : (op : Operation) (set : List Operation) → length (with_operation op set) ≡ suc (length set)
longer op [] = refl
longer op (q ∷ set) = split (is_before (stamp_of q) (stamp_of op)) (λ e. rw e refl) (λ e. rw e (ap suc (longer op set)))

pub operations_longer : (ops set : List Operation) → length (with_operations ops set) ≡ length set + length ops
operations_longer [] set = omega arith
operations_longer (op ∷ ops) set =
    let i = operations_longer ops (with_operation op set) in
    let l = longer op set in
    omega (arith, i, l)

all_longer : (site : ℕ) (drafts : List Body) (set : List Operation) → length (with_drafts site drafts set) ≡ length set + length drafts
all_longer site [] set = omega arith
all_longer site (draft ∷ drafts) set =
    let op = next_operation site draft set in
    let i = all_longer site drafts (with_operation op set) in
    let l = longer op set in
    omega (arith, i, l)

none_made : (site : ℕ) (drafts : List Body) (set : List Operation) → length (with_drafts site drafts set) ≤ length set → with_drafts site drafts set ≡ set
none_made site [] set h = refl
none_made site (draft ∷ drafts) set h = absurd (let l = all_longer site (draft ∷ drafts) set in omega (arith, l, h))

-- A SITE

-- The document gained the operations of drafts, and is that of a history still, within its limit: so these were made.
pub site_makes : (old new : SiteValue) (g : Gains old.text.view.doc new.text.view.doc) → new.held ≡ old.held → IsHistory (log_of new)
    → length (cells_of (log_of new)) ≤ cell_limit new → SiteMakes g.drafts old new
site_makes old new g held history few =
    let made : IsHistory (with_drafts (site_of old) g.drafts (log_of old)) = subst IsHistory g.log history in
    let cells = ap (λ (l : List Operation). length (cells_of l)) g.log in
    let limit = g.same.limit in
    record {
      may = made_may (site_of old) g.drafts (log_of old) made;
      fit = made_fit (site_of old) (cell_limit old) g.drafts (log_of old) made (omega (arith, cells, limit, few));
      log = g.log;
      held = held;
      site = g.same.site;
      limit = g.same.limit;
    }

-- where its log is no longer than before, it made none
pub site_keeps : (old new : SiteValue) → Gains old.text.view.doc new.text.view.doc → new.held ≡ old.held → length (log_of new) ≤ length (log_of old) → KeepsOperations old new
site_keeps old new g held few =
    let same = none_made (site_of old) g.drafts (log_of old) (let l = ap length g.log in omega (arith, l, few)) in
    record { log = g.log ∙ same; held = held; site = g.same.site; limit = g.same.limit }

-- OPERATIONS OF ONE SITE

-- the log grows by operations of the site
pub gains_grow_by : (old new : DocValue) → Gains old new → IsHistory old.log → HasGrownBy old.site old.log new.log
gains_grow_by old new g h = subst (HasGrownBy old.site old.log) (sym g.log) (drafts_grow_by old.site g.drafts old.log h)
