-- What becomes of a replica that takes operations, and what it tells.
use Rattle.std.proofs.Common.{◌≡◌, ◌∙◌, ℕ, Bool, true, false, cond, not, inr, List, [], ◌++◌, ap, map, refl, subst, sym}
use Rattle.rt_stamps.specs.declared.fault.Fault.{Fault}
use Rattle.rt_stamps.specs.declared.fault.Fault.TheVariants.{WaitingFull}
use Rattle.rt_ops.specs.Operations.{Operation}
use Rattle.rt_ops.specs.Rules.{keeps_rules}
use Rattle.rt_oplog.specs.Logs.{HasOp, holds}
use Rattle.rt_rga.specs.Answers.{Answer, New, Repeat, Refused}
use Rattle.rt_rga.specs.Cells.{cells_of}
use Rattle.rt_rga.specs.Drafts.{with_operations}
use Rattle.rt_rga.specs.Histories.{IsHistory}
use Rattle.rt_rga.specs.Texts.{tagged_text}
use Rattle.rt_rga.specs.declared.taken.Change.{Change}
use Rattle.rt_rga.proofs.Orders.{rules_in}
use Rattle.rt_holding.specs.Holding.{Holding, Settles, is_early, is_full, reply_for}
use Rattle.rt_holding.specs.Replies.{Reply}
use Rattle.rt_holding.specs.Replies as replies
use Rattle.rt_holding.specs.Runs.{AreTakenInTurn}
use Rattle.rt_holding.specs.Taken.{AreTried, all_after}
use Rattle.rt_holding.proofs.Keeping.{with_all}
use Rattle.rt_holding.proofs.Settling.{taken_in_turn}
use Rattle.rt_replica.specs.Replicas.{HoldingValue, TakesAndTells, holding_of}
use Rattle.rt_replica.specs.Told.{TellingValue, after_taken, as_told, told_in_turn}
use Rattle.rt_replica.proofs.Replays.{told_replays}
use Rattle.rt_replica.proofs.Told.{all_after_append, all_celled, all_limited, all_logged, all_told}

-- ANSWERS BY REPLIES

early_by : (early held full : Bool) (fault : Fault)
    → cond (not early) (replies.Refused fault) (cond held replies.Repeat (cond full (replies.Refused WaitingFull) replies.Held)) ≡ replies.New → ⊥
early_by false held full fault e = cc e
early_by true true full fault e = cc e
early_by true false true fault e = cc e
early_by true false false fault e = cc e

-- what is replied to as new is answered so
pub new_by : (a : Answer) (op : Operation) (held : List Operation) → reply_for a op held ≡ replies.New → a ≡ New
new_by New op held e = refl
new_by Repeat op held e = absurd (cc e)
new_by (Refused fault) op held e = absurd (early_by (is_early (Refused fault)) (holds held op) (is_full held) fault e)

-- WHAT IS TAKEN

module _ (first : List Operation) (old site : TellingValue) (held left : List Operation) (count : ℕ) (changes : List Change) where
  -- the site after the first operations
  abbrev mid : TellingValue
  mid = all_after after_taken first old

  abbrev Tried : Type 0
  Tried = AreTried (λ t. t.log) after_taken old.limit (record { log = mid.log; held = held }) mid site left count

  pub takes : (new : HoldingValue) (tried : Tried) → mid.cells ≡ cells_of mid.log → old.changes ≡ [] → map as_told changes ≡ site.changes
      → IsHistory old.log → IsHistory site.log → AreTakenInTurn old.limit old.log (first ++ tried.more)
      → new.log ≡ site.log → new.held ≡ left → new.cells ≡ site.cells → new.limit ≡ site.limit → TakesAndTells first old.log held new changes
  takes new tried celled none told before after turn log is_left cells limit =
      let ops = first ++ tried.more in
      let all : site ≡ all_after after_taken ops old = tried.each ∙ sym (all_after_append first tried.more old) in
      let logged : site.log ≡ with_operations ops old.log = ap (λ (t : TellingValue). t.log) all ∙ all_logged ops old in
      let said : map as_told changes ≡ told_in_turn ops old.log =
      told ∙ ap (λ (t : TellingValue). t.changes) all ∙ all_told ops old ∙ ap (λ l. l ++ told_in_turn ops old.log) none in
      let kept : site.cells ≡ cells_of site.log =
      subst (λ (t : TellingValue). t.cells ≡ cells_of t.log) (sym tried.each) (all_celled tried.more mid celled) in
      let rules : (x : Operation) → HasOp ops x → keeps_rules x.body ≡ true = λ x i. rules_in (with_operations ops old.log) (subst IsHistory logged after) x (with_all ops old.log x (inr i)) in
      let limited : new.limit ≡ old.limit = limit ∙ ap (λ (t : TellingValue). t.limit) all ∙ all_limited ops old in
      let state : record { log = mid.log; held = held } ≡ record { log = with_operations first old.log; held = held } =
      λ i. record { log = all_logged first old i; held = held } in
      let end : record { log = site.log; held = left } ≡ holding_of new = λ i. record { log = sym log i; held = sym is_left i } in
      record {
        more = tried.more;
        settles = subst (λ (n : ℕ). Settles n [] (record { log = with_operations first old.log; held = held }) (holding_of new) tried.more) (sym limited)
            (subst (λ (s : Holding). Settles old.limit [] s (holding_of new) tried.more) state
            (subst (λ (s : Holding). Settles old.limit [] (record { log = mid.log; held = held }) s tried.more) end tried.settles));
        told = said;
        replays = told_replays old.limit ops old.log changes before rules turn said ∙ ap tagged_text (sym (cells ∙ kept ∙ ap cells_of logged));
        cells = cells ∙ kept ∙ ap cells_of (sym log);
      }

-- held ones that were taken after others continue the log after these
pub then_turn : (limit : ℕ) (state end : Holding) (more : List Operation) → Settles limit [] state end more → AreTakenInTurn limit state.log more
then_turn limit state end more s = (taken_in_turn limit [] more state end s).1
