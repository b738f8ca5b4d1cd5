use Rattle.std.proofs.Common.{◌≡◌, ℕ, ◌∙◌, ◌≤◌, ◌+◌, ◌-◌, ◌++◌, ap, arith, inr, length, map, sym, refl, inl}
use Rattle.std.specs.Prelude.{string_bytes}
use Rattle.std.proofs.lemmas.Result.{err_from_is_err_and}
use Rattle.rt_stamps.specs.declared.limits.TheConstants.{GREATEST_COUNT, MOST_CHARACTERS, MOST_TAGS}
use Rattle.rt_stamps.specs.Words.{as_words}
use Rattle.rt_ops.specs.Edits.{body_of}
use Rattle.rt_rga.specs.OneOrMany.{items_in}
use Rattle.rt_plans.specs.InsertionDrafts.{last_element, text_drafts}
use Rattle.rt_plans.specs.Insertions.{counts_for, further_tags, tagged_cells}
use Rattle.rt_plans.proofs.InsertTexts.{behind_more, counts_named, counts_part, drafts_joined, drafts_more, further_named}
use Rattle.rt_plans.proofs.Planning.{fewer_behind, some_left}
use Rattle.rt_plans.proofs.inserts.Inserts.of_text.Goals as goal

pub returns-in_err-last_count-clause-err : goal.returns-in_err-last_count-clause-err
returns-in_err-last_count-clause-err c =
    let p = err_from_is_err_and c.from_residual.result c.from_residual.ensures.1 in
    let e = counts_named (λ w. string_bytes w) c.args.names.now c.args.text.now in
    rw (p.1, p.2) (inr (c.in_err-last_count.ensures.err.0, omega (arith, e, c.in_err-last_count.ensures.err.1)))

pub loop-rest-init : goal.loop-rest-init
loop-rest-init c =
    let e = counts_named (λ w. string_bytes w) c.args.names.now c.args.text.now in
    record {
      drafts = ap (λ l. map body_of l ++ text_drafts MOST_CHARACTERS c.args.site.number c.args.count c.args.after (as_words c.args.names.now) c.args.text.now) c.none.ensures;
      count = refl;
      within = omega (arith, e, c.in_ok-last_count.ensures.ok.0, c.in_ok-last_count.ensures.ok.1);
      behind = refl;
    }

pub push_part-requires : goal.push_part-requires
push_part-requires c =
    let names = as_words c.args.names.now in
    let rest = c.loop-rest.rest.now in
    let part = c.next_part.result.0.now in
    let more = c.next_part.result.1.now in
    let h : 1 ≤ length rest = some_left c.is_empty.result (length rest) c.is_empty.ensures c.loop-rest-test.true in
    let all = c.args.count + counts_for names c.args.text.now in
    let counts : c.loop-rest.texts.count + length part + length (further_tags names) + counts_for names more ≡ all =
    counts_part names rest part more c.loop-rest.texts.count all h c.next_part.ensures.part c.next_part.ensures.rest c.loop-rest.invariant.count in
    few c.loop-rest.texts.count (length part) (length (further_tags names)) (length c.args.names.now - MOST_TAGS) (counts_for names more) all GREATEST_COUNT (further_named (λ w. string_bytes w) c.args.names.now) counts c.loop-rest.invariant.within
  where
    few : (now part further n more all most : ℕ) → further ≡ n → now + part + further + more ≡ all → all ≤ most → now + part + n ≤ most
    few now part further n more all most f e h = omega arith

pub loop-rest-smaller : goal.loop-rest-smaller
loop-rest-smaller c =
    let h : 1 ≤ length c.loop-rest.rest.now = some_left c.is_empty.result (length c.loop-rest.rest.now) c.is_empty.ensures c.loop-rest-test.true in
    fewer_behind c.loop-rest.rest.now c.next_part.result.1.now h c.next_part.ensures.rest

pub loop-rest-preserved : goal.loop-rest-preserved
loop-rest-preserved c =
    let names = as_words c.args.names.now in
    let site = c.args.site.number in
    let rest = c.loop-rest.rest.now in
    let part = c.next_part.result.0.now in
    let more = c.next_part.result.1.now in
    let old = c.loop-rest.texts in
    let new = c.push_part.new.self in
    let e = c.in_ok-push_part.ensures in
    let is_part = c.next_part.ensures.part in
    let is_more = c.next_part.ensures.rest in
    let h : 1 ≤ length rest = some_left c.is_empty.result (length rest) c.is_empty.ensures c.loop-rest-test.true in
    let n : new.count ≡ old.count + length part + length (further_tags names) = e.count ∙ ap (λ k. old.count + length part + k) (sym (further_named (λ w. string_bytes w) c.args.names.now)) in
    record {
      drafts = (λ i. map body_of (items_in new.drafts) ++ text_drafts MOST_CHARACTERS site (n i) (e.behind i) names more)
          ∙ drafts_joined (map body_of (items_in old.drafts)) (map body_of (items_in new.drafts)) (text_drafts MOST_CHARACTERS site old.count old.behind names rest) _ _ _ e.drafts
          (drafts_more site old.count old.behind names rest part more h is_part is_more)
          ∙ c.loop-rest.invariant.drafts;
      count = ap (λ k. k + counts_for names more) n
          ∙ counts_part names rest part more old.count (c.args.count + counts_for names c.args.text.now) h is_part is_more c.loop-rest.invariant.count;
      within = c.loop-rest.invariant.within;
      behind = (λ i. last_element (e.behind i) (tagged_cells site (n i) names more))
          ∙ sym (behind_more site old.count old.behind names rest part more h is_part is_more)
          ∙ c.loop-rest.invariant.behind;
    }

pub returns-in_err-last_count-clause-drafts : goal.returns-in_err-last_count-clause-drafts
returns-in_err-last_count-clause-drafts c =
    let p = err_from_is_err_and c.from_residual.result c.from_residual.ensures.1 in
    rw p.1 tt

pub returns-in_err-last_count-clause-count : goal.returns-in_err-last_count-clause-count
returns-in_err-last_count-clause-count c =
    let p = err_from_is_err_and c.from_residual.result c.from_residual.ensures.1 in
    rw p.1 tt

pub returns-in_err-last_count-clause-within : goal.returns-in_err-last_count-clause-within
returns-in_err-last_count-clause-within c =
    let p = err_from_is_err_and c.from_residual.result c.from_residual.ensures.1 in
    rw p.1 tt

pub returns-in_err-last_count-clause-behind : goal.returns-in_err-last_count-clause-behind
returns-in_err-last_count-clause-behind c =
    let p = err_from_is_err_and c.from_residual.result c.from_residual.ensures.1 in
    rw p.1 tt

pub returns-in_err-push_part : goal.returns-in_err-push_part
returns-in_err-push_part c =
    let (y, is, gives) = err_from_is_err_and c.from_residual-in_err-push_part.result c.from_residual-in_err-push_part.ensures.1 in
    rw (is, gives) (record { drafts = tt; count = tt; within = tt; behind = tt; err = inl c.in_err-push_part.ensures.err })
