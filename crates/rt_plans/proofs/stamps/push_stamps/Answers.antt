use Rattle.std.proofs.Common.{◌≡◌, ℕ, ◌∙◌, ◌≤◌, ◌+◌, ◌++◌, ap, arith, length}
use Rattle.std.specs.Prelude.{string_bytes}
use Rattle.rt_stamps.specs.declared.limits.TheConstants.{GREATEST_COUNT}
use Rattle.rt_stamps.specs.Words.{as_words}
use Rattle.rt_store.specs.Cells.{stamps_of}
use Rattle.rt_plans.specs.Insertions.{counts_for, further_tags, tagged_cells}
use Rattle.rt_plans.proofs.InsertTexts.{counts_part, further_named, lists_joined, stamps_more}
use Rattle.rt_plans.proofs.Planning.{fewer_behind, some_left}
use Rattle.rt_plans.proofs.stamps.push_stamps.Goals as goal

pub push_run-requires : goal.push_run-requires
push_run-requires c =
    let names = as_words c.args.names.now in
    let rest = c.loop-rest.rest.now in
    let part = c.next_part.result.0.now in
    let more = c.next_part.result.1.now in
    let h : 1 ≤ length rest = some_left c.is_empty.result (length rest) c.is_empty.ensures c.loop-rest-test.true in
    let all = c.args.count + counts_for names c.args.text.now in
    let counts : c.loop-rest.last + length part + length (further_tags names) + counts_for names more ≡ all =
    counts_part names rest part more c.loop-rest.last all h c.next_part.ensures.part c.next_part.ensures.rest c.loop-rest.invariant.count in
    few c.loop-rest.last (length part) (length (further_tags names)) (counts_for names more) all GREATEST_COUNT counts c.requires
  where
    few : (now part further more all most : ℕ) → now + part + further + more ≡ all → all ≤ most → now + 1 + part ≤ most + 1
    few now part further more all most e h = omega arith

pub loop-rest-smaller : goal.loop-rest-smaller
loop-rest-smaller c =
    let h : 1 ≤ length c.loop-rest.rest.now = some_left c.is_empty.result (length c.loop-rest.rest.now) c.is_empty.ensures c.loop-rest-test.true in
    fewer_behind c.loop-rest.rest.now c.next_part.result.1.now h c.next_part.ensures.rest

pub loop-rest-preserved : goal.loop-rest-preserved
loop-rest-preserved c =
    let names = as_words c.args.names.now in
    let site = c.args.site.number in
    let rest = c.loop-rest.rest.now in
    let part = c.next_part.result.0.now in
    let more = c.next_part.result.1.now in
    let last = c.loop-rest.last in
    let old = c.loop-rest.stamps.items in
    let new = c.push_run.new.stamps.items in
    let is_part = c.next_part.ensures.part in
    let is_more = c.next_part.ensures.rest in
    let h : 1 ≤ length rest = some_left c.is_empty.result (length rest) c.is_empty.ensures c.loop-rest-test.true in
    let n : last + (length part + c.further-more_tags.result) ≡ last + length part + length (further_tags names) =
    omega (arith, c.further-more_tags.ensures, further_named (λ w. string_bytes w) c.args.names.now) in
    record {
      stamps = (λ i. new ++ stamps_of (tagged_cells site (n i) names more))
          ∙ lists_joined old new _ _ (stamps_of (tagged_cells site last names rest)) c.in_ok-push_run.ensures.ok (stamps_more site last names rest part more h is_part is_more)
          ∙ c.loop-rest.invariant.stamps;
      count = ap (λ k. k + counts_for names more) n
          ∙ counts_part names rest part more last (c.args.count + counts_for names c.args.text.now) h is_part is_more c.loop-rest.invariant.count;
    }
