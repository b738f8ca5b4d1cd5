use Rattle.std.proofs.Common.{◌∙◌, ◌++◌, ◌<◌, length, arith, sym, not, Bool, [], ◌∷◌, filter}
use Rattle.std.specs.Prelude.{string_bytes}
use Rattle.std.specs.Str.{bytes_eq}
use Rattle.rt_stamps.specs.Words.{Word}
use Rattle.rt_tags.specs.Tags.{sel}
use Rattle.rt_tags.proofs.Listing.{keeps_both}
use Rattle.rt_plans.proofs.Planning.{filtered_more}
use Rattle.rt_plans.proofs.lists.tags_of_list.Goals as goal

pub returns-in_err-push_tag-clause-ids : goal.returns-in_err-push_tag-clause-ids
returns-in_err-push_tag-clause-ids c = keeps_both c.args.states.now c.loop-name.states c.push_tag.new.states c.loop-name.invariant.ids c.push_tag.ensures.ids

pub loop-name-preserved : goal.loop-name-preserved
loop-name-preserved c =
    let test : Word → Bool = λ name. not (bytes_eq name sel) in
    let within : c.loop-name.name-index < length c.args.names.now = omega arith in
    record {
      tags = c.in_ok-push_tag.ensures.ok
          ∙ (λ j. c.loop-name.invariant.tags j ++ filter test (c.deref.ensures j ∷ []))
          ∙ sym (filtered_more test (λ w. string_bytes w) c.args.names.now c.loop-name.name-index c.name-item.result within c.name-item.is);
      given = c.in_ok-push_tag.ensures.given;
      ids = keeps_both c.args.states.now c.loop-name.states c.push_tag.new.states c.loop-name.invariant.ids c.push_tag.ensures.ids;
    }
