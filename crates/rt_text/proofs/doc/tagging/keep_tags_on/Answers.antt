use Rattle.std.proofs.Common.{rules, ◌∙◌, ap, sym}
use Rattle.std.specs.Prelude.{string_bytes}
use Rattle.std.proofs.lemmas.Fn.{filter_same}
use Rattle.rt_stamps.specs.Words.{as_words}
use Rattle.rt_plans.specs.Selected.{selected_stamps}
use Rattle.rt_text.specs.Widgets.{is_tagged_in}
use Rattle.rt_store.specs.Shown.{shown}
use Rattle.rt_store.proofs.Shown.{filter_map}
use Rattle.rt_text.proofs.doc.tagging.keep_tags_on.Goals as goal

pub returns : goal.returns
returns c =
    ap as_words (filter_same _ (λ w. is_tagged_in (selected_stamps c.args.selection.now) (string_bytes w) (shown c.args.states.now c.args.cell)) _ (λ x b f' k. search rules) _ _ c.retain.ensures.filtered)
    ∙ sym (filter_map (λ name. is_tagged_in (selected_stamps c.args.selection.now) name (shown c.args.states.now c.args.cell)) (λ w. string_bytes w) c.args.names.now.items)
