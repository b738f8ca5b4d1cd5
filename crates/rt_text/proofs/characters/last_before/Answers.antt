use Rattle.std.proofs.Common.{◌≡◌, ◌∙◌, ap, false, sym, take, true}
use Rattle.std.specs.Str.{bytes_eq}
use Rattle.rt_store.specs.Cells.{visible_of}
use Rattle.rt_store.specs.Tagged.{last_place}
use Rattle.rt_tags.specs.Tags.{sel}
use Rattle.rt_plans.specs.Selected.{selected_stamps}
use Rattle.rt_text.proofs.TaggedLaws.{asks_unknown, last_never}
use Rattle.rt_text.proofs.characters.last_before.Goals as goal

pub returns-in-None : goal.returns-in-None
returns-in-None g c =
    let cells = take c.args.end (visible_of (g.S.TextStore.list c.args.store.now)) in
    let other : bytes_eq c.args.name.now sel ≡ false = sym c.eq.ensures ∙ c.if-eq.false in
    sym (ap (λ t. last_place t cells) (asks_unknown c.args.states.now (selected_stamps c.args.selection.now) c.args.name.now true other c.in-None.ensures.nowhere) ∙ last_never cells)
