use Rattle.std.proofs.Common.{◌≡◌, ◌+◌, ◌-◌, ◌<◌, ◌≤◌, ◌∙◌, length, min, take, drop, ap, arith, sym}
use Rattle.std.proofs.lemmas.List.{length-take, take-append-le}
use Rattle.rt_store.specs.Cells.{text_of}
use Rattle.rt_lines.proofs.Parts.{part_length}
use Rattle.rt_search.proofs.Parts.{part_from}
use Rattle.rt_search.proofs.part.Part.characters.Goals as goal

pub returns-clause-characters : goal.returns-clause-characters
returns-clause-characters g c =
    let text = text_of (g.S.TextStore.list c.self.inside.store.now) in
    let n : length c.args.self.now ≡ c.self.inside.stretch.end - c.self.inside.stretch.begin = ap length (sym c.self.view_is) ∙ part_length c.self.inside.stretch text c.self.invariant.within in
    let r = c.characters.result in
    let few : r ≤ length c.characters.new.buffer = omega (arith, c.characters.ensures.count, c.characters.auto.buffer) in
    let within : c.self.inside.stretch.begin + c.args.place + r ≤ c.self.inside.stretch.end = omega (arith, n, c.requires, c.self.invariant.order, c.self.invariant.within, c.characters.ensures.count, c.min-count.ensures, length-take c.min-count.result c.args.buffer.now) in
    take-append-le r c.characters.new.buffer (drop c.min-count.result c.args.buffer.now) few
    ∙ c.characters.ensures.characters
    ∙ sym (part_from c.self.inside.stretch c.args.place r text within)
    ∙ ap (λ v. take r (drop c.args.place v)) c.self.view_is
