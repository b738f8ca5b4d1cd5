use Rattle.std.proofs.Common.{◌≡◌, ◌<◌, ◌∙◌, sym, rules, length, get_or, []}
use Rattle.rt_rows.proofs.Following.{names_true}
use Rattle.rt_rows.proofs.names.TagLists.is_at.Goals as goal

pub returns-in-Some : goal.returns-in-Some
returns-in-Some c = λ h.
    let lists = c.args.self.now.lists in
    let same : c.in-Some.list.now ≡ c.args.names.now = names_true c.in-Some.list.now c.args.names.now (sym c.is_same.ensures ∙ h) in
    let within : c.args.at < length lists = search rules in
    let there : get_or lists c.args.at [] ≡ c.in-Some.list.now = search rules in
    (within, there ∙ same)
