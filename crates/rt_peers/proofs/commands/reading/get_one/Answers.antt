use Rattle.std.proofs.Common.{[], ◌∷◌, string_bytes}
use Rattle.rt_text.specs.Commands.{got_one}
use Rattle.rt_peers.proofs.Steps.{replied_with}
use Rattle.rt_peers.proofs.commands.reading.get_one.Goals as goal

pub returns : goal.returns
returns c =
    let state = c.args.view.now in
    replied_with state (λ text. text ∷ []) (got_one state c.args.index.now) (string_bytes c.in_ok-text.text) c.one_word.result c.in_ok-text.ensures.ok c.one_word.ensures.ok c.one_word.ensures.err
