use Rattle.std.proofs.Common.{◌≡◌, ◌∙◌, ap}
use Rattle.rt_stamps.specs.Words.{as_words}
use Rattle.rt_peers.specs.SiteValue.{number_of_path}
use Rattle.rt_peers.proofs.InTurn.{asked_at, nowhere, refused_at}
use Rattle.rt_peers.proofs.PeerLaws.{place_in}
use Rattle.rt_peers.proofs.site.SiteState.command.Goals as goal

pub returns-in_default : goal.returns-in_default
returns-in_default c =
    let found : number_of_path c.args.path.now c.args.self.now.paths ≡ c.number_of.result = place_in c.args.path.now c.deref.result.now c.self.inside.paths.items c.args.self.now.paths c.number_of.result c.number_of.ensures c.deref.ensures.value (ap (λ s. s.paths) c.self.view_is) in
    nowhere c.args.path.now (as_words c.args.words.now) c.args.self.now (found ∙ c.in_default.is)

pub returns-in-Ok : goal.returns-in-Ok
returns-in-Ok c =
    let found : number_of_path c.args.path.now c.args.self.now.paths ≡ c.number_of.result = place_in c.args.path.now c.deref.result.now c.self.inside.paths.items c.args.self.now.paths c.number_of.result c.number_of.ensures c.deref.ensures.value (ap (λ s. s.paths) c.self.view_is) in
    asked_at c.args.path.now c.in-Some.number (as_words c.args.words.now) c.args.self.now c.request.new.self c.of.result c.in-Ok.request c.request.result
    (found ∙ c.in-Some.is) c.of.ensures c.in-Ok.is c.request.ensures.answers

pub returns-in-Err : goal.returns-in-Err
returns-in-Err c =
    let found : number_of_path c.args.path.now c.args.self.now.paths ≡ c.number_of.result = place_in c.args.path.now c.deref.result.now c.self.inside.paths.items c.args.self.now.paths c.number_of.result c.number_of.ensures c.deref.ensures.value (ap (λ s. s.paths) c.self.view_is) in
    refused_at c.args.path.now c.in-Some.number (as_words c.args.words.now) c.args.self.now c.of.result c.in-Err.fault (found ∙ c.in-Some.is) c.of.ensures c.in-Err.is
