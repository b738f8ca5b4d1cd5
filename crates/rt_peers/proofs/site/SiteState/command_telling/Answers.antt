use Rattle.std.proofs.Common.{◌≡◌, ◌∙◌, ap}
use Rattle.rt_stamps.specs.Words.{as_words}
use Rattle.rt_peers.specs.SiteValue.{number_of_path}
use Rattle.rt_peers.proofs.InTurn.{asked_at, nowhere, refused_at}
use Rattle.rt_peers.proofs.PeerLaws.{place_in}
use Rattle.rt_peers.proofs.Telling.{none_told}
use Rattle.rt_peers.proofs.site.SiteState.command_telling.Goals as goal

pub returns-in_default-clause-gives : goal.returns-in_default-clause-gives
returns-in_default-clause-gives c =
    let found : number_of_path c.args.path.now c.args.self.now.paths ≡ c.number_of.result =
    place_in c.args.path.now c.deref.result.now c.self.inside.paths.items c.args.self.now.paths c.number_of.result c.number_of.ensures c.deref.ensures.value
    (ap (λ s. s.paths) c.self.view_is) in
    nowhere c.args.path.now (as_words c.args.words.now) c.args.self.now (found ∙ c.in_default.is)

pub returns-in_default-clause-told : goal.returns-in_default-clause-told
returns-in_default-clause-told c = (none_told c.args.self.now.text c.new.result.items c.new.ensures.items).told

pub returns-in-Ok-clause-gives : goal.returns-in-Ok-clause-gives
returns-in-Ok-clause-gives c =
    let found : number_of_path c.args.path.now c.args.self.now.paths ≡ c.number_of.result =
    place_in c.args.path.now c.deref.result.now c.self.inside.paths.items c.args.self.now.paths c.number_of.result c.number_of.ensures c.deref.ensures.value
    (ap (λ s. s.paths) c.self.view_is) in
    asked_at c.args.path.now c.in-Some.number (as_words c.args.words.now) c.args.self.now c.request_telling.new.self c.of.result c.in-Ok.request
    c.request_telling.result.reply (found ∙ c.in-Some.is) c.of.ensures c.in-Ok.is c.request_telling.ensures.answers

pub returns-in-Err-clause-gives : goal.returns-in-Err-clause-gives
returns-in-Err-clause-gives c =
    let found : number_of_path c.args.path.now c.args.self.now.paths ≡ c.number_of.result =
    place_in c.args.path.now c.deref.result.now c.self.inside.paths.items c.args.self.now.paths c.number_of.result c.number_of.ensures c.deref.ensures.value
    (ap (λ s. s.paths) c.self.view_is) in
    refused_at c.args.path.now c.in-Some.number (as_words c.args.words.now) c.args.self.now c.of.result c.in-Err.fault (found ∙ c.in-Some.is) c.of.ensures c.in-Err.is

pub returns-in-Err-clause-told : goal.returns-in-Err-clause-told
returns-in-Err-clause-told c = (none_told c.args.self.now.text c.new-in-Err.result.items c.new-in-Err.ensures.items).told
