use Rattle.std.proofs.Common.{refl}
use Rattle.rt_peers.proofs.Telling.{text_tries, tried_named, tried_told}
use Rattle.rt_peers.proofs.text.telling.settle_lent.Goals as goal

pub returns-clause-tried : goal.returns-clause-tried
returns-clause-tried c =
    text_tries c.args.held.now.held c.settle.new.self.held c.args.telling.now c.settle.new.site c.settle.result c.settle.ensures.tried

pub returns-clause-more : goal.returns-clause-more
returns-clause-more c =
    tried_told c.args.held.now.held c.settle.new.self.held c.args.telling.now c.settle.new.site c.settle.result c.settle.ensures.tried

pub returns-clause-lent : goal.returns-clause-lent
returns-clause-lent c =
    tried_named c.args.held.now.held c.settle.new.self.held c.args.telling.now c.settle.new.site c.settle.result c.settle.ensures.tried
    (λ t. t.text.ghost_name) (λ op t. refl)

pub returns-clause-lent_told : goal.returns-clause-lent_told
returns-clause-lent_told c =
    tried_named c.args.held.now.held c.settle.new.self.held c.args.telling.now c.settle.new.site c.settle.result c.settle.ensures.tried
    (λ t. t.told.ghost_name) (λ op t. refl)
