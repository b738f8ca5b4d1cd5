use Rattle.rt_peers.specs.SiteStep.{log_of}
use Rattle.rt_peers.proofs.Exchanging.{exchange_agrees, receives_any, receives_whole, tells_clash}
use Rattle.rt_peers.proofs.Sent.{receives_lacking}
use Rattle.rt_peers.proofs.laws.exchange.Goals as goal

pub returns : goal.returns
returns c = record {
  whole = receives_whole c.args.one.now (log_of c.args.other.now) c.log.ensures.history c.log-2.ensures.history;
  any = receives_any c.args.one.now (log_of c.args.other.now) c.log.ensures.history c.log-2.ensures.history;
  clash = tells_clash c.args.one.now (log_of c.args.other.now) c.log.ensures.history c.log-2.ensures.history;
  lacking = receives_lacking c.args.one.now (log_of c.args.other.now) c.log.ensures.history c.log-2.ensures.history;
  agree = exchange_agrees c.args.one.now c.args.other.now c.log.ensures.history c.log-2.ensures.history;
}
