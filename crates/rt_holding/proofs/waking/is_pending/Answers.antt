use Rattle.std.proofs.Common.{◌∙◌, sym}
use Rattle.rt_holding.proofs.Named.{among_at}
use Rattle.rt_holding.proofs.waking.is_pending.Goals as goal

pub returns : goal.returns
returns c t =
    let later = c.in-Some.field-0.now in
    record {
      later = later;
      among = among_at c.args.spans.now c.args.index later c.in-Some.ensures.lookup.3.0 c.in-Some.ensures.lookup.1;
      site = c.if-later-key.false;
      is = c.if-later.false;
      behind = c.if-later-key-2.false;
      passed = c.if-known-later.false;
      kept = sym c.has_it.ensures ∙ t;
    }
