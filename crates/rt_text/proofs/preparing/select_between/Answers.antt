use Rattle.std.proofs.Common.{◌∙◌, ap, map, sym}
use Rattle.rt_text.specs.Owned.{widget_value}
use Rattle.rt_text.proofs.PeerLaws.{none_selecting, selecting}
use Rattle.rt_text.proofs.preparing.select_between.Goals as goal

pub returns-in-None : goal.returns-in-None
returns-in-None c = sym (ap (λ o. map (selecting o) (map widget_value c.args.others.now)) c.in-None.is ∙ none_selecting (map widget_value c.args.others.now))
