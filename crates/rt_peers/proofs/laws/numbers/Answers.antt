use Rattle.std.proofs.Common.{◌∙◌, ap, sym}
use Rattle.std.specs.Prelude.{option_map}
use Rattle.rt_text.specs.Widgets.{view_as}
use Rattle.rt_peers.specs.SiteStep.{at_widget, widget_step}
use Rattle.rt_peers.proofs.InTurn.{of_text}
use Rattle.rt_peers.proofs.Numbered.{step_there, view_there}
use Rattle.rt_peers.proofs.PeerLaws.{place_within}
use Rattle.rt_peers.proofs.laws.numbers.Goals as goal

pub returns : goal.returns
returns c = record {
  asked = λ path number state request found other.
      step_there number state request (place_within path state.paths number found) ∙ sym (of_text path number state request other)
      ∙ sym (ap (λ o. at_widget o (λ place. widget_step path place state request)) found);
  shown = λ path number state found.
      view_there number state (place_within path state.paths number found) ∙ sym (ap (option_map (λ place. view_as place state.text.view)) found);
}
