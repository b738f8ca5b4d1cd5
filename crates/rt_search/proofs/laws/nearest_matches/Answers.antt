use Rattle.std.proofs.Common.{refl}
use Rattle.rt_search.proofs.Nearest.{greatest, least, none}
use Rattle.rt_search.proofs.laws.nearest_matches.Goals as goal

pub returns : goal.returns
returns c = record {
  least = λ search pattern text stretch found e h. least search pattern text stretch found search.direction refl e h;
  greatest = λ search pattern text stretch found e h. greatest search pattern text stretch found search.direction refl e h;
  none = λ search pattern text stretch place h o. none search pattern text stretch place search.direction h o;
}
