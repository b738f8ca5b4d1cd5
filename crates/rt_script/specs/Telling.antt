-- What is told of a site that became another.
use Rattle.std.specs.Prelude.{◌≡◌, List, Option, Vec, IfSome, IsSome, option_map}
use Rattle.std.specs.declared.alloc.Global.{Global}
use Rattle.rt_changes.specs.declared.change.ToldChange.{ToldChange}
use Rattle.rt_peers.specs.SiteStep.{log_of}
use Rattle.rt_peers.specs.SiteValue.{SiteValue}
use Rattle.rt_peers.specs.Telling.{AreToldOf}

-- What is told, if it is known, are the changes of each operation that was made or accepted, in an order in which they could be. Made
-- one after the other to the text before, with its tags, they give the text after. Where no operation came, nothing is unknown.
pub record TellsChanges (old new : SiteValue) (changes : Option (List ToldChange)) : Type 0 where
  pub told : IfSome changes (AreToldOf old.text new.text)
  pub known : log_of new ≡ log_of old → IsSome changes

-- the changes that are told, as a list
abbrev pub told_items : Option (Vec ToldChange Global) → Option (List ToldChange)
told_items changes = option_map (λ changes. changes.items) changes
