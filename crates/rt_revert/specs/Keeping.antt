-- How characters that go are kept by spans, with states of a table of one's own.
use Rattle.std.specs.Prelude.{◌≡◌, ℕ, ◌+◌, ◌==◌, ◌&&◌, nat_le, Bool}
use Rattle.rt_stamps.specs.declared.stamp.Stamp.{Stamp}
use Rattle.rt_tags.specs.States.{IsState, TagStates, names_on, state_at}
use Rattle.rt_undo.specs.declared.action.RemovedSpan.{RemovedSpan}
use Rattle.rt_revert.specs.declared.copying.Alike.{Alike}

-- the same tags are on in two states, one of each table
pub record AreAlike (states table : TagStates) (alike : Alike) : Type 0 where
  pub given : IsState table alike.own
  pub names : names_on (state_at table alike.own) ≡ names_on (state_at states alike.theirs)

-- a character that had the same tags as those of a span, with the stamp of the count after their last
abbrev pub continues_span : RemovedSpan → Stamp → ℕ → Bool
continues_span part stamp state =
    (part.state == state) && (nat_le part.span.first part.span.last && ((stamp.site == part.span.site) && (stamp.count == part.span.last + 1)))
