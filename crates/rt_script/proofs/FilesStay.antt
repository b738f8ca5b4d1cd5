-- The files that the lines of a script may name stay as they are.
use Rattle.std.proofs.Common.{◌≡◌, ◌⊎◌, ◌∙◌, ℕ, List, [], ◌∷◌, ◌++◌, Option, Some, None, ap, inl, inr, refl, subst, sym}
use Rattle.std.specs.Prelude.{IfSome}
use Rattle.rt_stamps.specs.declared.fault.Fault.{Fault}
use Rattle.rt_stamps.specs.declared.fault.Fault.TheVariants.{NoMemory, ReadFault, WriteFault}
use Rattle.rt_stamps.specs.declared.limits.Bounds.{Bounds}
use Rattle.rt_script.specs.Lines.{answered_lines}
use Rattle.rt_stamps.specs.Streams.{Stream}
use Rattle.rt_script.specs.declared.answer.Answer.{Answer}
use Rattle.rt_script.specs.Run.{Ends, LineGives, Point, Ran, RanUnwritten, RunsLines, StopsInLast, point}
use Rattle.rt_peers.specs.SiteValue.{SiteValue}
use Rattle.rt_script.specs.Site.{Session, SiteGives}

line_keeps : (old new : Session) (line : List ℕ) (answer : Answer) → LineGives SiteGives old line answer new → new.files ≡ old.files
line_keeps old new line answer (inl (readable, (words, spells, gives))) = gives.0
line_keeps old new line answer (inr (inl (bad, refused, same))) = ap (λ (s : Session). s.files) same
line_keeps old new line answer (inr (inr (readable, refused, same))) = ap (λ (s : Session). s.files) same

runs_keep : (lines : List (List ℕ)) (answers : List Answer) (old new : Session) → RunsLines SiteGives old lines answers new → new.files ≡ old.files
runs_keep [] [] old new same = ap (λ (s : Session). s.files) same
runs_keep (line ∷ lines) (answer ∷ answers) old new (mid, here, rest) = runs_keep lines answers mid new rest ∙ line_keeps old mid line answer here
runs_keep [] (answer ∷ answers) old new bad = absurd bad
runs_keep (line ∷ lines) [] old new bad = absurd bad

ran_keeps : (old new : Point Session) (lines : List (List ℕ)) → Ran SiteGives old new lines → new.state.files ≡ old.state.files
ran_keeps old new lines r = runs_keep (answered_lines lines) r.answers old.state new.state r.runs

unwritten_keeps : (old new : Point Session) (lines : List (List ℕ)) → RanUnwritten SiteGives old new lines → new.state.files ≡ old.state.files
unwritten_keeps old new lines r = runs_keep (answered_lines r.run) (r.answers ++ r.last ∷ []) old.state new.state r.runs

either_keeps : (old new : Point Session) (complete lines : List (List ℕ)) (End : Type 0)
    → RanUnwritten SiteGives old new complete ⊎ (End × RanUnwritten SiteGives old new lines) → new.state.files ≡ old.state.files
either_keeps old new complete lines End (inl r) = unwritten_keeps old new complete r
either_keeps old new complete lines End (inr (end, r)) = unwritten_keeps old new lines r

-- whatever ended a run
pub ended_keeps : (bounds : Bounds) (old new : Point Session) (script left : Stream) (fault : Option Fault) → Ends SiteGives bounds old new script left fault
    → new.state.files ≡ old.state.files
ended_keeps bounds old new script left fault e = by fault refl
  where
    why_by : (why : Fault) → fault ≡ Some why → (why ≡ NoMemory) ⊎ ((why ≡ ReadFault) ⊎ (why ≡ WriteFault)) → new.state.files ≡ old.state.files
    why_by why h (inl m) = ran_keeps old new _ (e.unstored (h ∙ ap Some m)).ran
    why_by why h (inr (inl r)) = ran_keeps old new _ (e.unread (h ∙ ap Some r))
    why_by why h (inr (inr w)) = either_keeps old new _ _ _ (e.unwritten (h ∙ ap Some w))

    by : (f : Option Fault) → fault ≡ f → new.state.files ≡ old.state.files
    by None h = ran_keeps old new _ (e.whole h).2
    by (Some why) h = why_by why h (subst (λ (f : Option Fault). IfSome f (λ why. (why ≡ NoMemory) ⊎ (why ≡ ReadFault) ⊎ (why ≡ WriteFault))) h e.only)

-- a site that ends a run has the files with which the run began
end_is : (bounds : Bounds) (start new last : Session) (site : SiteValue) (script left before after : Stream) (fault : Option Fault) → new ≡ start → site ≡ last.site
    → Ends SiteGives bounds (point new before) (point last after) script left fault → last ≡ record { site = site; files = start.files }
end_is bounds start new last site script left before after fault begins is e =
    let files : last.files ≡ start.files = ended_keeps bounds (point new before) (point last after) script left fault e ∙ ap (λ (s : Session). s.files) begins in
    λ i. record { site = sym is i; files = files i }

pub site_ends : (bounds : Bounds) (start new last : Session) (site : SiteValue) (script left before after : Stream) (fault : Option Fault) → new ≡ start → site ≡ last.site
    → Ends SiteGives bounds (point new before) (point last after) script left fault
    → Ends SiteGives bounds (point start before) (point (record { site = site; files = start.files }) after) script left fault
site_ends bounds start new last site script left before after fault begins is e =
    let end = end_is bounds start new last site script left before after fault begins is e in
    subst (λ (s : Session). Ends SiteGives bounds (point start before) (point s after) script left fault) end
    (subst (λ (s : Session). Ends SiteGives bounds (point s before) (point last after) script left fault) begins e)

-- and so it stopped in what the last read gave
pub site_stops : {R : Type 0} (stream : R → Stream) (bounds : Bounds) (start new last : Session) (site : SiteValue) (script left : R) (before after : Stream) (fault : Option Fault) → new ≡ start → site ≡ last.site
    → Ends SiteGives bounds (point new before) (point last after) (stream script) (stream left) fault → StopsInLast SiteGives stream (point new before) (point last after) script left
    → StopsInLast SiteGives stream (point start before) (point (record { site = site; files = start.files }) after) script left
site_stops stream bounds start new last site script left before after fault begins is e stops =
    let end = end_is bounds start new last site (stream script) (stream left) before after fault begins is e in
    subst (λ (s : Session). StopsInLast SiteGives stream (point start before) (point s after) script left) end
    (subst (λ (s : Session). StopsInLast SiteGives stream (point s before) (point last after) script left) begins stops)
