-- Lines that a site runs are calls by which it lives on.
use Rattle.std.proofs.Common.{◌≡◌, ◌⊎◌, ◌∙◌, ◌<◌, ℕ, Bool, true, false, List, [], ◌∷◌, ◌++◌, Option, None, Some, Ok, Err, Result, inl, inr, refl, subst, sym, lit<}
use Rattle.std.specs.Borrow.{Bor}
use Rattle.std.specs.Prelude.{MatchOption, MatchResult, codes}
use Rattle.std.specs.Str.{bytes_eq}
use Rattle.std.proofs.lemmas.List.{append-nil}
use Rattle.rt_stamps.specs.declared.fault.Fault.{Fault}
use Rattle.rt_stamps.specs.declared.fault.Fault.TheVariants.{NoFile}
use Rattle.rt_stamps.specs.declared.limits.Bounds.{Bounds}
use Rattle.rt_stamps.specs.declared.limits.TheConstants.{MOST_CELLS}
use Rattle.rt_stamps.specs.Streams.{FILE_BOUNDS, Stream}
use Rattle.rt_stamps.specs.Words.{Word}
use Rattle.rt_ops.specs.Operations.{Operation}
use Rattle.rt_oplog.specs.Logs.{HasOp}
use Rattle.rt_holding.specs.declared.receiving.Received.{Received}
use Rattle.rt_requests.specs.declared.destroying.Destroy.{Destroy}
use Rattle.rt_requests.specs.PeerWords.{asked_destroy}
use Rattle.rt_peers.specs.Lives.{IsOfFile, Lives, LivesOn, begins}
use Rattle.rt_peers.specs.PeerStep.{destroyed}
use Rattle.rt_peers.specs.SiteStep.{SiteReceives}
use Rattle.rt_peers.specs.SiteValue.{SiteValue, new_site}
use Rattle.rt_peers.proofs.Calls.{destroyed_on, gives_on, received_on}
use Rattle.rt_peers.proofs.Events.{either_of, known_on, then_on as goes_on}
use Rattle.rt_script.specs.declared.answer.Answer.{Answer}
use Rattle.rt_script.specs.declared.answer.Answer.TheVariants as answers
use Rattle.rt_script.specs.declared.site_run.ScriptRun.{ScriptRun}
use Rattle.rt_script.specs.Lived.{IsOfFirstLog, IsOfNamed, RunsLive}
use Rattle.rt_script.specs.Lines.{answered_lines, complete_of, lines_of}
use Rattle.rt_script.specs.Run.{Ends, LineGives, Point, Ran, RanUnwritten, RunsLines, point}
use Rattle.rt_script.specs.Site.{IsDone, LineIsRefused, NamedFile, PathGives, ReceiveGives, Session, SiteGives, WordsGive, file_named}
use Rattle.rt_script.specs.SiteRun.{BeginsFrom, RunsScript}

stays_on : (IsOther : Operation → Type 0) (old new : SiteValue) → new ≡ old → LivesOn IsOther old new
stays_on IsOther old new e site limit came l =
    ([], subst (λ (s : SiteValue). Lives site limit s (came ++ [])) (sym e) (subst (Lives site limit old) (sym (append-nil came)) l), λ op i. absurd i)

-- WORDS

receive_on : (files : List NamedFile) (name : Word) (found : Option (List ℕ)) (old new : SiteValue) (answer : Answer) → file_named name files ≡ found
    → MatchOption found (LineIsRefused NoFile old answer new) (λ bytes. (received : Received)
    × (answer ≡ answers.Received received) × SiteReceives bytes old received new) → LivesOn (IsOfNamed files) old new
receive_on files name None old new answer e h = stays_on (IsOfNamed files) old new h.1
receive_on files name (Some bytes) old new answer e h =
    known_on (IsOfFile bytes) (IsOfNamed files) old new (λ op i. (name, bytes, e, i)) (received_on bytes h.0 old new h.2)

file_on : (files : List NamedFile) (words : List Word) (old new : SiteValue) (answer : Answer) → ReceiveGives files words old answer new → LivesOn (IsOfNamed files) old new
file_on files [] old new answer h = stays_on (IsOfNamed files) old new h.1
file_on files (name ∷ []) old new answer h = receive_on files name (file_named name files) old new answer refl h
file_on files (name ∷ more ∷ words) old new answer h = stays_on (IsOfNamed files) old new h.1

module _ (files : List NamedFile) where
  done_on : (path : Word) (said : Result SiteValue Fault) (old new : SiteValue) (answer : Answer) → destroyed path old ≡ said → IsDone said old answer new → LivesOn (IsOfNamed files) old new
  done_on path (Ok left) old new answer e h = destroyed_on (IsOfNamed files) path old new (e ∙ sym (λ i. Ok (h.1 i)))
  done_on path (Err fault) old new answer e h = stays_on (IsOfNamed files) old new h.1

  destroy_by : (old new : SiteValue) (answer : Answer) (asked : Result Destroy Fault)
      → MatchResult asked (λ request. IsDone (destroyed request.path old) old answer new) (λ fault. LineIsRefused fault old answer new) → LivesOn (IsOfNamed files) old new
  destroy_by old new answer (Ok request) h = done_on request.path (destroyed request.path old) old new answer refl h
  destroy_by old new answer (Err fault) h = stays_on (IsOfNamed files) old new h.1

  path_on : (path : Word) (words : List Word) (old new : SiteValue) (answer : Answer) → PathGives path words old answer new → LivesOn (IsOfNamed files) old new
  path_on path words old new answer h = gives_on (IsOfNamed files) path words old new h.0 h.2

tested : {A : Type 0} (b : Bool) → (b ≡ true → A) → (b ≡ false → A) → A
tested true f g = f refl
tested false f g = g refl

words_on : (files : List NamedFile) (words : List Word) (old new : SiteValue) (answer : Answer) → WordsGive files words old answer new → LivesOn (IsOfNamed files) old new
words_on files [] old new answer h = stays_on (IsOfNamed files) old new h.1
words_on files (first ∷ words) old new answer h = tested (bytes_eq first (codes "receive"))
    (λ e. file_on files words old new answer (h.0 e))
    (λ e. let other = h.1 e in tested (bytes_eq first (codes "destroy"))
    (λ f. destroy_by files old new answer (asked_destroy words) (other.0 f)) (λ f. path_on files first words old new answer (other.1 f)))

-- LINES

-- what becomes of a site while its files stay
abbrev GoesOn : List NamedFile → Session → Session → Type 0
GoesOn files old new = (old.files ≡ files) → LivesOn (IsOfNamed files) old.site new.site × (new.files ≡ files)

line_on : (files : List NamedFile) (old new : Session) (line : List ℕ) (answer : Answer) → LineGives SiteGives old line answer new → GoesOn files old new
line_on files old new line answer (inl h) e =
    let gives = h.1.2 in
    (words_on files h.1.0 old.site new.site answer (subst (λ (f : List NamedFile). WordsGive f h.1.0 old.site answer new.site) e gives.1), gives.0 ∙ e)
line_on files old new line answer (inr (inl h)) e = (stays_on (IsOfNamed files) old.site new.site (λ i. (h.2 i).site), (λ i. (h.2 i).files) ∙ e)
line_on files old new line answer (inr (inr h)) e = (stays_on (IsOfNamed files) old.site new.site (λ i. (h.2 i).site), (λ i. (h.2 i).files) ∙ e)

lines_on : (files : List NamedFile) (lines : List (List ℕ)) (given : List Answer) (old new : Session) → RunsLines SiteGives old lines given new → GoesOn files old new
lines_on files [] [] old new h e = (stays_on (IsOfNamed files) old.site new.site (λ i. (h i).site), (λ i. (h i).files) ∙ e)
lines_on files [] (answer ∷ given) old new h e = absurd h
lines_on files (line ∷ lines) [] old new h e = absurd h
lines_on files (line ∷ lines) (answer ∷ given) old new h e =
    let one = line_on files old h.0 line answer h.1 e in
    let more = lines_on files lines given h.0 new h.2 one.1 in
    (goes_on (IsOfNamed files) old.site h.0.site new.site one.0 more.0, more.1)

module _ (files : List NamedFile) (old new : Point Session) (e : old.state.files ≡ files) where
  ran_on : (lines : List (List ℕ)) → Ran SiteGives old new lines → LivesOn (IsOfNamed files) old.state.site new.state.site
  ran_on lines r = (lines_on files (answered_lines lines) r.answers old.state new.state r.runs e).0

  unwritten_on : (lines : List (List ℕ)) → RanUnwritten SiteGives old new lines → LivesOn (IsOfNamed files) old.state.site new.state.site
  unwritten_on lines r = (lines_on files (answered_lines r.run) (r.answers ++ r.last ∷ []) old.state new.state r.runs e).0

  -- WHOLE RUNS

  ends_on : (bounds : Bounds) (fault : Option Fault) (script left : Stream) → Ends SiteGives bounds old new script left fault → LivesOn (IsOfNamed files) old.state.site new.state.site
  ends_on bounds None script left h = ran_on (lines_of h.read) (h.whole refl).2
  ends_on bounds (Some why) script left h = elim h.only [
    | inl m ↦ let past = h.unstored (λ i. Some (m i)) in ran_on (complete_of past.front ++ past.run) past.ran
    | inr other ↦ elim other [
      | inl r ↦ ran_on (complete_of h.read) (h.unread (λ i. Some (r i)))
      | inr w ↦ elim (h.unwritten (λ i. Some (w i))) [
        | inl u ↦ unwritten_on (complete_of h.read) u
        | inr u ↦ unwritten_on (lines_of h.read) u.1
      ]
    ]
  ]

pub script_on : (files : List NamedFile) (site : SiteValue) (wants_log : Bool) (script left before after : Stream) (outcome : ScriptRun)
    → RunsScript files site wants_log script left before after outcome → LivesOn (IsOfNamed files) site outcome.site
script_on files site wants_log script left before after outcome h =
    ends_on files (point (record { site = site; files = files }) before) (point (record { site = outcome.site; files = files }) after) refl FILE_BOUNDS outcome.fault script left h.0

new_lives : (number : ℕ) → 0 < number → Lives number MOST_CELLS (new_site number MOST_CELLS) []
new_lives number p = begins p (lit< tt)

begun : (number : ℕ) (log : Option (Bor (List ℕ))) (start : SiteValue) → 0 < number → BeginsFrom number log start
    → (came : List Operation) × Lives number MOST_CELLS start came × ((op : Operation) → HasOp came op → (op.site ≡ number) ⊎ IsOfFirstLog log op)
begun number None start p h = ([], subst (λ (s : SiteValue). Lives number MOST_CELLS s []) (sym h) (new_lives number p), λ op i. absurd i)
begun number (Some log) start p h = received_on log.now h.0 (new_site number MOST_CELLS) start h.1 number MOST_CELLS [] (new_lives number p)

pub run_lives : RunsLive
run_lives number end p r =
    let start = begun number r.log r.start p r.begins in
    let on = script_on r.files r.start r.wants_log r.script r.left r.before r.after r.outcome r.runs number MOST_CELLS start.0 start.1 in
    let P : Operation → Type 0 = λ op. (op.site ≡ number) ⊎ (IsOfFirstLog r.log op ⊎ IsOfNamed r.files op) in (
      start.0 ++ on.0,
      subst (λ (s : SiteValue). Lives number MOST_CELLS s (start.0 ++ on.0)) r.is_end on.1,
      either_of P start.0 on.0 (λ op i. elim (start.2 op i) [ inl e ↦ inl e | inr l ↦ inr (inl l) ]) (λ op i. elim (on.2 op i) [ inl e ↦ inl e | inr n ↦ inr (inr n) ]),
    )
