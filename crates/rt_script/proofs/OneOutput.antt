-- Lines for which no memory was wanting have one answer each, and so a whole run has one output.
use Rattle.std.proofs.Common.{◌≡◌, ◌∙◌, ◌⊎◌, ℕ, Bool, true, false, List, [], ◌∷◌, ◌++◌, Option, None, Some, Ok, Err, Result, ap, append-nil, flat_map, inl, inr, refl, subst, sym, codes}
use Rattle.std.specs.Borrow.{Bor}
use Rattle.std.specs.Io.KnownBytes.{Appends, Consumes, IsAtEnd}
use Rattle.std.specs.Prelude.{MatchOption, MatchResult, option_map}
use Rattle.std.specs.Str.{bytes_eq}
use Rattle.rt_stamps.specs.declared.fault.Fault.{Fault}
use Rattle.rt_stamps.specs.declared.fault.Fault.TheVariants.{NoFile}
use Rattle.rt_stamps.specs.declared.limits.TheConstants.{MOST_CELLS}
use Rattle.rt_stamps.specs.Words.{Word}
use Rattle.rt_words.specs.Spelling.{IsBadlyQuoted, Spells}
use Rattle.rt_words.proofs.Spelling.{line_spells_one}
use Rattle.rt_holding.specs.declared.receiving.Received.{Received}
use Rattle.rt_requests.specs.declared.destroying.Destroy.{Destroy}
use Rattle.rt_requests.specs.PeerWords.{asked_destroy}
use Rattle.rt_peers.specs.Memory.{GivesFoundMemory, ReceivingFoundMemory}
use Rattle.rt_peers.specs.PeerStep.{destroyed}
use Rattle.rt_peers.specs.SiteStep.{SiteReceives}
use Rattle.rt_peers.specs.SiteValue.{SiteValue, new_site}
use Rattle.rt_peers.proofs.OneWay.{commands_once, receiving_once}
use Rattle.rt_script.specs.declared.answer.Answer.{Answer}
use Rattle.rt_script.specs.declared.answer.Answer.TheVariants as answers
use Rattle.rt_script.specs.Lived.{IsScriptRun}
use Rattle.rt_script.specs.Lines.{answered_lines, is_readable, lines_of}
use Rattle.rt_script.specs.Output.{BeginFoundMemory, NamedFileFoundMemory, Given, IsWholeRun, LineFoundMemory, LinesFoundMemory, ReceiveFoundMemory, RunsHaveOneOutput, WordsFoundMemory}
use Rattle.rt_script.specs.Replies.{reply_line}
use Rattle.rt_script.specs.Run.{LineGives, RunsLines}
use Rattle.rt_script.specs.Site.{IsDone, LineIsRefused, NamedFile, PathGives, ReceiveGives, Session, SiteGives, WordsGive, as_answer, file_named}
use Rattle.rt_script.specs.SiteRun.{BeginsFrom}

-- ONE LINE

module _ (old : SiteValue) (one two : Answer) (new left : SiteValue) where
  abbrev Same : Type 0
  Same = (one ≡ two) × (new ≡ left)

  refused_once : (fault : Fault) → LineIsRefused fault old one new → LineIsRefused fault old two left → Same
  refused_once fault h k = (h.0 ∙ sym k.0, h.1 ∙ sym k.1)

  file_once : (found : Option (List ℕ))
      → (h : MatchOption found (LineIsRefused NoFile old one new) (λ bytes. (received : Received) × (one ≡ answers.Received received) × SiteReceives bytes old received new))
      → (k : MatchOption found (LineIsRefused NoFile old two left) (λ bytes. (received : Received) × (two ≡ answers.Received received) × SiteReceives bytes old received left))
      → NamedFileFoundMemory found old one new h → NamedFileFoundMemory found old two left k → Same
  file_once None h k f g = refused_once NoFile h k
  file_once (Some bytes) h k f g =
      let same = receiving_once bytes old h.0 k.0 new left h.2 k.2 f g in
      (h.1 ∙ ap answers.Received same.0 ∙ sym k.1, same.1)

  receive_once : (files : List NamedFile) (words : List Word) (h : ReceiveGives files words old one new) (k : ReceiveGives files words old two left)
      → ReceiveFoundMemory files words old one new h → ReceiveFoundMemory files words old two left k → Same
  receive_once files [] h k f g = refused_once _ h k
  receive_once files (name ∷ []) h k f g = file_once (file_named name files) h k f g
  receive_once files (name ∷ more ∷ words) h k f g = refused_once _ h k

  done_once : (said : Result SiteValue Fault) → IsDone said old one new → IsDone said old two left → Same
  done_once (Ok state) h k = (h.0 ∙ sym k.0, h.1 ∙ sym k.1)
  done_once (Err fault) h k = refused_once fault h k

  destroy_once : (asked : Result Destroy Fault)
      → MatchResult asked (λ request. IsDone (destroyed request.path old) old one new) (λ fault. LineIsRefused fault old one new)
      → MatchResult asked (λ request. IsDone (destroyed request.path old) old two left) (λ fault. LineIsRefused fault old two left) → Same
  destroy_once (Ok request) h k = done_once (destroyed request.path old) h k
  destroy_once (Err fault) h k = refused_once fault h k

  path_once : (path : Word) (words : List Word) (h : PathGives path words old one new) (k : PathGives path words old two left)
      → GivesFoundMemory path words old h.0 new h.2 → GivesFoundMemory path words old k.0 left k.2 → Same
  path_once path words h k f g =
      let same = commands_once path words old h.0 k.0 new left h.2 k.2 f g in
      (h.1 ∙ ap as_answer same.0 ∙ sym k.1, same.1)

  tested : {A : Type 0} (b : Bool) → (b ≡ true → A) → (b ≡ false → A) → A
  tested true f g = f refl
  tested false f g = g refl

  words_once : (files : List NamedFile) (words : List Word) (h : WordsGive files words old one new) (k : WordsGive files words old two left)
      → WordsFoundMemory files words old one new h → WordsFoundMemory files words old two left k → Same
  words_once files [] h k f g = refused_once _ h k
  words_once files (first ∷ words) h k f g = tested (bytes_eq first (codes "receive"))
      (λ e. receive_once files words (h.0 e) (k.0 e) (f.0 e) (g.0 e))
      (λ e. tested (bytes_eq first (codes "destroy"))
      (λ d. destroy_once (asked_destroy words) ((h.1 e).0 d) ((k.1 e).0 d))
      (λ d. path_once first words ((h.1 e).1 d) ((k.1 e).1 d) (f.1 e d) (g.1 e d)))

-- a line that is read and spells words isn't one that isn't read or spells none
both_ways : (line : List ℕ) (words : List Word) → is_readable line ≡ true → Spells line words → (is_readable line ≡ false) ⊎ IsBadlyQuoted line → ⊥
both_ways line words e s (inl f) = cc (e, f)
both_ways line words e s (inr bad) = bad words s

line_once : (line : List ℕ) (old : Session) (one two : Answer) (new left : Session) (h : LineGives SiteGives old line one new) (k : LineGives SiteGives old line two left)
    → LineFoundMemory old line one new h → LineFoundMemory old line two left k → (one ≡ two) × (new ≡ left)
line_once line old one two new left (inl h) (inl k) f g =
    let words = line_spells_one line h.1.0 k.1.0 h.1.1 k.1.1 in
    let same = subst (λ (w : List Word). (l : WordsGive old.files w old.site two left.site) → WordsFoundMemory old.files w old.site two left.site l
    → (one ≡ two) × (new.site ≡ left.site)) words
    (λ l e. words_once old.site one two new.site left.site old.files h.1.0 h.1.2.1 l f e) k.1.2.1 g in
    let files = h.1.2.0 ∙ sym k.1.2.0 in
    (same.0, λ i. record { site = same.1 i; files = files i })
line_once line old one two new left (inl h) (inr (inl k)) f g = absurd (both_ways line h.1.0 h.0 h.1.1 k.0)
line_once line old one two new left (inl h) (inr (inr k)) f g = absurd g
line_once line old one two new left (inr (inl h)) (inl k) f g = absurd (both_ways line k.1.0 k.0 k.1.1 h.0)
line_once line old one two new left (inr (inl h)) (inr (inl k)) f g = (h.1 ∙ sym k.1, h.2 ∙ sym k.2)
line_once line old one two new left (inr (inl h)) (inr (inr k)) f g = absurd g
line_once line old one two new left (inr (inr h)) k f g = absurd f

-- LINES

pub lines_once : (lines : List (List ℕ)) (one two : List Answer) (old new left : Session) (h : RunsLines SiteGives old lines one new) (k : RunsLines SiteGives old lines two left)
    → LinesFoundMemory old lines one new h → LinesFoundMemory old lines two left k → (one ≡ two) × (new ≡ left)
lines_once [] [] [] old new left h k f g = (refl, h ∙ sym k)
lines_once [] [] (b ∷ two) old new left h k f g = absurd k
lines_once [] (a ∷ one) two old new left h k f g = absurd h
lines_once (line ∷ lines) [] two old new left h k f g = absurd h
lines_once (line ∷ lines) (a ∷ one) [] old new left h k f g = absurd k
lines_once (line ∷ lines) (a ∷ one) (b ∷ two) old new left h k f g =
    let here = line_once line old a b h.0 k.0 h.1 k.1 f.0 g.0 in
    let behind = subst (λ (s : Session). (l : RunsLines SiteGives s lines two left) → LinesFoundMemory s lines two left l → (one ≡ two) × (new ≡ left)) here.1
    (λ l e. lines_once lines one two h.0 new left h.2 l f.1 e) k.2 g.1 in
    (λ i. here.0 i ∷ behind.0 i, behind.1)

-- WHOLE RUNS

-- a site begins in one state with a log of given bytes
begins_once : (number : ℕ) (log : Option (Bor (List ℕ))) (other : Option (Bor (List ℕ))) (start begun : SiteValue)
    → option_map (λ bytes. bytes.now) log ≡ option_map (λ bytes. bytes.now) other
    → (h : BeginsFrom number log start) (k : BeginsFrom number other begun) → BeginFoundMemory number log start h → BeginFoundMemory number other begun k → start ≡ begun
begins_once number None None start begun e h k f g = h ∙ sym k
begins_once number None (Some other) start begun e h k f g = absurd (cc e)
begins_once number (Some log) None start begun e h k f g = absurd (cc e)
begins_once number (Some log) (Some other) start begun e h k f g =
    let bytes : log.now ≡ other.now = cc e in
    subst (λ (b : List ℕ). (l : SiteReceives b (new_site number MOST_CELLS) k.0 begun) → ReceivingFoundMemory b (new_site number MOST_CELLS) k.0 begun l → start ≡ begun) bytes
    (λ l m. (receiving_once log.now (new_site number MOST_CELLS) h.0 k.0 start begun h.1 l f m).1) k.1 g

-- what was read of a script to its end are its bytes
read_all : (script left : Option (List ℕ)) (bytes read over : List ℕ) → script ≡ Some bytes → Consumes script left (read ++ over) → IsAtEnd left → over ≡ [] → read ≡ bytes
read_all None left bytes read over s c end e = absurd (cc s)
read_all (Some all) None bytes read over s c end e = absurd c
read_all (Some all) (Some rest) bytes read over s c end e =
    let b : all ≡ bytes = cc s in
    let gone : all ≡ (read ++ over) ++ rest = c in
    let short : (read ++ over) ++ rest ≡ read = rw (end, e) (append-nil (read ++ []) ∙ append-nil read) in
    sym short ∙ sym gone ∙ b

-- what was written where nothing was before
wrote_all : (before after : Option (List ℕ)) (written text : List ℕ) → before ≡ Some [] → after ≡ Some written → Appends before after text → written ≡ text
wrote_all None after written text b a h = absurd (cc b)
wrote_all (Some front) None written text b a h = absurd h
wrote_all (Some front) (Some all) written text b a h =
    let none : front ≡ [] = cc b in
    let same : all ≡ written = cc a in
    let wrote : all ≡ front ++ text = h in
    sym same ∙ wrote ∙ rw none refl

-- of a run: the lines that were answered
record Answered (files : List NamedFile) (start end : SiteValue) (script written : List ℕ) : Type 0 where
  pub given : List Answer
  pub runs : RunsLines SiteGives (record { site = start; files = files }) (answered_lines (lines_of script)) given (record { site = end; files = files })
  pub found : LinesFoundMemory (record { site = start; files = files }) (answered_lines (lines_of script)) given (record { site = end; files = files }) runs
  pub wrote : written ≡ flat_map reply_line given

answered_of : {number : ℕ} {end : SiteValue} (run : IsScriptRun number end) (given : Given) (written : List ℕ) → IsWholeRun run given written
    → Answered given.files run.start end given.script written
answered_of {end = end} run given written w =
    let ends = run.runs.0 in
    let whole = ends.whole w.whole in
    let ran = whole.2 in
    let read = read_all run.script.bytes run.left.bytes given.script ends.read ends.over w.script ends.consumes whole.0 whole.1 in
    let wrote = wrote_all run.before.bytes run.after.bytes written (flat_map reply_line ran.answers) w.before w.after ran.wrote in
    let at : Answered run.files run.start run.outcome.site ends.read written = record { given = ran.answers; runs = ran.runs; found = w.finds; wrote = wrote } in
    subst (λ (f : List NamedFile). Answered f run.start end given.script written) w.files
    (subst (λ (s : SiteValue). Answered run.files run.start s given.script written) run.is_end
    (subst (λ (r : List ℕ). Answered run.files run.start run.outcome.site r written) read at))

pub one_output : RunsHaveOneOutput
one_output number given end other run again written rewritten v w =
    let one = answered_of run given written v in
    let two = answered_of again given rewritten w in
    let start = begins_once number run.log again.log run.start again.start (v.log ∙ sym w.log) run.begins again.begins v.begins w.begins in
    let same = subst (λ (s : SiteValue). (l : RunsLines SiteGives (record { site = s; files = given.files }) (answered_lines (lines_of given.script)) two.given
    (record { site = other; files = given.files }))
    → LinesFoundMemory (record { site = s; files = given.files }) (answered_lines (lines_of given.script)) two.given (record { site = other; files = given.files }) l
    → (one.given ≡ two.given) × ◌≡◌ {A = Session} (record { site = end; files = given.files }) (record { site = other; files = given.files })) start
    (λ l m. lines_once (answered_lines (lines_of given.script)) one.given two.given (record { site = run.start; files = given.files })
    (record { site = end; files = given.files }) (record { site = other; files = given.files }) one.runs l one.found m) two.runs two.found in
    (one.wrote ∙ ap (flat_map reply_line) same.0 ∙ sym two.wrote, ap (λ (s : Session). s.site) same.1)
