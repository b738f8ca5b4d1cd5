-- Words that clap takes name a subcommand, and give it all that it wants.
use Rattle.std.proofs.Common.{◌≡◌, ◌∙◌, ◌<◌, ◌^◌, ◌||◌, ◌++◌, inl, inr, ℕ, Bool, cond, true, false, not, refl, sym, ap, subst, arith, List, [], ◌∷◌, length, length-append, drop, Option, Some, None, is_some, Result, Ok, Err, true≢false, codes}
use Rattle.std.specs.List.{fold, AllByRecursion}
use Rattle.std.specs.Option.{option_and_then, option_map, option_map_or}
use Rattle.std.specs.Prelude.{IfErr, IsErrAnd, find, slice_get}
use Rattle.std.specs.Str.{bytes_eq}
use Rattle.std.specs.Str.Parse.{ParsesUnsigned, digits_value, without_leading_plus}
use Rattle.clap.specs.Facts.{explicit_source}
use Rattle.clap.specs.Faults.{check_fault, defaults_fault, entered_fault, fault_of, level_fault, repeat_fault, set_fault, settle_fault, use_fault, values_fault, walk_fault}
use Rattle.clap.specs.Kinds.{HasKind, or_else, range_kinds, value_kinds}
use Rattle.clap.specs.Simple.{Shape, built, entered, filled, help_rule, names_of, rows_at, subcommand_of, with_index}
use Rattle.clap.specs.Takes.{is_given}
use Rattle.clap.specs.Values.{read_as}
use Rattle.clap.specs.ValueTests.{is_unsigned_in}
use Rattle.clap.specs.Walk.{Row, Rule, Text, default_rows, finished, has_row, more_values, nothing_held, reading_by, row_text, rows_after, settled, stronger, walk, walk_from, with_default, with_values, without}
use Rattle.clap.specs.declared.builder.value_parser.Reading.{Reading}
use Rattle.clap.specs.declared.error.ErrorKind.TheVariants.{DisplayHelp, MissingRequiredArgument, ValueValidation}
use Rattle.clap.specs.declared.parser.ValueSource.TheVariants.{CommandLine}
use Rattle.rt_stamps.specs.declared.limits.TheConstants.{GREATEST_SITE}
use Rattle.clap.specs.Words.{ReadsOne, kind_of}
use Rattle.clap.specs.declared.error.Error.{Error}
use Rattle.clap.specs.declared.builder.ValueParser.TheVariants.{Unsigned}
use Rattle.clap.proofs.ValueTestLemmas.{accepts-Accepts}
use Rattle.rt_args.specs.declared.command_line.LineFault.{LineFault}
use Rattle.rt_args.specs.declared.command_line.LineFault.TheVariants.{NoMemory, Usage}
use Rattle.rt_args.specs.CommandLine.{HasFile, HasSite, IsWhole, RefusesLine, fault_from, file_word, files_word, is_out_of_memory, path_option, peertext, run_command, site_option}
use Rattle.rt_args.proofs.Walks.{Keeps, found_all, is_full, level_sound, no_kinds, some_kind}

-- ---- the subcommands, as clap builds them

abbrev first_or : List Shape → Shape → Shape
first_or [] d = d
first_or (s ∷ ss) d = s

abbrev behind : List Shape → List Shape
behind [] = []
behind (s ∷ ss) = ss

abbrev run : Shape
run = first_or (built peertext).subs run_command.top

abbrev join : Shape
join = first_or (behind (built peertext).subs) run_command.top

abbrev show : Shape
show = first_or (behind (behind (built peertext).subs)) run_command.top

abbrev site : Rule
site = with_index 1 (filled site_option)

abbrev path : Text → Rule
path name = with_index 1 (filled (path_option name))

abbrev files : Rule
files = with_index 1 (filled files_word)

abbrev help : Rule
help = with_index 1 (filled help_rule)

abbrev file : ℕ → Text → Rule
file place name = with_index place (filled (file_word name))

-- ---- rows of which each has something

all_without : (Q : Row → Type 0) (id : Text) (rows : List Row) → AllByRecursion Q rows → AllByRecursion Q (without id rows)
all_without Q id [] all = tt
all_without Q id (r ∷ rs) all =
    elim (bytes_eq r.id id) as (λ t. AllByRecursion Q (cond t rs (r ∷ without id rs))) [ true ↦ all.1 | false ↦ (all.0, all_without Q id rs all.1) ]

-- a row keeps it with these values behind its own
abbrev Grows : (Row → Type 0) → List Text → Type 0
Grows Q values = (r : Row) → Q r → Q (record r { values = r.values ++ values; source = Some (stronger r.source CommandLine) })

-- the row of a first use
abbrev first_row : Text → Reading → List Text → Row
first_row id how values = record {
  id = id;
  values = values;
  count = None;
  source = Some CommandLine;
  reading = how;
}

all_with : (Q : Row → Type 0) (id : Text) (how : Reading) (values : List Text) (rows : List Row) → Grows Q values → Q (first_row id how values) → AllByRecursion Q rows
    → AllByRecursion Q (with_values id how CommandLine values rows)
all_with Q id how values [] grows first all = (first, tt)
all_with Q id how values (r ∷ rs) grows first all =
    elim (bytes_eq r.id id) as (λ t. AllByRecursion Q (cond t (more_values CommandLine values r ++ rs) (r ∷ with_values id how CommandLine values rs))) [
      | true ↦ (grows r all.0, all.1)
      | false ↦ (all.0, all_with Q id how values rs grows first all.1)
    ]

-- ---- one use of `--site`, of another option, of a file of a run, and of `--help`

abbrev IsNumber : Row → Type 0
IsNumber r = (text : Text) × (row_text r ≡ Some text) × (is_unsigned_in 1 GREATEST_SITE text ≡ true)

-- what `--site` was given is a number that it takes
abbrev IsSound : Row → Type 0
IsSound r = bytes_eq r.id (codes "site") ≡ true → IsNumber r

abbrev AreSound : List Row → Type 0
AreSound rows = AllByRecursion IsSound rows

first_stays : (how : Reading) (xs vs : List Text) (text : Text) → option_map (read_as how) (slice_get xs 0) ≡ Some text → option_map (read_as how) (slice_get (xs ++ vs) 0) ≡ Some text
first_stays how [] vs text e = absurd (true≢false (ap is_some (sym e)))
first_stays how (x ∷ xs) vs text e = e

sound_grows : (values : List Text) → Grows IsSound values
sound_grows values r sound same = (let number = sound same in (number.0, first_stays r.reading r.values values number.0 number.1, number.2))

accepted : (b : Bool) → cond b [] (ValueValidation ∷ []) ≡ [] → b ≡ true
accepted true e = refl
accepted false e = absurd (some_kind ValueValidation [] e)

site_accepted : (v : Text) (vs : List Text) (rows : List Row) → use_fault false site (v ∷ vs) rows ≡ [] → is_unsigned_in 1 GREATEST_SITE v ≡ true
site_accepted v vs rows e =
    let set = (no_kinds (range_kinds 1 1 (length (v ∷ vs))) (set_fault false site (v ∷ vs) rows) e).1 in
    let values = (no_kinds (repeat_fault false (codes "site") rows) (values_fault site (v ∷ vs)) set).1 in
    accepted (is_unsigned_in 1 GREATEST_SITE v) (no_kinds (value_kinds false (Unsigned 1 GREATEST_SITE) v) (values_fault site vs) values).0

site_keeps : Keeps AreSound false site
site_keeps [] rows all e = absurd (true≢false (ap is_full e))
site_keeps (v ∷ vs) rows all e =
    all_with IsSound (codes "site") (reading_by site) (v ∷ vs) (without (codes "site") rows) (sound_grows (v ∷ vs)) (λ same. (v, refl, site_accepted v vs rows e)) (all_without IsSound (codes "site") rows all)

path_keeps : (name : Text) → bytes_eq name (codes "site") ≡ false → Keeps AreSound false (path name)
path_keeps name other [] rows all e = absurd (true≢false (ap is_full e))
path_keeps name other (v ∷ vs) rows all e =
    all_with IsSound name (reading_by (path name)) (v ∷ vs) (without name rows) (sound_grows (v ∷ vs)) (λ same. absurd (true≢false (sym same ∙ other))) (all_without IsSound name rows all)

files_keeps : Keeps AreSound false files
files_keeps [] rows all e = absurd (true≢false (ap is_full e))
files_keeps (v ∷ vs) rows all e = all_with IsSound (codes "FILE") (reading_by files) (v ∷ vs) rows (sound_grows (v ∷ vs)) (λ same. absurd (true≢false (sym same))) all

help_used : (values : List Text) (rows : List Row) → use_fault false help values rows ≡ [] → ⊥
help_used values rows e = some_kind DisplayHelp [] (no_kinds (range_kinds 0 0 (length values)) (DisplayHelp ∷ []) e).1

help_keeps : (P : List Row → Type 0) → Keeps P false help
help_keeps P values rows sound e = absurd (help_used values rows e)

-- ---- one use of a file's name

-- each row has a value
abbrev IsFull : Row → Type 0
IsFull r = 0 < length r.values

abbrev AreFull : List Row → Type 0
AreFull rows = AllByRecursion IsFull rows

full_grows : (v : Text) (vs : List Text) → Grows IsFull (v ∷ vs)
full_grows v vs r full = let e = length-append r.values (v ∷ vs) in omega arith

file_keeps : (place : ℕ) (name : Text) → Keeps AreFull false (file place name)
file_keeps place name [] rows all e = absurd (true≢false (ap is_full e))
file_keeps place name (v ∷ vs) rows all e =
    all_with IsFull name (reading_by (file place name)) (v ∷ vs) (without name rows) (full_grows v vs) (omega arith) (all_without IsFull name rows all)

-- ---- the end of the words

same_rows : (b : Bool) (rows : List Row) → cond b rows rows ≡ rows
same_rows true rows = refl
same_rows false rows = refl

plain_default : (rows : List Row) (a : Rule) → a.defaults ≡ [] → with_default rows a ≡ rows
plain_default rows a none = ap (λ ds. cond (has_row a.id rows) rows (default_rows a.id (reading_by a) ds rows)) none ∙ same_rows (has_row a.id rows) rows

no_defaults : (rs : List Rule) → AllByRecursion (λ a. a.defaults ≡ []) rs → (rows : List Row) → fold with_default rows rs ≡ rows
no_defaults [] all rows = refl
no_defaults (a ∷ rs) all rows = ap (λ x. fold with_default x rs) (plain_default rows a all.0) ∙ no_defaults rs all.1 rows

first_there : (r : Row) → IsFull r → (text : Text) × (slice_get r.values 0 ≡ Some text)
first_there r full = go r.values full
  where
    go : (vs : List Text) → 0 < length vs → (text : Text) × (slice_get vs 0 ≡ Some text)
    go [] h = absurd (omega arith)
    go (v ∷ vs) h = (v, refl)

file_there : (id : Text) (rows : List Row) → AreFull rows → is_given id rows ≡ true → HasFile id rows
file_there id [] all e = absurd (true≢false (sym e))
file_there id (r ∷ rs) all e = go (bytes_eq r.id id) (file_there id rs all.1) e
  where
    go : (b : Bool) → (is_given id rs ≡ true → HasFile id rs) → option_map_or (λ x. explicit_source x.source) (cond b (Some r) (find (λ x. bytes_eq x.id id) rs)) false ≡ true
        → (text : Text) × (option_and_then (λ x. slice_get x.values 0) (cond b (Some r) (find (λ x. bytes_eq x.id id) rs)) ≡ Some text)
    go true more e = first_there r all.0
    go false more e = more e

one_given : (a : Bool) → cond (not a || false) (MissingRequiredArgument ∷ []) [] ≡ [] → a ≡ true
one_given true e = refl
one_given false e = absurd (some_kind MissingRequiredArgument [] e)

all_given : (a b c : Bool) → cond (not a || (not b || (not c || false))) (MissingRequiredArgument ∷ []) [] ≡ [] → (a ≡ true) × (b ≡ true) × (c ≡ true)
all_given true true true e = (refl, refl, refl)
all_given true true false e = absurd (some_kind MissingRequiredArgument [] e)
all_given true false c e = absurd (some_kind MissingRequiredArgument [] e)
all_given false b c e = absurd (some_kind MissingRequiredArgument [] e)

-- ---- what each subcommand is given

site_there : (rows : List Row) → AreSound rows → is_given (codes "site") rows ≡ true → HasSite rows
site_there [] all e = absurd (true≢false (sym e))
site_there (r ∷ rs) all e = go (bytes_eq r.id (codes "site")) refl (site_there rs all.1) e
  where
    go : (b : Bool) → bytes_eq r.id (codes "site") ≡ b → (is_given (codes "site") rs ≡ true → HasSite rs)
        → option_map_or (λ x. explicit_source x.source) (cond b (Some r) (find (λ x. bytes_eq x.id (codes "site")) rs)) false ≡ true
        → (text : Text) × (option_and_then row_text (cond b (Some r) (find (λ x. bytes_eq x.id (codes "site")) rs)) ≡ Some text) × (is_unsigned_in 1 GREATEST_SITE text ≡ true)
    go true same more e = all.0 same
    go false same more e = more e

run_given : (words : List Text) → level_fault run [] nothing_held words false [] ≡ [] → HasSite (rows_after run.rules [] words)
run_given words e =
    let ended = level_sound AreSound run (λ p. found_all (Keeps AreSound false) p run.rules
    (site_keeps, (path_keeps (codes "log") refl, (path_keeps (codes "out") refl, (files_keeps, (help_keeps AreSound, tt)))))) words tt e in
    let rows = rows_after run.rules [] words in
    let sound : AreSound rows = subst AreSound (sym (no_defaults run.rules (refl, (refl, (refl, (refl, (refl, tt))))) (settled run.rules (walk run.rules [] nothing_held words).held).rows)) ended.0 in
    site_there rows sound (one_given (is_given (codes "site") rows) ended.1)

join_given : (words : List Text) → level_fault join [] nothing_held words false [] ≡ []
    → HasFile (codes "A") (rows_after join.rules [] words) × HasFile (codes "B") (rows_after join.rules [] words) × HasFile (codes "OUT") (rows_after join.rules [] words)
join_given words e =
    let ended = level_sound AreFull join (λ p. found_all (Keeps AreFull false) p join.rules
    (file_keeps 1 (codes "A"), (file_keeps 2 (codes "B"), (file_keeps 3 (codes "OUT"), (help_keeps AreFull, tt))))) words tt e in
    let rows = rows_after join.rules [] words in
    let full : AreFull rows = subst AreFull (sym (no_defaults join.rules (refl, (refl, (refl, (refl, tt)))) (settled join.rules (walk join.rules [] nothing_held words).held).rows)) ended.0 in
    let given = all_given (is_given (codes "A") rows) (is_given (codes "B") rows) (is_given (codes "OUT") rows) ended.1 in
    (file_there (codes "A") rows full given.0, file_there (codes "B") rows full given.1, file_there (codes "OUT") rows full given.2)

show_given : (words : List Text) → level_fault show [] nothing_held words false [] ≡ [] → HasFile (codes "FILE") (rows_after show.rules [] words)
show_given words e =
    let ended = level_sound AreFull show (λ p. found_all (Keeps AreFull false) p show.rules (file_keeps 1 (codes "FILE"), (help_keeps AreFull, tt))) words tt e in
    let rows = rows_after show.rules [] words in
    let full : AreFull rows = subst AreFull (sym (no_defaults show.rules (refl, (refl, tt)) (settled show.rules (walk show.rules [] nothing_held words).held).rows)) ended.0 in
    file_there (codes "FILE") rows full (one_given (is_given (codes "FILE") rows) ended.1)

-- ---- the program

abbrev picked : Bool → Bool → Bool → Option Shape
picked a b c = cond a (Some run) (cond b (Some join) (cond c (Some show) None))

whole_named : (a b c : Bool) (words : List Text) → is_some (option_map (λ s. rows_at s words) (picked a b c)) ≡ true
    → option_map_or (λ s. level_fault s [] nothing_held words false []) (picked a b c) [] ≡ [] → IsWhole (option_map (λ s. rows_at s words) (picked a b c))
whole_named true b c words has e = (rows_after run.rules [] words, inl (refl, run_given words e))
whole_named false true c words has e = (rows_after join.rules [] words, (let given = join_given words e in inr (inl (refl, given.0, given.1, given.2))))
whole_named false false true words has e = (rows_after show.rules [] words, inr (inr (refl, show_given words e)))
whole_named false false false words has e = absurd (true≢false (sym has))

whole_entered : (stop : Option (Text × List Text)) → is_some (entered (built peertext) stop) ≡ true → entered_fault (built peertext) stop ≡ [] → IsWhole (entered (built peertext) stop)
whole_entered None has e = absurd (true≢false (sym has))
whole_entered (Some p) has e = whole_named (bytes_eq (codes "run") p.0 || false) (bytes_eq (codes "join") p.0 || false) (bytes_eq (codes "show") p.0 || false) p.1 has e

wants_subcommand : (rows : List Row) (has : Bool) → check_fault (built peertext).top rows has ≡ [] → has ≡ true
wants_subcommand rows true e = refl
wants_subcommand rows false e = absurd (true≢false (ap is_full e))

-- words that clap takes name a subcommand, with all that it wants
pub taken_words : (words : List Text) → fault_of peertext words ≡ [] → IsWhole (subcommand_of peertext words)
taken_words words e =
    let app = built peertext in
    let walked_over = walk app.top.rules (names_of app) nothing_held (drop 1 words) in
    let end = walked_over.held in
    let stop = walked_over.stopped in
    let has = is_some (entered app stop) in
    let below = entered_fault app stop in
    let last = check_fault app.top (finished app.top.rules end) has in
    let defaults = defaults_fault (settled app.top.rules end).rows app.top.rules in
    let settle = settle_fault app.top.rules false end in
    let a = no_kinds (walk_fault app.top (names_of app) (walk_from nothing_held) (drop 1 words)) (or_else below (or_else settle (or_else defaults last))) e in
    let b = no_kinds below (or_else settle (or_else defaults last)) a.1 in
    let c = no_kinds settle (or_else defaults last) b.1 in
    let d = no_kinds defaults last c.1 in
    whole_entered stop (wants_subcommand (finished app.top.rules end) has d.1) b.0

-- ---- the number

-- a text that `--site` takes reads as a number of a site
pub number_read : {E : Type 0} (G : List ℕ → Result ℕ E → Type 0) (text : List ℕ) (r : Option ℕ) → ReadsOne G text r
    → ((u : List ℕ) (x : Result ℕ E) → G u x → ParsesUnsigned 32 10 u x) → is_unsigned_in 1 GREATEST_SITE text ≡ true
    → (r ≡ Some (digits_value 10 (without_leading_plus text))) × (0 < digits_value 10 (without_leading_plus text))
number_read G text (Some n) reads parses is_in =
    let passed = accepts-Accepts false (Unsigned 1 GREATEST_SITE) text is_in in
    (ap Some (parses text (Ok n) reads).1, omega arith)
number_read G text None reads parses is_in =
    let passed = accepts-Accepts false (Unsigned 1 GREATEST_SITE) text is_in in
    let small : digits_value 10 (without_leading_plus text) < 2 ^ 32 = omega arith in
    absurd (parses text (Err reads.0) reads.1 (passed.0, small))

-- ---- refusals

refuses_from : (words : List Text) (error : Error) → HasKind (fault_of peertext words) error → RefusesLine words (fault_from error)
refuses_from words error has = go (is_out_of_memory (kind_of error)) refl
  where
    go : (b : Bool) → is_out_of_memory (kind_of error) ≡ b → RefusesLine words (cond b NoMemory (Usage error))
    go true is = tt
    go false is = elim has [
      | inl memory ↦ absurd (true≢false (sym (ap is_out_of_memory memory) ∙ is))
      | inr among ↦ among
    ]

-- clap's error as a fault of the line
pub refused_by : {T : Type 0} (words : List Text) (r : Result T LineFault) (error : Error) → IsErrAnd r (λ fault. fault ≡ fault_from error)
    → HasKind (fault_of peertext words) error → IfErr r (RefusesLine words)
refused_by words (Ok x) error is has = tt
refused_by words (Err fault) error is has = subst (RefusesLine words) (sym is) (refuses_from words error has)
