-- Options that are set one after the other, limits among them.
use Rattle.std.proofs.Common.{◌≡◌, ◌∙◌, ℕ, ◌%◌, ◌==◌, ◌<◌, ◌&&◌, Bool, true, false, List, [], ◌∷◌, Option, None, Some, ap, arith, bytes_eq, codes, cond, is_some, length, map, refl, subst}
use Rattle.std.specs.Option.{option_or}
use Rattle.std.specs.Prelude.{option_map, unwrap_or}
use Rattle.std.proofs.lemmas.Slice.Eq.{bytes_eq-Decides}
use Rattle.rt_stamps.specs.Words.{Word}
use Rattle.rt_requests.specs.declared.options.WidgetOption.{WidgetOption}
use Rattle.rt_requests.specs.declared.options.WidgetOption.TheVariants.{Undo, AutoSeparators}
use Rattle.rt_requests.specs.OptionWords.{are_pairs, max_undo_in, option_of, option_word, truth_given}
use Rattle.rt_requests.specs.Truth.{truth_of}
use Rattle.rt_requests.specs.declared.limits.Limit.{Limit}
use Rattle.rt_requests.specs.declared.options.NamedOption.{NamedOption}
use Rattle.rt_requests.specs.declared.options.NamedOption.TheVariants.{Shared, MaxUndo, StartLine, EndLine}
use Rattle.rt_requests.specs.declared.settings.WidgetSettings.{WidgetSettings}
use Rattle.rt_requests.specs.LimitWords.{limit_of}
use Rattle.rt_requests.specs.MaxUndoWords.{max_undo_of}
use Rattle.rt_requests.specs.SettingWords.{can_all_be_set, can_be_given, can_have, limit_in, named_option, settings_in, with_value}

-- pairs are an even number of words
pub even_pairs : {T : Type 0} (f : T → Word) (words : List T) → (length words % 2 == 0) ≡ are_pairs (map f words)
even_pairs f [] = refl
even_pairs f (option ∷ []) = refl
even_pairs f (option ∷ value ∷ words) =
    let two_more : length (option ∷ value ∷ words) % 2 ≡ length words % 2 = omega arith in
    ap (λ n. n == 0) two_more ∙ even_pairs f words

pub or_none : {T : Type 0} (o : Option T) → option_or o None ≡ o
or_none None = refl
or_none (Some x) = refl

or_some : {T : Type 0} (o : Option T) (x : T) (rest : Option T) → option_or (option_or o (Some x)) rest ≡ option_or o (Some x)
or_some None x rest = refl
or_some (Some y) x rest = refl

-- words set what they set behind those that were read, and else what those set
pub record AreRead (words left : List Word) (settings : WidgetSettings) : Type 0 where
  pub sound : can_all_be_set words ≡ can_all_be_set left
  pub undo : truth_given Undo words ≡ option_or (truth_given Undo left) settings.shared.undo
  pub separators : truth_given AutoSeparators words ≡ option_or (truth_given AutoSeparators left) settings.shared.auto_separators
  pub most : max_undo_in words ≡ option_or (max_undo_in left) settings.shared.max_undo
  pub start : limit_in (codes "-startline") words ≡ option_or (limit_in (codes "-startline") left) settings.start_line
  pub ends : limit_in (codes "-endline") words ≡ option_or (limit_in (codes "-endline") left) settings.end_line

-- NAMES

-- an option as it is written
abbrev pub named_word : NamedOption → Word
named_word (Shared option) = option_word option
named_word MaxUndo = codes "-maxundo"
named_word StartLine = codes "-startline"
named_word EndLine = codes "-endline"

same : (word name : Word) → bytes_eq word name ≡ true → word ≡ name
same word name = (bytes_eq-Decides word name).0

abbrev shared_by : Bool → Bool → Option WidgetOption
shared_by undo separators = cond undo (Some Undo) (cond separators (Some AutoSeparators) None)

shared_word : (word : Word) (option : WidgetOption) (undo separators : Bool) → bytes_eq word (codes "-undo") ≡ undo
    → bytes_eq word (codes "-autoseparators") ≡ separators → shared_by undo separators ≡ Some option → word ≡ option_word option
shared_word word Undo true separators u s e = same word (codes "-undo") u
shared_word word AutoSeparators true separators u s e = absurd (cc)
shared_word word Undo false true u s e = absurd (cc)
shared_word word AutoSeparators false true u s e = same word (codes "-autoseparators") s
shared_word word option false false u s e = absurd (cc)

is_shared_word : (word : Word) (option : WidgetOption) → option_of word ≡ Some option → word ≡ option_word option
is_shared_word word option e = shared_word word option (bytes_eq word (codes "-undo")) (bytes_eq word (codes "-autoseparators")) refl refl e

abbrev named_by : Bool → Bool → Bool → Option WidgetOption → Option NamedOption
named_by start ends most shared = cond start (Some StartLine) (cond ends (Some EndLine) (cond most (Some MaxUndo) (option_map Shared shared)))

word_by : (word : Word) (option : NamedOption) (start ends most : Bool) (shared : Option WidgetOption) → bytes_eq word (codes "-startline") ≡ start
    → bytes_eq word (codes "-endline") ≡ ends → bytes_eq word (codes "-maxundo") ≡ most → option_of word ≡ shared
    → named_by start ends most shared ≡ Some option → word ≡ named_word option
word_by word option true ends most shared s n m o e =
    let q : StartLine ≡ option = cc in subst (λ (v : NamedOption). word ≡ named_word v) q (same word (codes "-startline") s)
word_by word option false true most shared s n m o e =
    let q : EndLine ≡ option = cc in subst (λ (v : NamedOption). word ≡ named_word v) q (same word (codes "-endline") n)
word_by word option false false true shared s n m o e =
    let q : MaxUndo ≡ option = cc in subst (λ (v : NamedOption). word ≡ named_word v) q (same word (codes "-maxundo") m)
word_by word option false false false None s n m o e = absurd (cc)
word_by word option false false false (Some shared) s n m o e =
    let q : Shared shared ≡ option = cc in subst (λ (v : NamedOption). word ≡ named_word v) q (is_shared_word word shared o)

-- a word that names an option is that option's
pub is_named_word : (word : Word) (option : NamedOption) → named_option word ≡ Some option → word ≡ named_word option
is_named_word word option e =
    word_by word option (bytes_eq word (codes "-startline")) (bytes_eq word (codes "-endline")) (bytes_eq word (codes "-maxundo")) (option_of word)
    refl refl refl refl e

-- ONE MORE

undo_read : (words left : List Word) (value : Word) (settings next : WidgetSettings) (truth : Option Bool) → truth_of value ≡ truth
    → option_map (λ truth. record settings { shared = record settings.shared { undo = Some truth } }) truth ≡ Some next
    → AreRead words (codes "-undo" ∷ value ∷ left) settings → AreRead words left next
undo_read words left value settings next None t e r = absurd (cc)
undo_read words left value settings next (Some truth) t e r =
    let q : record settings { shared = record settings.shared { undo = Some truth } } ≡ next = cc in subst (AreRead words left) q (record {
      sound = r.sound ∙ rw t refl;
      undo = r.undo ∙ rw t (or_some (truth_given Undo left) truth settings.shared.undo);
      separators = r.separators ∙ ap (λ v. option_or v settings.shared.auto_separators) (or_none (truth_given AutoSeparators left));
      most = r.most ∙ ap (λ v. option_or v settings.shared.max_undo) (or_none (max_undo_in left));
      start = r.start ∙ ap (λ v. option_or v settings.start_line) (or_none (limit_in (codes "-startline") left));
      ends = r.ends ∙ ap (λ v. option_or v settings.end_line) (or_none (limit_in (codes "-endline") left));
    })

separators_read : (words left : List Word) (value : Word) (settings next : WidgetSettings) (truth : Option Bool) → truth_of value ≡ truth
    → option_map (λ truth. record settings { shared = record settings.shared { auto_separators = Some truth } }) truth ≡ Some next
    → AreRead words (codes "-autoseparators" ∷ value ∷ left) settings → AreRead words left next
separators_read words left value settings next None t e r = absurd (cc)
separators_read words left value settings next (Some truth) t e r =
    let q : record settings { shared = record settings.shared { auto_separators = Some truth } } ≡ next = cc in subst (AreRead words left) q (record {
      sound = r.sound ∙ rw t refl;
      undo = r.undo ∙ ap (λ v. option_or v settings.shared.undo) (or_none (truth_given Undo left));
      separators = r.separators ∙ rw t (or_some (truth_given AutoSeparators left) truth settings.shared.auto_separators);
      most = r.most ∙ ap (λ v. option_or v settings.shared.max_undo) (or_none (max_undo_in left));
      start = r.start ∙ ap (λ v. option_or v settings.start_line) (or_none (limit_in (codes "-startline") left));
      ends = r.ends ∙ ap (λ v. option_or v settings.end_line) (or_none (limit_in (codes "-endline") left));
    })

most_read : (words left : List Word) (value : Word) (settings next : WidgetSettings) (most : Option ℕ) → max_undo_of value ≡ most
    → option_map (λ most. record settings { shared = record settings.shared { max_undo = Some most } }) most ≡ Some next
    → AreRead words (codes "-maxundo" ∷ value ∷ left) settings → AreRead words left next
most_read words left value settings next None t e r = absurd (cc)
most_read words left value settings next (Some most) t e r =
    let q : record settings { shared = record settings.shared { max_undo = Some most } } ≡ next = cc in subst (AreRead words left) q (record {
      sound = r.sound ∙ rw t refl;
      undo = r.undo ∙ ap (λ v. option_or v settings.shared.undo) (or_none (truth_given Undo left));
      separators = r.separators ∙ ap (λ v. option_or v settings.shared.auto_separators) (or_none (truth_given AutoSeparators left));
      most = r.most ∙ rw t (or_some (max_undo_in left) most settings.shared.max_undo);
      start = r.start ∙ ap (λ v. option_or v settings.start_line) (or_none (limit_in (codes "-startline") left));
      ends = r.ends ∙ ap (λ v. option_or v settings.end_line) (or_none (limit_in (codes "-endline") left));
    })

start_read : (words left : List Word) (value : Word) (settings next : WidgetSettings) (limit : Option Limit) → limit_of value ≡ limit
    → option_map (λ limit. record settings { start_line = Some limit }) limit ≡ Some next
    → AreRead words (codes "-startline" ∷ value ∷ left) settings → AreRead words left next
start_read words left value settings next None t e r = absurd (cc)
start_read words left value settings next (Some limit) t e r =
    let q : record settings { start_line = Some limit } ≡ next = cc in subst (AreRead words left) q (record {
      sound = r.sound ∙ rw t refl;
      undo = r.undo ∙ ap (λ v. option_or v settings.shared.undo) (or_none (truth_given Undo left));
      separators = r.separators ∙ ap (λ v. option_or v settings.shared.auto_separators) (or_none (truth_given AutoSeparators left));
      most = r.most ∙ ap (λ v. option_or v settings.shared.max_undo) (or_none (max_undo_in left));
      start = r.start ∙ rw t (or_some (limit_in (codes "-startline") left) limit settings.start_line);
      ends = r.ends ∙ ap (λ v. option_or v settings.end_line) (or_none (limit_in (codes "-endline") left));
    })

end_read : (words left : List Word) (value : Word) (settings next : WidgetSettings) (limit : Option Limit) → limit_of value ≡ limit
    → option_map (λ limit. record settings { end_line = Some limit }) limit ≡ Some next
    → AreRead words (codes "-endline" ∷ value ∷ left) settings → AreRead words left next
end_read words left value settings next None t e r = absurd (cc)
end_read words left value settings next (Some limit) t e r =
    let q : record settings { end_line = Some limit } ≡ next = cc in subst (AreRead words left) q (record {
      sound = r.sound ∙ rw t refl;
      undo = r.undo ∙ ap (λ v. option_or v settings.shared.undo) (or_none (truth_given Undo left));
      separators = r.separators ∙ ap (λ v. option_or v settings.shared.auto_separators) (or_none (truth_given AutoSeparators left));
      most = r.most ∙ ap (λ v. option_or v settings.shared.max_undo) (or_none (max_undo_in left));
      start = r.start ∙ ap (λ v. option_or v settings.start_line) (or_none (limit_in (codes "-startline") left));
      ends = r.ends ∙ rw t (or_some (limit_in (codes "-endline") left) limit settings.end_line);
    })

option_read : (words left : List Word) (option : NamedOption) (value : Word) (settings next : WidgetSettings) → with_value settings option value ≡ Some next
    → AreRead words (named_word option ∷ value ∷ left) settings → AreRead words left next
option_read words left (Shared Undo) value settings next e r = undo_read words left value settings next (truth_of value) refl e r
option_read words left (Shared AutoSeparators) value settings next e r = separators_read words left value settings next (truth_of value) refl e r
option_read words left MaxUndo value settings next e r = most_read words left value settings next (max_undo_of value) refl e r
option_read words left StartLine value settings next e r = start_read words left value settings next (limit_of value) refl e r
option_read words left EndLine value settings next e r = end_read words left value settings next (limit_of value) refl e r

pub one_more : (words left : List Word) (word value : Word) (option : NamedOption) (settings next : WidgetSettings) → named_option word ≡ Some option
    → with_value settings option value ≡ Some next → AreRead words (word ∷ value ∷ left) settings → AreRead words left next
one_more words left word value option settings next n e r =
    option_read words left option value settings next e (subst (λ (v : Word). AreRead words (v ∷ value ∷ left) settings) (is_named_word word option n) r)

-- VALUES THAT AN OPTION CAN'T HAVE

not_mapped : {T S : Type 0} (f : T → S) (o : Option T) → option_map f o ≡ None → is_some o ≡ false
not_mapped f None e = refl
not_mapped f (Some x) e = absurd (cc)

not_had : (settings : WidgetSettings) (option : NamedOption) (value : Word) → with_value settings option value ≡ None → can_have value option ≡ false
not_had settings (Shared Undo) value e = not_mapped _ (truth_of value) e
not_had settings (Shared AutoSeparators) value e = not_mapped _ (truth_of value) e
not_had settings MaxUndo value e = not_mapped _ (max_undo_of value) e
not_had settings StartLine value e = not_mapped _ (limit_of value) e
not_had settings EndLine value e = not_mapped _ (limit_of value) e

-- where an option can't have its value nothing is set
pub none_set : (words left : List Word) (word value : Word) (option : NamedOption) (settings : WidgetSettings) → named_option word ≡ Some option
    → with_value settings option value ≡ None → AreRead words (word ∷ value ∷ left) settings
    → None ≡ cond (can_all_be_set words) (Some (settings_in words)) None
none_set words left word value option settings n e r =
    let given : can_be_given word value ≡ false = ap (λ o. unwrap_or (option_map (can_have value) o) false) n ∙ not_had settings option value e in
    let unsound : can_all_be_set words ≡ false = r.sound ∙ ap (λ b. b && can_all_be_set left) given in
    rw unsound refl

-- THE END

-- less than a pair is left, which sets nothing
pub all_read : {T : Type 0} (f : T → Word) (words : List Word) (left : List T) (settings : WidgetSettings) → length left < 2
    → AreRead words (map f left) settings
    → Some settings ≡ cond (can_all_be_set words) (Some (settings_in words)) None
all_read f words [] settings h r = rw (r.sound, r.undo, r.separators, r.most, r.start, r.ends) refl
all_read f words (word ∷ []) settings h r = rw (r.sound, r.undo, r.separators, r.most, r.start, r.ends) refl
all_read f words (word ∷ value ∷ left) settings h r = absurd (omega arith)
