-- Words that name no limit.
use Rattle.std.proofs.Common.{◌≡◌, ◌∙◌, ◌||◌, Bool, true, false, not, List, [], ◌∷◌, Ok, Err, None, ap, bytes_eq, codes, cond, refl, sym}
use Rattle.rt_stamps.specs.declared.fault.Fault.TheVariants.{BadCommand, BadOption}
use Rattle.rt_stamps.specs.Words.{Word}
use Rattle.rt_requests.specs.declared.settings.WidgetSettings.{WidgetSettings}
use Rattle.rt_requests.specs.OptionWords.{are_pairs}
use Rattle.rt_requests.specs.SettingWords.{AskedOfSettings, LimitsAreNamed, can_all_be_set, limit_in, names_limit, settings_in}

both_false : (a b : Bool) → (a || b) ≡ false → (a ≡ false) × (b ≡ false)
both_false true b h = absurd (cc)
both_false false b h = (refl, h)

-- the words of a pair, and those behind it
record NoLimit (word : Word) (words : List Word) : Type 0 where
  pub no_start : bytes_eq word (codes "-startline") ≡ false
  pub no_end : bytes_eq word (codes "-endline") ≡ false
  pub others : names_limit words ≡ false

no_limit : (word value : Word) (words : List Word) → names_limit (word ∷ value ∷ words) ≡ false → NoLimit word words
no_limit word value words h =
    let all = both_false (bytes_eq word (codes "-startline") || bytes_eq word (codes "-endline")) (names_limit words) h in
    let named = both_false (bytes_eq word (codes "-startline")) (bytes_eq word (codes "-endline")) all.0 in
    record { no_start = named.0; no_end = named.1; others = all.1 }

no_start_in : (words : List Word) → names_limit words ≡ false → limit_in (codes "-startline") words ≡ None
no_start_in [] h = refl
no_start_in (word ∷ []) h = refl
no_start_in (word ∷ value ∷ words) h = let n = no_limit word value words h in rw (n.no_start, no_start_in words n.others) refl

no_end_in : (words : List Word) → names_limit words ≡ false → limit_in (codes "-endline") words ≡ None
no_end_in [] h = refl
no_end_in (word ∷ []) h = refl
no_end_in (word ∷ value ∷ words) h = let n = no_limit word value words h in rw (n.no_end, no_end_in words n.others) refl

abbrev settings_or : WidgetSettings → AskedOfSettings → WidgetSettings
settings_or none (Ok settings) = settings
settings_or none (Err fault) = none

-- where settings were asked for, they are what the pairs set
asked_is : (pairs sound : Bool) (said settings : WidgetSettings) → cond (not pairs) (Err BadCommand) (cond sound (Ok said) (Err BadOption)) ≡ Ok settings → said ≡ settings
asked_is true true said settings h = ap (settings_or said) h
asked_is true false said settings h = absurd (cc h)
asked_is false sound said settings h = absurd (cc h)

pub none_named : LimitsAreNamed
none_named [] settings n h = absurd (cc h)
none_named (option ∷ words) settings n h =
    let said = asked_is (are_pairs (option ∷ words)) (can_all_be_set (option ∷ words)) (settings_in (option ∷ words)) settings h in
    (sym (ap (λ s. s.start_line) said) ∙ no_start_in (option ∷ words) n, sym (ap (λ s. s.end_line) said) ∙ no_end_in (option ∷ words) n)
