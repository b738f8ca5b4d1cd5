-- What holds of the rows while clap walks over the words of a subcommand, where each use of an argument keeps it.
use Rattle.std.proofs.Common.{◌≡◌, ◌&&◌, ℕ, zero, suc, Bool, cond, true, false, not, refl, sym, ap, subst, List, [], ◌∷◌, length, drop, Option, Some, None, is_some, true≢false}
use Rattle.std.specs.List.{fold, AllByRecursion}
use Rattle.std.specs.Option.{option_map_or}
use Rattle.std.specs.Prelude.{IfSome, encode_utf8, find, slice_get}
use Rattle.std.specs.Str.{bytes_eq, chars}
use Rattle.clap.specs.Faults.{bundle_step_fault, check_fault, defaults_fault, flag_word_fault, flags_fault, level_fault, long_fault, option_fault, positional_fault, react_fault, settle_fault, short_fault, step_fault, stray_fault, turn_fault, use_fault, walk_fault, word_fault}
use Rattle.clap.specs.Kinds.{Kinds, or_else}
use Rattle.clap.specs.Lexer.{long_of, short_of}
use Rattle.clap.specs.Simple.{Shape}
use Rattle.clap.specs.Walk.{Held, Outcome, Row, Rule, Step, Text, Waiting, Walk, after_flag, after_step, arg_by_id, arg_by_index, arg_by_long, arg_by_short, attached_value, bundle_met, bundle_step, done, finished, flag_met, has_long, has_short, idle, is_pending, long_met, long_or_other, next, nothing_held, option, option_met, option_word, plain, plain_word, positional, reacted, refused, settled, settled_rows, short_met, short_or_plain, subcommand, takes_several, takes_values, to_positional, trailing, used, used_by_id, value, waits, walk, walk_from, walked, walked_from, word_met}
use Rattle.clap.specs.declared.error.ErrorKind.{ErrorKind}
use Rattle.clap.specs.declared.error.ErrorKind.TheVariants.{TooManyValues}

-- ---- kinds

abbrev pub is_full : Kinds → Bool
is_full [] = false
is_full (k ∷ ks) = true

pub some_kind : (k : ErrorKind) (ks : Kinds) → k ∷ ks ≡ [] → ⊥
some_kind k ks e = true≢false (ap is_full e)

pub no_kinds : (a b : Kinds) → or_else a b ≡ [] → (a ≡ []) × (b ≡ [])
no_kinds [] b e = (refl, e)
no_kinds (k ∷ ks) b e = absurd (some_kind k ks e)

-- ---- rules

-- what is found among rules has what all of them have
pub found_all : (Q : Rule → Type 0) (p : Rule → Bool) (rs : List Rule) → AllByRecursion Q rs → IfSome (find p rs) Q
found_all Q p [] all = tt
found_all Q p (r ∷ rs) all = elim (p r) as (λ t. IfSome (cond t (Some r) (find p rs)) Q) [ true ↦ all.0 | false ↦ found_all Q p rs all.1 ]

-- a use of the argument, where it does not fail, keeps what holds of the rows
abbrev pub Keeps : (List Row → Type 0) → Bool → Rule → Type 0
Keeps P again a = (values : List Text) (rows : List Row) → P rows → use_fault again a values rows ≡ [] → P (used a values rows)

module _ (P : List Row → Type 0) (s : Shape) (keeps : (p : Rule → Bool) → IfSome (find p s.rules) (Keeps P s.args_override_self)) where
  -- ---- one use

  uses : (o : Option Rule) → IfSome o (Keeps P s.args_override_self) → (values : List Text) (rows : List Row) → P rows
      → option_map_or (λ r. use_fault s.args_override_self r values rows) o [] ≡ [] → P (used_by_id o values rows)
  uses None k values rows sound e = sound
  uses (Some a) k values rows sound e = k values rows sound e

  settles : (p : Option (Text × List Text)) (rows : List Row) → P rows
      → option_map_or (λ q. option_map_or (λ r. use_fault s.args_override_self r q.1 rows) (arg_by_id s.rules q.0) []) p [] ≡ [] → P (settled_rows s.rules p rows)
  settles None rows sound e = sound
  settles (Some q) rows sound e = uses (arg_by_id s.rules q.0) (keeps (λ a. bytes_eq a.id q.0)) q.1 rows sound e

  reacts : (a : Rule) → Keeps P s.args_override_self a → (values : List Text) (h : Held) → P h.rows → react_fault s.rules s.args_override_self a values h ≡ [] → P (reacted s.rules a values h).rows
  reacts a k values h sound e =
      let parts = no_kinds (settle_fault s.rules s.args_override_self h) (use_fault s.args_override_self a values (settled s.rules h).rows) e in
      k values (settled s.rules h).rows (settles h.pending h.rows sound parts.0) parts.1

  option_keeps : (a : Rule) → Keeps P s.args_override_self a → (v : Option Text) (h : Held) → P h.rows → option_fault s.rules s.args_override_self a v h ≡ [] → P (option_met s.rules a v h).0.rows
  option_keeps a k (Some v) h sound e = reacts a k (v ∷ []) h sound e
  option_keeps a k None h sound e = settles h.pending h.rows sound e

  flag_keeps : (a : Rule) → Keeps P s.args_override_self a → (v : Option Text) (h : Held) → P h.rows
      → cond (is_some v) (TooManyValues ∷ []) (react_fault s.rules s.args_override_self a [] h) ≡ [] → P (flag_met s.rules a v h).0.rows
  flag_keeps a k (Some v) h sound e = sound
  flag_keeps a k None h sound e = reacts a k [] h sound e

  -- ---- one word

  long_by : (b : Bool) (a : Rule) → Keeps P s.args_override_self a → (v : Option Text) (h : Held) → P h.rows
      → cond b (option_fault s.rules s.args_override_self a v h) (cond (is_some v) (TooManyValues ∷ []) (react_fault s.rules s.args_override_self a [] h)) ≡ []
      → P (cond b (option_met s.rules a v h) (flag_met s.rules a v h)).0.rows
  long_by true a k v h sound e = option_keeps a k v h sound e
  long_by false a k v h sound e = flag_keeps a k v h sound e

  long_keeps : (o : Option Rule) → IfSome o (Keeps P s.args_override_self) → (v : Option Text) (h : Held) → P h.rows → long_fault s.rules s.args_override_self o v h ≡ [] → P (long_met s.rules o v h).0.rows
  long_keeps None k v h sound e = sound
  long_keeps (Some a) k v h sound e = long_by (takes_values a) a k v h sound e

  short_by : (b : Bool) (a : Rule) → Keeps P s.args_override_self a → (rest : Text) (h : Held) → P h.rows → (fault : Held → Kinds) (more : Held → Held × Outcome)
      → ((g : Held) → P g.rows → fault g ≡ [] → P (more g).0.rows)
      → cond b (option_fault s.rules s.args_override_self a (attached_value rest) h) (or_else (react_fault s.rules s.args_override_self a [] h) (fault (reacted s.rules a [] h))) ≡ []
      → P (cond b (option_met s.rules a (attached_value rest) h) (more (reacted s.rules a [] h))).0.rows
  short_by true a k rest h sound fault more goes e = option_keeps a k (attached_value rest) h sound e
  short_by false a k rest h sound fault more goes e =
      let parts = no_kinds (react_fault s.rules s.args_override_self a [] h) (fault (reacted s.rules a [] h)) e in
      goes (reacted s.rules a [] h) (reacts a k [] h sound parts.0) parts.1

  short_keeps : (o : Option Rule) → IfSome o (Keeps P s.args_override_self) → (rest : Text) (h : Held) → P h.rows → (fault : Held → Kinds) (more : Held → Held × Outcome)
      → ((g : Held) → P g.rows → fault g ≡ [] → P (more g).0.rows) → short_fault s.rules s.args_override_self o rest h fault ≡ [] → P (short_met s.rules o rest h more).0.rows
  short_keeps None k rest h sound fault more goes e = sound
  short_keeps (Some a) k rest h sound fault more goes e = short_by (takes_values a) a k rest h sound fault more goes e

  bundle_step_keeps : (o : Option ℕ) (k : ℕ) (flags : Text) (skip : ℕ) (so_far : Outcome) (h : Held) → P h.rows
      → ((rest : Text) (less : ℕ) (so : Outcome) (g : Held) → P g.rows → flags_fault s.rules s.args_override_self k rest less g ≡ [] → P (bundle_met s.rules k rest less so g).0.rows)
      → bundle_step_fault s.rules s.args_override_self o flags skip h (flags_fault s.rules s.args_override_self k) ≡ []
      → P (bundle_step s.rules o flags skip so_far h (bundle_met s.rules k)).0.rows
  bundle_step_keeps None k flags skip so_far h sound goes e = sound
  bundle_step_keeps (Some x) k flags zero so_far h sound goes e =
      let rest = drop (length (encode_utf8 x)) flags in
      short_keeps (arg_by_short s.rules x) (keeps (λ a. not (is_some a.index) && has_short a x)) rest h sound (flags_fault s.rules s.args_override_self k rest 0) (bundle_met s.rules k rest 0 done)
      (λ g held f. goes rest 0 done g held f) e
  bundle_step_keeps (Some x) k flags (suc less) so_far h sound goes e = goes (drop (length (encode_utf8 x)) flags) less so_far h sound e

  bundle_keeps : (k : ℕ) (flags : Text) (skip : ℕ) (so_far : Outcome) (h : Held) → P h.rows → flags_fault s.rules s.args_override_self k flags skip h ≡ [] → P (bundle_met s.rules k flags skip so_far h).0.rows
  unfolding flags_fault bundle_met
  bundle_keeps zero flags skip so_far h sound e = sound
  bundle_keeps (suc k) flags skip so_far h sound e =
      bundle_step_keeps (slice_get (chars flags) 0) k flags skip so_far h sound (λ rest less so g held f. bundle_keeps k rest less so g held f) e

  option_rows : (o : Option Rule) (id word : Text) (h : Held) → (option_word o id word h).0.rows ≡ h.rows
  option_rows None id word h = refl
  option_rows (Some a) id word h = refl

  plain_rows : (waiting : Waiting) (word : Text) (h : Held) → (plain_word s.rules waiting word h).0.rows ≡ h.rows
  plain_rows idle word h = refl
  plain_rows (option id) word h = option_rows (arg_by_id s.rules id) id word h
  plain_rows positional word h = refl

  flag_rows : (waiting : Waiting) (word : Text) (h : Held) (o : Outcome) → (after_flag s.rules waiting word h o).0.rows ≡ h.rows
  flag_rows waiting word h done = refl
  flag_rows waiting word h (waits id) = refl
  flag_rows waiting word h plain = plain_rows waiting word h
  flag_rows waiting word h refused = plain_rows waiting word h

  short_sound : (o : Option Text) (waiting : Waiting) (word : Text) (h : Held) → P h.rows
      → option_map_or (λ flags. flags_fault s.rules s.args_override_self (length flags) flags h.skip (record h { skip = 0 })) o [] ≡ []
      → P (short_or_plain s.rules waiting word o h).0.rows
  short_sound None waiting word h sound e = subst P (sym (plain_rows waiting word h)) sound
  short_sound (Some flags) waiting word h sound e =
      let met = bundle_met s.rules (length flags) flags h.skip plain (record h { skip = 0 }) in
      subst P (sym (flag_rows waiting word met.0 met.1)) (bundle_keeps (length flags) flags h.skip plain (record h { skip = 0 }) sound e)

  flag_sound : (p : Option (Text × Option Text)) (waiting : Waiting) (word : Text) (h : Held) → P h.rows
      → flag_word_fault s.rules s.args_override_self p word h ≡ [] → P (long_or_other s.rules waiting word p h).0.rows
  flag_sound None waiting word h sound e = short_sound (short_of word) waiting word h sound e
  flag_sound (Some p) waiting word h sound e =
      let met = long_met s.rules (arg_by_long s.rules p.0) p.1 h in
      subst P (sym (flag_rows waiting word met.0 met.1)) (long_keeps (arg_by_long s.rules p.0) (keeps (λ a. not (is_some a.index) && has_long a p.0)) p.1 h sound e)

  dash_sound : (b : Bool) (waiting : Waiting) (position : ℕ) (word : Text) (h : Held) → P h.rows
      → cond b [] (flag_word_fault s.rules s.args_override_self (long_of word) word h) ≡ []
      → P (cond b (h, trailing position) (long_or_other s.rules waiting word (long_of word) h)).0.rows
  dash_sound true waiting position word h sound e = sound
  dash_sound false waiting position word h sound e = flag_sound (long_of word) waiting word h sound e

  word_sound : (is_trailing : Bool) (waiting : Waiting) (position : ℕ) (word : Text) (h : Held) → P h.rows
      → word_fault s [] is_trailing waiting word h ≡ [] → P (word_met s.rules [] is_trailing waiting position word h).0.rows
  word_sound true waiting position word h sound e = sound
  word_sound false idle position word h sound e = dash_sound (bytes_eq word (45 ∷ 45 ∷ [])) idle position word h sound e
  word_sound false (option id) position word h sound e = dash_sound (bytes_eq word (45 ∷ 45 ∷ [])) (option id) position word h sound e
  word_sound false positional position word h sound e = dash_sound (bytes_eq word (45 ∷ 45 ∷ [])) positional position word h sound e

  -- ---- a word that goes to a positional

  held_by : (b : Bool) (h : Held) → P h.rows → cond b [] (settle_fault s.rules s.args_override_self h) ≡ [] → P (cond b h (settled s.rules h)).rows
  held_by true h sound e = sound
  held_by false h sound e = settles h.pending h.rows sound e

  positional_sound : (o : Option Rule) (word : Text) (w : Walk) (h : Held) → P h.rows
      → option_map_or (λ a. positional_fault s.rules s.args_override_self a h) o (stray_fault s) ≡ [] → P (to_positional s.rules o word w h).held.rows
  positional_sound None word w h sound e = sound
  positional_sound (Some a) word w h sound e = held_by (is_pending a h.pending && takes_several a) h sound e

  step_sound : (word : Text) (w : Walk) (h : Held) (step : Step) → P h.rows → step_fault s w.position h step ≡ [] → P (after_step s.rules word w h step).held.rows
  step_sound word w h (next waiting) sound e = sound
  step_sound word w h (trailing position) sound e = sound
  step_sound word w h (subcommand name) sound e = sound
  step_sound word w h value sound e = positional_sound (arg_by_index s.rules w.position) word w h sound e

  -- ---- the words

  turn_from : (o : Option (Text × List Text)) (w : Walk) (word : Text) → P w.held.rows
      → (let met = word_met s.rules [] w.is_trailing w.waiting w.position word w.held in
      cond (is_some o) [] (or_else (word_fault s [] w.is_trailing w.waiting word w.held) (step_fault s w.position met.0 met.1))) ≡ []
      → P (walked_from s.rules [] o w word).held.rows
  turn_from (Some p) w word sound e = sound
  turn_from None w word sound e =
      let met = word_met s.rules [] w.is_trailing w.waiting w.position word w.held in
      let parts = no_kinds (word_fault s [] w.is_trailing w.waiting word w.held) (step_fault s w.position met.0 met.1) e in
      step_sound word w met.0 met.1 (word_sound w.is_trailing w.waiting w.position word w.held sound parts.0) parts.1

  turn_sound : (w : Walk) (word : Text) → P w.held.rows → turn_fault s [] w word ≡ [] → P (walked s.rules [] w word).held.rows
  unfolding walked
  turn_sound w word sound e = turn_from w.stopped w word sound e

  walk_sound : (words : List Text) (w : Walk) → P w.held.rows → walk_fault s [] w words ≡ [] → P (fold (walked s.rules []) w words).held.rows
  unfolding walk_fault
  walk_sound [] w sound e = sound
  walk_sound (x ∷ xs) w sound e =
      let parts = no_kinds (turn_fault s [] w x) (walk_fault s [] (walked s.rules [] w x) xs) e in
      walk_sound xs (walked s.rules [] w x) (turn_sound w x sound parts.0) parts.1

  -- what holds at the end of the words that a subcommand takes, and that the last checks pass
  pub level_sound : (words : List Text) → P [] → level_fault s [] nothing_held words false [] ≡ []
      → P (settled s.rules (walk s.rules [] nothing_held words).held).rows × (check_fault s (finished s.rules (walk s.rules [] nothing_held words).held) false ≡ [])
  level_sound words start e =
      let end = (walk s.rules [] nothing_held words).held in
      let last = check_fault s (finished s.rules end) false in
      let defaults = defaults_fault (settled s.rules end).rows s.rules in
      let settle = settle_fault s.rules s.args_override_self end in
      let a = no_kinds (walk_fault s [] (walk_from nothing_held) words) (or_else settle (or_else defaults last)) e in
      let b = no_kinds settle (or_else defaults last) a.1 in
      let c = no_kinds defaults last b.1 in
      (settles end.pending end.rows (walk_sound words (walk_from nothing_held) start a.0) b.0, c.1)
