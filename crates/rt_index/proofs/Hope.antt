-- The parts of a word say what the word says, and which words are refused.
use Rattle.std.proofs.Common.{◌≡◌, ◌≢◌, Bool, true, false, not, cond, ◌&&◌, ◌||◌, ◌==◌, nat_lt, nat_le, ℕ, ◌-◌, ◌<◌, ◌≤◌, List, [], ◌∷◌, length, take, drop, get_or, map, Option, Some, None, IfOk, Result, Ok, Err, arith, ap, sym, ◌∙◌, refl, subst}
use Rattle.std.specs.Prelude.{option_map, option_and_then, codes, bytes_eq, IsSome, is_some, IsCharBoundary}
use Rattle.std.specs.Option.{option_or}
use Rattle.std.proofs.lemmas.Bool.Decides.{nat_tests}
use Rattle.std.proofs.lemmas.List.{length-take-le}
use Rattle.std.proofs.lemmas.Str.{IsCharBoundary-before_ascii, IsCharBoundary-end}
use Rattle.std.proofs.lemmas.Slice.Eq.{bytes_eq-Decides}
use Rattle.rt_stamps.specs.declared.fault.Fault.{Fault}
use Rattle.rt_stamps.specs.declared.fault.Fault.TheVariants.{BadIndex, NoneTagged}
use Rattle.rt_stamps.specs.declared.limits.TheConstants.{MOST_NAME_BYTES}
use Rattle.rt_stamps.specs.Names.{is_name_length}
use Rattle.rt_index.specs.declared.parts.Modifier.{Modifier}
use Rattle.rt_index.specs.declared.parts.Fixed.{Fixed}
use Rattle.rt_index.specs.declared.parts.Side.{Side}
use Rattle.rt_index.specs.declared.parts.Side.TheVariants.{First, Last}
use Rattle.rt_index.specs.declared.parts.Tag.{Tag}
use Rattle.rt_index.specs.declared.parts.Base.{Base}
use Rattle.rt_index.specs.declared.parts.Base.TheVariants.{AtPlace, Named}
use Rattle.rt_index.specs.Index.{fixed_place, may_end, side_text, moved_from, index_of, word_index, IsNeverIndex, MayBeIndex}
use Rattle.rt_index.specs.Expression.{kept_modifier, kept_fixed, tag_after, longest_named, named_after, listed_place, marked_place, base_index, is_always_mark, is_possible, NamesAreWhole, IsParsed}
use Rattle.rt_index.specs.Reading.{is_separator, token_length, fixed_of, modifiers_of}
use Rattle.rt_index.specs.Widget.{IndexedWidget, TagEnds, IsProper, IsName}
use Rattle.rt_index.proofs.Places.{split}
use Rattle.rt_index.proofs.Spelling.{eq_of, lt_true, at_least, bytes_true}
use Rattle.rt_index.proofs.Kept.{fixed_kept, fixed_within, moved_from_kept}
use Rattle.rt_index.proofs.Tags.{Stands, found_at, blocked, bad, agree, named_index, token_ends, token_within, token_before, may_end_at, end_byte, begins_with_dot, side_some}

abbrev token_of : List ℕ → List ℕ
token_of word = take (token_length word) word

-- a position or `end`
pub fixed_same : (w : IndexedWidget) (word : List ℕ) (fixed : Fixed) → fixed_of (token_of word) ≡ Some fixed
    → index_of w word ≡ moved_from w.text (Ok (fixed_place w.text fixed)) (modifiers_of (drop (token_length word) word))
fixed_same w word fixed e = ap (λ o. word_index w word (option_or (option_map (fixed_place w.text) o) (w.marks (token_of word)))) e

by_marks : (w : IndexedWidget) (word : List ℕ) (o : Option ℕ) → fixed_of (token_of word) ≡ None → w.marks (token_of word) ≡ o → index_of w word ≡ word_index w word o
by_marks w word o e m =
    ap (λ f. word_index w word (option_or (option_map (fixed_place w.text) f) (w.marks (token_of word)))) e ∙ ap (word_index w word) m

none_bad : (text : List ℕ) (base : Result ℕ Fault) → moved_from text base None ≡ Err BadIndex
none_bad text (Ok place) = refl
none_bad text (Err fault) = refl

same_number : (n : ℕ) → (n == n) ≡ true
same_number n = grind (arith, nat_tests)

-- a mark or an end of a tag
pub named_same : (w : IndexedWidget) (word : List ℕ) (tag : Option Tag) → fixed_of (token_of word) ≡ None → longest_named word (length word) ≡ tag
    → index_of w word ≡ moved_from w.text (base_index w word (Named (token_length word) (named_after (token_length word) tag == token_length word) tag))
    (modifiers_of (drop (named_after (token_length word) tag) word))
named_same w word None e t = by (w.marks (token_of word)) refl
  where
    by : (o : Option ℕ) → w.marks (token_of word) ≡ o
        → index_of w word ≡ moved_from w.text (marked_place (token_length word == token_length word) o (Err BadIndex)) (modifiers_of (drop (token_length word) word))
    by (Some place) m =
        by_marks w word (Some place) e m
        ∙ sym (ap (λ b. moved_from w.text (cond b (Ok place) (Err BadIndex)) (modifiers_of (drop (token_length word) word))) (same_number (token_length word)))
    by None m =
        by_marks w word None e m ∙ agree w word (length word) (omega arith) ∙ ap (named_index w word) t
        ∙ sym (bad w.text (modifiers_of (drop (token_length word) word)))
named_same w word (Some tag) e t = by (w.marks (token_of word)) refl
  where
    stands : Stands word tag (tag_after tag)
    stands = (found_at word (length word) tag (omega arith) t).0

    ends : may_end (drop (tag_after tag) word) ≡ true
    ends = (found_at word (length word) tag (omega arith) t).1

    marked : (place : ℕ) (b : Bool) → (tag_after tag == token_length word) ≡ b
        → moved_from w.text (Ok place) (modifiers_of (drop (token_length word) word)) ≡ moved_from w.text (cond b (Ok place) (Err BadIndex)) (modifiers_of (drop (tag_after tag) word))
    marked place true h = ap (λ n. moved_from w.text (Ok place) (modifiers_of (drop n word))) (sym (eq_of (tag_after tag) (token_length word) h))
    marked place false h =
        let low = token_before word (tag_after tag) stands.within ends in
        let differ = not_equal (tag_after tag) (token_length word) h in
        ap (moved_from w.text (Ok place)) (blocked word tag (tag_after tag) (token_length word) stands (omega arith) (token_ends word))
        ∙ sym (bad w.text (modifiers_of (drop (tag_after tag) word)))
      where
        not_equal : (a b : ℕ) → (a == b) ≡ false → a ≢ b
        not_equal a b h = grind (arith, nat_tests)

    by : (o : Option ℕ) → w.marks (token_of word) ≡ o
        → index_of w word ≡ moved_from w.text (marked_place (tag_after tag == token_length word) o (listed_place tag.side (w.tags (take tag.name_len word)))) (modifiers_of (drop (tag_after tag) word))
    by (Some place) m = by_marks w word (Some place) e m ∙ marked place (tag_after tag == token_length word) refl
    by None m = by_marks w word None e m ∙ agree w word (length word) (omega arith) ∙ ap (named_index w word) t

-- names are whole characters
separator_ascii : (c : ℕ) → is_separator c ≡ true → c < 128
separator_ascii c h = grind (arith, nat_tests)

token_boundary : (word : List ℕ) → IsCharBoundary word (token_length word)
token_boundary word = split (nat_lt (token_length word) (length word))
    (λ e.
    let l = lt_true (token_length word) (length word) e in
    IsCharBoundary-before_ascii word (token_length word) l
    (separator_ascii (get_or word (token_length word) 0) (sym (may_end_at word (token_length word) l) ∙ token_ends word)))
    (λ e.
    let q : length word ≡ token_length word = omega (arith, token_within word, at_least (token_length word) (length word) e) in
    subst (IsCharBoundary word) q (IsCharBoundary-end word))

name_boundary : (word : List ℕ) (tag : Tag) (n : ℕ) → Stands word tag n → IsCharBoundary word tag.name_len
name_boundary word tag n s =
    let some = side_some tag.side in
    let low : tag.name_len < n = omega (arith, s.after) in
    let z : tag.name_len - tag.name_len ≡ 0 = omega arith in
    let dot = end_byte word tag n tag.name_len s (omega arith) low ∙ ap (λ k. get_or (side_text tag.side) k 0) z ∙ begins_with_dot tag.side in
    IsCharBoundary-before_ascii word tag.name_len (omega (arith, s.within)) (omega (arith, dot))

are_names : (word : List ℕ) (fits : Bool) (tag : Option Tag) → longest_named word (length word) ≡ tag → NamesAreWhole word (Named (token_length word) fits tag)
are_names word fits None t = token_boundary word
are_names word fits (Some tag) t =
    (token_boundary word, name_boundary word tag (tag_after tag) (found_at word (length word) tag (omega arith) t).0)

-- places of bases stay within the text
marked_within : (n : ℕ) (fits : Bool) (o : Option ℕ) (other : Result ℕ Fault) → ((p : ℕ) → o ≡ Some p → p ≤ n) → IfOk other (λ p. p ≤ n)
    → IfOk (marked_place fits o other) (λ p. p ≤ n)
marked_within n fits None other h k = k
marked_within n true (Some p) other h k = h p refl
marked_within n false (Some p) other h k = tt

listed_within : (w : IndexedWidget) (name : List ℕ) (side : Side) (o : Option (Option TagEnds)) → IsProper w → w.tags name ≡ o → IfOk (listed_place side o) (λ p. p ≤ length w.text)
listed_within w name side None proper e = tt
listed_within w name side (Some None) proper e = tt
listed_within w name First (Some (Some ends)) proper e =
    proper.first_within name ends.first (ap (λ o. option_map (λ ends. ends.first) (option_and_then (λ ends. ends) o)) e)
listed_within w name Last (Some (Some ends)) proper e =
    proper.last_within name ends.last (ap (λ o. option_map (λ ends. ends.last) (option_and_then (λ ends. ends) o)) e)

base_within : (w : IndexedWidget) (word : List ℕ) (base : Base) → IsProper w → IfOk (base_index w word base) (λ p. p ≤ length w.text)
base_within w word (AtPlace fixed) proper = fixed_within w.text fixed
base_within w word (Named token fits None) proper =
    marked_within (length w.text) fits (w.marks (take token word)) (Err BadIndex) (proper.marks_within (take token word)) tt
base_within w word (Named token fits (Some tag)) proper =
    marked_within (length w.text) fits (w.marks (take token word)) (listed_place tag.side (w.tags (take tag.name_len word))) (proper.marks_within (take token word))
    (listed_within w (take tag.name_len word) tag.side (w.tags (take tag.name_len word)) proper refl)

-- what is kept says what the word says
pub parsed_fixed : (word : List ℕ) (fixed shown : Fixed) (ms items : List Modifier) → fixed_of (token_of word) ≡ Some fixed → kept_fixed fixed ≡ shown
    → modifiers_of (drop (token_length word) word) ≡ Some ms → map kept_modifier ms ≡ items → IsParsed word (AtPlace shown) items
parsed_fixed word fixed shown ms items e k m i = record {
  names = tt;
  same = λ w proper.
      fixed_same w word fixed e
      ∙ ap (moved_from w.text (Ok (fixed_place w.text fixed))) m
      ∙ moved_from_kept w.text (Ok (fixed_place w.text fixed)) ms proper.bounded (fixed_within w.text fixed)
      ∙ ap (λ xs. moved_from w.text (Ok (fixed_place w.text fixed)) (Some xs)) i
      ∙ ap (λ p. moved_from w.text (Ok p) (Some items)) (sym (fixed_kept w.text fixed proper.bounded) ∙ ap (fixed_place w.text) k);
}

pub parsed_named : (word : List ℕ) (tag : Option Tag) (ms items : List Modifier) → fixed_of (token_of word) ≡ None → longest_named word (length word) ≡ tag
    → modifiers_of (drop (named_after (token_length word) tag) word) ≡ Some ms → map kept_modifier ms ≡ items
    → IsParsed word (Named (token_length word) (named_after (token_length word) tag == token_length word) tag) items
parsed_named word tag ms items e t m i =
    let fits = named_after (token_length word) tag == token_length word in
    record {
      names = are_names word fits tag t;
      same = λ w proper.
          let base = base_index w word (Named (token_length word) fits tag) in
          named_same w word tag e t
          ∙ ap (moved_from w.text base) m
          ∙ moved_from_kept w.text base ms proper.bounded (base_within w word (Named (token_length word) fits tag) proper)
          ∙ ap (λ xs. moved_from w.text base (Some xs)) i;
    }

pub hopeless_rest : (word : List ℕ) (tag : Option Tag) → fixed_of (token_of word) ≡ None → longest_named word (length word) ≡ tag
    → modifiers_of (drop (named_after (token_length word) tag) word) ≡ None → IsNeverIndex word
hopeless_rest word tag e t m = λ w proper.
    let base = base_index w word (Named (token_length word) (named_after (token_length word) tag == token_length word) tag) in
    named_same w word tag e t ∙ ap (moved_from w.text base) m ∙ none_bad w.text base

-- names
name_true : (name : List ℕ) → IsName name → is_name_length (length name) ≡ true
name_true name h = both (nat_le 1 (length name)) (nat_le (length name) MOST_NAME_BYTES) (le_from 1 (length name) h.0) (le_from (length name) MOST_NAME_BYTES h.1)
  where
    both : (a b : Bool) → a ≡ true → b ≡ true → (a && b) ≡ true
    both true b h k = k
    both false b h k = cc

    le_from : (a b : ℕ) → a ≤ b → nat_le a b ≡ true
    le_from a b h = grind (arith, nat_tests)

name_from : (name : List ℕ) → is_name_length (length name) ≡ true → IsName name
name_from name h = by (nat_le 1 (length name)) (nat_le (length name) MOST_NAME_BYTES) refl refl h
  where
    le_true : (a b : ℕ) → nat_le a b ≡ true → a ≤ b
    le_true a b h = grind (arith, nat_tests)

    by : (a b : Bool) → nat_le 1 (length name) ≡ a → nat_le (length name) MOST_NAME_BYTES ≡ b → (a && b) ≡ true → IsName name
    by true true ea eb h = (le_true 1 (length name) ea, le_true (length name) MOST_NAME_BYTES eb)
    by true false ea eb h = cc
    by false b ea eb h = cc

always_marked : (w : IndexedWidget) (name : List ℕ) → IsProper w → is_always_mark name ≡ true → IsSome (w.marks name)
always_marked w name proper h = by (bytes_eq name (codes "insert")) (bytes_eq name (codes "current")) refl refl h
  where
    by : (a b : Bool) → bytes_eq name (codes "insert") ≡ a → bytes_eq name (codes "current") ≡ b → (a || b) ≡ true → IsSome (w.marks name)
    by true b ea eb h = let P : List ℕ → Type 0 = λ x. IsSome (w.marks x) in subst P (sym (bytes_true name (codes "insert") ea)) proper.insert
    by false true ea eb h = let P : List ℕ → Type 0 = λ x. IsSome (w.marks x) in subst P (sym (bytes_true name (codes "current") eb)) proper.current
    by false false ea eb h = cc

some_is : {A : Type 0} (o : Option A) (x : A) → o ≡ Some x → IsSome o
some_is o x e = ap is_some e

not_none : {A : Type 0} (o : Option A) → o ≡ None → IsSome o → ⊥
not_none o e h = let f : false ≡ true = sym (ap is_some e) ∙ h in cc

-- words without a base that any widget has
no_fit : (fits named other : Bool) → ((fits && named) || other) ≡ false → named ≡ true → fits ≡ false
no_fit true named other h k = by named k h
  where
    by : (n : Bool) → n ≡ true → (n || other) ≡ false → true ≡ false
    by true k h = h
    by false k h = cc
no_fit false named other h k = refl

no_other : (a b : Bool) → (a || b) ≡ false → b ≡ false
no_other true b h = cc
no_other false b h = h

or_false : (a : Bool) → a ≡ false → (a || false) ≡ false
or_false true h = h
or_false false h = refl

unfit : (fits : Bool) (p : ℕ) → fits ≡ false → cond fits (Ok p) (Err BadIndex) ≡ Err BadIndex
unfit true p h = cc
unfit false p h = refl

pub hopeless_base : (word : List ℕ) (tag : Option Tag) → fixed_of (token_of word) ≡ None → longest_named word (length word) ≡ tag
    → is_possible (token_of word) (named_after (token_length word) tag == token_length word) tag ≡ false → IsNeverIndex word
hopeless_base word tag e t h = λ w proper.
    let rest = modifiers_of (drop (named_after (token_length word) tag) word) in
    named_same w word tag e t ∙ ap (λ b. moved_from w.text b rest) (nothing w proper tag t h) ∙ bad w.text rest
  where
    nothing : (w : IndexedWidget) → IsProper w → (tag : Option Tag) → longest_named word (length word) ≡ tag
        → is_possible (token_of word) (named_after (token_length word) tag == token_length word) tag ≡ false
        → base_index w word (Named (token_length word) (named_after (token_length word) tag == token_length word) tag) ≡ Err BadIndex
    nothing w proper None t h = by (w.marks (token_of word)) refl
      where
        by : (o : Option ℕ) → w.marks (token_of word) ≡ o → marked_place (token_length word == token_length word) o (Err BadIndex) ≡ Err BadIndex
        by None m = refl
        by (Some p) m =
            unfit (token_length word == token_length word) p
            (no_fit (token_length word == token_length word) (is_name_length (length (token_of word))) false
            (or_false (token_length word == token_length word && is_name_length (length (token_of word))) h)
            (name_true (token_of word) (proper.mark_names (token_of word) (some_is (w.marks (token_of word)) p m))))
    nothing w proper (Some tag) t h = by (w.marks (token_of word)) (w.tags (take tag.name_len word)) refl refl
      where
        always : (a b : Bool) → a ≡ true → (a && not b) ≡ false → b ≡ true
        always true true k h = refl
        always true false k h = sym h
        always false b k h = cc

        by : (o : Option ℕ) (l : Option (Option TagEnds)) → w.marks (token_of word) ≡ o → w.tags (take tag.name_len word) ≡ l
            → marked_place (tag_after tag == token_length word) o (listed_place tag.side l) ≡ Err BadIndex
        by (Some p) l m k =
            unfit (tag_after tag == token_length word) p
            (no_fit (tag_after tag == token_length word) (is_name_length (length (token_of word))) (is_name_length tag.name_len && not (is_always_mark (token_of word))) h
            (name_true (token_of word) (proper.mark_names (token_of word) (some_is (w.marks (token_of word)) p m))))
        by None None m k = refl
        by None (Some ends) m k =
            let stands = (found_at word (length word) tag (omega arith) t).0 in
            let len : length (take tag.name_len word) ≡ tag.name_len = length-take-le tag.name_len word (omega (arith, stands.within)) in
            let named = name_true (take tag.name_len word) (proper.tag_names (take tag.name_len word) (some_is (w.tags (take tag.name_len word)) ends k)) in
            let q = no_other ((tag_after tag == token_length word) && is_name_length (length (token_of word))) (is_name_length tag.name_len && not (is_always_mark (token_of word))) h in
            let r = always (is_name_length tag.name_len) (is_always_mark (token_of word)) (sym (ap is_name_length len) ∙ named) q in
            absurd (not_none (w.marks (token_of word)) m (always_marked w (token_of word) proper r))

-- a widget of one newline that has a mark and lists a tag
abbrev at_start : Bool → Option ℕ
at_start b = cond b (Some 0) None

abbrev untagged : Bool → Option (Option TagEnds)
untagged b = cond b (Some None) None

abbrev sample : List ℕ → List ℕ → IndexedWidget
sample mark tag = record {
  text = 10 ∷ [];
  marks = λ name. at_start (bytes_eq name mark || is_always_mark name);
  tags = λ name. untagged (bytes_eq name tag || bytes_eq name (codes "sel"));
}

abbrev first_in : Option (Option TagEnds) → Option ℕ
first_in o = option_map (λ ends. ends.first) (option_and_then (λ ends. ends) o)

abbrev last_in : Option (Option TagEnds) → Option ℕ
last_in o = option_map (λ ends. ends.last) (option_and_then (λ ends. ends) o)

no_first : (b : Bool) (place : ℕ) → first_in (untagged b) ≡ Some place → place ≤ 1
no_first true place e = cc
no_first false place e = cc

no_last : (b : Bool) (place : ℕ) → last_in (untagged b) ≡ Some place → place ≤ 1
no_last true place e = cc
no_last false place e = cc

mark_zero : (b : Bool) (place : ℕ) → at_start b ≡ Some place → place ≤ 1
mark_zero true place e = let q : 0 ≡ place = cc in omega arith
mark_zero false place e = cc

insert_name : IsName (codes "insert")
insert_name = (omega arith, omega arith)

current_name : IsName (codes "current")
current_name = (omega arith, omega arith)

sel_name : IsName (codes "sel")
sel_name = (omega arith, omega arith)

mark_named : (mark name : List ℕ) → IsName mark → (a b c : Bool) → bytes_eq name mark ≡ a → bytes_eq name (codes "insert") ≡ b → bytes_eq name (codes "current") ≡ c
    → IsSome (at_start (a || (b || c))) → IsName name
mark_named mark name m true b c ea eb ec h = subst IsName (sym (bytes_true name mark ea)) m
mark_named mark name m false true c ea eb ec h = subst IsName (sym (bytes_true name (codes "insert") eb)) insert_name
mark_named mark name m false false true ea eb ec h = subst IsName (sym (bytes_true name (codes "current") ec)) current_name
mark_named mark name m false false false ea eb ec h = cc

tag_named : (tag name : List ℕ) → IsName tag → (a b : Bool) → bytes_eq name tag ≡ a → bytes_eq name (codes "sel") ≡ b → IsSome (untagged (a || b)) → IsName name
tag_named tag name t true b ea eb h = subst IsName (sym (bytes_true name tag ea)) t
tag_named tag name t false true ea eb h = subst IsName (sym (bytes_true name (codes "sel") eb)) sel_name
tag_named tag name t false false ea eb h = cc

always_some : (a : Bool) → IsSome (at_start (a || true))
always_some true = refl
always_some false = refl

listed_some : (a : Bool) → IsSome (untagged (a || true))
listed_some true = refl
listed_some false = refl

sample_proper : (mark tag : List ℕ) → IsName mark → IsName tag → IsProper (sample mark tag)
sample_proper mark tag m t = record {
  newline = ([], refl);
  bounded = omega arith;
  marks_within = λ name place e. mark_zero (bytes_eq name mark || is_always_mark name) place e;
  first_within = λ name place e. no_first (bytes_eq name tag || bytes_eq name (codes "sel")) place e;
  last_within = λ name place e. no_last (bytes_eq name tag || bytes_eq name (codes "sel")) place e;
  mark_names = λ name h. mark_named mark name m (bytes_eq name mark) (bytes_eq name (codes "insert")) (bytes_eq name (codes "current")) refl refl refl h;
  tag_names = λ name h. tag_named tag name t (bytes_eq name tag) (bytes_eq name (codes "sel")) refl refl h;
  insert = always_some (bytes_eq (codes "insert") mark);
  current = always_some (bytes_eq (codes "current") mark);
  sel = listed_some (bytes_eq (codes "sel") tag);
}

ok_not : (r : Result ℕ Fault) (p : ℕ) → r ≡ Ok p → r ≢ Err BadIndex
ok_not r p e h = cc

untagged_not : (r : Result ℕ Fault) → r ≡ Err NoneTagged → r ≢ Err BadIndex
untagged_not r e h = cc

bytes_same : (name : List ℕ) → bytes_eq name name ≡ true
bytes_same name = (bytes_eq-Decides name name).1 refl

pub hopeful_fixed : (word : List ℕ) (fixed : Fixed) (ms : List Modifier) → fixed_of (token_of word) ≡ Some fixed
    → modifiers_of (drop (token_length word) word) ≡ Some ms → MayBeIndex word
hopeful_fixed word fixed ms e m =
    let w = sample (codes "insert") (codes "sel") in (
      w,
      sample_proper (codes "insert") (codes "sel") insert_name sel_name,
      ok_not (index_of w word) _ (fixed_same w word fixed e ∙ ap (moved_from w.text (Ok (fixed_place w.text fixed))) m),
    )

base_fits : (w : IndexedWidget) (word : List ℕ) (token : ℕ) (fits : Bool) (tag : Option Tag) (p : ℕ) → w.marks (take token word) ≡ Some p → fits ≡ true
    → base_index w word (Named token fits tag) ≡ Ok p
base_fits w word token fits None p m f = ap (λ o. marked_place fits o (Err BadIndex)) m ∙ ap (λ b. cond b (Ok p) (Err BadIndex)) f
base_fits w word token fits (Some tag) p m f =
    ap (λ o. marked_place fits o (listed_place tag.side (w.tags (take tag.name_len word)))) m ∙ ap (λ b. cond b (Ok p) (Err BadIndex)) f

by_mark : (word : List ℕ) (tag : Option Tag) (ms : List Modifier) → fixed_of (token_of word) ≡ None → longest_named word (length word) ≡ tag
    → modifiers_of (drop (named_after (token_length word) tag) word) ≡ Some ms
    → (named_after (token_length word) tag == token_length word) ≡ true → is_name_length (length (token_of word)) ≡ true → MayBeIndex word
by_mark word tag ms e t m f n =
    let w = sample (token_of word) (codes "sel") in
    let fits = named_after (token_length word) tag == token_length word in
    let marked : w.marks (token_of word) ≡ Some 0 = ap (λ b. at_start (b || is_always_mark (token_of word))) (bytes_same (token_of word)) in
    let base = base_index w word (Named (token_length word) fits tag) in (
      w,
      sample_proper (token_of word) (codes "sel") (name_from (token_of word) n) sel_name,
      ok_not (index_of w word) _
          (named_same w word tag e t ∙ ap (moved_from w.text base) m ∙ ap (λ b. moved_from w.text b (Some ms)) (base_fits w word (token_length word) fits tag 0 marked f)),
    )

by_tag : (word : List ℕ) (tag : Tag) (ms : List Modifier) → fixed_of (token_of word) ≡ None → longest_named word (length word) ≡ Some tag
    → modifiers_of (drop (tag_after tag) word) ≡ Some ms → is_name_length tag.name_len ≡ true → is_always_mark (token_of word) ≡ false → MayBeIndex word
by_tag word tag ms e t m n a =
    let name = take tag.name_len word in
    let w = sample (codes "insert") name in
    let stands = (found_at word (length word) tag (omega arith) t).0 in
    let len : length name ≡ tag.name_len = length-take-le tag.name_len word (omega (arith, stands.within)) in
    let fits = tag_after tag == token_length word in
    let unmarked : w.marks (token_of word) ≡ None = no_mark (bytes_eq (token_of word) (codes "insert")) (bytes_eq (token_of word) (codes "current")) a in
    let listed : w.tags name ≡ Some None = ap (λ b. untagged (b || bytes_eq name (codes "sel"))) (bytes_same name) in
    let base = base_index w word (Named (token_length word) fits (Some tag)) in
    let none : base ≡ Err NoneTagged =
    ap (λ o. marked_place fits o (listed_place tag.side (w.tags name))) unmarked ∙ ap (listed_place tag.side) listed in (
      w,
      sample_proper (codes "insert") name insert_name (name_from name (ap is_name_length len ∙ n)),
      untagged_not (index_of w word)
          (named_same w word (Some tag) e t ∙ ap (moved_from w.text base) m ∙ ap (λ b. moved_from w.text b (Some ms)) none),
    )
  where
    no_mark : (a b : Bool) → (a || b) ≡ false → at_start (a || (a || b)) ≡ None
    no_mark true b h = cc
    no_mark false true h = cc
    no_mark false false h = refl

-- words with a base that some widget has
pub hopeful_named : (word : List ℕ) (tag : Option Tag) (ms : List Modifier) → fixed_of (token_of word) ≡ None → longest_named word (length word) ≡ tag
    → modifiers_of (drop (named_after (token_length word) tag) word) ≡ Some ms
    → is_possible (token_of word) (named_after (token_length word) tag == token_length word) tag ≡ true → MayBeIndex word
hopeful_named word None ms e t m h = by (token_length word == token_length word) (is_name_length (length (token_of word))) refl refl h
  where
    by : (f n : Bool) → (token_length word == token_length word) ≡ f → is_name_length (length (token_of word)) ≡ n → (f && n) ≡ true → MayBeIndex word
    by true true ef en h = by_mark word None ms e t m ef en
    by true false ef en h = cc
    by false n ef en h = cc
hopeful_named word (Some tag) ms e t m h =
    by (tag_after tag == token_length word) (is_name_length (length (token_of word))) (is_name_length tag.name_len) (is_always_mark (token_of word)) refl refl refl refl h
  where
    by : (f n k a : Bool) → (tag_after tag == token_length word) ≡ f → is_name_length (length (token_of word)) ≡ n → is_name_length tag.name_len ≡ k → is_always_mark (token_of word) ≡ a
        → ((f && n) || (k && not a)) ≡ true → MayBeIndex word
    by true true k a ef en ek ea h = by_mark word (Some tag) ms e t m ef en
    by true false true false ef en ek ea h = by_tag word tag ms e t m ek ea
    by false n true false ef en ek ea h = by_tag word tag ms e t m ek ea
    by true false true true ef en ek ea h = cc
    by true false false a ef en ek ea h = cc
    by false n true true ef en ek ea h = cc
    by false n false a ef en ek ea h = cc
