-- The longest front of a word that is the end of a tag, and the one that is the end of a listed tag.
use Rattle.std.proofs.Common.{◌≡◌, Bool, true, false, not, cond, nat_lt, ℕ, zero, suc, ◌+◌, ◌-◌, ◌<◌, ◌≤◌, List, [], ◌∷◌, ◌++◌, length, take, drop, get_or, Option, Some, None, Result, Err, arith, ap, sym, ◌∙◌, refl, subst, length-drop, length-append, drop-cons, if◌then◌else◌}
use Rattle.std.specs.Prelude.{option_map, option_and_then, codes, eqb}
use Rattle.std.specs.Option.{option_or}
use Rattle.std.specs.List.{ends_with, prefix_len}
use Rattle.std.proofs.lemmas.Bool.Decides.{Decides-eqb}
use Rattle.std.proofs.lemmas.Slice.Eq.{ends_is}
use Rattle.std.proofs.lemmas.List.{length-take, length-take-le, take-take, get_or-take, get_or-drop}
use Rattle.std.proofs.Math.Seq.{get_or-append_right}
use Rattle.std.proofs.lemmas.List.Sums.{prefix_len_passes, prefix_len-le-length}
use Rattle.rt_stamps.specs.declared.fault.Fault.{Fault}
use Rattle.rt_stamps.specs.declared.fault.Fault.TheVariants.{BadIndex}
use Rattle.rt_index.specs.declared.parts.Modifier.{Modifier}
use Rattle.rt_index.specs.declared.parts.Side.{Side}
use Rattle.rt_index.specs.declared.parts.Side.TheVariants.{First, Last}
use Rattle.rt_index.specs.declared.parts.Tag.{Tag}
use Rattle.rt_index.specs.Index.{side_text, may_end, tag_of, tag_end, tag_place, longest_tag, tag_index, moved_from}
use Rattle.rt_index.specs.Expression.{tag_after, longest_named, listed_place}
use Rattle.rt_index.specs.Reading.{is_separator, token_length, modifiers_of}
use Rattle.rt_index.specs.Widget.{IndexedWidget, TagEnds}
use Rattle.rt_index.proofs.Places.{split}
use Rattle.rt_index.proofs.Spelling.{stops, at_least, lt_true}
use Rattle.rt_index.proofs.Dots.{dotted, all_at}

-- the search's steps
pub longest_here : (word : List ℕ) (n : ℕ) (tag : Tag) → 0 < n → (if may_end (drop n word) then tag_of (take n word) else None) ≡ Some tag → longest_named word n ≡ Some tag
longest_here word zero tag h e = absurd (omega arith)
longest_here word (suc n) tag h e = ap (λ o. option_or o (longest_named word n)) e

pub longest_past : (word : List ℕ) (n : ℕ) → 0 < n → (if may_end (drop n word) then tag_of (take n word) else None) ≡ None → longest_named word (n - 1) ≡ longest_named word n
longest_past word zero h e = absurd (omega arith)
longest_past word (suc n) h e =
    let p : suc n - 1 ≡ n = omega arith in
    ap (longest_named word) p ∙ sym (ap (λ o. option_or o (longest_named word n)) e)

-- a tag's end at the front of a word
pub record Stands (word : List ℕ) (tag : Tag) (n : ℕ) : Type 0 where
  pub after : tag_after tag ≡ n
  pub within : n ≤ length word
  pub spelled : take n word ≡ take tag.name_len word ++ side_text tag.side

as_side : (word : List ℕ) (n : ℕ) (side : Side) → n ≤ length word → ends_with eqb (take n word) (side_text side) ≡ true
    → Stands word (record { name_len = length (take n word) - length (side_text side); side = side }) n
as_side word n side h e =
    let text = take n word in
    let k = length text - length (side_text side) in
    let s = (ends_is Decides-eqb text (side_text side) (ends_with eqb text (side_text side)) refl).0 e in
    let len = length-take-le n word h in
    let total = ap length s ∙ length-append (take k text) (side_text side) in
    let fits : k ≤ n = omega arith in
    record {
      after = omega (arith, len, total, length-take k text);
      within = h;
      spelled = s ∙ ap (λ x. x ++ side_text side) (take-take k n word fits);
    }

pub stands_at : (word : List ℕ) (n : ℕ) (tag : Tag) → n ≤ length word → tag_of (take n word) ≡ Some tag → Stands word tag n
stands_at word n tag h e = by (ends_with eqb (take n word) (side_text First)) (ends_with eqb (take n word) (side_text Last)) refl refl e
  where
    by : (a b : Bool) → ends_with eqb (take n word) (side_text First) ≡ a → ends_with eqb (take n word) (side_text Last) ≡ b
        → cond a (Some (record { name_len = length (take n word) - length (side_text First); side = First }))
        (cond b (Some (record { name_len = length (take n word) - length (side_text Last); side = Last })) None) ≡ Some tag
        → Stands word tag n
    by true b ea eb e =
        let shown : Tag = record { name_len = length (take n word) - length (side_text First); side = First } in
        let q : shown ≡ tag = cc in
        let P : Tag → Type 0 = λ t. Stands word t n in
        subst P q (as_side word n First h ea)
    by false true ea eb e =
        let shown : Tag = record { name_len = length (take n word) - length (side_text Last); side = Last } in
        let q : shown ≡ tag = cc in
        let P : Tag → Type 0 = λ t. Stands word t n in
        subst P q (as_side word n Last h eb)
    by false false ea eb e = cc

-- where bases may end
pub may_end_at : (word : List ℕ) (m : ℕ) → m < length word → may_end (drop m word) ≡ is_separator (get_or word m 0)
may_end_at word m h = ap may_end (drop-cons word m 0 h)

not_true : (b : Bool) → not b ≡ true → b ≡ false
not_true true h = cc
not_true false h = refl

-- the parts of ".first" and ".last" are no separators
no_separator : (side : Side) (j : ℕ) → j < length (side_text side) → is_separator (get_or (side_text side) j 0) ≡ false
no_separator First j h = not_true _ (all_at (λ c. not (is_separator c)) (codes ".first") j refl h)
no_separator Last j h = not_true _ (all_at (λ c. not (is_separator c)) (codes ".last") j refl h)

pub begins_with_dot : (side : Side) → get_or (side_text side) 0 0 ≡ 46
begins_with_dot First = refl
begins_with_dot Last = refl

pub side_some : (side : Side) → 0 < length (side_text side)
side_some First = omega arith
side_some Last = omega arith

name_length : (word : List ℕ) (tag : Tag) (n : ℕ) → Stands word tag n → length (take tag.name_len word) ≡ tag.name_len
name_length word tag n s = length-take-le tag.name_len word (omega (arith, s.after, s.within))

-- the bytes of a tag's end, after its name
pub end_byte : (word : List ℕ) (tag : Tag) (n m : ℕ) → Stands word tag n → tag.name_len ≤ m → m < n → get_or word m 0 ≡ get_or (side_text tag.side) (m - tag.name_len) 0
end_byte word tag n m s low high =
    let len = name_length word tag n s in
    sym (get_or-take n word m 0 high)
    ∙ ap (λ x. get_or x m 0) s.spelled
    ∙ get_or-append_right (take tag.name_len word) (side_text tag.side) m 0 (omega arith)
    ∙ ap (λ k. get_or (side_text tag.side) (m - k) 0) len

-- what follows an earlier end has a dot, so that it isn't modifiers
pub blocked : (word : List ℕ) (tag : Tag) (n m : ℕ) → Stands word tag n → m < n → may_end (drop m word) ≡ true → modifiers_of (drop m word) ≡ None
blocked word tag n m s h e = split (nat_lt m tag.name_len)
    (λ lt.
    let l = lt_true m tag.name_len lt in
    let i = tag.name_len - m in
    let p : m + (tag.name_len - m) ≡ tag.name_len = omega arith in
    let some = side_some tag.side in
    let zero_at : tag.name_len - tag.name_len ≡ 0 = omega arith in
    dotted (drop m word) i
    (omega (arith, length-drop m word, s.after, s.within))
    (get_or-drop m word i 0 ∙ ap (λ k. get_or word k 0) p
    ∙ end_byte word tag n tag.name_len s (omega arith) (omega (arith, s.after))
    ∙ ap (λ k. get_or (side_text tag.side) k 0) zero_at ∙ begins_with_dot tag.side))
    (λ ge.
    let g = at_least m tag.name_len ge in
    let w = s.within in
    let inside : m < length word = omega arith in
    let short : m - tag.name_len < length (side_text tag.side) = omega (arith, s.after) in
    let q = sym (may_end_at word m inside) ∙ e in
    let P : ℕ → Type 0 = λ c. is_separator c ≡ true in
    let r = subst P (end_byte word tag n m s g h) q in
    let t = no_separator tag.side (m - tag.name_len) short in
    cc)

-- the token ends first
zero_may_end : (t : List ℕ) → prefix_len (λ c. not (is_separator c)) t ≡ 0 → may_end t ≡ true
zero_may_end [] h = refl
zero_may_end (c ∷ t) h = split (is_separator c) (λ e. e) (λ e. let k = rw e at h in absurd (omega arith))

pub token_ends : (word : List ℕ) → may_end (drop (token_length word) word) ≡ true
token_ends word = zero_may_end (drop (token_length word) word) (stops (λ c. not (is_separator c)) word)

pub token_within : (word : List ℕ) → token_length word ≤ length word
token_within word = prefix_len-le-length (λ c. not (is_separator c)) word

pub token_before : (word : List ℕ) (n : ℕ) → n ≤ length word → may_end (drop n word) ≡ true → token_length word ≤ n
token_before word n h e = split (nat_lt n (token_length word))
    (λ lt.
    let l = lt_true n (token_length word) lt in
    let p = not_true (is_separator (get_or word n 0)) (prefix_len_passes (λ c. not (is_separator c)) word n 0 l) in
    let q = sym (may_end_at word n (omega (arith, token_within word))) ∙ e in
    let f : true ≡ false = sym q ∙ p in
    cc)
    (λ ge. at_least n (token_length word) ge)

-- what the search finds
pub found_at : (word : List ℕ) (n : ℕ) (tag : Tag) → n ≤ length word → longest_named word n ≡ Some tag
    → Stands word tag (tag_after tag) × (may_end (drop (tag_after tag) word) ≡ true)
found_at word zero tag h e = cc
found_at word (suc n) tag h e = by (may_end (drop (suc n) word)) (tag_of (take (suc n) word)) refl refl e (found_at word n tag (omega arith))
  where
    by : (b : Bool) (o : Option Tag) → may_end (drop (suc n) word) ≡ b → tag_of (take (suc n) word) ≡ o
        → option_or (cond b o None) (longest_named word n) ≡ Some tag
        → (longest_named word n ≡ Some tag → Stands word tag (tag_after tag) × (may_end (drop (tag_after tag) word) ≡ true))
        → Stands word tag (tag_after tag) × (may_end (drop (tag_after tag) word) ≡ true)
    by false o eb eo k ih = ih k
    by true None eb eo k ih = ih k
    by true (Some other) eb eo k ih =
        let q : other ≡ tag = cc in
        let s = stands_at word (suc n) tag h (eo ∙ ap Some q) in
        let P : ℕ → Type 0 = λ m. Stands word tag m × (may_end (drop m word) ≡ true) in
        subst P (sym s.after) (s, eb)

-- what a tag's end says, listed or not
abbrev pub named_index : IndexedWidget → List ℕ → Option Tag → Result ℕ Fault
named_index w word None = Err BadIndex
named_index w word (Some tag) = moved_from w.text (listed_place tag.side (w.tags (take tag.name_len word))) (modifiers_of (drop (tag_after tag) word))

pub bad : (text : List ℕ) (o : Option (List Modifier)) → moved_from text (Err BadIndex) o ≡ Err BadIndex
bad text None = refl
bad text (Some ms) = refl

-- a shorter end says nothing
lower : (w : IndexedWidget) (word : List ℕ) (tag : Tag) (last n : ℕ) → Stands word tag last → n < last → tag_index w word (longest_tag w word n) ≡ Err BadIndex
lower w word tag last zero s h = refl
lower w word tag last (suc n) s h =
    by (may_end (drop (suc n) word)) (tag_end w (take (suc n) word)) refl (lower w word tag last n s (omega arith))
  where
    by : (b : Bool) (o : Option (Result ℕ Fault)) → may_end (drop (suc n) word) ≡ b → tag_index w word (longest_tag w word n) ≡ Err BadIndex
        → tag_index w word (option_or (cond b (option_map (λ place. (place, suc n)) o) None) (longest_tag w word n)) ≡ Err BadIndex
    by false o e ih = ih
    by true None e ih = ih
    by true (Some place) e ih = ap (moved_from w.text place) (blocked word tag last (suc n) s h e)

-- the two searches say the same
pub agree : (w : IndexedWidget) (word : List ℕ) (n : ℕ) → n ≤ length word → tag_index w word (longest_tag w word n) ≡ named_index w word (longest_named word n)
agree w word zero h = refl
agree w word (suc n) h = by (may_end (drop (suc n) word)) (tag_of (take (suc n) word)) refl refl (agree w word n (omega arith))
  where
    listed : (tag : Tag) (o : Option (Option TagEnds)) → Stands word tag (suc n) → w.tags (take tag.name_len word) ≡ o
        → tag_index w word (option_or (option_map (λ place. (place, suc n)) (option_map (tag_place tag.side) o)) (longest_tag w word n))
        ≡ moved_from w.text (listed_place tag.side o) (modifiers_of (drop (tag_after tag) word))
    listed tag None s e = lower w word tag (suc n) n s (omega arith) ∙ sym (bad w.text (modifiers_of (drop (tag_after tag) word)))
    listed tag (Some ends) s e = ap (λ k. moved_from w.text (tag_place tag.side ends) (modifiers_of (drop k word))) (sym s.after)

    by : (b : Bool) (o : Option Tag) → may_end (drop (suc n) word) ≡ b → tag_of (take (suc n) word) ≡ o
        → tag_index w word (longest_tag w word n) ≡ named_index w word (longest_named word n)
        → tag_index w word (option_or (cond b (option_map (λ place. (place, suc n)) (option_and_then (λ tag. option_map (tag_place tag.side) (w.tags (take tag.name_len (take (suc n) word)))) o)) None) (longest_tag w word n))
        ≡ named_index w word (option_or (cond b o None) (longest_named word n))
    by false o eb eo ih = ih
    by true None eb eo ih = ih
    by true (Some tag) eb eo ih =
        let s = stands_at word (suc n) tag h eo in
        let p = take-take tag.name_len (suc n) word (omega (arith, s.after)) in
        let P : List ℕ → Type 0 = λ name.
        tag_index w word (option_or (option_map (λ place. (place, suc n)) (option_map (tag_place tag.side) (w.tags name))) (longest_tag w word n))
        ≡ moved_from w.text (listed_place tag.side (w.tags (take tag.name_len word))) (modifiers_of (drop (tag_after tag) word)) in
        subst P (sym p) (listed tag (w.tags (take tag.name_len word)) s refl)
