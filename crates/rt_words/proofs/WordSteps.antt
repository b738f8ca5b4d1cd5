-- The steps from one word of a text to the next, at a place of the text.
use Rattle.std.proofs.Common.{◌≡◌, ℕ, ◌+◌, ◌-◌, ◌<◌, ◌≤◌, suc, zero, List, [], ◌∷◌, ◌++◌, Bool, true, false, length, take, drop, get_or, refl, sym, ◌∙◌, ap, subst, arith, append_assoc, append-nil}
use Rattle.std.specs.List.{prefix_len}
use Rattle.std.specs.Str.{IsUtf8, IsCharBoundary}
use Rattle.std.proofs.lemmas.Str.{IsCharBoundary-start, IsCharBoundary-before_ascii, IsCharBoundary-after_ascii}
use Rattle.std.proofs.lemmas.List.{take_rest, drop-drop, drop_more, drop_all, get_or-drop, length-drop}
use Rattle.std.proofs.lemmas.List.Sums.{prefix_len-le-length, prefix_len_passes, prefix_len_stops}
use Rattle.rt_stamps.specs.Words.{Word}
use Rattle.rt_words.specs.Spelling.{AreSeparators, EndsWord, SpellsBy}
use Rattle.rt_words.specs.FirstWord.{IsFirstWord, HasNoFirstWord}
use Rattle.rt_words.proofs.Separating.{IsSeparating}
use Rattle.rt_words.proofs.Spelling.{starts, spells_after_blanks, spells_past_blanks, spells_first, after_first, no_words}

-- what words were read before a place, of those that the line spells
abbrev pub ReadsOn : (ℕ → Bool) → List ℕ → ℕ → List Word → Type 0
ReadsOn separates line place words = (more : List Word) → SpellsBy separates (drop place line) more → SpellsBy separates line (words ++ more)

-- the line spells words only if what follows a place does
abbrev pub Needs : (ℕ → Bool) → List ℕ → ℕ → Type 0
Needs separates line place = (words : List Word) → SpellsBy separates line words → (more : List Word) × SpellsBy separates (drop place line) more

-- Words were read up to a place, which begins the next word or ends the line.
pub record Reading (separates : ℕ → Bool) (line : List ℕ) (place : ℕ) (words : List Word) : Type 0 where
  pub boundary : IsCharBoundary line place
  pub begins : place < length line → separates (get_or line place 0) ≡ false
  pub reads_on : ReadsOn separates line place words
  pub needs : Needs separates line place

-- what a helper counted, in the line itself
pub counted : (p : ℕ → Bool) (bytes line : List ℕ) (i n : ℕ) → bytes ≡ line → n ≡ prefix_len p (take (length bytes - i) (drop i bytes)) → n ≡ prefix_len p (drop i line)
counted p bytes line i n e h = h ∙ ap (prefix_len p) (take_rest bytes i ∙ ap (drop i) e)

module _ (separates : ℕ → Bool) (sound : IsSeparating separates) where
  -- places
  pub blanks_within : (line : List ℕ) (i : ℕ) → i ≤ length line → i + prefix_len separates (drop i line) ≤ length line
  blanks_within line i h = omega (arith, prefix_len-le-length separates (drop i line), length-drop i line)

  pub word_within : (line : List ℕ) (i len : ℕ) (word : Word) → i ≤ length line → IsFirstWord separates (drop i line) len word → i + len ≤ length line
  word_within line i len word l h = omega (arith, h.0, length-drop i line)

  dark_next : (line : List ℕ) (i : ℕ) → i ≤ length line → i + prefix_len separates (drop i line) < length line → separates (get_or line (i + prefix_len separates (drop i line)) 0) ≡ false
  dark_next line i l h =
      let s : prefix_len separates (drop i line) < length (drop i line) = omega (arith, length-drop i line) in
      ap separates (sym (get_or-drop i line (prefix_len separates (drop i line)) 0)) ∙ prefix_len_stops separates (drop i line) 0 s

  boundary_by : (line : List ℕ) (i k : ℕ) → IsUtf8 line → IsCharBoundary line i → i + k ≤ length line → ((j : ℕ) → j < k → separates (get_or (drop i line) j 0) ≡ true) → IsCharBoundary line (i + k)
  boundary_by line i zero u b l h = let e : i ≡ i + 0 = omega arith in subst (λ n. IsCharBoundary line n) e b
  boundary_by line i (suc j) u b l h =
      let e : i + j + 1 ≡ i + suc j = omega arith in
      let a : separates (get_or line (i + j) 0) ≡ true = ap separates (sym (get_or-drop i line j 0)) ∙ h j (omega arith) in
      subst (λ n. IsCharBoundary line n) e (IsCharBoundary-after_ascii line (i + j) u (omega arith) (sound.ascii _ a))

  blanks_boundary : (line : List ℕ) (i : ℕ) → IsUtf8 line → IsCharBoundary line i → IsCharBoundary line (i + prefix_len separates (drop i line))
  blanks_boundary line i u b =
      boundary_by line i (prefix_len separates (drop i line)) u b (blanks_within line i b.0) (λ j l. prefix_len_passes separates (drop i line) j 0 l)

  -- a word may be cut where it ends
  pub end_boundary : (line : List ℕ) (n : ℕ) → n ≤ length line → EndsWord separates (drop n line) → IsCharBoundary line n
  end_boundary line n l h = (l, λ s. (IsCharBoundary-before_ascii line n s (sound.ascii _ (subst (EndsWord separates) (drop_more line n 0 s) h))).1 s)

  -- a word follows the words that were read
  reads_word : (line : List ℕ) (i len : ℕ) (words : List Word) (word : Word) → IsFirstWord separates (drop i line) len word → ReadsOn separates line i words
      → ReadsOn separates line (i + len + prefix_len separates (drop (i + len) line)) (words ++ word ∷ [])
  reads_word line i len words word f on more h =
      let after : SpellsBy separates (drop (i + len) line) more = spells_after_blanks separates sound (drop (i + len) line) more (rw drop-drop h) in
      let here : SpellsBy separates (drop i line) (word ∷ more) = spells_first separates sound (drop i line) len word more f (subst (λ (v : List ℕ). SpellsBy separates v more) (sym (drop-drop len i line)) after) in
      subst (λ v. SpellsBy separates line v) (sym (append_assoc words (word ∷ []) more)) (on (word ∷ more) here)

  -- what spells a word is no empty piece
  pub word_some : (text : List ℕ) (len : ℕ) (word : Word) → IsFirstWord separates text len word → 0 < len
  word_some text zero word h =
      let s = starts separates sound [] word h.1 in
      let e : [] ≡ s.first ∷ s.rest = s.split in
      absurd (cc)
  word_some text (suc len) word h = omega arith

  -- what follows a place begins with no blank
  pub dark_drop : (line : List ℕ) (i : ℕ) → separates (get_or line i 0) ≡ false → separates (get_or (drop i line) 0 0) ≡ false
  dark_drop line i d = let e : i + 0 ≡ i = omega arith in ap separates (get_or-drop i line 0 0 ∙ ap (λ n. get_or line n 0) e) ∙ d

  some_left : (line : List ℕ) (i : ℕ) → i < length line → 0 < length (drop i line)
  some_left line i l = omega (arith, length-drop i line)

  needs_word : (line : List ℕ) (i len : ℕ) (word : Word) → i < length line → separates (get_or line i 0) ≡ false → IsFirstWord separates (drop i line) len word → Needs separates line i
      → Needs separates line (i + len + prefix_len separates (drop (i + len) line))
  needs_word line i len word l d f needs words h =
      let p = needs words h in
      let w = after_first separates sound (drop i line) len word (some_left line i l) (dark_drop line i d) f p.0 p.1 in
      let after : SpellsBy separates (drop (i + len) line) w.0 = subst (λ v. SpellsBy separates v w.0) (drop-drop len i line) w.1 in
      (w.0, subst (λ v. SpellsBy separates v w.0) (drop-drop (prefix_len separates (drop (i + len) line)) (i + len) line) (spells_past_blanks separates sound (drop (i + len) line) w.0 after))

  pub begun : (line : List ℕ) (n : ℕ) → IsUtf8 line → n ≡ prefix_len separates line → Reading separates line n []
  begun line n u e =
      let z : n ≡ 0 + prefix_len separates (drop 0 line) = omega (arith, e) in
      record {
        boundary = rw z (blanks_boundary line 0 u (IsCharBoundary-start line u));
        begins = rw z (dark_next line 0 (omega arith));
        reads_on = rw e (spells_after_blanks separates sound line);
        needs = rw e (λ words h. (words, spells_past_blanks separates sound line words h));
      }

  pub next : (line : List ℕ) (i len j : ℕ) (words : List Word) (word : Word) → IsUtf8 line → i < length line → IsFirstWord separates (drop i line) len word
      → j ≡ prefix_len separates (drop (i + len) line) → Reading separates line i words → Reading separates line (i + len + j) (words ++ word ∷ [])
  next line i len j words word u l f e r =
      let d = r.begins l in
      let k = word_within line i len word r.boundary.0 f in
      record {
        boundary = rw e (blanks_boundary line (i + len) u (end_boundary line (i + len) k (subst (EndsWord separates) (drop-drop len i line) f.2)));
        begins = rw e (dark_next line (i + len) k);
        reads_on = rw e (reads_word line i len words word f r.reads_on);
        needs = rw e (needs_word line i len word l d f r.needs);
      }

  -- at a place where no word is spelled
  pub bad_word : (line : List ℕ) (i : ℕ) (words : List Word) → i < length line → Reading separates line i words → HasNoFirstWord separates (drop i line) → (others : List Word) → SpellsBy separates line others → ⊥
  bad_word line i words l r none others h =
      let p = r.needs others h in
      no_words separates sound (drop i line) (some_left line i l) (dark_drop line i (r.begins l)) none p.0 p.1

  -- at the end of the line
  pub reads_end : (line : List ℕ) (i : ℕ) (words : List Word) → length line ≤ i → ReadsOn separates line i words → SpellsBy separates line words
  reads_end line i words l on =
      subst (λ v. SpellsBy separates line v) (append-nil words) (on [] (subst (λ v. AreSeparators separates v) (sym (drop_all i line l)) refl))
