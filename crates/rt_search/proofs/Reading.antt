-- The pattern stands at a place exactly where all of it agrees, as both are read.
use Rattle.std.proofs.Common.{◌≡◌, ℕ, ◌+◌, ◌-◌, ◌<◌, ◌≤◌, Bool, true, false, List, length, get_or, arith, ap, refl, sym, ◌∙◌}
use Rattle.std.specs.Prelude.{slice_get, Some}
use Rattle.std.proofs.lemmas.Bool.{eqb-true, eq-eqb}
use Rattle.std.proofs.lemmas.List.{get_or_default}
use Rattle.std.proofs.lemmas.Option.{get_or_from_slice_get}
use Rattle.unicode.specs.CaseFolding.{simple_fold}
use Rattle.rt_search.specs.declared.search.Case.{Case}
use Rattle.rt_search.specs.declared.search.Case.TheVariants.{Exact, Ignored}
use Rattle.rt_search.specs.declared.search.Direction.{Direction}
use Rattle.rt_search.specs.declared.search.Direction.TheVariants.{Forwards, Backwards}
use Rattle.rt_search.specs.declared.search.Search.{Search}
use Rattle.rt_lines.specs.declared.stretch.Stretch.{Stretch}
use Rattle.rt_search.specs.Borders.{CharactersAgree, as_compared, pattern_read, place_read, read_at, text_read}
use Rattle.rt_search.specs.Searches.{agree, ordered_places, stands_at}
use Rattle.rt_search.proofs.Falling.{fewer_agree}
use Rattle.rt_search.proofs.Orders.{backwards_at, forwards_at}
use Rattle.rt_search.proofs.Standing.{differs, stands}

-- CHARACTERS

pub same_key : (case : Case) (a b : ℕ) → agree case a b ≡ true → as_compared case a ≡ as_compared case b
same_key Exact a b h = eqb-true a b h
same_key Ignored a b h = eqb-true (simple_fold a) (simple_fold b) h

pub same_agree : (case : Case) (a b : ℕ) → as_compared case a ≡ as_compared case b → agree case a b ≡ true
same_agree Exact a b h = eq-eqb a b h
same_agree Ignored a b h = eq-eqb (simple_fold a) (simple_fold b) h

pub other_key : (case : Case) (a b : ℕ) → agree case a b ≡ false → as_compared case a ≡ as_compared case b → ⊥
other_key case a b h e = let is : agree case a b ≡ true = same_agree case a b e in cc

-- READING

pub pattern_has : (search : Search) (pattern : List ℕ) (k i x : ℕ) → i ≡ read_at search.direction (length pattern) k → i < length pattern → x ≡ get_or pattern i x
    → pattern_read search pattern k ≡ as_compared search.case x
pattern_has search pattern k i x e h g = ap (λ n. as_compared search.case (get_or pattern n 0)) (sym e) ∙ ap (as_compared search.case) (get_or_default pattern i 0 x h ∙ sym g)

pub text_has : (search : Search) (size : ℕ) (text : List ℕ) (room : Stretch) (k i x : ℕ) → i ≡ place_read search.direction size room k → slice_get text i ≡ Some x
    → text_read search size text room k ≡ as_compared search.case x
text_has search size text room k i x e g = ap (λ n. as_compared search.case (get_or text n 0)) (sym e) ∙ ap (as_compared search.case) (get_or_from_slice_get text i x 0 g)

pub read_back : (d : Direction) (size j : ℕ) → j < size → read_at d size (read_at d size j) ≡ j
read_back Forwards size j h = omega arith
read_back Backwards size j h = omega arith

pub read_within : (d : Direction) (size j : ℕ) → j < size → read_at d size j < size
read_within Forwards size j h = h
read_within Backwards size j h = omega arith

-- the place of a match and its characters
pub read_there : (d : Direction) (size : ℕ) (room : Stretch) (i place j : ℕ) → i < room.end - room.begin → place ≡ get_or (ordered_places d room) i place → j < size
    → place + read_at d size j ≡ place_read d size room (i + j)
read_there Forwards size room i place j h e l = omega (arith, forwards_at room i place h)
read_there Backwards size room i place j h e l = omega (arith, backwards_at room i place h)

-- each character of a pattern that stands agrees
each_agrees : (case : Case) (pattern text : List ℕ) (place j : ℕ) → place + length pattern ≤ length text → j < length pattern
    → stands_at case pattern text place ≡ true → agree case (get_or pattern j 0) (get_or text (place + j) 0) ≡ true
each_agrees case pattern text place j h l e = by (agree case (get_or pattern j 0) (get_or text (place + j) 0)) refl
  where
    by : (b : Bool) → agree case (get_or pattern j 0) (get_or text (place + j) 0) ≡ b → b ≡ true
    by true f = refl
    by false f = sym (differs case pattern text place (length text) j h (omega arith) l f) ∙ e

module _ (search : Search) (pattern text : List ℕ) (room : Stretch) (i place : ℕ) (within : i < room.end - room.begin) (is : place ≡ get_or (ordered_places search.direction room) i place) (fits : place + length pattern ≤ length text) where
  pub stands_there : CharactersAgree (pattern_read search pattern) (text_read search (length pattern) text room) i (length pattern) → stands_at search.case pattern text place ≡ true
  stands_there h = stands search.case pattern text place (length text) fits (omega arith) (λ j l. one j (read_at search.direction (length pattern) j) (read_within search.direction (length pattern) j l) (read_back search.direction (length pattern) j l))
    where
      one : (j k : ℕ) → k < length pattern → read_at search.direction (length pattern) k ≡ j → agree search.case (get_or pattern j 0) (get_or text (place + j) 0) ≡ true
      one j k m e =
          same_agree search.case (get_or pattern j 0) (get_or text (place + j) 0)
          (ap (λ n. as_compared search.case (get_or pattern n 0)) (sym e)
          ∙ h.same k m
          ∙ ap (λ n. as_compared search.case (get_or text n 0)) (sym (read_there search.direction (length pattern) room i place k within is m))
          ∙ ap (λ n. as_compared search.case (get_or text (place + n) 0)) e)

  pub agrees_there : stands_at search.case pattern text place ≡ true → CharactersAgree (pattern_read search pattern) (text_read search (length pattern) text room) i (length pattern)
  agrees_there h = record {
    same = λ j l.
        same_key search.case (get_or pattern (read_at search.direction (length pattern) j) 0) (get_or text (place + read_at search.direction (length pattern) j) 0)
        (each_agrees search.case pattern text place (read_at search.direction (length pattern) j) fits (read_within search.direction (length pattern) j l) h)
        ∙ ap (λ n. as_compared search.case (get_or text n 0)) (read_there search.direction (length pattern) room i place j within is l);
  }

  -- where fewer can't agree, the pattern doesn't stand
  pub stands_not : (many : ℕ) → many ≤ length pattern → (CharactersAgree (pattern_read search pattern) (text_read search (length pattern) text room) i many → ⊥)
      → stands_at search.case pattern text place ≡ false
  stands_not many h fails = by (stands_at search.case pattern text place) refl
    where
      by : (b : Bool) → stands_at search.case pattern text place ≡ b → b ≡ false
      by true e = absurd (fails (fewer_agree (pattern_read search pattern) (text_read search (length pattern) text room) i (length pattern) many h (agrees_there e)))
      by false e = refl
