-- What a pass leaves of a stretch: behind a character that is read, and behind a match.
use Rattle.std.proofs.Common.{◌≡◌, ℕ, ◌+◌, ◌-◌, ◌<◌, ◌≤◌, ◌∷◌, [], false, List, length, get_or, arith, ap, sym, ◌∙◌}
use Rattle.std.specs.Prelude.{slice_get, filter, Some}
use Rattle.std.proofs.lemmas.List.{get_or_default}
use Rattle.rt_search.specs.declared.pass.Pass.{Pass}
use Rattle.rt_search.specs.declared.search.Search.{Search}
use Rattle.rt_lines.specs.declared.stretch.Stretch.{Stretch}
use Rattle.rt_search.specs.Borders.{CharactersAgree, IsBorder, IsFurther, IsNextMatch, IsPass, as_compared, left, pattern_read, place_read, read_at, text_read}
use Rattle.rt_search.specs.Searches.{matches_in, ordered_places, stands_at}
use Rattle.rt_search.specs.Windows.{Shows}
use Rattle.rt_search.proofs.Falling.{agrees_at, none_agree, none_before}
use Rattle.rt_search.proofs.Orders.{length_ordered}
use Rattle.rt_search.proofs.Reading.{read_there, stands_not, stands_there, text_has}
use Rattle.rt_search.proofs.Rooms.{none_left, skips, takes}
use Rattle.rt_search.proofs.Within.{place_in}

-- what the character that is read tells
pub goes_further : (search : Search) (pattern text : List ℕ) (room : Stretch) (start many place ahead x next : ℕ) → start < room.end - room.begin → many < length pattern
    → place ≡ get_or (ordered_places search.direction room) start place → ahead ≡ read_at search.direction (length pattern) many → slice_get text (place + ahead) ≡ Some x
    → CharactersAgree (pattern_read search pattern) (text_read search (length pattern) text room) start many
    → ((t : ℕ → ℕ) (a : ℕ) → CharactersAgree (pattern_read search pattern) t a many → t (a + many) ≡ as_compared search.case x → IsFurther (pattern_read search pattern) t a many next)
    → IsFurther (pattern_read search pattern) (text_read search (length pattern) text room) start many next
goes_further search pattern text room start many place ahead x next h k is e g a f =
    let there : place + ahead ≡ place_read search.direction (length pattern) room (start + many) =
    ap (λ n. place + n) e ∙ read_there search.direction (length pattern) room start place many h is k in
    f (text_read search (length pattern) text room) start a (text_has search (length pattern) text room (start + many) (place + ahead) x there g)

module _ (search : Search) (pattern text : List ℕ) (room : Stretch) (fits : (place : ℕ) → place < room.end → place + length pattern ≤ length text) where
  -- the place after so many
  abbrev place_of : ℕ → ℕ
  place_of k = get_or (ordered_places search.direction room) k 0

  is_place : (k : ℕ) → k < room.end - room.begin → place_of k ≡ get_or (ordered_places search.direction room) k (place_of k)
  is_place k h = get_or_default (ordered_places search.direction room) k 0 (place_of k) (omega (arith, length_ordered search.direction room))

  fits_at : (k : ℕ) → k < room.end - room.begin → place_of k + length pattern ≤ length text
  fits_at k h = fits (place_of k) (place_in search.direction room k 0 h)

  not_at : (k many : ℕ) → k < length (ordered_places search.direction room) → many ≤ length pattern
      → (CharactersAgree (pattern_read search pattern) (text_read search (length pattern) text room) k many → ⊥) → stands_at search.case pattern text (place_of k) ≡ false
  not_at k many h m e =
      let inside : k < room.end - room.begin = omega (arith, length_ordered search.direction room) in
      stands_not search pattern text room k (place_of k) inside (is_place k inside) (fits_at k inside) many m e

  -- no match begins at the places that a character rules out
  pub leaves : (start many next : ℕ) → many + 1 ≤ length pattern → IsFurther (pattern_read search pattern) (text_read search (length pattern) text room) start many next
      → left search pattern text room start ≡ left search pattern text room (start + (many + 1 - next))
  leaves start many next h f =
      skips (stands_at search.case pattern text) (ordered_places search.direction room) start (many + 1 - next)
      (λ k l m o. not_at k (many + 1 - (k - start)) o (omega arith)
      (λ e. f.first (k - start) (omega arith)
      (agrees_at (pattern_read search pattern) (text_read search (length pattern) text room) k (start + (k - start)) (many + 1 - (k - start)) (many + 1 - (k - start)) (omega arith) (omega arith) e)))

  found_at : (start : ℕ) → start < room.end - room.begin → CharactersAgree (pattern_read search pattern) (text_read search (length pattern) text room) start (length pattern)
      → left search pattern text room start ≡ place_of start ∷ left search pattern text room (start + 1)
  found_at start h a =
      takes (stands_at search.case pattern text) (ordered_places search.direction room) start (omega (arith, length_ordered search.direction room))
      (stands_there search pattern text room start (place_of start) h (is_place start h) (fits_at start h) a)

  -- the next match behind one is at the longest border, or later
  pub leaves_match : (old before start border : ℕ) → left search pattern text room old ≡ left search pattern text room before → left search pattern text room before ≡ left search pattern text room start
      → start < room.end - room.begin → CharactersAgree (pattern_read search pattern) (text_read search (length pattern) text room) start (length pattern)
      → IsBorder (pattern_read search pattern) (length pattern) border → left search pattern text room old ≡ place_of start ∷ left search pattern text room (start + (length pattern - border))
  leaves_match old before start border e f h a b =
      e ∙ f ∙ found_at start h a
      ∙ ap (λ places. place_of start ∷ places)
      (skips (stands_at search.case pattern text) (ordered_places search.direction room) (start + 1) (length pattern - border - 1)
      (λ k l m o. not_at k (length pattern - (k - start)) o (omega arith)
      (λ e. none_before (pattern_read search pattern) (text_read search (length pattern) text room) start (length pattern) border (k - start) a b (omega arith) (omega arith)
      (agrees_at (pattern_read search pattern) (text_read search (length pattern) text room) k (start + (k - start)) (length pattern - (k - start)) (length pattern - (k - start)) (omega arith) (omega arith) e)))
      ∙ ap (left search pattern text room) (omega (arith, b.fewer)))

  -- an empty pattern stands at each place
  pub leaves_empty : (start : ℕ) → start < room.end - room.begin → length pattern ≡ 0 → left search pattern text room start ≡ place_of start ∷ left search pattern text room (start + 1)
  leaves_empty start h e =
      found_at start h
      (agrees_at (pattern_read search pattern) (text_read search (length pattern) text room) start start 0 (length pattern) (omega arith) (sym e)
      (none_agree (pattern_read search pattern) (text_read search (length pattern) text room) start))

  pub leaves_none : (start : ℕ) → room.end - room.begin ≤ start → left search pattern text room start ≡ []
  leaves_none start h = none_left (stands_at search.case pattern text) (ordered_places search.direction room) start (omega (arith, length_ordered search.direction room))

-- a pass that has read nothing, with all matches left
pub begins : (search : Search) (pattern text : List ℕ) (room : Stretch) (pass : Pass) → pass.start ≡ 0 → pass.agreed ≡ 0 → Shows text pass.window → IsPass search pattern text room pass
begins search pattern text room pass s a h = record {
  shows = h;
  few = omega arith;
  agrees = agrees_at (pattern_read search pattern) (text_read search (length pattern) text room) pass.start pass.start 0 pass.agreed (omega arith) (sym a)
      (none_agree (pattern_read search pattern) (text_read search (length pattern) text room) pass.start);
}

pub all_left : (search : Search) (pattern text : List ℕ) (stretch room : Stretch) (start : ℕ) → start ≡ 0
    → matches_in search pattern text stretch ≡ filter (stands_at search.case pattern text) (ordered_places search.direction room)
    → matches_in search pattern text stretch ≡ left search pattern text room start
all_left search pattern text stretch room start s e = e ∙ ap (left search pattern text room) (sym s)

-- what comes next of a stretch
pub next_place : (search : Search) (pattern text : List ℕ) (room : Stretch) (old new index place : ℕ) → IsNextMatch search pattern text room old new index
    → place ≡ get_or (ordered_places search.direction room) index place → left search pattern text room old ≡ place ∷ left search pattern text room new
next_place search pattern text room old new index place n e =
    n.rest
    ∙ ap (λ p. p ∷ left search pattern text room new)
    (get_or_default (ordered_places search.direction room) index 0 place (omega (arith, n.within, length_ordered search.direction room)) ∙ sym e)
