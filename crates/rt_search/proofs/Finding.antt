-- A place of a stretch has a match where the pattern stands there and ends where it must.
use Rattle.std.proofs.Common.{◌≡◌, ◌+◌, ◌<◌, ◌≤◌, ℕ, Bool, true, false, ◌&&◌, List, length, arith, sym, ap, ◌∙◌, refl, nat_le}
use Rattle.std.proofs.lemmas.Bool.Decides.{nat_tests}
use Rattle.rt_search.specs.declared.search.Case.{Case}
use Rattle.rt_search.specs.declared.search.Strictness.{Strictness}
use Rattle.rt_search.specs.declared.search.Strictness.TheVariants.{First, Strict}
use Rattle.rt_search.specs.declared.search.Search.{Search}
use Rattle.rt_lines.specs.declared.stretch.Stretch.{Stretch}
use Rattle.rt_search.specs.Searches.{ends_within, is_match, stands_at}
use Rattle.rt_search.proofs.Standing.{runs_out}

ends_late : (a b : ℕ) → nat_le a b ≡ false → b < a
ends_late a b h = grind (arith, nat_tests)

by_test : (case : Case) (pattern text : List ℕ) (place : ℕ) (b : Bool) → place ≤ length text → nat_le (place + length pattern) (length text) ≡ b
    → (stands_at case pattern text place && b) ≡ (stands_at case pattern text place && true)
by_test case pattern text place true h e = refl
by_test case pattern text place false h e = rw (runs_out case pattern text place h (ends_late (place + length pattern) (length text) e)) refl

-- a match that ends where it must is one that belongs to the stretch
pub same_test : (case : Case) (strictness : Strictness) (pattern text : List ℕ) (stretch : Stretch) (place end : ℕ) → place ≤ length text
    → (strictness ≡ First → end ≡ length text) → (strictness ≡ Strict → end ≡ stretch.end)
    → (stands_at case pattern text place && nat_le (place + length pattern) end) ≡ (stands_at case pattern text place && ends_within strictness stretch (length pattern) place)
same_test case First pattern text stretch place end h f g =
    ap (λ n. stands_at case pattern text place && nat_le (place + length pattern) n) (f refl)
    ∙ by_test case pattern text place (nat_le (place + length pattern) (length text)) h refl
same_test case Strict pattern text stretch place end h f g = ap (λ n. stands_at case pattern text place && nat_le (place + length pattern) n) (g refl)

-- what a test of a place has told
pub tested : (search : Search) (pattern text : List ℕ) (stretch : Stretch) (place end visible : ℕ) (r b : Bool) → place < stretch.end → stretch.end ≤ visible
    → visible ≡ length text → (search.strictness ≡ First → end ≡ visible) → (search.strictness ≡ Strict → end ≡ stretch.end)
    → r ≡ (stands_at search.case pattern text place && nat_le (place + length pattern) end) → r ≡ b → is_match search pattern text stretch place ≡ b
tested search pattern text stretch place end visible r b h k e f g q w =
    let within : place ≤ length text = omega arith in
    sym (same_test search.case search.strictness pattern text stretch place end within (λ x. f x ∙ e) g) ∙ sym q ∙ w
