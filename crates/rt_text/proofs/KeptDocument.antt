-- What a tag that is written leaves listed, and checks of the clock.
use Rattle.std.proofs.Common.{◌≡◌, ℕ, ◌<◌, ◌≤◌, List, Bool, true, false, cond, Some, None, Result, Ok, Err, OnOk, length, map, refl, sym, ◌∙◌, ap, subst}
use Rattle.std.specs.Str.{bytes_eq}
use Rattle.std.specs.Prelude.{OnErr, nat_lt}
use Rattle.std.proofs.lemmas.Bool.{cond-true, cond-false, le-ltb, lt-ltb}
use Rattle.rt_stamps.specs.declared.limits.TheConstants.{GREATEST_COUNT}
use Rattle.rt_stamps.specs.declared.fault.Fault.TheVariants.{ClockSpent}
use Rattle.rt_stamps.specs.Words.{Word}
use Rattle.rt_store.specs.declared.cell.Cell.{Cell}
use Rattle.rt_store.specs.Cells.{visible_of}
use Rattle.rt_tags.specs.States.{TagStates, state_at}
use Rattle.rt_tags.specs.Tags.{IsName, with_name, sel}
use Rattle.rt_plans.specs.TagWrites.{listed_if, with_tag_at}
use Rattle.rt_text.specs.Commands.{clock_check}
use Rattle.rt_plans.specs.DocValue.{DocValue}
use Rattle.rt_store.specs.Shown.{TaggedCell, shown}
use Rattle.rt_plans.specs.Listed.{AreListed}
use Rattle.rt_plans.proofs.ListedWrites.{written_listed}
use Rattle.rt_store.proofs.Shown.{visible_shown, length_shown}

-- WRITTEN TAGS

pub listed_as : (on : Bool) (name : Word) (doc : DocValue) (cells : List TaggedCell) (count : ℕ)
    → listed_if on name (record doc { cells = cells; count = count }) ≡ record doc { cells = cells; count = count; tags = cond on (with_name name doc.tags) doc.tags }
listed_as true name doc cells count = refl
listed_as false name doc cells count = refl

-- what a written tag leaves
pub written_stays : (on : Bool) (name : Word) (doc new : DocValue) (places : ℕ → Bool) → IsName name → bytes_eq name sel ≡ false → AreListed doc.tags doc.cells → listed_if on name (with_tag_at doc places on name) ≡ new → AreListed new.tags new.cells
written_stays on name doc new places h other listed e = subst (λ (f : DocValue). AreListed f.tags f.cells) e (written_listed on doc places name h listed other)

-- as many characters are visible
pub as_visible : (table : TagStates) (cells : List (Cell ℕ)) (doc : DocValue) → map (shown table) cells ≡ doc.cells → length (visible_of doc.cells) ≡ length (visible_of cells)
as_visible table cells doc e = ap (λ l. length (visible_of l)) (sym e) ∙ ap length (visible_shown (state_at table) cells) ∙ length_shown (state_at table) (visible_of cells)

-- CLOCKS

pub clock_fine : (n : ℕ) → n ≤ GREATEST_COUNT → clock_check n ≡ None
clock_fine n h = cond-false (nat_lt GREATEST_COUNT n) (Some ClockSpent) None (le-ltb GREATEST_COUNT n h)

pub clock_spent : (n : ℕ) → GREATEST_COUNT < n → clock_check n ≡ Some ClockSpent
clock_spent n h = cond-true (nat_lt GREATEST_COUNT n) (Some ClockSpent) None (lt-ltb GREATEST_COUNT n h)

-- what follows where a call is done, and where it is refused
pub either_way : {T E A B C : Type 0} (r : Result T E) → (A → C) → (B → C) → OnOk r A → OnErr r B → C
either_way (Ok x) f g a b = f a
either_way (Err e) f g a b = g b
