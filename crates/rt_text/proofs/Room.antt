-- Where marks may move for text that is put in, and places that are numbers of the machine.
use mir.Syntax.{w64}
use mir.Val.{Fits}
use Rattle.std.proofs.Common.{◌≡◌, ℕ, ◌+◌, ◌-◌, ◌^◌, ◌<◌, ◌≤◌, arith}
use Rattle.rt_stamps.specs.declared.limits.TheConstants.{MOST_CELLS}

-- a text that grows within the limit of cells
pub grown_fits : (text cells new n limit : ℕ) → cells + new ≤ limit → n ≡ new → text ≤ cells → limit ≤ MOST_CELLS → text + n ≤ 2 ^ 64 - 1
grown_fits text cells new n limit fit same within most = omega arith

-- a mark that stands before the end of the text, or at most there
pub before_fits : (place was text n most : ℕ) → place ≡ was → was < text → text + n ≤ most → place + n ≤ most
before_fits place was text n most same within fits = omega arith

pub mark_fits : (place was text n most : ℕ) → place ≡ was → was ≤ text → text + n ≤ most → place + n ≤ most
mark_fits place was text n most same within fits = omega arith

-- the place of a visible character
pub visible_fits : (at point shown visible text cells limit : ℕ) → at ≡ point → point < shown → visible ≡ shown → text ≡ visible → text ≤ cells → cells ≤ limit → limit ≤ MOST_CELLS → Fits w64 at
visible_fits at point shown visible text cells limit same within seen length few_text few most = omega arith

-- a place in the text
pub text_fits : (at point text cells all kept limit : ℕ) → at ≡ point → point < text → text ≤ cells → all ≡ cells → all ≡ kept → kept ≤ limit → limit ≤ MOST_CELLS → Fits w64 at
text_fits at point text cells all kept limit same within few_text seen mapped few most = omega arith
