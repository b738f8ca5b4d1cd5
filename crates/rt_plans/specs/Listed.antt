-- The tags on visible characters are listed, and `sel` is written on none.
use Rattle.std.proofs.Common.{◌≡◌, ℕ, Bool, true, false, ◌||◌, List, [], ◌∷◌, refl, sym, subst, All}
use Rattle.std.specs.Str.{bytes_eq}
use Rattle.std.proofs.lemmas.List.Elements.{All-head, All-tail}
use Rattle.std.proofs.lemmas.Slice.Eq.{bytes_eq-Decides}
use Rattle.rt_stamps.specs.Words.{Word}
use Rattle.rt_store.specs.Cells.{visible_of}
use Rattle.rt_tags.specs.States.{Write, is_on}
use Rattle.rt_tags.specs.Tags.{IsName, sel, is_listed}
use Rattle.rt_store.specs.Shown.{TaggedCell}

-- no write is of `sel`, which is a widget's own
abbrev pub IsShared : List Write → Type 0
IsShared state = All (λ w. bytes_eq w.name sel ≡ false) state

-- each shared tag that is on a visible character is listed; `sel` is listed always, and each listed name is a name; `sel` was
-- written on no character
pub record AreListed (tags : List Word) (cells : List TaggedCell) : Type 0 where
  pub each : All (λ cell. (name : Word) → is_on name cell.state ≡ true → is_listed name tags ≡ true) (visible_of cells)
  pub sel : is_listed sel tags ≡ true
  pub names : All IsName tags
  pub shared : All (λ cell. IsShared cell.state) cells

-- a name of the same bytes is a name
pub named_as : (name text : List ℕ) → IsName text → bytes_eq name text ≡ true → IsName name
named_as name text n e = subst IsName (sym ((bytes_eq-Decides name text).0 e)) n

-- a listed name is a name
pub listed_name : (name : Word) (tags : List Word) → All IsName tags → is_listed name tags ≡ true → IsName name
listed_name name [] h e = let bad : ⊥ = cc in absurd bad
listed_name name (tag ∷ tags) h e = by (bytes_eq name tag) refl e (λ k. listed_name name tags (All-tail IsName tag tags h) k)
  where
    by : (b : Bool) → bytes_eq name tag ≡ b → (b || is_listed name tags) ≡ true → (is_listed name tags ≡ true → IsName name) → IsName name
    by true f k rest = named_as name tag (All-head IsName tag tags h) f
    by false f k rest = rest k
