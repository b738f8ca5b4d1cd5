-- Paths that are texts, or not.
use Rattle.std.proofs.Common.{◌≡◌, ◌∙◌, ◌&&◌, ℕ, List, Bool, true, false, Option, None, ap, sym, refl, cond}
use Rattle.std.specs.Str.{is_utf8, IsUtf8}
use Rattle.std.proofs.lemmas.Str.{is_utf8-from_IsUtf8, IsUtf8-from_is_utf8}

pub if_text : {X : Type 0} (path : List ℕ) (found : Option X) → IsUtf8 path → found ≡ cond (is_utf8 path) found None
if_text path found u = sym (ap (λ b. cond b found None) (is_utf8-from_IsUtf8 path u))

pub if_no_text : {X : Type 0} (path : List ℕ) (found : Option X) → (IsUtf8 path → ⊥) → None ≡ cond (is_utf8 path) found None
if_no_text {X} path found n = go (is_utf8 path) (λ e. n (IsUtf8-from_is_utf8 path e))
  where
    none : Option X
    none = None

    go : (b : Bool) → (b ≡ true → ⊥) → none ≡ cond b found none
    go true h = absurd (h refl)
    go false h = refl

-- two words that are both texts, or not
pub if_texts : {X : Type 0} (path index : List ℕ) (found none : X) → IsUtf8 path → IsUtf8 index → found ≡ cond (is_utf8 path && is_utf8 index) found none
if_texts path index found none u v =
    sym (ap (λ b. cond (b && is_utf8 index) found none) (is_utf8-from_IsUtf8 path u) ∙ ap (λ b. cond b found none) (is_utf8-from_IsUtf8 index v))

pub if_no_path : {X : Type 0} (path index : List ℕ) (found none : X) → (IsUtf8 path → ⊥) → none ≡ cond (is_utf8 path && is_utf8 index) found none
if_no_path {X} path index found none n = go (is_utf8 path) (λ e. n (IsUtf8-from_is_utf8 path e))
  where
    go : (b : Bool) → (b ≡ true → ⊥) → none ≡ cond (b && is_utf8 index) found none
    go true h = absurd (h refl)
    go false h = refl

pub if_no_index : {X : Type 0} (path index : List ℕ) (found none : X) → (IsUtf8 index → ⊥) → none ≡ cond (is_utf8 path && is_utf8 index) found none
if_no_index {X} path index found none n = go (is_utf8 path) (is_utf8 index) (λ e. n (IsUtf8-from_is_utf8 index e))
  where
    go : (a b : Bool) → (b ≡ true → ⊥) → none ≡ cond (a && b) found none
    go true true h = absurd (h refl)
    go true false h = refl
    go false b h = refl
