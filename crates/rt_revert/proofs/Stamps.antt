-- Stamps that characters have after some came back.
use Rattle.std.proofs.Common.{◌≡◌, ◌∙◌, ◌<◌, Bool, true, false, List, [], ◌∷◌, ◌||◌, cond, refl, sym, ap, subst, arith, Option, None, Some, map}
use Rattle.std.specs.Prelude.{option_and_then}
use Rattle.std.proofs.lemmas.Bool.{or_from, or_left, or_parts, or_right}
use Rattle.std.proofs.lemmas.Bool.Decides.{nat_tests}
use Rattle.std.specs.List.{AllByRecursion}
use Rattle.rt_stamps.specs.declared.stamp.Stamp.{Stamp}
use Rattle.rt_stamps.specs.declared.stamp.TheConstants.{FINAL}
use Rattle.rt_stamps.specs.Stamps.{is_same}
use Rattle.rt_store.specs.declared.cell.Cell.{Cell}
use Rattle.rt_store.specs.Cells.{cell_of, stamps_of}
use Rattle.rt_store.specs.Shown.{TaggedCell}
use Rattle.rt_store.specs.Spans.{is_among}
use Rattle.rt_revert.specs.Reverting.{Return, gone_cell_of, stamp_after}

-- a character that came back isn't the final newline
abbrev pub IsApart : Return → Type 0
IsApart r = is_same r.newer FINAL ≡ false

pub site_apart : (s : Stamp) → 0 < s.site → is_same s FINAL ≡ false
site_apart s h = grind (arith, nat_tests)

-- what isn't the final newline stays so
pub after_apart : (returns : List Return) (s : Stamp) → AllByRecursion IsApart returns → is_same s FINAL ≡ false → is_same (stamp_after returns s) FINAL ≡ false
after_apart [] s h e = e
after_apart (r ∷ returns) s h e =
    after_apart returns (cond (is_same s r.former) r.newer s) h.1 (elim (is_same s r.former) as (λ b. is_same (cond b r.newer s) FINAL ≡ false) [ true ↦ h.0 | false ↦ e ])

pub all_apart : (returns : List Return) (ss : List Stamp) → AllByRecursion IsApart returns → is_among ss FINAL ≡ false → is_among (map (stamp_after returns) ss) FINAL ≡ false
all_apart returns [] h e = refl
all_apart returns (s ∷ ss) h e =
    let p = or_parts (is_same s FINAL) (is_among ss FINAL) e in
    or_from (is_same (stamp_after returns s) FINAL) _ (after_apart returns s h p.0) (all_apart returns ss h p.1)

-- A CELL THAT IS FOUND

-- what holds of all cells holds of the one of a stamp, and the stamp is among theirs
pub found : (Q : TaggedCell → Type 0) (cells : List TaggedCell) (s : Stamp) (cell : TaggedCell) → AllByRecursion Q cells → cell_of cells s ≡ Some cell
    → Q cell × (is_among (stamps_of cells) s ≡ true)
found Q [] s cell h e = absurd (cc e)
found Q (x ∷ xs) s cell h e = by (is_same x.stamp s) refl (found Q xs s cell h.1) e
  where
    by : (b : Bool) → is_same x.stamp s ≡ b → (cell_of xs s ≡ Some cell → Q cell × (is_among (stamps_of xs) s ≡ true)) → cond b (Some x) (cell_of xs s) ≡ Some cell
        → Q cell × ((is_same x.stamp s || is_among (stamps_of xs) s) ≡ true)
    by true k rest f = let same : x ≡ cell = cc f in (subst Q same h.0, or_left (is_same x.stamp s) _ k)
    by false k rest f = let r = rest f in (r.0, or_right (is_same x.stamp s) _ r.1)

-- a cell that is found gone
pub gone_found : {T : Type 0} (cells : List (Cell T)) (s : Stamp) (x : Cell T) → gone_cell_of cells s ≡ Some x → (cell_of cells s ≡ Some x) × (x.gone ≡ true)
gone_found {T} cells s x h = by (cell_of cells s) refl h
  where
    of : (c : Cell T) (b : Bool) → c.gone ≡ b → cond b (Some c) None ≡ Some x → (Some c ≡ Some x) × (x.gone ≡ true)
    of c true g k = let same : c ≡ x = cc k in (k, ap (λ (y : Cell T). y.gone) (sym same) ∙ g)
    of c false g k = absurd (cc k)

    by : (o : Option (Cell T)) → cell_of cells s ≡ o → option_and_then (λ (cell : Cell T). cond cell.gone (Some cell) None) o ≡ Some x
        → (cell_of cells s ≡ Some x) × (x.gone ≡ true)
    by None e k = absurd (cc k)
    by (Some c) e k = let p = of c c.gone refl k in (e ∙ p.0, p.1)
