-- No state has `sel`.
use Rattle.std.proofs.Common.{◌≡◌, ℕ, Bool, true, not, All, refl, sym, ap, ◌∙◌, arith, codes, Some, None, List, [], ◌∷◌, cond, ◌&&◌, length}
use Rattle.std.proofs.lemmas.Slice.Eq.{bytes_eq-Decides}
use Rattle.std.specs.Str.{bytes_eq, is_utf8}
use Rattle.rt_stamps.specs.Names.{is_name_length}
use Rattle.rt_tags.specs.States.{Write, write_of}
use Rattle.rt_tags.specs.Writers.{state_after}
use Rattle.rt_ops.specs.Operations.{Operation}
use Rattle.rt_ops.specs.Rules.{is_name}
use Rattle.rt_rga.specs.Histories.{IsHistory}
use Rattle.rt_rga.specs.Cells.{cells_of, writes_on}
use Rattle.rt_rga.proofs.Skipping.{split}
use Rattle.rt_store.specs.Shown.{TaggedCell}
use Rattle.rt_rga.proofs.Corollaries.{all_states, state_fine}

-- the write of a tag is of that tag
name_found : (name : List ℕ) (state : List Write) (w : Write) → write_of name state ≡ Some w → name ≡ w.name
name_found name [] w e = absurd (cc e)
name_found name (x ∷ state) w e = split (bytes_eq name x.name)
    (λ t. let i : Some x ≡ Some w = sym (ap (λ b. cond b (Some x) (write_of name state)) t) ∙ e in let j : x ≡ w = cc in (bytes_eq-Decides name x.name).0 t ∙ ap (λ v. v.name) j)
    (λ f. name_found name state w (sym (ap (λ b. cond b (Some x) (write_of name state)) f) ∙ e))

not_sel : (name : List ℕ) → is_name name ≡ true → codes "sel" ≡ name → ⊥
not_sel name h e =
    let s : bytes_eq name (codes "sel") ≡ true = (bytes_eq-Decides name (codes "sel")).1 (sym e) in
    no (is_utf8 name) (is_name_length (length name)) (bytes_eq name (codes "sel")) h s
  where
    no : (a b c : Bool) → (a && (b && not c)) ≡ true → c ≡ true → ⊥
    no a b c h k = grind (arith, h, k)

none_of : (state : List Write) → ((w : Write) → write_of (codes "sel") state ≡ Some w → is_name w.name ≡ true) → write_of (codes "sel") state ≡ None
none_of state f = (elim (write_of (codes "sel") state) as (λ o. write_of (codes "sel") state ≡ o → o ≡ None) [
  | None ↦ λ e. refl
  | Some w ↦ λ e. absurd (not_sel w.name (f w e) (name_found (codes "sel") state w e))
]) refl

pub no_sel : (set : List Operation) → IsHistory set → All (λ (cell : TaggedCell). write_of (codes "sel") cell.state ≡ None) (cells_of set)
no_sel set h = all_states set h (λ state. write_of (codes "sel") state ≡ None) (λ s. none_of (state_after [] (writes_on set s)) (λ w e. (state_fine set h s (codes "sel") w e).1))
