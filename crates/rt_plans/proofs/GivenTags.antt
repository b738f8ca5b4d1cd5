-- The tags that a list gives to new text.
use Rattle.std.proofs.Common.{◌≡◌, ◌+◌, ◌||◌, ◌&&◌, ℕ, zero, suc, All, List, [], ◌∷◌, Bool, true, false, cond, not, filter, length, take, drop, refl, sym, ◌∙◌, ap, subst, Option, Some, None}
use Rattle.std.specs.Str.{bytes_eq}
use Rattle.std.proofs.lemmas.List.Elements.{All-nil, All-cons, All-append}
use Rattle.rt_stamps.specs.declared.limits.TheConstants.{MOST_CHARACTERS}
use Rattle.rt_stamps.specs.declared.stamp.Stamp.{Stamp}
use Rattle.rt_stamps.specs.declared.stamp.TheConstants.{ROOT}
use Rattle.rt_stamps.specs.Stamps.{is_before}
use Rattle.rt_stamps.specs.Words.{Word}
use Rattle.rt_tags.specs.States.{Write, names_on, says_on}
use Rattle.rt_tags.specs.Tags.{is_listed, sel}
use Rattle.rt_tags.specs.Writers.{greater, greatest, listed_by, state_after, writes_of}
use Rattle.rt_tags.proofs.Commuting.{on_is_listed}
use Rattle.rt_tags.proofs.Greatest.{decides}
use Rattle.rt_tags.proofs.Places.{same_name, split}
use Rattle.rt_rga.proofs.Writes.{state_sorted}
use Rattle.rt_store.specs.Cells.{cells_from}
use Rattle.rt_store.specs.Shown.{TaggedCell}
use Rattle.rt_plans.specs.Insertions.{cells_of_inserts, further_tags, inserts_for, new_state, shared_names, tagged_cells}
use Rattle.rt_plans.proofs.LastNames.{Rise, new_names, shared_rise}

-- EACH CHARACTER

from_all : (P : TaggedCell → Type 0) (count site : ℕ) (state : List Write) (text : List ℕ) → ((cell : TaggedCell) → cell.state ≡ state → P cell) → All P (cells_from count site state text)
from_all P count site state [] h = All-nil P
from_all P count site state (ch ∷ text) h = All-cons P _ _ (h _ refl) (from_all P (count + 1) site state text h)

inserts_all : (inserts site count : ℕ) (names : List Word) (text : List ℕ) → Rise names → All (λ (cell : TaggedCell). names_on cell.state ≡ names) (cells_of_inserts inserts site count names text)
inserts_all zero site count names text r = All-nil (λ (cell : TaggedCell). names_on cell.state ≡ names)
inserts_all (suc inserts) site count names text r =
    let part = take MOST_CHARACTERS text in
    let last = count + length part in
    let P : TaggedCell → Type 0 = λ cell. names_on cell.state ≡ names in
    All-append P _ _
    (from_all P (count + 1) site (new_state site last names) part (λ cell e. ap names_on e ∙ new_names site last names r))
    (inserts_all inserts site (last + length (further_tags names)) names (drop MOST_CHARACTERS text) r)

pub given_tags : (site count : ℕ) (list : List Word) (text : List ℕ) → All (λ (cell : TaggedCell). names_on cell.state ≡ shared_names list) (tagged_cells site count (shared_names list) text)
given_tags site count list text = inserts_all (inserts_for (length text)) site count (shared_names list) text (shared_rise list)

-- THE NAMES OF A LIST

-- the greater of writes that are all on is on
greater_on : (w : Write) (o : Option Write) → w.on ≡ true → ((v : Write) → o ≡ Some v → v.on ≡ true) → (greater w o).on ≡ true
greater_on w None h k = h
greater_on w (Some v) h k = by (is_before w.writer v.writer)
  where
    by : (b : Bool) → (cond b v w).on ≡ true
    by true = k v refl
    by false = h

all_on : (stamp : Stamp) (name : Word) (list : List Word) (v : Write) → greatest (writes_of name (listed_by stamp list)) ≡ Some v → v.on ≡ true
all_on stamp name [] v e = absurd (cc)
all_on stamp name (x ∷ list) v e =
    let w : Write = record { name = x; writer = stamp; on = true } in
    let rest = writes_of name (listed_by stamp list) in
    split (bytes_eq name x)
    (λ t. let is : Some (greater w (greatest rest)) ≡ Some v = sym (ap (λ b. greatest (cond b (w ∷ rest) rest)) t) ∙ e in
    let same : greater w (greatest rest) ≡ v = cc in
    subst (λ (u : Write). u.on ≡ true) same (greater_on w (greatest rest) refl (all_on stamp name list)))
    (λ f. all_on stamp name list v (sym (ap (λ b. greatest (cond b (w ∷ rest) rest)) f) ∙ e))

greatest_listed : (stamp : Stamp) (name : Word) (list : List Word) → says_on (greatest (writes_of name (listed_by stamp list))) ≡ is_listed name list
greatest_listed stamp name [] = refl
greatest_listed stamp name (x ∷ list) =
    let w : Write = record { name = x; writer = stamp; on = true } in
    let rest = writes_of name (listed_by stamp list) in
    split (bytes_eq name x)
    (λ t. ap (λ b. says_on (greatest (cond b (w ∷ rest) rest))) t ∙ greater_on w (greatest rest) refl (all_on stamp name list) ∙ sym (ap (λ b. b || is_listed name list) t))
    (λ f. ap (λ b. says_on (greatest (cond b (w ∷ rest) rest))) f ∙ greatest_listed stamp name list ∙ sym (ap (λ b. b || is_listed name list) f))

nor_both : (l : Bool) → (l && false) ≡ false
nor_both true = refl
nor_both false = refl

but_sel : (name : Word) (list : List Word) → is_listed name (filter (λ n. not (bytes_eq n sel)) list) ≡ (is_listed name list && not (bytes_eq name sel))
but_sel name [] = refl
but_sel name (x ∷ list) =
    let rest = filter (λ n. not (bytes_eq n sel)) list in
    let more = but_sel name list in
    split (bytes_eq name x)
    (λ t. let same : bytes_eq x sel ≡ bytes_eq name sel = ap (λ v. bytes_eq v sel) (sym (same_name name x t)) in
    ap (λ b. is_listed name (cond (not b) (x ∷ rest) rest)) same
    ∙ here (bytes_eq name sel) t more
    ∙ sym (ap (λ b. (b || is_listed name list) && not (bytes_eq name sel)) t))
    (λ f. there (bytes_eq x sel) f ∙ more ∙ sym (ap (λ b. (b || is_listed name list) && not (bytes_eq name sel)) f))
  where
    here : (s : Bool) → bytes_eq name x ≡ true → is_listed name (filter (λ n. not (bytes_eq n sel)) list) ≡ (is_listed name list && not s)
        → is_listed name (cond (not s) (x ∷ filter (λ n. not (bytes_eq n sel)) list) (filter (λ n. not (bytes_eq n sel)) list)) ≡ (true && not s)
    here true t h = h ∙ nor_both (is_listed name list)
    here false t h = ap (λ b. b || is_listed name (filter (λ n. not (bytes_eq n sel)) list)) t

    there : (s : Bool) → bytes_eq name x ≡ false
        → is_listed name (cond (not s) (x ∷ filter (λ n. not (bytes_eq n sel)) list) (filter (λ n. not (bytes_eq n sel)) list)) ≡ is_listed name (filter (λ n. not (bytes_eq n sel)) list)
    there true f = refl
    there false f = ap (λ b. b || is_listed name (filter (λ n. not (bytes_eq n sel)) list)) f

pub listed_names : (list : List Word) (name : Word) → is_listed name (shared_names list) ≡ (is_listed name list && not (bytes_eq name sel))
listed_names list name =
    let others = filter (λ n. not (bytes_eq n sel)) list in
    let writes = listed_by ROOT others in
    sym (on_is_listed name (state_after [] writes) (state_sorted [] writes tt))
    ∙ decides name writes
    ∙ greatest_listed ROOT name others
    ∙ but_sel name list
