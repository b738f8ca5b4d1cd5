-- Tags that stay listed.
use Rattle.std.proofs.Common.{◌≡◌, List, [], ◌∷◌, arith, Bool, true, false, cond, not, ◌||◌, ◌&&◌, All, map, refl, sym, ◌∙◌, ap, subst, Option, Some, None, Result, Ok, Err, OnOk}
use Rattle.std.specs.Prelude.{OnErr, if◌then◌else◌}
use Rattle.std.specs.Str.{bytes_eq}
use Rattle.std.proofs.lemmas.Bool.{or_left, or_right}
use Rattle.std.proofs.lemmas.List.Elements.{All-cons, All-nil, All-append, All-head, All-tail, All-filter}
use Rattle.std.proofs.lemmas.List.Folds.{list_any-append}
use Rattle.rt_stamps.specs.declared.fault.Fault.{Fault}
use Rattle.rt_stamps.specs.declared.fault.Fault.TheVariants.{NoTag}
use Rattle.rt_stamps.specs.Words.{Word}
use Rattle.rt_store.specs.Cells.{final_cell}
use Rattle.rt_tags.specs.States.{TagStates, is_on, Write}
use Rattle.rt_tags.specs.Tags.{IsName, sel, Tags, is_listed, is_place, without, just_above, just_below, raised, lowered}
use Rattle.rt_tags.proofs.Places.{split, same_name, name_itself}
use Rattle.rt_store.specs.Shown.{TaggedCell, shown}
use Rattle.rt_plans.specs.Listed.{AreListed, IsShared, listed_name}

-- what is listed before is listed after
pub listed_more : (old new : List Word) (cells : List TaggedCell) → ((name : Word) → is_listed name old ≡ true → is_listed name new ≡ true) → All IsName new → AreListed old cells → AreListed new cells
listed_more old new cells h names listed = record {
  each = λ k d lt name on. h name (listed.each k d lt name on);
  sel = h sel listed.sel;
  names = names;
  shared = listed.shared;
}

-- NAMES THAT ARE PUT ELSEWHERE

-- another name is listed as before
pub without_other : (n name : Word) (names : List Word) → bytes_eq n name ≡ false → is_listed n (without name names) ≡ is_listed n names
without_other n name [] h = refl
without_other n name (x ∷ names) h =
    split (bytes_eq name x)
    (λ t. let other : bytes_eq n x ≡ false = ap (bytes_eq n) (sym (same_name name x t)) ∙ h in
    ap (λ b. is_listed n (cond (not b) (x ∷ without name names) (without name names))) t ∙ without_other n name names h ∙ sym (ap (λ b. b || is_listed n names) other))
    (λ f. ap (λ b. is_listed n (cond (not b) (x ∷ without name names) (without name names))) f ∙ ap (λ b. bytes_eq n x || b) (without_other n name names h))

swapped : (a b c : Bool) → (a || (b || c)) ≡ (b || (a || c))
swapped true true c = refl
swapped true false c = refl
swapped false b c = refl

not_first : (a b : Bool) → a ≡ false → (a || b) ≡ true → b ≡ true
not_first true b h k = let bad : ⊥ = cc in absurd bad
not_first false b h k = k

above_listed : (n name other : Word) (names : List Word) → is_listed other names ≡ true → is_listed n (just_above name other names) ≡ (bytes_eq n name || is_listed n names)
above_listed n name other [] h = let bad : ⊥ = cc in absurd bad
above_listed n name other (x ∷ names) h =
    split (bytes_eq other x)
    (λ t. ap (λ b. is_listed n (cond b (x ∷ name ∷ names) (x ∷ just_above name other names))) t ∙ swapped (bytes_eq n x) (bytes_eq n name) (is_listed n names))
    (λ f. ap (λ b. is_listed n (cond b (x ∷ name ∷ names) (x ∷ just_above name other names))) f
    ∙ ap (λ b. bytes_eq n x || b) (above_listed n name other names (not_first (bytes_eq other x) (is_listed other names) f h))
    ∙ swapped (bytes_eq n x) (bytes_eq n name) (is_listed n names))

below_listed : (n name other : Word) (names : List Word) → is_listed other names ≡ true → is_listed n (just_below name other names) ≡ (bytes_eq n name || is_listed n names)
below_listed n name other [] h = let bad : ⊥ = cc in absurd bad
below_listed n name other (x ∷ names) h =
    split (bytes_eq other x)
    (λ t. ap (λ b. is_listed n (cond b (name ∷ x ∷ names) (x ∷ just_below name other names))) t)
    (λ f. ap (λ b. is_listed n (cond b (name ∷ x ∷ names) (x ∷ just_below name other names))) f
    ∙ ap (λ b. bytes_eq n x || b) (below_listed n name other names (not_first (bytes_eq other x) (is_listed other names) f h))
    ∙ swapped (bytes_eq n x) (bytes_eq n name) (is_listed n names))

-- one name more beside those that stay
beside : (n name : Word) (names : List Word) → is_listed n names ≡ true → (bytes_eq n name || is_listed n (without name names)) ≡ true
beside n name names h =
    split (bytes_eq n name)
    (λ t. or_left (bytes_eq n name) (is_listed n (without name names)) t)
    (λ f. or_right (bytes_eq n name) (is_listed n (without name names)) (without_other n name names f ∙ h))

last_one : (a b : Bool) → (a || b) ≡ true → (b || (a || false)) ≡ true
last_one true b h = or_right b true refl
last_one false true h = refl
last_one false false h = h

other_way : (a b : Word) → bytes_eq a b ≡ false → bytes_eq b a ≡ false
other_way a b h = split (bytes_eq b a)
    (λ t. let same : bytes_eq a b ≡ true = ap (bytes_eq a) (same_name b a t) ∙ name_itself a in absurd (let bad : ⊥ = cc in bad))
    (λ f. f)

pub raised_listed : (name : Word) (above : Option Word) (names : List Word) → is_place above names ≡ true → (n : Word) → is_listed n names ≡ true → is_listed n (raised name above names) ≡ true
raised_listed name None names p n h =
    list_any-append (bytes_eq n) (without name names) (name ∷ []) ∙ last_one (bytes_eq n name) (is_listed n (without name names)) (beside n name names h)
raised_listed name (Some other) names p n h =
    split (bytes_eq name other)
    (λ t. ap (λ b. is_listed n (cond b names (just_above name other (without name names)))) t ∙ h)
    (λ f. ap (λ b. is_listed n (cond b names (just_above name other (without name names)))) f
    ∙ above_listed n name other (without name names) (without_other other name names (other_way name other f) ∙ p) ∙ beside n name names h)

pub lowered_listed : (name : Word) (below : Option Word) (names : List Word) → is_place below names ≡ true → (n : Word) → is_listed n names ≡ true → is_listed n (lowered name below names) ≡ true
lowered_listed name None names p n h = beside n name names h
lowered_listed name (Some other) names p n h =
    split (bytes_eq name other)
    (λ t. ap (λ b. is_listed n (cond b names (just_below name other (without name names)))) t ∙ h)
    (λ f. ap (λ b. is_listed n (cond b names (just_below name other (without name names)))) f
    ∙ below_listed n name other (without name names) (without_other other name names (other_way name other f) ∙ p) ∙ beside n name names h)

-- THEY ARE NAMES

one_name : (name : Word) → IsName name → All IsName (name ∷ [])
one_name name h = All-cons IsName name [] h (All-nil IsName)

above_names : (name other : Word) (names : List Word) → IsName name → All IsName names → All IsName (just_above name other names)
above_names name other [] h k = k
above_names name other (x ∷ names) h k =
    let rest : All IsName names = All-tail IsName x names k in
    let first : IsName x = All-head IsName x names k in
    by (bytes_eq other x) (All-cons IsName x (name ∷ names) first (All-cons IsName name names h rest)) (All-cons IsName x (just_above name other names) first (above_names name other names h rest))
  where
    by : (b : Bool) → All IsName (x ∷ name ∷ names) → All IsName (x ∷ just_above name other names) → All IsName (cond b (x ∷ name ∷ names) (x ∷ just_above name other names))
    by true a c = a
    by false a c = c

below_names : (name other : Word) (names : List Word) → IsName name → All IsName names → All IsName (just_below name other names)
below_names name other [] h k = k
below_names name other (x ∷ names) h k =
    let rest : All IsName names = All-tail IsName x names k in
    let first : IsName x = All-head IsName x names k in
    by (bytes_eq other x) (All-cons IsName name (x ∷ names) h k) (All-cons IsName x (just_below name other names) first (below_names name other names h rest))
  where
    by : (b : Bool) → All IsName (name ∷ x ∷ names) → All IsName (x ∷ just_below name other names) → All IsName (cond b (name ∷ x ∷ names) (x ∷ just_below name other names))
    by true a c = a
    by false a c = c

pub without_names : (name : Word) (names : List Word) → All IsName names → All IsName (without name names)
without_names name names h = All-filter (λ x. not (bytes_eq name x)) IsName names h

either : (b : Bool) (xs ys : List Word) → All IsName xs → All IsName ys → All IsName (cond b xs ys)
either true xs ys h k = h
either false xs ys h k = k

raised_names : (name : Word) (above : Option Word) (names : List Word) → IsName name → All IsName names → All IsName (raised name above names)
raised_names name None names h k = All-append IsName (without name names) (name ∷ []) (without_names name names k) (one_name name h)
raised_names name (Some other) names h k =
    either (bytes_eq name other) names (just_above name other (without name names)) k (above_names name other (without name names) h (without_names name names k))

lowered_names : (name : Word) (below : Option Word) (names : List Word) → IsName name → All IsName names → All IsName (lowered name below names)
lowered_names name None names h k = All-cons IsName name (without name names) h (without_names name names k)
lowered_names name (Some other) names h k =
    either (bytes_eq name other) names (just_below name other (without name names)) k (below_names name other (without name names) h (without_names name names k))

-- CALLS OF THE TABLE

both_of : (a b : Bool) (x : Unit {0}) → ◌≡◌ {A = Result (Unit {0}) Fault} (Ok x) (if a && b then Ok tt else Err NoTag) → (a ≡ true) × (b ≡ true)
both_of true true x e = (refl, refl)
both_of true false x e = let bad : ⊥ = cc in absurd bad
both_of false b x e = let bad : ⊥ = cc in absurd bad

pub raise_keeps : (name : Word) (above : Option Word) (old new : Tags) (cells : List TaggedCell) (r : Result (Unit {0}) Fault) → OnOk r (new.names ≡ raised name above old.names) → OnErr r (new ≡ old)
    → r ≡ (if is_listed name old.names && is_place above old.names then Ok tt else Err NoTag) → AreListed old.names cells → AreListed new.names cells
raise_keeps name above old new cells (Ok x) done same answer listed =
    let p = both_of (is_listed name old.names) (is_place above old.names) x answer in
    subst (λ names. AreListed names cells) (sym done)
    (listed_more old.names (raised name above old.names) cells (raised_listed name above old.names p.1) (raised_names name above old.names (listed_name name old.names listed.names p.0) listed.names) listed)
raise_keeps name above old new cells (Err fault) done same answer listed = subst (λ (t : Tags). AreListed t.names cells) (sym same) listed

pub lower_keeps : (name : Word) (below : Option Word) (old new : Tags) (cells : List TaggedCell) (r : Result (Unit {0}) Fault) → OnOk r (new.names ≡ lowered name below old.names) → OnErr r (new ≡ old)
    → r ≡ (if is_listed name old.names && is_place below old.names then Ok tt else Err NoTag) → AreListed old.names cells → AreListed new.names cells
lower_keeps name below old new cells (Ok x) done same answer listed =
    let p = both_of (is_listed name old.names) (is_place below old.names) x answer in
    subst (λ names. AreListed names cells) (sym done)
    (listed_more old.names (lowered name below old.names) cells (lowered_listed name below old.names p.1) (lowered_names name below old.names (listed_name name old.names listed.names p.0) listed.names) listed)
lower_keeps name below old new cells (Err fault) done same answer listed = subst (λ (t : Tags). AreListed t.names cells) (sym same) listed

-- A NEW DOCUMENT

abbrev pub new_table : TagStates
new_table = record { names = []; states = [] ∷ [] }

-- no tag is on the final newline
pub listed_new : AreListed (sel ∷ []) (map (shown new_table) (final_cell ∷ []))
listed_new = record {
  each = All-cons (λ cell. (name : Word) → is_on name cell.state ≡ true → is_listed name (sel ∷ []) ≡ true) (shown new_table final_cell) [] (λ name on. let bad : ⊥ = cc in absurd bad)
      (All-nil (λ cell. (name : Word) → is_on name cell.state ≡ true → is_listed name (sel ∷ []) ≡ true));
  sel = refl;
  names = one_name sel (omega arith, omega arith);
  shared = All-cons (λ (cell : TaggedCell). IsShared cell.state) (shown new_table final_cell) [] (All-nil (λ (w : Write). bytes_eq w.name sel ≡ false)) (All-nil (λ (cell : TaggedCell). IsShared cell.state));
}
