-- What `mark next` and `mark previous` find from where they look.
use Rattle.std.proofs.Common.{◌≡◌, ℕ, ◌<◌, ◌&&◌, nat_le, nat_lt, List, [], ◌∷◌, find, true, false, refl, sym, ap, ◌∙◌, Bool, cond, arith, Option, Some, None, is_some, Result, Ok, Err, inl, inr}
use Rattle.std.specs.List.{AllByRecursion}
use Rattle.std.specs.Prelude.{option_and_then}
use Rattle.std.specs.Option.{option_or}
use Rattle.std.specs.Ordering.{nat_cmp, ordering_then, is_lt}
use Rattle.std.specs.Result.{result_err, result_unwrap_or}
use Rattle.std.specs.declared.cmp.Ordering.{Ordering}
use Rattle.std.specs.declared.cmp.Ordering.TheVariants.{Less}
use Rattle.std.proofs.lemmas.Bool.Decides.{nat_tests}
use Rattle.std.proofs.lemmas.Cmp.{ranked, by_ranked}
use Rattle.rt_index.specs.Index.{index_of}
use Rattle.rt_marks.specs.declared.gravity.Gravity.{Gravity}
use Rattle.rt_marks.specs.declared.gravity.Gravity.TheVariants.{Left, Right}
use Rattle.rt_marks.specs.Marks.{Mark, IsName, gravity_order, name_order, comes_before, mark_of_name, find_last, mark_after, mark_before, first_mark_at, last_mark_before}
use Rattle.rt_marks.proofs.Names.{clash}
use Rattle.rt_stamps.specs.declared.fault.Fault.{Fault}
use Rattle.rt_stamps.specs.Outcomes.{unless, Refuses}
use Rattle.rt_stamps.specs.Words.{Word}
use Rattle.rt_text.specs.Widgets.{ViewValue, mark_of, marks_of, widget_of}
use Rattle.rt_tagcmd.specs.Looking.{edge, mark_or, looked_from}
use Rattle.rt_tagcmd.specs.MarkCommands.{found_name, names_mark, mark_next, mark_previous}

-- FROM AN EDGE

least_name : (name : List ℕ) → IsName name → name_order [] name ≡ Less
least_name [] h = absurd (omega (arith, h.0))
least_name (c ∷ name) h = refl

first_there : (gravity : Gravity) (o : Ordering) → o ≡ Less → is_lt (ordering_then (gravity_order Left gravity) o) ≡ true
first_there Left o e = ap is_lt e
first_there Right o e = refl

at_or_after : (x y : ℕ) (o : Ordering) → is_lt o ≡ true → is_lt (ordering_then (nat_cmp x y) o) ≡ nat_le x y
at_or_after x y o h =
    by_ranked _ _ _ (nat_cmp x y) (ranked x y (nat_cmp x y) refl)
    (λ e l. ap (λ v. is_lt (ordering_then v o)) e ∙ le_true l)
    (λ e same. ap (λ v. is_lt (ordering_then v o)) e ∙ h ∙ le_same same)
    (λ e l. ap (λ v. is_lt (ordering_then v o)) e ∙ le_false l)
  where
    le_true : x < y → true ≡ nat_le x y
    le_true l = grind (arith, nat_tests)

    le_same : x ≡ y → true ≡ nat_le x y
    le_same l = grind (arith, nat_tests)

    le_false : y < x → false ≡ nat_le x y
    le_false l = grind (arith, nat_tests)

-- an edge comes before just the marks at its place or behind it
pub edge_first : (place : ℕ) (m : Mark) → IsName m.name → comes_before (edge place) m ≡ nat_le place m.place
edge_first place m h = at_or_after place m.place (ordering_then (gravity_order Left m.gravity) (name_order [] m.name)) (first_there m.gravity (name_order [] m.name) (least_name m.name h))

not_least : (name : List ℕ) → is_lt (name_order name []) ≡ false
not_least [] = refl
not_least (c ∷ name) = refl

last_there : (gravity : Gravity) (o : Ordering) → is_lt o ≡ false → is_lt (ordering_then (gravity_order gravity Left) o) ≡ false
last_there Left o e = e
last_there Right o e = refl

strictly_before : (x y : ℕ) (o : Ordering) → is_lt o ≡ false → is_lt (ordering_then (nat_cmp x y) o) ≡ nat_lt x y
strictly_before x y o h =
    by_ranked _ _ _ (nat_cmp x y) (ranked x y (nat_cmp x y) refl)
    (λ e l. ap (λ v. is_lt (ordering_then v o)) e ∙ lt_true l)
    (λ e same. ap (λ v. is_lt (ordering_then v o)) e ∙ h ∙ lt_same same)
    (λ e l. ap (λ v. is_lt (ordering_then v o)) e ∙ lt_false l)
  where
    lt_true : x < y → true ≡ nat_lt x y
    lt_true l = grind (arith, nat_tests)

    lt_same : x ≡ y → false ≡ nat_lt x y
    lt_same l = grind (arith, nat_tests)

    lt_false : y < x → false ≡ nat_lt x y
    lt_false l = grind (arith, nat_tests)

-- and just the marks strictly before its place come before it
edge_last : (place : ℕ) (m : Mark) → comes_before m (edge place) ≡ nat_lt m.place place
edge_last place m = strictly_before m.place place (ordering_then (gravity_order m.gravity Left) (name_order m.name [])) (last_there m.gravity (name_order m.name []) (not_least m.name))

find_same : (p q : Mark → Bool) (marks : List Mark) → AllByRecursion (λ m. p m ≡ q m) marks → find p marks ≡ find q marks
find_same p q [] h = refl
find_same p q (m ∷ marks) h = λ i. cond (h.0 i) (Some m) (find_same p q marks h.1 i)

last_same : (p q : Mark → Bool) (marks : List Mark) → ((m : Mark) → p m ≡ q m) → find_last p marks ≡ find_last q marks
last_same p q [] h = refl
last_same p q (m ∷ marks) h = λ i. option_or (last_same p q marks h i) (cond (h m i) (Some m) None)

each_edge : (place : ℕ) (marks : List Mark) → AllByRecursion (λ m. IsName m.name) marks → AllByRecursion (λ m. nat_le place m.place ≡ comes_before (edge place) m) marks
each_edge place [] h = tt
each_edge place (m ∷ marks) h = (sym (edge_first place m h.0), each_edge place marks h.1)

first_from_edge : (place : ℕ) (marks : List Mark) → AllByRecursion (λ m. IsName m.name) marks → first_mark_at place marks ≡ find (comes_before (edge place)) marks
first_from_edge place marks h = find_same (λ m. nat_le place m.place) (comes_before (edge place)) marks (each_edge place marks h)

last_from_edge : (place : ℕ) (marks : List Mark) → last_mark_before place marks ≡ find_last (λ m. comes_before m (edge place)) marks
last_from_edge place marks = last_same (λ m. nat_lt m.place place) (λ m. comes_before m (edge place)) marks (λ m. sym (edge_last place m))

-- WHAT IS FOUND

abbrev pub found_from : (Mark → Option Word) → Result Mark Fault → Result (Option Word) Fault
found_from find_from (Ok m) = Ok (find_from m)
found_from find_from (Err fault) = Err fault

either_way : (b : Bool) (m : Option Mark) (r : Result ℕ Fault) (named_one : Option Word) (at_place : ℕ → Option Word) (find_from : Mark → Option Word)
    → (b ≡ true → is_some m ≡ true) → ((x : Mark) → m ≡ Some x → named_one ≡ find_from x) → ((p : ℕ) → at_place p ≡ find_from (edge p))
    → cond b (Ok named_one) (unless (result_err r) (at_place (result_unwrap_or r 0))) ≡ found_from find_from (mark_or (cond b m None) (unless (result_err r) (edge (result_unwrap_or r 0))))
either_way true (Some x) r n f g t s e = ap (λ v. Ok v) (s x refl)
either_way true None r n f g t s e = absurd (clash false (t refl) refl)
either_way false m (Ok p) n f g t s e = ap (λ v. Ok v) (e p)
either_way false m (Err fault) n f g t s e = refl

first_test : (a b : Bool) → (a && b) ≡ true → a ≡ true
first_test true b h = refl
first_test false b h = h

pub next_found : (view : ViewValue) (word : Word) → ((name : List ℕ) → mark_of_name name (marks_of view) ≡ mark_of view name) → AllByRecursion (λ m. IsName m.name) (marks_of view) → mark_next view word ≡ found_from (λ m. found_name (find (comes_before m) (marks_of view))) (looked_from view word)
next_found view word among names =
    let marks = marks_of view in
    either_way (names_mark view word) (mark_of view word) (index_of (widget_of view) word) (found_name (mark_after word marks)) (λ p. found_name (first_mark_at p marks)) (λ m. found_name (find (comes_before m) marks))
    (λ t. first_test _ _ t)
    (λ x e. ap (λ o. found_name (option_and_then (λ m. find (comes_before m) marks) o)) (among word ∙ e))
    (λ p. ap found_name (first_from_edge p marks names))

pub previous_found : (view : ViewValue) (word : Word) → ((name : List ℕ) → mark_of_name name (marks_of view) ≡ mark_of view name) → AllByRecursion (λ m. IsName m.name) (marks_of view) → mark_previous view word ≡ found_from (λ m. found_name (find_last (λ x. comes_before x m) (marks_of view))) (looked_from view word)
previous_found view word among names =
    let marks = marks_of view in
    either_way (names_mark view word) (mark_of view word) (index_of (widget_of view) word) (found_name (mark_before word marks)) (λ p. found_name (last_mark_before p marks)) (λ m. found_name (find_last (λ x. comes_before x m) marks))
    (λ t. first_test _ _ t)
    (λ x e. ap (λ o. found_name (option_and_then (λ m. find_last (λ x. comes_before x m) marks) o)) (among word ∙ e))
    (λ p. ap found_name (last_from_edge p marks))

-- a refusal of the look is the command's
pub refused_from : (outcome : Result (Option Word) Fault) (looked : Result Mark Fault) (find_from : Mark → Option Word) (fault found : Fault) → outcome ≡ found_from find_from looked → Refuses looked found → fault ≡ found → Refuses outcome fault
refused_from outcome looked f fault found e (inl n) s = inl (s ∙ n)
refused_from outcome looked f fault found e (inr r) s = inr (e ∙ ap (found_from f) r ∙ ap (λ x. Err x) (sym s))
