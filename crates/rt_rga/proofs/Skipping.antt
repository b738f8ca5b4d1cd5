-- What a new character changes in the reading.
use Rattle.std.proofs.Common.{◌≡◌, Bool, true, false, refl, sym, ◌∙◌, arith, List, [], ◌∷◌, ◌++◌, cond, ◌||◌}
use Rattle.std.proofs.lemmas.Bool.Decides.{nat_tests}
use Rattle.std.proofs.lemmas.List.Folds.{list_any-append}
use Rattle.std.specs.List.{AllByRecursion}
use Rattle.rt_stamps.specs.declared.stamp.Stamp.{Stamp}
use Rattle.rt_stamps.specs.Stamps.{is_before, is_same}
use Rattle.rt_rga.specs.Reading.{Character, descendants, with_character, has_stamp}
use Rattle.rt_rga.proofs.Rooted.{IsAscending}
use Rattle.rt_stamps.proofs.Order.{before_trans, before_asym, before_total, same_sym, same_from_true, differ, differ_back}

-- a new character past all directly following ones with greater stamps
abbrev pub skip : Character → List Character → List Character
skip new [] = new ∷ []
skip new (c ∷ cs) = cond (is_before new.stamp c.stamp) (c ∷ skip new cs) (new ∷ c ∷ cs)

-- that, directly after its left element
abbrev pub skip_after_left : Character → List Character → List Character
skip_after_left new [] = []
skip_after_left new (c ∷ cs) = cond (is_same c.stamp new.left) (c ∷ skip new cs) (c ∷ skip_after_left new cs)

-- that, where `parent` stands directly before the list
abbrev pub placed : Stamp → Character → List Character → List Character
placed parent new cs = cond (is_same new.left parent) (skip new cs) (skip_after_left new cs)

pub split : {A : Type 0} (b : Bool) → (b ≡ true → A) → (b ≡ false → A) → A
split true f g = f refl
split false f g = g refl

-- each is after a stamp
abbrev pub AllAfter : Stamp → List Character → Type 0
AllAfter s cs = AllByRecursion (λ d. is_before s d.stamp ≡ true) cs

pub all_append : (P : Character → Type 0) (xs ys : List Character) → AllByRecursion P xs → AllByRecursion P ys → AllByRecursion P (xs ++ ys)
all_append P [] ys h k = k
all_append P (x ∷ xs) ys h k = (h.0, all_append P xs ys h.1 k)

pub all_weaker : (P Q : Character → Type 0) → ((d : Character) → P d → Q d) → (xs : List Character) → AllByRecursion P xs → AllByRecursion Q xs
all_weaker P Q w [] h = tt
all_weaker P Q w (x ∷ xs) h = (w x h.0, all_weaker P Q w xs h.1)

pub all_after_trans : (s t : Stamp) → is_before s t ≡ true → (xs : List Character) → AllAfter t xs → AllAfter s xs
all_after_trans s t h xs k = all_weaker (λ d. is_before t d.stamp ≡ true) (λ d. is_before s d.stamp ≡ true) (λ d e. before_trans s t d.stamp h e) xs k

-- what holds of all characters holds of those descendants an element
pub all_descendants : (P : Character → Type 0) (cs : List Character) → AllByRecursion P cs → (p : Stamp) → AllByRecursion P (descendants cs p)
all_descendants P [] h p = tt
all_descendants P (c ∷ cs) h p =
    elim (is_same c.left p) as (λ t. AllByRecursion P (cond t (descendants cs p ++ c ∷ descendants cs c.stamp) (descendants cs p))) [
      | true ↦ all_append P (descendants cs p) (c ∷ descendants cs c.stamp) (all_descendants P cs h.1 p) (h.0, all_descendants P cs h.1 c.stamp)
      | false ↦ all_descendants P cs h.1 p
    ]

pub absent_after : (s : Stamp) (cs : List Character) → AllAfter s cs → has_stamp cs s ≡ false
absent_after s [] h = refl
absent_after s (c ∷ cs) h = grind (arith, differ_back s c.stamp h.0, absent_after s cs h.1)

pub descendants_after : (s : Stamp) (cs : List Character) → AllAfter s cs → (p : Stamp) → has_stamp (descendants cs p) s ≡ false
descendants_after s cs h p = absent_after s (descendants cs p) (all_descendants (λ d. is_before s d.stamp ≡ true) cs h p)

-- an element is descendants one of two siblings' parents at most: the choice, on tests alone
apart_tests : (t t' mp mq mc e : Bool) → (t ≡ true → t' ≡ false)
    → (mp ≡ true → mq ≡ false) → (mp ≡ true → mc ≡ false) → (mc ≡ true → mq ≡ false)
    → (e ≡ true → mp ≡ false) → (e ≡ true → mq ≡ false)
    → cond t (mp || (e || mc)) mp ≡ true → cond t' (mq || (e || mc)) mq ≡ false
apart_tests t t' mp mq mc e n a b c d f h = grind arith

pub member_choice : (c : Character) (t : Bool) (xs ys : List Character) (q : Stamp)
    → has_stamp (cond t (xs ++ c ∷ ys) xs) q ≡ cond t (has_stamp xs q || (is_same c.stamp q || has_stamp ys q)) (has_stamp xs q)
member_choice c t xs ys q =
    elim t as (λ t. has_stamp (cond t (xs ++ c ∷ ys) xs) q ≡ cond t (has_stamp xs q || (is_same c.stamp q || has_stamp ys q)) (has_stamp xs q)) [
      | true ↦ list_any-append (λ d. is_same d.stamp q) xs (c ∷ ys)
      | false ↦ refl
    ]

not_both : (c p p' : Stamp) → is_same p p' ≡ false → is_same c p ≡ true → is_same c p' ≡ false
not_both c p p' n h = grind (arith, nat_tests)

same_absent : (c q : Stamp) (cs : List Character) → AllAfter c cs → is_same c q ≡ true → (p : Stamp) → has_stamp (descendants cs p) q ≡ false
same_absent c q cs h e p = rw (← same_from_true c q e) (descendants_after c cs h p)

-- no element is descendants two that are before all characters
pub descendants_apart : (cs : List Character) → IsAscending cs → (p p' : Stamp) → AllAfter p cs → AllAfter p' cs → is_same p p' ≡ false
    → (q : Stamp) → has_stamp (descendants cs p) q ≡ true → has_stamp (descendants cs p') q ≡ false
descendants_apart [] asc p p' a b n q h = refl
descendants_apart (c ∷ cs) asc p p' a b n q h =
    member_choice c (is_same c.left p') (descendants cs p') (descendants cs c.stamp) q
    ∙ apart_tests (is_same c.left p) (is_same c.left p') (has_stamp (descendants cs p) q) (has_stamp (descendants cs p') q) (has_stamp (descendants cs c.stamp) q) (is_same c.stamp q)
    (not_both c.left p p' n)
    (descendants_apart cs asc.1 p p' a.1 b.1 n q)
    (descendants_apart cs asc.1 p c.stamp a.1 asc.0 (differ p c.stamp a.0) q)
    (descendants_apart cs asc.1 c.stamp p' asc.0 b.1 (differ_back p' c.stamp b.0) q)
    (λ e. same_absent c.stamp q cs asc.0 e p)
    (λ e. same_absent c.stamp q cs asc.0 e p')
    (sym (member_choice c (is_same c.left p) (descendants cs p) (descendants cs c.stamp) q) ∙ h)

pub childless : (s : Stamp) (cs : List Character) → AllByRecursion (λ d. is_same d.left s ≡ false) cs → descendants cs s ≡ []
childless s [] h = refl
childless s (c ∷ cs) h = grind (arith, h.0, childless s cs h.1)

pub skip_past : (new : Character) (xs : List Character) → AllAfter new.stamp xs → skip new xs ≡ xs ++ new ∷ []
skip_past new [] h = refl
skip_past new (x ∷ xs) h = grind (arith, h.0, skip_past new xs h.1)

pub skip_stops : (new d : Character) (xs ys : List Character) → is_before new.stamp d.stamp ≡ false → skip new (xs ++ d ∷ ys) ≡ skip new xs ++ d ∷ ys
skip_stops new d [] ys h = rw h
skip_stops new d (x ∷ xs) ys h = grind (arith, skip_stops new d xs ys h)

pub after_absent : (new : Character) (xs : List Character) → has_stamp xs new.left ≡ false → skip_after_left new xs ≡ xs
after_absent new [] h = refl
after_absent new (x ∷ xs) h = grind (arith, h, after_absent new xs)

pub after_in_front : (new d : Character) (xs ys : List Character) → is_before new.stamp d.stamp ≡ false → has_stamp xs new.left ≡ true
    → skip_after_left new (xs ++ d ∷ ys) ≡ skip_after_left new xs ++ d ∷ ys
after_in_front new d [] ys h k = cc
after_in_front new d (x ∷ xs) ys h k = grind (arith, k, skip_stops new d xs ys h, after_in_front new d xs ys h)

pub after_behind : (new d : Character) (xs ys : List Character) → has_stamp xs new.left ≡ false → is_same d.stamp new.left ≡ false
    → skip_after_left new (xs ++ d ∷ ys) ≡ xs ++ d ∷ skip_after_left new ys
after_behind new d [] ys h k = rw k
after_behind new d (x ∷ xs) ys h k = grind (arith, h, after_behind new d xs ys)

pub after_at : (new d : Character) (xs ys : List Character) → has_stamp xs new.left ≡ false → is_same d.stamp new.left ≡ true
    → skip_after_left new (xs ++ d ∷ ys) ≡ xs ++ d ∷ skip new ys
after_at new d [] ys h k = rw k
after_at new d (x ∷ xs) ys h k = grind (arith, h, after_at new d xs ys)

here : (new : Character) (xs : List Character) (p : Stamp) → AllAfter new.stamp xs → has_stamp xs new.left ≡ false
    → cond (is_same new.left p) (xs ++ new ∷ []) xs ≡ placed p new xs
here new xs p h k = elim (is_same new.left p) as (λ t. cond t (xs ++ new ∷ []) xs ≡ cond t (skip new xs) (skip_after_left new xs)) [
  | true ↦ sym (skip_past new xs h)
  | false ↦ sym (after_absent new xs k)
]

-- The new character is the least.
law_here : (new : Character) (cs : List Character) → is_before new.left new.stamp ≡ true → AllAfter new.stamp cs
    → AllByRecursion (λ d. is_same d.left new.stamp ≡ false) cs → (p : Stamp) → descendants (new ∷ cs) p ≡ placed p new (descendants cs p)
law_here new cs g h k p =
    rw (childless new.stamp cs k)
    (here new (descendants cs p) p (all_descendants (λ d. is_before new.stamp d.stamp ≡ true) cs h p)
    (descendants_after new.left cs (all_after_trans new.left new.stamp g cs h) p))

pub placed_at : (new : Character) (p : Stamp) (xs : List Character) → is_same new.left p ≡ true → placed p new xs ≡ skip new xs
placed_at new p xs e = rw e

pub placed_after : (new : Character) (p : Stamp) (xs : List Character) → is_same new.left p ≡ false → placed p new xs ≡ skip_after_left new xs
placed_after new p xs e = rw e

placed_absent : (new : Character) (p : Stamp) (xs : List Character) → is_same new.left p ≡ false → has_stamp xs new.left ≡ false → placed p new xs ≡ xs
placed_absent new p xs e h = rw e (after_absent new xs h)

-- A lesser character c stands before it. Its left element is p, c, descendants p before c, or elsewhere.
module _ (new c : Character) (xp xc : List Character) (p : Stamp) (h : is_before c.stamp new.stamp ≡ true) (k : is_before p c.stamp ≡ true) where
  lower_at_parent : is_same new.left p ≡ true → (is_before new.left c.stamp ≡ true → has_stamp xc new.left ≡ false)
      → placed p new xp ++ c ∷ placed c.stamp new xc ≡ placed p new (xp ++ c ∷ xc)
  lower_at_parent e n =
      let b : is_before new.left c.stamp ≡ true = rw (same_from_true new.left p e) k in
      let first = placed_at new p xp e in
      let second = placed_absent new c.stamp xc (differ new.left c.stamp b) (n b) in
      let third = placed_at new p (xp ++ c ∷ xc) e in
      let last = skip_stops new c xp xc (before_asym c.stamp new.stamp h) in
      cc

  lower_at_it : is_same new.left p ≡ false → is_same new.left c.stamp ≡ true → has_stamp xp c.stamp ≡ false
      → placed p new xp ++ c ∷ placed c.stamp new xc ≡ placed p new (xp ++ c ∷ xc)
  lower_at_it e f m =
      let b : has_stamp xp new.left ≡ false = rw (same_from_true new.left c.stamp f) m in
      let first = placed_absent new p xp e b in
      let second = placed_at new c.stamp xc f in
      let third = placed_after new p (xp ++ c ∷ xc) e in
      let last = after_at new c xp xc b (same_sym c.stamp new.left ∙ f) in
      cc

  lower_before : is_same new.left p ≡ false → is_same new.left c.stamp ≡ false → has_stamp xp new.left ≡ true → has_stamp xc new.left ≡ false
      → placed p new xp ++ c ∷ placed c.stamp new xc ≡ placed p new (xp ++ c ∷ xc)
  lower_before e f m o =
      let first = placed_after new p xp e in
      let second = placed_absent new c.stamp xc f o in
      let third = placed_after new p (xp ++ c ∷ xc) e in
      let last = after_in_front new c xp xc (before_asym c.stamp new.stamp h) m in
      cc

  lower_behind : is_same new.left p ≡ false → is_same new.left c.stamp ≡ false → has_stamp xp new.left ≡ false
      → placed p new xp ++ c ∷ placed c.stamp new xc ≡ placed p new (xp ++ c ∷ xc)
  lower_behind e f m =
      let first = placed_absent new p xp e m in
      let second = placed_after new c.stamp xc f in
      let third = placed_after new p (xp ++ c ∷ xc) e in
      let last = after_behind new c xp xc m (same_sym c.stamp new.left ∙ f) in
      cc

  law_lower : has_stamp xp c.stamp ≡ false → (is_before new.left c.stamp ≡ true → has_stamp xc new.left ≡ false)
      → (has_stamp xp new.left ≡ true → has_stamp xc new.left ≡ false)
      → placed p new xp ++ c ∷ placed c.stamp new xc ≡ placed p new (xp ++ c ∷ xc)
  law_lower m n o =
      split (is_same new.left p) (λ e. lower_at_parent e n)
      (λ e. split (is_same new.left c.stamp) (λ f. lower_at_it e f m)
      (λ f. split (has_stamp xp new.left) (λ g. lower_before e f g (o g)) (λ g. lower_behind e f g)))

law_choice : (new c : Character) (wp wc xp xc : List Character) (p : Stamp) → wp ≡ placed p new xp → wc ≡ placed c.stamp new xc
    → (is_same c.left p ≡ true → placed p new xp ++ c ∷ placed c.stamp new xc ≡ placed p new (xp ++ c ∷ xc))
    → cond (is_same c.left p) (wp ++ c ∷ wc) wp ≡ placed p new (cond (is_same c.left p) (xp ++ c ∷ xc) xp)
law_choice new c wp wc xp xc p a b h =
    split (is_same c.left p) (λ e. rw (e, a, b) (h e)) (λ e. rw (e, a))

pub law : (new : Character) → is_before new.left new.stamp ≡ true → (cs : List Character)
    → IsAscending cs → AllByRecursion (λ d. is_before d.left d.stamp ≡ true) cs → AllByRecursion (λ d. is_same d.left new.stamp ≡ false) cs
    → AllByRecursion (λ d. is_same d.stamp new.stamp ≡ false) cs
    → (p : Stamp) → descendants (with_character new cs) p ≡ placed p new (descendants cs p)
law new g [] asc gr ch fr p = law_here new [] g tt tt p
law new g (c ∷ cs) asc gr ch fr p =
    elim (is_before c.stamp new.stamp) as (λ t. is_before c.stamp new.stamp ≡ t → descendants (cond t (c ∷ with_character new cs) (new ∷ c ∷ cs)) p ≡ placed p new (descendants (c ∷ cs) p)) [
      | true ↦ λ e. law_choice new c (descendants (with_character new cs) p) (descendants (with_character new cs) c.stamp) (descendants cs p) (descendants cs c.stamp) p
          (law new g cs asc.1 gr.1 ch.1 fr.1 p) (law new g cs asc.1 gr.1 ch.1 fr.1 c.stamp)
          (λ same. let k : is_before p c.stamp ≡ true = rw (← same_from_true c.left p same) gr.0 in
          law_lower new c (descendants cs p) (descendants cs c.stamp) p e k (descendants_after c.stamp cs asc.0 p)
          (λ b. descendants_after new.left cs (all_after_trans new.left c.stamp b cs asc.0) c.stamp)
          (descendants_apart cs asc.1 p c.stamp (all_after_trans p c.stamp k cs asc.0) asc.0 (differ p c.stamp k) new.left))
      | false ↦ λ e. let d : is_before new.stamp c.stamp ≡ true = before_total c.stamp new.stamp e fr.0 in
          law_here new (c ∷ cs) g (d, all_after_trans new.stamp c.stamp d cs asc.0) ch p
    ] refl
