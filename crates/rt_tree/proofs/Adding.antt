-- Laws of totals.
use Rattle.std.proofs.Common.{◌≡◌, ℕ, zero, suc, ◌<◌, ◌≤◌, ◌⊎◌, inl, inr, Bool, true, false, if◌then◌else◌, List, [], ◌∷◌, ◌++◌, length, get_or, take, drop, refl, sym, ap, ◌∙◌, arith, subst}
use Rattle.std.specs.List.{AllByRecursion}
use Rattle.std.proofs.lemmas.Bool.{true≢false}
use Rattle.std.proofs.lemmas.Bool.Decides.{nat_tests}
use Rattle.std.proofs.lemmas.List.{take-append-drop}
use Rattle.rt_stamps.specs.declared.stamp.Stamp.{Stamp}
use Rattle.rt_stamps.specs.Stamps.{is_before, is_same}
use Rattle.rt_stamps.proofs.Order.{before_irrefl, before_total, before_trans, same_from_true}
use Rattle.rt_tree.specs.declared.node.Counts.{Counts}
use Rattle.rt_tree.specs.declared.node.Entry.{Entry}
use Rattle.rt_tree.specs.declared.node.Run.{Run}
use Rattle.rt_tree.specs.declared.node.Totals.{Totals}
use Rattle.rt_tree.specs.Changes.{HasGrown, IsRight, adds_up, entry_totals, join, least_of, links, strip}
use Rattle.rt_tree.specs.Shape.{Memory, all_below, below}
use Rattle.rt_tree.specs.Runs.{first_stamp}
use Rattle.rt_tree.specs.Sums.{AreFew, least_first, lesser, plus, totals_of}
use Rattle.rt_tree.proofs.Amounts.{counts-append, none-plus, plus_assoc, plus_comm}

cases : (b : Bool) → (b ≡ true) ⊎ (b ≡ false)
cases true = inl refl
cases false = inr refl

lesser_yes : (a b : Stamp) → is_before b a ≡ true → lesser a b ≡ b
lesser_yes a b h = ap (λ t. if t then b else a) h

lesser_no : (a b : Stamp) → is_before b a ≡ false → lesser a b ≡ a
lesser_no a b h = ap (λ t. if t then b else a) h

not_before : (a b c : Stamp) → is_before a b ≡ false → is_before b c ≡ false → is_before a c ≡ false
not_before a b c h k = grind (arith, nat_tests)

lesser_assoc : (x y z : Stamp) → lesser (lesser x y) z ≡ lesser x (lesser y z)
lesser_assoc x y z = elim (cases (is_before y x)) [
  | inl p ↦ elim (cases (is_before z y)) [
    | inl q ↦ ap (λ w. lesser w z) (lesser_yes x y p) ∙ lesser_yes y z q ∙ sym (ap (lesser x) (lesser_yes y z q) ∙ lesser_yes x z (before_trans z y x q p))
    | inr q ↦ ap (λ w. lesser w z) (lesser_yes x y p) ∙ lesser_no y z q ∙ sym (ap (lesser x) (lesser_no y z q) ∙ lesser_yes x y p)
  ]
  | inr p ↦ elim (cases (is_before z y)) [
    | inl q ↦ ap (λ w. lesser w z) (lesser_no x y p) ∙ sym (ap (lesser x) (lesser_yes y z q))
    | inr q ↦ ap (λ w. lesser w z) (lesser_no x y p) ∙ lesser_no x z (not_before z y x q p) ∙ sym (ap (lesser x) (lesser_no y z q) ∙ lesser_no x y p)
  ]
]

lesser_comm : (x y : Stamp) → lesser x y ≡ lesser y x
lesser_comm x y = elim (cases (is_before y x)) [
  | inl p ↦ elim (cases (is_before x y)) [
    | inl q ↦ absurd (true≢false (sym (before_trans x y x q p) ∙ before_irrefl x))
    | inr q ↦ lesser_yes x y p ∙ sym (lesser_no y x q)
  ]
  | inr p ↦ elim (cases (is_before x y)) [
    | inl q ↦ lesser_no x y p ∙ sym (lesser_yes y x q)
    | inr q ↦ lesser_no x y p ∙ same_of x y p q ∙ sym (lesser_no y x q)
  ]
] where
  same_of : (x y : Stamp) → is_before y x ≡ false → is_before x y ≡ false → x ≡ y
  same_of x y p q = elim (cases (is_same x y)) [
    | inl s ↦ same_from_true x y s
    | inr s ↦ absurd (true≢false (sym (before_total x y q s) ∙ p))
  ]

abbrev top : Stamp
top = least_first []

-- no stamp above the greatest
abbrev IsLow : Stamp → Type 0
IsLow s = is_before top s ≡ false

low_lesser : (f l : Stamp) → IsLow l → IsLow (lesser f l)
low_lesser f l low = elim (cases (is_before l f)) [
  | inl p ↦ subst IsLow (sym (lesser_yes f l p)) low
  | inr p ↦ subst IsLow (sym (lesser_no f l p)) (not_before top l f low p)
]

low_top : (l : Stamp) → IsLow l → lesser top l ≡ l
low_top l low = elim (cases (is_before l top)) [
  | inl p ↦ lesser_yes top l p
  | inr p ↦ elim (cases (is_same l top)) [
    | inl q ↦ lesser_no top l p ∙ sym (same_from_true l top q)
    | inr q ↦ absurd (contrary (is_before top l) (before_total l top p q) low)
  ]
] where
  contrary : (b : Bool) → b ≡ true → b ≡ false → ⊥
  contrary true h k = cc
  contrary false h k = cc

low_first : (rs : List Run) → IsLow (least_first rs)
low_first [] = before_irrefl top
low_first (r ∷ rs) = low_lesser (first_stamp r) (least_first rs) (low_first rs)

low_adds : (es : List Entry) → IsLow (least_of (adds_up es))
low_adds [] = before_irrefl top
low_adds (e ∷ es) = low_lesser (least_of (entry_totals e)) (least_of (adds_up es)) (low_adds es)

abbrev make : Stamp → Counts → Totals
make s c = record { least_count = s.count; counts = c; least_site = s.site }

pub same_totals : (a b : Totals) → least_of a ≡ least_of b → a.counts ≡ b.counts → a ≡ b
same_totals a b l c = ap (λ s. make s a.counts) l ∙ ap (λ x. make (least_of b) x) c

pub join_assoc : (a b c : Totals) → join (join a b) c ≡ join a (join b c)
join_assoc a b c = same_totals (join (join a b) c) (join a (join b c)) (lesser_assoc (least_of a) (least_of b) (least_of c)) (plus_assoc a.counts b.counts c.counts)

pub join_comm : (a b : Totals) → join a b ≡ join b a
join_comm a b = same_totals (join a b) (join b a) (lesser_comm (least_of a) (least_of b)) (plus_comm a.counts b.counts)

-- what makes totals of others that have grown
pub grown : (before after : Totals) (counts : Counts) → HasGrown before after → plus counts before.counts ≡ after.counts
    → join (make (least_of before) counts) before ≡ after
grown before after counts grows sum =
    let same : lesser (least_of before) (least_of before) ≡ least_of before = lesser_no _ _ (before_irrefl (least_of before)) in
    same_totals (join (make (least_of before) counts) before) after (same ∙ grows.least) sum

pub totals-append : (a b : List Run) → totals_of (a ++ b) ≡ join (totals_of a) (totals_of b)
totals-append a b = same_totals (totals_of (a ++ b)) (join (totals_of a) (totals_of b)) (firsts a b) (counts-append a b) where
  firsts : (a b : List Run) → least_first (a ++ b) ≡ lesser (least_first a) (least_first b)
  firsts [] b = sym (low_top (least_first b) (low_first b))
  firsts (r ∷ a) b = ap (lesser (first_stamp r)) (firsts a b) ∙ sym (lesser_assoc (first_stamp r) (least_first a) (least_first b))

none-join : (t : Totals) → IsLow (least_of t) → join (totals_of []) t ≡ t
none-join t low = same_totals (join (totals_of []) t) t (low_top (least_of t) low) (none-plus t.counts)

pub adds-append : (a b : List Entry) → adds_up (a ++ b) ≡ join (adds_up a) (adds_up b)
adds-append [] b = sym (none-join (adds_up b) (low_adds b))
adds-append (e ∷ a) b = ap (join (entry_totals e)) (adds-append a b) ∙ sym (join_assoc (entry_totals e) (adds_up a) (adds_up b))

-- the sum of right entries is what their runs add up to
pub adds-right : (s : Memory) (k : ℕ) (es : List Entry) → AllByRecursion (IsRight s k) es → adds_up es ≡ totals_of (all_below s k (links es))
adds-right s k [] all = refl
adds-right s k (e ∷ es) all = ap (join (entry_totals e)) (adds-right s k es all.1) ∙ ap (λ t. join t (totals_of (all_below s k (links es)))) all.0 ∙ sym (totals-append (below s k (strip e)) (all_below s k (links es)))

-- FEW

abbrev pub IsSmall : Totals → Type 0
IsSmall t = AreFew t.counts

pub record Le (a b : Totals) : Type 0 where
  pub cells : a.counts.cells ≤ b.counts.cells
  pub visible : a.counts.visible ≤ b.counts.visible
  pub newlines : a.counts.newlines ≤ b.counts.newlines

pub small-le : (a b : Totals) → Le a b → IsSmall b → IsSmall a
small-le a b le small = record { cells = omega (arith, le.cells, small.cells); visible = omega (arith, le.visible, small.visible); newlines = omega (arith, le.newlines, small.newlines) }

pub small-is : (a b : Totals) → a ≡ b → IsSmall b → IsSmall a
small-is a b e small = subst (λ (t : Totals). IsSmall t) (sym e) small

pub le-first : (a b c : Totals) → c ≡ join a b → Le a c
le-first a b c e = subst (Le a) (sym e) (record { cells = omega arith; visible = omega arith; newlines = omega arith })

pub le-second : (a b c : Totals) → c ≡ join a b → Le b c
le-second a b c e = subst (Le b) (sym e) (record { cells = omega arith; visible = omega arith; newlines = omega arith })

pub le-mid : (a b c : List Run) → Le (totals_of b) (totals_of (a ++ (b ++ c)))
le-mid a b c =
    let e = totals-append a (b ++ c) ∙ ap (join (totals_of a)) (totals-append b c) in
    subst (Le (totals_of b)) (sym e) (record { cells = omega arith; visible = omega arith; newlines = omega arith })

-- the last entries
pub drop-next : (es : List Entry) (i j : ℕ) (e : Entry) → i < length es → e ≡ get_or es i e → j ≡ suc i → drop i es ≡ e ∷ drop j es
drop-next [] i j e lt is next = absurd (omega arith)
drop-next (x ∷ es) zero j e lt is next = ap (λ y. y ∷ es) (sym is) ∙ ap (λ n. e ∷ drop n (x ∷ es)) (sym next)
drop-next (x ∷ es) (suc i) j e lt is next = drop-next es i (suc i) e (omega arith) is refl ∙ ap (λ n. e ∷ drop n (x ∷ es)) (sym next)

pub small-drop : (es : List Entry) (i : ℕ) → IsSmall (adds_up es) → IsSmall (adds_up (drop i es))
small-drop es i small = small-le (adds_up (drop i es)) (adds_up es) (le-second (adds_up (take i es)) (adds_up (drop i es)) (adds_up es) (ap adds_up (sym (take-append-drop i es)) ∙ adds-append (take i es) (drop i es))) small

pub join_last : (a b c d : Totals) → a ≡ b → c ≡ d → join a c ≡ join b d
join_last a b c d e f = ap (λ x. join x c) e ∙ ap (join b) f
