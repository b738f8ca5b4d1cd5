-- Spans that an operation names: those of a list, and that none but one of them has a stamp.
use Rattle.std.proofs.Common.{◌≡◌, ℕ, zero, suc, length, slice_index_or, ◌+◌, ◌<◌, ◌≤◌, Bool, true, false, ◌⊎◌, inl, inr, refl, sym, ap, subst, ◌∙◌, arith, List, [], ◌∷◌, ◌&&◌, ◌==◌, nat_lt}
use Rattle.std.proofs.lemmas.Bool.Decides.{nat_tests}
use Rattle.std.specs.List.{list_all, list_any}
use Rattle.rt_stamps.specs.declared.stamp.Span.{Span}
use Rattle.rt_stamps.specs.declared.stamp.Stamp.{Stamp}
use Rattle.rt_stamps.specs.Spans.{each_next, is_clear_of, is_in_span, is_span}
use Rattle.rt_ops.specs.Operations.{Body, Insert, Delete, Tag}
use Rattle.rt_ops.specs.Rules.{keeps_rules}
use Rattle.rt_rga.proofs.Skipping.{split}
use Rattle.rt_holding.specs.Waiting.{targets}
use Rattle.rt_holding.specs.Waking.{IsSpanAmong}
use Rattle.rt_holding.proofs.Going.{both, or_left, or_right}

-- SPANS THAT ARE NAMED

pub any_of : (p : Span → Bool) (spans : List Span) (span : Span) → IsSpanAmong spans span → p span ≡ true → list_any p spans ≡ true
any_of p [] span i h = absurd i
any_of p (x ∷ spans) span i h = elim i [
  | inl e ↦ or_left (p x) (list_any p spans) (ap p e ∙ h)
  | inr j ↦ or_right (p x) (list_any p spans) (any_of p spans span j h)
]

pub record IsOneOf (p : Span → Bool) (spans : List Span) : Type 0 where
  pub span : Span
  pub among : IsSpanAmong spans span
  pub is : p span ≡ true

pub one_of : (p : Span → Bool) (spans : List Span) → list_any p spans ≡ true → IsOneOf p spans
one_of p [] h = absurd (cc h)
one_of p (x ∷ spans) h = split (p x)
    (λ e. record { span = x; among = inl refl; is = e })
    (λ e. let o = one_of p spans (rw e at h) in record { span = o.span; among = inr o.among; is = o.is })

pub none_of : (p : Span → Bool) (spans : List Span) → ((span : Span) → IsSpanAmong spans span → p span ≡ false) → list_any p spans ≡ false
none_of p [] f = refl
none_of p (x ∷ spans) f = let e = f x (inl refl) in rw e (none_of p spans (λ s i. f s (inr i)))

pub each_of : (p : Span → Bool) (spans : List Span) → list_all p spans ≡ true → (span : Span) → IsSpanAmong spans span → p span ≡ true
each_of p [] h span i = absurd i
each_of p (x ∷ spans) h span i =
    let (a, b) = both (p x) (list_all p spans) h in
    elim i [ inl e ↦ ap p (sym e) ∙ a | inr j ↦ each_of p spans b span j ]

pub of_each : (p : Span → Bool) (spans : List Span) → ((span : Span) → IsSpanAmong spans span → p span ≡ true) → list_all p spans ≡ true
of_each p [] f = refl
of_each p (x ∷ spans) f = let e = f x (inl refl) in rw e (of_each p spans (λ s i. f s (inr i)))

-- ONE SPAN HAS A STAMP

abbrev IsBehind : Span → Span → Type 0
IsBehind a b = (a.site < b.site) ⊎ ((a.site ≡ b.site) × (a.last < b.first))

clear_behind : (a b : Span) → is_clear_of a b ≡ true → IsBehind a b
clear_behind a b h = split (nat_lt a.site b.site)
    (λ e. inl (grind (arith, nat_tests, e)))
    (λ e. let k : ((a.site == b.site) && nat_lt (a.last + 1) b.first) ≡ true = rw e at h in
    let (i, j) = both (a.site == b.site) (nat_lt (a.last + 1) b.first) k in inr (grind (arith, nat_tests, i), grind (arith, nat_tests, j)))

behind_all : (x : Span) (spans : List Span) → list_all is_span spans ≡ true → each_next is_clear_of (x ∷ spans) ≡ true → (y : Span) → IsSpanAmong spans y → IsBehind x y
behind_all x [] a h y i = absurd i
behind_all x (z ∷ spans) a h y i =
    let (c, n) = both (is_clear_of x z) (each_next is_clear_of (z ∷ spans)) h in
    let b = clear_behind x z c in
    let (w, v) = both (is_span z) (list_all is_span spans) a in
    elim i [
      | inl e ↦ subst (IsBehind x) e b
      | inr j ↦ on b (behind_all z spans v n y j) (grind (arith, nat_tests, w))
    ]
  where
    on : IsBehind x z → IsBehind z y → z.first ≤ z.last → IsBehind x y
    on b c w = elim b [
      | inl l ↦ elim c [ inl m ↦ inl (omega (arith, l, m)) | inr m ↦ inl (let s = m.0 in omega (arith, l, s)) ]
      | inr l ↦ elim c [
        | inl m ↦ inl (let s = l.0 in omega (arith, s, m))
        | inr m ↦ inr (l.0 ∙ m.0, let s = l.1 in let t = m.1 in omega (arith, s, t, w))
      ]
    ]

not_both : (a b : Span) (s : Stamp) → IsBehind a b → is_in_span a s ≡ true → is_in_span b s ≡ true → ⊥
not_both a b s h i j =
    let p : s.site ≡ a.site = grind (arith, nat_tests, i) in
    let q : s.site ≡ b.site = grind (arith, nat_tests, j) in
    let l : s.count ≤ a.last = grind (arith, nat_tests, i) in
    let m : b.first ≤ s.count = grind (arith, nat_tests, j) in
    elim h [ inl k ↦ omega (arith, p, q, k) | inr k ↦ (let n = k.1 in omega (arith, l, m, n)) ]

-- spans that keep the rules have a stamp but once
one_has : (spans : List Span) (a b : Span) (s : Stamp) → list_all is_span spans ≡ true → each_next is_clear_of spans ≡ true → IsSpanAmong spans a → IsSpanAmong spans b
    → is_in_span a s ≡ true → is_in_span b s ≡ true → a ≡ b
one_has [] a b s w n i j k l = absurd i
one_has (x ∷ spans) a b s w n i j k l =
    let v = both (is_span x) (list_all is_span spans) w in
    elim i [
      | inl e ↦ elim j [
        | inl f ↦ sym e ∙ f
        | inr g ↦ absurd (not_both a b s (subst (λ z. IsBehind z b) e (behind_all x spans v.1 n b g)) k l)
      ]
      | inr f ↦ elim j [
        | inl g ↦ absurd (not_both b a s (subst (λ z. IsBehind z a) g (behind_all x spans v.1 n a f)) l k)
        | inr g ↦ one_has spans a b s v.1 (later x spans n) f g k l
      ]
    ]
  where
    later : (x : Span) (spans : List Span) → each_next is_clear_of (x ∷ spans) ≡ true → each_next is_clear_of spans ≡ true
    later x [] n = refl
    later x (z ∷ spans) n = (both (is_clear_of x z) (each_next is_clear_of (z ∷ spans)) n).1

pub target_has : (body : Body) (a b : Span) (s : Stamp) → keeps_rules body ≡ true → IsSpanAmong (targets body) a → IsSpanAmong (targets body) b → is_in_span a s ≡ true → is_in_span b s ≡ true → a ≡ b
target_has (Insert after tags text) a b s r i j k l = elim i [ inl e ↦ elim j [ inl f ↦ sym e ∙ f | inr f ↦ absurd f ] | inr e ↦ absurd e ]
target_has (Delete spans) a b s r i j k l = let c = rules spans r in one_has spans a b s c.0 c.1 i j k l
  where
    rules : (spans : List Span) → keeps_rules (Delete spans) ≡ true → (list_all is_span spans ≡ true) × (each_next is_clear_of spans ≡ true)
    rules spans r = both (list_all is_span spans) (each_next is_clear_of spans) (both _ (list_all is_span spans && each_next is_clear_of spans) r).1
target_has (Tag on name spans) a b s r i j k l = let c = rules on name spans r in one_has spans a b s c.0 c.1 i j k l
  where
    rules : (on : Bool) (name : List ℕ) (spans : List Span) → keeps_rules (Tag on name spans) ≡ true → (list_all is_span spans ≡ true) × (each_next is_clear_of spans ≡ true)
    rules on name spans r = both (list_all is_span spans) (each_next is_clear_of spans) (both _ (list_all is_span spans && each_next is_clear_of spans) (both _ (keeps_rules (Delete spans)) r).1).1

-- WHAT STANDS IN A LIST

pub among_at : (spans : List Span) (i : ℕ) (span : Span) → i < length spans → span ≡ slice_index_or spans i span → IsSpanAmong spans span
among_at [] i span l e = absurd (omega (arith, l))
among_at (x ∷ spans) zero span l e = inl (sym e)
among_at (x ∷ spans) (suc i) span l e = inr (among_at spans i span (omega (arith, l)) e)
