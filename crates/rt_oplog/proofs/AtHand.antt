-- The ends of sites that are at hand.
use Rattle.std.proofs.Common.{◌≡◌, ℕ, zero, suc, ◌+◌, ◌<◌, ◌≤◌, ◌==◌, ◌∙◌, Bool, List, [], ◌∷◌, ◌++◌, length, get_or, set, drop, max, true, false, ap, refl, arith, if◌then◌else◌}
use Rattle.std.proofs.lemmas.Bool.Decides.{nat_tests}
use Rattle.std.specs.List.{AllByRecursion}
use Rattle.rt_spans.specs.Shown.{SpanMapValue}
use Rattle.rt_oplog.specs.declared.ends.SiteEnd.{SiteEnd}
use Rattle.rt_oplog.specs.Ends.{end_at_hand, end_kept, is_of_another}
use Rattle.rt_oplog.specs.Kept.{leading}
use Rattle.rt_oplog.proofs.Sets.{split}

-- where a site's end stands

pub at_hand_found : (recent : List SiteEnd) (others : SpanMapValue ℕ) (site : ℕ) (d : SiteEnd) → leading (is_of_another site) recent < length recent
    → (get_or recent (leading (is_of_another site) recent) d).last ≡ end_at_hand recent others site
at_hand_found [] others site d h = absurd (omega (arith, h))
at_hand_found (e ∷ recent) others site d h = split (e.site == site)
    (λ t. rw t refl)
    (λ f. let k : suc (leading (is_of_another site) recent) < suc (length recent) = rw f at h in rw f (at_hand_found recent others site d (omega (arith, k))))

pub at_hand_none : (recent : List SiteEnd) (others : SpanMapValue ℕ) (site : ℕ) → length recent ≤ leading (is_of_another site) recent → end_kept others site ≡ end_at_hand recent others site
at_hand_none [] others site h = refl
at_hand_none (e ∷ recent) others site h = split (e.site == site)
    (λ t. let k : suc (length recent) ≤ 0 = rw t at h in absurd (omega (arith, k)))
    (λ f. let k : suc (length recent) ≤ suc (leading (is_of_another site) recent) = rw f at h in rw f (at_hand_none recent others site (omega (arith, k))))

-- the last of them is kept in place of being at hand
pub at_hand_leaves : (recent : List SiteEnd) (leaving : SiteEnd) (old new : SpanMapValue ℕ) → ((s : ℕ) → end_kept new s ≡ (if leaving.site == s then leaving.last else end_kept old s))
    → (s : ℕ) → end_at_hand recent new s ≡ end_at_hand (recent ++ leaving ∷ []) old s
at_hand_leaves [] leaving old new h s = h s
at_hand_leaves (e ∷ recent) leaving old new h s = split (e.site == s) (λ t. rw t refl) (λ f. rw f (at_hand_leaves recent leaving old new h s))

-- another is brought in front
pub at_hand_brought : (recent : List SiteEnd) (leaving : SiteEnd) (old new : SpanMapValue ℕ) (site : ℕ) → length (recent ++ leaving ∷ []) ≤ leading (is_of_another site) (recent ++ leaving ∷ [])
    → ((s : ℕ) → end_kept new s ≡ (if leaving.site == s then leaving.last else end_kept old s))
    → (s : ℕ) → end_at_hand (record { site = site; last = end_kept old site } ∷ recent) new s ≡ end_at_hand (recent ++ leaving ∷ []) old s
at_hand_brought recent leaving old new site w h s = split (site == s)
    (λ t. let same : site ≡ s = grind (arith, nat_tests, t) in rw t (at_hand_none (recent ++ leaving ∷ []) old site w ∙ ap (end_at_hand (recent ++ leaving ∷ []) old) same))
    (λ f. rw f (at_hand_leaves recent leaving old new h s))

-- what is kept stays
pub at_hand_stays : (recent : List SiteEnd) (old new : SpanMapValue ℕ) → ((s : ℕ) → end_kept new s ≡ end_kept old s) → (s : ℕ) → end_at_hand recent new s ≡ end_at_hand recent old s
at_hand_stays [] old new h s = h s
at_hand_stays (e ∷ recent) old new h s = ap (λ n. if e.site == s then e.last else n) (at_hand_stays recent old new h s)

-- no site has an end
pub at_hand_empty : (recent : List SiteEnd) (others : SpanMapValue ℕ) → AllByRecursion (λ end. end.last ≡ 0) recent → ((s : ℕ) → end_kept others s ≡ 0) → (s : ℕ) → end_at_hand recent others s ≡ 0
at_hand_empty [] others z h s = h s
at_hand_empty (e ∷ recent) others z h s = split (e.site == s) (λ t. rw t z.0) (λ f. rw f (at_hand_empty recent others z.1 h s))

-- how many pass in front, one after the other

pub leading_step : {X : Type 0} (p : X → Bool) (xs : List X) (i : ℕ) (d : X) → i < length xs → p (get_or xs i d) ≡ true → leading p (drop i xs) ≡ suc (leading p (drop (i + 1) xs))
leading_step p [] i d l e = absurd (omega (arith, l))
leading_step p (x ∷ xs) zero d l e = rw e refl
leading_step p (x ∷ xs) (suc i) d l e = let n : suc i + 1 ≡ suc (i + 1) = omega arith in rw n (leading_step p xs i d (omega (arith, l)) e)

pub leading_stop : {X : Type 0} (p : X → Bool) (xs : List X) (i : ℕ) (d : X) → i < length xs → p (get_or xs i d) ≡ false → leading p (drop i xs) ≡ 0
leading_stop p [] i d l e = absurd (omega (arith, l))
leading_stop p (x ∷ xs) zero d l e = rw e refl
leading_stop p (x ∷ xs) (suc i) d l e = leading_stop p xs i d (omega (arith, l)) e

pub leading_past : {X : Type 0} (p : X → Bool) (xs : List X) (i : ℕ) → length xs ≤ i → leading p (drop i xs) ≡ 0
leading_past p [] zero l = refl
leading_past p [] (suc i) l = refl
leading_past p (x ∷ xs) zero l = absurd (omega (arith, l))
leading_past p (x ∷ xs) (suc i) l = leading_past p xs i (omega (arith, l))

-- the end of a site that is at hand is raised
pub at_hand_raised : (recent : List SiteEnd) (others : SpanMapValue ℕ) (site last : ℕ) (d : SiteEnd) → leading (is_of_another site) recent < length recent → (s : ℕ)
    → end_at_hand (set recent (leading (is_of_another site) recent) (record { site = (get_or recent (leading (is_of_another site) recent) d).site; last = max last (get_or recent (leading (is_of_another site) recent) d).last })) others s
    ≡ (if site == s then max last (end_at_hand recent others s) else end_at_hand recent others s)
at_hand_raised [] others site last d h s = absurd (omega (arith, h))
at_hand_raised (e ∷ recent) others site last d h s = split (e.site == site)
    (λ t. split (site == s)
    (λ u. let v : (e.site == s) ≡ true = grind (arith, nat_tests, t, u) in rw (t, u, v) refl)
    (λ u. let v : (e.site == s) ≡ false = grind (arith, nat_tests, t, u) in rw (t, u, v) refl))
    (λ f. let k : suc (leading (is_of_another site) recent) < suc (length recent) = rw f at h in
    split (e.site == s)
    (λ u. let v : (site == s) ≡ false = grind (arith, nat_tests, f, u) in rw (f, u, v) refl)
    (λ u. rw (f, u) (at_hand_raised recent others site last d (omega (arith, k)) s)))
