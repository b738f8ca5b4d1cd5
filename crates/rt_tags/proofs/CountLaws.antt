-- What the counts of all tags say of a list of them.
use Rattle.std.proofs.Common.{◌≡◌, ◌≢◌, ℕ, ◌+◌, ◌<◌, ◌≤◌, List, [], ◌∷◌, length, refl, sym, ap, ◌∙◌, arith}
use Rattle.rt_tags.specs.declared.toggles.TagCount.{TagCount}
use Rattle.rt_tags.specs.Toggles.{AreFrom, count_in}
use Rattle.rt_tags.proofs.Counts.{by_order, next, none_below, share, share_other, share_own}

-- the count of the first tag
first_count : (c : TagCount) (cs : List TagCount) → AreFrom (c.tag + 1) cs → count_in c.tag (c ∷ cs) ≡ c.count
first_count c cs h =
    let own : share c.tag c ≡ c.count = share_own c.tag c refl in
    let none : count_in c.tag cs ≡ 0 = none_below c.tag (c.tag + 1) cs h (omega arith) in
    next c.tag c cs ∙ omega (arith, own, none)

-- the count of another
rest_count : (t : ℕ) (c : TagCount) (cs : List TagCount) → c.tag ≢ t → count_in t (c ∷ cs) ≡ count_in t cs
rest_count t c cs ne = let none : share t c ≡ 0 = share_other t c ne in next t c cs ∙ omega (arith, none)

-- a tag with a count isn't below the first
not_below : (t low : ℕ) (cs : List TagCount) → AreFrom low cs → 0 < count_in t cs → low ≤ t
not_below t low cs h pos = by_order t low (λ less. let none : count_in t cs ≡ 0 = none_below t low cs h less in absurd (omega (arith, none, pos))) (λ same. omega (arith, same)) (λ more. omega (arith, more))

pub within : (low high : ℕ) (cs ds : List TagCount) → AreFrom low cs → AreFrom high ds → ((t : ℕ) → 0 < count_in t cs → 0 < count_in t ds) → length cs ≤ length ds
within low high [] ds h k f = omega arith
within low high (c ∷ cs) [] h k f =
    let none : 0 < count_in c.tag [] = f c.tag (omega (arith, first_count c cs h.2, h.1)) in absurd (omega (arith, none))
within low high (c ∷ cs) (d ∷ ds) h k f =
    by_order c.tag d.tag
    (λ less. let some : 0 < count_in c.tag (d ∷ ds) = f c.tag (omega (arith, first_count c cs h.2, h.1)) in
    let none : count_in c.tag (d ∷ ds) ≡ 0 = none_below c.tag (c.tag + 1) (d ∷ ds) ((omega (arith, less)), k.1, k.2) (omega arith) in absurd (omega (arith, some, none)))
    (λ same. let r : length cs ≤ length ds = within (c.tag + 1) (d.tag + 1) cs ds h.2 k.2
    (λ t pos. let low = not_below t (c.tag + 1) cs h.2 pos in
    let e : count_in t (c ∷ cs) ≡ count_in t cs = rest_count t c cs (omega (arith, low)) in
    let g : count_in t (d ∷ ds) ≡ count_in t ds = rest_count t d ds (omega (arith, low, same)) in
    let some : 0 < count_in t (d ∷ ds) = f t (omega (arith, e, pos)) in omega (arith, some, g)) in omega (arith, r))
    (λ more. let r : length (c ∷ cs) ≤ length ds = within low (d.tag + 1) (c ∷ cs) ds h k.2
    (λ t pos. let low : c.tag ≤ t = not_below t c.tag (c ∷ cs) ((omega arith), h.1, h.2) pos in
    let g : count_in t (d ∷ ds) ≡ count_in t ds = rest_count t d ds (omega (arith, low, more)) in
    let some : 0 < count_in t (d ∷ ds) = f t pos in omega (arith, some, g)) in omega (arith, r))

pub known : (low high : ℕ) (cs ds : List TagCount) → AreFrom low cs → AreFrom high ds → ((t : ℕ) → count_in t cs ≡ count_in t ds) → cs ≡ ds
known low high [] [] h k f = refl
known low high [] (d ∷ ds) h k f = let e : 0 ≡ count_in d.tag (d ∷ ds) = f d.tag in absurd (omega (arith, first_count d ds k.2, k.1, e))
known low high (c ∷ cs) [] h k f = let e : count_in c.tag (c ∷ cs) ≡ 0 = f c.tag in absurd (omega (arith, first_count c cs h.2, h.1, e))
known low high (c ∷ cs) (d ∷ ds) h k f =
    let of_c : c.count ≡ count_in c.tag (d ∷ ds) = sym (first_count c cs h.2) ∙ f c.tag in
    let of_d : count_in d.tag (c ∷ cs) ≡ d.count = f d.tag ∙ first_count d ds k.2 in
    by_order c.tag d.tag
    (λ less. let none : count_in c.tag (d ∷ ds) ≡ 0 = none_below c.tag (c.tag + 1) (d ∷ ds) ((omega (arith, less)), k.1, k.2) (omega arith) in absurd (omega (arith, none, of_c, h.1)))
    (λ same. let r : cs ≡ ds = known (c.tag + 1) (d.tag + 1) cs ds h.2 k.2 (λ t. by_order t (c.tag + 1)
    (λ less. let a : count_in t cs ≡ 0 = none_below t (c.tag + 1) cs h.2 less in let b : count_in t ds ≡ 0 = none_below t (d.tag + 1) ds k.2 (omega (arith, less, same)) in a ∙ sym b)
    (λ e. sym (rest_count t c cs (omega (arith, e))) ∙ f t ∙ rest_count t d ds (omega (arith, e, same)))
    (λ more. sym (rest_count t c cs (omega (arith, more))) ∙ f t ∙ rest_count t d ds (omega (arith, more, same)))) in
    let count : c.count ≡ d.count = of_c ∙ ap (λ t. count_in t (d ∷ ds)) same ∙ first_count d ds k.2 in
    ap (λ t. record { tag = t; count = c.count } ∷ cs) same ∙ ap (λ n. record { tag = d.tag; count = n } ∷ cs) count ∙ ap (λ xs. d ∷ xs) r)
    (λ more. let none : count_in d.tag (c ∷ cs) ≡ 0 = none_below d.tag (d.tag + 1) (c ∷ cs) ((omega (arith, more)), h.1, h.2) (omega arith) in absurd (omega (arith, none, of_d, k.1)))
