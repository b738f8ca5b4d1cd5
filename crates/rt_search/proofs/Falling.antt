-- Where a pattern fails, the next start at which it can stand is that of its longest border.
use Rattle.std.proofs.Common.{◌≡◌, ℕ, ◌+◌, ◌-◌, ◌<◌, ◌≤◌, ◌⊎◌, inl, inr, List, ◌++◌, ◌∷◌, [], length, get_or, arith, ap, subst, sym, ◌∙◌}
use Rattle.std.proofs.lemmas.Bool.{cases_lt, cases_order}
use Rattle.std.proofs.lemmas.List.{get_or_append_left, get_or_push, length_push}
use Rattle.rt_search.specs.Borders.{CharactersAgree, AreBorders, IsBorder, IsFurther}

-- AGREEING

pub none_agree : (p t : ℕ → ℕ) (start : ℕ) → CharactersAgree p t start 0
none_agree p t start = record { same = λ j h. absurd (omega arith) }

pub agrees_at : (p t : ℕ → ℕ) (a b m n : ℕ) → a ≡ b → m ≡ n → CharactersAgree p t a m → CharactersAgree p t b n
agrees_at p t a b m n e f h = record { same = λ j l. h.same j (omega arith) ∙ ap t (omega arith) }

pub fewer_agree : (p t : ℕ → ℕ) (a m n : ℕ) → n ≤ m → CharactersAgree p t a m → CharactersAgree p t a n
fewer_agree p t a m n e h = record { same = λ j l. h.same j (omega arith) }

pub one_more : (p t : ℕ → ℕ) (a m : ℕ) → CharactersAgree p t a m → p m ≡ t (a + m) → CharactersAgree p t a (m + 1)
one_more p t a m h e = record { same = λ j l. by j l (cases_lt j m) }
  where
    by : (j : ℕ) → j < m + 1 → (j < m) ⊎ (m ≤ j) → p j ≡ t (a + j)
    by j l (inl k) = h.same j k
    by j l (inr k) = let is : j ≡ m = omega arith in ap p is ∙ e ∙ ap t (omega arith)

-- what stands in the text stands in the pattern too, where that stands
pub within : (p t : ℕ → ℕ) (a by many : ℕ) → CharactersAgree p t a many → by ≤ many → CharactersAgree p t (a + by) (many - by) → CharactersAgree p p by (many - by)
within p t a by many h l k = record { same = λ j m. k.same j m ∙ ap t (omega arith) ∙ sym (h.same (by + j) (omega arith)) }

-- a border stands where the pattern does
pub border_stands : (p t : ℕ → ℕ) (a many border : ℕ) → CharactersAgree p t a many → IsBorder p many border → CharactersAgree p t (a + (many - border)) border
border_stands p t a many border h b =
    record { same = λ j m. b.stands.same j m ∙ h.same (many - border + j) (omega (arith, b.fewer)) ∙ ap t (omega (arith, b.fewer)) }

-- and before it the pattern stands nowhere
pub none_before : (p t : ℕ → ℕ) (a many border by : ℕ) → CharactersAgree p t a many → IsBorder p many border → 0 < by → by < many - border
    → CharactersAgree p t (a + by) (many - by) → ⊥
none_before p t a many border by h b l k e = b.longest by l k (within p t a by many h (omega arith) e)

-- FALLING

-- of so many characters that agree, the first fewer ones do from a later start on; the starts before that fail
pub record Falls (p t : ℕ → ℕ) (a before now : ℕ) : Type 0 where
  pub few : now ≤ before
  pub stands : CharactersAgree p t (a + (before - now)) now
  pub first : (by : ℕ) → by < before - now → CharactersAgree p t (a + by) (before + 1 - by) → ⊥

pub falls_none : (p t : ℕ → ℕ) (a before : ℕ) → CharactersAgree p t a before → Falls p t a before before
falls_none p t a before h = record {
  few = omega arith;
  stands = agrees_at p t a (a + (before - before)) before before (omega arith) (omega arith) h;
  first = λ by l e. absurd (omega arith);
}

-- the start that has failed, by the next character
failed : (p t : ℕ → ℕ) (a before now by : ℕ) → now ≤ before → by ≡ before - now → (p now ≡ t (a + before) → ⊥) → CharactersAgree p t (a + by) (before + 1 - by) → ⊥
failed p t a before now by l k fails e = fails (e.same now (omega arith) ∙ ap t (omega arith))

pub falls_on : (p t : ℕ → ℕ) (a before now border : ℕ) → Falls p t a before now → (p now ≡ t (a + before) → ⊥) → IsBorder p now border → Falls p t a before border
falls_on p t a before now border f fails b = record {
  few = omega (arith, f.few, b.fewer);
  stands = agrees_at p t (a + (before - now) + (now - border)) (a + (before - border)) border border (omega (arith, f.few, b.fewer)) (omega arith)
      (border_stands p t (a + (before - now)) now border f.stands b);
  first = λ by l e. by_order by l e (cases_order by (before - now));
}
  where
    by_order : (by : ℕ) → by < before - border → CharactersAgree p t (a + by) (before + 1 - by) → (by ≡ before - now) ⊎ ((by < before - now) ⊎ (before - now < by)) → ⊥
    by_order by l e (inl k) = failed p t a before now by f.few k fails e
    by_order by l e (inr (inl k)) = f.first by k e
    by_order by l e (inr (inr k)) =
        let later = by - (before - now) in
        none_before p t (a + (before - now)) now border later f.stands b (omega arith) (omega (arith, f.few, b.fewer))
        (fewer_agree p t (a + (before - now) + later) (before + 1 - by) (now - later) (omega (arith, f.few))
        (agrees_at p t (a + by) (a + (before - now) + later) (before + 1 - by) (before + 1 - by) (omega arith) (omega arith) e))

pub falls_further : (p t : ℕ → ℕ) (a before now : ℕ) → Falls p t a before now → p now ≡ t (a + before) → IsFurther p t a before (now + 1)
falls_further p t a before now f e = record {
  few = omega (arith, f.few);
  stands = agrees_at p t (a + (before - now)) (a + (before + 1 - (now + 1))) (now + 1) (now + 1) (omega arith) (omega arith)
      (one_more p t (a + (before - now)) now f.stands (e ∙ ap t (omega (arith, f.few))));
  first = λ by l k. f.first by (omega arith) k;
}

pub falls_out : (p t : ℕ → ℕ) (a before : ℕ) → Falls p t a before 0 → (p 0 ≡ t (a + before) → ⊥) → IsFurther p t a before 0
falls_out p t a before f fails = record {
  few = omega arith;
  stands = none_agree p t (a + (before + 1 - 0));
  first = λ by l k. by_order by l k (cases_lt by before);
}
  where
    by_order : (by : ℕ) → by < before + 1 - 0 → CharactersAgree p t (a + by) (before + 1 - by) → (by < before) ⊎ (before ≤ by) → ⊥
    by_order by l e (inl k) = f.first by (omega arith) e
    by_order by l e (inr k) = failed p t a before 0 by (omega arith) (omega arith) fails e

-- THE TABLE

pub no_borders : (p : ℕ → ℕ) → AreBorders p []
no_borders p = record { each = λ i h. absurd (omega arith) }

-- one character has no border but the empty one
pub first_border : (p : ℕ → ℕ) → IsBorder p 1 0
first_border p = record { fewer = omega arith; stands = none_agree p p (1 - 0); longest = λ by l k e. absurd (omega arith) }

pub next_border : (p : ℕ → ℕ) (many border next : ℕ) → IsBorder p many border → IsFurther p p (many - border) border next → IsBorder p (many + 1) next
next_border p many border next b f = record {
  fewer = omega (arith, b.fewer, f.few);
  stands = agrees_at p p (many - border + (border + 1 - next)) (many + 1 - next) next next (omega (arith, b.fewer, f.few)) (omega arith) f.stands;
  longest = λ by l k e. by_order by l k e (cases_lt by (many - border));
}
  where
    by_order : (by : ℕ) → 0 < by → by < many + 1 - next → CharactersAgree p p by (many + 1 - by) → (by < many - border) ⊎ (many - border ≤ by) → ⊥
    by_order by l k e (inl m) = b.longest by l m (fewer_agree p p by (many + 1 - by) (many - by) (omega arith) e)
    by_order by l k e (inr m) =
        let later = by - (many - border) in
        f.first later (omega (arith, b.fewer, f.few))
        (agrees_at p p by (many - border + later) (many + 1 - by) (border + 1 - later) (omega arith) (omega (arith, b.fewer)) e)

pub push_border : (p : ℕ → ℕ) (borders : List ℕ) (many border : ℕ) → AreBorders p borders → length borders ≡ many → IsBorder p (many + 1) border
    → AreBorders p (borders ++ border ∷ [])
push_border p borders many border h e b = record { each = λ i l. by i (omega (arith, length_push borders border)) (cases_lt i many) }
  where
    by : (i : ℕ) → i < many + 1 → (i < many) ⊎ (many ≤ i) → IsBorder p (i + 1) (get_or (borders ++ border ∷ []) i 0)
    by i l (inl k) = let inside : i < length borders = omega arith in subst (IsBorder p (i + 1)) (sym (get_or_append_left borders (border ∷ []) 0 i inside)) (h.each i inside)
    by i l (inr k) =
        let is : many ≡ i = omega arith in
        let there : length borders ≡ i = omega arith in
        subst (IsBorder p (i + 1)) (sym (get_or_push borders border 0 i there)) (subst (λ (n : ℕ). IsBorder p (n + 1) border) is b)
