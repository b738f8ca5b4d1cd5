-- The first and the last state that entries show.
use Rattle.std.proofs.Common.{◌≡◌, ℕ, ◌+◌, ◌<◌, List, [], ◌∷◌, ◌++◌, length, take, drop, get_or, sym, ap, ◌∙◌, Option, Some, None, true, false, true≢false}
use Rattle.std.specs.Prelude.{is_some}
use Rattle.std.specs.List.{AllByRecursion}
use Rattle.std.proofs.lemmas.List.{append-nil, drop_more, take_more}
use Rattle.std.proofs.lemmas.List.Concat.{flat_map-append}
use Rattle.rt_tags.specs.Borders.{either, first, last}
use Rattle.rt_tags.proofs.Bordering.{first_of, last_of}
use Rattle.rt_tree.specs.declared.node.Entry.{Entry}
use Rattle.rt_tree.specs.declared.summary.Summary.{Summary}
use Rattle.rt_tree.specs.Shape.{Memory, all_below, below}
use Rattle.rt_tree.specs.Summaries.{HasEnds, shown_states}
use Rattle.rt_tree.proofs.Down.{each-at}
use Rattle.rt_tree.proofs.Reaching.{shown-append}

some_is : (o p : Option ℕ) → is_some o ≡ true → either o p ≡ o
some_is None p e = absurd (true≢false (sym e))
some_is (Some x) p e = λ i. Some x

none_is : (o p : Option ℕ) → is_some o ≡ false → either o p ≡ p
none_is None p e = λ i. p
none_is (Some x) p e = absurd (true≢false e)

module _ (m : Memory) (k : ℕ) (es : List Entry) (i : ℕ) (e : Entry) (lt : i < length es) (here : e ≡ get_or es i e) where
  abbrev shown : List Entry → List ℕ
  shown fs = shown_states (all_below m k fs)

  abbrev own : List ℕ
  own = shown_states (below m k e)

  pub up_to : shown (take (i + 1) es) ≡ shown (take i es) ++ own
  up_to =
      ap shown (take_more es i e lt)
      ∙ ap shown_states (flat_map-append (below m k) (take i es) (get_or es i e ∷ [])
      ∙ ap (λ x. all_below m k (take i es) ++ (below m k x ++ [])) (sym here)
      ∙ ap (λ rs. all_below m k (take i es) ++ rs) (append-nil (below m k e)))
      ∙ shown-append (all_below m k (take i es)) (below m k e)

  pub last_here : (o : Option ℕ) → o ≡ last own → is_some o ≡ true → o ≡ last (shown (take (i + 1) es))
  last_here o is some = sym (ap last up_to ∙ last_of (shown (take i es)) own ∙ ap (λ x. either x (last (shown (take i es)))) (sym is) ∙ some_is o (last (shown (take i es))) some)

  pub last_before : (o : Option ℕ) → o ≡ last own → is_some o ≡ false → last (shown (take (i + 1) es)) ≡ last (shown (take i es))
  last_before o is none = ap last up_to ∙ last_of (shown (take i es)) own ∙ ap (λ x. either x (last (shown (take i es)))) (sym is) ∙ none_is o (last (shown (take i es))) none

  on_from : shown (drop i es) ≡ own ++ shown (drop (i + 1) es)
  on_from = ap shown (drop_more es i e lt ∙ ap (λ x. x ∷ drop (i + 1) es) (sym here)) ∙ shown-append (below m k e) (all_below m k (drop (i + 1) es))

  pub first_here : (o : Option ℕ) → o ≡ first own → is_some o ≡ true → o ≡ first (shown (drop i es))
  first_here o is some = sym (ap first on_from ∙ first_of own (shown (drop (i + 1) es)) ∙ ap (λ x. either x (first (shown (drop (i + 1) es)))) (sym is) ∙ some_is o (first (shown (drop (i + 1) es))) some)

  pub first_behind : (o : Option ℕ) → o ≡ first own → is_some o ≡ false → first (shown (drop i es)) ≡ first (shown (drop (i + 1) es))
  first_behind o is none = ap first on_from ∙ first_of own (shown (drop (i + 1) es)) ∙ ap (λ x. either x (first (shown (drop (i + 1) es)))) (sym is) ∙ none_is o (first (shown (drop (i + 1) es))) none

  -- what is kept for a node that an entry names
  pub ends : (sums : List Summary) → AllByRecursion (HasEnds m k sums) es → HasEnds m k sums e
  ends sums all = each-at (HasEnds m k sums) es i e all lt here
