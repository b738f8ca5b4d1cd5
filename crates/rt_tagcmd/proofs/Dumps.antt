-- A dump is what is gathered and put in order.
use Rattle.std.proofs.Common.{◌≡◌, ℕ, zero, suc, ◌+◌, ◌-◌, ◌<◌, ◌≤◌, ◌==◌, List, [], ◌∷◌, ◌++◌, Option, Ok, None, map, filter, sym, ap, ◌∙◌, Bool, true, false, cond, arith, subst}
use Rattle.std.specs.Prelude.{option_to_list}
use Rattle.std.specs.List.{All, range_with_len}
use Rattle.std.specs.Result.{result_err, result_unwrap_or}
use Rattle.std.proofs.lemmas.List.{append-nil}
use Rattle.std.proofs.lemmas.List.Elements.{All-append, All-nil, All-weaker, filter_passes}
use Rattle.rt_tagcmd.specs.declared.stretch.DumpStretch.{DumpStretch}
use Rattle.rt_tagcmd.specs.Dumping.{dumped, elements_between, stop_of}
use Rattle.rt_tagcmd.specs.Elements.{Placed, answered, by_place, places_between, is_at_place, text_values}
use Rattle.rt_tagcmd.specs.Stretches.{AreGathered, IsSortOf, within}
use Rattle.rt_tagcmd.proofs.Gathering.{IsInside, gathered, sorted, with_more}
use Rattle.rt_tagcmd.proofs.Placing.{at_is}
use Rattle.rt_tagcmd.proofs.Values.{values_inside, values_same}
use Rattle.rt_index.specs.Index.{index_of}
use Rattle.rt_requests.specs.declared.kinds.Kinds.{Kinds}
use Rattle.rt_stamps.specs.Outcomes.{first_of, unless}
use Rattle.rt_stamps.specs.Words.{Word}
use Rattle.rt_text.specs.Index.{index_check}
use Rattle.rt_text.specs.Widgets.{ViewValue, text_shown, widget_of}

-- the stretch of a dump, in a text of n characters
abbrev pub stretch_at : ℕ → ℕ → ℕ → DumpStretch
stretch_at n from to = record { from = from; behind = cond (to == n) (to + 1) to }

goes_far : (b : Bool) (to : ℕ) → to ≤ cond b (to + 1) to
goes_far true to = omega arith
goes_far false to = omega arith

-- without text
pub others_dumped : (n from to : ℕ) (others xs ys : List Placed) → xs ≡ within (stretch_at n from to) others → IsSortOf xs ys → ys ≡ by_place (places_between n from to) (others ++ [])
others_dumped n from to others xs ys e o =
    gathered (stretch_at n from to) others ys (sorted (stretch_at n from to) others xs ys e o) ∙ ap (by_place (places_between n from to)) (sym (append-nil others))

-- with text
pub texts_dumped : (n from to : ℕ) (text : List ℕ) (others xs ys texts zs : List Placed) → xs ≡ within (stretch_at n from to) others → IsSortOf xs ys → texts ≡ text_values text ys from to → IsSortOf (ys ++ texts) zs
    → zs ≡ by_place (places_between n from to) (others ++ text_values text others from to)
texts_dumped n from to text others xs ys texts zs e o t p =
    let s = stretch_at n from to in
    let far : to ≤ s.behind = goes_far (to == n) to in
    let g : AreGathered s others ys = sorted s others xs ys e o in
    let same : texts ≡ text_values text others from to = t ∙ values_same s text others ys from to (omega arith) far g in
    let inside : All (IsInside s) (text_values text others from to) =
    All-weaker (λ x. (from ≤ x.place) × (x.place < to)) (IsInside s) (λ x i. (i.0, further (x.place) to s.behind i.1 far)) (text_values text others from to) (values_inside text others from to) in
    gathered s (others ++ text_values text others from to) zs (with_more s others ys (text_values text others from to) zs g inside (subst (λ v. IsSortOf (ys ++ v) zs) same p))
  where
    further : (p q r : ℕ) → p < q → q ≤ r → p < r
    further p q r a b = omega arith

-- WHERE ITS ELEMENTS STAND

low_in : (n k from : ℕ) (all : List Placed) → k ≤ n + 1 - from → All (λ e. e.place ≤ n) (by_place (range_with_len from k) all)
low_in n zero from all h = All-nil (λ e. e.place ≤ n)
low_in n (suc k) from all h =
    All-append (λ e. e.place ≤ n) (filter (is_at_place from) all) (by_place (range_with_len (from + 1) k) all)
    (All-weaker (λ e. is_at_place from e ≡ true) (λ e. e.place ≤ n) (λ e t. low e.place (at_is e.place from t)) (filter (is_at_place from) all) (filter_passes (is_at_place from) all))
    (low_in n k (from + 1) all (omega arith))
  where
    low : (p : ℕ) → p ≡ from → p ≤ n
    low p e = omega arith

behind_low : (b : Bool) (n to : ℕ) → to ≤ n → cond b (to + 1) to ≤ n + 1
behind_low true n to h = omega arith
behind_low false n to h = omega arith

-- none stands behind the text's end
pub elements_low : (n from to : ℕ) (all : List Placed) → to ≤ n → All (λ e. e.place ≤ n) (by_place (places_between n from to) all)
elements_low n from to all h =
    let b = behind_low (to == n) n to h in
    low_in n (cond (to == n) (to + 1) to - from) from all (omega arith)

-- WHAT IS ANSWERED

-- a dump whose indices name places
pub dump_given : (view : ViewValue) (kinds : Kinds) (word : Word) (last : Option Word) (from to : ℕ) → index_of (widget_of view) word ≡ Ok from → first_of (map (index_check (widget_of view)) (option_to_list last)) ≡ None
    → to ≡ stop_of view from last → dumped view kinds word last ≡ Ok (map (answered (text_shown view)) (elements_between view kinds from to))
dump_given view kinds word last from to e f s =
    let checks = map (index_check (widget_of view)) (option_to_list last) in
    let shown : ℕ → ℕ → List _ = λ p q. map (answered (text_shown view)) (elements_between view kinds p q) in
    ap (λ r. unless (first_of (result_err r ∷ checks)) (shown (result_unwrap_or r 0) (stop_of view (result_unwrap_or r 0) last))) e
    ∙ ap (λ found. unless found (shown from (stop_of view from last))) f
    ∙ ap (λ p. Ok (shown from p)) (sym s)
