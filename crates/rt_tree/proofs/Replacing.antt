-- Summaries once a leaf has another run in place of one.
use Rattle.std.proofs.Common.{◌≡◌, ℕ, zero, suc, ◌<◌, ◌≤◌, List, [], ◌∷◌, ◌++◌, length, length-append, take, take-append-drop, drop, get_or, set, insert, sym, ap, ◌∙◌, arith, subst, Option}
use Rattle.std.proofs.lemmas.List.{get_or-map, length-map, length-take-le, map-append}
use Rattle.rt_nodes.specs.Nodes.{entries, with_entries}
use Rattle.rt_store.proofs.Distinct.{split}
use Rattle.rt_tags.specs.Borders.{first, one_or_none}
use Rattle.rt_tags.specs.States.{TagStates}
use Rattle.rt_tree.specs.declared.node.Entry.{Entry}
use Rattle.rt_tree.specs.declared.node.Entry.TheVariants.{Here}
use Rattle.rt_tree.specs.declared.node.Run.{Run}
use Rattle.rt_tree.specs.declared.summary.Summary.{Summary}
use Rattle.rt_tree.specs.Changes.{bare, kid, links, strip}
use Rattle.rt_tree.specs.Shape.{IsShape, Memory, all_below, below, level_of}
use Rattle.rt_tree.specs.Summaries.{AreSummed, AreSummedBut, shown_states}
use Rattle.rt_tree.proofs.Bares.{bare-entries}
use Rattle.rt_tree.proofs.Baring.{but-bare, summed-bare}
use Rattle.rt_tree.proofs.Frame.{new-at}
use Rattle.rt_tree.proofs.Passes.{get-any, parts-at}
use Rattle.rt_tree.proofs.Paths.{leaf_changed}
use Rattle.rt_tree.proofs.Reaching.{shown_gone, shown_here}
use Rattle.rt_tree.proofs.Wholes.{below-bare, flat-bare}

-- a run shows one state, or none
pub shown_one : (r : Run) → one_or_none (first (shown_states (r ∷ []))) ≡ shown_states (r ∷ [])
shown_one r = split r.gone
    (λ g. let e = shown_gone r [] g in ap (λ l. one_or_none (first l)) e ∙ sym e)
    (λ s. let e = shown_here r [] s in ap (λ l. one_or_none (first l)) e ∙ sym e)

-- another entry in place of one
set_parts : (es : List Entry) (i : ℕ) (y : Entry) → i < length es → set es i y ≡ take i es ++ y ∷ drop (suc i) es
set_parts [] i y lt = absurd (omega (arith, lt))
set_parts (x ∷ es) zero y lt = λ j. y ∷ es
set_parts (x ∷ es) (suc i) y lt = ap (λ l. x ∷ l) (set_parts es i y (omega (arith, lt)))

past_front : (a : List Entry) (e : Entry) (b : List Entry) (d : Entry) → get_or (a ++ e ∷ b) (length a) d ≡ e
past_front [] e b d = λ j. e
past_front (x ∷ a) e b d = past_front a e b d

-- entries of a leaf around those that change
pub record AreParts (es now : List Entry) (i : ℕ) (run : Run) (mid : List Entry) : Type 0 where
  pub front : List Entry
  pub back : List Entry
  pub had : es ≡ front ++ (mid ++ back)
  pub has : now ≡ front ++ Here run ∷ back
  pub at : length front ≡ i

-- where one is replaced, and where one is put in
pub parts_set : (es : List Entry) (i : ℕ) (run : Run) (e : Entry) → i < length es → e ≡ get_or es i e → AreParts es (set es i (Here run)) i run (e ∷ [])
parts_set es i run e lt here = record { front = take i es; back = drop (suc i) es; had = parts-at es i e lt here; has = set_parts es i (Here run) lt; at = length-take-le i es (omega (arith, lt)) }

pub parts_insert : (es : List Entry) (i : ℕ) (run : Run) → i ≤ length es → AreParts es (insert es i (Here run)) i run []
parts_insert es i run le = record { front = take i es; back = drop i es; had = sym (take-append-drop i es); has = λ j. insert es i (Here run); at = length-take-le i es le }

module _ (m new : Memory) (height root : ℕ) (t : IsShape (bare m) height root) (x : ℕ) (xis : x < length m.heads) (low : level_of (bare m) x ≡ 0) (i : ℕ) (run : Run) (now mid : List Entry)
    (parts : AreParts (entries m x) now i run mid) (is : bare new ≡ with_entries (bare m) x (links now)) where
  there : links (entries new x) ≡ links now
  there = sym (bare-entries new x) ∙ ap (λ (b : Memory). entries b x) is ∙ new-at (bare m) height root t x xis (links now)

  within : i < length now
  within =
      let a = ap length parts.has ∙ length-append parts.front (Here run ∷ parts.back) in
      omega (arith, a, parts.at)

  pub within_now : i < length (entries new x)
  within_now =
      let a = ap length there in
      let b = length-map (entries new x) strip in
      let d = length-map now strip in
      omega (arith, a, b, d, within)

  is_there : (d : Entry) → get_or now i d ≡ Here run
  is_there d = (λ j. get_or (parts.has j) (sym parts.at j) d) ∙ past_front parts.front (Here run) parts.back d

  -- the leaf shows the new run's state there
  pub shows_now_there : (e : Entry) → e ≡ get_or (entries new x) i e → shown_states (below new 0 e) ≡ shown_states (run ∷ [])
  shows_now_there e here =
      let d = kid 0 in
      let own : strip e ≡ Here run =
      ap strip (here ∙ get-any (entries new x) i e d within_now)
      ∙ sym (get_or-map strip (entries new x) i d d within_now)
      ∙ ap (λ l. get_or l i d) there
      ∙ get_or-map strip now i d d within
      ∙ ap strip (is_there d) in
      ap shown_states (sym (below-bare new 0 e) ∙ ap (below (bare new) 0) own)

  -- the summaries above have what stood there before
  pub but_there : (table : TagStates) (sums : List Summary) → AreSummed table m sums → (old : Option ℕ) → shown_states (all_below m 0 mid) ≡ one_or_none old → AreSummedBut table new sums height x i old
  but_there table sums are old shows =
      let front = links parts.front in
      let back = links parts.back in
      let had : entries (bare m) x ≡ front ++ (links mid ++ back) =
      bare-entries m x ∙ ap links parts.had ∙ map-append strip parts.front (mid ++ parts.back) ∙ ap (λ l. front ++ l) (map-append strip mid parts.back) in
      let has : links now ≡ front ++ Here run ∷ back = ap links parts.has ∙ map-append strip parts.front (Here run ∷ parts.back) in
      let was : shown_states (all_below (bare m) 0 (links mid)) ≡ one_or_none old = ap shown_states (flat-bare m 0 (below-bare m 0) mid) ∙ shows in
      let long : length front ≡ i = length-map parts.front strip ∙ parts.at in
      let but = leaf_changed (bare m) height root t x xis low (links now) table sums (summed-bare m table sums are) front (links mid) back (Here run) old had has was in
      but-bare new table sums height x i old (subst (λ b. AreSummedBut table b sums height x i old) (sym is) (subst (λ n. AreSummedBut table (with_entries (bare m) x (links now)) sums height x n old) long but))
