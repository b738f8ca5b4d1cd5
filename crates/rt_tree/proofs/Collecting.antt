-- What an entry adds to a summary that is made from a node's entries.
use Rattle.std.proofs.Common.{◌≡◌, ℕ, ◌+◌, ◌<◌, ◌≤◌, ◌^◌, List, [], ◌∷◌, ◌++◌, suc, length, length-append, take, drop, get_or, sym, ap, ◌∙◌, arith, subst, false}
use Rattle.std.specs.Prelude.{IfSome}
use Rattle.std.specs.List.{AllByRecursion}
use Rattle.std.proofs.lemmas.List.Concat.{flat_map-append}
use Rattle.rt_nodes.specs.declared.memory.NodeId.{NodeId}
use Rattle.rt_tags.specs.Borders.{HasRoomForAll}
use Rattle.rt_tags.specs.States.{IsState, TagStates}
use Rattle.rt_tags.specs.Toggles.{count_of}
use Rattle.rt_tree.specs.declared.node.Entry.{Entry}
use Rattle.rt_tree.specs.declared.node.Entry.TheVariants.{Down, Here}
use Rattle.rt_tree.specs.declared.node.Run.{Run}
use Rattle.rt_tree.specs.declared.node.Totals.{Totals}
use Rattle.rt_tree.specs.declared.summary.Summary.{Summary}
use Rattle.rt_tree.specs.Shape.{Memory, all_below, below}
use Rattle.rt_tree.specs.Summaries.{HasSummary, IsSummary, shown_states, summary_of}
use Rattle.rt_tree.proofs.Down.{each-at}
use Rattle.rt_tree.proofs.Ending.{up_to}
use Rattle.rt_tree.proofs.Noting.{last_all}
use Rattle.rt_tree.proofs.Passes.{each-append, parts-at}
use Rattle.rt_tree.proofs.Reaching.{first_given, shown-append, shown_here}
use Rattle.rt_tree.proofs.Summing.{few_toggles}

module _ (table : TagStates) (m : Memory) (k : ℕ) (es : List Entry) (i : ℕ) (e : Entry) (lt : i < length es) (here : e ≡ get_or es i e) where
  abbrev front : List ℕ
  front = shown_states (all_below m k (take i es))

  abbrev own : List ℕ
  own = shown_states (below m k e)

  abbrev back : List ℕ
  back = shown_states (all_below m k (drop (suc i) es))

  whole : shown_states (all_below m k es) ≡ front ++ (own ++ back)
  whole =
      ap shown_states (ap (all_below m k) (parts-at es i e lt here) ∙ flat_map-append (below m k) (take i es) (e ∷ drop (suc i) es))
      ∙ shown-append (all_below m k (take i es)) (below m k e ++ all_below m k (drop (suc i) es))
      ∙ ap (λ l. front ++ l) (shown-append (below m k e) (all_below m k (drop (suc i) es)))

  fits : length front + length own ≤ length (shown_states (all_below m k es))
  fits =
      let a = ap length whole ∙ length-append front (own ++ back) in
      let b = length-append own back in
      omega (arith, a, b)

  module _ (given : AllByRecursion (IsState table) (shown_states (all_below m k es))) where
    both : AllByRecursion (IsState table) front × AllByRecursion (IsState table) own
    both =
        let a = each-append (IsState table) front (own ++ back) (subst (AllByRecursion (IsState table)) whole given) in
        (a.0, (each-append (IsState table) own back a.1).0)

    module _ (s : Summary) (was : IsSummary table front s) where
      pub last_so_far : IfSome s.last (IsState table)
      last_so_far = subst (λ o. IfSome o (IsState table)) (sym was.last) (last_all (IsState table) front both.0)

      pub room_so_far : length table.names ≤ s.counts.capacity → HasRoomForAll table s.counts
      room_so_far room = record { room = room; others = was.counts.others }

      pub few_so_far : length (shown_states (all_below m k es)) + 2 < 2 ^ 32 → (tag : ℕ) → count_of tag s.counts + 2 < 2 ^ 32
      few_so_far few tag = let f = few_toggles table front s.counts was.counts tag in omega (arith, f, fits, few)

      -- A RUN

      module _ (r : Run) (to : e ≡ Here r) where
        pub run_given : r.gone ≡ false → IsState table r.state
        run_given shown = (subst (AllByRecursion (IsState table)) (ap (λ x. shown_states (below m k x)) to ∙ shown_here r [] shown) both.1).0

        pub run_added : (new : Summary) → ((xs : List ℕ) → IsSummary table xs s → IsSummary table (xs ++ shown_states (r ∷ [])) new)
            → IsSummary table (shown_states (all_below m k (take (i + 1) es))) new
        run_added new add =
            subst (λ l. IsSummary table l new) (sym (up_to m k es i e lt here)) (subst (λ x. IsSummary table (front ++ shown_states (below m k x)) new) (sym to) (add front was))

      -- A NODE

      module _ (sums : List Summary) (kids : AllByRecursion (HasSummary table m k sums) es) (c : NodeId) (x : Totals) (to : e ≡ Down c x) where
        kept : (c.index < length sums) × IsSummary table own (summary_of sums c.index)
        kept =
            let h = subst (HasSummary table m k sums) to (each-at (HasSummary table m k sums) es i e kids lt here) in
            (h.0, subst (λ y. IsSummary table (shown_states (below m k y)) (summary_of sums c.index)) (sym to) h.1)

        pub node_is : c.index < length sums
        node_is = kept.0

        module _ (t : Summary) (t_is : t ≡ summary_of sums c.index) where
          its : IsSummary table own t
          its = subst (IsSummary table own) (sym t_is) kept.1

          pub node_first : IfSome t.first (IsState table)
          node_first = first_given table own t both.1 its

          pub node_others : (tag : ℕ) → length table.names ≤ tag → count_of tag t.counts ≡ 0
          node_others = its.counts.others

          pub node_few : length (shown_states (all_below m k es)) + 2 < 2 ^ 32 → (tag : ℕ) → count_of tag s.counts + count_of tag t.counts + 2 < 2 ^ 32
          node_few few tag =
              let f = few_toggles table front s.counts was.counts tag in
              let g = few_toggles table own t.counts its.counts tag in
              omega (arith, f, g, fits, few)

          pub node_joined : (new : Summary) → ((xs ys : List ℕ) → IsSummary table xs s → IsSummary table ys t → IsSummary table (xs ++ ys) new)
              → IsSummary table (shown_states (all_below m k (take (i + 1) es))) new
          node_joined new join = subst (λ l. IsSummary table l new) (sym (up_to m k es i e lt here)) (join front own was its)
