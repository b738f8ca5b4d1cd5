use Rattle.std.proofs.Common.{◌≡◌, ◌∙◌, ◌+◌, ◌<◌, ◌++◌, ◌∷◌, add-one, ap, arith, drop, false, subst, sym, take, true}
use Rattle.std.specs.Prelude.{IsSome, option_to_list}
use Rattle.std.specs.VecDeque.{deque_len}
use Rattle.rt_undo.specs.Flag.{IsTold}
use Rattle.rt_undo.specs.Groups.{numbers_of, numbers_of_groups}
use Rattle.rt_undo.proofs.Dropping.{forced_after, forced_more, kept_after, kept_more, numbers_next, one_less}
use Rattle.rt_undo.proofs.groups.drop_oldest.Goals as goal
use Rattle.rt_undo.proofs.groups.drop_oldest.Goals.{in-Some, in_default}

pub pass-requires : goal.pass-requires
pass-requires c =
    let left = c.pop_front.new.self.items in
    subst (λ xs. IsTold c.loop.flag xs c.args.current.now) (c.pop_front.ensures.items ∙ ap (λ o. option_to_list o ++ left) c.in-Some.is) c.loop.invariant.told

pub loop-preserved : goal.loop-preserved
loop-preserved c =
    let xs = c.args.closed.now.items in
    let i = c.loop.counter in
    let inv = c.loop.invariant in
    let some : 0 < deque_len c.loop.closed = omega arith in
    elim c.match-pop_front.branch [
      | in-Some w ↦
          let group = w.in-Some.group in
          let here : drop i xs ≡ group ∷ c.pop_front.new.self.items =
          sym inv.closed ∙ c.pop_front.ensures.items ∙ ap (λ o. option_to_list o ++ c.pop_front.new.self.items) w.in-Some.is in
          let more : numbers_of_groups (take (i + 1) xs) ≡ numbers_of_groups (take i xs) ++ numbers_of group.items =
          ap (λ n. numbers_of_groups (take n xs)) (add-one i) ∙ numbers_next xs i group c.pop_front.new.self.items here in
          record {
            within = omega arith;
            closed = sym (ap (λ n. drop n xs) (add-one i) ∙ one_less xs i group c.pop_front.new.self.items here);
            len = omega (arith, w.in-Some.ensures.cases);
            capacity = c.pop_front.ensures.capacity ∙ inv.capacity;
            kept = ap (λ f. f.kept) w.flag-is ∙ w.pass.ensures.kept
                ∙ ap (kept_after (numbers_of group.items)) inv.kept
                ∙ kept_more (numbers_of_groups (take i xs)) (numbers_of group.items) c.args.flag.now.kept
                ∙ ap (λ l. kept_after l c.args.flag.now.kept) (sym more);
            forced = ap (λ f. f.forced) w.flag-is ∙ w.pass.ensures.forced
                ∙ (λ j. forced_after (numbers_of group.items) (inv.kept j) (inv.forced j))
                ∙ forced_more (numbers_of_groups (take i xs)) (numbers_of group.items) c.args.flag.now.kept c.args.flag.now.forced
                ∙ ap (λ l. forced_after l c.args.flag.now.kept c.args.flag.now.forced) (sym more);
            told = subst (λ f. IsTold f c.pop_front.new.self.items c.args.current.now) (sym w.flag-is) w.pass.ensures.told;
          }
      | in_default w ↦ let no : false ≡ true = subst IsSome w.in_default.is (c.pop_front.ensures.variant.1 some) in absurd (cc)
    ]
