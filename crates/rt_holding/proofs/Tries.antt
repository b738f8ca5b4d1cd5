-- Held operations are tried one after the other, till none is left that could be taken.
use Rattle.std.proofs.Common.{◌≡◌, ℕ, ◌+◌, true, false, refl, sym, ap, subst, ◌∙◌, arith, List, [], ◌∷◌, ◌++◌, append_assoc, Some, None, length}
use Rattle.rt_ops.specs.Operations.{Operation}
use Rattle.rt_oplog.specs.Logs.{with_operation}
use Rattle.rt_rga.specs.Answers.{New, answer_within}
use Rattle.rt_holding.specs.Holding.{Holding, Settles, is_new, next_of, rest, takes, drops, lacks, with_taken, without_op}
use Rattle.rt_holding.specs.Taken.{AreTried, all_after, site_holding}

-- ONE AFTER THE OTHER

append_none : (xs : List Operation) → xs ++ [] ≡ xs
append_none [] = refl
append_none (x ∷ xs) = ap (λ l. x ∷ l) (append_none xs)

length_one : (xs : List Operation) (op : Operation) → length (xs ++ op ∷ []) ≡ length xs + 1
length_one [] op = omega arith
length_one (x ∷ xs) op = let i = length_one xs op in omega (arith, i)

module _ {Site : Type 0} (log : Site → List Operation) (after : Operation → Site → Site) where
  -- how far the tries have come: what settles from here settles from where they began
  pub record IsSettling (limit : ℕ) (wanting : List Operation) (state : Holding) (then_site now : Site) (left : List Operation) (count : ℕ) : Type 0 where
    pub done : List Operation
    pub goes_past : (t : Holding) (more : List Operation) → Settles limit wanting (site_holding log now left) t more → Settles limit [] state t (done ++ more)
    pub each : now ≡ all_after after done then_site
    pub counted : length done ≡ count

  pub begins : (limit : ℕ) (site : Site) (held : List Operation) → IsSettling limit [] (site_holding log site held) site site held 0
  begins limit site held = record { done = []; goes_past = λ t more s. s; each = refl; counted = refl }

  after_one : (ops : List Operation) (op : Operation) (site : Site) → all_after after (ops ++ op ∷ []) site ≡ after op (all_after after ops site)
  after_one [] op site = refl
  after_one (x ∷ ops) op site = after_one ops op (after x site)

  pub one_taken : (limit : ℕ) (wanting : List Operation) (state : Holding) (then_site now new : Site) (left less : List Operation) (count : ℕ) (op : Operation)
      → IsSettling limit wanting state then_site now left count → next_of limit wanting (log now) left ≡ Some op → answer_within limit op (log now) ≡ New
      → new ≡ after op now → log new ≡ with_operation op (log now) → less ≡ without_op op left → IsSettling limit wanting state then_site new less (count + 1)
  one_taken limit wanting state then_site now new left less count op k e n a l w = record {
    done = k.done ++ op ∷ [];
    goes_past = λ t more s.
        subst (λ ops. Settles limit [] state t ops) (sym (append_assoc k.done (op ∷ []) more))
        (k.goes_past t (op ∷ more) (takes e (ap is_new n) (subst (λ (h : Holding). Settles limit wanting h t more) (same new less l w) s)));
    each = a ∙ ap (after op) k.each ∙ sym (after_one k.done op then_site);
    counted = length_one k.done op ∙ ap (λ m. m + 1) k.counted;
  }
    where
      same : (site : Site) (held : List Operation) → log site ≡ with_operation op (log now) → held ≡ without_op op left
          → site_holding log site held ≡ with_taken op (site_holding log now left)
      same site held l w = cc

  pub one_dropped : (limit : ℕ) (wanting : List Operation) (state : Holding) (then_site now : Site) (left less : List Operation) (count : ℕ) (op : Operation)
      → IsSettling limit wanting state then_site now left count → next_of limit wanting (log now) left ≡ Some op → is_new (answer_within limit op (log now)) ≡ false
      → less ≡ without_op op left → IsSettling limit wanting state then_site now less count
  one_dropped limit wanting state then_site now left less count op k e n w = record {
    done = k.done;
    goes_past = λ t more s. k.goes_past t more (drops e n (subst (λ held. Settles limit wanting (site_holding log now held) t more) w s));
    each = k.each;
    counted = k.counted;
  }

  -- one could be taken, but no memory is asked for
  pub one_lacking : (limit : ℕ) (wanting : List Operation) (state : Holding) (then_site now : Site) (left : List Operation) (count : ℕ) (op : Operation)
      → IsSettling limit wanting state then_site now left count → next_of limit wanting (log now) left ≡ Some op → is_new (answer_within limit op (log now)) ≡ true
      → IsSettling limit (op ∷ wanting) state then_site now left count
  one_lacking limit wanting state then_site now left count op k e n =
      record { done = k.done; goes_past = λ t more s. k.goes_past t more (lacks e n s); each = k.each; counted = k.counted }

  -- none is left that could be taken
  pub ends : (limit : ℕ) (wanting : List Operation) (state : Holding) (then_site now : Site) (left : List Operation) (count : ℕ)
      → IsSettling limit wanting state then_site now left count → next_of limit wanting (log now) left ≡ None → AreTried log after limit state then_site now left count
  ends limit wanting state then_site now left count k e = record {
    more = k.done;
    settles = subst (λ ops. Settles limit [] state (site_holding log now left) ops) (append_none k.done) (k.goes_past (site_holding log now left) [] (rest e));
    each = k.each;
    counted = k.counted;
  }

  -- after one that was offered
  pub taken_state : (limit most : ℕ) (op : Operation) (old now : Site) (held less : List Operation) (new : Site) (left : List Operation) (count : ℕ) → most ≡ limit → now ≡ after op old
      → log now ≡ with_operation op (log old) → less ≡ without_op op held → AreTried log after most (site_holding log now less) now new left count
      → AreTried log after limit (with_taken op (site_holding log old held)) (after op old) new left count
  taken_state limit most op old now held less new left count e a l w t =
      let same : site_holding log now less ≡ with_taken op (site_holding log old held) = cc in
      subst (λ (s : Site). AreTried log after limit (with_taken op (site_holding log old held)) s new left count) a
      (subst (λ (h : Holding). AreTried log after limit h now new left count) same
      (subst (λ m. AreTried log after m (site_holding log now less) now new left count) e t))
