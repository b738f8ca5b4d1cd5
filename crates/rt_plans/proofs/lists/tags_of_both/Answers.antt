use Rattle.std.proofs.Common.{◌≡◌, ◌∙◌, ◌+◌, ◌<◌, ◌++◌, ◌∷◌, [], ℕ, All, Bool, List, ap, append-nil, cond, false, filter, get_or, length, map, refl, subst, sym, take, true}
use Rattle.std.proofs.lemmas.List.{map_more, map-append, take_all}
use Rattle.std.proofs.lemmas.List.Elements.{All-append, All-cons, All-nil, filter-append}
use Rattle.std.proofs.lemmas.Result.{err_from_is_err_and}
use Rattle.rt_stamps.specs.Words.{Word}
use Rattle.rt_tags.specs.States.{IsTag, is_on, name_at, state_at}
use Rattle.rt_plans.proofs.lists.tags_of_both.Goals as goal
use Rattle.rt_plans.proofs.lists.tags_of_both.Goals.{then-has+in_ok-push, else-has}

-- the names that pass a test, with one more of the tags gone through
module _ (f : ℕ → Word) (p : Word → Bool) (tags both : List ℕ) (i tag : ℕ) (within : i < length tags) (is : tag ≡ get_or tags i tag) (kept : map f both ≡ filter p (map f (take i tags))) where
  more : filter p (map f (take i tags)) ++ cond (p (f tag)) (f tag ∷ []) [] ≡ filter p (map f (take (i + 1) tags))
  more =
      sym (filter-append p (map f (take i tags)) (f tag ∷ []))
      ∙ ap (λ x. filter p (map f (take i tags) ++ f x ∷ [])) is
      ∙ ap (filter p) (sym (map_more f tags i tag within))

  picked : p (f tag) ≡ true → map f (both ++ tag ∷ []) ≡ filter p (map f (take (i + 1) tags))
  picked h =
      map-append f both (tag ∷ []) ∙ ap (λ xs. xs ++ f tag ∷ []) kept
      ∙ ap (λ b. filter p (map f (take i tags)) ++ cond b (f tag ∷ []) []) (sym h) ∙ more

  left_out : p (f tag) ≡ false → map f both ≡ filter p (map f (take (i + 1) tags))
  left_out h = kept ∙ sym (append-nil (filter p (map f (take i tags)))) ∙ ap (λ b. filter p (map f (take i tags)) ++ cond b (f tag ∷ []) []) (sym h) ∙ more

pub returns-in_err-on : goal.returns-in_err-on
returns-in_err-on c =
    let (y, is, gives) = err_from_is_err_and c.from_residual.result c.from_residual.ensures.1 in
    rw (is, gives) (record { ok = tt; given = tt; err = c.in_err-on.ensures.fault })

pub returns-in_err-push : goal.returns-in_err-push
returns-in_err-push c =
    let (y, is, gives) = err_from_is_err_and c.from_residual-in_err-push.result c.from_residual-in_err-push.ensures.1 in
    rw (is, gives) (record { ok = tt; given = tt; err = refl })

pub loop-tag-preserved : goal.loop-tag-preserved
loop-tag-preserved c =
    let t = c.args.states.now in
    let tags = c.as_slice-tag-items.result.now in
    let i = c.loop-tag.tag-index in
    let tag = c.tag-item.result in
    let both = c.loop-tag.both.items in
    let inv = c.loop-tag.invariant in
    let p : Word → Bool = λ name. is_on name (state_at t c.args.right) in
    let Q : List ℕ → Type 0 = λ xs. (map (name_at t) xs ≡ filter p (map (name_at t) (take (i + 1) tags))) × All (IsTag t) xs in
    let given : IsTag t tag = subst (IsTag t) (sym c.tag-item.is) (subst (All (IsTag t)) (sym c.as_slice-tag-items.ensures.value) c.in_ok-on.ensures.tags i tag c.loop-tag-test.true) in
    let all : Q c.if-has.both.items = elim c.if-has.branch [
      | then-has+in_ok-push w ↦ subst Q (sym ((λ j. (w.both-is j).items) ∙ w.in_ok-push.ensures.items)) (
        picked (name_at t) p tags both i tag c.loop-tag-test.true c.tag-item.is inv.names (sym c.has.ensures ∙ w.if-has.true),
        All-append (IsTag t) both (tag ∷ []) inv.given (All-cons (IsTag t) tag [] given (All-nil (IsTag t))),
      )
      | else-has w ↦ subst Q (sym (λ j. (w.both-is j).items))
          (left_out (name_at t) p tags both i tag c.loop-tag-test.true c.tag-item.is inv.names (sym c.has.ensures ∙ w.if-has.false), inv.given)
    ] in
    record { names = all.0; given = all.1 }

pub returns : goal.returns
returns c =
    let t = c.args.states.now in
    let p : Word → Bool = λ name. is_on name (state_at t c.args.right) in
    let all = take_all c.loop-tag.tag-index c.as_slice-tag-items.result.now c.loop-tag-test.false in
    record {
      ok = c.loop-tag.invariant.names ∙ ap (λ xs. filter p (map (name_at t) xs)) all ∙ ap (filter p) (ap (map (name_at t)) c.as_slice-tag-items.ensures.value ∙ c.in_ok-on.ensures.names);
      given = c.loop-tag.invariant.given;
      err = tt;
    }
