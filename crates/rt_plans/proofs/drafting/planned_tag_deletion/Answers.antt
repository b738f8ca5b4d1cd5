use Rattle.std.proofs.Common.{◌≡◌, ℕ, ◌+◌, ◌<◌, Bool, Err, List, [], ◌∷◌, ◌++◌, ◌&&◌, true, false, not, inl, inr, append-nil, ap, arith, drop, get_or, length, map, refl, string_bytes, subst, sym, ◌∙◌}
use Rattle.std.proofs.Common.{String, Global}
use Rattle.std.specs.Prelude.{nat_le, nat_lt}
use Rattle.std.proofs.lemmas.Bool.{and_from, and_parts, le-leb, lt-ltb, or_left}
use Rattle.std.proofs.lemmas.List.{drop_all, drop_more}
use Rattle.std.proofs.lemmas.Result.{err_from_is_err_and}
use Rattle.rt_stamps.specs.declared.limits.TheConstants.{MOST_SPANS}
use Rattle.rt_stamps.specs.Words.{Word, as_words}
use Rattle.rt_ops.specs.Edits.{body_of}
use Rattle.rt_ops.specs.Operations.{Body}
use Rattle.rt_store.specs.Cells.{visible_of}
use Rattle.rt_store.specs.Shown.{TaggedCell, shown}
use Rattle.rt_tags.specs.Tags.{is_listed, sel, with_name}
use Rattle.rt_plans.specs.declared.range.Range.{Range}
use Rattle.rt_plans.specs.Listed.{AreListed, listed_name}
use Rattle.rt_plans.specs.Removals.{cells_at, is_covered, is_in}
use Rattle.rt_plans.specs.TagDrafts.{tag_deletion_drafts, tag_drafts}
use Rattle.rt_plans.specs.TagWrites.{changed_stamps}
use Rattle.rt_plans.proofs.DeletionsInTurn.{Stands, stands_first, stands_more, stands_past}
use Rattle.rt_plans.proofs.ChangedPlaces.{visible_many}
use Rattle.rt_plans.proofs.GoneLaws.{some_visible}
use Rattle.rt_plans.proofs.ListedWrites.{everywhere}
use Rattle.rt_plans.proofs.StateChanges.{AreAlike, cells_alike}
use Rattle.rt_plans.proofs.drafting.planned_tag_deletion.Goals as goal
use Rattle.rt_plans.proofs.drafting.planned_tag_deletion.Goals.{then-is_new+in_ok-ensure+in_ok-push_changes, else-is_new}

-- the next name, and the others
next_name : (names : List (String Global)) (i : ℕ) (name : String Global) → i < length names → name ≡ get_or names i name
    → as_words (drop i names) ≡ string_bytes name ∷ as_words (drop (i + 1) names)
next_name names i name lt e = ap as_words (drop_more names i name lt) ∙ ap (λ n. string_bytes n ∷ as_words (drop (i + 1) names)) (sym e)

-- the places of the whole text
whole : (n : ℕ) (cells : List TaggedCell) → n ≡ length (visible_of cells) → cells_at (is_covered (record { from = 0; to = n } ∷ [])) 0 cells ≡ cells_at everywhere 0 cells
whole n cells e =
    let range : Range = record { from = 0; to = n } in
    let alike : AreAlike (is_covered (range ∷ [])) everywhere 0 (length (visible_of cells)) =
    λ q l m. or_left (is_in range q) false (and_from (nat_le 0 q) (nat_lt q n) (le-leb 0 q (omega arith)) (lt-ltb q n (omega (arith, m, e)))) in
    cells_alike (is_covered (range ∷ [])) everywhere 0 cells alike

pub push_changes-requires-clause-order : goal.push_changes-requires-clause-order
push_changes-requires-clause-order g c = (omega arith, omega (arith, c.visible.ensures, some_visible (g.S.TextStore.list c.args.store.now) (g.met.S.TextStore.ends c.args.store.now)), tt)

pub loop-name-init : goal.loop-name-init
loop-name-init g c = λ doc written shows.
    let names = as_words c.args.names.now in
    subst (λ seen. Stands MOST_SPANS doc seen (map body_of c.new-drafts.result.items) names names) (sym (λ i. (c.in_ok-seen.ensures.ok i).names))
    (subst (λ l. Stands MOST_SPANS doc (sel ∷ []) (map body_of l) names names) (sym c.new-drafts.ensures.items)
    (stands_first MOST_SPANS doc c.args.tags.now.names names written (subst (AreListed c.args.tags.now.names) (sym shows) c.requires.listed)))

pub returns-in_err-ensure-clause-err : goal.returns-in_err-ensure-clause-err
returns-in_err-ensure-clause-err g c =
    let p = err_from_is_err_and c.from_residual-in_err-ensure.result c.from_residual-in_err-ensure.ensures.1 in
    let tags = c.args.tags.now.names in
    let name = c.deref-then-is_new.result.now in
    let seen = is_listed c.deref.result.now c.loop-name.seen.names in
    let listed : is_listed name tags ≡ true =
    ap (λ n. is_listed n tags) (c.deref-then-is_new.ensures ∙ sym c.deref.ensures) ∙ (and_parts (is_listed c.deref.result.now tags) (not seen) (sym c.is_new.ensures ∙ c.if-is_new.true)).0 in
    rw p.1 (elim c.in_err-ensure.ensures.fault [
      | inl e ↦ absurd (c.in_err-ensure.ensures.bad_name.0 (ap (λ f. Err f) e) (listed_name name tags c.requires.listed.names listed))
      | inr e ↦ p.2 ∙ e
    ])

pub loop-name-preserved : goal.loop-name-preserved
loop-name-preserved g c =
    let kept = g.S.TextStore.list c.args.store.now in
    let shows_all = map (shown c.args.states.now) kept in
    let all = is_covered (record { from = 0; to = c.visible.result } ∷ []) in
    let tags = c.args.tags.now.names in
    let seen = c.loop-name.seen.names in
    let done : List Body = map body_of c.loop-name.drafts.items in
    let name : Word = string_bytes c.name-item.result in
    let left : List Word = as_words (drop (c.loop-name.name-index + 1) c.args.names.now) in
    let names : List Word = as_words c.args.names.now in
    let next = next_name c.args.names.now c.loop-name.name-index c.name-item.result c.loop-name-test.true c.name-item.is in
    let told = ap (λ n. is_listed n tags && not (is_listed n seen)) (sym c.deref.ensures) ∙ sym c.is_new.ensures in
    elim c.if-is_new.branch [
      | then-is_new+in_ok-ensure+in_ok-push_changes w ↦
          rw (w.seen-is, w.drafts-is) (λ doc written shows.
          let before : Stands MOST_SPANS doc seen done (name ∷ left) names = subst (λ l. Stands MOST_SPANS doc seen done l names) next (c.loop-name.invariant doc written shows) in
          let new : is_listed name seen ≡ false = fresh (is_listed name tags) (is_listed name seen) (told ∙ w.if-is_new.true) in
          let cells : cells_at all 0 shows_all ≡ cells_at everywhere 0 doc.cells =
          whole c.visible.result shows_all (c.visible.ensures ∙ sym (visible_many c.args.states.now kept)) ∙ ap (cells_at everywhere 0) (sym shows) in
          let drafts = w.in_ok-push_changes.ensures.ok ∙ (λ i. done ++ tag_drafts MOST_SPANS false (w.deref-then-is_new-2.ensures i) (changed_stamps (w.deref-then-is_new-2.ensures i) false (cells i))) in
          subst (λ l. Stands MOST_SPANS doc l (map body_of w.push_changes.new.drafts.items) left names) (sym (w.in_ok-ensure.ensures.names ∙ ap (λ n. with_name n seen) w.deref-then-is_new.ensures))
          (subst (λ l. Stands MOST_SPANS doc (with_name name seen) l left names) (sym drafts) (stands_more MOST_SPANS doc seen done name left names new before)))
      | else-is_new w ↦
          rw (w.seen-is, w.drafts-is) (λ doc written shows.
          stands_past MOST_SPANS doc tags seen done name left names refl (subst (AreListed tags) (sym shows) c.requires.listed) (told ∙ w.if-is_new.false)
          (subst (λ l. Stands MOST_SPANS doc seen done l names) next (c.loop-name.invariant doc written shows)))
    ]
  where
    fresh : (b d : Bool) → (b && not d) ≡ true → d ≡ false
    fresh true true h = absurd (cc h)
    fresh true false h = refl
    fresh false d h = absurd (cc h)

pub returns-clause-ok : goal.returns-clause-ok
returns-clause-ok g c = λ doc written shows.
    let done : List Body = map body_of c.loop-name.drafts.items in
    let s = c.loop-name.invariant doc written shows in
    sym (append-nil done) ∙ ap (λ l. done ++ tag_deletion_drafts MOST_SPANS s.doc (as_words l)) (sym (drop_all c.loop-name.name-index c.args.names.now (omega arith))) ∙ s.drafts
