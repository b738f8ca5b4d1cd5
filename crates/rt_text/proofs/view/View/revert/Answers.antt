use Rattle.rt_text.proofs.ViewLaws.{viewed}
use Rattle.rt_text.specs.declared.widget.Widget.{Widget}
use Rattle.rt_store.specs.Cells.{text_of}
use Rattle.rt_stamps.specs.declared.fault.Fault.TheVariants.{NoMemory}
use Rattle.rt_revert.specs.Reverting.{reversion, reverted_group}
use Rattle.std.proofs.lemmas.Result.{on_err_weaker}
use Rattle.std.specs.List.{AllByRecursion}
use Rattle.std.specs.Prelude.{IfErr, IfOk}
use Rattle.std.proofs.Common.{◌≡◌, ◌∙◌, Err, Ok, OnOk, Result, ap, arith, map, List, ◌⊎◌, None, Some, length, subst, sym}
use Rattle.std.specs.Vec.{with_items}
use Rattle.std.proofs.lemmas.List.{with_items_is}
use Rattle.rt_text.specs.Owned.{widget_value}
use Rattle.rt_undo.specs.Actions.{group_of}
use Rattle.rt_revert.specs.Plans.{named_group}
use Rattle.rt_text.specs.Reversions.{widget_reverted, view_reverted, reversion_check}
use Rattle.rt_text.specs.Widgets.{ViewValue, IsOwnOf}
use Rattle.rt_text.proofs.KeptLimits.{order_reverted}
use Rattle.rt_text.proofs.view.View.revert.Goals as goal

all_ok : {T E A B C D : Type 0} (r : Result T E) → (A → B → C → D) → OnOk r A → OnOk r B → OnOk r C → OnOk r D
all_ok (Ok x) f a b c = f a b c
all_ok (Err e) f a b c = tt

pub returns-clause-checked : goal.returns-clause-checked
returns-clause-checked g c = subst (λ (v : ViewValue). OnOk c.revert_in.result (reversion_check v.doc (named_group c.args.kept.now (group_of c.args.group.now)) ≡ None)) c.self.view_is c.revert_in.ensures.checked

pub returns-clause-returns : goal.returns-clause-returns
returns-clause-returns g c = subst (λ (v : ViewValue). IfOk c.revert_in.result (λ r. r.returns.items ≡ (reversion v.doc (named_group c.args.kept.now (group_of c.args.group.now))).returns)) c.self.view_is c.revert_in.ensures.returns

pub returns-clause-actions : goal.returns-clause-actions
returns-clause-actions g c = subst (λ (v : ViewValue). IfOk c.revert_in.result (λ r. named_group c.revert_in.new.kept (group_of r.actions.items) ≡ reverted_group v.doc (named_group c.args.kept.now (group_of c.args.group.now)))) c.self.view_is c.revert_in.ensures.actions

pub returns-clause-given : goal.returns-clause-given
returns-clause-given g c = c.revert_in.ensures.given

pub returns-clause-sound : goal.returns-clause-sound
returns-clause-sound g c = c.revert_in.ensures.sound

pub returns-clause-ids : goal.returns-clause-ids
returns-clause-ids g c = c.revert_in.ensures.ids

pub returns-clause-err : goal.returns-clause-err
returns-clause-err g c = subst (λ (v : ViewValue). IfErr c.revert_in.result (λ fault. (fault ≡ NoMemory) ⊎ (reversion_check v.doc (named_group c.args.kept.now (group_of c.args.group.now)) ≡ Some fault))) c.self.view_is c.revert_in.ensures.err

pub returns-clause-unchanged : goal.returns-clause-unchanged
returns-clause-unchanged g c =
    let same : viewed c.self.inside.doc (widget_value c.self.inside.widget) (map widget_value c.deref_mut.result.now) ≡ c.args.self.now =
    ap (λ l. viewed c.self.inside.doc (widget_value c.self.inside.widget) (map widget_value l)) c.deref_mut.ensures.value ∙ c.self.view_is in
    let back : (with_items c.self.inside.others c.revert_in.new.others).items ≡ c.revert_in.new.others =
    with_items_is c.self.inside.others c.revert_in.new.others (omega (arith, c.revert_in.auto.others, c.deref_mut.ensures.len)) in
    on_err_weaker c.revert_in.result
    (λ kept. ap (λ l. viewed c.revert_in.new.self (widget_value c.revert_in.new.widget) (map widget_value l)) back ∙ (λ i. viewed (kept.0 i) (kept.1 i) (kept.2 i)) ∙ same)
    c.revert_in.ensures.unchanged

pub invariant_of-self : goal.invariant_of-self
invariant_of-self g c =
    let back : (with_items c.self.inside.others c.revert_in.new.others).items ≡ c.revert_in.new.others =
    with_items_is c.self.inside.others c.revert_in.new.others (omega (arith, c.revert_in.auto.others, c.deref_mut.ensures.len)) in
    let n = length (text_of c.revert_in.new.self.cells) in
    let items = c.self.inside.others.items in
    let group = named_group c.args.kept.now (group_of c.args.group.now) in
    let view = viewed c.self.inside.doc (widget_value c.self.inside.widget) (map widget_value items) in
    let new = viewed c.revert_in.new.self (widget_value c.revert_in.new.widget) (map widget_value (with_items c.self.inside.others c.revert_in.new.others).items) in
    let lent : viewed c.self.inside.doc (widget_value c.self.inside.widget) (map widget_value c.deref_mut.result.now) ≡ view =
    ap (λ (l : List Widget). viewed c.self.inside.doc (widget_value c.self.inside.widget) (map widget_value l)) c.deref_mut.ensures.value in
    let made : OnOk c.revert_in.result (new ≡ view_reverted view group) = all_ok c.revert_in.result
    (λ d w p. (λ k. viewed (d k) (w k) ((ap (map widget_value) back ∙ p ∙ ap (λ l. map (widget_reverted c.self.inside.doc group) (map widget_value l)) c.deref_mut.ensures.value) k)))
    c.revert_in.ensures.doc c.revert_in.ensures.widget c.revert_in.ensures.peers in
    let same = on_err_weaker c.revert_in.result
    (λ kept. ap (λ (l : List Widget). viewed c.revert_in.new.self (widget_value c.revert_in.new.widget) (map widget_value l)) back ∙ (λ i. viewed (kept.0 i) (kept.1 i) (kept.2 i)) ∙ lent) c.revert_in.ensures.unchanged in
    record {
      own = c.revert_in.ensures.own;
      others = subst (λ (l : List Widget). AllByRecursion (IsOwnOf n) (map widget_value l)) (sym back) c.revert_in.ensures.others;
      limits = order_reverted c.revert_in.result view new group c.kept.ensures.site c.kept.ensures.history c.kept.ensures.document c.requires.sound made c.revert_in.ensures.checked same c.self.invariant.limits;
    }

pub revert_in-requires-clause-own : goal.revert_in-requires-clause-own
revert_in-requires-clause-own g c = c.self.invariant.own

pub revert_in-requires-clause-others : goal.revert_in-requires-clause-others
revert_in-requires-clause-others g c =
    subst (λ (l : List Widget). AllByRecursion (IsOwnOf (length (text_of c.self.inside.doc.cells))) (map widget_value l)) (sym c.deref_mut.ensures.value) c.self.invariant.others

pub returns-clause-ok : goal.returns-clause-ok
returns-clause-ok g c =
    let group = named_group c.args.kept.now (group_of c.args.group.now) in
    let back : (with_items c.self.inside.others c.revert_in.new.others).items ≡ c.revert_in.new.others =
    with_items_is c.self.inside.others c.revert_in.new.others (omega (arith, c.revert_in.auto.others, c.deref_mut.ensures.len)) in
    all_ok c.revert_in.result
    (λ d w p. (λ k. record { doc = d k; own = w k; others = (ap (map widget_value) back ∙ p ∙ ap (λ l. map (widget_reverted c.self.inside.doc group) (map widget_value l)) c.deref_mut.ensures.value) k })
    ∙ ap (λ (v : ViewValue). view_reverted v group) c.self.view_is)
    c.revert_in.ensures.doc c.revert_in.ensures.widget c.revert_in.ensures.peers
