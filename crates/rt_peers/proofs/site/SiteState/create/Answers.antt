use Rattle.std.proofs.Common.{◌≡◌, ◌∙◌, ◌++◌, [], ◌∷◌, List, true, false, None, Ok, Some, ap, cond, inr, refl, subst, sym}
use Rattle.std.specs.Prelude.{is_some}
use Rattle.std.proofs.lemmas.Result.{err_from_is_err_and}
use Rattle.rt_stamps.specs.declared.fault.Fault.TheVariants.{WidgetExists}
use Rattle.rt_stamps.specs.Outcomes.{Refuses}
use Rattle.rt_stamps.specs.Words.{Word}
use Rattle.rt_peers.specs.PeerStep.{created, path_check}
use Rattle.rt_peers.specs.SiteValue.{number_of_path}
use Rattle.rt_peers.proofs.OptionLaws.{created_as, created_refused}
use Rattle.rt_peers.proofs.PeerLaws.{place_in}
use Rattle.rt_peers.proofs.site.SiteState.create.Goals as goal

pub returns-then-is_some : goal.returns-then-is_some
returns-then-is_some c =
    let at : number_of_path c.text.result.now c.args.self.now.paths ≡ c.number_of.result = place_in c.text.result.now c.deref.result.now c.self.inside.paths.items c.args.self.now.paths c.number_of.result c.number_of.ensures c.deref.ensures.value (ap (λ s. s.paths) c.self.view_is) in
    let found : is_some (number_of_path c.args.path.now c.args.self.now.paths) ≡ true =
    ap (λ p. is_some (number_of_path p c.args.self.now.paths)) (sym c.text.ensures) ∙ ap is_some at ∙ sym c.is_some.ensures ∙ c.if-is_some.true in
    (refl, inr (ap (λ b. created c.args.number c.args.path.now c.args.self.now c.args.settings.now (cond b (Some WidgetExists) None)) found))

pub returns-in_err-add_widget : goal.returns-in_err-add_widget
returns-in_err-add_widget c =
    let path = c.args.path.now in
    let old = c.args.self.now in
    let at : number_of_path c.text.result.now old.paths ≡ c.number_of.result = place_in c.text.result.now c.deref.result.now c.self.inside.paths.items old.paths c.number_of.result c.number_of.ensures c.deref.ensures.value (ap (λ s. s.paths) c.self.view_is) in
    let free : is_some (number_of_path path old.paths) ≡ false =
    ap (λ p. is_some (number_of_path p old.paths)) (sym c.text.ensures) ∙ ap is_some at ∙ sym c.is_some.ensures ∙ c.if-is_some.false in
    let p = err_from_is_err_and c.from_residual-in_err-add_widget.result c.from_residual-in_err-add_widget.ensures.1 in
    let refused = created_refused c.args.number path old c.args.settings.now c.in_err-add_widget.field-0.0 free c.in_err-add_widget.ensures.err in
    rw p.1 (c.in_err-add_widget.ensures.unchanged, subst (Refuses (created c.args.number path old c.args.settings.now (path_check path old.paths))) (sym p.2) refused)

pub returns : goal.returns
returns c =
    let path = c.args.path.now in
    let old = c.args.self.now in
    let at : number_of_path c.text.result.now old.paths ≡ c.number_of.result = place_in c.text.result.now c.deref.result.now c.self.inside.paths.items old.paths c.number_of.result c.number_of.ensures c.deref.ensures.value (ap (λ s. s.paths) c.self.view_is) in
    let free : is_some (number_of_path path old.paths) ≡ false =
    ap (λ p. is_some (number_of_path p old.paths)) (sym c.text.ensures) ∙ ap is_some at ∙ sym c.is_some.ensures ∙ c.if-is_some.false in
    let ok = c.in_ok-add_widget.ensures in
    let paths = ok.path ∙ ap (λ p. old.paths ++ p ∷ []) c.text-3.ensures in
    let made = created_as c.args.number path old c.add_widget.new.self c.args.settings.now free ok.ok paths c.add_widget.ensures.held in
    let same : path ∷ [] ≡ c.in_ok-reply.reply = sym (c.in_ok-reply.ensures.ok ∙ ap (λ w. w ∷ []) (c.in_ok-from_str.ensures.ok ∙ c.text-2.ensures)) in
    made ∙ ap (λ (r : List Word). Ok (r, c.add_widget.new.self)) same
