use Rattle.std.proofs.Common.{◌≡◌, ◌∙◌, ◌<◌, ℕ, nat_lt, true, List, None, Some, Ok, ap, arith, cond, length, refl, subst, sym}
use Rattle.std.specs.List.{remove}
use Rattle.std.proofs.lemmas.Bool.Decides.{nat_tests}
use Rattle.rt_stamps.specs.declared.fault.Fault.TheVariants.{LastWidget}
use Rattle.rt_stamps.specs.Outcomes.{unless}
use Rattle.rt_stamps.specs.Words.{Word, as_words}
use Rattle.rt_text.specs.Widgets.{ViewValue}
use Rattle.rt_recording.specs.EditedValue.{EditedValue}
use Rattle.rt_holding.specs.Grown.{AreTriedAt}
use Rattle.rt_peers.specs.Peers.{HavePaths, without_widget}
use Rattle.rt_peers.specs.PeerStep.{destroyed, destroyed_at}
use Rattle.rt_peers.specs.SiteValue.{SiteValue, number_of_path}
use Rattle.rt_peers.proofs.PeerLaws.{number_of_strings, path_gone, place_in, place_within, strings_without}
use Rattle.rt_peers.proofs.site.SiteState.destroy.Goals as goal

counted : (n : ℕ) → 1 < n → nat_lt 1 n ≡ true
counted n h = grind (arith, nat_tests)

abbrev paths_in : goal.After-no_words → List Word
paths_in c = as_words c.self.inside.paths.items

found : (c : goal.After-no_words) → number_of_path c.args.path.now (paths_in c) ≡ Some c.in-Some.number
found c = place_in c.args.path.now c.deref.result.now c.self.inside.paths.items (paths_in c) c.number_of.result c.number_of.ensures c.deref.ensures.value refl ∙ c.in-Some.is

several : (c : goal.After-no_words) → 1 < length (paths_in c)
several c =
    let there = place_within c.args.path.now (paths_in c) c.in-Some.number (found c) in
    omega (arith, there, number_of_strings c.self.inside.paths.items, c.len.ensures, c.if-len-eq1.false)

pub invariant_of-self : goal.invariant_of-self
invariant_of-self c =
    let number = c.in-Some.number in
    let view = c.self.inside.text.view in
    let there : number < length (paths_in c) = place_within c.args.path.now (paths_in c) number (found c) in
    let items : as_words c.remove.new.self.items ≡ remove (paths_in c) number = ap as_words c.remove.ensures.items ∙ strings_without c.self.inside.paths.items number in
    record {
      paths = subst (λ (l : List Word). HavePaths l c.remove_widget.new.self.view) (sym items)
          (subst (λ (v : ViewValue). HavePaths (remove (paths_in c) number) v) (sym (ap (λ t. t.view) c.remove_widget.ensures)) (path_gone (paths_in c) view number c.self.invariant.paths there (several c)));
      tried = subst (λ (t : EditedValue). AreTriedAt t.view.doc.limit t.view.doc.log c.self.inside.held) (sym c.remove_widget.ensures) c.self.invariant.tried;
    }

gone : (c : goal.After-no_words) → destroyed c.args.path.now c.args.self.now ≡ Ok (record { paths = as_words c.remove.new.self.items; text = c.remove_widget.new.self; held = c.self.inside.held.held })
gone c =
    let number = c.in-Some.number in
    let state : SiteValue = record { paths = paths_in c; text = c.self.inside.text; held = c.self.inside.held.held } in
    let items : as_words c.remove.new.self.items ≡ remove (paths_in c) number = ap as_words c.remove.ensures.items ∙ strings_without c.self.inside.paths.items number in
    let left : without_widget number state ≡ record { paths = as_words c.remove.new.self.items; text = c.remove_widget.new.self; held = c.self.inside.held.held } =
    λ i. record { paths = sym items i; text = sym c.remove_widget.ensures i; held = c.self.inside.held.held } in
    let goes : destroyed c.args.path.now state ≡ Ok (without_widget number state) =
    ap (λ o. destroyed_at o state) (found c) ∙ ap (λ b. unless (cond b None (Some LastWidget)) (without_widget number state)) (counted _ (several c)) in
    let all : destroyed c.args.path.now state ≡ Ok (record { paths = as_words c.remove.new.self.items; text = c.remove_widget.new.self; held = c.self.inside.held.held }) = goes ∙ ap (λ s. Ok s) left in
    subst (λ (s : SiteValue). destroyed c.args.path.now s ≡ Ok (record { paths = as_words c.remove.new.self.items; text = c.remove_widget.new.self; held = c.self.inside.held.held })) c.self.view_is all

pub returns : goal.returns
returns c = record { reply = c.no_words.ensures; ok = gone c; err = tt; unchanged = tt }
