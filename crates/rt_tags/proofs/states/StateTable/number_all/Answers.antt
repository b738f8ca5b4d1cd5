use Rattle.std.proofs.Common.{◌+◌, ◌<◌, ◌∙◌, ◌++◌, ◌≡◌, ◌∷◌, ℕ, List, [], All, ap, arith, length, map, refl, string_bytes, subst, sym, take}
use Rattle.std.proofs.lemmas.List.{map-append, map_more, take_all, take-map}
use Rattle.std.proofs.lemmas.Result.{err_from_is_err_and}
use Rattle.std.specs.declared.string.String.{String}
use Rattle.rt_stamps.specs.Words.{as_words}
use Rattle.rt_tags.specs.States.{TagStates, IsTag, all_numbered, name_at, numbered}
use Rattle.rt_tags.specs.Tags.{with_name}
use Rattle.rt_tags.proofs.Listing.{given_more, keeps_both, names_stay, numbered_more}
use Rattle.rt_tags.proofs.states.StateTable.number_all.Goals as goal

-- the names that the first so many of a list gave
first_gave : {Z : Type 0} (names : List (String Z)) (k : ℕ) (old now : TagStates) → now.names ≡ (all_numbered (as_words (take k names)) old).names
    → (k : ℕ) × (now.names ≡ (all_numbered (take k (as_words names)) old).names)
first_gave names k old now gave = (k, gave ∙ ap (λ v. (all_numbered v old).names) (sym (take-map (λ s. string_bytes s) k names)))

-- the names that one more of a list gave
one_more_gave : (front words : List (List ℕ)) (name : List ℕ) (old now new : TagStates) → new ≡ numbered name now → now.names ≡ (all_numbered front old).names
    → words ≡ front ++ name ∷ [] → new.names ≡ (all_numbered words old).names
one_more_gave front words name old now new made gave more =
    ap (λ (t : TagStates). t.names) made
    ∙ ap (with_name name) gave
    ∙ sym (ap (λ v. (all_numbered v old).names) more ∙ ap (λ (t : TagStates). t.names) (numbered_more front name old))

pub returns-in_err-tag : goal.returns-in_err-tag
returns-in_err-tag c =
    let (y, is, gives) = err_from_is_err_and c.from_residual.result c.from_residual.ensures.1 in
    rw (is, gives) (record {
      given = tt;
      tags = tt;
      names = tt;
      partly = first_gave c.args.names.now c.loop-name.name-index c.args.self.now c.number.new.self
          (ap (λ (t : TagStates). t.names) c.in_err-tag.ensures.err ∙ c.loop-name.invariant.names);
      states = ap (λ (t : TagStates). t.states) c.in_err-tag.ensures.err ∙ c.loop-name.invariant.states;
      fault = c.in_err-tag.ensures.fault;
      ids = keeps_both c.args.self.now c.loop-name.self c.number.new.self c.loop-name.invariant.ids c.number.ensures.ids;
    })

pub returns-in_err-push : goal.returns-in_err-push
returns-in_err-push c =
    let (y, is, gives) = err_from_is_err_and c.from_residual-in_err-push.result c.from_residual-in_err-push.ensures.1 in
    let within : c.loop-name.name-index < length c.args.names.now = omega arith in
    let front = as_words (take c.loop-name.name-index c.args.names.now) in
    let more =
    map_more (λ s. string_bytes s) c.args.names.now c.loop-name.name-index c.name-item.result within
    ∙ ap (λ v. front ++ v ∷ []) (ap (λ s. string_bytes s) (sym c.name-item.is) ∙ sym c.deref.ensures) in
    rw (is, gives) (record {
      given = tt;
      tags = tt;
      names = tt;
      partly = first_gave c.args.names.now (c.loop-name.name-index + 1) c.args.self.now c.number.new.self
          (one_more_gave front (as_words (take (c.loop-name.name-index + 1) c.args.names.now)) c.deref.result.now c.args.self.now c.loop-name.self c.number.new.self
          c.in_ok-tag.ensures.ok c.loop-name.invariant.names more);
      states = ap (λ (t : TagStates). t.states) c.in_ok-tag.ensures.ok ∙ c.loop-name.invariant.states;
      fault = refl;
      ids = keeps_both c.args.self.now c.loop-name.self c.number.new.self c.loop-name.invariant.ids c.number.ensures.ids;
    })

pub loop-name-preserved : goal.loop-name-preserved
loop-name-preserved c =
    let old = c.loop-name.self in
    let new = c.number.new.self in
    let ids = c.number.ensures.ids in
    let before = c.loop-name.tags.items in
    let within : c.loop-name.name-index < length c.args.names.now = omega arith in
    let front = as_words (take c.loop-name.name-index c.args.names.now) in
    let more =
    map_more (λ s. string_bytes s) c.args.names.now c.loop-name.name-index c.name-item.result within
    ∙ ap (λ v. front ++ v ∷ []) (ap (λ s. string_bytes s) (sym c.name-item.is) ∙ sym c.deref.ensures) in
    record {
      given = subst (All (IsTag new)) (sym c.in_ok-push.ensures.items) (given_more old new ids before c.in_ok-tag.tag c.loop-name.invariant.given c.in_ok-tag.ensures.given);
      tags = ap (map (name_at new)) c.in_ok-push.ensures.items
          ∙ map-append (name_at new) before (c.in_ok-tag.tag ∷ [])
          ∙ (λ j. (names_stay old new ids before c.loop-name.invariant.given ∙ c.loop-name.invariant.tags) j ++ c.in_ok-tag.ensures.tag j ∷ [])
          ∙ sym more;
      names = one_more_gave front (as_words (take (c.loop-name.name-index + 1) c.args.names.now)) c.deref.result.now c.args.self.now old new
          c.in_ok-tag.ensures.ok c.loop-name.invariant.names more;
      states = ap (λ (t : TagStates). t.states) c.in_ok-tag.ensures.ok ∙ c.loop-name.invariant.states;
      ids = keeps_both c.args.self.now old new c.loop-name.invariant.ids ids;
    }

pub returns-clause-tags : goal.returns-clause-tags
returns-clause-tags c = c.loop-name.invariant.tags ∙ ap (λ v. as_words v) (take_all c.loop-name.name-index c.args.names.now c.loop-name-test.false)

pub returns-clause-names : goal.returns-clause-names
returns-clause-names c =
    c.loop-name.invariant.names
    ∙ ap (λ v. (all_numbered (as_words v) c.args.self.now).names) (take_all c.loop-name.name-index c.args.names.now c.loop-name-test.false)
