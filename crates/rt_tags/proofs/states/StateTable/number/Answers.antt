use Rattle.std.proofs.Common.{◌≡◌, ◌≤◌, ◌+◌, ◌^◌, length, arith, ◌++◌, ◌∷◌, [], ◌∙◌, subst, sym, ap, refl, false, true≢false}
use Rattle.std.proofs.lemmas.List.{length-append}
use Rattle.std.proofs.lemmas.Option.{get_or_from_slice_get, slice_get_within}
use Rattle.rt_tags.specs.Kept.{IsStateTable}
use Rattle.rt_tags.specs.Seen.{names_of}
use Rattle.rt_tags.specs.States.{TagStates, AreNumbered, IsTag, KeepsIds, name_at, numbered}
use Rattle.rt_tags.specs.Tags.{HaveNoRepeats, is_listed}
use Rattle.rt_tags.proofs.Keeping.{keeps_itself, keeps_numbered, nowhere_on, numbered_new, stands_last, table_longer, table_of}
use Rattle.rt_tags.proofs.Places.{at_within, got}
use Rattle.rt_tags.proofs.Sets.{len_names}
use Rattle.std.proofs.lemmas.Result.{err_from_is_err_and}
use Rattle.rt_tags.proofs.states.StateTable.number.Goals as goal

pub returns-in-Some-clause-tag : goal.returns-in-Some-clause-tag
returns-in-Some-clause-tag c =
    subst (λ (t : TagStates). name_at t c.in-Some.place ≡ c.args.name.now) c.self.view_is
    (get_or_from_slice_get (names_of c.self.inside.names) c.in-Some.place c.args.name.now [] (got c.args.name.now (names_of c.self.inside.names) c.in-Some.place c.in-Some.ensures.index))

pub returns-in-Some-clause-given : goal.returns-in-Some-clause-given
returns-in-Some-clause-given c = subst (λ (t : TagStates). IsTag t c.in-Some.place) c.self.view_is (at_within c.args.name.now (names_of c.self.inside.names) c.in-Some.place c.in-Some.ensures.index)

pub invariant_of-self-in-None : goal.invariant_of-self-in-None
invariant_of-self-in-None c =
    let names = names_of c.self.inside.names in
    let added : names_of c.add.new.names ≡ names ++ c.args.name.now ∷ [] = c.add.ensures.names ∙ (λ j. c.make_room.ensures.names j ++ c.in_ok-name-in-None.ensures.ok j ∷ []) in
    let len : length (names ++ c.args.name.now ∷ []) ≡ length names + 1 = length-append names (c.args.name.now ∷ []) in
    let place = c.len-place.ensures.len ∙ sym (len_names c.self.inside.names.keys) in
    let few : length (names ++ c.args.name.now ∷ []) ≤ 2 ^ 32 = omega (arith, len, place) in
    subst (λ v. IsStateTable v c.self.inside.nodes.keys) (sym added) (table_longer names c.self.inside.nodes.keys c.self.invariant (c.args.name.now ∷ []) few (subst HaveNoRepeats added c.add.ensures.no_repeats))

pub returns-in_ok-make_room-in-None-clause-tag : goal.returns-in_ok-make_room-in-None-clause-tag
returns-in_ok-make_room-in-None-clause-tag c =
    let names = names_of c.self.inside.names in
    let added : names_of c.add.new.names ≡ names ++ c.args.name.now ∷ [] = c.add.ensures.names ∙ (λ j. c.make_room.ensures.names j ++ c.in_ok-name-in-None.ensures.ok j ∷ []) in
    get_or_from_slice_get (names_of c.add.new.names) c.len-place.result c.args.name.now [] (stands_last names (names_of c.add.new.names) c.args.name.now c.len-place.result added (c.len-place.ensures.len ∙ sym (len_names c.self.inside.names.keys)))

pub returns-in_ok-make_room-in-None-clause-given : goal.returns-in_ok-make_room-in-None-clause-given
returns-in_ok-make_room-in-None-clause-given c =
    let names = names_of c.self.inside.names in
    let added : names_of c.add.new.names ≡ names ++ c.args.name.now ∷ [] = c.add.ensures.names ∙ (λ j. c.make_room.ensures.names j ++ c.in_ok-name-in-None.ensures.ok j ∷ []) in
    slice_get_within (names_of c.add.new.names) c.len-place.result c.args.name.now (stands_last names (names_of c.add.new.names) c.args.name.now c.len-place.result added (c.len-place.ensures.len ∙ sym (len_names c.self.inside.names.keys)))

pub returns-in_ok-make_room-in-None-clause-ok : goal.returns-in_ok-make_room-in-None-clause-ok
returns-in_ok-make_room-in-None-clause-ok c =
    let names = names_of c.self.inside.names in
    let added : names_of c.add.new.names ≡ names ++ c.args.name.now ∷ [] = c.add.ensures.names ∙ (λ j. c.make_room.ensures.names j ++ c.in_ok-name-in-None.ensures.ok j ∷ []) in
    ap (λ v. table_of v c.self.inside.nodes.keys) added
    ∙ numbered_new names c.self.inside.nodes.keys c.self.invariant c.args.name.now (sym c.in-None.ensures.found)
    ∙ ap (numbered c.args.name.now) c.self.view_is

pub returns-in_ok-make_room-in-None-clause-ids : goal.returns-in_ok-make_room-in-None-clause-ids
returns-in_ok-make_room-in-None-clause-ids c =
    let numbers = subst (λ (t : TagStates). AreNumbered t) c.self.view_is
    (λ name state new. nowhere_on (names_of c.self.inside.names) c.self.inside.nodes.keys c.self.invariant name state new) in
    subst (KeepsIds c.args.self.now) (sym (returns-in_ok-make_room-in-None-clause-ok c)) (keeps_numbered c.args.name.now c.args.self.now numbers)

pub invariant_of-self : goal.invariant_of-self
invariant_of-self c = rw c.make_room.ensures.names c.self.invariant

pub returns-in-Some-clause-err : goal.returns-in-Some-clause-err
returns-in-Some-clause-err c = tt

pub returns-in-Some-clause-fault : goal.returns-in-Some-clause-fault
returns-in-Some-clause-fault c = tt

pub returns-in-Some-clause-ids : goal.returns-in-Some-clause-ids
returns-in-Some-clause-ids c = keeps_itself c.args.self.now

pub returns-in-Some-clause-memory : goal.returns-in-Some-clause-memory
returns-in-Some-clause-memory c = λ h. refl

pub returns-in_err-name-in-None : goal.returns-in_err-name-in-None
returns-in_err-name-in-None c =
    let (y, is, gives) = err_from_is_err_and c.from_residual.result c.from_residual.ensures.1 in
    let new = subst (λ (t : TagStates). is_listed c.args.name.now t.names ≡ false) c.self.view_is (sym c.in-None.ensures.found) in
    rw (is, gives) (record { given = tt; tag = tt; ok = tt; err = refl; memory = λ h. absurd (true≢false (sym h ∙ new)); fault = refl; ids = keeps_itself c.args.self.now })

pub returns-in_err-make_room-in-None : goal.returns-in_err-make_room-in-None
returns-in_err-make_room-in-None c =
    let (y, is, gives) = err_from_is_err_and c.from_residual-in_err-make_room-in-None.result c.from_residual-in_err-make_room-in-None.ensures.1 in
    let new = subst (λ (t : TagStates). is_listed c.args.name.now t.names ≡ false) c.self.view_is (sym c.in-None.ensures.found) in
    let same = ap (λ v. table_of v c.self.inside.nodes.keys) c.make_room.ensures.names ∙ c.self.view_is in
    rw (is, gives) (record {
      given = tt;
      tag = tt;
      ok = tt;
      err = same;
      memory = λ h. absurd (true≢false (sym h ∙ new));
      fault = refl;
      ids = subst (KeepsIds c.args.self.now) (sym same) (keeps_itself c.args.self.now);
    })

pub returns-in_ok-make_room-in-None-clause-err : goal.returns-in_ok-make_room-in-None-clause-err
returns-in_ok-make_room-in-None-clause-err c = tt

pub returns-in_ok-make_room-in-None-clause-fault : goal.returns-in_ok-make_room-in-None-clause-fault
returns-in_ok-make_room-in-None-clause-fault c = tt

pub returns-in_ok-make_room-in-None-clause-memory : goal.returns-in_ok-make_room-in-None-clause-memory
returns-in_ok-make_room-in-None-clause-memory c = λ h. refl
