use Rattle.std.proofs.Common.{◌≡◌, ◌∙◌, ℕ, List, [], All, ap, arith, length, subst, sym, refl, take}
use Rattle.std.proofs.lemmas.List.{length-map, take_all}
use Rattle.std.proofs.lemmas.Result.{IfOk-weaker, err_from_is_err_and, on_err_weaker}
use Rattle.rt_stamps.specs.declared.stamp.Stamp.{Stamp}
use Rattle.rt_stamps.specs.Words.{as_words}
use Rattle.rt_tags.specs.Kept.{all_on}
use Rattle.rt_tags.specs.States.{TagStates, IsTag, all_numbered, name_at, state_at, writes_at}
use Rattle.rt_tags.specs.Writers.{listed_by, state_after}
use Rattle.rt_tags.specs.declared.states.TagEntry.{TagEntry}
use Rattle.rt_tags.proofs.Listing.{listed_writes, on_given, keeps_both}
use Rattle.rt_tags.proofs.states.StateTable.state_of_list.Goals as goal

-- the names that a whole list gave are those that its first so many gave
all_gave : (names : List (List ℕ)) (old now : TagStates) → now.names ≡ (all_numbered names old).names → (k : ℕ) × (now.names ≡ (all_numbered (take k names) old).names)
all_gave names old now gave = (length names, gave ∙ ap (λ v. (all_numbered v old).names) (sym (take_all (length names) names (omega arith))))

on_length : (writer : Stamp) (tags : List ℕ) → length (all_on writer tags) ≡ length tags
on_length writer tags = length-map tags _

pub with_all-requires-clause-tags : goal.with_all-requires-clause-tags
with_all-requires-clause-tags c =
    let table = c.number_all.new.self in
    let writes = c.deref-2.ensures.value ∙ c.in_ok-writes.ensures ∙ ap (all_on c.args.writer) c.deref.ensures.value in
    subst (All (λ (w : TagEntry). IsTag table w.tag)) (sym writes) (on_given (length table.names) c.args.writer c.in_ok-tags.tags.items c.in_ok-tags.ensures.given)

pub returns-clause-state : goal.returns-clause-state
returns-clause-state c =
    let table = c.number_all.new.self in
    let new = c.with_all.new.self in
    let names = as_words c.args.names.now in
    let writes = c.deref-2.ensures.value ∙ c.in_ok-writes.ensures ∙ ap (all_on c.args.writer) c.deref.ensures.value in
    let made = (λ j. state_after (c.order-2.ensures.empty j) (writes_at table (writes j))) ∙ ap (state_after []) (listed_writes table c.args.writer c.in_ok-tags.tags.items ∙ ap (listed_by c.args.writer) c.in_ok-tags.ensures.tags) in
    IfOk-weaker c.with_all.result (λ id. state_at new id ≡ state_after (state_at table 0) (writes_at table c.deref-2.result.now)) (λ id. state_at new id ≡ state_after [] (listed_by c.args.writer names)) (λ id h. h ∙ made) c.with_all.ensures.state

pub returns-in_err-tags : goal.returns-in_err-tags
returns-in_err-tags c =
    let (y, is, gives) = err_from_is_err_and c.from_residual.result c.from_residual.ensures.1 in
    rw (is, gives) (record { given = tt; state = tt; few = (let e = ap length c.number_all.ensures.states in omega (arith, e)); names = tt; partly = c.in_err-tags.ensures.partly; err = c.number_all.ensures.states; fault = c.in_err-tags.ensures.fault; ids = c.number_all.ensures.ids })

pub returns-in_err-writes : goal.returns-in_err-writes
returns-in_err-writes c =
    let (y, is, gives) = err_from_is_err_and c.from_residual-in_err-writes.result c.from_residual-in_err-writes.ensures.1 in
    rw (is, gives) (record { given = tt; state = tt; few = (let e = ap length c.number_all.ensures.states in omega (arith, e)); names = tt; partly = all_gave (as_words c.args.names.now) c.args.self.now c.number_all.new.self c.in_ok-tags.ensures.names; err = c.number_all.ensures.states; fault = refl; ids = c.number_all.ensures.ids })

pub returns-clause-given : goal.returns-clause-given
returns-clause-given c = c.with_all.ensures.given

pub returns-clause-fault : goal.returns-clause-fault
returns-clause-fault c = c.with_all.ensures.fault

pub returns-clause-ids : goal.returns-clause-ids
returns-clause-ids c = keeps_both c.args.self.now c.number_all.new.self c.with_all.new.self c.number_all.ensures.ids c.with_all.ensures.ids

pub returns-clause-partly : goal.returns-clause-partly
returns-clause-partly c =
    let gave = all_gave (as_words c.args.names.now) c.args.self.now c.with_all.new.self (c.with_all.ensures.names ∙ c.in_ok-tags.ensures.names) in
    on_err_weaker c.with_all.result (λ _. gave) c.with_all.ensures.err

pub returns-clause-few : goal.returns-clause-few
returns-clause-few c =
    let tags = c.in_ok-tags.tags.items in
    let few = c.with_all.ensures.few refl in
    let same = ap length c.number_all.ensures.states in
    let writes = ap length (c.deref-2.ensures.value ∙ c.in_ok-writes.ensures ∙ ap (all_on c.args.writer) c.deref.ensures.value) in
    let put = on_length c.args.writer tags in
    let each = sym (length-map tags (name_at c.number_all.new.self)) ∙ (ap length c.in_ok-tags.ensures.tags ∙ length-map c.args.names.now _) in
    omega (arith, few, same, writes, put, each)
