use Rattle.std.proofs.Common.{◌≡◌, ◌∙◌, ◌+◌, ◌++◌, ◌||◌, [], ◌∷◌, ap, arith, cond, length-take, map, subst, sym, take}
use Rattle.std.specs.Prelude.{string_bytes}
use Rattle.std.proofs.lemmas.List.{map-append}
use Rattle.rt_stamps.specs.declared.limits.TheConstants.{MOST_CHARACTERS}
use Rattle.rt_stamps.specs.declared.stamp.Stamp.{Stamp}
use Rattle.rt_stamps.specs.Stamps.{is_same}
use Rattle.rt_stamps.specs.Words.{as_words}
use Rattle.rt_ops.specs.Edits.{body_of}
use Rattle.rt_store.specs.Cells.{after_element}
use Rattle.rt_rga.proofs.RemovedPlaces.{fewer}
use Rattle.rt_tags.specs.States.{state_at}
use Rattle.rt_rga.specs.OneOrMany.{items_in}
use Rattle.rt_plans.specs.InsertionDrafts.{text_drafts}
use Rattle.rt_plans.specs.Insertions.{counts_for}
use Rattle.rt_undo.specs.Renames.{is_moved, now_of, replaced}
use Rattle.rt_revert.specs.declared.plan.TextChange.TheVariants.{Inserted}
use Rattle.rt_revert.specs.Portions.{AreSmall, offset_behind, offset_of}
use Rattle.rt_revert.proofs.Counted.{up_to}
use Rattle.rt_revert.proofs.Returned.{Came, IsThere, came_copy, came_going, came_so_far, fresh, goes_directly, new_of, state_rises, unmoved, where_it_goes}
use Rattle.rt_revert.proofs.returning.put_back.Goals as goal

pub put_in-requires-clause-placed : goal.put_in-requires-clause-placed
put_in-requires-clause-placed g c =
    let old = g.S.TextStore.list c.args.copy.now in
    let table = c.args.kept.now in
    let before = c.args.plan.now in
    let cell = c.args.cell in
    let there : IsThere table old cell = record {
      state = c.requires.state;
      names = c.requires.names;
      rise = state_rises (state_at table cell.state) (c.order.ensures.by_name cell.state c.requires.state);
      there = c.requires.there;
      other = c.requires.other;
    } in
    where_it_goes c.number.result table old old before before cell 0 [] c.number.ensures.positive (g.met.S.TextStore.ends c.args.copy.now) there

pub put_in-requires-clause-directly : goal.put_in-requires-clause-directly
put_in-requires-clause-directly g c =
    let old = g.S.TextStore.list c.args.copy.now in
    goes_directly c.number.result c.args.kept.now old old c.args.plan.now c.args.plan.now c.args.cell 0 [] c.requires.copy

pub put_in-requires-clause-fresh : goal.put_in-requires-clause-fresh
put_in-requires-clause-fresh g c =
    let old = g.S.TextStore.list c.args.copy.now in
    fresh c.number.result c.args.kept.now old old c.args.plan.now c.args.plan.now c.args.cell 0 [] c.number.ensures.positive c.requires.copy

pub come_back-requires-clause-later : goal.come_back-requires-clause-later
come_back-requires-clause-later g c =
    omega (arith, up_to c.args.plan.now.texts.count (g.S.TextStore.list c.args.copy.now) c.args.cell.stamp c.requires.copy.older c.requires.there c.requires.other)

pub come_back-requires-clause-fresh : goal.come_back-requires-clause-fresh
come_back-requires-clause-fresh g c =
    let newer : Stamp = record { count = c.args.plan.now.texts.count + 1; site = c.number.result } in
    ap (λ m. is_moved m newer) c.in_ok-write.ensures.renames ∙ unmoved c.args.kept.now c.args.plan.now newer c.requires.going (omega arith)

pub come_back-requires-clause-place : goal.come_back-requires-clause-place
come_back-requires-clause-place g c =
    let old = g.S.TextStore.list c.args.copy.now in
    let at = after_element old c.args.cell.stamp in
    omega (arith, c.in_ok-place.ensures.place, fewer (take at old), length-take at old, c.requires.copy.few)

pub come_back-requires-clause-offsets : goal.come_back-requires-clause-offsets
come_back-requires-clause-offsets g c = subst AreSmall (sym c.in_ok-write.ensures.offsets) c.requires.going.offsets

pub returns-clause-copy : goal.returns-clause-copy
returns-clause-copy g c =
    let old = g.S.TextStore.list c.args.copy.now in
    let table = c.args.kept.now in
    let before = c.args.plan.now in
    let cell = c.args.cell in
    let there : IsThere table old cell = record {
      state = c.requires.state;
      names = c.requires.names;
      rise = state_rises (state_at table cell.state) (c.order.ensures.by_name cell.state c.requires.state);
      there = c.requires.there;
      other = c.requires.other;
    } in
    let new = g.S.TextStore.list c.put_in.new.copy in
    let after = c.come_back.new.self in
    let site = c.number.result in
    let place = c.in_ok-place.place in
    let words = as_words c.in_ok-names.names.items in
    let given : as_words c.deref.result.now ≡ words = ap as_words c.deref.ensures.value in
    let back = c.in_ok-come_back.ensures in
    let wrote = c.in_ok-write.ensures in
    let came : Came c.args.site.number table old new before after cell place words =
    subst (λ n. Came n table old new before after cell place words) c.number.ensures.value (record {
      positive = c.number.ensures.positive;
      is = c.in_ok-names.ensures.ok;
      list = c.in_ok-place.ensures.list;
      few = c.in_ok-place.ensures.few;
      at = c.in_ok-place.ensures.place;
      drafts = ap (λ t. map body_of (items_in t.drafts)) back.texts ∙ wrote.drafts
          ∙ (λ i. map body_of (items_in before.texts.drafts) ++ text_drafts MOST_CHARACTERS (sym c.number.ensures.value i) before.texts.count cell.stamp (given i) (cell.ch ∷ []));
      count = ap (λ t. t.count) back.texts ∙ wrote.count ∙ ap (λ l. before.texts.count + counts_for l (cell.ch ∷ [])) given;
      most = omega (arith, ap (λ t. t.count) back.texts, wrote.within);
      now = λ s. back.now s ∙ ap (λ m. replaced cell.stamp (new_of site before cell).stamp (now_of m s)) wrote.renames;
      moved = λ s. back.moved s ∙ ap (λ m. is_same s cell.stamp || is_moved m s) wrote.renames;
      returns = back.returns ∙ ap (λ v. v.items ++ record { former = cell.stamp; newer = (new_of site before cell).stamp } ∷ []) wrote.returns;
      changes = back.changes ∙ (λ i. (wrote.changes i).items ++ Inserted (place + offset_behind (wrote.offsets i) cell.stamp) ∷ []);
      names = ap as_words (back.names ∙ ap (λ v. v.items ++ c.in_ok-names.names.items) wrote.names)
          ∙ map-append (λ w. string_bytes w) before.names.items c.in_ok-names.names.items;
      actions = back.actions ∙ wrote.actions;
      offsets = λ s. back.offsets s ∙ ap (λ m. cond (is_same s (new_of site before cell).stamp) (offset_behind m cell.stamp) (offset_of m s)) wrote.offsets;
    }) in
    came_copy c.args.site.number table old new before after cell place words came there c.requires.copy

pub returns-clause-going : goal.returns-clause-going
returns-clause-going g c =
    let old = g.S.TextStore.list c.args.copy.now in
    let table = c.args.kept.now in
    let before = c.args.plan.now in
    let cell = c.args.cell in
    let there : IsThere table old cell = record {
      state = c.requires.state;
      names = c.requires.names;
      rise = state_rises (state_at table cell.state) (c.order.ensures.by_name cell.state c.requires.state);
      there = c.requires.there;
      other = c.requires.other;
    } in
    let new = g.S.TextStore.list c.put_in.new.copy in
    let after = c.come_back.new.self in
    let site = c.number.result in
    let place = c.in_ok-place.place in
    let words = as_words c.in_ok-names.names.items in
    let given : as_words c.deref.result.now ≡ words = ap as_words c.deref.ensures.value in
    let back = c.in_ok-come_back.ensures in
    let wrote = c.in_ok-write.ensures in
    let came : Came c.args.site.number table old new before after cell place words =
    subst (λ n. Came n table old new before after cell place words) c.number.ensures.value (record {
      positive = c.number.ensures.positive;
      is = c.in_ok-names.ensures.ok;
      list = c.in_ok-place.ensures.list;
      few = c.in_ok-place.ensures.few;
      at = c.in_ok-place.ensures.place;
      drafts = ap (λ t. map body_of (items_in t.drafts)) back.texts ∙ wrote.drafts
          ∙ (λ i. map body_of (items_in before.texts.drafts) ++ text_drafts MOST_CHARACTERS (sym c.number.ensures.value i) before.texts.count cell.stamp (given i) (cell.ch ∷ []));
      count = ap (λ t. t.count) back.texts ∙ wrote.count ∙ ap (λ l. before.texts.count + counts_for l (cell.ch ∷ [])) given;
      most = omega (arith, ap (λ t. t.count) back.texts, wrote.within);
      now = λ s. back.now s ∙ ap (λ m. replaced cell.stamp (new_of site before cell).stamp (now_of m s)) wrote.renames;
      moved = λ s. back.moved s ∙ ap (λ m. is_same s cell.stamp || is_moved m s) wrote.renames;
      returns = back.returns ∙ ap (λ v. v.items ++ record { former = cell.stamp; newer = (new_of site before cell).stamp } ∷ []) wrote.returns;
      changes = back.changes ∙ (λ i. (wrote.changes i).items ++ Inserted (place + offset_behind (wrote.offsets i) cell.stamp) ∷ []);
      names = ap as_words (back.names ∙ ap (λ v. v.items ++ c.in_ok-names.names.items) wrote.names)
          ∙ map-append (λ w. string_bytes w) before.names.items c.in_ok-names.names.items;
      actions = back.actions ∙ wrote.actions;
      offsets = λ s. back.offsets s ∙ ap (λ m. cond (is_same s (new_of site before cell).stamp) (offset_behind m cell.stamp) (offset_of m s)) wrote.offsets;
    }) in
    came_going c.args.site.number table old new before after cell place words came there c.requires.copy c.requires.going

pub returns-clause-so_far : goal.returns-clause-so_far
returns-clause-so_far g c =
    let old = g.S.TextStore.list c.args.copy.now in
    let table = c.args.kept.now in
    let before = c.args.plan.now in
    let cell = c.args.cell in
    let there : IsThere table old cell = record {
      state = c.requires.state;
      names = c.requires.names;
      rise = state_rises (state_at table cell.state) (c.order.ensures.by_name cell.state c.requires.state);
      there = c.requires.there;
      other = c.requires.other;
    } in
    let new = g.S.TextStore.list c.put_in.new.copy in
    let after = c.come_back.new.self in
    let site = c.number.result in
    let place = c.in_ok-place.place in
    let words = as_words c.in_ok-names.names.items in
    let given : as_words c.deref.result.now ≡ words = ap as_words c.deref.ensures.value in
    let back = c.in_ok-come_back.ensures in
    let wrote = c.in_ok-write.ensures in
    let came : Came c.args.site.number table old new before after cell place words =
    subst (λ n. Came n table old new before after cell place words) c.number.ensures.value (record {
      positive = c.number.ensures.positive;
      is = c.in_ok-names.ensures.ok;
      list = c.in_ok-place.ensures.list;
      few = c.in_ok-place.ensures.few;
      at = c.in_ok-place.ensures.place;
      drafts = ap (λ t. map body_of (items_in t.drafts)) back.texts ∙ wrote.drafts
          ∙ (λ i. map body_of (items_in before.texts.drafts) ++ text_drafts MOST_CHARACTERS (sym c.number.ensures.value i) before.texts.count cell.stamp (given i) (cell.ch ∷ []));
      count = ap (λ t. t.count) back.texts ∙ wrote.count ∙ ap (λ l. before.texts.count + counts_for l (cell.ch ∷ [])) given;
      most = omega (arith, ap (λ t. t.count) back.texts, wrote.within);
      now = λ s. back.now s ∙ ap (λ m. replaced cell.stamp (new_of site before cell).stamp (now_of m s)) wrote.renames;
      moved = λ s. back.moved s ∙ ap (λ m. is_same s cell.stamp || is_moved m s) wrote.renames;
      returns = back.returns ∙ ap (λ v. v.items ++ record { former = cell.stamp; newer = (new_of site before cell).stamp } ∷ []) wrote.returns;
      changes = back.changes ∙ (λ i. (wrote.changes i).items ++ Inserted (place + offset_behind (wrote.offsets i) cell.stamp) ∷ []);
      names = ap as_words (back.names ∙ ap (λ v. v.items ++ c.in_ok-names.names.items) wrote.names)
          ∙ map-append (λ w. string_bytes w) before.names.items c.in_ok-names.names.items;
      actions = back.actions ∙ wrote.actions;
      offsets = λ s. back.offsets s ∙ ap (λ m. cond (is_same s (new_of site before cell).stamp) (offset_behind m cell.stamp) (offset_of m s)) wrote.offsets;
    }) in
    came_so_far c.args.site.number table old new before after cell place words came there
