use Rattle.std.proofs.Common.{◌≡◌, ◌∙◌, ◌<◌, ℕ, None, List, ap, arith, get_or, is_some, length, subst, sym, true}
use Rattle.rt_tags.specs.ManyWrites.{setting_after}
use Rattle.rt_tags.specs.declared.states.TagEntry.{TagEntry}
use Rattle.rt_tags.proofs.ManyWrites.{least_next, listed_some}
use Rattle.rt_tags.proofs.building.least_tag.Goals as goal
use Rattle.rt_tags.proofs.building.least_tag.Goals.{then-place-least, else-place-least}

-- the tag of a write of the list is there
tag_there : (writes : List TagEntry) (i tag : ℕ) (e : TagEntry) → i < length writes → e ≡ get_or writes i e → tag ≡ e.tag → is_some (setting_after writes tag None) ≡ true
tag_there writes i tag e l is t = subst (λ (x : ℕ). is_some (setting_after writes x None) ≡ true) (sym (t ∙ ap (λ (x : TagEntry). x.tag) is)) (listed_some writes i e None l)

pub loop-entry-init : goal.loop-entry-init
loop-entry-init c = record {
  least = tt;
  there = tag_there c.args.writes.now 0 c.place-least.result c.index-writes-0.result c.requires c.index-writes-0.is (c.place-least.ensures ∙ ap (λ (x : TagEntry). x.tag) (sym c.index-writes-0.is));
}

pub loop-entry-preserved : goal.loop-entry-preserved
loop-entry-preserved c =
    let writes = c.args.writes.now in
    let i = c.loop-entry.entry-index in
    let e = c.entry-item.result in
    elim c.if-place-least.branch [
      | then-place-least w ↦
          let own : w.place-least-then-place-least.result ≡ e.tag = w.place-least-then-place-least.ensures in
          let new : c.if-place-least.least ≡ e.tag = w.least-is ∙ own in
          record {
            least = least_next i writes c.loop-entry.least c.if-place-least.least e c.loop-entry-test.true c.entry-item.is (let p = c.place.ensures in let y = w.if-place-least.true in omega (arith, new, p, y)) (omega (arith, new)) c.loop-entry.invariant.least;
            there = tag_there writes i c.if-place-least.least e c.loop-entry-test.true c.entry-item.is new;
          }
      | else-place-least w ↦ record {
        least = least_next i writes c.loop-entry.least c.if-place-least.least e c.loop-entry-test.true c.entry-item.is (let same = w.least-is in omega (arith, same)) (let p = c.place.ensures in let n = w.if-place-least.false in let same = w.least-is in omega (arith, same, p, n)) c.loop-entry.invariant.least;
        there = subst (λ (x : ℕ). is_some (setting_after writes x None) ≡ true) (sym w.least-is) c.loop-entry.invariant.there;
      }
    ]
