use Rattle.std.proofs.Common.{arith, ap, ◌∙◌, refl}
use Rattle.rt_stamps.specs.declared.stamp.Stamp.{Stamp}
use Rattle.rt_spans.specs.Ranks.{rank}
use Rattle.rt_spans.specs.declared.entry.SpanEntry.{SpanEntry}
use Rattle.rt_spans.specs.Spans.{entry_value, entry_key}
use Rattle.rt_spans.proofs.Near.{ends_inserted, ends_moved, ends_there, one_entry}
use Rattle.rt_spans.proofs.Ranks.{less_when, more_when}
use Rattle.rt_spans.proofs.block.Block.end_at.Goals as goal

pub index-requires : goal.index-requires
index-requires g c = c.has_until.ensures.within c.if-not-has_until.false

pub index-requires-then-is_before : goal.index-requires-then-is_before
index-requires-then-is_before g c = c.has_until.ensures.within c.if-not-has_until.false

pub index_mut-requires : goal.index_mut-requires
index_mut-requires g c = c.has_until.ensures.within c.if-not-has_until.false

pub returns-then-not-has_until-clause-ends : goal.returns-then-not-has_until-clause-ends
returns-then-not-has_until-clause-ends g c =
    λ first less near.
    let self = c.args.self.now in
    let later = c.has_until.ensures.later c.if-not-has_until.true in
    ends_inserted first _ self.head self.rest.items c.insert_entry.new.entries.items c.args.place c.entry_before.result c.new.result c.requires.rising less near c.entry_before.ensures (ap (λ (s : Stamp). rank s.site s.count) c.new.ensures.from) (c.new.ensures.value ∙ c.value-value.ensures) (λ d l. later d (omega (arith, l))) c.insert_entry.ensures.items

pub returns-then-is_before-clause-ends : goal.returns-then-is_before-clause-ends
returns-then-is_before-clause-ends g c =
    λ first less near.
    let self = c.args.self.now in
    let within = c.has_until.ensures.within c.if-not-has_until.false in
    ends_moved first _ self.head self.rest.items _ c.args.place c.index.result.now c.new-then-is_before.result near (omega (arith, within)) c.index.ensures (less_when _ _ _ c.is_before.ensures c.if-is_before.true) (ap (λ (s : Stamp). rank s.site s.count) c.new-then-is_before.ensures.from) (c.new-then-is_before.ensures.value ∙ (c.value.ensures ∙ ap (λ (v : SpanEntry g.row.V.Denot). entry_value v) (one_entry self.rest.items c.args.place _ _ c.index-then-is_before.ensures c.index.ensures (omega (arith, within))))) refl

pub returns-else-is_before-clause-ends : goal.returns-else-is_before-clause-ends
returns-else-is_before-clause-ends g c =
    λ first less near.
    let self = c.args.self.now in
    let within = c.has_until.ensures.within c.if-not-has_until.false in
    let until = c.has_until.ensures.until c.if-not-has_until.false c.index.result.now in
    let here = ap (λ (v : SpanEntry g.row.V.Denot). entry_key v) c.index.ensures in
    ends_there first _ self.head self.rest.items c.args.place c.index.result.now near (omega (arith, within)) c.index.ensures (omega (arith, until, here, more_when _ _ _ c.is_before.ensures c.if-is_before.false))
