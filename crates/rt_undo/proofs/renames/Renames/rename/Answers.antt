use Rattle.std.proofs.Common.{◌≡◌, ◌∙◌, ap, false, refl, subst, sym, true}
use Rattle.rt_stamps.specs.declared.stamp.Stamp.{Stamp}
use Rattle.rt_undo.specs.Renames.{SpanMapValue, is_in_span, is_moved, now_of, renamed}
use Rattle.rt_undo.specs.declared.renames.Move.{Move}
use Rattle.rt_undo.proofs.Following.{now_renamed, rising_renamed}
use Rattle.rt_undo.proofs.renames.Renames.rename.Goals as goal

pub invariant_of-self : goal.invariant_of-self
invariant_of-self c =
    let unmoved : SpanMapValue Move → Type 0 = λ m. (s : Stamp) → is_in_span c.args.former s ≡ true → is_moved m s ≡ false in
    let free : SpanMapValue Move → Type 0 = λ m. (s : Stamp) → is_in_span c.args.former s ≡ true → is_moved m (renamed c.args.former c.args.newer s) ≡ false in
    rising_renamed c.args.former c.args.newer (record { first = c.args.former.first; to = c.args.newer }) c.self.inside.map c.set.new.self (record {
      values = c.set.ensures.values;
      begins = refl;
      leads = refl;
      order = c.requires.order;
      later = c.requires.later;
      bound = c.requires.bound;
      first_time = subst unmoved (sym c.self.view_is) c.requires.first_time;
      fresh = subst free (sym c.self.view_is) c.requires.fresh;
      rising = c.self.invariant;
    })

pub returns-clause-now : goal.returns-clause-now
returns-clause-now c =
    let unmoved : SpanMapValue Move → Type 0 = λ m. (s : Stamp) → is_in_span c.args.former s ≡ true → is_moved m s ≡ false in
    let free : SpanMapValue Move → Type 0 = λ m. (s : Stamp) → is_in_span c.args.former s ≡ true → is_moved m (renamed c.args.former c.args.newer s) ≡ false in
    λ s. now_renamed c.args.former c.args.newer (record { first = c.args.former.first; to = c.args.newer }) c.self.inside.map c.set.new.self (record {
      values = c.set.ensures.values;
      begins = refl;
      leads = refl;
      order = c.requires.order;
      later = c.requires.later;
      bound = c.requires.bound;
      first_time = subst unmoved (sym c.self.view_is) c.requires.first_time;
      fresh = subst free (sym c.self.view_is) c.requires.fresh;
      rising = c.self.invariant;
    }) s ∙ ap (λ m. renamed c.args.former c.args.newer (now_of m s)) c.self.view_is
