-- The spans of the characters that actions name.
use Rattle.std.proofs.Common.{◌≡◌, ◌∙◌, ℕ, ◌+◌, ◌<◌, ◌≤◌, List, [], ◌∷◌, ◌++◌, append_assoc, append-nil, drop, get_or, length, map, refl, sym, ap}
use Rattle.std.proofs.lemmas.Grind.{flat_map-append}
use Rattle.std.proofs.lemmas.List.{map-append}
use Rattle.rt_stamps.specs.declared.stamp.Span.{Span}
use Rattle.rt_stamps.specs.declared.stamp.Stamp.{Stamp}
use Rattle.rt_ops.specs.Operations.{stamps_in, stamps_of_span}
use Rattle.rt_undo.specs.declared.action.Action.{Action as KeptAction}
use Rattle.rt_undo.specs.declared.action.RemovedSpan.{RemovedSpan}
use Rattle.rt_undo.specs.Actions.{Removed, action_of, group_of, removed_in, removed_of, removed_with}
use Rattle.rt_revert.specs.Named.{named_by, named_in}
use Rattle.rt_revert.proofs.Rest.{next_left, none_left}

pub spans_append : (xs ys : List Span) → stamps_in (xs ++ ys) ≡ stamps_in xs ++ stamps_in ys
spans_append xs ys = flat_map-append stamps_of_span xs ys

abbrev stamp_in : Removed ℕ → Stamp
stamp_in r = r.stamp

of_span : (state : ℕ) (ss : List Stamp) → map stamp_in (map (removed_with state) ss) ≡ ss
of_span state [] = refl
of_span state (s ∷ ss) = ap (λ l. s ∷ l) (of_span state ss)

pub removed_begin : (old new inserted : List Span) (removed : List RemovedSpan) → new ≡ old ++ inserted
    → stamps_in new ++ map stamp_in (removed_in removed) ≡ stamps_in old ++ (stamps_in inserted ++ map stamp_in (removed_in removed))
removed_begin old new inserted removed e =
    ap (λ l. stamps_in l ++ map stamp_in (removed_in removed)) e ∙ ap (λ l. l ++ map stamp_in (removed_in removed)) (spans_append old inserted)
    ∙ append_assoc (stamps_in old) (stamps_in inserted) (map stamp_in (removed_in removed))

pub removed_next : (old new : List Span) (removed : List RemovedSpan) (i : ℕ) (part : RemovedSpan) → i < length removed → part ≡ get_or removed i part → new ≡ old ++ part.span ∷ []
    → stamps_in new ++ map stamp_in (removed_in (drop (i + 1) removed)) ≡ stamps_in old ++ map stamp_in (removed_in (drop i removed))
removed_next old new removed i part lt e n =
    let rest = map stamp_in (removed_in (drop (i + 1) removed)) in
    let here : map stamp_in (removed_in (drop i removed)) ≡ stamps_of_span part.span ++ rest =
    ap (λ l. map stamp_in (removed_in l)) (next_left removed i part lt e)
    ∙ map-append stamp_in (removed_of part) (removed_in (drop (i + 1) removed))
    ∙ ap (λ l. l ++ rest) (of_span part.state (stamps_of_span part.span)) in
    ap (λ l. stamps_in l ++ rest) n
    ∙ ap (λ l. l ++ rest) (spans_append old (part.span ∷ []) ∙ ap (λ l. stamps_in old ++ l) (append-nil (stamps_of_span part.span)))
    ∙ append_assoc (stamps_in old) (stamps_of_span part.span) rest
    ∙ ap (λ l. stamps_in old ++ l) (sym here)

pub removed_end : (spans : List Span) (removed : List RemovedSpan) (i : ℕ) → length removed ≤ i → stamps_in spans ≡ stamps_in spans ++ map stamp_in (removed_in (drop i removed))
removed_end spans removed i le = sym (append-nil (stamps_in spans)) ∙ ap (λ l. stamps_in spans ++ map stamp_in (removed_in l)) (sym (none_left removed i le))

pub group_next : (old new : List Span) (group : List KeptAction) (i : ℕ) (a : KeptAction) → i < length group → a ≡ get_or group i a → stamps_in new ≡ stamps_in old ++ named_by (action_of a)
    → stamps_in new ++ named_in (group_of (drop (i + 1) group)) ≡ stamps_in old ++ named_in (group_of (drop i group))
group_next old new group i a lt e n =
    let rest = named_in (group_of (drop (i + 1) group)) in
    ap (λ l. l ++ rest) n ∙ append_assoc (stamps_in old) (named_by (action_of a)) rest
    ∙ ap (λ l. stamps_in old ++ l) (sym (ap (λ l. named_in (group_of l)) (next_left group i a lt e)))

pub group_end : (spans : List Span) (group : List KeptAction) (i : ℕ) → length group ≤ i → stamps_in spans ≡ stamps_in spans ++ named_in (group_of (drop i group))
group_end spans group i le = sym (append-nil (stamps_in spans)) ∙ ap (λ l. stamps_in spans ++ named_in (group_of l)) (sym (none_left group i le))
