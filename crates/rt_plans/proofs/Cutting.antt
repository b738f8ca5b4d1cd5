-- A list in parts, taken from its front.
use Rattle.std.proofs.Common.{◌≡◌, suc, ◌+◌, ◌<◌, min, List, [], ◌∷◌, ◌++◌, length, take, drop, sym, ◌∙◌, ap, arith, append_assoc, append-nil, length-append, map, take-append-drop}
use Rattle.std.proofs.Math.Seq.{take-append_seam, drop-append_seam}
use Rattle.std.proofs.lemmas.List.{length-take, nil_from_length}
use Rattle.rt_stamps.specs.declared.limits.TheConstants.{MOST_SPANS}
use Rattle.rt_stamps.specs.declared.stamp.Span.{Span}
use Rattle.rt_ops.specs.declared.op.Edit.{Edit}
use Rattle.rt_ops.specs.Edits.{body_of}
use Rattle.rt_ops.specs.Operations.{Body}
use Rattle.rt_store.proofs.Shown.{map_append}
use Rattle.rt_plans.specs.NamedSpans.{first_parts, parts_for, parts_of}

-- the first part of a list that is not empty, and the parts of what is behind it
pub next_part : {X : Type 0} (list part behind : List X) → list ≡ part ++ behind → length part ≡ min MOST_SPANS (length list) → 0 < length list
    → parts_of MOST_SPANS list ≡ part ∷ parts_of MOST_SPANS behind
next_part list part behind e n some =
    let sum : length list ≡ length part + length behind = ap length e ∙ length-append part behind in
    let more : parts_for MOST_SPANS (length list) ≡ suc (parts_for MOST_SPANS (length behind)) = omega (arith, sum, n, some) in
    let same : length (take MOST_SPANS list) ≡ length part = length-take MOST_SPANS list ∙ sym n in
    let whole : take MOST_SPANS list ++ drop MOST_SPANS list ≡ part ++ behind = take-append-drop MOST_SPANS list ∙ e in
    let first : take MOST_SPANS list ≡ part = sym (take-append_seam (take MOST_SPANS list) (drop MOST_SPANS list)) ∙ (λ i. take (same i) (whole i)) ∙ take-append_seam part behind in
    let rest : drop MOST_SPANS list ≡ behind = sym (drop-append_seam (take MOST_SPANS list) (drop MOST_SPANS list)) ∙ (λ i. drop (same i) (whole i)) ∙ drop-append_seam part behind in
    ap (λ k. first_parts k MOST_SPANS list) more ∙ (λ i. first i ∷ first_parts (parts_for MOST_SPANS (length behind)) MOST_SPANS (rest i))

-- a draft more, of the first part
pub draft_more : (f : List Span → Body) (done new : List Edit) (draft : Edit) (spans part behind : List Span) → new ≡ done ++ draft ∷ [] → body_of draft ≡ f part
    → spans ≡ part ++ behind → length part ≡ min MOST_SPANS (length spans) → 0 < length spans
    → map body_of new ++ map f (parts_of MOST_SPANS behind) ≡ map body_of done ++ map f (parts_of MOST_SPANS spans)
draft_more f done new draft spans part behind e b parts n some =
    let rest = map f (parts_of MOST_SPANS behind) in
    (λ i. (ap (map body_of) e ∙ map_append body_of done (draft ∷ []) ∙ ap (λ (d : Body). map body_of done ++ d ∷ []) b) i ++ rest)
    ∙ append_assoc (map body_of done) (f part ∷ []) rest
    ∙ ap (λ l. map body_of done ++ map f l) (sym (next_part spans part behind parts n some))

-- no span is left
pub drafts_end : (f : List Span → Body) (bodies all : List Body) (spans : List Span) → length spans ≡ 0 → bodies ++ map f (parts_of MOST_SPANS spans) ≡ all → bodies ≡ all
drafts_end f bodies all spans n e = sym (append-nil bodies) ∙ ap (λ l. bodies ++ map f (parts_of MOST_SPANS l)) (sym (nil_from_length spans n)) ∙ e
