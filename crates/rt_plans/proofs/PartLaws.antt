-- Operations that name the spans of a list in parts.
use Rattle.std.proofs.Common.{◌≡◌, ℕ, suc, ◌<◌, ◌≤◌, List, ◌++◌, true, length, take, drop, sym, ◌∙◌, ap, subst, arith, take-append-drop}
use Rattle.std.specs.List.{list_all}
use Rattle.std.proofs.lemmas.Bool.{and_from, and_parts, or_left, or_right}
use Rattle.std.proofs.lemmas.Bool.Decides.{nat_tests}
use Rattle.std.proofs.lemmas.List.{length-take}
use Rattle.std.proofs.lemmas.List.Folds.{list_all-append, list_any-append}
use Rattle.rt_stamps.specs.declared.limits.TheConstants.{MOST_SPANS}
use Rattle.rt_stamps.specs.declared.stamp.Span.{Span}
use Rattle.rt_stamps.specs.declared.stamp.Stamp.{Stamp}
use Rattle.rt_ops.specs.Operations.{Operation}
use Rattle.rt_oplog.specs.Logs.{with_operation}
use Rattle.rt_ops.specs.Rules.{are_spans, is_within}
use Rattle.rt_store.specs.Cells.{is_in_span}
use Rattle.rt_store.specs.Spans.{each_next, is_clear_of, is_in_spans, is_span}
use Rattle.rt_rga.specs.Histories.{has_character, inserted}
use Rattle.rt_rga.specs.Reading.{has_stamp}
use Rattle.rt_rga.proofs.Histories.{any_with}
use Rattle.rt_plans.proofs.NamedSpanLaws.{IsCut, cut_some, each_left, each_right}

-- spans keep the rules of an operation, but for their number
pub record AreSpans (spans : List Span) : Type 0 where
  pub forward : list_all is_span spans ≡ true
  pub clear : each_next is_clear_of spans ≡ true

pub front_spans : (xs ys : List Span) → AreSpans (xs ++ ys) → AreSpans xs
front_spans xs ys h = record {
  forward = (and_parts (list_all is_span xs) (list_all is_span ys) (sym (list_all-append is_span xs ys) ∙ h.forward)).0;
  clear = each_left is_clear_of xs ys h.clear;
}

pub rest_spans : (xs ys : List Span) → AreSpans (xs ++ ys) → AreSpans ys
rest_spans xs ys h = record {
  forward = (and_parts (list_all is_span xs) (list_all is_span ys) (sym (list_all-append is_span xs ys) ∙ h.forward)).1;
  clear = each_right is_clear_of xs ys h.clear;
}

pub first_spans : (most : ℕ) (spans : List Span) → AreSpans spans → AreSpans (take most spans)
first_spans most spans h = front_spans (take most spans) (drop most spans) (subst AreSpans (sym (take-append-drop most spans)) h)

pub more_spans : (most : ℕ) (spans : List Span) → AreSpans spans → AreSpans (drop most spans)
more_spans most spans h = rest_spans (take most spans) (drop most spans) (subst AreSpans (sym (take-append-drop most spans)) h)

within : (least most n : ℕ) → least ≤ n → n ≤ most → is_within least most n ≡ true
within least most n h k = grind (arith, nat_tests)

-- a part is as an operation has it
pub part_rules : (parts most : ℕ) (spans : List Span) → 0 < most → most ≤ MOST_SPANS → IsCut (suc parts) most (length spans) → AreSpans spans → are_spans (take most spans) ≡ true
part_rules parts most spans h k c s =
    let l = length-take most spans in
    let some = cut_some parts most (length spans) c in
    let f = first_spans most spans s in
    and_from (is_within 1 MOST_SPANS (length (take most spans))) _ (within 1 MOST_SPANS (length (take most spans)) (omega (arith, l, some, h)) (omega (arith, l, k)))
    (and_from (list_all is_span (take most spans)) _ f.forward f.clear)

-- the stamps of a part are stamps of the whole
pub in_first : (most : ℕ) (spans : List Span) (s : Stamp) → is_in_spans (take most spans) s ≡ true → is_in_spans spans s ≡ true
in_first most spans s h =
    ap (λ l. is_in_spans l s) (sym (take-append-drop most spans)) ∙ list_any-append (λ span. is_in_span span s) (take most spans) (drop most spans)
    ∙ or_left (is_in_spans (take most spans) s) _ h

pub in_more : (most : ℕ) (spans : List Span) (s : Stamp) → is_in_spans (drop most spans) s ≡ true → is_in_spans spans s ≡ true
in_more most spans s h =
    ap (λ l. is_in_spans l s) (sym (take-append-drop most spans)) ∙ list_any-append (λ span. is_in_span span s) (take most spans) (drop most spans)
    ∙ or_right (is_in_spans (take most spans) s) _ h

-- a character stays one
pub still_character : (op : Operation) (log : List Operation) (s : Stamp) → has_character log s ≡ true → has_character (with_operation op log) s ≡ true
still_character op log s h = any_with (λ q. has_stamp (inserted q) s) op log ∙ or_right (has_stamp (inserted op) s) _ h
