-- Summaries made from a node's entries.
use Rattle.std.proofs.Common.{◌≡◌, ℕ, ◌+◌, ◌≤◌, List, [], ◌∷◌, ◌++◌, length, sym, ap, ◌∙◌, arith, Some}
use Rattle.rt_tags.specs.Borders.{border, either, is_tagged, last}
use Rattle.rt_tags.specs.States.{IsTag, TagStates}
use Rattle.rt_tags.specs.Toggles.{count_of}
use Rattle.rt_tags.proofs.Bordering.{first_of, joined, last_of}
use Rattle.rt_tree.specs.declared.summary.Summary.{Summary}
use Rattle.rt_tree.specs.Summaries.{IsSummary}

-- one state more at the end
pub pushed_summary : (table : TagStates) (xs : List ℕ) (state : ℕ) (a b : Summary) → IsSummary table xs a → b.first ≡ either a.first (Some state) → b.last ≡ Some state
    → ((tag : ℕ) → IsTag table tag → count_of tag b.counts ≡ count_of tag a.counts + border (is_tagged table tag) a.last (Some state))
    → ((tag : ℕ) → length table.names ≤ tag → count_of tag b.counts ≡ count_of tag a.counts)
    → IsSummary table (xs ++ state ∷ []) b
pushed_summary table xs state a b was f l counts none = record {
  first = f ∙ ap (λ o. either o (Some state)) was.first ∙ sym (first_of xs (state ∷ []));
  last = l ∙ sym (last_of xs (state ∷ []));
  counts = record {
    given = λ tag h.
        let c = counts tag h in
        let w = was.counts.given tag h in
        let j = joined (is_tagged table tag) xs (state ∷ []) in
        let m : border (is_tagged table tag) a.last (Some state) ≡ border (is_tagged table tag) (last xs) (Some state) = ap (λ o. border (is_tagged table tag) o (Some state)) was.last in
        omega (arith, c, w, j, m);
    others = λ tag far. none tag far ∙ was.counts.others tag far;
  };
}
