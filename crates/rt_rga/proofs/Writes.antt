-- Writes of the operations of a set, and of one more.
use Rattle.std.proofs.Common.{◌≡◌, ℕ, ◌+◌, ◌-◌, ◌<◌, true, false, inl, inr, refl, sym, ap, ◌∙◌, arith, List, [], ◌∷◌, ◌++◌, cond, ◌||◌, ◌&&◌, ◌==◌, nat_le, nat_lt, zero, suc}
use Rattle.std.proofs.lemmas.Bool.Decides.{nat_tests}
use Rattle.std.proofs.lemmas.List.{append-nil}
use Rattle.std.proofs.lemmas.List.Folds.{list_any-append}
use Rattle.std.specs.List.{AllByRecursion, list_any}
use Rattle.rt_stamps.specs.declared.stamp.Span.{Span}
use Rattle.rt_stamps.specs.declared.stamp.Stamp.{Stamp}
use Rattle.rt_stamps.specs.declared.stamp.TheConstants.{FINAL, ROOT}
use Rattle.rt_stamps.specs.Stamps.{is_before, is_same}
use Rattle.rt_stamps.proofs.Order.{before_total, same_refl, same_sym}
use Rattle.rt_store.specs.Cells.{is_in_span}
use Rattle.rt_tags.specs.States.{Write, IsByName, written}
use Rattle.rt_tags.specs.Writers.{listed_by, state_after}
use Rattle.rt_tags.proofs.Commuting.{commute}
use Rattle.rt_tags.proofs.Sorted.{written_sorted}
use Rattle.rt_ops.specs.Operations.{Operation, Body, Insert, Delete, Tag, Name, stamp_of, stamps_from, stamps_of_span, stamps_in}
use Rattle.rt_oplog.specs.Logs.{with_operation}
use Rattle.rt_rga.specs.Reading.{has_stamp}
use Rattle.rt_rga.specs.Histories.{characters_from, inserted_by, inserted, has_character, Continues, IsHistory}
use Rattle.rt_rga.specs.Cells.{deletes, is_gone, writes_by, writes_on}
use Rattle.rt_rga.proofs.Skipping.{split}
use Rattle.rt_rga.proofs.Continuing.{names, IsKnown, knows, sound_of}
use Rattle.rt_store.specs.Spans.{is_in_spans}
use Rattle.rt_rga.proofs.Histories.{any_with, lower, not_same_op}

-- SPANS

from_none : (site first : ℕ) (s : Stamp) → false ≡ (s.site == site) && (nat_le first s.count && nat_lt s.count (first + 0))
from_none site first s = grind (arith, nat_tests)

from_more : (site first n : ℕ) (s : Stamp) → (is_same (record { count = first; site = site }) s || ((s.site == site) && (nat_le (first + 1) s.count && nat_lt s.count (first + 1 + n))))
    ≡ (s.site == site) && (nat_le first s.count && nat_lt s.count (first + suc n))
from_more site first n s = grind (arith, nat_tests)

from_is : (site first n : ℕ) (s : Stamp) → list_any (λ t. is_same t s) (stamps_from site first n) ≡ (s.site == site) && (nat_le first s.count && nat_lt s.count (first + n))
from_is site first zero s = from_none site first s
from_is site first (suc n) s = ap (λ b. is_same (record { count = first; site = site }) s || b) (from_is site (first + 1) n s) ∙ from_more site first n s

span_test : (span : Span) (s : Stamp) → ((s.site == span.site) && (nat_le span.first s.count && nat_lt s.count (span.first + (span.last + 1 - span.first)))) ≡ is_in_span span s
span_test span s = grind (arith, nat_tests)

-- the stamps that spans name are those in them
pub spans_name : (spans : List Span) (s : Stamp) → list_any (λ t. is_same t s) (stamps_in spans) ≡ is_in_spans spans s
spans_name [] s = refl
spans_name (span ∷ spans) s =
    list_any-append (λ t. is_same t s) (stamps_of_span span) (stamps_in spans)
    ∙ ap (λ b. b || list_any (λ t. is_same t s) (stamps_in spans)) (from_is span.site span.first (span.last + 1 - span.first) s ∙ span_test span s)
    ∙ ap (λ b. is_in_span span s || b) (spans_name spans s)

-- STATES

pub state_append : (state xs ys : List Write) → state_after state (xs ++ ys) ≡ state_after (state_after state xs) ys
state_append state [] ys = refl
state_append state (x ∷ xs) ys = state_append (written x state) xs ys

pub state_sorted : (state xs : List Write) → IsByName state → IsByName (state_after state xs)
state_sorted state [] h = h
state_sorted state (x ∷ xs) h = state_sorted (written x state) xs (written_sorted x state h)

-- a write may come before others, unless one of them is under its stamp
pub moved : (w : Write) (state xs : List Write) → IsByName state → AllByRecursion (λ x. is_same w.writer x.writer ≡ false) xs → written w (state_after state xs) ≡ state_after (written w state) xs
moved w state [] h k = refl
moved w state (x ∷ xs) h k =
    moved w (written x state) xs (written_sorted x state h) k.1
    ∙ ap (λ s. state_after s xs) (commute w x state h (λ e. k.0))

-- WRITES OF ONE MORE OPERATION

both_none : {X : Type 0} (xs ys : List X) → xs ++ ys ≡ [] → (xs ≡ []) × (ys ≡ [])
both_none [] ys h = (refl, h)
both_none (x ∷ xs) ys h = absurd (cc h)

-- an operation that writes nothing on a character
pub silent_with : (op : Operation) (older : List Operation) (s : Stamp) → writes_by (stamp_of op) op.body s ≡ [] → writes_on (with_operation op older) s ≡ writes_on older s
silent_with op [] s h = h
silent_with op (q ∷ older) s h = elim (is_before (stamp_of q) (stamp_of op)) as (λ t. writes_on (cond t (op ∷ q ∷ older) (q ∷ with_operation op older)) s ≡ writes_on (q ∷ older) s) [
  | true ↦ ap (λ ws. writes_on (q ∷ older) s ++ ws) h ∙ append-nil (writes_on (q ∷ older) s)
  | false ↦ ap (λ ws. ws ++ writes_by (stamp_of q) q.body s) (silent_with op older s h)
]

-- an operation that is the only one to write on a character
pub alone_with : (op : Operation) (older : List Operation) (s : Stamp) → writes_on older s ≡ [] → writes_on (with_operation op older) s ≡ writes_by (stamp_of op) op.body s
alone_with op [] s h = refl
alone_with op (q ∷ older) s h =
    let none = both_none (writes_on older s) (writes_by (stamp_of q) q.body s) h in
    elim (is_before (stamp_of q) (stamp_of op)) as (λ t. writes_on (cond t (op ∷ q ∷ older) (q ∷ with_operation op older)) s ≡ writes_by (stamp_of op) op.body s) [
      | true ↦ ap (λ ws. ws ++ writes_by (stamp_of op) op.body s) h
      | false ↦ ap (λ ws. ws ++ writes_by (stamp_of q) q.body s) (alone_with op older s none.0)
          ∙ ap (λ ws. writes_by (stamp_of op) op.body s ++ ws) none.1 ∙ append-nil (writes_by (stamp_of op) op.body s)
    ]

listed_apart : (t stamp : Stamp) (tags : List Name) → is_same t stamp ≡ false → AllByRecursion (λ x. is_same t x.writer ≡ false) (listed_by stamp tags)
listed_apart t stamp [] h = tt
listed_apart t stamp (tag ∷ tags) h = (h, listed_apart t stamp tags h)

-- writes are under the operation's stamp or the root's
writers_apart : (t stamp : Stamp) (body : Body) (s : Stamp) → is_same t stamp ≡ false → is_same t ROOT ≡ false → AllByRecursion (λ x. is_same t x.writer ≡ false) (writes_by stamp body s)
writers_apart t stamp (Insert after tags text) s h k = elim (has_stamp (characters_from after stamp text) s) as (λ b. AllByRecursion (λ (x : Write). is_same t x.writer ≡ false) (cond b (listed_by ROOT tags) [])) [
  | true ↦ listed_apart t ROOT tags k
  | false ↦ tt
]
writers_apart t stamp (Delete spans) s h k = tt
writers_apart t stamp (Tag on name spans) s h k = elim (is_in_spans spans s) as (λ b. AllByRecursion (λ (x : Write). is_same t x.writer ≡ false) (cond b (record { name = name; writer = stamp; on = on } ∷ []) [])) [
  | true ↦ (h, tt)
  | false ↦ tt
]

not_root : (op : Operation) → 0 < op.site → is_same (stamp_of op) ROOT ≡ false
not_root op h = grind (arith, nat_tests)

-- a Tag's write on a character counts as the last
pub tag_with : (op : Operation) (older : List Operation) → IsHistory older → Continues older op → (w : Write) (s : Stamp) → writes_by (stamp_of op) op.body s ≡ w ∷ [] → w.writer ≡ stamp_of op
    → state_after [] (writes_on (with_operation op older) s) ≡ written w (state_after [] (writes_on older s))
tag_with op [] h k w s e f = ap (state_after []) e
tag_with op (q ∷ older) h k w s e f =
    elim (is_before (stamp_of q) (stamp_of op)) as (λ t. is_before (stamp_of q) (stamp_of op) ≡ t
    → state_after [] (writes_on (cond t (op ∷ q ∷ older) (q ∷ with_operation op older)) s) ≡ written w (state_after [] (writes_on (q ∷ older) s))) [
      | true ↦ λ g. ap (λ ws. state_after [] (writes_on (q ∷ older) s ++ ws)) e ∙ state_append [] (writes_on (q ∷ older) s) (w ∷ [])
      | false ↦ λ g.
          let n = not_same_op older q op k in
          let b : is_before (stamp_of op) (stamp_of q) ≡ true = before_total (stamp_of q) (stamp_of op) g n in
          let apart : AllByRecursion (λ x. is_same w.writer x.writer ≡ false) (writes_by (stamp_of q) q.body s) =
          rw f (writers_apart (stamp_of op) (stamp_of q) q.body s (same_sym (stamp_of op) (stamp_of q) ∙ n) (not_root op (sound_of k).site)) in
          let ws = writes_by (stamp_of q) q.body s in
          let old = state_after [] (writes_on older s) in
          state_append [] (writes_on (with_operation op older) s) ws
          ∙ ap (λ state. state_after state ws) (tag_with op older h.2 (lower older q op k b) w s e f)
          ∙ sym (moved w old ws (state_sorted [] (writes_on older s) tt) apart)
          ∙ ap (written w) (sym (state_append [] (writes_on older s) ws))
    ] refl

pub gone_with : (op : Operation) (older : List Operation) (s : Stamp) → is_gone (with_operation op older) s ≡ (deletes op.body s || is_gone older s)
gone_with op older s = any_with (λ q. deletes q.body s) op older

-- NO OPERATION SAYS ANYTHING OF WHAT ISN'T THERE

deletes_known : (older : List Operation) (body : Body) (s : Stamp) → ((t : Stamp) → names body t ≡ true → IsKnown older body t) → deletes body s ≡ true → has_character older s ≡ true
deletes_known older (Insert after tags text) s k d = absurd (cc d)
deletes_known older (Delete spans) s k d = k s (spans_name spans s ∙ d)
deletes_known older (Tag on name spans) s k d = absurd (cc d)

pub not_gone : (set : List Operation) → IsHistory set → (s : Stamp) → has_character set s ≡ false → is_gone set s ≡ false
not_gone [] h s m = refl
not_gone (op ∷ older) h s m = split (deletes op.body s)
    (λ e. absurd (let k = deletes_known older op.body s (knows h.1) e in grind arith))
    (λ e. grind (arith, e, m, not_gone older h.2 s))

silent : (older : List Operation) (stamp : Stamp) (body : Body) (s : Stamp) → ((t : Stamp) → names body t ≡ true → IsKnown older body t)
    → has_stamp (inserted_by stamp body) s ≡ false → has_character older s ≡ false → is_same FINAL s ≡ false → writes_by stamp body s ≡ []
silent older stamp (Insert after tags text) s k n m f = rw n
silent older stamp (Delete spans) s k n m f = refl
silent older stamp (Tag on name spans) s k n m f = split (is_in_spans spans s)
    (λ e. absurd (elim (k s (spans_name spans s ∙ e)) [ inl i ↦ cc (i, m) | inr i ↦ (let j : is_same FINAL FINAL ≡ false = rw i at f in cc (j, same_refl FINAL)) ]))
    (λ e. rw e)

pub not_written : (set : List Operation) → IsHistory set → (s : Stamp) → has_character set s ≡ false → is_same FINAL s ≡ false → writes_on set s ≡ []
not_written [] h s m f = refl
not_written (op ∷ older) h s m f =
    let a : has_stamp (inserted op) s ≡ false = grind (arith, m) in
    let b : has_character older s ≡ false = grind (arith, m) in
    rw (silent older (stamp_of op) op.body s (knows h.1) a b f) (append-nil (writes_on older s) ∙ not_written older h.2 s b f)
