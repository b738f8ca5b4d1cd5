-- A site that holds nothing receives of the log of another what it lacks.
use Rattle.std.proofs.Common.{◌≡◌, ◌∙◌, ◌⊎◌, ◌↔◌, ◌<◌, ◌≤◌, ℕ, Bool, true, false, cond, List, [], ◌∷◌, ◌++◌, Ok, ap, append-nil, arith, inl, inr, refl, reverse, subst, sym}
use mathlib.Core.List.{reverse-cons}
use Rattle.std.specs.List.{filter}
use Rattle.std.proofs.lemmas.Bool.Decides.{nat_tests}
use Rattle.std.proofs.lemmas.List.Elements.{filter-append}
use Rattle.rt_ops.specs.Operations.{Operation, last_count}
use Rattle.rt_oplog.specs.Logs.{HasOp, clash, holds, known_end, union}
use Rattle.rt_oplog.proofs.Sets.{any_from, clash_sym, has_held, has_union, last_ge, split, union_has}
use Rattle.rt_rga.specs.Histories.{IsHistory}
use Rattle.rt_rga.specs.Orders.{ComeInTime, HasBasesIn}
use Rattle.rt_rga.proofs.Accepting.{clash_from_end, sound_in}
use Rattle.rt_rga.proofs.Joining.{all_free, joined_free_histories, union_history}
use Rattle.rt_rga.proofs.Later.{bad_prev}
use Rattle.rt_recording.specs.Edits.{text_with_new}
use Rattle.rt_holding.proofs.Exchanged.{HasLog, by_stamp, in_reverse, of_reverse, part_ends, part_joins}
use Rattle.rt_peers.specs.Exchange.{AgreeOnceCaughtUp, HaveNoClash, ReceivesLacking}
use Rattle.rt_peers.specs.Lacking.{is_past, past_known}
use Rattle.rt_peers.specs.SiteStep.{log_of, text_limit, text_log}
use Rattle.rt_peers.specs.SiteValue.{SiteValue}
use Rattle.rt_peers.proofs.Exchanging.{holder, one_join}
use Rattle.rt_peers.proofs.Lacking.{filter_has, has_filter}

-- what isn't past the counts that are known is known
covered : (set log : List Operation) (known : ℕ → ℕ) → IsHistory set → IsHistory log → HaveNoClash set log → ((site : ℕ) → known site ≤ known_end set site)
    → (x : Operation) → HasOp log x → is_past known x ≡ false → HasOp set x
covered set log known h k apart up x i f = split (holds set x)
    (λ e. has_held set x e)
    (λ e. let before = bad_prev x (sound_in log k x i) in
    let last = last_ge x.count x.body in
    let end = up x.site in
    let within : last_count x ≤ known x.site = grind (arith, nat_tests, f) in
    let below : x.prev < known_end set x.site = omega (arith, before, last, end, within) in
    let (q, j, t) = any_from (clash x) set (clash_from_end set h x before e below) in
    let no = apart q x j i in
    let other = clash_sym x q in
    let bad : ⊥ = cc (t, other, no) in absurd bad)

reverse_filter : (p : Operation → Bool) (ops : List Operation) → reverse (filter p ops) ≡ filter p (reverse ops)
reverse_filter p [] = refl
reverse_filter p (x ∷ ops) =
    by (p x) (filter p (x ∷ [])) refl (reverse_filter p ops)
    ∙ sym (ap (filter p) (reverse-cons x ops) ∙ filter-append p (reverse ops) (x ∷ []))
  where
    by : (b : Bool) (last : List Operation) → last ≡ cond b (x ∷ []) [] → reverse (filter p ops) ≡ filter p (reverse ops)
        → reverse (cond b (x ∷ filter p ops) (filter p ops)) ≡ filter p (reverse ops) ++ last
    by true last e h = reverse-cons x (filter p ops) ∙ ap (λ l. l ++ x ∷ []) h ∙ ap (λ l. filter p (reverse ops) ++ l) (sym e)
    by false last e h = h ∙ sym (append-nil (filter p (reverse ops))) ∙ ap (λ l. filter p (reverse ops) ++ l) (sym e)

-- those of some operations that come in time, where the others are there
rest_by : (all seen rest : List Operation) (op : Operation) (b : Bool) → HasBasesIn all op seen → ComeInTime all (op ∷ seen) rest → (b ≡ false → ComeInTime all seen rest)
    → ComeInTime all seen (cond b (op ∷ rest) rest)
rest_by all seen rest op true here kept dropped = (here, kept)
rest_by all seen rest op false here kept dropped = dropped refl

rest_in_time : (p : Operation → Bool) (all ops first seen : List Operation) → ((x : Operation) → HasOp first x → HasOp seen x) → ((x : Operation) → HasOp ops x → p x ≡ false → HasOp seen x)
    → ComeInTime all first ops → ComeInTime all seen (filter p ops)
rest_in_time p all [] first seen f g t = tt
rest_in_time p all (op ∷ ops) first seen f g t = rest_by all seen (filter p ops) op (p op)
    (λ base i u. f base (t.0 base i u))
    (rest_in_time p all ops (op ∷ first) (op ∷ seen) (λ x i. elim i [ inl e ↦ inl e | inr j ↦ inr (f x j) ]) (λ x i e. inr (g x (inr i) e)) t.1)
    (λ e. rest_in_time p all ops (op ∷ first) seen (λ x i. elim i [ inl s ↦ subst (HasOp seen) s (g op (inl refl) e) | inr j ↦ f x j ]) (λ x i d. g x (inr i) d) t.1)

-- THE FILE

module _ (set log : List Operation) (known : ℕ → ℕ) (h : IsHistory set) (k : IsHistory log) (apart : HaveNoClash set log)
    (up : (site : ℕ) → known site ≤ known_end set site) where
  abbrev both : List Operation
  both = union set log

  whole_history : IsHistory both
  whole_history = union_history set log h k (all_free set log h k apart)

  members : (x : Operation) → HasOp both x ↔ (HasOp set x ⊎ HasOp (reverse (past_known known log)) x)
  members x = (
    λ i. elim (has_union set log x i) [
      | inl j ↦ inl j
      | inr j ↦ split (is_past known x)
          (λ e. inr (in_reverse (past_known known log) x (has_filter (is_past known) log x j e)))
          (λ e. inl (covered set log known h k apart up x j e))
    ],
    λ i. union_has set log x (elim i [ inl j ↦ inl j | inr j ↦ inr (filter_has (is_past known) log x (of_reverse (past_known known log) x j)).0 ]),
  )

  come : ComeInTime both set (reverse (past_known known log))
  come = subst (ComeInTime both set) (sym (reverse_filter (is_past known) log))
      (rest_in_time (is_past known) both (reverse log) set set (λ x i. i)
      (λ x i e. covered set log known h k apart up x (of_reverse log x i) e)
      (by_stamp both log set whole_history k (λ x i. union_has set log x (inr i))))

pub receives_lacking : (one : SiteValue) (log : List Operation) → IsHistory (log_of one) → IsHistory log → ReceivesLacking one log
receives_lacking one log p q known bytes received new up file apart none h =
    let set = log_of one in
    let ops = reverse (past_known known log) in
    let same = members set log known p q apart up in
    let time = come set log known p q apart up in
    let whole = whole_history set log known p q apart up in
    let begins : HasLog text_log text_limit text_with_new set (holder one) = record { log_is = refl; none = none } in (
      λ e. (let all = part_joins text_log text_limit text_with_new bytes file.0 (union set log) set ops (holder one) received (holder new) file.1 h.text e begins whole p same time in
          (joined_free_histories set log p q apart ∙ ap (λ l. Ok l) (sym all.log_is), all.none)),
      part_ends text_log text_limit text_with_new bytes file.0 (union set log) set ops (holder one) received (holder new) file.1 h.text begins whole p same time,
    )

-- two sites that receive so of each other's logs, with no fault told, have one log
pub one_log_caught_up : (one other left_one left_other : SiteValue) → IsHistory (log_of one) → IsHistory (log_of other)
    → AgreeOnceCaughtUp log_of one other left_one left_other
one_log_caught_up one other left_one left_other p q known_one known_other file_one file_other up_one up_other apart back file h k =
    let other_way : HaveNoClash (log_of other) (log_of one) = λ x y i j. clash_sym x y ∙ apart y x j i in
    one_join (log_of one) (log_of other) (log_of left_one) (log_of left_other) p q
    ((receives_lacking one (log_of other) p q known_one file_other h.1 left_one up_one file apart h.0 h.2).0 h.3).0
    ((receives_lacking other (log_of one) q p known_other file_one k.1 left_other up_other back other_way k.0 k.2).0 k.3).0
