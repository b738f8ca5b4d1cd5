-- Summaries that tell what others told.
use Rattle.std.proofs.Common.{◌≡◌, ℕ, ◌<◌, ◌≤◌, List, length, set, get_or-set_other, get_or-set_same, refl, sym, ap, subst, ◌∙◌, arith, inl, inr}
use Rattle.std.proofs.lemmas.Bool.{cases_eq}
use Rattle.rt_tags.specs.States.{TagStates}
use Rattle.rt_tags.specs.Toggles.{count_in}
use Rattle.rt_tree.specs.declared.summary.Summary.{Summary}
use Rattle.rt_tree.specs.Summaries.{IsSummary, TellsAs, no_summary, room_at, summary_of}

pub tells_same : (s : Summary) → TellsAs s s
tells_same s = record { first = refl; last = refl; counts = refl }

pub tells_then : (a b c : Summary) → TellsAs a b → TellsAs b c → TellsAs a c
tells_then a b c t u = record { first = u.first ∙ t.first; last = u.last ∙ t.last; counts = u.counts ∙ t.counts }

pub still_summary : (table : TagStates) (states : List ℕ) (a b : Summary) → TellsAs a b → IsSummary table states a → IsSummary table states b
still_summary table states a b t is = record {
  first = t.first ∙ is.first;
  last = t.last ∙ is.last;
  counts = record { given = λ tag h. ap (count_in tag) t.counts ∙ is.counts.given tag h; others = λ tag far. ap (count_in tag) t.counts ∙ is.counts.others tag far };
}

-- ONE IN PLACE OF ANOTHER

module _ (each : List Summary) (id : ℕ) (lt : id < length each) (s : Summary) where
  pub set_own : summary_of (set each id s) id ≡ s
  set_own = get_or-set_same each id s no_summary lt

  pub set_tells : TellsAs (summary_of each id) s → (i : ℕ) → TellsAs (summary_of each i) (summary_of (set each id s) i)
  set_tells t i = elim (cases_eq i id) [
    | inl same ↦ subst (λ n. TellsAs (summary_of each n) (summary_of (set each id s) n)) (sym same) (subst (TellsAs (summary_of each id)) (sym set_own) t)
    | inr ne ↦ subst (TellsAs (summary_of each i)) (sym (get_or-set_other each id i s no_summary ne)) (tells_same (summary_of each i))
  ]

  pub set_room : room_at each id ≤ s.counts.capacity → (i : ℕ) → room_at each i ≤ room_at (set each id s) i
  set_room le i = elim (cases_eq i id) [
    | inl same ↦ subst (λ n. room_at each n ≤ room_at (set each id s) n) (sym same) (let e = ap (λ (t : Summary). t.counts.capacity) set_own in omega (arith, e, le))
    | inr ne ↦ let e = ap (λ (t : Summary). t.counts.capacity) (get_or-set_other each id i s no_summary ne) in omega (arith, e)
  ]
