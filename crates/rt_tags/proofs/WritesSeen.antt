-- What is seen of a state after many writes.
use Rattle.std.proofs.Common.{◌≡◌, ℕ, ◌==◌, ◌<◌, List, [], ◌∷◌, length, get_or, Bool, false, cond, sym, ap, subst, ◌∙◌, Option, Some, None}
use Rattle.std.proofs.lemmas.Bool.Decides.{Decides-eqb}
use Rattle.rt_tags.specs.declared.nodes.Setting.{Setting}
use Rattle.rt_tags.specs.declared.states.TagEntry.{TagEntry}
use Rattle.rt_tags.specs.Kept.{all_seen, write_seen, state_of}
use Rattle.rt_tags.specs.ManyWrites.{newer_setting, setting_after}
use Rattle.rt_tags.specs.SharedStates.{IsBelow, Tree, setting_of}
use Rattle.rt_tags.specs.States.{Write, write_of, written}
use Rattle.rt_tags.specs.Tags.{HaveNoRepeats, is_listed}
use Rattle.rt_tags.specs.Writers.{state_after}
use Rattle.rt_tags.proofs.Commuting.{one_state}
use Rattle.rt_tags.proofs.Entries.{Named, differs_there, same_test}
use Rattle.rt_tags.proofs.Greatest.{newer, write_of_written}
use Rattle.rt_tags.proofs.Merging.{after_by_name}
use Rattle.rt_tags.proofs.OneId.{IsFull}
use Rattle.rt_tags.proofs.Places.{split}
use Rattle.rt_tags.proofs.SeenStates.{by_name_there, listed_place, newer_if, write_if, write_nowhere, write_there}

module _ (names : List (List ℕ)) (own : HaveNoRepeats names) where
  -- one more write of a tag, or of another
  step : (e : TagEntry) (i : ℕ) → e.tag < length names → i < length names → (state : List Write) (m : Option Setting) → write_of (get_or names i []) state ≡ write_if (get_or names i []) m
      → write_of (get_or names i []) (written (write_seen names e) state) ≡ write_if (get_or names i []) (cond (e.tag == i) (newer_setting m e) m)
  step e i k w state m h =
      let q = get_or names i [] in
      let v = write_seen names e in
      let test = same_test names e.tag i own k w in
      write_of_written q v state
      ∙ split (e.tag == i)
      (λ y.
      let one : e.tag ≡ i = (Decides-eqb e.tag i).0 y in
      let here : write_of (get_or names e.tag []) state ≡ write_if (get_or names e.tag []) m = subst (λ (x : ℕ). write_of (get_or names x []) state ≡ write_if (get_or names x []) m) (sym one) h in
      let new : Some (newer (write_of v.name state) v) ≡ write_if (get_or names e.tag []) (newer_setting m e) = ap (λ (o : Option Write). Some (newer o v)) here ∙ sym (newer_if names e m) in
      ap (λ (b : Bool). cond b (Some (newer (write_of v.name state) v)) (write_of q state)) (test ∙ y)
      ∙ (new
      ∙ (ap (λ (x : ℕ). write_if (get_or names x []) (newer_setting m e)) one
      ∙ ap (λ (b : Bool). write_if q (cond b (newer_setting m e) m)) (sym y))))
      (λ n.
      ap (λ (b : Bool). cond b (Some (newer (write_of v.name state) v)) (write_of q state)) (test ∙ n)
      ∙ (h ∙ ap (λ (b : Bool). write_if q (cond b (newer_setting m e) m)) (sym n)))

  after_at : (entries : List TagEntry) (i : ℕ) → i < length names → Named (length names) entries → (state : List Write) (m : Option Setting) → write_of (get_or names i []) state ≡ write_if (get_or names i []) m
      → write_of (get_or names i []) (state_after state (all_seen names entries)) ≡ write_if (get_or names i []) (setting_after entries i m)
  after_at [] i w k state m h = h
  after_at (e ∷ entries) i w k state m h = after_at entries i w k.1 (written (write_seen names e) state) (cond (e.tag == i) (newer_setting m e) m) (step e i k.0 w state m h)

  after_none : (entries : List TagEntry) (q : List ℕ) → is_listed q names ≡ false → Named (length names) entries → (state : List Write) → write_of q state ≡ None → write_of q (state_after state (all_seen names entries)) ≡ None
  after_none [] q f k state h = h
  after_none (e ∷ entries) q f k state h =
      let v = write_seen names e in
      after_none entries q f k.1 (written v state)
      (write_of_written q v state ∙ (ap (λ (b : Bool). cond b (Some (newer (write_of v.name state) v)) (write_of q state)) (differs_there q names e.tag f k.0) ∙ h))

  pub seen_after : (old new : Tree) → IsFull old → IsBelow (length names) old → IsFull new → IsBelow (length names) new → (entries : List TagEntry) → Named (length names) entries
      → ((t : ℕ) → setting_of new t ≡ setting_after entries t (setting_of old t)) → state_of names new ≡ state_after (state_of names old) (all_seen names entries)
  seen_after old new full below full_new below_new entries k after =
      let end = state_after (state_of names old) (all_seen names entries) in
      let at = λ (i : ℕ) (w : i < length names).
      write_there names own new full_new below_new i w
      ∙ (ap (write_if (get_or names i [])) (after i)
      ∙ sym (after_at entries i w k (state_of names old) (setting_of old i) (write_there names own old full below i w))) in
      one_state (state_of names new) end (by_name_there names own new full_new below_new) (after_by_name (state_of names old) (all_seen names entries) (by_name_there names own old full below))
      (λ q. split (is_listed q names)
      (λ t. let r = listed_place q names t in subst (λ (x : List ℕ). write_of x (state_of names new) ≡ write_of x end) r.2 (at r.0 r.1))
      (λ f. write_nowhere names own new full_new below_new q f ∙ sym (after_none entries q f k (state_of names old) (write_nowhere names own old full below q f))))
