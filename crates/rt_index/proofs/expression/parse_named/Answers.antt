use Rattle.std.proofs.Common.{◌≡◌, ◌==◌, ◌⊎◌, ℕ, List, Option, Some, None, Bool, true, false, drop, take, map, inl, inr, refl, sym, ◌∙◌, ap, subst, length}
use Rattle.std.specs.Prelude.{option_map}
use Rattle.rt_stamps.specs.declared.fault.Fault.{Fault}
use Rattle.rt_stamps.specs.declared.fault.Fault.TheVariants.{NoMemory, BadIndex}
use Rattle.rt_index.specs.declared.parts.Tag.{Tag}
use Rattle.rt_index.specs.declared.parts.Modifier.{Modifier}
use Rattle.rt_index.specs.declared.parts.Base.TheVariants.{Named}
use Rattle.rt_index.specs.Expression.{kept_modifier, longest_named, named_after, is_possible, IsParsed}
use Rattle.rt_index.specs.Index.{IsNeverIndex, MayBeIndex}
use Rattle.rt_index.specs.Reading.{token_length, fixed_of, modifiers_of}
use Rattle.rt_index.proofs.Modifiers.{map_some}
use Rattle.rt_index.proofs.Hope.{parsed_named, hopeful_named, hopeless_rest, hopeless_base}
use Rattle.rt_index.proofs.expression.parse_named.Goals as goal

-- what the steps of the code say of the word
record Steps (word front rest : List ℕ) (token end : ℕ) (tag : Option Tag) : Type 0 where
  cut : token ≡ token_length word
  named : fixed_of (take token word) ≡ None
  found : longest_named word (length word) ≡ tag
  front_is : front ≡ take token word
  end_is : end ≡ named_after token tag
  rest_is : rest ≡ drop end word

named_of : (word front rest : List ℕ) (token end : ℕ) (tag : Option Tag) → Steps word front rest token end tag → fixed_of (take (token_length word) word) ≡ None
named_of word front rest token end tag s = ap (λ n. fixed_of (take n word)) (sym s.cut) ∙ s.named

end_of : (word front rest : List ℕ) (token end : ℕ) (tag : Option Tag) → Steps word front rest token end tag → end ≡ named_after (token_length word) tag
end_of word front rest token end tag s = s.end_is ∙ ap (λ n. named_after n tag) s.cut

rest_of : (word front rest : List ℕ) (token end : ℕ) (tag : Option Tag) → Steps word front rest token end tag
    → modifiers_of (drop (named_after (token_length word) tag) word) ≡ modifiers_of rest
rest_of word front rest token end tag s = ap modifiers_of (sym (s.rest_is ∙ ap (λ n. drop n word) (end_of word front rest token end tag s)))

possible_of : (word front rest : List ℕ) (token end : ℕ) (tag : Option Tag) → Steps word front rest token end tag
    → is_possible front (end == token) tag ≡ is_possible (take (token_length word) word) (named_after (token_length word) tag == token_length word) tag
possible_of word front rest token end tag s =
    ap (λ x. is_possible x (end == token) tag) (s.front_is ∙ ap (λ n. take n word) s.cut)
    ∙ ap (λ e. is_possible (take (token_length word) word) (e == token) tag) (end_of word front rest token end tag s)
    ∙ ap (λ n. is_possible (take (token_length word) word) (named_after (token_length word) tag == n) tag) s.cut

parsed : (word front rest : List ℕ) (token end : ℕ) (tag : Option Tag) (items : List Modifier) → Steps word front rest token end tag
    → option_map (map kept_modifier) (modifiers_of rest) ≡ Some items → IsParsed word (Named token (end == token) tag) items
parsed word front rest token end tag items s e =
    let ms = map_some (map kept_modifier) (modifiers_of rest) items e in
    let done = parsed_named word tag ms.0 items (named_of word front rest token end tag s) s.found (rest_of word front rest token end tag s ∙ ms.1) ms.2 in
    let P : ℕ → Type 0 = λ e. IsParsed word (Named (token_length word) (e == token_length word) tag) items in
    let Q : ℕ → Type 0 = λ k. IsParsed word (Named k (end == k) tag) items in
    subst Q (sym s.cut) (subst P (sym (end_of word front rest token end tag s)) done)

hopeful : (word front rest : List ℕ) (token end : ℕ) (tag : Option Tag) (items : List Modifier) (b : Bool) → Steps word front rest token end tag
    → option_map (map kept_modifier) (modifiers_of rest) ≡ Some items → b ≡ is_possible front (end == token) tag → b ≡ true → MayBeIndex word
hopeful word front rest token end tag items b s e p t =
    let ms = map_some (map kept_modifier) (modifiers_of rest) items e in
    hopeful_named word tag ms.0 (named_of word front rest token end tag s) s.found (rest_of word front rest token end tag s ∙ ms.1)
    (sym (p ∙ possible_of word front rest token end tag s) ∙ t)

hopeless : (word front rest : List ℕ) (token end : ℕ) (tag : Option Tag) (b : Bool) → Steps word front rest token end tag
    → b ≡ is_possible front (end == token) tag → b ≡ false → IsNeverIndex word
hopeless word front rest token end tag b s p f =
    hopeless_base word tag (named_of word front rest token end tag s) s.found (sym (p ∙ possible_of word front rest token end tag s) ∙ f)

refused : (word front rest : List ℕ) (token end : ℕ) (tag : Option Tag) (fault : Fault) → Steps word front rest token end tag
    → (fault ≡ NoMemory) ⊎ ((fault ≡ BadIndex) × (modifiers_of rest ≡ None)) → (fault ≡ NoMemory) ⊎ ((fault ≡ BadIndex) × IsNeverIndex word)
refused word front rest token end tag fault s (inl e) = inl e
refused word front rest token end tag fault s (inr h) =
    inr (h.0, hopeless_rest word tag (named_of word front rest token end tag s) s.found (rest_of word front rest token end tag s ∙ h.1))

pub invariant_of-result : goal.invariant_of-result
invariant_of-result c =
    let word = c.args.word.now in
    let tag = c.longest_tag-tag.result in
    let b = c.as_bytes-bytes.ensures.value in
    let steps : Steps word c.split_at.result.0.now c.split_at-2.result.1.now c.args.token c.named_after-end.result tag = record {
      cut = c.requires.token;
      named = c.requires.named;
      found = ap (λ x. longest_named x (length x)) (sym b) ∙ sym c.longest_tag-tag.ensures.value;
      front_is = c.split_at.ensures.front ∙ ap (take c.args.token) b;
      end_is = c.named_after-end.ensures;
      rest_is = c.split_at-2.ensures.back ∙ ap (drop c.named_after-end.result) b;
    } in
    parsed word c.split_at.result.0.now c.split_at-2.result.1.now c.args.token c.named_after-end.result tag c.in-Ok.modifiers.items steps c.in-Ok.ensures.ok

pub returns-clause-possible : goal.returns-clause-possible
returns-clause-possible c =
    let word = c.args.word.now in
    let tag = c.longest_tag-tag.result in
    let b = c.as_bytes-bytes.ensures.value in
    let steps : Steps word c.split_at.result.0.now c.split_at-2.result.1.now c.args.token c.named_after-end.result tag = record {
      cut = c.requires.token;
      named = c.requires.named;
      found = ap (λ x. longest_named x (length x)) (sym b) ∙ sym c.longest_tag-tag.ensures.value;
      front_is = c.split_at.ensures.front ∙ ap (take c.args.token) b;
      end_is = c.named_after-end.ensures;
      rest_is = c.split_at-2.ensures.back ∙ ap (drop c.named_after-end.result) b;
    } in
    hopeful word c.split_at.result.0.now c.split_at-2.result.1.now c.args.token c.named_after-end.result tag c.in-Ok.modifiers.items c.is_possible.result steps c.in-Ok.ensures.ok
    c.is_possible.ensures c.if-not-is_possible.false

pub returns-then-not-is_possible-clause-fault : goal.returns-then-not-is_possible-clause-fault
returns-then-not-is_possible-clause-fault c =
    let word = c.args.word.now in
    let tag = c.longest_tag-tag.result in
    let b = c.as_bytes-bytes.ensures.value in
    let steps : Steps word c.split_at.result.0.now c.split_at-2.result.1.now c.args.token c.named_after-end.result tag = record {
      cut = c.requires.token;
      named = c.requires.named;
      found = ap (λ x. longest_named x (length x)) (sym b) ∙ sym c.longest_tag-tag.ensures.value;
      front_is = c.split_at.ensures.front ∙ ap (take c.args.token) b;
      end_is = c.named_after-end.ensures;
      rest_is = c.split_at-2.ensures.back ∙ ap (drop c.named_after-end.result) b;
    } in
    inr (refl, hopeless word c.split_at.result.0.now c.split_at-2.result.1.now c.args.token c.named_after-end.result tag c.is_possible.result steps c.is_possible.ensures c.if-not-is_possible.true)

pub returns-in-Err-clause-fault : goal.returns-in-Err-clause-fault
returns-in-Err-clause-fault c =
    let word = c.args.word.now in
    let tag = c.longest_tag-tag.result in
    let b = c.as_bytes-bytes.ensures.value in
    let steps : Steps word c.split_at.result.0.now c.split_at-2.result.1.now c.args.token c.named_after-end.result tag = record {
      cut = c.requires.token;
      named = c.requires.named;
      found = ap (λ x. longest_named x (length x)) (sym b) ∙ sym c.longest_tag-tag.ensures.value;
      front_is = c.split_at.ensures.front ∙ ap (take c.args.token) b;
      end_is = c.named_after-end.ensures;
      rest_is = c.split_at-2.ensures.back ∙ ap (drop c.named_after-end.result) b;
    } in
    refused word c.split_at.result.0.now c.split_at-2.result.1.now c.args.token c.named_after-end.result tag c.in-Err.fault steps c.in-Err.ensures.err
