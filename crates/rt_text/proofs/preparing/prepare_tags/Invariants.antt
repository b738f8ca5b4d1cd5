use Rattle.std.proofs.Common.{◌≡◌, ◌||◌, ℕ, List, All, string_bytes, take, true}
use Rattle.rt_stamps.specs.Words.{as_words}
use Rattle.rt_tags.specs.Tags.{is_listed, is_ready}
use Rattle.rt_text.proofs.preparing.prepare_tags.Given as goal

abbrev pub invariant-loop-name : goal.invariant-loop-name
invariant-loop-name l = record {
  names : l.table.names ≡ l.initial.table.names;
  ready : All (λ w. is_ready (string_bytes w) l.table ≡ true) (take l.name-index l.names);
  kept : (other : List ℕ) → is_ready other l.initial.table ≡ true → is_ready other l.table ≡ true;
  only : (other : List ℕ) → is_ready other l.table ≡ true → (is_listed other (as_words l.names) || is_ready other l.initial.table) ≡ true;
}
