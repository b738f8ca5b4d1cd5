-- Histories for the worked examples.
use Rattle.std.specs.Prelude.{ℕ, ◌+◌, [], ◌∷◌, true}
use Rattle.rt_stamps.specs.declared.stamp.Stamp.{Stamp}
use Rattle.rt_undo.specs.declared.action.Kind.TheVariants.{Insert, Delete, Replace}
use Rattle.rt_undo.specs.Actions.{Action}
use Rattle.rt_undo.specs.Undo.{UndoHistory, no_history, separated, undo_done, unmodified, with_action, with_most}

-- a stamp of site 1
abbrev pub at_count : ℕ → Stamp
at_count count = record { count = count; site = 1 }

-- the character of a count is typed
abbrev pub typed : ℕ → Action ℕ
typed count = record { number = count; kind = Insert; inserted = at_count count ∷ []; removed = [] }

-- that of another count, in state 7, is removed
abbrev pub cut : ℕ → ℕ → Action ℕ
cut count other = record { number = count; kind = Delete; inserted = []; removed = record { stamp = at_count other; tags = 7 } ∷ [] }

-- that of another count, in state 7, is replaced
abbrev pub swapped : ℕ → ℕ → Action ℕ
swapped count other = record { number = count; kind = Replace; inserted = at_count (count + 1) ∷ []; removed = record { stamp = at_count other; tags = 7 } ∷ [] }

-- the insertion of a character is reverted: the character goes
abbrev pub untyped : ℕ → ℕ → Action ℕ
untyped count other = record { number = count; kind = Insert; inserted = []; removed = record { stamp = at_count other; tags = 7 } ∷ [] }

-- nothing was done yet
abbrev pub nothing_done : UndoHistory ℕ
nothing_done = no_history

-- two characters are typed in one go
abbrev pub two_typed : UndoHistory ℕ
two_typed = with_action true (typed 2) (with_action true (typed 1) no_history)

-- a character is typed and removed
abbrev pub typed_and_cut : UndoHistory ℕ
typed_and_cut = with_action true (cut 2 1) (with_action true (typed 1) no_history)

-- a character is typed, the text said to be unmodified, and the character undone
abbrev pub undone_after : UndoHistory ℕ
undone_after = undo_done (untyped 1 1 ∷ []) (unmodified (with_action true (typed 1) no_history))

-- a character is typed and removed, and both are undone
abbrev pub both_undone : UndoHistory ℕ
both_undone = undo_done (untyped 1 3 ∷ []) (undo_done (typed 3 ∷ []) typed_and_cut)

-- at most one group may be: a character is typed and removed
abbrev pub one_at_most : UndoHistory ℕ
one_at_most = with_action true (cut 2 1) (with_action true (typed 1) (with_most 1 no_history))

-- a character is typed and removed, the text said to be unmodified, and then at most one group may be
abbrev pub lowered_to_one : UndoHistory ℕ
lowered_to_one = with_most 1 (unmodified typed_and_cut)

-- three characters are typed with separators between them, the text said to be unmodified, and the last one undone
abbrev pub last_undone : UndoHistory ℕ
last_undone =
    undo_done (untyped 3 3 ∷ [])
    (unmodified (with_action true (typed 3) (separated (with_action true (typed 2) (separated (with_action true (typed 1) no_history))))))
