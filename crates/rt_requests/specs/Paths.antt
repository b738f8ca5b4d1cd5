-- Paths of widgets.
use Rattle.std.specs.Prelude.{◌==◌, Bool, false, [], ◌∷◌}
use Rattle.rt_stamps.specs.Words.{Word}

-- a path that a widget can have is a dot and one character at least
abbrev pub is_path : Word → Bool
is_path [] = false
is_path (c ∷ []) = false
is_path (c ∷ more ∷ word) = c == 46
