-- A text for the worked examples.
use Rattle.std.specs.Prelude.{◌∷◌, ◌++◌, [], None, codes}
use Rattle.rt_index.specs.Widget.{IndexedWidget}

-- a widget that shows two lines, `abc` and `de`, without marks and tags
abbrev pub two_lines : IndexedWidget
two_lines = record { text = codes "abc" ++ 10 ∷ codes "de" ++ 10 ∷ []; marks = λ name. None; tags = λ name. None }
