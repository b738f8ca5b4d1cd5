-- The state of a site.
use Rattle.std.specs.Prelude.{ℕ, Bool, true, false, List, [], ◌∷◌, Option, is_some, codes}
use Rattle.std.specs.List.{position}
use Rattle.std.specs.Str.{bytes_eq}
use Rattle.rt_stamps.specs.Words.{Word}
use Rattle.rt_ops.specs.Operations.{Operation}
use Rattle.rt_plans.specs.DocValue.{new_doc}
use Rattle.rt_recording.specs.EditedValue.{EditedValue}
use Rattle.rt_holding.specs.Holding.{Holding}
use Rattle.rt_text.specs.Widgets.{ViewValue, new_widget}
use Rattle.rt_undo.specs.Undo.{no_history}

-- a site: the paths of its widgets, in the order in which they were made; and its text as the first of them shows it, with the
-- history of its edits and the options that all widgets share. What is the other widgets' own stands there in the same order. And
-- the operations that it holds as they came early, by rising stamp.
pub record SiteValue : Type 0 where
  pub paths : List Word
  pub text : EditedValue
  pub held : List Operation

-- a new site has an empty document and the widget `.t`; its edits aren't recorded, and separators are automatic
abbrev pub new_view : ℕ → ℕ → ViewValue
new_view site limit = record { doc = new_doc site limit; own = new_widget; others = [] }

abbrev pub new_text : ℕ → ℕ → EditedValue
new_text site limit = record { view = new_view site limit; history = no_history; undo = false; auto = true }

abbrev pub new_site : ℕ → ℕ → SiteValue
new_site site limit = record { paths = codes ".t" ∷ []; text = new_text site limit; held = [] }

-- which of some widgets has a path
abbrev pub number_of_path : Word → List Word → Option ℕ
number_of_path path paths = position (λ other. bytes_eq other path) paths

abbrev pub is_widget : Word → List Word → Bool
is_widget path paths = is_some (number_of_path path paths)

-- the operations that it accepted, and those that it holds
abbrev pub holding_of_site : SiteValue → Holding
holding_of_site state = record { log = state.text.view.doc.log; held = state.held }
