-- Worked examples: what comes too early, in every order.
use Rattle.std.specs.Prelude.{ℕ, Bool, false, true, ◌&&◌, List, [], ◌∷◌, codes, map}
use Rattle.std.specs.List.{flat_map, list_all}
use Rattle.std.specs.Str.{bytes_eq}
use Rattle.std.specs.Cmp.Lexicographic.{pointwise}
use Rattle.rt_stamps.specs.declared.stamp.TheConstants.{ROOT}
use Rattle.rt_ops.specs.Operations.{Body, Insert, Operation}
use Rattle.rt_oplog.specs.Logs.{same_bool}
use Rattle.rt_store.specs.Cells.{text_of, visible_of}
use Rattle.rt_tags.specs.States.{is_on}
use Rattle.rt_rga.specs.Cells.{cells_of}
use Rattle.rt_rga.specs.Requests.{Offer}
use Rattle.rt_rga.specs.Examples.{at}
use Rattle.rt_holding.specs.Holding.{Holding, new_holding, reply_to}
use Rattle.rt_holding.specs.Replies.{Reply}
use Rattle.rt_holding.specs.Runs.{holding_after_request, holding_after_requests}

-- site 3, with room for a hundred cells
abbrev pub after_offers : List Operation → Holding
after_offers ops = holding_after_requests 3 100 (map Offer ops) new_holding

abbrev pub text_in : Holding → List ℕ
text_in s = text_of (cells_of s.log)

-- the replies to each, one after the other
abbrev pub replies_from : Holding → List Operation → List Reply
replies_from s [] = []
replies_from s (op ∷ ops) = reply_to 100 op s ∷ replies_from (holding_after_request 3 100 (Offer op) s) ops

-- `Z` in the place of `Y`, under the same stamp
abbrev pub insert_other : Operation
insert_other = record { count = 3; site = 2; prev = 0; body = Insert (at 1 1) [] (codes "Z") }

-- every order of a list
abbrev pub put_in : {A : Type 0} → A → List A → List (List A)
put_in x [] = (x ∷ []) ∷ []
put_in x (y ∷ ys) = (x ∷ (y ∷ ys)) ∷ map (λ zs. y ∷ zs) (put_in x ys)

abbrev pub every_order : {A : Type 0} → List A → List (List A)
every_order [] = [] ∷ []
every_order (x ∷ xs) = flat_map (put_in x) (every_order xs)

-- in every order the text is this, and none stays held
abbrev pub gives_text : List ℕ → List Operation → Bool
gives_text text ops = list_all (λ order. let s = after_offers order in bytes_eq (text_in s) text && is_none s.held) (every_order ops)
  where
    is_none : List Operation → Bool
    is_none [] = true
    is_none (op ∷ ops) = false

-- where the tag `t` is on, in every order
abbrev pub gives_tags : List Bool → List Operation → Bool
gives_tags tags ops = list_all (λ order. pointwise same_bool (tags_in (after_offers order)) tags) (every_order ops)
  where
    tags_in : Holding → List Bool
    tags_in s = map (λ cell. is_on (codes "t") cell.state) (visible_of (cells_of s.log))

-- site 1's operation with the previous count 3, offered to site 1 itself before it made any
abbrev pub own_later : Operation
own_later = record { count = 9; site = 1; prev = 3; body = Insert ROOT [] (codes "x") }

abbrev pub inserts : List ℕ → List Body
inserts text = Insert ROOT [] text ∷ []
