-- Tags that are deleted in turn: which characters each of them still names.
use Rattle.std.proofs.Common.{◌≡◌, ℕ, List, [], ◌∷◌, ◌++◌, Bool, true, false, not, ◌||◌, ◌&&◌, Some, cond, All, append_assoc, filter, get_or, map, refl, sym, ◌∙◌, ap, subst}
use Rattle.std.specs.Str.{bytes_eq}
use Rattle.std.proofs.lemmas.Bool.{both_ways, cond-false, cond-true, or_parts}
use Rattle.std.proofs.lemmas.List.Elements.{All-filter, All-head, All-tail}
use Rattle.std.proofs.lemmas.List.Folds.{list_any-append}
use Rattle.std.proofs.lemmas.Slice.Eq.{bytes_eq-Decides}
use Rattle.rt_stamps.specs.declared.stamp.Stamp.{Stamp}
use Rattle.rt_stamps.specs.Words.{Word}
use Rattle.rt_store.specs.Cells.{stamps_of, visible_of}
use Rattle.rt_store.specs.Shown.{TaggedCell}
use Rattle.rt_ops.specs.Operations.{Body}
use Rattle.rt_tags.specs.States.{Write, is_on, says_on, write_of}
use Rattle.rt_tags.specs.Tags.{is_listed, sel, with_name, without}
use Rattle.rt_tags.proofs.Places.{name_itself, same_name, split}
use Rattle.rt_store.specs.Written.{AreWritten}
use Rattle.rt_plans.specs.DocValue.{DocValue}
use Rattle.rt_plans.specs.Listed.{AreListed, IsShared}
use Rattle.rt_plans.specs.Removals.{cells_at}
use Rattle.rt_plans.specs.TagDrafts.{tag_deletion_drafts, tag_drafts}
use Rattle.rt_plans.specs.TagWrites.{changed_stamps, is_changed, cell_with_tag, with_tag_at, without_tag}
use Rattle.rt_plans.proofs.ListedWrites.{every_cell, everywhere, nowhere_on}
use Rattle.rt_plans.proofs.Putting.{cells_at_changed, tagged_state}
use Rattle.rt_plans.proofs.TagEffects.{other_tag, stamp_kept}
use Rattle.rt_plans.proofs.TagPlaces.{absent_tag, among_listed, none_changed, still_absent}
use Rattle.rt_plans.proofs.WriterLaws.{tag_written}

stamps_step : (b d : Bool) (x y : TaggedCell) (xs ys : List TaggedCell) → b ≡ d → x.stamp ≡ y.stamp → stamps_of xs ≡ stamps_of ys → stamps_of (cond b (x ∷ xs) xs) ≡ stamps_of (cond d (y ∷ ys) ys)
stamps_step true true x y xs ys h s t = λ i. s i ∷ t i
stamps_step true false x y xs ys h s t = absurd (cc h)
stamps_step false true x y xs ys h s t = absurd (cc h)
stamps_step false false x y xs ys h s t = t

other_changed : (site count : ℕ) (name : Word) (on : Bool) (stamps : List Stamp) (other : Word) → bytes_eq other name ≡ false → (cells : List TaggedCell)
    → changed_stamps other false (map (cell_with_tag site count name on stamps) cells) ≡ changed_stamps other false cells
other_changed site count name on stamps other e [] = refl
other_changed site count name on stamps other e (c ∷ cs) =
    let g : TaggedCell → TaggedCell = cell_with_tag site count name on stamps in
    stamps_step (is_on other (g c).state) (is_on other c.state) (g c) c (filter (is_changed other false) (map g cs)) (filter (is_changed other false) cs)
    (ap says_on (other_tag site count name on stamps other e c)) (stamp_kept site count name on stamps c) (other_changed site count name on stamps other e cs)

-- another tag names the same characters afterwards
pub other_still : (document : DocValue) (name other : Word) → bytes_eq other name ≡ false
    → changed_stamps other false (cells_at everywhere 0 (with_tag_at document everywhere false name).cells) ≡ changed_stamps other false (cells_at everywhere 0 document.cells)
other_still document name other e =
    let stamps = changed_stamps name false (cells_at everywhere 0 document.cells) in
    ap (changed_stamps other false) (cells_at_changed (cell_with_tag document.site document.count name false stamps) (tagged_state document.site document.count name false stamps) everywhere 0 document.cells)
    ∙ other_changed document.site document.count name false stamps other e (cells_at everywhere 0 document.cells)

-- a tag that is on no visible character names none
pub none_named : (cells : List TaggedCell) (name : Word) → All (λ c. is_on name c.state ≡ false) (visible_of cells) → changed_stamps name false (cells_at everywhere 0 cells) ≡ []
none_named cells name h = ap (changed_stamps name false) (every_cell 0 cells) ∙ ap stamps_of (none_changed name (visible_of cells) h)

-- no visible character has a tag
abbrev pub IsOff : Word → List TaggedCell → Type 0
IsOff name cells = All (λ c. is_on name c.state ≡ false) (visible_of cells)

-- a document that some tags were taken off
pub record Turn (document doc : DocValue) (seen : List Word) : Type 0 where
  pub written : AreWritten doc.count doc.cells
  pub off : (name : Word) → is_listed name seen ≡ true → IsOff name doc.cells
  pub absent : (name : Word) → IsOff name document.cells → IsOff name doc.cells
  pub same : (name : Word) → is_listed name seen ≡ false → changed_stamps name false (cells_at everywhere 0 doc.cells) ≡ changed_stamps name false (cells_at everywhere 0 document.cells)

-- one tag more
pub turn_more : (document doc : DocValue) (seen : List Word) (name : Word) → bytes_eq name sel ≡ false → Turn document doc seen → Turn document (without_tag doc name) (name ∷ seen)
turn_more document doc seen name f h =
    let off : DocValue = with_tag_at doc everywhere false name in
    let next : DocValue = record off { tags = without name off.tags } in
    let turned : Turn document next (name ∷ seen) = record {
      written = tag_written doc everywhere false name h.written;
      off = λ q e. split (bytes_eq q name)
          (λ t. subst (λ w. IsOff w next.cells) (sym ((bytes_eq-Decides q name).0 t)) (nowhere_on doc name h.written))
          (λ n. still_absent doc name q (h.off q (ap (λ b. b || is_listed q seen) (sym n) ∙ e)));
      absent = λ q k. still_absent doc name q (h.absent q k);
      same = λ q e. let p = or_parts (bytes_eq q name) (is_listed q seen) e in other_still doc name q p.0 ∙ h.same q p.1;
    } in
    subst (λ (d : DocValue). Turn document d (name ∷ seen)) (sym (cond-false (bytes_eq name sel) doc next f)) turned

-- a tag that is on no visible character, or `sel`
pub turn_off : (document doc : DocValue) (seen : List Word) (name : Word) → IsOff name doc.cells → Turn document doc seen → Turn document (without_tag doc name) seen
turn_off document doc seen name k h =
    let off : DocValue = with_tag_at doc everywhere false name in
    let next : DocValue = record off { tags = without name off.tags } in
    let same : record doc { tags = without name doc.tags } ≡ next = sym (ap (λ (d : DocValue). record d { tags = without name doc.tags }) (absent_tag doc name k)) in
    let kept : Turn document (record doc { tags = without name doc.tags }) seen = record { written = h.written; off = h.off; absent = h.absent; same = h.same } in
    split (bytes_eq name sel)
    (λ t. subst (λ (d : DocValue). Turn document d seen) (sym (cond-true (bytes_eq name sel) doc next t)) h)
    (λ f. subst (λ (d : DocValue). Turn document d seen) (same ∙ sym (cond-false (bytes_eq name sel) doc next f)) kept)

-- its operations
pub drafts_off : (most : ℕ) (doc : DocValue) (name : Word) (names : List Word) → tag_drafts most false name [] ≡ [] → IsOff name doc.cells
    → tag_deletion_drafts most doc (name ∷ names) ≡ tag_deletion_drafts most (without_tag doc name) names
drafts_off most doc name names n k =
    let drafts = tag_drafts most false name (changed_stamps name false (cells_at everywhere 0 doc.cells)) in
    let none : drafts ≡ [] = ap (tag_drafts most false name) (none_named doc.cells name k) ∙ n in
    let rest = tag_deletion_drafts most (without_tag doc name) names in
    split (bytes_eq name sel)
    (λ t. ap (λ l. l ++ rest) (cond-true (bytes_eq name sel) [] drafts t))
    (λ f. ap (λ l. l ++ rest) (cond-false (bytes_eq name sel) [] drafts f ∙ none))

-- the operations of one that isn't off yet
pub drafts_more : (most : ℕ) (document doc : DocValue) (seen : List Word) (name : Word) (names : List Word) → bytes_eq name sel ≡ false → is_listed name seen ≡ false → Turn document doc seen
    → tag_deletion_drafts most doc (name ∷ names) ≡ tag_drafts most false name (changed_stamps name false (cells_at everywhere 0 document.cells)) ++ tag_deletion_drafts most (without_tag doc name) names
drafts_more most document doc seen name names f new h =
    let drafts = tag_drafts most false name (changed_stamps name false (cells_at everywhere 0 doc.cells)) in
    let rest = tag_deletion_drafts most (without_tag doc name) names in
    ap (λ l. l ++ rest) (cond-false (bytes_eq name sel) [] drafts f ∙ ap (tag_drafts most false name) (h.same name new))

-- AS NAMES ARE SEEN

-- `sel` is on nowhere
shared_off : (state : List Write) → IsShared state → is_on sel state ≡ false
shared_off [] h = refl
shared_off (w ∷ ws) h =
    let Q : Write → Type 0 = λ v. bytes_eq v.name sel ≡ false in
    let other : bytes_eq sel w.name ≡ false = split (bytes_eq sel w.name) (λ t. absurd (both_ways (bytes_eq w.name sel) (All-head Q w ws h) (ap (λ n. bytes_eq n sel) (sym (same_name sel w.name t)) ∙ name_itself sel))) (λ f. f) in
    ap says_on (cond-false (bytes_eq sel w.name) (Some w) (write_of sel ws) other) ∙ shared_off ws (All-tail Q w ws h)

sel_off : (cells : List TaggedCell) → All (λ cell. IsShared cell.state) cells → IsOff sel cells
sel_off cells h =
    let shared : All (λ (cell : TaggedCell). IsShared cell.state) (visible_of cells) = All-filter (λ c. not c.gone) (λ (cell : TaggedCell). IsShared cell.state) cells h in
    λ k d lt. shared_off (get_or (visible_of cells) k d).state (shared k d lt)

-- `sel` is as if it was taken off
sel_seen : (document : DocValue) → AreWritten document.count document.cells → IsOff sel document.cells → Turn document document (sel ∷ [])
sel_seen document h k = record {
  written = h;
  off = λ name e. split (bytes_eq name sel) (λ t. subst (λ w. IsOff w document.cells) (sym (same_name name sel t)) k) (λ n. absurd (cc (ap (λ b. b || false) (sym n) ∙ e)));
  absent = λ name l. l;
  same = λ name e. refl;
}

either_way : (a b : Bool) → (a || (b || false)) ≡ (b || a)
either_way true true = refl
either_way true false = refl
either_way false true = refl
either_way false false = refl

seen_last : (document doc : DocValue) (seen : List Word) (name : Word) → is_listed name seen ≡ false → Turn document doc (name ∷ seen) → Turn document doc (with_name name seen)
seen_last document doc seen name new h =
    let last : List Word = seen ++ name ∷ [] in
    let as_listed : (q : Word) → is_listed q last ≡ is_listed q (name ∷ seen) = λ q. list_any-append (bytes_eq q) seen (name ∷ []) ∙ either_way (is_listed q seen) (bytes_eq q name) in
    let turned : Turn document doc last = record { written = h.written; off = λ q e. h.off q (sym (as_listed q) ∙ e); absent = h.absent; same = λ q e. h.same q (sym (as_listed q) ∙ e) } in
    subst (Turn document doc) (sym (cond-false (is_listed name seen) seen last new)) turned

-- the operations so far and those of the names that are left, in the document that is left, are all
pub record Stands (most : ℕ) (document : DocValue) (seen : List Word) (done : List Body) (left names : List Word) : Type 0 where
  pub doc : DocValue
  pub turn : Turn document doc seen
  pub shared : is_listed sel seen ≡ true
  pub drafts : done ++ tag_deletion_drafts most doc left ≡ tag_deletion_drafts most document names

pub stands_first : (most : ℕ) (document : DocValue) (tags names : List Word) → AreWritten document.count document.cells → AreListed tags document.cells → Stands most document (sel ∷ []) [] names names
stands_first most document tags names h listed = record { doc = document; turn = sel_seen document h (sel_off document.cells listed.shared); shared = refl; drafts = refl }

pub stands_more : (most : ℕ) (document : DocValue) (seen : List Word) (done : List Body) (name : Word) (left names : List Word) → is_listed name seen ≡ false → Stands most document seen done (name ∷ left) names
    → Stands most document (with_name name seen) (done ++ tag_drafts most false name (changed_stamps name false (cells_at everywhere 0 document.cells))) left names
stands_more most document seen done name left names new h =
    let more = tag_drafts most false name (changed_stamps name false (cells_at everywhere 0 document.cells)) in
    let other : bytes_eq name sel ≡ false = split (bytes_eq name sel) (λ t. absurd (both_ways (is_listed name seen) new (ap (λ n. is_listed n seen) (same_name name sel t) ∙ h.shared))) (λ f. f) in
    let last : List Word = seen ++ name ∷ [] in
    record {
      doc = without_tag h.doc name;
      turn = seen_last document (without_tag h.doc name) seen name new (turn_more document h.doc seen name other h.turn);
      shared = subst (λ l. is_listed sel l ≡ true) (sym (cond-false (is_listed name seen) seen last new))
          (list_any-append (bytes_eq sel) seen (name ∷ []) ∙ ap (λ b. b || is_listed sel (name ∷ [])) h.shared);
      drafts = append_assoc done more (tag_deletion_drafts most (without_tag h.doc name) left) ∙ ap (λ l. done ++ l) (sym (drafts_more most document h.doc seen name left other new h.turn)) ∙ h.drafts;
    }

unlisted : (b d : Bool) → (b && not d) ≡ false → d ≡ false → b ≡ false
unlisted true true h k = absurd (cc k)
unlisted true false h k = h
unlisted false d h k = refl

pub stands_past : (most : ℕ) (document : DocValue) (tags seen : List Word) (done : List Body) (name : Word) (left names : List Word) → tag_drafts most false name [] ≡ [] → AreListed tags document.cells
    → (is_listed name tags && not (is_listed name seen)) ≡ false → Stands most document seen done (name ∷ left) names → Stands most document seen done left names
stands_past most document tags seen done name left names none listed old h =
    let off : IsOff name h.doc.cells = split (is_listed name seen)
    (λ t. h.turn.off name t)
    (λ f. h.turn.absent name (among_listed tags document.cells listed name (unlisted (is_listed name tags) (is_listed name seen) old f))) in
    record {
      doc = without_tag h.doc name;
      turn = turn_off document h.doc seen name off h.turn;
      shared = h.shared;
      drafts = ap (λ l. done ++ l) (sym (drafts_off most h.doc name left none off)) ∙ h.drafts;
    }
