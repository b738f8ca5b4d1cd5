-- Words that ask for a request of the undo mechanism.
use Rattle.std.proofs.Common.{◌≡◌, true, false, List, [], ◌∷◌, Ok, codes, refl}
use Rattle.rt_stamps.specs.Words.{Word}
use Rattle.rt_requests.specs.declared.request.EditRequest.{EditRequest}
use Rattle.rt_requests.specs.declared.request.EditRequest.TheVariants as edits
use Rattle.rt_requests.specs.declared.request.Request.TheVariants.{Edit}
use Rattle.rt_requests.specs.Asking.{asked_edit}
use Rattle.rt_requests.proofs.SpelledSettings.{truth_word}

abbrev pub edit_words : EditRequest → List Word
edit_words edits.Undo = codes "undo" ∷ []
edit_words edits.Redo = codes "redo" ∷ []
edit_words edits.Separator = codes "separator" ∷ []
edit_words edits.Reset = codes "reset" ∷ []
edit_words edits.CanUndo = codes "canundo" ∷ []
edit_words edits.CanRedo = codes "canredo" ∷ []
edit_words edits.Modified = codes "modified" ∷ []
edit_words (edits.SetModified modified) = codes "modified" ∷ truth_word modified ∷ []

pub edit_asked : (request : EditRequest) → asked_edit (edit_words request) ≡ Ok (Edit request)
edit_asked edits.Undo = refl
edit_asked edits.Redo = refl
edit_asked edits.Separator = refl
edit_asked edits.Reset = refl
edit_asked edits.CanUndo = refl
edit_asked edits.CanRedo = refl
edit_asked edits.Modified = refl
edit_asked (edits.SetModified false) = refl
edit_asked (edits.SetModified true) = refl
