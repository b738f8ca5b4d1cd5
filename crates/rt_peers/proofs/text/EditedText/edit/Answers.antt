use Rattle.rt_peers.proofs.text.EditedText.edit.Goals as goal

pub returns-in-Undo-clause-answers : goal.returns-in-Undo-clause-answers
returns-in-Undo-clause-answers c = rw c.in-Undo.is c.undo.ensures

pub returns-in-Redo-clause-answers : goal.returns-in-Redo-clause-answers
returns-in-Redo-clause-answers c = rw c.in-Redo.is c.redo.ensures
