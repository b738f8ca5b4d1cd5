use Rattle.rt_rga.proofs.Texts.{shown_alike, stamps_kept, tagged_characters, text_alike, text_kept}
use Rattle.rt_rga.proofs.laws.agreement.Goals as goal

pub returns-clause-cells : goal.returns-clause-cells
returns-clause-cells c = shown_alike

pub returns-clause-text : goal.returns-clause-text
returns-clause-text c = text_alike

pub returns-clause-kept : goal.returns-clause-kept
returns-clause-kept c = text_kept

pub returns-clause-stamps : goal.returns-clause-stamps
returns-clause-stamps c = stamps_kept

pub returns-clause-characters : goal.returns-clause-characters
returns-clause-characters c = tagged_characters
