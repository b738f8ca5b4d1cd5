-- Entries as nodes keep them: the fields of a run beside each other.
use Rattle.rt_tree.specs.declared.node.Entry.{Entry}
use Rattle.rt_tree.specs.declared.node.Entry.TheVariants.{Down, Here}
use Rattle.rt_tree.specs.declared.node_entry.Form.{Form}
use Rattle.rt_tree.specs.declared.node_entry.Form.TheVariants.{Cells, Node}

-- the entry that is kept so
abbrev pub entry_of_form : Form → Entry
entry_of_form (Node id totals) = Down id totals
entry_of_form (Cells gone newline site first state at len) =
    Here (record { first = first; state = state; at = at; len = len; site = site; gone = gone; newline = newline })

-- how an entry is kept
abbrev pub form_of : Entry → Form
form_of (Down id totals) = Node id totals
form_of (Here r) = Cells r.gone r.newline r.site r.first r.state r.at r.len
