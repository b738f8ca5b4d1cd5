-- The number, the name and the text of each fault.
use Rattle.std.specs.Prelude.{ℕ, ◌+◌, ◌/◌, ◌%◌, nat_lt, List, [], ◌∷◌, ◌++◌, if◌then◌else◌, codes}
use Rattle.rt_stamps.specs.declared.fault.Fault.{Fault}
use Rattle.rt_stamps.specs.declared.fault.Fault.TheVariants.{NoMemory, BadIndex, NoneTagged, BadCommand, NoWidget, WidgetExists, NoTag, NoMark, BadOption, BackwardsRange, EmptyPattern, NothingToUndo, NothingToRedo, BadName, BadView, LastWidget, ClockSpent, TextFull, BadQuoting, NoFile, BadMagic, BadVersion, Truncated, BadRecord, BadStamp, Conflict, NotYet, BadTarget, WaitingFull, ReadFault, WriteFault}

abbrev pub number_of : Fault → ℕ
number_of NoMemory = 1
number_of BadIndex = 2
number_of NoneTagged = 3
number_of BadCommand = 4
number_of NoWidget = 5
number_of WidgetExists = 6
number_of NoTag = 7
number_of NoMark = 8
number_of BadOption = 9
number_of BackwardsRange = 10
number_of EmptyPattern = 11
number_of NothingToUndo = 12
number_of NothingToRedo = 13
number_of BadName = 14
number_of BadView = 15
number_of LastWidget = 16
number_of ClockSpent = 17
number_of TextFull = 18
number_of BadQuoting = 19
number_of NoFile = 20
number_of BadMagic = 30
number_of BadVersion = 31
number_of Truncated = 32
number_of BadRecord = 33
number_of BadStamp = 34
number_of Conflict = 35
number_of NotYet = 36
number_of BadTarget = 37
number_of WaitingFull = 38
number_of ReadFault = 40
number_of WriteFault = 41

abbrev pub name_of : Fault → List ℕ
name_of NoMemory = codes "NoMemory"
name_of BadIndex = codes "BadIndex"
name_of NoneTagged = codes "NoneTagged"
name_of BadCommand = codes "BadCommand"
name_of NoWidget = codes "NoWidget"
name_of WidgetExists = codes "WidgetExists"
name_of NoTag = codes "NoTag"
name_of NoMark = codes "NoMark"
name_of BadOption = codes "BadOption"
name_of BackwardsRange = codes "BackwardsRange"
name_of EmptyPattern = codes "EmptyPattern"
name_of NothingToUndo = codes "NothingToUndo"
name_of NothingToRedo = codes "NothingToRedo"
name_of BadName = codes "BadName"
name_of BadView = codes "BadView"
name_of LastWidget = codes "LastWidget"
name_of ClockSpent = codes "ClockSpent"
name_of TextFull = codes "TextFull"
name_of BadQuoting = codes "BadQuoting"
name_of NoFile = codes "NoFile"
name_of BadMagic = codes "BadMagic"
name_of BadVersion = codes "BadVersion"
name_of Truncated = codes "Truncated"
name_of BadRecord = codes "BadRecord"
name_of BadStamp = codes "BadStamp"
name_of Conflict = codes "Conflict"
name_of NotYet = codes "NotYet"
name_of BadTarget = codes "BadTarget"
name_of WaitingFull = codes "WaitingFull"
name_of ReadFault = codes "ReadFault"
name_of WriteFault = codes "WriteFault"

-- one or two decimal digits
abbrev pub digits_of : ℕ → List ℕ
digits_of n = if nat_lt n 10 then (n + 48) ∷ [] else (n / 10 + 48) ∷ (n % 10 + 48) ∷ []

-- the number, a space and the name
abbrev pub fault_text : Fault → List ℕ
fault_text fault = digits_of (number_of fault) ++ 32 ∷ name_of fault
