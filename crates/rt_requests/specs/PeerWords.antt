-- The words of `peer` and of the line `destroy PATH`, and what they ask for (Tk text manual, "PEER WIDGETS").
use Rattle.std.specs.Prelude.{IsTrue, List, [], ◌∷◌, Result, Ok, Err, codes, if◌then◌else◌}
use Rattle.std.specs.Str.{bytes_eq}
use Rattle.rt_stamps.specs.declared.fault.Fault.{Fault}
use Rattle.rt_stamps.specs.declared.fault.Fault.TheVariants.{BadCommand, BadName}
use Rattle.rt_stamps.specs.Words.{Word}
use Rattle.rt_requests.specs.declared.destroying.Destroy.{Destroy}
use Rattle.rt_requests.specs.declared.peers.PeerRequest.{PeerRequest}
use Rattle.rt_requests.specs.declared.peers.PeerRequest.TheVariants.{Create, Names}
use Rattle.rt_requests.specs.Paths.{is_path}
use Rattle.rt_requests.specs.SettingWords.{SettingsFit, AskedOfSettings, asked_of_pairs}

-- what is asked of peers, or why it is refused
abbrev pub AskedOfPeers : Type 0
AskedOfPeers = Result PeerRequest Fault

-- a widget of a path, with its settings: these are asked before the path
abbrev pub asked_peer : Word → AskedOfSettings → AskedOfPeers
asked_peer path (Ok settings) = if is_path path then Ok (Create path settings) else Err BadName
asked_peer path (Err fault) = Err fault

-- `peer create PATH ?OPTION VALUE ...?`
abbrev pub asked_create : List Word → AskedOfPeers
asked_create [] = Err BadCommand
asked_create (path ∷ words) = asked_peer path (asked_of_pairs words)

-- `peer names`
abbrev pub asked_names : List Word → AskedOfPeers
asked_names [] = Ok Names
asked_names (word ∷ words) = Err BadCommand

-- `peer WHAT ?WORD ...?`
abbrev pub asked_of_peers : List Word → AskedOfPeers
asked_of_peers [] = Err BadCommand
asked_of_peers (what ∷ words) =
    if bytes_eq what (codes "create") then asked_create words
    else if bytes_eq what (codes "names") then asked_names words
    else Err BadCommand

-- what can be asked: a new widget has a path that it can have
abbrev pub CanBeAskedOfPeers : PeerRequest → Type 0
CanBeAskedOfPeers (Create path settings) = IsTrue (is_path path) × SettingsFit settings
CanBeAskedOfPeers Names = Unit {0}

-- the words behind `destroy`: PATH
abbrev pub asked_destroy : List Word → Result Destroy Fault
asked_destroy (path ∷ []) = Ok (record { path = path })
asked_destroy [] = Err BadCommand
asked_destroy (path ∷ more ∷ words) = Err BadCommand
