-- Words that ask for settings, for an option, for something of peers, and for a widget to go.
use Rattle.std.proofs.Common.{◌≡◌, ◌∙◌, ℕ, ◌^◌, ◌++◌, Bool, true, false, List, [], ◌∷◌, Ok, Option, None, Some, arith, codes, refl, sym, true≢false}
use Rattle.std.specs.Fmt.{decimal}
use Rattle.std.specs.Prelude.{IsTrue}
use Rattle.std.proofs.lemmas.Bool.{lt-ltb}
use Rattle.rt_stamps.specs.Words.{Word}
use Rattle.rt_requests.specs.declared.options.WidgetOption.{WidgetOption}
use Rattle.rt_requests.specs.declared.options.WidgetOption.TheVariants.{Undo, AutoSeparators}
use Rattle.rt_requests.specs.OptionWords.{are_pairs, max_undo_in, option_word, truth_given}
use Rattle.rt_requests.specs.declared.destroying.Destroy.{Destroy}
use Rattle.rt_requests.specs.declared.limits.Limit.{Limit}
use Rattle.rt_requests.specs.declared.limits.Limit.TheVariants.{Absent, Line, PastEveryLine}
use Rattle.rt_requests.specs.declared.options.NamedOption.{NamedOption}
use Rattle.rt_requests.specs.declared.options.NamedOption.TheVariants.{Shared, MaxUndo, StartLine, EndLine}
use Rattle.rt_requests.specs.declared.settings.WidgetSettings.{WidgetSettings}
use Rattle.rt_requests.specs.declared.peers.PeerRequest.{PeerRequest}
use Rattle.rt_requests.specs.declared.peers.PeerRequest.TheVariants.{Create, Names}
use Rattle.rt_requests.specs.LimitWords.{limit_of}
use Rattle.rt_requests.specs.PeerWords.{CanBeAskedOfPeers, asked_destroy, asked_of_peers}
use Rattle.rt_requests.specs.SettingWords.{SettingsFit, LimitFits, IsMaxUndo, asked_named_option, asked_of_pairs, asked_settings, can_all_be_set, limit_in, sets_some}
use Rattle.rt_requests.proofs.Groups.{groups_read}
use Rattle.rt_requests.proofs.Numbers.{decimal_read}
use Rattle.rt_requests.proofs.ReadSettings.{named_word, or_none}

-- LIMITS

abbrev limit_word : Limit → Word
limit_word Absent = []
limit_word (Line number) = decimal number
limit_word PastEveryLine = decimal (2 ^ 64)

limit_read : (limit : Limit) → LimitFits (Some limit) → limit_of (limit_word limit) ≡ Some limit
limit_read Absent k = refl
limit_read (Line number) k = decimal_read number (omega (arith, k)) ∙ rw (lt-ltb number (2 ^ 64) k) refl
limit_read PastEveryLine k = decimal_read (2 ^ 64) (omega arith)

-- SETTINGS

abbrev pub truth_word : Bool → Word
truth_word false = codes "0"
truth_word true = codes "1"

-- an option with its value, where it is given one
abbrev flag_words : WidgetOption → Option Bool → List Word
flag_words option None = []
flag_words option (Some value) = option_word option ∷ truth_word value ∷ []

abbrev limit_words : Word → Option Limit → List Word
limit_words option None = []
limit_words option (Some limit) = option ∷ limit_word limit ∷ []

abbrev most_words : Option ℕ → List Word
most_words None = []
most_words (Some most) = codes "-maxundo" ∷ decimal most ∷ []

abbrev words_by : Option Bool → Option Bool → Option ℕ → Option Limit → Option Limit → List Word
words_by undo separators most start ends =
    flag_words Undo undo
    ++ (flag_words AutoSeparators separators ++ (most_words most ++ (limit_words (codes "-startline") start ++ limit_words (codes "-endline") ends)))

abbrev settings_by : Option Bool → Option Bool → Option ℕ → Option Limit → Option Limit → WidgetSettings
settings_by undo separators most start ends =
    record { shared = record { undo = undo; auto_separators = separators; max_undo = most }; start_line = start; end_line = ends }

abbrev pub settings_words : WidgetSettings → List Word
settings_words settings =
    words_by settings.shared.undo settings.shared.auto_separators settings.shared.max_undo settings.start_line settings.end_line

-- what pairs of words say
record Says (words : List Word) (undo separators : Option Bool) (most : Option ℕ) (start ends : Option Limit) : Type 0 where
  pub pairs : are_pairs words ≡ true
  pub sound : can_all_be_set words ≡ true
  pub is_undo : truth_given Undo words ≡ undo
  pub is_separators : truth_given AutoSeparators words ≡ separators
  pub is_most : max_undo_in words ≡ most
  pub is_start : limit_in (codes "-startline") words ≡ start
  pub is_end : limit_in (codes "-endline") words ≡ ends

nothing_said : Says [] None None None None None
nothing_said = record { pairs = refl; sound = refl; is_undo = refl; is_separators = refl; is_most = refl; is_start = refl; is_end = refl }

end_said : (ends : Option Limit) → LimitFits ends → Says (limit_words (codes "-endline") ends) None None None None ends
end_said None k = nothing_said
end_said (Some limit) k = let read = limit_read limit k in
    record { pairs = refl; sound = rw read refl; is_undo = refl; is_separators = refl; is_most = refl; is_start = refl; is_end = read }

start_said : (start ends : Option Limit) (words : List Word) → LimitFits start → Says words None None None None ends
    → Says (limit_words (codes "-startline") start ++ words) None None None start ends
start_said None ends words k h = h
start_said (Some limit) ends words k h = let read = limit_read limit k in record {
  pairs = h.pairs;
  sound = rw (read, h.sound) refl;
  is_undo = rw h.is_undo refl;
  is_separators = rw h.is_separators refl;
  is_most = rw h.is_most refl;
  is_start = rw (h.is_start, read) refl;
  is_end = rw h.is_end (or_none ends);
}

most_said : (most : Option ℕ) (start ends : Option Limit) (words : List Word) → IsMaxUndo most → Says words None None None start ends
    → Says (most_words most ++ words) None None most start ends
most_said None start ends words k h = h
most_said (Some most) start ends words k h = let read = groups_read most k in record {
  pairs = h.pairs;
  sound = rw (read, h.sound) refl;
  is_undo = rw h.is_undo refl;
  is_separators = rw h.is_separators refl;
  is_most = rw (h.is_most, read) refl;
  is_start = rw h.is_start (or_none start);
  is_end = rw h.is_end (or_none ends);
}

separators_said : (separators : Option Bool) (most : Option ℕ) (start ends : Option Limit) (words : List Word) → Says words None None most start ends
    → Says (flag_words AutoSeparators separators ++ words) None separators most start ends
separators_said None most start ends words h = h
separators_said (Some false) most start ends words h = record {
  pairs = h.pairs;
  sound = rw h.sound refl;
  is_undo = rw h.is_undo refl;
  is_separators = rw h.is_separators refl;
  is_most = rw h.is_most (or_none most);
  is_start = rw h.is_start (or_none start);
  is_end = rw h.is_end (or_none ends);
}
separators_said (Some true) most start ends words h = record {
  pairs = h.pairs;
  sound = rw h.sound refl;
  is_undo = rw h.is_undo refl;
  is_separators = rw h.is_separators refl;
  is_most = rw h.is_most (or_none most);
  is_start = rw h.is_start (or_none start);
  is_end = rw h.is_end (or_none ends);
}

undo_said : (undo separators : Option Bool) (most : Option ℕ) (start ends : Option Limit) (words : List Word) → Says words None separators most start ends
    → Says (flag_words Undo undo ++ words) undo separators most start ends
undo_said None separators most start ends words h = h
undo_said (Some false) separators most start ends words h = record {
  pairs = h.pairs;
  sound = rw h.sound refl;
  is_undo = rw h.is_undo refl;
  is_separators = rw h.is_separators (or_none separators);
  is_most = rw h.is_most (or_none most);
  is_start = rw h.is_start (or_none start);
  is_end = rw h.is_end (or_none ends);
}
undo_said (Some true) separators most start ends words h = record {
  pairs = h.pairs;
  sound = rw h.sound refl;
  is_undo = rw h.is_undo refl;
  is_separators = rw h.is_separators (or_none separators);
  is_most = rw h.is_most (or_none most);
  is_start = rw h.is_start (or_none start);
  is_end = rw h.is_end (or_none ends);
}

all_said : (undo separators : Option Bool) (most : Option ℕ) (start ends : Option Limit) → IsMaxUndo most → LimitFits start → LimitFits ends
    → Says (words_by undo separators most start ends) undo separators most start ends
all_said undo separators most start ends m k l =
    undo_said undo separators most start ends _ (separators_said separators most start ends _
    (most_said most start ends _ m (start_said start ends _ k (end_said ends l))))

pairs_asked : (undo separators : Option Bool) (most : Option ℕ) (start ends : Option Limit) (words : List Word) → Says words undo separators most start ends
    → asked_of_pairs words ≡ Ok (settings_by undo separators most start ends)
pairs_asked undo separators most start ends words h = rw (h.pairs, h.sound, h.is_undo, h.is_separators, h.is_most, h.is_start, h.is_end) refl

pub all_asked : (settings : WidgetSettings) → SettingsFit settings → asked_of_pairs (settings_words settings) ≡ Ok settings
all_asked settings k =
    pairs_asked settings.shared.undo settings.shared.auto_separators settings.shared.max_undo settings.start_line settings.end_line _
    (all_said settings.shared.undo settings.shared.auto_separators settings.shared.max_undo settings.start_line settings.end_line k.2 k.0 k.1)

-- where something is set there is a pair
some_by : (undo separators : Option Bool) (most : Option ℕ) (start ends : Option Limit) → IsTrue (sets_some (settings_by undo separators most start ends))
    → asked_settings (words_by undo separators most start ends) ≡ asked_of_pairs (words_by undo separators most start ends)
some_by (Some undo) separators most start ends h = refl
some_by None (Some separators) most start ends h = refl
some_by None None (Some most) start ends h = refl
some_by None None None (Some start) ends h = refl
some_by None None None None (Some ends) h = refl
some_by None None None None None h = absurd (true≢false (sym h))

pub settings_asked : (settings : WidgetSettings) → SettingsFit settings → IsTrue (sets_some settings) → asked_settings (settings_words settings) ≡ Ok settings
settings_asked settings k s =
    some_by settings.shared.undo settings.shared.auto_separators settings.shared.max_undo settings.start_line settings.end_line s ∙ all_asked settings k

pub option_asked : (option : NamedOption) → asked_named_option (named_word option ∷ []) ≡ Ok option
option_asked (Shared Undo) = refl
option_asked (Shared AutoSeparators) = refl
option_asked MaxUndo = refl
option_asked StartLine = refl
option_asked EndLine = refl

-- PEERS AND LINES

abbrev pub peer_words : PeerRequest → List Word
peer_words (Create path settings) = codes "create" ∷ path ∷ settings_words settings
peer_words Names = codes "names" ∷ []

pub peer_asked : (request : PeerRequest) → CanBeAskedOfPeers request → asked_of_peers (peer_words request) ≡ Ok request
peer_asked (Create path settings) h = rw (all_asked settings h.1, h.0) refl
peer_asked Names h = refl

pub line_asked : (request : Destroy) → (words : List Word) × (asked_destroy words ≡ Ok request)
line_asked request = (request.path ∷ [], refl)
