-- The outcome of reading files. A files object's count of faults goes from `before` to `after`.
use Rattle.std.specs.Prelude.{ℕ, ◌≡◌, List, [], Option, Some, None, ⊤, Result, MatchResult}
use Rattle.std.specs.Option.{option_map}
use Rattle.std.specs.Global.{Vec}
use Rattle.text_base.specs.Outside.{Held, Blamed, Rose, IsBlamed}
use Rattle.commands.specs.Commands.{Command, Firmware, Second, Assumptions, name_of}
use Rattle.replies.specs.declared.status.Status.TheVariants as exit
use Rattle.replies.specs.Texts.{too_long, read_fault}
use Rattle.replies.specs.Reading as read
use Rattle.replies.specs.Reading.{Seen, Unread, Whole, Long, Agrees, AllAgree, IsFirstFailed}
use Rattle.replies.specs.Reply.{Reply, Says, IsReply}
use Rattle.stack_core.specs.declared.reading.Unread.{Unread as Unfetched}
use Rattle.stack_core.specs.declared.reading.Unread.TheVariants as unread
use Rattle.stack_core.specs.declared.reading.Contents.{Contents}

-- ---- one file

abbrev pub IsFetched : Held → ℕ → ℕ → ℕ → List ℕ → Type 0
IsFetched held cap before after bytes = Agrees held cap (Whole bytes) × (after ≡ before)

abbrev pub IsUnfetched : Held → ℕ → List ℕ → ℕ → ℕ → Blamed → Unfetched → Type 0
IsUnfetched held cap name before after blamed (unread.Long n) = (n.now ≡ name) × Agrees held cap Long × (after ≡ before)
IsUnfetched held cap name before after blamed (unread.Failed n) = (n.now ≡ name) × Rose before after × IsBlamed blamed name
IsUnfetched held cap name before after blamed unread.Memory = after ≡ before

-- ---- a file that a command may have

-- no bytes, if the command has no such file
abbrev pub AreFetched : (List ℕ → Held) → ℕ → ℕ → ℕ → Option (List ℕ) → List ℕ → Type 0
AreFetched holds cap before after None bytes = (bytes ≡ []) × (after ≡ before)
AreFetched holds cap before after (Some name) bytes = IsFetched (holds name) cap before after bytes

abbrev pub IsFetchedUnder : (List ℕ → Held) → ℕ → ℕ → ℕ → Option (List ℕ) → Option (List ℕ) → Type 0
IsFetchedUnder holds cap before after None None = after ≡ before
IsFetchedUnder holds cap before after None (Some bytes) = ⊥
IsFetchedUnder holds cap before after (Some name) None = ⊥
IsFetchedUnder holds cap before after (Some name) (Some bytes) = IsFetched (holds name) cap before after bytes

abbrev pub IsUnfetchedUnder : (List ℕ → Held) → ℕ → ℕ → ℕ → Blamed → Option (List ℕ) → Unfetched → Type 0
IsUnfetchedUnder holds cap before after blamed None e = ⊥
IsUnfetchedUnder holds cap before after blamed (Some name) e = IsUnfetched (holds name) cap name before after blamed e

abbrev pub bytes_of : Option (Vec ℕ) → Option (List ℕ)
bytes_of o = option_map (λ v. v.items) o

-- ---- a call that reads, by what its files object reports

-- what is held, the counts of faults before and after the call, and the name of the last read that failed
pub record FilesReport : Type 0 where
  pub holds : List ℕ → Held
  pub before : ℕ
  pub after : ℕ
  pub blamed : Blamed

abbrev pub reported : {F : Type 0} → (F → List ℕ → Held) → (F → ℕ) → (F → Blamed) → F → F → FilesReport
reported holds faults blamed old new = record { holds = holds old; before = faults old; after = faults new; blamed = blamed new }

-- the bytes of a file, or why they were not read
abbrev pub Fetches : FilesReport → List ℕ → ℕ → Result (Vec ℕ) Unfetched → Type 0
Fetches r name cap result =
    MatchResult result (λ v. IsFetched (r.holds name) cap r.before r.after v.items) (λ e. IsUnfetched (r.holds name) cap name r.before r.after r.blamed e)

-- those of a file that a command may have
abbrev pub FetchesBytes : FilesReport → Option (List ℕ) → ℕ → Result (Vec ℕ) Unfetched → Type 0
FetchesBytes r name cap result =
    MatchResult result (λ v. AreFetched r.holds cap r.before r.after name v.items) (λ e. IsUnfetchedUnder r.holds cap r.before r.after r.blamed name e)

-- the same, where no file differs from an empty one
abbrev pub FetchesOptional : FilesReport → Option (List ℕ) → ℕ → Result (Option (Vec ℕ)) Unfetched → Type 0
FetchesOptional r name cap result =
    MatchResult result (λ o. IsFetchedUnder r.holds cap r.before r.after name (bytes_of o)) (λ e. IsUnfetchedUnder r.holds cap r.before r.after r.blamed name e)

-- the answer to a file that is too long or could not be read; there is none if memory ran out
abbrev pub UnreadReply : Unfetched → Reply
UnreadReply (unread.Long n) status text = Says exit.TooLong (too_long n.now) status text
UnreadReply (unread.Failed n) status text = Says exit.ReadFault (read_fault n.now) status text
UnreadReply unread.Memory status text = ⊥

-- ---- all files of a command

-- bytes exist exactly if there is a name
abbrev pub GoTogether : Option (List ℕ) → Option (List ℕ) → Type 0
GoTogether None None = ⊤
GoTogether None (Some bytes) = ⊥
GoTogether (Some name) None = ⊥
GoTogether (Some name) (Some bytes) = ⊤

abbrev pub whole_of : Option (List ℕ) → Seen
whole_of None = Unread
whole_of (Some bytes) = Whole bytes

-- a file that the command does not have has no bytes
abbrev pub GoWith : Option (List ℕ) → List ℕ → Type 0
GoWith None bytes = bytes ≡ []
GoWith (Some name) bytes = ⊤

abbrev pub seen_under : Option (List ℕ) → List ℕ → Seen
seen_under None bytes = Unread
seen_under (Some name) bytes = Whole bytes

-- the contents that were read, in terms of the definitions
abbrev pub seen_whole : Command → List ℕ → List ℕ → Option (List ℕ) → read.Contents
seen_whole command firmware second list =
    record { firmware = seen_under (name_of command Firmware) firmware; second = seen_under (name_of command Second) second; assumptions = whole_of list }

-- These bytes are those of the command's files, and none for files that it does not have.
pub record AreBytes (command : Command) (holds : List ℕ → Held) (firmware second : List ℕ) (list : Option (List ℕ)) : Type 0 where
  pub agree : AllAgree command holds (seen_whole command firmware second list)
  pub with_firmware : GoWith (name_of command Firmware) firmware
  pub with_second : GoWith (name_of command Second) second
  pub with_list : GoTogether (name_of command Assumptions) list

abbrev pub IsGathered : Command → (List ℕ → Held) → ℕ → ℕ → Contents → Type 0
IsGathered command holds before after c = AreBytes command holds c.firmware.items c.second.items (bytes_of c.assumptions) × (after ≡ before)

-- the contents up to a file that is too long, and the answer to it
pub record IsTooLong (command : Command) (holds : List ℕ → Held) (name : List ℕ) : Type 0 where
  pub seen : read.Contents
  pub agrees : AllAgree command holds seen
  pub reply : IsReply command seen exit.TooLong (too_long name)

abbrev pub IsUngathered : Command → (List ℕ → Held) → ℕ → ℕ → Blamed → Unfetched → Type 0
IsUngathered command holds before after blamed (unread.Long n) = IsTooLong command holds n.now × (after ≡ before)
IsUngathered command holds before after blamed (unread.Failed n) = IsFirstFailed command holds blamed n.now × Rose before after
IsUngathered command holds before after blamed unread.Memory = after ≡ before

-- the contents of all files of a command, or why one was not read
abbrev pub Gathers : FilesReport → Command → Result Contents Unfetched → Type 0
Gathers r command result =
    MatchResult result (λ c. IsGathered command r.holds r.before r.after c) (λ e. IsUngathered command r.holds r.before r.after r.blamed e)
