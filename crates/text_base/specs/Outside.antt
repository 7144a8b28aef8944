-- What files and sinks that a caller passes in report of themselves.
use Rattle.std.specs.Prelude.{ℕ, ◌+◌, ◌-◌, ◌^◌, ◌≡◌, ◌≤◌, ◌<◌, min, List, ◌++◌, length, ⊤, Option, Some, None, take}

-- the bytes under a name, as far as the object reports them
pub data Held : Type 0 where
  Untold : Held
  Missing : Held
  Bytes : (bytes : List ℕ) → Held

-- the name of the last read that failed, if the object reports it
pub data Blamed : Type 0 where
  Unsaid : Blamed
  Nobody : Blamed
  Name : (name : List ℕ) → Blamed

-- the greatest count of faults; the count stops there
abbrev pub greatest_count : ℕ
greatest_count = 2 ^ 64 - 1

-- one more fault, up to the greatest count
abbrev pub one_more : ℕ → ℕ
one_more count = min (count + 1) greatest_count

-- the count rose between two moments, or is at its greatest value
abbrev pub Rose : ℕ → ℕ → Type 0
Rose before after = one_more before ≤ after

-- the object reports that nothing is held
abbrev pub TellsMissing : Held → Type 0
TellsMissing Missing = ⊤
TellsMissing _ = ⊥

-- if the held bytes are reported, they are these
abbrev pub Gives : Held → List ℕ → Type 0
Gives Untold bytes = ⊤
Gives Missing bytes = ⊥
Gives (Bytes held) bytes = bytes ≡ held

-- more than `cap` bytes are held, or the held bytes are not reported
abbrev pub MayExceed : Held → ℕ → Type 0
MayExceed Untold cap = ⊤
MayExceed Missing cap = ⊥
MayExceed (Bytes held) cap = cap < length held

-- the object reports more than `cap` bytes
abbrev pub Exceeds : Held → ℕ → Type 0
Exceeds Untold cap = ⊥
Exceeds Missing cap = ⊥
Exceeds (Bytes held) cap = cap < length held

-- the last read that failed had this name, or the name is not reported
abbrev pub IsBlamed : Blamed → List ℕ → Type 0
IsBlamed Unsaid name = ⊤
IsBlamed Nobody name = ⊥
IsBlamed (Name blamed) name = blamed ≡ name

-- the written bytes with these appended, if the written bytes are reported
abbrev pub grown : Option (List ℕ) → List ℕ → Option (List ℕ)
grown None text = None
grown (Some before) text = Some (before ++ text)

-- between two moments a prefix of the text was written, and nothing else
abbrev pub GrewByPrefix : Option (List ℕ) → Option (List ℕ) → List ℕ → Type 0
GrewByPrefix before after text = (n : ℕ) × (after ≡ grown before (take n text))
