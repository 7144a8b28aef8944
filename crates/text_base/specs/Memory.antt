-- Files and a sink in memory.
use Rattle.std.specs.Prelude.{ℕ, ◌+◌, ◌-◌, ◌^◌, ◌==◌, ◌&&◌, ◌++◌, min, List, length, take, Bool, Option, Some, None, Result, Ok, Err, nat_lt, if◌then◌else◌}
use Rattle.std.specs.Str.{bytes_eq}
use Rattle.std.specs.List.{list_any, find}
use Rattle.text_base.specs.Outside.{Held, Missing, Bytes, Blamed, Nobody, Name, one_more}
use Rattle.text_base.specs.declared.outside.FileFault.{FileFault}
use Rattle.text_base.specs.declared.outside.FileFault.TheVariants as read
use Rattle.text_base.specs.declared.outside.SinkFault.{SinkFault}
use Rattle.text_base.specs.declared.outside.SinkFault.TheVariants as put

-- a name and the bytes under it
pub record HeldFile : Type 0 where
  pub name : List ℕ
  pub bytes : List ℕ

-- files in memory: the files, the last added first; the number of reads so far; the numbers of the reads that must fail; the count of
-- failures; the name whose read failed last
pub record FileStore : Type 0 where
  pub files : List HeldFile
  pub calls : ℕ
  pub failing : List ℕ
  pub faults : ℕ
  pub blamed : Option (List ℕ)

abbrev pub held_of : Option HeldFile → Held
held_of None = Missing
held_of (Some file) = Bytes file.bytes

-- the bytes under a name: the file of that name that was added last
abbrev pub held_in : List HeldFile → List ℕ → Held
held_in files name = held_of (find (λ f. bytes_eq f.name name) files)

abbrev pub blamed_of : Option (List ℕ) → Blamed
blamed_of None = Nobody
blamed_of (Some name) = Name name

-- the number of the call is in the list
abbrev pub is_listed : ℕ → List ℕ → Bool
is_listed call calls = list_any (λ c. c == call) calls

-- the number of the next call
abbrev pub next_call : ℕ → ℕ
next_call call = min (call + 1) (2 ^ 64 - 1)

abbrev pub within : Held → ℕ → Result (List ℕ) FileFault
within (Bytes bytes) cap = if nat_lt cap (length bytes) then Err read.TooLong else Ok bytes
within _ cap = Err read.Failed

-- the answer of a read, unless memory runs out
abbrev pub read_answer : FileStore → List ℕ → ℕ → Result (List ℕ) FileFault
read_answer s name cap = if is_listed s.calls s.failing then Err read.Failed else within (held_in s.files name) cap

-- the files after a read with this answer
abbrev pub after_read : {X : Type 0} → FileStore → List ℕ → Result X FileFault → FileStore
after_read s name (Err read.Failed) = record s { calls = next_call s.calls; faults = one_more s.faults; blamed = Some name }
after_read s name _ = record s { calls = next_call s.calls }

-- a sink in memory: the bytes taken; the number of puts so far; the numbers of the puts that must fail; the puts that are cut short, each
-- with the most bytes that it takes; the count of failures
pub record Taken : Type 0 where
  pub bytes : List ℕ
  pub calls : ℕ
  pub failing : List ℕ
  pub shorts : List (ℕ × ℕ)
  pub faults : ℕ

-- the limit of a put: the one that was listed last
abbrev pub limit_of : ℕ → List (ℕ × ℕ) → Option (ℕ × ℕ)
limit_of call shorts = find (λ short. short.0 == call) shorts

abbrev pub limited : Option (ℕ × ℕ) → ℕ → ℕ
limited None offered = offered
limited (Some short) offered = min short.1 offered

-- the answer of a put of this many bytes, unless memory runs out
abbrev pub put_answer : Taken → ℕ → Result ℕ SinkFault
put_answer t offered = if is_listed t.calls t.failing then Err put.Failed else Ok (limited (limit_of t.calls t.shorts) offered)

-- the count of failures after `taken` of this many bytes were taken
abbrev pub faults_after : ℕ → ℕ → ℕ → ℕ
faults_after faults taken offered = if taken == 0 && nat_lt 0 offered then one_more faults else faults

-- the sink after a put with this answer
abbrev pub after_put : Taken → List ℕ → Result ℕ SinkFault → Taken
after_put t piece (Ok n) = record t { bytes = t.bytes ++ take n piece; calls = next_call t.calls; faults = faults_after t.faults n (length piece) }
after_put t piece (Err put.Failed) = record t { calls = next_call t.calls; faults = one_more t.faults }
after_put t piece (Err put.Memory) = record t { calls = next_call t.calls }
