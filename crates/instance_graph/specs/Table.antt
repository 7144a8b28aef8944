-- The table of ranks and needs found so far.
use Rattle.std.specs.Prelude.{◌≡◌, ◌≢◌, ℕ, ◌+◌, ◌*◌, ◌<◌, ◌≤◌, List, length, map, take, Option, Some, None, Contains, slice_index_or, max, Bool, true, false}
use Rattle.std.specs.List.{sum_by}
use Rattle.instance_graph.specs.declared.found.Found.{Found}
use Rattle.instance_graph.specs.declared.graph.Entered.{Entered}
use Rattle.instance_graph.specs.declared.graph.GraphInst.{GraphInst}
use Rattle.instance_graph.specs.declared.graph.ClosedNode.{ClosedNode}
use Rattle.instance_graph.specs.Graph.{EntersAlong, HasClosedNode, AreGraphRanks, AreGraphNeeds}

-- the entry of instance i
abbrev pub at : List (Option Found) → ℕ → Option Found
at table i = slice_index_or table i None

-- f is the least above these offsets, and above the entries of all entered instances, if a return address takes `back` bytes
pub record IsOver (back : ℕ) (es : List Entered) (offsets : List ClosedNode) (table : List (Option Found)) (f : Found) : Type 0 where
  pub entered : (e : Entered) → Contains es e → (x : Found) × (at table e.into ≡ Some x) × (x.rank < f.rank) × (e.offset + back + x.need ≤ f.need)
  pub above : (p : ClosedNode) → Contains offsets p → p.offset ≤ f.need
  pub rank_least : (m : ℕ) → ((e : Entered) (x : Found) → Contains es e → at table e.into ≡ Some x → x.rank < m) → f.rank ≤ m
  pub need_least : (m : ℕ) → ((p : ClosedNode) → Contains offsets p → p.offset ≤ m) → ((e : Entered) (x : Found) → Contains es e → at table e.into ≡ Some x → e.offset + back + x.need ≤ m) → f.need ≤ m

-- f, raised above the cost of entering an instance with entry x
abbrev pub raised : ℕ → Found → Entered → Found → Found
raised back f e x = record { rank = max f.rank (x.rank + 1); need = max f.need (e.offset + back + x.need) }

-- ---- how many are found, and how many are missing

abbrev pub one_if_found : Option Found → ℕ
one_if_found None = 0
one_if_found (Some x) = 1

abbrev pub one_if_missing : Option Found → ℕ
one_if_missing None = 1
one_if_missing (Some x) = 0

abbrev pub count_found : List (Option Found) → ℕ
count_found table = sum_by one_if_found table

abbrev pub count_missing : List (Option Found) → ℕ
count_missing table = sum_by one_if_missing table

-- numbers small enough for the next step: an offset is at most 32,768, and a return address takes at most 255 bytes
abbrev pub IsSmall : Found → ℕ → Type 0
IsSmall x count = (x.rank < count) × (x.need ≤ 33023 * (x.rank + 1))

-- x has the least rank and need of instance i, and all instances that it enters have entries
pub record IsSettled (back : ℕ) (gs : List GraphInst) (table : List (Option Found)) (i : ℕ) (x : Found) : Type 0 where
  pub entered : (e : Entered) → EntersAlong gs i e → (y : Found) × (at table e.into ≡ Some y) × (y.rank < x.rank) × (e.offset + back + y.need ≤ x.need)
  pub offsets : (p : ClosedNode) → HasClosedNode gs i p → p.offset ≤ x.need
  pub rank_least : (rank : ℕ → ℕ) → AreGraphRanks gs rank → x.rank ≤ rank i
  pub need_least : (need : ℕ → ℕ) → AreGraphNeeds back gs need → x.need ≤ need i

-- all entries are settled and small
pub record IsSoundTable (back : ℕ) (gs : List GraphInst) (table : List (Option Found)) : Type 0 where
  pub same : length table ≡ length gs
  pub settled : (i : ℕ) (x : Found) → at table i ≡ Some x → IsSettled back gs table i x
  pub small : (i : ℕ) (x : Found) → at table i ≡ Some x → IsSmall x (count_found table)

-- an instance without entry enters one without entry
abbrev pub IsInstStuck : List GraphInst → List (Option Found) → ℕ → Type 0
IsInstStuck gs table i = (e : Entered) × EntersAlong gs i e × (at table e.into ≡ None)

-- a visit of instance i; `grew` says whether it added an entry
pub record IsVisit (back : ℕ) (gs : List GraphInst) (old : List (Option Found)) (i : ℕ) (grew : Bool) (new : List (Option Found)) : Type 0 where
  pub sound : IsSoundTable back gs new
  pub fewer : grew ≡ true → count_missing new < count_missing old
  pub kept : grew ≡ false → new ≡ old
  pub stuck : grew ≡ false → at new i ≡ None → IsInstStuck gs new i

-- visits of all instances below i
pub record ArePassed (back : ℕ) (gs : List GraphInst) (old : List (Option Found)) (i : ℕ) (grew : Bool) (new : List (Option Found)) : Type 0 where
  pub sound : IsSoundTable back gs new
  pub fewer : grew ≡ true → count_missing new < count_missing old
  pub kept : grew ≡ false → new ≡ old
  pub stuck : grew ≡ false → (j : ℕ) → j < i → at new j ≡ None → IsInstStuck gs new j

-- the rank and the need of an entry, 0 if there is none
abbrev pub rank_of : Option Found → ℕ
rank_of None = 0
rank_of (Some x) = x.rank

abbrev pub need_of : Option Found → ℕ
need_of None = 0
need_of (Some x) = x.need

-- the first i instances have entries, with these ranks and needs
pub record AreFound (table : List (Option Found)) (i : ℕ) (ranks needs : List ℕ) : Type 0 where
  pub all : (j : ℕ) → j < i → at table j ≢ None
  pub ranks_are : ranks ≡ map rank_of (take i table)
  pub needs_are : needs ≡ map need_of (take i table)

-- some instance has no entry
pub record IsInstMissing (table : List (Option Found)) : Type 0 where
  pub inst : ℕ
  pub inside : inst < length table
  pub none : at table inst ≡ None
