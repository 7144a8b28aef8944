-- Allowances: needs with slack, which stay valid while notes grow.
use Rattle.std.specs.Prelude.{ℕ, ◌+◌, ◌≡◌, ◌≤◌, Bool, true, List, Option, Some, Contains}
use Rattle.std.specs.Map.{lookup}
use Rattle.node_keys.specs.declared.keys.InstKey.{InstKey}
use Rattle.node_keys.specs.Keys.{root_inst}
use Rattle.node_keys.specs.Order.{same_inst}
use Rattle.round_nesting.specs.declared.allowances.Allowance.{Allowance}
use Rattle.round_nesting.specs.Nestings.{Spot, Entrance}
use Rattle.round_nesting.specs.Exits.{Exited, AreListed}
use Rattle.round_nesting.specs.Drawn.{AreOthersApart}
use Rattle.round_nesting.specs.declared.allowances.Allowances.{Allowances}
use Rattle.round_nesting.specs.declared.exits.Exits.{Exits}

abbrev pub Granted : Type 0
Granted = List (InstKey × Allowance)

-- the allowance of an instance, if it has one
abbrev pub allowed : Granted → InstKey → Option Allowance
allowed gs inst = lookup (same_inst inst) gs

-- the root's need is at most this many bytes
pub record AllowsRoot (gs : Granted) (size : ℕ) : Type 0 where
  pub most : Allowance
  pub is : allowed gs root_inst ≡ Some most
  pub fits : most.need ≤ size

-- the allowance of the spot's instance covers its offset, with its floor
pub record AllowsSpot (gs : Granted) (s : Spot) : Type 0 where
  pub most : Allowance
  pub is : allowed gs s.inst ≡ Some most
  pub fits : s.offset ≤ most.floor
  pub low : most.floor ≤ most.need

-- the allowances of both instances cover the entrance, if a return address takes `back` bytes
pub record AllowsEntrance (back : ℕ) (gs : Granted) (x : Entrance) : Type 0 where
  pub from : Allowance
  pub into : Allowance
  pub is_from : allowed gs x.from ≡ Some from
  pub is_into : allowed gs x.into ≡ Some into
  pub need : x.offset + back + into.need ≤ from.need

-- the allowances cover all spots and entrances
pub record CoversNoted (back : ℕ) (gs : Granted) (spots : List Spot) (entrances : List Entrance) : Type 0 where
  pub each_spot : (s : Spot) → Contains spots s → AllowsSpot gs s
  pub each_entrance : (x : Entrance) → Contains entrances x → AllowsEntrance back gs x

-- each allowance stays
abbrev pub AreAllowancesKept : Granted → Granted → Type 0
AreAllowancesKept gs new = (inst : InstKey) (most : Allowance) → allowed gs inst ≡ Some most → allowed new inst ≡ Some most

-- the root is kept apart from the other instances, the entrances are listed, and if `covered`, the allowances cover all notes
pub record IsCoverKept (covered : Bool) (back : ℕ) (gs : Granted) (es : Exited) (others : List InstKey) (spots : List Spot) (entrances : List Entrance) : Type 0 where
  pub apart : AreOthersApart others
  pub listed : AreListed es entrances
  pub covers : covered ≡ true → CoversNoted back gs spots entrances

-- the same, of allowances and of the exits that list the entrances
abbrev pub AreNotesKept : Bool → Allowances → Exits → List InstKey → List Spot → List Entrance → Type 0
AreNotesKept covered allowances exits others spots entrances = IsCoverKept covered allowances.back allowances.map.entries exits.map.entries others spots entrances
