-- The entrances from each instance.
use Rattle.std.specs.Prelude.{◌≡◌, ◌⊎◌, List, [], Option, Contains, unwrap_or}
use Rattle.std.specs.Global.{Vec}
use Rattle.std.specs.Map.{lookup}
use Rattle.std.specs.Option.{option_map}
use Rattle.node_keys.specs.declared.keys.InstKey.{InstKey}
use Rattle.node_keys.specs.Order.{same_inst}
use Rattle.round_nesting.specs.Nestings.{Entrance}

abbrev pub Exited : Type 0
Exited = List (InstKey × Vec Entrance)

abbrev pub items_of : Option (Vec Entrance) → List Entrance
items_of o = unwrap_or (option_map (λ (v : Vec Entrance). v.items) o) []

-- the entrances from this instance
abbrev pub exits_at : Exited → InstKey → List Entrance
exits_at es inst = items_of (lookup (same_inst inst) es)

-- the entrance is listed
abbrev pub HasExit : Exited → Entrance → Type 0
HasExit es x = Contains (exits_at es x.from) x

-- what is listed stays listed
abbrev pub AreExitsKept : Exited → Exited → Type 0
AreExitsKept es new = (y : Entrance) → HasExit es y → HasExit new y

-- one more entrance is listed
abbrev pub IsExitAdded : Exited → Entrance → Exited → Type 0
IsExitAdded es x new = (y : Entrance) → HasExit es y ⊎ (y ≡ x) → HasExit new y

-- all these entrances are listed
abbrev pub AreListed : Exited → List Entrance → Type 0
AreListed es xs = (x : Entrance) → Contains xs x → HasExit es x
