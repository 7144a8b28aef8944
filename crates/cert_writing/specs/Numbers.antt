-- The number of an instance in a list.
use Rattle.std.specs.Prelude.{ℕ, ◌≡◌, ◌≤◌, List, slice_get, Some}
use Rattle.node_keys.specs.declared.keys.InstKey.{InstKey}
use Rattle.certificate.specs.declared.instance.Inst.{Inst}

-- the instance of this number has this key
abbrev pub IsAt : List Inst → InstKey → ℕ → Type 0
IsAt insts key j = (x : Inst) × (slice_get insts j ≡ Some x) × (x.key ≡ key)

-- no instance from this number on has this key
abbrev pub IsNowhereFrom : List Inst → InstKey → ℕ → Type 0
IsNowhereFrom insts key from = (j : ℕ) → from ≤ j → IsAt insts key j → ⊥
