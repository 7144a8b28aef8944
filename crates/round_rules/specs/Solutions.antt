-- The answer of the analysis.
use Rattle.std.specs.Prelude.{ℕ, ◌≡◌, ◌<◌, ◌≤◌, ◌↔◌, ⊤, true, false, List, Option, Some, None, Contains}
use Rattle.std.specs.List.{All, slice_get}
use Rattle.avr_model.specs.declared.assumption.Entry.{Entry}
use Rattle.avr_model.specs.declared.device.Device.{Device}
use Rattle.avr_model.specs.Devices.{device_of}
use Rattle.vector_table.specs.Entries.{fits_device}
use Rattle.node_keys.specs.declared.keys.InstKey.{InstKey}
use Rattle.node_keys.specs.Keys.{root_inst}
use Rattle.edge_rules.specs.Expansion.{IsFilled}
use Rattle.certificate.specs.Versions.{written_version}
use Rattle.certificate.specs.Claims.{Claim, IsClaim}
use Rattle.certificate.specs.Insts.{inst_keys, rank_in, need_in}
use Rattle.certificate.specs.Valid.{IsSound}
use Rattle.round_rules.specs.declared.refusal.Refusal.{Refusal}
use Rattle.round_rules.specs.declared.refusal.Refusal.TheVariants.{Misfit, Spent, Memory}
use Rattle.round_rules.specs.Families.{Family, nodes_of, FamilyHasInst}
use Rattle.round_rules.specs.Rounds.{AreRanks, AreNeeds}
use Rattle.round_rules.specs.Refusals.{IsSolved, IsRefused, GoesBeyond}
use Rattle.round_rules.specs.Sparse.{AreSparse}
use Rattle.local_rules.specs.Site.{Task}

-- the certificate meets all conditions but that on the schedule
pub record IsShown (task : Task) (c : Claim) : Type 0 where
  pub claim : IsClaim c
  pub sound : IsSound task c

-- The certificate of a solved family, for the image's device and in the version for its assumptions: the family's nodes and instances,
-- least ranks and needs, and the root's need as bound. A node's state is left out exactly if its only edge determines it.
pub record IsSolution (task : Task) (f : Family) (c : Claim) : Type 0 where
  pub device : c.device ≡ device_of task.flash
  pub version : c.version ≡ written_version task.assumptions
  pub expands : IsFilled task c.nodes (nodes_of f)
  pub sparse : AreSparse task (nodes_of f) c.nodes
  pub instances : (inst : InstKey) → Contains (inst_keys c.instances) inst ↔ FamilyHasInst f inst
  pub ranks : AreRanks task f (rank_in c.instances)
  pub least_ranks : (rank : InstKey → ℕ) → AreRanks task f rank → (inst : InstKey) → rank_in c.instances inst ≤ rank inst
  pub needs : AreNeeds task f (need_in c.instances)
  pub least_needs : (need : InstKey → ℕ) → AreNeeds task f need → (inst : InstKey) → need_in c.instances inst ≤ need inst
  pub bound : c.bound ≡ need_in c.instances root_inst
  pub assumptions : c.assumptions ≡ task.assumptions
  pub unwitnessed : c.witness ≡ None

-- the budget suffices for family n
abbrev pub IsWithinBudget : Option ℕ → ℕ → Type 0
IsWithinBudget None n = ⊤
IsWithinBudget (Some steps) n = n ≤ steps

-- each entry is one of the device's lists
abbrev pub AllFit : Device → List Entry → Type 0
AllFit device A = All (λ e. fits_device device e ≡ true) A

-- The assumptions fit the device, the rounds end within the budget at a solved family, and this is its certificate.
pub record IsAnswer (task : Task) (steps : Option ℕ) (c : Claim) : Type 0 where
  pub fit : AllFit (device_of task.flash) task.assumptions
  pub number : ℕ
  pub family : Family
  pub within : IsWithinBudget steps number
  pub solved : IsSolved task number family
  pub solution : IsSolution task family c

-- The rounds end within the budget with this refusal.
pub record IsRefusal (task : Task) (steps : Option ℕ) (r : Refusal) : Type 0 where
  pub number : ℕ
  pub within : IsWithinBudget steps number
  pub refused : IsRefused task number r

-- The rounds give no certificate: the one refusal, a spent budget, or running out of memory, which says nothing.
abbrev pub AreRoundsWithout : Task → Option ℕ → Refusal → Type 0
AreRoundsWithout task steps (Spent n) = (steps ≡ Some n) × GoesBeyond task n
AreRoundsWithout task steps Memory = ⊤
AreRoundsWithout task steps r = IsRefusal task steps r

-- the entry at this place, from 0, is in no list of the device, and each entry before it is in one
pub record IsFirstMisfit (device : Device) (A : List Entry) (at : ℕ) : Type 0 where
  pub entry : Entry
  pub is : slice_get A at ≡ Some entry
  pub misfit : fits_device device entry ≡ false
  pub before : (i : ℕ) (e : Entry) → slice_get A i ≡ Some e → i < at → fits_device device e ≡ true

-- The answer without a certificate: the first entry that does not fit the device; if all fit, the one refusal or a spent budget; or running
-- out of memory, which says nothing.
abbrev pub IsWhyNot : Task → Option ℕ → Refusal → Type 0
IsWhyNot task steps (Misfit at) = IsFirstMisfit (device_of task.flash) task.assumptions at
IsWhyNot task steps Memory = ⊤
IsWhyNot task steps r = AllFit (device_of task.flash) task.assumptions × AreRoundsWithout task steps r
