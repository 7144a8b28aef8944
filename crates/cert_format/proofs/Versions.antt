-- The nodes that a text of each version can have.
use Rattle.std.proofs.Common.{List, [], ◌∷◌}
use Rattle.std.specs.List.{AllByRecursion}
use Rattle.sp_domain.specs.declared.tags.CarryTag.{CarryTag}
use Rattle.sp_domain.specs.declared.tags.CarryTag.TheVariants as carry
use Rattle.sp_domain.specs.declared.slots.Slot.{Slot}
use Rattle.sp_domain.specs.declared.slots.Slot.TheVariants.{Free, Guarded}
use Rattle.abs_state.specs.declared.values.AbsByte.{AbsByte}
use Rattle.edge_rules.specs.declared.seeded.NodeForm.{NodeForm}
use Rattle.edge_rules.specs.declared.seeded.NodeForm.TheVariants.{State, From}
use Rattle.edge_rules.specs.Expansion.{Seeds}
use Rattle.certificate.specs.declared.version.Version.{Version}
use Rattle.certificate.specs.declared.version.Version.TheVariants.{One, Two, Three}
use Rattle.certificate.specs.Versions.{ValueIsOf, SlotIsOf, HasNewCarries, CarryIsOf, FormIsOf, NodeIsOf, AreOf}

all_of : {A : Type 0} (P : A → Type 0) → ((x : A) → P x) → (xs : List A) → AllByRecursion P xs
all_of P each [] = tt
all_of P each (x ∷ xs) = (each x, all_of P each xs)

-- a version with each value and each carry tag

any_slot : (version : Version) → ((v : AbsByte) → ValueIsOf version v) → (s : Slot AbsByte) → SlotIsOf version s
any_slot version values Free = tt
any_slot version values (Guarded v) = values v

any_carry : (version : Version) → HasNewCarries version → (c : CarryTag) → CarryIsOf version c
any_carry version new carry.None = tt
any_carry version new (carry.Borrow j l) = tt
any_carry version new (carry.Sum j l) = new
any_carry version new (carry.Less r k) = new

any_form : (version : Version) → ((v : AbsByte) → ValueIsOf version v) → HasNewCarries version → (form : NodeForm) → FormIsOf version form
any_form version values new (State s) = record {
  registers = all_of (λ v. ValueIsOf version v) values s.registers;
  carry_tag = any_carry version new s.flags.carry;
  slots = all_of (λ t. SlotIsOf version t) (any_slot version values) s.slots;
}
any_form version values new (From m) = tt

pub each_of : (version : Version) (ns : Seeds) → AreOf version ns → AllByRecursion (λ n. NodeIsOf version n) ns
each_of One ns h = h
each_of Two ns h = all_of (λ n. NodeIsOf Two n) (λ n. record { key = tt; form = any_form Two (λ v. tt) tt n.1 }) ns
each_of Three ns h = all_of (λ n. NodeIsOf Three n) (λ n. record { key = tt; form = any_form Three (λ v. tt) tt n.1 }) ns

pub are_of : (version : Version) (ns : Seeds) → AllByRecursion (λ n. NodeIsOf version n) ns → AreOf version ns
are_of One ns h = h
are_of Two ns h = tt
are_of Three ns h = tt
