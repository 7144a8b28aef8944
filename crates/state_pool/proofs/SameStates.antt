-- States by their parts.
use Rattle.std.proofs.Common.{◌≡◌, refl, ap, subst, rules, Bool, true, false, Option}
use Rattle.std.specs.Prelude.{◌==◌}
use Rattle.std.specs.Bool.{Decides, beq}
use Rattle.std.proofs.lemmas.Bool.Decides.{Decides-eqb, Decides-and, Decides-like}
use Rattle.bit_domain.specs.declared.bytes.TriByte.{TriByte}
use Rattle.bit_domain.proofs.AllLaws.{bytes_are_their_bits}
use Rattle.bit_domain.specs.contracts.bytes.TriBytePartialEq.TheImpl as bits
use Rattle.sp_domain.specs.declared.tags.Tag.{Tag}
use Rattle.sp_domain.specs.declared.tags.CarryTag.{CarryTag}
use Rattle.sp_domain.specs.contracts.tags.TagPartialEq.TheImpl as tags
use Rattle.sp_domain.specs.contracts.tags.CarryTagPartialEq.TheImpl as carries
use Rattle.pair_domain.specs.declared.facts.PairFacts.{PairFacts}
use Rattle.pair_domain.specs.Facts.{AreFactsKept, IsKnownWithin}
use Rattle.pair_domain.proofs.AllLaws.{known_is_ordered}
use Rattle.abs_state.specs.declared.values.AbsByte.{AbsByte}
use Rattle.abs_state.specs.declared.values.AbsFlags.{AbsFlags}
use Rattle.abs_state.specs.contracts.values.AbsBytePartialEq.TheImpl as values
use Rattle.abs_state.specs.contracts.values.AbsFlagsPartialEq.TheImpl as flags
use Rattle.abs_state.specs.declared.state.AbsState.{AbsState}

same_tag : (s t : Tag) → Decides (tags.ghosts.eq s t) (s ≡ t)
same_tag s t = search rules

same_bits : (s t : TriByte) → Decides (bits.ghosts.eq s t) (s ≡ t)
same_bits s t =
    Decides-like (bits.ghosts.eq s t) (λ p. bytes_are_their_bits.from_fields s t p.0 p.1) (λ e. (ap (λ x. x.known) e, ap (λ x. x.value) e))
    (Decides-and (s.known == t.known) (s.value == t.value) (Decides-eqb s.known t.known) (Decides-eqb s.value t.value))

pub same_value : (v w : AbsByte) → Decides (values.ghosts.eq v w) (v ≡ w)
same_value v w =
    Decides-like (values.ghosts.eq v w)
    (λ p i. record { tag = p.0 i; bits = p.1.0 i; low = p.1.1.0 i; high = p.1.1.1 i })
    (λ e. (ap (λ x. x.tag) e, (ap (λ x. x.bits) e, (ap (λ x. x.low) e, ap (λ x. x.high) e))))
    (Decides-and (tags.ghosts.eq v.tag w.tag) _ (same_tag v.tag w.tag)
    (Decides-and (bits.ghosts.eq v.bits w.bits) _ (same_bits v.bits w.bits)
    (Decides-and (v.low == w.low) (v.high == w.high) (Decides-eqb v.low w.low) (Decides-eqb v.high w.high))))

same_bool : (a b : Bool) → Decides (beq a b) (a ≡ b)
same_bool true true = (λ e. refl, λ e. refl)
same_bool true false = (λ e. absurd (cc), λ e. absurd (cc))
same_bool false true = (λ e. absurd (cc), λ e. absurd (cc))
same_bool false false = (λ e. refl, λ e. refl)

same_carry : (s t : CarryTag) → Decides (carries.ghosts.eq s t) (s ≡ t)
same_carry s t = search rules

pub same_flags : (f g : AbsFlags) → Decides (flags.ghosts.eq f g) (f ≡ g)
same_flags f g =
    Decides-like (flags.ghosts.eq f g)
    (λ p i. record { entry = p.0 i; bits = p.1.0 i; carry = p.1.1 i })
    (λ e. (ap (λ x. x.entry) e, (ap (λ x. x.bits) e, ap (λ x. x.carry) e)))
    (Decides-and (beq f.entry g.entry) _ (same_bool f.entry g.entry)
    (Decides-and (bits.ghosts.eq f.bits g.bits) _ (same_bits f.bits g.bits) (same_carry f.carry g.carry)))

-- facts that are within each other are equal
pub same_facts : (x y : Option PairFacts) → AreFactsKept x → AreFactsKept y → (IsKnownWithin x y × IsKnownWithin y x → x ≡ y) × (x ≡ y → IsKnownWithin x y × IsKnownWithin y x)
same_facts x y a b = (
  (λ le. known_is_ordered.both x y a.sixteen b.sixteen a.near b.near le.0 le.1),
  (λ e. (subst (IsKnownWithin x) e (known_is_ordered.same x), subst (λ (w : Option PairFacts). IsKnownWithin w x) e (known_is_ordered.same x))),
)

pub state_is : (s t : AbsState) → s.registers ≡ t.registers → s.flags ≡ t.flags → s.slots ≡ t.slots → s.facts ≡ t.facts → s ≡ t
state_is s t registers flags slots facts i = record { registers = registers i; flags = flags i; slots = slots i; facts = facts i }
