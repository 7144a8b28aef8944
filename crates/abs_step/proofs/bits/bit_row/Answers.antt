use Rattle.std.proofs.Common.{◌≡◌, ◌∙◌, refl, ap, subst, Bool, true, false}
use Rattle.std.specs.Prelude.{if◌then◌else◌}
use Rattle.bit_domain.specs.declared.bits.Tri.TheVariants.{Zero, One}
use Rattle.local_rules.specs.Registers.{tri_of_bool}
use Rattle.abs_state.specs.Values.{untagged}
use Rattle.avr_model.specs.Effects.{port}
use Rattle.bit_domain.specs.TriByte.{byte_with}
use Rattle.local_rules.specs.Raw.{Raw}
use Rattle.local_rules.specs.Reads.{kept_bits}
use Rattle.local_rules.specs.Writes.{written_at}
use Rattle.abs_step.specs.Adding.{Adds}
use Rattle.abs_step.proofs.bits.bit_row.Goals as goal
use Rattle.local_rules.specs.Writes.{write_at}

tri_is : (b : Bool) → tri_of_bool b ≡ (if b then One else Zero)
tri_is true = refl
tri_is false = refl

pub returns : goal.returns
returns c =
    let site = c.args.site.now in
    let at = c.port-address.ensures ∙ ap (port site.device) c.widened.ensures in
    let kept = c.kept_bits.ensures ∙ ap (kept_bits site.device site.key.now.masks) at in
    let bits = c.with-bits.ensures ∙ (λ p. byte_with (kept p) (c.get.ensures.value p) ((c.tri_of.ensures ∙ tri_is c.args.on) p)) in
    let value = c.untagged.ensures ∙ ap untagged bits in
    subst (λ (r : Raw). Adds c.args.nodes.now c.written_at.new.nodes c.written_at.result r)
    (λ p. written_at (write_at site.device site.key.now.pc (c.next.ensures p) site.state.now (value p)) false (at p)) c.written_at.ensures
