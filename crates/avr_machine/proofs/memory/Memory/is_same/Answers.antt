use Rattle.std.proofs.Common.{◌≡◌, ◌∙◌, sym, ap, arith, IsTrue, ◌↔◌, take}
use Rattle.std.proofs.lemmas.Bool.Decides.{Decides-eqb}
use Rattle.std.proofs.lemmas.Slice.Eq.{slice_eq-Decides}
use Rattle.avr_model.specs.State.{Memory}
use Rattle.avr_machine.proofs.Alike.{memory_is, same_bool}
use Rattle.avr_machine.proofs.memory.Memory.is_same.Goals as goal
use Rattle.avr_machine.proofs.memory.Memory.is_same.Goals.{then-self-other, else-self-other}

pub returns-then-eq : goal.returns-then-eq
returns-then-eq c =
    let both : (c.self.inside.below ≡ c.other.inside.below) × (take c.self.inside.size c.self.inside.bytes ≡ take c.other.inside.size c.other.inside.bytes) =
    elim c.if-self-other.branch [
      | then-self-other w ↦ (omega (arith, w.if-self-other.true), (slice_eq-Decides Decides-eqb _ _ _ w.eq.ensures).0 (sym w.value-is ∙ c.if-eq.true))
      | else-self-other w ↦ absurd (w.if-self-other.false ((Decides-eqb _ _).0 (sym w.value-is ∙ c.if-eq.true)))
    ] in
    let live : IsTrue c.eq-then-eq.result ↔ (take c.self.inside.size c.self.inside.live ≡ take c.other.inside.size c.other.inside.live) = slice_eq-Decides same_bool _ _ _ c.eq-then-eq.ensures in
    (λ yes. sym c.self.view_is ∙ memory_is _ _ both.0 both.1 (live.0 yes) ∙ c.other.view_is, λ same. live.1 (ap (λ (m : Memory). m.live) (c.self.view_is ∙ same ∙ sym c.other.view_is)))
