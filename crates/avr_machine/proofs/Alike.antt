-- States by their parts.
use Rattle.std.proofs.Common.{◌≡◌, refl, Bool, true, false}
use Rattle.std.specs.Bool.{Decides, beq}
use Rattle.avr_model.specs.State.{State, Memory}

pub state_is : (m n : State) → m.device ≡ n.device → m.pc ≡ n.pc → m.registers ≡ n.registers → m.sreg ≡ n.sreg → m.sp ≡ n.sp → m.is_open ≡ n.is_open → m.enables ≡ n.enables → m.memory ≡ n.memory → m.delay ≡ n.delay → m ≡ n
state_is m n device pc registers sreg sp is_open enables memory delay =
    λ i. record { device = device i; pc = pc i; registers = registers i; sreg = sreg i; sp = sp i; is_open = is_open i; enables = enables i; memory = memory i; delay = delay i }

pub memory_is : (m n : Memory) → m.below ≡ n.below → m.bytes ≡ n.bytes → m.live ≡ n.live → m ≡ n
memory_is m n below bytes live = λ i. record { below = below i; bytes = bytes i; live = live i }

pub same_bool : (a b : Bool) → Decides (beq a b) (a ≡ b)
same_bool true true = (λ e. refl, λ e. refl)
same_bool true false = (λ e. absurd (cc), λ e. absurd (cc))
same_bool false true = (λ e. absurd (cc), λ e. absurd (cc))
same_bool false false = (λ e. refl, λ e. refl)
