-- Instructions whose successors are those of the plain rules, refined.
use Rattle.std.proofs.Common.{◌≡◌, refl, sym, subst, ℕ, Bool}
use Rattle.avr_model.specs.declared.device.Device.{Device}
use Rattle.avr_model.specs.declared.instruction.BinaryOp.{BinaryOp}
use Rattle.avr_model.specs.declared.instruction.BinaryOp.TheVariants as binary
use Rattle.avr_model.specs.declared.instruction.Instr.{Instr}
use Rattle.avr_model.specs.declared.instruction.Instr.TheVariants as i
use Rattle.avr_model.specs.declared.instruction.Pointer.{Pointer}
use Rattle.node_keys.specs.declared.keys.NodeKey.{NodeKey}
use Rattle.abs_state.specs.declared.state.AbsState.{AbsState}
use Rattle.local_rules.specs.Local.{plain_row, paired_row, refining}
use Rattle.local_rules.specs.Site.{Task, site_at}

pub others_refined : (device : Device) (task : Task) (scratch : Bool) (k : NodeKey) (s : AbsState) (instr : Instr)
    → ((op : BinaryOp) (d r : ℕ) → instr ≡ i.Binary op d r → ⊥) → ((p : Pointer) (r : ℕ) → instr ≡ i.St p r → ⊥)
    → ((n t : ℕ) → instr ≡ i.Brbs n t → ⊥) → ((n t : ℕ) → instr ≡ i.Brbc n t → ⊥) → ((r b : ℕ) → instr ≡ i.Sbrc r b → ⊥) → ((r b : ℕ) → instr ≡ i.Sbrs r b → ⊥)
    → paired_row task scratch (site_at device k s) instr ≡ refining task.flash instr s (plain_row task scratch (site_at device k s) instr)
others_refined device task scratch k s (i.Binary op d r) binary st brbs brbc sbrc sbrs = absurd (binary op d r refl)
others_refined device task scratch k s (i.St p r) binary st brbs brbc sbrc sbrs = absurd (st p r refl)
others_refined device task scratch k s (i.Brbs n t) binary st brbs brbc sbrc sbrs = absurd (brbs n t refl)
others_refined device task scratch k s (i.Brbc n t) binary st brbs brbc sbrc sbrs = absurd (brbc n t refl)
others_refined device task scratch k s (i.Sbrc r b) binary st brbs brbc sbrc sbrs = absurd (sbrc r b refl)
others_refined device task scratch k s (i.Sbrs r b) binary st brbs brbc sbrc sbrs = absurd (sbrs r b refl)
others_refined device task scratch k s _ binary st brbs brbc sbrc sbrs = refl

-- among instructions of two registers only `cpse` is a test
binary_same : (device : Device) (task : Task) (scratch : Bool) (k : NodeKey) (s : AbsState) (op : BinaryOp) (d r : ℕ) → (op ≡ binary.Cpse → ⊥)
    → paired_row task scratch (site_at device k s) (i.Binary op d r) ≡ refining task.flash (i.Binary op d r) s (plain_row task scratch (site_at device k s) (i.Binary op d r))
binary_same device task scratch k s binary.Cpse d r ne = absurd (ne refl)
binary_same device task scratch k s _ d r ne = refl

pub binary_refined : (device : Device) (task : Task) (scratch : Bool) (k : NodeKey) (s : AbsState) (instr : Instr) (op : BinaryOp) (d r : ℕ) → instr ≡ i.Binary op d r
    → (op ≡ binary.Cpse → ⊥) → paired_row task scratch (site_at device k s) instr ≡ refining task.flash instr s (plain_row task scratch (site_at device k s) instr)
binary_refined device task scratch k s instr op d r is ne =
    subst (λ (x : Instr). paired_row task scratch (site_at device k s) x ≡ refining task.flash x s (plain_row task scratch (site_at device k s) x)) (sym is) (binary_same device task scratch k s op d r ne)
