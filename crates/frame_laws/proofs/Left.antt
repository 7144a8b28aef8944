-- Suspended frames: memory that keeps them, and the needs above their bases.
use Rattle.std.proofs.Common.{◌≡◌, ◌≢◌, ℕ, ◌+◌, ◌-◌, ◌≤◌, List, [], ◌∷◌, ap, ◌∙◌, arith}
use Rattle.avr_model.specs.Devices.{ramend, back_of, device_of}
use Rattle.avr_model.specs.State.{Memory}
use Rattle.sp_domain.specs.Tags.{Origin}
use Rattle.abs_state.specs.Laws.{Keeps}
use Rattle.abs_state.proofs.AllLaws.{slots_follow}
use Rattle.node_keys.specs.declared.keys.InstKey.{InstKey}
use Rattle.node_keys.specs.declared.keys.EdgeKind.{EdgeKind}
use Rattle.node_keys.specs.declared.keys.Kind.TheVariants.{Root}
use Rattle.node_keys.specs.Keys.{offset_of}
use Rattle.local_rules.specs.declared.local.Node.{Node}
use Rattle.edge_rules.specs.Edges.{Enters, by_call, by_interrupt}
use Rattle.edge_rules.specs.Families.{RankedFamily, IsSoundFamily}
use Rattle.edge_rules.specs.Frames.{Frame, IsLeft, AreLeft}
use Rattle.local_rules.specs.Site.{Task}

pub not_root : {task : Task} {n : Node} {way : EdgeKind} {inst : InstKey} {back : ℕ} → Enters task n way inst back → inst.kind ≢ Root
not_root (by_call offset site faultless form member) = λ e. cc
not_root (by_interrupt offset v clears faultless form i delay enabled allowed clearable) = λ e. cc

module _ (task : Task) (f : RankedFamily) where
  -- the root's frame is the last
  pub root_base : (memory : Memory) (gs : List Frame) (inst : InstKey) (o : Origin) → AreLeft task f memory gs inst o → inst.kind ≡ Root → o.base ≡ ramend (device_of task.flash)
  root_base memory [] inst o l e = l.1
  root_base memory (g ∷ gs) inst o l e = absurd (not_root l.0.enters e)

  module _ (sound : IsSoundFamily task f) where
    -- the frames above a base, and the need of its instance, are within the bound
    pub within : (memory : Memory) (gs : List Frame) (inst : InstKey) (o : Origin) → AreLeft task f memory gs inst o → ramend (device_of task.flash) + f.need_of inst ≤ o.base + f.bound
    within memory [] inst o l = omega (arith, ap f.need_of l.0, l.1, sound.bounded)
    within memory (g ∷ gs) inst o l = omega (arith, l.0.need)

    pub base_inside : (memory : Memory) (gs : List Frame) (inst : InstKey) (o : Origin) → AreLeft task f memory gs inst o → o.base ≤ ramend (device_of task.flash)
    base_inside memory [] inst o l = omega (arith, l.1)
    base_inside memory (g ∷ gs) inst o l = omega (arith, base_inside memory gs g.node.key.inst g.origin l.1, l.0.place)

    module _ (old new : Memory) (floor : ℕ) (kept : Keeps old new floor) where
      is_left_kept : (g : Frame) (inst : InstKey) (o : Origin) → floor ≤ o.base → IsLeft task f old g inst o → IsLeft task f new g inst o
      is_left_kept g inst o le l =
          record {
            present = l.present;
            registers = l.registers;
            flags = l.flags;
            less = l.less;
            facts = l.facts;
            banks = l.banks;
            slots =
                slots_follow.kept g.origin old new floor g.node.state.slots kept (omega (arith, l.place, ap offset_of l.closed, (sound.formed g.node l.present).formed.count_slots)) l.slots;
            offset = l.offset;
            closed = l.closed;
            place = l.place;
            way = l.way;
            back = l.back;
            enters = l.enters;
            need = l.need;
            bytes = λ k lt. kept.bytes (o.base + back_of (device_of task.flash) - k) (omega (arith, le, lt)) (l.live k lt) ∙ l.bytes k lt;
            live = λ k lt. kept.live (o.base + back_of (device_of task.flash) - k) (omega (arith, le, lt)) (l.live k lt);
          }

      -- frames above the floor are kept
      pub left_kept : (gs : List Frame) (inst : InstKey) (o : Origin) → floor ≤ o.base → AreLeft task f old gs inst o → AreLeft task f new gs inst o
      left_kept [] inst o le l = l
      left_kept (g ∷ gs) inst o le l = (is_left_kept g inst o le l.0, left_kept gs g.node.key.inst g.origin (omega (arith, l.0.place)) l.1)
