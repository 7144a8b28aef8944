-- Nodes without their facts on pairs and without what the device says of their values, as rows need and keep them. A row ends some
-- intervals before it writes.
use Rattle.std.proofs.Common.{◌≡◌, ◌+◌, ◌^◌, ◌<◌, ◌≤◌, ◌||◌, ap, Bool, true, false, List, arith}
use Rattle.avr_model.specs.declared.device.Device.{Device}
use Rattle.avr_model.proofs.AllLaws.{devices_are_alike}
use Rattle.avr_model.specs.Devices.{io_end, ramend, limit_of, depth_of, has_sph}
use Rattle.avr_model.specs.declared.assumption.Entry.{Entry}
use Rattle.avr_model.specs.Assumptions.{has_masks}
use Rattle.avr_model.specs.Masks.{reads_masks}
use Rattle.avr_model.specs.State.{State}
use Rattle.avr_model.specs.Vectors.{enable_count}
use Rattle.sp_domain.specs.Tags.{Origin, HasByteNumbers}
use Rattle.pair_domain.specs.Facts.{is_followed}
use Rattle.abs_state.specs.declared.state.AbsState.{AbsState}
use Rattle.abs_state.specs.Formed.{IsFormed, IsUntagged, TagsFit}
use Rattle.abs_state.specs.Banks.{IsStateOf}
use Rattle.abs_state.specs.Hulls.{IsInHulls}
use Rattle.abs_state.specs.Laws.{HoldsAt}
use Rattle.abs_state.specs.Stands.{Stands}
use Rattle.node_keys.specs.declared.keys.NodeKey.{NodeKey}
use Rattle.node_keys.specs.declared.keys.Kind.TheVariants.{Root}
use Rattle.node_keys.specs.Keys.{offset_of, is_root, PickFits}
use Rattle.node_keys.specs.Place.{AtNode}
use Rattle.local_rules.specs.Machine.{IsMachine, AreBanks}
use Rattle.local_rules.specs.Cover.{FormFits, IsKey, IsNodeIn, InFrameIn}

pub record IsBare (device : Device) (k : NodeKey) (s : AbsState) : Type 0 where
  pub word : k.pc < limit_of device
  pub small : offset_of k.sp ≤ depth_of device
  pub masks : k.masks < 2 ^ enable_count device
  pub fits : FormFits device k
  pub pick : PickFits k.pick
  pub formed : IsFormed s (offset_of k.sp)
  pub tags : TagsFit s
  pub carry_bytes : HasByteNumbers s.flags.carry
  pub untagged : k.inst.kind ≡ Root → IsUntagged s

pub record InBareFrame (may : Bool) (m : State) (o : Origin) (k : NodeKey) (s : AbsState) : Type 0 where
  pub machine : IsMachine m
  pub node : IsBare m.device k s
  pub place : AtNode may o.base m k
  pub stands : Stands o s m
  pub facts : HoldsAt s.facts m.registers m.sreg
  pub banks : AreBanks m.device o.registers
  pub root : k.inst.kind ≡ Root → o.base ≡ ramend m.device
  pub top : o.base ≤ ramend m.device
  pub base_word : o.base < 65536
  pub room : may ≡ true → offset_of k.sp + io_end m.device ≤ o.base
  -- without SPH the list is read with `masks`
  pub sees : has_sph m.device ≡ false → may ≡ true

-- a list of a device without SPH is read with `masks`
pub masked : (device : Device) (A : List Entry) → has_sph device ≡ false → reads_masks device A ≡ true
unfolding reads_masks
masked device A none = ap (λ (b : Bool). b || has_masks A) (devices_are_alike.reads device none)

pub bare : {device : Device} {followed : Bool} (k : NodeKey) (s : AbsState) → IsNodeIn device followed k s → IsBare device k s
bare k s h =
    record {
      word = h.word;
      small = h.small;
      masks = h.masks;
      fits = h.fits;
      pick = h.pick;
      formed = h.formed;
      tags = h.tags;
      carry_bytes = h.carry_bytes;
      untagged = h.untagged;
    }

pub bare_frame : {followed may : Bool} (m : State) (o : Origin) (k : NodeKey) (s : AbsState) → (has_sph m.device ≡ false → may ≡ true) → InFrameIn followed may m o k s
    → InBareFrame may m o k s
bare_frame m o k s sees h =
    record {
      machine = h.machine;
      node = bare k s h.node;
      place = h.place;
      stands = h.stands;
      facts = h.facts;
      banks = h.banks;
      root = h.root;
      top = h.top;
      base_word = omega (arith, h.top, devices_are_alike.most_bytes m.device, devices_are_alike.most_io m.device);
      room = h.room;
      sees = sees;
    }

-- with tags of the device and valid facts on pairs it is a node
pub node_of : {device : Device} {followed : Bool} (k : NodeKey) (s : AbsState) → IsBare device k s → IsStateOf device (is_root k.inst.kind) s
    → is_followed s.facts ≡ followed → IsInHulls s → IsNodeIn device followed k s
node_of k s h registers_of mode hulls =
    record {
      word = h.word;
      small = h.small;
      masks = h.masks;
      fits = h.fits;
      pick = h.pick;
      formed = h.formed;
      tags = h.tags;
      carry_bytes = h.carry_bytes;
      untagged = h.untagged;
      registers_of = registers_of;
      mode = mode;
      hulls = hulls;
    }

pub bare_key : {device : Device} (k : NodeKey) (s : AbsState) → IsBare device k s → IsKey device k
bare_key k s h = record { word = h.word; small = h.small; masks = h.masks; fits = h.fits; pick = h.pick }
